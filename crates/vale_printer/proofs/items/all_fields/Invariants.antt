use Rattle.std.proofs.Common.{◌≡◌, ◌++◌, take}
use Rattle.vale_syntax.specs.Canon.{rendered}
use Rattle.vale_syntax.specs.Layout.{each, new_line, lay_field}
use Rattle.vale_syntax.specs.View.{view_field}
use Rattle.vale_printer.proofs.items.all_fields.Given as goal

abbrev pub invariant-loop-x : goal.invariant-loop-x
invariant-loop-x l = l.text.items ≡ l.initial.text.items ++ rendered (each (λ x. new_line 1 ++ lay_field l.names (view_field x)) (take l.x-index l.fields))
