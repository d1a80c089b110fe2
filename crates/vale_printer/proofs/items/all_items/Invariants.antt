use Rattle.std.proofs.Common.{◌≡◌, ◌++◌, take}
use Rattle.vale_syntax.specs.Canon.{rendered}
use Rattle.vale_syntax.specs.Layout.{each, new_line, lay_item}
use Rattle.vale_syntax.specs.View.{view_item}
use Rattle.vale_printer.proofs.items.all_items.Given as goal

abbrev pub invariant-loop-x : goal.invariant-loop-x
invariant-loop-x l = l.text.items ≡ l.initial.text.items ++ rendered (each (λ x. lay_item l.names (view_item x) ++ new_line 0) (take l.x-index l.items))
