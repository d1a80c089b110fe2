use Rattle.std.proofs.Common.{◌≡◌, ◌++◌, take}
use Rattle.vale_syntax.specs.Canon.{rendered}
use Rattle.vale_syntax.specs.Layout.{each, new_line, lay_function}
use Rattle.vale_syntax.specs.View.{view_function}
use Rattle.vale_printer.proofs.items.all_methods.Given as goal

abbrev pub invariant-loop-x : goal.invariant-loop-x
invariant-loop-x l = l.text.items ≡ l.initial.text.items ++ rendered (each (λ x. new_line 1 ++ lay_function l.names 1 (view_function x)) (take l.x-index l.methods))
