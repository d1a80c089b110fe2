use Rattle.std.proofs.Common.{◌≡◌, ◌++◌, take}
use Rattle.vale_syntax.specs.Canon.{rendered}
use Rattle.vale_syntax.specs.Layout.{each, mark, gap, lay_param}
use Rattle.vale_syntax.specs.View.{view_param}
use Rattle.vale_syntax.specs.declared.token.Sign.TheVariants.{Comma}
use Rattle.vale_printer.proofs.items.param_list.Given as goal

abbrev pub invariant-loop-x : goal.invariant-loop-x
invariant-loop-x l = l.text.items ≡ l.initial.text.items ++ rendered (each (λ x. mark Comma ++ gap ++ lay_param l.names (view_param x)) (take l.x-index l.more))
