use Rattle.std.proofs.Common.{◌≡◌, ◌++◌, take}
use Rattle.vale_syntax.specs.Canon.{rendered}
use Rattle.vale_syntax.specs.Layout.{each, new_line, mark, lay_head}
use Rattle.vale_syntax.specs.View.{view_head}
use Rattle.vale_syntax.specs.declared.token.Sign.TheVariants.{Semicolon}
use Rattle.vale_printer.proofs.items.all_heads.Given as goal

abbrev pub invariant-loop-x : goal.invariant-loop-x
invariant-loop-x l = l.text.items ≡ l.initial.text.items ++ rendered (each (λ x. new_line 1 ++ (lay_head l.names (view_head x) ++ mark Semicolon)) (take l.x-index l.heads))
