use Rattle.std.proofs.Common.{◌≡◌, ◌++◌, take}
use Rattle.vale_syntax.specs.Canon.{rendered}
use Rattle.vale_syntax.specs.Layout.{each, mark, gap, named}
use Rattle.vale_syntax.specs.declared.token.Sign.TheVariants.{Comma}
use Rattle.vale_printer.proofs.types.name_list.Given as goal

abbrev pub invariant-loop-name : goal.invariant-loop-name
invariant-loop-name l = l.text.items ≡ l.initial.text.items ++ rendered (each (λ y. mark Comma ++ gap ++ named l.names y) (take l.name-index l.more))
