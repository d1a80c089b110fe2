use Rattle.std.proofs.Common.{◌≡◌, drop}
use Rattle.std.specs.List.{list_all}
use Rattle.vale_cert.specs.Types.{marked}
use Rattle.vale_cert.specs.Shape.{fact_is_lawful}
use Rattle.vale_shape.proofs.funcs.facts_are_lawful.Given as goal

-- what is left decides
abbrev pub invariant-loop-fact : goal.invariant-loop-fact
invariant-loop-fact l = list_all (fact_is_lawful l.code (marked l.marks)) (drop l.fact-index l.regs) ≡ list_all (fact_is_lawful l.code (marked l.marks)) l.regs
