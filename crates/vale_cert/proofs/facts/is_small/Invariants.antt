use Rattle.std.proofs.Common.{◌≡◌, drop}
use Rattle.std.specs.List.{list_all}
use Rattle.vale_cert.specs.Small.{facts_are_small}
use Rattle.vale_cert.proofs.facts.is_small.Given as goal

-- what is left decides
abbrev pub invariant-loop-facts : goal.invariant-loop-facts
invariant-loop-facts l = list_all facts_are_small (drop l.facts-index l.funcs) ≡ list_all facts_are_small l.funcs
