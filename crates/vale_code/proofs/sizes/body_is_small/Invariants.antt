use Rattle.std.proofs.Common.{◌≡◌, drop}
use Rattle.std.specs.List.{list_all}
use Rattle.vale_code.specs.Sizes.{instr_is_small}
use Rattle.vale_code.proofs.sizes.body_is_small.Given as goal

-- what is left decides
abbrev pub invariant-loop-instr : goal.invariant-loop-instr
invariant-loop-instr l = list_all instr_is_small (drop l.instr-index l.body) ≡ list_all instr_is_small l.body
