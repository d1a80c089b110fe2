use Rattle.std.proofs.Common.{◌≡◌, drop}
use Rattle.std.specs.List.{list_all}
use Rattle.vale_code.specs.Sizes.{func_is_small}
use Rattle.vale_code.proofs.sizes.funcs_are_small.Given as goal

-- what is left decides
abbrev pub invariant-loop-func : goal.invariant-loop-func
invariant-loop-func l = list_all func_is_small (drop l.func-index l.funcs) ≡ list_all func_is_small l.funcs
