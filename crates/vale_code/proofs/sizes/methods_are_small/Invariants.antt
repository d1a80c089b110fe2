use Rattle.std.proofs.Common.{◌≡◌, drop}
use Rattle.std.specs.List.{list_all}
use Rattle.vale_code.specs.Sizes.{method_is_small}
use Rattle.vale_code.proofs.sizes.methods_are_small.Given as goal

-- what is left decides
abbrev pub invariant-loop-method : goal.invariant-loop-method
invariant-loop-method l = list_all method_is_small (drop l.method-index l.methods) ≡ list_all method_is_small l.methods
