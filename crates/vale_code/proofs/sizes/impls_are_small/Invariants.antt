use Rattle.std.proofs.Common.{◌≡◌, drop}
use Rattle.std.specs.List.{list_all}
use Rattle.vale_code.specs.Sizes.{impl_is_small}
use Rattle.vale_code.proofs.sizes.impls_are_small.Given as goal

-- what is left decides
abbrev pub invariant-loop-item : goal.invariant-loop-item
invariant-loop-item l = list_all impl_is_small (drop l.item-index l.impls) ≡ list_all impl_is_small l.impls
