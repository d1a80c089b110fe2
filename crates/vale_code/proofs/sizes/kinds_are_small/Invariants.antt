use Rattle.std.proofs.Common.{◌≡◌, drop}
use Rattle.std.specs.List.{list_all}
use Rattle.vale_code.specs.Sizes.{kind_is_small}
use Rattle.vale_code.proofs.sizes.kinds_are_small.Given as goal

-- what is left decides
abbrev pub invariant-loop-kind : goal.invariant-loop-kind
invariant-loop-kind l = list_all kind_is_small (drop l.kind-index l.kinds) ≡ list_all kind_is_small l.kinds
