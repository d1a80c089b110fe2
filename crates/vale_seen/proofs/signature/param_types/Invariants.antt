use Rattle.std.proofs.Common.{◌≡◌, ◌++◌, map, drop}
use Rattle.vale_syntax.specs.View.{view_param}
use Rattle.vale_rules_spec.specs.TypeRules.{param_types}
use Rattle.vale_core.specs.View.{view_ty}
use Rattle.vale_seen.proofs.signature.param_types.Given as goal

-- with those of the parameters that are left they are those of all
abbrev pub invariant-loop-param : goal.invariant-loop-param
invariant-loop-param l = (map view_ty l.types.items ++ param_types (map view_param (drop l.param-index l.params))) ≡ param_types (map view_param l.params)
