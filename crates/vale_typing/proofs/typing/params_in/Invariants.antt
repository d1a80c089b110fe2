use Rattle.std.proofs.Common.{◌≡◌, [], drop, map}
use Rattle.vale_rules_spec.specs.Types as y
use Rattle.vale_rules_spec.specs.Typing.{with_params}
use Rattle.vale_syntax.specs.View.{view_param}
use Rattle.vale_seen.specs.Scope.{framed}
use Rattle.vale_typed_parts.specs.Walk.{env_at}
use Rattle.vale_typing.proofs.typing.params_in.Given as goal

-- the parameters that are left add to what is there what all of them are
abbrev pub invariant-loop-param : goal.invariant-loop-param
invariant-loop-param l = (gives : y.Ty) → with_params (map view_param (drop l.param-index l.params)) (env_at gives 0 (framed l.locals.items [])) ≡ with_params (map view_param l.params) (env_at gives 0 [])
