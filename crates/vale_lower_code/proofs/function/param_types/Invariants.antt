use Rattle.std.proofs.Common.{◌≡◌, map, take}
use Rattle.vale_rules_spec.specs.Declarations.{param_type}
use Rattle.vale_rules_spec.specs.Types.{type_of}
use Rattle.vale_syntax.specs.View.{view_param}
use Rattle.vale_lowering.specs.Scopes.{code_type}
use Rattle.vale_lower_code.proofs.function.param_types.Given as goal

abbrev pub invariant-loop-param : goal.invariant-loop-param
invariant-loop-param l = l.types ≡ map (λ q. code_type (type_of (param_type q))) (map view_param (take l.param-index l.params))
