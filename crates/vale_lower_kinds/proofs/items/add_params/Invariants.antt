use Rattle.std.proofs.Common.{◌≡◌, map, drop}
use Rattle.std.specs.Prelude.{flat_map}
use Rattle.vale_syntax.specs.View.{view_param}
use Rattle.vale_rules_spec.specs.Types.{type_of}
use Rattle.vale_rules_spec.specs.Declarations.{param_type}
use Rattle.vale_model.specs.Kinds.{arrays_in}
use Rattle.vale_lower_kinds.specs.Added.{added}
use Rattle.vale_lower_kinds.specs.Held.{kinds_in}
use Rattle.vale_lower_kinds.proofs.items.add_params.Given as goal

-- the kinds so far, with those of what is left
abbrev pub invariant-loop-param : goal.invariant-loop-param
invariant-loop-param l = added (kinds_in l.kinds) (flat_map (λ p. arrays_in (type_of (param_type p))) (map view_param (drop l.param-index l.params))) ≡ added (kinds_in l.initial.kinds) (flat_map (λ p. arrays_in (type_of (param_type p))) (map view_param (l.params)))
