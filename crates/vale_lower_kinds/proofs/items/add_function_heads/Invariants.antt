use Rattle.std.proofs.Common.{◌≡◌, map, drop}
use Rattle.std.specs.Prelude.{flat_map}
use Rattle.vale_core.specs.View.{view_function}
use Rattle.vale_model.specs.Kinds.{head_arrays, head_of}
use Rattle.vale_lower_kinds.specs.Added.{added}
use Rattle.vale_lower_kinds.specs.Held.{kinds_in}
use Rattle.vale_lower_kinds.proofs.items.add_function_heads.Given as goal

-- the kinds so far, with those of what is left
abbrev pub invariant-loop-function : goal.invariant-loop-function
invariant-loop-function l = added (kinds_in l.kinds) (flat_map (λ f. head_arrays (head_of f)) (map view_function (drop l.function-index l.functions))) ≡ added (kinds_in l.initial.kinds) (flat_map (λ f. head_arrays (head_of f)) (map view_function (l.functions)))
