-- The locals of a destructuring, and what runs in their scope.
use Rattle.std.specs.Prelude.{ℕ, List}
use Rattle.vale_base.specs.declared.spot.Spot.{Spot}
use Rattle.vale_code.specs.declared.instr.Instr.{Instr}
use Rattle.vale_lowering_objects.specs.Scopes.{Gives, Scope, Gone, After}
use Rattle.vale_lowering_objects.specs.Lowered.{locals_code, locals_after}
use Rattle.vale_lower_flow.specs.Flow.{Going, emitted}

abbrev pub Rest : Type 0
Rest = ℕ → ℕ → Scope → Gone → List Instr

abbrev pub Leaves : Type 0
Leaves = ℕ → Scope → Gone → After

module _ (end : Spot) (after : Leaves) (rest : Rest) where
  unfoldable pub located : List ℕ → List Gives → ℕ → Scope → Going → Going
  located ns qs h s = emitted (λ place g. locals_code ns qs end place h s g after rest) (λ g. locals_after ns qs h s g after)

  unfoldable pub at_rest : ℕ → Scope → Going → Going
  at_rest h s = emitted (λ place g. rest place h s g) (λ g. after h s g)
