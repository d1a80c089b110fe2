-- The first fault of a node, once its part is known.
use Rattle.std.proofs.Common.{◌≡◌, sym, ap, ◌∙◌}
use Rattle.std.specs.Prelude.{Ok}
use Rattle.vale_base.specs.declared.spot.Spot.{Spot}
use Rattle.vale_rules_spec.specs.Judged.{Judged, Rules, broken, first, leaf, node}
use Rattle.vale_rules_spec.proofs.JudgedLaws.{◌>>=◌, meets, first_leaf, first_node}

pub node_over : {A B : Type 0} (at : Spot) (rules : A → Rules) (make : A → B) (j : Judged A) (a : A) → first j ≡ Ok a → first (leaf at (rules a) (make a)) ≡ first (node at rules make j)
node_over at rules make j a e =
    first_leaf at (rules a) (make a) ∙ sym (first_node at rules make j ∙ ap (λ z. z >>= λ b. meets at (broken (rules b)) (make b)) e)
