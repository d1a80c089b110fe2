-- A row is asked rule by rule; a list of parts, part by part.
use Rattle.std.proofs.Common.{◌≡◌, ℕ, List, [], ◌∷◌, refl, ◌∙◌}
use Rattle.std.specs.Prelude.{Bool, true, false, Ok, Err}
use Rattle.vale_base.specs.declared.spot.Spot.{Spot}
use Rattle.vale_syntax.specs.declared.fault.Fault.{Fault}
use Rattle.vale_rules_spec.specs.Judged.{Rules, own, stopped, one_by_one}
use Rattle.vale_rules_spec.proofs.JudgedLaws.{◌>>=◌, stopped_then}

pub rule_then : {A : Type 0} (at : Spot) (code : ℕ) (holds : Bool) (rules : Rules) (a : A) → stopped (own at ((code, holds) ∷ rules)) a ≡ (stopped (own at ((code, holds) ∷ [])) a >>= λ a. stopped (own at rules) a)
rule_then at code true rules a = refl
rule_then at code false rules a = refl

-- where a part has no fault the parts after it decide
pub next_part : {X A : Type 0} (judge : List X → X → List Fault) (before : List X) (x : X) (xs : List X) (a : A) → stopped (judge before x) a ≡ Ok a → stopped (one_by_one judge before (x ∷ xs)) a ≡ stopped (one_by_one judge (x ∷ before) xs) a
next_part judge before x xs a fine = stopped_then (judge before x) (one_by_one judge (x ∷ before) xs) a ∙ (rw fine refl)

-- where a part has a fault it is the answer
pub faulty_part : {X A : Type 0} (judge : List X → X → List Fault) (before : List X) (x : X) (xs : List X) (a : A) (f : Fault) → stopped (judge before x) a ≡ Err f → stopped (one_by_one judge before (x ∷ xs)) a ≡ Err f
faulty_part judge before x xs a f faulty = stopped_then (judge before x) (one_by_one judge (x ∷ before) xs) a ∙ (rw faulty refl)
