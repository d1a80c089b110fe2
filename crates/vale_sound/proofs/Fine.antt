-- What the parts of a node are where it has no fault, and that its row is kept then.
use Rattle.std.proofs.Common.{◌≡◌, ℕ, Bool, true, false, [], ◌∷◌, Option, Some, None, refl, ap, subst}
use Rattle.vale_base.specs.declared.spot.Spot.{Spot}
use Rattle.vale_rules_spec.specs.Judged.{Rules, broken, ◌⇒◌, fault_of, Judged, fine, faulty, unless, both, node, leaf, plain, scoped}

-- ---- rows

-- the first rule is kept, and so are those after it
pub rule_kept : (code : ℕ) (b : Bool) (rules : Rules) → broken ((code, b) ∷ rules) ≡ None → (b ≡ true) × (broken rules ≡ None)
rule_kept code true rules e = (refl, e)
rule_kept code false rules e = absurd (cc)

pub one_rule : (code : ℕ) (b : Bool) → broken ((code, b) ∷ []) ≡ None → b ≡ true
one_rule code b e = (rule_kept code b [] e).0

-- a rule that is asked only where another holds
pub asked : (a b : Bool) → (a ⇒ b) ≡ true → a ≡ true → b ≡ true
asked true b e h = e
asked false b e h = absurd (cc)

-- ---- nodes

unless_none : {A : Type 0} (at : Spot) (code : Option ℕ) (a b : A) → unless (fault_of at code) a ≡ fine b → (code ≡ None) × (a ≡ b)
unless_none at None a b e = let same : a ≡ b = cc in (refl, same)
unless_none at (Some code) a b e = absurd (cc)

pub of_leaf : {B : Type 0} (P : B → Type 0) (at : Spot) (rules : Rules) (b c : B) → leaf at rules b ≡ fine c → (broken rules ≡ None → P b) → P c
of_leaf P at rules b c e h = let x = unless_none at (broken rules) b c e in subst P x.1 (h x.0)

pub of_node : {A B : Type 0} (P : B → Type 0) (at : Spot) (rules : A → Rules) (make : A → B) (j : Judged A) (b : B) → node at rules make j ≡ fine b → ((a : A) → j ≡ fine a → broken (rules a) ≡ None → P (make a)) → P b
of_node P at rules make (fine a) b e h = of_leaf P at (rules a) (make a) b e (h a refl)
of_node P at rules make (faulty f fs) b e h = absurd (cc)

pub of_plain : {A B : Type 0} (P : B → Type 0) (make : A → B) (j : Judged A) (b : B) → plain make j ≡ fine b → ((a : A) → j ≡ fine a → P (make a)) → P b
of_plain P make (fine a) b e h = let same : make a ≡ b = cc in subst P same (h a refl)
of_plain P make (faulty f fs) b e h = absurd (cc)

pub of_fine : {B : Type 0} (P : B → Type 0) (a b : B) → fine a ≡ fine b → P a → P b
of_fine P a b e h = let same : a ≡ b = cc in subst P same h

-- ---- parts one after another

pub of_both : {A B : Type 0} (j : Judged A) (k : Judged B) (v : A × B) → both j k ≡ fine v → (j ≡ fine v.0) × (k ≡ fine v.1)
of_both (fine a) (fine b) v e = let same : (a, b) ≡ v = cc in (ap (λ p. fine p.0) same, ap (λ p. fine p.1) same)
of_both (fine a) (faulty g gs) v e = absurd (cc)
of_both (faulty f fs) k v e = absurd (cc)

pub of_scoped : {A B : Type 0} (j : Judged A) (k : A → Judged B) (v : A × B) → scoped j k ≡ fine v → (j ≡ fine v.0) × (k v.0 ≡ fine v.1)
of_scoped (fine a) k v e =
    let h = of_both (fine a) (k a) v e in
    let same : a ≡ v.0 = cc in
    (h.0, subst (λ x. k x ≡ fine v.1) same h.1)
of_scoped (faulty f fs) k v e = absurd (cc)
