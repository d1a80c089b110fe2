-- The first fault of a part is the first that a walk in post-order meets; and what the answers of a phase say.
use Rattle.std.proofs.Common.{◌≡◌, ℕ, List, [], ◌∷◌, ◌++◌, refl, Option, Some, None}
use Rattle.std.specs.Prelude.{Result, Ok, Err, IfOk}
use Rattle.vale_base.specs.declared.spot.Spot.{Spot}
use Rattle.vale_syntax.specs.declared.fault.Fault.{Fault}
use Rattle.vale_base.specs.declared.fault.Fail.{Fail}
use Rattle.vale_base.specs.declared.fault.Fail.TheVariants.{Memory, Is}
use Rattle.vale_base.specs.Faults.{IfFault, IsValueUnlessMemory, IsFaultUnlessMemory}
use Rattle.vale_rules_spec.specs.Judged.{stopped, own, Rules, broken, fault_of, Judged, fine, faulty, unless, both, node, leaf, plain, scoped, first, IsFine, IsFirstFault, Gives}

-- ---- the walk

-- what a node becomes where its row is kept
abbrev pub meets : {B : Type 0} → Spot → Option ℕ → B → Result B Fault
meets at None b = Ok b
meets at (Some code) b = Err (record { code = code; at = at })

infixl 10 ◌>>=◌
abbrev pub ◌>>=◌ : {A B : Type 0} → Result A Fault → (A → Result B Fault) → Result B Fault
(Ok a) >>= f = f a
(Err e) >>= f = Err e

pub first_own : {B : Type 0} (at : Spot) (code : Option ℕ) (b : B) → first (unless (fault_of at code) b) ≡ meets at code b
first_own at None b = refl
first_own at (Some code) b = refl

pub first_leaf : {B : Type 0} (at : Spot) (rules : Rules) (b : B) → first (leaf at rules b) ≡ meets at (broken rules) b
first_leaf at rules b = first_own at (broken rules) b

pub first_node : {A B : Type 0} (at : Spot) (rules : A → Rules) (make : A → B) (j : Judged A) → first (node at rules make j) ≡ (first j >>= λ a. meets at (broken (rules a)) (make a))
first_node at rules make (fine a) = first_own at (broken (rules a)) (make a)
first_node at rules make (faulty f fs) = refl

pub first_plain : {A B : Type 0} (make : A → B) (j : Judged A) → first (plain make j) ≡ (first j >>= λ a. Ok (make a))
first_plain make (fine a) = refl
first_plain make (faulty f fs) = refl

pub first_both : {A B : Type 0} (j : Judged A) (k : Judged B) → first (both j k) ≡ (first j >>= λ a. first k >>= λ b. Ok (a, b))
first_both (fine a) (fine b) = refl
first_both (fine a) (faulty g gs) = refl
first_both (faulty f fs) k = refl

pub first_scoped : {A B : Type 0} (j : Judged A) (k : A → Judged B) → first (scoped j k) ≡ (first j >>= λ a. first (k a) >>= λ b. Ok (a, b))
first_scoped (fine a) k = first_both (fine a) (k a)
first_scoped (faulty f fs) k = refl

-- ---- a phase's four clauses, from what it gives

pub value_is_fine : {X A : Type 0} (view : X → A) (j : Judged A) (r : Result X (Fail Fault)) → Gives view r (first j) → IfOk r (λ x. IsFine j (view x))
value_is_fine view (fine a) (Ok x) e = cc
value_is_fine view (faulty f fs) (Ok x) e = cc
value_is_fine view j (Err e) h = tt

pub fault_is_first : {X A : Type 0} (view : X → A) (j : Judged A) (r : Result X (Fail Fault)) → Gives view r (first j) → IfFault r (λ f. IsFirstFault j f)
fault_is_first view j (Ok x) e = tt
fault_is_first view j (Err Memory) e = tt
fault_is_first view (fine a) (Err (Is f)) e = cc
fault_is_first view (faulty g gs) (Err (Is f)) e = cc

pub what_is_fine_is_given : {X A : Type 0} (view : X → A) (j : Judged A) (r : Result X (Fail Fault)) → Gives view r (first j) → (a : A) → IsFine j a → IsValueUnlessMemory r (λ x. view x ≡ a)
what_is_fine_is_given view (fine b) (Ok x) e a h = cc
what_is_fine_is_given view (faulty f fs) (Ok x) e a h = cc
what_is_fine_is_given view j (Err Memory) e a h = tt
what_is_fine_is_given view (fine b) (Err (Is f)) e a h = cc
what_is_fine_is_given view (faulty g gs) (Err (Is f)) e a h = cc

pub first_fault_is_given : {X A : Type 0} (view : X → A) (j : Judged A) (r : Result X (Fail Fault)) → Gives view r (first j) → (f : Fault) → IsFirstFault j f → IsFaultUnlessMemory r (λ g. g ≡ f)
first_fault_is_given view (fine b) (Ok x) e f h = cc
first_fault_is_given view (faulty g gs) (Ok x) e f h = cc
first_fault_is_given view j (Err Memory) e f h = tt
first_fault_is_given view (fine b) (Err (Is g)) e f h = cc
first_fault_is_given view (faulty k ks) (Err (Is g)) e f h = cc

-- ---- parts from which nothing but faults comes up

pub first_unless : {A : Type 0} (fs : List Fault) (a : A) → first (unless fs a) ≡ stopped fs a
first_unless [] a = refl
first_unless (f ∷ fs) a = refl

pub stopped_code : {A : Type 0} (at : Spot) (code : Option ℕ) (a : A) → stopped (fault_of at code) a ≡ meets at code a
stopped_code at None a = refl
stopped_code at (Some code) a = refl

pub stopped_own : {A : Type 0} (at : Spot) (rules : Rules) (a : A) → stopped (own at rules) a ≡ meets at (broken rules) a
stopped_own at rules a = stopped_code at (broken rules) a

pub stopped_then : {A : Type 0} (fs gs : List Fault) (a : A) → stopped (fs ++ gs) a ≡ (stopped fs a >>= λ a. stopped gs a)
stopped_then [] gs a = refl
stopped_then (f ∷ fs) gs a = refl

-- a walk that found no fault in the parts before
pub stopped_after : {A : Type 0} (fs gs : List Fault) (a : A) (r : Result A Fault) → stopped fs a ≡ Ok a → r ≡ stopped gs a → r ≡ stopped (fs ++ gs) a
stopped_after [] gs a r e h = h
stopped_after (f ∷ fs) gs a r e h = cc
