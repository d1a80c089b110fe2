-- A loop over parts, each of which may depend on those before it.
use Rattle.std.proofs.Common.{◌≡◌, ℕ, ◌+◌, ◌<◌, ◌≤◌, List, [], ◌∷◌, ◌++◌, length, get_or, drop, map, ap, sym, ◌∙◌, refl}
use Rattle.std.specs.Prelude.{Result, Ok, Err}
use Rattle.std.proofs.lemmas.List.{drop_more, drop_all, map-append}
use Rattle.vale_base.specs.declared.fault.Fail.{Fail}
use Rattle.vale_base.specs.declared.fault.Fail.TheVariants.{Memory, Is}
use Rattle.vale_syntax.specs.declared.fault.Fault.{Fault}
use Rattle.vale_rules_spec.specs.Judged.{Judged, fine, faulty, first, both, scoped, plain, Gives}
use Rattle.vale_syntax.specs.View.{listed}
use Rattle.vale_rules_spec.proofs.JudgedLaws.{◌>>=◌}

-- what a loop gives that has these parts and meets this answer for those that are left
abbrev pub with_parts : {A L : Type 0} → (A → L → L) → List A → Result L Fault → Result L Fault
with_parts more done left = left >>= λ rest. Ok (listed more done rest)

pub no_parts : {A L : Type 0} (more : A → L → L) (left : Result L Fault) → with_parts more [] left ≡ left
no_parts more (Ok rest) = refl
no_parts more (Err f) = refl

pub listed_more : {A L : Type 0} (more : A → L → L) (done : List A) (a : A) (end : L) → listed more (done ++ a ∷ []) end ≡ listed more done (more a end)
listed_more more [] a end = refl
listed_more more (b ∷ done) a end = ap (more b) (listed_more more done a end)

pub listed_all : {A : Type 0} (xs : List A) → listed ◌∷◌ xs [] ≡ xs
listed_all [] = refl
listed_all (x ∷ xs) = ap (λ ys. x ∷ ys) (listed_all xs)

-- one part more
pub one_part : {A L : Type 0} (more : A → L → L) (done : List A) (a : A) (left : Result L Fault) → with_parts more (done ++ a ∷ []) left ≡ with_parts more done (left >>= λ rest. Ok (more a rest))
one_part more done a (Ok rest) = ap Ok (listed_more more done a rest)
one_part more done a (Err f) = refl

-- ---- the first of the parts that are left

pub first_pair : {A B C : Type 0} (make : A × B → C) (j : Judged A) (k : Judged B) → first (plain make (both j k)) ≡ (first j >>= λ a. first k >>= λ b. Ok (make (a, b)))
first_pair make (fine a) (fine b) = refl
first_pair make (fine a) (faulty g gs) = refl
first_pair make (faulty f fs) k = refl

pub first_after : {A B C : Type 0} (make : A × B → C) (j : Judged A) (k : A → Judged B) → first (plain make (scoped j k)) ≡ (first j >>= λ a. first (k a) >>= λ b. Ok (make (a, b)))
first_after make (fine a) k = first_pair make (fine a) (k a)
first_after make (faulty f fs) k = refl

-- where the first part has no fault, the answer is that of the others
module _ {A B C : Type 0} (make : A × B → C) (j : Judged A) (a : A) where
  pub pair_passes : (k : Judged B) → first j ≡ Ok a → first (plain make (both j k)) ≡ (first k >>= λ b. Ok (make (a, b)))
  pair_passes k e = rw (first_pair make j k, e) refl

  pub after_passes : (k : A → Judged B) → first j ≡ Ok a → first (plain make (scoped j k)) ≡ (first (k a) >>= λ b. Ok (make (a, b)))
  after_passes k e = rw (first_after make j k, e) refl

module _ {X A L : Type 0} (more : A → L → L) (done : List A) (xs : List X) (i : ℕ) (d x : X) (whole : Result L Fault) (rest : List X → Result L Fault) where
  at_part : i < length xs → x ≡ get_or xs i d → with_parts more done (rest (drop i xs)) ≡ whole → with_parts more done (rest (x ∷ drop (i + 1) xs)) ≡ whole
  at_part l is h = sym (ap (λ (ys : List X). with_parts more done (rest ys)) (drop_more xs i d l ∙ ap (λ (y : X). y ∷ drop (i + 1) xs) (sym is))) ∙ h

  -- the part has no fault, and `left` is the answer to those after it
  pub part_passes : (left : Result L Fault) (a : A) → i < length xs → x ≡ get_or xs i d → rest (x ∷ drop (i + 1) xs) ≡ (left >>= λ b. Ok (more a b)) → with_parts more done (rest (drop i xs)) ≡ whole → with_parts more (done ++ a ∷ []) left ≡ whole
  part_passes left a l is e h = one_part more done a left ∙ ap (with_parts more done) (sym e) ∙ at_part l is h

  -- the part has a fault, which is the first of all
  pub part_fails : {Y : Type 0} (view : Y → L) (fail : Fail Fault) → i < length xs → x ≡ get_or xs i d → Gives view (Err fail) (rest (x ∷ drop (i + 1) xs)) → with_parts more done (rest (drop i xs)) ≡ whole → Gives view (Err fail) whole
  part_fails view Memory l is fails h = tt {0}
  part_fails view (Is f) l is fails h = sym (at_part l is h) ∙ ap (with_parts more done) fails

-- no part is left
module _ {X A L : Type 0} (more : A → L → L) (done : List A) (xs : List X) (i : ℕ) (whole : Result L Fault) (rest : List X → Result L Fault) where
  pub parts_end : length xs ≤ i → with_parts more done (rest (drop i xs)) ≡ whole → whole ≡ with_parts more done (rest [])
  parts_end l h = sym h ∙ ap (λ (ys : List X). with_parts more done (rest ys)) (drop_all i xs l)

-- the same of a list that is seen part by part
module _ {X Z A L : Type 0} (more : A → L → L) (seen : Z → A) (done : List Z) (xs : List X) (i : ℕ) (d x : X) (whole : Result L Fault) (rest : List X → Result L Fault) where
  pub seen_passes : (left : Result L Fault) (z : Z) → i < length xs → x ≡ get_or xs i d → rest (x ∷ drop (i + 1) xs) ≡ (left >>= λ b. Ok (more (seen z) b)) → with_parts more (map seen done) (rest (drop i xs)) ≡ whole → with_parts more (map seen (done ++ z ∷ [])) left ≡ whole
  seen_passes left z l is e h = ap (λ (bs : List A). with_parts more bs left) (map-append seen done (z ∷ [])) ∙ part_passes more (map seen done) xs i d x whole rest left (seen z) l is e h
