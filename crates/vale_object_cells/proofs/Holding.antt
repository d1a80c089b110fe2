-- What is read of registers, and what is written.
use Rattle.std.proofs.Common.{◌≡◌, ◌≢◌, ℕ, zero, suc, ◌<◌, ℤ, List, [], ◌∷◌, length, get_or, Option, Some, None, Bool, refl, sym, ap, ◌∙◌, subst, arith}
use Rattle.std.specs.Prelude.{slice_set}
use Rattle.vale_heap.specs.declared.body.Cell.{Cell}
use Rattle.vale_heap.specs.declared.body.Cell.TheVariants.{Int, Truth, Own, Ref, Iso}
use Rattle.vale_heap.specs.declared.body.Place.{Place}
use Rattle.vale_object_cells.specs.Cells.{cell_of, cell_in, cells_in, held, place_of, place_in, HoldsInt, HoldsTruth, HoldsPlace, HoldsCell, IsShaped}
use Rattle.vale_object_cells.specs.declared.register.Register.{Register}
use Rattle.vale_object_cells.specs.declared.register.Shape.{Shape}
use Rattle.vale_object_cells.specs.declared.register.Shape.TheVariants as shape

-- a register that holds something is one of them
pub within : (t : ℕ → List ℕ) (rs : List Register) (r : ℕ) (c : Cell) → held (cells_in t rs) r ≡ Some c → r < length rs
within t [] r c e = absurd (let x : ⊥ = cc in x)
within t (q ∷ qs) zero c e = omega arith
within t (q ∷ qs) (suc r) c e = let h = within (λ i. t (suc i)) qs r c e in omega (arith, h)

pub held_within : (t : ℕ → List ℕ) (rs : List Register) (r : ℕ) (d : Register) → r < length rs → held (cells_in t rs) r ≡ cell_in (get_or rs r d) (t r)
held_within t [] r d lt = absurd (omega arith)
held_within t (q ∷ qs) zero d lt = refl
held_within t (q ∷ qs) (suc r) d lt = held_within (λ i. t (suc i)) qs r d (omega arith)

number_of : (s : Shape) (b : Bool) (n : ℤ) (p : Place) (x y : List ℕ) (z : ℤ) → cell_of s b n p x ≡ Some (Int z) → cell_of s b n p y ≡ Some (Int n)
number_of shape.Int b n p x y z e = refl
number_of shape.Empty b n p x y z e = absurd (let w : ⊥ = cc in w)
number_of shape.Truth b n p x y z e = absurd (let w : ⊥ = cc in w)
number_of shape.Text b n p x y z e = absurd (let w : ⊥ = cc in w)
number_of shape.Own b n p x y z e = absurd (let w : ⊥ = cc in w)
number_of shape.Ref b n p x y z e = absurd (let w : ⊥ = cc in w)
number_of shape.Iso b n p x y z e = absurd (let w : ⊥ = cc in w)

truth_of : (s : Shape) (b : Bool) (n : ℤ) (p : Place) (x y : List ℕ) (c : Bool) → cell_of s b n p x ≡ Some (Truth c) → cell_of s b n p y ≡ Some (Truth b)
truth_of shape.Truth b n p x y c e = refl
truth_of shape.Empty b n p x y c e = absurd (let w : ⊥ = cc in w)
truth_of shape.Int b n p x y c e = absurd (let w : ⊥ = cc in w)
truth_of shape.Text b n p x y c e = absurd (let w : ⊥ = cc in w)
truth_of shape.Own b n p x y c e = absurd (let w : ⊥ = cc in w)
truth_of shape.Ref b n p x y c e = absurd (let w : ⊥ = cc in w)
truth_of shape.Iso b n p x y c e = absurd (let w : ⊥ = cc in w)

leads_of : (s : Shape) (b : Bool) (n : ℤ) (p : Place) (x y : List ℕ) (q : Place) → place_in (cell_of s b n p x) ≡ Some q → place_in (cell_of s b n p y) ≡ Some p
leads_of shape.Own b n p x y q e = refl
leads_of shape.Ref b n p x y q e = refl
leads_of shape.Iso b n p x y q e = refl
leads_of shape.Empty b n p x y q e = absurd (let w : ⊥ = cc in w)
leads_of shape.Int b n p x y q e = absurd (let w : ⊥ = cc in w)
leads_of shape.Truth b n p x y q e = absurd (let w : ⊥ = cc in w)
leads_of shape.Text b n p x y q e = absurd (let w : ⊥ = cc in w)

-- a cell that leads somewhere is there
leading : (o : Option Cell) (p : Place) → place_in o ≡ Some p → (c : Cell) × (o ≡ Some c)
leading None p e = absurd (let w : ⊥ = cc in w)
leading (Some c) p e = (c, refl)

pub int_within : (rs : List Register) (r : ℕ) → HoldsInt rs r → r < length rs
int_within rs r h = within h.0 rs r (Int h.1) h.2

pub truth_within : (rs : List Register) (r : ℕ) → HoldsTruth rs r → r < length rs
truth_within rs r h = within h.0 rs r (Truth h.1) h.2

pub cell_within : (rs : List Register) (r : ℕ) → HoldsCell rs r → r < length rs
cell_within rs r h = within h.0 rs r h.1 h.2

pub place_within : (rs : List Register) (r : ℕ) → HoldsPlace rs r → r < length rs
place_within rs r h = let c = leading (held (cells_in h.0 rs) r) h.1 h.2 in within h.0 rs r c.0 c.1

pub int_is : (rs : List Register) (r : ℕ) (d : Register) → HoldsInt rs r → (t : ℕ → List ℕ) → held (cells_in t rs) r ≡ Some (Int (get_or rs r d).number)
int_is rs r d h t =
    let c : Register = get_or rs r d in
    let lt = int_within rs r h in
    held_within t rs r d lt ∙ number_of c.shape c.truth c.number (place_of c) (h.0 r) (t r) h.1 (sym (held_within h.0 rs r d lt) ∙ h.2)

pub truth_is : (rs : List Register) (r : ℕ) (d : Register) → HoldsTruth rs r → (t : ℕ → List ℕ) → held (cells_in t rs) r ≡ Some (Truth (get_or rs r d).truth)
truth_is rs r d h t =
    let c : Register = get_or rs r d in
    let lt = truth_within rs r h in
    held_within t rs r d lt ∙ truth_of c.shape c.truth c.number (place_of c) (h.0 r) (t r) h.1 (sym (held_within h.0 rs r d lt) ∙ h.2)

pub place_is : (rs : List Register) (r : ℕ) (d : Register) → HoldsPlace rs r → (t : ℕ → List ℕ) → place_in (held (cells_in t rs) r) ≡ Some (place_of (get_or rs r d))
place_is rs r d h t =
    let c : Register = get_or rs r d in
    let lt = place_within rs r h in
    ap place_in (held_within t rs r d lt) ∙ leads_of c.shape c.truth c.number (place_of c) (h.0 r) (t r) h.1 (sym (ap place_in (held_within h.0 rs r d lt)) ∙ h.2)

-- ---- what is written

pub same_cells : (t u : ℕ → List ℕ) (rs : List Register) → ((i : ℕ) → i < length rs → u i ≡ t i) → cells_in u rs ≡ cells_in t rs
same_cells t u [] same = refl
same_cells t u (c ∷ cs) same =
    let first : u 0 ≡ t 0 = same 0 (omega arith) in
    let rest = same_cells (λ i. t (suc i)) (λ i. u (suc i)) cs (λ i lt. same (suc i) (omega arith)) in
    ap (λ x. cell_in c x ∷ cells_in (λ i. u (suc i)) cs) first ∙ ap (λ l. cell_in c (t 0) ∷ l) rest

-- a register of another content or text, where the others have the texts that they had
pub put_register : (t u : ℕ → List ℕ) (rs : List Register) (to : ℕ) (c : Register) → ((i : ℕ) → i ≢ to → u i ≡ t i) → to < length rs → cells_in u (slice_set rs to c) ≡ slice_set (cells_in t rs) to (cell_in c (u to))
put_register t u [] to c same lt = absurd (omega arith)
put_register t u (d ∷ ds) zero c same lt = ap (λ l. cell_in c (u 0) ∷ l) (same_cells (λ i. t (suc i)) (λ i. u (suc i)) ds (λ i less. same (suc i) (λ e. absurd (omega (arith, e)))))
put_register t u (d ∷ ds) (suc to) c same lt =
    let first : u 0 ≡ t 0 = same 0 (λ e. absurd (omega (arith, e))) in
    let rest = put_register (λ i. t (suc i)) (λ i. u (suc i)) ds to c (λ i n. same (suc i) (λ e. n (omega (arith, e)))) (omega arith) in
    ap (λ x. cell_in d x ∷ cells_in (λ i. u (suc i)) (slice_set ds to c)) first ∙ ap (λ l. cell_in d (t 0) ∷ l) rest

pub as_many : (t : ℕ → List ℕ) (rs : List Register) → length (cells_in t rs) ≡ length rs
as_many t [] = refl
as_many t (c ∷ cs) = ap suc (as_many (λ i. t (suc i)) cs)

-- ---- a register of a shape

pub shaped : (rs : List Register) (r : ℕ) (d : Register) (s : Shape) → r < length rs → (get_or rs r d).shape ≡ s → IsShaped rs r s
shaped rs r d s lt e =
    let c : Register = get_or rs r d in
    record { truth = c.truth; number = c.number; place = place_of c; is = λ t. held_within t rs r d lt ∙ ap (λ x. cell_of x c.truth c.number (place_of c) (t r)) e }

pub int_shaped : (rs : List Register) (r : ℕ) (s : Shape) → IsShaped rs r s → s ≡ shape.Int → HoldsInt rs r
int_shaped rs r s q e = let k : IsShaped rs r shape.Int = subst (λ x. IsShaped rs r x) e q in ((λ i. []), k.number, k.is (λ i. []))

pub truth_shaped : (rs : List Register) (r : ℕ) (s : Shape) → IsShaped rs r s → s ≡ shape.Truth → HoldsTruth rs r
truth_shaped rs r s q e = let k : IsShaped rs r shape.Truth = subst (λ x. IsShaped rs r x) e q in ((λ i. []), k.truth, k.is (λ i. []))

pub own_shaped : (rs : List Register) (r : ℕ) (s : Shape) → IsShaped rs r s → s ≡ shape.Own → HoldsPlace rs r
own_shaped rs r s q e = let k : IsShaped rs r shape.Own = subst (λ x. IsShaped rs r x) e q in ((λ i. []), k.place, ap place_in (k.is (λ i. [])))

pub reference_shaped : (rs : List Register) (r : ℕ) (s : Shape) → IsShaped rs r s → s ≡ shape.Ref → HoldsPlace rs r
reference_shaped rs r s q e = let k : IsShaped rs r shape.Ref = subst (λ x. IsShaped rs r x) e q in ((λ i. []), k.place, ap place_in (k.is (λ i. [])))

pub iso_shaped : (rs : List Register) (r : ℕ) (s : Shape) → IsShaped rs r s → s ≡ shape.Iso → HoldsPlace rs r
iso_shaped rs r s q e = let k : IsShaped rs r shape.Iso = subst (λ x. IsShaped rs r x) e q in ((λ i. []), k.place, ap place_in (k.is (λ i. [])))

pub not_empty : (rs : List Register) (r : ℕ) (s : Shape) → IsShaped rs r s → s ≡ shape.Empty → HoldsCell rs r → ⊥
not_empty rs r s q e h =
    let k : IsShaped rs r shape.Empty = subst (λ x. IsShaped rs r x) e q in
    let same : Some h.1 ≡ None = sym h.2 ∙ k.is h.0 in cc

-- what leads to an object is an owner, a reference or an isolate
pub leads_shaped : (rs : List Register) (r : ℕ) (s : Shape) → IsShaped rs r s → HoldsPlace rs r → (s ≡ shape.Own → ⊥) → (s ≡ shape.Ref → ⊥) → (s ≡ shape.Iso → ⊥) → ⊥
leads_shaped rs r s q h a b c = at s q.truth q.number q.place (h.0 r) h.1 (sym (ap place_in (q.is h.0)) ∙ h.2) a b c
  where
    at : (s : Shape) (t : Bool) (n : ℤ) (p : Place) (x : List ℕ) (y : Place) → place_in (cell_of s t n p x) ≡ Some y → (s ≡ shape.Own → ⊥) → (s ≡ shape.Ref → ⊥) → (s ≡ shape.Iso → ⊥) → ⊥
    at shape.Own t n p x y e a b c = a refl
    at shape.Ref t n p x y e a b c = b refl
    at shape.Iso t n p x y e a b c = c refl
    at shape.Empty t n p x y e a b c = cc
    at shape.Int t n p x y e a b c = cc
    at shape.Truth t n p x y e a b c = cc
    at shape.Text t n p x y e a b c = cc

-- a register of this shape, by the place that it leads to
pub own_is : (rs : List Register) (r : ℕ) (s : Shape) (p : Place) → IsShaped rs r s → s ≡ shape.Own → ((t : ℕ → List ℕ) → place_in (held (cells_in t rs) r) ≡ Some p) → (t : ℕ → List ℕ) → held (cells_in t rs) r ≡ Some (Own p)
own_is rs r s p q e at t =
    let k : IsShaped rs r shape.Own = subst (λ x. IsShaped rs r x) e q in
    let same : Some k.place ≡ Some p = sym (ap place_in (k.is t)) ∙ at t in
    k.is t ∙ ap (λ x. Some (Own x)) (let w : k.place ≡ p = cc in w)

pub reference_is : (rs : List Register) (r : ℕ) (s : Shape) (p : Place) → IsShaped rs r s → s ≡ shape.Ref → ((t : ℕ → List ℕ) → place_in (held (cells_in t rs) r) ≡ Some p) → (t : ℕ → List ℕ) → held (cells_in t rs) r ≡ Some (Ref p)
reference_is rs r s p q e at t =
    let k : IsShaped rs r shape.Ref = subst (λ x. IsShaped rs r x) e q in
    let same : Some k.place ≡ Some p = sym (ap place_in (k.is t)) ∙ at t in
    k.is t ∙ ap (λ x. Some (Ref x)) (let w : k.place ≡ p = cc in w)

pub iso_is : (rs : List Register) (r : ℕ) (s : Shape) (p : Place) → IsShaped rs r s → s ≡ shape.Iso → ((t : ℕ → List ℕ) → place_in (held (cells_in t rs) r) ≡ Some p) → (t : ℕ → List ℕ) → held (cells_in t rs) r ≡ Some (Iso p)
iso_is rs r s p q e at t =
    let k : IsShaped rs r shape.Iso = subst (λ x. IsShaped rs r x) e q in
    let same : Some k.place ≡ Some p = sym (ap place_in (k.is t)) ∙ at t in
    k.is t ∙ ap (λ x. Some (Iso x)) (let w : k.place ≡ p = cc in w)
