-- What is read of registers, and what is written.
use Rattle.std.proofs.Common.{◌≡◌, ◌≢◌, ℕ, zero, suc, ◌<◌, ℤ, List, [], ◌∷◌, length, get_or, Some, None, Bool, refl, sym, ap, ◌∙◌, subst, arith}
use Rattle.std.specs.Prelude.{slice_set}
use Rattle.vale_state_spec.specs.World.{Value, Int, Truth, Text}
use Rattle.vale_code.specs.Registers.{read, put}
use Rattle.vale_registers.specs.Cells.{value_of, value_in, values_in, HoldsInt, HoldsTruth, HoldsText, HoldsValue, IsShaped}
use Rattle.vale_registers.specs.declared.cell.Cell.{Cell}
use Rattle.vale_registers.specs.declared.cell.Shape.{Shape}
use Rattle.vale_registers.specs.declared.cell.Shape.TheVariants as shape

-- a register that holds something is one of the cells
pub within : (t : ℕ → List ℕ) (cells : List Cell) (r : ℕ) (v : Value) → read (values_in t cells) r ≡ Some v → r < length cells
within t [] r v e = absurd (let x : ⊥ = cc in x)
within t (c ∷ cs) zero v e = omega arith
within t (c ∷ cs) (suc r) v e = let h = within (λ i. t (suc i)) cs r v e in omega (arith, h)

pub read_within : (t : ℕ → List ℕ) (cells : List Cell) (r : ℕ) (d : Cell) → r < length cells → read (values_in t cells) r ≡ value_in (get_or cells r d) (t r)
read_within t [] r d lt = absurd (omega arith)
read_within t (c ∷ cs) zero d lt = refl
read_within t (c ∷ cs) (suc r) d lt = read_within (λ i. t (suc i)) cs r d (omega arith)

number_of : (s : Shape) (b : Bool) (n : ℤ) (x y : List ℕ) (z : ℤ) → value_of s b n x ≡ Some (Int z) → value_of s b n y ≡ Some (Int n)
number_of shape.Empty b n x y z e = absurd (let w : ⊥ = cc in w)
number_of shape.Int b n x y z e = refl
number_of shape.Truth b n x y z e = absurd (let w : ⊥ = cc in w)
number_of shape.Text b n x y z e = absurd (let w : ⊥ = cc in w)

truth_of : (s : Shape) (b : Bool) (n : ℤ) (x y : List ℕ) (c : Bool) → value_of s b n x ≡ Some (Truth c) → value_of s b n y ≡ Some (Truth b)
truth_of shape.Empty b n x y c e = absurd (let w : ⊥ = cc in w)
truth_of shape.Int b n x y c e = absurd (let w : ⊥ = cc in w)
truth_of shape.Truth b n x y c e = refl
truth_of shape.Text b n x y c e = absurd (let w : ⊥ = cc in w)

text_of : (s : Shape) (b : Bool) (n : ℤ) (x y z : List ℕ) → value_of s b n x ≡ Some (Text z) → value_of s b n y ≡ Some (Text y)
text_of shape.Empty b n x y z e = absurd (let w : ⊥ = cc in w)
text_of shape.Int b n x y z e = absurd (let w : ⊥ = cc in w)
text_of shape.Truth b n x y z e = absurd (let w : ⊥ = cc in w)
text_of shape.Text b n x y z e = refl

pub int_within : (cells : List Cell) (r : ℕ) → HoldsInt cells r → r < length cells
int_within cells r h = within h.0 cells r (Int h.1) h.2

pub truth_within : (cells : List Cell) (r : ℕ) → HoldsTruth cells r → r < length cells
truth_within cells r h = within h.0 cells r (Truth h.1) h.2

pub text_within : (cells : List Cell) (r : ℕ) → HoldsText cells r → r < length cells
text_within cells r h = within h.0 cells r (Text h.1) h.2

pub value_within : (cells : List Cell) (r : ℕ) → HoldsValue cells r → r < length cells
value_within cells r h = within h.0 cells r h.1 h.2

pub int_is : (cells : List Cell) (r : ℕ) (d : Cell) → HoldsInt cells r → (t : ℕ → List ℕ) → read (values_in t cells) r ≡ Some (Int (get_or cells r d).number)
int_is cells r d h t =
    let c : Cell = get_or cells r d in
    read_within t cells r d (int_within cells r h) ∙ number_of c.shape c.truth c.number (h.0 r) (t r) h.1 (sym (read_within h.0 cells r d (int_within cells r h)) ∙ h.2)

pub truth_is : (cells : List Cell) (r : ℕ) (d : Cell) → HoldsTruth cells r → (t : ℕ → List ℕ) → read (values_in t cells) r ≡ Some (Truth (get_or cells r d).truth)
truth_is cells r d h t =
    let c : Cell = get_or cells r d in
    read_within t cells r d (truth_within cells r h) ∙ truth_of c.shape c.truth c.number (h.0 r) (t r) h.1 (sym (read_within h.0 cells r d (truth_within cells r h)) ∙ h.2)

pub text_is : (cells : List Cell) (r : ℕ) (d : Cell) → HoldsText cells r → (t : ℕ → List ℕ) → read (values_in t cells) r ≡ Some (Text (t r))
text_is cells r d h t =
    let c : Cell = get_or cells r d in
    read_within t cells r d (text_within cells r h) ∙ text_of c.shape c.truth c.number (h.0 r) (t r) h.1 (sym (read_within h.0 cells r d (text_within cells r h)) ∙ h.2)

-- ---- what is written

pub same_values : (t u : ℕ → List ℕ) (cells : List Cell) → ((i : ℕ) → i < length cells → u i ≡ t i) → values_in u cells ≡ values_in t cells
same_values t u [] same = refl
same_values t u (c ∷ cs) same =
    let first : u 0 ≡ t 0 = same 0 (omega arith) in
    let rest = same_values (λ i. t (suc i)) (λ i. u (suc i)) cs (λ i lt. same (suc i) (omega arith)) in
    ap (λ x. value_in c x ∷ values_in (λ i. u (suc i)) cs) first ∙ ap (λ l. value_in c (t 0) ∷ l) rest

-- a register of another cell or text, where the others have the texts that they had
pub put_cell : (t u : ℕ → List ℕ) (cells : List Cell) (to : ℕ) (c : Cell) → ((i : ℕ) → i ≢ to → i < length cells → u i ≡ t i) → to < length cells → values_in u (slice_set cells to c) ≡ put (values_in t cells) to (value_in c (u to))
put_cell t u [] to c same lt = absurd (omega arith)
put_cell t u (d ∷ ds) zero c same lt = ap (λ l. value_in c (u 0) ∷ l) (same_values (λ i. t (suc i)) (λ i. u (suc i)) ds (λ i less. same (suc i) (λ e. absurd (omega (arith, e))) (omega arith)))
put_cell t u (d ∷ ds) (suc to) c same lt =
    let first : u 0 ≡ t 0 = same 0 (λ e. absurd (omega (arith, e))) (omega arith) in
    let rest = put_cell (λ i. t (suc i)) (λ i. u (suc i)) ds to c (λ i n less. same (suc i) (λ e. n (omega (arith, e))) (omega arith)) (omega arith) in
    ap (λ x. value_in d x ∷ values_in (λ i. u (suc i)) (slice_set ds to c)) first ∙ ap (λ l. value_in d (t 0) ∷ l) rest

-- ---- a cell of a shape

pub shaped : (cells : List Cell) (r : ℕ) (d : Cell) (s : Shape) → r < length cells → (get_or cells r d).shape ≡ s → IsShaped cells r s
shaped cells r d s lt e =
    let c : Cell = get_or cells r d in
    record { truth = c.truth; number = c.number; is = λ t. read_within t cells r d lt ∙ ap (λ x. value_of x c.truth c.number (t r)) e }

pub int_shaped : (cells : List Cell) (r : ℕ) (s : Shape) → IsShaped cells r s → s ≡ shape.Int → HoldsInt cells r
int_shaped cells r s q e = let k : IsShaped cells r shape.Int = subst (λ x. IsShaped cells r x) e q in ((λ i. []), k.number, k.is (λ i. []))

pub truth_shaped : (cells : List Cell) (r : ℕ) (s : Shape) → IsShaped cells r s → s ≡ shape.Truth → HoldsTruth cells r
truth_shaped cells r s q e = let k : IsShaped cells r shape.Truth = subst (λ x. IsShaped cells r x) e q in ((λ i. []), k.truth, k.is (λ i. []))

pub text_shaped : (cells : List Cell) (r : ℕ) (s : Shape) → IsShaped cells r s → s ≡ shape.Text → HoldsText cells r
text_shaped cells r s q e = let k : IsShaped cells r shape.Text = subst (λ x. IsShaped cells r x) e q in ((λ i. []), [], k.is (λ i. []))

pub not_empty : (cells : List Cell) (r : ℕ) (s : Shape) → IsShaped cells r s → s ≡ shape.Empty → HoldsValue cells r → ⊥
not_empty cells r s q e h =
    let k : IsShaped cells r shape.Empty = subst (λ x. IsShaped cells r x) e q in
    let same : Some h.1 ≡ None = sym h.2 ∙ k.is h.0 in cc

-- a register that holds something does so whatever the texts are
some_of : (s : Shape) (b : Bool) (n : ℤ) (x y : List ℕ) (v : Value) → value_of s b n x ≡ Some v → (w : Value) × (value_of s b n y ≡ Some w)
some_of shape.Empty b n x y v e = absurd (let z : ⊥ = cc in z)
some_of shape.Int b n x y v e = (Int n, refl)
some_of shape.Truth b n x y v e = (Truth b, refl)
some_of shape.Text b n x y v e = (Text y, refl)

pub some_value : (cells : List Cell) (r : ℕ) → HoldsValue cells r → (t : ℕ → List ℕ) → (w : Value) × (read (values_in t cells) r ≡ Some w)
some_value cells r h t = at cells r (λ i. h.0 i) t h.2
  where
    at : (cells : List Cell) (r : ℕ) (u t : ℕ → List ℕ) → read (values_in u cells) r ≡ Some h.1 → (w : Value) × (read (values_in t cells) r ≡ Some w)
    at [] r u t e = absurd (let z : ⊥ = cc in z)
    at (c ∷ cs) zero u t e = some_of c.shape c.truth c.number (u 0) (t 0) h.1 e
    at (c ∷ cs) (suc r) u t e = at cs r (λ i. u (suc i)) (λ i. t (suc i)) e
