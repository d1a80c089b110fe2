-- What is given to a function.
use Rattle.std.proofs.Common.{◌≡◌, ℕ, zero, suc, ◌+◌, ◌-◌, ◌<◌, ◌≤◌, List, [], ◌∷◌, ◌++◌, length, drop, get_or, map, replicate, Option, Some, None, refl, sym, ap, ◌∙◌, arith}
use Rattle.std.proofs.lemmas.List.{length-drop}
use Rattle.vale_state_spec.specs.World.{Value}
use Rattle.vale_code.specs.Registers.{Registers, Read, read, and_then, as_frozen, named, given_value, after_giving, after_keeping, give_all, registers_for}
use Rattle.vale_code.specs.declared.ty.Ty.{Ty}
use Rattle.vale_code.specs.declared.ty.Ty.TheVariants as kind
use Rattle.vale_registers.specs.Cells.{empty, value_of, values_in}
use Rattle.vale_registers.specs.Passing.{AreWithin}
use Rattle.vale_registers.specs.declared.cell.Cell.{Cell}
use Rattle.vale_registers.specs.declared.cell.Shape.{Shape}
use Rattle.vale_registers.specs.declared.cell.Shape.TheVariants as shape
use Rattle.vale_registers.proofs.Registers.{within}
use Rattle.vale_turn.proofs.Rules.{IsRead, read_cell}

no_name : (s : Shape) (b : _) (n : _) (x : _) → named (value_of s b n x) ≡ None
no_name shape.Empty b n x = refl
no_name shape.Int b n x = refl
no_name shape.Truth b n x = refl
no_name shape.Text b n x = refl

kept_value : (s : Shape) (b : _) (n : _) (x : _) (r : ℕ) (regs : Registers) → after_keeping r (value_of s b n x) regs ≡ regs
kept_value shape.Empty b n x r regs = refl
kept_value shape.Int b n x r regs = refl
kept_value shape.Truth b n x r regs = refl
kept_value shape.Text b n x r regs = refl

kept_read : (o : Option Value) (r : ℕ) (regs : Registers) → IsRead o → after_keeping r o regs ≡ regs
kept_read o r regs q = ap (λ x. after_keeping r x regs) q.is ∙ kept_value q.shape q.truth q.number q.text r regs

-- what is given stays
stays : (ty : Ty) (o : Option Value) (r : ℕ) (regs : Registers) → IsRead o → after_giving ty r o regs ≡ regs
stays (kind.Frozen k) o r regs q = refl
stays kind.Void o r regs q = kept_read o r regs q
stays kind.Int o r regs q = kept_read o r regs q
stays kind.Truth o r regs q = kept_read o r regs q
stays kind.Text o r regs q = kept_read o r regs q
stays (kind.Own k) o r regs q = kept_read o r regs q
stays (kind.Ref k) o r regs q = kept_read o r regs q
stays (kind.Iso k) o r regs q = kept_read o r regs q

given_is : (ty : Ty) (o : Option Value) (v : Value) → IsRead o → given_value ty o ≡ Some v → o ≡ Some v
given_is (kind.Frozen k) o v q e =
    let n : given_value (kind.Frozen k) o ≡ None = ap (λ x. as_frozen (named x)) q.is ∙ ap as_frozen (no_name q.shape q.truth q.number q.text) in
    absurd (let x : ⊥ = cc in x)
given_is kind.Void o v q e = e
given_is kind.Int o v q e = e
given_is kind.Truth o v q e = e
given_is kind.Text o v q e = e
given_is (kind.Own k) o v q e = e
given_is (kind.Ref k) o v q e = e
given_is (kind.Iso k) o v q e = e

record Parted (o : Option Value) (rest : Option Read) (r : Read) : Type 0 where
  value : Value
  more : Read
  first : o ≡ Some value
  others : rest ≡ Some more
  values : r.values ≡ value ∷ more.values
  after : r.after ≡ more.after

parted : (o : Option Value) (rest : Option Read) (r : Read) → and_then o rest ≡ Some r → Parted o rest r
parted None rest r e = absurd (let x : ⊥ = cc in x)
parted (Some v) None r e = absurd (let x : ⊥ = cc in x)
parted (Some v) (Some more) r e =
    let x : record more { values = v ∷ more.values } ≡ r = cc in
    record { value = v; more = more; first = refl; others = refl; values = ap (λ (k : Read). k.values) (sym x); after = ap (λ (k : Read). k.after) (sym x) }

pub record AreGiven (tys : List Ty) (args : List ℕ) (regs : Registers) (r : Read) : Type 0 where
  pub after : r.after ≡ regs
  pub values : map (read regs) args ≡ map Some r.values
  pub count : length r.values ≡ length tys

module _ (t : ℕ → List ℕ) (cells : List Cell) where
  pub are_given : (tys : List Ty) (args : List ℕ) (r : Read) → give_all tys args (values_in t cells) ≡ Some r → AreGiven tys args (values_in t cells) r
  are_given [] [] r e =
      let x : record { values = []; after = values_in t cells } ≡ r = cc in
      record { after = ap (λ (k : Read). k.after) (sym x); values = ap (λ (k : Read). map Some k.values) x; count = ap (λ (k : Read). length k.values) (sym x) }
  are_given [] (a ∷ args) r e = absurd (let x : ⊥ = cc in x)
  are_given (ty ∷ tys) [] r e = absurd (let x : ⊥ = cc in x)
  are_given (ty ∷ tys) (a ∷ args) r e =
      let o = read (values_in t cells) a in
      let q = read_cell t cells a in
      let p = parted (given_value ty o) (give_all tys args (after_giving ty a o (values_in t cells))) r e in
      let h = are_given tys args p.more (ap (give_all tys args) (sym (stays ty o a (values_in t cells) q)) ∙ p.others) in
      record {
        after = p.after ∙ h.after;
        values = ap (λ x. x ∷ map (read (values_in t cells)) args) (given_is ty o p.value q p.first) ∙ ap (λ l. Some p.value ∷ l) h.values ∙ ap (map Some) (sym p.values);
        count = ap length p.values ∙ ap suc h.count;
      }

-- each register that was read is there
pub args_within : (t : ℕ → List ℕ) (args : List ℕ) (vs : List Value) (base top : ℕ) (row : List Cell) → map (read (values_in t (drop base row))) args ≡ map Some vs → base ≤ top → length row ≡ top → AreWithin args base top
args_within t [] vs base top row e le size = λ k lt. absurd (omega arith)
args_within t (a ∷ args) [] base top row e le size = absurd (let x : ⊥ = cc in x)
args_within t (a ∷ args) (v ∷ vs) base top row e le size =
    let one : read (values_in t (drop base row)) a ≡ Some v = cc in
    let rest : map (read (values_in t (drop base row))) args ≡ map Some vs = cc in
    let lt : base + a < top = omega (arith, within t (drop base row) a v one, length-drop base row, size) in
    let more = args_within t args vs base top row rest le size in
    λ k h. at k h lt more
  where
    at : (k : ℕ) → k < length (a ∷ args) → base + a < top → AreWithin args base top → base + get_or (a ∷ args) k 0 < top
    at zero h lt more = lt
    at (suc k) h lt more = more k (omega arith)

-- ---- the registers of a function that is entered

pub empties : (t : ℕ → List ℕ) (n : ℕ) → values_in t (replicate n empty) ≡ replicate n None
empties t zero = refl
empties t (suc n) = ap (λ l. None ∷ l) (empties (λ i. t (suc i)) n)

pub map_count : (f : ℕ → Option Value) (args : List ℕ) (vs : List Value) → map f args ≡ map Some vs → length args ≡ length vs
map_count f [] [] e = refl
map_count f [] (v ∷ vs) e = absurd (let x : ⊥ = cc in x)
map_count f (a ∷ args) [] e = absurd (let x : ⊥ = cc in x)
map_count f (a ∷ args) (v ∷ vs) e = ap suc (map_count f args vs (let h : map f args ≡ map Some vs = cc in h))

-- registers that hold what was given, and then nothing
pub registers_given : (f : ℕ → Option Value) (args : List ℕ) (vs : List Value) (top end count : ℕ) (own : Registers) → end ≡ top + count → map f args ≡ map Some vs → own ≡ map f args ++ replicate (end - top - length args) None → own ≡ registers_for count vs
registers_given f args vs top end count own size given e =
    let n : end - top - length args ≡ count - length vs = omega (arith, size, map_count f args vs given) in
    e ∙ ap (λ l. l ++ replicate (end - top - length args) None) given ∙ ap (λ k. map Some vs ++ replicate k None) n
