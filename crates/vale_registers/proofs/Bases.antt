-- Registers from a base on, and parts of rows.
use Rattle.std.proofs.Common.{◌≡◌, ◌≢◌, ℕ, zero, suc, ◌+◌, ◌<◌, List, [], ◌∷◌, ◌++◌, length, take, drop, Some, refl, sym, ap, ◌∙◌, arith}
use Rattle.std.specs.Prelude.{slice_set}
use Rattle.std.proofs.lemmas.List.{take-set-le, drop-set-add}
use Rattle.vale_code.specs.Registers.{put, read}
use Rattle.vale_registers.specs.Cells.{value_in, values_in, HoldsValue}
use Rattle.vale_registers.specs.Passing.{from_base}
use Rattle.vale_registers.specs.declared.cell.Cell.{Cell}
use Rattle.vale_registers.proofs.Registers.{put_cell, same_values}

-- ---- parts of rows

pub take_front : {A : Type 0} (xs ys : List A) (n : ℕ) → length xs ≡ n → take n (xs ++ ys) ≡ xs
take_front [] ys n e = ap (λ k. take k ys) (sym e)
take_front (x ∷ xs) ys zero e = absurd (omega arith)
take_front (x ∷ xs) ys (suc n) e = ap (λ l. x ∷ l) (take_front xs ys n (omega arith))

pub drop_front : {A : Type 0} (xs ys : List A) (n : ℕ) → length xs ≡ n → drop n (xs ++ ys) ≡ ys
drop_front [] ys n e = ap (λ k. drop k ys) (sym e)
drop_front (x ∷ xs) ys zero e = absurd (omega arith)
drop_front (x ∷ xs) ys (suc n) e = drop_front xs ys n (omega arith)

-- a row that was lent as a slice, and is as long as before
pub lent_back : (xs row : List Cell) (n : ℕ) → n ≡ length row → take n (row ++ drop (length row) xs) ≡ row
lent_back xs row n e = take_front row (drop (length row) xs) n (sym e)

pub take_set : (n : ℕ) (xs : List Cell) (i : ℕ) (x : Cell) → i < n → take n (slice_set xs i x) ≡ slice_set (take n xs) i x
take_set zero xs i x lt = absurd (omega arith)
take_set (suc n) [] i x lt = refl
take_set (suc n) (y ∷ ys) zero x lt = refl
take_set (suc n) (y ∷ ys) (suc i) x lt = ap (λ l. y ∷ l) (take_set n ys i x (omega arith))

-- the first of a row up to one that was written
pub take_written : (xs : List Cell) (i : ℕ) (x : Cell) → i < length xs → take (i + 1) (slice_set xs i x) ≡ take i xs ++ x ∷ []
take_written [] i x lt = absurd (omega arith)
take_written (y ∷ ys) zero x lt = ap (λ l. x ∷ l) (none ys)
  where
    none : (zs : List Cell) → take 0 zs ≡ []
    none [] = refl
    none (z ∷ zs) = refl
take_written (y ∷ ys) (suc i) x lt =
    let n : suc i + 1 ≡ suc (i + 1) = omega arith in
    ap (λ k. take k (y ∷ slice_set ys i x)) n ∙ ap (λ l. y ∷ l) (take_written ys i x (omega arith))

pub read_take : (t : ℕ → List ℕ) (cells : List Cell) (n r : ℕ) → r < n → read (values_in t (take n cells)) r ≡ read (values_in t cells) r
read_take t [] zero r lt = refl
read_take t [] (suc n) r lt = refl
read_take t (c ∷ cs) zero r lt = absurd (omega arith)
read_take t (c ∷ cs) (suc n) zero lt = refl
read_take t (c ∷ cs) (suc n) (suc r) lt = read_take (λ i. t (suc i)) cs n r (omega arith)

-- ---- texts from a base on

zero_plus : (i : ℕ) → 0 + i ≡ i
zero_plus i = omega arith

suc_plus : (b i : ℕ) → suc b + i ≡ suc (b + i)
suc_plus b i = omega arith

based_zero : (t : ℕ → List ℕ) (cells : List Cell) → values_in (from_base 0 t) cells ≡ values_in t cells
based_zero t cells = same_values t (from_base 0 t) cells (λ i lt. ap t (zero_plus i))

based_suc : (t : ℕ → List ℕ) (b : ℕ) (cells : List Cell) → values_in (from_base (suc b) t) cells ≡ values_in (from_base b (λ i. t (suc i))) cells
based_suc t b cells = same_values (from_base b (λ i. t (suc i))) (from_base (suc b) t) cells (λ i lt. ap t (suc_plus b i))

pub read_drop : (t : ℕ → List ℕ) (cells : List Cell) (base r : ℕ) → read (values_in t cells) (base + r) ≡ read (values_in (from_base base t) (drop base cells)) r
read_drop t [] zero r = refl
read_drop t [] (suc base) r = refl
read_drop t (c ∷ cs) zero r = ap (read (values_in t (c ∷ cs))) (zero_plus r) ∙ ap (λ regs. read regs r) (sym (based_zero t (c ∷ cs)))
read_drop t (c ∷ cs) (suc base) r =
    ap (read (values_in t (c ∷ cs))) (suc_plus base r) ∙ read_drop (λ i. t (suc i)) cs base r ∙ ap (λ regs. read regs r) (sym (based_suc t base (drop base cs)))

pub values_append : (t : ℕ → List ℕ) (xs ys : List Cell) → values_in t (xs ++ ys) ≡ values_in t xs ++ values_in (from_base (length xs) t) ys
values_append t [] ys = sym (based_zero t ys)
values_append t (x ∷ xs) ys =
    ap (λ l. value_in x (t 0) ∷ l) (values_append (λ i. t (suc i)) xs ys ∙ ap (λ l. values_in (λ i. t (suc i)) xs ++ l) (sym (based_suc t (length xs) ys)))

-- ---- a register that is written

pub written : (t u : ℕ → List ℕ) (cells : List Cell) (base to : ℕ) (c : Cell) → ((i : ℕ) → i ≢ to → i < length (drop base cells) → u (base + i) ≡ t (base + i)) → to < length (drop base cells)
    → values_in (from_base base u) (drop base (slice_set cells (base + to) c)) ≡ put (values_in (from_base base t) (drop base cells)) to (value_in c (u (base + to)))
written t u cells base to c same lt =
    ap (values_in (from_base base u)) (drop-set-add base cells to c)
    ∙ put_cell (from_base base t) (from_base base u) (drop base cells) to c same lt

pub below_written : (cells : List Cell) (base to : ℕ) (c : Cell) → take base (slice_set cells (base + to) c) ≡ take base cells
below_written cells base to c = take-set-le base cells (base + to) c (omega arith)

-- a register from a base on holds what it does in the whole row
pub held_drop : (cells : List Cell) (base r : ℕ) → HoldsValue (drop base cells) r → HoldsValue cells (base + r)
held_drop cells base r h = at cells base h.0 h.2
  where
    before : (ℕ → List ℕ) → ℕ → List ℕ
    before t zero = []
    before t (suc i) = t i

    at : (cells : List Cell) (base : ℕ) (t : ℕ → List ℕ) → read (values_in t (drop base cells)) r ≡ Some h.1 → HoldsValue cells (base + r)
    at [] base t e = absurd (nothing base e)
      where
        nothing : (b : ℕ) → read (values_in t (drop b [])) r ≡ Some h.1 → ⊥
        nothing zero q = let x : ⊥ = cc in x
        nothing (suc b) q = let x : ⊥ = cc in x
    at (c ∷ cs) zero t e = (t, h.1, ap (read (values_in t (c ∷ cs))) (zero_plus r) ∙ e)
    at (c ∷ cs) (suc b) t e =
        let k = at cs b t e in
        ((λ i. before k.0 i), k.1, ap (read (values_in (before k.0) (c ∷ cs))) (suc_plus b r) ∙ k.2)

-- a register of the first of some cells holds what it does among all
pub held_take : (cells : List Cell) (n r : ℕ) → r < n → HoldsValue (take n cells) r → HoldsValue cells r
held_take cells n r lt h = (h.0, h.1, sym (read_take h.0 cells n r lt) ∙ h.2)
