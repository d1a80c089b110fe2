-- What steps read of registers, and what they write.
use Rattle.std.proofs.Common.{◌≡◌, ℕ, zero, suc, ◌<◌, ℤ, List, [], ◌∷◌, length, Option, Some, None, refl, sym, ap, subst, ◌∙◌, arith}
use Rattle.std.specs.Prelude.{slice_set}
use Rattle.vale_state_spec.specs.State.{Answer}
use Rattle.vale_state_spec.specs.World.{Value}
use Rattle.vale_code.specs.Registers.{Registers, after_keeping, put, read}
use Rattle.vale_heap.specs.HeapState.{HeapState}
use Rattle.vale_registers.specs.Passing.{from_base}
use Rattle.vale_registers.specs.Texts.{text_at}
use Rattle.vale_heap.specs.declared.body.Cell.{Cell}
use Rattle.vale_heap.specs.declared.body.Cell.TheVariants.{Int}
use Rattle.vale_heap.specs.declared.body.Place.{Place}
use Rattle.vale_object_cells.specs.Cells.{HoldsCell, HoldsInt, HoldsPlace, cells_from, held, kept_cells, place_in}
use Rattle.vale_object_cells.specs.Names.{AllKnown, Knows, value_in, value_of, values_in}
use Rattle.vale_object_cells.specs.declared.register.Register.{Register}
use Rattle.vale_object_cells.proofs.Holding.{as_many}
use Rattle.vale_object_cells.proofs.Naming.{kept_is, kept_known, kept_long, known_put, put_values, read_values}
use Rattle.vale_object_steps.specs.Doing.{on_value}
use Rattle.vale_object_steps.specs.Views.{Agrees, IsRight, View}

-- ---- operands

pub held_within : (cells : List (Option Cell)) (r : ℕ) (c : Cell) → held cells r ≡ Some c → r < length cells
held_within [] r c e = absurd (let x : ⊥ = cc in x)
held_within (d ∷ ds) zero c e = omega arith
held_within (d ∷ ds) (suc r) c e = let h = held_within ds r c e in omega (arith, h)

pub read_held : (names : List Place) (cells : List (Option Cell)) (r : ℕ) (c : Cell) → held cells r ≡ Some c → read (values_in names cells) r ≡ Some (value_of names c)
read_held names cells r c e = read_values names cells r ∙ ap (value_in names) e

-- a step on what a register holds
pub on_held : (names : List Place) (cells : List (Option Cell)) (r : ℕ) (c : Cell) (go : Value → Answer) → held cells r ≡ Some c → on_value (read (values_in names cells) r) go ≡ go (value_of names c)
on_held names cells r c go e = ap (λ o. on_value o go) (read_held names cells r c e)

some_on : (names : List Place) (o : Option Cell) (go : Value → Answer) → IsRight (on_value (value_in names o) go) → (c : Cell) × (o ≡ Some c)
some_on names None go r = absurd r
some_on names (Some c) go r = (c, refl)

-- such a step has a rule only where the register holds something
pub on_there : (names : List Place) (cells : List (Option Cell)) (r : ℕ) (go : Value → Answer) → IsRight (on_value (read (values_in names cells) r) go) → (c : Cell) × (held cells r ≡ Some c)
on_there names cells r go right = some_on names (held cells r) go (subst (λ o. IsRight (on_value o go)) (read_values names cells r) right)

-- ---- a cell goes to a register

pub record Written (v : View) (heap : HeapState) (cells : List (Option Cell)) (regs : Registers) : Type 0 where
  pub agrees : Agrees v heap cells
  pub is : values_in v.names cells ≡ regs

pub written_to : (v : View) (heap : HeapState) (cells new : List (Option Cell)) (to : ℕ) (c : Cell) → Agrees v heap cells → Knows v.names (Some c) → to < length cells → new ≡ slice_set cells to (Some c)
    → Written v heap new (put (values_in v.names cells) to (Some (value_of v.names c)))
written_to v heap cells new to c a knows lt is = record {
  agrees = record {
    stands = a.stands;
    regions = a.regions;
    known = subst (AllKnown v.names) (sym is) (known_put v.names cells to (Some c) a.known knows);
  };
  is = ap (values_in v.names) is ∙ put_values v.names cells to (Some c) lt;
}

-- what a register holds is kept
pub kept_from : (v : View) (heap : HeapState) (cells new : List (Option Cell)) (from : ℕ) (c : Cell) → Agrees v heap cells → held cells from ≡ Some c → new ≡ kept_cells (held cells from) from cells
    → Written v heap new (after_keeping from (read (values_in v.names cells) from) (values_in v.names cells))
kept_from v heap cells new from c a e is = record {
  agrees = record {
    stands = a.stands;
    regions = a.regions;
    known = subst (AllKnown v.names) (sym is) (kept_known v.names cells from (held cells from) a.known);
  };
  is =
      ap (values_in v.names) (is ∙ ap (λ o. kept_cells o from cells) e)
      ∙ kept_is v.names cells from c (held_within cells from c e)
      ∙ sym (ap (λ o. after_keeping from o (values_in v.names cells)) (read_held v.names cells from c e));
}

pub kept_size : (cells new : List (Option Cell)) (from : ℕ) → new ≡ kept_cells (held cells from) from cells → length new ≡ length cells
kept_size cells new from is = ap length is ∙ kept_long cells from (held cells from)

-- ---- registers whose texts stand in a row

pub holds_place : (base : ℕ) (texts : List (List ℕ)) (rs : List Register) (a : ℕ) → (p : Place) × (place_in (held (cells_from base texts rs) a) ≡ Some p) → HoldsPlace rs a
holds_place base texts rs a h = (from_base base (text_at texts), h.0, h.1)

pub holds_int : (base : ℕ) (texts : List (List ℕ)) (rs : List Register) (a : ℕ) → (z : ℤ) × (held (cells_from base texts rs) a ≡ Some (Int z)) → HoldsInt rs a
holds_int base texts rs a h = (from_base base (text_at texts), h.0, h.1)

pub holds_cell : (base : ℕ) (texts : List (List ℕ)) (rs : List Register) (a : ℕ) → (c : Cell) × (held (cells_from base texts rs) a ≡ Some c) → HoldsCell rs a
holds_cell base texts rs a h = (from_base base (text_at texts), h.0, h.1)

-- as many cells as registers
pub cells_many : (base : ℕ) (texts : List (List ℕ)) (rs : List Register) (to : ℕ) → to < length rs → to < length (cells_from base texts rs)
cells_many base texts rs to lt = let many = as_many (from_base base (text_at texts)) rs in omega (arith, lt, many)
