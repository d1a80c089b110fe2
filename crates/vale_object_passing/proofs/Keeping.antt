-- One parameter gets what a register holds.
use Rattle.std.proofs.Common.{◌≡◌, ◌≢◌, ℕ, ◌+◌, ◌<◌, ◌≤◌, List, length, get_or, Option, Some, None, Bool, true, false, refl, sym, ap, subst, ◌∙◌, arith}
use Rattle.std.specs.Prelude.{slice_set}
use Rattle.vale_registers.specs.Passing.{from_base}
use Rattle.vale_registers.specs.Texts.{IsWritten, text_at}
use Rattle.vale_heap.specs.declared.body.Cell.{Cell}
use Rattle.vale_heap.specs.declared.body.Cell.TheVariants.{Int, Truth, Text, Own, Ref, Iso}
use Rattle.vale_heap.specs.declared.body.Place.{Place}
use Rattle.vale_object_cells.specs.Cells.{HoldsCell, HoldsPlace, cell_in, cell_of, cells_from, cells_in, held, kept_cells, place_in, place_of}
use Rattle.vale_object_cells.specs.declared.register.Register.{Register}
use Rattle.vale_object_cells.specs.declared.register.Shape.{Shape}
use Rattle.vale_object_cells.specs.declared.register.Shape.TheVariants as shape
use Rattle.vale_object_cells.proofs.Holding.{held_within, same_cells}
use Rattle.vale_object_passing.specs.Giving.{given_as, reference_to}
use Rattle.vale_object_passing.specs.Passing.{IsGiven, IsMoved}

module _ (frame : List Register) (from : ℕ) (d : Register) (base target : ℕ) (old : List (List ℕ)) (lt : from < length frame) where
  abbrev source : Register
  source = get_or frame from d

  abbrev cells : List (Option Cell)
  cells = cells_from base old frame

  abbrev by : Shape → List ℕ → Option Cell
  by s x = cell_of s source.truth source.number (place_of source) x

  here : (s : Shape) → source.shape ≡ s → held cells from ≡ by s (text_at old (base + from))
  here s e = held_within (from_base base (text_at old)) frame from d lt ∙ ap (λ x. by x (text_at old (base + from))) e

  there : (s : Shape) (x : List ℕ) → source.shape ≡ s → cell_in source x ≡ by s x
  there s x e = ap (λ y. by y x) e

  -- of a register that holds no text
  pub moved_given : (s : Shape) (after : List Register) → source.shape ≡ s → ((x y : List ℕ) → by s x ≡ by s y) → ((x : List ℕ) → cells_from base old after ≡ kept_cells (by s x) from cells) → IsGiven false base from target frame old after source old
  moved_given s after e alike left = record {
    cell = there s (text_at old target) e ∙ alike (text_at old target) (text_at old (base + from)) ∙ sym (here s e);
    left = left (text_at old (base + from)) ∙ ap (λ o. kept_cells o from cells) (sym (here s e));
    others = λ i n. refl;
  }

  pub text_given : (new : List (List ℕ)) → source.shape ≡ shape.Text → base + length frame ≤ target → IsWritten target (text_at old (base + from)) old new → IsGiven false base from target frame old frame source new
  text_given new e above w = record {
    cell = there shape.Text (text_at new target) e ∙ ap (λ x. Some (Text x)) w.is ∙ sym (here shape.Text e);
    left =
        same_cells (from_base base (text_at old)) (from_base base (text_at new)) frame (λ i less. w.others (base + i) (λ q. absurd (omega (arith, q, less, above))))
        ∙ ap (λ o. kept_cells o from cells) (sym (here shape.Text e));
    others = λ i n. w.others i n;
  }

  pub text_passed : (new : List (List ℕ)) (r : Register) → source.shape ≡ shape.Text → base + length frame ≤ target → r ≡ source → IsWritten target (text_at old (base + from)) old new → IsGiven false base from target frame old frame r new
  text_passed new r e above same w = subst (λ x. IsGiven false base from target frame old frame x new) (sym same) (text_given new e above w)

-- what a frozen parameter gets is a reference
place_there : (o : Option Cell) (c : Cell) → given_as true o ≡ Some c → (p : Place) × (place_in o ≡ Some p)
place_there None c e = absurd (let x : ⊥ = cc in x)
place_there (Some (Int z)) c e = absurd (let x : ⊥ = cc in x)
place_there (Some (Truth z)) c e = absurd (let x : ⊥ = cc in x)
place_there (Some (Text z)) c e = absurd (let x : ⊥ = cc in x)
place_there (Some (Own p)) c e = (p, refl)
place_there (Some (Ref p)) c e = (p, refl)
place_there (Some (Iso p)) c e = (p, refl)

pub holds_place : (frozen : Bool) (frame : List Register) (from : ℕ) → frozen ≡ true → (t : ℕ → List ℕ) × (c : Cell) × (given_as frozen (held (cells_in t frame) from) ≡ Some c) → HoldsPlace frame from
holds_place frozen frame from e h =
    let p = place_there (held (cells_in h.0 frame) from) h.1 (subst (λ b. given_as b (held (cells_in h.0 frame) from) ≡ Some h.1) e h.2) in
    (h.0, p.0, p.1)

pub holds_cell : (frozen : Bool) (frame : List Register) (from : ℕ) → frozen ≡ false → (t : ℕ → List ℕ) × (c : Cell) × (given_as frozen (held (cells_in t frame) from) ≡ Some c) → HoldsCell frame from
holds_cell frozen frame from e h = (h.0, h.1, subst (λ b. given_as b (held (cells_in h.0 frame) from) ≡ Some h.1) e h.2)

pub referred : (frozen : Bool) (base from target : ℕ) (frame : List Register) (old : List (List ℕ)) (to : Register) → frozen ≡ true → ((t : ℕ → List ℕ) (x : List ℕ) → cell_in to x ≡ given_as true (held (cells_in t frame) from)) → IsGiven frozen base from target frame old frame to old
referred frozen base from target frame old to e is =
    subst (λ b. IsGiven b base from target frame old frame to old) (sym e)
    (record { cell = is (from_base base (text_at old)) (text_at old target); left = refl; others = λ i n. refl })

-- ---- results

pub plain_moved : (from to : ℕ) (a : Register) (s : Shape) (old : List (List ℕ)) → a.shape ≡ s → ((x y : List ℕ) → cell_of s a.truth a.number (place_of a) x ≡ cell_of s a.truth a.number (place_of a) y) → IsMoved from to a a old old
plain_moved from to a s old e alike = record {
  cell = ap (λ y. cell_of y a.truth a.number (place_of a) (text_at old to)) e ∙ alike (text_at old to) (text_at old from) ∙ sym (ap (λ y. cell_of y a.truth a.number (place_of a) (text_at old from)) e);
  others = λ i n m. refl;
}
