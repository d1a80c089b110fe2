-- What is printed, by names.
use Rattle.std.proofs.Common.{◌≡◌, ℕ, ◌+◌, ◌<◌, ℤ, length, List, [], ◌∷◌, ◌++◌, Bool, true, false, if◌then◌else◌, Option, Some, None, refl, sym, ap, ◌∙◌}
use Rattle.vale_state_spec.specs.State.{State, gives, print, print_text, printed, shown}
use Rattle.vale_state_spec.specs.World.{Value}
use Rattle.vale_code.specs.Frames.{Active, Frame, Next}
use Rattle.vale_code.specs.Instructions.{certain, truth_of, with_choice, with_value}
use Rattle.vale_code.specs.Registers.{Registers, read}
use Rattle.vale_code.specs.declared.instr.Instr.TheVariants as i
use Rattle.vale_heap.specs.HeapState.{HeapState}
use Rattle.vale_heap.specs.declared.body.Cell.{Cell}
use Rattle.vale_heap.specs.declared.body.Place.{Place}
use Rattle.vale_turn.specs.View.{IsRight}
use Rattle.vale_turn.specs.declared.stop.Stop.TheVariants as stop
use Rattle.vale_object_cells.specs.Cells.{IsShaped, cell_of, cells_in, held}
use Rattle.vale_object_cells.specs.Names.{value_in, value_of, values_in}
use Rattle.vale_object_cells.specs.declared.register.Register.{Register}
use Rattle.vale_object_cells.specs.declared.register.Shape.{Shape}
use Rattle.vale_object_cells.specs.declared.register.Shape.TheVariants as shape
use Rattle.vale_object_cells.proofs.Holding.{within}
use Rattle.vale_object_cells.proofs.Naming.{read_values}
use Rattle.vale_object_compares.proofs.CompareLaws.{reads}
use Rattle.vale_object_steps.proofs.FieldLaws.{same_names}
use Rattle.vale_object_turn.specs.Steps.{HasRule, active}
use Rattle.vale_object_texts.specs.Printing.{Prints, after_printing, shown_in, shown_of}

-- ---- the rule

module _ (f : Active) (regs : Registers) (below : List Frame) (s : State) where
  abbrev prints_of : Option Bool → Option Value → Next
  prints_of c p = with_choice c s (λ line. with_value p s (λ v. certain f None regs below s (print line v s)))

  shown_there : (line : Bool) (p : Option (List ℕ)) → IsRight (certain f None regs below s (print_text line p s)) → (bytes : List ℕ) × (p ≡ Some bytes)
  shown_there line None r = absurd r
  shown_there line (Some bytes) r = (bytes, refl)

  prints_there : (c : Option Bool) (p : Option Value) → IsRight (prints_of c p) → ((b : Bool) × (c ≡ Some b)) × ((bytes : List ℕ) × (shown_of p ≡ Some bytes))
  prints_there None p r = absurd r
  prints_there (Some line) None r = absurd r
  prints_there (Some line) (Some v) r = ((line, refl), shown_there line (shown v) r)

  prints_so : (line : Bool) (bytes : List ℕ) (p : Option Value) → shown_of p ≡ Some bytes → prints_of (Some line) p ≡ certain f None regs below s (print_text line (Some bytes) s)
  prints_so line bytes None e = absurd (let x : ⊥ = cc in x)
  prints_so line bytes (Some v) e = ap (λ p. certain f None regs below s (print_text line p s)) e

printed_is : (line : Bool) (bytes all : List ℕ) (s : State) → all ≡ (if line then bytes ++ 10 ∷ [] else bytes) → print_text line (Some bytes) s ≡ gives None (printed all s)
printed_is true bytes all s e = ap (λ b. gives None (printed b s)) (sym e)
printed_is false bytes all s e = ap (λ b. gives None (printed b s)) (sym e)

module _ (cells : List (Option Cell)) (place from choice : ℕ) where
  pub prints_right : (h : (heap : HeapState) × (left : ℕ) × HasRule heap cells place left (i.Print from choice)) → ((b : Bool) × (truth_of choice ≡ Some b)) × ((names : List Place) × (bytes : List ℕ) × (shown_in names cells from ≡ Some bytes))
  prints_right h =
      let r = h.2 in
      let regs = values_in r.view.names cells in
      let x = prints_there (active r.scene r.view place cells) regs r.scene.below r.view.state (truth_of choice) (read regs from) r.right in
      (x.0, (r.view.names, x.1.0, x.1.1))

  pub prints : (line : Bool) (bytes all : List ℕ) → truth_of choice ≡ Some line → ((names : List Place) → shown_in names cells from ≡ Some bytes) → all ≡ (if line then bytes ++ 10 ∷ [] else bytes)
      → (heap : HeapState) (left : ℕ) → Prints all (i.Print from choice) heap cells place left stop.Going (place + 1)
  prints line bytes all e h is heap left s v runs right =
      let f = active s v place cells in
      let regs = values_in v.names cells in
      let w = after_printing all v in
      record {
        view = w;
        grows = same_names w w.state;
        runs = record { agrees = record { stands = runs.agrees.stands; regions = runs.agrees.regions; known = runs.agrees.known }; ticks_left = runs.ticks_left };
        ticks = refl;
        pieces = refl;
        frozen = refl;
        is =
            ap (λ c. prints_of f regs s.below v.state c (read regs from)) e
            ∙ prints_so f regs s.below v.state line bytes (read regs from) (h v.names)
            ∙ ap (certain f None regs s.below v.state) (printed_is line bytes all v.state is);
      }

-- ---- by the shape of a register

-- what is printed of what a register holds
pub shown_held : (names : List Place) (cells : List (Option Cell)) (r : ℕ) (c : Cell) → held cells r ≡ Some c → shown_in names cells r ≡ shown (value_of names c)
shown_held names cells r c e = ap shown_of (reads names cells r c e)

cell_there : (names : List Place) (o : Option Cell) (bytes : List ℕ) → shown_of (value_in names o) ≡ Some bytes → (c : Cell) × (o ≡ Some c)
cell_there names None bytes e = absurd (let x : ⊥ = cc in x)
cell_there names (Some c) bytes e = (c, refl)

by_shape : (names : List Place) (s : Shape) (b : Bool) (n : ℤ) (p : Place) (x bytes : List ℕ) → shown_of (value_in names (cell_of s b n p x)) ≡ Some bytes → (s ≡ shape.Int → ⊥) → (s ≡ shape.Truth → ⊥) → (s ≡ shape.Text → ⊥) → ⊥
by_shape names shape.Int b n p x bytes e i j k = i refl
by_shape names shape.Truth b n p x bytes e i j k = j refl
by_shape names shape.Text b n p x bytes e i j k = k refl
by_shape names shape.Empty b n p x bytes e i j k = let y : ⊥ = cc in y
by_shape names shape.Own b n p x bytes e i j k = let y : ⊥ = cc in y
by_shape names shape.Ref b n p x bytes e i j k = let y : ⊥ = cc in y
by_shape names shape.Iso b n p x bytes e i j k = let y : ⊥ = cc in y

module _ (t : ℕ → List ℕ) (rs : List Register) (r : ℕ) (h : (names : List Place) × (bytes : List ℕ) × (shown_in names (cells_in t rs) r ≡ Some bytes)) where
  pub shown_within : r < length rs
  shown_within =
      let c = cell_there h.0 (held (cells_in t rs) r) h.1 (sym (ap shown_of (read_values h.0 (cells_in t rs) r)) ∙ h.2) in
      within t rs r c.0 c.1

  pub never_shown : (s : Shape) → IsShaped rs r s → (s ≡ shape.Int → ⊥) → (s ≡ shape.Truth → ⊥) → (s ≡ shape.Text → ⊥) → ⊥
  never_shown s q =
      by_shape h.0 s q.truth q.number q.place (t r) h.1 (sym (ap shown_of (read_values h.0 (cells_in t rs) r ∙ ap (value_in h.0) (q.is t))) ∙ h.2)
