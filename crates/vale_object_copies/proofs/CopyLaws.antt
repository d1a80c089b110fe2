-- What is copied, by names.
use Rattle.std.proofs.Common.{◌≡◌, ℕ, ◌+◌, ◌<◌, List, length, Option, Some, None, refl, sym, ap, subst, ◌∙◌}
use Rattle.std.specs.Prelude.{slice_set}
use Rattle.vale_state_spec.specs.State.{State}
use Rattle.vale_code.specs.Frames.{Active, Frame}
use Rattle.vale_code.specs.Instructions.{copied, gets, onward, with_value}
use Rattle.vale_code.specs.Registers.{Registers, put}
use Rattle.vale_code.specs.declared.instr.Instr.TheVariants as i
use Rattle.vale_heap.specs.HeapState.{HeapState}
use Rattle.vale_heap.specs.declared.body.Cell.{Cell}
use Rattle.vale_heap.specs.declared.body.Cell.TheVariants.{Int, Truth, Text, Own, Ref, Iso}
use Rattle.vale_heap.specs.declared.body.Place.{Place}
use Rattle.vale_turn.specs.View.{IsRight}
use Rattle.vale_turn.specs.declared.stop.Stop.TheVariants as stop
use Rattle.vale_object_cells.specs.Cells.{cell_of, cells_in, held}
use Rattle.vale_object_cells.specs.Cells.{IsShaped}
use Rattle.vale_object_cells.specs.Names.{AllKnown, value_in, value_of, values_in}
use Rattle.vale_object_cells.specs.declared.register.Register.{Register}
use Rattle.vale_object_cells.specs.declared.register.Shape.{Shape}
use Rattle.vale_object_cells.specs.declared.register.Shape.TheVariants as shape
use Rattle.vale_object_cells.proofs.Holding.{within}
use Rattle.vale_object_cells.proofs.Naming.{known_put, put_values, read_values}
use Rattle.vale_object_steps.proofs.FieldLaws.{same_names}
use Rattle.vale_object_turn.specs.Steps.{HasRule, Obeys, active}
use Rattle.vale_object_copies.specs.Copies.{HoldsCopied, IsCopied}

copied_there : (names : List Place) (o : Option Cell) (f : Active) (to : ℕ) (regs : Registers) (below : List Frame) (s : State) → IsRight (with_value (value_in names o) s (λ v. gets f to (copied v) regs below s)) → (c : Cell) × (o ≡ Some c) × IsCopied c
copied_there names None f to regs below s r = absurd r
copied_there names (Some (Int z)) f to regs below s r = (Int z, refl, tt)
copied_there names (Some (Truth b)) f to regs below s r = (Truth b, refl, tt)
copied_there names (Some (Text t)) f to regs below s r = (Text t, refl, tt)
copied_there names (Some (Ref p)) f to regs below s r = (Ref p, refl, tt)
copied_there names (Some (Own p)) f to regs below s r = absurd r
copied_there names (Some (Iso p)) f to regs below s r = absurd r

copied_on : (names : List Place) (c : Cell) (f : Active) (to : ℕ) (regs : Registers) (below : List Frame) (s : State) → IsCopied c → gets f to (copied (value_of names c)) regs below s ≡ onward f (put regs to (Some (value_of names c))) below s
copied_on names (Int z) f to regs below s k = refl
copied_on names (Truth b) f to regs below s k = refl
copied_on names (Text t) f to regs below s k = refl
copied_on names (Ref p) f to regs below s k = refl
copied_on names (Own p) f to regs below s k = absurd k
copied_on names (Iso p) f to regs below s k = absurd k

module _ (cells : List (Option Cell)) (place to a : ℕ) where
  pub cell_copied : (heap : HeapState) (left : ℕ) → HasRule heap cells place left (i.Copy to a) → (c : Cell) × (held cells a ≡ Some c) × IsCopied c
  cell_copied heap left r =
      let regs = values_in r.view.names cells in
      let f = active r.scene r.view place cells in
      let s = r.view.state in
      copied_there r.view.names (held cells a) f to regs r.scene.below s (subst (λ o. IsRight (with_value o s (λ v. gets f to (copied v) regs r.scene.below s))) (read_values r.view.names cells a) r.right)

  pub copies : (new : List (Option Cell)) (c : Cell) → held cells a ≡ Some c → IsCopied c → to < length cells → new ≡ slice_set cells to (held cells a) → (heap : HeapState) (left : ℕ) → Obeys (i.Copy to a) heap cells place left stop.Going heap new (place + 1) left
  copies new c holds is lt written heap left s v runs right =
      let f = active s v place cells in
      let regs = values_in v.names cells in
      let now : new ≡ slice_set cells to (Some c) = written ∙ ap (slice_set cells to) holds in
      record {
        view = v;
        grows = same_names v v.state;
        runs = record {
          agrees = record {
            stands = runs.agrees.stands;
            regions = runs.agrees.regions;
            known = subst (AllKnown v.names) (sym written) (known_put v.names cells to (held cells a) runs.agrees.known (runs.agrees.known a));
          };
          ticks_left = runs.ticks_left;
        };
        ticks = refl;
        pieces = refl;
        frozen = refl;
        is =
            ap (λ o. with_value o v.state (λ w. gets f to (copied w) regs s.below v.state)) (read_values v.names cells a ∙ ap (value_in v.names) holds)
            ∙ copied_on v.names c f to regs s.below v.state is
            ∙ ap (λ rs. onward f rs s.below v.state) (sym (ap (values_in v.names) now ∙ put_values v.names cells to (Some c) lt));
      }

-- ---- by the shape of a register

module _ (registers : List Register) (a : ℕ) where
  pub copied_within : HoldsCopied registers a → a < length registers
  copied_within h = within h.0 registers a h.1 h.2

  pub text_shaped : (s : Shape) → IsShaped registers a s → s ≡ shape.Text → (t : ℕ → List ℕ) → held (cells_in t registers) a ≡ Some (Text (t a))
  text_shaped s h e t = h.is t ∙ ap (λ x. cell_of x h.truth h.number h.place (t a)) e

  same_copied : (c d : Cell) → Some c ≡ Some d → IsCopied d → IsCopied c
  same_copied c d e k = let is : c ≡ d = cc in subst IsCopied (sym is) k

  by_shape : (s : Shape) (h : IsShaped registers a s) (x : List ℕ) (c : Cell) → cell_of s h.truth h.number h.place x ≡ Some c → IsCopied c → (s ≡ shape.Int → ⊥) → (s ≡ shape.Truth → ⊥) → (s ≡ shape.Text → ⊥) → (s ≡ shape.Ref → ⊥) → ⊥
  by_shape shape.Int h x c e k p q u w = p refl
  by_shape shape.Truth h x c e k p q u w = q refl
  by_shape shape.Text h x c e k p q u w = u refl
  by_shape shape.Ref h x c e k p q u w = w refl
  by_shape shape.Empty h x c e k p q u w = let y : ⊥ = cc in y
  by_shape shape.Own h x c e k p q u w = same_copied (Own h.place) c e k
  by_shape shape.Iso h x c e k p q u w = same_copied (Iso h.place) c e k

  pub never : (s : Shape) → IsShaped registers a s → HoldsCopied registers a → (s ≡ shape.Int → ⊥) → (s ≡ shape.Truth → ⊥) → (s ≡ shape.Text → ⊥) → (s ≡ shape.Ref → ⊥) → ⊥
  never s h k p q u w = by_shape s h (k.0 a) k.1 (sym (h.is k.0) ∙ k.2) k.3 p q u w
