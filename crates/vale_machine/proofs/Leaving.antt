-- How functions are left.
use Rattle.std.proofs.Common.{◌≡◌, ℕ, ◌+◌, ◌-◌, ◌<◌, ◌≤◌, List, [], ◌∷◌, ◌++◌, length, take, drop, reverse, Option, Some, None, refl, sym, ap, ◌∙◌, subst, arith}
use Rattle.std.proofs.lemmas.List.{length-drop, length-take-le, take-take}
use Rattle.vale_base.specs.declared.piece.Piece.{Piece}
use Rattle.vale_state_spec.specs.Outcome.{Done}
use Rattle.vale_state_spec.specs.World.{Value}
use Rattle.vale_code.specs.Frames.{Running, On, Over, leave, resume, on}
use Rattle.vale_code.specs.Parts.{Parts}
use Rattle.vale_code.specs.Registers.{Registers, with_result}
use Rattle.vale_registers.specs.Cells.{values_in, HasRegister}
use Rattle.vale_registers.specs.Texts.{text_at}
use Rattle.vale_registers.specs.declared.cell.Cell.{Cell}
use Rattle.vale_registers.proofs.Registers.{same_values}
use Rattle.vale_registers.specs.Passing.{IsHanded, from_base, values_from}
use Rattle.vale_machine.specs.Calls.{IsUncovered, leave_next}
use Rattle.vale_machine.specs.View.{active_of, all_texts, config_of, frames_in, registers_of, row_of, state_of, HasRoom, IsLaid, Lie}
use Rattle.vale_machine.specs.declared.machine.Frame.{Frame}
use Rattle.vale_machine.specs.declared.machine.Machine.{Machine}
use Rattle.vale_machine.proofs.Frames.{last_first, row_size, same_frames, same_state}

-- ---- the frame below

resumed : (dest : Option ℕ) (v : Option Value) (code : Parts) (f : Frame) (regs : Registers) → resume dest v (Running (active_of code f regs)) ≡ Running (active_of code f (with_result dest v regs))
resumed None v code f regs = refl
resumed (Some to) None code f regs = refl
resumed (Some to) (Some v) code f regs = refl

module _ (code : Parts) (taken : List Piece) (old : Machine) (v : Option Value) where
  pub nothing_below : old.below.items ≡ [] → leave_next code taken old v ≡ Over Done v (state_of taken old)
  nothing_below e = ap (λ l. leave (frames_in code (reverse l) (all_texts old) (take old.top.base (row_of old))) old.top.dest v (state_of taken old)) e

-- a machine after its innermost function was left, where a value was handed to the one below
pub record IsLeft (old new : Machine) (f : Frame) (v : Option Value) : Type 0 where
  pub top : new.top ≡ f
  pub below : old.below.items ≡ new.below.items ++ f ∷ []
  pub end : new.end ≡ old.top.base
  pub there : new.end ≤ length new.cells.items
  pub above : values_in (from_base f.base (all_texts new)) (drop f.base (row_of new)) ≡ with_result old.top.dest v (values_in (from_base f.base (all_texts old)) (drop f.base (take old.top.base (row_of old))))
  pub under : take f.base (row_of new) ≡ take f.base (take old.top.base (row_of old))
  pub texts : (i : ℕ) → i < f.base → all_texts new i ≡ all_texts old i
  pub base : f.base ≤ new.end
  pub left : new.left ≡ old.left
  pub given : new.given ≡ old.given
  pub pieces : new.pieces ≡ old.pieces

module _ (code : Parts) (old new : Machine) (f : Frame) (v : Option Value) (q : IsLeft old new f v) where
  order : reverse old.below.items ≡ f ∷ reverse new.below.items
  order = ap reverse q.below ∙ last_first new.below.items f

  pub goes_back : (taken : List Piece) → leave_next code taken old v ≡ On (config_of code taken new)
  goes_back taken =
      let s = state_of taken old in
      let row = take old.top.base (row_of old) in
      let regs : registers_of new ≡ with_result old.top.dest v (values_in (from_base f.base (all_texts old)) (drop f.base row)) =
      ap (λ (g : Frame). values_in (from_base g.base (all_texts new)) (drop g.base (row_of new))) q.top ∙ q.above in
      let act : active_of code new.top (registers_of new) ≡ active_of code f (with_result old.top.dest v (values_in (from_base f.base (all_texts old)) (drop f.base row))) =
      ap (λ (g : Frame). active_of code g (registers_of new)) q.top ∙ ap (active_of code f) regs in
      let bel : frames_in code (reverse new.below.items) (all_texts new) (take new.top.base (row_of new)) ≡ frames_in code (reverse new.below.items) (all_texts old) (take f.base row) =
      ap (λ (g : Frame). frames_in code (reverse new.below.items) (all_texts new) (take g.base (row_of new))) q.top
      ∙ same_frames code (reverse new.below.items) (all_texts old) (all_texts new) (take f.base (row_of new)) (λ i lt. q.texts i (omega (arith, lt, length-take-le f.base (row_of new) (omega (arith, q.base, row_size new q.there)))))
      ∙ ap (frames_in code (reverse new.below.items) (all_texts old)) q.under in
      let st : state_of taken new ≡ s = same_state taken old new q.left q.given (ap (λ l. l.items) q.pieces) in
      ap (λ l. leave (frames_in code l (all_texts old) row) old.top.dest v s) order
      ∙ ap (λ r. on r (frames_in code (reverse new.below.items) (all_texts old) (take f.base row)) s) (resumed old.top.dest v code f (values_in (from_base f.base (all_texts old)) (drop f.base row)))
      ∙ sym (λ i. On (record { top = Running (act i); below = bel i; state = st i }))

  pub lies_back : IsLaid code old → IsLaid code new
  lies_back laid = record {
    lie = subst (λ g. Lie code (g ∷ reverse new.below.items) new.end) (sym q.top)
        (subst (λ n. Lie code (f ∷ reverse new.below.items) n) (sym q.end) (subst (λ l. Lie code l old.top.base) order laid.lie.2));
    there = q.there;
  }

pub room_back : (more below : List Frame) (f : Frame) (dest : Option ℕ) (base : ℕ) → below ≡ more ++ f ∷ [] → HasRoom dest base (reverse below) → HasRegister dest (base - f.base)
room_back more below f dest base e h = at dest (subst (λ l. HasRoom dest base l) (ap reverse e ∙ last_first more f) h)
  where
    at : (o : Option ℕ) → HasRoom o base (f ∷ reverse more) → HasRegister o (base - f.base)
    at None h = tt
    at (Some to) h = omega arith

pub base_back : (code : Parts) (more below : List Frame) (f : Frame) (count : ℕ) → below ≡ more ++ f ∷ [] → Lie code (reverse below) count → f.base ≤ count
base_back code more below f count e laid = at (subst (λ l. Lie code l count) (ap reverse e ∙ last_first more f) laid)
  where
    at : Lie code (f ∷ reverse more) count → f.base ≤ count
    at h = omega (arith, h.0.size)

pub none_left : (fs rest : List Frame) (n : ℕ) → n ≡ 0 → rest ≡ take (n - 1) fs → fs ≡ rest ++ [] → fs ≡ []
none_left fs rest n e h same = same ∙ ap (λ l. l ++ []) (h ∙ ap (λ k. take (k - 1) fs) e)

-- ---- a function that is left

pub record IsAlike (old mid : Machine) : Type 0 where
  pub top : mid.top ≡ old.top
  pub left : mid.left ≡ old.left
  pub given : mid.given ≡ old.given
  pub pieces : mid.pieces ≡ old.pieces

module _ (old mid new : Machine) (f : Frame) (v : Option Value) where
  pub left_by : IsAlike old mid → old.below.items ≡ mid.below.items ++ f ∷ [] → IsHanded f.base old.top.base old.top.dest v old.cells.items old.texts mid.cells.items mid.texts → IsUncovered f mid new
      → f.base ≤ old.top.base → old.top.base ≤ old.end → old.end ≤ length old.cells.items → IsLeft old new f v
  left_by alike below h u under few there =
      let base = f.base in
      let top = old.top.base in
      let end : new.end ≡ top = u.end ∙ ap (λ (g : Frame). g.base) alike.top in
      let row : row_of new ≡ take top mid.cells.items = ap (λ n. take n new.cells.items) end ∙ ap (λ l. take top l.items) u.cells in
      let was : take top (row_of old) ≡ take top old.cells.items = take-take top old.end old.cells.items few in
      let size : length (take top mid.cells.items) ≡ top = length-take-le top mid.cells.items (omega (arith, h.size, few, there)) in
      let whole : length (drop base (take top mid.cells.items)) ≡ top - base = omega (arith, length-drop base (take top mid.cells.items), size) in
      let same : (i : ℕ) → i < top → text_at new.texts i ≡ text_at mid.texts i = λ i lt. u.texts i (omega (arith, lt, end, u.end)) in
      record {
        top = u.top;
        below = below ∙ ap (λ l. l ++ f ∷ []) (sym (ap (λ l. l.items) u.below));
        end = end;
        there = omega (arith, end, ap (λ l. length l.items) u.cells, h.size, few, there);
        above = ap (λ l. values_in (from_base base (text_at new.texts)) (drop base l)) row
            ∙ same_values (from_base base (text_at mid.texts)) (from_base base (text_at new.texts)) (drop base (take top mid.cells.items)) (λ i lt. same (base + i) (omega (arith, lt, whole)))
            ∙ h.above ∙ ap (λ l. with_result old.top.dest v (values_in (from_base base (all_texts old)) (drop base l))) (sym was);
        under = ap (take base) row ∙ take-take base top mid.cells.items under ∙ h.below ∙ sym (take-take base top old.cells.items under) ∙ ap (take base) (sym was);
        texts = λ i lt. same i (omega (arith, lt, under)) ∙ h.others i lt;
        base = omega (arith, end, under);
        left = u.left ∙ alike.left;
        given = u.given ∙ alike.given;
        pieces = u.pieces ∙ alike.pieces;
      }

-- a machine that hands nothing down
pub nothing_handed : (base top : ℕ) (dest : Option ℕ) (cells : List Cell) (texts : List (List ℕ)) → IsHanded base top dest None cells texts cells texts
nothing_handed base top dest cells texts = record { size = refl; above = sym (with_none dest (values_from base texts (take top cells))); below = refl; others = λ i lt. refl }
  where
    with_none : (o : Option ℕ) (regs : Registers) → with_result o None regs ≡ regs
    with_none None regs = refl
    with_none (Some to) regs = refl
