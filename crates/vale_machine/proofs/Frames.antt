-- Frames and their registers in one row of cells, with their texts in another.
use Rattle.std.proofs.Common.{◌≡◌, ℕ, zero, suc, ◌+◌, ◌-◌, ◌<◌, ◌≤◌, List, [], ◌∷◌, ◌++◌, length, take, drop, reverse, Some, refl, sym, ap, ◌∙◌, arith}
use Rattle.std.specs.Prelude.{slice_get}
use Rattle.std.proofs.lemmas.List.{length-drop, length-take-le, reverse-append, take-take}
use Rattle.vale_base.specs.declared.piece.Piece.{Piece}
use Rattle.vale_code.specs.Frames.{Running, under}
use Rattle.vale_code.specs.Instructions.{instruction_in}
use Rattle.vale_code.specs.Parts.{Parts}
use Rattle.vale_code.specs.declared.func.Func.{Func}
use Rattle.vale_registers.specs.Cells.{values_in}
use Rattle.vale_registers.specs.Passing.{from_base}
use Rattle.vale_registers.specs.declared.cell.Cell.{Cell}
use Rattle.vale_registers.proofs.Registers.{same_values}
use Rattle.vale_turn.specs.Served.{AreFit}
use Rattle.vale_machine.specs.Lawful.{IsRunnable}
use Rattle.vale_machine.specs.View.{active_of, call_of, calls_of, frames_in, own_cells, row_of, state_of, state_with}
use Rattle.vale_machine.specs.declared.machine.Frame.{Frame}
use Rattle.vale_machine.specs.declared.machine.Machine.{Machine}

-- ---- the cells of all frames

pub row_size : (m : Machine) → m.end ≤ length m.cells.items → length (row_of m) ≡ m.end
row_size m le = length-take-le m.end m.cells.items le

pub own_size : (m : Machine) → m.end ≤ length m.cells.items → length (own_cells m) ≡ m.end - m.top.base
own_size m le = omega (arith, row_size m le, length-drop m.top.base (row_of m))

-- the cells that are there stay while others are put behind them
pub same_row : (old new : List Cell) (n : ℕ) → n ≤ length old → take (length old) new ≡ old → take n new ≡ take n old
same_row old new n le e = sym (take-take n (length old) new le) ∙ ap (take n) e

pub fit_function : (code : Parts) (function : ℕ) (func : Func) → IsRunnable code → slice_get code.funcs function ≡ Some func → AreFit code function func.registers
fit_function code function func r found = record { fit = λ place instr e. r.fits function place func instr found (sym (ap (λ o. instruction_in o place) found) ∙ e) }

-- ---- frames below

pub same_frames : (code : Parts) (fs : List Frame) (t u : ℕ → List ℕ) (cells : List Cell) → ((i : ℕ) → i < length cells → u i ≡ t i) → frames_in code fs u cells ≡ frames_in code fs t cells
same_frames code [] t u cells same = refl
same_frames code (f ∷ fs) t u cells same =
    let own = same_values (from_base f.base t) (from_base f.base u) (drop f.base cells) (λ i lt. same (f.base + i) (omega (arith, lt, length-drop f.base cells))) in
    let more = same_frames code fs t u (take f.base cells) (λ i lt. same i (shorter f.base cells i lt)) in
    ap (λ r. Running (active_of code f r) ∷ frames_in code fs u (take f.base cells)) own ∙ ap (λ l. Running (active_of code f (values_in (from_base f.base t) (drop f.base cells))) ∷ l) more
  where
    shorter : (n : ℕ) (xs : List Cell) (i : ℕ) → i < length (take n xs) → i < length xs
    shorter zero [] i lt = lt
    shorter zero (x ∷ xs) i lt = absurd (omega arith)
    shorter (suc n) [] i lt = lt
    shorter (suc n) (x ∷ xs) zero lt = omega arith
    shorter (suc n) (x ∷ xs) (suc i) lt = let h = shorter n xs i (omega arith) in omega (arith, h)

pub under_frames : (code : Parts) (fs : List Frame) (t : ℕ → List ℕ) (cells : List Cell) → under (frames_in code fs t cells) ≡ calls_of code fs
under_frames code [] t cells = refl
under_frames code (f ∷ fs) t cells = ap (λ l. call_of code f ∷ l) (under_frames code fs t (take f.base cells))

pub length_calls : (code : Parts) (fs : List Frame) → length (calls_of code fs) ≡ length fs
length_calls code [] = refl
length_calls code (f ∷ fs) = ap suc (length_calls code fs)

pub last_first : (fs : List Frame) (f : Frame) → reverse (fs ++ f ∷ []) ≡ f ∷ reverse fs
last_first fs f = reverse-append fs (f ∷ [])

-- ---- states

pub same_state : (taken : List Piece) (old new : Machine) → new.left ≡ old.left → new.given ≡ old.given → new.pieces.items ≡ old.pieces.items → state_of taken new ≡ state_of taken old
same_state taken old new left given pieces = λ i. state_with (left i) (given i - left i) (taken ++ pieces i)
