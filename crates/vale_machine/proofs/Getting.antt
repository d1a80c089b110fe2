-- What a register gets.
use Rattle.std.proofs.Common.{◌≡◌, ◌≢◌, ℕ, ◌+◌, ◌-◌, ◌<◌, ◌≤◌, List, ◌∷◌, length, take, drop, reverse, Some, None, refl, sym, ap, ◌∙◌, arith}
use Rattle.std.specs.Prelude.{slice_set}
use Rattle.std.proofs.lemmas.List.{length-set, length-take-le}
use Rattle.vale_base.specs.declared.piece.Piece.{Piece}
use Rattle.vale_base.specs.declared.spot.Spot.{Spot}
use Rattle.vale_base.specs.declared.trap.TrapKind.{TrapKind}
use Rattle.vale_state_spec.specs.State.{trap_under}
use Rattle.vale_state_spec.specs.World.{Value}
use Rattle.vale_code.specs.Frames.{Running, On, Over, trap}
use Rattle.vale_code.specs.Instructions.{onward}
use Rattle.vale_code.specs.Parts.{Parts}
use Rattle.vale_code.specs.Registers.{Registers, put}
use Rattle.vale_registers.specs.Cells.{value_in, values_in}
use Rattle.vale_registers.specs.Passing.{from_base}
use Rattle.vale_registers.specs.Texts.{text_at}
use Rattle.vale_registers.specs.declared.cell.Cell.{Cell}
use Rattle.vale_registers.proofs.Bases.{below_written, take_set, written}
use Rattle.vale_machine.specs.Aside.{Gets, KeepsFrames, Receives}
use Rattle.vale_machine.specs.View.{active, active_of, all_texts, below, call_of, calls_of, config_of, frames_in, frames_of, own_cells, registers_of, row_of, state_of, KeepsPieces}
use Rattle.vale_machine.specs.declared.machine.Frame.{Frame}
use Rattle.vale_machine.specs.declared.machine.Machine.{Machine}
use Rattle.vale_machine.specs.declared.machine.Step.{Step}
use Rattle.vale_machine.specs.declared.machine.Step.TheVariants as told
use Rattle.vale_machine.proofs.Frames.{own_size, row_size, same_frames, same_state, under_frames}

-- a machine whose texts are others, but for those of one register
pub record IsTexted (register : ℕ) (old mid : Machine) : Type 0 where
  pub cells : mid.cells ≡ old.cells
  pub end : mid.end ≡ old.end
  pub top : mid.top ≡ old.top
  pub below : mid.below ≡ old.below
  pub left : mid.left ≡ old.left
  pub given : mid.given ≡ old.given
  pub pieces : mid.pieces ≡ old.pieces
  pub others : (i : ℕ) → i ≢ register → text_at mid.texts i ≡ text_at old.texts i

pub untexted : (register : ℕ) (m : Machine) → IsTexted register m m
untexted register m = record { cells = refl; end = refl; top = refl; below = refl; left = refl; given = refl; pieces = refl; others = λ i n. refl }

module _ (old mid new : Machine) (to : ℕ) (c : Cell) (v : Value) where
  abbrev base : ℕ
  base = old.top.base

  pub gets : IsTexted (base + to) old mid → Receives to c mid new → value_in c (text_at mid.texts (base + to)) ≡ Some v → base ≤ old.end → old.end ≤ length old.cells.items → to < old.end - base → Gets (put (registers_of old) to (Some v)) old new
  gets x r value few there lt =
      let items : mid.cells.items ≡ old.cells.items = ap (λ l. l.items) x.cells in
      let at : mid.top.base ≡ base = ap (λ (f : Frame). f.base) x.top in
      let top : new.top ≡ record old.top { place = old.top.place + 1 } = r.top ∙ ap (λ (f : Frame). record f { place = f.place + 1 }) x.top in
      let cells : new.cells.items ≡ slice_set old.cells.items (base + to) c = r.cells ∙ ap (λ n. slice_set mid.cells.items (n + to) c) at ∙ ap (λ l. slice_set l (base + to) c) items in
      let end : new.end ≡ old.end = r.end ∙ x.end in
      let row : row_of new ≡ slice_set (row_of old) (base + to) c = ap (λ n. take n new.cells.items) end ∙ ap (take old.end) cells ∙ take_set old.end old.cells.items (base + to) c (omega arith) in
      let room : to < length (own_cells old) = omega (arith, own_size old there) in
      let texts : (i : ℕ) → i ≢ base + to → text_at new.texts i ≡ text_at old.texts i = λ i n. ap (λ l. text_at l i) r.texts ∙ x.others i n in
      let own : value_in c (text_at new.texts (base + to)) ≡ Some v = ap (λ l. value_in c (text_at l (base + to))) r.texts ∙ value in
      record {
        top = top;
        registers = ap (λ (f : Frame). values_in (from_base f.base (all_texts new)) (drop f.base (row_of new))) top
            ∙ ap (λ l. values_in (from_base base (all_texts new)) (drop base l)) row
            ∙ written (all_texts old) (all_texts new) (row_of old) base to c (λ i n less. texts (base + i) (λ e. n (omega (arith, e)))) room
            ∙ ap (put (registers_of old) to) own;
        below = λ code. ap (λ (f : Frame). frames_in code (reverse new.below.items) (all_texts new) (take f.base (row_of new))) top
            ∙ ap (λ l. frames_in code (reverse l.items) (all_texts new) (take base (row_of new))) (r.below ∙ x.below)
            ∙ ap (λ l. frames_in code (reverse old.below.items) (all_texts new) (take base l)) row
            ∙ ap (frames_in code (reverse old.below.items) (all_texts new)) (below_written (row_of old) base to c)
            ∙ same_frames code (reverse old.below.items) (all_texts old) (all_texts new) (take base (row_of old)) (λ i less. texts i (λ e. absurd (omega (arith, e, less, length-take-le base (row_of old) (omega (arith, few, row_size old there))))));
        frames = r.below ∙ x.below;
        end = end;
        cells = ap length cells ∙ length-set old.cells.items (base + to) c;
        left = r.left ∙ x.left;
        given = r.given ∙ x.given;
        pieces = r.pieces ∙ x.pieces;
      }

-- what a register gets is what the instruction leads to
pub goes_on : (code : Parts) (taken : List Piece) (old new : Machine) (regs : Registers) → Gets regs old new → onward (active code old) regs (below code old) (state_of taken old) ≡ On (config_of code taken new)
goes_on code taken old new regs g =
    let act : active code new ≡ active_of code (record old.top { place = old.top.place + 1 }) regs = ap (λ (f : Frame). active_of code f (registers_of new)) g.top ∙ ap (active_of code (record old.top { place = old.top.place + 1 })) g.registers in
    let st : state_of taken new ≡ state_of taken old = same_state taken old new g.left g.given (ap (λ l. l.items) g.pieces) in
    sym (λ i. On (record { top = Running (act i); below = g.below code i; state = st i }))

pub trap_told : (code : Parts) (taken : List Piece) (m : Machine) (kind : TrapKind) (at : Spot)
    → trap kind at (Running (active code m) ∷ below code m) (state_of taken m) ≡ Over (trap_under kind at (calls_of code (frames_of m))) None (state_of taken m)
trap_told code taken m kind at =
    ap (λ cs. Over (trap_under kind at (call_of code m.top ∷ cs)) None (state_of taken m)) (under_frames code (reverse m.below.items) (all_texts m) (take m.top.base (row_of m)))

-- ---- frames that stay

pub frames_kept : (t : Step) (old new : Machine) (regs : Registers) → Gets regs old new → KeepsFrames t old new
frames_kept t old new regs g = record {
  top = g.top ∙ ap (λ (f : Frame). record old.top { place = f.place }) (sym g.top);
  below = g.frames;
  end = g.end;
  cells = g.cells;
  ticks = record { given = g.given; left = omega (arith, g.left) };
  kept = kept t (ap (λ l. l.items) g.pieces);
}
  where
    kept : (t : Step) → new.pieces.items ≡ old.pieces.items → KeepsPieces t old new
    kept told.Memory e = e
    kept _ e = tt

pub kept_as : (t : Step) (old new : Machine) → KeepsFrames told.Memory old new → KeepsFrames t old new
kept_as t old new k = record { top = k.top; below = k.below; end = k.end; cells = k.cells; ticks = k.ticks; kept = kept t k.kept }
  where
    kept : (t : Step) → new.pieces.items ≡ old.pieces.items → KeepsPieces t old new
    kept told.Memory e = e
    kept _ e = tt

pub frames_same : (t : Step) (m : Machine) → KeepsFrames t m m
frames_same t m = record { top = refl; below = refl; end = refl; cells = refl; ticks = record { given = refl; left = omega arith }; kept = kept t }
  where
    kept : (t : Step) → KeepsPieces t m m
    kept told.Memory = refl
    kept _ = tt

pub texted_kept : (register : ℕ) (old new : Machine) → IsTexted register old new → KeepsFrames told.Memory old new
texted_kept register old new x = record {
  top = x.top ∙ ap (λ (f : Frame). record old.top { place = f.place }) (sym x.top);
  below = x.below;
  end = x.end;
  cells = ap (λ l. length l.items) x.cells;
  ticks = record { given = x.given; left = omega (arith, x.left) };
  kept = ap (λ l. l.items) x.pieces;
}
