-- How functions are entered.
use Rattle.std.proofs.Common.{◌≡◌, ℕ, zero, suc, ◌+◌, ◌-◌, ◌<◌, ◌≤◌, List, [], ◌∷◌, ◌++◌, length, take, drop, reverse, Option, Some, None, true, false, nat_le, if◌then◌else◌, refl, sym, ap, ◌∙◌, subst, arith}
use Rattle.std.specs.Prelude.{slice_get}
use Rattle.std.proofs.lemmas.List.{length-reverse}
use Rattle.std.proofs.lemmas.Bool.Decides.{nat_tests}
use Rattle.vale_base.specs.Limits.{depth_limit}
use Rattle.vale_base.specs.declared.piece.Piece.{Piece}
use Rattle.vale_base.specs.declared.spot.Spot.{Spot}
use Rattle.vale_base.specs.declared.trap.TrapKind.TheVariants.{CallDepth}
use Rattle.vale_state_spec.specs.Outcome.{Cut}
use Rattle.vale_state_spec.specs.State.{State, spend_of, trap_under}
use Rattle.vale_state_spec.specs.World.{Value}
use Rattle.vale_code.specs.Act as a
use Rattle.vale_code.specs.Enter.{Form, Plain, form_of, with_func, with_form, if_called}
use Rattle.vale_code.specs.Frames.{Active, Running, Config, Next, On, Over, on, trap, under, deeper, after_tick, ticked}
use Rattle.vale_code.specs.Frames as frames
use Rattle.vale_code.specs.Instructions.{behind, with_read}
use Rattle.vale_code.specs.Kinds.{text_at, result_to}
use Rattle.vale_code.specs.Parts.{Parts}
use Rattle.vale_code.specs.Registers.{Registers, give_all, registers_for}
use Rattle.vale_code.specs.declared.func.Func.{Func}
use Rattle.vale_registers.specs.Passing.{from_base}
use Rattle.vale_registers.specs.Cells.{values_in, HasRegister}
use Rattle.vale_registers.specs.declared.cell.Cell.{Cell}
use Rattle.vale_machine.specs.View.{active, active_of, all_texts, below, call_of, calls_of, config_of, frames_in, frames_of, name_in, registers_of, row_of, state_of, state_with, HasRoom, IsLaid, Lie}
use Rattle.vale_machine.specs.declared.machine.Frame.{Frame}
use Rattle.vale_machine.specs.declared.machine.Machine.{Machine}
use Rattle.vale_machine.proofs.Frames.{last_first, row_size, same_frames, under_frames}

-- a function that is entered with these values
abbrev pub active_in : Parts → Func → ℕ → ℕ → Spot → List Value → Active
active_in code func g to at vs = record { call = record { what = text_at code func.name; at = at }; function = g; dest = result_to func.result to; place = 0; registers = registers_for func.registers vs }

abbrev pub callee_of : Parts → Func → ℕ → ℕ → Spot → List Value → frames.Frame
callee_of code func g to at vs = Running (active_in code func g to at vs)

pub same_func : (o : Option Func) (f g : Func) → o ≡ Some f → o ≡ Some g → f ≡ g
same_func o f g e h = let x : Some f ≡ Some g = sym e ∙ h in cc

-- ---- calls

module _ (code : Parts) (last : Config → State) (f : Active) (fs : List frames.Frame) (s : State) (to g : ℕ) (args : List ℕ) (at : Spot) where
  abbrev calls_it : Form → Func → Next
  calls_it form func = if_called form s (with_read (give_all func.params args f.registers) s (λ vs regs. a.called code last f fs s g form func to at vs regs))

  pub call_is : (func : Func) (vs : List Value) (regs : Registers) → slice_get code.funcs g ≡ Some func → func.form ≡ 0 → give_all func.params args f.registers ≡ Some (record { values = vs; after = regs })
      → a.call code last f fs s to g args at ≡ deeper 1 at (behind f regs ∷ fs) s (after_tick s (λ t. on (callee_of code func g to at vs) (behind f regs ∷ fs) t))
  call_is func vs regs found plain given =
      ap (λ o. with_func o s calls_it) found ∙ ap (λ n. with_form (form_of n) func s calls_it) plain
      ∙ ap (λ o. with_read o s (λ vs regs. a.called code last f fs s g Plain func to at vs regs)) given

-- ---- depth

pub count_under : (code : Parts) (fs : List Frame) (t : ℕ → List ℕ) (cells : List Cell) → length (under (frames_in code fs t cells)) ≡ length fs
count_under code [] t cells = refl
count_under code (f ∷ fs) t cells = ap suc (count_under code fs t (take f.base cells))

module _ (code : Parts) (taken : List Piece) (m : Machine) (at : Spot) (go : Next) where
  abbrev deep : Next
  deep = deeper 1 at (behind (active code m) (registers_of m) ∷ below code m) (state_of taken m) go

  size : length (under (behind (active code m) (registers_of m) ∷ below code m)) + 0 + 1 ≡ length m.below.items + 2
  size = omega (arith, count_under code (reverse m.below.items) (all_texts m) (take m.top.base (row_of m)), length-reverse m.below.items)

  pub too_deep : depth_limit < length m.below.items + 2 → deep ≡ Over (trap_under CallDepth at (calls_of code (frames_of m))) None (state_of taken m)
  too_deep lt =
      ap (λ b. if b then go else trap CallDepth at (behind (active code m) (registers_of m) ∷ below code m) (state_of taken m)) (ap (λ n. nat_le n depth_limit) size ∙ no (length m.below.items + 2) lt)
      ∙ ap (λ cs. Over (trap_under CallDepth at (call_of code m.top ∷ cs)) None (state_of taken m)) (under_frames code (reverse m.below.items) (all_texts m) (take m.top.base (row_of m)))
    where
      no : (n : ℕ) → depth_limit < n → nat_le n depth_limit ≡ false
      no n h = grind (arith, nat_tests)

  pub deep_enough : length m.below.items + 2 ≤ depth_limit → deep ≡ go
  deep_enough le = ap (λ b. if b then go else trap CallDepth at (behind (active code m) (registers_of m) ∷ below code m) (state_of taken m)) (ap (λ n. nat_le n depth_limit) size ∙ yes (length m.below.items + 2) le)
    where
      yes : (n : ℕ) → n ≤ depth_limit → nat_le n depth_limit ≡ true
      yes n h = grind (arith, nat_tests)

-- ---- ticks

pub no_tick : (s : State) (go : State → Next) → s.left ≡ 0 → after_tick s go ≡ Over Cut None s
no_tick s go e = ap (λ n. ticked (spend_of n s) s go) e

pub one_tick : (left given : ℕ) (pieces : List Piece) (go : State → Next) → 0 < left → left ≤ given → after_tick (state_with left (given - left) pieces) go ≡ go (state_with (left - 1) (given - (left - 1)) pieces)
one_tick left given pieces go lt le = at left lt le
  where
    at : (n : ℕ) → 0 < n → n ≤ given → after_tick (state_with n (given - n) pieces) go ≡ go (state_with (n - 1) (given - (n - 1)) pieces)
    at zero lt le = absurd (omega arith)
    at (suc n) lt le =
        let e : n ≡ suc n - 1 = omega arith in
        let h : given - suc n + 1 ≡ given - n = omega arith in
        ap (λ k. go (state_with n k pieces)) h ∙ ap (λ k. go (state_with k (given - k) pieces)) e

-- ---- the frame of a call

abbrev pub caller : Frame → Frame
caller top = record { function = top.function; at = top.at; dest = top.dest; place = top.place + 1; base = top.base }

-- what a machine is after a call of a function from another
pub record IsEntered (code : Parts) (func : Func) (old new : Machine) (to g : ℕ) (at : Spot) (vs : List Value) : Type 0 where
  pub found : slice_get code.funcs g ≡ Some func
  pub top : new.top ≡ record { function = g; at = at; dest = result_to func.result to; place = 0; base = old.end }
  pub end : new.end ≡ old.end + func.registers
  pub there : new.end ≤ length new.cells.items
  pub below : new.below.items ≡ old.below.items ++ caller old.top ∷ []
  pub registers : values_in (from_base old.end (all_texts new)) (drop old.end (row_of new)) ≡ registers_for func.registers vs
  pub under : take old.end (row_of new) ≡ row_of old
  pub texts : (i : ℕ) → i < old.end → all_texts new i ≡ all_texts old i
  pub left : new.left ≡ old.left - 1
  pub given : new.given ≡ old.given
  pub pieces : new.pieces.items ≡ old.pieces.items

module _ (code : Parts) (func : Func) (old new : Machine) (to g : ℕ) (at : Spot) (vs : List Value) (q : IsEntered code func old new to g at vs) where
  abbrev top_is : Frame
  top_is = record { function = g; at = at; dest = result_to func.result to; place = 0; base = old.end }

  order : reverse new.below.items ≡ caller old.top ∷ reverse old.below.items
  order = ap reverse q.below ∙ last_first old.below.items (caller old.top)

  abbrev go_on_below : List frames.Frame
  go_on_below = behind (active code old) (registers_of old) ∷ below code old

  -- the frames below are those of the caller, which goes on after its instruction
  frames_below : old.end ≤ length old.cells.items → frames_in code (caller old.top ∷ reverse old.below.items) (all_texts new) (row_of old) ≡ go_on_below
  frames_below there = same_frames code (caller old.top ∷ reverse old.below.items) (all_texts old) (all_texts new) (row_of old) (λ i lt. q.texts i (omega (arith, lt, row_size old there)))

  pub entered : old.end ≤ length old.cells.items → (taken : List Piece) → on (callee_of code func g to at vs) go_on_below (state_with (old.left - 1) (old.given - (old.left - 1)) (taken ++ old.pieces.items)) ≡ On (config_of code taken new)
  entered there taken =
      let regs : values_in (from_base new.top.base (all_texts new)) (drop new.top.base (row_of new)) ≡ registers_for func.registers vs =
      ap (λ (f : Frame). values_in (from_base f.base (all_texts new)) (drop f.base (row_of new))) q.top ∙ q.registers in
      let act : active code new ≡ active_in code func g to at vs =
      ap (λ (f : Frame). active_of code f (registers_of new)) q.top ∙ ap (active_of code top_is) regs ∙ ap (λ o. record { call = record { what = name_in code o; at = at }; function = g; dest = result_to func.result to; place = 0; registers = registers_for func.registers vs }) q.found in
      let bel : below code new ≡ go_on_below =
      ap (λ (f : Frame). frames_in code (reverse new.below.items) (all_texts new) (take f.base (row_of new))) q.top
      ∙ ap (frames_in code (reverse new.below.items) (all_texts new)) q.under
      ∙ ap (λ l. frames_in code l (all_texts new) (row_of old)) order
      ∙ frames_below there in
      let st : state_of taken new ≡ state_with (old.left - 1) (old.given - (old.left - 1)) (taken ++ old.pieces.items) =
      ap (λ n. state_with n (new.given - n) (taken ++ new.pieces.items)) q.left ∙ ap (λ n. state_with (old.left - 1) (n - (old.left - 1)) (taken ++ new.pieces.items)) q.given
      ∙ ap (λ ps. state_with (old.left - 1) (old.given - (old.left - 1)) (taken ++ ps)) q.pieces in
      sym (λ i. On (record { top = Running (act i); below = bel i; state = st i }))

  room_of : (o : Option ℕ) (n : ℕ) → HasRegister o (n - old.top.base) → HasRoom o n (caller old.top ∷ reverse old.below.items)
  room_of None n h = tt
  room_of (Some t) n h = omega arith

  pub lies : func.form ≡ 0 → HasRegister (result_to func.result to) (old.end - old.top.base) → IsLaid code old → IsLaid code new
  lies plain room laid = record {
    lie = subst (λ f. Lie code (f ∷ reverse new.below.items) new.end) (sym q.top)
        (subst (λ l. Lie code (top_is ∷ l) new.end) (sym order)
        (record { func = func; found = q.found; plain = plain; size = sym q.end }, room_of (result_to func.result to) old.end room, laid.lie));
    there = q.there;
  }
