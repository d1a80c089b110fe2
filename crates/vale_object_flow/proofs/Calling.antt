-- How functions are entered.
use Rattle.std.proofs.Common.{◌≡◌, ℕ, zero, suc, ◌+◌, ◌-◌, ◌<◌, ◌≤◌, ◌++◌, List, [], ◌∷◌, length, take, drop, map, replicate, Option, Some, None, refl, sym, ap, subst, ◌∙◌, arith}
use Rattle.std.specs.Prelude.{IsSome, slice_get}
use Rattle.std.proofs.lemmas.List.{length-take-le, take-take}
use Rattle.vale_base.specs.Limits.{depth_limit}
use Rattle.vale_base.specs.declared.spot.Spot.{Spot}
use Rattle.vale_base.specs.declared.trap.TrapKind.TheVariants.{CallDepth}
use Rattle.vale_state_spec.specs.Outcome.{Cut}
use Rattle.vale_state_spec.specs.State.{State}
use Rattle.vale_state_spec.specs.World.{Value}
use Rattle.vale_code.specs.Act as act
use Rattle.vale_code.specs.Enter.{Form, Plain, form_of, if_called, with_form, with_func}
use Rattle.vale_code.specs.Frames as meaning
use Rattle.vale_code.specs.Frames.{Config, Next, Over, after_tick, deeper, on, trap, under}
use Rattle.vale_code.specs.Instructions.{behind, with_read}
use Rattle.vale_code.specs.Kinds.{result_to, text_at}
use Rattle.vale_code.specs.Parts.{Parts}
use Rattle.vale_code.specs.Registers.{Read, Registers, give_all, registers_for}
use Rattle.vale_code.specs.declared.func.Func.{Func}
use Rattle.vale_code.specs.declared.ty.Ty.{Ty}
use Rattle.vale_registers.specs.Cells.{HasRegister}
use Rattle.vale_heap.specs.HeapState.{HeapState}
use Rattle.vale_heap.specs.declared.body.Cell.{Cell}
use Rattle.vale_heap.specs.declared.body.Place.{Place}
use Rattle.vale_turn.specs.View.{IsRight}
use Rattle.vale_object_cells.specs.Cells.{cells_from, held}
use Rattle.vale_object_cells.specs.Names.{AllKnown, Knows, values_in}
use Rattle.vale_object_cells.specs.declared.register.Register.{Register}
use Rattle.vale_object_steps.specs.Views.{Steady, View}
use Rattle.vale_object_steps.proofs.FieldLaws.{same_names}
use Rattle.vale_object_turn.specs.Destroying.{after_tick_of}
use Rattle.vale_object_turn.proofs.BirthLaws.{not_ticked, ticked_on}
use Rattle.vale_object_turn.proofs.Destroying.{deep_enough, too_deep}
use Rattle.vale_object_passing.specs.Giving.{give_from}
use Rattle.vale_object_passing.specs.Passing.{IsPassed, cells_of}
use Rattle.vale_object_passing.proofs.Giving.{given_by_names, gives_cells}
use Rattle.vale_object_frames.specs.Frames.{AreKnown, HasRoom, IsPlain, active_of, frames_in, name_in, told_of}
use Rattle.vale_object_frames.specs.declared.frame.Active.{Active}
use Rattle.vale_object_frames.specs.declared.frame.Frame.{Frame}
use Rattle.vale_object_frames.specs.declared.frame.Frame.TheVariants as frame
use Rattle.vale_object_frames.proofs.FrameLaws.{as_many_calls, frames_same, known_same}
use Rattle.vale_object_flow.specs.Flow.{CanCall, GoesOn, Runs, active, all_frames, below, call_next, frames_of, row_of}
use Rattle.vale_object_flow.specs.declared.control.Control.{Control}
use Rattle.vale_object_flow.proofs.Entering.{object_values, registers_are}

-- ---- what a call leads to

module _ (code : Parts) (last : Config → State) (f : meaning.Active) (fs : List meaning.Frame) (s : State) (to g : ℕ) (args : List ℕ) (at : Spot) where
  abbrev calls_it : Form → Func → Next
  calls_it form func = if_called form s (with_read (give_all func.params args f.registers) s (λ vs regs. act.called code last f fs s g form func to at vs regs))

  abbrev callee_of : Func → List Value → meaning.Frame
  callee_of func vs = meaning.Running (record { call = record { what = text_at code func.name; at = at }; function = g; dest = result_to func.result to; place = 0; registers = registers_for func.registers vs })

  read_is : (func : Func) → slice_get code.funcs g ≡ Some func → func.form ≡ 0
      → act.call code last f fs s to g args at ≡ with_read (give_all func.params args f.registers) s (λ vs regs. act.called code last f fs s g Plain func to at vs regs)
  read_is func found plain = ap (λ o. with_func o s calls_it) found ∙ ap (λ n. with_form (form_of n) func s calls_it) plain

  pub call_is : (func : Func) (vs : List Value) (regs : Registers) → slice_get code.funcs g ≡ Some func → func.form ≡ 0 → give_all func.params args f.registers ≡ Some (record { values = vs; after = regs })
      → act.call code last f fs s to g args at ≡ deeper 1 at (behind f regs ∷ fs) s (after_tick s (λ t. on (callee_of func vs) (behind f regs ∷ fs) t))
  call_is func vs regs found plain given = read_is func found plain ∙ ap (λ o. with_read o s (λ vs regs. act.called code last f fs s g Plain func to at vs regs)) given

  there : (o : Option Read) (go : List Value → Registers → Next) → IsRight (with_read o s go) → (x : Read) × (o ≡ Some x)
  there None go r = absurd r
  there (Some x) go r = (x, refl)

  pub reads : (func : Func) → slice_get code.funcs g ≡ Some func → func.form ≡ 0 → IsRight (act.call code last f fs s to g args at) → (x : Read) × (give_all func.params args f.registers ≡ Some x)
  reads func found plain right = there (give_all func.params args f.registers) (λ vs regs. act.called code last f fs s g Plain func to at vs regs) (subst IsRight (read_is func found plain) right)

pub given_there : (code : Parts) (c : Control) (to g : ℕ) (args : List ℕ) (at : Spot) (func : Func) → slice_get code.funcs g ≡ Some func → func.form ≡ 0 → CanCall code c to g args at
    → IsSome (give_from [] func.params args (cells_of c.top.base c.end c.texts c.registers.items))
given_there code c to g args at func found plain can =
    let x = reads code can.last (active code can.view c) (below code can.view c) can.view.state to g args at func found plain can.right in
    gives_cells can.view.names [] func.params args (cells_of c.top.base c.end c.texts c.registers.items) x.0 x.1

-- ---- what is known of a function that is entered

no_cell_known : (names : List Place) (n r : ℕ) → Knows names (held (replicate n None) r)
no_cell_known names zero r p e = absurd (let x : ⊥ = cc in x)
no_cell_known names (suc n) zero p e = absurd (let x : ⊥ = cc in x)
no_cell_known names (suc n) (suc r) p e = no_cell_known names n r p e

pub padded_known : (names : List Place) (cells : List (Option Cell)) (n : ℕ) → AllKnown names cells → AllKnown names (cells ++ replicate n None)
padded_known names [] n k r = no_cell_known names n r
padded_known names (c ∷ cs) n k zero = k zero
padded_known names (c ∷ cs) n k (suc r) = padded_known names cs n (λ i. k (suc i)) r

as_many : (names : List Place) (cells : List (Option Cell)) (values : List Value) → values_in names cells ≡ map Some values → length values ≡ length cells
as_many names [] [] e = refl
as_many names [] (v ∷ vs) e = absurd (let x : ⊥ = cc in x)
as_many names (c ∷ cs) [] e = absurd (let x : ⊥ = cc in x)
as_many names (c ∷ cs) (v ∷ vs) e = ap suc (as_many names cs vs (let x : values_in names cs ≡ map Some vs = cc in x))

module _ (code : Parts) (last : Config → State) (v : View) (heap : HeapState) (old : Control) (func : Func) (to g : ℕ) (args : List ℕ) (at : Spot) (row : List Register) (newer : List (List ℕ)) (left depth : ℕ) where
  abbrev base : ℕ
  base = old.top.base

  abbrev mid : ℕ
  mid = old.end

  abbrev end : ℕ
  end = old.end + func.registers

  abbrev caller : Active
  caller = record { function = old.top.function; at = old.top.at; dest = old.top.dest; place = old.top.place + 1; base = old.top.base }

  abbrev callee : Active
  callee = record { function = g; at = at; dest = result_to func.result to; place = 0; base = old.end }

  abbrev frames : List Frame
  frames = frame.Running callee ∷ frame.Running caller ∷ old.below

  abbrev own : List Register
  own = take end row

  has_room : (o : Option ℕ) → HasRegister o (mid - base) → HasRoom o mid (frame.Running caller ∷ old.below)
  has_room None h = tt
  has_room (Some r) h = omega (arith, h)

  pub entered : slice_get code.funcs g ≡ Some func → func.form ≡ 0 → length args ≤ func.registers → HasRegister (result_to func.result to) (mid - base) → base ≤ mid → mid ≤ length old.registers.items → end ≤ length row
      → IsPassed base mid end None func.params args old.registers.items old.texts row newer → Runs code v heap (all_frames old) old.texts (row_of old) left → depth ≡ length (all_frames old) + v.state.frozen → depth + 1 ≤ depth_limit → 0 < left
      → GoesOn code v (call_next code last v old to g args at) heap frames newer own (left - 1)
  entered found plain fits room le few many p runs deep shallow some =
      let names = v.names in
      let s = v.state in
      let q = given_by_names names [] func.params args (cells_of base mid old.texts old.registers.items) p.given runs.known.0 p.is in
      let regs = values_in names p.given.after in
      let f = active code v old in
      let bel = below code v old in
      let go = λ (t : State). on (callee_of code last f bel s to g args at func q.values) (behind f regs ∷ bel) t in
      let calls : length (under bel) ≡ length old.below = as_many_calls code names old.below old.texts (take base (row_of old)) in
      let depth_is : depth ≡ length (under (behind f regs ∷ bel)) + s.frozen = omega (arith, deep, calls) in
      let now : 0 < s.left = subst (λ k. 0 < k) (sym runs.ticks_left) some in
      let up : mid ≤ end = omega arith in
      let second : take mid own ≡ take mid row = take-take mid end row up in
      let values_are : values_in names p.given.cells ≡ map Some q.values = ap (values_in names) q.is ∙ q.values_are in
      let count : length q.values ≡ length args = as_many names q.cells q.values q.values_are ∙ q.count in
      let padding : func.registers - length (object_values names None ++ q.values) ≡ end - mid - 0 - length args = omega (arith, count) in
      let callee_regs : values_in names (cells_of mid end newer row) ≡ registers_for func.registers q.values =
      ap (values_in names) p.got ∙ registers_are names None p.given.cells q.values (end - mid - 0 - length args) func.registers values_are padding in
      let caller_cells : cells_from base newer (drop base (take mid own)) ≡ p.given.after = ap (λ l. cells_from base newer (drop base l)) second ∙ p.left in
      let row_size : length (row_of old) ≡ mid = length-take-le mid old.registers.items few in
      let under_is : take base (take mid own) ≡ take base (row_of old) =
      ap (take base) second ∙ take-take base mid row le ∙ p.below ∙ sym (take-take base mid old.registers.items le) in
      let under_size : length (take base (row_of old)) ≡ base = length-take-le base (row_of old) (omega (arith, row_size, le)) in
      let texts_same = λ (i : ℕ) (lt : i < length (take base (row_of old))). p.others i (omega (arith, lt, under_size, le)) in
      let rest : frames_in code names old.below newer (take base (take mid own)) ≡ bel =
      ap (frames_in code names old.below newer) under_is ∙ frames_same code names old.below old.texts newer (take base (row_of old)) texts_same in
      let name : name_in code (slice_get code.funcs g) ≡ text_at code func.name = ap (name_in code) found ∙ ap (λ n. told_of code n func) plain in
      let w : View = after_tick_of v in
      record {
        view = w;
        grows = same_names v w.state;
        runs = record {
          stands = runs.stands;
          regions = runs.regions;
          known = (
            subst (AllKnown names) (sym p.got) (padded_known names p.given.cells (end - mid - 0 - length args) (subst (AllKnown names) (sym q.is) q.cells_known)),
            (
              subst (AllKnown names) (sym caller_cells) q.known,
              subst (AreKnown names old.below newer) (sym under_is) (known_same names old.below old.texts newer (take base (row_of old)) texts_same runs.known.1),
            ),
          );
          ticks_left = ap (λ k. k - 1) runs.ticks_left;
          lie = (
            record { func = func; found = found; plain = subst IsPlain (sym plain) tt; size = sym (length-take-le end row many) },
            has_room (result_to func.result to) room,
            (record { func = runs.lie.0.func; found = runs.lie.0.found; plain = runs.lie.0.plain; size = runs.lie.0.size ∙ row_size }, runs.lie.1, runs.lie.2),
          );
        };
        ticks = let total : (s.spent + 1) + (s.left - 1) ≡ s.spent + s.left = omega (arith, now) in total;
        pieces = refl;
        frozen = refl;
        is =
            call_is code last f bel s to g args at func q.values regs found plain q.gives
            ∙ deep_enough (behind f regs ∷ bel) at s depth (after_tick s go) depth_is shallow
            ∙ ticked_on s go now
            ∙ (λ i. on (meaning.Running (record { call = record { what = sym name i; at = at }; function = g; dest = result_to func.result to; place = 0; registers = sym callee_regs i }))
            (meaning.Running (active_of code caller (values_in names (sym caller_cells i))) ∷ sym rest i) w.state);
      }

-- ---- room for the registers of a function

pub same_front : (mid : ℕ) (old new : List Register) → mid ≤ length old → take (length old) new ≡ old → take mid new ≡ take mid old
same_front mid old new le same = sym (take-take mid (length old) new le) ∙ ap (take mid) same

pub passed_from : (base top end : ℕ) (object : Option Place) (types : List Ty) (args : List ℕ) (row was : List Register) (old : List (List ℕ)) (new : List Register) (newer : List (List ℕ)) → base ≤ top → take top row ≡ take top was
    → IsPassed base top end object types args row old new newer → IsPassed base top end object types args was old new newer
passed_from base top finish object types args row was old new newer le same p = record {
  given = p.given;
  is = subst (λ l. give_from [] types args (cells_from base old (drop base l)) ≡ Some p.given) same p.is;
  left = p.left;
  got = p.got;
  below = p.below ∙ sym (take-take base top row le) ∙ ap (take base) same ∙ take-take base top was le;
  others = p.others;
}

pub given_from : (base top : ℕ) (types : List Ty) (args : List ℕ) (row was : List Register) (old : List (List ℕ)) → take top row ≡ take top was → IsSome (give_from [] types args (cells_of base top old was)) → IsSome (give_from [] types args (cells_of base top old row))
given_from base top types args row was old same some = subst (λ l. IsSome (give_from [] types args (cells_from base old (drop base l)))) (sym same) some

pub same_func : (o : Option Func) (f g : Func) → o ≡ Some f → o ≡ Some g → f ≡ g
same_func o f g e h = let x : Some f ≡ Some g = sym e ∙ h in cc

-- ---- where no function is entered

module _ (code : Parts) (last : Config → State) (v : View) (heap : HeapState) (old : Control) (func : Func) (to g : ℕ) (args : List ℕ) (at : Spot) (left depth : ℕ) where
  abbrev calling : meaning.Active
  calling = active code v old

  abbrev under_it : List meaning.Frame
  under_it = below code v old

  depth_of : (regs : Registers) → depth ≡ length (all_frames old) + v.state.frozen → depth ≡ length (under (behind calling regs ∷ under_it)) + v.state.frozen
  depth_of regs deep =
      let calls : length (under under_it) ≡ length old.below = as_many_calls code v.names old.below old.texts (take old.top.base (row_of old)) in
      omega (arith, deep, calls)

  pub too_deep_to_call : slice_get code.funcs g ≡ Some func → func.form ≡ 0 → depth ≡ length (all_frames old) + v.state.frozen → depth_limit < depth + 1 → IsRight (call_next code last v old to g args at)
      → call_next code last v old to g args at ≡ trap CallDepth at (frames_of code v old) v.state
  too_deep_to_call found plain deep lt right =
      let x = reads code last calling under_it v.state to g args at func found plain right in
      let go = λ (t : State). on (callee_of code last calling under_it v.state to g args at func x.0.values) (behind calling x.0.after ∷ under_it) t in
      call_is code last calling under_it v.state to g args at func x.0.values x.0.after found plain x.1
      ∙ too_deep (behind calling x.0.after ∷ under_it) at v.state depth (after_tick v.state go) (depth_of x.0.after deep) lt

  pub no_tick_to_call : slice_get code.funcs g ≡ Some func → func.form ≡ 0 → Runs code v heap (all_frames old) old.texts (row_of old) left → depth ≡ length (all_frames old) + v.state.frozen → depth + 1 ≤ depth_limit → left ≡ 0
      → IsRight (call_next code last v old to g args at) → call_next code last v old to g args at ≡ Over Cut None v.state
  no_tick_to_call found plain runs deep few none right =
      let x = reads code last calling under_it v.state to g args at func found plain right in
      let go = λ (t : State). on (callee_of code last calling under_it v.state to g args at func x.0.values) (behind calling x.0.after ∷ under_it) t in
      call_is code last calling under_it v.state to g args at func x.0.values x.0.after found plain x.1
      ∙ deep_enough (behind calling x.0.after ∷ under_it) at v.state depth (after_tick v.state go) (depth_of x.0.after deep) few
      ∙ not_ticked v.state go (runs.ticks_left ∙ none)

pub steady : (s : State) → Steady s s
steady s = record { left = refl; spent = refl; pieces = refl; frozen = refl; quiet = refl }

-- ---- where a function is entered

-- a caller goes on behind its call
abbrev pub gone_on : Active → Active
gone_on a = record { function = a.function; at = a.at; dest = a.dest; place = a.place + 1; base = a.base }

module _ (code : Parts) (last : Config → State) (v : View) (heap : HeapState) (old : Control) (func : Func) (to g : ℕ) (args : List ℕ) (at : Spot) (left depth : ℕ) (mid : Control) (stack : List Frame) (dest : Option ℕ) where
  pub called : slice_get code.funcs g ≡ Some func → func.form ≡ 0 → length args ≤ func.registers → HasRegister (result_to func.result to) (old.end - old.top.base) → old.top.base ≤ old.end → old.end ≤ length old.registers.items → old.end + func.registers ≤ length mid.registers.items
      → IsPassed old.top.base old.end (old.end + func.registers) None func.params args old.registers.items old.texts mid.registers.items mid.texts
      → (mid.end ≡ old.end) × (mid.top ≡ old.top) × (mid.below ≡ old.below) → stack ≡ frame.Running (gone_on mid.top) ∷ mid.below → dest ≡ result_to func.result to
      → Runs code v heap (all_frames old) old.texts (row_of old) left → depth ≡ length (all_frames old) + v.state.frozen → depth + 1 ≤ depth_limit → 0 < left
      → GoesOn code v (call_next code last v old to g args at) heap (frame.Running (record { function = g; at = at; dest = dest; place = 0; base = mid.end }) ∷ stack) mid.texts (take (mid.end + func.registers) mid.registers.items) (left - 1)
  called found plain fits room le few many p same covered dest_is runs deep shallow some =
      let next = call_next code last v old to g args at in
      let row = mid.registers.items in
      let x = entered code last v heap old func to g args at row mid.texts left depth found plain fits room le few many p runs deep shallow some in
      let below_is : frame.Running (gone_on old.top) ∷ old.below ≡ stack = (λ i. frame.Running (gone_on (sym (same.1) i)) ∷ sym (same.2) i) ∙ sym covered in
      let frames_are : frame.Running (record { function = g; at = at; dest = result_to func.result to; place = 0; base = old.end }) ∷ frame.Running (gone_on old.top) ∷ old.below ≡ frame.Running (record { function = g; at = at; dest = dest; place = 0; base = mid.end }) ∷ stack =
      (λ i. frame.Running (record { function = g; at = at; dest = sym dest_is i; place = 0; base = sym (same.0) i }) ∷ below_is i) in
      let own : take (old.end + func.registers) row ≡ take (mid.end + func.registers) row = ap (λ n. take (n + func.registers) row) (sym (same.0)) in
      subst (λ fs. GoesOn code v next heap fs mid.texts (take (mid.end + func.registers) row) (left - 1)) frames_are
      (subst (λ r. GoesOn code v next heap (frame.Running (record { function = g; at = at; dest = result_to func.result to; place = 0; base = old.end }) ∷ frame.Running (gone_on old.top) ∷ old.below) mid.texts r (left - 1)) own x)
