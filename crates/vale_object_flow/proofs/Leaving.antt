-- How functions are left.
use Rattle.std.proofs.Common.{◌≡◌, ℕ, zero, suc, ◌+◌, ◌-◌, ◌<◌, ◌≤◌, List, [], ◌∷◌, length, take, drop, Option, Some, None, true, refl, sym, ap, subst, ◌∙◌, arith}
use Rattle.std.specs.Prelude.{slice_get}
use Rattle.std.proofs.lemmas.List.{get_or-drop, get_or-take, length-drop, length-take-le, take-take}
use Rattle.vale_state_spec.specs.Outcome.{Done}
use Rattle.vale_state_spec.specs.State.{State}
use Rattle.vale_state_spec.specs.World.{Value}
use Rattle.vale_code.specs.Act as act
use Rattle.vale_code.specs.Enter.{Form, form_of, leave_function, with_form, with_func}
use Rattle.vale_code.specs.Frames as meaning
use Rattle.vale_code.specs.Frames.{Config, Next, Over, leave, on, resume}
use Rattle.vale_code.specs.Instructions.{with_value}
use Rattle.vale_code.specs.Parts.{Parts}
use Rattle.vale_code.specs.Registers.{Registers, put, read, with_result}
use Rattle.vale_code.specs.declared.func.Func.{Func}
use Rattle.vale_code.specs.declared.instr.Instr.TheVariants as i
use Rattle.vale_registers.specs.Cells.{HasRegister}
use Rattle.vale_registers.specs.Passing.{from_base}
use Rattle.vale_registers.specs.Texts.{text_at}
use Rattle.vale_heap.specs.HeapState.{HeapState}
use Rattle.vale_heap.specs.declared.body.Cell.{Cell}
use Rattle.vale_heap.specs.declared.body.Place.{Place}
use Rattle.vale_turn.specs.View.{IsRight}
use Rattle.vale_object_cells.specs.Cells.{HoldsCell, cell_in, cells_in, held}
use Rattle.vale_object_cells.specs.Names.{AllKnown, Knows, value_in, values_in}
use Rattle.vale_object_cells.specs.declared.register.Register.{Register}
use Rattle.vale_object_cells.proofs.Holding.{as_many, cell_within, held_within}
use Rattle.vale_object_cells.proofs.Naming.{known_put, put_values, read_values}
use Rattle.vale_object_steps.specs.Views.{Steady, View}
use Rattle.vale_object_steps.proofs.FieldLaws.{same_names}
use Rattle.vale_object_passing.specs.Passing.{IsHanded, cells_of, empty, landed_in}
use Rattle.vale_object_frames.specs.Frames.{AreKnown, HasRoom, IsPlain, Lie, active_of, emptying_of, frames_in}
use Rattle.vale_object_frames.specs.Stacks.{is_dropping}
use Rattle.vale_object_frames.specs.declared.frame.Active.{Active}
use Rattle.vale_object_frames.specs.declared.frame.Frame.{Frame}
use Rattle.vale_object_frames.specs.declared.frame.Frame.TheVariants as frame
use Rattle.vale_object_frames.proofs.FrameLaws.{frames_same, known_same, own_same}
use Rattle.vale_object_flow.specs.Flow.{Comes, GoesOn, Rejoins, Runs, active, all_frames, below, frames_of, leave_next, on_frames, own_registers, row_of}
use Rattle.vale_object_flow.specs.declared.control.Came.{Came}
use Rattle.vale_object_flow.specs.declared.control.Came.TheVariants as came
use Rattle.vale_object_flow.specs.declared.control.Control.{Control}
use Rattle.vale_object_flow.proofs.Calling.{steady}

-- ---- what leaving leads to

module _ (code : Parts) (last : Config → State) (f : meaning.Active) (fs : List meaning.Frame) (s : State) where
  abbrev leaves_it : Option Value → Form → Func → Next
  leaves_it w form func = leave_function form f.dest w fs s

  by_form : (n : ℕ) (func : Func) (w : Option Value) → IsPlain n → with_form (form_of n) func s (leaves_it w) ≡ leave fs f.dest w s
  by_form zero func w p = refl
  by_form (suc zero) func w p = absurd p
  by_form (suc (suc zero)) func w p = absurd p
  by_form (suc (suc (suc zero))) func w p = refl
  by_form (suc (suc (suc (suc n)))) func w p = absurd p

  pub returned : (func : Func) (w : Option Value) → slice_get code.funcs f.function ≡ Some func → IsPlain func.form → act.returns code last f fs s w ≡ leave fs f.dest w s
  returned func w found plain = ap (λ o. with_func o s (leaves_it w)) found ∙ by_form func.form func w plain

  there : (o : Option Value) (go : Value → Next) → IsRight (with_value o s go) → (w : Value) × (o ≡ Some w)
  there None go r = absurd r
  there (Some w) go r = (w, refl)

  pub value_there : (a : ℕ) → IsRight (act.act code last f fs s (i.Ret a)) → (w : Value) × (read f.registers a ≡ Some w)
  value_there a r = there (read f.registers a) (λ w. act.returns code last f fs s (Some w)) r

  pub returned_value : (func : Func) (a : ℕ) (w : Value) → slice_get code.funcs f.function ≡ Some func → IsPlain func.form → read f.registers a ≡ Some w → act.act code last f fs s (i.Ret a) ≡ leave fs f.dest (Some w) s
  returned_value func a w found plain e = ap (λ o. with_value o s (λ x. act.returns code last f fs s (Some x))) e ∙ returned func (Some w) found plain

-- ---- what a frame does with a value

resumes : (o : Option ℕ) (w : Option Value) (a : meaning.Active) → resume o w (meaning.Running a) ≡ meaning.Running (record a { registers = with_result o w a.registers })
resumes None w a = refl
resumes (Some to) None a = refl
resumes (Some to) (Some w) a = refl

stays : (o : Option ℕ) (w : Option Value) (e : meaning.Emptying) → resume o w (meaning.Dropping e) ≡ meaning.Dropping e
stays None w e = refl
stays (Some to) None e = refl
stays (Some to) (Some w) e = refl

pub left_on : (code : Parts) (names : List Place) (fs : List Frame) (texts : List (List ℕ)) (row : List Register) (o : Option ℕ) (w : Option Value) (s : State) → is_dropping fs ≡ true → leave (frames_in code names fs texts row) o w s ≡ on_frames (frames_in code names fs texts row) s
left_on code names [] texts row o w s h = absurd (let x : ⊥ = cc in x)
left_on code names (frame.Running a ∷ fs) texts row o w s h = absurd (let x : ⊥ = cc in x)
left_on code names (frame.Dropping l ∷ fs) texts row o w s h = ap (λ f. on f (frames_in code names fs texts row) s) (stays o w (emptying_of code names l))

pub no_result : (o : Option ℕ) (regs : Registers) → with_result o None regs ≡ regs
no_result None regs = refl
no_result (Some to) regs = refl

pub landed_values : (names : List Place) (o : Option ℕ) (c : Option Cell) (cells : List (Option Cell)) (w : Value) → value_in names c ≡ Some w → HasRegister o (length cells) → values_in names (landed_in o c cells) ≡ with_result o (Some w) (values_in names cells)
landed_values names None c cells w e h = refl
landed_values names (Some to) c cells w e h = put_values names cells to c h ∙ ap (put (values_in names cells) to) e

pub landed_known : (names : List Place) (o : Option ℕ) (c : Option Cell) (cells : List (Option Cell)) → AllKnown names cells → Knows names c → AllKnown names (landed_in o c cells)
landed_known names None c cells k n = k
landed_known names (Some to) c cells k n = known_put names cells to c k n

-- ---- the frame under a function

pub room_under : (o : Option ℕ) (top : ℕ) (caller : Active) (fs gs : List Frame) → gs ≡ frame.Running caller ∷ fs → HasRoom o top gs → HasRegister o (top - caller.base)
room_under None top caller fs gs e h = tt
room_under (Some to) top caller fs gs e h = let lt : caller.base + to < top = subst (HasRoom (Some to) top) e h in omega (arith, lt)

pub own_within : (c : Control) (a : ℕ) → c.top.base ≤ c.end → c.end ≤ length c.registers.items → HoldsCell (own_registers c) a → c.top.base + a < length c.registers.items
own_within c a le few h =
    let lt = cell_within (own_registers c) a h in
    omega (arith, lt, length-drop c.top.base (row_of c), length-take-le c.end c.registers.items few)

module _ (code : Parts) (last : Config → State) (v : View) (heap : HeapState) (old : Control) (left : ℕ) where
  abbrev top : ℕ
  top = old.top.base

  abbrev regs : List Register
  regs = old.registers.items

  module _ (le : old.top.base ≤ old.end) (few : old.end ≤ length old.registers.items) (runs : Runs code v heap (all_frames old) old.texts (row_of old) left) where
    lower : take top (row_of old) ≡ take top regs
    lower = take-take top old.end regs le

    lower_size : length (take top regs) ≡ top
    lower_size = length-take-le top regs (omega (arith, le, few))

    known_under : AreKnown v.names old.below old.texts (take top regs)
    known_under = subst (AreKnown v.names old.below old.texts) lower runs.known.1

    under_is : below code v old ≡ frames_in code v.names old.below old.texts (take top regs)
    under_is = ap (frames_in code v.names old.below old.texts) lower

    -- a destruction is the innermost then
    pub over_destruction : (w : Option Value) (next : Next) (newer : List (List ℕ)) → is_dropping old.below ≡ true → ((i : ℕ) → i < top → text_at newer i ≡ text_at old.texts i) → next ≡ leave (below code v old) old.top.dest w v.state
        → GoesOn code v next heap old.below newer (take top regs) left
    over_destruction w next newer dropping same is =
        let others = λ (i : ℕ) (lt : i < length (take top regs)). same i (omega (arith, lt, lower_size)) in
        record {
          view = v;
          grows = same_names v v.state;
          runs = record {
            stands = runs.stands;
            regions = runs.regions;
            known = known_same v.names old.below old.texts newer (take top regs) others known_under;
            ticks_left = runs.ticks_left;
            lie = subst (Lie code old.below) (sym lower_size) runs.lie.2;
          };
          ticks = refl;
          pieces = refl;
          frozen = refl;
          is =
              is
              ∙ ap (λ fs. leave fs old.top.dest w v.state) under_is
              ∙ left_on code v.names old.below old.texts (take top regs) old.top.dest w v.state dropping
              ∙ ap (λ fs. on_frames fs v.state) (sym (frames_same code v.names old.below old.texts newer (take top regs) others));
        }

    -- a function is the innermost then
    pub over_function : (w : Option Value) (next : Next) (caller : Active) (rest : List Frame) (row : List Register) (newer : List (List ℕ)) → old.below ≡ frame.Running caller ∷ rest → top ≤ length row
        → values_in v.names (cells_of caller.base top newer row) ≡ with_result old.top.dest w (values_in v.names (cells_of caller.base top old.texts regs)) → AllKnown v.names (cells_of caller.base top newer row)
        → take caller.base row ≡ take caller.base regs → ((i : ℕ) → i < caller.base → text_at newer i ≡ text_at old.texts i) → next ≡ leave (below code v old) old.top.dest w v.state
        → GoesOn code v next heap (frame.Running caller ∷ rest) newer (take top row) left
    over_function w next caller rest row newer is_below many values known under same is =
        let b = caller.base in
        let lie : Lie code (frame.Running caller ∷ rest) top = subst (λ fs. Lie code fs top) is_below runs.lie.2 in
        let up : b ≤ top = omega (arith, lie.0.size) in
        let deeper : take b (take top row) ≡ take b (take top regs) = take-take b top row up ∙ under ∙ sym (take-take b top regs up) in
        let deep_size : length (take b (take top regs)) ≡ b = length-take-le b (take top regs) (omega (arith, lower_size, up)) in
        let others = λ (i : ℕ) (lt : i < length (take b (take top regs))). same i (omega (arith, lt, deep_size)) in
        let was : AreKnown v.names (frame.Running caller ∷ rest) old.texts (take top regs) = subst (λ fs. AreKnown v.names fs old.texts (take top regs)) is_below known_under in
        let gone = frames_in code v.names rest newer (take b (take top row)) in
        let rest_is : frames_in code v.names rest old.texts (take b (take top regs)) ≡ gone =
        sym (frames_same code v.names rest old.texts newer (take b (take top regs)) others) ∙ ap (frames_in code v.names rest newer) (sym deeper) in
        record {
          view = v;
          grows = same_names v v.state;
          runs = record {
            stands = runs.stands;
            regions = runs.regions;
            known = (known, subst (AreKnown v.names rest newer) (sym deeper) (known_same v.names rest old.texts newer (take b (take top regs)) others was.1));
            ticks_left = runs.ticks_left;
            lie = subst (Lie code (frame.Running caller ∷ rest)) (sym (length-take-le top row many)) lie;
          };
          ticks = refl;
          pieces = refl;
          frozen = refl;
          is =
              is
              ∙ ap (λ fs. leave fs old.top.dest w v.state) (under_is ∙ ap (λ fs. frames_in code v.names fs old.texts (take top regs)) is_below)
              ∙ ap (λ f. on f (frames_in code v.names rest old.texts (take b (take top regs))) v.state) (resumes old.top.dest w (active_of code caller (values_in v.names (cells_of b top old.texts regs))))
              ∙ (λ i. on (meaning.Running (active_of code caller (sym values i))) (rest_is i) v.state);
        }

    -- no frame is left
    pub over_nothing : (w : Option Value) (next : Next) → old.below ≡ [] → next ≡ leave (below code v old) old.top.dest w v.state
        → (x : Option Value) × (t : State) × Steady v.state t × (next ≡ Over Done x t)
    over_nothing w next none is = (w, v.state, steady v.state, is ∙ ap (λ fs. leave (frames_in code v.names fs old.texts (take top (row_of old))) old.top.dest w v.state) none)

    -- ---- with no value

    pub is_void : leave_next code last v old None ≡ leave (below code v old) old.top.dest None v.state
    is_void = returned code last (active code v old) (below code v old) v.state runs.lie.0.func None runs.lie.0.found runs.lie.0.plain

    -- ---- with a value

    own_cell : (a : ℕ) → HoldsCell (own_registers old) a → held (cells_in (text_at old.texts) regs) (top + a) ≡ held (cells_of top old.end old.texts regs) a
    own_cell a h =
        let lt = cell_within (own_registers old) a h in
        let long : top + a < old.end = omega (arith, lt, length-drop top (row_of old), length-take-le old.end regs few, le) in
        held_within (text_at old.texts) regs (top + a) empty (omega (arith, long, few))
        ∙ ap (λ r. cell_in r (text_at old.texts (top + a))) (sym (get_or-drop top (row_of old) a empty ∙ get_or-take old.end regs (top + a) empty long))
        ∙ sym (held_within (from_base top (text_at old.texts)) (own_registers old) a empty lt)

    pub is_value : (a : ℕ) → IsRight (leave_next code last v old (Some a)) → (w : Value) × (value_in v.names (held (cells_of top old.end old.texts regs) a) ≡ Some w) × (leave_next code last v old (Some a) ≡ leave (below code v old) old.top.dest (Some w) v.state)
    is_value a right =
        let f = active code v old in
        let x = value_there code last f (below code v old) v.state a right in (
          x.0,
          sym (read_values v.names (cells_of top old.end old.texts regs) a) ∙ x.1,
          returned_value code last f (below code v old) v.state runs.lie.0.func a x.0 runs.lie.0.found runs.lie.0.plain x.1,
        )

    pub handed_over : (a : ℕ) (caller : Active) (rest : List Frame) (row : List Register) (mid newer : List (List ℕ)) → HoldsCell (own_registers old) a → HasRoom old.top.dest top old.below → old.below ≡ frame.Running caller ∷ rest → length row ≡ length regs
        → IsHanded caller.base top old.top.dest (top + a) regs old.texts row mid → ((i : ℕ) → i < top → text_at newer i ≡ text_at mid i) → IsRight (leave_next code last v old (Some a))
        → GoesOn code v (leave_next code last v old (Some a)) heap (frame.Running caller ∷ rest) newer (take top row) left
    handed_over a caller rest row mid newer holds room is_below size p cut right =
        let b = caller.base in
        let x = is_value a right in
        let many : top ≤ length row = omega (arith, size, le, few) in
        let row_size : length (take top row) ≡ top = length-take-le top row many in
        let lie : Lie code (frame.Running caller ∷ rest) top = subst (λ fs. Lie code fs top) is_below runs.lie.2 in
        let up : b ≤ top = omega (arith, lie.0.size) in
        let was = cells_of b top old.texts regs in
        let own = cells_of top old.end old.texts regs in
        let count : length was ≡ top - b = as_many (from_base b (text_at old.texts)) (drop b (take top regs)) ∙ length-drop b (take top regs) ∙ ap (λ n. n - b) lower_size in
        let now : cells_of b top newer row ≡ landed_in old.top.dest (held own a) was =
        own_same b mid newer (take top row) (λ i lt. cut i (omega (arith, lt, row_size)))
        ∙ p.cells
        ∙ ap (λ c. landed_in old.top.dest c was) (own_cell a holds) in
        let there : AreKnown v.names (frame.Running caller ∷ rest) old.texts (take top regs) = subst (λ fs. AreKnown v.names fs old.texts (take top regs)) is_below known_under in
        let reg : HasRegister old.top.dest (length was) = subst (HasRegister old.top.dest) (sym count) (room_under old.top.dest top caller rest old.below is_below room) in
        let knows : AllKnown v.names own = runs.known.0 in
        over_function (Some x.0) (leave_next code last v old (Some a)) caller rest row newer is_below many
        (ap (values_in v.names) now ∙ landed_values v.names old.top.dest (held own a) was x.0 x.1 reg)
        (subst (AllKnown v.names) (sym now) (landed_known v.names old.top.dest (held own a) was there.0 (knows a)))
        p.below
        (λ i lt. cut i (omega (arith, lt, up)) ∙ p.others i lt)
        x.2

    -- ---- by what goes on

    pub leaves_void : (told : Came) (fs : List Frame) (goes : Active) (newer : List (List ℕ)) → Rejoins old.below told fs goes → ((i : ℕ) → i < top → text_at newer i ≡ text_at old.texts i)
        → Comes code v (frames_of code v old) told (leave_next code last v old None) heap (record { registers = old.registers; texts = newer; end = top; top = goes; below = fs }) left
    leaves_void came.Running fs goes newer h same =
        let b = goes.base in
        let lie : Lie code (frame.Running goes ∷ fs) top = subst (λ gs. Lie code gs top) h runs.lie.2 in
        let up : b ≤ top = omega (arith, lie.0.size) in
        let there : AreKnown v.names (frame.Running goes ∷ fs) old.texts (take top regs) = subst (λ gs. AreKnown v.names gs old.texts (take top regs)) h known_under in
        let now : cells_of b top newer regs ≡ cells_of b top old.texts regs = own_same b old.texts newer (take top regs) (λ i lt. same i (omega (arith, lt, lower_size))) in
        over_function None (leave_next code last v old None) goes fs regs newer h (omega (arith, le, few))
        (ap (values_in v.names) now ∙ sym (no_result old.top.dest (values_in v.names (cells_of b top old.texts regs))))
        (subst (AllKnown v.names) (sym now) there.0)
        refl
        (λ i lt. same i (omega (arith, lt, up)))
        is_void
    leaves_void came.Dropping fs goes newer h same =
        let next = leave_next code last v old None in
        subst (λ gs. GoesOn code v next heap gs newer (take top regs) left) (sym h.1) (over_destruction None next newer h.0 same is_void)
    leaves_void came.Done fs goes newer h same = over_nothing None (leave_next code last v old None) h is_void
    leaves_void (came.Trap kind at) fs goes newer h same = absurd h
    leaves_void came.Cut fs goes newer h same = absurd h
