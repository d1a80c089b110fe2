-- Each step of code keeps what is held lawful, where the instruction that it runs brings nothing else.
use Rattle.std.proofs.Common.{◌≡◌, ℕ, zero, suc, ◌≤◌, List, [], ◌∷◌, length, Option, Some, None, Bool, true, false, if◌then◌else◌, refl, arith}
use Rattle.std.specs.Prelude.{slice_get}
use Rattle.vale_base.specs.Limits.{width_limit}
use Rattle.vale_base.specs.declared.spot.Spot.{Spot}
use Rattle.vale_base.specs.declared.trap.FrameAt.{FrameAt}
use Rattle.vale_base.specs.declared.trap.TrapKind.TheVariants.{CallDepth, DeadReference}
use Rattle.vale_state_spec.specs.State.{State, Answer, gives, traps, fails, Looked, found, dead, nowhere, look, name_of, spend_of, has_depth, object_of, dies, join_isolate, isolated, load, swap, element, swap_element, push, pop, make, merge, print, merged, kept, cleared, end_of_pure, end_of_isolate}
use Rattle.vale_state_spec.specs.World.{Value, Int, Truth, Text, Own, Ref, Iso, Object}
use Rattle.vale_base.specs.declared.name.Kind.{Kind}
use Rattle.vale_text.specs.Operations.{is_int}
use Rattle.vale_text.specs.Steps as step
use Rattle.vale_code.specs.Act.{act, on_looked, without_first}
use Rattle.vale_code.specs.Destroy.{destroy, destroy_object, destroy_by, Owned, drop_rest}
use Rattle.vale_code.specs.Enter.{Form, Plain, Pure, Iteration, Destructor, function, form_of, with_form, with_func, begun, ended, outgoing, enter, if_called, if_destructor, leave_function}
use Rattle.vale_code.specs.Frames.{Active, Frame, Running, Dropping, Looping, Alone, Config, Next, On, Over, wrong, deeper, ticked, after_tick, trap, resume, leave, under}
use Rattle.vale_code.specs.Instructions.{copied, moved, borrowed, leading, of_living, text_length, array_length, behind, onward, with_value, with_owner, with_read, with_registers, with_truth, with_choice, gets, answered, certain, is_free, jump_by, jump, jump_unless, truth_of, comparison_of}
use Rattle.vale_code.specs.Kinds.{holds_values, kind_of, destructor_of, method_in, text_at, result_to}
use Rattle.vale_code.specs.Parts.{Parts}
use Rattle.vale_code.specs.Registers.{Registers, Read, read, put, read_all, give_all, put_all, kept as kept_from, as_frozen}
use Rattle.vale_code.specs.declared.func.Func.{Func}
use Rattle.vale_code.specs.declared.instr.Instr.{Instr}
use Rattle.vale_code.specs.declared.instr.Instr.TheVariants as i
use Rattle.vale_lowering.proofs.Ranges.{IsLawful}
use Rattle.vale_lowering_objects.proofs.Lawful as l
use Rattle.vale_lowering_objects.proofs.Lawful.{LawfulValue, LawfulHeld, LawfulValues, LawfulRegisters, LawfulObject, LawfulWorld, LawfulAnswer, LawfulRead, LawfulPut, HasMany, read_lawful, put_lawful, registers_for_lawful, result_lawful, kept_lawful, read_all_lawful, read_many, give_all_lawful, put_all_lawful, frozen_lawful, object_lawful, dies_lawful, relabelled_lawful, end_lawful}

-- A destruction drops owners and isolates alone. No parallel loop is under way.
abbrev pub LawfulFrame : Frame → Type 0
LawfulFrame (Running f) = LawfulRegisters f.registers
LawfulFrame (Dropping f) = Unit {0}
LawfulFrame (Looping f) = ⊥
LawfulFrame (Alone v) = ⊥

abbrev pub LawfulFrames : List Frame → Type 0
LawfulFrames [] = Unit {0}
LawfulFrames (f ∷ fs) = LawfulFrame f × LawfulFrames fs

abbrev pub LawfulConfig : Config → Type 0
LawfulConfig c = LawfulFrame c.top × LawfulFrames c.below × LawfulWorld c.state.world

abbrev pub LawfulNext : Next → Type 0
LawfulNext (On c) = LawfulConfig c
LawfulNext (Over end v s) = Unit {0}

-- its literal is lawful, it makes no object of too many values, and it begins no parallel loop
abbrev pub LawfulInstr : Parts → Instr → Type 0
LawfulInstr code (i.Int to n) = is_int n ≡ true
LawfulInstr code (i.Text to n) = (text : List ℕ) → slice_get code.texts n ≡ Some text → IsLawful text
LawfulInstr code (i.Make to kind args) = length args ≤ width_limit
LawfulInstr code (i.ParRange to a b g args at) = ⊥
LawfulInstr code (i.ParEach to a g args at) = ⊥
LawfulInstr code _ = Unit {0}

-- ---- values

copied_lawful : (v : Value) → LawfulValue v → LawfulHeld (copied v)
copied_lawful (Int z) a = a
copied_lawful (Truth b) a = tt
copied_lawful (Text bytes) a = a
copied_lawful (Own n) a = tt
copied_lawful (Ref n) a = tt
copied_lawful (Iso n) a = tt

moved_lawful : (v : Value) → LawfulHeld (moved v)
moved_lawful (Int z) = tt
moved_lawful (Truth b) = tt
moved_lawful (Text bytes) = tt
moved_lawful (Own n) = tt
moved_lawful (Ref n) = tt
moved_lawful (Iso n) = tt

borrowed_lawful : (v : Value) → LawfulHeld (borrowed v)
borrowed_lawful (Int z) = tt
borrowed_lawful (Truth b) = tt
borrowed_lawful (Text bytes) = tt
borrowed_lawful (Own n) = tt
borrowed_lawful (Ref n) = tt
borrowed_lawful (Iso n) = tt

leading_lawful : (v : Value) → LawfulHeld (leading v)
leading_lawful (Int z) = tt
leading_lawful (Truth b) = tt
leading_lawful (Text bytes) = tt
leading_lawful (Own n) = tt
leading_lawful (Ref n) = tt
leading_lawful (Iso n) = tt

isolated_lawful : (v : Option Value) → LawfulHeld v → LawfulHeld (isolated v)
isolated_lawful None a = a
isolated_lawful (Some (Int z)) a = a
isolated_lawful (Some (Truth b)) a = a
isolated_lawful (Some (Text bytes)) a = a
isolated_lawful (Some (Own n)) a = tt
isolated_lawful (Some (Ref n)) a = a
isolated_lawful (Some (Iso n)) a = a

-- ---- frames

resume_lawful : (to : Option ℕ) (v : Option Value) (f : Frame) → LawfulFrame f → LawfulHeld v → LawfulFrame (resume to v f)
resume_lawful None v f h a = h
resume_lawful (Some to) None f h a = h
resume_lawful (Some to) (Some v) (Running f) h a = result_lawful (Some to) (Some v) f.registers h a
resume_lawful (Some to) (Some v) (Dropping f) h a = tt
resume_lawful (Some to) (Some v) (Looping f) h a = h
resume_lawful (Some to) (Some v) (Alone o) h a = h

leave_lawful : (below : List Frame) (to : Option ℕ) (v : Option Value) (s : State) → LawfulFrames below → LawfulHeld v → LawfulWorld s.world → LawfulNext (leave below to v s)
leave_lawful [] to v s hb a hw = tt
leave_lawful (f ∷ fs) to v s hb a hw = (resume_lawful to v f hb.0 a, hb.1, hw)

begun_lawful : (form : Form) (s : State) → LawfulWorld s.world → LawfulWorld (begun form s).world
begun_lawful Plain s h = h
begun_lawful Pure s h = h
begun_lawful Iteration s h = h
begun_lawful Destructor s h = h

ended_lawful : (form : Form) (v : Option Value) (s : State) → LawfulWorld s.world → LawfulWorld (ended form v s).world
ended_lawful Plain v s h = h
ended_lawful Pure v s h = end_lawful (end_of_pure v) s h
ended_lawful Iteration v s h = end_lawful (end_of_isolate v) s h
ended_lawful Destructor v s h = h

outgoing_lawful : (form : Form) (v : Option Value) → LawfulHeld v → LawfulHeld (outgoing form v)
outgoing_lawful Plain v a = a
outgoing_lawful Pure v a = a
outgoing_lawful Iteration v a = isolated_lawful v a
outgoing_lawful Destructor v a = a

-- ---- what a step leads to

module _ (code : Parts) (s : State) (hw : LawfulWorld s.world) where
  tick_next : (go : State → Next) → ((u : State) → LawfulWorld u.world → LawfulNext (go u)) → LawfulNext (after_tick s go)
  tick_next go each = by s.left
    where
      by : (n : ℕ) → LawfulNext (ticked (spend_of n s) s go)
      by zero = tt
      by (suc n) = each _ hw

  deeper_next : (more : ℕ) (at : Spot) (frames : List Frame) (go : Next) → LawfulNext go → LawfulNext (deeper more at frames s go)
  deeper_next more at frames go h = by (has_depth more (under frames) s)
    where
      by : (b : Bool) → LawfulNext (if b then go else trap CallDepth at frames s)
      by true = h
      by false = tt

  choice_next : {A : Type 0} (o : Option A) (go : A → Next) → ((a : A) → o ≡ Some a → LawfulNext (go a)) → LawfulNext (with_choice o s go)
  choice_next None go each = tt
  choice_next (Some a) go each = each a refl

  value_next : (o : Option Value) (go : Value → Next) → LawfulHeld o → ((v : Value) → LawfulValue v → LawfulNext (go v)) → LawfulNext (with_value o s go)
  value_next None go h each = tt
  value_next (Some v) go h each = each v h

  owner_next : (o : Option Value) (go : ℕ → Next) → ((n : ℕ) → LawfulNext (go n)) → LawfulNext (with_owner o s go)
  owner_next None go each = tt
  owner_next (Some (Own n)) go each = each n
  owner_next (Some (Int z)) go each = tt
  owner_next (Some (Truth b)) go each = tt
  owner_next (Some (Text bytes)) go each = tt
  owner_next (Some (Ref n)) go each = tt
  owner_next (Some (Iso n)) go each = tt

  truth_next : (o : Option Value) (go : Bool → Next) → ((b : Bool) → LawfulNext (go b)) → LawfulNext (with_truth o s go)
  truth_next None go each = tt
  truth_next (Some (Truth b)) go each = each b
  truth_next (Some (Int z)) go each = tt
  truth_next (Some (Text bytes)) go each = tt
  truth_next (Some (Own n)) go each = tt
  truth_next (Some (Ref n)) go each = tt
  truth_next (Some (Iso n)) go each = tt

  read_next : (o : Option Read) (go : List Value → Registers → Next) → LawfulRead o → ((vs : List Value) (regs : Registers) → LawfulValues vs → LawfulRegisters regs → LawfulNext (go vs regs)) → LawfulNext (with_read o s go)
  read_next None go h each = tt
  read_next (Some r) go h each = each r.values r.after h.0 h.1

  registers_next : (o : Option Registers) (go : Registers → Next) → LawfulPut o → ((regs : Registers) → LawfulRegisters regs → LawfulNext (go regs)) → LawfulNext (with_registers o s go)
  registers_next None go h each = tt
  registers_next (Some regs) go h each = each regs h

  looked_next : (o : Looked) (if_dead : Next) (go : ℕ → Object → Next) → LawfulNext if_dead → ((n : ℕ) (object : Object) → LawfulNext (go n object)) → LawfulNext (on_looked o s if_dead go)
  looked_next (found n object) if_dead go h each = each n object
  looked_next dead if_dead go h each = h
  looked_next nowhere if_dead go h each = tt

  -- ---- functions

  function_next : (g : ℕ) (go : Form → Func → Next) → ((form : Form) (func : Func) → LawfulNext (go form func)) → LawfulNext (function code g s go)
  function_next g go each = by (slice_get code.funcs g)
    where
      by_form : (o : Option Form) (func : Func) → LawfulNext (with_form o func s go)
      by_form None func = tt
      by_form (Some form) func = each form func

      by : (o : Option Func) → LawfulNext (with_func o s go)
      by None = tt
      by (Some func) = by_form (form_of func.form) func

  called_next : (form : Form) (go : Next) → LawfulNext go → LawfulNext (if_called form s go)
  called_next Plain go h = h
  called_next Pure go h = h
  called_next Iteration go h = tt
  called_next Destructor go h = tt

  destructor_next : (form : Form) (go : Next) → LawfulNext go → LawfulNext (if_destructor form s go)
  destructor_next Plain go h = tt
  destructor_next Pure go h = tt
  destructor_next Iteration go h = tt
  destructor_next Destructor go h = h

  enter_next : (g : ℕ) (form : Form) (func : Func) (call : FrameAt) (to : Option ℕ) (args : List Value) (frames : List Frame) → LawfulValues args → LawfulFrames frames → LawfulNext (enter g form func call to args frames s)
  enter_next g form func call to args frames ha hf =
      deeper_next _ call.at frames _ (tick_next _ (λ u hu. (registers_for_lawful func.registers args ha, hf, begun_lawful form u hu)))

  -- ---- destruction

  destroy_by_next : (d : Option ℕ) (n : ℕ) (object : Object) (at : Spot) (frames : List Frame) → LawfulFrames frames → LawfulNext (destroy_by code d n object at frames s)
  destroy_by_next (Some g) n object at frames hf = function_next g _ (λ form func. destructor_next form _ (enter_next g form func _ None (Own n ∷ []) frames (tt, tt) hf))
  destroy_by_next None n object at frames hf = deeper_next 1 at frames _ (tick_next _ (λ u hu. (tt, hf, dies_lawful n u hu)))

  destroy_object_next : (o : Option Object) (n : ℕ) (at : Spot) (frames : List Frame) → LawfulFrames frames → LawfulNext (destroy_object code o n at frames s)
  destroy_object_next None n at frames hf = tt
  destroy_object_next (Some object) n at frames hf = destroy_by_next (destructor_of code object.kind) n object at frames hf

pub destroy_next : (code : Parts) (v : Value) (at : Spot) (frames : List Frame) (s : State) → LawfulWorld s.world → LawfulFrames frames → LawfulNext (destroy code v at frames s)
destroy_next code (Own n) at frames s hw hf = destroy_object_next code s hw (object_of n s) n at frames hf
destroy_next code (Iso n) at frames s hw hf = destroy_object_next code (join_isolate n s) (relabelled_lawful _ _ s.world hw) (object_of n (join_isolate n s)) n at frames hf
destroy_next code (Int z) at frames s hw hf = tt
destroy_next code (Truth b) at frames s hw hf = tt
destroy_next code (Text bytes) at frames s hw hf = tt
destroy_next code (Ref n) at frames s hw hf = tt

-- ---- instructions

module _ (code : Parts) (last : Config → State) (f : Active) (below : List Frame) (s : State) (hr : LawfulRegisters f.registers) (hb : LawfulFrames below) (hw : LawfulWorld s.world) where
  value : (a : ℕ) (go : Value → Next) → ((v : Value) → LawfulValue v → LawfulNext (go v)) → LawfulNext (with_value (read f.registers a) s go)
  value a go each = value_next code s hw (read f.registers a) go (read_lawful f.registers a hr) each

  values : (a b : ℕ) (go : Value → Value → Next) → ((v w : Value) → LawfulValue v → LawfulValue w → LawfulNext (go v w)) → LawfulNext (with_value (read f.registers a) s (λ v. with_value (read f.registers b) s (λ w. go v w)))
  values a b go each = value a _ (λ v hv. value b _ (λ w hx. each v w hv hx))

  sets : (to : ℕ) (v : Value) → LawfulValue v → LawfulNext (onward f (put f.registers to (Some v)) below s)
  sets to v hv = (put_lawful f.registers to (Some v) hr hv, hb, hw)

  gets_next : (to : ℕ) (o : Option Value) (regs : Registers) → LawfulRegisters regs → LawfulHeld o → LawfulNext (gets f to o regs below s)
  gets_next to None regs h a = tt
  gets_next to (Some v) regs h a = (put_lawful regs to (Some v) h a, hb, hw)

  answers : (to : Option ℕ) (regs : Registers) (at : Spot) (a : Answer) → LawfulRegisters regs → LawfulAnswer a → LawfulNext (answered f to regs at below s a)
  answers to regs at (gives v u) h a = (result_lawful to v regs h a.0, hb, a.1)
  answers to regs at (traps kind) h a = tt
  answers to regs at fails h a = tt

  surely : (to : Option ℕ) (regs : Registers) (u : State) (a : Answer) → LawfulRegisters regs → LawfulAnswer a → LawfulNext (certain f to regs below u a)
  surely to regs u (gives v t) h a = (result_lawful to v regs h a.0, hb, a.1)
  surely to regs u (traps kind) h a = tt
  surely to regs u fails h a = tt

  jumps : (p : ℕ) → LawfulNext (jump code f p below s)
  jumps p = by (is_free code f p)
    where
      by : (b : Bool) → LawfulNext (jump_by b f p below s)
      by true = (hr, hb, hw)
      by false = tick_next code s hw _ (λ u hu. (hr, hb, hu))

  jumps_unless : (p : ℕ) (b : Bool) → LawfulNext (jump_unless code f p below s b)
  jumps_unless p true = (hr, hb, hw)
  jumps_unless p false = jumps p

  call_next : (to g : ℕ) (args : List ℕ) (at : Spot) → LawfulNext (act code last f below s (i.Call to g args at))
  call_next to g args at =
      function_next code s hw g _
      (λ form func. called_next code s hw form _ (read_next code s hw (give_all func.params args f.registers) _ (give_all_lawful func.params args f.registers hr)
      (λ vs regs hv h. enter_next code s hw g form func _ (result_to func.result to) vs (behind f regs ∷ below) hv (h, hb))))

  dispatch_next : (if_dead : Next) (to interface method object : ℕ) (args : List ℕ) (at : Spot) → LawfulNext if_dead → LawfulNext (with_value (read f.registers object) s (λ v. on_looked (look v s) s if_dead (λ n o. with_choice (method_in code.impls interface method o.kind) s (λ g. function code g s (λ form func. if_called form s (with_read (give_all (without_first func.params) args f.registers) s (λ vs regs. enter g form func (record { what = text_at code func.name; at = at }) (result_to func.result to) (Ref n ∷ vs) (behind f regs ∷ below) s)))))))
  dispatch_next if_dead to interface method object args at h =
      value object _
      (λ v hv. looked_next code s hw (look v s) if_dead _ h
      (λ n o. choice_next code s hw (method_in code.impls interface method o.kind) _
      (λ g e. function_next code s hw g _
      (λ form func. called_next code s hw form _ (read_next code s hw (give_all (without_first func.params) args f.registers) _ (give_all_lawful (without_first func.params) args f.registers hr)
      (λ vs regs hv h. enter_next code s hw g form func _ (result_to func.result to) (Ref n ∷ vs) (behind f regs ∷ below) (tt, hv) (h, hb)))))))

  returns_next : (v : Option Value) → LawfulHeld v → LawfulNext (function code f.function s (λ form func. leave_function form f.dest v below s))
  returns_next v a = function_next code s hw f.function _ (λ form func. leave_lawful below f.dest (outgoing form v) (ended form v s) hb (outgoing_lawful form v a) (ended_lawful form v s hw))

  makes_next : (to : ℕ) (kind : Kind) (args : List ℕ) → length args ≤ width_limit → LawfulNext (act code last f below s (i.Make to kind args))
  makes_next to kind args few = by (holds_values (kind_of code kind) (length args))
    where
      goes_on : List Value → Registers → Next
      goes_on vs regs = after_tick s (λ t. certain f (Some to) regs below t (make kind vs t))

      made : (o : Option Read) → LawfulRead o → HasMany args o → LawfulNext (with_read o s goes_on)
      made None h many = tt
      made (Some r) h many = tick_next code s hw _ (λ u hu. surely (Some to) r.after u (make kind r.values u) h.1 (l.make_lawful u hu kind r.values h.0 (omega (arith, few, many))))

      by : (b : Bool) → LawfulNext (if b then with_read (read_all args f.registers) s goes_on else wrong s)
      by true = made (read_all args f.registers) (read_all_lawful args f.registers hr) (read_many args f.registers)
      by false = tt

  opens_next : (to : List ℕ) (from : ℕ) → LawfulNext (act code last f below s (i.Open to from))
  opens_next to from = owner_next code s hw (read f.registers from) _ (λ n. opened n (object_of n s) (object_lawful n s hw))
    where
      opened : (n : ℕ) (o : Option Object) → LawfulObject o → LawfulNext (with_choice o s (λ o. with_registers (put_all to o.values (put f.registers from None)) s (λ regs. after_tick s (λ t. onward f regs below (dies n t)))))
      opened n None h = tt
      opened n (Some o) h =
          registers_next code s hw (put_all to o.values (put f.registers from None)) _ (put_all_lawful to o.values (put f.registers from None) (put_lawful f.registers from None hr tt) h.0)
          (λ regs hg. tick_next code s hw _ (λ u hu. (hg, hb, dies_lawful n u hu)))

  keeps : (r : ℕ) (v : Value) → LawfulRegisters (kept_from r v f.registers)
  keeps r v = kept_lawful r v f.registers hr

  -- THE LAW
  pub act_lawful : (x : Instr) → LawfulInstr code x → LawfulNext (act code last f below s x)
  act_lawful (i.Int to n) h = sets to (Int n) h
  act_lawful (i.Truth to choice) h = choice_next code s hw (truth_of choice) _ (λ b e. sets to (Truth b) tt)
  act_lawful (i.Text to n) h = choice_next code s hw (slice_get code.texts n) _ (λ text e. sets to (Text text) (h text e))
  act_lawful (i.Copy to a) h = value a _ (λ v hv. gets_next to (copied v) f.registers hr (copied_lawful v hv))
  act_lawful (i.Move to a) h = value a _ (λ v hv. gets_next to (moved v) (put f.registers a None) (put_lawful f.registers a None hr tt) (moved_lawful v))
  act_lawful (i.Add to a b at) h = values a b _ (λ v w hv hx. answers (Some to) f.registers at (step.add v w s) hr (l.add_lawful s hw v w hv hx))
  act_lawful (i.Sub to a b at) h = values a b _ (λ v w hv hx. answers (Some to) f.registers at (step.sub v w s) hr (l.sub_lawful s hw v w hv hx))
  act_lawful (i.Mul to a b at) h = values a b _ (λ v w hv hx. answers (Some to) f.registers at (step.mul v w s) hr (l.mul_lawful s hw v w hv hx))
  act_lawful (i.Div to a b at) h = values a b _ (λ v w hv hx. answers (Some to) f.registers at (step.div v w s) hr (l.div_lawful s hw v w hv hx))
  act_lawful (i.Rem to a b at) h = values a b _ (λ v w hv hx. answers (Some to) f.registers at (step.rem v w s) hr (l.rem_lawful s hw v w hv hx))
  act_lawful (i.Cmp to choice a b) h = choice_next code s hw (comparison_of choice) _ (λ c e. values a b _ (λ v w hv hx. surely (Some to) f.registers s (step.compare c v w s) hr (l.compare_lawful s hw c v w)))
  act_lawful (i.Not to a) h = value a _ (λ v hv. surely (Some to) f.registers s (step.opposite v s) hr (l.opposite_lawful s hw v))
  act_lawful (i.Join to a b at) h = values a b _ (λ v w hv hx. answers (Some to) f.registers at (step.join v w s) hr (l.join_lawful s hw v w hv hx))
  act_lawful (i.TextLen to a) h = value a _ (λ v hv. surely (Some to) f.registers s (text_length v s) hr (l.text_length_lawful s hw v hv))
  act_lawful (i.Slice to a x y at) h = value a _ (λ v hv. values x y _ (λ u w hu hx. answers (Some to) f.registers at (step.slice v u w s) hr (l.slice_lawful s hw v u w hv hu hx)))
  act_lawful (i.Byte to a x at) h = values a x _ (λ v u hv hu. answers (Some to) f.registers at (step.byte v u s) hr (l.byte_lawful s hw v u hv hu))
  act_lawful (i.TextOf to a) h = value a _ (λ v hv. surely (Some to) f.registers s (step.text_of v s) hr (l.text_of_lawful s hw v hv))
  act_lawful (i.IsNum to a) h = value a _ (λ v hv. surely (Some to) f.registers s (step.is_number v s) hr (l.is_number_lawful s hw v hv))
  act_lawful (i.Num to a at) h = value a _ (λ v hv. answers (Some to) f.registers at (step.number v s) hr (l.number_lawful s hw v hv))
  act_lawful (i.Print a choice) h = choice_next code s hw (truth_of choice) _ (λ line e. value a _ (λ v hv. surely None f.registers s (print line v s) hr (l.print_lawful s hw line v)))
  act_lawful (i.Jump target) h = jumps target
  act_lawful (i.Unless a target) h = truth_next code s hw (read f.registers a) _ (λ b. jumps_unless target b)
  act_lawful i.Tick h = tick_next code s hw _ (λ u hu. (hr, hb, hu))
  act_lawful (i.Call to g args at) h = call_next to g args at
  act_lawful (i.CallM to interface method a args at) h = dispatch_next (trap DeadReference at (Running f ∷ below) s) to interface method a args at tt
  act_lawful (i.CallMLive to interface method a args at) h = dispatch_next (wrong s) to interface method a args at tt
  act_lawful (i.Ret a) h = value a _ (λ v hv. returns_next (Some v) hv)
  act_lawful i.RetVoid h = returns_next None tt
  act_lawful (i.Make to kind args) h = makes_next to kind args h
  act_lawful (i.Borrow to a) h = value a _ (λ v hv. gets_next to (borrowed v) f.registers hr (borrowed_lawful v))
  act_lawful (i.Frozen to a) h = value a _ (λ v hv. gets_next to (as_frozen (name_of v)) f.registers hr (frozen_lawful (name_of v)))
  act_lawful (i.LoadOwn to a field) h = owner_next code s hw (read f.registers a) _ (λ n. surely (Some to) f.registers s (load field (Own n) s) hr (l.load_lawful s hw field (Own n)))
  act_lawful (i.Load to a field at) h = value a _ (λ v hv. answers (Some to) f.registers at (load field v s) hr (l.load_lawful s hw field v))
  act_lawful (i.LoadLive to a field) h = value a _ (λ v hv. surely (Some to) f.registers s (load field v s) hr (l.load_lawful s hw field v))
  act_lawful (i.ElemOwn to a x at) h = owner_next code s hw (read f.registers a) _ (λ n. value x _ (λ u hu. answers (Some to) f.registers at (of_living (element (Own n) u s)) hr (l.living_lawful s hw (element (Own n) u s) (l.element_lawful s hw (Own n) u))))
  act_lawful (i.Elem to a x at) h = values a x _ (λ v u hv hu. answers (Some to) f.registers at (element v u s) hr (l.element_lawful s hw v u))
  act_lawful (i.ElemLive to a x at) h = values a x _ (λ v u hv hu. answers (Some to) f.registers at (of_living (element v u s)) hr (l.living_lawful s hw (element v u s) (l.element_lawful s hw v u)))
  act_lawful (i.Len to a at) h = value a _ (λ v hv. answers (Some to) f.registers at (array_length v s) hr (l.array_length_lawful s hw v))
  act_lawful (i.LenLive to a) h = value a _ (λ v hv. surely (Some to) f.registers s (array_length v s) hr (l.array_length_lawful s hw v))
  act_lawful (i.SwapOwn to a field b) h = owner_next code s hw (read f.registers a) _ (λ n. value b _ (λ new hn. surely (Some to) (kept_from b new f.registers) s (swap field (Own n) new s) (keeps b new) (l.swap_lawful s hw field (Own n) new hn)))
  act_lawful (i.Swap to a field b at) h = values a b _ (λ v new hv hn. answers (Some to) (kept_from b new f.registers) at (swap field v new s) (keeps b new) (l.swap_lawful s hw field v new hn))
  act_lawful (i.SwapElOwn to a x b at) h =
      owner_next code s hw (read f.registers a) _ (λ n. values x b _ (λ u new hu hn. answers (Some to) (kept_from b new f.registers) at (of_living (swap_element (Own n) u new s)) (keeps b new) (l.living_lawful s hw (swap_element (Own n) u new s) (l.swap_element_lawful s hw (Own n) u new hn))))
  act_lawful (i.SwapEl to a x b at) h = value a _ (λ v hv. values x b _ (λ u new hu hn. answers (Some to) (kept_from b new f.registers) at (swap_element v u new s) (keeps b new) (l.swap_element_lawful s hw v u new hn)))
  act_lawful (i.Push a b at) h = values a b _ (λ v new hv hn. answers None (kept_from b new f.registers) at (push v new s) (keeps b new) (l.push_lawful s hw v new hn))
  act_lawful (i.Pop to a at) h = value a _ (λ v hv. answers (Some to) f.registers at (pop v s) hr (l.pop_lawful s hw v))
  act_lawful (i.Open to a) h = opens_next to a
  act_lawful (i.Destroy a at) h = value a _ (λ v hv. destroy_next code v at (behind f (put f.registers a None) ∷ below) s hw (put_lawful f.registers a None hr tt, hb))
  act_lawful (i.Merge to a) h = value a _ (λ v hv. surely (Some to) (kept_from a v f.registers) s (merge v s) (keeps a v) (l.merge_lawful s hw v))
  act_lawful (i.Freeze at) h = deeper_next code s hw 1 at (Running f ∷ below) _ (hr, hb, hw)
  act_lawful (i.ThawMerge to a) h = owner_next code s hw (read f.registers a) _ (λ n. (put_lawful (put f.registers a None) to (Some (Own n)) (put_lawful f.registers a None hr tt) tt, hb, end_lawful merged s hw))
  act_lawful (i.ThawKeep to a) h = owner_next code s hw (read f.registers a) _ (λ n. (put_lawful (put f.registers a None) to (Some (Iso n)) (put_lawful f.registers a None hr tt) tt, hb, end_lawful (kept n) s hw))
  act_lawful i.ThawClear h = (hr, hb, end_lawful cleared s hw)
  act_lawful (i.ParRange to a b g args at) h = absurd h
  act_lawful (i.ParEach to a g args at) h = absurd h
  act_lawful (i.Upcast to a kind) h = value a _ (λ v hv. gets_next to (leading v) (kept_from a v f.registers) (keeps a v) (leading_lawful v))

-- a destruction's next value
pub drop_next_lawful : (code : Parts) (o : Option Owned) (at : FrameAt) (rest : List Value) (below : List Frame) (s : State) → LawfulFrames below → LawfulWorld s.world → LawfulNext (drop_rest code o (record { call = at; rest = rest }) below s)
drop_next_lawful code None at rest below s hb hw = leave_lawful below None None s hb tt hw
drop_next_lawful code (Some o) at rest below s hb hw = destroy_next code o.first at.at _ s hw (tt, hb)
