-- What each instruction does (docs/FORMATS.md, "Instructions").
use Rattle.std.specs.Prelude.{ℕ, ℤ, List, [], ◌∷◌, length, Option, Some, None, slice_get, nat_le, if◌then◌else◌}
use Rattle.vale_base.specs.Limits.{width_limit}
use Rattle.vale_state_spec.specs.Outcome.{Done}
use Rattle.vale_state_spec.specs.State.{State, Answer, print, make, dies, object_of, name_of, look, Looked, found, dead, nowhere, load, swap, element, swap_element, push, pop, freeze, thaw, merged, kept, cleared, merge, width_of}
use Rattle.vale_state_spec.specs.World.{Value, Int, Truth, Text, Own, Ref, Iso, Object}
use Rattle.vale_base.specs.declared.name.Kind.{Kind}
use Rattle.vale_base.specs.declared.spot.Spot.{Spot}
use Rattle.vale_base.specs.declared.trap.TrapKind.TheVariants.{DeadReference, LoopTooWide}
use Rattle.vale_text.specs.Steps as step
use Rattle.vale_code.specs.Destroy.{destroy, drop_next}
use Rattle.vale_code.specs.Enter.{Form, function, enter, if_called, if_iteration, leave_function}
use Rattle.vale_code.specs.Frames.{Active, Items, Numbers, Elements, Frame, Running, Dropping, Looping, Alone, Config, Next, Over, wrong, trap, deeper, after_tick}
use Rattle.vale_code.specs.Instructions.{truth_of, comparison_of, copied, moved, borrowed, leading, of_living, array_length, text_length, behind, onward, with_value, with_read, with_registers, with_owner, with_number, with_truth, with_choice, gets, answered, certain, fetch, jump, jump_unless}
use Rattle.vale_code.specs.Kinds.{kind_of, text_at, holds_values, method_in, result_to}
use Rattle.vale_code.specs.Loops.{loop_begins, loop_next}
use Rattle.vale_code.specs.Parts.{Parts}
use Rattle.vale_code.specs.Registers as r
use Rattle.vale_code.specs.Registers.{Registers, read, put, read_all, give_all, put_all, as_frozen}
use Rattle.vale_code.specs.declared.func.Func.{Func}
use Rattle.vale_code.specs.declared.instr.Instr.{Instr}
use Rattle.vale_code.specs.declared.instr.Instr.TheVariants as i
use Rattle.vale_code.specs.declared.ty.Ty.{Ty}

abbrev pub on_looked : Looked → State → Next → (ℕ → Object → Next) → Next
on_looked (found n o) s if_dead go = go n o
on_looked dead s if_dead go = if_dead
on_looked nowhere s if_dead go = wrong s

abbrev pub without_first : List Ty → List Ty
without_first [] = []
without_first (ty ∷ tys) = tys

module _ (code : Parts) (last : Config → State) (f : Active) (below : List Frame) (s : State) where
  -- what a register holds
  abbrev pub value : ℕ → (Value → Next) → Next
  value a go = with_value (read f.registers a) s go

  abbrev pub values : ℕ → ℕ → (Value → Value → Next) → Next
  values a b go = value a (λ v. value b (λ w. go v w))

  abbrev pub owner : ℕ → (ℕ → Next) → Next
  owner a go = with_owner (read f.registers a) s go

  abbrev pub sets : ℕ → Value → Next
  sets to v = onward f (put f.registers to (Some v)) below s

  -- a step that may trap, and one that doesn't
  abbrev pub answers : Option ℕ → Spot → Answer → Next
  answers to at a = answered f to f.registers at below s a

  abbrev pub surely : Option ℕ → Answer → Next
  surely to a = certain f to f.registers below s a

  -- the same, where the step keeps the value of a register
  abbrev pub answers_keeping : ℕ → Value → Option ℕ → Spot → Answer → Next
  answers_keeping a v to at x = answered f to (r.kept a v f.registers) at below s x

  abbrev pub surely_keeping : ℕ → Value → Option ℕ → Answer → Next
  surely_keeping a v to x = certain f to (r.kept a v f.registers) below s x

  -- ---- calls

  abbrev pub called : ℕ → Form → Func → ℕ → Spot → List Value → Registers → Next
  called g form func to at args regs =
      enter g form func (record { what = text_at code func.name; at = at }) (result_to func.result to) args (behind f regs ∷ below) s

  abbrev pub call : ℕ → ℕ → List ℕ → Spot → Next
  call to g args at =
      function code g s (λ form func.
      if_called form s (with_read (give_all func.params args f.registers) s (λ vs regs. called g form func to at vs regs)))

  -- a method is called of the object of a name
  abbrev pub call_of_object : ℕ → ℕ → ℕ → List ℕ → Spot → Next
  call_of_object n to g args at =
      function code g s (λ form func.
      if_called form s (with_read (give_all (without_first func.params) args f.registers) s (λ vs regs. called g form func to at (Ref n ∷ vs) regs)))

  -- the function is found by the kind of the object
  abbrev pub dispatch : Next → ℕ → ℕ → ℕ → ℕ → List ℕ → Spot → Next
  dispatch if_dead to interface method object args at =
      value object (λ v. on_looked (look v s) s if_dead (λ n o.
      with_choice (method_in code.impls interface method o.kind) s (λ g. call_of_object n to g args at)))

  abbrev pub returns : Option Value → Next
  returns v = function code f.function s (λ form func. leave_function form f.dest v below s)

  -- ---- objects

  abbrev pub makes : ℕ → Kind → List ℕ → Next
  makes to kind args =
      if holds_values (kind_of code kind) (length args)
      then with_read (read_all args f.registers) s (λ vs regs. after_tick s (λ t. certain f (Some to) regs below t (make kind vs t)))
      else wrong s

  -- the object dies, and its values go to the registers
  abbrev pub opens : List ℕ → ℕ → Next
  opens to from =
      owner from (λ n. with_choice (object_of n s) s (λ o.
      with_registers (put_all to o.values (put f.registers from None)) s (λ regs. after_tick s (λ t. onward f regs below (dies n t)))))

  -- ---- parallel loops

  abbrev pub loops : ℕ → Items → ℕ → List ℕ → Registers → Spot → State → Next
  loops to items g args regs at t =
      function code g t (λ form func.
      if_iteration form t (with_read (give_all (without_first func.params) args regs) t (λ vs after.
      loop_begins code last
      (record { function = g; at = at; dest = result_to func.result to; captured = vs; items = items; next = 0; done = []; quiet = t.quiet })
      (behind f after ∷ below) t)))

  abbrev pub loops_over_numbers : ℕ → ℤ → ℤ → ℕ → List ℕ → Spot → Next
  loops_over_numbers to a b g args at =
      if nat_le (width_of a b) width_limit then loops to (Numbers a (width_of a b)) g args f.registers at s else trap LoopTooWide at (Running f ∷ below) s

  -- the array dies first
  abbrev pub loops_over_array : ℕ → ℕ → ℕ → List ℕ → Spot → Next
  loops_over_array to array g args at =
      owner array (λ n. with_choice (object_of n s) s (λ o.
      after_tick s (λ t. loops to (Elements o.values) g args (put f.registers array None) at (dies n t))))

  -- ---- the instructions

  abbrev pub act : Instr → Next
  act (i.Int to n) = sets to (Int n)
  act (i.Truth to choice) = with_choice (truth_of choice) s (λ b. sets to (Truth b))
  act (i.Text to n) = with_choice (slice_get code.texts n) s (λ t. sets to (Text t))
  act (i.Copy to a) = value a (λ v. gets f to (copied v) f.registers below s)
  act (i.Move to a) = value a (λ v. gets f to (moved v) (put f.registers a None) below s)
  act (i.Add to a b at) = values a b (λ v w. answers (Some to) at (step.add v w s))
  act (i.Sub to a b at) = values a b (λ v w. answers (Some to) at (step.sub v w s))
  act (i.Mul to a b at) = values a b (λ v w. answers (Some to) at (step.mul v w s))
  act (i.Div to a b at) = values a b (λ v w. answers (Some to) at (step.div v w s))
  act (i.Rem to a b at) = values a b (λ v w. answers (Some to) at (step.rem v w s))
  act (i.Cmp to choice a b) = with_choice (comparison_of choice) s (λ c. values a b (λ v w. surely (Some to) (step.compare c v w s)))
  act (i.Not to a) = value a (λ v. surely (Some to) (step.opposite v s))
  act (i.Join to a b at) = values a b (λ v w. answers (Some to) at (step.join v w s))
  act (i.TextLen to a) = value a (λ v. surely (Some to) (text_length v s))
  act (i.Slice to a x y at) = value a (λ v. values x y (λ u w. answers (Some to) at (step.slice v u w s)))
  act (i.Byte to a x at) = values a x (λ v u. answers (Some to) at (step.byte v u s))
  act (i.TextOf to a) = value a (λ v. surely (Some to) (step.text_of v s))
  act (i.IsNum to a) = value a (λ v. surely (Some to) (step.is_number v s))
  act (i.Num to a at) = value a (λ v. answers (Some to) at (step.number v s))
  act (i.Print a choice) = with_choice (truth_of choice) s (λ line. value a (λ v. surely None (print line v s)))
  act (i.Jump target) = jump code f target below s
  act (i.Unless a target) = with_truth (read f.registers a) s (jump_unless code f target below s)
  act i.Tick = after_tick s (λ t. onward f f.registers below t)
  act (i.Call to g args at) = call to g args at
  act (i.CallM to interface method a args at) = dispatch (trap DeadReference at (Running f ∷ below) s) to interface method a args at
  act (i.CallMLive to interface method a args at) = dispatch (wrong s) to interface method a args at
  act (i.Ret a) = value a (λ v. returns (Some v))
  act i.RetVoid = returns None
  act (i.Make to kind args) = makes to kind args
  act (i.Borrow to a) = value a (λ v. gets f to (borrowed v) f.registers below s)
  act (i.Frozen to a) = value a (λ v. gets f to (as_frozen (name_of v)) f.registers below s)
  act (i.LoadOwn to a field) = owner a (λ n. surely (Some to) (load field (Own n) s))
  act (i.Load to a field at) = value a (λ v. answers (Some to) at (load field v s))
  act (i.LoadLive to a field) = value a (λ v. surely (Some to) (load field v s))
  act (i.ElemOwn to a x at) = owner a (λ n. value x (λ u. answers (Some to) at (of_living (element (Own n) u s))))
  act (i.Elem to a x at) = values a x (λ v u. answers (Some to) at (element v u s))
  act (i.ElemLive to a x at) = values a x (λ v u. answers (Some to) at (of_living (element v u s)))
  act (i.Len to a at) = value a (λ v. answers (Some to) at (array_length v s))
  act (i.LenLive to a) = value a (λ v. surely (Some to) (array_length v s))
  act (i.SwapOwn to a field b) = owner a (λ n. value b (λ new. surely_keeping b new (Some to) (swap field (Own n) new s)))
  act (i.Swap to a field b at) = values a b (λ v new. answers_keeping b new (Some to) at (swap field v new s))
  act (i.SwapElOwn to a x b at) =
      owner a (λ n. values x b (λ u new. answers_keeping b new (Some to) at (of_living (swap_element (Own n) u new s))))
  act (i.SwapEl to a x b at) = value a (λ v. values x b (λ u new. answers_keeping b new (Some to) at (swap_element v u new s)))
  act (i.Push a b at) = values a b (λ v new. answers_keeping b new None at (push v new s))
  act (i.Pop to a at) = value a (λ v. answers (Some to) at (pop v s))
  act (i.Open to a) = opens to a
  act (i.Destroy a at) = value a (λ v. destroy code v at (behind f (put f.registers a None) ∷ below) s)
  act (i.Merge to a) = value a (λ v. surely_keeping a v (Some to) (merge v s))
  act (i.Freeze at) = deeper 1 at (Running f ∷ below) s (onward f f.registers below (freeze s))
  act (i.ThawMerge to a) = owner a (λ n. onward f (put (put f.registers a None) to (Some (Own n))) below (thaw merged s))
  act (i.ThawKeep to a) = owner a (λ n. onward f (put (put f.registers a None) to (Some (Iso n))) below (thaw (kept n) s))
  act i.ThawClear = onward f f.registers below (thaw cleared s)
  act (i.ParRange to a b g args at) =
      with_number (read f.registers a) s (λ x. with_number (read f.registers b) s (λ y. loops_over_numbers to x y g args at))
  act (i.ParEach to a g args at) = loops_over_array to a g args at
  act (i.Upcast to a kind) = value a (λ v. gets f to (leading v) (r.kept a v f.registers) below s)

  abbrev pub act_if : Option Instr → Next
  act_if None = wrong s
  act_if (Some instr) = act instr

-- ---- steps

abbrev pub step_of : Parts → (Config → State) → Frame → List Frame → State → Next
step_of code last (Running f) below s = act_if code last f below s (fetch code f.function f.place)
step_of code last (Dropping f) below s = drop_next code f below s
step_of code last (Looping f) below s = loop_next code f below s
step_of code last (Alone v) below s = Over Done v s

-- A step: an instruction, an iteration's begin, a destruction's next value, or leaving. A loop that is no part of an iteration
-- asks for the state at the end of each iteration by itself.
abbrev pub step_by : Parts → (Config → State) → Config → Next
step_by code last c = step_of code last c.top c.below c.state
