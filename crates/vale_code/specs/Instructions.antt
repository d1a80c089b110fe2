-- What instructions do that are no calls: they go on in the same function, trap, or have no rule.
use Rattle.std.specs.Prelude.{ℕ, zero, suc, ◌+◌, ℤ, pos, List, ◌∷◌, length, Option, Some, None, Bool, true, false, slice_get, nat_lt, ◌||◌}
use Rattle.vale_state_spec.specs.State.{State, Answer, gives, traps, fails, with_object}
use Rattle.vale_state_spec.specs.World.{Value, Int, Truth, Own, Ref, Iso}
use Rattle.vale_base.specs.declared.spot.Spot.{Spot}
use Rattle.vale_base.specs.declared.trap.TrapKind.TheVariants.{DeadReference}
use Rattle.vale_text.specs.Steps.{Comparison, equal, not_equal, less, less_equal, greater, greater_equal, on_text}
use Rattle.vale_code.specs.Frames.{Active, Frame, Running, Next, on, wrong, trap, after_tick}
use Rattle.vale_code.specs.Parts.{Parts}
use Rattle.vale_code.specs.Registers.{Registers, Read, put, with_result}
use Rattle.vale_code.specs.declared.func.Func.{Func}
use Rattle.vale_code.specs.declared.instr.Instr.{Instr}
use Rattle.vale_code.specs.declared.instr.Instr.TheVariants as i

-- ---- choices

abbrev pub truth_of : ℕ → Option Bool
truth_of zero = Some false
truth_of (suc zero) = Some true
truth_of _ = None

abbrev pub comparison_of : ℕ → Option Comparison
comparison_of zero = Some equal
comparison_of (suc zero) = Some not_equal
comparison_of (suc (suc zero)) = Some less
comparison_of (suc (suc (suc zero))) = Some less_equal
comparison_of (suc (suc (suc (suc zero)))) = Some greater
comparison_of (suc (suc (suc (suc (suc zero))))) = Some greater_equal
comparison_of _ = None

-- ---- values

-- copy values and references are copied
abbrev pub copied : Value → Option Value
copied (Own n) = None
copied (Iso n) = None
copied v = Some v

-- owners and isolates are moved
abbrev pub moved : Value → Option Value
moved (Own n) = Some (Own n)
moved (Iso n) = Some (Iso n)
moved v = None

-- a reference to an owner's object
abbrev pub borrowed : Value → Option Value
borrowed (Own n) = Some (Ref n)
borrowed v = None

-- a value that leads to an object
abbrev pub leading : Value → Option Value
leading (Own n) = Some (Own n)
leading (Ref n) = Some (Ref n)
leading (Iso n) = Some (Iso n)
leading v = None

-- ---- answers

-- An elided form has no test of what it leads to.
abbrev pub of_living : Answer → Answer
of_living (gives v s) = gives v s
of_living (traps DeadReference) = fails
of_living (traps kind) = traps kind
of_living fails = fails

-- an array's length
abbrev pub array_length : Value → State → Answer
array_length v s = with_object v s (λ n o. gives (Some (Int (pos (length o.values)))) s)

abbrev pub text_length : Value → State → Answer
text_length v s = on_text v (λ t. gives (Some (Int (pos (length t)))) s)

-- ---- going on in a function

-- the function after its instruction, with these registers
abbrev pub behind : Active → Registers → Frame
behind f regs = Running (record f { place = f.place + 1; registers = regs })

abbrev pub onward : Active → Registers → List Frame → State → Next
onward f regs below s = on (behind f regs) below s

abbrev pub with_value : Option Value → State → (Value → Next) → Next
with_value None s go = wrong s
with_value (Some v) s go = go v

abbrev pub with_read : Option Read → State → (List Value → Registers → Next) → Next
with_read None s go = wrong s
with_read (Some r) s go = go r.values r.after

abbrev pub with_registers : Option Registers → State → (Registers → Next) → Next
with_registers None s go = wrong s
with_registers (Some regs) s go = go regs

-- an owner's object
abbrev pub with_owner : Option Value → State → (ℕ → Next) → Next
with_owner (Some (Own n)) s go = go n
with_owner _ s go = wrong s

abbrev pub with_number : Option Value → State → (ℤ → Next) → Next
with_number (Some (Int z)) s go = go z
with_number _ s go = wrong s

abbrev pub with_truth : Option Value → State → (Bool → Next) → Next
with_truth (Some (Truth b)) s go = go b
with_truth _ s go = wrong s

abbrev pub with_choice : {A : Type 0} → Option A → State → (A → Next) → Next
with_choice None s go = wrong s
with_choice (Some a) s go = go a

-- a value goes to a register, where there is one
abbrev pub gets : Active → ℕ → Option Value → Registers → List Frame → State → Next
gets f to None regs below s = wrong s
gets f to (Some v) regs below s = onward f (put regs to (Some v)) below s

-- on with what a step gives, or a trap at this spot
abbrev pub answered : Active → Option ℕ → Registers → Spot → List Frame → State → Answer → Next
answered f to regs at below s (gives v t) = onward f (with_result to v regs) below t
answered f to regs at below s (traps kind) = trap kind at (Running f ∷ below) s
answered f to regs at below s fails = wrong s

-- on with what a step gives, which has no trap
abbrev pub certain : Active → Option ℕ → Registers → List Frame → State → Answer → Next
certain f to regs below s (gives v t) = onward f (with_result to v regs) below t
certain f to regs below s (traps kind) = wrong s
certain f to regs below s fails = wrong s

-- ---- jumps

abbrev pub instruction_in : Option Func → ℕ → Option Instr
instruction_in None p = None
instruction_in (Some func) p = slice_get func.body p

-- the instruction at a place of a function
abbrev pub fetch : Parts → ℕ → ℕ → Option Instr
fetch code f p = instruction_in (slice_get code.funcs f) p

abbrev pub is_tick : Option Instr → Bool
is_tick (Some i.Tick) = true
is_tick _ = false

abbrev pub at_place : Active → ℕ → List Frame → State → Next
at_place f p below s = on (Running (record f { place = p })) below s

-- A jump to its own place or back spends a tick, unless it goes to a `tick`.
abbrev pub is_free : Parts → Active → ℕ → Bool
is_free code f p = nat_lt f.place p || is_tick (fetch code f.function p)

abbrev pub jump_by : Bool → Active → ℕ → List Frame → State → Next
jump_by true f p below s = at_place f p below s
jump_by false f p below s = after_tick s (λ t. at_place f p below t)

abbrev pub jump : Parts → Active → ℕ → List Frame → State → Next
jump code f p below s = jump_by (is_free code f p) f p below s

abbrev pub jump_unless : Parts → Active → ℕ → List Frame → State → Bool → Next
jump_unless code f p below s true = onward f f.registers below s
jump_unless code f p below s false = jump code f p below s
