-- What instructions on objects do within their function: a step of the state, and where its value goes.
use Rattle.std.specs.Prelude.{ℕ, List, Option, Some, None}
use Rattle.vale_base.specs.declared.name.Kind.{Kind}
use Rattle.vale_state_spec.specs.State.{State, Answer, gives, traps, fails, dies, load, make, swap, element, swap_element, push, pop, name_of, object_of}
use Rattle.vale_state_spec.specs.World.{Object, Value, Own}
use Rattle.vale_code.specs.Instructions.{array_length, borrowed, leading, moved}
use Rattle.vale_code.specs.Registers.{Read, Registers, after_keeping, as_frozen, put, put_all, read, read_all}

-- the step's answer, the registers after what it keeps was taken, and the register for its value
pub record Doing : Type 0 where
  pub to : Option ℕ
  pub after : Registers
  pub answer : Answer

abbrev pub on_value : Option Value → (Value → Answer) → Answer
on_value None go = fails
on_value (Some v) go = go v

abbrev pub on_owner : Option Value → (ℕ → Answer) → Answer
on_owner (Some (Own n)) go = go n
on_owner _ go = fails

-- a step that has no trap
abbrev pub certainly : Answer → Answer
certainly (gives v s) = gives v s
certainly (traps kind) = fails
certainly fails = fails

-- a value that is there
abbrev pub given : Option Value → State → Answer
given None s = fails
given (Some v) s = gives (Some v) s

-- ---- the steps that test what they lead to

abbrev pub loads : ℕ → ℕ → ℕ → Registers → State → Doing
loads to a field regs s = record { to = Some to; after = regs; answer = on_value (read regs a) (λ v. load field v s) }

abbrev pub reads : ℕ → ℕ → ℕ → Registers → State → Doing
reads to a x regs s = record { to = Some to; after = regs; answer = on_value (read regs x) (λ u. on_value (read regs a) (λ v. element v u s)) }

abbrev pub counts : ℕ → ℕ → Registers → State → Doing
counts to a regs s = record { to = Some to; after = regs; answer = on_value (read regs a) (λ v. array_length v s) }

abbrev pub swaps : ℕ → ℕ → ℕ → ℕ → Registers → State → Doing
swaps to a field b regs s = record { to = Some to; after = after_keeping b (read regs b) regs; answer = on_value (read regs b) (λ new. on_value (read regs a) (λ v. swap field v new s)) }

abbrev pub exchanges : ℕ → ℕ → ℕ → ℕ → Registers → State → Doing
exchanges to a x b regs s = record { to = Some to; after = after_keeping b (read regs b) regs; answer = on_value (read regs x) (λ u. on_value (read regs b) (λ new. on_value (read regs a) (λ v. swap_element v u new s))) }

abbrev pub pushes : ℕ → ℕ → Registers → State → Doing
pushes a b regs s = record { to = None; after = after_keeping b (read regs b) regs; answer = on_value (read regs b) (λ new. on_value (read regs a) (λ v. push v new s)) }

abbrev pub pops : ℕ → ℕ → Registers → State → Doing
pops to a regs s = record { to = Some to; after = regs; answer = on_value (read regs a) (λ v. pop v s) }

-- ---- the steps that look at no object

abbrev pub moves : ℕ → ℕ → Registers → State → Doing
moves to a regs s = record { to = Some to; after = put regs a None; answer = on_value (read regs a) (λ v. given (moved v) s) }

abbrev pub borrows : ℕ → ℕ → Registers → State → Doing
borrows to a regs s = record { to = Some to; after = regs; answer = on_value (read regs a) (λ v. given (borrowed v) s) }

abbrev pub freezes : ℕ → ℕ → Registers → State → Doing
freezes to a regs s = record { to = Some to; after = regs; answer = on_value (read regs a) (λ v. given (as_frozen (name_of v)) s) }

abbrev pub widens : ℕ → ℕ → Registers → State → Doing
widens to a regs s = record { to = Some to; after = after_keeping a (read regs a) regs; answer = on_value (read regs a) (λ v. given (leading v) s) }

-- ---- births and deaths, each after its tick

-- no rule gives a step
abbrev pub nothing : Registers → Doing
nothing regs = record { to = None; after = regs; answer = fails }

abbrev pub made_of : ℕ → Kind → Registers → State → Option Read → Doing
made_of to kind regs s None = nothing regs
made_of to kind regs s (Some r) = record { to = Some to; after = r.after; answer = make kind r.values s }

-- an object is made of what registers hold, which is kept
abbrev pub makes : ℕ → Kind → List ℕ → Registers → State → Doing
makes to kind args regs s = made_of to kind regs s (read_all args regs)

abbrev pub opened_to : ℕ → Registers → State → Option Registers → Doing
opened_to n regs s None = nothing regs
opened_to n regs s (Some after) = record { to = None; after = after; answer = gives None (dies n s) }

abbrev pub opened_of : List ℕ → ℕ → Registers → State → ℕ → Option Object → Doing
opened_of to from regs s n None = nothing regs
opened_of to from regs s n (Some o) = opened_to n regs s (put_all to o.values (put regs from None))

abbrev pub opened : List ℕ → ℕ → Registers → State → Option Value → Doing
opened to from regs s (Some (Own n)) = opened_of to from regs s n (object_of n s)
opened to from regs s _ = nothing regs

-- an owner's object dies, and its values go to registers
abbrev pub opens : List ℕ → ℕ → Registers → State → Doing
opens to from regs s = opened to from regs s (read regs from)
