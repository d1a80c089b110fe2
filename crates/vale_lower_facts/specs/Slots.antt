-- What is known at a place of lowered code: which registers hold what, by the types of the program.
use Rattle.std.specs.Prelude.{ℕ, zero, suc, ◌+◌, Bool, true, false, ◌&&◌, ◌||◌, ◌==◌, List, [], ◌∷◌, Option, Some, None, if◌then◌else◌}
use Rattle.vale_rules_spec.specs.Types.{Ty}
use Rattle.vale_code.specs.declared.ty.Ty.{Ty as CodeTy}
use Rattle.vale_cert.specs.declared.facts.Label.{Label}
use Rattle.vale_cert.specs.declared.facts.RegFact.{RegFact}
use Rattle.vale_cert.specs.declared.facts.RegFact.TheVariants.{Empty, Held}
use Rattle.vale_lowering.specs.Scopes.{Scope, entry, waiting, code_type}

-- a register that holds a value of a type: a local by its name; a value that waits, as the lowering's scope lists it; or a value at
-- hand, which that scope doesn't list
pub data Slot : Type 0 where
  local : ℕ → ℕ → Ty → Slot
  waits : ℕ → Ty → Slot
  holds : ℕ → Ty → Slot

-- the innermost first
abbrev pub Slots : Type 0
Slots = List Slot

-- the same, as the lowering has it
abbrev pub scope_of : Slots → Scope
scope_of [] = []
scope_of (local n r ty ∷ xs) = entry n r ∷ scope_of xs
scope_of (waits r ty ∷ xs) = waiting r ∷ scope_of xs
scope_of (holds r ty ∷ xs) = scope_of xs

abbrev pub slot_register : Slot → ℕ
slot_register (local n r ty) = r
slot_register (waits r ty) = r
slot_register (holds r ty) = r

abbrev pub slot_type : Slot → Ty
slot_type (local n r ty) = ty
slot_type (waits r ty) = ty
slot_type (holds r ty) = ty

-- What is known at a place; `over` where the function has returned before it on every way, so that no run comes to it.
pub record Stand : Type 0 where
  pub slots : Slots
  pub over : Bool

abbrev pub scope_at : Stand → Scope
scope_at s = scope_of s.slots

abbrev pub with_slot : Slot → Stand → Stand
with_slot x s = record { slots = x ∷ s.slots; over = s.over }

-- a value goes to a register, where there is one
abbrev pub given : Bool → ℕ → Ty → Stand → Stand
given true h ty s = with_slot (holds h ty) s
given false h ty s = s

-- after a part that has returned on every way, or hasn't
abbrev pub behind : Bool → Stand → Stand
behind returns s = record { slots = s.slots; over = returns || s.over }

-- ---- registers

-- the type of what a register holds
abbrev pub slot_at : Slots → ℕ → Option CodeTy
slot_at [] r = None
slot_at (x ∷ xs) r = if slot_register x == r then Some (code_type (slot_type x)) else slot_at xs r

-- the register that the end of a function returns, where the function gives a value, and the type of that value; no instruction
-- writes this register
pub record Last : Type 0 where
  pub register : ℕ
  pub ty : Option CodeTy

-- Where no run comes, that register may be said to hold anything, and so it holds what the end returns.
abbrev pub or_last : Last → Bool → ℕ → Option CodeTy → Option CodeTy
or_last last over r (Some ty) = Some ty
or_last last over r None = if over && (last.register == r) then last.ty else None

abbrev pub type_at : Last → Stand → ℕ → Option CodeTy
type_at last s r = or_last last s.over r (slot_at s.slots r)

abbrev pub fact_for : Option CodeTy → RegFact
fact_for None = Empty
fact_for (Some ty) = Held ty 0 false

-- the facts of so many registers from one on
abbrev pub facts_from : Last → Stand → ℕ → ℕ → List RegFact
facts_from last s r zero = []
facts_from last s r (suc count) = fact_for (type_at last s r) ∷ facts_from last s (r + 1) count

-- a label at a place of a function with so many registers
abbrev pub label_for : Last → ℕ → ℕ → Stand → Label
label_for last registers place s = record { at = place; depth = 0; regs = facts_from last s 0 registers }
