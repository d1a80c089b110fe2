-- What is known at a place of lowered code: which registers hold values of which types, at which depth, and which owners are gone.
use Rattle.std.specs.Prelude.{ℕ, zero, suc, ◌+◌, Bool, true, false, ◌&&◌, ◌==◌, List, [], ◌∷◌, if◌then◌else◌}
use Rattle.vale_rules_spec.specs.Types.{Ty, is_void, is_owned}
use Rattle.vale_model.specs.Parts.{Parts}
use Rattle.vale_cert.specs.declared.facts.Label.{Label}
use Rattle.vale_cert.specs.declared.facts.RegFact.{RegFact}
use Rattle.vale_cert.specs.declared.facts.RegFact.TheVariants.{Empty, Held}
use Rattle.vale_lowering_objects.specs.Program.{code_type}
use Rattle.vale_lowering_objects.specs.Scopes.{Gives, gives_of, Scope, entry, waiting, Gone, is_gone, without}

-- what a value is to the part that runs: a local by its name; a value that waits, as the lowering's scope lists it; or one at hand,
-- which that scope doesn't list
pub data Role : Type 0 where
  local : ℕ → Role
  waits : Role
  at_hand : Role

-- a register that holds a value of a type, written at a depth
pub record Slot : Type 0 where
  pub role : Role
  pub register : ℕ
  pub ty : Ty
  pub depth : ℕ

-- the innermost first
abbrev pub Slots : Type 0
Slots = List Slot

abbrev pub is_listed : Role → Bool
is_listed (local n) = true
is_listed waits = true
is_listed at_hand = false

abbrev pub list_slot : Role → ℕ → Gives → Scope → Scope
list_slot (local n) r q s = entry n r q ∷ s
list_slot waits r q s = waiting r q ∷ s
list_slot at_hand r q s = s

-- the same, as the lowering has it
abbrev pub scope_of : Slots → Scope
scope_of [] = []
scope_of (x ∷ xs) = list_slot x.role x.register (gives_of x.ty) (scope_of xs)

-- What is known before an instruction.
pub record Stand : Type 0 where
  pub depth : ℕ
  pub slots : Slots
  pub gone : Gone

abbrev pub scope_at : Stand → Scope
scope_at s = scope_of s.slots

abbrev pub with_gone : Gone → Stand → Stand
with_gone g s = record { depth = s.depth; slots = s.slots; gone = g }

-- in a region of its own
abbrev pub deeper : Stand → Stand
deeper s = record { depth = s.depth + 1; slots = s.slots; gone = s.gone }

-- ---- a value comes into a register

-- as one at hand
abbrev pub holding : ℕ → Ty → Stand → Stand
holding h x s = record { depth = s.depth; slots = record { role = at_hand; register = h; ty = x; depth = s.depth } ∷ s.slots; gone = s.gone }

-- where there is one
abbrev pub given : ℕ → Ty → Stand → Stand
given h x s = if is_void x then s else holding h x s

abbrev pub with_role : Role → ℕ → Ty → Stand → Stand
with_role role h x s = record { depth = s.depth; slots = record { role = role; register = h; ty = x; depth = s.depth } ∷ s.slots; gone = without h s.gone }

-- as one that waits
abbrev pub with_waiting : ℕ → Ty → Stand → Stand
with_waiting h x s = with_role waits h x s

abbrev pub with_local : ℕ → ℕ → Ty → Stand → Stand
with_local n h x s = with_role (local n) h x s

-- ---- registers

-- an owner that was moved is no longer there
abbrev pub is_lost : Slot → Gone → Bool
is_lost x g = is_listed x.role && is_owned x.ty && is_gone x.register g

abbrev pub slot_fact : Parts → Slot → Gone → RegFact
slot_fact p x g = if is_lost x g then Empty else Held (code_type p x.ty) x.depth false

abbrev pub fact_in : Parts → Slots → Gone → ℕ → RegFact
fact_in p [] g r = Empty
fact_in p (x ∷ xs) g r = if x.register == r then slot_fact p x g else fact_in p xs g r

-- what is known of a register
abbrev pub fact_at : Parts → Stand → ℕ → RegFact
fact_at p s r = fact_in p s.slots s.gone r

-- of so many registers from one on
abbrev pub facts_from : Parts → Stand → ℕ → ℕ → List RegFact
facts_from p s r zero = []
facts_from p s r (suc count) = fact_at p s r ∷ facts_from p s (r + 1) count

-- a label at a place of a function with so many registers
abbrev pub label_for : Parts → ℕ → ℕ → Stand → Label
label_for p registers place s = record { at = place; depth = s.depth; regs = facts_from p s 0 registers }
