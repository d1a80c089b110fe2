-- The registers of a function: each has a value or is empty.
use Rattle.std.specs.Prelude.{ℕ, zero, suc, ◌-◌, List, [], ◌∷◌, ◌++◌, length, map, replicate, Option, Some, None}
use Rattle.vale_state_spec.specs.World.{Value, Own, Ref, Iso}
use Rattle.vale_state_spec.specs.State.{name_of}
use Rattle.vale_code.specs.declared.ty.Ty.{Ty}
use Rattle.vale_code.specs.declared.ty.Ty.TheVariants as t

abbrev pub Registers : Type 0
Registers = List (Option Value)

-- what a register holds
abbrev pub read : Registers → ℕ → Option Value
read [] r = None
read (v ∷ vs) zero = v
read (v ∷ vs) (suc r) = read vs r

-- the registers, where one holds this now
abbrev pub put : Registers → ℕ → Option Value → Registers
put [] zero v = v ∷ []
put [] (suc r) v = None ∷ put [] r v
put (x ∷ xs) zero v = v ∷ xs
put (x ∷ xs) (suc r) v = x ∷ put xs r v

-- the registers of a function that is entered with these arguments
abbrev pub registers_for : ℕ → List Value → Registers
registers_for count args = map Some args ++ replicate (count - length args) None

-- A result is written where there is one, and a register for it.
abbrev pub with_result : Option ℕ → Option Value → Registers → Registers
with_result None v regs = regs
with_result (Some to) None regs = regs
with_result (Some to) (Some v) regs = put regs to (Some v)

-- Whoever keeps a value takes an owner or an isolate out of its register.
abbrev pub kept : ℕ → Value → Registers → Registers
kept r (Own n) regs = put regs r None
kept r (Iso n) regs = put regs r None
kept r v regs = regs

-- values, and the registers after they were read
pub record Read : Type 0 where
  pub values : List Value
  pub after : Registers

abbrev pub and_then : Option Value → Option Read → Option Read
and_then None rest = None
and_then (Some v) None = None
and_then (Some v) (Some rest) = Some (record rest { values = v ∷ rest.values })

abbrev pub after_keeping : ℕ → Option Value → Registers → Registers
after_keeping r None regs = regs
after_keeping r (Some v) regs = kept r v regs

-- the values of registers, which are kept
abbrev pub read_all : List ℕ → Registers → Option Read
read_all [] regs = Some (record { values = []; after = regs })
read_all (r ∷ rs) regs = and_then (read regs r) (read_all rs (after_keeping r (read regs r) regs))

abbrev pub as_frozen : Option ℕ → Option Value
as_frozen None = None
as_frozen (Some n) = Some (Ref n)

abbrev pub named : Option Value → Option ℕ
named None = None
named (Some v) = name_of v

-- A parameter `&imm X` gets a reference to what an argument leads to, which stays where it is; every other parameter keeps its
-- argument.
abbrev pub given_value : Ty → Option Value → Option Value
given_value (t.Frozen k) v = as_frozen (named v)
given_value _ v = v

abbrev pub after_giving : Ty → ℕ → Option Value → Registers → Registers
after_giving (t.Frozen k) r v regs = regs
after_giving _ r v regs = after_keeping r v regs

-- the values of registers, which are given to parameters of these types
abbrev pub give_all : List Ty → List ℕ → Registers → Option Read
give_all [] [] regs = Some (record { values = []; after = regs })
give_all [] (r ∷ rs) regs = None
give_all (ty ∷ tys) [] regs = None
give_all (ty ∷ tys) (r ∷ rs) regs = and_then (given_value ty (read regs r)) (give_all tys rs (after_giving ty r (read regs r) regs))

-- the registers, where each of these has its value now; there are as many values
abbrev pub put_all : List ℕ → List Value → Registers → Option Registers
put_all [] [] regs = Some regs
put_all [] (v ∷ vs) regs = None
put_all (r ∷ rs) [] regs = None
put_all (r ∷ rs) (v ∷ vs) regs = put_all rs vs (put regs r (Some v))
