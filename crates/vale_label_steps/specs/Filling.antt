-- The facts of registers, put in one after another.
use Rattle.std.specs.Prelude.{ℕ, zero, suc, ◌+◌, Bool, true, false, List, [], ◌∷◌, Option, Some, None, slice_set}
use Rattle.vale_rules_spec.specs.Typed as t
use Rattle.vale_core.specs.View.{view_ty}
use Rattle.vale_code.specs.declared.ty.Ty.{Ty as CodeTy}
use Rattle.vale_cert.specs.declared.facts.RegFact.{RegFact}
use Rattle.vale_cert.specs.declared.facts.RegFact.TheVariants.{Empty, Held}
use Rattle.vale_lowering.specs.Scopes.{code_type}
use Rattle.vale_lower_facts.specs.Slots as s
use Rattle.vale_label_steps.specs.declared.slots.Local.{Local}

abbrev pub nothing_known : ℕ → List RegFact
nothing_known zero = []
nothing_known (suc registers) = Empty ∷ nothing_known registers

-- what the end of a function returns, where no run comes
abbrev pub last_known : Bool → ℕ → Option CodeTy → List RegFact → List RegFact
last_known true last (Some ty) facts = slice_set facts last (Held ty 0 false)
last_known true last None facts = facts
last_known false last ty facts = facts

abbrev pub locals_known : List Local → List RegFact → List RegFact
locals_known [] facts = facts
locals_known (l ∷ ls) facts = locals_known ls (slice_set facts l.register (Held (code_type (view_ty l.ty)) 0 false))

abbrev pub args_known : List t.Expr → ℕ → List RegFact → List RegFact
args_known [] h facts = facts
args_known (e ∷ es) h facts = args_known es (h + 1) (slice_set facts h (Held (code_type (t.type e)) 0 false))

-- the innermost counts
abbrev pub slots_known : s.Slots → List RegFact → List RegFact
slots_known [] facts = facts
slots_known (x ∷ xs) facts = slice_set (slots_known xs facts) (s.slot_register x) (Held (code_type (s.slot_type x)) 0 false)
