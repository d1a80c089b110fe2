-- The sides of an `if`: each is a test, a block, and a jump to the end of all.
use Rattle.std.specs.Prelude.{ℕ, ◌+◌, Bool, List, [], ◌∷◌, ◌++◌, length}
use Rattle.vale_rules_spec.specs.Typed.{ElseIf, else_if}
use Rattle.vale_code.specs.declared.instr.Instr.{Instr}
use Rattle.vale_code.specs.declared.instr.Instr.TheVariants as i
use Rattle.vale_lowering.specs.Scopes.{Scope, Around}
use Rattle.vale_lowering.specs.Lowered.{value_code, block_code}

-- where the jump of a side stands
abbrev pub side_end : ℕ → List Instr → (ℕ → List Instr) → ℕ
side_end place test a = place + length test + 1 + length (a (place + length test + 1))

abbrev pub side_code : ℕ → ℕ → List Instr → (ℕ → List Instr) → ℕ → List Instr
side_code place h test a end =
    test ++ (i.Unless h (side_end place test a + 1) ∷ (a (place + length test + 1) ++ (i.Jump end ∷ [])))

abbrev pub else_if_code : Around → Bool → ElseIf → ℕ → ℕ → ℕ → Scope → List Instr
else_if_code around gives (else_if at c b) end place h s =
    side_code place h (value_code around c place h s) (λ place. block_code around gives b place h (h + 1) s) end

abbrev pub else_if_end : Around → Bool → ElseIf → ℕ → ℕ → Scope → ℕ
else_if_end around gives (else_if at c b) place h s =
    side_end place (value_code around c place h s) (λ place. block_code around gives b place h (h + 1) s)

-- sides one after another, and where their jumps stand
abbrev pub sides_code : Around → Bool → List ElseIf → ℕ → ℕ → ℕ → Scope → List Instr
sides_code around gives [] end place h s = []
sides_code around gives (e ∷ es) end place h s =
    else_if_code around gives e end place h s ++ sides_code around gives es end (else_if_end around gives e place h s + 1) h s

abbrev pub sides_ends : Around → Bool → List ElseIf → ℕ → ℕ → Scope → List ℕ
sides_ends around gives [] place h s = []
sides_ends around gives (e ∷ es) place h s =
    else_if_end around gives e place h s ∷ sides_ends around gives es (else_if_end around gives e place h s + 1) h s
