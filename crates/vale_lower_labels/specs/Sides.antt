-- The sides of an `if`, one after another.
use Rattle.std.specs.Prelude.{ℕ, ◌+◌, Bool, true, false, List, [], ◌∷◌, ◌++◌}
use Rattle.vale_rules_spec.specs.Typed.{ElseIf, else_if, type, block_type}
use Rattle.vale_lowering.specs.Scopes.{Around}
use Rattle.vale_rules_spec.specs.Returns.{block_returns}
use Rattle.vale_lower_facts.specs.Slots.{Stand, with_slot, holds, given, behind}
use Rattle.vale_lower_facts.specs.Marks.{Marks, mark, value_marks, value_due, block_marks, block_due}

-- a test, a block, and a jump
abbrev pub side_marks : Around → Bool → ElseIf → ℕ → Stand → Bool → Marks
side_marks around gives (else_if at c b) h s due =
    value_marks around c h s due ++ (mark (value_due c) (with_slot (holds h (type c)) s) ∷ (block_marks around gives b (h + 1) s false
    ++ (mark (block_due around.gives gives b false) (given gives h (block_type b) (behind (block_returns b) s)) ∷ [])))

abbrev pub sides_marks : Around → Bool → List ElseIf → ℕ → Stand → Bool → Marks
sides_marks around gives [] h s due = []
sides_marks around gives (e ∷ es) h s due = side_marks around gives e h s due ++ sides_marks around gives es h s true

abbrev pub sides_due : List ElseIf → Bool → Bool
sides_due [] due = due
sides_due (e ∷ es) due = sides_due es true
