-- The next statement of a block, the next operator of a chain, and parts of single statements.
use Rattle.std.specs.Prelude.{ℕ, ◌+◌, Bool, true, false, [], ◌∷◌, ◌++◌}
use Rattle.vale_syntax.specs.declared.tree.BinaryOp.{BinaryOp}
use Rattle.vale_rules_spec.specs.Types.{Ty, int}
use Rattle.vale_rules_spec.specs.Typed.{Expr, Link, link, Node, set, Stmt, declare, destructure, Block, type}
use Rattle.vale_lowering.specs.Scopes.{Around}
use Rattle.vale_rules_spec.specs.Returns.{block_returns}
use Rattle.vale_lower_facts.specs.Slots.{Slots, local, holds, with_slot, behind, Stand}
use Rattle.vale_lower_facts.specs.Marks.{Marks, mark, only_marks, link_marks, count_marks, value_marks, value_due, block_marks, block_due, stmt_marks, stmt_due}

abbrev pub link_op : Link → BinaryOp
link_op (link y at op e) = op

-- where the register holds a value of the type x
abbrev pub one_link_marks : Around → Ty → Link → ℕ → Stand → Bool → Marks
one_link_marks around x (link y at op e) h s due = link_marks op x (type e) (value_due e) (λ h s due. value_marks around e h s due) h s due

-- whether the block goes on after it
abbrev pub goes_on : Stmt → Bool
goes_on (destructure at ns xs e) = false
goes_on _ = true

abbrev pub next_marks : Around → Stmt → ℕ → Stand → Bool → Marks
next_marks around (declare n x e) h s due = value_marks around e h s due
next_marks around (destructure at ns xs e) h s due = mark due s ∷ []
next_marks around x h s due = stmt_marks around x h s due

abbrev pub next_due : Bool → Stmt → Bool
next_due returns (declare n x e) = value_due e
next_due returns (destructure at ns xs e) = false
next_due returns x = stmt_due returns x

abbrev pub next_slots : Stmt → ℕ → Slots → Slots
next_slots (declare n x e) h slots = local n.name.0 h x ∷ slots
next_slots _ h slots = slots

abbrev pub next_register : Stmt → ℕ → ℕ
next_register (declare n x e) h = h + 1
next_register _ h = h

-- of a `set` whose value isn't used
abbrev pub store_marks : Around → Node → ℕ → Stand → Bool → Marks
store_marks around (set at p e) h s due = value_marks around e h s due ++ (mark (value_due e) (with_slot (holds h (type e)) s) ∷ [])
store_marks around _ h s due = mark due s ∷ []

-- of a loop over numbers after its bounds, where `turn` has the number of a turn; the label after the test is never due
abbrev pub turns_marks : Around → Block → ℕ → ℕ → Stand → Bool → Marks
turns_marks around b n turn s due =
    count_marks due s (block_marks around false b (turn + 1) (with_slot (local n turn int) s) false) (block_due around.gives false b false) (behind (block_returns b) s) s

-- of a `return` of a value
abbrev pub return_marks : Around → Expr → ℕ → Stand → Bool → Marks
return_marks around e h s due = only_marks around.gives due s (value_marks around e h s due ++ (mark (value_due e) (with_slot (holds h (type e)) s) ∷ []))
