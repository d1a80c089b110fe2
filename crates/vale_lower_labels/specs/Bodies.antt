-- The marks of a whole body.
use Rattle.std.specs.Prelude.{ℕ, Bool, false, [], ◌∷◌, ◌++◌}
use Rattle.vale_rules_spec.specs.Types.{is_copy}
use Rattle.vale_rules_spec.specs.Typed.{Block, Function}
use Rattle.vale_lowering.specs.Scopes.{Around, result_type}
use Rattle.vale_rules_spec.specs.Returns.{block_returns}
use Rattle.vale_lower_facts.specs.Slots.{Stand, behind}
use Rattle.vale_lower_facts.specs.Marks.{Marks, mark, block_marks, block_due}
use Rattle.vale_label_steps.specs.Standing.{plain}

abbrev pub body_marks : Bool → Block → ℕ → Stand → Marks
body_marks returns b h s = block_marks (plain returns) false b h s false ++ (mark (block_due returns false b false) (behind (block_returns b) s) ∷ [])

abbrev pub plain_of : Function → Around
plain_of f = plain (is_copy (result_type f))
