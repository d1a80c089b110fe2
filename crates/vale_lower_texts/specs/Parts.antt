-- The quotes of the parts of lists.
use Rattle.std.specs.Prelude.{ℕ, List, ◌++◌}
use Rattle.vale_rules_spec.specs.Typed.{Link, link, ElseIf, else_if}
use Rattle.vale_lowering_objects.specs.Quotes.{expr_quotes, block_quotes}

abbrev pub link_quotes : Link → List (List ℕ)
link_quotes (link s at op e) = expr_quotes e

abbrev pub else_if_quotes : ElseIf → List (List ℕ)
else_if_quotes (else_if at c b) = expr_quotes c ++ block_quotes b
