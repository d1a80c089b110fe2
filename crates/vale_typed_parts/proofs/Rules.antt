-- The statements of the typed tree.
use Rattle.vale_core.proofs.ViewLaws as c

pub ruleset typed_stmts = (c.of_declare, c.of_destructure, c.of_return_nothing, c.of_return_value, c.of_while, c.of_foreach, c.of_form_stmt, c.of_express)
