-- The laws by which a walk over a body is proved.
use Rattle.vale_syntax.proofs.ViewLaws as v
use Rattle.vale_types.proofs.PartLaws.{in_if}
use Rattle.vale_types.proofs.WalkLaws.{walked_then, walked_nothing, walked_names, walked_type, walked_stmts, walked_elses}

pub ruleset walk = (walked_then, walked_nothing, walked_names, walked_type, v.of_set, v.of_chain, v.of_unary, v.of_steps, v.of_number, v.of_quote, v.of_truth, v.of_name, v.of_call, v.of_paren, v.of_array, v.of_iso, v.of_form)

pub ruleset walk_forms = (walked_stmts, walked_elses, walked_then, walked_nothing, walked_names, walked_type, v.of_if, v.of_pure, v.of_parallel_range, v.of_parallel_each, v.of_else_if, v.of_block)

pub ruleset walk_if = (in_if, walked_then, walked_nothing, walked_names, walked_type, v.of_pure, v.of_parallel_range, v.of_parallel_each)

pub ruleset walk_stmts = (walked_then, walked_nothing, walked_names, walked_type, v.of_declare, v.of_destructure, v.of_return_nothing, v.of_return_value, v.of_while, v.of_foreach, v.of_form_stmt, v.of_express)

pub ruleset walk_steps = (walked_then, walked_nothing, v.of_link, v.of_field, v.of_method, v.of_index)
