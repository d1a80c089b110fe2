-- The laws by which the walk is proved.
use Rattle.vale_syntax.proofs.ViewLaws as v
use Rattle.vale_rules_spec.proofs.JudgedLaws.{first_own, first_node, first_plain, first_both, first_scoped}
use Rattle.vale_typing.proofs.PartLaws.{first_void, in_link, in_else_if_parts, in_block_parts}

pub ruleset exprs = (first_own, first_node, first_plain, first_both, first_scoped, v.of_set, v.of_chain, v.of_unary, v.of_steps, v.of_number, v.of_quote, v.of_truth, v.of_name, v.of_call, v.of_paren, v.of_array, v.of_iso, v.of_form)

pub ruleset links = (first_own, first_node, first_plain, first_both, first_scoped, in_link)

pub ruleset steps = (first_own, first_node, first_plain, first_both, first_scoped, v.of_field, v.of_method, v.of_index)

pub ruleset in_forms = (first_own, first_node, first_plain, first_both, first_scoped, v.of_if, v.of_pure, v.of_parallel_range, v.of_parallel_each, in_else_if_parts)

pub ruleset stmts = (first_own, first_node, first_plain, first_both, first_scoped, first_void, in_block_parts, v.of_declare, v.of_destructure, v.of_return, v.of_while, v.of_foreach, v.of_form_stmt, v.of_express)
