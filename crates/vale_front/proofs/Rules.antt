-- The laws by which the walks are proved.
use Rattle.vale_syntax.proofs.ViewLaws as v
use Rattle.vale_front.proofs.InterfaceLaws.{in_turn, nothing_first, nothing_last, link_by_parts, else_if_by_parts, block_by_parts, if_by_parts}

pub ruleset exprs = (v.of_set, v.of_chain, v.of_unary, v.of_steps, v.of_number, v.of_quote, v.of_truth, v.of_name, v.of_call, v.of_paren, v.of_array, v.of_iso, v.of_form)

pub ruleset lists = (in_turn, nothing_first, nothing_last)

pub ruleset links = (link_by_parts)

pub ruleset steps = (v.of_field, v.of_method, v.of_index)

pub ruleset forms = (if_by_parts, else_if_by_parts, v.of_pure, v.of_parallel_range, v.of_parallel_each)

pub ruleset blocks = (block_by_parts)

pub ruleset stmts = (v.of_declare, v.of_destructure, v.of_return_nothing, v.of_return_value, v.of_while, v.of_foreach, v.of_form_stmt, v.of_express)
