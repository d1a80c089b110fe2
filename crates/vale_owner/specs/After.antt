-- What is found after each part of a body, by its flow.
use Rattle.std.specs.Prelude.{Bool, true, false, List, [], ◌∷◌, None}
use Rattle.vale_syntax.specs.declared.tree.NameAt.{NameAt}
use Rattle.vale_rules_spec.specs.Judged.{first_of}
use Rattle.vale_rules_spec.specs.Typed.{Expr, Node, Exprs, Link, link, Links, Step, Steps, Form, ElseIf, else_if, Elses, Block, Stmt, Stmts}
use Rattle.vale_rules_spec.specs.Owned.{Flow, with_rules, link_rules, expr_flow, node_flow, exprs_flow, links_flow, step_flow, steps_flow, form_flow, elses_flow, block_flow, body_flow, stmts_flow, stmt_flow}
use Rattle.vale_rules_spec.specs.Returns.{block_returns}
use Rattle.vale_rules_spec.specs.Whole.{Locals}
use Rattle.vale_owner_flow.specs.FlowView.{FlowView, going, earlier, told, with_first, back_to, Kept, with_branch, with_branches, Sided}

unfoldable pub after_expr : Expr → FlowView → FlowView
after_expr e = going (expr_flow e)

unfoldable pub after_node : Node → FlowView → FlowView
after_node node = going (node_flow node)

unfoldable pub after_exprs : Exprs → FlowView → FlowView
after_exprs es = going (exprs_flow es)

abbrev pub link_flow : Link → Locals → Flow
link_flow (link x at op e) ls = with_rules at (link_rules op ls (expr_flow e ls).after) (expr_flow e ls)

unfoldable pub after_link : Link → FlowView → FlowView
after_link l = going (link_flow l)

unfoldable pub after_links : Links → FlowView → FlowView
after_links ls = going (links_flow ls)

unfoldable pub after_step : Step → FlowView → FlowView
after_step s = going (step_flow s)

unfoldable pub after_steps : Steps → FlowView → FlowView
after_steps ss = going (steps_flow ss)

unfoldable pub after_form : Form → FlowView → FlowView
after_form f = going (form_flow f)

unfoldable pub after_block : Block → FlowView → FlowView
after_block b = going (block_flow b)

-- of a loop over this local
unfoldable pub after_body : NameAt → Block → FlowView → FlowView
after_body n b = going (body_flow n b)

unfoldable pub after_stmts : Stmts → FlowView → FlowView
after_stmts ss = going (stmts_flow ss)

unfoldable pub after_stmt : Stmt → FlowView → FlowView
after_stmt s = going (stmt_flow s)

-- ---- parts that are put together in another way

-- a `set`, of which the place stands before the value and runs after it
unfoldable pub after_set : Expr → Expr → FlowView → FlowView
after_set p e f =
    let g : FlowView = after_expr e (with_first None f) in
    told g.first (after_expr p (with_first f.first g))

-- an iteration, which leaves the locals as they are
unfoldable pub after_iteration : NameAt → Block → FlowView → FlowView
after_iteration n b f = back_to f.locals (after_body n b f)

-- a block of an `if`: the next side begins where it began
unfoldable pub after_side : Block → FlowView → FlowView
after_side b f = back_to f.locals (after_block b f)

unfoldable pub branches_of_side : Block → FlowView → Kept → Kept
branches_of_side b f k = with_branch (block_returns b) (after_block b f).locals k

unfoldable pub after_else_if : ElseIf → FlowView → FlowView
after_else_if (else_if at c b) f = after_side b (after_expr c f)

unfoldable pub branches_of_else_if : ElseIf → FlowView → Kept → Kept
branches_of_else_if (else_if at c b) f k = branches_of_side b (after_expr c f) k

abbrev pub after_else_ifs : List ElseIf → FlowView → FlowView
after_else_ifs [] f = f
after_else_ifs (e ∷ es) f = after_else_ifs es (after_else_if e f)

abbrev pub branches_of_else_ifs : List ElseIf → FlowView → Kept → Kept
branches_of_else_ifs [] f k = k
branches_of_else_ifs (e ∷ es) f k = branches_of_else_ifs es (after_else_if e f) (branches_of_else_if e f k)

-- the sides of an `if` after those before
unfoldable pub after_sides : Elses → FlowView → Kept → Sided
after_sides es f k = record { first = earlier f.first (first_of (elses_flow es f.locals).faults); branches = with_branches (elses_flow es f.locals).branches k }
