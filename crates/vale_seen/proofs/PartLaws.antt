-- What is known of a typed part, by how it is made.
use Rattle.std.proofs.Common.{◌≡◌, List, [], ◌∷◌, refl, ap, rules}
use Rattle.std.specs.Prelude.{true, Option, None, Some}
use Rattle.vale_core.specs.declared.tree.Form.{the_lemmas}
use Rattle.vale_core.specs.declared.tree.Expr.{Expr, out-Expr}
use Rattle.vale_core.specs.declared.tree.Block.{Block, out-Block}
use Rattle.vale_rules_spec.specs.Typed as t
use Rattle.vale_core.specs.declared.tree.Link.{Link, out-Link}
use Rattle.vale_syntax.specs.View.{listed}
use Rattle.vale_rules_spec.specs.Typed.{Steps, no_steps, more_steps, seen, block_type, link_seen, stmts_type, step_may_be_set, last_may_be_set, condition_types, has_else, may_be_set}
use Rattle.vale_seen.specs.Plain.{last_or}
use Rattle.vale_core.specs.View.{view_ty, view_seen, view_expr, view_node, view_link, view_block, view_else_if, elses_of, else_end}
use Rattle.vale_core.proofs.PartLaws.{of_out_expr, of_out_else_if}
use Rattle.vale_core.proofs.ViewLaws as c

pub of_seen : (e : Expr) → seen (view_expr e) ≡ view_seen (out-Expr e).seen
of_seen e = ap seen (of_out_expr e)

pub of_may_be_set : (e : Expr) → may_be_set (view_expr e) ≡ may_be_set (t.expr (view_seen (out-Expr e).seen) (view_node (out-Expr e).node))
of_may_be_set e = ap may_be_set (of_out_expr e)

pub of_block_type : (b : Block) → block_type (view_block b) ≡ view_ty (out-Block b).ty
of_block_type b = search (rules, the_lemmas)

pub of_link_seen : (l : Link) → link_seen (view_link l) ≡ view_seen (out-Link l).seen
of_link_seen l = search (rules, the_lemmas)

last_behind : (s : t.Step) (ss : Steps) → last_or (step_may_be_set s) ss ≡ last_may_be_set (more_steps s ss)
last_behind s no_steps = refl
last_behind s (more_steps u ss) = last_behind u ss

pub last_whole : (ss : Steps) → last_or true ss ≡ last_may_be_set ss
last_whole no_steps = refl
last_whole (more_steps s ss) = last_behind s ss

-- the type of a block is that of its end
pub type_of_end : (ss : List t.Stmt) (end : t.Stmts) → stmts_type (listed t.more_stmts ss end) ≡ stmts_type end
type_of_end [] end = refl
type_of_end (s ∷ ss) end = type_of_end ss end

-- what is after `else` has no condition
pub no_conditions : (o : Option t.Block) → condition_types (else_end o) ≡ []
no_conditions None = refl
no_conditions (Some b) = refl

-- whether there is an `else` is said at the end
pub else_at_end : (es : List t.ElseIf) (o : Option t.Block) → has_else (elses_of es o) ≡ has_else (else_end o)
else_at_end [] o = refl
else_at_end (e ∷ es) o = else_at_end es o

pub ruleset conditions = (of_out_else_if, no_conditions)

pub ruleset blocks = (of_out_else_if)

-- the nodes of expressions
pub ruleset nodes = (c.of_set, c.of_chain, c.of_unary, c.of_steps, c.of_number, c.of_quote, c.of_truth, c.of_name, c.of_call, c.of_paren, c.of_elements, c.of_isolate, c.of_form)
