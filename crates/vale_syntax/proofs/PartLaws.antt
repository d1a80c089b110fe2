-- The view of a part, by the view of its own parts.
use Rattle.std.proofs.Common.{◌≡◌, rules}
use Rattle.std.specs.Prelude.{map, option_map}
use Rattle.vale_syntax.specs.declared.tree.Expr.{the_lemmas}
use Rattle.vale_syntax.specs.declared.tree.Block.{Block, out-Block}
use Rattle.vale_syntax.specs.declared.tree.ElseIf.{ElseIf, out-ElseIf}
use Rattle.vale_syntax.specs.declared.tree.Link.{Link, out-Link}
use Rattle.vale_syntax.specs.Tree as t
use Rattle.vale_syntax.specs.View.{view_expr, view_stmt, view_block, view_else_if, view_link, stmts_of}

pub of_out_block : (b : Block) → view_block b ≡ t.block (out-Block b).at (out-Block b).end (stmts_of (map view_stmt (out-Block b).stmts) (option_map view_expr (out-Block b).last))
of_out_block b = search (rules, the_lemmas)

pub of_out_else_if : (e : ElseIf) → view_else_if e ≡ t.else_if (out-ElseIf e).at (view_expr (out-ElseIf e).condition) (view_block (out-ElseIf e).block)
of_out_else_if e = search (rules, the_lemmas)

pub of_out_link : (l : Link) → view_link l ≡ t.link (out-Link l).at (out-Link l).op (view_expr (out-Link l).operand)
of_out_link l = search (rules, the_lemmas)
