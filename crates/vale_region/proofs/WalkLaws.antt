-- The first fault of each part, by its own parts.
use Rattle.std.proofs.Common.{◌≡◌, List, [], ◌∷◌, refl, ap, sym, ◌∙◌}
use Rattle.std.specs.Prelude.{Bool, true, Option, None, map, option_map}
use Rattle.std.specs.Option.{option_or}
use Rattle.vale_syntax.specs.declared.fault.Fault.{Fault}
use Rattle.vale_rules_spec.specs.Judged.{first_of}
use Rattle.vale_rules_spec.specs.Typed as t
use Rattle.vale_syntax.specs.View.{listed}
use Rattle.vale_core.specs.declared.tree.Expr.{Expr, out-Expr}
use Rattle.vale_core.specs.declared.tree.Link.{Link, out-Link}
use Rattle.vale_core.specs.declared.tree.ElseIf.{ElseIf, out-ElseIf}
use Rattle.vale_core.specs.declared.tree.Block.{Block, out-Block}
use Rattle.vale_core.specs.View.{view_seen, view_expr, view_node, view_stmt, view_block, view_else_if, view_link, stmts_of, last_end}
use Rattle.vale_core.proofs.ViewLaws as v
use Rattle.vale_core.proofs.PartLaws.{of_out_expr, of_out_link, of_out_block, of_out_else_if}
use Rattle.vale_region_spec.specs.declared.around.Around.{Around}
use Rattle.vale_region_spec.specs.Regions.{expr_faults, node_faults, link_faults, else_if_faults, elses_faults, block_faults, stmt_faults, stmts_faults}
use Rattle.vale_region_spec.proofs.FoundLaws.{first_append, first_own, or_or}

module _ (items : List t.Item) (r : Around) where
  pub expr_by_parts : (as_value : Bool) (e : Expr) → expr_faults items r as_value (view_expr e) ≡ node_faults items r as_value (view_seen (out-Expr e).seen) (view_node (out-Expr e).node)
  expr_by_parts as_value e = ap (expr_faults items r as_value) (of_out_expr e)

  pub link_by_parts : (l : Link) → link_faults items r (view_link l) ≡ expr_faults items r true (view_expr (out-Link l).operand)
  link_by_parts l = ap (link_faults items r) (of_out_link l)

  pub else_if_by_parts : (e : ElseIf) → first_of (else_if_faults items r (view_else_if e)) ≡ option_or (first_of (expr_faults items r true (view_expr (out-ElseIf e).condition))) (first_of (block_faults items r (view_block (out-ElseIf e).block)))
  else_if_by_parts e =
      ap (λ z. first_of (else_if_faults items r z)) (of_out_else_if e)
      ∙ first_append (expr_faults items r true (view_expr (out-ElseIf e).condition)) (block_faults items r (view_block (out-ElseIf e).block))

  pub elses_by_parts : (es : List t.ElseIf) (end : t.Elses) → first_of (elses_faults items r (listed t.more_elses es end)) ≡ option_or (first_of (elses_faults items r (listed t.more_elses es t.no_else))) (first_of (elses_faults items r end))
  elses_by_parts [] end = refl
  elses_by_parts (e ∷ es) end =
      let first : Option Fault = first_of (else_if_faults items r e) in
      first_append (else_if_faults items r e) (elses_faults items r (listed t.more_elses es end))
      ∙ ap (option_or first) (elses_by_parts es end)
      ∙ or_or first (first_of (elses_faults items r (listed t.more_elses es t.no_else))) (first_of (elses_faults items r end))
      ∙ ap (λ z. option_or z (first_of (elses_faults items r end))) (sym (first_append (else_if_faults items r e) (elses_faults items r (listed t.more_elses es t.no_else))))

  pub stmts_by_parts : (ss : List t.Stmt) (end : t.Stmts) → first_of (stmts_faults items r (listed t.more_stmts ss end)) ≡ option_or (first_of (stmts_faults items r (listed t.more_stmts ss t.no_stmts))) (first_of (stmts_faults items r end))
  stmts_by_parts [] end = refl
  stmts_by_parts (s ∷ ss) end =
      let first : Option Fault = first_of (stmt_faults items r s) in
      first_append (stmt_faults items r s) (stmts_faults items r (listed t.more_stmts ss end))
      ∙ ap (option_or first) (stmts_by_parts ss end)
      ∙ or_or first (first_of (stmts_faults items r (listed t.more_stmts ss t.no_stmts))) (first_of (stmts_faults items r end))
      ∙ ap (λ z. option_or z (first_of (stmts_faults items r end))) (sym (first_append (stmt_faults items r s) (stmts_faults items r (listed t.more_stmts ss t.no_stmts))))

  pub block_by_parts : (b : Block) → first_of (block_faults items r (view_block b)) ≡ option_or (first_of (stmts_faults items r (stmts_of (map view_stmt (out-Block b).stmts) None))) (first_of (stmts_faults items r (last_end (option_map view_expr (out-Block b).last))))
  block_by_parts b = ap (λ z. first_of (block_faults items r z)) (of_out_block b) ∙ stmts_by_parts (map view_stmt (out-Block b).stmts) (last_end (option_map view_expr (out-Block b).last))

pub ruleset exprs = (expr_by_parts)

pub ruleset nodes = (first_append, first_own, v.of_set, v.of_chain, v.of_unary, v.of_steps, v.of_number, v.of_quote, v.of_truth, v.of_name, v.of_call, v.of_paren, v.of_elements, v.of_isolate, v.of_form)

pub ruleset links = (link_by_parts)

pub ruleset lists = (first_append)

pub ruleset steps = (first_append, first_own, v.of_field, v.of_method, v.of_index)

pub ruleset forms = (first_append, first_own, elses_by_parts, v.of_if, v.of_pure, v.of_parallel_range, v.of_parallel_each)

pub ruleset else_ifs = (else_if_by_parts, first_append)

pub ruleset blocks = (block_by_parts)

pub ruleset stmts = (first_append, first_own, v.of_declare, v.of_destructure, v.of_return, v.of_while, v.of_foreach, v.of_form_stmt, v.of_express)

pub ruleset rows = (first_append, first_own)
