-- The first fault of a block, of an `else if` and of an operator, by their parts.
use Rattle.std.proofs.Common.{◌≡◌, ℕ, List, ap, ◌∙◌}
use Rattle.std.specs.Prelude.{Ok, map, option_map, true}
use Rattle.vale_syntax.specs.declared.tree.Block.{Block, out-Block}
use Rattle.vale_syntax.specs.declared.tree.ElseIf.{ElseIf, out-ElseIf}
use Rattle.vale_syntax.specs.declared.tree.Link.{Link, out-Link}
use Rattle.vale_rules_spec.specs.Judged.{broken, first, both, plain, node}
use Rattle.vale_syntax.specs.Tree as e
use Rattle.vale_syntax.specs.Tree.{Item}
use Rattle.vale_rules_spec.specs.Types.{Seen, a_value}
use Rattle.vale_rules_spec.specs.TypeRules.{void_rules, link_rules, link_gives}
use Rattle.vale_rules_spec.specs.Typed as t
use Rattle.vale_rules_spec.specs.Typed.{type, stmts_type, block_type, condition_types, has_else}
use Rattle.vale_rules_spec.specs.Typing.{Env, block_spot, expr, operand, stmts, in_else_if, in_block, void_block}
use Rattle.vale_syntax.specs.View as v
use Rattle.vale_syntax.specs.View.{listed}
use Rattle.vale_rules_spec.proofs.JudgedLaws.{◌>>=◌, meets, first_node, first_plain}
use Rattle.vale_syntax.proofs.PartLaws.{of_out_block, of_out_else_if, of_out_link}

module _ (names : List (List ℕ)) (items : List Item) (env : Env) where
  -- a block that gives nothing is a block first
  pub first_void : (b : e.Block) → first (void_block names items env b) ≡ (first (in_block names items env b) >>= λ a. meets (block_spot b) (broken (void_rules (block_type a))) a)
  first_void (e.block at end ss) = first_node at (λ a. void_rules (block_type a)) (λ a. a) (in_block names items env (e.block at end ss))

  pub in_block_parts : (b : Block) → first (in_block names items env (v.view_block b)) ≡ (first (stmts names items env (v.stmts_of (map v.view_stmt (out-Block b).stmts) (option_map v.view_expr (out-Block b).last))) >>= λ a. Ok (t.block (out-Block b).at (out-Block b).end (stmts_type a) a))
  in_block_parts b =
      ap (λ (x : e.Block). first (in_block names items env x)) (of_out_block b)
      ∙ first_plain (λ a. t.block (out-Block b).at (out-Block b).end (stmts_type a) a) (stmts names items env (v.stmts_of (map v.view_stmt (out-Block b).stmts) (option_map v.view_expr (out-Block b).last)))

  pub in_else_if_parts : (x : ElseIf) → first (in_else_if names items env (v.view_else_if x)) ≡ first (plain (λ a. t.else_if (out-ElseIf x).at a.0 a.1) (both (expr names items env true (v.view_expr (out-ElseIf x).condition)) (in_block names items env (v.view_block (out-ElseIf x).block))))
  in_else_if_parts x = ap (λ (y : e.ElseIf). first (in_else_if names items env y)) (of_out_else_if x)

  pub in_link : (s : Seen) (l : Link) → first (operand names items env s (v.view_link l)) ≡ first (node (out-Link l).at (λ a. link_rules (out-Link l).op s.value (type a)) (λ a. t.link (a_value (link_gives (out-Link l).op s.value)) (out-Link l).at (out-Link l).op a) (expr names items env true (v.view_expr (out-Link l).operand)))
  in_link s l = ap (λ (y : e.Link). first (operand names items env s y)) (of_out_link l)
