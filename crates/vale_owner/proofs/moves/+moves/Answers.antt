use Rattle.std.proofs.Common.{None, map, sym, ap, ◌∙◌}
use Rattle.std.specs.Prelude.{◌||◌}
use Rattle.vale_core.specs.declared.tree.Block.{out-Block}
use Rattle.vale_core.specs.View.{view_stmt, stmts_of}
use Rattle.vale_rules_spec.specs.Owned.{stmts_move}
use Rattle.vale_owner.proofs.MoveLaws.{block_by_parts}
use Rattle.vale_owner.proofs.moves.+moves.Goals as goal

pub block_moves-returns : goal.block_moves-returns
block_moves-returns t c =
    c.either.ensures
    ∙ ap (λ x. x || c.last_moves.result) c.stmts_move-stmts.ensures
    ∙ ap (λ x. stmts_move c.args.local.0 (stmts_of (map view_stmt (out-Block c.args.block.now).stmts) None) || x) c.last_moves.ensures
    ∙ sym (block_by_parts c.args.local.0 c.args.block.now)
