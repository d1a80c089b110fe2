use Rattle.std.proofs.Common.{◌+◌, length, rules}
use Rattle.std.specs.Prelude.{option_map}
use Rattle.vale_syntax.specs.Tree.{more_stmts}
use Rattle.vale_syntax.specs.View.{last_end, view_expr, view_stmt}
use Rattle.vale_reading.specs.Reading.{within, stmt_turn, stmts_at}
use Rattle.vale_reading.proofs.TurnLaws.{calls_start}
use Rattle.vale_blocks.proofs.Starts.{turns_start}
use Rattle.vale_blocks.proofs.level.Level.stmts.Goals as goal

pub returns : goal.returns
unfolding stmts_at
returns g c = calls_start view_stmt (option_map view_expr) (stmt_turn c.args.self.now.parser.now.names.now (within c.args.self.now.parser.now.names.now c.args.self.now.depth)) more_stmts last_end _ _ (λ ts t p. search rules) (length c.args.tokens.now + 1) c.args.tokens.now c.many.result (turns_start _ (length c.args.tokens.now + 1) c.new.result c.args.tokens.now c.new.ensures c.many.result c.many.ensures)
