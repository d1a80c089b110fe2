use Rattle.std.proofs.Common.{◌+◌, length, rules}
use Rattle.std.specs.Prelude.{option_map}
use Rattle.vale_syntax.specs.Tree.{more_elses}
use Rattle.vale_syntax.specs.View.{else_end, view_else_if, view_block}
use Rattle.vale_reading.specs.Reading.{within, else_turn, elses_at}
use Rattle.vale_reading.proofs.TurnLaws.{calls_start}
use Rattle.vale_blocks.proofs.Starts.{turns_start}
use Rattle.vale_blocks.proofs.level.Level.elses.Goals as goal

pub returns : goal.returns
unfolding elses_at
returns g c = calls_start view_else_if (option_map view_block) (else_turn c.args.self.now.parser.now.names.now (within c.args.self.now.parser.now.names.now c.args.self.now.depth)) more_elses else_end _ _ (λ ts t p. search rules) (length c.args.tokens.now + 1) c.args.tokens.now c.many.result (turns_start _ (length c.args.tokens.now + 1) c.new.result c.args.tokens.now c.new.ensures c.many.result c.many.ensures)
