use Rattle.std.proofs.Common.{◌+◌, length, refl, rules}
use Rattle.vale_syntax.specs.Tree.{no_steps, more_steps}
use Rattle.vale_syntax.specs.View.{view_step}
use Rattle.vale_reading.specs.Reading.{within, step_turn, steps_at}
use Rattle.vale_reading.proofs.TurnLaws.{calls_start_alone}
use Rattle.vale_blocks.proofs.Starts.{alone_start}
use Rattle.vale_blocks.proofs.level.Level.steps.Goals as goal

pub returns : goal.returns
unfolding steps_at
returns g c = calls_start_alone view_step (λ e. e) (step_turn c.args.self.now.parser.now.names.now (within c.args.self.now.parser.now.names.now c.args.self.now.depth)) more_steps (λ _. no_steps) _ _ (λ ts t p. search rules) no_steps (λ e. refl) (length c.args.tokens.now + 1) c.args.tokens.now c.several.result (alone_start _ (length c.args.tokens.now + 1) c.new-none.result c.args.tokens.now c.new-none.ensures c.several.result c.several.ensures)
