use Rattle.std.proofs.Common.{◌+◌, length, refl, rules}
use Rattle.vale_syntax.specs.Tree.{no_exprs, more_exprs}
use Rattle.vale_syntax.specs.View.{view_expr}
use Rattle.vale_reading.specs.Reading.{within, comma_turn, whole_at}
use Rattle.vale_reading.proofs.TurnLaws.{calls_give_alone}
use Rattle.vale_blocks.proofs.level.Level.more_args.Goals as goal

pub returns : goal.returns
returns g c = calls_give_alone view_expr (λ e. e) (comma_turn (whole_at c.args.self.now.parser.now.names.now (within c.args.self.now.parser.now.names.now c.args.depth))) more_exprs (λ _. no_exprs) _ _ (λ ts t p. search rules) no_exprs (λ e. refl) (length c.args.tokens.now + 1) c.args.args c.args.tokens.now c.several.result c.several.ensures
