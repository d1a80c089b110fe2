use Rattle.std.proofs.Common.{◌+◌, [], ◌∷◌, length, refl, rules}
use Rattle.vale_syntax.specs.View.{view_param}
use Rattle.vale_reading.specs.Reading.{comma_turn}
use Rattle.vale_reading.specs.ItemReading.{param_at}
use Rattle.vale_reading.proofs.TurnLaws.{calls_give_alone}
use Rattle.vale_parser.proofs.items.more_params.Goals as goal

pub returns : goal.returns
returns c = calls_give_alone view_param (λ e. e) (comma_turn (param_at c.args.parser.now.names.now c.args.depth)) (λ x xs. x ∷ xs) (λ _. []) _ _ (λ ts t p. search rules) [] (λ e. refl) (length c.args.tokens.now + 1) c.args.params c.args.tokens.now c.several.result c.several.ensures
