use Rattle.std.proofs.Common.{◌+◌, [], ◌∷◌, length, refl, rules}
use Rattle.vale_reading.specs.Steps.{name_at}
use Rattle.vale_reading.specs.Reading.{comma_turn}
use Rattle.vale_reading.proofs.TurnLaws.{calls_give_alone}
use Rattle.vale_reading.proofs.types.Parser.more_names.Goals as goal

pub returns : goal.returns
returns c = calls_give_alone (λ n. n) (λ e. e) (comma_turn (name_at c.args.self.now.names.now)) (λ n ns. n ∷ ns) (λ _. []) _ _ (λ ts t p. search rules) [] (λ e. refl) (length c.args.tokens.now + 1) c.args.names c.args.tokens.now c.several.result c.several.ensures
