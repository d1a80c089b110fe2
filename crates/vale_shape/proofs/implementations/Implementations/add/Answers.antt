use Rattle.std.proofs.Common.{◌∙◌, ap}
use Rattle.std.specs.Prelude.{not}
use Rattle.vale_shape.proofs.KnownLaws.{has_pair, one_more}
use Rattle.vale_shape.proofs.implementations.Implementations.add.Goals as goal

pub returns-clause-added : goal.returns-clause-added
returns-clause-added c = λ before knows. c.in_ok-insert.ensures.added ∙ ap not (knows c.args.item.now.interface c.args.item.now.of ∙ has_pair c.args.item.now before)

pub returns-clause-knows : goal.returns-clause-knows
returns-clause-knows c = λ before knows interface of. c.in_ok-insert.ensures.updates.0 (interface.0, of.0) ∙ one_more c.args.item.now before interface of _ (knows interface of)
