use Rattle.std.proofs.Common.{sym, ◌∙◌}
use Rattle.vale_verifier.proofs.LabelLaws.{all_ahead}
use Rattle.vale_verifier.proofs.walk.function_fault.Goals as goal

pub front_at-requires : goal.front_at-requires
front_at-requires c = all_ahead c.as_slice-labels.result.now (sym c.rise.ensures ∙ c.if-not-rise.false)

pub walk-requires-clause-ahead : goal.walk-requires-clause-ahead
walk-requires-clause-ahead c = all_ahead c.as_slice-labels.result.now (sym c.rise.ensures ∙ c.if-not-rise.false)
