use Rattle.std.proofs.Common.{sym, ◌∙◌}
use Rattle.vale_owner_flow.proofs.LocalLaws.{alike_differ}
use Rattle.vale_owner_flow.proofs.locals.are_alike.Goals as goal

pub returns-then-not-same : goal.returns-then-not-same
returns-then-not-same c = alike_differ c.args.one.now c.args.other.now c.loop-at.at _ _ c.if-one-other.false c.loop-at-test.true (sym c.same.ensures ∙ c.if-not-same.true) c.loop-at.invariant
