use Rattle.std.proofs.lemmas.List.{get_or_default}
use Rattle.vale_lower_flow.proofs.ScopeLaws.{find_next}
use Rattle.vale_lower_flow.proofs.scope.last_named.Goals as goal

pub loop-local-preserved : goal.loop-local-preserved
loop-local-preserved c =
    find_next c.args.name.0 c.args.locals.now c.loop-local.local-index _ c.loop-local.found c.later-found.result c.loop-local-test.true (get_or_default _ _ _ _ c.loop-local-test.true) c.loop-local.invariant c.later-found.ensures
