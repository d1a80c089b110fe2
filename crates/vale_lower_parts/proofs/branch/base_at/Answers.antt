use Rattle.std.proofs.Common.{sym, ◌∙◌}
use Rattle.vale_core.specs.View.{view_view}
use Rattle.vale_lower_flow.specs.Entries.{entry_of}
use Rattle.vale_lower_flow.specs.Flow.{going}
use Rattle.vale_lower_parts.proofs.StepLaws.{stays_ended, lent_ended}
use Rattle.vale_lower_parts.proofs.branch.base_at.Goals as goal

pub returns-then-stays : goal.returns-then-stays
returns-then-stays c = λ part after.
    stays_ended (view_view c.args.view.now) c.args.h part after c.args.changes (going c.args.flow.now) (entry_of c.args.local) c.origin_of.result _ c.is_there.result c.in_ok-start.ensures c.origin_of.ensures c.is_there.ensures (sym c.stays.ensures ∙ c.if-stays.true)

pub returns : goal.returns
returns c = λ part after.
    lent_ended (view_view c.args.view.now) c.args.h part after c.args.changes (going c.args.flow.now) (entry_of c.args.local) _ _ _ _ _ c.in_ok-next.ensures (c.in_ok-put_lent.ensures (view_view c.args.view.now) c.is_frozen.ensures) c.in_ok-mark.ensures.mark c.in_ok-mark.ensures.begun (sym c.stays.ensures ∙ c.if-stays.false)
