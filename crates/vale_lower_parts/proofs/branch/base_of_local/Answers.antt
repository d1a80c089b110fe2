use Rattle.std.proofs.Common.{◌∙◌, ap, sym}
use Rattle.std.specs.Prelude.{option_map}
use Rattle.vale_core.specs.View.{view_view}
use Rattle.vale_lower_flow.specs.Entries.{entry_of}
use Rattle.vale_lower_flow.specs.Flow.{going}
use Rattle.vale_lower_places.specs.declared.places.Origin.TheVariants as o
use Rattle.vale_lower_parts.specs.Branches.{local_started}
use Rattle.vale_lower_parts.proofs.StepLaws.{none_ended}
use Rattle.vale_lower_parts.proofs.branch.base_of_local.Goals as goal

pub returns-in_ok-start-in-None : goal.returns-in_ok-start-in-None
returns-in_ok-start-in-None c = λ part after.
    none_ended (view_view c.args.view.now) c.args.h part after c.args.changes (going c.args.flow.now) (o.Reference c.args.h) _ c.in_ok-start-in-None.ensures
    ∙ ap (λ z. local_started (view_view c.args.view.now) c.args.h part after (option_map entry_of z) c.args.changes (going c.args.flow.now)) (sym c.in-None.is)
