use Rattle.std.proofs.Common.{◌≡◌, map, sym, ◌∙◌}
use Rattle.std.specs.Prelude.{Ok}
use Rattle.vale_syntax.specs.View.{view_item, view_type}
use Rattle.vale_rules_spec.specs.Judged.{stopped}
use Rattle.vale_rules_spec.specs.DeclFaults.{type_faults}
use Rattle.vale_syntax.specs.declared.position.Position.TheVariants.{Value}
use Rattle.vale_types.proofs.TypeLaws.{isolate_then}
use Rattle.vale_types.proofs.types.+check_type.Goals as goal

pub returns-in_ok-check_type-in-Iso : goal.returns-in_ok-check_type-in-Iso
returns-in_ok-check_type-in-Iso t c =
    let inner : stopped (type_faults (map view_item c.args.items.now) Value (view_type c.in-Iso.root)) (tt {0}) ≡ Ok (tt {0}) =
    rw (sym c.get-in-Iso.ensures) (sym c.check_type-in-Iso.ensures ∙ c.in_ok-check_type-in-Iso.was {u = tt {0}}) in
    let itself : _ = isolate_then (map view_item c.args.items.now) c.args.position c.in-Iso.at c.in-Iso.root c.isolate.result inner (rw (sym c.get-in-Iso-2.ensures) c.isolate.ensures) in
    rw c.in-Iso.is itself
