use Rattle.std.proofs.Common.{refl}
use Rattle.vale_heap.specs.declared.body.Cell.TheVariants.{Iso, Own}
use Rattle.vale_object_flow.specs.declared.control.Control.{Control}
use Rattle.vale_object_drops.proofs.Dropping.{can_destroy_as, drops_as, fits_as, holds_owned, lifted_owned, neither}
use Rattle.vale_object_drops.proofs.drops.destroy.Goals as goal

pub lift_from-cell-requires-clause-owned : goal.lift_from-cell-requires-clause-owned
lift_from-cell-requires-clause-owned c = holds_owned c.args.code.now c.args.depth c.args.heap.now c.args.control.now c.args.left.now c.args.from c.args.at c.requires.right

pub destroy_owner-requires-clause-no_root : goal.destroy_owner-requires-clause-no_root
destroy_owner-requires-clause-no_root c =
    fits_as c.args.code.now c.args.depth c.args.heap.now c.args.control.now c.args.left.now c.args.from c.args.at c.lift_from-cell.result c.lift_from-cell.new.registers.items c.lift_from-cell.ensures.lifted (Own c.in-Own.place) c.in-Own.is c.requires.roots

pub destroy_isolate-requires-clause-root : goal.destroy_isolate-requires-clause-root
destroy_isolate-requires-clause-root c =
    fits_as c.args.code.now c.args.depth c.args.heap.now c.args.control.now c.args.left.now c.args.from c.args.at c.lift_from-cell.result c.lift_from-cell.new.registers.items c.lift_from-cell.ensures.lifted (Iso c.in-Iso.place) c.in-Iso.is c.requires.roots

pub destroy_owner-requires-clause-right : goal.destroy_owner-requires-clause-right
destroy_owner-requires-clause-right c =
    let m = c.args.control.now in
    let mid : Control = record { registers = c.lift_from-cell.new.registers; texts = m.texts; end = m.end; top = m.top; below = c.cover.new.self } in
    can_destroy_as c.args.code.now c.args.depth c.args.heap.now c.args.control.now c.args.left.now c.args.from c.args.at c.requires.base c.requires.end c.lift_from-cell.result mid c.lift_from-cell.ensures.lifted refl refl c.in-Ok.ensures (Own c.in-Own.place) c.in-Own.is c.requires.right

pub destroy_isolate-requires-clause-right : goal.destroy_isolate-requires-clause-right
destroy_isolate-requires-clause-right c =
    let m = c.args.control.now in
    let mid : Control = record { registers = c.lift_from-cell.new.registers; texts = m.texts; end = m.end; top = m.top; below = c.cover.new.self } in
    can_destroy_as c.args.code.now c.args.depth c.args.heap.now c.args.control.now c.args.left.now c.args.from c.args.at c.requires.base c.requires.end c.lift_from-cell.result mid c.lift_from-cell.ensures.lifted refl refl c.in-Ok.ensures (Iso c.in-Iso.place) c.in-Iso.is c.requires.right

pub returns-in-Own-clause-step : goal.returns-in-Own-clause-step
returns-in-Own-clause-step c =
    let m = c.args.control.now in
    let mid : Control = record { registers = c.lift_from-cell.new.registers; texts = m.texts; end = m.end; top = m.top; below = c.cover.new.self } in
    drops_as c.args.code.now c.args.depth c.args.heap.now c.args.control.now c.args.left.now c.args.from c.args.at c.requires.base c.requires.end c.lift_from-cell.result mid c.lift_from-cell.ensures.lifted refl refl c.in-Ok.ensures (Own c.in-Own.place) c.in-Own.is c.destroy_owner.result c.destroy_owner.new.heap c.destroy_owner.new.control c.destroy_owner.new.left c.destroy_owner.ensures.step

pub returns-in-Iso-clause-step : goal.returns-in-Iso-clause-step
returns-in-Iso-clause-step c =
    let m = c.args.control.now in
    let mid : Control = record { registers = c.lift_from-cell.new.registers; texts = m.texts; end = m.end; top = m.top; below = c.cover.new.self } in
    drops_as c.args.code.now c.args.depth c.args.heap.now c.args.control.now c.args.left.now c.args.from c.args.at c.requires.base c.requires.end c.lift_from-cell.result mid c.lift_from-cell.ensures.lifted refl refl c.in-Ok.ensures (Iso c.in-Iso.place) c.in-Iso.is c.destroy_isolate.result c.destroy_isolate.new.heap c.destroy_isolate.new.control c.destroy_isolate.new.left c.destroy_isolate.ensures.step

pub unreachable-requires : goal.unreachable-requires
unreachable-requires c =
    neither c.lift_from-cell.result (lifted_owned c.args.code.now c.args.depth c.args.heap.now c.args.control.now c.args.left.now c.args.from c.args.at c.lift_from-cell.result c.lift_from-cell.new.registers.items c.lift_from-cell.ensures.lifted c.requires.right) c.in_default.not-Own c.in_default.not-Iso
