use Rattle.std.proofs.Common.{refl}
use Rattle.vale_heap.specs.declared.body.Cell.TheVariants.{Iso, Own}
use Rattle.vale_object_flow.specs.declared.control.Control.{Control}
use Rattle.vale_object_drops.proofs.Dropping.{can_destroy_next_as, drops_next_as, fits_next_as, neither, next_owned_is, rejoined}
use Rattle.vale_object_drops.proofs.drops.drop_next.Goals as goal

pub destroy_owner-requires-clause-no_root : goal.destroy_owner-requires-clause-no_root
destroy_owner-requires-clause-no_root c =
    let m = c.args.control.now in
    let mid : Control = record { registers = m.registers; texts = m.texts; end = m.end; top = m.top; below = c.next_owned.new.self } in
    fits_next_as c.args.code.now c.args.depth c.args.heap.now c.args.control.now c.args.left.now c.in-Some.cell c.in-Some.at mid refl refl refl c.in-Some.ensures.some (Own c.in-Own.place) c.in-Own.is c.requires.roots

pub destroy_owner-requires-clause-right : goal.destroy_owner-requires-clause-right
destroy_owner-requires-clause-right c =
    let m = c.args.control.now in
    let mid : Control = record { registers = m.registers; texts = m.texts; end = m.end; top = m.top; below = c.next_owned.new.self } in
    can_destroy_next_as c.args.code.now c.args.depth c.args.heap.now c.args.control.now c.args.left.now c.in-Some.cell c.in-Some.at mid refl refl refl c.in-Some.ensures.some (Own c.in-Own.place) c.in-Own.is c.requires.right

pub returns-in-Own-clause-step : goal.returns-in-Own-clause-step
returns-in-Own-clause-step c =
    let m = c.args.control.now in
    let mid : Control = record { registers = m.registers; texts = m.texts; end = m.end; top = m.top; below = c.next_owned.new.self } in
    drops_next_as c.args.code.now c.args.depth c.args.heap.now c.args.control.now c.args.left.now c.in-Some.cell c.in-Some.at mid refl refl refl c.in-Some.ensures.some (Own c.in-Own.place) c.in-Own.is c.destroy_owner.result c.destroy_owner.new.heap c.destroy_owner.new.control c.destroy_owner.new.left c.destroy_owner.ensures.step

pub destroy_isolate-requires-clause-root : goal.destroy_isolate-requires-clause-root
destroy_isolate-requires-clause-root c =
    let m = c.args.control.now in
    let mid : Control = record { registers = m.registers; texts = m.texts; end = m.end; top = m.top; below = c.next_owned.new.self } in
    fits_next_as c.args.code.now c.args.depth c.args.heap.now c.args.control.now c.args.left.now c.in-Some.cell c.in-Some.at mid refl refl refl c.in-Some.ensures.some (Iso c.in-Iso.place) c.in-Iso.is c.requires.roots

pub destroy_isolate-requires-clause-right : goal.destroy_isolate-requires-clause-right
destroy_isolate-requires-clause-right c =
    let m = c.args.control.now in
    let mid : Control = record { registers = m.registers; texts = m.texts; end = m.end; top = m.top; below = c.next_owned.new.self } in
    can_destroy_next_as c.args.code.now c.args.depth c.args.heap.now c.args.control.now c.args.left.now c.in-Some.cell c.in-Some.at mid refl refl refl c.in-Some.ensures.some (Iso c.in-Iso.place) c.in-Iso.is c.requires.right

pub returns-in-Iso-clause-step : goal.returns-in-Iso-clause-step
returns-in-Iso-clause-step c =
    let m = c.args.control.now in
    let mid : Control = record { registers = m.registers; texts = m.texts; end = m.end; top = m.top; below = c.next_owned.new.self } in
    drops_next_as c.args.code.now c.args.depth c.args.heap.now c.args.control.now c.args.left.now c.in-Some.cell c.in-Some.at mid refl refl refl c.in-Some.ensures.some (Iso c.in-Iso.place) c.in-Iso.is c.destroy_isolate.result c.destroy_isolate.new.heap c.destroy_isolate.new.control c.destroy_isolate.new.left c.destroy_isolate.ensures.step

pub unreachable-requires : goal.unreachable-requires
unreachable-requires c =
    let m = c.args.control.now in
    let mid : Control = record { registers = m.registers; texts = m.texts; end = m.end; top = m.top; below = c.next_owned.new.self } in
    neither c.in-Some.cell (next_owned_is c.args.code.now c.args.depth c.args.heap.now c.args.control.now c.args.left.now c.in-Some.cell c.in-Some.at mid refl refl refl c.in-Some.ensures.some) c.in_default.not-Own c.in_default.not-Iso

pub returns-in-None-clause-step : goal.returns-in-None-clause-step
returns-in-None-clause-step c = λ v runs deep right.
    rejoined c.args.code.now c.args.depth c.args.heap.now c.args.control.now c.args.left.now c.next_owned.new.self c.in-None.ensures.none v runs c.rejoin.result c.rejoin.new.below c.rejoin.new.top c.rejoin.ensures
