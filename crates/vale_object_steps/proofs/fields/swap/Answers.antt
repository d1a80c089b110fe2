use Rattle.std.proofs.Common.{refl, sym}
use Rattle.vale_registers.specs.Passing.{from_base}
use Rattle.vale_registers.specs.Texts.{text_at}
use Rattle.vale_heap.specs.declared.body.Body.{Body}
use Rattle.vale_object_cells.specs.Cells.{cells_from}
use Rattle.vale_object_steps.proofs.FieldLaws.{swap_dead, swap_found, swap_place, swap_value, swap_within}
use Rattle.vale_object_steps.proofs.Objects.{slot_of}
use Rattle.vale_object_steps.proofs.Registers.{cells_many, holds_cell, holds_place}
use Rattle.vale_object_steps.proofs.fields.swap.Goals as goal

pub place_at-place-requires : goal.place_at-place-requires
place_at-place-requires c =
    holds_place c.args.base c.args.texts.now c.args.registers.now c.args.object
    (swap_place c.args.to c.args.object c.args.field c.args.value c.args.heap.now (cells_from c.args.base c.args.texts.now c.args.registers.now) c.requires.right)

pub change-requires : goal.change-requires
change-requires c =
    slot_of c.requires.right.view c.args.heap.now (cells_from c.args.base c.args.texts.now c.args.registers.now) c.requires.right.agrees c.args.object c.place_at-place.result
    (c.place_at-place.ensures (from_base c.args.base (text_at c.args.texts.now)))

pub keep-requires-clause-there : goal.keep-requires-clause-there
keep-requires-clause-there c =
    holds_cell c.args.base c.args.texts.now c.args.registers.now c.args.value
    (swap_value c.args.to c.args.object c.args.field c.args.value c.args.heap.now (cells_from c.args.base c.args.texts.now c.args.registers.now) c.requires.right)

pub replace-was-requires : goal.replace-was-requires
replace-was-requires c =
    swap_within c.args.to c.args.object c.args.field c.args.value c.args.heap.now (cells_from c.args.base c.args.texts.now c.args.registers.now) c.place_at-place.result c.in-Some.body.now c.requires.right
    (c.place_at-place.ensures (from_base c.args.base (text_at c.args.texts.now))) c.in-Some.ensures.found

pub returns-in-Ok-receive-clause-step : goal.returns-in-Ok-receive-clause-step
returns-in-Ok-receive-clause-step c =
    let cells = cells_from c.args.base c.args.texts.now c.args.registers.now in
    let at = c.place_at-place.ensures (from_base c.args.base (text_at c.args.texts.now)) in
    let left : Body = record { kind = c.in-Some.body.now.kind; cells = c.replace-was.new.self } in
    swap_found c.args.to c.args.object c.args.field c.args.value c.args.heap.now cells c.place_at-place.result c.in-Some.body.now left c.in-Ok.cell c.replace-was.result _ _ at (sym c.in-Some.ensures.value) c.in-Some.ensures.found
    (c.in-Some.ensures.stands left) refl c.replace-was.ensures.after c.in-Ok.ensures.cell c.in-Ok.ensures.cells c.replace-was.ensures.was c.in-Ok-receive.ensures.cells
    (cells_many c.args.base c.args.texts.now c.args.registers.now c.args.to c.requires.room)

pub returns-in-None-clause-step : goal.returns-in-None-clause-step
returns-in-None-clause-step c =
    swap_dead c.args.to c.args.object c.args.field c.args.value c.args.heap.now (cells_from c.args.base c.args.texts.now c.args.registers.now) c.place_at-place.result c.args.heap.now (cells_from c.args.base c.args.texts.now c.args.registers.now)
    (c.place_at-place.ensures (from_base c.args.base (text_at c.args.texts.now))) c.in-None.ensures.found
