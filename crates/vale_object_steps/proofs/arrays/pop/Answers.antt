use Rattle.std.proofs.Common.{refl, sym}
use Rattle.vale_registers.specs.Passing.{from_base}
use Rattle.vale_registers.specs.Texts.{text_at}
use Rattle.vale_heap.specs.declared.body.Body.{Body}
use Rattle.vale_object_cells.specs.Cells.{cells_from}
use Rattle.vale_object_steps.proofs.ArrayLaws.{pop_dead, pop_empty, pop_found, pop_place}
use Rattle.vale_object_steps.proofs.Objects.{slot_of}
use Rattle.vale_object_steps.proofs.Registers.{cells_many, holds_place}
use Rattle.vale_object_steps.proofs.arrays.pop.Goals as goal

pub place_at-place-requires : goal.place_at-place-requires
place_at-place-requires c =
    holds_place c.args.base c.args.texts.now c.args.registers.now c.args.object
    (pop_place c.args.to c.args.object c.args.heap.now (cells_from c.args.base c.args.texts.now c.args.registers.now) c.requires.right)

pub change-requires : goal.change-requires
change-requires c =
    slot_of c.requires.right.view c.args.heap.now (cells_from c.args.base c.args.texts.now c.args.registers.now) c.requires.right.agrees c.args.object c.place_at-place.result
    (c.place_at-place.ensures (from_base c.args.base (text_at c.args.texts.now)))

pub returns-in-None-clause-step : goal.returns-in-None-clause-step
returns-in-None-clause-step c =
    pop_dead c.args.to c.args.object c.args.heap.now (cells_from c.args.base c.args.texts.now c.args.registers.now) c.place_at-place.result c.args.heap.now (cells_from c.args.base c.args.texts.now c.args.registers.now) (c.place_at-place.ensures (from_base c.args.base (text_at c.args.texts.now))) c.in-None.ensures.found

pub returns-in-None-pop-clause-step : goal.returns-in-None-pop-clause-step
returns-in-None-pop-clause-step c =
    pop_empty c.args.to c.args.object c.args.heap.now (cells_from c.args.base c.args.texts.now c.args.registers.now) c.place_at-place.result c.in-Some.body.now c.args.heap.now (cells_from c.args.base c.args.texts.now c.args.registers.now) (c.place_at-place.ensures (from_base c.args.base (text_at c.args.texts.now))) c.in-Some.ensures.found c.in-None-pop.ensures.none

pub returns-in-Ok-clause-step : goal.returns-in-Ok-clause-step
returns-in-Ok-clause-step c =
    let left : Body = record { kind = c.in-Some.body.now.kind; cells = c.pop.new.self } in
    pop_found c.args.to c.args.object c.args.heap.now (cells_from c.args.base c.args.texts.now c.args.registers.now) c.place_at-place.result c.in-Some.body.now left c.in-Some-pop.last _ (c.place_at-place.ensures (from_base c.args.base (text_at c.args.texts.now))) (sym c.in-Some.ensures.value) c.in-Some.ensures.found
    (c.in-Some.ensures.stands left) refl c.in-Some-pop.ensures.some c.in-Ok.ensures.cells
    (cells_many c.args.base c.args.texts.now c.args.registers.now c.args.to c.requires.room)
