use Rattle.std.proofs.lemmas.Int.{to_z-of_z}
use mir.Syntax.{w64}
use Rattle.std.proofs.Common.{length, refl, rules, sym}
use Rattle.vale_registers.specs.Passing.{from_base}
use Rattle.vale_registers.specs.Texts.{text_at}
use Rattle.vale_heap.specs.declared.body.Body.{Body}
use Rattle.vale_object_cells.specs.Cells.{cells_from}
use Rattle.vale_object_steps.proofs.ArrayLaws.{exchange_dead, exchange_found, exchange_number, exchange_outside, exchange_place, exchange_value, index_of}
use Rattle.vale_object_steps.proofs.Objects.{slot_of}
use Rattle.vale_object_steps.proofs.Registers.{cells_many, holds_cell, holds_int, holds_place}
use Rattle.vale_object_steps.proofs.arrays.exchange.Goals as goal

pub place_at-place-requires : goal.place_at-place-requires
place_at-place-requires c =
    holds_place c.args.base c.args.texts.now c.args.registers.now c.args.object
    (exchange_place c.args.to c.args.object c.args.index c.args.value c.args.heap.now (cells_from c.args.base c.args.texts.now c.args.registers.now) c.requires.right)

pub change-requires : goal.change-requires
change-requires c =
    slot_of c.requires.right.view c.args.heap.now (cells_from c.args.base c.args.texts.now c.args.registers.now) c.requires.right.agrees c.args.object c.place_at-place.result
    (c.place_at-place.ensures (from_base c.args.base (text_at c.args.texts.now)))

pub int_at-number-requires : goal.int_at-number-requires
int_at-number-requires c =
    holds_int c.args.base c.args.texts.now c.args.registers.now c.args.index
    (exchange_number c.args.to c.args.object c.args.index c.args.value c.args.heap.now (cells_from c.args.base c.args.texts.now c.args.registers.now) c.place_at-place.result c.in-Some.body.now c.requires.right (c.place_at-place.ensures (from_base c.args.base (text_at c.args.texts.now))) c.in-Some.ensures.found)

pub keep-requires-clause-there : goal.keep-requires-clause-there
keep-requires-clause-there c =
    holds_cell c.args.base c.args.texts.now c.args.registers.now c.args.value
    (exchange_value c.args.to c.args.object c.args.index c.args.value c.args.heap.now (cells_from c.args.base c.args.texts.now c.args.registers.now) c.requires.right)

pub returns-in-None-clause-step : goal.returns-in-None-clause-step
returns-in-None-clause-step c =
    exchange_dead c.args.to c.args.object c.args.index c.args.value c.args.heap.now (cells_from c.args.base c.args.texts.now c.args.registers.now) c.place_at-place.result c.args.heap.now (cells_from c.args.base c.args.texts.now c.args.registers.now) (c.place_at-place.ensures (from_base c.args.base (text_at c.args.texts.now))) c.in-None.ensures.found

pub returns-in-None-position-clause-step : goal.returns-in-None-position-clause-step
returns-in-None-position-clause-step c =
    exchange_outside c.args.to c.args.object c.args.index c.args.value c.args.heap.now (cells_from c.args.base c.args.texts.now c.args.registers.now) c.place_at-place.result c.in-Some.body.now c.int_at-number.result c.args.heap.now (cells_from c.args.base c.args.texts.now c.args.registers.now) (c.place_at-place.ensures (from_base c.args.base (text_at c.args.texts.now))) c.in-Some.ensures.found (c.int_at-number.ensures (from_base c.args.base (text_at c.args.texts.now)))
    (index_of c.int_at-number.result _ (length c.in-Some.body.now.cells) _ c.position.result _ (to_z-of_z w64 c.int_at-number.result (search rules)) c.position.ensures c.len.ensures c.in-None-position.is)

pub returns-in-Ok-receive-clause-step : goal.returns-in-Ok-receive-clause-step
returns-in-Ok-receive-clause-step c =
    let left : Body = record { kind = c.in-Some.body.now.kind; cells = c.replace-was.new.self } in
    exchange_found c.args.to c.args.object c.args.index c.args.value c.args.heap.now (cells_from c.args.base c.args.texts.now c.args.registers.now) c.place_at-place.result c.in-Some.body.now left c.int_at-number.result c.in-Some-position.at c.in-Ok.cell c.replace-was.result _ _ (c.place_at-place.ensures (from_base c.args.base (text_at c.args.texts.now))) (sym c.in-Some.ensures.value) c.in-Some.ensures.found
    (c.in-Some.ensures.stands left) refl c.replace-was.ensures.after (c.int_at-number.ensures (from_base c.args.base (text_at c.args.texts.now))) (index_of c.int_at-number.result _ (length c.in-Some.body.now.cells) _ c.position.result _ (to_z-of_z w64 c.int_at-number.result (search rules)) c.position.ensures c.len.ensures c.in-Some-position.is) c.in-Ok.ensures.cell c.in-Ok.ensures.cells c.replace-was.ensures.was c.in-Ok-receive.ensures.cells
    (cells_many c.args.base c.args.texts.now c.args.registers.now c.args.to c.requires.room)
