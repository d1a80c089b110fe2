use Rattle.std.proofs.lemmas.Int.{to_z-of_z}
use mir.Syntax.{w64}
use Rattle.std.proofs.Common.{◌∙◌, Some, ap, get_or, length, rules, sym}
use Rattle.vale_registers.specs.Passing.{from_base}
use Rattle.vale_registers.specs.Texts.{text_at}
use Rattle.vale_object_cells.specs.Cells.{cells_from}
use Rattle.vale_object_steps.proofs.ArrayLaws.{index_of, index_within, read_dead, read_found, read_number, read_outside, read_place}
use Rattle.vale_object_steps.proofs.Objects.{got_at, slot_of}
use Rattle.vale_object_steps.proofs.Registers.{cells_many, holds_int, holds_place}
use Rattle.vale_object_steps.proofs.arrays.element.Goals as goal

pub place_at-place-requires : goal.place_at-place-requires
place_at-place-requires c =
    holds_place c.args.base c.args.texts.now c.args.registers.now c.args.object
    (read_place c.args.to c.args.object c.args.index c.args.heap.now (cells_from c.args.base c.args.texts.now c.args.registers.now) c.requires.right)

pub look-requires : goal.look-requires
look-requires c =
    slot_of c.requires.right.view c.args.heap.now (cells_from c.args.base c.args.texts.now c.args.registers.now) c.requires.right.agrees c.args.object c.place_at-place.result
    (c.place_at-place.ensures (from_base c.args.base (text_at c.args.texts.now)))

pub int_at-number-requires : goal.int_at-number-requires
int_at-number-requires c =
    holds_int c.args.base c.args.texts.now c.args.registers.now c.args.index
    (read_number c.args.to c.args.object c.args.index c.args.heap.now (cells_from c.args.base c.args.texts.now c.args.registers.now) c.place_at-place.result c.in-Some.body.now c.requires.right (c.place_at-place.ensures (from_base c.args.base (text_at c.args.texts.now))) c.in-Some.ensures.stands)

pub returns-in-None-clause-step : goal.returns-in-None-clause-step
returns-in-None-clause-step c =
    read_dead c.args.to c.args.object c.args.index c.args.heap.now (cells_from c.args.base c.args.texts.now c.args.registers.now) c.place_at-place.result c.args.heap.now (cells_from c.args.base c.args.texts.now c.args.registers.now) (c.place_at-place.ensures (from_base c.args.base (text_at c.args.texts.now))) c.in-None.ensures.stands

pub returns-in-None-position-clause-step : goal.returns-in-None-position-clause-step
returns-in-None-position-clause-step c =
    read_outside c.args.to c.args.object c.args.index c.args.heap.now (cells_from c.args.base c.args.texts.now c.args.registers.now) c.place_at-place.result c.in-Some.body.now c.int_at-number.result c.args.heap.now (cells_from c.args.base c.args.texts.now c.args.registers.now) (c.place_at-place.ensures (from_base c.args.base (text_at c.args.texts.now))) c.in-Some.ensures.stands (c.int_at-number.ensures (from_base c.args.base (text_at c.args.texts.now)))
    (index_of c.int_at-number.result _ (length c.in-Some.body.now.cells) _ c.position.result _ (to_z-of_z w64 c.int_at-number.result (search rules)) c.position.ensures (ap length c.as_slice-cells.ensures) c.in-None-position.is)

pub returns-in-Ok-clause-step : goal.returns-in-Ok-clause-step
returns-in-Ok-clause-step c =
    let body = c.in-Some.body.now in
    let k = c.in-Some-position.at in
    let r = c.index-cells-at.result in
    let some = index_of c.int_at-number.result _ (length body.cells) _ c.position.result (Some k) (to_z-of_z w64 c.int_at-number.result (search rules)) c.position.ensures (ap length c.as_slice-cells.ensures) c.in-Some-position.is in
    let within = index_within c.int_at-number.result (length body.cells) k some in
    read_found c.args.to c.args.object c.args.index c.args.heap.now (cells_from c.args.base c.args.texts.now c.args.registers.now) c.place_at-place.result body c.int_at-number.result k r _ (c.place_at-place.ensures (from_base c.args.base (text_at c.args.texts.now))) c.in-Some.ensures.stands (c.int_at-number.ensures (from_base c.args.base (text_at c.args.texts.now))) some
    (got_at body.cells k r within ∙ ap (λ x. Some x) (sym (c.index-cells-at.is ∙ ap (λ cs. get_or cs k r) c.as_slice-cells.ensures)))
    c.in-Ok.ensures.cells (cells_many c.args.base c.args.texts.now c.args.registers.now c.args.to c.requires.room)
