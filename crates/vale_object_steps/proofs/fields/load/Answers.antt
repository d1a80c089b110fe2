use Rattle.std.proofs.Common.{◌<◌, ◌∙◌, Some, ap, get_or, length, subst, sym}
use Rattle.vale_registers.specs.Passing.{from_base}
use Rattle.vale_registers.specs.Texts.{text_at}
use Rattle.vale_object_cells.specs.Cells.{cells_from}
use Rattle.vale_object_steps.proofs.FieldLaws.{load_dead, load_found, load_place, load_within}
use Rattle.vale_object_steps.proofs.Objects.{got_at, slot_of}
use Rattle.vale_object_steps.proofs.Registers.{cells_many, holds_place}
use Rattle.vale_object_steps.proofs.fields.load.Goals as goal

pub place_at-place-requires : goal.place_at-place-requires
place_at-place-requires c =
    holds_place c.args.base c.args.texts.now c.args.registers.now c.args.object
    (load_place c.args.to c.args.object c.args.field c.args.heap.now (cells_from c.args.base c.args.texts.now c.args.registers.now) c.requires.right)

pub look-requires : goal.look-requires
look-requires c =
    slot_of c.requires.right.view c.args.heap.now (cells_from c.args.base c.args.texts.now c.args.registers.now) c.requires.right.agrees c.args.object c.place_at-place.result
    (c.place_at-place.ensures (from_base c.args.base (text_at c.args.texts.now)))

pub bounds-as_slice-field : goal.bounds-as_slice-field
bounds-as_slice-field c =
    subst (λ cs. c.args.field < length cs) (sym c.as_slice.ensures)
    (load_within c.args.to c.args.object c.args.field c.args.heap.now (cells_from c.args.base c.args.texts.now c.args.registers.now) c.place_at-place.result c.in-Some.body.now c.requires.right
    (c.place_at-place.ensures (from_base c.args.base (text_at c.args.texts.now))) c.in-Some.ensures.stands)

pub returns-in-Ok-clause-step : goal.returns-in-Ok-clause-step
returns-in-Ok-clause-step c =
    let cells = cells_from c.args.base c.args.texts.now c.args.registers.now in
    let at = c.place_at-place.ensures (from_base c.args.base (text_at c.args.texts.now)) in
    let within = load_within c.args.to c.args.object c.args.field c.args.heap.now cells c.place_at-place.result c.in-Some.body.now c.requires.right at c.in-Some.ensures.stands in
    let r = c.index-as_slice-field.result in
    load_found c.args.to c.args.object c.args.field c.args.heap.now cells c.place_at-place.result c.in-Some.body.now r _ at c.in-Some.ensures.stands
    (got_at c.in-Some.body.now.cells c.args.field r within ∙ ap (λ x. Some x) (sym (c.index-as_slice-field.is ∙ ap (λ cs. get_or cs c.args.field r) c.as_slice.ensures)))
    c.in-Ok.ensures.cells (cells_many c.args.base c.args.texts.now c.args.registers.now c.args.to c.requires.room)

pub returns-in-None-clause-step : goal.returns-in-None-clause-step
returns-in-None-clause-step c =
    load_dead c.args.to c.args.object c.args.field c.args.heap.now (cells_from c.args.base c.args.texts.now c.args.registers.now) c.place_at-place.result c.args.heap.now (cells_from c.args.base c.args.texts.now c.args.registers.now)
    (c.place_at-place.ensures (from_base c.args.base (text_at c.args.texts.now))) c.in-None.ensures.stands
