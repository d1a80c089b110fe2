use Rattle.std.proofs.Common.{◌<◌, ◌≤◌, refl, subst, sym}
use Rattle.vale_base.specs.Limits.{width_limit}
use Rattle.vale_registers.specs.Passing.{from_base}
use Rattle.vale_registers.specs.Texts.{text_at}
use Rattle.vale_heap.specs.declared.body.Body.{Body}
use Rattle.vale_object_cells.specs.Cells.{cells_from}
use Rattle.vale_object_steps.proofs.ArrayLaws.{push_dead, push_found, push_full, push_place, push_value}
use Rattle.vale_object_steps.proofs.Objects.{slot_of}
use Rattle.vale_object_steps.proofs.Registers.{holds_cell, holds_place}
use Rattle.vale_object_steps.proofs.arrays.push.Goals as goal

pub place_at-place-requires : goal.place_at-place-requires
place_at-place-requires c =
    holds_place c.args.base c.args.texts.now c.args.registers.now c.args.object
    (push_place c.args.object c.args.value c.args.heap.now (cells_from c.args.base c.args.texts.now c.args.registers.now) c.requires.right)

pub change-requires : goal.change-requires
change-requires c =
    slot_of c.requires.right.view c.args.heap.now (cells_from c.args.base c.args.texts.now c.args.registers.now) c.requires.right.agrees c.args.object c.place_at-place.result
    (c.place_at-place.ensures (from_base c.args.base (text_at c.args.texts.now)))

pub keep-requires-clause-there : goal.keep-requires-clause-there
keep-requires-clause-there c =
    holds_cell c.args.base c.args.texts.now c.args.registers.now c.args.value
    (push_value c.args.object c.args.value c.args.heap.now (cells_from c.args.base c.args.texts.now c.args.registers.now) c.requires.right)

pub returns-in-None-clause-step : goal.returns-in-None-clause-step
returns-in-None-clause-step c = push_dead c.args.object c.args.value c.args.heap.now (cells_from c.args.base c.args.texts.now c.args.registers.now) c.place_at-place.result c.args.heap.now (cells_from c.args.base c.args.texts.now c.args.registers.now) (c.place_at-place.ensures (from_base c.args.base (text_at c.args.texts.now))) c.in-None.ensures.found

pub returns-then-len-ge-WIDTH_LIMIT-clause-step : goal.returns-then-len-ge-WIDTH_LIMIT-clause-step
returns-then-len-ge-WIDTH_LIMIT-clause-step c = push_full c.args.object c.args.value c.args.heap.now (cells_from c.args.base c.args.texts.now c.args.registers.now) c.place_at-place.result c.in-Some.body.now c.args.heap.now (cells_from c.args.base c.args.texts.now c.args.registers.now) (c.place_at-place.ensures (from_base c.args.base (text_at c.args.texts.now))) c.in-Some.ensures.found (subst (λ n. width_limit ≤ n) c.len.ensures c.if-len-ge-WIDTH_LIMIT.true)

pub returns-in-Ok-push-clause-step : goal.returns-in-Ok-push-clause-step
returns-in-Ok-push-clause-step c =
    let left : Body = record { kind = c.in-Some.body.now.kind; cells = c.push.new.self } in
    push_found c.args.object c.args.value c.args.heap.now (cells_from c.args.base c.args.texts.now c.args.registers.now) c.place_at-place.result c.in-Some.body.now left c.in-Ok.cell _ (c.place_at-place.ensures (from_base c.args.base (text_at c.args.texts.now))) (sym c.in-Some.ensures.value) c.in-Some.ensures.found
    (c.in-Some.ensures.stands left) refl c.in-Ok-push.ensures (subst (λ n. n < width_limit) c.len.ensures c.if-len-ge-WIDTH_LIMIT.false) c.in-Ok.ensures.cell c.in-Ok.ensures.cells
