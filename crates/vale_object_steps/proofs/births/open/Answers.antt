use Rattle.std.proofs.Common.{arith}
use Rattle.vale_registers.specs.Passing.{from_base}
use Rattle.vale_registers.specs.Texts.{text_at}
use Rattle.vale_object_cells.specs.Cells.{cells_from}
use Rattle.vale_object_cells.proofs.Holding.{as_many, place_within}
use Rattle.vale_object_steps.proofs.BirthLaws.{on_ok, open_found, open_lives, open_many, open_place}
use Rattle.vale_object_steps.proofs.Objects.{slot_of}
use Rattle.vale_object_steps.proofs.Registers.{holds_place}
use Rattle.vale_object_steps.proofs.births.open.Goals as goal

pub place_at-place-requires : goal.place_at-place-requires
place_at-place-requires c =
    holds_place c.args.base c.args.texts.now c.args.registers.now c.args.from
    (open_place c.args.to.now c.args.from c.args.heap.now (cells_from c.args.base c.args.texts.now c.args.registers.now) c.requires.right)

pub end-requires-clause-within : goal.end-requires-clause-within
end-requires-clause-within c =
    slot_of c.requires.right.view c.args.heap.now (cells_from c.args.base c.args.texts.now c.args.registers.now) c.requires.right.agrees c.args.from c.place_at-place.result (c.place_at-place.ensures (from_base c.args.base (text_at c.args.texts.now)))

pub end-requires-clause-no_root : goal.end-requires-clause-no_root
end-requires-clause-no_root c = c.requires.no_root c.place_at-place.result (c.place_at-place.ensures (from_base c.args.base (text_at c.args.texts.now)))

pub unreachable-requires : goal.unreachable-requires
unreachable-requires c = open_lives c.args.to.now c.args.from c.args.heap.now (cells_from c.args.base c.args.texts.now c.args.registers.now) c.place_at-place.result c.requires.right (c.place_at-place.ensures (from_base c.args.base (text_at c.args.texts.now))) c.in-None.ensures.found

pub receive_all-requires-clause-many : goal.receive_all-requires-clause-many
receive_all-requires-clause-many c = open_many c.args.to.now c.args.from c.args.heap.now (cells_from c.args.base c.args.texts.now c.args.registers.now) c.place_at-place.result c.in-Some.body c.requires.right (c.place_at-place.ensures (from_base c.args.base (text_at c.args.texts.now))) c.in-Some.ensures.found

pub empty-requires : goal.empty-requires
empty-requires c =
    place_within c.args.registers.now c.args.from
    (holds_place c.args.base c.args.texts.now c.args.registers.now c.args.from (open_place c.args.to.now c.args.from c.args.heap.now (cells_from c.args.base c.args.texts.now c.args.registers.now) c.requires.right))

pub returns-clause-step : goal.returns-clause-step
returns-clause-step c =
    let t = (from_base c.args.base (text_at c.args.texts.now)) in
    let at = (c.place_at-place.ensures (from_base c.args.base (text_at c.args.texts.now))) in
    let many = as_many t c.args.registers.now in
    on_ok c.receive_all.result _ _ c.receive_all.ensures.cells (λ is.
    open_found c.args.to.now c.args.from c.args.heap.now (cells_from c.args.base c.args.texts.now c.args.registers.now) c.place_at-place.result c.in-Some.body c.end.new.self (cells_from c.args.base c.args.texts.now c.empty.new.registers) _ at c.in-Some.ensures.found c.in-Some.ensures.stands c.in-Some.ensures.ended
    (c.empty.ensures t) (open_many c.args.to.now c.args.from c.args.heap.now (cells_from c.args.base c.args.texts.now c.args.registers.now) c.place_at-place.result c.in-Some.body c.requires.right at c.in-Some.ensures.found)
    (λ k lt. let h = c.requires.room k lt in omega (arith, h, many)) is)
