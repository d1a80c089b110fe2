use Rattle.std.proofs.Common.{◌<◌, ◌∙◌, Some, ap, length, arith, rules}
use Rattle.std.proofs.lemmas.Int.{to_z-of_z}
use Rattle.std.specs.Prelude.{slice_set}
use mir.Syntax.{w64}
use Rattle.vale_heap.specs.declared.body.Cell.TheVariants.{Int}
use Rattle.vale_object_cells.specs.Cells.{cells_in}
use Rattle.vale_object_cells.proofs.Holding.{as_many}
use Rattle.vale_object_steps.proofs.ArrayLaws.{count_dead, count_found, count_place}
use Rattle.vale_object_steps.proofs.Objects.{slot_of}
use Rattle.vale_object_steps.proofs.arrays.count.Goals as goal

pub place_at-place-requires : goal.place_at-place-requires
place_at-place-requires c =
    let h = c.requires.right in
    let p = count_place c.args.to c.args.object c.args.heap.now (cells_in h.0 c.args.registers.now) h.1 in
    (h.0, p.0, p.1)

pub look-requires : goal.look-requires
look-requires c =
    let h = c.requires.right in
    slot_of h.1.view c.args.heap.now (cells_in h.0 c.args.registers.now) h.1.agrees c.args.object c.place_at-place.result (c.place_at-place.ensures h.0)

pub returns-in-None : goal.returns-in-None
returns-in-None c = record {
  step = λ t. count_dead c.args.to c.args.object c.args.heap.now (cells_in t c.args.registers.now) c.place_at-place.result c.args.heap.now (cells_in t c.args.registers.now) (c.place_at-place.ensures t) c.in-None.ensures.stands;
}

pub returns-in-Some : goal.returns-in-Some
returns-in-Some c = record {
  step = λ t.
      let many = as_many t c.args.registers.now in
      let room : c.args.to < length (cells_in t c.args.registers.now) = omega (arith, c.requires.room, many) in
      count_found c.args.to c.args.object c.args.heap.now (cells_in t c.args.registers.now) c.place_at-place.result c.in-Some.body.now (cells_in t c.set_int.new.registers) (c.place_at-place.ensures t) c.in-Some.ensures.stands
      (c.set_int.ensures t ∙ ap (λ z. slice_set (cells_in t c.args.registers.now) c.args.to (Some (Int z))) (to_z-of_z w64 c.count_of-number.result (search rules) ∙ c.count_of-number.ensures)) room;
}
