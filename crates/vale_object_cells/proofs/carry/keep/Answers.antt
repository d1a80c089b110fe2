use Rattle.std.proofs.Common.{Some, ap, ◌∙◌, ◌<◌, length, rules, sym, arith}
use Rattle.std.proofs.lemmas.Int.{to_z-of_z}
use mir.Syntax.{w64}
use Rattle.vale_heap.specs.declared.body.Cell.TheVariants.{Int}
use Rattle.vale_registers.specs.Passing.{from_base}
use Rattle.vale_registers.specs.Texts.{text_at}
use Rattle.vale_object_cells.specs.Cells.{cells_from}
use Rattle.vale_object_cells.proofs.Holding.{cell_within, int_shaped, iso_is, iso_shaped, not_empty, own_is, own_shaped, reference_is, reference_shaped, truth_shaped}
use Rattle.vale_object_cells.proofs.Carrying.{int_kept, iso_kept, own_kept, reference_kept, truth_kept}
use Rattle.vale_object_cells.proofs.carry.keep.Goals as goal

pub shape_at-requires : goal.shape_at-requires
shape_at-requires c = cell_within c.args.registers.now c.args.from c.requires.there

pub int_at-number-requires : goal.int_at-number-requires
int_at-number-requires c = int_shaped c.args.registers.now c.args.from c.shape_at.result c.shape_at.ensures c.in-Int.is

pub truth_at-truth-requires : goal.truth_at-truth-requires
truth_at-truth-requires c = truth_shaped c.args.registers.now c.args.from c.shape_at.result c.shape_at.ensures c.in-Truth.is

pub place_at-owned-requires : goal.place_at-owned-requires
place_at-owned-requires c = own_shaped c.args.registers.now c.args.from c.shape_at.result c.shape_at.ensures c.in-Own.is

pub place_at-referred-requires : goal.place_at-referred-requires
place_at-referred-requires c = reference_shaped c.args.registers.now c.args.from c.shape_at.result c.shape_at.ensures c.in-Ref.is

pub place_at-root-requires : goal.place_at-root-requires
place_at-root-requires c = iso_shaped c.args.registers.now c.args.from c.shape_at.result c.shape_at.ensures c.in-Iso.is

pub unreachable-requires : goal.unreachable-requires
unreachable-requires c = not_empty c.args.registers.now c.args.from c.shape_at.result c.shape_at.ensures c.in-Empty.is c.requires.there

pub returns-in-Int-clause-cell : goal.returns-in-Int-clause-cell
returns-in-Int-clause-cell c = c.int_at-number.ensures (from_base c.args.base (text_at c.args.texts.now)) ∙ ap (λ z. Some (Int z)) (sym (to_z-of_z w64 c.int_at-number.result (search rules)))

pub returns-in-Int-clause-cells : goal.returns-in-Int-clause-cells
returns-in-Int-clause-cells c = int_kept (cells_from c.args.base c.args.texts.now c.args.registers.now) c.args.from _ (c.int_at-number.ensures (from_base c.args.base (text_at c.args.texts.now)))

pub returns-in-Truth-clause-cells : goal.returns-in-Truth-clause-cells
returns-in-Truth-clause-cells c = truth_kept (cells_from c.args.base c.args.texts.now c.args.registers.now) c.args.from _ (c.truth_at-truth.ensures (from_base c.args.base (text_at c.args.texts.now)))

pub returns-in-Own-clause-cell : goal.returns-in-Own-clause-cell
returns-in-Own-clause-cell c = own_is c.args.registers.now c.args.from c.shape_at.result c.place_at-owned.result c.shape_at.ensures c.in-Own.is c.place_at-owned.ensures (from_base c.args.base (text_at c.args.texts.now))

pub returns-in-Own-clause-cells : goal.returns-in-Own-clause-cells
returns-in-Own-clause-cells c =
    let t = from_base c.args.base (text_at c.args.texts.now) in
    own_kept (cells_from c.args.base c.args.texts.now c.args.registers.now) c.args.from c.place_at-owned.result _
    (own_is c.args.registers.now c.args.from c.shape_at.result c.place_at-owned.result c.shape_at.ensures c.in-Own.is c.place_at-owned.ensures t) (c.empty.ensures t)

pub returns-in-Ref-clause-cell : goal.returns-in-Ref-clause-cell
returns-in-Ref-clause-cell c = reference_is c.args.registers.now c.args.from c.shape_at.result c.place_at-referred.result c.shape_at.ensures c.in-Ref.is c.place_at-referred.ensures (from_base c.args.base (text_at c.args.texts.now))

pub returns-in-Ref-clause-cells : goal.returns-in-Ref-clause-cells
returns-in-Ref-clause-cells c =
    reference_kept (cells_from c.args.base c.args.texts.now c.args.registers.now) c.args.from c.place_at-referred.result
    (reference_is c.args.registers.now c.args.from c.shape_at.result c.place_at-referred.result c.shape_at.ensures c.in-Ref.is c.place_at-referred.ensures (from_base c.args.base (text_at c.args.texts.now)))

pub returns-in-Iso-clause-cell : goal.returns-in-Iso-clause-cell
returns-in-Iso-clause-cell c = iso_is c.args.registers.now c.args.from c.shape_at.result c.place_at-root.result c.shape_at.ensures c.in-Iso.is c.place_at-root.ensures (from_base c.args.base (text_at c.args.texts.now))

pub returns-in-Iso-clause-cells : goal.returns-in-Iso-clause-cells
returns-in-Iso-clause-cells c =
    let t = from_base c.args.base (text_at c.args.texts.now) in
    iso_kept (cells_from c.args.base c.args.texts.now c.args.registers.now) c.args.from c.place_at-root.result _
    (iso_is c.args.registers.now c.args.from c.shape_at.result c.place_at-root.result c.shape_at.ensures c.in-Iso.is c.place_at-root.ensures t) (c.empty-in-Iso.ensures t)

pub overflow_add-base : goal.overflow_add-base
overflow_add-base c =
    let within : c.args.from < length c.args.registers.now = cell_within c.args.registers.now c.args.from c.requires.there in
    omega (arith, c.requires.few, within)

pub empty-requires : goal.empty-requires
empty-requires c = cell_within c.args.registers.now c.args.from c.requires.there

pub empty-requires-in-Iso : goal.empty-requires-in-Iso
empty-requires-in-Iso c = cell_within c.args.registers.now c.args.from c.requires.there
