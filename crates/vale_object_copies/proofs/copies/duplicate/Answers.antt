use Rattle.std.proofs.Common.{◌+◌, ◌<◌, Some, ap, arith, length, rules, sym, ◌∙◌}
use Rattle.std.specs.Prelude.{slice_set}
use Rattle.std.proofs.lemmas.Int.{to_z-of_z}
use mir.Syntax.{w64}
use Rattle.vale_registers.specs.Passing.{from_base}
use Rattle.vale_registers.specs.Texts.{text_at}
use Rattle.vale_heap.specs.declared.body.Cell.TheVariants.{Int}
use Rattle.vale_object_cells.specs.Cells.{cells_from}
use Rattle.vale_object_cells.proofs.Carrying.{text_to}
use Rattle.vale_object_cells.proofs.Holding.{int_shaped, reference_is, reference_shaped, truth_shaped}
use Rattle.vale_object_copies.proofs.CopyLaws.{copied_within, never, text_shaped}
use Rattle.vale_object_copies.proofs.copies.duplicate.Goals as goal

pub shape_at-requires : goal.shape_at-requires
shape_at-requires c = copied_within c.args.registers.now c.args.from c.requires.copied

pub int_at-number-requires : goal.int_at-number-requires
int_at-number-requires c = int_shaped c.args.registers.now c.args.from c.shape_at.result c.shape_at.ensures c.in-Int.is

pub truth_at-truth-requires : goal.truth_at-truth-requires
truth_at-truth-requires c = truth_shaped c.args.registers.now c.args.from c.shape_at.result c.shape_at.ensures c.in-Truth.is

pub place_at-place-requires : goal.place_at-place-requires
place_at-place-requires c = reference_shaped c.args.registers.now c.args.from c.shape_at.result c.shape_at.ensures c.in-Ref.is

pub unreachable-requires : goal.unreachable-requires
unreachable-requires c = never c.args.registers.now c.args.from c.shape_at.result c.shape_at.ensures c.requires.copied c.in_default.not-Int c.in_default.not-Truth c.in_default.not-Text c.in_default.not-Ref

pub returns-in-Int-clause-cells : goal.returns-in-Int-clause-cells
returns-in-Int-clause-cells c =
    let t = from_base c.args.base (text_at c.args.texts.now) in
    let cells = cells_from c.args.base c.args.texts.now c.args.registers.now in
    c.set_int.ensures t ∙ ap (λ z. slice_set cells c.args.to (Some (Int z))) (to_z-of_z w64 c.int_at-number.result (search rules)) ∙ ap (slice_set cells c.args.to) (sym (c.int_at-number.ensures t))

pub returns-in-Truth-clause-cells : goal.returns-in-Truth-clause-cells
returns-in-Truth-clause-cells c =
    let t = from_base c.args.base (text_at c.args.texts.now) in
    c.set_truth.ensures t ∙ ap (slice_set (cells_from c.args.base c.args.texts.now c.args.registers.now) c.args.to) (sym (c.truth_at-truth.ensures t))

pub returns-in-Ref-clause-cells : goal.returns-in-Ref-clause-cells
returns-in-Ref-clause-cells c =
    let t = from_base c.args.base (text_at c.args.texts.now) in
    c.set_reference.ensures t
    ∙ ap (slice_set (cells_from c.args.base c.args.texts.now c.args.registers.now) c.args.to) (sym (reference_is c.args.registers.now c.args.from c.shape_at.result c.place_at-place.result c.shape_at.ensures c.in-Ref.is c.place_at-place.ensures t))

pub returns-in-Ok-clause-cells : goal.returns-in-Ok-clause-cells
returns-in-Ok-clause-cells c =
    let t = from_base c.args.base (text_at c.args.texts.now) in
    text_to c.args.base c.args.to (text_at c.args.texts.now (c.args.base + c.args.from)) c.args.texts.now c.share.new.self c.args.registers.now c.set_text.new.registers c.in-Ok.ensures c.set_text.ensures
    ∙ ap (slice_set (cells_from c.args.base c.args.texts.now c.args.registers.now) c.args.to) (sym (text_shaped c.args.registers.now c.args.from c.shape_at.result c.shape_at.ensures c.in-Text.is t))

pub overflow_add-base : goal.overflow_add-base
overflow_add-base c =
    let lt : c.args.from < length c.args.registers.now = copied_within c.args.registers.now c.args.from c.requires.copied in
    omega (arith, lt, c.requires.few)
