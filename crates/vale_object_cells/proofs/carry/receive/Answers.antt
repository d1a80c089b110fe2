use Rattle.std.proofs.lemmas.Int.{to_z-of_z}
use mir.Syntax.{w64}
use Rattle.std.proofs.Common.{Some, rules, ap, subst, sym, ◌∙◌}
use Rattle.std.specs.Prelude.{◌≡◌, OnOk, slice_set}
use Rattle.vale_registers.specs.Passing.{from_base}
use Rattle.vale_registers.specs.Texts.{text_at}
use Rattle.vale_heap.specs.declared.body.Cell.{Cell}
use Rattle.vale_heap.specs.declared.body.Cell.TheVariants.{Int}
use Rattle.vale_object_cells.specs.Cells.{cells_from}
use Rattle.vale_object_cells.proofs.carry.receive.Goals as goal

pub returns-in-Int-clause-cells : goal.returns-in-Int-clause-cells
returns-in-Int-clause-cells c =
    c.set_int.ensures (from_base c.args.base (text_at c.args.texts.now))
    ∙ ap (λ z. slice_set (cells_from c.args.base c.args.texts.now c.args.registers.now) c.args.to (Some (Int z))) (to_z-of_z w64 c.in-Int.number (search rules))
    ∙ ap (λ (x : Cell). slice_set (cells_from c.args.base c.args.texts.now c.args.registers.now) c.args.to (Some (x))) (sym c.in-Int.is)

pub returns-in-Truth-clause-cells : goal.returns-in-Truth-clause-cells
returns-in-Truth-clause-cells c = c.set_truth.ensures (from_base c.args.base (text_at c.args.texts.now)) ∙ ap (λ (x : Cell). slice_set (cells_from c.args.base c.args.texts.now c.args.registers.now) c.args.to (Some (x))) (sym c.in-Truth.is)

pub returns-in-Own-clause-cells : goal.returns-in-Own-clause-cells
returns-in-Own-clause-cells c = c.set_own.ensures (from_base c.args.base (text_at c.args.texts.now)) ∙ ap (λ (x : Cell). slice_set (cells_from c.args.base c.args.texts.now c.args.registers.now) c.args.to (Some (x))) (sym c.in-Own.is)

pub returns-in-Ref-clause-cells : goal.returns-in-Ref-clause-cells
returns-in-Ref-clause-cells c = c.set_reference.ensures (from_base c.args.base (text_at c.args.texts.now)) ∙ ap (λ (x : Cell). slice_set (cells_from c.args.base c.args.texts.now c.args.registers.now) c.args.to (Some (x))) (sym c.in-Ref.is)

pub returns-in-Iso-clause-cells : goal.returns-in-Iso-clause-cells
returns-in-Iso-clause-cells c = c.set_iso.ensures (from_base c.args.base (text_at c.args.texts.now)) ∙ ap (λ (x : Cell). slice_set (cells_from c.args.base c.args.texts.now c.args.registers.now) c.args.to (Some (x))) (sym c.in-Iso.is)

pub returns-in-Text-clause-cells : goal.returns-in-Text-clause-cells
returns-in-Text-clause-cells c =
    subst (λ x. OnOk c.put_text.result (cells_from c.args.base c.put_text.new.texts c.put_text.new.registers ≡ slice_set (cells_from c.args.base c.args.texts.now c.args.registers.now) c.args.to (Some x))) (sym c.in-Text.is) c.put_text.ensures.cells
