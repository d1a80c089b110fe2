use Rattle.std.proofs.Common.{◌<◌, length, Some, sym, ap, ◌∙◌, rules, to_z, of_z, arith}
use Rattle.std.proofs.lemmas.Int.{to_z-of_z}
use mir.Syntax.{w64}
use Rattle.vale_state_spec.specs.World.{Int, Truth, Text}
use Rattle.vale_code.specs.Instructions.{comparison_of}
use Rattle.vale_code.specs.Registers.{read}
use Rattle.vale_registers.specs.Passing.{from_base}
use Rattle.vale_registers.specs.Texts.{text_at}
use Rattle.vale_heap.specs.declared.body.Cell.TheVariants as cell
use Rattle.vale_turn.specs.Comparing.{compared}
use Rattle.vale_turn.proofs.Rules.{right_int, right_text, right_truth}
use Rattle.vale_object_cells.specs.Cells.{cells_from}
use Rattle.vale_object_cells.specs.Names.{values_in}
use Rattle.vale_object_cells.proofs.Holding.{int_shaped, truth_shaped, within}
use Rattle.vale_object_numbers.proofs.NumberLaws.{holds_int}
use Rattle.vale_object_compares.proofs.CompareLaws.{holds_text, holds_truth, left_cell, never, reads, right_cell, text_shaped}
use Rattle.vale_object_compares.proofs.compares.verdict.Goals as goal

pub shape_at-requires : goal.shape_at-requires
shape_at-requires c =
    let h = c.requires.right in
    let t = from_base c.args.base (text_at c.args.texts.now) in
    let v = left_cell h.0 (cells_from c.args.base c.args.texts.now c.args.registers.now) c.args.choice c.args.left c.args.right h.1 h.2 in
    within t c.args.registers.now c.args.left v.0 v.1

pub unreachable-requires : goal.unreachable-requires
unreachable-requires c =
    let h = c.requires.right in
    let t = from_base c.args.base (text_at c.args.texts.now) in
    never h.0 t c.args.registers.now c.args.choice c.args.left c.args.right h.1 c.shape_at.result c.shape_at.ensures h.2 c.in_default.not-Int c.in_default.not-Truth c.in_default.not-Text

pub int_at-first-requires : goal.int_at-first-requires
int_at-first-requires c = int_shaped c.args.registers.now c.args.left c.shape_at.result c.shape_at.ensures c.in-Int.is

pub int_at-second-requires : goal.int_at-second-requires
int_at-second-requires c =
    let h = c.requires.right in
    let t = from_base c.args.base (text_at c.args.texts.now) in
    let cells = cells_from c.args.base c.args.texts.now c.args.registers.now in
    let regs = values_in h.0 cells in
    let k = comparison_of c.args.choice in
    let r = right_int k c.int_at-first.result (read regs c.args.right) h.1 (ap (λ u. compared k u (read regs c.args.right)) (sym (reads h.0 cells c.args.left (cell.Int c.int_at-first.result) (c.int_at-first.ensures t))) ∙ h.2) in
    (t, r.0, holds_int h.0 cells c.args.right r.0 r.1)

pub ordered-requires : goal.ordered-requires
ordered-requires c =
    let h = c.requires.right in
    let t = from_base c.args.base (text_at c.args.texts.now) in
    let cells = cells_from c.args.base c.args.texts.now c.args.registers.now in
    let regs = values_in h.0 cells in
    let k = comparison_of c.args.choice in
    let first = to_z-of_z w64 c.int_at-first.result (search rules) in
    let second = to_z-of_z w64 c.int_at-second.result (search rules) in (
      h.1,
      ap (λ z. compared k (Some (Int z)) (Some (Int (to_z w64 (of_z w64 c.int_at-second.result))))) first ∙ ap (λ z. compared k (Some (Int c.int_at-first.result)) (Some (Int z))) second
          ∙ ap (λ u. compared k u (Some (Int c.int_at-second.result))) (sym (reads h.0 cells c.args.left (cell.Int c.int_at-first.result) (c.int_at-first.ensures t)))
          ∙ ap (λ u. compared k (read regs c.args.left) u) (sym (reads h.0 cells c.args.right (cell.Int c.int_at-second.result) (c.int_at-second.ensures t))) ∙ h.2,
    )

pub returns-in-Int : goal.returns-in-Int
returns-in-Int c = λ names.
    let t = from_base c.args.base (text_at c.args.texts.now) in
    let cells = cells_from c.args.base c.args.texts.now c.args.registers.now in
    let regs = values_in names cells in
    let k = comparison_of c.args.choice in
    let first = to_z-of_z w64 c.int_at-first.result (search rules) in
    let second = to_z-of_z w64 c.int_at-second.result (search rules) in
    ap (λ u. compared k u (read regs c.args.right)) (reads names cells c.args.left (cell.Int c.int_at-first.result) (c.int_at-first.ensures t))
    ∙ ap (λ u. compared k (Some (Int c.int_at-first.result)) u) (reads names cells c.args.right (cell.Int c.int_at-second.result) (c.int_at-second.ensures t))
    ∙ ap (λ z. compared k (Some (Int z)) (Some (Int c.int_at-second.result))) (sym first) ∙ ap (λ z. compared k (Some (Int (to_z w64 (of_z w64 c.int_at-first.result)))) (Some (Int z))) (sym second) ∙ c.ordered.ensures

pub truth_at-former-requires : goal.truth_at-former-requires
truth_at-former-requires c = truth_shaped c.args.registers.now c.args.left c.shape_at.result c.shape_at.ensures c.in-Truth.is

pub truth_at-latter-requires : goal.truth_at-latter-requires
truth_at-latter-requires c =
    let h = c.requires.right in
    let t = from_base c.args.base (text_at c.args.texts.now) in
    let cells = cells_from c.args.base c.args.texts.now c.args.registers.now in
    let regs = values_in h.0 cells in
    let k = comparison_of c.args.choice in
    let r = right_truth k c.truth_at-former.result (read regs c.args.right) h.1 (ap (λ u. compared k u (read regs c.args.right)) (sym (reads h.0 cells c.args.left (cell.Truth c.truth_at-former.result) (c.truth_at-former.ensures t))) ∙ h.2) in
    (t, r.0, holds_truth h.0 cells c.args.right r.0 r.1)

pub matched-requires : goal.matched-requires
matched-requires c =
    let h = c.requires.right in
    let t = from_base c.args.base (text_at c.args.texts.now) in
    let cells = cells_from c.args.base c.args.texts.now c.args.registers.now in
    let regs = values_in h.0 cells in
    let k = comparison_of c.args.choice in (
      h.1,
      ap (λ u. compared k u (Some (Truth c.truth_at-latter.result))) (sym (reads h.0 cells c.args.left (cell.Truth c.truth_at-former.result) (c.truth_at-former.ensures t)))
          ∙ ap (λ u. compared k (read regs c.args.left) u) (sym (reads h.0 cells c.args.right (cell.Truth c.truth_at-latter.result) (c.truth_at-latter.ensures t))) ∙ h.2,
    )

pub returns-in-Truth : goal.returns-in-Truth
returns-in-Truth c = λ names.
    let t = from_base c.args.base (text_at c.args.texts.now) in
    let cells = cells_from c.args.base c.args.texts.now c.args.registers.now in
    let regs = values_in names cells in
    let k = comparison_of c.args.choice in
    ap (λ u. compared k u (read regs c.args.right)) (reads names cells c.args.left (cell.Truth c.truth_at-former.result) (c.truth_at-former.ensures t))
    ∙ ap (λ u. compared k (Some (Truth c.truth_at-former.result)) u) (reads names cells c.args.right (cell.Truth c.truth_at-latter.result) (c.truth_at-latter.ensures t)) ∙ c.matched.ensures

pub overflow_add-base : goal.overflow_add-base
overflow_add-base c =
    let h = c.requires.right in
    let t = from_base c.args.base (text_at c.args.texts.now) in
    let v = left_cell h.0 (cells_from c.args.base c.args.texts.now c.args.registers.now) c.args.choice c.args.left c.args.right h.1 h.2 in
    let lt : c.args.left < length c.args.registers.now = within t c.args.registers.now c.args.left v.0 v.1 in
    omega (arith, lt, c.requires.few)

pub overflow_add-base-in-Text : goal.overflow_add-base-in-Text
overflow_add-base-in-Text c =
    let h = c.requires.right in
    let t = from_base c.args.base (text_at c.args.texts.now) in
    let v = right_cell h.0 (cells_from c.args.base c.args.texts.now c.args.registers.now) c.args.choice c.args.left c.args.right h.1 h.2 in
    let lt : c.args.right < length c.args.registers.now = within t c.args.registers.now c.args.right v.0 v.1 in
    omega (arith, lt, c.requires.few)

pub collated-requires : goal.collated-requires
collated-requires c =
    let h = c.requires.right in
    let t = from_base c.args.base (text_at c.args.texts.now) in
    let rs = c.args.registers.now in
    let cells = cells_from c.args.base c.args.texts.now rs in
    let regs = values_in h.0 cells in
    let k = comparison_of c.args.choice in
    let one = ap (λ x. Some (Text x)) c.text-one.ensures ∙ sym (reads h.0 cells c.args.left (cell.Text (t c.args.left)) (text_shaped rs c.args.left c.shape_at.result c.shape_at.ensures c.in-Text.is t)) in
    let r = right_text k (t c.args.left) (read regs c.args.right) h.1 (ap (λ u. compared k u (read regs c.args.right)) (sym (reads h.0 cells c.args.left (cell.Text (t c.args.left)) (text_shaped rs c.args.left c.shape_at.result c.shape_at.ensures c.in-Text.is t))) ∙ h.2) in
    let other = ap (λ x. Some (Text x)) c.text-other.ensures ∙ sym (reads h.0 cells c.args.right (cell.Text (t c.args.right)) (holds_text h.0 t rs c.args.right r.0 r.1)) in
    (h.1, ap (λ u. compared k u (Some (Text c.text-other.result.now))) one ∙ ap (λ u. compared k (read regs c.args.left) u) other ∙ h.2)

pub returns-in-Text : goal.returns-in-Text
returns-in-Text c = λ names.
    let h = c.requires.right in
    let t = from_base c.args.base (text_at c.args.texts.now) in
    let rs = c.args.registers.now in
    let cells = cells_from c.args.base c.args.texts.now rs in
    let regs = values_in names cells in
    let k = comparison_of c.args.choice in
    let first = text_shaped rs c.args.left c.shape_at.result c.shape_at.ensures c.in-Text.is t in
    let r = right_text k (t c.args.left) (read (values_in h.0 cells) c.args.right) h.1 (ap (λ u. compared k u (read (values_in h.0 cells) c.args.right)) (sym (reads h.0 cells c.args.left (cell.Text (t c.args.left)) first)) ∙ h.2) in
    let one = reads names cells c.args.left (cell.Text (t c.args.left)) first ∙ ap (λ x. Some (Text x)) (sym c.text-one.ensures) in
    let other = reads names cells c.args.right (cell.Text (t c.args.right)) (holds_text h.0 t rs c.args.right r.0 r.1) ∙ ap (λ x. Some (Text x)) (sym c.text-other.ensures) in
    ap (λ u. compared k u (read regs c.args.right)) one ∙ ap (λ u. compared k (Some (Text c.text-one.result.now)) u) other ∙ c.collated.ensures
