use Rattle.std.proofs.Common.{List, Global, Some, Vec, ℕ, ◌≡◌, ap, length, rules, sym, ◌<◌, ◌∙◌, arith}
use Rattle.std.proofs.lemmas.Int.{to_z-of_z}
use mir.Syntax.{w64}
use Rattle.vale_state_spec.specs.State.{shown}
use Rattle.vale_state_spec.specs.World.{Truth}
use Rattle.vale_text.specs.Operations as o
use Rattle.vale_registers.specs.Passing.{from_base}
use Rattle.vale_registers.specs.Texts.{text_at}
use Rattle.vale_heap.specs.declared.body.Cell.TheVariants as cell
use Rattle.vale_heap.specs.declared.body.Place.{Place}
use Rattle.vale_object_cells.specs.Cells.{cells_from}
use Rattle.vale_object_cells.proofs.Holding.{int_shaped, truth_shaped}
use Rattle.vale_object_compares.proofs.CompareLaws.{text_shaped}
use Rattle.vale_object_turn.proofs.Stepping.{if_ok}
use Rattle.vale_object_texts.specs.Printing.{shown_in}
use Rattle.vale_object_texts.proofs.PrintLaws.{never_shown, shown_held, shown_within}
use Rattle.vale_object_texts.proofs.prints.shown_bytes.Goals as goal

pub shape_at-requires : goal.shape_at-requires
shape_at-requires c = shown_within (from_base c.args.base (text_at c.args.texts.now)) c.args.registers.now c.args.from c.requires.right

pub unreachable-requires : goal.unreachable-requires
unreachable-requires c = never_shown (from_base c.args.base (text_at c.args.texts.now)) c.args.registers.now c.args.from c.requires.right c.shape_at.result c.shape_at.ensures c.in_default.not-Int c.in_default.not-Truth c.in_default.not-Text

pub int_at-number-requires : goal.int_at-number-requires
int_at-number-requires c = int_shaped c.args.registers.now c.args.from c.shape_at.result c.shape_at.ensures c.in-Int.is

pub truth_at-truth-requires : goal.truth_at-truth-requires
truth_at-truth-requires c = truth_shaped c.args.registers.now c.args.from c.shape_at.result c.shape_at.ensures c.in-Truth.is

pub text_in-text-requires : goal.text_in-text-requires
text_in-text-requires c =
    let lt : c.args.from < length c.args.registers.now = shown_within (from_base c.args.base (text_at c.args.texts.now)) c.args.registers.now c.args.from c.requires.right in
    omega (arith, lt, c.requires.few)

pub returns-in_ok-digits-in-Int : goal.returns-in_ok-digits-in-Int
returns-in_ok-digits-in-Int c = λ names.
    let cells = cells_from c.args.base c.args.texts.now c.args.registers.now in
    let z = c.int_at-number.result in
    shown_held names cells c.args.from (cell.Int z) (c.int_at-number.ensures (from_base c.args.base (text_at c.args.texts.now)))
    ∙ ap (λ x. Some x) (sym (c.into_vec.ensures ∙ c.in_ok-digits-in-Int.ensures ∙ ap o.text_of (to_z-of_z w64 z (search rules))))

pub returns-in-Truth : goal.returns-in-Truth
returns-in-Truth c =
    let cells = cells_from c.args.base c.args.texts.now c.args.registers.now in
    let b = c.truth_at-truth.result in
    if_ok c.truth_bytes.result (λ (bytes : Vec ℕ Global). shown (Truth b) ≡ Some bytes.items) (λ (bytes : Vec ℕ Global). (names : List Place) → shown_in names cells c.args.from ≡ Some bytes.items) c.truth_bytes.ensures
    (λ bytes e names. shown_held names cells c.args.from (cell.Truth b) (c.truth_at-truth.ensures (from_base c.args.base (text_at c.args.texts.now))) ∙ e)

pub returns-in-Text : goal.returns-in-Text
returns-in-Text c =
    let t = from_base c.args.base (text_at c.args.texts.now) in
    let cells = cells_from c.args.base c.args.texts.now c.args.registers.now in
    if_ok c.roomy.result (λ (bytes : Vec ℕ Global). bytes.items ≡ c.text_in-text.result.now) (λ (bytes : Vec ℕ Global). (names : List Place) → shown_in names cells c.args.from ≡ Some bytes.items) c.roomy.ensures
    (λ bytes e names. shown_held names cells c.args.from (cell.Text (t c.args.from)) (text_shaped c.args.registers.now c.args.from c.shape_at.result c.shape_at.ensures c.in-Text.is t) ∙ ap (λ x. Some x) (sym (e ∙ c.text_in-text.ensures)))
