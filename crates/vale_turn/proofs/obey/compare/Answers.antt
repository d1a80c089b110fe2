use Rattle.std.proofs.Common.{Some, ap, sym, ◌∙◌, rules, to_z, of_z}
use Rattle.std.proofs.lemmas.Int.{to_z-of_z}
use mir.Syntax.{w64}
use Rattle.vale_state_spec.specs.World.{Int, Truth}
use Rattle.vale_code.specs.Instructions.{comparison_of, onward}
use Rattle.vale_code.specs.Registers.{read}
use Rattle.vale_registers.specs.Cells.{values_in}
use Rattle.vale_registers.proofs.Registers.{int_shaped, not_empty, truth_shaped, within}
use Rattle.vale_turn.specs.Comparing.{compared}
use Rattle.vale_turn.specs.View.{active, state_at}
use Rattle.vale_turn.proofs.Rules.{compared_is, left_value, right_int, right_truth}
use Rattle.vale_turn.proofs.obey.compare.Goals as goal

pub shape_at-requires : goal.shape_at-requires
shape_at-requires c =
    let h = c.requires.right in
    let regs = values_in h.0 c.args.cells.now in
    let v = left_value (comparison_of c.args.choice) (read regs c.args.left) (read regs c.args.right) h.1 h.2 in
    within h.0 c.args.cells.now c.args.left v.0 v.1

pub unreachable-requires : goal.unreachable-requires
unreachable-requires c =
    let h = c.requires.right in
    let regs = values_in h.0 c.args.cells.now in
    let v = left_value (comparison_of c.args.choice) (read regs c.args.left) (read regs c.args.right) h.1 h.2 in
    not_empty c.args.cells.now c.args.left c.shape_at.result c.shape_at.ensures c.in-Empty.is (h.0, v.0, v.1)

pub int_at-first-requires : goal.int_at-first-requires
int_at-first-requires c = int_shaped c.args.cells.now c.args.left c.shape_at.result c.shape_at.ensures c.in-Int.is

pub int_at-second-requires : goal.int_at-second-requires
int_at-second-requires c =
    let h = c.requires.right in
    let regs = values_in h.0 c.args.cells.now in
    let r = right_int (comparison_of c.args.choice) c.int_at-first.result (read regs c.args.right) h.1
    (ap (λ u. compared (comparison_of c.args.choice) u (read regs c.args.right)) (sym (c.int_at-first.ensures h.0)) ∙ h.2) in
    (h.0, r.0, r.1)

pub truth_at-former-requires : goal.truth_at-former-requires
truth_at-former-requires c = truth_shaped c.args.cells.now c.args.left c.shape_at.result c.shape_at.ensures c.in-Truth.is

pub truth_at-latter-requires : goal.truth_at-latter-requires
truth_at-latter-requires c =
    let h = c.requires.right in
    let regs = values_in h.0 c.args.cells.now in
    let r = right_truth (comparison_of c.args.choice) c.truth_at-former.result (read regs c.args.right) h.1
    (ap (λ u. compared (comparison_of c.args.choice) u (read regs c.args.right)) (sym (c.truth_at-former.ensures h.0)) ∙ h.2) in
    (h.0, r.0, r.1)

pub ordered-truth-requires : goal.ordered-truth-requires
ordered-truth-requires c =
    let h = c.requires.right in
    let k = comparison_of c.args.choice in
    let first = to_z-of_z w64 c.int_at-first.result (search rules) in
    let second = to_z-of_z w64 c.int_at-second.result (search rules) in (
      h.1,
      ap (λ z. compared k (Some (Int z)) (Some (Int (to_z w64 (of_z w64 c.int_at-second.result))))) first ∙ ap (λ z. compared k (Some (Int c.int_at-first.result)) (Some (Int z))) second
          ∙ ap (λ u. compared k u (Some (Int c.int_at-second.result))) (sym (c.int_at-first.ensures h.0)) ∙ ap (λ u. compared k (read (values_in h.0 c.args.cells.now) c.args.left) u) (sym (c.int_at-second.ensures h.0)) ∙ h.2,
    )

pub matched-truth-requires : goal.matched-truth-requires
matched-truth-requires c =
    let h = c.requires.right in
    let k = comparison_of c.args.choice in
    (h.1, ap (λ u. compared k u (Some (Truth c.truth_at-latter.result))) (sym (c.truth_at-former.ensures h.0)) ∙ ap (λ u. compared k (read (values_in h.0 c.args.cells.now) c.args.left) u) (sym (c.truth_at-latter.ensures h.0)) ∙ h.2)

pub returns-in-Int-clause-step : goal.returns-in-Int-clause-step
returns-in-Int-clause-step c = λ code function ticks s.
    let k = comparison_of c.args.choice in
    let first = to_z-of_z w64 c.int_at-first.result (search rules) in
    let second = to_z-of_z w64 c.int_at-second.result (search rules) in
    let e = ap (λ u. compared k u (read (values_in s.text c.args.cells.now) c.args.right)) (c.int_at-first.ensures s.text) ∙ ap (λ u. compared k (Some (Int c.int_at-first.result)) u) (c.int_at-second.ensures s.text)
    ∙ ap (λ z. compared k (Some (Int z)) (Some (Int c.int_at-second.result))) (sym first) ∙ ap (λ z. compared k (Some (Int (to_z w64 (of_z w64 c.int_at-first.result)))) (Some (Int z))) (sym second) ∙ c.ordered-truth.ensures in
    compared_is code function s c.args.place.now c.args.cells.now ticks c.args.to c.args.choice c.args.left c.args.right c.ordered-truth.result e
    ∙ ap (λ regs. onward (active function s c.args.place.now c.args.cells.now) regs s.below (state_at s ticks)) (sym (c.set_truth.ensures s.text))

pub returns-in-Truth-clause-step : goal.returns-in-Truth-clause-step
returns-in-Truth-clause-step c = λ code function ticks s.
    let k = comparison_of c.args.choice in
    let e = ap (λ u. compared k u (read (values_in s.text c.args.cells.now) c.args.right)) (c.truth_at-former.ensures s.text) ∙ ap (λ u. compared k (Some (Truth c.truth_at-former.result)) u) (c.truth_at-latter.ensures s.text) ∙ c.matched-truth.ensures in
    compared_is code function s c.args.place.now c.args.cells.now ticks c.args.to c.args.choice c.args.left c.args.right c.matched-truth.result e
    ∙ ap (λ regs. onward (active function s c.args.place.now c.args.cells.now) regs s.below (state_at s ticks)) (sym (c.set_truth-in-Truth.ensures s.text))
