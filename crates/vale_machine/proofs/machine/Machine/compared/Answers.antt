use Rattle.std.proofs.Common.{◌<◌, length, Some, sym, ap, ◌∙◌, subst, rules, to_z, of_z}
use Rattle.std.proofs.lemmas.Int.{to_z-of_z}
use mir.Syntax.{w64}
use Rattle.vale_state_spec.specs.World.{Int, Truth, Text}
use Rattle.vale_code.specs.Instructions.{comparison_of}
use Rattle.vale_code.specs.Registers.{read}
use Rattle.vale_registers.specs.Cells.{IsShaped}
use Rattle.vale_registers.proofs.Registers.{int_shaped, not_empty, text_shaped, truth_shaped, within}
use Rattle.vale_turn.specs.Comparing.{compared}
use Rattle.vale_turn.proofs.Rules.{left_value, right_int, right_text, right_truth}
use Rattle.vale_machine.specs.View.{own_cells, own_texts, registers_of}
use Rattle.vale_machine.proofs.machine.Machine.compared.Goals as goal

pub shape_at-requires : goal.shape_at-requires
shape_at-requires c =
    let m = c.args.self.now in
    let h = c.requires.right in
    let v = left_value (comparison_of c.args.choice) (read (registers_of m) c.args.left) (read (registers_of m) c.args.right) h.0 h.1 in
    subst (λ l. c.args.left < length l) (sym c.registers.ensures) (within (own_texts m) (own_cells m) c.args.left v.0 v.1)

pub unreachable-requires : goal.unreachable-requires
unreachable-requires c =
    let m = c.args.self.now in
    let h = c.requires.right in
    let v = left_value (comparison_of c.args.choice) (read (registers_of m) c.args.left) (read (registers_of m) c.args.right) h.0 h.1 in
    not_empty (own_cells m) c.args.left c.shape_at.result (subst (λ l. IsShaped l c.args.left c.shape_at.result) c.registers.ensures c.shape_at.ensures) c.in-Empty.is (own_texts m, v.0, v.1)

pub int-first-requires-clause-holds : goal.int-first-requires-clause-holds
int-first-requires-clause-holds c = int_shaped (own_cells c.args.self.now) c.args.left c.shape_at.result (subst (λ l. IsShaped l c.args.left c.shape_at.result) c.registers.ensures c.shape_at.ensures) c.in-Int.is

pub int-second-requires-clause-holds : goal.int-second-requires-clause-holds
int-second-requires-clause-holds c =
    let m = c.args.self.now in
    let h = c.requires.right in
    let r = right_int (comparison_of c.args.choice) c.int-first.result (read (registers_of m) c.args.right) h.0
    (ap (λ u. compared (comparison_of c.args.choice) u (read (registers_of m) c.args.right)) (sym c.int-first.ensures) ∙ h.1) in
    (own_texts m, r.0, r.1)

pub ordered-requires : goal.ordered-requires
ordered-requires c =
    let m = c.args.self.now in
    let h = c.requires.right in
    let k = comparison_of c.args.choice in
    let first = to_z-of_z w64 c.int-first.result (search rules) in
    let second = to_z-of_z w64 c.int-second.result (search rules) in (
      h.0,
      ap (λ z. compared k (Some (Int z)) (Some (Int (to_z w64 (of_z w64 c.int-second.result))))) first ∙ ap (λ z. compared k (Some (Int c.int-first.result)) (Some (Int z))) second
          ∙ ap (λ u. compared k u (Some (Int c.int-second.result))) (sym c.int-first.ensures) ∙ ap (λ u. compared k (read (registers_of m) c.args.left) u) (sym c.int-second.ensures) ∙ h.1,
    )

pub returns-in-Int : goal.returns-in-Int
returns-in-Int c =
    let m = c.args.self.now in
    let k = comparison_of c.args.choice in
    let first = to_z-of_z w64 c.int-first.result (search rules) in
    let second = to_z-of_z w64 c.int-second.result (search rules) in
    ap (λ u. compared k u (read (registers_of m) c.args.right)) c.int-first.ensures ∙ ap (λ u. compared k (Some (Int c.int-first.result)) u) c.int-second.ensures
    ∙ ap (λ z. compared k (Some (Int z)) (Some (Int c.int-second.result))) (sym first) ∙ ap (λ z. compared k (Some (Int (to_z w64 (of_z w64 c.int-first.result)))) (Some (Int z))) (sym second) ∙ c.ordered.ensures

pub truth-former-requires-clause-holds : goal.truth-former-requires-clause-holds
truth-former-requires-clause-holds c = truth_shaped (own_cells c.args.self.now) c.args.left c.shape_at.result (subst (λ l. IsShaped l c.args.left c.shape_at.result) c.registers.ensures c.shape_at.ensures) c.in-Truth.is

pub truth-latter-requires-clause-holds : goal.truth-latter-requires-clause-holds
truth-latter-requires-clause-holds c =
    let m = c.args.self.now in
    let h = c.requires.right in
    let r = right_truth (comparison_of c.args.choice) c.truth-former.result (read (registers_of m) c.args.right) h.0
    (ap (λ u. compared (comparison_of c.args.choice) u (read (registers_of m) c.args.right)) (sym c.truth-former.ensures) ∙ h.1) in
    (own_texts m, r.0, r.1)

pub matched-requires : goal.matched-requires
matched-requires c =
    let m = c.args.self.now in
    let h = c.requires.right in
    let k = comparison_of c.args.choice in
    (h.0, ap (λ u. compared k u (Some (Truth c.truth-latter.result))) (sym c.truth-former.ensures) ∙ ap (λ u. compared k (read (registers_of m) c.args.left) u) (sym c.truth-latter.ensures) ∙ h.1)

pub returns-in-Truth : goal.returns-in-Truth
returns-in-Truth c =
    let m = c.args.self.now in
    let k = comparison_of c.args.choice in
    ap (λ u. compared k u (read (registers_of m) c.args.right)) c.truth-former.ensures ∙ ap (λ u. compared k (Some (Truth c.truth-former.result)) u) c.truth-latter.ensures ∙ c.matched.ensures

pub text-one-requires-clause-holds : goal.text-one-requires-clause-holds
text-one-requires-clause-holds c = text_shaped (own_cells c.args.self.now) c.args.left c.shape_at.result (subst (λ l. IsShaped l c.args.left c.shape_at.result) c.registers.ensures c.shape_at.ensures) c.in-Text.is

pub text-other-requires-clause-holds : goal.text-other-requires-clause-holds
text-other-requires-clause-holds c =
    let m = c.args.self.now in
    let h = c.requires.right in
    let r = right_text (comparison_of c.args.choice) c.text-one.result.now (read (registers_of m) c.args.right) h.0
    (ap (λ u. compared (comparison_of c.args.choice) u (read (registers_of m) c.args.right)) (sym c.text-one.ensures) ∙ h.1) in
    (own_texts m, r.0, r.1)

pub collated-requires : goal.collated-requires
collated-requires c =
    let m = c.args.self.now in
    let h = c.requires.right in
    let k = comparison_of c.args.choice in
    (h.0, ap (λ u. compared k u (Some (Text c.text-other.result.now))) (sym c.text-one.ensures) ∙ ap (λ u. compared k (read (registers_of m) c.args.left) u) (sym c.text-other.ensures) ∙ h.1)

pub returns-in-Text : goal.returns-in-Text
returns-in-Text c =
    let m = c.args.self.now in
    let k = comparison_of c.args.choice in
    ap (λ u. compared k u (read (registers_of m) c.args.right)) c.text-one.ensures ∙ ap (λ u. compared k (Some (Text c.text-one.result.now)) u) c.text-other.ensures ∙ c.collated.ensures
