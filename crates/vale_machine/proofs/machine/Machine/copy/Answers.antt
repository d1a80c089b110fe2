use Rattle.std.proofs.lemmas.Int.{to_z-of_z}
use mir.Syntax.{w64}
use Rattle.std.proofs.Common.{◌<◌, length, rules, Some, sym, ap, ◌∙◌, subst}
use Rattle.vale_state_spec.specs.World.{Int}
use Rattle.vale_code.specs.Instructions.{onward}
use Rattle.vale_code.specs.Registers.{put}
use Rattle.vale_registers.specs.Cells.{IsShaped}
use Rattle.vale_registers.proofs.Registers.{int_shaped, not_empty, text_shaped, truth_shaped, value_within}
use Rattle.vale_machine.specs.View.{active, below, own_cells, registers_of, state_of}
use Rattle.vale_machine.proofs.Getting.{frames_kept, goes_on}
use Rattle.vale_machine.proofs.Reading.{copied_int, copied_text, copied_truth}
use Rattle.vale_machine.proofs.machine.Machine.copy.Goals as goal

pub shape_at-requires : goal.shape_at-requires
shape_at-requires c = subst (λ l. c.args.from < length l) (sym c.registers.ensures) (value_within (own_cells c.args.self.now) c.args.from c.requires.value)

pub int-number-requires-clause-holds : goal.int-number-requires-clause-holds
int-number-requires-clause-holds c = int_shaped (own_cells c.args.self.now) c.args.from c.shape_at.result (subst (λ l. IsShaped l c.args.from c.shape_at.result) c.registers.ensures c.shape_at.ensures) c.in-Int.is

pub truth-truth-requires-clause-holds : goal.truth-truth-requires-clause-holds
truth-truth-requires-clause-holds c = truth_shaped (own_cells c.args.self.now) c.args.from c.shape_at.result (subst (λ l. IsShaped l c.args.from c.shape_at.result) c.registers.ensures c.shape_at.ensures) c.in-Truth.is

pub share_text-requires-clause-holds : goal.share_text-requires-clause-holds
share_text-requires-clause-holds c = text_shaped (own_cells c.args.self.now) c.args.from c.shape_at.result (subst (λ l. IsShaped l c.args.from c.shape_at.result) c.registers.ensures c.shape_at.ensures) c.in-Text.is

pub unreachable-requires : goal.unreachable-requires
unreachable-requires c = not_empty (own_cells c.args.self.now) c.args.from c.shape_at.result (subst (λ l. IsShaped l c.args.from c.shape_at.result) c.registers.ensures c.shape_at.ensures) c.in-Empty.is c.requires.value

pub returns-in-Int-clause-step : goal.returns-in-Int-clause-step
returns-in-Int-clause-step c = λ code taken.
    copied_int code taken c.args.self.now c.args.to c.args.from _ c.int-number.ensures
    ∙ ap (λ z. onward (active code c.args.self.now) (put (registers_of c.args.self.now) c.args.to (Some (Int z))) (below code c.args.self.now) (state_of taken c.args.self.now)) (sym (to_z-of_z w64 c.int-number.result (search rules)))
    ∙ goes_on code taken c.args.self.now c.get_int.new.self _ c.get_int.ensures

pub returns-in-Int-clause-keeps : goal.returns-in-Int-clause-keeps
returns-in-Int-clause-keeps c = frames_kept _ c.args.self.now c.get_int.new.self _ c.get_int.ensures

pub returns-in-Truth-clause-step : goal.returns-in-Truth-clause-step
returns-in-Truth-clause-step c = λ code taken.
    copied_truth code taken c.args.self.now c.args.to c.args.from _ c.truth-truth.ensures ∙ goes_on code taken c.args.self.now c.get_truth.new.self _ c.get_truth.ensures

pub returns-in-Truth-clause-keeps : goal.returns-in-Truth-clause-keeps
returns-in-Truth-clause-keeps c = frames_kept _ c.args.self.now c.get_truth.new.self _ c.get_truth.ensures

pub returns-in-Ok-clause-step : goal.returns-in-Ok-clause-step
returns-in-Ok-clause-step c = λ code taken.
    copied_text code taken c.args.self.now c.args.to c.args.from
    (text_shaped (own_cells c.args.self.now) c.args.from c.shape_at.result (subst (λ l. IsShaped l c.args.from c.shape_at.result) c.registers.ensures c.shape_at.ensures) c.in-Text.is)
    ∙ goes_on code taken c.args.self.now c.share_text.new.self _ c.in-Ok.ensures.gets

pub returns-in-Ok-clause-keeps : goal.returns-in-Ok-clause-keeps
returns-in-Ok-clause-keeps c = frames_kept _ c.args.self.now c.share_text.new.self _ c.in-Ok.ensures.gets
