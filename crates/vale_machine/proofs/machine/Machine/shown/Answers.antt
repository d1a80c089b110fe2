use Rattle.std.proofs.Common.{◌<◌, length, sym, subst}
use Rattle.vale_registers.specs.Cells.{IsShaped}
use Rattle.vale_registers.proofs.Registers.{int_shaped, text_shaped, truth_shaped, within}
use Rattle.vale_machine.specs.View.{own_cells}
use Rattle.vale_machine.proofs.Reading.{not_shown, shown_value}
use Rattle.vale_machine.proofs.machine.Machine.shown.Goals as goal

pub shape_at-requires : goal.shape_at-requires
shape_at-requires c =
    let v = shown_value c.args.self.now c.args.from c.requires.shown in
    subst (λ l. c.args.from < length l) (sym c.registers.ensures) (within v.0 (own_cells c.args.self.now) c.args.from v.1 v.2)

pub int-number-requires-clause-holds : goal.int-number-requires-clause-holds
int-number-requires-clause-holds c = int_shaped (own_cells c.args.self.now) c.args.from c.shape_at.result (subst (λ l. IsShaped l c.args.from c.shape_at.result) c.registers.ensures c.shape_at.ensures) c.in-Int.is

pub truth-truth-requires-clause-holds : goal.truth-truth-requires-clause-holds
truth-truth-requires-clause-holds c = truth_shaped (own_cells c.args.self.now) c.args.from c.shape_at.result (subst (λ l. IsShaped l c.args.from c.shape_at.result) c.registers.ensures c.shape_at.ensures) c.in-Truth.is

pub text-text-requires-clause-holds : goal.text-text-requires-clause-holds
text-text-requires-clause-holds c = text_shaped (own_cells c.args.self.now) c.args.from c.shape_at.result (subst (λ l. IsShaped l c.args.from c.shape_at.result) c.registers.ensures c.shape_at.ensures) c.in-Text.is

pub unreachable-requires : goal.unreachable-requires
unreachable-requires c = not_shown c.args.self.now c.args.from c.shape_at.result (subst (λ l. IsShaped l c.args.from c.shape_at.result) c.registers.ensures c.shape_at.ensures) c.in-Empty.is c.requires.shown
