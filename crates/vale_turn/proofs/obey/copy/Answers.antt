use Rattle.std.proofs.Common.{Some, ap, sym, ◌∙◌, rules}
use Rattle.std.proofs.lemmas.Int.{to_z-of_z}
use mir.Syntax.{w64}
use Rattle.vale_state_spec.specs.World.{Int}
use Rattle.vale_code.specs.Instructions.{onward}
use Rattle.vale_code.specs.Registers.{put}
use Rattle.vale_registers.specs.Cells.{values_in}
use Rattle.vale_registers.proofs.Registers.{int_shaped, not_empty, truth_shaped, value_within}
use Rattle.vale_turn.specs.View.{active, state_at}
use Rattle.vale_turn.proofs.Rules.{copied_int, copied_truth}
use Rattle.vale_turn.proofs.obey.copy.Goals as goal

pub shape_at-requires : goal.shape_at-requires
shape_at-requires c = value_within c.args.cells.now c.args.from c.requires.value

pub int_at-number-requires : goal.int_at-number-requires
int_at-number-requires c = int_shaped c.args.cells.now c.args.from c.shape_at.result c.shape_at.ensures c.in-Int.is

pub truth_at-truth-requires : goal.truth_at-truth-requires
truth_at-truth-requires c = truth_shaped c.args.cells.now c.args.from c.shape_at.result c.shape_at.ensures c.in-Truth.is

pub unreachable-requires : goal.unreachable-requires
unreachable-requires c = not_empty c.args.cells.now c.args.from c.shape_at.result c.shape_at.ensures c.in-Empty.is c.requires.value

pub returns-in-Int-clause-step : goal.returns-in-Int-clause-step
returns-in-Int-clause-step c = λ code function ticks s.
    copied_int code function s c.args.place.now c.args.cells.now ticks c.args.to c.args.from c.int_at-number.result (c.int_at-number.ensures s.text)
    ∙ ap (λ z. onward (active function s c.args.place.now c.args.cells.now) (put (values_in s.text c.args.cells.now) c.args.to (Some (Int z))) s.below (state_at s ticks)) (sym (to_z-of_z w64 c.int_at-number.result (search rules)))
    ∙ ap (λ regs. onward (active function s c.args.place.now c.args.cells.now) regs s.below (state_at s ticks)) (sym (c.set_int.ensures s.text))

pub returns-in-Truth-clause-step : goal.returns-in-Truth-clause-step
returns-in-Truth-clause-step c = λ code function ticks s.
    copied_truth code function s c.args.place.now c.args.cells.now ticks c.args.to c.args.from c.truth_at-truth.result (c.truth_at-truth.ensures s.text)
    ∙ ap (λ regs. onward (active function s c.args.place.now c.args.cells.now) regs s.below (state_at s ticks)) (sym (c.set_truth.ensures s.text))
