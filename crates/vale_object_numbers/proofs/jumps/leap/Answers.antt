use Rattle.std.proofs.Common.{arith, sym, ◌∙◌}
use Rattle.vale_object_numbers.proofs.JumpLaws.{leaps_by_tick, leaps_cut, leaps_free}
use Rattle.vale_object_numbers.proofs.jumps.leap.Goals as goal

pub returns-then-is_free-clause-step : goal.returns-then-is_free-clause-step
returns-then-is_free-clause-step c = λ registers. leaps_free c.args.body.now registers c.args.target c.args.place.now c.args.left.now (sym c.is_free.ensures ∙ c.if-is_free.true)

pub returns-then-left-eq0-clause-step : goal.returns-then-left-eq0-clause-step
returns-then-left-eq0-clause-step c = λ registers. leaps_cut c.args.body.now registers c.args.target c.args.place.now c.args.left.now (sym c.is_free.ensures ∙ c.if-is_free.false) c.if-left-eq0.true

pub returns-clause-step : goal.returns-clause-step
returns-clause-step c = λ registers. leaps_by_tick c.args.body.now registers c.args.target c.args.place.now c.args.left.now (sym c.is_free.ensures ∙ c.if-is_free.false) (omega arith)
