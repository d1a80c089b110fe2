use Rattle.std.proofs.Common.{List, [], append-nil, sym, ap, ◌∙◌, subst, arith}
use Rattle.vale_code.specs.Frames.{Next}
use Rattle.vale_code.specs.Run.{step}
use Rattle.vale_base.specs.declared.piece.Piece.{Piece}
use Rattle.vale_text.specs.Progress.{Begins}
use Rattle.vale_turn.specs.Served.{may_want_at}
use Rattle.vale_machine.specs.declared.turn.Turn.TheVariants as turn
use Rattle.vale_machine.specs.UnderWay.{Ends, WantsForTrap}
use Rattle.vale_machine.specs.View.{config_of, state_of}
use Rattle.vale_machine.proofs.Keeping.{has_first, none_lost}
use Rattle.vale_machine.proofs.Running.{going, going_laid, laid_by, over}
use Rattle.vale_machine.proofs.Turning.{stood_ends, stood_fetches, stood_step, stood_under_way, then_ticks, took_step, turned_on}
use Rattle.vale_machine.proofs.machine.Machine.turn_code.Goals as goal

pub once-stop-requires-clause-safe : goal.once-stop-requires-clause-safe
once-stop-requires-clause-safe c = (c.requires.0, c.requires.1.safe)

pub follow-step-requires-clause-running : goal.follow-step-requires-clause-running
follow-step-requires-clause-running c =
    (c.requires.0, stood_under_way c.args.code.now c.requires.0 c.once-stop.result c.args.self.now c.once-stop.new.self c.if-is_going.ensures (c.once-stop.ensures.step c.requires.0) c.once-stop.ensures.goes c.requires.1)

pub follow-step-requires-clause-ends : goal.follow-step-requires-clause-ends
follow-step-requires-clause-ends c = λ taken. stood_ends c.args.code.now taken c.once-stop.result c.args.self.now c.once-stop.new.self c.if-is_going.ensures (c.once-stop.ensures.step taken)

pub end_of-requires-clause-over : goal.end_of-requires-clause-over
end_of-requires-clause-over c = over c.follow-step.result c.if-is_going-2.ensures

pub end_of-requires-clause-ticks : goal.end_of-requires-clause-ticks
end_of-requires-clause-ticks c = omega (arith, c.requires.1.ticks, c.once-stop.ensures.goes.ticks.given, c.once-stop.ensures.goes.ticks.left, c.follow-step.ensures.ticks.given, c.follow-step.ensures.ticks.left)

pub returns-then-is_going-clause-step : goal.returns-then-is_going-clause-step
returns-then-is_going-clause-step c = λ taken. took_step c.args.code.now taken c.once-stop.result c.args.self.now c.once-stop.new.self c.if-is_going.ensures (c.once-stop.ensures.step taken)

pub returns-then-is_going-clause-under_way : goal.returns-then-is_going-clause-under_way
returns-then-is_going-clause-under_way c = λ taken u.
    let code = c.args.code.now in
    let g = c.once-stop.ensures.goes in
    turned_on code taken c.args.self.now c.once-stop.new.self (took_step code taken c.once-stop.result c.args.self.now c.once-stop.new.self c.if-is_going.ensures (c.once-stop.ensures.step taken))
    (laid_by code c.args.self.now c.once-stop.new.self g.top (ap (λ l. l.items) g.below) g.end g.cells u.laid) g.ticks u

pub returns-then-is_going-clause-pieces : goal.returns-then-is_going-clause-pieces
returns-then-is_going-clause-pieces c = ([], ap (λ v. v.items) c.once-stop.ensures.goes.pieces ∙ sym (append-nil c.args.self.now.pieces.items))

pub returns-then-is_going-2-clause-step : goal.returns-then-is_going-2-clause-step
returns-then-is_going-2-clause-step c = λ taken.
    let code = c.args.code.now in
    stood_step code taken c.once-stop.result c.args.self.now c.once-stop.new.self c.if-is_going.ensures (c.once-stop.ensures.step taken)
    ∙ going code taken c.follow-step.result _ c.follow-step.new.self c.if-is_going-2.ensures (c.follow-step.ensures.step taken)

pub returns-then-is_going-2-clause-under_way : goal.returns-then-is_going-2-clause-under_way
returns-then-is_going-2-clause-under_way c = λ taken u.
    let code = c.args.code.now in
    let mid = c.once-stop.new.self in
    let stood = stood_under_way code taken c.once-stop.result c.args.self.now mid c.if-is_going.ensures (c.once-stop.ensures.step taken) c.once-stop.ensures.goes u in
    turned_on code taken mid c.follow-step.new.self (going code taken c.follow-step.result _ c.follow-step.new.self c.if-is_going-2.ensures (c.follow-step.ensures.step taken))
    (going_laid code c.follow-step.result c.follow-step.new.self c.if-is_going-2.ensures c.follow-step.ensures.laid) c.follow-step.ensures.ticks stood

pub returns-then-is_going-2-clause-ticks : goal.returns-then-is_going-2-clause-ticks
returns-then-is_going-2-clause-ticks c = then_ticks c.args.self.now c.once-stop.new.self c.follow-step.new.self c.once-stop.ensures.goes.ticks c.follow-step.ensures.ticks

pub returns-then-is_going-2-clause-pieces : goal.returns-then-is_going-2-clause-pieces
returns-then-is_going-2-clause-pieces c =
    subst (λ (ps : List Piece). Begins ps c.follow-step.new.self.pieces.items) (ap (λ v. v.items) c.once-stop.ensures.goes.pieces)
    (none_lost c.args.code.now c.follow-step.result c.once-stop.new.self c.follow-step.new.self c.follow-step.ensures.kept (c.follow-step.ensures.step []))

pub returns-clause-step : goal.returns-clause-step
returns-clause-step c = λ taken.
    let code = c.args.code.now in
    let mid = c.once-stop.new.self in
    subst (λ (n : Next). Ends c.end_of.result n (state_of taken c.follow-step.new.self)) (sym (stood_step code taken c.once-stop.result c.args.self.now mid c.if-is_going.ensures (c.once-stop.ensures.step taken)))
    (c.end_of.ensures.step taken (step code (config_of code taken mid)) (c.follow-step.ensures.step taken) (has_first code taken c.follow-step.result mid c.follow-step.new.self c.follow-step.ensures.kept))

pub returns-clause-memory : goal.returns-clause-memory
returns-clause-memory c = λ taken want.
    let code = c.args.code.now in
    let mid = c.once-stop.new.self in
    let took = c.once-stop.ensures.step taken in
    let same = stood_fetches code taken c.once-stop.result c.args.self.now mid c.if-is_going.ensures took in
    subst (λ (n : Next). WantsForTrap (turn.Ended c.end_of.result) n) (sym (stood_step code taken c.once-stop.result c.args.self.now mid c.if-is_going.ensures took))
    (c.end_of.ensures.memory taken (step code (config_of code taken mid)) (c.follow-step.ensures.memory (ap may_want_at same ∙ want)) (c.follow-step.ensures.step taken))

pub returns-clause-ticks : goal.returns-clause-ticks
returns-clause-ticks c = then_ticks c.args.self.now c.once-stop.new.self c.follow-step.new.self c.once-stop.ensures.goes.ticks c.follow-step.ensures.ticks

pub returns-clause-pieces : goal.returns-clause-pieces
returns-clause-pieces c =
    subst (λ (ps : List Piece). Begins ps c.follow-step.new.self.pieces.items) (ap (λ v. v.items) c.once-stop.ensures.goes.pieces)
    (none_lost c.args.code.now c.follow-step.result c.once-stop.new.self c.follow-step.new.self c.follow-step.ensures.kept (c.follow-step.ensures.step []))
