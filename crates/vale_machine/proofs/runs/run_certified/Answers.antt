use Rattle.std.proofs.Common.{◌≡◌, ◌<◌, [], ◌++◌, sym, ap, ◌∙◌, arith}
use Rattle.vale_code.specs.Fuel.{fuel}
use Rattle.vale_code.specs.Run.{run_code, step}
use Rattle.vale_turn.proofs.Stretching.{less_fuel}
use Rattle.vale_machine.specs.Given.{given_of}
use Rattle.vale_machine.specs.View.{config_of}
use Rattle.vale_machine.proofs.Keeping.{has_first}
use Rattle.vale_machine.proofs.Running.{finishes, follows_first, follows_later, follows_on, fuel_later, going, going_laid, goes_on, over}
use Rattle.vale_machine.proofs.runs.run_certified.Goals as goal

pub stretches-init : goal.stretches-init
stretches-init c = record {
  under_way = c.in-Ok.ensures.under_way;
  follows = follows_first c.args.code.now (given_of c.args.input) c.args.ticks (config_of c.args.code.now [] c.in-Ok.machine) c.in-Ok.ensures.begins;
  given = c.in-Ok.ensures.ticks;
}

pub end_of-end-requires-clause-over : goal.end_of-end-requires-clause-over
end_of-end-requires-clause-over c = over c.advance-step.result c.if-not-is_going.ensures

pub stretches-smaller : goal.stretches-smaller
stretches-smaller c =
    let code = c.args.code.now in
    let more = c.advance-step.ensures.step [] in
    let start = config_of code [] c.stretches.machine in
    let mid = config_of code [] more.mid in
    let end = config_of code [] c.advance-step.new.self in
    let on : step code mid ≡ _ = going code [] c.advance-step.result _ c.advance-step.new.self c.if-not-is_going.ensures more.stepped in
    let less : fuel code end < fuel code start = omega (arith, fuel_later code start mid more.leads, less_fuel code mid end on) in
    less

pub stretches-preserved : goal.stretches-preserved
stretches-preserved c =
    let code = c.args.code.now in
    let more = c.advance-step.ensures.step [] in
    let start = config_of code [] c.stretches.machine in
    let mid = config_of code [] more.mid in
    let end = config_of code [] c.advance-step.new.self in
    let on = going code [] c.advance-step.result _ c.advance-step.new.self c.if-not-is_going.ensures more.stepped in
    let inv = c.stretches.invariant in
    record {
      under_way = goes_on code [] c.stretches.machine more.mid c.advance-step.new.self inv.under_way more.leads on
          (going_laid code c.advance-step.result c.advance-step.new.self c.if-not-is_going.ensures c.advance-step.ensures.laid) c.advance-step.ensures.ticks;
      follows = follows_on code (given_of c.args.input) c.args.ticks mid end on (follows_later code (given_of c.args.input) c.args.ticks start mid more.leads inv.follows);
      given = c.advance-step.ensures.ticks.given ∙ inv.given;
    }

pub returns-then-not-is_going : goal.returns-then-not-is_going
returns-then-not-is_going c =
    let code = c.args.code.now in
    let more = c.advance-step.ensures.step [] in
    let start = config_of code [] c.stretches.machine in
    let mid = config_of code [] more.mid in
    let inv = c.stretches.invariant in
    finishes code (given_of c.args.input) c.args.ticks mid c.advance-step.new.self c.end_of-end.result c.take_pieces.result.items
    (c.end_of-end.ensures.step [] (step code mid) more.stepped (has_first code [] c.advance-step.result more.mid c.advance-step.new.self more.kept))
    (follows_later code (given_of c.args.input) c.args.ticks start mid more.leads inv.follows) c.take_pieces.ensures.taken (c.advance-step.ensures.ticks.given ∙ inv.given)

pub returns-in-Err : goal.returns-in-Err
returns-in-Err c =
    let all = (run_code c.args.code.now (given_of c.args.input) c.args.ticks).pieces in
    (all, ap (λ ps. ps ++ all) (sym c.new.ensures.items))

pub end_of-end-requires-clause-ticks : goal.end_of-end-requires-clause-ticks
end_of-end-requires-clause-ticks c = omega (arith, c.stretches.invariant.under_way.ticks, c.advance-step.ensures.ticks.given, c.advance-step.ensures.ticks.left)
