use Rattle.std.proofs.Common.{◌+◌, [], None, sym, subst}
use Rattle.std.specs.Prelude.{IsSome}
use Rattle.std.proofs.lemmas.Result.{on_ok_weaker}
use Rattle.vale_object_passing.specs.Giving.{give_from}
use Rattle.vale_object_passing.specs.Passing.{IsPassed, cells_of}
use Rattle.vale_object_flow.proofs.Calling.{given_from, passed_from, same_front}
use Rattle.vale_object_flow.proofs.control.Control.arrange.Goals as goal

pub pass-requires-clause-given : goal.pass-requires-clause-given
pass-requires-clause-given c =
    let m = c.args.self.now in
    let same = same_front m.end m.registers.items c.reserve.new.registers.items c.requires.end c.in-Ok.ensures.same in
    subst (λ types. IsSome (give_from [] types c.args.args.now (cells_of m.top.base m.end m.texts c.reserve.new.registers.items))) (sym c.as_slice.ensures)
    (given_from m.top.base m.end c.args.callee.now.params c.args.args.now c.reserve.new.registers.items m.registers.items m.texts same c.requires.given)

pub returns-clause-passed : goal.returns-clause-passed
returns-clause-passed c =
    let m = c.args.self.now in
    let same = same_front m.end m.registers.items c.reserve.new.registers.items c.requires.end c.in-Ok.ensures.same in
    on_ok_weaker c.pass.result
    (λ p. passed_from m.top.base m.end (m.end + c.args.callee.now.registers) None c.args.callee.now.params c.args.args.now c.reserve.new.registers.items m.registers.items m.texts c.pass.new.registers.items c.pass.new.texts c.requires.base same
    (subst (λ types. IsPassed m.top.base m.end (m.end + c.args.callee.now.registers) None types c.args.args.now c.reserve.new.registers.items m.texts c.pass.new.registers.items c.pass.new.texts) c.as_slice.ensures p))
    c.pass.ensures.passed
