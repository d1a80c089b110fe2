use Rattle.std.proofs.Common.{◌++◌, sym, subst}
use Rattle.std.specs.Prelude.{OnOk}
use Rattle.std.proofs.lemmas.Result.{on_ok_weaker}
use Rattle.vale_object_passing.specs.Passing.{AreEntered}
use Rattle.vale_object_passing.proofs.Passes.{entered_some}
use Rattle.vale_object_passing.proofs.arguments.lay_behind.Goals as goal

pub returns-in-Some : goal.returns-in-Some
returns-in-Some c =
    let s = c.split_at_mut-receiver in
    subst (λ o. OnOk c.lay-in-Some.result (AreEntered c.args.base c.args.first o c.args.types.now c.args.args.now c.args.frame.now c.args.texts.now c.lay-in-Some.new.frame (c.set_reference.new.registers ++ c.lay-in-Some.new.own) c.lay-in-Some.new.texts)) (sym c.in-Some.is)
    (on_ok_weaker c.lay-in-Some.result
    (entered_some c.args.base c.args.first c.in-Some.place c.args.types.now c.args.args.now c.args.frame.now c.args.texts.now c.lay-in-Some.new.frame c.lay-in-Some.new.texts c.set_reference.new.registers s.result.0.now c.lay-in-Some.new.own s.ensures.front_len c.set_reference.auto.registers
    c.set_reference.ensures)
    c.lay-in-Some.ensures)
