use Rattle.vale_machine.proofs.Running.{later_under_way}
use Rattle.vale_machine.proofs.machine.Machine.advance.Goals as goal

pub follow-requires-clause-running : goal.follow-requires-clause-running
follow-requires-clause-running c =
    let r = c.requires in
    (r.0, later_under_way c.args.code.now r.0 c.args.self.now c.run_on-stop.new.self r.1 (c.run_on-stop.ensures.leads r.0) c.run_on-stop.ensures.goes)

pub returns-clause-step : goal.returns-clause-step
returns-clause-step c = λ taken. record {
  mid = c.run_on-stop.new.self;
  leads = c.run_on-stop.ensures.leads taken;
  stepped = c.follow.ensures.step taken;
  kept = c.follow.ensures.kept;
}
