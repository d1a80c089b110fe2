use Rattle.std.proofs.Common.{◌∙◌}
use Rattle.vale_machine.proofs.Reading.{prints_on}
use Rattle.vale_machine.proofs.machine.Machine.put_out.Goals as goal

pub returns-clause-step : goal.returns-clause-step
returns-clause-step c = λ code taken. prints_on code taken c.args.self.now c.push.new.self c.args.line c.args.bytes.items c.from_vec.result (c.from_vec.ensures ∙ c.in-Ok.ensures) c.in-Ok-push.ensures.items
