use Rattle.vale_machine.proofs.Getting.{frames_kept, goes_on}
use Rattle.vale_machine.proofs.machine.Machine.take_text.Goals as goal

pub returns-in-Ok-clause-step : goal.returns-in-Ok-clause-step
returns-in-Ok-clause-step c = λ code taken. goes_on code taken c.args.self.now c.get_text.new.self _ c.in-Ok.ensures.gets

pub returns-in-Ok-clause-keeps : goal.returns-in-Ok-clause-keeps
returns-in-Ok-clause-keeps c = frames_kept _ c.args.self.now c.get_text.new.self _ c.in-Ok.ensures.gets

pub returns-in-Err-clause-keeps : goal.returns-in-Err-clause-keeps
returns-in-Err-clause-keeps c = c.get_text.ensures.keeps
