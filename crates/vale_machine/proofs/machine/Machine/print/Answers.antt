use Rattle.std.proofs.Common.{sym, subst}
use Rattle.vale_code.specs.Frames.{Next}
use Rattle.vale_machine.specs.View.{Stepped}
use Rattle.vale_machine.proofs.Getting.{frames_same}
use Rattle.vale_machine.proofs.Reading.{printed_here}
use Rattle.vale_machine.proofs.machine.Machine.print.Goals as goal

pub returns-in-Ok-clause-step : goal.returns-in-Ok-clause-step
returns-in-Ok-clause-step c = λ code taken.
    subst (λ (n : Next). Stepped code taken c.put_out.result n c.put_out.new.self)
    (sym (printed_here code taken c.args.self.now c.args.from c.args.choice c.is_line-line.result c.in-Ok.bytes.items c.is_line-line.ensures c.in-Ok.ensures)) (c.put_out.ensures.step code taken)

pub returns-in-Err-clause-keeps : goal.returns-in-Err-clause-keeps
returns-in-Err-clause-keeps c = frames_same _ c.args.self.now
