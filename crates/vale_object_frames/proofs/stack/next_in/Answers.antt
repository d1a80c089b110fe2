use Rattle.std.proofs.Common.{refl}
use Rattle.vale_object_frames.proofs.StackLaws.{drops_one}
use Rattle.vale_object_frames.proofs.stack.next_in.Goals as goal

pub returns-in-Some-clause-some : goal.returns-in-Some-clause-some
returns-in-Some-clause-some c =
    drops_one c.in-Some.cell c.in-Dropping.leftover (record { kind = c.in-Dropping.leftover.kind; at = c.in-Dropping.leftover.at; rest = c.next_owned.new.rest }) c.args.frame.now c.in-Dropping.is refl refl c.in-Some.ensures.some
