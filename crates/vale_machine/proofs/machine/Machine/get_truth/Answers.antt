use Rattle.std.proofs.Common.{refl}
use Rattle.vale_state_spec.specs.World.{Truth}
use Rattle.vale_machine.proofs.Getting.{gets, untexted}
use Rattle.vale_machine.proofs.machine.Machine.get_truth.Goals as goal

pub returns : goal.returns
returns c =
    let m = c.args.self.now in
    gets m m c.receive.new.self c.args.to _ (Truth c.args.truth) (untexted _ m) c.receive.ensures refl c.requires.base c.requires.end c.requires.room
