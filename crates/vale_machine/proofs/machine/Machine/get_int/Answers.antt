use Rattle.std.proofs.Common.{Some, ap, rules}
use Rattle.std.proofs.lemmas.Int.{to_z-of_z}
use mir.Syntax.{w64}
use Rattle.vale_state_spec.specs.World.{Int}
use Rattle.vale_machine.proofs.Getting.{gets, untexted}
use Rattle.vale_machine.proofs.machine.Machine.get_int.Goals as goal

pub returns : goal.returns
returns c =
    let m = c.args.self.now in
    gets m m c.receive.new.self c.args.to _ (Int c.args.number) (untexted _ m) c.receive.ensures (ap (λ z. Some (Int z)) (to_z-of_z w64 c.args.number (search rules))) c.requires.base c.requires.end c.requires.room
