use Rattle.std.proofs.Common.{Some, refl, ap}
use Rattle.vale_state_spec.specs.World.{Text}
use Rattle.vale_machine.specs.Aside.{text_cell}
use Rattle.vale_machine.specs.declared.machine.Machine.{Machine}
use Rattle.vale_machine.proofs.Getting.{gets}
use Rattle.vale_machine.proofs.machine.Machine.get_text.Goals as goal

pub returns-clause-gets : goal.returns-clause-gets
returns-clause-gets c =
    let m = c.args.self.now in
    let mid : Machine = record m { texts = c.put.new.self } in
    gets m mid c.receive_text.new.self c.args.to text_cell (Text c.args.text)
    (record { cells = refl; end = refl; top = refl; below = refl; left = refl; given = refl; pieces = refl; others = c.in_ok-put.ensures.others })
    c.receive_text.ensures (ap (λ x. Some (Text x)) c.in_ok-put.ensures.is) c.requires.base c.requires.end c.requires.room
