use Rattle.std.proofs.Common.{Some, refl, sym, ap, subst}
use Rattle.vale_state_spec.specs.World.{Text}
use Rattle.vale_code.specs.Registers.{put}
use Rattle.vale_registers.specs.Cells.{empty}
use Rattle.vale_registers.proofs.Registers.{text_is}
use Rattle.vale_machine.specs.Aside.{Gets, text_cell}
use Rattle.vale_machine.specs.View.{own_cells, own_texts, registers_of}
use Rattle.vale_machine.specs.declared.machine.Machine.{Machine}
use Rattle.vale_machine.proofs.Getting.{gets}
use Rattle.vale_machine.proofs.machine.Machine.share_text.Goals as goal

pub returns-clause-gets : goal.returns-clause-gets
returns-clause-gets c =
    let m = c.args.self.now in
    let mid : Machine = record m { texts = c.share.new.self } in
    let held = text_is (own_cells m) c.args.from empty c.requires.holds (own_texts m) in
    subst (λ o. Gets (put (registers_of m) c.args.to o) m c.receive_text.new.self) (sym held)
    (gets m mid c.receive_text.new.self c.args.to text_cell (Text (own_texts m c.args.from))
    (record { cells = refl; end = refl; top = refl; below = refl; left = refl; given = refl; pieces = refl; others = c.in_ok-share.ensures.others })
    c.receive_text.ensures (ap (λ x. Some (Text x)) c.in_ok-share.ensures.is) c.requires.base c.requires.end c.requires.room)
