use Rattle.std.proofs.Common.{Some, sym, ap, ◌∙◌}
use Rattle.vale_state_spec.specs.World.{Text}
use Rattle.vale_registers.specs.Cells.{empty}
use Rattle.vale_registers.proofs.Registers.{text_is}
use Rattle.vale_machine.specs.View.{own_cells, own_texts}
use Rattle.vale_machine.proofs.machine.Machine.text.Goals as goal

pub returns : goal.returns
returns c = text_is (own_cells c.args.self.now) c.args.register empty c.requires.holds (own_texts c.args.self.now) ∙ ap (λ x. Some (Text x)) (sym c.text.ensures)
