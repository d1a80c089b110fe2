use Rattle.std.proofs.Common.{sym, ap, ◌∙◌, subst}
use Rattle.vale_code.specs.Registers.{read}
use Rattle.vale_registers.specs.Cells.{HoldsTruth, values_in}
use Rattle.vale_machine.specs.View.{own_texts}
use Rattle.vale_machine.proofs.machine.Machine.truth.Goals as goal

pub truth_at-requires : goal.truth_at-requires
truth_at-requires c = subst (λ l. HoldsTruth l c.args.register) (sym c.registers.ensures) c.requires.holds

pub returns : goal.returns
returns c = ap (λ l. read (values_in (own_texts c.args.self.now) l) c.args.register) (sym c.registers.ensures) ∙ c.truth_at.ensures (own_texts c.args.self.now)
