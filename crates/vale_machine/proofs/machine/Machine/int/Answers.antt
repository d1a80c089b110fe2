use Rattle.std.proofs.Common.{Some, sym, ap, ◌∙◌, subst, rules}
use Rattle.std.proofs.lemmas.Int.{to_z-of_z}
use mir.Syntax.{w64}
use Rattle.vale_state_spec.specs.World.{Int}
use Rattle.vale_code.specs.Registers.{read}
use Rattle.vale_registers.specs.Cells.{HoldsInt, values_in}
use Rattle.vale_machine.specs.View.{own_texts}
use Rattle.vale_machine.proofs.machine.Machine.int.Goals as goal

pub int_at-requires : goal.int_at-requires
int_at-requires c = subst (λ l. HoldsInt l c.args.register) (sym c.registers.ensures) c.requires.holds

pub returns : goal.returns
returns c = ap (λ l. read (values_in (own_texts c.args.self.now) l) c.args.register) (sym c.registers.ensures) ∙ c.int_at.ensures (own_texts c.args.self.now) ∙ ap (λ z. Some (Int z)) (sym (to_z-of_z w64 c.int_at.result (search rules)))
