use Rattle.std.proofs.Common.{List, ◌∙◌, ap, subst}
use Rattle.vale_base.specs.declared.piece.Piece.{Piece}
use Rattle.vale_code.specs.Frames.{Config}
use Rattle.vale_turn.specs.View.{IsSafe}
use Rattle.vale_machine.specs.View.{config_of}
use Rattle.vale_machine.proofs.Beginning.{all_taken}
use Rattle.vale_machine.proofs.machine.Machine.take_pieces.Goals as goal

pub returns-clause-under_way : goal.returns-clause-under_way
returns-clause-under_way c = λ code taken u. record {
  runnable = u.runnable;
  laid = record { lie = u.laid.lie; there = u.laid.there };
  ticks = u.ticks;
  safe = subst (λ (x : Config). IsSafe code x)
      (ap (λ (ps : List Piece). record (config_of code taken c.args.self.now) { state = record (config_of code taken c.args.self.now).state { pieces = ps } })
      (all_taken taken c.args.self.now.pieces.items c.replace.result.items c.replace.new.dest.items (ap (λ v. v.items) c.replace.ensures.value) (ap (λ v. v.items) c.replace.ensures.after ∙ c.new.ensures.items)))
      u.safe;
}
