use Rattle.std.proofs.Common.{◌+◌, sym, ◌∙◌, subst, arith}
use Rattle.vale_page.specs.BlockState.{IsSound}
use Rattle.vale_page.specs.declared.block.Block.{Block}
use Rattle.vale_page.proofs.BlockLemmas.{NoneBelow, none_taken, none_there}
use Rattle.vale_page.proofs.block.Block.destroy.Goals.{then-has_body, else-has_body}
use Rattle.vale_page.proofs.block.Block.destroy.Goals as goal

pub loop-slot-preserved : goal.loop-slot-preserved
loop-slot-preserved g c =
    let inv = c.loop-slot.invariant in let slot = c.loop-slot.slot in let many = inv.sound.slots.values in
    elim c.if-has_body.branch [
      | then-has_body w ↦ record {
        sound = subst IsSound (sym w.self-is) w.take.ensures.0;
        dropped = subst (λ (b : Block g.row.B.Denot). NoneBelow b.bodies.cells (slot + 1)) (sym w.self-is) (none_taken c.loop-slot.self.bodies.cells _ slot inv.dropped (omega (arith, many)) w.take.ensures.1.cells);
      }
      | else-has_body w ↦ record {
        sound = subst IsSound (sym w.self-is) inv.sound;
        dropped = subst (λ (b : Block g.row.B.Denot). NoneBelow b.bodies.cells (slot + 1)) (sym w.self-is) (none_there c.loop-slot.self.bodies.cells slot inv.dropped (sym c.has_body.ensures ∙ w.if-has_body.false));
      }
    ]
