use Rattle.std.proofs.Common.{sym, ◌∙◌}
use Rattle.vale_shape.proofs.ShapeLaws.{all_used}
use Rattle.vale_shape.proofs.shape.same_types.Goals as goal

pub returns-in-empty : goal.returns-in-empty
returns-in-empty c = sym (all_used c.args.theirs.now c.loop-a.left.now c.loop-a.a-index c.loop-a-test.true c.in-empty.len_below) ∙ c.loop-a.invariant
