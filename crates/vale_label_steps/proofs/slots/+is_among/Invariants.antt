use Rattle.std.proofs.Common.{length}
use Rattle.vale_label_steps.proofs.slots.+is_among.Given as goal

abbrev pub decreases-is_among : goal.decreases-is_among
decreases-is_among l = length l.locals.now
