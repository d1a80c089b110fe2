use Rattle.std.proofs.Common.{length}
use Rattle.vale_run.proofs.answer.+other_option.Given as goal

abbrev pub decreases-other_option : goal.decreases-other_option
decreases-other_option l = length l.words.now
