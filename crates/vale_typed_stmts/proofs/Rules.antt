-- The forms of the source tree.
use Rattle.vale_syntax.proofs.ViewLaws as v

pub ruleset forms = (v.of_if, v.of_pure, v.of_parallel_range, v.of_parallel_each)
