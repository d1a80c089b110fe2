use Rattle.vale_region_laws.proofs.Keeping.{below_kept}
use Rattle.vale_region_laws.proofs.StepLaws.{run_kept}
use Rattle.vale_region_laws.proofs.laws.seen_alive_stays_alive.Goals as goal

pub returns : goal.returns
returns c a n s t run f b = below_kept a n s t (run_kept a s t run f) b
