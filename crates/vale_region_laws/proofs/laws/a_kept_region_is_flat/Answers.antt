use Rattle.vale_region_laws.proofs.Heights.{holds_no_iso}
use Rattle.vale_region_laws.proofs.laws.a_kept_region_is_flat.Goals as goal

pub returns : goal.returns
returns x height most home hs w c n o lives plain leave f full stacked = holds_no_iso height most home hs w c n o lives plain leave f full stacked
