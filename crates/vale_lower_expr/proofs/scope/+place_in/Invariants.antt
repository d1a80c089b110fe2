use Rattle.std.proofs.Common.{length}
use Rattle.vale_lower_expr.proofs.scope.+place_in.Given as goal

abbrev pub decreases-place_in : goal.decreases-place_in
decreases-place_in l = length l.locals.now
