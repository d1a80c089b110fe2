use Rattle.std.proofs.Common.{length}
use Rattle.vale_typed_parts.proofs.names.+declare_each.Given as goal

abbrev pub decreases-declare_each : goal.decreases-declare_each
decreases-declare_each l = length l.names.now
