use Rattle.std.proofs.Common.{◌+◌, ◌*◌}
use Rattle.vale_reading.proofs.types.Parser.+types.Given as goal

abbrev pub decreases-type_expr : goal.decreases-type_expr
decreases-type_expr l = 2 * l.depth + 1

abbrev pub decreases-array_type : goal.decreases-array_type
decreases-array_type l = 2 * l.depth

abbrev pub decreases-ref_type : goal.decreases-ref_type
decreases-ref_type l = 2 * l.depth

abbrev pub decreases-iso_type : goal.decreases-iso_type
decreases-iso_type l = 2 * l.depth
