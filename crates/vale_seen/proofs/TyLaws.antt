-- The types of values, by how they are made.
use Rattle.vale_syntax.proofs.ViewLaws as v
use Rattle.vale_core.proofs.ViewLaws as c

-- types, as they are written and as values have them
pub ruleset types = (v.of_int, v.of_bool, v.of_str, v.of_named, v.of_array_type, v.of_ref, v.of_imm_ref, v.of_iso_type, c.of_void, c.of_int, c.of_bool, c.of_str, c.of_kind, c.of_array, c.of_ref, c.of_imm, c.of_iso)
