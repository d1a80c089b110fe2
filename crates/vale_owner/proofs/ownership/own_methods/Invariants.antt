use Rattle.std.proofs.Common.{◌≡◌, map, drop}
use Rattle.vale_rules_spec.specs.Judged.{stopped}
use Rattle.vale_core.specs.View.{view_function}
use Rattle.vale_rules_spec.specs.Owned.{method_faults}
use Rattle.vale_owner.proofs.ownership.own_methods.Given as goal

-- those before have no fault
abbrev pub invariant-loop-function : goal.invariant-loop-function
invariant-loop-function l = stopped (method_faults (map view_function (drop l.function-index l.functions))) (tt {0}) ≡ stopped (method_faults (map view_function l.functions)) (tt {0})
