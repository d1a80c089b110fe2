use Rattle.std.proofs.Common.{◌≡◌, map, drop}
use Rattle.vale_rules_spec.specs.Judged.{first_of}
use Rattle.vale_core.specs.View.{view_function}
use Rattle.vale_region_spec.specs.Regions.{functions_faults}
use Rattle.vale_region_rules.specs.Items.{items_of}
use Rattle.vale_region.proofs.framing.functions_fault.Given as goal

-- the first fault is that of those that are left
abbrev pub invariant-loop-function : goal.invariant-loop-function
invariant-loop-function l = first_of (functions_faults (items_of l.signatures) (map view_function (drop l.function-index l.functions))) ≡ first_of (functions_faults (items_of l.signatures) (map view_function l.functions))
