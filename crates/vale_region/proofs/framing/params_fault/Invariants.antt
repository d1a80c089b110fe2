use Rattle.std.proofs.Common.{◌≡◌, map, drop}
use Rattle.vale_rules_spec.specs.Judged.{first_of}
use Rattle.vale_syntax.specs.View.{view_param}
use Rattle.vale_region_spec.specs.Regions.{params_faults}
use Rattle.vale_region.proofs.framing.params_fault.Given as goal

-- the first fault is that of those that are left
abbrev pub invariant-loop-param : goal.invariant-loop-param
invariant-loop-param l = first_of (params_faults (map view_param (drop l.param-index l.params))) ≡ first_of (params_faults (map view_param l.params))
