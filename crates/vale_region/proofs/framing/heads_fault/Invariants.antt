use Rattle.std.proofs.Common.{◌≡◌, map, drop}
use Rattle.vale_rules_spec.specs.Judged.{first_of}
use Rattle.vale_syntax.specs.View.{view_head}
use Rattle.vale_region_spec.specs.Regions.{heads_faults}
use Rattle.vale_region.proofs.framing.heads_fault.Given as goal

-- the first fault is that of those that are left
abbrev pub invariant-loop-head : goal.invariant-loop-head
invariant-loop-head l = first_of (heads_faults (map view_head (drop l.head-index l.heads))) ≡ first_of (heads_faults (map view_head l.heads))
