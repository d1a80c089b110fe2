use Rattle.std.proofs.Common.{◌≡◌, map, drop}
use Rattle.vale_rules_spec.specs.Judged.{first_of}
use Rattle.vale_core.specs.View.{view_item}
use Rattle.vale_region_spec.specs.Regions.{items_faults}
use Rattle.vale_region_rules.specs.Items.{items_of}
use Rattle.vale_region.proofs.framing.items_fault.Given as goal

-- the first fault is that of those that are left
abbrev pub invariant-loop-item : goal.invariant-loop-item
invariant-loop-item l = first_of (items_faults (items_of l.signatures) (map view_item (drop l.item-index l.items))) ≡ first_of (items_faults (items_of l.signatures) (map view_item l.items))
