use Rattle.std.proofs.Common.{◌≡◌, map, drop}
use Rattle.vale_syntax.specs.View.{view_head}
use Rattle.vale_rules_spec.specs.Types.{method_named}
use Rattle.vale_region_rules.proofs.calls.method_named.Given as goal

-- it is among those that are left
abbrev pub invariant-loop-head : goal.invariant-loop-head
invariant-loop-head l = method_named (map view_head (drop l.head-index l.heads)) l.name.0 ≡ method_named (map view_head l.heads) l.name.0
