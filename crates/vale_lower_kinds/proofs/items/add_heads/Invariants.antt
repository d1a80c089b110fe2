use Rattle.std.proofs.Common.{◌≡◌, map, drop}
use Rattle.std.specs.Prelude.{flat_map}
use Rattle.vale_syntax.specs.View.{view_head}
use Rattle.vale_model.specs.Kinds.{head_arrays}
use Rattle.vale_lower_kinds.specs.Added.{added}
use Rattle.vale_lower_kinds.specs.Held.{kinds_in}
use Rattle.vale_lower_kinds.proofs.items.add_heads.Given as goal

-- the kinds so far, with those of what is left
abbrev pub invariant-loop-head : goal.invariant-loop-head
invariant-loop-head l = added (kinds_in l.kinds) (flat_map head_arrays (map view_head (drop l.head-index l.heads))) ≡ added (kinds_in l.initial.kinds) (flat_map head_arrays (map view_head (l.heads)))
