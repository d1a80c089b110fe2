-- Places of `set`, by their parts.
use Rattle.std.proofs.Common.{◌≡◌, refl, ap}
use Rattle.std.specs.Prelude.{Bool, false}
use Rattle.vale_core.specs.declared.tree.Expr.{Expr, out-Expr}
use Rattle.vale_core.specs.View.{view_expr, view_seen, view_node}
use Rattle.vale_core.proofs.PartLaws.{of_out_expr}
use Rattle.vale_rules_spec.specs.Typed as t
use Rattle.vale_rules_spec.specs.Typed.{Steps, no_steps, more_steps}
use Rattle.vale_region_spec.specs.RegionRules.{step_is_frozen, last_is_frozen, is_frozen_place, is_outer_local}
use Rattle.vale_region_rules.specs.Last.{last_or}

pub frozen_by_parts : (e : Expr) → is_frozen_place (view_expr e) ≡ is_frozen_place (t.expr (view_seen (out-Expr e).seen) (view_node (out-Expr e).node))
frozen_by_parts e = ap is_frozen_place (of_out_expr e)

pub outer_by_parts : (e : Expr) → is_outer_local (view_expr e) ≡ is_outer_local (t.expr (view_seen (out-Expr e).seen) (view_node (out-Expr e).node))
outer_by_parts e = ap is_outer_local (of_out_expr e)

last_behind : (s : t.Step) (ss : Steps) → last_or (step_is_frozen s) ss ≡ last_is_frozen (more_steps s ss)
last_behind s no_steps = refl
last_behind s (more_steps u ss) = last_behind u ss

pub last_whole : (ss : Steps) → last_or false ss ≡ last_is_frozen ss
last_whole no_steps = refl
last_whole (more_steps s ss) = last_behind s ss
