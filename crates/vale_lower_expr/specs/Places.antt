-- What is set, and the register of the local.
use Rattle.std.specs.Prelude.{ℕ, Bool, true, false, Option, None}
use Rattle.vale_rules_spec.specs.Typed.{Expr, expr, name, set}
use Rattle.vale_lowering.specs.Scopes.{Scope, place_of}

abbrev pub place_named : Expr → Scope → Option ℕ
place_named (expr x (name n is_outer moved)) s = place_of n.name.0 s
place_named (expr x _) s = None

abbrev pub is_set : Expr → Bool
is_set (expr x (set at p e)) = true
is_set _ = false
