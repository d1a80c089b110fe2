-- Whether what is set is a local.
use Rattle.std.specs.Prelude.{ℕ, Bool, true, false, Option, Some, None}
use Rattle.vale_rules_spec.specs.Typed.{Expr, expr, name}
use Rattle.vale_lowering.specs.Scopes.{Scope, place_of}

abbrev pub is_found : Option ℕ → Bool
is_found None = false
is_found (Some r) = true

abbrev pub sets_local : Expr → Scope → Bool
sets_local (expr x (name n is_outer moved)) s = is_found (place_of n.name.0 s)
sets_local (expr x _) s = false
