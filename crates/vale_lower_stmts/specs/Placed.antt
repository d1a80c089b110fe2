-- What is set, and what a statement makes that sets a local or drops a value.
use Rattle.std.specs.Prelude.{ℕ, ◌&&◌, Option, Some, None, length}
use Rattle.vale_base.specs.declared.spot.Spot.{Spot}
use Rattle.vale_rules_spec.specs.Typed.{Expr, expr, Node, set, name, steps, type}
use Rattle.vale_model.specs.Expressions.{expr_spot}
use Rattle.vale_lowering_objects.specs.Scopes.{Gives, Scope, Around, gives_of, is_value, agree, find}
use Rattle.vale_lowering_objects.specs.Lowered.{drop_value, store}
use Rattle.vale_lower_flow.specs.Flow.{Going, only, if_there}
use Rattle.vale_lower_parts.specs.Emitted.{expr_emitted}
use Rattle.vale_lower_stmts.specs.declared.places.Place.{Place as Kept}
use Rattle.vale_lower_stmts.specs.declared.places.Place.TheVariants as k

pub data Place : Type 0 where
  a_local : ℕ → Place
  some_steps : Place
  nothing : Place

abbrev pub view_place : Kept → Place
view_place (k.Local n) = a_local n.0
view_place k.Steps = some_steps
view_place k.Nothing = nothing

abbrev pub place_of_node : Node → Place
place_of_node (name n is_outer moved) = a_local n.name.0
place_of_node (steps e ss) = some_steps
place_of_node _ = nothing

abbrev pub place_of : Expr → Place
place_of (expr x node) = place_of_node node

abbrev pub local_in : Place → Option ℕ
local_in (a_local n) = Some n
local_in some_steps = None
local_in nothing = None

-- the local that a node sets
abbrev pub set_local_in : Node → Option ℕ
set_local_in (set at p e) = local_in (place_of p)
set_local_in _ = None

abbrev pub set_local : Expr → Option ℕ
set_local (expr x node) = set_local_in node

module _ (a : Around) where
  -- a value that isn't used
  unfoldable pub unused_emitted : Expr → ℕ → Scope → Going → Going
  unused_emitted e h s f = if_there (λ place g. drop_value (gives_of (type e)) h (expr_spot e)) (expr_emitted a e h s f)

  -- a local is set, and what it held is dropped
  unfoldable pub store_emitted : Gives → Spot → ℕ → Expr → ℕ → Scope → Going → Going
  store_emitted q at n e h s f =
      only (is_value (gives_of (type e)) && agree q (gives_of (type e))) (length f.code) h (if_there (λ place g. store (find n s) g (gives_of (type e)) h at) (expr_emitted a e h s f))
