-- A local that is named and not moved.
use Rattle.std.specs.Prelude.{ℕ, Bool, false, Option, Some, None}
use Rattle.vale_rules_spec.specs.Typed.{Expr, expr, Node, name}

abbrev pub unmoved_in : Node → Option ℕ
unmoved_in (name n is_outer false) = Some n.name.0
unmoved_in _ = None

abbrev pub unmoved : Expr → Option ℕ
unmoved (expr x node) = unmoved_in node

abbrev pub node_of : Expr → Node
node_of (expr x node) = node
