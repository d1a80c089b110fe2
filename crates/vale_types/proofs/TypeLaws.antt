-- A type `iso X`: what is found of X, and then of it.
use Rattle.std.proofs.Common.{◌≡◌, List}
use Rattle.std.specs.Prelude.{Result, Ok}
use Rattle.vale_base.specs.declared.spot.Spot.{Spot}
use Rattle.vale_syntax.specs.declared.fault.Fault.{Fault}
use Rattle.vale_syntax.specs.declared.position.Position.{Position}
use Rattle.vale_syntax.specs.declared.position.Position.TheVariants.{Value}
use Rattle.vale_syntax.specs.declared.tree.TypeExpr.{TypeExpr}
use Rattle.vale_syntax.specs.declared.tree.TypeExpr.TheVariants as x
use Rattle.vale_syntax.specs.Tree.{Item}
use Rattle.vale_syntax.specs.View.{view_type}
use Rattle.vale_rules_spec.specs.Judged.{stopped, own}
use Rattle.vale_rules_spec.specs.DeclRules.{iso_rules}
use Rattle.vale_rules_spec.specs.DeclFaults.{type_faults}
use Rattle.vale_rules_spec.proofs.JudgedLaws.{stopped_after}
use Rattle.vale_syntax.proofs.ViewLaws.{of_iso_type}

pub isolate_then : (items : List Item) (position : Position) (at : Spot) (root : TypeExpr) (r : Result (Unit {0}) Fault)
    → stopped (type_faults items Value (view_type root)) (tt {0}) ≡ Ok (tt {0})
    → r ≡ stopped (own at (iso_rules items position (view_type root))) (tt {0})
    → r ≡ stopped (type_faults items position (view_type (x.Iso at root))) (tt {0})
isolate_then items position at root r before itself =
    rw (of_iso_type at root) (stopped_after (type_faults items Value (view_type root)) (own at (iso_rules items position (view_type root))) (tt {0}) r before itself)
