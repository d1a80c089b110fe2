-- What parts of blocks and of forms stand for.
use Rattle.std.specs.Prelude.{map, option_map}
use Rattle.vale_core.specs.View.{stmts_of, view_ty, view_expr, view_form, view_stmt}
use Rattle.vale_rules_spec.specs.Types as y
use Rattle.vale_rules_spec.specs.Typed as t
use Rattle.vale_typed_parts.specs.declared.valued.Inside.{Inside}
use Rattle.vale_typed_parts.specs.declared.valued.Valued.{Valued}

abbrev pub view_valued : Valued → y.Ty × t.Form
view_valued v = (view_ty v.ty, view_form v.form)

abbrev pub view_inside : Inside → t.Stmts
view_inside i = stmts_of (map view_stmt i.stmts) (option_map view_expr i.last)
