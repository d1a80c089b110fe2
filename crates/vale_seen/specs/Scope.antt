-- The locals that a scope has.
use Rattle.std.specs.Prelude.{List, [], ◌∷◌}
use Rattle.vale_core.specs.View.{view_ty}
use Rattle.vale_rules_spec.specs.Types as y
use Rattle.vale_seen.specs.declared.scope.Local.{Local}
use Rattle.vale_seen.specs.declared.scope.Scope.{Scope}
use Rattle.vale_seen.specs.declared.scope.Scope.TheVariants.{Outside, Frame'}

abbrev pub view_local : Local → y.Local
view_local l = record { name = l.name.0; ty = view_ty l.ty; depth = l.depth }

-- those of a block, the last first, before those outside of it
abbrev pub framed : List Local → List y.Local → List y.Local
framed [] outer = outer
framed (l ∷ ls) outer = framed ls (view_local l ∷ outer)

abbrev pub locals : Scope → List y.Local
locals Outside = []
locals (Frame' ls p outer) = framed ls.now (locals outer)
