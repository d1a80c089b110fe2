-- The entries of a scope as the code keeps it.
use Rattle.std.specs.Prelude.{ℕ, zero, suc, ◌+◌, List, [], ◌∷◌}
use Rattle.vale_lowering.specs.Scopes.{Entry, entry, waiting}
use Rattle.vale_lower_expr.specs.declared.scope.Local.{Local}
use Rattle.vale_lower_expr.specs.declared.scope.Scope.{Scope}
use Rattle.vale_lower_expr.specs.declared.scope.Scope.TheVariants.{Outside, Frame', Waiting'}

abbrev pub entry_of : Local → Entry
entry_of l = entry l.name.0 l.register

-- those of a block, the last first, before those outside of it
abbrev pub framed : List Local → List Entry → List Entry
framed [] outer = outer
framed (l ∷ ls) outer = framed ls (entry_of l ∷ outer)

-- so many values that wait, in the registers from h on, the last first
abbrev pub awaited : ℕ → ℕ → List Entry → List Entry
awaited h zero outer = outer
awaited h (suc count) outer = waiting (h + count) ∷ awaited h count outer

abbrev pub entries : Scope → List Entry
entries Outside = []
entries (Frame' ls p outer) = framed ls.now (entries outer)
entries (Waiting' h count p outer) = awaited h count (entries outer)
