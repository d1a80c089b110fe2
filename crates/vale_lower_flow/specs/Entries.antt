-- The locals in scope and the registers whose owners are gone, as the code keeps them.
use Rattle.std.specs.Prelude.{ℕ, Bool, true, ◌&&◌, List, [], ◌∷◌, option_map}
use Rattle.vale_lowering_objects.specs.Scopes.{Entry, is_gone, same_truth}
use Rattle.vale_lowering_objects.specs.Scopes as s
use Rattle.vale_lower_flow.specs.declared.scope.Local.{Local}
use Rattle.vale_lower_flow.specs.declared.scope.Scope.{Scope}
use Rattle.vale_lower_flow.specs.declared.scope.Scope.TheVariants.{Outside, Frame'}
use Rattle.vale_lower_flow.specs.declared.gone.Gone.{Gone}

abbrev pub entry_of : Local → Entry
entry_of l = record { name = option_map (λ m. m.0) l.name; register = l.register; owned = l.owned }

-- those of a block, the last first, before those outside of it
abbrev pub framed : List Local → List Entry → List Entry
framed [] outer = outer
framed (l ∷ ls) outer = framed ls (entry_of l ∷ outer)

abbrev pub entries : Scope → List Entry
entries Outside = []
entries (Frame' ls p outer) = framed ls.now (entries outer)

-- the last first, before others
abbrev pub gone_over : List ℕ → s.Gone → s.Gone
gone_over [] g = g
gone_over (r ∷ rs) g = gone_over rs (r ∷ g)

unfoldable pub gone_of : Gone → s.Gone
gone_of g = gone_over g.registers.items []

-- two ways have moved the same of these locals
abbrev pub all_same : List Local → s.Gone → s.Gone → Bool
all_same [] g g' = true
all_same (l ∷ ls) g g' = same_truth (is_gone l.register g) (is_gone l.register g') && all_same ls g g'
