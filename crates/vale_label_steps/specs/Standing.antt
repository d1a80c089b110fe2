-- What is known at a place, as the code keeps it.
use Rattle.std.specs.Prelude.{ℕ, ◌+◌, Bool, List, [], ◌∷◌, map}
use Rattle.vale_rules_spec.specs.Typed as t
use Rattle.vale_core.specs.View.{view_ty, view_expr}
use Rattle.vale_lowering.specs.Scopes.{Around}
use Rattle.vale_lower_facts.specs.Slots as s
use Rattle.vale_label_steps.specs.declared.slots.Local.{Local}
use Rattle.vale_label_steps.specs.declared.slots.Slots.{Slots}
use Rattle.vale_label_steps.specs.declared.slots.Standing.{Standing}
use Rattle.vale_label_steps.specs.declared.slots.Slots.TheVariants.{Outside, Frame', Waits', Holds'}

abbrev pub slot_of : Local → s.Slot
slot_of l = s.local l.name.0 l.register (view_ty l.ty)

-- those of a block, the last first, before those outside of it
abbrev pub framed : List Local → s.Slots → s.Slots
framed [] outer = outer
framed (l ∷ ls) outer = framed ls (slot_of l ∷ outer)

-- the values that wait, in the registers from h on, the last first
abbrev pub waited : List t.Expr → ℕ → s.Slots → s.Slots
waited [] h outer = outer
waited (e ∷ es) h outer = waited es (h + 1) (s.waits h (t.type e) ∷ outer)

abbrev pub slots_of : Slots → s.Slots
slots_of Outside = []
slots_of (Frame' ls p outer) = framed ls.now (slots_of outer)
slots_of (Waits' h es p outer) = waited (map view_expr es.now) h (slots_of outer)
slots_of (Holds' r ty p outer) = s.holds r (view_ty ty.now) ∷ slots_of outer

abbrev pub stand : Standing → s.Stand
stand here = record { slots = slots_of here.slots.now; over = here.over }

-- what the labels need of what a body names
abbrev pub plain : Bool → Around
plain returns = record { texts = []; functions = []; gives = returns }
