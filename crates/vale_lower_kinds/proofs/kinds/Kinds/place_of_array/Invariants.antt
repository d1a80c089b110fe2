use Rattle.std.proofs.Common.{◌≡◌, ◌+◌, map, drop}
use Rattle.vale_core.specs.View.{view_ty}
use Rattle.vale_model.specs.Parts.{place_of_kind}
use Rattle.vale_lower_kinds.proofs.kinds.Kinds.place_of_array.Given as goal

-- those before this place are others
abbrev pub invariant-loop-at : goal.invariant-loop-at
invariant-loop-at l = l.at + place_of_kind (view_ty l.element) (map view_ty (drop l.at l.self.elements.items)) ≡ place_of_kind (view_ty l.element) (map view_ty l.self.elements.items)
