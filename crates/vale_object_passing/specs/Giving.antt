-- What registers hold is given to parameters by their types: a parameter `&imm X` gets a reference to what its argument leads
-- to, which stays where it is; every other parameter keeps its argument.
use Rattle.std.specs.Prelude.{ℕ, List, [], ◌∷◌, ◌++◌, Option, Some, None, Bool, true, false}
use Rattle.vale_code.specs.declared.ty.Ty.{Ty}
use Rattle.vale_code.specs.declared.ty.Ty.TheVariants as t
use Rattle.vale_heap.specs.declared.body.Cell.{Cell}
use Rattle.vale_heap.specs.declared.body.Cell.TheVariants.{Ref}
use Rattle.vale_heap.specs.declared.body.Place.{Place}
use Rattle.vale_object_cells.specs.Cells.{held, kept_cells, place_in}

abbrev pub is_frozen : Ty → Bool
is_frozen (t.Frozen kind) = true
is_frozen _ = false

abbrev pub reference_to : Option Place → Option Cell
reference_to None = None
reference_to (Some p) = Some (Ref p)

-- what a parameter gets of a cell, as a frozen one or another
abbrev pub given_as : Bool → Option Cell → Option Cell
given_as true c = reference_to (place_in c)
given_as false c = c

-- the registers after a parameter got what one of them holds
abbrev pub after_as : Bool → ℕ → List (Option Cell) → List (Option Cell)
after_as true r now = now
after_as false r now = kept_cells (held now r) r now

-- what was given, and what the registers hold after that
pub record Given : Type 0 where
  pub cells : List (Option Cell)
  pub after : List (Option Cell)

abbrev pub given_then : Option Cell → Option Given → Option Given
given_then None rest = None
given_then (Some c) rest = rest

-- what these registers hold is given behind what was given before
abbrev pub give_from : List (Option Cell) → List Ty → List ℕ → List (Option Cell) → Option Given
give_from before [] [] now = Some (record { cells = before; after = now })
give_from before [] (r ∷ rs) now = None
give_from before (ty ∷ tys) [] now = None
give_from before (ty ∷ tys) (r ∷ rs) now =
    given_then (given_as (is_frozen ty) (held now r)) (give_from (before ++ given_as (is_frozen ty) (held now r) ∷ []) tys rs (after_as (is_frozen ty) r now))
