-- What cells mean where names have places: a place stands for the object's name.
use Rattle.std.specs.Prelude.{◌≡◌, ℕ, suc, List, [], ◌∷◌, map, Option, Some, None, Bool, ◌==◌, ◌&&◌, if◌then◌else◌}
use Rattle.vale_state_spec.specs.World.{Value}
use Rattle.vale_state_spec.specs.World.{Int as number, Truth as truth, Text as text, Own as owner, Ref as reference, Iso as isolate}
use Rattle.vale_code.specs.Registers.{Registers}
use Rattle.vale_heap.specs.Standing.{HasPlace}
use Rattle.vale_heap.specs.declared.body.Cell.{Cell}
use Rattle.vale_heap.specs.declared.body.Cell.TheVariants.{Int, Truth, Text, Own, Ref, Iso}
use Rattle.vale_heap.specs.declared.body.Place.{Place}
use Rattle.vale_object_cells.specs.Cells.{held, place_in}

abbrev pub place_eq : Place → Place → Bool
place_eq p q = (p.frame == q.frame) && (p.slot == q.slot) && (p.generation == q.generation)

-- the name of a place: where the list has it first
abbrev pub name_at : List Place → Place → ℕ
name_at [] p = 0
name_at (q ∷ qs) p = if place_eq q p then 0 else suc (name_at qs p)

-- the list has the place
abbrev pub IsKnown : List Place → Place → Type 0
IsKnown names p = HasPlace names (name_at names p) p

abbrev pub value_of : List Place → Cell → Value
value_of names (Int z) = number z
value_of names (Truth b) = truth b
value_of names (Text t) = text t
value_of names (Own p) = owner (name_at names p)
value_of names (Ref p) = reference (name_at names p)
value_of names (Iso p) = isolate (name_at names p)

abbrev pub value_in : List Place → Option Cell → Option Value
value_in names None = None
value_in names (Some c) = Some (value_of names c)

abbrev pub values_in : List Place → List (Option Cell) → Registers
values_in names cells = map (value_in names) cells

-- a cell leads to a place that is known, if to any
abbrev pub Knows : List Place → Option Cell → Type 0
Knows names c = (p : Place) → place_in c ≡ Some p → IsKnown names p

abbrev pub AllKnown : List Place → List (Option Cell) → Type 0
AllKnown names cells = (r : ℕ) → Knows names (held cells r)

-- no place has two names
abbrev pub Apart : List Place → Type 0
Apart names = (name other : ℕ) (place : Place) → HasPlace names name place → HasPlace names other place → name ≡ other
