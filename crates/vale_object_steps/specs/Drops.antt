-- What an object held that has died: its owners and isolates are dropped one after another.
use Rattle.std.specs.Prelude.{◌≡◌, List, [], ◌∷◌, map, Option, Some, None}
use Rattle.std.specs.List.{AllByRecursion}
use Rattle.vale_base.specs.declared.name.Kind.{Kind}
use Rattle.vale_state_spec.specs.State.{dies}
use Rattle.vale_state_spec.specs.World.{Lives, Object}
use Rattle.vale_code.specs.Destroy.{Owned}
use Rattle.vale_heap.specs.HeapState.{HeapState}
use Rattle.vale_heap.specs.declared.body.Body.{Body}
use Rattle.vale_heap.specs.declared.body.Cell.{Cell}
use Rattle.vale_heap.specs.declared.body.Cell.TheVariants.{Int, Truth, Text, Own, Ref, Iso}
use Rattle.vale_heap.specs.declared.body.Place.{Place}
use Rattle.vale_object_cells.specs.Names.{IsKnown, Knows, name_at, value_of}
use Rattle.vale_object_steps.specs.Views.{Agrees, View}

-- the first owner or isolate of some cells, and the cells after it
pub record OwnedCell : Type 0 where
  pub first : Cell
  pub rest : List Cell

abbrev pub first_owned_cell : List Cell → Option OwnedCell
first_owned_cell [] = None
first_owned_cell (Own p ∷ cs) = Some (record { first = Own p; rest = cs })
first_owned_cell (Iso p ∷ cs) = Some (record { first = Iso p; rest = cs })
first_owned_cell (Int z ∷ cs) = first_owned_cell cs
first_owned_cell (Truth b ∷ cs) = first_owned_cell cs
first_owned_cell (Text t ∷ cs) = first_owned_cell cs
first_owned_cell (Ref p ∷ cs) = first_owned_cell cs

-- the same by names
abbrev pub owned_by : List Place → Option OwnedCell → Option Owned
owned_by names None = None
owned_by names (Some o) = Some (record { first = value_of names o.first; rest = map (value_of names) o.rest })

-- for some names and state the object at this place lives
pub record CanEnd (heap : HeapState) (place : Place) : Type 0 where
  pub view : View
  pub cells : List (Option Cell)
  pub agrees : Agrees view heap cells
  pub known : IsKnown view.names place
  pub object : Object
  pub lives : Lives view.state.world (name_at view.names place) object

-- the object of the place's name has died; these cells are what it held
pub record HasEnded (v : View) (o : Object) (place : Place) (cells : List (Option Cell)) (heap : HeapState) (body : Body) : Type 0 where
  pub agrees : Agrees (record v { state = dies (name_at v.names place) v.state }) heap cells
  pub kind : body.kind ≡ o.kind
  pub values : map (value_of v.names) body.cells ≡ o.values
  pub known : AllByRecursion (λ c. Knows v.names (Some c)) body.cells

-- whatever names and state heap and registers stand for, if the object lives
abbrev pub Ends : HeapState → Place → HeapState → Body → Type 0
Ends heap place new body =
    (v : View) (cells : List (Option Cell)) (o : Object) → Agrees v heap cells → IsKnown v.names place → Lives v.state.world (name_at v.names place) o → HasEnded v o place cells new body

-- the object at the place is of this kind
abbrev pub IsKindAt : HeapState → Place → Kind → Type 0
IsKindAt heap place kind =
    (v : View) (cells : List (Option Cell)) (o : Object) → Agrees v heap cells → IsKnown v.names place → Lives v.state.world (name_at v.names place) o → kind ≡ o.kind
