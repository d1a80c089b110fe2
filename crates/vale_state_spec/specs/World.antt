-- A heap of names. Names are given in rising order and never again: name n is the n-th object that was made. It has an object
-- while it is alive, and none from its death on.
use Rattle.std.specs.Prelude.{◌≡◌, ℕ, ℤ, List, [], ◌∷◌, ◌++◌, length, Option, Some, None, Bool, true, false, ◌==◌, if◌then◌else◌, slice_get, slice_set, map}
use Rattle.vale_base.specs.declared.name.Kind.{Kind}

-- a number, a truth or a text; an owner, a reference or an isolate of a name
pub data Value : Type 0 where
  Int : ℤ → Value
  Truth : Bool → Value
  Text : List ℕ → Value
  Own : ℕ → Value
  Ref : ℕ → Value
  Iso : ℕ → Value

-- an open freeze, by its depth, or an isolate, by its root's name
pub data Region : Type 0 where
  Freeze : ℕ → Region
  Isolate : ℕ → Region

pub record Object : Type 0 where
  pub region : Region
  pub kind : Kind
  pub values : List Value

abbrev pub World : Type 0
World = List (Option Object)

-- the name is alive, with this object
abbrev pub Lives : World → ℕ → Object → Type 0
Lives world name object = slice_get world name ≡ Some (Some object)

-- the name was given, and its object has died
abbrev pub IsDead : World → ℕ → Type 0
IsDead world name = slice_get world name ≡ Some None

-- the name that the next object gets
abbrev pub next_name : World → ℕ
next_name world = length world

-- the world with one more object, of the next name
abbrev pub born : World → Object → World
born world object = world ++ Some object ∷ []

-- the world after the death of a name
abbrev pub died : World → ℕ → World
died world name = slice_set world name None

-- the world, where a name has this object now
abbrev pub written : World → ℕ → Object → World
written world name object = slice_set world name (Some object)

abbrev pub region_eq : Region → Region → Bool
region_eq (Freeze a) (Freeze b) = a == b
region_eq (Isolate a) (Isolate b) = a == b
region_eq _ _ = false

abbrev pub moved : Region → Region → Option Object → Option Object
moved from to None = None
moved from to (Some object) = Some (record object { region = if region_eq object.region from then to else object.region })

-- the world, where the objects of the first region are of the second now
abbrev pub relabelled : Region → Region → World → World
relabelled from to world = map (moved from to) world

abbrev pub unless_of : Region → Option Object → Option Object
unless_of region None = None
unless_of region (Some object) = if region_eq object.region region then None else Some object

-- the world, where the objects of the region are dead
abbrev pub cleared : Region → World → World
cleared region world = map (unless_of region) world
