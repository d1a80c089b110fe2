-- How a heap of slots and generations stands for a heap of names: a list gives each name its place.
use Rattle.std.specs.Prelude.{◌≡◌, ◌⊎◌, ℕ, ◌+◌, ◌-◌, ◌<◌, List, [], ◌∷◌, ◌++◌, length, Option, Some, None, IsSome, Bool, true, false, slice_get}
use Rattle.std.specs.Option.{option_or, option_map}
use Rattle.vale_page.specs.PageState.{IsPage, body_at, body_of, generation_at, level_at}
use Rattle.vale_state_spec.specs.World.{Value, Region, Freeze, Isolate, Object, World, Lives, IsDead, born, died, written, relabelled, cleared}
use Rattle.vale_state_spec.specs.World.{Int as number, Truth as truth, Text as text, Own as owner, Ref as reference, Iso as isolate}
use Rattle.vale_heap.specs.declared.body.Place.{Place}
use Rattle.vale_heap.specs.declared.body.Cell.{Cell}
use Rattle.vale_heap.specs.declared.body.Cell.TheVariants.{Int, Truth, Text, Own, Ref, Iso}
use Rattle.vale_heap.specs.declared.body.Body.{Body}
use Rattle.vale_heap.specs.declared.seat.Seat.{Seat}
use Rattle.vale_heap.specs.declared.seat.Home.{Home}
use Rattle.vale_heap.specs.declared.seat.Home.TheVariants.{Spare, Open, Kept}
use Rattle.vale_heap.specs.HeapState.{HeapState, seat_at, body_in, look_in, IsHeap, innermost}
use Rattle.vale_heap.specs.HeapLends.{changed}

-- the name has this place
abbrev pub HasPlace : List Place → ℕ → Place → Type 0
HasPlace names name place = slice_get names name ≡ Some place

-- what a cell means, where names have these places
abbrev pub Denotes : List Place → Cell → Value → Type 0
Denotes names (Int i) (number j) = i ≡ j
Denotes names (Truth b) (truth c) = b ≡ c
Denotes names (Text s) (text t) = s ≡ t
Denotes names (Own place) (owner name) = HasPlace names name place
Denotes names (Ref place) (reference name) = HasPlace names name place
Denotes names (Iso place) (isolate name) = HasPlace names name place
Denotes names _ _ = ⊥

abbrev pub DenoteAll : List Place → List Cell → List Value → Type 0
DenoteAll names [] [] = Unit {0}
DenoteAll names (cell ∷ cells) (value ∷ values) = Denotes names cell value × DenoteAll names cells values
DenoteAll names [] (value ∷ values) = ⊥
DenoteAll names (cell ∷ cells) [] = ⊥

-- a page that is for this has objects of the region
abbrev pub IsRegion : List Place → Home → Region → Type 0
IsRegion names (Open depth) (Freeze at) = depth ≡ at
IsRegion names (Kept root) (Isolate name) = HasPlace names name root
IsRegion names _ _ = ⊥

-- the object has its body at this place
pub record Holds (seats : ℕ → Option Seat) (names : List Place) (place : Place) (object : Object) : Type 0 where
  pub seat : Seat
  pub there : seats place.frame ≡ Some seat
  pub body : Body
  pub at : body_at seat.page place.slot place.generation ≡ Some body
  pub kind : body.kind ≡ object.kind
  pub cells : DenoteAll names body.cells object.values
  pub region : IsRegion names seat.home object.region

-- the body in this slot is a live name's
pub record IsNamed (seat : Seat) (frame slot : ℕ) (names : List Place) (world : World) : Type 0 where
  pub name : ℕ
  pub object : Object
  pub place : HasPlace names name (record { frame = frame; slot = slot; generation = generation_at seat.page slot })
  pub lives : Lives world name object

-- The pages stand for this world, where names have these places. `low` is for the frames that have no page here. The names of
-- `away` were alive when their pages left.
pub record StandsAt (seats : ℕ → Option Seat) (low : ℕ → ℕ → ℕ) (away : ℕ → Bool) (names : List Place) (world : World) : Type 0 where
  pub as_many : length world ≡ length names
  pub pages : (frame : ℕ) (seat : Seat) → seats frame ≡ Some seat → IsPage seat.page
  pub in_page : (name : ℕ) (place : Place) → HasPlace names name place → place.slot < 64
  pub apart : (name other : ℕ) (place : Place) → HasPlace names name place → HasPlace names other place → name ≡ other
  pub live : (name : ℕ) (place : Place) (object : Object) → HasPlace names name place → Lives world name object → Holds seats names place object
  pub dead_here : (name : ℕ) (place : Place) (seat : Seat) → HasPlace names name place → IsDead world name → seats place.frame ≡ Some seat → place.generation < level_at seat.page place.slot
  pub dead_gone : (name : ℕ) (place : Place) → HasPlace names name place → IsDead world name → seats place.frame ≡ None →
      (place.generation < low place.frame place.slot) ⊎ ((away name ≡ true) × (place.generation ≡ low place.frame place.slot))
  pub named : (frame slot : ℕ) (seat : Seat) (body : Body) → slot < 64 → seats frame ≡ Some seat → body_of seat.page slot ≡ Some body → IsNamed seat frame slot names world

-- how many regions are open in the heap below, if there is one: the depth of the heap's own first region
abbrev pub around : Option HeapState → ℕ
around None = 0
around (Some below) = below.regions

-- what a page is for, with the depth counted from the outermost region of the heap below on
abbrev pub home_within : ℕ → Home → Home
home_within base Spare = Spare
home_within base (Open depth) = Open (base + depth)
home_within base (Kept root) = Kept root

abbrev pub seat_within : ℕ → Seat → Seat
seat_within base seat = record seat { home = home_within base seat.home }

-- the pages of the heap below, if there is one
abbrev pub seats_of : Option HeapState → ℕ → Option Seat
seats_of None frame = None
seats_of (Some below) frame = seat_at below frame

-- the page of a frame, in the heap or below it
abbrev pub seat_in : HeapState → Option HeapState → ℕ → Option Seat
seat_in heap below frame = option_or (option_map (seat_within (around below)) (seat_at heap frame)) (seats_of below frame)

-- the heap, over what may be read below it, stands for this world
pub record Stands (heap : HeapState) (below : Option HeapState) (low : ℕ → ℕ → ℕ) (away : ℕ → Bool) (names : List Place) (world : World) : Type 0 where
  pub heap_ok : IsHeap heap
  pub below_ok : (other : HeapState) → below ≡ Some other → IsHeap other
  pub distinct : (frame : ℕ) (seat other : Seat) → seat_at heap frame ≡ Some seat → seats_of below frame ≡ Some other → ⊥
  pub at : StandsAt (seat_in heap below) low away names world

-- what a look at the name's place gives: its body while it lives, and nothing once it is dead
abbrev pub LookMeans : List Place → World → ℕ → Option Body → Type 0
LookMeans names world name None = IsDead world name
LookMeans names world name (Some body) = (object : Object) × Lives world name object × (body.kind ≡ object.kind) × DenoteAll names body.cells object.values

-- what the heap's own page has at the name's place: its body where it lives in this heap, and nothing where it doesn't
abbrev pub HereMeans : HeapState → List Place → World → ℕ → Place → Option Body → Type 0
HereMeans heap names world name at None = (object : Object) → Lives world name object → seat_at heap at.frame ≡ None
HereMeans heap names world name at (Some body) = LookMeans names world name (Some body)

-- the lender knows the frames below the heap to be out
abbrev pub KnowsBelow : Option HeapState → (ℕ → Bool) → Type 0
KnowsBelow below out = (frame : ℕ) (seat : Seat) → seats_of below frame ≡ Some seat → out frame ≡ true

-- the lender knows the frames of the names that went away to be out
abbrev pub KnowsAway : (ℕ → Bool) → List Place → (ℕ → Bool) → Type 0
KnowsAway away names out = (name : ℕ) (place : Place) → away name ≡ true → HasPlace names name place → out place.frame ≡ true

-- a frame that may be claimed has the lender's floor in `low`
abbrev pub LowIsFloor : (ℕ → ℕ → ℕ) → (ℕ → Bool) → (ℕ → ℕ) → Type 0
LowIsFloor low out floors = (frame slot : ℕ) → out frame ≡ false → low frame slot ≡ floors frame

-- the innermost region of the heap, as a world has it
abbrev pub inner_freeze : HeapState → Option HeapState → Region
inner_freeze heap below = Freeze (around below + innermost heap)

-- the region around the innermost one
abbrev pub outer_freeze : HeapState → Option HeapState → Region
outer_freeze heap below = Freeze (around below + (innermost heap - 1))

-- whatever world the heap stood for, it now stands for that world with one more object
abbrev pub StandsMade : HeapState → HeapState → (ℕ → Bool) → (ℕ → ℕ) → Body → Place → Type 0
StandsMade old new out floors body place =
    (below : Option HeapState) (low : ℕ → ℕ → ℕ) (away : ℕ → Bool) (names : List Place) (world : World) (values : List Value) →
    Stands old below low away names world → DenoteAll names body.cells values → KnowsBelow below out → KnowsAway away names out → LowIsFloor low out floors →
    Stands new below low away (names ++ place ∷ []) (born world (record { region = inner_freeze old below; kind = body.kind; values = values }))

-- what the heap has at a place, or the heap below it
abbrev pub look_over : HeapState → Option HeapState → Place → Option Body
look_over heap below at = body_in (option_or (seat_at heap at.frame) (seats_of below at.frame)) at.slot at.generation

-- the look gives the live object's body, and nothing exactly where the name is dead
abbrev pub StandsLooked : HeapState → Option HeapState → Place → Option Body → Type 0
StandsLooked heap below at found =
    (low : ℕ → ℕ → ℕ) (away : ℕ → Bool) (names : List Place) (world : World) (name : ℕ) →
    Stands heap below low away names world → HasPlace names name at → LookMeans names world name found

-- the call found the object's body, and nothing exactly where the name isn't live in this heap
abbrev pub StandsFound : HeapState → Place → Option Body → Type 0
StandsFound heap at found =
    (below : Option HeapState) (low : ℕ → ℕ → ℕ) (away : ℕ → Bool) (names : List Place) (world : World) (name : ℕ) →
    Stands heap below low away names world → HasPlace names name at → HereMeans heap names world name at found

-- whatever world the heap stood for, it now stands for that world without the object of the place's name
abbrev pub StandsEnded : HeapState → HeapState → Place → Type 0
StandsEnded old new place =
    (below : Option HeapState) (low : ℕ → ℕ → ℕ) (away : ℕ → Bool) (names : List Place) (world : World) (name : ℕ) →
    Stands old below low away names world → HasPlace names name place → Stands new below low away names (died world name)

-- Whatever world the heap stood for, with this body at the place it stands for that world where the place's name has the body's
-- kind and values.
abbrev pub StandsChanged : HeapState → Place → Body → Type 0
StandsChanged old place body =
    (below : Option HeapState) (low : ℕ → ℕ → ℕ) (away : ℕ → Bool) (names : List Place) (world : World) (name : ℕ) (object : Object) (values : List Value) →
    IsSome (look_in old place) → Stands old below low away names world → HasPlace names name place → Lives world name object → DenoteAll names body.cells values →
    Stands (changed old place body) below low away names (written world name (record { region = object.region; kind = body.kind; values = values }))

abbrev pub StandsSame : HeapState → HeapState → Type 0
StandsSame old new =
    (below : Option HeapState) (low : ℕ → ℕ → ℕ) (away : ℕ → Bool) (names : List Place) (world : World) →
    Stands old below low away names world → Stands new below low away names world

-- whatever world the heap stood for, it now stands for that world with the innermost region's objects in the region around it
abbrev pub StandsMerged : HeapState → HeapState → Type 0
StandsMerged old new =
    (below : Option HeapState) (low : ℕ → ℕ → ℕ) (away : ℕ → Bool) (names : List Place) (world : World) →
    Stands old below low away names world → Stands new below low away names (relabelled (inner_freeze old below) (outer_freeze old below) world)

-- the same with the innermost region's objects in an isolate
abbrev pub StandsKept : HeapState → HeapState → Place → Type 0
StandsKept old new root =
    (below : Option HeapState) (low : ℕ → ℕ → ℕ) (away : ℕ → Bool) (names : List Place) (world : World) (name : ℕ) →
    Stands old below low away names world → HasPlace names name root → Stands new below low away names (relabelled (inner_freeze old below) (Isolate name) world)

-- the same with the innermost region's objects dead
abbrev pub StandsCleared : HeapState → HeapState → Type 0
StandsCleared old new =
    (below : Option HeapState) (low : ℕ → ℕ → ℕ) (away : ℕ → Bool) (names : List Place) (world : World) →
    Stands old below low away names world → Stands new below low away names (cleared (inner_freeze old below) world)

-- the same with the isolate's objects in the innermost region
abbrev pub StandsIsoMerged : HeapState → HeapState → Place → Type 0
StandsIsoMerged old new iso =
    (below : Option HeapState) (low : ℕ → ℕ → ℕ) (away : ℕ → Bool) (names : List Place) (world : World) (name : ℕ) →
    Stands old below low away names world → HasPlace names name iso → Stands new below low away names (relabelled (Isolate name) (inner_freeze old below) world)
