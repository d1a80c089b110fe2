-- What a contract sees of a heap: for each frame the page that the heap has there, and what that page is for; how many regions
-- are open, and how many may be.
use Rattle.std.specs.Prelude.{◌≡◌, ◌⊎◌, ℕ, ◌+◌, ◌-◌, ◌<◌, ◌≤◌, List, length, Option, Some, None, Bool, slice_index_or, slice_set, replicate, map, count_by, sum_by, is_some, true, false, ◌==◌, ◌&&◌, nat_lt, max, if◌then◌else◌}
use Rattle.std.specs.Option.{option_map}
use Rattle.vale_page.specs.PageState.{PageState, IsPage, body_at, body_of, generation_at, level_at, live_count, retired_count, free_count, IsFree, with_body, after_death}
use Rattle.vale_table.specs.Lending.{IsFull, Same, IsClaimedAt}
use Rattle.vale_heap.specs.declared.body.Place.{Place}
use Rattle.vale_heap.specs.declared.body.Body.{Body}
use Rattle.vale_heap.specs.declared.seat.Seat.{Seat}
use Rattle.vale_heap.specs.declared.seat.Home.{Home}
use Rattle.vale_heap.specs.declared.seat.Home.TheVariants.{Spare, Open, Kept}

pub record HeapState : Type 0 where
  pub seats : List (Option Seat)
  pub regions : ℕ
  pub depth : ℕ

-- the heap's page of this frame
abbrev pub seat_at : HeapState → ℕ → Option Seat
seat_at h frame = slice_index_or h.seats frame None

abbrev pub body_in : Option Seat → ℕ → ℕ → Option Body
body_in None slot generation = None
body_in (Some seat) slot generation = body_at seat.page slot generation

-- what the heap has at a place
abbrev pub look_in : HeapState → Place → Option Body
look_in h at = body_in (seat_at h at.frame) at.slot at.generation

-- the innermost open region
abbrev pub innermost : HeapState → ℕ
innermost h = h.regions - 1

-- the place has an object, in a page that is for this
pub record LivesIn (h : HeapState) (home : Home) (place : Place) : Type 0 where
  pub seat : Seat
  pub there : seat_at h place.frame ≡ Some seat
  pub home_is : seat.home ≡ home
  pub body : Body
  pub at : body_at seat.page place.slot place.generation ≡ Some body

-- the place is the root of an isolate of this heap
abbrev pub IsRoot : HeapState → Place → Type 0
IsRoot h place = LivesIn h (Kept place) place

-- a page has a live object exactly where it isn't spare, and an open region's page is of a region that is open
abbrev pub FitsHome : ℕ → ℕ → Home → Type 0
FitsHome regions live Spare = live ≡ 0
FitsHome regions live (Open depth) = (depth < regions) × (0 < live)
FitsHome regions live (Kept root) = 0 < live

pub record IsSeat (regions frame : ℕ) (seat : Seat) : Type 0 where
  pub of : seat.page.frame ≡ frame
  pub page : IsPage seat.page
  pub fits : FitsHome regions (live_count seat.page) seat.home

-- each page is what it is for, and the root of each isolate is live in its pages
pub record IsHeap (h : HeapState) : Type 0 where
  pub seats_ok : (frame : ℕ) (seat : Seat) → seat_at h frame ≡ Some seat → IsSeat h.regions frame seat
  pub roots : (frame : ℕ) (seat : Seat) (root : Place) → seat_at h frame ≡ Some seat → seat.home ≡ Kept root → IsRoot h root
  pub some_open : 0 < h.regions
  pub within_depth : h.regions ≤ max h.depth 1

-- a heap with one open region and no page
abbrev pub opened : ℕ → ℕ → HeapState
opened frames depth = record { seats = replicate frames None; regions = 1; depth = depth }

-- a page that is for this can take an object of the region: it is the region's, or spare
abbrev pub serves : ℕ → Home → Bool
serves region Spare = true
serves region (Open depth) = depth == region
serves region (Kept root) = false

-- the page has a free slot for an object of the region
abbrev pub has_room : ℕ → Option Seat → Bool
has_room region None = false
has_room region (Some seat) = serves region seat.home && nat_lt 0 (free_count seat.page)

-- no page of the innermost region, and no spare page, has a free slot
abbrev pub HasNoRoom : HeapState → Type 0
HasNoRoom h = (frame : ℕ) → has_room (innermost h) (seat_at h frame) ≡ false

-- the body was put into a free slot of this page, which is the region's now
pub record PutsIn (old new : Option Seat) (region : ℕ) (body : Body) (place : Place) : Type 0 where
  pub seat : Seat
  pub was : old ≡ Some seat
  pub serving : serves region seat.home ≡ true
  pub of : place.frame ≡ seat.page.frame
  pub free : IsFree seat.page place.slot
  pub generation : place.generation ≡ generation_at seat.page place.slot
  pub now : new ≡ Some (record { page = with_body seat.page place.slot body; home = Open region })

abbrev pub with_home : Home → Seat → Seat
with_home to seat = record seat { home = to }

-- only this frame's page is another
abbrev pub with_seat : HeapState → ℕ → Option Seat → HeapState
with_seat h frame seat = record h { seats = slice_set h.seats frame seat }

-- the heap with one more page, a spare one
abbrev pub with_spare : HeapState → ℕ → PageState Body → HeapState
with_spare h frame page = with_seat h frame (Some (record { page = page; home = Spare }))

-- the body was put into a free slot of a page of the innermost region, or of a spare page, which joined that region
pub record IsPut (old new : HeapState) (body : Body) (place : Place) : Type 0 where
  pub seat : Option Seat
  pub puts : PutsIn (seat_at old place.frame) seat (innermost old) body place
  pub now : new ≡ with_seat old place.frame seat

-- what a page is for after a death
abbrev pub home_after : PageState Body → Home → Home
home_after page home = if live_count page == 0 then Spare else home

-- the body at the place came out of this page
pub record EndsIn (old new : Option Seat) (body : Body) (place : Place) : Type 0 where
  pub seat : Seat
  pub was : old ≡ Some seat
  pub at : body_at seat.page place.slot place.generation ≡ Some body
  pub now : new ≡ Some (record { page = after_death seat.page place.slot; home = home_after (after_death seat.page place.slot) seat.home })

-- the body at the place came out. A page without objects is spare
pub record IsEnded (old new : HeapState) (body : Body) (place : Place) : Type 0 where
  pub seat : Option Seat
  pub ends : EndsIn (seat_at old place.frame) seat body place
  pub now : new ≡ with_seat old place.frame seat

-- the lender knows the heap's frames to be out
abbrev pub KnowsFrames : HeapState → (ℕ → Bool) → Type 0
KnowsFrames h out = (frame : ℕ) (seat : Seat) → seat_at h frame ≡ Some seat → out frame ≡ true

-- the lender's meaning as a call found it and left it
pub record Lent : Type 0 where
  pub frames : ℕ
  pub hand : ℕ → Option ℕ
  pub new_hand : ℕ → Option ℕ
  pub out : ℕ → Bool
  pub new_out : ℕ → Bool
  pub floors : ℕ → ℕ

-- no slot of the heap could take the body, so a page was claimed
pub record IsMadeByClaim (old new : HeapState) (lent : Lent) (body : Body) (place : Place) : Type 0 where
  pub no_room : HasNoRoom old
  pub page : PageState Body
  pub base : ℕ
  pub claimed : IsClaimedAt lent.frames lent.hand lent.new_hand lent.out lent.new_out lent.floors page place.frame base
  pub put : IsPut (with_spare old place.frame page) new body place

-- a slot of the heap took the body, and nothing was claimed
pub record IsMadeInHeap (old new : HeapState) (lent : Lent) (body : Body) (place : Place) : Type 0 where
  pub same_hand : Same lent.hand lent.new_hand
  pub same_out : Same lent.out lent.new_out
  pub put : IsPut old new body place

abbrev pub IsMade : HeapState → HeapState → Lent → Body → Place → Type 0
IsMade old new lent body place = IsMadeInHeap old new lent body place ⊎ IsMadeByClaim old new lent body place

-- no slot could take the body, and all frames are out; nothing has changed
pub record IsRefused (old new : HeapState) (lent : Lent) : Type 0 where
  pub no_room : HasNoRoom old
  pub full : IsFull lent.frames lent.new_out
  pub same_hand : Same lent.hand lent.new_hand
  pub unchanged : new ≡ old

-- the page is for this
abbrev pub IsFor : Home → Option Seat → Type 0
IsFor home o = (seat : Seat) × (o ≡ Some seat) × (seat.home ≡ home)

-- no page is for this
abbrev pub NoneFor : Home → HeapState → Type 0
NoneFor home h = (frame : ℕ) → IsFor home (seat_at h frame) → ⊥

-- the heap, where this frame's page is for this
abbrev pub with_moved : HeapState → ℕ → Home → HeapState
with_moved h frame to = with_seat h frame (option_map (with_home to) (seat_at h frame))

-- the page is there, and the heap is one where it is for this
pub record IsMovable (h : HeapState) (frame : ℕ) (to : Home) : Type 0 where
  pub seat : Seat
  pub there : seat_at h frame ≡ Some seat
  pub heap : IsHeap (with_moved h frame to)

-- what the innermost region's pages may be for when it closes: a region around it, or an isolate that is there
abbrev pub IsExit : HeapState → Home → Type 0
IsExit h Spare = ⊥
IsExit h (Open depth) = depth < innermost h
IsExit h (Kept root) = IsRoot h root

abbrev pub home_eq : Home → Home → Bool
home_eq Spare Spare = true
home_eq (Open a) (Open b) = a == b
home_eq (Kept p) (Kept q) = (p.frame == q.frame) && (p.slot == q.slot) && (p.generation == q.generation)
home_eq _ _ = false

-- the page, which is for the second now if it was for the first
abbrev pub rehomed : Home → Home → Option Seat → Option Seat
rehomed from to None = None
rehomed from to (Some seat) = Some (record seat { home = if home_eq seat.home from then to else seat.home })

-- the heap, where the pages that were for the first are for the second
abbrev pub with_rehomed : HeapState → Home → Home → HeapState
with_rehomed h from to = record h { seats = map (rehomed from to) h.seats }

-- one more region is open
abbrev pub with_region : HeapState → HeapState
with_region h = record h { regions = h.regions + 1 }

-- the innermost region is closed, and its pages are for this now
abbrev pub without_region : HeapState → Home → HeapState
without_region h to = record h { seats = map (rehomed (Open (innermost h)) to) h.seats; regions = innermost h }

-- the pages of an isolate joined the innermost region
abbrev pub with_merged : HeapState → Place → HeapState
with_merged h iso = with_rehomed h (Kept iso) (Open (innermost h))

abbrev pub death_count : Option Body → ℕ
death_count None = 0
death_count (Some body) = 1

-- every object of the page died in its slot
pub record IsEmptied (old new : PageState Body) : Type 0 where
  pub frame : new.frame ≡ old.frame
  pub page : IsPage new
  pub empty : (slot : ℕ) → body_of new slot ≡ None
  pub levels : (slot : ℕ) → slot < 64 → level_at new slot ≡ level_at old slot + death_count (body_of old slot)
  pub rising : (slot : ℕ) → slot < 64 → generation_at old slot ≤ generation_at new slot

abbrev pub ClearsSeat : Option Seat → Option Seat → Type 0
ClearsSeat None new = new ≡ None
ClearsSeat (Some seat) new = (page : PageState Body) × (new ≡ Some (record { page = page; home = Spare })) × IsEmptied seat.page page

-- this page lost its objects and is spare, and no other page is another
pub record ClearsPage (old new : HeapState) (frame : ℕ) : Type 0 where
  pub seat : Seat
  pub there : seat_at old frame ≡ Some seat
  pub page : PageState Body
  pub emptied : IsEmptied seat.page page
  pub now : new ≡ with_spare old frame page

-- the page of the region that is closed lost its objects and is spare; any other page is as before
abbrev pub IsClearedSeat : Home → Option Seat → Option Seat → Type 0
IsClearedSeat of None new = new ≡ None
IsClearedSeat of (Some seat) new =
    ((home_eq seat.home of ≡ false) × (new ≡ Some seat))
    ⊎ ((home_eq seat.home of ≡ true) × (page : PageState Body) × (new ≡ Some (record { page = page; home = Spare })) × IsEmptied seat.page page)

-- the innermost region is closed, and its objects died
pub record IsCleared (old new : HeapState) : Type 0 where
  pub as_long : length new.seats ≡ length old.seats
  pub each : (frame : ℕ) → IsClearedSeat (Open (innermost old)) (seat_at old frame) (seat_at new frame)
  pub regions : new.regions ≡ innermost old
  pub depth : new.depth ≡ old.depth

-- the live objects of a page
abbrev pub live_of : Option Seat → ℕ
live_of None = 0
live_of (Some seat) = live_count seat.page

-- every slot of the page is retired
abbrev pub is_spent : Option Seat → Bool
is_spent None = false
is_spent (Some seat) = retired_count seat.page == 64

abbrev pub frames_held : HeapState → ℕ
frames_held h = count_by is_some h.seats

abbrev pub live_objects : HeapState → ℕ
live_objects h = sum_by live_of h.seats

abbrev pub spent_pages : HeapState → ℕ
spent_pages h = count_by is_spent h.seats

-- no more frames are held than there are live objects and spent pages
abbrev pub IsFrugal : HeapState → Type 0
IsFrugal h = frames_held h ≤ live_objects h + spent_pages h

-- where a page was claimed for this place, the heap with its new page is frugal
abbrev pub ClaimsFrugally : HeapState → HeapState → Place → Type 0
ClaimsFrugally old new place = seat_at old place.frame ≡ None → IsFrugal new

-- the lender holds the frame, and no generation of its page is below the base at which the frame was claimed
abbrev pub IsOfHand : (ℕ → Option ℕ) → ℕ → Seat → Type 0
IsOfHand hand frame seat = (base : ℕ) × (hand frame ≡ Some base) × ((slot : ℕ) → slot < 64 → base ≤ generation_at seat.page slot)

-- each page of the heap is of the lender's hand
abbrev pub OfHand : HeapState → (ℕ → Option ℕ) → Type 0
OfHand h hand = (frame : ℕ) (seat : Seat) → seat_at h frame ≡ Some seat → IsOfHand hand frame seat

-- a frame with a page has one afterwards, and no page came: so what a lender knows and holds is as much as before
pub record KeepsFrames (old new : HeapState) : Type 0 where
  pub as_long : length new.seats ≡ length old.seats
  pub known : (out : ℕ → Bool) → KnowsFrames old out → KnowsFrames new out
  pub of_hand : (hand : ℕ → Option ℕ) → OfHand old hand → OfHand new hand
