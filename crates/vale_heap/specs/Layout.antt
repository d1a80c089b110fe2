-- How a heap keeps its pages on lists: the spare pages that can take an object, the other pages of each isolate beside its root's,
-- and for each open region the pages that can take an object and those that can't.
use Rattle.std.specs.Prelude.{◌≡◌, ℕ, ◌+◌, ◌*◌, ◌<◌, ◌^◌, max, length, Option, Some, None, Bool, false, slice_index_or, nat_lt, ◌==◌, if◌then◌else◌}
use Rattle.vale_page.specs.PageState.{free_count}
use Rattle.vale_heap.specs.declared.seat.Seat.{Seat}
use Rattle.vale_heap.specs.declared.seat.Home.{Home}
use Rattle.vale_heap.specs.declared.seat.Home.TheVariants.{Spare, Open, Kept}
use Rattle.vale_heap.specs.HeapState.{HeapState, IsHeap}
use Rattle.vale_heap.specs.ListState.{ListState, list_at}

-- the list of the pages of an open region that can take an object
abbrev pub roomy_list : ℕ → ℕ → ℕ
roomy_list frames region = frames + 1 + 2 * region

-- the list of its pages that can't
abbrev pub full_list : ℕ → ℕ → ℕ
full_list frames region = roomy_list frames region + 1

-- the list of the spare pages that can take an object
abbrev pub spare_list : ℕ → ℕ
spare_list frames = frames

-- The list of an isolate is the number of its root's frame; the root's own page is on none.
abbrev pub list_of : (frames frame : ℕ) → Home → Bool → Option ℕ
list_of frames frame Spare room = if room then Some (spare_list frames) else None
list_of frames frame (Open region) room = if room then Some (roomy_list frames region) else Some (full_list frames region)
list_of frames frame (Kept root) room = if root.frame == frame then None else Some root.frame

-- the list of this frame's page
abbrev pub list_for : (frames frame : ℕ) → Option Seat → Option ℕ
list_for frames frame None = None
list_for frames frame (Some seat) = list_of frames frame seat.home (nat_lt 0 (free_count seat.page))

-- the page is on the list that it was on, unless it moves
abbrev pub StaysListed : Option Seat → Option Seat → Bool → Type 0
StaysListed old new moves = moves ≡ false → (frames frame : ℕ) → list_for frames frame new ≡ list_for frames frame old

-- each page is on its list, and there are two lists for each open region
pub record IsLaidOut (h : HeapState) (l : ListState) : Type 0 where
  pub heap : IsHeap h
  pub items : length l.on ≡ length h.seats
  pub listed : (frame : ℕ) → frame < length h.seats → list_at l frame ≡ list_for (length h.seats) frame (slice_index_or h.seats frame None)
  pub many : l.lists ≡ length h.seats + 1 + 2 * h.regions
  pub most : l.most ≡ length h.seats + 1 + 2 * max h.depth 1
  pub few : length h.seats < 2 ^ 32
