-- A heap beside the table that lends to it, without isolates or with one.
use Rattle.std.specs.Prelude.{◌≡◌, ◌≢◌, ℕ, ◌+◌, ◌≤◌, length, Option, Some, None, Bool, true, false, is_some, ◌&&◌}
use Rattle.vale_page.specs.PageState.{body_at}
use Rattle.vale_table.specs.Plain.{Plain, frames_of, out_of}
use Rattle.vale_heap.specs.declared.body.Place.{Place}
use Rattle.vale_heap.specs.declared.seat.Seat.{Seat}
use Rattle.vale_heap.specs.declared.seat.Home.TheVariants.{Kept}
use Rattle.vale_heap.specs.HeapState.{HeapState, seat_at, home_eq, KnowsFrames}

-- no page is an isolate's
abbrev pub HasNoIsolate : HeapState → Type 0
HasNoIsolate h = (frame : ℕ) (seat : Seat) (root : Place) → seat_at h frame ≡ Some seat → seat.home ≡ Kept root → ⊥

-- what the calls of the heap ask for
pub record IsLent (heap : HeapState) (table : Plain) (freezes depth : ℕ) : Type 0 where
  pub few : frames_of table ≤ length heap.seats
  pub known : KnowsFrames heap (out_of table)
  pub no_isolate : HasNoIsolate heap
  pub regions : heap.regions ≡ freezes + 1
  pub deep : heap.depth ≡ depth

-- the place has an object, in a page of the isolate whose root it is
abbrev pub is_root_in : Option Seat → Place → Bool
is_root_in None root = false
is_root_in (Some seat) root = home_eq seat.home (Kept root) && is_some (body_at seat.page root.slot root.generation)

-- what the calls of the heap ask for, where one place is the root of the only isolate
pub record IsKept (heap : HeapState) (table : Plain) (freezes depth : ℕ) (root : Place) : Type 0 where
  pub few : frames_of table ≤ length heap.seats
  pub known : KnowsFrames heap (out_of table)
  pub only : (frame : ℕ) (seat : Seat) (other : Place) → seat_at heap frame ≡ Some seat → seat.home ≡ Kept other → other ≢ root → ⊥
  pub is_root : is_root_in (seat_at heap root.frame) root ≡ true
  pub regions : heap.regions ≡ freezes + 1
  pub deep : heap.depth ≡ depth
