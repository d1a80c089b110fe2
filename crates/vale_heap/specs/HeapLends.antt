-- What a heap ends as, where a `&mut` to one of its bodies is returned.
use Rattle.std.specs.Prelude.{ℕ, Option}
use Rattle.std.specs.Option.{option_map}
use Rattle.std.specs.Borrow.{Lends, LendsIf, Fml, MutBor}
use Rattle.vale_page.specs.PageState.{with_body}
use Rattle.vale_heap.specs.declared.body.Place.{Place}
use Rattle.vale_heap.specs.declared.body.Body.{Body}
use Rattle.vale_heap.specs.declared.seat.Seat.{Seat}
use Rattle.vale_heap.specs.HeapState.{HeapState, seat_at, with_seat}
use Rattle.vale_heap.specs.contracts.body.Body as body
use Rattle.vale_heap.specs.contracts.seat.Seat as seat
use Rattle.vale_heap.specs.contracts.heap.Heap as heap

abbrev pub with_written : Seat → ℕ → Body → Seat
with_written s slot w = record s { page = with_body s.page slot w }

-- the heap with another body at the place
abbrev pub changed : HeapState → Place → Body → HeapState
changed h at w = with_seat h at.frame (option_map (λ s. with_written s at.slot w) (seat_at h at.frame))

abbrev pub lends_seat_body : MutBor Seat → ℕ → MutBor Body → Fml
lends_seat_body s slot r = Lends seat.the_row body.the_row s r (with_written s.now slot)

-- once the borrow ends the place has the last body written
abbrev pub lends_body : MutBor HeapState → Place → MutBor Body → Fml
lends_body h at r = Lends heap.the_row body.the_row h r (changed h.now at)

-- and at `None` the heap stays as it is
abbrev pub lends_if : MutBor HeapState → Place → Option (MutBor Body) → Fml
lends_if h at r = LendsIf heap.the_row body.the_row h r (changed h.now at) h.now
