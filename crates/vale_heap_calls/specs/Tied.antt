-- How a heap, its table and a list of places stand for a heap of names.
use Rattle.std.specs.Prelude.{◌≡◌, ℕ, ◌≤◌, List, length, None, false}
use Rattle.vale_table.specs.Lending.{IsFull}
use Rattle.vale_table.specs.Plain.{Plain, frames_of, out_of, floor_of}
use Rattle.vale_heap.specs.declared.body.Place.{Place}
use Rattle.vale_heap.specs.HeapState.{HeapState, KnowsFrames, HasNoRoom}
use Rattle.vale_heap.specs.Standing.{Stands, LowIsFloor}
use Rattle.vale_heap_calls.specs.declared.call.Call.{Call}
use Rattle.vale_heap_calls.specs.declared.call.Reply.{Reply}
use Rattle.vale_heap_calls.specs.declared.call.Reply.TheVariants.{NoPage}
use Rattle.vale_heap_calls.specs.Calls.{State, Lawful, Answers, AllLawful, AnswerAll}

pub record IsTied (heap : HeapState) (table : Plain) (places : List Place) (s : State) : Type 0 where
  pub low : ℕ → ℕ → ℕ
  pub stands : Stands heap None low (λ _. false) places s.world
  pub regions : heap.regions ≡ s.regions
  pub known : KnowsFrames heap (out_of table)
  pub few : frames_of table ≤ length heap.seats
  pub floors : LowIsFloor low (out_of table) (floor_of table)

-- some heap of names is stood for, of which the call may be made
abbrev pub CanCall : HeapState → Plain → List Place → Call → Type 0
CanCall heap table places call = (s : State) × IsTied heap table places s × Lawful heap.depth s call

abbrev pub CanCallAll : HeapState → Plain → List Place → List Call → Type 0
CanCallAll heap table places calls = (s : State) × IsTied heap table places s × AllLawful heap.depth s calls

-- whatever heap of names was stood for, the reply is that heap's, and what it is then is stood for
abbrev pub Follows : HeapState → HeapState → Plain → Plain → List Place → List Place → Call → Reply → Type 0
Follows heap new_heap table new_table places new_places call reply =
    (s : State) → IsTied heap table places s → Lawful heap.depth s call → (next : State) × Answers s call reply next × IsTied new_heap new_table new_places next

abbrev pub FollowAll : HeapState → HeapState → Plain → Plain → List Place → List Place → List Call → List Reply → Type 0
FollowAll heap new_heap table new_table places new_places calls replies =
    (s : State) → IsTied heap table places s → AllLawful heap.depth s calls → (last : State) × AnswerAll s calls replies last × IsTied new_heap new_table new_places last

-- `NoPage` comes only where no page of the innermost region and no spare page has room, and all frames are out
abbrev pub HasCause : HeapState → Plain → Reply → Type 0
HasCause heap new_table NoPage = HasNoRoom heap × IsFull (frames_of new_table) (out_of new_table)
HasCause heap new_table _ = Unit {0}
