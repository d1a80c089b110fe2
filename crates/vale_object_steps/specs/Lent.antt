-- What a birth keeps of a lender and its heap.
use Rattle.std.specs.Prelude.{◌≡◌, ℕ, List, Option, Bool, length}
use Rattle.vale_code.specs.Registers.{Registers}
use Rattle.vale_state_spec.specs.State.{State}
use Rattle.vale_table.specs.Lending.{Same, StillOut}
use Rattle.vale_heap.specs.HeapState.{HeapState, KnowsFrames}
use Rattle.vale_heap.specs.Standing.{LowIsFloor}
use Rattle.vale_heap.specs.declared.body.Cell.{Cell}
use Rattle.vale_object_cells.specs.Names.{values_in}
use Rattle.vale_object_steps.specs.Doing.{Doing}
use Rattle.vale_object_steps.specs.Views.{Agrees, Gave, IsRight, View}

-- the lender knows the heap's frames, as many as before
pub record StillLent (heap new : HeapState) (frames new_frames : ℕ) (out new_out : ℕ → Bool) (floors new_floors : ℕ → ℕ) : Type 0 where
  pub known : KnowsFrames new new_out
  pub still_out : StillOut out new_out
  pub same_floors : Same floors new_floors
  pub same_frames : new_frames ≡ frames
  pub as_long : length new.seats ≡ length heap.seats

-- the same as `Follows` of a step that is done, where `low` has the lender's floors
abbrev pub FollowsLent : (ℕ → Bool) → (ℕ → ℕ) → (Registers → State → Doing) → HeapState → List (Option Cell) → HeapState → List (Option Cell) → Type 0
FollowsLent out floors step heap cells new_heap new_cells =
    (v : View) → LowIsFloor v.low out floors → Agrees v heap cells → IsRight (step (values_in v.names cells) v.state).answer → Gave v (step (values_in v.names cells) v.state) new_heap new_cells
