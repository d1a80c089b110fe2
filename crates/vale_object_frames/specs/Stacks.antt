-- The frames of a run, from the innermost on, and what is dropped of a dead object.
use Rattle.std.specs.Prelude.{◌≡◌, List, [], ◌∷◌, reverse, Some, None, Bool, true, false}
use Rattle.vale_base.specs.declared.name.Kind.{Kind}
use Rattle.vale_base.specs.declared.spot.Spot.{Spot}
use Rattle.vale_heap.specs.declared.body.Cell.{Cell}
use Rattle.vale_object_steps.specs.Drops.{first_owned_cell}
use Rattle.vale_object_frames.specs.declared.frame.Frame.{Frame}
use Rattle.vale_object_frames.specs.declared.frame.Frame.TheVariants as frame
use Rattle.vale_object_frames.specs.declared.frame.Leftover.{Leftover}

-- a destruction is the innermost
abbrev pub IsDropping : List Frame → Type 0
IsDropping [] = ⊥
IsDropping (frame.Running a ∷ fs) = ⊥
IsDropping (frame.Dropping l ∷ fs) = Unit {0}

abbrev pub is_dropping : List Frame → Bool
is_dropping [] = false
is_dropping (frame.Running a ∷ fs) = false
is_dropping (frame.Dropping l ∷ fs) = true

-- the cells that are still to be dropped, the next one first
abbrev pub rest_of : Leftover → List Cell
rest_of l = reverse l.rest.items

-- the destruction of an object that held these cells is the innermost
pub record IsLeft (kind : Kind) (at : Spot) (cells : List Cell) (old new : List Frame) : Type 0 where
  pub leftover : Leftover
  pub is : new ≡ frame.Dropping leftover ∷ old
  pub kind_is : leftover.kind ≡ kind
  pub at_is : leftover.at ≡ at
  pub rest_is : rest_of leftover ≡ cells

-- a destruction has this cell to drop next
pub record DropsOne (cell : Cell) (at : Spot) (old new : Frame) : Type 0 where
  pub was : Leftover
  pub now : Leftover
  pub old_is : old ≡ frame.Dropping was
  pub new_is : new ≡ frame.Dropping now
  pub kind_is : now.kind ≡ was.kind
  pub at_was : was.at ≡ at
  pub at_is : now.at ≡ at
  pub next : first_owned_cell (rest_of was) ≡ Some (record { first = cell; rest = rest_of now })

pub record DropsNext (cell : Cell) (at : Spot) (old new : List Frame) : Type 0 where
  pub top : Frame
  pub new_top : Frame
  pub below : List Frame
  pub old_is : old ≡ top ∷ below
  pub new_is : new ≡ new_top ∷ below
  pub drops : DropsOne cell at top new_top

-- nothing is left to be dropped
pub record HasNone (old : Frame) : Type 0 where
  pub was : Leftover
  pub old_is : old ≡ frame.Dropping was
  pub none : first_owned_cell (rest_of was) ≡ None

-- the destruction is over, and the frames under it are left
pub record HasDropped (old new : List Frame) : Type 0 where
  pub top : Frame
  pub is : old ≡ top ∷ new
  pub none : HasNone top
