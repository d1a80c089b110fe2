-- What a seat's view means to a lender, and what opening, splitting and joining do to it.
use Rattle.std.specs.Prelude.{◌≡◌, ◌≢◌, ℕ, ◌+◌, ◌-◌, ◌<◌, ◌⊎◌, List, [], ◌∷◌, length, Bool, true, false, ◌||◌, max, Option, Some, None}
use Rattle.atomic_table.specs.Seated.{TableId}
use Rattle.vale_page.specs.PageState.{PageState}
use Rattle.vale_table.specs.declared.view.View.{View}
use Rattle.vale_table.specs.declared.view.Mark.{Mark}
use Rattle.vale_table.specs.declared.view.Role.{Role}
use Rattle.vale_table.specs.declared.view.Role.TheVariants.{Root, Worker, Spent}
use Rattle.vale_table.specs.Marks.{mark}
use Rattle.vale_table.specs.Steps.{IsSane}
use Rattle.vale_table.specs.Lending.{Post, IsAlone, IsSoundHand, Same, StillOut, IsClaimed, IsGiven}

-- a lender's whole meaning
pub record Lending : Type 0 where
  pub frames : ℕ
  pub hand : ℕ → Option ℕ
  pub out : ℕ → Bool
  pub floors : ℕ → ℕ
  pub post : Post

abbrev pub is_root_role : Role → Bool
is_root_role Root = true
is_root_role Worker = false
is_root_role Spent = false

abbrev pub first_base : List ℕ → Option ℕ
first_base [] = None
first_base (b ∷ bs) = Some b

-- what the view of a seat at this table means
abbrev pub lending : TableId → View → Lending
lending table v = record {
  frames = table.slots;
  hand = λ f. first_base (mark v f).bases;
  out = λ f. (mark v f).is_out;
  floors = λ f. (mark v f).floor;
  post = record { place = Some table; is_root = is_root_role v.role; workers = v.workers };
}

-- What holds of the view of a seat at a table of n frames between two calls: it has no slot in its hand, and each frame that it holds is one of
-- the table's, and known to be out.
pub record IsResting (n : ℕ) (v : View) : Type 0 where
  pub alive : v.role ≢ Spent
  pub empty : (f : ℕ) → (mark v f).carried ≡ false
  pub out : (f : ℕ) → 0 < length (mark v f).bases → (mark v f).is_out ≡ true
  pub within : (f : ℕ) → 0 < length (mark v f).bases → f < n
  pub sane : (f : ℕ) → f < n → IsSane (mark v f)
  pub sound : IsSoundHand n (λ f. first_base (mark v f).bases) (λ f. (mark v f).is_out) (λ f. (mark v f).floor)

-- the view w is v, but for what it knows of the frame f
pub record IsMarked (v : View) (f : ℕ) (m : Mark) (w : View) : Type 0 where
  pub role : w.role ≡ v.role
  pub workers : w.workers ≡ v.workers
  pub here : mark w f ≡ m
  pub other : (g : ℕ) → g ≢ f → mark w g ≡ mark v g

-- the frame is held since it was claimed at b, and its slot isn't in the hand
abbrev pub held_at : ℕ → Mark → Mark
held_at b m = record { floor = m.floor; bases = b ∷ []; is_out = true; seen = m.seen; carried = false }

-- more frames may be known to be out, and nothing else has changed
pub record IsLearned (old new : Lending) : Type 0 where
  pub frames : new.frames ≡ old.frames
  pub post : new.post ≡ old.post
  pub floors : Same old.floors new.floors
  pub known : StillOut old.out new.out
  pub same_hand : Same old.hand new.hand

-- a page was lent
pub record IsLent {B : Type 0} (old new : Lending) (page : PageState B) : Type 0 where
  pub frames : new.frames ≡ old.frames
  pub post : new.post ≡ old.post
  pub floors : Same old.floors new.floors
  pub known : StillOut old.out new.out
  pub claimed : IsClaimed old.frames old.hand new.hand old.out new.out old.floors page

-- a page went home
pub record IsBack {B : Type 0} (old new : Lending) (page : PageState B) : Type 0 where
  pub frames : new.frames ≡ old.frames
  pub post : new.post ≡ old.post
  pub given : IsGiven old.hand new.hand old.out new.out old.floors new.floors page

-- all frames are free at the first base, and the seat is the root's
pub record IsOpened (frames first : ℕ) (seat : Lending) : Type 0 where
  pub many : seat.frames ≡ frames
  pub alone : IsAlone seat.post
  pub hand : (f : ℕ) → seat.hand f ≡ None
  pub out : (f : ℕ) → seat.out f ≡ false
  pub floors : (f : ℕ) → f < frames → seat.floors f ≡ first

-- one more worker seat is out: it holds nothing, has the root's floors, and knows to be out what the root knows to be out
pub record IsSplit (old new worker : Lending) : Type 0 where
  pub frames : new.frames ≡ old.frames
  pub post : new.post ≡ record old.post { workers = old.post.workers + 1 }
  pub same_hand : Same old.hand new.hand
  pub same_out : Same old.out new.out
  pub same_floors : Same old.floors new.floors
  pub worker_frames : worker.frames ≡ old.frames
  pub worker_post : worker.post ≡ record { place = old.post.place; is_root = false; workers = 0 }
  pub worker_hand : (f : ℕ) → worker.hand f ≡ None
  pub worker_out : Same old.out worker.out
  pub worker_floors : Same old.floors worker.floors

abbrev pub either_hand : Option ℕ → Option ℕ → Option ℕ
either_hand None other = other
either_hand (Some base) other = Some base

-- The root has both seats' frames, each at the base at which it was claimed, what either knew to be out, and the greater floors. No frame was in
-- both hands, and no frame of the new hand was claimed below its floor.
pub record IsJoined (old worker new : Lending) : Type 0 where
  pub frames : new.frames ≡ old.frames
  pub post : new.post ≡ record old.post { workers = old.post.workers - 1 }
  pub apart : (f : ℕ) → (old.hand f ≡ None) ⊎ (worker.hand f ≡ None)
  pub hand : (f : ℕ) → new.hand f ≡ either_hand (old.hand f) (worker.hand f)
  pub out : (f : ℕ) → new.out f ≡ (old.out f || worker.out f)
  pub floors : (f : ℕ) → new.floors f ≡ max (old.floors f) (worker.floors f)
  pub sound : IsSoundHand new.frames new.hand new.out new.floors
