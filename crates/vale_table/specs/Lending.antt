-- What a claim and a gift change of a lender's meaning: its hand, the frames that it knows to be out, a floor for each frame, and its post.
-- A hand has each frame that was claimed and not given back, with the base at which it was claimed. These are functions of all numbers, which
-- are compared frame by frame.
use Rattle.std.specs.Prelude.{◌≡◌, ◌≢◌, ℕ, ◌<◌, ◌≤◌, Option, Some, None, Bool, true, false}
use Rattle.atomic_table.specs.Seated.{TableId}
use Rattle.vale_page.specs.PageState.{PageState, IsPage, IsBlank, IsBlankAt, generation_at, base_of}

-- Where a lender stands: at which shared table, or at none, whether it is the root there, and as the root, how many worker seats are out.
pub record Post : Type 0 where
  pub place : Option TableId
  pub is_root : Bool
  pub workers : ℕ

-- a table of its own
abbrev pub own_post : Post
own_post = record { place = None; is_root = true; workers = 0 }

-- nobody else claims meanwhile
pub record IsAlone (post : Post) : Type 0 where
  pub root : post.is_root ≡ true
  pub no_worker : post.workers ≡ 0

-- every frame is known to be out
abbrev pub IsFull : ℕ → (ℕ → Bool) → Type 0
IsFull frames out = (frame : ℕ) → frame < frames → out frame ≡ true

-- the two agree everywhere
abbrev pub Same : {X : Type 0} → (ℕ → X) → (ℕ → X) → Type 0
Same old new = (frame : ℕ) → new frame ≡ old frame

-- the two agree but at this frame
abbrev pub SameBut : {X : Type 0} → ℕ → (ℕ → X) → (ℕ → X) → Type 0
SameBut at old new = (frame : ℕ) → frame ≢ at → new frame ≡ old frame

-- what was known to be out still is
abbrev pub StillOut : (ℕ → Bool) → (ℕ → Bool) → Type 0
StillOut out new_out = (frame : ℕ) → out frame ≡ true → new_out frame ≡ true

-- a frame of the hand is one of the table's, known to be out, and its base isn't below its floor
pub record IsHeldAt (frames : ℕ) (out : ℕ → Bool) (floors : ℕ → ℕ) (frame base : ℕ) : Type 0 where
  pub within : frame < frames
  pub is_out : out frame ≡ true
  pub floor : floors frame ≤ base

abbrev pub IsSoundHand : ℕ → (ℕ → Option ℕ) → (ℕ → Bool) → (ℕ → ℕ) → Type 0
IsSoundHand frames hand out floors = (frame base : ℕ) → hand frame ≡ Some base → IsHeldAt frames out floors frame base

-- no page was lent, since all frames are out
pub record FoundNone (frames : ℕ) (hand new_hand : ℕ → Option ℕ) (new_out : ℕ → Bool) : Type 0 where
  pub full : IsFull frames new_out
  pub same_hand : Same hand new_hand

module _ {B : Type 0} where
  -- the page was claimed at this base: its frame wasn't known to be out, and is in the hand now
  pub record IsClaimedAt (frames : ℕ) (hand new_hand : ℕ → Option ℕ) (out new_out : ℕ → Bool) (floors : ℕ → ℕ) (page : PageState B) (frame base : ℕ) : Type 0 where
    pub blank : IsBlankAt page frame base
    pub within : frame < frames
    pub unknown : out frame ≡ false
    pub known : new_out frame ≡ true
    pub floor : floors frame ≤ base
    pub held : new_hand frame ≡ Some base
    pub other_hand : SameBut frame hand new_hand

  abbrev pub IsClaimed : ℕ → (ℕ → Option ℕ) → (ℕ → Option ℕ) → (ℕ → Bool) → (ℕ → Bool) → (ℕ → ℕ) → PageState B → Type 0
  IsClaimed frames hand new_hand out new_out floors page = (base : ℕ) × IsClaimedAt frames hand new_hand out new_out floors page page.frame base

  -- the page can go home: it is empty, and no slot is below the base at which its frame was claimed
  pub record CanGive (hand : ℕ → Option ℕ) (page : PageState B) : Type 0 where
    pub page_ok : IsPage page
    pub blank : IsBlank page
    pub claimed : ℕ
    pub held : hand page.frame ≡ Some claimed
    pub not_below : (slot : ℕ) → slot < 64 → claimed ≤ generation_at page slot

  -- the page's frame went home: it is free again, and its floor is the page's base
  pub record IsGiven (hand new_hand : ℕ → Option ℕ) (out new_out : ℕ → Bool) (floors new_floors : ℕ → ℕ) (page : PageState B) : Type 0 where
    pub left : new_hand page.frame ≡ None
    pub other_hand : SameBut page.frame hand new_hand
    pub home : new_out page.frame ≡ false
    pub other_out : SameBut page.frame out new_out
    pub floor : new_floors page.frame ≡ base_of page
    pub other_floors : SameBut page.frame floors new_floors
