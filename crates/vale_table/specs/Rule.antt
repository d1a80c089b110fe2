-- The rule of the shared table, over its words, its slots and all views. It holds between any two steps.
use Rattle.std.specs.Prelude.{◌≡◌, ℕ, ◌+◌, ◌-◌, ◌<◌, ◌≤◌, ◌⊎◌, List, [], ◌∷◌, length, slice_index, slice_set, replicate, map, if◌then◌else◌, ◌==◌, true, false, Option, Some, None}
use mathlib.Core.Option as maybe
use mathlib.Core.Option.{some, none}
use lib.ListN.{get_elem?}
use Rattle.atomic_table.specs.Table.{State}
use Rattle.vale_page.specs.PageState.{PageState, IsBlankAt}
use Rattle.vale_table.specs.declared.view.View.{View}
use Rattle.vale_table.specs.declared.view.Mark.{Mark}
use Rattle.vale_table.specs.declared.view.Role.{Role}
use Rattle.vale_table.specs.declared.view.Role.TheVariants.{Root, Worker, Spent}
use Rattle.vale_table.specs.Marks.{mark, spent_view}

-- A frame by itself: free at a base, or held by a seat since it was claimed at that base. Seats are numbered as they come; the root is 0.
pub data Frame : Type 0 where
  free : ℕ → Frame
  held : ℕ → ℕ → Frame

-- the base at which the frame is free, or was claimed
abbrev pub frame_base : Frame → ℕ
frame_base (free b) = b
frame_base (held o b) = b

-- the table by itself: its frames, and how many workers there are
pub record Core : Type 0 where
  pub frames : List Frame
  pub workers : ℕ

-- What one step does to the table. A look and a move of a seat's own slot change nothing.
pub data Event : Type 0 where
  look : Event
  -- the seat takes the frame at its base
  take : ℕ → ℕ → ℕ → Event
  -- the seat gives the frame home at the base
  give : ℕ → ℕ → ℕ → Event
  -- the seat cuts off a worker
  split : ℕ → Event
  -- the seat takes in the worker's frames
  join : ℕ → ℕ → Event

-- the frame is the seat's where it was the other's
abbrev pub inherits : ℕ → ℕ → Frame → Frame
inherits other id (free b) = free b
inherits other id (held o b) = held (if o == other then id else o) b

abbrev pub after : Event → Core → Core
after look c = c
after (take o f b) c = record c { frames = slice_set c.frames f (held o b) }
after (give o f b) c = record c { frames = slice_set c.frames f (free b) }
after (split id) c = record c { workers = c.workers + 1 }
after (join id other) c = record { frames = map (inherits other id) c.frames; workers = c.workers - 1 }

-- the root alone gives a frame of its own home, while no worker is there, at no lower base than it took it
pub record MayGive (o f b : ℕ) (c : Core) : Type 0 where
  pub root : o ≡ 0
  pub no_worker : c.workers ≡ 0
  pub old : ℕ
  pub owned : get_elem? c.frames f ≡ some (held o old)
  pub not_below : old ≤ b

-- the root takes a worker in
pub record MayJoin (id other : ℕ) (c : Core) : Type 0 where
  pub root : id ≡ 0
  pub apart : ¬ (other ≡ id)
  pub worker : 0 < c.workers

abbrev pub May : Event → Core → Type 0
May look c = Unit {0}
May (take o f b) c = get_elem? c.frames f ≡ some (free b)
May (give o f b) c = MayGive o f b c
May (split id) c = id ≡ 0
May (join id other) c = MayJoin id other c

-- what a list of lawful events leaves of n frames that were all free at the first base
pub data Reached (n first : ℕ) : Core → Type 0 where
  start : Reached n first record { frames = replicate n (free first); workers = 0 }
  next : (c : Core) (e : Event) → Reached n first c → May e c → Reached n first (after e c)

abbrev pub St : Type 0 → Type 0
St B = State (Option (PageState B)) View

-- What a view may know of a frame that is free at the base b. So a frame that is known to be out isn't free, and a word that was seen is what it was.
pub record FitsFree (b : ℕ) (m : Mark) : Type 0 where
  pub floor : m.floor ≤ b
  pub bases : m.bases ≡ []
  pub is_out : m.is_out ≡ false
  pub seen : (m.seen ≡ 0) ⊎ (m.seen ≡ b)
  pub carried : m.carried ≡ false

-- The frame is free at b: its word is b, its slot is at home, and has its blank page, with each generation b.
pub record IsFreeAt {B : Type 0} (s : St B) (f b : ℕ) : Type 0 where
  pub positive : 0 < b
  pub word : slice_index s.words f ≡ b
  pub home : (p : PageState B) × (get_elem? s.homes f ≡ some (some (Some p))) × IsBlankAt p f b
  pub known : (i : ℕ) (v : View) → get_elem? s.views i ≡ some v → FitsFree b (mark v f)

-- what the owner's view knows of its frame, and where the frame's slot is: out with the owner, or at home and empty
pub record FitsOwner {B : Type 0} (homes : List (maybe.Option (Option (PageState B)))) (f b : ℕ) (m : Mark) : Type 0 where
  pub floor : m.floor ≤ b
  pub bases : m.bases ≡ b ∷ []
  pub is_out : m.is_out ≡ true
  pub away : m.carried ≡ true → get_elem? homes f ≡ some none
  pub home : m.carried ≡ false → get_elem? homes f ≡ some (some None)

-- what another view may know of a frame that is held since it was claimed at b
pub record FitsOther (b : ℕ) (m : Mark) : Type 0 where
  pub floor : m.floor ≤ b
  pub bases : m.bases ≡ []
  pub carried : m.carried ≡ false

-- The frame is held by the seat o, which claimed it at b: its word is 0, and no other view holds it.
pub record IsHeldBy {B : Type 0} (s : St B) (f o b : ℕ) : Type 0 where
  pub positive : 0 < b
  pub word : slice_index s.words f ≡ 0
  pub owner : (v : View) × (get_elem? s.views o ≡ some v) × FitsOwner s.homes f b (mark v f)
  pub known : (i : ℕ) (v : View) → ¬ (i ≡ o) → get_elem? s.views i ≡ some v → FitsOther b (mark v f)

abbrev pub Stands : {B : Type 0} → St B → ℕ → Frame → Type 0
Stands s f (free b) = IsFreeAt s f b
Stands s f (held o b) = IsHeldBy s f o b

-- 1 for a worker, else 0
abbrev pub is_worker : Role → ℕ
is_worker Root = 0
is_worker Worker = 1
is_worker Spent = 0

abbrev pub count_workers : List View → ℕ
count_workers [] = 0
count_workers (v ∷ vs) = is_worker v.role + count_workers vs

-- The first view is the root's, and no other is. It has the number of worker views. A spent view knows and holds nothing.
pub record IsRooted (views : List View) : Type 0 where
  pub root : View
  pub at : get_elem? views 0 ≡ some root
  pub role : root.role ≡ Root
  pub workers : root.workers ≡ count_workers views
  pub only : (i : ℕ) (v : View) → get_elem? views i ≡ some v → v.role ≡ Root → i ≡ 0
  pub spent : (i : ℕ) (v : View) → get_elem? views i ≡ some v → v.role ≡ Spent → v ≡ spent_view

-- The rule, for n frames that began at the first base: the words, slots and views stand as one core says that lawful events reached.
pub record Keeps {B : Type 0} (n first : ℕ) (s : St B) : Type 0 where
  pub core : Core
  pub reached : Reached n first core
  pub long : length core.frames ≡ n
  pub many : core.workers ≡ count_workers s.views
  pub words : length s.words ≡ n
  pub homes : length s.homes ≡ n
  pub rooted : IsRooted s.views
  pub each : (f : ℕ) (x : Frame) → get_elem? core.frames f ≡ some x → Stands s f x

-- the first n slots have the blank pages of their frames, all at one base
abbrev pub ArePages : {B : Type 0} → ℕ → ℕ → List (Option (PageState B)) → Type 0
ArePages {B} first n slots = (f : ℕ) → f < n → (p : PageState B) × (get_elem? slots f ≡ some (Some p)) × IsBlankAt p f first
