-- Every single step on a world, with what is held before it and after it. An instruction of a code is a short row of them
-- (docs, "Regions").
use Rattle.std.specs.Prelude.{◌≡◌, ◌≢◌, ◌≤◌, ℕ, suc, List, [], ◌∷◌, ◌++◌, length, Some, slice_get, slice_set}
use Rattle.vale_state_spec.specs.State.{front_from, last_from}
use Rattle.vale_state_spec.specs.World.{Value, Own, Iso, Freeze, Isolate, Object, World, Lives, born, died, written, relabelled, cleared}
use Rattle.vale_base.specs.declared.name.Kind.{Kind}
use Rattle.vale_region_laws.specs.Regions.{Each, At, Waiting, Homes, Holder, HolderFits, held, Scene, scene, holding, holding_all, waiting, lowered_home, kept_home, lower_all, Leaves, HoldsNoIso, homed, NoDeeper}

abbrev pub object_of_kind : ℕ → Kind → List Value → Object
object_of_kind c kind vs = record { region = Freeze c; kind = kind; values = vs }

pub data Step : Scene → Scene → Type 0 where
  -- an object is made of values that were held at the innermost depth, and its owner is held there
  is_born : (home : Homes) (hs : List Holder) (w : World) (c : ℕ) (kind : Kind) (vs : List Value)
      → Step (scene home (holding_all c vs hs) w c) (scene home (holding c (Own (length w)) ∷ hs) (born w (object_of_kind c kind vs)) c)
  -- an owner's object dies, and its values are held where the owner was
  dies : (home : Homes) (hs : List Holder) (w : World) (c n : ℕ) (o : Object) → Lives w n o
      → Step (scene home (holding c (Own n) ∷ hs) w c) (scene home (holding_all c o.values hs) (died w n) c)
  -- an object of the innermost region gets another field or element, one more, or one less
  is_set : (home : Homes) (hs : List Holder) (w : World) (c n : ℕ) (o : Object) (i : ℕ) (old new : Value) → Lives w n o → o.region ≡ Freeze c → slice_get o.values i ≡ Some old
      → Step (scene home (holding c new ∷ hs) w c) (scene home (holding c old ∷ hs) (written w n (record o { values = slice_set o.values i new })) c)
  is_pushed : (home : Homes) (hs : List Holder) (w : World) (c n : ℕ) (o : Object) (new : Value) → Lives w n o → o.region ≡ Freeze c
      → Step (scene home (holding c new ∷ hs) w c) (scene home hs (written w n (record o { values = o.values ++ new ∷ [] })) c)
  is_popped : (home : Homes) (hs : List Holder) (w : World) (c n : ℕ) (o : Object) (v : Value) (vs : List Value) → Lives w n o → o.region ≡ Freeze c → o.values ≡ v ∷ vs
      → Step (scene home hs w c) (scene home (holding c (last_from v vs) ∷ hs) (written w n (record o { values = front_from v vs })) c)
  -- an isolate is merged
  joins : (home : Homes) (hs : List Holder) (w : World) (c n : ℕ)
      → Step (scene home (holding c (Iso n) ∷ hs) w c) (scene home (holding c (Own n) ∷ hs) (relabelled (Isolate n) (Freeze c) w) c)
  -- a freeze begins, and ends in one of three ways
  opens : (home : Homes) (hs : List Holder) (w : World) (c : ℕ) → Step (scene home hs w c) (scene home hs w (suc c))
  merges : (home : Homes) (hs : List Holder) (w : World) (c n : ℕ) → Each (Leaves c) hs
      → Step (scene home (holding (suc c) (Own n) ∷ hs) w (suc c)) (scene (lowered_home c home) (holding c (Own n) ∷ lower_all c hs) (relabelled (Freeze (suc c)) (Freeze c) w) c)
  keeps : (home : Homes) (hs : List Holder) (w : World) (c n : ℕ) → Each (Leaves c) hs → HoldsNoIso w (Freeze (suc c))
      → Step (scene home (holding (suc c) (Own n) ∷ hs) w (suc c)) (scene (kept_home n c home) (holding c (Iso n) ∷ lower_all c hs) (relabelled (Freeze (suc c)) (Isolate n) w) c)
  clears : (home : Homes) (hs : List Holder) (w : World) (c : ℕ) → Each (Leaves c) hs
      → Step (scene home hs w (suc c)) (scene (lowered_home c home) (lower_all c hs) (cleared (Freeze (suc c)) w) c)
  -- an isolate waits for a freeze, and arrives in it
  waits : (home : Homes) (hs : List Holder) (w : World) (c n : ℕ) → Each (NoDeeper c) hs
      → Step (scene home (holding c (Iso n) ∷ hs) w c) (scene (homed n Waiting home) (waiting (Iso n) ∷ hs) w c)
  arrives : (home : Homes) (hs : List Holder) (w : World) (c n : ℕ)
      → Step (scene home (waiting (Iso n) ∷ hs) w c) (scene (homed n (At c) home) (holding c (Iso n) ∷ hs) w c)
  -- holders are put in another order or let go, and others that lead where they may are added
  is_held : (home : Homes) (hs gs : List Holder) (w : World) (c : ℕ) → ((n : ℕ) → held n gs ≤ held n hs) → Each (HolderFits home w c) gs
      → Step (scene home hs w c) (scene home gs w c)

-- What is frozen for a freeze of this depth stays in such a step: it is open, or nothing of the world changes.
abbrev pub IsInside : ℕ → (s t : Scene) → Step s t → Type 0
IsInside a s t (opens home hs w c) = Unit {0}
IsInside a s t (is_held home hs gs w c le fit) = Unit {0}
IsInside a s t _ = a ≤ s.opened

-- Steps inside such a freeze, or inside those of a loop's iterations, one after another.
pub data Run (a : ℕ) : Scene → Scene → Type 0 where
  here : (s : Scene) → Run a s s
  then_ : (s t u : Scene) (step : Step s t) → IsInside a s t step → Run a t u → Run a s u

-- ---- isolates that wait

-- the step is no arrival of this isolate
abbrev pub IsElsewhere : ℕ → (s t : Scene) → Step s t → Type 0
IsElsewhere r s t (arrives home hs w c n) = n ≢ r
IsElsewhere r s t _ = Unit {0}

-- An isolate waits, and is as it was.
pub record KeptWaiting (r : ℕ) (s t : Scene) : Type 0 where
  pub waits : t.home r ≡ Waiting
  pub same : (n : ℕ) (o : Object) → Lives s.world n o → o.region ≡ Isolate r → Lives t.world n o
