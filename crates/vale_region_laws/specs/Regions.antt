-- The region invariant of a world and of what is held: where each name is, and who may lead to it.
use Rattle.std.specs.Prelude.{◌≡◌, ◌⊎◌, ◌≤◌, ◌<◌, ℕ, suc, ◌+◌, min, List, [], ◌∷◌, ◌==◌, if◌then◌else◌}
use Rattle.vale_state_spec.specs.World.{Value, Int, Truth, Text, Own, Ref, Iso, Region, Freeze, Isolate, Object, World, Lives, IsDead}
use Rattle.vale_region_laws.specs.Owned.{own, in_world, alive}

abbrev pub Each : {A : Type 0} → (A → Type 0) → List A → Type 0
Each P [] = Unit {0}
Each P (x ∷ xs) = P x × Each P xs

-- The home of an isolate: the depth of the register or of the region that holds its owner. What an iteration that hasn't begun
-- is to get waits, and so does an argument until its freeze is open.
pub data Home : Type 0 where
  At : ℕ → Home
  Waiting : Home

-- of each isolate, by its root's name
abbrev pub Homes : Type 0
Homes = ℕ → Home

-- the name lives in this region
pub record InRegion (w : World) (n : ℕ) (r : Region) : Type 0 where
  pub object : Object
  pub lives : Lives w n object
  pub region : object.region ≡ r

-- What stands in an object of a region, or in a register that was written at the depth of a freeze's region: an owner of an
-- object of that region, a reference into it or of a name that died, or an isolate at home there. So none stands in an isolate.
abbrev pub Within : Homes → World → Region → Value → Type 0
Within home w r (Own n) = InRegion w n r
Within home w r (Ref n) = IsDead w n ⊎ InRegion w n r
Within home w r (Iso n) = InRegion w n (Isolate n) × (d : ℕ) × (home n ≡ At d) × (r ≡ Freeze d)
Within home w r (Int z) = Unit {0}
Within home w r (Truth b) = Unit {0}
Within home w r (Text bytes) = Unit {0}

abbrev pub IsHomeBelow : ℕ → Home → Type 0
IsHomeBelow a (At d) = d < a
IsHomeBelow a Waiting = ⊥

-- what is frozen for a freeze of this depth: the regions below it, and the isolates at home below it
abbrev pub IsBelow : Homes → ℕ → Region → Type 0
IsBelow home a (Freeze d) = d < a
IsBelow home a (Isolate r) = IsHomeBelow a (home r)

pub record Below (home : Homes) (w : World) (a : ℕ) (n : ℕ) : Type 0 where
  pub object : Object
  pub lives : Lives w n object
  pub below : IsBelow home a object.region

-- what an `&imm` of this depth is: a reference to what is frozen there, or to a name that died
abbrev pub Sees : Homes → World → ℕ → Value → Type 0
Sees home w a (Ref n) = IsDead w n ⊎ Below home w a n
Sees home w a (Own n) = ⊥
Sees home w a (Iso n) = ⊥
Sees home w a (Int z) = Unit {0}
Sees home w a (Truth b) = Unit {0}
Sees home w a (Text bytes) = Unit {0}

-- what waits is an isolate, or leads nowhere
abbrev pub Awaits : Homes → World → Value → Type 0
Awaits home w (Iso n) = InRegion w n (Isolate n) × (home n ≡ Waiting)
Awaits home w (Own n) = ⊥
Awaits home w (Ref n) = ⊥
Awaits home w (Int z) = Unit {0}
Awaits home w (Truth b) = Unit {0}
Awaits home w (Text bytes) = Unit {0}

-- ---- holders: registers, and whatever else waits with a value

-- a value of no type `&imm`, or one of such a type, with the depth of the run at which it was written; or one that waits
pub data How : Type 0 where
  Held : ℕ → How
  Seen : ℕ → How
  Waits : How

pub record Holder : Type 0 where
  pub how : How
  pub value : Value

abbrev pub HowFits : Homes → World → How → Value → Type 0
HowFits home w (Held a) v = Within home w (Freeze a) v
HowFits home w (Seen a) v = Sees home w a v
HowFits home w Waits v = Awaits home w v

-- What a loop's iterations all get is seen at the depth of an iteration, also between two of them.
abbrev pub HowDeep : ℕ → How → Type 0
HowDeep c (Held a) = a ≤ c
HowDeep c (Seen a) = a ≤ suc c
HowDeep c Waits = Unit {0}

abbrev pub HolderFits : Homes → World → ℕ → Holder → Type 0
HolderFits home w c h = HowDeep c h.how × HowFits home w h.how h.value

-- ---- objects

-- the region of a freeze that is open, or an isolate whose root lives in it
abbrev pub RegionFits : World → ℕ → Region → Type 0
RegionFits w c (Freeze d) = d ≤ c
RegionFits w c (Isolate r) = InRegion w r (Isolate r)

pub record ObjectFits (home : Homes) (w : World) (c : ℕ) (o : Object) : Type 0 where
  pub region : RegionFits w c o.region
  pub cells : Each (Within home w o.region) o.values

-- ---- the invariant

abbrev pub held : ℕ → List Holder → ℕ
held n [] = 0
held n (h ∷ hs) = own n h.value + held n hs

-- a world with what is held, where so many freezes are open
pub record Scene : Type 0 where
  pub home : Homes
  pub holders : List Holder
  pub world : World
  pub opened : ℕ

pub record Fits (s : Scene) : Type 0 where
  -- each name is owned at most once, and only while it lives
  pub once : (n : ℕ) → held n s.holders + in_world n s.world ≤ alive n s.world
  pub holders : Each (HolderFits s.home s.world s.opened) s.holders
  pub objects : (n : ℕ) (o : Object) → Lives s.world n o → ObjectFits s.home s.world s.opened o

-- ---- what stays

abbrev pub SameHome : Homes → Homes → Region → Type 0
SameHome home after (Freeze d) = Unit {0}
SameHome home after (Isolate r) = after r ≡ home r

-- What is frozen for a freeze of this depth is as it was, and the dead stay dead.
pub record Kept (a : ℕ) (s t : Scene) : Type 0 where
  pub frozen : (n : ℕ) (o : Object) → Lives s.world n o → IsBelow s.home a o.region → Lives t.world n o × SameHome s.home t.home o.region
  pub dead : (n : ℕ) → IsDead s.world n → IsDead t.world n

-- ---- words of steps

abbrev pub scene : Homes → List Holder → World → ℕ → Scene
scene home hs w c = record { home = home; holders = hs; world = w; opened = c }

abbrev pub holding : ℕ → Value → Holder
holding a v = record { how = Held a; value = v }

abbrev pub seeing : ℕ → Value → Holder
seeing a v = record { how = Seen a; value = v }

abbrev pub waiting : Value → Holder
waiting v = record { how = Waits; value = v }

-- these values too
abbrev pub holding_all : ℕ → List Value → List Holder → List Holder
holding_all a [] hs = hs
holding_all a (v ∷ vs) hs = holding a v ∷ holding_all a vs hs

-- ---- the end of a freeze, outside of which the depth is this one

abbrev pub home_outside : ℕ → Home → Home
home_outside c (At d) = At (min d c)
home_outside c Waiting = Waiting

-- isolates that were at home in it are at home outside
abbrev pub lowered_home : ℕ → Homes → Homes
lowered_home c home m = home_outside c (home m)

-- the same, where the region is kept as an isolate with this root
abbrev pub kept_home : ℕ → ℕ → Homes → Homes
kept_home n c home m = if m == n then At c else home_outside c (home m)

abbrev pub how_outside : ℕ → How → How
how_outside c (Held a) = Held (min a c)
how_outside c (Seen a) = Seen a
how_outside c Waits = Waits

abbrev pub lowered : ℕ → Holder → Holder
lowered c h = record h { how = how_outside c h.how }

abbrev pub lower_all : ℕ → List Holder → List Holder
lower_all c [] = []
lower_all c (h ∷ hs) = lowered c h ∷ lower_all c hs

-- isolates outlive a freeze, and so do values that lead nowhere
abbrev pub Outlives : Value → Type 0
Outlives (Own n) = ⊥
Outlives (Ref n) = ⊥
Outlives _ = Unit {0}

-- what is held at its end: no owner and no reference `&X` of its depth
abbrev pub MayLeave : ℕ → How → Value → Type 0
MayLeave c (Held a) v = (a ≤ c) ⊎ Outlives v
MayLeave c (Seen a) v = a ≤ suc c
MayLeave c Waits v = Unit {0}

abbrev pub Leaves : ℕ → Holder → Type 0
Leaves c h = MayLeave c h.how h.value

abbrev pub IsNoIso : Value → Type 0
IsNoIso (Iso n) = ⊥
IsNoIso _ = Unit {0}

-- no isolate stands in an object of this region
abbrev pub HoldsNoIso : World → Region → Type 0
HoldsNoIso w r = (k : ℕ) (o : Object) → Lives w k o → o.region ≡ r → Each IsNoIso o.values

-- ---- an isolate waits, and arrives

abbrev pub homed : ℕ → Home → Homes → Homes
homed n h home m = if m == n then h else home m

-- it is no `&imm` of a greater depth
abbrev pub IsNoDeeper : ℕ → How → Type 0
IsNoDeeper c (Held a) = Unit {0}
IsNoDeeper c (Seen a) = a ≤ c
IsNoDeeper c Waits = Unit {0}

abbrev pub NoDeeper : ℕ → Holder → Type 0
NoDeeper c h = IsNoDeeper c h.how
