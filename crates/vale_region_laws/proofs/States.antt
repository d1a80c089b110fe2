-- The steps of states (vale_base, State) that change a world are steps of the invariant.
use Rattle.std.proofs.Common.{◌≡◌, ℕ, ◌+◌, pos, negsuc, List, [], ◌∷◌, ◌++◌, length, max, Option, Some, None, Bool, true, false, nat_lt, if◌then◌else◌, refl, ap}
use Rattle.std.specs.Prelude.{slice_get}
use Rattle.vale_base.specs.Limits.{width_limit}
use Rattle.vale_state_spec.specs.State.{State, Answer, gives, traps, fails, here, living, object_of, live, counted, born, dies, changed, lent, name_of, found_or_dead, look_up, on_object, with_object, field_in, load, swapped_in, swap, element_in, element_at, element, element_swapped_in, element_swapped_at, swap_element, push, popped, pop, merge}
use Rattle.vale_state_spec.specs.World.{Value, Int, Truth, Text, Own, Ref, Iso, Region, Freeze, Isolate, Object, World, Lives, IsDead, next_name}
use Rattle.vale_base.specs.declared.name.Kind.{Kind}
use Rattle.vale_base.specs.declared.trap.TrapKind.TheVariants.{ArrayTooLong}
use Rattle.vale_region_laws.specs.Owned.{own}
use Rattle.vale_region_laws.specs.Regions.{Each, Homes, Within, IsBelow, Sees, Holder, Fits, scene, holding, holding_all, IsNoIso}
use Rattle.vale_region_laws.proofs.Counts.{each_at}
use Rattle.vale_region_laws.proofs.Ending.{died_fits}
use Rattle.vale_region_laws.proofs.Growing.{born_fits, swapped_fits, pushed_fits, popped_fits}
use Rattle.vale_region_laws.proofs.Moving.{read_within, read_seen}
use Rattle.vale_region_laws.proofs.Relabelling.{joined_fits}

-- the invariant of a state, with what is held
abbrev pub FitsAt : Homes → List Holder → State → Type 0
FitsAt home hs s = Fits (scene home hs s.world s.regions)

-- what holds of an answer that is a value
abbrev pub Gives : (Option Value → State → Type 0) → Answer → Type 0
Gives P (gives v t) = P v t
Gives P (traps kind) = Unit {0}
Gives P fails = Unit {0}

pub lives_of : (x : Option (Option Object)) (o : Object) → living x ≡ Some o → x ≡ Some (Some o)
lives_of None o e = let y : ⊥ = cc in absurd y
lives_of (Some None) o e = let y : ⊥ = cc in absurd y
lives_of (Some (Some p)) o e = ap Some e

pub on_found : (P : Option Value → State → Type 0) (v : Value) (s : State) (go : ℕ → Object → Answer) → ((n : ℕ) (o : Object) → name_of v ≡ Some n → Lives s.world n o → Gives P (go n o)) → Gives P (with_object v s go)
on_found P v s go each = named (name_of v) refl
  where
    alive : (n : ℕ) → name_of v ≡ Some n → (x : Option Object) → living (slice_get s.world n) ≡ x → Gives P (on_object (found_or_dead n x) go)
    alive n e None g = tt
    alive n e (Some o) g = each n o e (lives_of (slice_get s.world n) o g)

    named : (m : Option ℕ) → name_of v ≡ m → Gives P (on_object (look_up m s) go)
    named None e = tt
    named (Some n) e = alive n e (object_of n s) refl

-- what a value leads to, if it lives, lies in the innermost region
abbrev pub LeadsInside : State → Value → Type 0
LeadsInside s v = (n : ℕ) (o : Object) → name_of v ≡ Some n → Lives s.world n o → o.region ≡ Freeze s.regions

-- what is lent owns nothing
pub lent_owns : (v : Value) (k : ℕ) → own k (lent v) ≡ 0
lent_owns (Own n) k = refl
lent_owns (Ref n) k = refl
lent_owns (Iso n) k = refl
lent_owns (Int n) k = refl
lent_owns (Truth n) k = refl
lent_owns (Text n) k = refl

counted_fits : (home : Homes) (hs : List Holder) (s : State) → FitsAt home hs s → FitsAt home hs (counted s)
counted_fits home hs s f = from s.quiet
  where
    from : (b : Bool) → FitsAt home hs (if b then s else record s { most = max s.most (live s.world); made = s.made + 1 })
    from true = f
    from false = f

pub make_fits : (home : Homes) (hs : List Holder) (s : State) (kind : Kind) (vs : List Value) → FitsAt home (holding_all s.regions vs hs) s
    → FitsAt home (holding s.regions (Own (next_name s.world)) ∷ hs) (born kind vs s)
make_fits home hs s kind vs f = counted_fits home _ (record s { world = Rattle.vale_state_spec.specs.World.born s.world (record { region = here s; kind = kind; values = vs }) }) (born_fits home hs s.world s.regions kind vs f)

pub born_regions : (kind : Kind) (vs : List Value) (t : State) → (born kind vs t).regions ≡ t.regions
born_regions kind vs t = from t.quiet
  where
    u : State
    u = record t { world = Rattle.vale_state_spec.specs.World.born t.world (record { region = here t; kind = kind; values = vs }) }

    from : (b : Bool) → (if b then u else record u { most = max u.most (live u.world); made = u.made + 1 }).regions ≡ t.regions
    from true = refl
    from false = refl

pub dies_fits : (home : Homes) (hs : List Holder) (s : State) (n : ℕ) (o : Object) → object_of n s ≡ Some o → FitsAt home (holding s.regions (Own n) ∷ hs) s
    → FitsAt home (holding_all s.regions o.values hs) (dies n s)
dies_fits home hs s n o e f = died_fits home hs s.world s.regions n o (lives_of (slice_get s.world n) o e) f

-- what comes out of a cell, in the place of what went in
abbrev pub ComesOut : Homes → ℕ → List Holder → Option Value → State → Type 0
ComesOut home c hs None t = ⊥
ComesOut home c hs (Some v) t = FitsAt home (holding c v ∷ hs) t × (t.regions ≡ c)

abbrev pub NothingOut : Homes → ℕ → List Holder → Option Value → State → Type 0
NothingOut home c hs None t = FitsAt home hs t × (t.regions ≡ c)
NothingOut home c hs (Some v) t = ⊥

module _ (home : Homes) (hs : List Holder) (s : State) where
  swapped : (n : ℕ) (o : Object) (i : ℕ) (new : Value) (x : Option Value) → slice_get o.values i ≡ x → Lives s.world n o → o.region ≡ Freeze s.regions → FitsAt home (holding s.regions new ∷ hs) s
      → Gives (ComesOut home s.regions hs) (swapped_in x n o i new s)
  swapped n o i new None e l r f = tt
  swapped n o i new (Some old) e l r f = (swapped_fits home hs s.world s.regions n o i old new l r e f, refl)

  pub swap_fits : (i : ℕ) (v new : Value) → LeadsInside s v → FitsAt home (holding s.regions new ∷ hs) s → Gives (ComesOut home s.regions hs) (swap i v new s)
  swap_fits i v new inside f = on_found _ v s _ (λ n o e l. swapped n o i new (slice_get o.values i) refl l (inside n o e l) f)

  element_swapped : (n : ℕ) (o : Object) (i : ℕ) (new : Value) (x : Option Value) → slice_get o.values i ≡ x → Lives s.world n o → o.region ≡ Freeze s.regions → FitsAt home (holding s.regions new ∷ hs) s
      → Gives (ComesOut home s.regions hs) (element_swapped_in x n o i new s)
  element_swapped n o i new None e l r f = tt
  element_swapped n o i new (Some old) e l r f = (swapped_fits home hs s.world s.regions n o i old new l r e f, refl)

  pub swap_element_fits : (v index new : Value) → LeadsInside s v → FitsAt home (holding s.regions new ∷ hs) s → Gives (ComesOut home s.regions hs) (swap_element v index new s)
  swap_element_fits v index new inside f = on_found _ v s _ (λ n o e l. at index n o (inside n o e l) l)
    where
      at : (index : Value) (n : ℕ) (o : Object) → o.region ≡ Freeze s.regions → Lives s.world n o → Gives (ComesOut home s.regions hs) (element_swapped_at index n o new s)
      at (Int (pos i)) n o r l = element_swapped n o i new (slice_get o.values i) refl l r f
      at (Int (negsuc i)) n o r l = tt
      at (Truth b) n o r l = tt
      at (Text t) n o r l = tt
      at (Own m) n o r l = tt
      at (Ref m) n o r l = tt
      at (Iso m) n o r l = tt

  pub push_fits : (v new : Value) → LeadsInside s v → FitsAt home (holding s.regions new ∷ hs) s → Gives (NothingOut home s.regions hs) (push v new s)
  push_fits v new inside f = on_found _ v s _ (λ n o e l. at n o l (inside n o e l) (nat_lt (length o.values) width_limit))
    where
      at : (n : ℕ) (o : Object) → Lives s.world n o → o.region ≡ Freeze s.regions → (b : Bool) → Gives (NothingOut home s.regions hs) (if b then gives None (changed n o (o.values ++ new ∷ []) s) else traps ArrayTooLong)
      at n o l r true = (pushed_fits home hs s.world s.regions n o new l r f, refl)
      at n o l r false = tt

  pub pop_fits : (v : Value) → LeadsInside s v → FitsAt home hs s → Gives (ComesOut home s.regions hs) (pop v s)
  pop_fits v inside f = on_found _ v s _ (λ n o e l. at n o l (inside n o e l) o.values refl)
    where
      at : (n : ℕ) (o : Object) → Lives s.world n o → o.region ≡ Freeze s.regions → (vs : List Value) → o.values ≡ vs → Gives (ComesOut home s.regions hs) (popped n o vs s)
      at n o l r [] e = tt
      at n o l r (u ∷ us) e = (popped_fits home hs s.world s.regions n o u us l r e f, refl)

  pub merge_fits : (n : ℕ) → FitsAt home (holding s.regions (Iso n) ∷ hs) s → Gives (ComesOut home s.regions hs) (merge (Iso n) s)
  merge_fits n f = (joined_fits home hs s.world s.regions n f, refl)

  -- ---- reading

  -- what is read through an `&imm` of this depth
  abbrev pub ReadSeen : ℕ → Option Value → State → Type 0
  ReadSeen a None t = ⊥
  ReadSeen a (Some v) t = (t ≡ s) × Sees home s.world a v

  -- what a value leads to, if it lives, is frozen for this depth
  abbrev pub LeadsBelow : ℕ → Value → Type 0
  LeadsBelow a v = (n : ℕ) (o : Object) → name_of v ≡ Some n → Lives s.world n o → IsBelow home a o.region

  pub load_seen : (a i : ℕ) (v : Value) → LeadsBelow a v → FitsAt home hs s → Gives (ReadSeen a) (load i v s)
  load_seen a i v below f = on_found _ v s _ (λ n o e l. at n o l (below n o e l) (slice_get o.values i) refl)
    where
      at : (n : ℕ) (o : Object) → Lives s.world n o → IsBelow home a o.region → (x : Option Value) → slice_get o.values i ≡ x → Gives (ReadSeen a) (field_in x s)
      at n o l b None e = tt
      at n o l b (Some u) e = (refl, read_seen home hs s.world s.regions a n (record { object = o; lives = l; below = b }) i u e f)

  pub element_seen : (a : ℕ) (v index : Value) → LeadsBelow a v → FitsAt home hs s → Gives (ReadSeen a) (element v index s)
  element_seen a v index below f = on_found _ v s _ (λ n o e l. by index n o l (below n o e l))
    where
      at : (i n : ℕ) (o : Object) → Lives s.world n o → IsBelow home a o.region → (x : Option Value) → slice_get o.values i ≡ x → Gives (ReadSeen a) (element_in x s)
      at i n o l b None e = tt
      at i n o l b (Some u) e = (refl, read_seen home hs s.world s.regions a n (record { object = o; lives = l; below = b }) i u e f)

      by : (index : Value) (n : ℕ) (o : Object) → Lives s.world n o → IsBelow home a o.region → Gives (ReadSeen a) (element_at index o s)
      by (Int (pos i)) n o l b = at i n o l b (slice_get o.values i) refl
      by (Int (negsuc i)) n o l b = tt
      by (Truth t) n o l b = tt
      by (Text t) n o l b = tt
      by (Own m) n o l b = tt
      by (Ref m) n o l b = tt
      by (Iso m) n o l b = tt

  -- a cell with no isolate is read through an owner or an `&X`
  abbrev pub CellsOpen : Value → Type 0
  CellsOpen v = (n : ℕ) (o : Object) → name_of v ≡ Some n → Lives s.world n o → Each IsNoIso o.values

  abbrev pub ReadHeld : Option Value → State → Type 0
  ReadHeld None t = ⊥
  ReadHeld (Some v) t = (t ≡ s) × Within home s.world (Freeze s.regions) v × ((k : ℕ) → own k v ≡ 0)

  none_at : (vs : List Value) (i : ℕ) (v : Value) → slice_get vs i ≡ Some v → Each IsNoIso vs → IsNoIso v
  none_at vs i v e h = each_at IsNoIso vs i v e h

  pub load_held : (i : ℕ) (v : Value) → LeadsInside s v → CellsOpen v → FitsAt home hs s → Gives ReadHeld (load i v s)
  load_held i v inside cells f = on_found _ v s _ (λ n o e l. at n o l (inside n o e l) (cells n o e l) (slice_get o.values i) refl)
    where
      at : (n : ℕ) (o : Object) → Lives s.world n o → o.region ≡ Freeze s.regions → Each IsNoIso o.values → (x : Option Value) → slice_get o.values i ≡ x → Gives ReadHeld (field_in x s)
      at n o l r g None e = tt
      at n o l r g (Some u) e = (refl, read_within home hs s.world s.regions n o i u l r e (none_at o.values i u e g) f, lent_owns u)

  pub element_held : (v index : Value) → LeadsInside s v → CellsOpen v → FitsAt home hs s → Gives ReadHeld (element v index s)
  element_held v index inside cells f = on_found _ v s _ (λ n o e l. by index n o l (inside n o e l) (cells n o e l))
    where
      at : (i n : ℕ) (o : Object) → Lives s.world n o → o.region ≡ Freeze s.regions → Each IsNoIso o.values → (x : Option Value) → slice_get o.values i ≡ x → Gives ReadHeld (element_in x s)
      at i n o l r g None e = tt
      at i n o l r g (Some u) e = (refl, read_within home hs s.world s.regions n o i u l r e (none_at o.values i u e g) f, lent_owns u)

      by : (index : Value) (n : ℕ) (o : Object) → Lives s.world n o → o.region ≡ Freeze s.regions → Each IsNoIso o.values → Gives ReadHeld (element_at index o s)
      by (Int (pos i)) n o l r g = at i n o l r g (slice_get o.values i) refl
      by (Int (negsuc i)) n o l r g = tt
      by (Truth t) n o l r g = tt
      by (Text t) n o l r g = tt
      by (Own m) n o l r g = tt
      by (Ref m) n o l r g = tt
      by (Iso m) n o l r g = tt
