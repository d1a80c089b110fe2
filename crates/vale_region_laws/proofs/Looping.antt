-- Parallel loops: each step keeps the invariant of the configuration.
use Rattle.std.proofs.Common.{◌≡◌, ◌≤◌, ℕ, zero, suc, ◌+◌, List, [], ◌∷◌, map, Option, Some, None, Bool, true, false, refl, sym, ap, subst, arith}
use Rattle.vale_state_spec.specs.State.{State, iteration_frame, is_outermost, born}
use Rattle.vale_state_spec.specs.World.{Value, Int, Own, World, next_name}
use Rattle.vale_base.specs.declared.name.Kind.{Kind}
use Rattle.vale_code.specs.Enter.{Form, Plain, Pure, Iteration, Destructor, if_iteration, enter}
use Rattle.vale_code.specs.Frames.{Iterating, Items, Numbers, Elements, Item, next_item, Frame, Looping, Config, on}
use Rattle.vale_code.specs.Kinds.{array_of, element_type}
use Rattle.vale_code.specs.Loops.{iterate, array_made, gathered, loop_goes_on, loop_next, counted_from, loop_begins}
use Rattle.vale_code.specs.Parts.{Parts}
use Rattle.vale_code.specs.declared.func.Func.{Func}
use Rattle.vale_code.specs.declared.ty.Ty.{Ty}
use Rattle.vale_region_laws.specs.Configs.{IsUnder, form_at, StackFits, ConfigFits, NextFits, in_args}
use Rattle.vale_region_laws.specs.Holding.{waiting_all, seeing_all, items_wait, Marked, in_frame, in_frames}
use Rattle.vale_region_laws.specs.Regions.{Each, Homes, Sees, Seen, Waits, Holder, HolderFits, held, holding, seeing, waiting, holding_all}
use Rattle.vale_region_laws.proofs.Dropping.{with_known}
use Rattle.vale_region_laws.proofs.Entering.{see_fits}
use Rattle.vale_region_laws.proofs.Frames.{with_tick, enter_fits, leave_without, leave_held}
use Rattle.vale_region_laws.proofs.Moving.{held_fits}
use Rattle.vale_region_laws.proofs.States.{FitsAt, make_fits, born_regions}

-- ---- what a loop holds

seen_each : (home : Homes) (w : World) (c a : ℕ) (vs : List Value) (hs : List Holder) → Each (HolderFits home w c) (seeing_all a vs hs) → Each (Sees home w a) vs × Each (HolderFits home w c) hs
seen_each home w c a [] hs x = (tt, x)
seen_each home w c a (v ∷ vs) hs x = let r = seen_each home w c a vs hs x.1 in ((x.0.1, r.0), r.1)

-- holders in front are let go
pub record Behind (before after : List Holder) : Type 1 where
  pub counts : (n : ℕ) → held n after ≤ held n before
  pub each : (P : Holder → Type 0) → Each P before → Each P after

pub behind_same : (hs : List Holder) → Behind hs hs
behind_same hs = record { counts = λ n. omega arith; each = λ P x. x }

pub behind_more : (h : Holder) (before after : List Holder) → Behind before after → Behind (h ∷ before) after
behind_more h before after b = record { counts = λ n. let x = b.counts n in omega (arith, x); each = λ P x. b.each P x.1 }

pub behind_held : (a : ℕ) (vs : List Value) (before after : List Holder) → Behind before after → Behind (holding_all a vs before) after
behind_held a [] before after b = b
behind_held a (v ∷ vs) before after b = behind_more (holding a v) _ after (behind_held a vs before after b)

pub behind_waits : (vs : List Value) (before after : List Holder) → Behind before after → Behind (waiting_all vs before) after
behind_waits [] before after b = b
behind_waits (v ∷ vs) before after b = behind_more (waiting v) _ after (behind_waits vs before after b)

pub behind_item : (items : Items) (before after : List Holder) → Behind before after → Behind (items_wait items before) after
behind_item (Numbers x more) before after b = b
behind_item (Elements vs) before after b = behind_waits vs before after b

pub behind_seen : (a : ℕ) (vs : List Value) (before after : List Holder) → Behind before after → Behind (seeing_all a vs before) after
behind_seen a [] before after b = b
behind_seen a (v ∷ vs) before after b = behind_more (seeing a v) _ after (behind_seen a vs before after b)

pub drop_fits : (home : Homes) (before after : List Holder) (s : State) → Behind before after → FitsAt home before s → FitsAt home after s
drop_fits home before after s b f = held_fits home before after s.world s.regions b.counts (b.each _ f.holders) f

-- ---- the item of the next iteration

pub args_seen : (a : ℕ) (vs : List Value) (hs : List Holder) → in_args (map (λ v. Seen a) vs) vs hs ≡ seeing_all a vs hs
args_seen a [] hs = refl
args_seen a (v ∷ vs) hs = ap (λ gs. seeing a v ∷ gs) (args_seen a vs hs)

pub seen_under : (r b : ℕ) (vs : List Value) → b ≤ suc r → Each (IsUnder r (suc r)) (map (λ v. Seen b) vs)
seen_under r b [] le = tt
seen_under r b (v ∷ vs) le = (le, seen_under r b vs le)

-- a holder comes before others
pub record Fronted (h : Holder) (before after : List Holder) : Type 1 where
  pub counts : (n : ℕ) → held n after ≡ held n before
  pub each : (P : Holder → Type 0) → Each P before → Each P after

pub fronted : (h : Holder) (a : ℕ) (all : List Value) (hs : List Holder) → Fronted h (seeing_all a all (h ∷ hs)) (h ∷ seeing_all a all hs)
fronted h a [] hs = record { counts = λ n. refl; each = λ P x. x }
fronted h a (u ∷ all) hs = let r = fronted h a all hs in record { counts = λ n. let x = r.counts n in omega (arith, x); each = λ P x. let y = r.each P x.1 in (y.0, (x.0, y.1)) }

-- from before an item was taken
item_comes : (home : Homes) (a : ℕ) (all : List Value) (items : Items) (item : Item) (hs : List Holder) (s : State) → next_item items ≡ Some item → FitsAt home (seeing_all a all (items_wait items hs)) s
    → FitsAt home (waiting item.first ∷ seeing_all a all (items_wait item.rest hs)) s
item_comes home a all (Numbers x zero) item hs s e f = let y : ⊥ = cc in absurd y
item_comes home a all (Numbers x (suc more)) item hs s e f =
    subst (λ i. FitsAt home (waiting i.first ∷ seeing_all a all (items_wait i.rest hs)) s) (some_is _ _ e)
    (held_fits home (seeing_all a all hs) (waiting (Int x) ∷ seeing_all a all hs) s.world s.regions (λ n. omega arith) ((tt, tt), f.holders) f)
  where
    some_is : (a b : Item) → Some a ≡ Some b → a ≡ b
    some_is a b e = cc
item_comes home a all (Elements []) item hs s e f = let y : ⊥ = cc in absurd y
item_comes home a all (Elements (v ∷ vs)) item hs s e f =
    subst (λ i. FitsAt home (waiting i.first ∷ seeing_all a all (items_wait i.rest hs)) s) (some_is _ _ e)
    (held_fits home (seeing_all a all (waiting v ∷ waiting_all vs hs)) (waiting v ∷ seeing_all a all (waiting_all vs hs)) s.world s.regions
    (λ n. let x = to_front.counts n in omega (arith, x)) (to_front.each _ f.holders) f)
  where
    some_is : (a b : Item) → Some a ≡ Some b → a ≡ b
    some_is a b e = cc

    to_front : Fronted (waiting v) (seeing_all a all (waiting v ∷ waiting_all vs hs)) (waiting v ∷ seeing_all a all (waiting_all vs hs))
    to_front = fronted (waiting v) a all (waiting_all vs hs)

-- ---- the steps of a loop

module _ (code : Parts) where
  -- a loop begins over frames that go on at this depth
  pub begins_fit : (last : Config → State) (f : Iterating) (frames : List Frame) (s : State) (home : Homes) (m : Marked) (ms : List Marked) → m.depth ≡ s.regions → StackFits code s.regions s.regions ms frames
      → FitsAt home (in_frame m (Looping f) (in_frames ms frames)) s → NextFits code (loop_begins code last f frames s)
  begins_fit last f frames s home m ms e stack fits = at (is_outermost s)
    where
      at : (b : Bool) → NextFits code (on (Looping f) frames (counted_from b code last f frames s))
      at true = record { home = home; top = m; marks = ms; depth = e; stack = stack; fits = fits }
      at false = record { home = home; top = m; marks = ms; depth = e; stack = stack; fits = fits }

  iterates : (f : Iterating) (item : Item) (below : List Frame) (s : State) (home : Homes) (m : Marked) (ms : List Marked) → m.depth ≡ s.regions → StackFits code s.regions s.regions ms below → next_item f.items ≡ Some item
      → FitsAt home (in_frame m (Looping f) (in_frames ms below)) s
      → NextFits code (iterate code f f.next item.first (Looping (record f { items = item.rest; next = f.next + 1 }) ∷ below) s)
  iterates f item below s home m ms e stack h fits = with_known code f.function s _ (λ form func is found. by form is func)
    where
      others : List Holder
      others = in_frame m (Looping (record f { items = item.rest; next = f.next + 1 })) (in_frames ms below)

      item_first : FitsAt home (waiting item.first ∷ in_frame m (Looping (record f { items = item.rest; next = f.next + 1 })) (in_frames ms below)) s
      item_first = item_comes home (suc m.depth) f.captured f.items item (holding_all m.depth f.done (in_frames ms below)) s h fits

      captured_seen : Each (Sees home s.world (suc m.depth)) f.captured
      captured_seen = (seen_each home s.world s.regions (suc m.depth) f.captured _ fits.holders).0

      both : FitsAt home (in_args (Waits ∷ map (λ v. Seen (suc m.depth)) f.captured) (item.first ∷ f.captured) (in_frame m (Looping (record f { items = item.rest; next = f.next + 1 })) (in_frames ms below))) s
      both = subst (λ gs. FitsAt home (waiting item.first ∷ gs) s) (sym (args_seen (suc m.depth) f.captured (in_frame m (Looping (record f { items = item.rest; next = f.next + 1 })) (in_frames ms below))))
          (before_all f.captured (in_frame m (Looping (record f { items = item.rest; next = f.next + 1 })) (in_frames ms below)) captured_seen item_first)
        where
          swap_first : (g h : Holder) (gs : List Holder) → FitsAt home (g ∷ h ∷ gs) s → FitsAt home (h ∷ g ∷ gs) s
          swap_first g h gs x = held_fits home (g ∷ h ∷ gs) (h ∷ g ∷ gs) s.world s.regions (λ n. omega arith) (x.holders.1.0, (x.holders.0, x.holders.1.1)) x

          to_front : (vs : List Value) (gs : List Holder) → FitsAt home (seeing_all (suc m.depth) vs (waiting item.first ∷ gs)) s → FitsAt home (waiting item.first ∷ seeing_all (suc m.depth) vs gs) s
          to_front vs gs x = let r = fronted (waiting item.first) (suc m.depth) vs gs in
              held_fits home (seeing_all (suc m.depth) vs (waiting item.first ∷ gs)) (waiting item.first ∷ seeing_all (suc m.depth) vs gs) s.world s.regions (λ n. let y = r.counts n in omega (arith, y)) (r.each _ x.holders) x

          before_all : (vs : List Value) (gs : List Holder) → Each (Sees home s.world (suc m.depth)) vs → FitsAt home (waiting item.first ∷ gs) s → FitsAt home (waiting item.first ∷ seeing_all (suc m.depth) vs gs) s
          before_all vs gs u x = to_front vs gs (see_fits home vs (waiting item.first ∷ gs) s.world s.regions (suc m.depth) (omega (arith, e)) u x)

      by : (form : Form) → form_at code f.function ≡ Some form → (func : Func)
          → NextFits code (if_iteration form s (enter f.function form func (iteration_frame f.next f.at) (Some 0) (item.first ∷ f.captured) (Looping (record f { items = item.rest; next = f.next + 1 }) ∷ below) s))
      by Plain is func = tt
      by Pure is func = tt
      by Destructor is func = tt
      by Iteration is func = enter_fits code f.function Iteration func (iteration_frame f.next f.at) (Some 0) (Waits ∷ map (λ v. Seen (suc m.depth)) f.captured) (item.first ∷ f.captured)
          (Looping (record f { items = item.rest; next = f.next + 1 }) ∷ below) s home (m ∷ ms) is (e, omega arith, stack) (tt, seen_under s.regions (suc m.depth) f.captured (omega (arith, e))) both

  -- the values become an array
  ends_with : (kind : Option Kind) (f : Iterating) (below : List Frame) (s : State) (home : Homes) (m : Marked) (ms : List Marked) → m.depth ≡ s.regions → StackFits code s.regions s.regions ms below
      → FitsAt home (holding_all m.depth f.done (in_frames ms below)) s → NextFits code (array_made kind f below s)
  ends_with None f below s home m ms e stack fits = tt
  ends_with (Some kind) f below s home m ms e stack fits = with_tick code s _ (λ n.
      let t : State = record s { left = n; spent = s.spent + 1 } in
      leave_held code s.regions s.regions below (born kind f.done (record s { left = n; spent = s.spent + 1 })) home ms f.dest (Own (next_name s.world)) (born_regions kind f.done (record s { left = n; spent = s.spent + 1 })) stack
      (made n))
    where
      made : (n : ℕ) → FitsAt home (holding s.regions (Own (next_name s.world)) ∷ in_frames ms below) (born kind f.done (record s { left = n; spent = s.spent + 1 }))
      made n = make_fits home (in_frames ms below) (record s { left = n; spent = s.spent + 1 }) kind f.done (subst (λ a. FitsAt home (holding_all a f.done (in_frames ms below)) s) e fits)

  loop_ends : (item : Option Ty) (f : Iterating) (below : List Frame) (s : State) (home : Homes) (m : Marked) (ms : List Marked) → m.depth ≡ s.regions → StackFits code s.regions s.regions ms below
      → FitsAt home (in_frame m (Looping f) (in_frames ms below)) s → NextFits code (gathered code item f below s)
  loop_ends None f below s home m ms e stack fits =
      leave_without code s.regions s.regions below s home ms None refl stack
      (drop_fits home _ _ s (behind_seen (suc m.depth) f.captured _ _ (behind_item f.items _ _ (behind_held m.depth f.done _ _ (behind_same (in_frames ms below))))) fits)
  loop_ends (Some item) f below s home m ms e stack fits =
      ends_with (array_of code item) f below s home m ms e stack
      (drop_fits home _ _ s (behind_seen (suc m.depth) f.captured _ _ (behind_item f.items _ _ (behind_same (holding_all m.depth f.done (in_frames ms below))))) fits)

  goes_on_with : (item : Option Item) (f : Iterating) (below : List Frame) (s : State) (home : Homes) (m : Marked) (ms : List Marked) → m.depth ≡ s.regions → StackFits code s.regions s.regions ms below → next_item f.items ≡ item
      → FitsAt home (in_frame m (Looping f) (in_frames ms below)) s → NextFits code (loop_goes_on code item f below s)
  goes_on_with None f below s home m ms e stack h fits = with_known code f.function s _ (λ form func is found. loop_ends (element_type func.result) f below (record s { quiet = f.quiet }) home m ms e stack fits)
  goes_on_with (Some item) f below s home m ms e stack h fits = iterates f item below s home m ms e stack h fits

  -- the next iteration, or the loop's end
  pub loop_fits : (f : Iterating) (below : List Frame) (s : State) → ConfigFits code (record { top = Looping f; below = below; state = s }) → NextFits code (loop_next code f below s)
  loop_fits f below s x = goes_on_with (next_item f.items) f below s x.home x.top x.marks x.depth x.stack refl x.fits
