-- Objects are destroyed: each step keeps the invariant of the configuration.
use Rattle.std.proofs.Common.{◌≡◌, ◌≤◌, ℕ, ◌+◌, List, [], ◌∷◌, Option, Some, None, refl, ap, ◌∙◌, subst, arith}
use Rattle.std.specs.Prelude.{slice_get}
use Rattle.vale_state_spec.specs.State.{State, object_of, join_isolate, drop_frame}
use Rattle.vale_state_spec.specs.World.{Value, Int, Truth, Text, Own, Ref, Iso, Object}
use Rattle.vale_base.specs.declared.spot.Spot.{Spot}
use Rattle.vale_code.specs.Destroy.{destroy_by, destroy_object, destroy, Owned, first_owned, drop_rest, drop_next}
use Rattle.vale_code.specs.Enter.{Form, Plain, Pure, Iteration, Destructor, form_of, with_form, with_func, function, if_destructor, enter}
use Rattle.vale_code.specs.Frames.{Emptying, Frame, Dropping, Next}
use Rattle.vale_code.specs.Kinds.{kind_text, destructor_of}
use Rattle.vale_code.specs.Parts.{Parts}
use Rattle.vale_code.specs.declared.func.Func.{Func}
use Rattle.vale_region_laws.specs.Configs.{form_in, form_at, StackFits, ConfigFits, NextFits}
use Rattle.vale_region_laws.specs.Holding.{Marked, in_frames}
use Rattle.vale_region_laws.specs.Owned.{own, in_values}
use Rattle.vale_region_laws.specs.Regions.{Each, Homes, Held, Holder, holding, holding_all}
use Rattle.vale_region_laws.proofs.Counts.{held_all}
use Rattle.vale_region_laws.proofs.Frames.{with_tick, with_depth, enter_fits, leave_without}
use Rattle.vale_region_laws.proofs.Moving.{held_fits}
use Rattle.vale_region_laws.proofs.Relabelling.{joined_fits}
use Rattle.vale_region_laws.proofs.States.{FitsAt, dies_fits}

-- the first of some values that is owned, and those after it
pub first_counts : (n : ℕ) (vs : List Value) (o : Owned) → first_owned vs ≡ Some o → own n o.first + in_values n o.rest ≤ in_values n vs
first_counts n [] o e = let x : ⊥ = cc in absurd x
first_counts n (Own m ∷ vs) o e = let q : record { first = Own m; rest = vs } ≡ o = some_is _ _ e in subst (λ o. own n o.first + in_values n o.rest ≤ own n (Own m) + in_values n vs) q (omega arith)
  where
    some_is : (a b : Owned) → Some a ≡ Some b → a ≡ b
    some_is a b e = cc
first_counts n (Iso m ∷ vs) o e = let q : record { first = Iso m; rest = vs } ≡ o = some_is _ _ e in subst (λ o. own n o.first + in_values n o.rest ≤ own n (Iso m) + in_values n vs) q (omega arith)
  where
    some_is : (a b : Owned) → Some a ≡ Some b → a ≡ b
    some_is a b e = cc
first_counts n (Ref m ∷ vs) o e = let x = first_counts n vs o e in omega (arith, x)
first_counts n (Int m ∷ vs) o e = let x = first_counts n vs o e in omega (arith, x)
first_counts n (Truth m ∷ vs) o e = let x = first_counts n vs o e in omega (arith, x)
first_counts n (Text m ∷ vs) o e = let x = first_counts n vs o e in omega (arith, x)

pub first_each : (P : Holder → Type 0) (a : ℕ) (hs : List Holder) (vs : List Value) (o : Owned) → first_owned vs ≡ Some o → Each P (holding_all a vs hs) → P (holding a o.first) × Each P (holding_all a o.rest hs)
first_each P a hs [] o e x = let y : ⊥ = cc in absurd y
first_each P a hs (Own m ∷ vs) o e x = let q : record { first = Own m; rest = vs } ≡ o = some_is _ _ e in subst (λ o. P (holding a o.first) × Each P (holding_all a o.rest hs)) q (x.0, x.1)
  where
    some_is : (a b : Owned) → Some a ≡ Some b → a ≡ b
    some_is a b e = cc
first_each P a hs (Iso m ∷ vs) o e x = let q : record { first = Iso m; rest = vs } ≡ o = some_is _ _ e in subst (λ o. P (holding a o.first) × Each P (holding_all a o.rest hs)) q (x.0, x.1)
  where
    some_is : (a b : Owned) → Some a ≡ Some b → a ≡ b
    some_is a b e = cc
first_each P a hs (Ref m ∷ vs) o e x = first_each P a hs vs o e x.1
first_each P a hs (Int m ∷ vs) o e x = first_each P a hs vs o e x.1
first_each P a hs (Truth m ∷ vs) o e x = first_each P a hs vs o e x.1
first_each P a hs (Text m ∷ vs) o e x = first_each P a hs vs o e x.1

pub rest_of_all : (P : Holder → Type 0) (a : ℕ) (vs : List Value) (hs : List Holder) → Each P (holding_all a vs hs) → Each P hs
rest_of_all P a [] hs x = x
rest_of_all P a (v ∷ vs) hs x = rest_of_all P a vs hs x.1

module _ (code : Parts) where
  -- a step with a function, whose form is then known
  pub with_known : (g : ℕ) (s : State) (go : Form → Func → Next) → ((form : Form) (func : Func) → form_at code g ≡ Some form → slice_get code.funcs g ≡ Some func → NextFits code (go form func)) → NextFits code (function code g s go)
  with_known g s go each = at (slice_get code.funcs g) refl
    where
      form : (func : Func) → slice_get code.funcs g ≡ Some func → (o : Option Form) → form_of func.form ≡ o → NextFits code (with_form o func s go)
      form func e None h = tt
      form func e (Some x) h = each x func (ap form_in e ∙ h) e

      at : (o : Option Func) → slice_get code.funcs g ≡ o → NextFits code (with_func o s go)
      at None e = tt
      at (Some func) e = form func e (form_of func.form) refl

  destroyed_by : (d : Option ℕ) (n : ℕ) (o : Object) (at : Spot) (frames : List Frame) (s : State) (home : Homes) (ms : List Marked) → StackFits code s.regions s.regions ms frames → object_of n s ≡ Some o
      → FitsAt home (holding s.regions (Own n) ∷ in_frames ms frames) s → NextFits code (destroy_by code d n o at frames s)
  destroyed_by (Some g) n o at frames s home ms stack e f = with_known g s _ (λ form func is found. by form is func)
    where
      by : (form : Form) → form_at code g ≡ Some form → (func : Func) → NextFits code (if_destructor form s (enter g form func (drop_frame (kind_text code o.kind) at) None (Own n ∷ []) frames s))
      by Plain is func = tt
      by Pure is func = tt
      by Iteration is func = tt
      by Destructor is func = enter_fits code g Destructor func (drop_frame (kind_text code o.kind) at) None (Held s.regions ∷ []) (Own n ∷ []) frames s home ms is stack (omega arith, tt) f
  destroyed_by None n o at frames s home ms stack e f =
      with_depth code 1 at frames s _ (with_tick code s _ (λ k. record {
        home = home;
        top = record { depth = s.regions; marks = [] };
        marks = ms;
        depth = refl;
        stack = stack;
        fits = dies_fits home (in_frames ms frames) s n o e f;
      }))

  destroyed : (x : Option Object) (n : ℕ) (at : Spot) (frames : List Frame) (s : State) (home : Homes) (ms : List Marked) → StackFits code s.regions s.regions ms frames → object_of n s ≡ x
      → FitsAt home (holding s.regions (Own n) ∷ in_frames ms frames) s → NextFits code (destroy_object code x n at frames s)
  destroyed None n at frames s home ms stack e f = tt
  destroyed (Some o) n at frames s home ms stack e f = destroyed_by (destructor_of code o.kind) n o at frames s home ms stack e f

  -- an owner or an isolate of this depth, over frames that go on at this depth
  pub destroy_fits : (v : Value) (at : Spot) (frames : List Frame) (s : State) (home : Homes) (ms : List Marked) → StackFits code s.regions s.regions ms frames
      → FitsAt home (holding s.regions v ∷ in_frames ms frames) s → NextFits code (destroy code v at frames s)
  destroy_fits (Own n) at frames s home ms stack f = destroyed (object_of n s) n at frames s home ms stack refl f
  destroy_fits (Iso n) at frames s home ms stack f =
      destroyed (object_of n (join_isolate n s)) n at frames (join_isolate n s) home ms stack refl (joined_fits home (in_frames ms frames) s.world s.regions n f)
  destroy_fits (Ref n) at frames s home ms stack f = tt
  destroy_fits (Int n) at frames s home ms stack f = tt
  destroy_fits (Truth n) at frames s home ms stack f = tt
  destroy_fits (Text n) at frames s home ms stack f = tt

  -- ---- the next value of a dead object

  dropped : (o : Option Owned) (f : Emptying) (below : List Frame) (s : State) (home : Homes) (m : Marked) (ms : List Marked) → m.depth ≡ s.regions → first_owned f.rest ≡ o → StackFits code s.regions s.regions ms below
      → FitsAt home (holding_all m.depth f.rest (in_frames ms below)) s → NextFits code (drop_rest code o f below s)
  dropped None f below s home m ms e h stack x =
      leave_without code s.regions s.regions below s home ms None refl stack
      (held_fits home (holding_all m.depth f.rest (in_frames ms below)) (in_frames ms below) s.world s.regions (λ n. let y = held_all n m.depth f.rest (in_frames ms below) in omega (arith, y)) (rest_of_all _ m.depth f.rest (in_frames ms below) x.holders) x)
  dropped (Some o) f below s home m ms e h stack x =
      destroy_fits o.first f.call.at (Dropping (record f { rest = o.rest }) ∷ below) s home (m ∷ ms) (e, omega arith, stack)
      (subst (λ a. FitsAt home (holding a o.first ∷ holding_all m.depth o.rest (in_frames ms below)) s) e
      (held_fits home (holding_all m.depth f.rest (in_frames ms below)) (holding m.depth o.first ∷ holding_all m.depth o.rest (in_frames ms below)) s.world s.regions
      (λ n. let y = held_all n m.depth f.rest (in_frames ms below) in let z = held_all n m.depth o.rest (in_frames ms below) in let k = first_counts n f.rest o h in omega (arith, y, z, k))
      (first_each _ m.depth (in_frames ms below) f.rest o h x.holders) x))

  pub drop_fits : (f : Emptying) (below : List Frame) (s : State) → ConfigFits code (record { top = Dropping f; below = below; state = s }) → NextFits code (drop_next code f below s)
  drop_fits f below s x = dropped (first_owned f.rest) f below s x.home x.top x.marks x.depth refl x.stack x.fits
