-- How a stretch goes on from step to step, and where it ends.
use Rattle.std.specs.Prelude.{Bool, true, false, Err, IfOk, Ok, Result, slice_get}
use Rattle.std.proofs.Common.{◌≡◌, ℕ, suc, ◌+◌, ◌*◌, ◌<◌, List, [], ◌++◌, Option, Some, None, refl, sym, ap, ◌∙◌, subst, append-nil, append_assoc, arith}
use Rattle.vale_state_spec.specs.State.{State, main_frame}
use Rattle.vale_code.specs.Frames.{Config, Next, On, Running}
use Rattle.vale_code.specs.Fuel.{at_below, at_top, for_tick, fuel}
use Rattle.vale_code.specs.Instructions.{fetch}
use Rattle.vale_code.specs.Parts.{Parts}
use Rattle.vale_code.specs.Run.{go_on, step, steps}
use Rattle.vale_code.specs.declared.func.Func.{Func}
use Rattle.vale_code.specs.declared.instr.Instr.{Instr}
use Rattle.vale_heap.specs.HeapState.{HeapState, KnowsFrames}
use Rattle.vale_heap.specs.Standing.{LowIsFloor}
use Rattle.vale_heap.specs.declared.body.Cell.{Cell}
use Rattle.vale_table.specs.Lending.{StillOut}
use Rattle.vale_turn.specs.View.{IfStopped, IsBody, IsRight, Leads, Stays}
use Rattle.vale_turn.specs.declared.stop.Stop.{Stop}
use Rattle.vale_turn.specs.declared.stop.Stop.TheVariants as stop
use Rattle.vale_turn.proofs.Stretching.{leads_here, leads_on, less_fuel}
use Rattle.vale_object_steps.specs.Lent.{StillLent}
use Rattle.vale_object_steps.specs.Views.{Grows, View}
use Rattle.vale_object_turn.specs.Steps.{GoesOn, Runs, Scene, config, next_of}
use Rattle.vale_object_within.specs.Within.{ObeysWithinLent}
use Rattle.vale_object_stretch.specs.Sound.{IsSound}
use Rattle.vale_object_stretch.specs.Stretch.{Ended, IsSame, IsSteady, IsUnderWay, Leaving, Led, LedTo, Obeyed}
use Rattle.vale_object_stretch.proofs.Instructions.{is_body, is_here, is_right, step_is}

-- ---- what is kept from step to step

pub sound_on : (code : Parts) (c d : Config) → step code c ≡ On d → IsSound code c → IsSound code d
sound_on code c d e sound = λ n f h. sound (suc n) f (ap (λ x. go_on x (steps code n)) e ∙ h)

pub grows_here : (v : View) → Grows v v
grows_here v = record { more = []; names = sym (append-nil v.names); low = refl }

grows_then : (u v w : View) → Grows u v → Grows v w → Grows u w
grows_then u v w g h = record { more = g.more ++ h.more; names = h.names ∙ (ap (λ ns. ns ++ h.more) g.names ∙ append_assoc u.names g.more h.more); low = h.low ∙ g.low }

steady_then : (s t u : State) → IsSteady s t → IsSteady t u → IsSteady s u
steady_then s t u g h = record { ticks = h.ticks ∙ g.ticks; pieces = h.pieces ∙ g.pieces; frozen = h.frozen ∙ g.frozen }

pub steady_here : (s : State) → IsSteady s s
steady_here s = record { ticks = refl; pieces = refl; frozen = refl }

pub lent_here : (heap : HeapState) (frames : ℕ) (out : ℕ → Bool) (floors : ℕ → ℕ) → KnowsFrames heap out → StillLent heap heap frames frames out out floors floors
lent_here heap frames out floors known = record { known = known; still_out = λ f e. e; same_floors = λ f. refl; same_frames = refl; as_long = refl }

pub lent_then : (h k l : HeapState) (fh fk fl : ℕ) (oh ok ol : ℕ → Bool) (lh lk ll : ℕ → ℕ) → StillLent h k fh fk oh ok lh lk → StillLent k l fk fl ok ol lk ll → StillLent h l fh fl oh ol lh ll
lent_then h k l fh fk fl oh ok ol lh lk ll a b = record {
  known = b.known;
  still_out = λ f e. b.still_out f (a.still_out f e);
  same_floors = λ f. b.same_floors f ∙ a.same_floors f;
  same_frames = b.same_frames ∙ a.same_frames;
  as_long = b.as_long ∙ a.as_long;
}

out_before : (o n : ℕ → Bool) → StillOut o n → (f : ℕ) → n f ≡ false → o f ≡ false
out_before o n still f e = by (o f) refl
  where
    by : (b : Bool) → o f ≡ b → o f ≡ false
    by false h = h
    by true h = absurd (let clash : true ≡ false = sym (still f h) ∙ e in let x : ⊥ = cc in x)

pub low_on : (low : ℕ → ℕ → ℕ) (h k : HeapState) (fh fk : ℕ) (oh ok : ℕ → Bool) (lh lk : ℕ → ℕ) → StillLent h k fh fk oh ok lh lk → LowIsFloor low oh lh → LowIsFloor low ok lk
low_on low h k fh fk oh ok lh lk lent is f slot e = is f slot (out_before oh ok lent.still_out f e) ∙ sym (lent.same_floors f)

-- ---- from one place of a function on

module _ (code : Parts) (function : ℕ) (s : Scene) (v : View) (c : Config) where
  abbrev pub led_here : (heap : HeapState) (cells : List (Option Cell)) (place left : ℕ) → c ≡ config s v place cells → Runs v heap cells left → Led code s v c heap cells place left
  led_here heap cells place left is runs = record { view = v; grows = grows_here v; runs = runs; steady = steady_here v.state; leads = subst (λ d. Leads code c d) is (leads_here code c) }

  module _ (heap : HeapState) (cells : List (Option Cell)) (place left : ℕ) (l : Led code s v c heap cells place left) where
    abbrev there : Config
    there = config s l.view place cells

    pub led_on : (next : Next) (new : HeapState) (after : List (Option Cell)) (new_place new_left : ℕ) → step code there ≡ next → GoesOn s l.view next new after new_place new_left → Led code s v c new after new_place new_left
    led_on next new after new_place new_left e g = record {
      view = g.view;
      grows = grows_then v l.view g.view l.grows g.grows;
      runs = g.runs;
      steady = steady_then v.state l.view.state g.view.state l.steady (record { ticks = g.ticks; pieces = g.pieces; frozen = g.frozen });
      leads = leads_on code c there (config s g.view new_place after) l.leads (e ∙ g.is);
    }

    pub ends_here : (new_left : ℕ) → new_left ≡ left → LedTo code v c there new_left
    ends_here new_left e = record { leads = l.leads; steady = l.steady; ticks_left = l.runs.ticks_left ∙ sym e }

    pub left_so : (new : HeapState) (after : List (Option Cell)) (new_place new_left : ℕ) → IsSame heap cells place left new after new_place new_left → Led code s v c new after new_place new_left
    left_so new after new_place new_left same =
        subst (λ h. Led code s v c h after new_place new_left) (sym same.heap_same)
        (subst (λ cs. Led code s v c heap cs new_place new_left) (sym same.cells_same)
        (subst (λ p. Led code s v c heap cells p new_left) (sym same.place_same)
        (subst (λ k. Led code s v c heap cells place k) (sym same.left_same) l)))

    -- a stop that isn't going on ends the stretch here
    pub ended : (told : Stop) (instr : Instr) (out : ℕ → Bool) (floors : ℕ → ℕ) (body : List Instr) (new : HeapState) (after : List (Option Cell)) (new_place new_left : ℕ) → (told ≡ stop.Going → ⊥) → LowIsFloor l.view.low out floors → s.code ≡ code
        → fetch code s.function place ≡ Some instr → step code there ≡ next_of s l.view place cells instr → IsBody s.code s.function body → IsRight (next_of s l.view place cells instr)
        → Obeyed out floors code body instr heap cells place left told new after new_place new_left → Leaving told instr → IfStopped told (new_left ≡ left) → Ended code s v c told new after new_place new_left
    ended stop.Going instr out floors body new after new_place new_left n low oc at e is right o k same = n refl
    ended (stop.Trap kind spot) instr out floors body new after new_place new_left n low oc at e is right o k same = (there, ends_here new_left same, e ∙ o s l.view low oc is l.runs right)
    ended stop.Cut instr out floors body new after new_place new_left n low oc at e is right o k same = (there, ends_here new_left same, e ∙ o s l.view low oc is l.runs right)
    ended stop.Aside instr out floors body new after new_place new_left n low oc at e is right o k same = (left_so new after new_place new_left o, (instr, ap (fetch code s.function) o.place_same ∙ at, k))
    ended stop.Enters instr out floors body new after new_place new_left n low oc at e is right o k same = (left_so new after new_place new_left o, (instr, ap (fetch code s.function) o.place_same ∙ at, k))
    ended (stop.Leaves from) instr out floors body new after new_place new_left n low oc at e is right o k same = (left_so new after new_place new_left o, (instr, ap (fetch code s.function) o.place_same ∙ at, k))

-- what a function comes to that stays within itself
pub obeyed_by : (out : ℕ → Bool) (floors : ℕ → ℕ) (code : Parts) (body : List Instr) (instr : Instr) (heap : HeapState) (cells : List (Option Cell)) (place left : ℕ) (told : Stop) (new : HeapState) (after : List (Option Cell)) (new_place new_left : ℕ) → Stays told
    → ObeysWithinLent out floors code body instr heap cells place left told new after new_place new_left → Obeyed out floors code body instr heap cells place left told new after new_place new_left
obeyed_by out floors code body instr heap cells place left stop.Going new after new_place new_left k o = o
obeyed_by out floors code body instr heap cells place left (stop.Trap kind at) new after new_place new_left k o = o
obeyed_by out floors code body instr heap cells place left stop.Cut new after new_place new_left k o = o
obeyed_by out floors code body instr heap cells place left stop.Aside new after new_place new_left k o = absurd k
obeyed_by out floors code body instr heap cells place left stop.Enters new after new_place new_left k o = absurd k
obeyed_by out floors code body instr heap cells place left (stop.Leaves from) new after new_place new_left k o = absurd k

pub leaving_by : (told : Stop) (instr : Instr) → Stays told → Leaving told instr
leaving_by stop.Going instr k = tt
leaving_by (stop.Trap kind at) instr k = tt
leaving_by stop.Cut instr k = tt
leaving_by stop.Aside instr k = absurd k
leaving_by stop.Enters instr k = absurd k
leaving_by (stop.Leaves from) instr k = absurd k

pub both_ok : {T E : Type 0} (r : Result T E) (P Q R : T → Type 0) → IfOk r P → IfOk r Q → ((x : T) → P x → Q x → R x) → IfOk r R
both_ok (Ok x) P Q R p q f = f x p q
both_ok (Err e) P Q R p q f = tt

-- ---- the function goes on

module _ (code : Parts) (function : ℕ) (s : Scene) (v : View) (heap new : HeapState) (cells after : List (Option Cell)) (place left new_place new_left : ℕ) (frames new_frames : ℕ) (out new_out : ℕ → Bool) (floors new_floors : ℕ → ℕ) where
  pub way_on : (next : Next) → IsUnderWay code function out floors s v heap cells place left → step code (config s v place cells) ≡ next → (g : GoesOn s v next new after new_place new_left)
      → StillLent heap new frames new_frames out new_out floors new_floors → IsUnderWay code function new_out new_floors s g.view new after new_place new_left
  way_on next u e g lent = record {
    of_code = u.of_code;
    by_last = u.by_last;
    of_function = u.of_function;
    low = subst (λ low. LowIsFloor low new_out new_floors) (sym g.grows.low) (low_on v.low heap new frames new_frames out new_out floors new_floors lent u.low);
    runs = g.runs;
    sound = sound_on code (config s v place cells) (config s g.view new_place after) (e ∙ g.is) u.sound;
  }

-- ---- how much is left to do within the function

-- more than the steps that it makes
abbrev pub measure : Parts → ℕ → ℕ → ℕ → ℕ
measure code function place left = left * for_tick code + at_top code (Running (record { call = main_frame; function = function; dest = None; place = place; registers = [] }))

module _ (code : Parts) (s : Scene) where
  measured : (v : View) (cells : List (Option Cell)) (place left : ℕ) → v.state.left ≡ left → fuel code (config s v place cells) ≡ measure code s.function place left + at_below code s.below
  measured v cells place left e = ap (λ n. n * for_tick code + at_top code (Running (record { call = main_frame; function = s.function; dest = None; place = place; registers = [] })) + at_below code s.below) e

  pub measures_less : (v w : View) (cells after : List (Option Cell)) (place left new_place new_left : ℕ) → v.state.left ≡ left → w.state.left ≡ new_left → step code (config s v place cells) ≡ On (config s w new_place after)
      → measure code s.function new_place new_left < measure code s.function place left
  measures_less v w cells after place left new_place new_left e h on =
      let less = less_fuel code (config s v place cells) (config s w new_place after) on in
      omega (arith, less, measured v cells place left e, measured w after new_place new_left h)

-- ---- one instruction of a stretch

module _ (code : Parts) (function : ℕ) (func : Func) (body : List Instr) (instr : Instr) (found : slice_get code.funcs function ≡ Some func) (is : func.body ≡ body) where
  module _ (heap new : HeapState) (cells after : List (Option Cell)) (place left new_place new_left : ℕ) (frames new_frames : ℕ) (out new_out : ℕ → Bool) (floors new_floors : ℕ → ℕ) (at : slice_get body place ≡ Some instr) where
    -- where it goes on, it goes on so
    pub goes_so : (s : Scene) (v : View) → IsUnderWay code function out floors s v heap cells place left → Obeyed out floors code body instr heap cells place left stop.Going new after new_place new_left
        → GoesOn s v (next_of s v place cells instr) new after new_place new_left
    goes_so s v u o = o s v u.low u.of_code (is_body code function out floors s v heap cells place left u func body instr found is at) u.runs (is_right code function out floors s v heap cells place left u func body instr found is at)

    pub led_so : (s : Scene) (v : View) (c : Config) (l : Led code s v c heap cells place left) → IsUnderWay code function out floors s l.view heap cells place left → Obeyed out floors code body instr heap cells place left stop.Going new after new_place new_left
        → StillLent heap new frames new_frames out new_out floors new_floors
        → (d : Led code s v c new after new_place new_left) × IsUnderWay code function new_out new_floors s d.view new after new_place new_left
    unfolding led_on goes_so
    led_so s v c l u o lent =
        let g = goes_so s l.view u o in
        let e = step_is code function out floors s l.view heap cells place left u func body instr found is at in (
          led_on code function s v c heap cells place left l (next_of s l.view place cells instr) new after new_place new_left e g,
          way_on code function s l.view heap new cells after place left new_place new_left frames new_frames out new_out floors new_floors (next_of s l.view place cells instr) u e g lent,
        )

    pub less_so : (s : Scene) (v : View) → IsUnderWay code function out floors s v heap cells place left → Obeyed out floors code body instr heap cells place left stop.Going new after new_place new_left
        → measure code function new_place new_left < measure code function place left
    less_so s v u o =
        let g = goes_so s v u o in
        let e = step_is code function out floors s v heap cells place left u func body instr found is at in
        subst (λ f. measure code f new_place new_left < measure code f place left) u.of_function
        (measures_less code s v g.view cells after place left new_place new_left u.runs.ticks_left g.runs.ticks_left (e ∙ g.is))

    -- where it doesn't, the stretch ends
    pub ended_so : (s : Scene) (v : View) (c : Config) (l : Led code s v c heap cells place left) → IsUnderWay code function out floors s l.view heap cells place left → (told : Stop) → (told ≡ stop.Going → ⊥)
        → Obeyed out floors code body instr heap cells place left told new after new_place new_left → Leaving told instr → IfStopped told (new_left ≡ left) → Ended code s v c told new after new_place new_left
    ended_so s v c l u told n o k same =
        ended code function s v c heap cells place left l told instr out floors body new after new_place new_left n u.low u.of_code
        (is_here code function out floors s l.view heap cells place left u func body instr found is at) (step_is code function out floors s l.view heap cells place left u func body instr found is at)
        (is_body code function out floors s l.view heap cells place left u func body instr found is at) (is_right code function out floors s l.view heap cells place left u func body instr found is at) o k same
