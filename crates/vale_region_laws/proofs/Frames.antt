-- Functions are entered and left, objects are destroyed, and loops run: each keeps the invariant of the configuration.
use Rattle.std.proofs.Common.{◌≡◌, ◌≢◌, ◌≤◌, ℕ, zero, suc, ◌+◌, ◌-◌, min, List, [], ◌∷◌, ◌++◌, map, Option, Some, None, Bool, true, false, if◌then◌else◌, inr, refl, sym, ap, ◌∙◌, subst, arith}
use Rattle.vale_state_spec.specs.State.{State, spend_of, has_depth, freeze, freeze_iteration, thaw, thaw_iteration, merged, kept, cleared}
use Rattle.vale_state_spec.specs.World as w
use Rattle.vale_state_spec.specs.World.{Value, Int, Truth, Text, Own, Ref, Iso, Region, Freeze, Isolate, Object, World, Lives, relabelled}
use Rattle.vale_base.specs.declared.spot.Spot.{Spot}
use Rattle.vale_base.specs.declared.trap.FrameAt.{FrameAt}
use Rattle.vale_code.specs.Enter.{Form, Plain, Pure, Iteration, Destructor, enter, leave_function}
use Rattle.vale_code.specs.Frames.{Iterating, Items, Numbers, Elements, Frame, Running, Dropping, Looping, Alone, Next, on, trap, under, deeper, ticked, after_tick, leave}
use Rattle.vale_code.specs.Parts.{Parts}
use Rattle.vale_code.specs.Registers.{registers_for, put}
use Rattle.vale_code.specs.declared.func.Func.{Func}
use Rattle.vale_region_laws.specs.Configs.{IsUnder, Standing, MarkUnder, base_of, form_at, StackFits, TopFits, NextFits, in_args, arrived}
use Rattle.vale_region_laws.specs.Holding.{Marks, put_mark, held_as, waiting_all, seeing_all, items_wait, Marked, in_frame, in_frames}
use Rattle.vale_region_laws.specs.Owned.{own}
use Rattle.vale_region_laws.specs.Regions.{Each, Homes, How, Held, Seen, Waits, Holder, held, Fits, scene, holding, holding_all, lower_all, lowered_home, kept_home, Outlives, Leaves, HoldsNoIso}
use Rattle.vale_region_laws.proofs.Holding.{give_fits}
use Rattle.vale_region_laws.proofs.Moving.{held_fits, opens_fits}
use Rattle.vale_region_laws.proofs.Standing.{standing_leaves, standing_same, stack_stands, begun_registers, all_arrive}
use Rattle.vale_region_laws.proofs.States.{FitsAt}
use Rattle.vale_region_laws.proofs.Thawing.{merged_fits, kept_fits, cleared_fits}

module _ (code : Parts) where
  pub with_tick : (s : State) (go : State → Next) → ((n : ℕ) → NextFits code (go (record s { left = n; spent = s.spent + 1 }))) → NextFits code (after_tick s go)
  with_tick s go each = from s.left
    where
      from : (n : ℕ) → NextFits code (ticked (spend_of n s) s go)
      from zero = tt
      from (suc n) = each n

  pub with_depth : (more : ℕ) (at : Spot) (frames : List Frame) (s : State) (go : Next) → NextFits code go → NextFits code (deeper more at frames s go)
  with_depth more at frames s go h = from (has_depth more (under frames) s)
    where
      from : (b : Bool) → NextFits code (if b then go else trap Rattle.vale_base.specs.declared.trap.TrapKind.TheVariants.CallDepth at frames s)
      from true = h
      from false = tt

  -- ---- functions are entered

  arrived_under : (d : ℕ) (ps : List How) → Each (IsUnder d d) ps → Each (MarkUnder d d) (map Some (map (arrived d) ps))
  arrived_under d [] u = tt
  arrived_under d (p ∷ ps) u = (at p u.0, arrived_under d ps u.1)
    where
      at : (p : How) → IsUnder d d p → IsUnder d d (arrived d p)
      at (Held a) u = u
      at (Seen a) u = u
      at Waits u = omega arith

  begun_fits : (g : ℕ) (form : Form) (func : Func) (call : FrameAt) (dest : Option ℕ) (ps : List How) (vs : List Value) (frames : List Frame) (t : State) (home : Homes) (ms : List Marked) (out : ℕ)
      → form_at code g ≡ Some form → base_of form out ≤ t.regions → StackFits code out (base_of form out) ms frames → Each (IsUnder t.regions t.regions) ps
      → FitsAt home (in_args ps vs (in_frames ms frames)) t
      → NextFits code (on (Running (record { call = call; function = g; dest = dest; place = 0; registers = registers_for func.registers vs })) frames t)
  begun_fits g form func call dest ps vs frames t home ms out is le stack u f =
      let there = all_arrive ps vs home (in_frames ms frames) t.world t.regions f in
      record {
        home = there.home_after;
        top = record { depth = t.regions; marks = map Some (map (arrived t.regions) ps) };
        marks = ms;
        depth = refl;
        stack = (arrived_under t.regions ps u, form, out, is, le, stack);
        fits = subst (λ gs. Fits (scene there.home_after gs t.world t.regions)) (sym (begun_registers (map (arrived t.regions) ps) vs func.registers (in_frames ms frames))) there.fits;
      }

  -- with these arguments over frames that go on at this depth
  pub enter_fits : (g : ℕ) (form : Form) (func : Func) (call : FrameAt) (dest : Option ℕ) (ps : List How) (vs : List Value) (frames : List Frame) (s : State) (home : Homes) (ms : List Marked)
      → form_at code g ≡ Some form → StackFits code s.regions (base_of form s.regions) ms frames → Each (IsUnder s.regions (base_of form s.regions)) ps
      → FitsAt home (in_args ps vs (in_frames ms frames)) s
      → NextFits code (enter g form func call dest vs frames s)
  enter_fits g Plain func call dest ps vs frames s home ms is stack u f =
      with_depth 1 call.at frames s _ (with_tick s _ (λ n. begun_fits g Plain func call dest ps vs frames (record s { left = n; spent = s.spent + 1 }) home ms s.regions is (omega arith) stack u f))
  enter_fits g Destructor func call dest ps vs frames s home ms is stack u f =
      with_depth 1 call.at frames s _ (with_tick s _ (λ n. begun_fits g Destructor func call dest ps vs frames (record s { left = n; spent = s.spent + 1 }) home ms s.regions is (omega arith) stack u f))
  enter_fits g Pure func call dest ps vs frames s home ms is stack u f =
      with_depth 2 call.at frames s _ (with_tick s _ (λ n. begun_fits g Pure func call dest ps vs frames (freeze (record s { left = n; spent = s.spent + 1 })) home ms s.regions is (omega arith) stack (inside ps u) (opened f)))
    where
      more : suc s.regions ≡ s.regions + 1
      more = omega arith

      inside : (ps : List How) → Each (IsUnder s.regions (suc s.regions)) ps → Each (IsUnder (s.regions + 1) (s.regions + 1)) ps
      inside [] u = tt
      inside (p ∷ ps) u = (at p u.0, inside ps u.1)
        where
          at : (p : How) → IsUnder s.regions (suc s.regions) p → IsUnder (s.regions + 1) (s.regions + 1) p
          at (Held a) u = omega (arith, u)
          at (Seen a) u = omega (arith, u)
          at Waits u = tt

      opened : FitsAt home (in_args ps vs (in_frames ms frames)) s → Fits (scene home (in_args ps vs (in_frames ms frames)) s.world (s.regions + 1))
      opened f = subst (λ c. Fits (scene home (in_args ps vs (in_frames ms frames)) s.world c)) more (opens_fits home (in_args ps vs (in_frames ms frames)) s.world s.regions f)
  enter_fits g Iteration func call dest ps vs frames s home ms is stack u f =
      with_depth 1 call.at frames s _ (with_tick s _ (λ n. begun_fits g Iteration func call dest ps vs frames (freeze_iteration (record s { left = n; spent = s.spent + 1 })) home ms s.regions is (omega arith) stack (inside ps u) (opened f)))
    where
      more : suc s.regions ≡ s.regions + 1
      more = omega arith

      inside : (ps : List How) → Each (IsUnder s.regions (suc s.regions)) ps → Each (IsUnder (s.regions + 1) (s.regions + 1)) ps
      inside [] u = tt
      inside (p ∷ ps) u = (at p u.0, inside ps u.1)
        where
          at : (p : How) → IsUnder s.regions (suc s.regions) p → IsUnder (s.regions + 1) (s.regions + 1) p
          at (Held a) u = omega (arith, u)
          at (Seen a) u = omega (arith, u)
          at Waits u = tt

      opened : FitsAt home (in_args ps vs (in_frames ms frames)) s → Fits (scene home (in_args ps vs (in_frames ms frames)) s.world (s.regions + 1))
      opened f = subst (λ c. Fits (scene home (in_args ps vs (in_frames ms frames)) s.world c)) more (opens_fits home (in_args ps vs (in_frames ms frames)) s.world s.regions f)

  -- ---- frames go on with a value

  pub mark_put : (r : ℕ) (to : ℕ) (how : How) (ms : Marks) → IsUnder r r how → Each (MarkUnder r r) ms → Each (MarkUnder r r) (put_mark ms to (Some how))
  mark_put r zero how [] u x = (u, tt)
  mark_put r (suc to) how [] u x = (tt, mark_put r to how [] u x)
  mark_put r zero how (m ∷ ms) u x = (u, x.1)
  mark_put r (suc to) how (m ∷ ms) u x = (x.0, mark_put r to how ms u x.1)

  -- a value may be let go
  pub let_go : (home : Homes) (h : Holder) (hs : List Holder) (s : State) → FitsAt home (h ∷ hs) s → FitsAt home hs s
  let_go home h hs s f = held_fits home (h ∷ hs) hs s.world s.regions (λ n. omega arith) f.holders.1 f

  pub goes_on : (r b : ℕ) (g : Frame) (fs : List Frame) (s : State) (home : Homes) (m : Marked) (ms : List Marked) → s.regions ≡ r → StackFits code r b (m ∷ ms) (g ∷ fs) → FitsAt home (in_frames (m ∷ ms) (g ∷ fs)) s → NextFits code (on g fs s)
  goes_on r b (Running f) fs s home m ms e x fits = record {
    home = home;
    top = m;
    marks = ms;
    depth = x.0 ∙ sym e;
    stack = subst (λ c. TopFits code m ms (Running f) fs c) (sym e) (x.1, x.2, x.3, x.4, x.5, x.7);
    fits = fits;
  }
  goes_on r b (Dropping f) fs s home m ms e x fits = record { home = home; top = m; marks = ms; depth = x.0 ∙ sym e; stack = subst (λ c. TopFits code m ms (Dropping f) fs c) (sym e) x.2; fits = fits }
  goes_on r b (Looping f) fs s home m ms e x fits = record { home = home; top = m; marks = ms; depth = x.0 ∙ sym e; stack = subst (λ c. TopFits code m ms (Looping f) fs c) (sym e) x.2; fits = fits }
  goes_on r b (Alone v) fs s home m ms e x fits = record { home = home; top = m; marks = ms; depth = x.0 ∙ sym e; stack = subst (λ c. TopFits code m ms (Alone v) fs c) (sym e) x.2; fits = fits }

  -- with none, or with one that is let go
  pub leave_without : (r b : ℕ) (frames : List Frame) (s : State) (home : Homes) (ms : List Marked) (dest : Option ℕ) → s.regions ≡ r → StackFits code r b ms frames → FitsAt home (in_frames ms frames) s
      → NextFits code (leave frames dest None s)
  leave_without r b [] s home ms dest e x fits = tt
  leave_without r b (g ∷ fs) s home [] dest e x fits = absurd x
  leave_without r b (g ∷ fs) s home (m ∷ ms) None e x fits = goes_on r b g fs s home m ms e x fits
  leave_without r b (g ∷ fs) s home (m ∷ ms) (Some to) e x fits = goes_on r b g fs s home m ms e x fits

  done_behind : (a : ℕ) (vs : List Value) (v : Value) (hs : List Holder) → holding_all a (vs ++ v ∷ []) hs ≡ holding_all a vs (holding a v ∷ hs)
  done_behind a [] v hs = refl
  done_behind a (u ∷ vs) v hs = ap (λ gs. holding a u ∷ gs) (done_behind a vs v hs)

  -- a holder goes after others
  pub record Goes (h : Holder) (before after : List Holder) : Type 1 where
    pub counts : (n : ℕ) → held n after ≡ own n h.value + held n before
    pub each : (P : Holder → Type 0) → P h → Each P before → Each P after

  pub first_goes : (h : Holder) (hs : List Holder) → Goes h hs (h ∷ hs)
  first_goes h hs = record { counts = λ n. refl; each = λ P p x. (p, x) }

  behind_one : (h g : Holder) (before after : List Holder) → Goes h before after → Goes h (g ∷ before) (g ∷ after)
  behind_one h g before after x = record { counts = λ n. let y = x.counts n in omega (arith, y); each = λ P p q. (q.0, x.each P p q.1) }

  behind_held : (h : Holder) (a : ℕ) (vs : List Value) (before after : List Holder) → Goes h before after → Goes h (holding_all a vs before) (holding_all a vs after)
  behind_held h a [] before after x = x
  behind_held h a (v ∷ vs) before after x = behind_one h (holding a v) _ _ (behind_held h a vs before after x)

  pub behind_waiting : (h : Holder) (vs : List Value) (before after : List Holder) → Goes h before after → Goes h (waiting_all vs before) (waiting_all vs after)
  behind_waiting h [] before after x = x
  behind_waiting h (v ∷ vs) before after x = behind_one h _ _ _ (behind_waiting h vs before after x)

  pub behind_seeing : (h : Holder) (a : ℕ) (vs : List Value) (before after : List Holder) → Goes h before after → Goes h (seeing_all a vs before) (seeing_all a vs after)
  behind_seeing h a [] before after x = x
  behind_seeing h a (v ∷ vs) before after x = behind_one h _ _ _ (behind_seeing h a vs before after x)

  pub moved_fits : (home : Homes) (h : Holder) (before after : List Holder) (s : State) → Goes h before after → FitsAt home (h ∷ before) s → FitsAt home after s
  moved_fits home h before after s x f = held_fits home (h ∷ before) after s.world s.regions (λ n. let y = x.counts n in omega (arith, y)) (x.each _ f.holders.0 f.holders.1) f

  pub behind_items : (h : Holder) (items : Items) (before after : List Holder) → Goes h before after → Goes h (items_wait items before) (items_wait items after)
  behind_items h (Numbers x more) before after g = g
  behind_items h (Elements vs) before after g = behind_waiting h vs before after g

  -- one value more comes to a loop's
  loop_gets : (home : Homes) (m : Marked) (f : Iterating) (v : Value) (hs : List Holder) (s : State) → FitsAt home (holding m.depth v ∷ in_frame m (Looping f) hs) s
      → FitsAt home (in_frame m (Looping (record f { done = f.done ++ v ∷ [] })) hs) s
  loop_gets home m f v hs s x = moved_fits home (holding m.depth v) _ _ s
      (behind_seeing _ (suc m.depth) f.captured _ _ (behind_items _ f.items _ _
      (subst (Goes (holding m.depth v) (holding_all m.depth f.done hs)) (sym (done_behind m.depth f.done v hs)) (behind_held _ m.depth f.done _ _ (first_goes (holding m.depth v) hs))))) x

  -- the frame below goes on with a value, or with an `&imm` where it is no loop
  pub leave_held : (r b : ℕ) (frames : List Frame) (s : State) (home : Homes) (ms : List Marked) (dest : Option ℕ) (v : Value) → s.regions ≡ r → StackFits code r b ms frames
      → FitsAt home (holding r v ∷ in_frames ms frames) s → NextFits code (leave frames dest (Some v) s)
  leave_held r b [] s home ms dest v e x fits = tt
  leave_held r b (g ∷ fs) s home [] dest v e x fits = absurd x
  leave_held r b (g ∷ fs) s home (m ∷ ms) None v e x fits = goes_on r b g fs s home m ms e x (let_go home (holding r v) _ s fits)
  leave_held r b (Running f ∷ fs) s home (m ∷ ms) (Some to) v e x fits =
      goes_on r b (Running (record f { registers = put f.registers to (Some v) })) fs s home (record m { marks = put_mark m.marks to (Some (Held r)) }) ms e
      (x.0, mark_put r to (Held r) m.marks (omega arith) x.1, x.2, x.3, x.4, x.5, x.6, x.7)
      (give_fits home (in_frames ms fs) s to (Held r) v m.marks f.registers fits)
  leave_held r b (Dropping f ∷ fs) s home (m ∷ ms) (Some to) v e x fits = goes_on r b (Dropping f) fs s home m ms e x (let_go home (holding r v) _ s fits)
  leave_held r b (Looping f ∷ fs) s home (m ∷ ms) (Some to) v e x fits =
      goes_on r b (Looping (record f { done = f.done ++ v ∷ [] })) fs s home m ms e x
      (loop_gets home m f v (in_frames ms fs) s (subst (λ a. FitsAt home (holding a v ∷ in_frame m (Looping f) (in_frames ms fs)) s) (sym x.0) fits))
  leave_held r b (Alone o ∷ fs) s home (m ∷ ms) (Some to) v e x fits = goes_on r b (Alone (Some v)) fs s home m ms e x (let_go home (holding r v) _ s fits)

  pub leave_seen : (r : ℕ) (frames : List Frame) (s : State) (home : Homes) (ms : List Marked) (dest : Option ℕ) (v : Value) → s.regions ≡ r → StackFits code r r ms frames
      → FitsAt home (held_as (Seen r) v ∷ in_frames ms frames) s → NextFits code (leave frames dest (Some v) s)
  leave_seen r [] s home ms dest v e x fits = tt
  leave_seen r (g ∷ fs) s home [] dest v e x fits = absurd x
  leave_seen r (g ∷ fs) s home (m ∷ ms) None v e x fits = goes_on r r g fs s home m ms e x (let_go home (held_as (Seen r) v) _ s fits)
  leave_seen r (Running f ∷ fs) s home (m ∷ ms) (Some to) v e x fits =
      goes_on r r (Running (record f { registers = put f.registers to (Some v) })) fs s home (record m { marks = put_mark m.marks to (Some (Seen r)) }) ms e
      (x.0, mark_put r to (Seen r) m.marks (omega arith) x.1, x.2, x.3, x.4, x.5, x.6, x.7)
      (give_fits home (in_frames ms fs) s to (Seen r) v m.marks f.registers fits)
  leave_seen r (Dropping f ∷ fs) s home (m ∷ ms) (Some to) v e x fits = goes_on r r (Dropping f) fs s home m ms e x (let_go home (held_as (Seen r) v) _ s fits)
  leave_seen r (Looping f ∷ fs) s home (m ∷ ms) (Some to) v e x fits = absurd (let y = x.1 in omega (arith, y))
  leave_seen r (Alone o ∷ fs) s home (m ∷ ms) (Some to) v e x fits = goes_on r r (Alone (Some v)) fs s home m ms e x (let_go home (held_as (Seen r) v) _ s fits)

  -- ---- a pure function and an iteration end

  -- at the end of a freeze so many are open as outside
  ends_at : (P : ℕ → ℕ → Type 0) (c r : ℕ) → r ≡ suc c → P (suc c) c → P r (r - 1)
  ends_at P c r e x = subst (λ r. P r (r - 1)) (sym e) (subst (P (suc c)) (let y : c ≡ suc c - 1 = omega arith in y) x)

  module _ (out : ℕ) (below : List Frame) (s : State) (home : Homes) (ms : List Marked) (e : s.regions ≡ suc out) (stack : StackFits code out (suc out) ms below) where
    abbrev hs : List Holder
    hs = in_frames ms below

    stands : Standing out (suc out) (in_frames ms below)
    stands = stack_stands code out (suc out) ms below stack

    may_leave : Each (Leaves out) (in_frames ms below)
    may_leave = standing_leaves out (suc out) out (omega arith) (omega arith) (in_frames ms below) stands

    as_it_was : lower_all out (in_frames ms below) ≡ in_frames ms below
    as_it_was = standing_same out (suc out) out (omega arith) (in_frames ms below) stands

    outside : s.regions - 1 ≡ out
    outside = let x = e in omega (arith, x)

    cleared_none : FitsAt home (in_frames ms below) s → FitsAt (lowered_home out home) (in_frames ms below) (thaw cleared s)
    cleared_none f = ends_at (λ r c. Fits (scene (lowered_home out home) (in_frames ms below) (w.cleared (Freeze r) s.world) c)) out s.regions e
        (subst (λ gs. Fits (scene (lowered_home out home) gs (w.cleared (Freeze (suc out)) s.world) out)) as_it_was
        (cleared_fits home (in_frames ms below) s.world out may_leave (subst (λ c. Fits (scene home (in_frames ms below) s.world c)) e f)))

    -- a value that outlives it
    cleared_one : (v : Value) → Outlives v → FitsAt home (holding (suc out) v ∷ in_frames ms below) s → FitsAt (lowered_home out home) (holding out v ∷ in_frames ms below) (thaw cleared s)
    cleared_one v o f = ends_at (λ r c. Fits (scene (lowered_home out home) (holding out v ∷ in_frames ms below) (w.cleared (Freeze r) s.world) c)) out s.regions e
        (subst (λ a. Fits (scene (lowered_home out home) (holding a v ∷ in_frames ms below) (w.cleared (Freeze (suc out)) s.world) out)) (let y : min (suc out) out ≡ out = omega arith in y)
        (subst (λ gs. Fits (scene (lowered_home out home) (holding (min (suc out) out) v ∷ gs) (w.cleared (Freeze (suc out)) s.world) out)) as_it_was
        (cleared_fits home (holding (suc out) v ∷ in_frames ms below) s.world out (inr o, may_leave) (subst (λ c. Fits (scene home (holding (suc out) v ∷ in_frames ms below) s.world c)) e f))))

    merged_one : (n : ℕ) → FitsAt home (holding (suc out) (Own n) ∷ in_frames ms below) s → FitsAt (lowered_home out home) (holding out (Own n) ∷ in_frames ms below) (thaw merged s)
    merged_one n f = ends_at (λ r c. Fits (scene (lowered_home out home) (holding out (Own n) ∷ in_frames ms below) (relabelled (Freeze r) (Freeze c) s.world) c)) out s.regions e
        (subst (λ gs. Fits (scene (lowered_home out home) (holding out (Own n) ∷ gs) (relabelled (Freeze (suc out)) (Freeze out) s.world) out)) as_it_was
        (merged_fits home (in_frames ms below) s.world out n may_leave (subst (λ c. Fits (scene home (holding (suc out) (Own n) ∷ in_frames ms below) s.world c)) e f)))

    kept_one : (n : ℕ) → HoldsNoIso s.world (Freeze (suc out)) → FitsAt home (holding (suc out) (Own n) ∷ in_frames ms below) s → FitsAt (kept_home n out home) (holding out (Iso n) ∷ in_frames ms below) (thaw (kept n) s)
    kept_one n flat f = ends_at (λ r c. Fits (scene (kept_home n out home) (holding out (Iso n) ∷ in_frames ms below) (relabelled (Freeze r) (Isolate n) s.world) c)) out s.regions e
        (subst (λ gs. Fits (scene (kept_home n out home) (holding out (Iso n) ∷ gs) (relabelled (Freeze (suc out)) (Isolate n) s.world) out)) as_it_was
        (kept_fits home (in_frames ms below) s.world out n may_leave (subst (λ c. Fits (scene home (holding (suc out) (Own n) ∷ in_frames ms below) s.world c)) e f) flat))

    pub pure_ends_without : (dest : Option ℕ) → FitsAt home (in_frames ms below) s → NextFits code (leave_function Pure dest None below s)
    pure_ends_without dest f = leave_without out (suc out) below (thaw cleared s) (lowered_home out home) ms dest outside stack (cleared_none f)

    -- by an owner, an isolate or a value that leads nowhere: no reference comes out
    pub pure_ends : (dest : Option ℕ) (v : Value) → ((n : ℕ) → v ≢ Ref n) → FitsAt home (holding (suc out) v ∷ in_frames ms below) s → NextFits code (leave_function Pure dest (Some v) below s)
    pure_ends dest (Own n) none f = leave_held out (suc out) below (thaw merged s) (lowered_home out home) ms dest (Own n) outside stack (merged_one n f)
    pure_ends dest (Iso n) none f = leave_held out (suc out) below (thaw cleared s) (lowered_home out home) ms dest (Iso n) outside stack (cleared_one (Iso n) tt f)
    pure_ends dest (Ref n) none f = absurd (none n refl)
    pure_ends dest (Int n) none f = leave_held out (suc out) below (thaw cleared s) (lowered_home out home) ms dest (Int n) outside stack (cleared_one (Int n) tt f)
    pure_ends dest (Truth n) none f = leave_held out (suc out) below (thaw cleared s) (lowered_home out home) ms dest (Truth n) outside stack (cleared_one (Truth n) tt f)
    pure_ends dest (Text n) none f = leave_held out (suc out) below (thaw cleared s) (lowered_home out home) ms dest (Text n) outside stack (cleared_one (Text n) tt f)

    pub iteration_ends_without : (dest : Option ℕ) → FitsAt home (in_frames ms below) s → NextFits code (leave_function Iteration dest None below s)
    iteration_ends_without dest f = leave_without out (suc out) below (thaw_iteration cleared s) (lowered_home out home) ms dest outside stack (cleared_none f)

    pub iteration_ends : (dest : Option ℕ) (v : Value) → ((n : ℕ) → v ≢ Ref n) → ((n : ℕ) → v ≡ Own n → HoldsNoIso s.world (Freeze (suc out))) → FitsAt home (holding (suc out) v ∷ in_frames ms below) s → NextFits code (leave_function Iteration dest (Some v) below s)
    iteration_ends dest (Own n) none flat f = leave_held out (suc out) below (thaw_iteration (kept n) s) (kept_home n out home) ms dest (Iso n) outside stack (kept_one n (flat n refl) f)
    iteration_ends dest (Iso n) none flat f = leave_held out (suc out) below (thaw_iteration cleared s) (lowered_home out home) ms dest (Iso n) outside stack (cleared_one (Iso n) tt f)
    iteration_ends dest (Ref n) none flat f = absurd (none n refl)
    iteration_ends dest (Int n) none flat f = leave_held out (suc out) below (thaw_iteration cleared s) (lowered_home out home) ms dest (Int n) outside stack (cleared_one (Int n) tt f)
    iteration_ends dest (Truth n) none flat f = leave_held out (suc out) below (thaw_iteration cleared s) (lowered_home out home) ms dest (Truth n) outside stack (cleared_one (Truth n) tt f)
    iteration_ends dest (Text n) none flat f = leave_held out (suc out) below (thaw_iteration cleared s) (lowered_home out home) ms dest (Text n) outside stack (cleared_one (Text n) tt f)
