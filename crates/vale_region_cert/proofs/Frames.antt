-- Functions are entered and left, and objects destroyed, in certified code: what is known of registers tells how they are held.
use Rattle.std.proofs.Common.{◌≡◌, ℕ, zero, suc, ◌+◌, List, [], ◌∷◌, map, Option, Some, None, Bool, true, false, ◌&&◌, ◌==◌, if◌then◌else◌, refl, sym, ap, ◌∙◌, subst, arith}
use Rattle.std.specs.Prelude.{slice_get}
use Rattle.std.specs.List.{list_all}
use Rattle.std.proofs.lemmas.Bool.{and_parts}
use Rattle.vale_state_spec.specs.State.{State, spend_of, has_depth, object_of, join_isolate, drop_frame}
use Rattle.vale_state_spec.specs.World.{Value, Int, Truth, Text, Own, Ref, Iso, Object}
use Rattle.vale_base.specs.declared.spot.Spot.{Spot}
use Rattle.vale_base.specs.declared.trap.FrameAt.{FrameAt}
use Rattle.vale_code.specs.Destroy.{destroy_by, destroy_object, destroy, Owned, first_owned, drop_rest, drop_next}
use Rattle.vale_code.specs.Enter.{Form, Plain, Pure, Iteration, Destructor, form_of, with_form, with_func, function, if_destructor, enter}
use Rattle.vale_code.specs.Frames.{Active, Emptying, Frame, Running, Dropping, Looping, Alone, Next, on, trap, under, deeper, ticked, after_tick, leave}
use Rattle.vale_code.specs.Kinds.{kind_of, kind_text, destructor_in}
use Rattle.vale_code.specs.Parts.{Parts}
use Rattle.vale_code.specs.Registers.{registers_for, put}
use Rattle.vale_code.specs.declared.func.Func.{Func}
use Rattle.vale_code.specs.declared.kind.KindInfo.{KindInfo}
use Rattle.vale_code.specs.declared.kind.KindInfo.TheVariants as k
use Rattle.vale_code.specs.declared.ty.Ty.{Ty}
use Rattle.vale_code.specs.declared.ty.Ty.TheVariants as t
use Rattle.vale_cert.specs.Certificate.{Certified}
use Rattle.vale_cert.specs.Known.{Known, entry, label_at, may_enter, stated}
use Rattle.vale_cert.specs.Numbers.{is_text}
use Rattle.vale_cert.specs.Places.{known_at}
use Rattle.vale_cert.specs.Shape.{destroys, is_destructor_of, takes_owner, field_is_lawful}
use Rattle.vale_cert.specs.Types.{is_void}
use Rattle.vale_cert.specs.declared.facts.FuncFacts.{FuncFacts}
use Rattle.vale_cert.specs.declared.facts.Label.{Label}
use Rattle.vale_cert.proofs.KindLaws.{kind_lawful}
use Rattle.vale_cert.proofs.Placed.{known_first, known_there}
use Rattle.vale_cert.proofs.Walks.{reaches, Judged, judged}
use Rattle.vale_region_laws.specs.Configs.{IsUnder, MarkUnder, base_of, form_in, StackFits, TopFits, in_args}
use Rattle.vale_region_laws.specs.Holding.{Marks, put_mark, held_as, Marked, in_frames}
use Rattle.vale_region_laws.specs.Regions.{Each, Homes, Fits, scene, holding, holding_all}
use Rattle.vale_region_laws.proofs.Counts.{held_all}
use Rattle.vale_region_laws.proofs.Dropping.{first_counts, first_each, rest_of_all}
use Rattle.vale_region_laws.proofs.Frames.{mark_put, let_go}
use Rattle.vale_region_laws.proofs.Holding.{give_fits}
use Rattle.vale_region_laws.proofs.Moving.{held_fits}
use Rattle.vale_region_laws.proofs.Relabelling.{joined_fits}
use Rattle.vale_region_laws.proofs.Standing.{begun_registers}
use Rattle.vale_region_laws.proofs.States.{FitsAt, dies_fits}
use Rattle.vale_region_cert.specs.Joined.{out_of, FramesTold, RegionsFit, RegionsNext}
use Rattle.vale_region_cert.specs.Told.{Told, passed_as, resumed}
use Rattle.vale_region_cert.proofs.Told.{told_stated, entry_told}

-- ---- what is known at a place that is come to

-- what is known there is at most what was known before, and the depth is the same
pub record Landed (code : Parts) (f : Func) (of : FuncFacts) (place : ℕ) (before : Known) : Type 0 where
  pub known : Known
  pub states : known_at code f of place ≡ Some known
  pub depth : known.depth ≡ before.depth
  pub told : (b : ℕ) (ms : Marks) → Told b before.regs ms → Told b known.regs ms

pub landed : (code : Parts) (f : Func) (of : FuncFacts) (place : ℕ) (before : Known) → known_at code f of place ≡ stated (label_at of.labels place) (Some before) → may_enter (label_at of.labels place) before ≡ true
    → Landed code f of place before
landed code f of place before e may = from (label_at of.labels place) e may
  where
    from : (o : Option Label) → known_at code f of place ≡ stated o (Some before) → may_enter o before ≡ true → Landed code f of place before
    from None e may = record { known = before; states = e; depth = refl; told = λ b ms x. x }
    from (Some l) e may =
        let p = and_parts (l.depth == before.depth) (Rattle.vale_cert.specs.Known.agree l.regs before.regs) may in
        record { known = record { depth = l.depth; regs = l.regs }; states = e; depth = let y : (l.depth == before.depth) ≡ true = p.0 in grind arith; told = λ b ms x. told_stated b l.regs before.regs ms p.1 x }

pub same_func : (code : Parts) (n : ℕ) (f g : Func) → slice_get code.funcs n ≡ Some f → slice_get code.funcs n ≡ Some g → f ≡ g
same_func code n f g e h = let x : Some f ≡ Some g = sym e ∙ h in let y : f ≡ g = cc in y

-- these forms have no freeze of their own
abbrev pub IsQuiet : Form → Type 0
IsQuiet Plain = Unit {0}
IsQuiet Destructor = Unit {0}
IsQuiet Pure = ⊥
IsQuiet Iteration = ⊥

pub quiet_base : (form : Form) (out : ℕ) → IsQuiet form → base_of form out ≡ out
quiet_base Plain out q = refl
quiet_base Destructor out q = refl
quiet_base Pure out q = absurd q
quiet_base Iteration out q = absurd q

module _ (code : Parts) (facts : List FuncFacts) where
  pub with_tick : (s : State) (go : State → Next) → ((n : ℕ) → RegionsNext code facts (go (record s { left = n; spent = s.spent + 1 }))) → RegionsNext code facts (after_tick s go)
  with_tick s go each = from s.left
    where
      from : (n : ℕ) → RegionsNext code facts (ticked (spend_of n s) s go)
      from zero = tt
      from (suc n) = each n

  with_depth : (at : Spot) (frames : List Frame) (s : State) (go : Next) → RegionsNext code facts go → RegionsNext code facts (deeper 1 at frames s go)
  with_depth at frames s go h = from (has_depth 1 (under frames) s)
    where
      from : (b : Bool) → RegionsNext code facts (if b then go else trap Rattle.vale_base.specs.declared.trap.TrapKind.TheVariants.CallDepth at frames s)
      from true = h
      from false = tt

  -- a step with a function, whose form is then known
  pub with_known : (g : ℕ) (s : State) (go : Form → Func → Next) → ((form : Form) (func : Func) → slice_get code.funcs g ≡ Some func → form_of func.form ≡ Some form → RegionsNext code facts (go form func)) → RegionsNext code facts (function code g s go)
  with_known g s go each = at (slice_get code.funcs g) refl
    where
      by_form : (func : Func) → slice_get code.funcs g ≡ Some func → (o : Option Form) → form_of func.form ≡ o → RegionsNext code facts (with_form o func s go)
      by_form func e None h = tt
      by_form func e (Some x) h = each x func e h

      at : (o : Option Func) → slice_get code.funcs g ≡ o → RegionsNext code facts (with_func o s go)
      at None e = tt
      at (Some func) e = by_form func e (form_of func.form) refl

  -- ---- frames go on

  goes_on : (r b : ℕ) (g : Active) (fs : List Frame) (s : State) (home : Homes) (m : Marked) (ms : List Marked) → s.regions ≡ r → StackFits code r b (m ∷ ms) (Running g ∷ fs) → FitsAt home (in_frames (m ∷ ms) (Running g ∷ fs)) s
      → FramesTold code facts None t.Void (m ∷ ms) (Running g ∷ fs) → RegionsNext code facts (on (Running g) fs s)
  goes_on r b g fs s home m ms e x fits told = record {
    fits = record {
      home = home;
      top = m;
      marks = ms;
      depth = x.0 ∙ sym e;
      stack = subst (λ c. TopFits code m ms (Running g) fs c) (sym e) (x.1, x.2, x.3, x.4, x.5, x.7);
      fits = fits;
    };
    told = told;
  }

  drops_on : (r b : ℕ) (g : Emptying) (fs : List Frame) (s : State) (home : Homes) (m : Marked) (ms : List Marked) → s.regions ≡ r → StackFits code r b (m ∷ ms) (Dropping g ∷ fs) → FitsAt home (in_frames (m ∷ ms) (Dropping g ∷ fs)) s
      → FramesTold code facts None t.Void (m ∷ ms) (Dropping g ∷ fs) → RegionsNext code facts (on (Dropping g) fs s)
  drops_on r b g fs s home m ms e x fits told = record {
    fits = record { home = home; top = m; marks = ms; depth = x.0 ∙ sym e; stack = subst (λ c. TopFits code m ms (Dropping g) fs c) (sym e) x.2; fits = fits };
    told = told;
  }

  -- with no value
  pub leave_without : (r b : ℕ) (frames : List Frame) (s : State) (home : Homes) (ms : List Marked) (dest : Option ℕ) → s.regions ≡ r → StackFits code r b ms frames → FitsAt home (in_frames ms frames) s
      → FramesTold code facts dest t.Void ms frames → RegionsNext code facts (leave frames dest None s)
  leave_without r b [] s home ms dest e x fits told = tt
  leave_without r b (g ∷ fs) s home [] dest e x fits told = absurd x
  leave_without r b (Running g ∷ fs) s home (m ∷ ms) None e x fits told = goes_on r b g fs s home m ms e x fits told
  leave_without r b (Running g ∷ fs) s home (m ∷ ms) (Some to) e x fits told =
      let a = told.0 in
      goes_on r b g fs s home m ms e x fits (record { func = a.func; form = a.form; known = a.known; found = a.found; is_form = a.is_form; states = a.states; deep = a.deep; told = a.told }, told.1)
  leave_without r b (Dropping g ∷ fs) s home (m ∷ ms) None e x fits told = drops_on r b g fs s home m ms e x fits told
  leave_without r b (Dropping g ∷ fs) s home (m ∷ ms) (Some to) e x fits told = drops_on r b g fs s home m ms e x fits told
  leave_without r b (Looping g ∷ fs) s home (m ∷ ms) dest e x fits told = absurd told
  leave_without r b (Alone v ∷ fs) s home (m ∷ ms) dest e x fits told = absurd told

  given_is : (ty : Ty) (to c : ℕ) (ms : Marks) → is_void ty ≡ false → resumed (Some to) ty c ms ≡ put_mark ms to (Some (passed_as c ty))
  given_is t.Void to c ms e = let x : ⊥ = cc in absurd x
  given_is t.Int to c ms e = refl
  given_is t.Truth to c ms e = refl
  given_is t.Text to c ms e = refl
  given_is (t.Own k) to c ms e = refl
  given_is (t.Ref k) to c ms e = refl
  given_is (t.Frozen k) to c ms e = refl
  given_is (t.Iso k) to c ms e = refl

  given_under : (ty : Ty) (r c : ℕ) → r ≡ c → IsUnder c c (passed_as r ty)
  given_under (t.Frozen k) r c e = omega (arith, e)
  given_under t.Void r c e = omega (arith, e)
  given_under t.Int r c e = omega (arith, e)
  given_under t.Truth r c e = omega (arith, e)
  given_under t.Text r c e = omega (arith, e)
  given_under (t.Own k) r c e = omega (arith, e)
  given_under (t.Ref k) r c e = omega (arith, e)
  given_under (t.Iso k) r c e = omega (arith, e)

  -- the frame below goes on with a value of this type
  pub leave_with : (r b : ℕ) (frames : List Frame) (s : State) (home : Homes) (ms : List Marked) (dest : Option ℕ) (ty : Ty) (v : Value) → is_void ty ≡ false → s.regions ≡ r → StackFits code r b ms frames
      → FitsAt home (held_as (passed_as r ty) v ∷ in_frames ms frames) s → FramesTold code facts dest ty ms frames → RegionsNext code facts (leave frames dest (Some v) s)
  leave_with r b [] s home ms dest ty v is e x fits told = tt
  leave_with r b (g ∷ fs) s home [] dest ty v is e x fits told = absurd x
  leave_with r b (Running g ∷ fs) s home (m ∷ ms) None ty v is e x fits told =
      let a = told.0 in
      goes_on r b g fs s home m ms e x (let_go code home (held_as (passed_as r ty) v) _ s fits)
      (record { func = a.func; form = a.form; known = a.known; found = a.found; is_form = a.is_form; states = a.states; deep = a.deep; told = a.told }, told.1)
  leave_with r b (Running g ∷ fs) s home (m ∷ ms) (Some to) ty v is e x fits told =
      let a = told.0 in
      goes_on r b (record g { registers = put g.registers to (Some v) }) fs s home (record m { marks = put_mark m.marks to (Some (passed_as r ty)) }) ms e
      (x.0, mark_put code r to (passed_as r ty) m.marks (given_under ty r r refl) x.1, x.2, x.3, x.4, x.5, x.6, x.7)
      (give_fits home (in_frames ms fs) s to (passed_as r ty) v m.marks g.registers fits) (
        record {
          func = a.func;
          form = a.form;
          known = a.known;
          found = a.found;
          is_form = a.is_form;
          states = a.states;
          deep = a.deep;
          told = subst (Told (base_of a.form (out_of ms)) a.known.regs) (given_is ty to m.depth m.marks is ∙ ap (λ c. put_mark m.marks to (Some (passed_as c ty))) x.0) a.told;
        },
        told.1,
      )
  leave_with r b (Dropping g ∷ fs) s home (m ∷ ms) None ty v is e x fits told = drops_on r b g fs s home m ms e x (let_go code home (held_as (passed_as r ty) v) _ s fits) told
  leave_with r b (Dropping g ∷ fs) s home (m ∷ ms) (Some to) ty v is e x fits told = drops_on r b g fs s home m ms e x (let_go code home (held_as (passed_as r ty) v) _ s fits) told
  leave_with r b (Looping g ∷ fs) s home (m ∷ ms) dest ty v is e x fits told = absurd told
  leave_with r b (Alone o ∷ fs) s home (m ∷ ms) dest ty v is e x fits told = absurd told

  -- ---- functions are entered

  passed_under : (c : ℕ) (tys : List Ty) → Each (MarkUnder c c) (map Some (map (passed_as c) tys))
  passed_under c [] = tt
  passed_under c (ty ∷ tys) = (given_under ty c c refl, passed_under c tys)

  module _ (cert : Certified code facts) where
    -- with arguments of its parameters' types
    pub begun : (g : ℕ) (form : Form) (func : Func) (call : FrameAt) (dest : Option ℕ) (vs : List Value) (frames : List Frame) (s : State) (home : Homes) (ms : List Marked)
        → slice_get code.funcs g ≡ Some func → form_of func.form ≡ Some form → IsQuiet form → out_of ms ≡ s.regions → StackFits code s.regions s.regions ms frames
        → FitsAt home (in_args (map (passed_as s.regions) func.params) vs (in_frames ms frames)) s → FramesTold code facts dest func.result ms frames
        → RegionsNext code facts (on (Running (record { call = call; function = g; dest = dest; place = 0; registers = registers_for func.registers vs })) frames s)
    begun g form func call dest vs frames s home ms found is quiet deep stack fits told = record {
      fits = record {
        home = home;
        top = record { depth = s.regions; marks = map Some (map (passed_as s.regions) func.params) };
        marks = ms;
        depth = refl;
        stack = (passed_under s.regions func.params, form, s.regions, ap form_in found ∙ is, (let y = quiet_base form s.regions quiet in omega (arith, y)), subst (λ b. StackFits code s.regions b ms frames) (sym (quiet_base form s.regions quiet)) stack);
        fits = subst (λ gs. Fits (scene home gs s.world s.regions)) (sym (begun_registers (map (passed_as s.regions) func.params) vs func.registers (in_frames ms frames))) fits;
      };
      told = (
        record {
          func = func;
          form = form;
          known = l.known;
          found = found;
          is_form = is;
          states = known_there code facts g 0 func j.0 found j.2 ∙ l.states;
          deep = let x = l.depth in let y = quiet_base form (out_of ms) quiet in omega (arith, x, y, deep);
          told = subst (λ b. Told b l.known.regs (map Some (map (passed_as s.regions) func.params))) (sym (quiet_base form (out_of ms) quiet ∙ deep)) (l.told s.regions (map Some (map (passed_as s.regions) func.params)) (entry_told s.regions _ j.0.live func.params));
        },
        told,
      );
    }
      where
        j : (of : FuncFacts) × Judged code func of × (slice_get facts g ≡ Some of)
        j = judged code facts cert g func found

        l : Landed code func j.0 0 (entry func j.0)
        l = landed code func j.0 0 (entry func j.0) (known_first code func j.0 j.1.some) j.1.enters

    pub enters : (g : ℕ) (form : Form) (func : Func) (call : FrameAt) (dest : Option ℕ) (vs : List Value) (frames : List Frame) (s : State) (home : Homes) (ms : List Marked)
        → slice_get code.funcs g ≡ Some func → form_of func.form ≡ Some form → IsQuiet form → out_of ms ≡ s.regions → StackFits code s.regions s.regions ms frames
        → FitsAt home (in_args (map (passed_as s.regions) func.params) vs (in_frames ms frames)) s → FramesTold code facts dest func.result ms frames
        → RegionsNext code facts (enter g form func call dest vs frames s)
    enters g Plain func call dest vs frames s home ms found is quiet deep stack fits told =
        with_depth call.at frames s _ (with_tick s _ (λ n. begun g Plain func call dest vs frames (record s { left = n; spent = s.spent + 1 }) home ms found is quiet deep stack fits told))
    enters g Destructor func call dest vs frames s home ms found is quiet deep stack fits told =
        with_depth call.at frames s _ (with_tick s _ (λ n. begun g Destructor func call dest vs frames (record s { left = n; spent = s.spent + 1 }) home ms found is quiet deep stack fits told))
    enters g Pure func call dest vs frames s home ms found is quiet deep stack fits told = absurd quiet
    enters g Iteration func call dest vs frames s home ms found is quiet deep stack fits told = absurd quiet

    -- ---- destruction

    module _ (n : ℕ) (o : Object) (at : Spot) (frames : List Frame) (s : State) (home : Homes) (ms : List Marked) (deep : out_of ms ≡ s.regions) (stack : StackFits code s.regions s.regions ms frames) (lives : object_of n s ≡ Some o)
        (fits : FitsAt home (holding s.regions (Own n) ∷ in_frames ms frames) s) (told : FramesTold code facts None t.Void ms frames) where
      abbrev call : FrameAt
      call = drop_frame (kind_text code o.kind) at

      dies_now : RegionsNext code facts (destroy_by code None n o at frames s)
      dies_now = with_depth at frames s _ (with_tick s _ (λ k. record {
        fits = record { home = home; top = record { depth = s.regions; marks = [] }; marks = ms; depth = refl; stack = stack; fits = dies_fits home (in_frames ms frames) s n o lives fits };
        told = told;
      }))

      takes_it : (ps : List Ty) → takes_owner o.kind.0 ps ≡ true → FitsAt home (in_args (map (passed_as s.regions) ps) (Own n ∷ []) (in_frames ms frames)) s
      takes_it (t.Own kind ∷ []) e = fits
      takes_it _ e = let x : ⊥ = cc in absurd x

      void_is : (ty : Ty) → is_void ty ≡ true → ty ≡ t.Void
      void_is t.Void e = refl
      void_is _ e = let x : ⊥ = cc in absurd x

      by_function : (g : ℕ) → is_destructor_of o.kind.0 (slice_get code.funcs g) ≡ true → RegionsNext code facts (destroy_by code (Some g) n o at frames s)
      by_function g e = with_known g s _ (λ form func found is. by form func found is (subst (λ h. is_destructor_of o.kind.0 h ≡ true) found e))
        where
          by : (form : Form) (func : Func) → slice_get code.funcs g ≡ Some func → form_of func.form ≡ Some form → is_destructor_of o.kind.0 (Some func) ≡ true
              → RegionsNext code facts (if_destructor form s (enter g form func call None (Own n ∷ []) frames s))
          by Plain func found is e = tt
          by Pure func found is e = tt
          by Iteration func found is e = tt
          by Destructor func found is e =
              let a = and_parts ((func.form == 3) && takes_owner o.kind.0 func.params) (is_void func.result) e in
              let b = and_parts (func.form == 3) (takes_owner o.kind.0 func.params) a.0 in
              enters g Destructor func call None (Own n ∷ []) frames s home ms found is tt deep stack (takes_it func.params b.1) (subst (λ ty. FramesTold code facts None ty ms frames) (sym (void_is func.result a.1)) told)

      by_kind : (info : Option KindInfo) → kind_of code o.kind ≡ info → RegionsNext code facts (destroy_by code (destructor_in info) n o at frames s)
      by_kind None q = dies_now
      by_kind (Some (k.Struct name None fields)) q = dies_now
      by_kind (Some (k.Interface name methods)) q = dies_now
      by_kind (Some (k.Array item)) q = dies_now
      by_kind (Some (k.Struct name (Some g) fields)) q =
          let a = and_parts (is_text code name && destroys o.kind.0 code.funcs (Some g)) (list_all (field_is_lawful code (reaches code facts cert)) fields) (kind_lawful code facts cert o.kind (k.Struct name (Some g) fields) q) in
          by_function g (and_parts (is_text code name) (destroys o.kind.0 code.funcs (Some g)) a.0).1

    destroyed : (x : Option Object) (n : ℕ) (at : Spot) (frames : List Frame) (s : State) (home : Homes) (ms : List Marked) → out_of ms ≡ s.regions → StackFits code s.regions s.regions ms frames → object_of n s ≡ x
        → FitsAt home (holding s.regions (Own n) ∷ in_frames ms frames) s → FramesTold code facts None t.Void ms frames → RegionsNext code facts (destroy_object code x n at frames s)
    destroyed None n at frames s home ms deep stack e f told = tt
    destroyed (Some o) n at frames s home ms deep stack e f told = by_kind n o at frames s home ms deep stack e f told (kind_of code o.kind) refl

    -- an owner or an isolate of this depth, over frames that go on at this depth
    pub destroys_it : (v : Value) (at : Spot) (frames : List Frame) (s : State) (home : Homes) (ms : List Marked) → out_of ms ≡ s.regions → StackFits code s.regions s.regions ms frames
        → FitsAt home (holding s.regions v ∷ in_frames ms frames) s → FramesTold code facts None t.Void ms frames → RegionsNext code facts (destroy code v at frames s)
    destroys_it (Own n) at frames s home ms deep stack f told = destroyed (object_of n s) n at frames s home ms deep stack refl f told
    destroys_it (Iso n) at frames s home ms deep stack f told =
        destroyed (object_of n (join_isolate n s)) n at frames (join_isolate n s) home ms deep stack refl (joined_fits home (in_frames ms frames) s.world s.regions n f) told
    destroys_it (Ref n) at frames s home ms deep stack f told = tt
    destroys_it (Int n) at frames s home ms deep stack f told = tt
    destroys_it (Truth n) at frames s home ms deep stack f told = tt
    destroys_it (Text n) at frames s home ms deep stack f told = tt

    -- the next value of a dead object
    dropped : (o : Option Owned) (f : Emptying) (below : List Frame) (s : State) (home : Homes) (m : Marked) (ms : List Marked) → m.depth ≡ s.regions → first_owned f.rest ≡ o → StackFits code s.regions s.regions ms below
        → FitsAt home (holding_all m.depth f.rest (in_frames ms below)) s → FramesTold code facts None t.Void ms below → RegionsNext code facts (drop_rest code o f below s)
    dropped None f below s home m ms e h stack x told =
        leave_without s.regions s.regions below s home ms None refl stack
        (held_fits home (holding_all m.depth f.rest (in_frames ms below)) (in_frames ms below) s.world s.regions (λ n. let y = held_all n m.depth f.rest (in_frames ms below) in omega (arith, y)) (rest_of_all _ m.depth f.rest (in_frames ms below) x.holders) x) told
    dropped (Some o) f below s home m ms e h stack x told =
        destroys_it o.first f.call.at (Dropping (record f { rest = o.rest }) ∷ below) s home (m ∷ ms) e (e, omega arith, stack)
        (subst (λ a. FitsAt home (holding a o.first ∷ holding_all m.depth o.rest (in_frames ms below)) s) e
        (held_fits home (holding_all m.depth f.rest (in_frames ms below)) (holding m.depth o.first ∷ holding_all m.depth o.rest (in_frames ms below)) s.world s.regions
        (λ n. let y = held_all n m.depth f.rest (in_frames ms below) in let z = held_all n m.depth o.rest (in_frames ms below) in let k = first_counts n f.rest o h in omega (arith, y, z, k))
        (first_each _ m.depth (in_frames ms below) f.rest o h x.holders) x)) told

    pub drops : (f : Emptying) (below : List Frame) (s : State) → RegionsFit code facts (record { top = Dropping f; below = below; state = s }) → RegionsNext code facts (drop_next code f below s)
    drops f below s x = dropped (first_owned f.rest) f below s x.fits.home x.fits.top x.fits.marks x.fits.depth refl x.fits.stack x.fits.fits x.told
