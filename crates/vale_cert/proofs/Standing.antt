-- What is under way in a run of certified code: frames that fit, functions that are entered and left, and destruction.
use Rattle.std.proofs.Common.{◌≡◌, ◌≢◌, ℕ, zero, suc, ◌+◌, ◌<◌, ◌≤◌, List, [], ◌∷◌, ◌++◌, length, Option, Some, None, Bool, true, false, ◌&&◌, ◌||◌, ◌==◌, if◌then◌else◌, refl, sym, ap, ◌∙◌, subst, arith}
use Rattle.std.specs.Prelude.{slice_get}
use Rattle.std.specs.List.{list_all}
use Rattle.std.proofs.lemmas.Bool.{and_parts, eq-eqb}
use Rattle.vale_state_spec.specs.Outcome.{Wrong}
use Rattle.vale_state_spec.specs.State.{State, spend_of, has_depth}
use Rattle.vale_state_spec.specs.State.{object_of, dies, join_isolate, drop_frame}
use Rattle.vale_state_spec.specs.World.{Value, Int, Truth, Text, Own, Ref, Iso, Region, Freeze, Isolate, Object, World, died, relabelled}
use Rattle.vale_base.specs.declared.name.Kind.{Kind}
use Rattle.vale_base.specs.declared.spot.Spot.{Spot}
use Rattle.vale_base.specs.declared.trap.FrameAt.{FrameAt}
use Rattle.vale_base.specs.declared.trap.TrapKind.{TrapKind}
use Rattle.vale_base.specs.declared.trap.TrapKind.TheVariants.{DeadReference, IndexOutOfRange, ArrayTooLong, EmptyPop}
use Rattle.vale_code.specs.Destroy.{destroy, destroy_by, destroy_object, drop_rest, first_owned}
use Rattle.vale_code.specs.Enter.{Form, Plain, Pure, Iteration, Destructor, form_of, if_destructor, with_func, with_form, enter}
use Rattle.vale_code.specs.Frames.{Active, Emptying, Frame, Running, Dropping, Looping, Alone, Config, Next, On, Over, on, trap, under, deeper, ticked, after_tick, resume, leave}
use Rattle.vale_code.specs.Kinds.{kind_of, kind_text, destructor_in}
use Rattle.vale_code.specs.Parts.{Parts}
use Rattle.vale_code.specs.Registers.{registers_for}
use Rattle.vale_code.specs.declared.func.Func.{Func}
use Rattle.vale_code.specs.declared.instr.Instr.{Instr}
use Rattle.vale_code.specs.declared.kind.KindInfo.{KindInfo}
use Rattle.vale_code.specs.declared.kind.KindInfo.TheVariants as k
use Rattle.vale_code.specs.declared.ty.Ty.{Ty}
use Rattle.vale_code.specs.declared.ty.Ty.TheVariants as t
use Rattle.vale_cert.specs.Certificate.{Certified}
use Rattle.vale_cert.specs.Known.{Known, entry, label_at, may_enter, stated, has}
use Rattle.vale_cert.specs.Numbers.{is_text}
use Rattle.vale_cert.specs.Objects.{cells_of, is_implemented}
use Rattle.vale_cert.specs.Places.{known_at}
use Rattle.vale_cert.specs.Shape.{destroys, is_destructor_of, takes_owner, field_is_lawful}
use Rattle.vale_cert.specs.Types.{is_void}
use Rattle.vale_cert.specs.Walk.{walk}
use Rattle.vale_cert.specs.declared.facts.FuncFacts.{FuncFacts}
use Rattle.vale_cert.proofs.Cells.{leading, died_fits, object_later}
use Rattle.vale_cert.proofs.Fit.{kind_is, kind_fits, NameFits, Has, RegsFit, WorldFits, has_later, ArgsFit, entry_fits}
use Rattle.vale_cert.proofs.Heap.{object_at, Later, later_same, later_later, later_died, later_relabelled, relabelled_each, same, same_self, own, own_in, in_regs, in_values, in_world, in_frame, in_frames, alive, living_is, begun_owns, world_set, alive_died, world_relabelled, alive_relabelled, resume_owns}
use Rattle.vale_cert.proofs.KindLaws.{kind_lawful}
use Rattle.vale_cert.proofs.Placed.{known_first}
use Rattle.vale_cert.proofs.Walks.{reaches, Judged, judged}

-- a value of a result's type, or nothing where that is void
abbrev pub Returns : Parts → World → Ty → Option Value → Type 0
Returns code w t.Void o = o ≡ None
Returns code w ty o = (v : Value) × (o ≡ Some v) × Has code w ty v

pub returns_later : (code : Parts) (w u : World) (ty : Ty) (o : Option Value) → Later w u → Returns code w ty o → Returns code u ty o
returns_later code w u t.Void o l h = h
returns_later code w u ty o l h = (h.0, h.1, has_later code w u ty h.0 l h.2)

abbrev pub dest_of : Frame → Option ℕ
dest_of (Running f) = f.dest
dest_of (Dropping f) = None
dest_of (Looping f) = None
dest_of (Alone v) = None

-- owners and isolates
abbrev pub is_owner : Value → Bool
is_owner (Own n) = true
is_owner (Iso n) = true
is_owner v = false

-- ---- frames

-- a function of this form has no freeze of its own
abbrev pub Quiet : Option Form → Type 0
Quiet (Some Plain) = Unit {0}
Quiet (Some Destructor) = Unit {0}
Quiet _ = ⊥

module _ (code : Parts) (facts : List FuncFacts) where
  -- a function under way, which returns this type: what is known at its place fits its registers
  pub record ActiveFits (w : World) (result_type : Ty) (f : Active) : Type 0 where
    pub func : Func
    pub of : FuncFacts
    pub found : slice_get code.funcs f.function ≡ Some func
    pub certified : slice_get facts f.function ≡ Some of
    pub quiet : Quiet (form_of func.form)
    pub is_judged : Judged code func of
    pub returns : func.result ≡ result_type
    pub known : Known
    pub states : known_at code func of f.place ≡ stated (label_at of.labels f.place) (Some known)
    pub fits : RegsFit code w known.regs f.registers
    pub enters_here : may_enter (label_at of.labels f.place) known ≡ true
    pub before : List Instr
    pub rest : List Instr
    pub split : func.body ≡ before ++ rest
    pub at : length before ≡ f.place
    pub inside : f.place < length func.body
    pub came : Bool
    pub walks : walk code func of.labels is_judged.base f.place rest came (Some known) ≡ None

  abbrev pub FrameFits : World → Ty → Frame → Type 0
  FrameFits w ty (Running f) = ActiveFits w ty f
  FrameFits w ty (Dropping f) = ty ≡ t.Void
  FrameFits w ty (Looping f) = ⊥
  FrameFits w ty (Alone v) = ⊥

  -- each frame fits once it has the value of the one above it, over whatever heap is there then
  abbrev pub StackFits : World → Ty → Option ℕ → List Frame → Type 0
  StackFits w ty dest [] = Unit {0}
  StackFits w ty dest (f ∷ fs) = (j : Ty) × ((u : World) (o : Option Value) → Later w u → Returns code u ty o → FrameFits u j (resume dest o f)) × StackFits w j (dest_of f) fs

  pub stack_later : (w u : World) (ty : Ty) (dest : Option ℕ) (fs : List Frame) → Later w u → StackFits w ty dest fs → StackFits u ty dest fs
  stack_later w u ty dest [] l h = tt
  stack_later w u ty dest (f ∷ fs) l h = (h.0, (λ x o m r. h.1 x o (later_later w u x l m) r), stack_later w u h.0 (dest_of f) fs l h.2)

  -- each name is owned at most once, and while it lives, where these names are owned beside
  abbrev pub OwnedBeside : World → (ℕ → ℕ) → List Frame → Type 0
  OwnedBeside w beside fs = (n : ℕ) → beside n + in_frames n fs + in_world n w ≤ alive n w

  pub record ConfigFits (c : Config) : Type 0 where
    pub ty : Ty
    pub top : FrameFits c.state.world ty c.top
    pub below : StackFits c.state.world ty (dest_of c.top) c.below
    pub heap : WorldFits code c.state.world
    pub owned : OwnedBeside c.state.world (λ n. in_frame n c.top) c.below

  abbrev pub NextFits : Next → Type 0
  NextFits (On c) = ConfigFits c
  NextFits (Over end v s) = end ≢ Wrong

  pub a_trap : (why : TrapKind) (at : Spot) (frames : List Frame) (s : State) → NextFits (trap why at frames s)
  a_trap why at frames s = λ e. let x : ⊥ = cc in x

  pub with_tick : (s : State) (go : State → Next) → ((u : State) → u.world ≡ s.world → NextFits (go u)) → NextFits (after_tick s go)
  with_tick s go each = from s.left
    where
      from : (n : ℕ) → NextFits (ticked (spend_of n s) s go)
      from zero = λ e. let x : ⊥ = cc in x
      from (suc n) = each (record s { left = n; spent = s.spent + 1 }) refl

  pub with_depth : (more : ℕ) (at : Spot) (frames : List Frame) (s : State) (go : Next) → NextFits go → NextFits (deeper more at frames s go)
  with_depth more at frames s go fits = from (has_depth more (under frames) s)
    where
      from : (b : Bool) → NextFits (if b then go else trap Rattle.vale_base.specs.declared.trap.TrapKind.TheVariants.CallDepth at frames s)
      from true = fits
      from false = a_trap _ at frames s

  -- a function that is entered with arguments of its parameters' types
  begun_fits : Certified code facts → (g : ℕ) (func : Func) (call : FrameAt) (dest : Option ℕ) (vs : List Value) (frames : List Frame) (w : World) (t : State)
      → t.world ≡ w → slice_get code.funcs g ≡ Some func → Quiet (form_of func.form) → ArgsFit code w func.params vs → StackFits w func.result dest frames
      → WorldFits code w → OwnedBeside w (λ n. in_values n vs) frames
      → NextFits (on (Running (record { call = call; function = g; dest = dest; place = 0; registers = registers_for func.registers vs })) frames t)
  begun_fits cert g func call dest vs frames w t same_world found quiet has below heap owned = record {
    ty = func.result;
    top = subst (λ w. ActiveFits w func.result (record { call = call; function = g; dest = dest; place = 0; registers = registers_for func.registers vs })) (sym same_world) top;
    below = subst (λ w. StackFits w func.result dest frames) (sym same_world) below;
    heap = subst (λ w. WorldFits code w) (sym same_world) heap;
    owned = subst (λ w. OwnedBeside w (λ n. in_regs n (registers_for func.registers vs)) frames) (sym same_world) (λ n. let x = owned n in let y = begun_owns n func.registers vs in omega (arith, x, y));
  }
    where
      is : (of : FuncFacts) × Judged code func of × (slice_get facts g ≡ Some of)
      is = judged code facts cert g func found

      top : ActiveFits w func.result (record { call = call; function = g; dest = dest; place = 0; registers = registers_for func.registers vs })
      top = record {
        func = func;
        of = is.0;
        found = found;
        certified = is.2;
        quiet = quiet;
        is_judged = is.1;
        returns = refl;
        known = entry func is.0;
        states = known_first code func is.0 is.1.some;
        fits = entry_fits code w func.registers _ is.0.live func.params vs has;
        enters_here = is.1.enters;
        before = [];
        rest = func.body;
        split = refl;
        at = refl;
        inside = is.1.some;
        came = is.1.came;
        walks = is.1.walks;
      }

  pub entered : Certified code facts → (g : ℕ) (form : Form) (func : Func) (call : FrameAt) (dest : Option ℕ) (vs : List Value) (frames : List Frame) (s : State)
      → slice_get code.funcs g ≡ Some func → Quiet (Some form) → Quiet (form_of func.form) → ArgsFit code s.world func.params vs → StackFits s.world func.result dest frames
      → WorldFits code s.world → OwnedBeside s.world (λ n. in_values n vs) frames
      → NextFits (enter g form func call dest vs frames s)
  entered cert g Plain func call dest vs frames s found q quiet has below heap owned =
      with_depth 1 call.at frames s _ (with_tick s _ (λ u e. begun_fits cert g func call dest vs frames s.world u e found quiet has below heap owned))
  entered cert g Destructor func call dest vs frames s found q quiet has below heap owned =
      with_depth 1 call.at frames s _ (with_tick s _ (λ u e. begun_fits cert g func call dest vs frames s.world u e found quiet has below heap owned))
  entered cert g Pure func call dest vs frames s found q quiet has below heap owned = absurd q
  entered cert g Iteration func call dest vs frames s found q quiet has below heap owned = absurd q

  -- a frame is left with a value
  same_dest : (d : Option ℕ) (o : Option Value) (g : Frame) → dest_of g ≡ dest_of (resume d o g)
  same_dest None o g = refl
  same_dest (Some to) None g = refl
  same_dest (Some to) (Some u) (Running x) = refl
  same_dest (Some to) (Some u) (Dropping x) = refl
  same_dest (Some to) (Some u) (Looping x) = refl
  same_dest (Some to) (Some u) (Alone x) = refl

  pub left_fits : (ty : Ty) (dest : Option ℕ) (v : Option Value) (frames : List Frame) (s : State) → StackFits s.world ty dest frames → Returns code s.world ty v → WorldFits code s.world
      → OwnedBeside s.world (λ n. own_in n v) frames → NextFits (leave frames dest v s)
  left_fits ty dest v [] s st r heap owned = λ e. let x : ⊥ = cc in x
  left_fits ty dest v (g ∷ fs) s st r heap owned = record {
    ty = st.0;
    top = st.1 s.world v (later_same s.world) r;
    below = subst (λ d. StackFits s.world st.0 d fs) (same_dest dest v g) st.2;
    heap = heap;
    owned = λ n. let x = owned n in let y = resume_owns n dest v g in omega (arith, x, y);
  }

  -- ---- destruction

  lives_given : (w : World) (n : ℕ) (o : Object) → object_at w n ≡ Some o → n < length w
  lives_given [] n o e = let x : ⊥ = cc in absurd x
  lives_given (x ∷ w) zero o e = omega arith
  lives_given (x ∷ w) (suc n) o e = let y = lives_given w n o e in omega (arith, y)

  pub fits_itself : (kind : Kind) → kind_fits code kind kind ≡ true
  fits_itself kind = let x : (kind.0 == kind.0) ≡ true = eq-eqb kind.0 kind.0 refl in ap (λ b. b || is_implemented code.impls kind kind) x

  -- a living name fits its object's kind
  pub names_it : (w : World) (n : ℕ) (o : Object) → object_at w n ≡ Some o → NameFits code w o.kind n
  names_it w n o e = record {
    given = lives_given w n o e;
    fits = λ p h. let is : o ≡ p = cc in subst (λ p. kind_fits code p.kind o.kind ≡ true) is (fits_itself o.kind);
  }

  void_is : (ty : Ty) → is_void ty ≡ true → ty ≡ t.Void
  void_is t.Void e = refl
  void_is _ e = let x : ⊥ = cc in absurd x

  module _ (cert : Certified code facts) (n : ℕ) (o : Object) (at : Spot) (frames : List Frame) (s : State) (lives : object_at s.world n ≡ Some o)
      (below : StackFits s.world t.Void None frames) (heap : WorldFits code s.world) (owned : OwnedBeside s.world (λ m. same m n) frames) where
    abbrev call : FrameAt
    call = drop_frame (kind_text code o.kind) at

    emptying : (u : State) → u.world ≡ died s.world n → NextFits (on (Dropping (record { call = call; rest = o.values })) frames u)
    emptying u e = record {
      ty = t.Void;
      top = refl;
      below = subst (λ w. StackFits w t.Void None frames) (sym e) (stack_later s.world (died s.world n) t.Void None frames (later_died s.world n) below);
      heap = subst (λ w. WorldFits code w) (sym e) (died_fits code s.world n (later_died s.world n) heap);
      owned = subst (λ w. OwnedBeside w (λ m. in_values m o.values) frames) (sym e) (λ m. let a = world_set m s.world n o None lives in let b = alive_died m s.world n o lives in let c = owned m in omega (arith, a, b, c));
    }

    dies_now : NextFits (destroy_by code None n o at frames s)
    dies_now = with_depth 1 at frames s _ (with_tick s _ (λ u e. emptying (dies n u) (ap (λ w. died w n) e)))

    takes_it : (ps : List Ty) → takes_owner o.kind.0 ps ≡ true → ArgsFit code s.world ps (Own n ∷ [])
    takes_it (t.Own kind ∷ []) e = (leading code s.world (t.Own kind) (Own n) kind n refl refl refl (subst (λ k. NameFits code s.world k n) (sym (kind_is kind o.kind e)) (names_it s.world n o lives)), tt)
    takes_it _ e = let x : ⊥ = cc in absurd x

    abbrev calls_drop : ℕ → Form → Func → Next
    calls_drop g form func = if_destructor form s (enter g form func call None (Own n ∷ []) frames s)

    by_function : (g : ℕ) (h : Option Func) → slice_get code.funcs g ≡ h → is_destructor_of o.kind.0 h ≡ true → NextFits (with_func h s (calls_drop g))
    by_function g None q e = let x : ⊥ = cc in absurd x
    by_function g (Some func) q e =
        let a = and_parts ((func.form == 3) && takes_owner o.kind.0 func.params) (is_void func.result) e in
        let b = and_parts (func.form == 3) (takes_owner o.kind.0 func.params) a.0 in
        let three : func.form ≡ 3 = let x : (func.form == 3) ≡ true = b.0 in grind arith in
        subst (λ m. NextFits (with_form (form_of m) func s (calls_drop g))) (sym three)
        (entered cert g Destructor func call None (Own n ∷ []) frames s q tt (subst (λ m. Quiet (form_of m)) (sym three) tt) (takes_it func.params b.1)
        (subst (λ ty. StackFits s.world ty None frames) (sym (void_is func.result a.1)) below) heap (λ m. let x = owned m in omega (arith, x)))

    by_kind : (info : Option KindInfo) → kind_of code o.kind ≡ info → NextFits (destroy_by code (destructor_in info) n o at frames s)
    by_kind None q = dies_now
    by_kind (Some (k.Struct name None fields)) q = dies_now
    by_kind (Some (k.Interface name methods)) q = dies_now
    by_kind (Some (k.Array item)) q = dies_now
    by_kind (Some (k.Struct name (Some g) fields)) q =
        let a = and_parts (is_text code name && destroys o.kind.0 code.funcs (Some g)) (list_all (field_is_lawful code (reaches code facts cert)) fields) (kind_lawful code facts cert o.kind (k.Struct name (Some g) fields) q) in
        by_function g (slice_get code.funcs g) refl (and_parts (is_text code name) (destroys o.kind.0 code.funcs (Some g)) a.0).1

    pub destroying : NextFits (destroy_object code (object_of n s) n at frames s)
    destroying = subst (λ x. NextFits (destroy_object code x n at frames s)) (sym lives) (by_kind (kind_of code o.kind) refl)

  relabelled_fits : (w : World) (from to : Region) → WorldFits code w → WorldFits code (relabelled from to w)
  relabelled_fits w from to heap n o e =
      let p = relabelled_each w from to n o e in
      let f = heap n p.0 p.1 in
      object_later code w (relabelled from to w) o (later_relabelled w from to)
      (record {
        tys = f.tys;
        cells = ap (λ k. cells_of (kind_of code k) (length o.values)) p.2 ∙ ap (λ vs. cells_of (kind_of code p.0.kind) (length vs)) p.3 ∙ f.cells;
        values = subst (λ vs. ArgsFit code w f.tys vs) (sym p.3) f.values;
      })

  -- an owner or an isolate is destroyed
  pub destroying_value : Certified code facts → (v : Value) (at : Spot) (frames : List Frame) (s : State) → is_owner v ≡ true → StackFits s.world t.Void None frames → WorldFits code s.world
      → OwnedBeside s.world (λ m. own m v) frames → NextFits (destroy code v at frames s)
  destroying_value cert (Own n) at frames s is below heap owned =
      let one = owned n in let self = same_self n in
      let o = living_is n s.world (omega (arith, one, self)) in
      destroying cert n o.0 at frames s o.1 below heap owned
  destroying_value cert (Iso n) at frames s is below heap owned =
      let joined = join_isolate n s in
      let here = Freeze s.regions in
      let l = later_relabelled s.world (Isolate n) here in
      let counts : OwnedBeside joined.world (λ m. same m n) frames = λ m. let a = owned m in let b = world_relabelled m s.world (Isolate n) here in let c = alive_relabelled m s.world (Isolate n) here in omega (arith, a, b, c) in
      let one = counts n in let self = same_self n in
      let o = living_is n joined.world (omega (arith, one, self)) in
      destroying cert n o.0 at frames joined o.1 (stack_later s.world joined.world t.Void None frames l below) (relabelled_fits s.world (Isolate n) here heap) counts
  destroying_value cert _ at frames s is below heap owned = let x : ⊥ = cc in absurd x

  -- the next value of a dead object
  pub drops_on : Certified code facts → (vs : List Value) (f : Emptying) (below : List Frame) (s : State) → StackFits s.world t.Void None below → WorldFits code s.world
      → OwnedBeside s.world (λ m. in_values m vs) below → NextFits (drop_rest code (first_owned vs) f below s)
  drops_on cert [] f below s st heap owned = left_fits t.Void None None below s st refl heap (λ m. let x = owned m in omega (arith, x))
  drops_on cert (Own n ∷ vs) f below s st heap owned =
      destroying_value cert (Own n) f.call.at (Dropping (record f { rest = vs }) ∷ below) s refl (t.Void, (λ u o l r. refl), st) heap (λ m. let x = owned m in omega (arith, x))
  drops_on cert (Iso n ∷ vs) f below s st heap owned =
      destroying_value cert (Iso n) f.call.at (Dropping (record f { rest = vs }) ∷ below) s refl (t.Void, (λ u o l r. refl), st) heap (λ m. let x = owned m in omega (arith, x))
  drops_on cert (Int z ∷ vs) f below s st heap owned = drops_on cert vs f below s st heap (λ m. let x = owned m in omega (arith, x))
  drops_on cert (Truth b ∷ vs) f below s st heap owned = drops_on cert vs f below s st heap (λ m. let x = owned m in omega (arith, x))
  drops_on cert (Text b ∷ vs) f below s st heap owned = drops_on cert vs f below s st heap (λ m. let x = owned m in omega (arith, x))
  drops_on cert (Ref n ∷ vs) f below s st heap owned = drops_on cert vs f below s st heap (λ m. let x = owned m in omega (arith, x))
