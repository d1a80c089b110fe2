-- A whole run, stretch by stretch.
use Rattle.std.proofs.Common.{◌≡◌, ℕ, zero, suc, ◌-◌, ◌<◌, ◌≤◌, List, [], ◌∷◌, length, take, reverse, Option, Some, None, true, false, append-nil, refl, sym, ap, ◌∙◌, subst, arith}
use Rattle.std.specs.Prelude.{slice_get}
use Rattle.vale_base.specs.declared.piece.Piece.{Piece}
use Rattle.vale_base.specs.declared.spot.Spot.{Spot}
use Rattle.vale_base.specs.declared.trap.TrapKind.{TrapKind}
use Rattle.vale_state_spec.specs.Outcome.{Outcome, End, Done, Trap, Cut}
use Rattle.vale_state_spec.specs.State.{State, Given, outcome, trap_under}
use Rattle.vale_state_spec.specs.World.{Value}
use Rattle.vale_code.specs.Act as a
use Rattle.vale_code.specs.Enter.{Form, Plain, form_of, function, with_func, with_form, if_called, leave_function}
use Rattle.vale_code.specs.Frames.{Active, Config, Next, On, Over, under}
use Rattle.vale_code.specs.Frames as frames
use Rattle.vale_code.specs.Fuel.{fuel}
use Rattle.vale_code.specs.Instructions.{fetch, instruction_in, with_read, with_value}
use Rattle.vale_code.specs.Parts.{Parts}
use Rattle.vale_code.specs.Registers.{Read, read, give_all}
use Rattle.vale_code.specs.Run.{Ending, EndsIn, exec, go_on, last_state, outcome_of, run_code, start, state_in, step, steps, then_go}
use Rattle.vale_code.specs.declared.func.Func.{Func}
use Rattle.vale_code.specs.declared.instr.Instr.{Instr}
use Rattle.vale_code.specs.declared.instr.Instr.TheVariants as i
use Rattle.vale_code.proofs.Ends as ends
use Rattle.vale_code.proofs.Ends.{run_ends_once, step_less}
use Rattle.vale_code.proofs.RunLaws.{exec_later}
use Rattle.vale_text.specs.Progress.{Begins, EndsRight}
use Rattle.vale_registers.specs.Cells.{HoldsValue, HasRegister}
use Rattle.vale_turn.specs.Served.{is_aside, is_call, register_of}
use Rattle.vale_turn.specs.View.{config, EndsBy, IfStopped, IsRight, IsSafe, Leads, OnceBy, Scene}
use Rattle.vale_turn.specs.declared.stop.Stop.{Stop}
use Rattle.vale_turn.specs.declared.stop.Stop.TheVariants as stop
use Rattle.vale_turn.proofs.Stretching.{leads_on, less_fuel, right, safe_on, step_is}
use Rattle.vale_machine.specs.Aside.{KeepsFrames, next_in}
use Rattle.vale_machine.specs.Calls.{HasGiven, IsCallable, call_next, leave_next}
use Rattle.vale_machine.specs.Finishes.{FinishesSo}
use Rattle.vale_machine.specs.Lawful.{CallsWell, IsRunnable}
use Rattle.vale_machine.specs.UnderWay.{Ends, IsUnderWay, TookOne}
use Rattle.vale_machine.specs.View.{active, all_texts, below, call_of, calls_of, config_of, frames_of, own_cells, own_texts, registers_of, row_of, scene_of, state_of, is_going, GoesOn, IfGoing, IsLaid, IsOver, IsPlaced, KeepsTicks, Lie, Stepped}
use Rattle.vale_machine.specs.declared.machine.Frame.{Frame}
use Rattle.vale_machine.specs.declared.machine.Machine.{Machine}
use Rattle.vale_machine.specs.declared.machine.Step.{Step}
use Rattle.vale_machine.specs.declared.machine.Step.TheVariants as told
use Rattle.vale_machine.specs.declared.turn.End.{End as Ended}
use Rattle.vale_machine.specs.declared.turn.End.TheVariants as end
use Rattle.vale_machine.proofs.Frames.{under_frames}
use Rattle.vale_machine.proofs.Keeping.{begins_on}

-- ---- what so many steps keep

carried_by : (code : Parts) (P : Config → Type 0) (n : ℕ) (c d : Config) → ((b : Config) → step code c ≡ On b → steps code n b ≡ On d → P d) → (x : Next) → step code c ≡ x → go_on (step code c) (steps code n) ≡ On d → P d
carried_by code P n c d more (On b) q w = more b q (sym (ap (λ x. go_on x (steps code n)) q) ∙ w)
carried_by code P n c d more (Over end v t) q w = absurd (let y : Over end v t ≡ On d = sym (ap (λ x. go_on x (steps code n)) q) ∙ w in let z : ⊥ = cc in z)

carried : (code : Parts) (P : Config → Type 0) → ((c d : Config) → step code c ≡ On d → P c → P d) → (n : ℕ) (c d : Config) → steps code n c ≡ On d → P c → P d
carried code P keeps zero c d e p = let same : c ≡ d = cc in subst P same p
carried code P keeps (suc n) c d e p = carried_by code P n c d (λ b q w. carried code P keeps n b d w (keeps c b q p)) (step code c) refl e

pub leads_through : (code : Parts) (c d e : Config) → Leads code c d → Leads code d e → Leads code c e
leads_through code c d e l m = carried code (Leads code c) (λ a b h k. leads_on code c a b k h) m.count d e m.on l

no_more : (code : Parts) (x : Next) → go_on x (steps code 0) ≡ x
no_more code (On c) = refl
no_more code (Over end v s) = refl

last_by : (code : Parts) (n : ℕ) (c d : Config) → ((b : Config) → steps code n b ≡ On d → steps code (suc n) b ≡ step code d) → (x : Next) → step code c ≡ x → go_on (step code c) (steps code n) ≡ On d → go_on (step code c) (steps code (suc n)) ≡ step code d
last_by code n c d more (On b) q w = ap (λ x. go_on x (steps code (suc n))) q ∙ more b (sym (ap (λ x. go_on x (steps code n)) q) ∙ w)
last_by code n c d more (Over end v t) q w = absurd (let y : Over end v t ≡ On d = sym (ap (λ x. go_on x (steps code n)) q) ∙ w in let z : ⊥ = cc in z)

one_more : (code : Parts) (n : ℕ) (c d : Config) → steps code n c ≡ On d → steps code (suc n) c ≡ step code d
one_more code zero c d e = let same : c ≡ d = cc in no_more code (step code c) ∙ ap (step code) same
one_more code (suc n) c d e = last_by code n c d (λ b w. one_more code n b d w) (step code c) refl e

pub ends_after : (code : Parts) (c d : Config) (l : Leads code c d) → steps code (suc l.count) c ≡ step code d
ends_after code c d l = one_more code l.count c d l.on

pub safe_later : (code : Parts) (c d : Config) → Leads code c d → IsSafe code c → IsSafe code d
safe_later code c d l safe = carried code (IsSafe code) (λ a b e h. safe_on code a b e h) l.count c d l.on safe

pub fuel_later : (code : Parts) (c d : Config) → Leads code c d → fuel code d ≤ fuel code c
fuel_later code c d l = carried code (λ x. fuel code x ≤ fuel code c) (λ a b e h. omega (arith, less_fuel code a b e, h)) l.count c d l.on (omega arith)

-- ---- the run that begins at the start

-- what a step leads to has less fuel than this, and is cut only where no tick is left
abbrev Less : Parts → ℕ → Next → Type 0
Less code b (On c) = fuel code c < b
Less code b (Over end v s) = Unit {0}

abbrev Right : Next → Type 0
Right (On c) = Unit {0}
Right (Over end v s) = EndsRight end s

module _ (code : Parts) (input : Given) (ticks : ℕ) where
  -- the run goes on from here as it goes from its start
  pub record Follows (c : Config) : Type 0 where
    pub ends : (n : ℕ) (e : Ending) → exec code n c ≡ Some e → EndsIn code input ticks e

  pub follows_first : (c : Config) → start code input ticks ≡ On c → Follows c
  follows_first c e = record { ends = λ n x h. (n, ap (λ y. then_go y (exec code n)) e ∙ h) }

  pub follows_on : (c d : Config) → step code c ≡ On d → Follows c → Follows d
  follows_on c d e l = record { ends = λ n x h. l.ends (suc n) x (ap (λ y. then_go y (exec code n)) e ∙ h) }

  ended : (c : Config) (end : End) (v : Option Value) (s : State) → step code c ≡ Over end v s → Follows c → run_code code input ticks ≡ outcome end s
  ended c end v s e l = ap outcome_of (run_ends_once code input ticks (record { end = end; value = v; state = s }) (l.ends 1 _ (ap (λ y. then_go y (exec code 0)) e)))

  -- what was printed after a step is the first of all that is printed
  first_of_run : (c : Config) (x : Next) → step code c ≡ x → Follows c → Begins (state_in x).pieces (run_code code input ticks).pieces
  first_of_run c (On d) e l =
      let run = ends.over code (last_state code) (suc (fuel code d)) d (omega arith) in
      let is = run_ends_once code input ticks run.0 ((follows_on c d e l).ends (suc (fuel code d)) run.0 run.1) in
      let goes = (exec_later code (suc (fuel code d)) d run.0 run.1).later in
      subst (λ (g : Ending). Begins d.state.pieces g.state.pieces) (sym is) (goes.printed, goes.pieces)
  first_of_run c (Over end v s) e l = subst (λ (o : Outcome). Begins s.pieces o.pieces) (sym (ended c end v s e l)) ([], sym (append-nil s.pieces))

  -- a run that is cut has no tick left
  none_left : (c : Config) (v : Option Value) (s : State) → step code c ≡ Over Cut v s → s.left ≡ 0
  none_left c v s e = subst (λ y. Right y) e (step_less code (last_state code) c).right

  pub finishes : (c : Config) (m : Machine) (e : Ended) (pieces : List Piece) → Ends e (step code c) (state_of [] m) → Follows c → pieces ≡ m.pieces.items → m.given ≡ ticks
      → FinishesSo e pieces ticks (run_code code input ticks)
  finishes c m (end.Done spent) pieces h l p t =
      ended c Done h.1 (state_of [] m) h.2 l ∙ ap (λ ps. record { pieces = ps; end = Done; ticks = m.given - m.left }) (sym p) ∙ ap (λ n. record { pieces = pieces; end = Done; ticks = n }) (sym h.0)
  finishes c m (end.Trap spent info) pieces h l p t =
      ended c (Trap info) _ (state_of [] m) h.1 l ∙ ap (λ ps. record { pieces = ps; end = Trap info; ticks = m.given - m.left }) (sym p) ∙ ap (λ n. record { pieces = pieces; end = Trap info; ticks = n }) (sym h.0)
  finishes c m end.Cut pieces h l p t =
      let z : m.left ≡ 0 = none_left c _ (state_of [] m) h in let spent : m.given - m.left ≡ ticks = omega (arith, z, t) in
      ended c Cut _ (state_of [] m) h l ∙ ap (λ ps. record { pieces = ps; end = Cut; ticks = m.given - m.left }) (sym p) ∙ ap (λ n. record { pieces = pieces; end = Cut; ticks = n }) spent
  finishes c m end.Memory pieces h l p t =
      let rest = first_of_run c (step code c) refl l in
      subst (λ ps. Begins ps (run_code code input ticks).pieces) (sym p) (begins_on m.pieces.items (state_in (step code c)).pieces (run_code code input ticks).pieces h rest)

  pub follows_later : (c d : Config) → Leads code c d → Follows c → Follows d
  follows_later c d l f = carried code Follows (λ a b e h. follows_on a b e h) l.count c d l.on f

-- ---- a call

module _ (code : Parts) (last : Config → State) (f : Active) (fs : List frames.Frame) (s : State) (to g : ℕ) (args : List ℕ) (at : Spot) where
  abbrev calls_it : Form → Func → Next
  calls_it form func = if_called form s (with_read (give_all func.params args f.registers) s (λ vs regs. a.called code last f fs s g form func to at vs regs))

  pub given_right : (func : Func) → slice_get code.funcs g ≡ Some func → func.form ≡ 0 → IsRight (a.call code last f fs s to g args at) → HasGiven code g args f.registers
  given_right func found plain r =
      let e : a.call code last f fs s to g args at ≡ with_read (give_all func.params args f.registers) s (λ vs regs. a.called code last f fs s g Plain func to at vs regs) =
      ap (λ o. with_func o s calls_it) found ∙ ap (λ n. with_form (form_of n) func s calls_it) plain in
      some (give_all func.params args f.registers) refl (subst IsRight e r)
    where
      some : (o : Option Read) → give_all func.params args f.registers ≡ o → IsRight (with_read o s (λ vs regs. a.called code last f fs s g Plain func to at vs regs)) → HasGiven code g args f.registers
      some None q r = absurd r
      some (Some read) q r = record { func = func; found = found; read = read; is = q }

module _ (code : Parts) (taken : List Piece) (m : Machine) where
  abbrev at_here : Config
  at_here = config_of code taken m

  abbrev scene : Scene
  scene = scene_of code taken m

  pub step_here : (instr : Instr) → fetch code m.top.function m.top.place ≡ Some instr → step code at_here ≡ next_in code taken m instr
  step_here instr e = step_is code m.top.function scene m.top.place (own_cells m) m.left instr e

  pub right_here : (instr : Instr) → fetch code m.top.function m.top.place ≡ Some instr → IsSafe code at_here → IsRight (next_in code taken m instr)
  right_here instr e safe = subst IsRight (step_here instr e) (right code m.top.function scene m.top.place (own_cells m) m.left at_here safe)

  pub call_here : (instr : Instr) (to g : ℕ) (args more : List ℕ) (at : Spot) → fetch code m.top.function m.top.place ≡ Some instr → instr ≡ i.Call to g args at → more ≡ args → step code at_here ≡ call_next code taken m to g more at
  call_here instr to g args more at e is same =
      step_here (i.Call to g args at) (e ∙ ap Some is) ∙ ap (λ l. call_next code taken m to g l at) (sym same)

  pub call_given : (instr : Instr) (to g : ℕ) (args more : List ℕ) (at : Spot) (func : Func) → fetch code m.top.function m.top.place ≡ Some instr → instr ≡ i.Call to g args at → more ≡ args → slice_get code.funcs g ≡ Some func → func.form ≡ 0 → IsSafe code at_here
      → HasGiven code g more (registers_of m)
  call_given instr to g args more at func e is same found plain safe =
      given_right code (last_state code) (active code m) (below code m) (state_of taken m) to g more at func found plain
      (subst IsRight (call_here instr to g args more at e is same) (right code m.top.function scene m.top.place (own_cells m) m.left at_here safe))

  -- ---- leaving

  abbrev leaves_it : Option Value → Form → Func → Next
  leaves_it v form func = leave_function form m.top.dest v (below code m) (state_of taken m)

  left_plainly : (v : Option Value) → IsPlaced code m.top.function m.top.base m.end → function code m.top.function (state_of taken m) (leaves_it v) ≡ leave_next code taken m v
  left_plainly v p = ap (λ o. with_func o (state_of taken m) (leaves_it v)) p.found ∙ ap (λ n. with_form (form_of n) p.func (state_of taken m) (leaves_it v)) p.plain

  pub void_here : fetch code m.top.function m.top.place ≡ Some i.RetVoid → IsPlaced code m.top.function m.top.base m.end → step code at_here ≡ leave_next code taken m None
  void_here e p = step_here i.RetVoid e ∙ left_plainly None p

  abbrev gives_back : Option Value → Next
  gives_back o = with_value o (state_of taken m) (λ v. function code m.top.function (state_of taken m) (leaves_it (Some v)))

  pub value_here : (from : ℕ) → fetch code m.top.function m.top.place ≡ Some (i.Ret from) → IsSafe code at_here → (v : Value) × (read (registers_of m) from ≡ Some v)
  value_here from e safe = some (read (registers_of m) from) refl (right_here (i.Ret from) e safe)
    where
      some : (o : Option Value) → read (registers_of m) from ≡ o → IsRight (gives_back o) → (v : Value) × (read (registers_of m) from ≡ Some v)
      some None q r = absurd r
      some (Some v) q r = (v, q)

  pub ret_value : (from : ℕ) → fetch code m.top.function m.top.place ≡ Some (i.Ret from) → IsSafe code at_here → HoldsValue (own_cells m) from
  ret_value from e safe = let h = value_here from e safe in (own_texts m, h.0, h.1)

  pub ret_here : (from : ℕ) (v : Value) → fetch code m.top.function m.top.place ≡ Some (i.Ret from) → IsPlaced code m.top.function m.top.base m.end → read (registers_of m) from ≡ Some v
      → step code at_here ≡ leave_next code taken m (read (registers_of m) from)
  ret_here from v e p h = step_here (i.Ret from) e ∙ ap gives_back h ∙ left_plainly (Some v) p ∙ ap (leave_next code taken m) (sym h)

  pub trap_here : (kind : TrapKind) (at : Spot) → step code at_here ≡ Over (trap_under kind at (scene.call ∷ under scene.below)) None (state_of taken m) → step code at_here ≡ Over (trap_under kind at (calls_of code (frames_of m))) None (state_of taken m)
  trap_here kind at e = e ∙ ap (λ cs. Over (trap_under kind at (call_of code m.top ∷ cs)) None (state_of taken m)) (under_frames code (reverse m.below.items) (all_texts m) (take m.top.base (row_of m)))

-- ---- frames

pub ret_at : (code : Parts) (taken safely : List Piece) (m : Machine) (from : ℕ) → fetch code m.top.function m.top.place ≡ Some (i.Ret from) → IsPlaced code m.top.function m.top.base m.end → IsSafe code (config_of code safely m)
    → step code (config_of code taken m) ≡ leave_next code taken m (read (registers_of m) from)
ret_at code taken safely m from e p safe = let h = value_here code safely m from e safe in ret_here code taken m from h.0 e p h.1

-- the same frames, but for the place of the innermost
pub laid_by : (code : Parts) (old new : Machine) → new.top ≡ record old.top { place = new.top.place } → new.below.items ≡ old.below.items → new.end ≡ old.end → length new.cells.items ≡ length old.cells.items → IsLaid code old → IsLaid code new
laid_by code old new top below end size laid = record {
  lie = subst (λ (f : Frame). Lie code (f ∷ reverse new.below.items) new.end) (sym top)
      (subst (λ l. Lie code (record old.top { place = new.top.place } ∷ reverse l) new.end) (sym below)
      (subst (λ n. Lie code (record old.top { place = new.top.place } ∷ reverse old.below.items) n) (sym end) laid.lie));
  there = omega (arith, end, size, laid.there);
}

-- ---- what certified code has at a place

module _ (code : Parts) (m : Machine) (r : IsRunnable code) (p : IsPlaced code m.top.function m.top.base m.end) (instr : Instr) (e : fetch code m.top.function m.top.place ≡ Some instr) where
  in_body : slice_get p.func.body m.top.place ≡ Some instr
  in_body = sym (ap (λ o. instruction_in o m.top.place) p.found) ∙ e

  size_of : p.func.registers ≡ m.end - m.top.base
  size_of = omega (arith, p.size)

  pub callable_here : (to g : ℕ) (args : List ℕ) (at : Spot) → instr ≡ i.Call to g args at → IsCallable code g to (m.end - m.top.base)
  callable_here to g args at is =
      let well = subst (λ x. CallsWell code x p.func.registers) is (r.calls m.top.function m.top.place p.func instr p.found in_body) in
      subst (λ n. IsCallable code g to n) size_of well

  pub room_here : HasRegister (register_of instr) (m.end - m.top.base)
  room_here =
      subst (λ k. HasRegister (register_of instr) k) size_of (r.fits m.top.function m.top.place p.func instr p.found in_body).room

pub known_function : (code : Parts) (function place : ℕ) (instr : Instr) → fetch code function place ≡ Some instr → (func : Func) × (slice_get code.funcs function ≡ Some func) × (slice_get func.body place ≡ Some instr)
known_function code function place instr e = at (slice_get code.funcs function) refl e
  where
    at : (o : Option Func) → slice_get code.funcs function ≡ o → instruction_in o place ≡ Some instr → (func : Func) × (slice_get code.funcs function ≡ Some func) × (slice_get func.body place ≡ Some instr)
    at None q h = absurd (let x : ⊥ = cc in x)
    at (Some func) q h = (func, q, h)

pub index_within : {A : Type 0} (xs : List A) (n : ℕ) (x : A) → slice_get xs n ≡ Some x → n < length xs
index_within [] n x e = absurd (let y : ⊥ = cc in y)
index_within (z ∷ zs) zero x e = omega arith
index_within (z ∷ zs) (suc n) x e = let h = index_within zs n x e in omega (arith, h)

pub same_aside : (o : Option Instr) (x y : Instr) → o ≡ Some x → o ≡ Some y → is_aside x ≡ true → is_aside y ≡ true
same_aside o x y e h a = let same : x ≡ y = (let z : Some x ≡ Some y = sym e ∙ h in cc) in subst (λ z. is_aside z ≡ true) same a

pub same_call : (o : Option Instr) (x y : Instr) → o ≡ Some x → o ≡ Some y → is_call x ≡ true → is_call y ≡ true
same_call o x y e h a = let same : x ≡ y = (let z : Some x ≡ Some y = sym e ∙ h in cc) in subst (λ z. is_call z ≡ true) same a

pub not_call : (x : Instr) → is_call x ≡ true → ((to func : ℕ) (args : List ℕ) (at : Spot) → x ≡ i.Call to func args at → ⊥) → ⊥
not_call (i.Call to func args at) e n = n to func args at refl
not_call _ e n = let x : ⊥ = cc in x

pub laid_going : (code : Parts) (t : Step) (old new : Machine) → KeepsFrames t old new → IsLaid code old → IfGoing t (IsLaid code new)
laid_going code told.Going old new k laid = laid_by code old new k.top (ap (λ v. v.items) k.below) k.end k.cells laid
laid_going code _ old new k laid = tt

-- ---- a run that is under way

pub going : (code : Parts) (taken : List Piece) (t : Step) (next : Next) (m : Machine) → true ≡ is_going t → Stepped code taken t next m → next ≡ On (config_of code taken m)
going code taken told.Going next m e h = h
going code taken _ next m e h = let x : ⊥ = cc in absurd x

pub going_laid : (code : Parts) (t : Step) (m : Machine) → true ≡ is_going t → IfGoing t (IsLaid code m) → IsLaid code m
going_laid code told.Going m e h = h
going_laid code _ m e h = let x : ⊥ = cc in absurd x

pub over : (t : Step) → false ≡ is_going t → IsOver t
over told.Going e = let x : ⊥ = cc in x
over _ e = tt

pub later_under_way : (code : Parts) (taken : List Piece) (old new : Machine) → IsUnderWay code taken old → Leads code (config_of code taken old) (config_of code taken new) → GoesOn old new → IsUnderWay code taken new
later_under_way code taken old new u leads g = record {
  runnable = u.runnable;
  laid = laid_by code old new g.top (ap (λ l. l.items) g.below) g.end g.cells u.laid;
  ticks = omega (arith, u.ticks, g.ticks.given, g.ticks.left);
  safe = safe_later code (config_of code taken old) (config_of code taken new) leads u.safe;
}

pub goes_on : (code : Parts) (taken : List Piece) (old mid new : Machine) → IsUnderWay code taken old → Leads code (config_of code taken old) (config_of code taken mid) → step code (config_of code taken mid) ≡ On (config_of code taken new) → IsLaid code new → KeepsTicks old new
    → IsUnderWay code taken new
goes_on code taken old mid new u leads e laid ticks = record {
  runnable = u.runnable;
  laid = laid;
  ticks = omega (arith, u.ticks, ticks.given, ticks.left);
  safe = safe_on code (config_of code taken mid) (config_of code taken new) e (safe_later code (config_of code taken old) (config_of code taken mid) leads u.safe);
}

-- ---- one instruction

took_rest : (code : Parts) (taken : List Piece) (t : Stop) (old new : Machine) → scene_of code taken old ≡ scene_of code taken new → old.top.function ≡ new.top.function
    → EndsBy code old.top.function (scene_of code taken old) t new.top.place (own_cells new) new.left → (new.top.place ≡ old.top.place) × (own_cells new ≡ own_cells old) × (new.left ≡ old.left)
    → EndsBy code new.top.function (scene_of code taken new) t new.top.place (own_cells new) new.left × (config_of code taken new ≡ config_of code taken old)
took_rest code taken t old new es ef h same = (
  subst (λ f. EndsBy code f (scene_of code taken new) t new.top.place (own_cells new) new.left) ef (subst (λ s. EndsBy code old.top.function s t new.top.place (own_cells new) new.left) es h),
  (λ i. config (sym ef i) (sym es i) (same.0 i) (same.1 i) (same.2 i)),
)

pub took_one : (code : Parts) (taken : List Piece) (t : Stop) (old new : Machine) → scene_of code taken old ≡ scene_of code taken new → old.top.function ≡ new.top.function
    → OnceBy code old.top.function (scene_of code taken old) t (config_of code taken old) new.top.place (own_cells new) new.left → IfStopped t ((new.top.place ≡ old.top.place) × (own_cells new ≡ own_cells old) × (new.left ≡ old.left)) → TookOne code taken t old new
took_one code taken stop.Going old new es ef h same = h ∙ (λ i. On (config (ef i) (es i) new.top.place (own_cells new) new.left))
took_one code taken stop.Aside old new es ef h same = took_rest code taken stop.Aside old new es ef h same
took_one code taken stop.Enters old new es ef h same = took_rest code taken stop.Enters old new es ef h same
took_one code taken (stop.Leaves from) old new es ef h same = took_rest code taken (stop.Leaves from) old new es ef h same
took_one code taken (stop.Trap kind at) old new es ef h same = took_rest code taken (stop.Trap kind at) old new es ef h same
took_one code taken stop.Cut old new es ef h same = took_rest code taken stop.Cut old new es ef h same
