-- What a step leads to goes on as runs do, and has less fuel than some bound: how this goes through the parts of a step.
use Rattle.std.proofs.Common.{◌≡◌, ℕ, zero, suc, ◌+◌, ◌*◌, ◌<◌, ◌≤◌, ℤ, List, [], ◌∷◌, length, Option, Some, None, Bool, true, false, if◌then◌else◌, refl, sym, subst, arith}
use Rattle.std.specs.Prelude.{slice_get}
use Rattle.std.proofs.lemmas.Option.{slice_get_within}
use Rattle.vale_state_spec.specs.Outcome.{Wrong}
use Rattle.vale_state_spec.specs.State.{State, has_depth, spend_of, Looked, found, dead, nowhere, end_of_pure, end_of_isolate}
use Rattle.vale_state_spec.specs.World.{Value, Int, Truth, Text, Own, Ref, Iso, Object}
use Rattle.vale_base.specs.declared.spot.Spot.{Spot}
use Rattle.vale_base.specs.declared.trap.FrameAt.{FrameAt}
use Rattle.vale_base.specs.declared.trap.TrapKind.{TrapKind}
use Rattle.vale_base.specs.declared.trap.TrapKind.TheVariants.{CallDepth}
use Rattle.vale_text.proofs.StateLaws.{later_refl, later_trans, Spent, spend_of_later, freeze_later, freeze_iteration_later, thaw_later, thaw_iteration_later}
use Rattle.vale_text.specs.Progress.{Progresses, EndsRight}
use Rattle.vale_code.specs.Act.{on_looked}
use Rattle.vale_code.specs.Enter.{Form, Plain, Pure, Iteration, Destructor, form_of, weight, begun, ended, outgoing, with_form, with_func, function, enter, if_called, if_iteration, if_destructor, leave_function}
use Rattle.vale_code.specs.Frames.{Frame, Running, Dropping, Looping, Alone, Next, On, Over, trap, under, deeper, ticked, after_tick, resume, leave}
use Rattle.vale_code.specs.Fuel.{width, places_from, before_tick, at_top, under_way, at_below, for_tick, fuel}
use Rattle.vale_code.specs.Instructions.{with_value, with_read, with_registers, with_owner, with_number, with_truth, with_choice, instruction_in, fetch, is_tick}
use Rattle.vale_code.specs.Parts.{Parts}
use Rattle.vale_code.specs.Registers.{Registers, Read, registers_for}
use Rattle.vale_code.specs.Sizes.{instructions}
use Rattle.vale_code.specs.declared.func.Func.{Func}
use Rattle.vale_code.specs.declared.instr.Instr.{Instr}

-- ---- places

body_within : (funcs : List Func) (f : ℕ) (func : Func) → slice_get funcs f ≡ Some func → length func.body ≤ instructions funcs
body_within [] f func e = absurd (let g : ⊥ = cc in g)
body_within (q ∷ funcs) zero func e =
    let g : q ≡ func = cc in subst (λ x. length x.body ≤ length q.body + instructions funcs) g (omega arith)
body_within (q ∷ funcs) (suc f) func e = omega (arith, body_within funcs f func e)

-- an instruction stands at a place below the width
pub fetch_within : (code : Parts) (f p : ℕ) (instr : Instr) → fetch code f p ≡ Some instr → p < width code
fetch_within code f p instr e = at (slice_get code.funcs f) refl e
  where
    at : (o : Option Func) → slice_get code.funcs f ≡ o → instruction_in o p ≡ Some instr → p < width code
    at None g h = absurd (let x : ⊥ = cc in x)
    at (Some func) g h = omega (arith, slice_get_within func.body p instr h, body_within code.funcs f func g)

module _ (code : Parts) where
  -- what the ticks that are left allow
  abbrev pub ticks : State → ℕ
  ticks s = s.left * for_tick code

  pub top_most : (f : Frame) → at_top code f ≤ under_way code f
  top_most (Running f) = at (is_tick (fetch code f.function f.place))
    where
      at : (b : Bool) → places_from code f.place + before_tick code b ≤ places_from code f.place + (width code + width code)
      at true = omega arith
      at false = omega arith
  top_most (Dropping f) = omega arith
  top_most (Looping f) = omega arith
  top_most (Alone v) = omega arith

  -- a frame that gets a value has no more to do than before
  pub resumed : (to : Option ℕ) (v : Option Value) (f : Frame) → under_way code (resume to v f) ≡ under_way code f
  resumed None v f = refl
  resumed (Some to) None f = refl
  resumed (Some to) (Some v) (Running f) = refl
  resumed (Some to) (Some v) (Dropping f) = refl
  resumed (Some to) (Some v) (Looping f) = refl
  resumed (Some to) (Some v) (Alone o) = refl

  -- fewer ticks allow less
  pub ticks_fewer : (s t : State) → Progresses s t → ticks t ≤ ticks s
  ticks_fewer s t l = times t.left s.left (for_tick code) l.fewer
    where
      times : (m n k : ℕ) → m ≤ n → m * k ≤ n * k
      times m n k le = grind (arith)

  module _ (origin : State) (b : ℕ) where
    abbrev pub IsLess : Next → Type 0
    IsLess (On c) = fuel code c < b
    IsLess (Over end v s) = Unit {0}

    abbrev pub IsLater : Next → Type 0
    IsLater (On c) = Progresses origin c.state
    IsLater (Over end v s) = Progresses origin s

    abbrev pub IsCutRight : Next → Type 0
    IsCutRight (On c) = Unit {0}
    IsCutRight (Over end v s) = EndsRight end s

    -- what a step leads to: there is less fuel, the state is a later one, and a cut comes only where no tick is left
    pub record Fits (n : Next) : Type 0 where
      pub less : IsLess n
      pub later : IsLater n
      pub right : IsCutRight n

    pub stays : (v : Option Value) (s : State) → Progresses origin s → Fits (Over Wrong v s)
    stays v s l = record { less = tt; later = l; right = tt }

    pub traps_there : (kind : TrapKind) (at : Spot) (frames : List Frame) (s : State) → Progresses origin s → Fits (trap kind at frames s)
    traps_there kind at frames s l = record { less = tt; later = l; right = tt }

    -- ---- the words of steps

    pub either : (x : Bool) (m n : Next) → Fits m → Fits n → Fits (if x then m else n)
    either true m n h g = h
    either false m n h g = g

    pub deep : (more : ℕ) (at : Spot) (frames : List Frame) (s : State) (m : Next) → Progresses origin s → Fits m → Fits (deeper more at frames s m)
    deep more at frames s m l h = either (has_depth more (under frames) s) m (trap CallDepth at frames s) h (traps_there CallDepth at frames s l)

    pub after : (s : State) (go : State → Next) → Progresses origin s → ((t : State) → Progresses origin t → ticks t + for_tick code ≡ ticks s → Fits (go t)) → Fits (after_tick s go)
    after s go l each = at s.left refl
      where
        at : (n : ℕ) → s.left ≡ n → Fits (ticked (spend_of n s) s go)
        at zero e = record { less = tt; later = l; right = e }
        at (suc n) e =
            let spent : Spent s (record s { left = n; spent = s.spent + 1 }) = spend_of_later (suc n) s (record s { left = n; spent = s.spent + 1 }) (sym e) refl in
            each (record s { left = n; spent = s.spent + 1 }) (later_trans origin s (record s { left = n; spent = s.spent + 1 }) l spent.later) (rw e (omega arith))

    pub value : (v : Option Value) (s : State) (go : Value → Next) → Progresses origin s → ((u : Value) → Fits (go u)) → Fits (with_value v s go)
    value None s go l each = stays None s l
    value (Some v) s go l each = each v

    pub reads : (r : Option Read) (s : State) (go : List Value → Registers → Next) → Progresses origin s → ((vs : List Value) (regs : Registers) → Fits (go vs regs)) → Fits (with_read r s go)
    reads None s go l each = stays None s l
    reads (Some r) s go l each = each r.values r.after

    pub registers : (r : Option Registers) (s : State) (go : Registers → Next) → Progresses origin s → ((regs : Registers) → Fits (go regs)) → Fits (with_registers r s go)
    registers None s go l each = stays None s l
    registers (Some r) s go l each = each r

    pub owner : (v : Option Value) (s : State) (go : ℕ → Next) → Progresses origin s → ((n : ℕ) → Fits (go n)) → Fits (with_owner v s go)
    owner (Some (Own n)) s go l each = each n
    owner None s go l each = stays None s l
    owner (Some (Int z)) s go l each = stays None s l
    owner (Some (Truth x)) s go l each = stays None s l
    owner (Some (Text t)) s go l each = stays None s l
    owner (Some (Ref n)) s go l each = stays None s l
    owner (Some (Iso n)) s go l each = stays None s l

    pub number : (v : Option Value) (s : State) (go : ℤ → Next) → Progresses origin s → ((z : ℤ) → Fits (go z)) → Fits (with_number v s go)
    number (Some (Int z)) s go l each = each z
    number None s go l each = stays None s l
    number (Some (Truth x)) s go l each = stays None s l
    number (Some (Text t)) s go l each = stays None s l
    number (Some (Own n)) s go l each = stays None s l
    number (Some (Ref n)) s go l each = stays None s l
    number (Some (Iso n)) s go l each = stays None s l

    pub truth : (v : Option Value) (s : State) (go : Bool → Next) → Progresses origin s → ((x : Bool) → Fits (go x)) → Fits (with_truth v s go)
    truth (Some (Truth x)) s go l each = each x
    truth None s go l each = stays None s l
    truth (Some (Int z)) s go l each = stays None s l
    truth (Some (Text t)) s go l each = stays None s l
    truth (Some (Own n)) s go l each = stays None s l
    truth (Some (Ref n)) s go l each = stays None s l
    truth (Some (Iso n)) s go l each = stays None s l

    pub choice : {A : Type 0} (o : Option A) (s : State) (go : A → Next) → Progresses origin s → ((a : A) → Fits (go a)) → Fits (with_choice o s go)
    choice None s go l each = stays None s l
    choice (Some a) s go l each = each a

    pub looked : (x : Looked) (s : State) (if_dead : Next) (go : ℕ → Object → Next) → Progresses origin s → Fits if_dead → ((n : ℕ) (o : Object) → Fits (go n o)) → Fits (on_looked x s if_dead go)
    looked (found n o) s if_dead go l h each = each n o
    looked dead s if_dead go l h each = h
    looked nowhere s if_dead go l h each = stays None s l

    pub with_a_function : (f : ℕ) (s : State) (go : Form → Func → Next) → Progresses origin s → ((form : Form) (func : Func) → Fits (go form func)) → Fits (function code f s go)
    with_a_function f s go l each = at (slice_get code.funcs f)
      where
        by_form : (o : Option Form) (func : Func) → Fits (with_form o func s go)
        by_form None func = stays None s l
        by_form (Some form) func = each form func

        at : (o : Option Func) → Fits (with_func o s go)
        at None = stays None s l
        at (Some func) = by_form (form_of func.form) func

    pub called : (form : Form) (s : State) (m : Next) → Progresses origin s → Fits m → Fits (if_called form s m)
    called Plain s m l h = h
    called Pure s m l h = h
    called Iteration s m l h = stays None s l
    called Destructor s m l h = stays None s l

    pub iterates : (form : Form) (s : State) (m : Next) → Progresses origin s → Fits m → Fits (if_iteration form s m)
    iterates Plain s m l h = stays None s l
    iterates Pure s m l h = stays None s l
    iterates Iteration s m l h = h
    iterates Destructor s m l h = stays None s l

    pub destroys : (form : Form) (s : State) (m : Next) → Progresses origin s → Fits m → Fits (if_destructor form s m)
    destroys Plain s m l h = stays None s l
    destroys Pure s m l h = stays None s l
    destroys Iteration s m l h = stays None s l
    destroys Destructor s m l h = h

    -- ---- functions are entered and left

    begins : (form : Form) (s : State) → Progresses s (begun form s)
    begins Plain s = later_refl s
    begins Pure s = freeze_later s
    begins Iteration s = freeze_iteration_later s
    begins Destructor s = later_refl s

    ends : (form : Form) (v : Option Value) (s : State) → Progresses s (ended form v s)
    ends Plain v s = later_refl s
    ends Pure v s = thaw_later (end_of_pure v) s
    ends Iteration v s = thaw_iteration_later (end_of_isolate v) s
    ends Destructor v s = later_refl s

    -- what a tick allows is enough for one more function over these frames
    pub enters : (f : ℕ) (form : Form) (func : Func) (call : FrameAt) (dest : Option ℕ) (args : List Value) (frames : List Frame) (s : State)
        → Progresses origin s → at_below code frames + ticks s < b + (width code + width code) → Fits (enter f form func call dest args frames s)
    enters f form func call dest args frames s l room =
        deep (weight form) call.at frames s _ l (after s _ l (λ t lt less. record {
          less = omega (arith, room, less, ticks_fewer t (begun form t) (begins form t), top_most (Running (record { call = call; function = f; dest = dest; place = 0; registers = registers_for func.registers args })));
          later = later_trans origin t (begun form t) lt (begins form t);
          right = tt;
        }))

    pub leaves : (frames : List Frame) (to : Option ℕ) (v : Option Value) (s : State) → Progresses origin s → at_below code frames + ticks s < b → Fits (leave frames to v s)
    leaves [] to v s l room = record { less = tt; later = l; right = tt }
    leaves (f ∷ fs) to v s l room = record { less = omega (arith, room, top_most (resume to v f), resumed to v f); later = l; right = tt }

    pub leaves_function : (form : Form) (dest : Option ℕ) (v : Option Value) (frames : List Frame) (s : State)
        → Progresses origin s → at_below code frames + ticks s < b → Fits (leave_function form dest v frames s)
    leaves_function form dest v frames s l room =
        leaves frames dest (outgoing form v) (ended form v s) (later_trans origin s (ended form v s) l (ends form v s))
        (omega (arith, room, ticks_fewer s (ended form v s) (ends form v s)))
