-- Every run ends.
use Rattle.std.proofs.Common.{◌≡◌, ℕ, zero, suc, ◌+◌, ◌<◌, ◌≤◌, ℤ, List, [], ◌∷◌, length, Option, Some, None, Bool, true, false, ◌||◌, nat_lt, nat_le, refl, sym, ap, ◌∙◌, subst, ⊎_elim, arith}
use Rattle.std.specs.Prelude.{slice_get}
use Rattle.std.proofs.lemmas.Bool.{cases_lt}
use Rattle.vale_base.specs.Limits.{width_limit}
use Rattle.vale_state_spec.specs.State.{State, dies, Answer, gives, traps, fails, Given, begin, object_of, join_isolate, is_outermost, look, freeze, born, make, width_of}
use Rattle.vale_state_spec.specs.World.{Value, Int, Truth, Text, Own, Ref, Iso, Object}
use Rattle.vale_base.specs.declared.name.Kind.{Kind}
use Rattle.vale_base.specs.declared.spot.Spot.{Spot}
use Rattle.vale_base.specs.declared.trap.FrameAt.{FrameAt}
use Rattle.vale_base.specs.declared.trap.TrapKind.TheVariants.{DeadReference, LoopTooWide}
use Rattle.vale_state_spec.specs.State as region
use Rattle.vale_state_spec.specs.State.{merged, cleared}
use Rattle.vale_text.specs.Operations as operations
use Rattle.vale_code.proofs.Fits as fits
use Rattle.vale_code.proofs.Fits.{ticks, ticks_fewer, Fits, fetch_within, top_most}
use Rattle.vale_text.proofs.StateLaws as laws
use Rattle.vale_text.specs.Progress.{Progresses, StepGoesOn}
use Rattle.vale_code.specs.Act.{act, answers, surely, value, values, owner, without_first, act_if, step_of, step_by, loops, call, call_of_object, dispatch, makes, opens, returns, loops_over_numbers, loops_over_array}
use Rattle.vale_code.specs.Destroy.{destroy, destroy_by, destroy_object, first_owned, Owned, drop_rest, drop_next}
use Rattle.vale_code.specs.Enter.{Form, enter}
use Rattle.vale_code.specs.Frames.{Active, Emptying, Iterating, Item, Items, Elements, Frame, Running, Dropping, Looping, Alone, Config, Next, On, Over, wrong, trap, next_item}
use Rattle.vale_code.specs.Fuel.{width, places_from, before_tick, at_top, at_below, for_tick, fuel}
use Rattle.vale_code.specs.Instructions.{truth_of, comparison_of, of_living, array_length, text_length, behind, onward, gets, answered, certain, fetch, is_tick, jump_by, jump, jump_unless}
use Rattle.vale_code.specs.Kinds.{array_of, method_in, destructor_of, element_type, holds_values, kind_of, result_to}
use Rattle.vale_code.specs.Loops.{iterate, array_made, gathered, loop_goes_on, loop_next, counted_from, loop_begins}
use Rattle.vale_code.specs.Parts.{Parts}
use Rattle.vale_code.specs.Run.{Ending, then_go, exec_by, exec, ended_or_wrong, last_state, start, fuel_after, ending_of, EndsIn}
use Rattle.vale_code.specs.Registers.{Registers, read, put, kept, read_all, give_all, put_all, with_result}
use Rattle.vale_code.specs.declared.func.Func.{Func}
use Rattle.vale_code.specs.declared.instr.Instr.{Instr}
use Rattle.vale_code.specs.declared.instr.Instr.TheVariants as i
use Rattle.vale_code.specs.declared.ty.Ty.{Ty}

-- ---- single steps of code alone

living_goes : (s : State) (a : Answer) → StepGoesOn s a → StepGoesOn s (of_living a)
living_goes s (gives v t) h = h
living_goes s (traps DeadReference) h = tt
living_goes s (traps _) h = tt
living_goes s fails h = tt

array_length_goes : (v : Value) (s : State) → StepGoesOn s (array_length v s)
array_length_goes v s = laws.on_object_goes v s _ (λ n o e. laws.later_refl s)

text_length_goes : (v : Value) (s : State) → StepGoesOn s (text_length v s)
text_length_goes v s = laws.on_text_goes s v _ (λ t. laws.later_refl s)

-- ---- destructions and loops, under a bound that has room for one more function over the frames

module _ (code : Parts) (origin : State) (b : ℕ) where
  abbrev pub Room : List Frame → State → Type 0
  Room frames s = at_below code frames + ticks code s < b + (width code + width code)

  destroys_by : (o : Option ℕ) (n : ℕ) (x : Object) (at : Spot) (frames : List Frame) (s : State) → Progresses origin s → Room frames s → Fits code origin b (destroy_by code o n x at frames s)
  destroys_by (Some f) n x at frames s l room =
      fits.with_a_function code origin b f s _ l (λ form func.
      fits.destroys code origin b form s _ l (fits.enters code origin b f form func _ None (Own n ∷ []) frames s l room))
  destroys_by None n x at frames s l room =
      fits.deep code origin b 1 at frames s _ l (fits.after code origin b s _ l (λ t lt less. record {
        less = omega (arith, room, less);
        later = laws.later_trans origin t (dies n t) lt (laws.dies_later n t);
        right = tt;
      }))

  destroys_object : (o : Option Object) (n : ℕ) (at : Spot) (frames : List Frame) (s : State) → Progresses origin s → Room frames s → Fits code origin b (destroy_object code o n at frames s)
  destroys_object None n at frames s l room = fits.stays code origin b None s l
  destroys_object (Some o) n at frames s l room = destroys_by (destructor_of code o.kind) n o at frames s l room

  pub destroys : (v : Value) (at : Spot) (frames : List Frame) (s : State) → Progresses origin s → Room frames s → Fits code origin b (destroy code v at frames s)
  destroys (Own n) at frames s l room = destroys_object (object_of n s) n at frames s l room
  destroys (Iso n) at frames s l room =
      destroys_object (object_of n (join_isolate n s)) n at frames (join_isolate n s) (laws.later_trans origin s (join_isolate n s) l (laws.join_isolate_later n s)) room
  destroys (Int z) at frames s l room = fits.stays code origin b None s l
  destroys (Truth x) at frames s l room = fits.stays code origin b None s l
  destroys (Text t) at frames s l room = fits.stays code origin b None s l
  destroys (Ref n) at frames s l room = fits.stays code origin b None s l

  pub iterates : (f : Iterating) (k : ℕ) (item : Value) (frames : List Frame) (s : State) → Progresses origin s → Room frames s → Fits code origin b (iterate code f k item frames s)
  iterates f k item frames s l room =
      fits.with_a_function code origin b f.function s _ l (λ form func.
      fits.iterates code origin b form s _ l (fits.enters code origin b f.function form func _ (Some 0) (item ∷ f.captured) frames s l room))

  counts_on : (x : Bool) (last : Config → State) (f : Iterating) (frames : List Frame) (s : State) → Progresses s (counted_from x code last f frames s)
  counts_on true last f frames s = laws.loop_counted_later _ s
  counts_on false last f frames s = laws.later_refl s

  pub loop_fits : (last : Config → State) (f : Iterating) (frames : List Frame) (s : State) → Progresses origin s → at_below code frames + ticks code s + 1 < b
      → Fits code origin b (loop_begins code last f frames s)
  loop_fits last f frames s l room =
      let on : Progresses s (counted_from (is_outermost s) code last f frames s) = counts_on (is_outermost s) last f frames s in
      record {
        less = omega (arith, room, ticks_fewer code s (counted_from (is_outermost s) code last f frames s) on);
        later = laws.later_trans origin s (counted_from (is_outermost s) code last f frames s) l on;
        right = tt;
      }

-- ---- the step of a destruction, and that of a loop

module _ (code : Parts) (below : List Frame) (s : State) where
  abbrev one_more : ℕ
  one_more = ticks code s + 1 + at_below code below

  drops_rest : (o : Option Owned) (f : Emptying) → Fits code s one_more (drop_rest code o f below s)
  drops_rest None f = fits.leaves code s one_more below None None s (laws.later_refl s) (omega arith)
  drops_rest (Some o) f = destroys code s one_more o.first f.call.at (Dropping (record f { rest = o.rest }) ∷ below) s (laws.later_refl s) (omega arith)

  pub drops : (f : Emptying) → Fits code s one_more (drop_next code f below s)
  drops f = drops_rest (first_owned f.rest) f

  array : (kind : Option Kind) (f : Iterating) (t : State) → Progresses s t → Fits code s one_more (array_made kind f below t)
  array None f t l = fits.stays code s one_more None t l
  array (Some kind) f t l =
      fits.after code s one_more t _ l (λ u lu less.
      let birth : Progresses u (born kind f.done u) = laws.born_later_state kind f.done u in
      fits.leaves code s one_more below f.dest _ (born kind f.done u) (laws.later_trans s u (born kind f.done u) lu birth)
      (omega (arith, less, ticks_fewer code s t l, ticks_fewer code u (born kind f.done u) birth)))

  gathers : (item : Option Ty) (f : Iterating) (t : State) → Progresses s t → Fits code s one_more (gathered code item f below t)
  gathers None f t l = fits.leaves code s one_more below None None t l (omega (arith, ticks_fewer code s t l))
  gathers (Some item) f t l = array (array_of code item) f t l

  goes_on : (o : Option Item) (f : Iterating) → Fits code s one_more (loop_goes_on code o f below s)
  goes_on None f =
      fits.with_a_function code s one_more f.function s _ (laws.later_refl s) (λ form func.
      gathers (element_type func.result) f (record s { quiet = f.quiet }) (laws.counting_as_later (record s { quiet = f.quiet }) s))
  goes_on (Some item) f =
      iterates code s one_more f f.next item.first (Looping (record f { items = item.rest; next = f.next + 1 }) ∷ below) s (laws.later_refl s) (omega arith)

  pub loops_on : (f : Iterating) → Fits code s one_more (loop_next code f below s)
  loops_on f = goes_on (next_item f.items) f

-- ---- instructions

module _ (code : Parts) (last : Config → State) (f : Active) (below : List Frame) (s : State) where
  -- the fuel before the step
  abbrev b : ℕ
  b = ticks code s + at_top code (Running f) + at_below code below

  itself : Progresses s s
  itself = laws.later_refl s

  module _ (instr : Instr) (e : fetch code f.function f.place ≡ Some instr) where
    here : f.place < width code
    here = fetch_within code f.function f.place instr e

    -- at an instruction that is no tick
    full : is_tick (Some instr) ≡ false → at_top code (Running f) ≡ places_from code f.place + (width code + width code)
    full t = ap (λ o. places_from code f.place + before_tick code (is_tick o)) e ∙ ap (λ x. places_from code f.place + before_tick code x) t

    some_left : places_from code f.place ≤ at_top code (Running f)
    some_left = omega arith

    on_from : is_tick (Some instr) ≡ false → (regs : Registers) (t : State) → Progresses s t → Fits code s b (onward f regs below t)
    on_from plain regs t l = record {
      less = omega (arith, here, full plain, ticks_fewer code s t l, top_most code (behind f regs));
      later = l;
      right = tt;
    }

    on_after_tick : (regs : Registers) (t u : State) → Progresses s t → ticks code t + for_tick code ≡ ticks code s → Progresses t u → Fits code s b (onward f regs below u)
    on_after_tick regs t u l less lu = record {
      less = omega (arith, here, less, ticks_fewer code t u lu, top_most code (behind f regs));
      later = laws.later_trans s t u l lu;
      right = tt;
    }

    getting : is_tick (Some instr) ≡ false → (to : ℕ) (v : Option Value) (regs : Registers) → Fits code s b (gets f to v regs below s)
    getting plain to None regs = fits.stays code s b None s itself
    getting plain to (Some v) regs = on_from plain _ s itself

    answering : is_tick (Some instr) ≡ false → (to : Option ℕ) (regs : Registers) (at : Spot) (a : Answer) → StepGoesOn s a → Fits code s b (answered f to regs at below s a)
    answering plain to regs at (gives v t) goes = on_from plain _ t goes
    answering plain to regs at (traps kind) goes = fits.traps_there code s b kind at (Running f ∷ below) s itself
    answering plain to regs at fails goes = fits.stays code s b None s itself

    certainly : is_tick (Some instr) ≡ false → (to : Option ℕ) (regs : Registers) (a : Answer) → StepGoesOn s a → Fits code s b (certain f to regs below s a)
    certainly plain to regs (gives v t) goes = on_from plain _ t goes
    certainly plain to regs (traps kind) goes = fits.stays code s b None s itself
    certainly plain to regs fails goes = fits.stays code s b None s itself

    certainly_after : (to : Option ℕ) (regs : Registers) (t : State) (a : Answer) → Progresses s t → ticks code t + for_tick code ≡ ticks code s → StepGoesOn t a
        → Fits code s b (certain f to regs below t a)
    certainly_after to regs t (gives v u) l less goes = on_after_tick (with_result to v regs) t u l less goes
    certainly_after to regs t (traps kind) l less goes = fits.stays code s b None t l
    certainly_after to regs t fails l less goes = fits.stays code s b None t l

    -- the frames that go on after the instruction have room
    room : (regs : Registers) → Room code s b (behind f regs ∷ below) s
    room regs = omega (arith, here, some_left)

    jumps : is_tick (Some instr) ≡ false → (p : ℕ) → Fits code s b (jump code f p below s)
    jumps plain p = ⊎_elim (λ lt. forth lt) (λ le. back (is_tick (fetch code f.function p)) refl le) (cases_lt f.place p)
      where
        spends : Fits code s b (jump_by false f p below s)
        spends = fits.after code s b s _ itself (λ t l less. record { less = omega (arith, less, some_left, top_most code (Running (record f { place = p }))); later = l; right = tt })

        forth : f.place < p → Fits code s b (jump code f p below s)
        forth lt =
            let g : nat_lt f.place p ≡ true = grind (arith) in
            subst (λ x. Fits code s b (jump_by (x || is_tick (fetch code f.function p)) f p below s)) (sym g)
            (record { less = omega (arith, here, full plain, lt, top_most code (Running (record f { place = p }))); later = itself; right = tt })

        to_tick : is_tick (fetch code f.function p) ≡ true → Fits code s b (jump_by true f p below s)
        to_tick g =
            let low : at_top code (Running (record f { place = p })) ≡ places_from code p + 0 = ap (λ x. places_from code p + before_tick code x) g in
            record { less = omega (arith, here, full plain, low); later = itself; right = tt }

        by_place : (x : Bool) → is_tick (fetch code f.function p) ≡ x → Fits code s b (jump_by x f p below s)
        by_place true g = to_tick g
        by_place false g = spends

        back : (x : Bool) → is_tick (fetch code f.function p) ≡ x → p ≤ f.place → Fits code s b (jump code f p below s)
        back x g le =
            let no_lt : nat_lt f.place p ≡ false = grind (arith) in
            subst (λ y. Fits code s b (jump_by (y || is_tick (fetch code f.function p)) f p below s)) (sym no_lt)
            (subst (λ y. Fits code s b (jump_by y f p below s)) (sym g) (by_place x g))

    jumps_unless : is_tick (Some instr) ≡ false → (p : ℕ) (x : Bool) → Fits code s b (jump_unless code f p below s x)
    jumps_unless plain p true = on_from plain _ s itself
    jumps_unless plain p false = jumps plain p

    says : is_tick (Some instr) ≡ false → (to : Option ℕ) (at : Spot) (a : Answer) → StepGoesOn s a → Fits code s b (answers code last f below s to at a)
    says plain to at a goes = answering plain to f.registers at a goes

    surely_says : is_tick (Some instr) ≡ false → (to : Option ℕ) (a : Answer) → StepGoesOn s a → Fits code s b (surely code last f below s to a)
    surely_says plain to a goes = certainly plain to f.registers a goes

    one : (a : ℕ) (go : Value → Next) → ((v : Value) → Fits code s b (go v)) → Fits code s b (value code last f below s a go)
    one a go each = fits.value code s b (read f.registers a) s go itself each

    owned : (a : ℕ) (go : ℕ → Next) → ((n : ℕ) → Fits code s b (go n)) → Fits code s b (owner code last f below s a go)
    owned a go each = fits.owner code s b (read f.registers a) s go itself each

    two : (a c : ℕ) (go : Value → Value → Next) → ((v w : Value) → Fits code s b (go v w)) → Fits code s b (values code last f below s a c go)
    two a c go each = one a _ (λ v. one c _ (λ w. each v w))

    -- ---- calls

    enters_over : (g : ℕ) (form : Form) (func : Func) (name : FrameAt) (dest : Option ℕ) (args : List Value) (regs : Registers)
        → Fits code s b (enter g form func name dest args (behind f regs ∷ below) s)
    enters_over g form func name dest args regs = fits.enters code s b g form func name dest args (behind f regs ∷ below) s itself (room regs)

    calling : (to g : ℕ) (args : List ℕ) (at : Spot) → Fits code s b (call code last f below s to g args at)
    calling to g args at =
        fits.with_a_function code s b g s _ itself (λ form func.
        fits.called code s b form s _ itself (fits.reads code s b (give_all func.params args f.registers) s _ itself (λ vs regs.
        enters_over g form func _ (result_to func.result to) vs regs)))

    calling_of : (n to g : ℕ) (args : List ℕ) (at : Spot) → Fits code s b (call_of_object code last f below s n to g args at)
    calling_of n to g args at =
        fits.with_a_function code s b g s _ itself (λ form func.
        fits.called code s b form s _ itself (fits.reads code s b (give_all (without_first func.params) args f.registers) s _ itself (λ vs regs.
        enters_over g form func _ (result_to func.result to) (Ref n ∷ vs) regs)))

    dispatching : (if_dead : Next) (to interface method object : ℕ) (args : List ℕ) (at : Spot) → Fits code s b if_dead
        → Fits code s b (dispatch code last f below s if_dead to interface method object args at)
    dispatching if_dead to interface method object args at h =
        one object _ (λ v. fits.looked code s b (look v s) s if_dead _ itself h (λ n o.
        fits.choice code s b (method_in code.impls interface method o.kind) s _ itself (λ g. calling_of n to g args at)))

    returning : is_tick (Some instr) ≡ false → (v : Option Value) → Fits code s b (returns code last f below s v)
    returning plain v =
        fits.with_a_function code s b f.function s _ itself (λ form func.
        fits.leaves_function code s b form f.dest v below s itself (omega (arith, here, full plain)))

    -- ---- objects

    making : (to : ℕ) (kind : Kind) (args : List ℕ) → Fits code s b (makes code last f below s to kind args)
    making to kind args =
        fits.either code s b (holds_values (kind_of code kind) (length args)) _ (wrong s)
        (fits.reads code s b (read_all args f.registers) s _ itself (λ vs regs. fits.after code s b s _ itself (λ t l less.
        certainly_after (Some to) regs t (make kind vs t) l less (laws.make_goes kind vs t))))
        (fits.stays code s b None s itself)

    opening : (to : List ℕ) (from : ℕ) → Fits code s b (opens code last f below s to from)
    opening to from =
        owned from _ (λ n. fits.choice code s b (object_of n s) s _ itself (λ o.
        fits.registers code s b (put_all to o.values (put f.registers from None)) s _ itself (λ regs. fits.after code s b s _ itself (λ t l less.
        on_after_tick regs t (dies n t) l less (laws.dies_later n t)))))

    -- ---- parallel loops

    looping : (to : ℕ) (items : Items) (g : ℕ) (args : List ℕ) (regs : Registers) (at : Spot) (t : State) → Progresses s t
        → places_from code (f.place + 1) + (width code + width code) + at_below code below + ticks code t + 1 < b
        → Fits code s b (loops code last f below s to items g args regs at t)
    looping to items g args regs at t l enough =
        fits.with_a_function code s b g t _ l (λ form func.
        fits.iterates code s b form t _ l (fits.reads code s b (give_all (without_first func.params) args regs) t _ l (λ vs after.
        loop_fits code s b last _ (behind f after ∷ below) t l (omega (arith, enough)))))

    looping_over_numbers : is_tick (Some instr) ≡ false → (to : ℕ) (x y : ℤ) (g : ℕ) (args : List ℕ) (at : Spot)
        → Fits code s b (loops_over_numbers code last f below s to x y g args at)
    looping_over_numbers plain to x y g args at =
        fits.either code s b (nat_le (width_of x y) width_limit) _ (trap LoopTooWide at (Running f ∷ below) s)
        (looping to _ g args f.registers at s itself (omega (arith, here, full plain)))
        (fits.traps_there code s b LoopTooWide at (Running f ∷ below) s itself)

    looping_over_array : (to a g : ℕ) (args : List ℕ) (at : Spot) → Fits code s b (loops_over_array code last f below s to a g args at)
    looping_over_array to a g args at =
        owned a _ (λ n. fits.choice code s b (object_of n s) s _ itself (λ o. fits.after code s b s _ itself (λ t l less.
        looping to (Elements o.values) g args (put f.registers a None) at (dies n t) (laws.later_trans s t (dies n t) l (laws.dies_later n t))
        (omega (arith, here, less, some_left)))))

  -- ---- each instruction

  acts : (instr : Instr) → fetch code f.function f.place ≡ Some instr → Fits code s b (act code last f below s instr)
  acts (i.Int to n) e = on_from _ e refl _ s itself
  acts (i.Truth to c) e = fits.choice code s b (truth_of c) s _ itself (λ x. on_from _ e refl _ s itself)
  acts (i.Text to n) e = fits.choice code s b (slice_get code.texts n) s _ itself (λ x. on_from _ e refl _ s itself)
  acts (i.Copy to a) e = one _ e a _ (λ v. getting _ e refl to _ _)
  acts (i.Move to a) e = one _ e a _ (λ v. getting _ e refl to _ _)
  acts (i.Add to a c at) e = two _ e a c _ (λ v w. says _ e refl (Some to) at _ (laws.ints_goes operations.add v w s))
  acts (i.Sub to a c at) e = two _ e a c _ (λ v w. says _ e refl (Some to) at _ (laws.ints_goes operations.sub v w s))
  acts (i.Mul to a c at) e = two _ e a c _ (λ v w. says _ e refl (Some to) at _ (laws.ints_goes operations.mul v w s))
  acts (i.Div to a c at) e = two _ e a c _ (λ v w. says _ e refl (Some to) at _ (laws.ints_goes operations.div v w s))
  acts (i.Rem to a c at) e = two _ e a c _ (λ v w. says _ e refl (Some to) at _ (laws.ints_goes operations.rem v w s))
  acts (i.Cmp to c x y) e = fits.choice code s b (comparison_of c) s _ itself (λ o. two _ e x y _ (λ v w. surely_says _ e refl (Some to) _ (laws.compare_goes o v w s)))
  acts (i.Not to a) e = one _ e a _ (λ v. surely_says _ e refl (Some to) _ (laws.opposite_goes v s))
  acts (i.Join to a c at) e = two _ e a c _ (λ v w. says _ e refl (Some to) at _ (laws.join_goes v w s))
  acts (i.TextLen to a) e = one _ e a _ (λ v. surely_says _ e refl (Some to) _ (text_length_goes v s))
  acts (i.Slice to a x y at) e = one _ e a _ (λ v. two _ e x y _ (λ u w. says _ e refl (Some to) at _ (laws.slice_goes v u w s)))
  acts (i.Byte to a x at) e = two _ e a x _ (λ v u. says _ e refl (Some to) at _ (laws.byte_goes v u s))
  acts (i.TextOf to a) e = one _ e a _ (λ v. surely_says _ e refl (Some to) _ (laws.text_of_goes v s))
  acts (i.IsNum to a) e = one _ e a _ (λ v. surely_says _ e refl (Some to) _ (laws.is_number_goes v s))
  acts (i.Num to a at) e = one _ e a _ (λ v. says _ e refl (Some to) at _ (laws.number_goes v s))
  acts (i.Print a c) e = fits.choice code s b (truth_of c) s _ itself (λ line. one _ e a _ (λ v. surely_says _ e refl None _ (laws.print_goes line v s)))
  acts (i.Jump target) e = jumps _ e refl target
  acts (i.Unless a target) e = fits.truth code s b (read f.registers a) s _ itself (jumps_unless _ e refl target)
  acts i.Tick e = fits.after code s b s _ itself (λ t l less. on_after_tick _ e _ t t l less (laws.later_refl t))
  acts (i.Call to g args at) e = calling _ e to g args at
  acts (i.CallM to interface method a args at) e =
      dispatching _ e _ to interface method a args at (fits.traps_there code s b DeadReference at (Running f ∷ below) s itself)
  acts (i.CallMLive to interface method a args at) e = dispatching _ e _ to interface method a args at (fits.stays code s b None s itself)
  acts (i.Ret a) e = one _ e a _ (λ v. returning _ e refl (Some v))
  acts i.RetVoid e = returning _ e refl None
  acts (i.Make to kind args) e = making _ e to kind args
  acts (i.Borrow to a) e = one _ e a _ (λ v. getting _ e refl to _ _)
  acts (i.Frozen to a) e = one _ e a _ (λ v. getting _ e refl to _ _)
  acts (i.LoadOwn to a field) e = owned _ e a _ (λ n. surely_says _ e refl (Some to) _ (laws.load_goes field (Own n) s))
  acts (i.Load to a field at) e = one _ e a _ (λ v. says _ e refl (Some to) at _ (laws.load_goes field v s))
  acts (i.LoadLive to a field) e = one _ e a _ (λ v. surely_says _ e refl (Some to) _ (laws.load_goes field v s))
  acts (i.ElemOwn to a x at) e = owned _ e a _ (λ n. one _ e x _ (λ u. says _ e refl (Some to) at _ (living_goes s _ (laws.element_goes (Own n) u s))))
  acts (i.Elem to a x at) e = two _ e a x _ (λ v u. says _ e refl (Some to) at _ (laws.element_goes v u s))
  acts (i.ElemLive to a x at) e = two _ e a x _ (λ v u. says _ e refl (Some to) at _ (living_goes s _ (laws.element_goes v u s)))
  acts (i.Len to a at) e = one _ e a _ (λ v. says _ e refl (Some to) at _ (array_length_goes v s))
  acts (i.LenLive to a) e = one _ e a _ (λ v. surely_says _ e refl (Some to) _ (array_length_goes v s))
  acts (i.SwapOwn to a field c) e = owned _ e a _ (λ n. one _ e c _ (λ new. certainly _ e refl (Some to) (kept c new f.registers) _ (laws.swap_goes field (Own n) new s)))
  acts (i.Swap to a field c at) e = two _ e a c _ (λ v new. answering _ e refl (Some to) (kept c new f.registers) at _ (laws.swap_goes field v new s))
  acts (i.SwapElOwn to a x c at) e =
      owned _ e a _ (λ n. two _ e x c _ (λ u new. answering _ e refl (Some to) (kept c new f.registers) at _ (living_goes s _ (laws.swap_element_goes (Own n) u new s))))
  acts (i.SwapEl to a x c at) e = one _ e a _ (λ v. two _ e x c _ (λ u new. answering _ e refl (Some to) (kept c new f.registers) at _ (laws.swap_element_goes v u new s)))
  acts (i.Push a c at) e = two _ e a c _ (λ v new. answering _ e refl None (kept c new f.registers) at _ (laws.push_goes v new s))
  acts (i.Pop to a at) e = one _ e a _ (λ v. says _ e refl (Some to) at _ (laws.pop_goes v s))
  acts (i.Open to a) e = opening _ e to a
  acts (i.Destroy a at) e = one _ e a _ (λ v. destroys code s b v at (behind f (put f.registers a None) ∷ below) s itself (room _ e (put f.registers a None)))
  acts (i.Merge to a) e = one _ e a _ (λ v. certainly _ e refl (Some to) (kept a v f.registers) _ (laws.merge_goes v s))
  acts (i.Freeze at) e = fits.deep code s b 1 at (Running f ∷ below) s _ itself (on_from _ e refl f.registers (freeze s) (laws.freeze_later s))
  acts (i.ThawMerge to a) e = owned _ e a _ (λ n. on_from _ e refl _ _ (laws.thaw_later merged s))
  acts (i.ThawKeep to a) e = owned _ e a _ (λ n. on_from _ e refl _ _ (laws.thaw_later (region.kept n) s))
  acts i.ThawClear e = on_from _ e refl _ _ (laws.thaw_later cleared s)
  acts (i.ParRange to x y g args at) e = fits.number code s b (read f.registers x) s _ itself (λ m. fits.number code s b (read f.registers y) s _ itself (λ n. looping_over_numbers _ e refl to m n g args at))
  acts (i.ParEach to a g args at) e = looping_over_array _ e to a g args at
  acts (i.Upcast to a kind) e = one _ e a _ (λ v. getting _ e refl to _ _)

  acts_if : (o : Option Instr) → fetch code f.function f.place ≡ o → Fits code s b (act_if code last f below s o)
  acts_if None e = fits.stays code s b None s itself
  acts_if (Some instr) e = acts instr e

  pub runs : Fits code s b (act_if code last f below s (fetch code f.function f.place))
  runs = acts_if (fetch code f.function f.place) refl

-- ---- runs

-- there is less fuel after a step
pub step_less : (code : Parts) (last : Config → State) (c : Config) → Fits code c.state (fuel code c) (step_by code last c)
step_less code last c = at c.top
  where
    at : (top : Frame) → Fits code c.state (fuel code (record c { top = top })) (step_of code last top c.below c.state)
    at (Running f) = runs code last f c.below c.state
    at (Dropping f) = drops code c.below c.state f
    at (Looping f) = loops_on code c.below c.state f
    at (Alone v) = record { less = tt; later = laws.later_refl c.state; right = tt }

-- a run is over before its fuel
pub over : (code : Parts) (last : Config → State) (n : ℕ) (c : Config) → fuel code c < n → (e : Ending) × (exec_by code last n c ≡ Some e)
over code last zero c le = absurd (omega arith)
over code last (suc n) c le = at (step_by code last c) (step_less code last c) (λ d less. over code last n d (omega (arith, less)))
  where
    at : (x : Next) → Fits code c.state (fuel code c) x → ((d : Config) → fuel code d < fuel code c → (e : Ending) × (exec_by code last n d ≡ Some e))
        → (e : Ending) × (then_go x (exec_by code last n) ≡ Some e)
    at (On d) fit next = next d fit.less
    at (Over end v s) fit next = (record { end = end; value = v; state = s }, refl)

-- more steps change nothing of a run that is over
longer : (code : Parts) (last : Config → State) (n m : ℕ) (c : Config) (e : Ending) → n ≤ m → exec_by code last n c ≡ Some e → exec_by code last m c ≡ Some e
longer code last zero m c e le h = absurd (let x : ⊥ = cc in x)
longer code last (suc n) zero c e le h = absurd (omega arith)
longer code last (suc n) (suc m) c e le h = at (step_by code last c) h (λ d g. longer code last n m d e (omega arith) g)
  where
    at : (x : Next) → then_go x (exec_by code last n) ≡ Some e → ((d : Config) → exec_by code last n d ≡ Some e → exec_by code last m d ≡ Some e)
        → then_go x (exec_by code last m) ≡ Some e
    at (On d) g next = next d g
    at (Over end v s) g next = g

-- so a run has one end
one_end : (code : Parts) (last : Config → State) (n m : ℕ) (c : Config) (e g : Ending) → exec_by code last n c ≡ Some e → exec_by code last m c ≡ Some g → e ≡ g
one_end code last n m c e g h k =
    ⊎_elim
    (λ lt. let x = longer code last n m c e (omega arith) h in let y : e ≡ g = cc in y)
    (λ le. let x = longer code last m n c g le k in let y : e ≡ g = cc in y)
    (cases_lt n m)

-- the run of a code ends as `ending_of` says
pub run_ends : (code : Parts) (input : Given) (amount : ℕ) → EndsIn code input amount (ending_of code input amount)
run_ends code input amount = at (start code input amount)
  where
    at : (x : Next) → (n : ℕ) × (then_go x (exec code n) ≡ Some (ended_or_wrong (begin amount) (then_go x (exec code (fuel_after code x)))))
    at (On c) = let v = over code (last_state code) (suc (fuel code c)) c (omega arith) in (suc (fuel code c), v.1 ∙ sym (ap (λ o. Some (ended_or_wrong (begin amount) o)) v.1))
    at (Over end v s) = (0, refl)

-- and in no other way
pub run_ends_once : (code : Parts) (input : Given) (amount : ℕ) (e : Ending) → EndsIn code input amount e → ending_of code input amount ≡ e
run_ends_once code input amount e h = at (start code input amount) h
  where
    at : (x : Next) → (n : ℕ) × (then_go x (exec code n) ≡ Some e) → ended_or_wrong (begin amount) (then_go x (exec code (fuel_after code x))) ≡ e
    at (On c) g =
        let v = over code (last_state code) (suc (fuel code c)) c (omega arith) in
        ap (ended_or_wrong (begin amount)) v.1 ∙ sym (one_end code (last_state code) g.0 (suc (fuel code c)) c e v.0 g.1 v.1)
    at (Over end v s) g = let y : record { end = end; value = v; state = s } ≡ e = cc in y
