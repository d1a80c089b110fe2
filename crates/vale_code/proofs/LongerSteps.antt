-- A step from a state with more ticks left leads to the same, but where it is cut with fewer.
use Rattle.std.proofs.Common.{◌≡◌, ℕ, zero, suc, ◌+◌, ◌≤◌, ℤ, List, [], ◌∷◌, length, Option, Some, None, Bool, true, false, ◌||◌, nat_lt, nat_le, if◌then◌else◌, refl, sym, ap, subst, arith}
use Rattle.std.specs.Prelude.{slice_get}
use Rattle.vale_base.specs.Limits.{width_limit}
use Rattle.vale_state_spec.specs.Outcome.{End, Done, Cut}
use Rattle.vale_state_spec.specs.State.{State, Answer, gives, traps, fails, has_depth, spend_of, Looked, found, dead, nowhere, look, look_up, found_or_dead, name_of, object_of, dies, join_isolate, is_outermost, born, make, freeze, thaw, merged, cleared, width_of}
use Rattle.vale_state_spec.specs.State as region
use Rattle.vale_state_spec.specs.World.{Value, Int, Truth, Text, Own, Ref, Iso, Object, next_name}
use Rattle.vale_base.specs.declared.name.Kind.{Kind}
use Rattle.vale_base.specs.declared.piece.Piece.{Piece}
use Rattle.vale_base.specs.declared.spot.Spot.{Spot}
use Rattle.vale_base.specs.declared.trap.FrameAt.{FrameAt}
use Rattle.vale_base.specs.declared.trap.TrapKind.{TrapKind}
use Rattle.vale_base.specs.declared.trap.TrapKind.TheVariants.{CallDepth, DeadReference, LoopTooWide}
use Rattle.vale_text.specs.Operations as operations
use Rattle.vale_code.proofs.Beside as side
use Rattle.vale_code.proofs.Beside.{Beside, beside, IsBeside, StepLonger, living}
use Rattle.vale_code.specs.Act.{act, answers, surely, value, values, owner, without_first, act_if, step_of, step_by, loops, call, call_of_object, dispatch, makes, opens, returns, loops_over_numbers, loops_over_array, on_looked}
use Rattle.vale_code.specs.Destroy.{destroy, destroy_by, destroy_object, first_owned, Owned, drop_rest}
use Rattle.vale_code.specs.Enter.{Form, Plain, Pure, Iteration, Destructor, form_of, weight, begun, ended, outgoing, with_form, with_func, function, enter, if_called, if_iteration, if_destructor}
use Rattle.vale_code.specs.Frames.{Active, Emptying, Iterating, Item, Items, Elements, Frame, Running, Dropping, Looping, Alone, Config, Next, On, Over, on, wrong, trap, under, deeper, ticked, after_tick, resume, leave, next_item}
use Rattle.vale_code.specs.Instructions.{truth_of, comparison_of, behind, onward, with_value, with_read, with_registers, with_owner, with_number, with_truth, with_choice, gets, answered, certain, fetch, is_tick, jump_by, jump, jump_unless}
use Rattle.vale_code.specs.Kinds.{array_of, method_in, destructor_of, element_type, holds_values, kind_of, result_to}
use Rattle.vale_code.specs.Loops.{iterate, array_made, gathered, loop_goes_on, counted_from, loop_begins}
use Rattle.vale_code.specs.Parts.{Parts}
use Rattle.vale_code.specs.Registers.{Registers, Read, read, put, kept, read_all, give_all, put_all, with_result}
use Rattle.vale_code.specs.declared.func.Func.{Func}
use Rattle.vale_code.specs.declared.instr.Instr.{Instr}
use Rattle.vale_code.specs.declared.instr.Instr.TheVariants as i
use Rattle.vale_code.specs.declared.ty.Ty.{Ty}

same_look : (v : Value) (s : State) (x : Beside) → look v (beside s x) ≡ look v s
same_look v s x = at (name_of v)
  where
    at : (n : Option ℕ) → look_up n (beside s x) ≡ look_up n s
    at None = refl
    at (Some n) = refl

module _ (code : Parts) (pieces : List Piece) where
  -- where the first ends, with the pieces of the start where it is cut
  abbrev pub EndLonger : End → Option Value → State → Next → Type 0
  EndLonger Cut v s m = s.pieces ≡ pieces
  EndLonger end v s m = (x : Beside) × (s.left ≤ x.left) × (m ≡ Over end v (beside s x))

  abbrev pub IsLonger : Next → Next → Type 0
  IsLonger (On c) m = (x : Beside) × (c.state.left ≤ x.left) × (m ≡ On (record c { state = beside c.state x }))
  IsLonger (Over end v s) m = EndLonger end v s m

  -- the second is what a step from the state beside leads to
  pub record Longer (n m : Next) : Type 0 where
    pub is : IsLonger n m

  -- on from states one beside the other
  on_beside : (top : Frame) (below : List Frame) (s t : State) → IsBeside s t → Longer (on top below s) (on top below t)
  on_beside top below s t b = record { is = (b.by, b.left, ap (λ u. on top below u) b.is) }

  done_beside : (v : Option Value) (s t : State) → IsBeside s t → Longer (Over Done v s) (Over Done v t)
  done_beside v s t b = record { is = (b.by, b.left, ap (λ u. Over Done v u) b.is) }

  leave_beside : (frames : List Frame) (to : Option ℕ) (v : Option Value) (s t : State) → IsBeside s t → Longer (leave frames to v s) (leave frames to v t)
  leave_beside [] to v s t b = done_beside v s t b
  leave_beside (f ∷ fs) to v s t b = on_beside (resume to v f) fs s t b

  -- ---- the words of steps

  either : (b : Bool) (m m' n n' : Next) → Longer m m' → Longer n n' → Longer (if b then m else n) (if b then m' else n')
  either true m m' n n' h g = h
  either false m m' n n' h g = g

  pub after : (s : State) (x : Beside) (go go' : State → Next) → s.left ≤ x.left → s.pieces ≡ pieces
      → ((t : State) (y : Beside) → t.left ≤ y.left → t.pieces ≡ pieces → Longer (go t) (go' (beside t y))) → Longer (after_tick s go) (after_tick (beside s x) go')
  after s x go go' le same each = at s.left x.left refl refl
    where
      at : (n m : ℕ) → s.left ≡ n → x.left ≡ m → Longer (ticked (spend_of n s) s go) (ticked (spend_of m (beside s x)) (beside s x) go')
      at zero m e h = record { is = same }
      at (suc n) zero e h = absurd (omega (arith, le, e, h))
      at (suc n) (suc m) e h = each (record s { left = n; spent = s.spent + 1 }) (record x { left = m }) (omega (arith, le, e, h)) same

  module _ (s : State) (x : Beside) (le : s.left ≤ x.left) where
    abbrev t : State
    t = beside s x

    itself : IsBeside s t
    itself = record { by = x; left = le; is = refl }

    pub stays : Longer (wrong s) (wrong t)
    stays = record { is = (x, le, refl) }

    traps_there : (kind : TrapKind) (at : Spot) (frames : List Frame) → Longer (trap kind at frames s) (trap kind at frames t)
    traps_there kind at frames = record { is = (x, le, refl) }

    deep : (more : ℕ) (at : Spot) (frames : List Frame) (m m' : Next) → Longer m m' → Longer (deeper more at frames s m) (deeper more at frames t m')
    deep more at frames m m' h = either (has_depth more (under frames) s) m m' (trap CallDepth at frames s) (trap CallDepth at frames t) h (traps_there CallDepth at frames)

    with_a_value : (v : Option Value) (go go' : Value → Next) → ((u : Value) → Longer (go u) (go' u)) → Longer (with_value v s go) (with_value v t go')
    with_a_value None go go' each = stays
    with_a_value (Some v) go go' each = each v

    reads : (r : Option Read) (go go' : List Value → Registers → Next) → ((vs : List Value) (regs : Registers) → Longer (go vs regs) (go' vs regs)) → Longer (with_read r s go) (with_read r t go')
    reads None go go' each = stays
    reads (Some r) go go' each = each r.values r.after

    registers : (r : Option Registers) (go go' : Registers → Next) → ((regs : Registers) → Longer (go regs) (go' regs)) → Longer (with_registers r s go) (with_registers r t go')
    registers None go go' each = stays
    registers (Some r) go go' each = each r

    with_an_owner : (v : Option Value) (go go' : ℕ → Next) → ((n : ℕ) → Longer (go n) (go' n)) → Longer (with_owner v s go) (with_owner v t go')
    with_an_owner (Some (Own n)) go go' each = each n
    with_an_owner None go go' each = stays
    with_an_owner (Some (Int z)) go go' each = stays
    with_an_owner (Some (Truth b)) go go' each = stays
    with_an_owner (Some (Text u)) go go' each = stays
    with_an_owner (Some (Ref n)) go go' each = stays
    with_an_owner (Some (Iso n)) go go' each = stays

    number : (v : Option Value) (go go' : ℤ → Next) → ((z : ℤ) → Longer (go z) (go' z)) → Longer (with_number v s go) (with_number v t go')
    number (Some (Int z)) go go' each = each z
    number None go go' each = stays
    number (Some (Truth b)) go go' each = stays
    number (Some (Text u)) go go' each = stays
    number (Some (Own n)) go go' each = stays
    number (Some (Ref n)) go go' each = stays
    number (Some (Iso n)) go go' each = stays

    truth : (v : Option Value) (go go' : Bool → Next) → ((b : Bool) → Longer (go b) (go' b)) → Longer (with_truth v s go) (with_truth v t go')
    truth (Some (Truth b)) go go' each = each b
    truth None go go' each = stays
    truth (Some (Int z)) go go' each = stays
    truth (Some (Text u)) go go' each = stays
    truth (Some (Own n)) go go' each = stays
    truth (Some (Ref n)) go go' each = stays
    truth (Some (Iso n)) go go' each = stays

    choice : {A : Type 0} (o : Option A) (go go' : A → Next) → ((a : A) → Longer (go a) (go' a)) → Longer (with_choice o s go) (with_choice o t go')
    choice None go go' each = stays
    choice (Some a) go go' each = each a

    looked : (l : Looked) (d d' : Next) (go go' : ℕ → Object → Next) → Longer d d' → ((n : ℕ) (o : Object) → Longer (go n o) (go' n o)) → Longer (on_looked l s d go) (on_looked l t d' go')
    looked (found n o) d d' go go' h each = each n o
    looked dead d d' go go' h each = h
    looked nowhere d d' go go' h each = stays

    pub with_a_function : (f : ℕ) (go go' : Form → Func → Next) → ((form : Form) (func : Func) → Longer (go form func) (go' form func)) → Longer (function code f s go) (function code f t go')
    with_a_function f go go' each = at (slice_get code.funcs f)
      where
        by_form : (o : Option Form) (func : Func) → Longer (with_form o func s go) (with_form o func t go')
        by_form None func = stays
        by_form (Some form) func = each form func

        at : (o : Option Func) → Longer (with_func o s go) (with_func o t go')
        at None = stays
        at (Some func) = by_form (form_of func.form) func

    called : (form : Form) (m m' : Next) → Longer m m' → Longer (if_called form s m) (if_called form t m')
    called Plain m m' h = h
    called Pure m m' h = h
    called Iteration m m' h = stays
    called Destructor m m' h = stays

    iterates_if : (form : Form) (m m' : Next) → Longer m m' → Longer (if_iteration form s m) (if_iteration form t m')
    iterates_if Plain m m' h = stays
    iterates_if Pure m m' h = stays
    iterates_if Iteration m m' h = h
    iterates_if Destructor m m' h = stays

    destroys_if : (form : Form) (m m' : Next) → Longer m m' → Longer (if_destructor form s m) (if_destructor form t m')
    destroys_if Plain m m' h = stays
    destroys_if Pure m m' h = stays
    destroys_if Iteration m m' h = stays
    destroys_if Destructor m m' h = h

    leaves : (frames : List Frame) (to : Option ℕ) (v : Option Value) → Longer (leave frames to v s) (leave frames to v t)
    leaves frames to v = leave_beside frames to v s t itself

    -- ---- functions, destructions and loops begin

    module _ (same : s.pieces ≡ pieces) where
      pub enters : (f : ℕ) (form : Form) (func : Func) (name : FrameAt) (dest : Option ℕ) (args : List Value) (frames : List Frame)
          → Longer (enter f form func name dest args frames s) (enter f form func name dest args frames t)
      enters f form func name dest args frames =
          deep (weight form) name.at frames _ _ (after s x _ _ le same (λ u y lu su. on_beside _ frames (begun form u) (begun form (beside u y)) (side.begins u y lu form)))

      destroys_by : (o : Option ℕ) (n : ℕ) (ob : Object) (at : Spot) (frames : List Frame) → Longer (destroy_by code o n ob at frames s) (destroy_by code o n ob at frames t)
      destroys_by (Some f) n ob at frames = with_a_function f _ _ (λ form func. destroys_if form _ _ (enters f form func _ None (Own n ∷ []) frames))
      destroys_by None n ob at frames = deep 1 at frames _ _ (after s x _ _ le same (λ u y lu su. record { is = (y, lu, refl) }))

      destroys_object : (o : Option Object) (n : ℕ) (at : Spot) (frames : List Frame) → Longer (destroy_object code o n at frames s) (destroy_object code o n at frames t)
      destroys_object None n at frames = stays
      destroys_object (Some o) n at frames = destroys_by (destructor_of code o.kind) n o at frames

      iterates : (f : Iterating) (k : ℕ) (item : Value) (frames : List Frame) → Longer (iterate code f k item frames s) (iterate code f k item frames t)
      iterates f k item frames = with_a_function f.function _ _ (λ form func. iterates_if form _ _ (enters f.function form func _ (Some 0) (item ∷ f.captured) frames))

    counts : (b : Bool) (last : Config → State) (f : Iterating) (frames : List Frame) → IsBeside (counted_from b code last f frames s) (counted_from b code last f frames t)
    counts true last f frames = record { by = record { left = x.left; most = (counted_from true code last f frames t).most; made = (counted_from true code last f frames t).made }; left = le; is = refl }
    counts false last f frames = itself

    loop_longer : (last : Config → State) (f : Iterating) (frames : List Frame) → Longer (loop_begins code last f frames s) (loop_begins code last f frames t)
    loop_longer last f frames = on_beside (Looping f) frames _ _ (counts (is_outermost s) last f frames)

  destroys : (v : Value) (at : Spot) (frames : List Frame) (s : State) (x : Beside) → s.left ≤ x.left → s.pieces ≡ pieces → Longer (destroy code v at frames s) (destroy code v at frames (beside s x))
  destroys (Own n) at frames s x le same = destroys_object s x le same (object_of n s) n at frames
  destroys (Iso n) at frames s x le same = destroys_object (join_isolate n s) x le same (object_of n (join_isolate n s)) n at frames
  destroys (Int z) at frames s x le same = stays s x le
  destroys (Truth b) at frames s x le same = stays s x le
  destroys (Text u) at frames s x le same = stays s x le
  destroys (Ref n) at frames s x le same = stays s x le

  -- ---- the step of a destruction, and that of a loop

  module _ (below : List Frame) (s : State) (x : Beside) (le : s.left ≤ x.left) (same : s.pieces ≡ pieces) where
    drops_rest : (o : Option Owned) (f : Emptying) → Longer (drop_rest code o f below s) (drop_rest code o f below (beside s x))
    drops_rest None f = leaves s x le below None None
    drops_rest (Some o) f = destroys o.first f.call.at _ s x le same

    array : (kind : Option Kind) (f : Iterating) (u : State) (y : Beside) → u.left ≤ y.left → u.pieces ≡ pieces → Longer (array_made kind f below u) (array_made kind f below (beside u y))
    array None f u y lu su = stays u y lu
    array (Some kind) f u y lu su = after u y _ _ lu su (λ w z lw sw.
        leave_beside below f.dest (Some (Own (next_name w.world))) (born kind f.done w) (born kind f.done (beside w z)) (side.births w z lw kind f.done))

    gathers : (item : Option Ty) (f : Iterating) (u : State) (y : Beside) → u.left ≤ y.left → u.pieces ≡ pieces → Longer (gathered code item f below u) (gathered code item f below (beside u y))
    gathers None f u y lu su = leaves u y lu below None None
    gathers (Some item) f u y lu su = array (array_of code item) f u y lu su

    goes_on : (o : Option Item) (f : Iterating) → Longer (loop_goes_on code o f below s) (loop_goes_on code o f below (beside s x))
    goes_on None f = with_a_function s x le f.function _ _ (λ form func. gathers (element_type func.result) f (record s { quiet = f.quiet }) x le same)
    goes_on (Some item) f = iterates s x le same f f.next item.first (Looping (record f { items = item.rest; next = f.next + 1 }) ∷ below)

  -- ---- instructions

  module _ (last : Config → State) (f : Active) (below : List Frame) (s : State) (x : Beside) (le : s.left ≤ x.left) (same : s.pieces ≡ pieces) where
    abbrev u : State
    u = beside s x

    onto : (regs : Registers) (v w : State) → IsBeside v w → Longer (onward f regs below v) (onward f regs below w)
    onto regs v w b = on_beside (behind f regs) below v w b

    on_itself : (regs : Registers) → Longer (onward f regs below s) (onward f regs below u)
    on_itself regs = onto regs s u (itself s x le)

    getting : (to : ℕ) (v : Option Value) (regs : Registers) → Longer (gets f to v regs below s) (gets f to v regs below u)
    getting to None regs = stays s x le
    getting to (Some v) regs = on_itself _

    answering : (to : Option ℕ) (regs : Registers) (at : Spot) (v : State) (y : Beside) (lv : v.left ≤ y.left) (a b : Answer) → StepLonger a b
        → Longer (answered f to regs at below v a) (answered f to regs at below (beside v y) b)
    answering to regs at v y lv (gives r t) b h =
        subst (λ c. Longer (answered f to regs at below v (gives r t)) (answered f to regs at below (beside v y) c)) (sym h.2) (record { is = (h.0, h.1, refl) })
    answering to regs at v y lv (traps kind) b h =
        subst (λ c. Longer (answered f to regs at below v (traps kind)) (answered f to regs at below (beside v y) c)) (sym h) (traps_there v y lv kind at (Running f ∷ below))
    answering to regs at v y lv fails b h =
        subst (λ c. Longer (answered f to regs at below v fails) (answered f to regs at below (beside v y) c)) (sym h) (stays v y lv)

    certainly : (to : Option ℕ) (regs : Registers) (v : State) (y : Beside) (lv : v.left ≤ y.left) (a b : Answer) → StepLonger a b
        → Longer (certain f to regs below v a) (certain f to regs below (beside v y) b)
    certainly to regs v y lv (gives r t) b h =
        subst (λ c. Longer (certain f to regs below v (gives r t)) (certain f to regs below (beside v y) c)) (sym h.2) (record { is = (h.0, h.1, refl) })
    certainly to regs v y lv (traps kind) b h =
        subst (λ c. Longer (certain f to regs below v (traps kind)) (certain f to regs below (beside v y) c)) (sym h) (stays v y lv)
    certainly to regs v y lv fails b h =
        subst (λ c. Longer (certain f to regs below v fails) (certain f to regs below (beside v y) c)) (sym h) (stays v y lv)

    says : (to : Option ℕ) (at : Spot) (a b : Answer) → StepLonger a b → Longer (answers code last f below s to at a) (answers code last f below u to at b)
    says to at a b h = answering to f.registers at s x le a b h

    surely_says : (to : Option ℕ) (a b : Answer) → StepLonger a b → Longer (surely code last f below s to a) (surely code last f below u to b)
    surely_says to a b h = certainly to f.registers s x le a b h

    says_of : (to : Option ℕ) (regs : Registers) (at : Spot) (a b : Answer) → StepLonger a b → Longer (answered f to regs at below s a) (answered f to regs at below u b)
    says_of to regs at a b h = answering to regs at s x le a b h

    surely_of : (to : Option ℕ) (regs : Registers) (a b : Answer) → StepLonger a b → Longer (certain f to regs below s a) (certain f to regs below u b)
    surely_of to regs a b h = certainly to regs s x le a b h

    one : (a : ℕ) (go go' : Value → Next) → ((v : Value) → Longer (go v) (go' v)) → Longer (value code last f below s a go) (value code last f below u a go')
    one a go go' each = with_a_value s x le (read f.registers a) go go' each

    owned : (a : ℕ) (go go' : ℕ → Next) → ((n : ℕ) → Longer (go n) (go' n)) → Longer (owner code last f below s a go) (owner code last f below u a go')
    owned a go go' each = with_an_owner s x le (read f.registers a) go go' each

    two : (a c : ℕ) (go go' : Value → Value → Next) → ((v w : Value) → Longer (go v w) (go' v w)) → Longer (values code last f below s a c go) (values code last f below u a c go')
    two a c go go' each = one a _ _ (λ v. one c _ _ (λ w. each v w))

    -- ---- jumps

    jumps_by : (b : Bool) (p : ℕ) → Longer (jump_by b f p below s) (jump_by b f p below u)
    jumps_by true p = on_beside _ below s u (itself s x le)
    jumps_by false p = after s x _ _ le same (λ v y lv sv. on_beside _ below v (beside v y) (itself v y lv))

    jumps : (p : ℕ) → Longer (jump code f p below s) (jump code f p below u)
    jumps p = jumps_by (nat_lt f.place p || is_tick (fetch code f.function p)) p

    jumps_unless : (p : ℕ) (b : Bool) → Longer (jump_unless code f p below s b) (jump_unless code f p below u b)
    jumps_unless p true = on_itself _
    jumps_unless p false = jumps p

    -- ---- calls

    calling : (to g : ℕ) (args : List ℕ) (at : Spot) → Longer (call code last f below s to g args at) (call code last f below u to g args at)
    calling to g args at =
        with_a_function s x le g _ _ (λ form func.
        called s x le form _ _ (reads s x le (give_all func.params args f.registers) _ _ (λ vs regs.
        enters s x le same g form func _ (result_to func.result to) vs (behind f regs ∷ below))))

    calling_of : (n to g : ℕ) (args : List ℕ) (at : Spot) → Longer (call_of_object code last f below s n to g args at) (call_of_object code last f below u n to g args at)
    calling_of n to g args at =
        with_a_function s x le g _ _ (λ form func.
        called s x le form _ _ (reads s x le (give_all (without_first func.params) args f.registers) _ _ (λ vs regs.
        enters s x le same g form func _ (result_to func.result to) (Ref n ∷ vs) (behind f regs ∷ below))))

    dispatching : (d d' : Next) (to interface method object : ℕ) (args : List ℕ) (at : Spot) → Longer d d'
        → Longer (dispatch code last f below s d to interface method object args at) (dispatch code last f below u d' to interface method object args at)
    dispatching d d' to interface method object args at h =
        one object _ _ (λ v.
        let go : (ℕ → Object → Next) = λ n o. with_choice (method_in code.impls interface method o.kind) s (λ g. call_of_object code last f below s n to g args at) in
        let go' : (ℕ → Object → Next) = λ n o. with_choice (method_in code.impls interface method o.kind) u (λ g. call_of_object code last f below u n to g args at) in
        subst (λ l. Longer (on_looked (look v s) s d go) (on_looked l u d' go')) (sym (same_look v s x))
        (looked s x le (look v s) d d' go go' h (λ n o. choice s x le (method_in code.impls interface method o.kind) _ _ (λ g. calling_of n to g args at))))

    returning : (v : Option Value) → Longer (returns code last f below s v) (returns code last f below u v)
    returning v =
        with_a_function s x le f.function _ _ (λ form func.
        leave_beside below f.dest (outgoing form v) (ended form v s) (ended form v u) (side.ends s x le form v))

    -- ---- objects

    making : (to : ℕ) (kind : Kind) (args : List ℕ) → Longer (makes code last f below s to kind args) (makes code last f below u to kind args)
    making to kind args =
        either (holds_values (kind_of code kind) (length args)) _ _ (wrong s) (wrong u)
        (reads s x le (read_all args f.registers) _ _ (λ vs regs. after s x _ _ le same (λ v y lv sv.
        onto (with_result (Some to) (Some (Own (next_name v.world))) regs) (born kind vs v) (born kind vs (beside v y)) (side.births v y lv kind vs))))
        (stays s x le)

    opening : (to : List ℕ) (from : ℕ) → Longer (opens code last f below s to from) (opens code last f below u to from)
    opening to from =
        owned from _ _ (λ n. choice s x le (object_of n s) _ _ (λ o.
        registers s x le (put_all to o.values (put f.registers from None)) _ _ (λ regs. after s x _ _ le same (λ v y lv sv.
        onto regs (dies n v) (dies n (beside v y)) (record { by = y; left = lv; is = refl })))))

    -- ---- parallel loops

    looping : (to : ℕ) (items : Items) (g : ℕ) (args : List ℕ) (regs : Registers) (at : Spot) (v : State) (y : Beside) → v.left ≤ y.left
        → Longer (loops code last f below s to items g args regs at v) (loops code last f below u to items g args regs at (beside v y))
    looping to items g args regs at v y lv =
        with_a_function v y lv g _ _ (λ form func.
        iterates_if v y lv form _ _ (reads v y lv (give_all (without_first func.params) args regs) _ _ (λ vs rest.
        loop_longer v y lv last _ (behind f rest ∷ below))))

    looping_over_numbers : (to : ℕ) (a b : ℤ) (g : ℕ) (args : List ℕ) (at : Spot)
        → Longer (loops_over_numbers code last f below s to a b g args at) (loops_over_numbers code last f below u to a b g args at)
    looping_over_numbers to a b g args at =
        either (nat_le (width_of a b) width_limit) _ _ (trap LoopTooWide at (Running f ∷ below) s) (trap LoopTooWide at (Running f ∷ below) u)
        (looping to _ g args f.registers at s x le) (traps_there s x le LoopTooWide at (Running f ∷ below))

    looping_over_array : (to a g : ℕ) (args : List ℕ) (at : Spot) → Longer (loops_over_array code last f below s to a g args at) (loops_over_array code last f below u to a g args at)
    looping_over_array to a g args at =
        owned a _ _ (λ n. choice s x le (object_of n s) _ _ (λ o. after s x _ _ le same (λ v y lv sv.
        looping to (Elements o.values) g args (put f.registers a None) at (dies n v) y lv)))

    acts : (instr : Instr) → Longer (act code last f below s instr) (act code last f below u instr)
    acts (i.Int to n) = on_itself _
    acts (i.Truth to c) = choice s x le (truth_of c) _ _ (λ x. on_itself _)
    acts (i.Text to n) = choice s x le (slice_get code.texts n) _ _ (λ x. on_itself _)
    acts (i.Copy to a) = one a _ _ (λ v. getting to _ _)
    acts (i.Move to a) = one a _ _ (λ v. getting to _ _)
    acts (i.Add to a c at) = two a c _ _ (λ v w. says (Some to) at _ _ (side.ints s x le operations.add v w))
    acts (i.Sub to a c at) = two a c _ _ (λ v w. says (Some to) at _ _ (side.ints s x le operations.sub v w))
    acts (i.Mul to a c at) = two a c _ _ (λ v w. says (Some to) at _ _ (side.ints s x le operations.mul v w))
    acts (i.Div to a c at) = two a c _ _ (λ v w. says (Some to) at _ _ (side.ints s x le operations.div v w))
    acts (i.Rem to a c at) = two a c _ _ (λ v w. says (Some to) at _ _ (side.ints s x le operations.rem v w))
    acts (i.Cmp to c k y) = choice s x le (comparison_of c) _ _ (λ o. two k y _ _ (λ v w. surely_says (Some to) _ _ (side.compares s x le o v w)))
    acts (i.Not to a) = one a _ _ (λ v. surely_says (Some to) _ _ (side.opposites s x le v))
    acts (i.Join to a c at) = two a c _ _ (λ v w. says (Some to) at _ _ (side.joins s x le v w))
    acts (i.TextLen to a) = one a _ _ (λ v. surely_says (Some to) _ _ (side.text_lengths s x le v))
    acts (i.Slice to a k y at) = one a _ _ (λ v. two k y _ _ (λ m w. says (Some to) at _ _ (side.slices s x le v m w)))
    acts (i.Byte to a k at) = two a k _ _ (λ v m. says (Some to) at _ _ (side.bytes s x le v m))
    acts (i.TextOf to a) = one a _ _ (λ v. surely_says (Some to) _ _ (side.texts_of s x le v))
    acts (i.IsNum to a) = one a _ _ (λ v. surely_says (Some to) _ _ (side.are_numbers s x le v))
    acts (i.Num to a at) = one a _ _ (λ v. says (Some to) at _ _ (side.numbers s x le v))
    acts (i.Print a c) = choice s x le (truth_of c) _ _ (λ line. one a _ _ (λ v. surely_says None _ _ (side.prints s x le line v)))
    acts (i.Jump target) = jumps target
    acts (i.Unless a target) = truth s x le (read f.registers a) _ _ (jumps_unless target)
    acts i.Tick = after s x _ _ le same (λ v y lv sv. onto _ v (beside v y) (itself v y lv))
    acts (i.Call to g args at) = calling to g args at
    acts (i.CallM to interface method a args at) =
        dispatching _ _ to interface method a args at (traps_there s x le DeadReference at (Running f ∷ below))
    acts (i.CallMLive to interface method a args at) = dispatching _ _ to interface method a args at (stays s x le)
    acts (i.Ret a) = one a _ _ (λ v. returning (Some v))
    acts i.RetVoid = returning None
    acts (i.Make to kind args) = making to kind args
    acts (i.Borrow to a) = one a _ _ (λ v. getting to _ _)
    acts (i.Frozen to a) = one a _ _ (λ v. getting to _ _)
    acts (i.LoadOwn to a field) = owned a _ _ (λ n. surely_says (Some to) _ _ (side.loads s x le field (Own n)))
    acts (i.Load to a field at) = one a _ _ (λ v. says (Some to) at _ _ (side.loads s x le field v))
    acts (i.LoadLive to a field) = one a _ _ (λ v. surely_says (Some to) _ _ (side.loads s x le field v))
    acts (i.ElemOwn to a k at) = owned a _ _ (λ n. one k _ _ (λ m. says (Some to) at _ _ (living _ _ (side.elements s x le (Own n) m))))
    acts (i.Elem to a k at) = two a k _ _ (λ v m. says (Some to) at _ _ (side.elements s x le v m))
    acts (i.ElemLive to a k at) = two a k _ _ (λ v m. says (Some to) at _ _ (living _ _ (side.elements s x le v m)))
    acts (i.Len to a at) = one a _ _ (λ v. says (Some to) at _ _ (side.array_lengths s x le v))
    acts (i.LenLive to a) = one a _ _ (λ v. surely_says (Some to) _ _ (side.array_lengths s x le v))
    acts (i.SwapOwn to a field c) = owned a _ _ (λ n. one c _ _ (λ new. surely_of (Some to) (kept c new f.registers) _ _ (side.swaps s x le field (Own n) new)))
    acts (i.Swap to a field c at) = two a c _ _ (λ v new. says_of (Some to) (kept c new f.registers) at _ _ (side.swaps s x le field v new))
    acts (i.SwapElOwn to a k c at) =
        owned a _ _ (λ n. two k c _ _ (λ m new. says_of (Some to) (kept c new f.registers) at _ _ (living _ _ (side.swaps_elements s x le (Own n) m new))))
    acts (i.SwapEl to a k c at) = one a _ _ (λ v. two k c _ _ (λ m new. says_of (Some to) (kept c new f.registers) at _ _ (side.swaps_elements s x le v m new)))
    acts (i.Push a c at) = two a c _ _ (λ v new. says_of None (kept c new f.registers) at _ _ (side.pushes s x le v new))
    acts (i.Pop to a at) = one a _ _ (λ v. says (Some to) at _ _ (side.pops s x le v))
    acts (i.Open to a) = opening to a
    acts (i.Destroy a at) = one a _ _ (λ v. destroys v at (behind f (put f.registers a None) ∷ below) s x le same)
    acts (i.Merge to a) = one a _ _ (λ v. surely_of (Some to) (kept a v f.registers) _ _ (side.merges s x le v))
    acts (i.Freeze at) = deep s x le 1 at (Running f ∷ below) _ _ (onto f.registers (freeze s) (freeze u) (record { by = x; left = le; is = refl }))
    acts (i.ThawMerge to a) = owned a _ _ (λ n. onto _ (thaw merged s) (thaw merged u) (record { by = x; left = le; is = refl }))
    acts (i.ThawKeep to a) = owned a _ _ (λ n. onto _ (thaw (region.kept n) s) (thaw (region.kept n) u) (record { by = x; left = le; is = refl }))
    acts i.ThawClear = onto _ (thaw cleared s) (thaw cleared u) (record { by = x; left = le; is = refl })
    acts (i.ParRange to k y g args at) = number s x le (read f.registers k) _ _ (λ m. number s x le (read f.registers y) _ _ (λ n. looping_over_numbers to m n g args at))
    acts (i.ParEach to a g args at) = looping_over_array to a g args at
    acts (i.Upcast to a kind) = one a _ _ (λ v. getting to _ _)

    acts_if : (o : Option Instr) → Longer (act_if code last f below s o) (act_if code last f below u o)
    acts_if None = stays s x le
    acts_if (Some instr) = acts instr

  -- a step of a code from the two states
  pub step_longer : (last : Config → State) (c : Config) (x : Beside) → c.state.left ≤ x.left → c.state.pieces ≡ pieces
      → Longer (step_by code last c) (step_by code last (record c { state = beside c.state x }))
  step_longer last c x le same = at c.top
    where
      at : (top : Frame) → Longer (step_of code last top c.below c.state) (step_of code last top c.below (beside c.state x))
      at (Running f) = acts_if last f c.below c.state x le same (fetch code f.function f.place)
      at (Dropping f) = drops_rest c.below c.state x le same (first_owned f.rest) f
      at (Looping f) = goes_on c.below c.state x le same (next_item f.items) f
      at (Alone v) = done_beside v c.state (beside c.state x) (itself c.state x le)
