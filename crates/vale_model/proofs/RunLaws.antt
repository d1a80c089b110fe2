-- Every part of a program goes on as runs do: by induction on the ticks left, and then on the tree.
use Rattle.std.proofs.Common.{◌≡◌, ℕ, zero, suc, ◌+◌, ◌<◌, ℤ, pos, List, [], ◌∷◌, Option, Some, None, Bool, true, false, refl, arith}
use Rattle.std.specs.Prelude.{nat_lt, if◌then◌else◌, ◌+ℤ◌}
use Rattle.vale_base.specs.Limits.{width_limit}
use Rattle.vale_state_spec.specs.State.{State, Calls, Answer, gives, traps, fails, spend, has_depth, lent, make, dies, object_of, freeze_iteration, thaw_iteration, end_of_isolate, isolated, iteration_frame, is_outermost, loop_counted, counting_as, width_of}
use Rattle.vale_state_spec.specs.World.{Value, Int, Truth, Text, Own, Ref, Iso, Object}
use Rattle.vale_base.specs.declared.spot.Spot.{Spot}
use Rattle.vale_base.specs.declared.trap.FrameAt.{FrameAt}
use Rattle.vale_base.specs.declared.trap.TrapKind.{TrapKind}
use Rattle.vale_base.specs.declared.trap.TrapKind.TheVariants.{CallDepth, LoopTooWide}
use Rattle.vale_model.specs.Runs.{Locals, Result, goes, returned, ended, Run, then_do, ◌>>=◌, give, nothing, wrong, trap, answered, step, change, ticked, tick, deep, under, the_value, valued, choose, held_by, with_held, read, move, exchange, outer, while_waits}
use Rattle.vale_model.specs.Loops.{number_in, turns, in_region, iteration, collected, in_order, state_in, each_alone, loop, indices, numbered, emptied, taken_apart, loop_value}
use Rattle.vale_text.specs.Progress.{Progresses, StepGoesOn}
use Rattle.vale_model.specs.Progress.{GoesOn, AlwaysGoesOn}
use Rattle.vale_text.proofs.StateLaws.{later_refl, later_trans, spend_of_later, none_left, dies_later, freeze_iteration_later, thaw_iteration_later, loop_counted_later, counting_as_later, make_goes}
use Rattle.vale_rules_spec.specs.Types.{Ty, array}
use Rattle.vale_rules_spec.specs.Types as y
use Rattle.vale_model.specs.Parts.{Parts, kind_of}

-- ---- one part after another

pub then_goes : {A B : Type 0} (s : State) (n : ℕ) (r : Result A) (go : A → Locals → State → Result B) → s.left < n → GoesOn s r → ((v : A) (l : Locals) (t : State) → t.left < n → GoesOn t (go v l t)) → GoesOn s (then_do r go)
then_goes s n (goes v l t) go lt a b =
    let few = a.0.fewer in
    let c = b v l t (omega (arith, lt, few)) in (later_trans s t (state_in (go v l t)) a.0 c.0, c.1)
then_goes s n (returned v t) go lt a b = a
then_goes s n (ended end t) go lt a b = a

pub bind_goes : {A B : Type 0} (n : ℕ) (m : Run A) (k : A → Run B) → AlwaysGoesOn n m → ((v : A) → AlwaysGoesOn n (k v)) → AlwaysGoesOn n (m >>= k)
bind_goes n m k a b = record { from = λ calls l s lt. then_goes s n (m calls l s) (λ v. k v calls) lt (a.from calls l s lt) (λ v l t lt. (b v).from calls l t lt) }

pub give_goes : {A : Type 0} (n : ℕ) (v : A) → AlwaysGoesOn n (give v)
give_goes n v = record { from = λ calls l s lt. (later_refl s, tt) }

pub nothing_goes : (n : ℕ) → AlwaysGoesOn n nothing
nothing_goes n = record { from = λ calls l s lt. (later_refl s, tt) }

pub wrong_goes : {A : Type 0} (n : ℕ) → AlwaysGoesOn {A = A} n wrong
wrong_goes n = record { from = λ calls l s lt. (later_refl s, tt) }

pub trap_goes : {A : Type 0} (n : ℕ) (kind : TrapKind) (at : Spot) → AlwaysGoesOn {A = A} n (trap kind at)
trap_goes n kind at = record { from = λ calls l s lt. (later_refl s, tt) }

pub answered_goes : (at : Spot) (a : Answer) (calls : Calls) (l : Locals) (s : State) → StepGoesOn s a → GoesOn s (answered at a calls l s)
answered_goes at (gives v t) calls l s h = (h, tt)
answered_goes at (traps kind) calls l s h = (later_refl s, tt)
answered_goes at fails calls l s h = (later_refl s, tt)

pub step_goes : (n : ℕ) (at : Spot) (f : State → Answer) → ((s : State) → StepGoesOn s (f s)) → AlwaysGoesOn n (step at f)
step_goes n at f h = record { from = λ calls l s lt. answered_goes at (f s) calls l s (h s) }

pub change_goes : (n : ℕ) (f : State → State) → ((s : State) → Progresses s (f s)) → AlwaysGoesOn n (change f)
change_goes n f h = record { from = λ calls l s lt. (h s, tt) }

-- what runs after a tick has one tick fewer left
pub tick_goes : {A : Type 0} (n : ℕ) (m : Run A) → AlwaysGoesOn n m → AlwaysGoesOn (suc n) (tick >>= (λ _. m))
tick_goes n m h = record { from = λ calls l s lt. by calls l s lt (spend s) refl }
  where
    by : (calls : Calls) (l : Locals) (s : State) → s.left < suc n → (o : Option State) → spend s ≡ o → GoesOn s (then_do (ticked o calls l s) (λ v. m calls))
    by calls l s lt None e = (later_refl s, none_left s.left s refl e)
    by calls l s lt (Some t) e =
        let spent = spend_of_later s.left s t refl e in
        let one = spent.one in
        let c = h.from calls l t (omega (arith, lt, one)) in
        (later_trans s t (state_in (m calls l t)) spent.later c.0, c.1)

pub deep_goes : (n more : ℕ) (at : Spot) → AlwaysGoesOn n (deep more at)
deep_goes n more at = record { from = λ calls l s lt. by calls l s (has_depth more calls s) }
  where
    by : (calls : Calls) (l : Locals) (s : State) (b : Bool) → GoesOn s (if b then goes (tt {0}) l s else trap CallDepth at calls l s)
    by calls l s true = (later_refl s, tt)
    by calls l s false = (later_refl s, tt)

pub under_goes : {A : Type 0} (n : ℕ) (frame : FrameAt) (m : Run A) → AlwaysGoesOn n m → AlwaysGoesOn n (under frame m)
under_goes n frame m h = record { from = λ calls l s lt. h.from (frame ∷ calls) l s lt }

pub fewer_goes : {A : Type 0} (n : ℕ) (m : Run A) → AlwaysGoesOn (suc n) m → AlwaysGoesOn n m
fewer_goes n m h = record { from = λ calls l s lt. h.from calls l s (omega (arith, lt)) }

pub the_value_goes : (n : ℕ) (v : Option Value) → AlwaysGoesOn n (the_value v)
the_value_goes n None = wrong_goes n
the_value_goes n (Some v) = give_goes n v

pub valued_goes : (n : ℕ) (m : Run (Option Value)) → AlwaysGoesOn n m → AlwaysGoesOn n (valued m)
valued_goes n m h = bind_goes n m the_value h (the_value_goes n)

pub choose_goes : {A : Type 0} (n : ℕ) (v : Value) (a b : Run A) → AlwaysGoesOn n a → AlwaysGoesOn n b → AlwaysGoesOn n (choose v a b)
choose_goes n (Truth true) a b h k = h
choose_goes n (Truth false) a b h k = k
choose_goes n (Int z) a b h k = wrong_goes n
choose_goes n (Text t) a b h k = wrong_goes n
choose_goes n (Own m) a b h k = wrong_goes n
choose_goes n (Ref m) a b h k = wrong_goes n
choose_goes n (Iso m) a b h k = wrong_goes n

-- ---- locals

-- what only changes locals
relocated_goes : {A B : Type 0} (n : ℕ) (calls : Calls) (l : Locals) (s : State) (m : Run A) (f : A → B) (k : A → Locals → Locals) → s.left < n → AlwaysGoesOn n m → GoesOn s (then_do (m calls l s) (λ v l s. goes (f v) (k v l) s))
relocated_goes n calls l s m f k lt h = then_goes s n (m calls l s) (λ v l s. goes (f v) (k v l) s) lt (h.from calls l s lt) (λ v l t lt. (later_refl t, tt))

pub read_goes : (n name : ℕ) → AlwaysGoesOn n (read name)
read_goes n name = record { from = λ calls l s lt. (bind_goes n (the_value (held_by name l)) (λ v. give (lent v)) (the_value_goes n (held_by name l)) (λ v. give_goes n (lent v))).from calls l s lt }

pub move_goes : (n name : ℕ) → AlwaysGoesOn n (move name)
move_goes n name = record { from = λ calls l s lt. relocated_goes n calls l s (the_value (held_by name l)) (λ v. v) (λ v l. with_held name None l) lt (the_value_goes n (held_by name l)) }

pub exchange_goes : (n name : ℕ) (new : Value) → AlwaysGoesOn n (exchange name new)
exchange_goes n name new = record { from = λ calls l s lt. relocated_goes n calls l s (the_value (held_by name l)) (λ v. v) (λ v l. with_held name (Some new) l) lt (the_value_goes n (held_by name l)) }

pub while_waits_goes : {A : Type 0} (n : ℕ) (owned : Bool) (v : Value) (m : Run A) → AlwaysGoesOn n m → AlwaysGoesOn n (while_waits owned v m)
while_waits_goes n owned v m h = record { from = λ calls l s lt. relocated_goes n calls (record { name = None; value = Some v; owned = owned } ∷ l) s m (λ r. r) (λ r l. outer l) lt h }

-- ---- loops

pub number_in_goes : (n : ℕ) (v : Value) → AlwaysGoesOn n (number_in v)
number_in_goes n (Int z) = give_goes n z
number_in_goes n (Truth b) = wrong_goes n
number_in_goes n (Text t) = wrong_goes n
number_in_goes n (Own m) = wrong_goes n
number_in_goes n (Ref m) = wrong_goes n
number_in_goes n (Iso m) = wrong_goes n

pub turns_goes : (n more : ℕ) (x : ℤ) (body : ℤ → Run (Option Value)) → ((x : ℤ) → AlwaysGoesOn (suc n) (body x)) → AlwaysGoesOn (suc n) (turns more x body)
turns_goes n zero x body h = nothing_goes (suc n)
turns_goes n (suc more) x body h =
    tick_goes n (body x >>= (λ _. turns more (x +ℤ pos 1) body))
    (bind_goes n (body x) (λ _. turns more (x +ℤ pos 1) body) (fewer_goes n (body x) (h x)) (λ v. fewer_goes n (turns more (x +ℤ pos 1) body) (turns_goes n more (x +ℤ pos 1) body h)))

in_region_goes : (n : ℕ) (body : Run (Option Value)) → AlwaysGoesOn n body → AlwaysGoesOn n (in_region body)
in_region_goes n body h =
    bind_goes n (change freeze_iteration) _ (change_goes n freeze_iteration freeze_iteration_later)
    (λ _. bind_goes n body _ h (λ v. bind_goes n (change (thaw_iteration (end_of_isolate v))) _ (change_goes n (thaw_iteration (end_of_isolate v)) (thaw_iteration_later (end_of_isolate v))) (λ _. give_goes n (isolated v))))

iteration_goes : (n : ℕ) (at : Spot) (k : ℕ) (body : Run (Option Value)) → AlwaysGoesOn (suc n) body → AlwaysGoesOn (suc n) (iteration at k body)
iteration_goes n at k body h =
    bind_goes (suc n) (deep 1 at) _ (deep_goes (suc n) 1 at)
    (λ _. tick_goes n (under (iteration_frame k at) (in_region body)) (under_goes n (iteration_frame k at) (in_region body) (in_region_goes n body (fewer_goes n body h))))

pub in_order_goes : (n : ℕ) (at : Spot) (k : ℕ) (vs : List Value) (body : Value → Run (Option Value)) → ((v : Value) → AlwaysGoesOn (suc n) (body v)) → AlwaysGoesOn (suc n) (in_order at k vs body)
in_order_goes n at k [] body h = give_goes (suc n) []
in_order_goes n at k (v ∷ vs) body h =
    bind_goes (suc n) (iteration at k (body v)) _ (iteration_goes n at k (body v) (h v))
    (λ u. bind_goes (suc n) (in_order at (k + 1) vs body) _ (in_order_goes n at (k + 1) vs body h) (λ us. give_goes (suc n) (collected u us)))

pub loop_goes : (n : ℕ) (at : Spot) (vs : List Value) (body : Value → Run (Option Value)) → ((v : Value) → AlwaysGoesOn (suc n) (body v)) → AlwaysGoesOn (suc n) (loop at vs body)
loop_goes n at vs body h = record { from = λ calls l s lt. by calls l s lt (is_outermost s) }
  where
    by : (calls : Calls) (l : Locals) (s : State) → s.left < suc n → (b : Bool) →
        GoesOn s (if b then then_do (in_order at 0 vs body calls l (loop_counted (each_alone at 0 vs body calls l s) s)) (λ us l t. goes us l (counting_as s t)) else in_order at 0 vs body calls l s)
    by calls l s lt false = (in_order_goes n at 0 vs body h).from calls l s lt
    by calls l s lt true =
        let u = loop_counted (each_alone at 0 vs body calls l s) s in
        let a = then_goes u (suc n) (in_order at 0 vs body calls l u) (λ us l t. goes us l (counting_as s t)) lt ((in_order_goes n at 0 vs body h).from calls l u lt) (λ us l t lt. (counting_as_later s t, tt)) in
        (later_trans s u (state_in (then_do (in_order at 0 vs body calls l u) (λ us l t. goes us l (counting_as s t)))) (loop_counted_later (each_alone at 0 vs body calls l s) s) a.0, a.1)

pub numbered_goes : (n : ℕ) (at : Spot) (a b : ℤ) → AlwaysGoesOn n (numbered at a b)
numbered_goes n at a b = by (nat_lt width_limit (width_of a b))
  where
    by : (t : Bool) → AlwaysGoesOn n (if t then trap LoopTooWide at else give (indices (width_of a b) a))
    by true = trap_goes n LoopTooWide at
    by false = give_goes n (indices (width_of a b) a)

pub emptied_goes : (n name : ℕ) (o : Option Object) → AlwaysGoesOn (suc n) (emptied name o)
emptied_goes n name None = wrong_goes (suc n)
emptied_goes n name (Some o) =
    tick_goes n (change (dies name) >>= (λ _. give o.values)) (bind_goes n (change (dies name)) _ (change_goes n (dies name) (dies_later name)) (λ _. give_goes n o.values))

pub taken_apart_goes : (n : ℕ) (v : Value) → AlwaysGoesOn (suc n) (taken_apart v)
taken_apart_goes n (Own m) = record { from = λ calls l s lt. (emptied_goes n m (object_of m s)).from calls l s lt }
taken_apart_goes n (Int z) = wrong_goes (suc n)
taken_apart_goes n (Truth b) = wrong_goes (suc n)
taken_apart_goes n (Text t) = wrong_goes (suc n)
taken_apart_goes n (Ref m) = wrong_goes (suc n)
taken_apart_goes n (Iso m) = wrong_goes (suc n)

pub loop_value_goes : (n : ℕ) (p : Parts) (at : Spot) (x : Ty) (vs : List Value) → AlwaysGoesOn (suc n) (loop_value p at x vs)
loop_value_goes n p at (array x) vs =
    tick_goes n (step at (make (kind_of p (array x)) vs)) (step_goes n at (make (kind_of p (array x)) vs) (make_goes (kind_of p (array x)) vs))
loop_value_goes n p at y.void vs = nothing_goes (suc n)
loop_value_goes n p at y.int vs = nothing_goes (suc n)
loop_value_goes n p at y.bool vs = nothing_goes (suc n)
loop_value_goes n p at y.str vs = nothing_goes (suc n)
loop_value_goes n p at (y.kind k) vs = nothing_goes (suc n)
loop_value_goes n p at (y.ref x) vs = nothing_goes (suc n)
loop_value_goes n p at (y.imm x) vs = nothing_goes (suc n)
loop_value_goes n p at (y.iso x) vs = nothing_goes (suc n)
