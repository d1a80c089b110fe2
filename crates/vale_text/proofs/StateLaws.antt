-- Every single step of a run goes on as runs do.
use Rattle.std.proofs.Common.{◌≡◌, ℕ, zero, suc, ◌+◌, ℤ, pos, negsuc, List, [], ◌∷◌, ◌++◌, append_assoc, append-nil, Option, Some, None, Bool, true, false, refl, sym, ap, ◌∙◌, subst, arith}
use Rattle.std.specs.Prelude.{Ok, Err}
use Rattle.std.specs.Prelude.{slice_get, slice_set, if◌then◌else◌, Result, ◌-◌, max, nat_lt, length}
use Rattle.vale_state_spec.specs.State.{State, Answer, gives, traps, spend_of, print_text, print, printed, object_of, living, born, make, dies, changed, found_or_dead, look_up, on_object, with_object, name_of, load, field_in, swap, swapped_in, element, element_at, element_in, swap_element, element_swapped_at, element_swapped_in, len, push, pop, popped, freeze, freeze_iteration, RegionEnd, merged, kept, cleared, world_after, thaw, thaw_iteration, join_isolate, merge, loop_counted, counting_as, here, live, shown, front_from}
use Rattle.vale_base.specs.Limits.{width_limit}
use Rattle.vale_state_spec.specs.World.{Value, Int, Truth, Text, Own, Ref, Iso, Object, World, Freeze, Isolate, relabelled}
use Rattle.vale_state_spec.specs.World as w
use Rattle.vale_text.specs.Steps as o
use Rattle.vale_text.specs.Operations as p
use Rattle.vale_base.specs.declared.name.Kind.{Kind}
use Rattle.vale_base.specs.declared.piece.Piece.{Piece}
use Rattle.vale_base.specs.declared.trap.TrapKind.{TrapKind}
use Rattle.vale_base.specs.declared.trap.TrapKind.TheVariants.{ArrayTooLong}
use Rattle.vale_text.specs.Progress.{StampsRise, NameProgresses, Progresses, StepGoesOn}
use Rattle.vale_text.proofs.WorldLaws.{same_later, later_later, born_later, died_later, written_later, relabelled_later, cleared_later}

-- ---- states

stamps_on : (from mid to : ℕ) (ps qs : List Piece) → StampsRise from ps mid → StampsRise mid qs to → StampsRise from (ps ++ qs) to
stamps_on from mid to [] [] a b = omega (arith, a, b)
stamps_on from mid to [] (q ∷ qs) a b = (omega (arith, a, b.0), b.1)
stamps_on from mid to (p ∷ ps) qs a b = (a.0, stamps_on p.tick mid to ps qs a.1 b)

-- a state in which nothing but the world and what is counted is another
quiet_later : (s t : State) → t.left ≡ s.left → t.spent ≡ s.spent → t.pieces ≡ s.pieces → ((n : ℕ) → NameProgresses (slice_get s.world n) (slice_get t.world n)) → Progresses s t
quiet_later s t l sp p names = record {
  ticks = omega (arith, l, sp);
  fewer = omega (arith, l);
  printed = [];
  pieces = p ∙ sym (append-nil s.pieces);
  stamps = omega (arith, sp);
  names = names;
}

pub later_refl : (s : State) → Progresses s s
later_refl s = quiet_later s s refl refl refl (λ n. same_later (slice_get s.world n))

pub later_trans : (s t u : State) → Progresses s t → Progresses t u → Progresses s u
later_trans s t u a b = record {
  ticks = b.ticks ∙ a.ticks;
  fewer = omega (arith, a.fewer, b.fewer);
  printed = a.printed ++ b.printed;
  pieces = b.pieces ∙ ap (λ ps. ps ++ b.printed) a.pieces ∙ append_assoc s.pieces a.printed b.printed;
  stamps = stamps_on s.spent t.spent u.spent a.printed b.printed a.stamps b.stamps;
  names = λ n. later_later (slice_get s.world n) (slice_get t.world n) (slice_get u.world n) (a.names n) (b.names n);
}

-- a tick was spent, and one fewer is left
pub record Spent (s t : State) : Type 0 where
  pub later : Progresses s t
  pub one : t.left + 1 ≡ s.left

pub spend_of_later : (n : ℕ) (s t : State) → n ≡ s.left → spend_of n s ≡ Some t → Spent s t
spend_of_later zero s t e is = absurd (cc)
spend_of_later (suc n) s t e is = subst (λ t. Spent s t) (same_some is) here
  where
    same_some : {A : Type 0} {x y : A} → Some x ≡ Some y → x ≡ y
    same_some e = cc

    here : Spent s (record s { left = n; spent = s.spent + 1 })
    here = record {
      later = record {
        ticks = omega (arith, e);
        fewer = omega (arith, e);
        printed = [];
        pieces = sym (append-nil s.pieces);
        stamps = omega arith;
        names = λ n. same_later (slice_get s.world n);
      };
      one = omega (arith, e);
    }

pub none_left : (n : ℕ) (s : State) → n ≡ s.left → spend_of n s ≡ None → s.left ≡ 0
none_left zero s e is = sym e
none_left (suc n) s e is = absurd (cc)

-- ---- changes

pub printed_later : (bytes : List ℕ) (s : State) → Progresses s (printed bytes s)
printed_later bytes s = record {
  ticks = refl;
  fewer = omega arith;
  printed = record { tick = s.spent; bytes = bytes } ∷ [];
  pieces = refl;
  stamps = (omega arith, omega arith);
  names = λ n. same_later (slice_get s.world n);
}

pick_later : (b : Bool) (s t u : State) → Progresses s t → Progresses s u → Progresses s (if b then t else u)
pick_later true s t u a b = a
pick_later false s t u a b = b

-- only the world is another, or what is counted too
world_later : (s : State) (world : World) → ((n : ℕ) → NameProgresses (slice_get s.world n) (slice_get world n)) → Progresses s (record s { world = world })
world_later s world names = quiet_later s (record s { world = world }) refl refl refl names

pub born_later_state : (kind : Kind) (values : List Value) (s : State) → Progresses s (born kind values s)
born_later_state kind values s =
    let o : Object = record { region = here s; kind = kind; values = values } in
    let t : State = record s { world = w.born s.world o } in
    let names : ((n : ℕ) → NameProgresses (slice_get s.world n) (slice_get (w.born s.world o) n)) = born_later s.world o in
    pick_later s.quiet s t (record t { most = max t.most (live t.world); made = t.made + 1 })
    (quiet_later s t refl refl refl names)
    (quiet_later s (record t { most = max t.most (live t.world); made = t.made + 1 }) refl refl refl names)

pub dies_later : (n : ℕ) (s : State) → Progresses s (dies n s)
dies_later n s = world_later s (w.died s.world n) (died_later s.world n)

living_is : (x : Option (Option Object)) (o : Object) → living x ≡ Some o → x ≡ Some (Some o)
living_is None o e = absurd (cc)
living_is (Some x) o e = ap Some e

changed_later : (n : ℕ) (o : Object) (values : List Value) (s : State) → object_of n s ≡ Some o → Progresses s (changed n o values s)
changed_later n o values s e =
    world_later s (w.written s.world n (record o { values = values })) (λ k. written_later s.world n k o (record o { values = values }) (living_is (slice_get s.world n) o e) refl)

pub freeze_later : (s : State) → Progresses s (freeze s)
freeze_later s = quiet_later s (freeze s) refl refl refl (λ n. same_later (slice_get s.world n))

pub freeze_iteration_later : (s : State) → Progresses s (freeze_iteration s)
freeze_iteration_later s = quiet_later s (freeze_iteration s) refl refl refl (λ n. same_later (slice_get s.world n))

world_after_later : (end : RegionEnd) (s : State) (n : ℕ) → NameProgresses (slice_get s.world n) (slice_get (world_after end s) n)
world_after_later merged s n = relabelled_later (here s) (Freeze (s.regions - 1)) s.world n
world_after_later (kept root) s n = relabelled_later (here s) (Isolate root) s.world n
world_after_later cleared s n = cleared_later (here s) s.world n

pub thaw_later : (end : RegionEnd) (s : State) → Progresses s (thaw end s)
thaw_later end s = quiet_later s (thaw end s) refl refl refl (world_after_later end s)

pub thaw_iteration_later : (end : RegionEnd) (s : State) → Progresses s (thaw_iteration end s)
thaw_iteration_later end s = quiet_later s (thaw_iteration end s) refl refl refl (world_after_later end s)

pub join_isolate_later : (n : ℕ) (s : State) → Progresses s (join_isolate n s)
join_isolate_later n s = world_later s (relabelled (Isolate n) (here s) s.world) (relabelled_later (Isolate n) (here s) s.world)

pub loop_counted_later : (ends : List State) (s : State) → Progresses s (loop_counted ends s)
loop_counted_later ends s = quiet_later s (loop_counted ends s) refl refl refl (λ n. same_later (slice_get s.world n))

pub counting_as_later : (before s : State) → Progresses s (counting_as before s)
counting_as_later before s = quiet_later s (counting_as before s) refl refl refl (λ n. same_later (slice_get s.world n))

-- ---- steps

pub print_goes : (line : Bool) (v : Value) (s : State) → StepGoesOn s (print line v s)
print_goes line v s = by line (shown v)
  where
    by : (line : Bool) (text : Option (List ℕ)) → StepGoesOn s (print_text line text s)
    by line None = tt
    by true (Some bytes) = printed_later (bytes ++ 10 ∷ []) s
    by false (Some bytes) = printed_later bytes s

pub make_goes : (kind : Kind) (values : List Value) (s : State) → StepGoesOn s (make kind values s)
make_goes kind values s = born_later_state kind values s

-- a step on a living object
pub on_object_goes : (v : Value) (s : State) (go : ℕ → Object → Answer) → ((n : ℕ) (o : Object) → object_of n s ≡ Some o → StepGoesOn s (go n o)) → StepGoesOn s (with_object v s go)
on_object_goes v s go h = named (name_of v)
  where
    living_one : (n : ℕ) (x : Option Object) → object_of n s ≡ x → StepGoesOn s (on_object (found_or_dead n x) go)
    living_one n None e = tt
    living_one n (Some o) e = h n o e

    named : (x : Option ℕ) → StepGoesOn s (on_object (look_up x s) go)
    named None = tt
    named (Some n) = living_one n (object_of n s) refl

pub load_goes : (i : ℕ) (v : Value) (s : State) → StepGoesOn s (load i v s)
load_goes i v s = on_object_goes v s _ (λ n o e. by (slice_get o.values i))
  where
    by : (x : Option Value) → StepGoesOn s (field_in x s)
    by None = tt
    by (Some v) = later_refl s

pub swap_goes : (i : ℕ) (v new : Value) (s : State) → StepGoesOn s (swap i v new s)
swap_goes i v new s = on_object_goes v s _ (λ n o e. by n o e (slice_get o.values i))
  where
    by : (n : ℕ) (o : Object) → object_of n s ≡ Some o → (x : Option Value) → StepGoesOn s (swapped_in x n o i new s)
    by n o e None = tt
    by n o e (Some old) = changed_later n o (slice_set o.values i new) s e

element_in_goes : (x : Option Value) (s : State) → StepGoesOn s (element_in x s)
element_in_goes None s = tt
element_in_goes (Some v) s = later_refl s

element_at_goes : (index : Value) (o : Object) (s : State) → StepGoesOn s (element_at index o s)
element_at_goes (Int (pos i)) o s = element_in_goes (slice_get o.values i) s
element_at_goes (Int (negsuc i)) o s = tt
element_at_goes (Truth b) o s = tt
element_at_goes (Text t) o s = tt
element_at_goes (Own n) o s = tt
element_at_goes (Ref n) o s = tt
element_at_goes (Iso n) o s = tt

pub element_goes : (v index : Value) (s : State) → StepGoesOn s (element v index s)
element_goes v index s = on_object_goes v s _ (λ n o e. element_at_goes index o s)

element_swapped_in_goes : (x : Option Value) (n : ℕ) (o : Object) (i : ℕ) (new : Value) (s : State) → object_of n s ≡ Some o → StepGoesOn s (element_swapped_in x n o i new s)
element_swapped_in_goes None n o i new s e = tt
element_swapped_in_goes (Some old) n o i new s e = changed_later n o (slice_set o.values i new) s e

element_swapped_at_goes : (index : Value) (n : ℕ) (o : Object) (new : Value) (s : State) → object_of n s ≡ Some o → StepGoesOn s (element_swapped_at index n o new s)
element_swapped_at_goes (Int (pos i)) n o new s e = element_swapped_in_goes (slice_get o.values i) n o i new s e
element_swapped_at_goes (Int (negsuc i)) n o new s e = tt
element_swapped_at_goes (Truth b) n o new s e = tt
element_swapped_at_goes (Text t) n o new s e = tt
element_swapped_at_goes (Own m) n o new s e = tt
element_swapped_at_goes (Ref m) n o new s e = tt
element_swapped_at_goes (Iso m) n o new s e = tt

pub swap_element_goes : (v index new : Value) (s : State) → StepGoesOn s (swap_element v index new s)
swap_element_goes v index new s = on_object_goes v s _ (λ n o e. element_swapped_at_goes index n o new s e)

pub len_goes : (v : Value) (s : State) → StepGoesOn s (len v s)
len_goes (Text t) s = later_refl s
len_goes (Int z) s = tt
len_goes (Truth b) s = tt
len_goes (Own n) s = on_object_goes (Own n) s _ (λ n o e. later_refl s)
len_goes (Ref n) s = on_object_goes (Ref n) s _ (λ n o e. later_refl s)
len_goes (Iso n) s = on_object_goes (Iso n) s _ (λ n o e. later_refl s)

pub push_goes : (v new : Value) (s : State) → StepGoesOn s (push v new s)
push_goes v new s = on_object_goes v s _ (λ n o e. by n o e (nat_lt (length o.values) width_limit))
  where
    by : (n : ℕ) (o : Object) → object_of n s ≡ Some o → (b : Bool) → StepGoesOn s (if b then gives None (changed n o (o.values ++ new ∷ []) s) else traps ArrayTooLong)
    by n o e true = changed_later n o (o.values ++ new ∷ []) s e
    by n o e false = tt

pub pop_goes : (v : Value) (s : State) → StepGoesOn s (pop v s)
pop_goes v s = on_object_goes v s _ (λ n o e. by n o e o.values)
  where
    by : (n : ℕ) (o : Object) → object_of n s ≡ Some o → (vs : List Value) → StepGoesOn s (popped n o vs s)
    by n o e [] = tt
    by n o e (v ∷ vs) = changed_later n o (front_from v vs) s e

pub merge_goes : (v : Value) (s : State) → StepGoesOn s (merge v s)
merge_goes (Iso n) s = join_isolate_later n s
merge_goes (Int z) s = tt
merge_goes (Truth b) s = tt
merge_goes (Text t) s = tt
merge_goes (Own n) s = tt
merge_goes (Ref n) s = tt

-- ---- operations

int_goes : (s : State) (r : Result ℤ TrapKind) → StepGoesOn s (o.gives_int s r)
int_goes s (Ok z) = later_refl s
int_goes s (Err kind) = tt

text_goes : (s : State) (r : Result (List ℕ) TrapKind) → StepGoesOn s (o.gives_text s r)
text_goes s (Ok t) = later_refl s
text_goes s (Err kind) = tt

on_int_goes : (s : State) (v : Value) (go : ℤ → Answer) → ((z : ℤ) → StepGoesOn s (go z)) → StepGoesOn s (o.on_int v go)
on_int_goes s (Int z) go h = h z
on_int_goes s (Truth b) go h = tt
on_int_goes s (Text t) go h = tt
on_int_goes s (Own n) go h = tt
on_int_goes s (Ref n) go h = tt
on_int_goes s (Iso n) go h = tt

on_truth_goes : (s : State) (v : Value) (go : Bool → Answer) → ((b : Bool) → StepGoesOn s (go b)) → StepGoesOn s (o.on_truth v go)
on_truth_goes s (Truth b) go h = h b
on_truth_goes s (Int z) go h = tt
on_truth_goes s (Text t) go h = tt
on_truth_goes s (Own n) go h = tt
on_truth_goes s (Ref n) go h = tt
on_truth_goes s (Iso n) go h = tt

pub on_text_goes : (s : State) (v : Value) (go : List ℕ → Answer) → ((t : List ℕ) → StepGoesOn s (go t)) → StepGoesOn s (o.on_text v go)
on_text_goes s (Text t) go h = h t
on_text_goes s (Int z) go h = tt
on_text_goes s (Truth b) go h = tt
on_text_goes s (Own n) go h = tt
on_text_goes s (Ref n) go h = tt
on_text_goes s (Iso n) go h = tt

-- an operator on two numbers
pub ints_goes : (f : ℤ → ℤ → Result ℤ TrapKind) (v u : Value) (s : State) → StepGoesOn s (o.on_ints (λ x y. o.gives_int s (f x y)) v u)
ints_goes f v u s = on_int_goes s v _ (λ x. on_int_goes s u _ (λ y. int_goes s (f x y)))

pub join_goes : (v u : Value) (s : State) → StepGoesOn s (o.join v u s)
join_goes v u s = on_text_goes s v _ (λ x. on_text_goes s u _ (λ y. text_goes s (p.join x y)))

pub slice_goes : (v a b : Value) (s : State) → StepGoesOn s (o.slice v a b s)
slice_goes v a b s = on_text_goes s v _ (λ t. on_int_goes s a _ (λ x. on_int_goes s b _ (λ y. text_goes s (p.slice t x y))))

pub byte_goes : (v i : Value) (s : State) → StepGoesOn s (o.byte v i s)
byte_goes v i s = on_text_goes s v _ (λ t. on_int_goes s i _ (λ x. int_goes s (p.byte t x)))

pub text_of_goes : (v : Value) (s : State) → StepGoesOn s (o.text_of v s)
text_of_goes v s = on_int_goes s v _ (λ x. later_refl s)

pub is_number_goes : (v : Value) (s : State) → StepGoesOn s (o.is_number v s)
is_number_goes v s = on_text_goes s v _ (λ t. later_refl s)

pub number_goes : (v : Value) (s : State) → StepGoesOn s (o.number v s)
number_goes v s = on_text_goes s v _ (λ t. int_goes s (p.number t))

pub opposite_goes : (v : Value) (s : State) → StepGoesOn s (o.opposite v s)
opposite_goes v s = on_truth_goes s v _ (λ b. later_refl s)

truths_goes : (c : o.Comparison) (a b : Bool) (s : State) → StepGoesOn s (o.truths_compared c a b s)
truths_goes o.equal a b s = later_refl s
truths_goes o.not_equal a b s = later_refl s
truths_goes o.less a b s = tt
truths_goes o.less_equal a b s = tt
truths_goes o.greater a b s = tt
truths_goes o.greater_equal a b s = tt

pub compare_goes : (c : o.Comparison) (v u : Value) (s : State) → StepGoesOn s (o.compare c v u s)
compare_goes c (Int x) (Int y) s = later_refl s
compare_goes c (Text x) (Text y) s = later_refl s
compare_goes c (Truth a) (Truth b) s = truths_goes c a b s
compare_goes c (Int x) (Truth b) s = tt
compare_goes c (Int x) (Text b) s = tt
compare_goes c (Int x) (Own b) s = tt
compare_goes c (Int x) (Ref b) s = tt
compare_goes c (Int x) (Iso b) s = tt
compare_goes c (Text x) (Int b) s = tt
compare_goes c (Text x) (Truth b) s = tt
compare_goes c (Text x) (Own b) s = tt
compare_goes c (Text x) (Ref b) s = tt
compare_goes c (Text x) (Iso b) s = tt
compare_goes c (Truth x) (Int b) s = tt
compare_goes c (Truth x) (Text b) s = tt
compare_goes c (Truth x) (Own b) s = tt
compare_goes c (Truth x) (Ref b) s = tt
compare_goes c (Truth x) (Iso b) s = tt
compare_goes c (Own x) u s = tt
compare_goes c (Ref x) u s = tt
compare_goes c (Iso x) u s = tt
