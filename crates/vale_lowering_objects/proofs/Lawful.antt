-- What a run on lawful input holds: its numbers are ints, its texts are such as a `str` may have, and its objects have no more
-- values than an array may have. Single steps on registers, worlds and values keep it.
use Rattle.std.proofs.Common.{◌≡◌, ℕ, zero, suc, ◌-◌, ◌<◌, ◌≤◌, ℤ, pos, negsuc, List, [], ◌∷◌, ◌++◌, length, map, replicate, Option, Some, None, Bool, true, false, if◌then◌else◌, Result, Ok, Err, refl, ap, arith, length-append}
use Rattle.std.specs.Prelude.{slice_get, slice_set, nat_lt}
use Rattle.std.proofs.lemmas.List.{length-set}
use Rattle.vale_base.specs.Limits.{width_limit}
use Rattle.vale_base.specs.declared.name.Kind.{Kind}
use Rattle.vale_base.specs.declared.trap.TrapKind.{TrapKind}
use Rattle.vale_base.specs.declared.trap.TrapKind.TheVariants.{DeadReference, ArrayTooLong}
use Rattle.vale_state_spec.specs.State.{State, Answer, gives, traps, fails, on_object, look_up, found_or_dead, name_of, living, object_of, lent, field_in, load, swapped_in, swap, element_in, element_at, element, element_swapped_in, element_swapped_at, swap_element, changed, push, front_from, last_from, popped, pop, born, make, merge, print, print_text, shown, RegionEnd, merged, kept, cleared, world_after}
use Rattle.vale_state_spec.specs.World.{Value, Int, Truth, Text, Own, Ref, Iso, Region, Object, World, region_eq, relabelled}
use Rattle.vale_state_spec.specs.World as world
use Rattle.vale_text.specs.Operations as o
use Rattle.vale_text.specs.Operations.{is_int}
use Rattle.vale_text.specs.Steps.{on_int, on_truth, on_text, gives_int, gives_text, add, sub, mul, div, rem, Comparison, equal, not_equal, less, less_equal, greater, greater_equal, truths_compared, compare, opposite, join, slice, byte, text_of, is_number, number}
use Rattle.vale_code.specs.Instructions.{text_length, array_length, of_living}
use Rattle.vale_code.specs.Registers.{Registers, Read, read, put, registers_for, with_result, kept as kept_from, and_then, after_keeping, read_all, as_frozen, named, given_value, after_giving, give_all, put_all}
use Rattle.vale_code.specs.declared.ty.Ty.{Ty}
use Rattle.vale_code.specs.declared.ty.Ty.TheVariants as t
use Rattle.vale_lowering.proofs.Ranges.{IsLawful, GivesInt, GivesText, KeepsInts, add_keeps, sub_keeps, mul_keeps, div_keeps, rem_keeps, number_gives, byte_gives, join_gives, slice_gives, length_is_int, text_of_is_lawful}

-- ---- what is lawful

abbrev pub LawfulValue : Value → Type 0
LawfulValue (Int z) = is_int z ≡ true
LawfulValue (Text bytes) = IsLawful bytes
LawfulValue (Truth b) = Unit {0}
LawfulValue (Own n) = Unit {0}
LawfulValue (Ref n) = Unit {0}
LawfulValue (Iso n) = Unit {0}

abbrev pub LawfulHeld : Option Value → Type 0
LawfulHeld None = Unit {0}
LawfulHeld (Some v) = LawfulValue v

abbrev pub LawfulValues : List Value → Type 0
LawfulValues [] = Unit {0}
LawfulValues (v ∷ vs) = LawfulValue v × LawfulValues vs

abbrev pub LawfulRegisters : Registers → Type 0
LawfulRegisters [] = Unit {0}
LawfulRegisters (v ∷ vs) = LawfulHeld v × LawfulRegisters vs

abbrev pub LawfulObject : Option Object → Type 0
LawfulObject None = Unit {0}
LawfulObject (Some object) = LawfulValues object.values × (length object.values ≤ width_limit)

abbrev pub LawfulWorld : World → Type 0
LawfulWorld [] = Unit {0}
LawfulWorld (x ∷ xs) = LawfulObject x × LawfulWorld xs

abbrev pub LawfulAnswer : Answer → Type 0
LawfulAnswer (gives v s) = LawfulHeld v × LawfulWorld s.world
LawfulAnswer (traps kind) = Unit {0}
LawfulAnswer fails = Unit {0}

-- values that were read, and the registers after it
abbrev pub LawfulRead : Option Read → Type 0
LawfulRead None = Unit {0}
LawfulRead (Some r) = LawfulValues r.values × LawfulRegisters r.after

abbrev pub LawfulPut : Option Registers → Type 0
LawfulPut None = Unit {0}
LawfulPut (Some regs) = LawfulRegisters regs

-- ---- registers

pub read_lawful : (regs : Registers) (r : ℕ) → LawfulRegisters regs → LawfulHeld (read regs r)
read_lawful [] r h = tt
read_lawful (v ∷ vs) zero h = h.0
read_lawful (v ∷ vs) (suc r) h = read_lawful vs r h.1

pub put_lawful : (regs : Registers) (r : ℕ) (v : Option Value) → LawfulRegisters regs → LawfulHeld v → LawfulRegisters (put regs r v)
put_lawful [] zero v h a = (a, tt)
put_lawful [] (suc r) v h a = (tt, put_lawful [] r v tt a)
put_lawful (x ∷ xs) zero v h a = (a, h.1)
put_lawful (x ∷ xs) (suc r) v h a = (h.0, put_lawful xs r v h.1 a)

empty_lawful : (n : ℕ) → LawfulRegisters (replicate n None)
empty_lawful zero = tt
empty_lawful (suc n) = (tt, empty_lawful n)

arguments_lawful : (vs : List Value) (n : ℕ) → LawfulValues vs → LawfulRegisters (map Some vs ++ replicate n None)
arguments_lawful [] n h = empty_lawful n
arguments_lawful (v ∷ vs) n h = (h.0, arguments_lawful vs n h.1)

pub registers_for_lawful : (count : ℕ) (vs : List Value) → LawfulValues vs → LawfulRegisters (registers_for count vs)
registers_for_lawful count vs h = arguments_lawful vs (count - length vs) h

pub result_lawful : (to : Option ℕ) (v : Option Value) (regs : Registers) → LawfulRegisters regs → LawfulHeld v → LawfulRegisters (with_result to v regs)
result_lawful None v regs h a = h
result_lawful (Some to) None regs h a = h
result_lawful (Some to) (Some v) regs h a = put_lawful regs to (Some v) h a

pub kept_lawful : (r : ℕ) (v : Value) (regs : Registers) → LawfulRegisters regs → LawfulRegisters (kept_from r v regs)
kept_lawful r (Own n) regs h = put_lawful regs r None h tt
kept_lawful r (Iso n) regs h = put_lawful regs r None h tt
kept_lawful r (Int z) regs h = h
kept_lawful r (Truth b) regs h = h
kept_lawful r (Text bytes) regs h = h
kept_lawful r (Ref n) regs h = h

keeping_lawful : (r : ℕ) (v : Option Value) (regs : Registers) → LawfulRegisters regs → LawfulRegisters (after_keeping r v regs)
keeping_lawful r None regs h = h
keeping_lawful r (Some v) regs h = kept_lawful r v regs h

one_read : (v : Option Value) (rest : Option Read) → LawfulHeld v → LawfulRead rest → LawfulRead (and_then v rest)
one_read None rest a h = tt
one_read (Some v) None a h = tt
one_read (Some v) (Some rest) a h = ((a, h.0), h.1)

-- as many values as registers
abbrev pub HasMany : List ℕ → Option Read → Type 0
HasMany rs None = Unit {0}
HasMany rs (Some r) = length r.values ≡ length rs

one_more : (r : ℕ) (rs : List ℕ) (v : Option Value) (rest : Option Read) → HasMany rs rest → HasMany (r ∷ rs) (and_then v rest)
one_more r rs None rest h = tt
one_more r rs (Some v) None h = tt
one_more r rs (Some v) (Some rest) h = ap suc h

pub read_many : (rs : List ℕ) (regs : Registers) → HasMany rs (read_all rs regs)
read_many [] regs = refl
read_many (r ∷ rs) regs = one_more r rs (read regs r) _ (read_many rs (after_keeping r (read regs r) regs))

pub read_all_lawful : (rs : List ℕ) (regs : Registers) → LawfulRegisters regs → LawfulRead (read_all rs regs)
read_all_lawful [] regs h = (tt, h)
read_all_lawful (r ∷ rs) regs h = one_read (read regs r) _ (read_lawful regs r h) (read_all_lawful rs (after_keeping r (read regs r) regs) (keeping_lawful r (read regs r) regs h))

pub frozen_lawful : (n : Option ℕ) → LawfulHeld (as_frozen n)
frozen_lawful None = tt
frozen_lawful (Some n) = tt

given_lawful : (ty : Ty) (v : Option Value) → LawfulHeld v → LawfulHeld (given_value ty v)
given_lawful (t.Frozen k) v a = frozen_lawful (named v)
given_lawful t.Void v a = a
given_lawful t.Int v a = a
given_lawful t.Truth v a = a
given_lawful t.Text v a = a
given_lawful (t.Own k) v a = a
given_lawful (t.Ref k) v a = a
given_lawful (t.Iso k) v a = a

giving_lawful : (ty : Ty) (r : ℕ) (v : Option Value) (regs : Registers) → LawfulRegisters regs → LawfulRegisters (after_giving ty r v regs)
giving_lawful (t.Frozen k) r v regs h = h
giving_lawful t.Void r v regs h = keeping_lawful r v regs h
giving_lawful t.Int r v regs h = keeping_lawful r v regs h
giving_lawful t.Truth r v regs h = keeping_lawful r v regs h
giving_lawful t.Text r v regs h = keeping_lawful r v regs h
giving_lawful (t.Own k) r v regs h = keeping_lawful r v regs h
giving_lawful (t.Ref k) r v regs h = keeping_lawful r v regs h
giving_lawful (t.Iso k) r v regs h = keeping_lawful r v regs h

pub give_all_lawful : (tys : List Ty) (rs : List ℕ) (regs : Registers) → LawfulRegisters regs → LawfulRead (give_all tys rs regs)
give_all_lawful [] [] regs h = (tt, h)
give_all_lawful [] (r ∷ rs) regs h = tt
give_all_lawful (ty ∷ tys) [] regs h = tt
give_all_lawful (ty ∷ tys) (r ∷ rs) regs h =
    one_read (given_value ty (read regs r)) _ (given_lawful ty (read regs r) (read_lawful regs r h)) (give_all_lawful tys rs (after_giving ty r (read regs r) regs) (giving_lawful ty r (read regs r) regs h))

pub put_all_lawful : (rs : List ℕ) (vs : List Value) (regs : Registers) → LawfulRegisters regs → LawfulValues vs → LawfulPut (put_all rs vs regs)
put_all_lawful [] [] regs h a = h
put_all_lawful [] (v ∷ vs) regs h a = tt
put_all_lawful (r ∷ rs) [] regs h a = tt
put_all_lawful (r ∷ rs) (v ∷ vs) regs h a = put_all_lawful rs vs (put regs r (Some v)) (put_lawful regs r (Some v) h a.0) a.1

-- ---- values in a row

value_lawful : (vs : List Value) (n : ℕ) → LawfulValues vs → LawfulHeld (slice_get vs n)
value_lawful [] n h = tt
value_lawful (v ∷ vs) zero h = h.0
value_lawful (v ∷ vs) (suc n) h = value_lawful vs n h.1

set_lawful : (vs : List Value) (n : ℕ) (v : Value) → LawfulValues vs → LawfulValue v → LawfulValues (slice_set vs n v)
set_lawful [] n v h a = tt
set_lawful (u ∷ us) zero v h a = (a, h.1)
set_lawful (u ∷ us) (suc n) v h a = (h.0, set_lawful us n v h.1 a)

more_lawful : (vs : List Value) (v : Value) → LawfulValues vs → LawfulValue v → LawfulValues (vs ++ v ∷ [])
more_lawful [] v h a = (a, tt)
more_lawful (u ∷ us) v h a = (h.0, more_lawful us v h.1 a)

front_lawful : (v : Value) (vs : List Value) → LawfulValue v → LawfulValues vs → LawfulValues (front_from v vs)
front_lawful v [] a h = tt
front_lawful v (u ∷ us) a h = (a, front_lawful u us h.0 h.1)

last_lawful : (v : Value) (vs : List Value) → LawfulValue v → LawfulValues vs → LawfulValue (last_from v vs)
last_lawful v [] a h = a
last_lawful v (u ∷ us) a h = last_lawful u us h.0 h.1

front_length : (v : Value) (vs : List Value) → length (front_from v vs) ≡ length vs
front_length v [] = refl
front_length v (u ∷ us) = let e = front_length u us in omega (arith, e)

pub lent_lawful : (v : Value) → LawfulValue v → LawfulValue (lent v)
lent_lawful (Int z) a = a
lent_lawful (Truth b) a = a
lent_lawful (Text bytes) a = a
lent_lawful (Own n) a = tt
lent_lawful (Ref n) a = tt
lent_lawful (Iso n) a = tt

-- ---- worlds

world_at : (w : World) (n : ℕ) → LawfulWorld w → LawfulObject (living (slice_get w n))
world_at [] n h = tt
world_at (x ∷ xs) zero h = h.0
world_at (x ∷ xs) (suc n) h = world_at xs n h.1

pub object_lawful : (n : ℕ) (s : State) → LawfulWorld s.world → LawfulObject (object_of n s)
object_lawful n s h = world_at s.world n h

world_set : (w : World) (n : ℕ) (x : Option Object) → LawfulWorld w → LawfulObject x → LawfulWorld (slice_set w n x)
world_set [] n x h a = tt
world_set (y ∷ ys) zero x h a = (a, h.1)
world_set (y ∷ ys) (suc n) x h a = (h.0, world_set ys n x h.1 a)

pub dies_lawful : (n : ℕ) (s : State) → LawfulWorld s.world → LawfulWorld (world.died s.world n)
dies_lawful n s h = world_set s.world n None h tt

world_more : (w : World) (x : Object) → LawfulWorld w → LawfulObject (Some x) → LawfulWorld (w ++ Some x ∷ [])
world_more [] x h a = (a, tt)
world_more (y ∷ ys) x h a = (h.0, world_more ys x h.1 a)

if_lawful : (b : Bool) (s u : State) → LawfulWorld s.world → LawfulWorld u.world → LawfulWorld (if b then s else u).world
if_lawful true s u a c = a
if_lawful false s u a c = c

pub born_lawful : (kind : Kind) (vs : List Value) (s : State) → LawfulWorld s.world → LawfulValues vs → length vs ≤ width_limit → LawfulWorld (born kind vs s).world
born_lawful kind vs s h a few = if_lawful s.quiet _ _ (world_more s.world _ h (a, few)) (world_more s.world _ h (a, few))

moved_lawful : (from to : Region) (x : Option Object) → LawfulObject x → LawfulObject (world.moved from to x)
moved_lawful from to None h = tt
moved_lawful from to (Some object) h = h

pub relabelled_lawful : (from to : Region) (w : World) → LawfulWorld w → LawfulWorld (relabelled from to w)
relabelled_lawful from to [] h = tt
relabelled_lawful from to (x ∷ xs) h = (moved_lawful from to x h.0, relabelled_lawful from to xs h.1)

unless_lawful : (b : Bool) (object : Object) → LawfulObject (Some object) → LawfulObject (if b then None else Some object)
unless_lawful true object h = tt
unless_lawful false object h = h

cleared_of : (region : Region) (x : Option Object) → LawfulObject x → LawfulObject (world.unless_of region x)
cleared_of region None h = tt
cleared_of region (Some object) h = unless_lawful (region_eq object.region region) object h

cleared_lawful : (region : Region) (w : World) → LawfulWorld w → LawfulWorld (world.cleared region w)
cleared_lawful region [] h = tt
cleared_lawful region (x ∷ xs) h = (cleared_of region x h.0, cleared_lawful region xs h.1)

-- a freeze ends
pub end_lawful : (end : RegionEnd) (s : State) → LawfulWorld s.world → LawfulWorld (world_after end s)
end_lawful merged s h = relabelled_lawful _ _ s.world h
end_lawful (kept root) s h = relabelled_lawful _ _ s.world h
end_lawful cleared s h = cleared_lawful _ s.world h

-- ---- steps on objects

module _ (s : State) (h : LawfulWorld s.world) where
  on_found : (go : ℕ → Object → Answer) (n : Option ℕ) → ((n : ℕ) (object : Object) → LawfulObject (Some object) → LawfulAnswer (go n object)) → LawfulAnswer (on_object (look_up n s) go)
  on_found go None each = tt
  on_found go (Some n) each = by (object_of n s) (object_lawful n s h)
    where
      by : (x : Option Object) → LawfulObject x → LawfulAnswer (on_object (found_or_dead n x) go)
      by None a = tt
      by (Some object) a = each n object a

  changed_lawful : (n : ℕ) (object : Object) (vs : List Value) → LawfulValues vs → length vs ≤ width_limit → LawfulWorld (changed n object vs s).world
  changed_lawful n object vs a few = world_set s.world n _ h (a, few)

  field_lawful : (v : Option Value) → LawfulHeld v → LawfulAnswer (field_in v s)
  field_lawful None a = tt
  field_lawful (Some v) a = (lent_lawful v a, h)

  pub load_lawful : (f : ℕ) (v : Value) → LawfulAnswer (load f v s)
  load_lawful f v = on_found (λ n object. field_in (slice_get object.values f) s) (name_of v) (λ n object a. field_lawful (slice_get object.values f) (value_lawful object.values f a.0))

  swapped_lawful : (old : Option Value) (n : ℕ) (object : Object) (f : ℕ) (new : Value) → LawfulHeld old → LawfulObject (Some object) → LawfulValue new → LawfulAnswer (swapped_in old n object f new s)
  swapped_lawful None n object f new b a c = tt
  swapped_lawful (Some old) n object f new b a c =
      let same = length-set object.values f new in
      let few = a.1 in
      (b, changed_lawful n object (slice_set object.values f new) (set_lawful object.values f new a.0 c) (omega (arith, same, few)))

  pub swap_lawful : (f : ℕ) (v new : Value) → LawfulValue new → LawfulAnswer (swap f v new s)
  swap_lawful f v new c = on_found (λ n object. swapped_in (slice_get object.values f) n object f new s) (name_of v) (λ n object a. swapped_lawful (slice_get object.values f) n object f new (value_lawful object.values f a.0) a c)

  in_lawful : (v : Option Value) → LawfulHeld v → LawfulAnswer (element_in v s)
  in_lawful None a = tt
  in_lawful (Some v) a = (lent_lawful v a, h)

  at_lawful : (x : Value) (object : Object) → LawfulObject (Some object) → LawfulAnswer (element_at x object s)
  at_lawful (Int (pos z)) object a = in_lawful (slice_get object.values z) (value_lawful object.values z a.0)
  at_lawful (Int (negsuc z)) object a = tt
  at_lawful (Truth b) object a = tt
  at_lawful (Text bytes) object a = tt
  at_lawful (Own m) object a = tt
  at_lawful (Ref m) object a = tt
  at_lawful (Iso m) object a = tt

  pub element_lawful : (v x : Value) → LawfulAnswer (element v x s)
  element_lawful v x = on_found (λ n object. element_at x object s) (name_of v) (λ n object a. at_lawful x object a)

  swapped_in_lawful : (old : Option Value) (n : ℕ) (object : Object) (f : ℕ) (new : Value) → LawfulHeld old → LawfulObject (Some object) → LawfulValue new → LawfulAnswer (element_swapped_in old n object f new s)
  swapped_in_lawful None n object f new b a c = tt
  swapped_in_lawful (Some old) n object f new b a c = swapped_lawful (Some old) n object f new b a c

  swapped_at_lawful : (x : Value) (n : ℕ) (object : Object) (new : Value) → LawfulObject (Some object) → LawfulValue new → LawfulAnswer (element_swapped_at x n object new s)
  swapped_at_lawful (Int (pos z)) n object new a c = swapped_in_lawful (slice_get object.values z) n object z new (value_lawful object.values z a.0) a c
  swapped_at_lawful (Int (negsuc z)) n object new a c = tt
  swapped_at_lawful (Truth b) n object new a c = tt
  swapped_at_lawful (Text bytes) n object new a c = tt
  swapped_at_lawful (Own m) n object new a c = tt
  swapped_at_lawful (Ref m) n object new a c = tt
  swapped_at_lawful (Iso m) n object new a c = tt

  pub swap_element_lawful : (v x new : Value) → LawfulValue new → LawfulAnswer (swap_element v x new s)
  swap_element_lawful v x new c = on_found (λ n object. element_swapped_at x n object new s) (name_of v) (λ n object a. swapped_at_lawful x n object new a c)

  count_is_int : (vs : List Value) → length vs ≤ width_limit → is_int (pos (length vs)) ≡ true
  count_is_int vs few = grind (arith, few)

  pub array_length_lawful : (v : Value) → LawfulAnswer (array_length v s)
  array_length_lawful v = on_found (λ n object. gives (Some (Int (pos (length object.values)))) s) (name_of v) (λ n object a. (count_is_int object.values a.1, h))

  pushed_lawful : (b : Bool) (n : ℕ) (object : Object) (new : Value) → nat_lt (length object.values) width_limit ≡ b → LawfulObject (Some object) → LawfulValue new → LawfulAnswer (if b then gives None (changed n object (object.values ++ new ∷ []) s) else traps ArrayTooLong)
  pushed_lawful false n object new e a c = tt
  pushed_lawful true n object new e a c =
      let few : length object.values < width_limit = grind (arith, e) in
      let one = length-append object.values (new ∷ []) in
      (tt, changed_lawful n object (object.values ++ new ∷ []) (more_lawful object.values new a.0 c) (omega (arith, few, one)))

  pub push_lawful : (v new : Value) → LawfulValue new → LawfulAnswer (push v new s)
  push_lawful v new c =
      on_found (λ n object. if nat_lt (length object.values) width_limit then gives None (changed n object (object.values ++ new ∷ []) s) else traps ArrayTooLong) (name_of v)
      (λ n object a. pushed_lawful (nat_lt (length object.values) width_limit) n object new refl a c)

  popped_lawful : (vs : List Value) (n : ℕ) (object : Object) → LawfulValues vs → length vs ≤ width_limit → LawfulAnswer (popped n object vs s)
  popped_lawful [] n object a few = tt
  popped_lawful (v ∷ vs) n object a few =
      let same = front_length v vs in
      (last_lawful v vs a.0 a.1, changed_lawful n object (front_from v vs) (front_lawful v vs a.0 a.1) (omega (arith, same, few)))

  pub pop_lawful : (v : Value) → LawfulAnswer (pop v s)
  pop_lawful v = on_found (λ n object. popped n object object.values s) (name_of v) (λ n object a. popped_lawful object.values n object a.0 a.1)

  pub make_lawful : (kind : Kind) (vs : List Value) → LawfulValues vs → length vs ≤ width_limit → LawfulAnswer (make kind vs s)
  make_lawful kind vs a few = (tt, born_lawful kind vs s h a few)

  pub merge_lawful : (v : Value) → LawfulAnswer (merge v s)
  merge_lawful (Iso n) = (tt, relabelled_lawful _ _ s.world h)
  merge_lawful (Int z) = tt
  merge_lawful (Truth b) = tt
  merge_lawful (Text bytes) = tt
  merge_lawful (Own n) = tt
  merge_lawful (Ref n) = tt

  pub print_lawful : (line : Bool) (v : Value) → LawfulAnswer (print line v s)
  print_lawful line v = by line (shown v)
    where
      by : (line : Bool) (text : Option (List ℕ)) → LawfulAnswer (print_text line text s)
      by line None = tt
      by true (Some bytes) = (tt, h)
      by false (Some bytes) = (tt, h)

  pub living_lawful : (a : Answer) → LawfulAnswer a → LawfulAnswer (of_living a)
  living_lawful (gives v u) l = l
  living_lawful (traps kind) l = by kind
    where
      by : (kind : TrapKind) → LawfulAnswer (of_living (traps kind))
      by DeadReference = tt
      by _ = tt
  living_lawful fails l = tt

  -- ---- operations on values

  int_given : (r : Result ℤ TrapKind) → GivesInt r → LawfulAnswer (gives_int s r)
  int_given (Ok z) g = (g z refl, h)
  int_given (Err kind) g = tt

  text_given : (r : Result (List ℕ) TrapKind) → GivesText r → LawfulAnswer (gives_text s r)
  text_given (Ok bytes) g = (g bytes refl, h)
  text_given (Err kind) g = tt

  of_int : (v : Value) (go : ℤ → Answer) → LawfulValue v → ((z : ℤ) → is_int z ≡ true → LawfulAnswer (go z)) → LawfulAnswer (on_int v go)
  of_int (Int z) go a each = each z a
  of_int (Truth b) go a each = tt
  of_int (Text bytes) go a each = tt
  of_int (Own n) go a each = tt
  of_int (Ref n) go a each = tt
  of_int (Iso n) go a each = tt

  of_truth : (v : Value) (go : Bool → Answer) → ((b : Bool) → LawfulAnswer (go b)) → LawfulAnswer (on_truth v go)
  of_truth (Truth b) go each = each b
  of_truth (Int z) go each = tt
  of_truth (Text bytes) go each = tt
  of_truth (Own n) go each = tt
  of_truth (Ref n) go each = tt
  of_truth (Iso n) go each = tt

  of_text : (v : Value) (go : List ℕ → Answer) → LawfulValue v → ((bytes : List ℕ) → IsLawful bytes → LawfulAnswer (go bytes)) → LawfulAnswer (on_text v go)
  of_text (Text bytes) go a each = each bytes a
  of_text (Int z) go a each = tt
  of_text (Truth b) go a each = tt
  of_text (Own n) go a each = tt
  of_text (Ref n) go a each = tt
  of_text (Iso n) go a each = tt

  of_ints : (f : ℤ → ℤ → Result ℤ TrapKind) (v u : Value) → KeepsInts f → LawfulValue v → LawfulValue u → LawfulAnswer (on_int v (λ x. on_int u (λ y. gives_int s (f x y))))
  of_ints f v u keeps a c = of_int v _ a (λ x hx. of_int u _ c (λ y hy. int_given (f x y) (keeps x y hx hy)))

  pub add_lawful : (v u : Value) → LawfulValue v → LawfulValue u → LawfulAnswer (add v u s)
  add_lawful v u = of_ints o.add v u add_keeps

  pub sub_lawful : (v u : Value) → LawfulValue v → LawfulValue u → LawfulAnswer (sub v u s)
  sub_lawful v u = of_ints o.sub v u sub_keeps

  pub mul_lawful : (v u : Value) → LawfulValue v → LawfulValue u → LawfulAnswer (mul v u s)
  mul_lawful v u = of_ints o.mul v u mul_keeps

  pub div_lawful : (v u : Value) → LawfulValue v → LawfulValue u → LawfulAnswer (div v u s)
  div_lawful v u = of_ints o.div v u div_keeps

  pub rem_lawful : (v u : Value) → LawfulValue v → LawfulValue u → LawfulAnswer (rem v u s)
  rem_lawful v u = of_ints o.rem v u rem_keeps

  truths_lawful : (c : Comparison) (a b : Bool) → LawfulAnswer (truths_compared c a b s)
  truths_lawful equal a b = (tt, h)
  truths_lawful not_equal a b = (tt, h)
  truths_lawful less a b = tt
  truths_lawful less_equal a b = tt
  truths_lawful greater a b = tt
  truths_lawful greater_equal a b = tt

  pub compare_lawful : (c : Comparison) (v u : Value) → LawfulAnswer (compare c v u s)
  compare_lawful c (Int x) (Int y) = (tt, h)
  compare_lawful c (Text x) (Text y) = (tt, h)
  compare_lawful c (Truth x) (Truth y) = truths_lawful c x y
  compare_lawful c _ _ = tt

  pub opposite_lawful : (v : Value) → LawfulAnswer (opposite v s)
  opposite_lawful v = of_truth v _ (λ b. (tt, h))

  pub join_lawful : (v u : Value) → LawfulValue v → LawfulValue u → LawfulAnswer (join v u s)
  join_lawful v u a c = of_text v _ a (λ x hx. of_text u _ c (λ y hy. text_given (o.join x y) (join_gives x y hx hy)))

  pub slice_lawful : (v x y : Value) → LawfulValue v → LawfulValue x → LawfulValue y → LawfulAnswer (slice v x y s)
  slice_lawful v x y a b c = of_text v _ a (λ bytes hb. of_int x _ b (λ p hp. of_int y _ c (λ q hq. text_given (o.slice bytes p q) (slice_gives bytes p q hb))))

  pub byte_lawful : (v x : Value) → LawfulValue v → LawfulValue x → LawfulAnswer (byte v x s)
  byte_lawful v x a b = of_text v _ a (λ bytes hb. of_int x _ b (λ p hp. int_given (o.byte bytes p) (byte_gives bytes p hb)))

  pub text_of_lawful : (v : Value) → LawfulValue v → LawfulAnswer (text_of v s)
  text_of_lawful v a = of_int v _ a (λ x hx. (text_of_is_lawful x hx, h))

  pub is_number_lawful : (v : Value) → LawfulValue v → LawfulAnswer (is_number v s)
  is_number_lawful v a = of_text v _ a (λ bytes hb. (tt, h))

  pub number_lawful : (v : Value) → LawfulValue v → LawfulAnswer (number v s)
  number_lawful v a = of_text v _ a (λ bytes hb. int_given (o.number bytes) (number_gives bytes))

  pub text_length_lawful : (v : Value) → LawfulValue v → LawfulAnswer (text_length v s)
  text_length_lawful v a = of_text v _ a (λ bytes hb. (length_is_int bytes hb, h))
