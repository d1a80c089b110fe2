-- What a run has beside its control, and every single step on it. The meaning of programs and the meaning of code go by the
-- same steps, so that what they do to a state is equal.
use Rattle.std.specs.Prelude.{ℕ, zero, suc, ◌+◌, ◌-◌, nat_le, nat_lt, max, ℤ, pos, negsuc, ◌+ℤ◌, ◌-ℤ◌, List, [], ◌∷◌, ◌++◌, length, take, Option, Some, None, Bool, true, false, ◌==◌, if◌then◌else◌, slice_get, slice_set, codes}
use Rattle.std.specs.Fmt.{decimal, signed_decimal}
use Rattle.vale_base.specs.Limits.{depth_limit, width_limit, report_frames}
use Rattle.vale_state_spec.specs.Outcome.{End, Trap, Outcome}
use Rattle.vale_state_spec.specs.World.{Value, Int, Truth, Text, Own, Ref, Iso, Region, Freeze, Isolate, Object, World, next_name, relabelled}
use Rattle.vale_state_spec.specs.World as w
use Rattle.vale_base.specs.declared.name.Kind.{Kind}
use Rattle.vale_base.specs.declared.piece.Piece.{Piece}
use Rattle.vale_base.specs.declared.spot.Spot.{Spot}
use Rattle.vale_base.specs.declared.trap.FrameAt.{FrameAt}
use Rattle.vale_base.specs.declared.trap.TrapKind.{TrapKind}
use Rattle.vale_base.specs.declared.trap.TrapKind.TheVariants.{DeadReference, IndexOutOfRange, ArrayTooLong, EmptyPop}

pub record State : Type 0 where
  -- the ticks left, and those spent
  pub left : ℕ
  pub spent : ℕ
  pub pieces : List Piece
  pub world : World
  -- how many freezes are open, those of iterations included: the innermost has this depth
  pub regions : ℕ
  -- how many of them count for the depth of the run: all but those of iterations, which are counted as calls
  pub frozen : ℕ
  -- the greatest number of live objects and the number of objects made, as the need of a run counts them; while it is quiet
  -- nothing is counted
  pub most : ℕ
  pub made : ℕ
  pub quiet : Bool

-- the calls, destructions and iterations that are under way, the innermost first
abbrev pub Calls : Type 0
Calls = List FrameAt

-- what a step comes to: a value or nothing and the state after it, a trap, or no rule
pub data Answer : Type 0 where
  gives : Option Value → State → Answer
  traps : TrapKind → Answer
  fails : Answer

-- ---- ticks

-- the state before the first tick
abbrev pub begin : ℕ → State
begin ticks = record { left = ticks; spent = 0; pieces = []; world = []; regions = 0; frozen = 0; most = 0; made = 0; quiet = false }

abbrev pub spend_of : ℕ → State → Option State
spend_of zero s = None
spend_of (suc n) s = Some (record s { left = n; spent = s.spent + 1 })

-- one tick is spent, where one is left; else the run is cut
abbrev pub spend : State → Option State
spend s = spend_of s.left s

-- ---- what is under way

-- so many more functions, destructions, freezes or iterations may be under way
abbrev pub has_depth : ℕ → Calls → State → Bool
has_depth more calls s = nat_le (length calls + s.frozen + more) depth_limit

abbrev pub function_frame : List ℕ → Spot → FrameAt
function_frame name at = record { what = name; at = at }

-- a method of a struct
abbrev pub method_frame : List ℕ → List ℕ → Spot → FrameAt
method_frame owner name at = record { what = owner ++ codes "." ++ name; at = at }

-- a destruction of an object of a kind with this text
abbrev pub drop_frame : List ℕ → Spot → FrameAt
drop_frame kind at = record { what = codes "drop " ++ kind; at = at }

abbrev pub iteration_frame : ℕ → Spot → FrameAt
iteration_frame k at = record { what = codes "iteration " ++ decimal k; at = at }

-- no call made `main`
abbrev pub main_frame : FrameAt
main_frame = record { what = codes "main"; at = record { line = 1; col = 1 } }

-- a trap under these calls
abbrev pub trap_under : TrapKind → Spot → Calls → End
trap_under kind at calls = Trap (record { kind = kind; at = at; frames = take report_frames calls; more = length calls - report_frames })

abbrev pub outcome : End → State → Outcome
outcome end s = record { pieces = s.pieces; end = end; ticks = s.spent }

-- ---- printing

-- bytes are printed now
abbrev pub printed : List ℕ → State → State
printed bytes s = record s { pieces = s.pieces ++ record { tick = s.spent; bytes = bytes } ∷ [] }

-- what is printed of a value
abbrev pub shown : Value → Option (List ℕ)
shown (Int z) = Some (signed_decimal z)
shown (Truth true) = Some (codes "true")
shown (Truth false) = Some (codes "false")
shown (Text bytes) = Some bytes
shown (Own n) = None
shown (Ref n) = None
shown (Iso n) = None

abbrev pub print_text : Bool → Option (List ℕ) → State → Answer
print_text line None s = fails
print_text true (Some bytes) s = gives None (printed (bytes ++ 10 ∷ []) s)
print_text false (Some bytes) s = gives None (printed bytes s)

-- a value is printed, with a line feed or without
abbrev pub print : Bool → Value → State → Answer
print line v s = print_text line (shown v) s

-- ---- objects

-- where objects are made now
abbrev pub here : State → Region
here s = Freeze s.regions

abbrev pub living : Option (Option Object) → Option Object
living None = None
living (Some o) = o

-- the object of a name, while it lives
abbrev pub object_of : ℕ → State → Option Object
object_of n s = living (slice_get s.world n)

-- how many objects live
abbrev pub live : World → ℕ
live [] = 0
live (None ∷ os) = live os
live (Some o ∷ os) = suc (live os)

-- the objects are counted after a birth
abbrev pub counted : State → State
counted s = if s.quiet then s else record s { most = max s.most (live s.world); made = s.made + 1 }

-- one more object of the innermost region
abbrev pub born : Kind → List Value → State → State
born kind values s = counted (record s { world = w.born s.world (record { region = here s; kind = kind; values = values }) })

-- an object is made, after its tick
abbrev pub make : Kind → List Value → State → Answer
make kind values s = gives (Some (Own (next_name s.world))) (born kind values s)

-- an object dies, after its tick
abbrev pub dies : ℕ → State → State
dies n s = record s { world = w.died s.world n }

abbrev pub changed : ℕ → Object → List Value → State → State
changed n o values s = record s { world = w.written s.world n (record o { values = values }) }

-- an owner or an isolate that stays where it is: what others get is a reference to it
abbrev pub lent : Value → Value
lent (Own n) = Ref n
lent (Iso n) = Ref n
lent v = v

-- what a value leads to
abbrev pub name_of : Value → Option ℕ
name_of (Own n) = Some n
name_of (Ref n) = Some n
name_of (Iso n) = Some n
name_of _ = None

-- what a value leads to
pub data Looked : Type 0 where
  found : ℕ → Object → Looked
  dead : Looked
  nowhere : Looked

abbrev pub found_or_dead : ℕ → Option Object → Looked
found_or_dead n None = dead
found_or_dead n (Some o) = found n o

abbrev pub look_up : Option ℕ → State → Looked
look_up None s = nowhere
look_up (Some n) s = found_or_dead n (object_of n s)

abbrev pub look : Value → State → Looked
look v s = look_up (name_of v) s

abbrev pub on_object : Looked → (ℕ → Object → Answer) → Answer
on_object (found n o) go = go n o
on_object dead go = traps DeadReference
on_object nowhere go = fails

-- a step on the object that a value leads to, where it lives
abbrev pub with_object : Value → State → (ℕ → Object → Answer) → Answer
with_object v s go = on_object (look v s) go

-- ---- fields

abbrev pub field_in : Option Value → State → Answer
field_in None s = fails
field_in (Some v) s = gives (Some (lent v)) s

-- field i of what the value leads to
abbrev pub load : ℕ → Value → State → Answer
load i v s = with_object v s (λ n o. field_in (slice_get o.values i) s)

abbrev pub swapped_in : Option Value → ℕ → Object → ℕ → Value → State → Answer
swapped_in None n o i new s = fails
swapped_in (Some old) n o i new s = gives (Some old) (changed n o (slice_set o.values i new) s)

-- field i is this value now; what was there comes out
abbrev pub swap : ℕ → Value → Value → State → Answer
swap i v new s = with_object v s (λ n o. swapped_in (slice_get o.values i) n o i new s)

-- ---- elements

-- the value where one is there
abbrev pub element_in : Option Value → State → Answer
element_in None s = traps IndexOutOfRange
element_in (Some v) s = gives (Some (lent v)) s

abbrev pub element_at : Value → Object → State → Answer
element_at (Int (pos i)) o s = element_in (slice_get o.values i) s
element_at (Int (negsuc i)) o s = traps IndexOutOfRange
element_at _ o s = fails

-- the element at an index of what the value leads to: it has to live, and then the index has to be in range
abbrev pub element : Value → Value → State → Answer
element v index s = with_object v s (λ n o. element_at index o s)

abbrev pub element_swapped_in : Option Value → ℕ → Object → ℕ → Value → State → Answer
element_swapped_in None n o i new s = traps IndexOutOfRange
element_swapped_in (Some old) n o i new s = gives (Some old) (changed n o (slice_set o.values i new) s)

abbrev pub element_swapped_at : Value → ℕ → Object → Value → State → Answer
element_swapped_at (Int (pos i)) n o new s = element_swapped_in (slice_get o.values i) n o i new s
element_swapped_at (Int (negsuc i)) n o new s = traps IndexOutOfRange
element_swapped_at _ n o new s = fails

abbrev pub swap_element : Value → Value → Value → State → Answer
swap_element v index new s = with_object v s (λ n o. element_swapped_at index n o new s)

-- of a text its bytes, of an array its elements
abbrev pub len : Value → State → Answer
len (Text bytes) s = gives (Some (Int (pos (length bytes)))) s
len v s = with_object v s (λ n o. gives (Some (Int (pos (length o.values)))) s)

abbrev pub push : Value → Value → State → Answer
push v new s =
    with_object v s (λ n o. if nat_lt (length o.values) width_limit then gives None (changed n o (o.values ++ new ∷ []) s) else traps ArrayTooLong)

-- all but the last, after these
abbrev pub front_from : Value → List Value → List Value
front_from v [] = []
front_from v (u ∷ us) = v ∷ front_from u us

abbrev pub last_from : Value → List Value → Value
last_from v [] = v
last_from v (u ∷ us) = last_from u us

abbrev pub popped : ℕ → Object → List Value → State → Answer
popped n o [] s = traps EmptyPop
popped n o (v ∷ vs) s = gives (Some (last_from v vs)) (changed n o (front_from v vs) s)

-- the last element comes out
abbrev pub pop : Value → State → Answer
pop v s = with_object v s (λ n o. popped n o o.values s)

-- ---- freezes and isolates

abbrev pub freeze : State → State
freeze s = record s { regions = s.regions + 1; frozen = s.frozen + 1 }

-- the freeze of an iteration is counted with its frame
abbrev pub freeze_iteration : State → State
freeze_iteration s = record s { regions = s.regions + 1 }

-- the three ends of a freeze's region: its objects join the enclosing one, are kept as an isolate with this root, or are
-- removed, with no destruction and no tick
pub data RegionEnd : Type 0 where
  merged : RegionEnd
  kept : ℕ → RegionEnd
  cleared : RegionEnd

abbrev pub world_after : RegionEnd → State → World
world_after merged s = relabelled (here s) (Freeze (s.regions - 1)) s.world
world_after (kept root) s = relabelled (here s) (Isolate root) s.world
world_after cleared s = w.cleared (here s) s.world

abbrev pub thaw : RegionEnd → State → State
thaw end s = record s { world = world_after end s; regions = s.regions - 1; frozen = s.frozen - 1 }

abbrev pub thaw_iteration : RegionEnd → State → State
thaw_iteration end s = record s { world = world_after end s; regions = s.regions - 1 }

-- how the freeze of a `pure` block or a pure function ends by its value
abbrev pub end_of_pure : Option Value → RegionEnd
end_of_pure (Some (Own n)) = merged
end_of_pure _ = cleared

-- how that of an `iso` block or an iteration does
abbrev pub end_of_isolate : Option Value → RegionEnd
end_of_isolate (Some (Own n)) = kept n
end_of_isolate _ = cleared

-- the value that leaves an `iso` block or an iteration
abbrev pub isolated : Option Value → Option Value
isolated (Some (Own n)) = Some (Iso n)
isolated v = v

-- the objects of an isolate join the innermost region
abbrev pub join_isolate : ℕ → State → State
join_isolate root s = record s { world = relabelled (Isolate root) (here s) s.world }

-- `merge`: the root's owner
abbrev pub merge : Value → State → Answer
merge (Iso n) s = gives (Some (Own n)) (join_isolate n s)
merge _ s = fails

-- ---- parallel loops

abbrev pub not_negative : ℤ → ℕ
not_negative (pos n) = n
not_negative (negsuc n) = 0

-- how many whole numbers lie from the first on and below the second
abbrev pub width_of : ℤ → ℤ → ℕ
width_of a b = not_negative (b -ℤ a)

-- the number that iteration k gets
abbrev pub index_of : ℤ → ℕ → Value
index_of a k = Int (a +ℤ pos k)

-- a loop that is no part of an iteration
abbrev pub is_outermost : State → Bool
is_outermost s = s.regions == s.frozen

-- ---- what the need of a run counts

-- one iteration by itself, from the loop's start
abbrev pub alone : State → State
alone s = record s { most = live s.world; made = 0; quiet = false }

-- by how much the iterations exceed the loop's start, and what they make, where each runs by itself and ends so
abbrev pub excess : ℕ → List State → ℕ
excess at_start [] = 0
excess at_start (s ∷ ss) = (s.most - at_start) + excess at_start ss

abbrev pub made_by : List State → ℕ
made_by [] = 0
made_by (s ∷ ss) = s.made + made_by ss

-- An outermost loop counts from its start on as those that live there and all that its iterations add, each by itself; while
-- it runs in order nothing more is counted.
abbrev pub loop_counted : List State → State → State
loop_counted ends s = record s { most = max s.most (live s.world + excess (live s.world) ends); made = s.made + made_by ends; quiet = true }

-- after the loop it is counted again as before it
abbrev pub counting_as : State → State → State
counting_as before s = record s { quiet = before.quiet }

-- ---- input

-- what a run gets for the parameter of `main`, where it has one
pub data Given : Type 0 where
  no_input : Given
  numbers : List ℤ → Given
  lines : List (List ℕ) → Given

abbrev pub ints : List ℤ → List Value
ints [] = []
ints (z ∷ zs) = Int z ∷ ints zs

abbrev pub texts : List (List ℕ) → List Value
texts [] = []
texts (t ∷ ts) = Text t ∷ texts ts

-- the elements of the input array
abbrev pub given : Given → Option (List Value)
given no_input = None
given (numbers zs) = Some (ints zs)
given (lines ts) = Some (texts ts)
