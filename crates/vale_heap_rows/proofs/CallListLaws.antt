-- A list of calls that may be made whatever they answer is lawful, and leaves the regions open that it counts.
use Rattle.std.proofs.Common.{◌≡◌, ℕ, zero, suc, ◌-◌, ◌≤◌, Bool, true, false, List, [], ◌∷◌, ◌++◌, length, set, map, Some, None, cond, refl, sym, ap, subst, ◌∙◌, arith, length-append}
use Rattle.std.proofs.lemmas.List.{length-map, length-set}
use Rattle.vale_base.specs.declared.name.Kind.{Kind}
use Rattle.vale_state_spec.specs.World.{Region, Freeze, Object, World, Lives, region_eq, moved, unless_of}
use Rattle.vale_table.specs.Plain.{Plain}
use Rattle.vale_heap.specs.declared.body.Place.{Place}
use Rattle.vale_heap.specs.HeapState.{HeapState}
use Rattle.vale_heap_calls.specs.declared.call.Named.{Named}
use Rattle.vale_heap_calls.specs.declared.call.Named.TheVariants.{Int, Truth, Text, Own, Ref, Iso}
use Rattle.vale_heap_calls.specs.declared.call.Call.{Call}
use Rattle.vale_heap_calls.specs.declared.call.Call.TheVariants.{Make, Look, Change, End, FreezeIn, FreezeMerge, FreezeKeep, FreezeClear, Merge}
use Rattle.vale_heap_calls.specs.declared.call.Reply.{Reply}
use Rattle.vale_heap_calls.specs.declared.call.Reply.TheVariants.{Made, NoPage, Alive, Dead, Done}
use Rattle.vale_heap_calls.specs.Calls.{value_of, IsGiven, AllGiven, State, Lawful, Answers, AllLawful, AnswerAll}
use Rattle.vale_heap_calls.specs.Tied.{IsTied, CanCallAll, FollowAll}
use Rattle.vale_heap_rows.specs.CallLists.{regions_after, all_after, MayCall, MayCallAll, IsFreeze, NoIsolateIn, IsNamed}

given_more : (names more : ℕ) (value : Named) → names ≤ more → IsGiven names value → IsGiven more value
given_more names more (Int i) h given = tt
given_more names more (Truth b) h given = tt
given_more names more (Text t) h given = tt
given_more names more (Own name) h given = omega (arith, h, given)
given_more names more (Ref name) h given = omega (arith, h, given)
given_more names more (Iso name) h given = omega (arith, h, given)

all_given_more : (names more : ℕ) (values : List Named) → names ≤ more → AllGiven names values → AllGiven more values
all_given_more names more [] h all = tt
all_given_more names more (value ∷ values) h all = (given_more names more value h all.0, all_given_more names more values h all.1)

-- ---- worlds without isolates

free_push : (world : World) (object : Object) → NoIsolateIn world → IsFreeze object.region → NoIsolateIn (world ++ Some object ∷ [])
free_push [] object none free = (free, tt)
free_push (None ∷ world) object none free = free_push world object none free
free_push (Some other ∷ world) object none free = (none.0, free_push world object none.1 free)

free_died : (world : World) (name : ℕ) → NoIsolateIn world → NoIsolateIn (set world name None)
free_died [] name none = tt
free_died (None ∷ world) zero none = none
free_died (Some other ∷ world) zero none = none.1
free_died (None ∷ world) (suc name) none = free_died world name none
free_died (Some other ∷ world) (suc name) none = (none.0, free_died world name none.1)

free_written : (world : World) (name : ℕ) (object : Object) → NoIsolateIn world → IsFreeze object.region → NoIsolateIn (set world name (Some object))
free_written [] name object none free = tt
free_written (None ∷ world) zero object none free = (free, none)
free_written (Some other ∷ world) zero object none free = (free, none.1)
free_written (None ∷ world) (suc name) object none free = free_written world name object none free
free_written (Some other ∷ world) (suc name) object none free = (none.0, free_written world name object none.1 free)

lives_free : (world : World) (name : ℕ) (object : Object) → NoIsolateIn world → Lives world name object → IsFreeze object.region
lives_free [] name object none lives = absurd (cc)
lives_free (None ∷ world) zero object none lives = absurd (cc)
lives_free (Some other ∷ world) zero object none lives = let same : other ≡ object = cc in subst (λ (o : Object). IsFreeze o.region) same none.0
lives_free (None ∷ world) (suc name) object none lives = lives_free world name object none lives
lives_free (Some other ∷ world) (suc name) object none lives = lives_free world name object none.1 lives

free_moved : (from : Region) (depth : ℕ) (world : World) → NoIsolateIn world → NoIsolateIn (map (moved from (Freeze depth)) world)
free_moved from depth [] none = tt
free_moved from depth (None ∷ world) none = free_moved from depth world none
free_moved from depth (Some object ∷ world) none = (by_test (region_eq object.region from), free_moved from depth world none.1)
  where
    by_test : (b : Bool) → IsFreeze (cond b (Freeze depth) object.region)
    by_test true = tt
    by_test false = none.0

free_cleared : (of : Region) (world : World) → NoIsolateIn world → NoIsolateIn (map (unless_of of) world)
free_cleared of [] none = tt
free_cleared of (None ∷ world) none = free_cleared of world none
free_cleared of (Some object ∷ world) none = by_test (region_eq object.region of) (free_cleared of world none.1)
  where
    by_test : (b : Bool) → NoIsolateIn (map (unless_of of) world) → NoIsolateIn (cond b None (Some object) ∷ map (unless_of of) world)
    by_test true rest = rest
    by_test false rest = (none.0, rest)

-- ---- one call

may_lawful : (depth names : ℕ) (s : State) (call : Call) → MayCall depth s.regions names call → names ≤ length s.world → NoIsolateIn s.world → Lawful depth s call
may_lawful depth names s (Make kind values) may many none = all_given_more names (length s.world) values many may
may_lawful depth names s (Look name) may many none = omega (arith, may, many)
may_lawful depth names s (Change name values) may many none = (omega (arith, may.0, many), all_given_more names (length s.world) values many may.1)
may_lawful depth names s (End name) may many none = (omega (arith, may, many), λ object lives is. subst IsFreeze is (lives_free s.world name object none lives))
may_lawful depth names s FreezeIn may many none = may
may_lawful depth names s FreezeMerge may many none = may
may_lawful depth names s FreezeClear may many none = may
may_lawful depth names s (FreezeKeep name) may many none = absurd may
may_lawful depth names s (Merge name) may many none = absurd may

record After (s : State) (call : Call) (next : State) : Type 0 where
  regions : next.regions ≡ regions_after call s.regions
  names : length s.world ≤ length next.world
  none : NoIsolateIn next.world

-- the object of a region, by its values
abbrev object_of : Region → Kind → List Named → Object
object_of region kind values = record { region = region; kind = kind; values = map value_of values }

same_after : (s next : State) (call : Call) → regions_after call s.regions ≡ s.regions → NoIsolateIn s.world → next ≡ s → After s call next
same_after s next call stays none is = subst (After s call) (sym is) (record { regions = sym stays; names = omega arith; none = none })

after_call : (depth names : ℕ) (s next : State) (call : Call) (reply : Reply) → MayCall depth s.regions names call → Answers s call reply next → NoIsolateIn s.world → After s call next
after_call depth names s next (Make kind values) Made may is none = subst (After s (Make kind values)) (sym is) (record { regions = refl; names = omega (arith, length-append s.world (Some (object_of (Freeze (s.regions - 1)) kind values) ∷ [])); none = free_push s.world (object_of (Freeze (s.regions - 1)) kind values) none tt })
after_call depth names s next (Make kind values) NoPage may is none = same_after s next (Make kind values) refl none is
after_call depth names s next (Look name) (Alive kind) may is none = same_after s next (Look name) refl none is.3
after_call depth names s next (Look name) Dead may is none = same_after s next (Look name) refl none is.1
after_call depth names s next (Change name values) (Alive kind) may is none = subst (After s (Change name values)) (sym is.3) (record { regions = refl; names = omega (arith, length-set s.world name (Some (object_of is.0.region kind values))); none = free_written s.world name (object_of is.0.region kind values) none (lives_free s.world name is.0 none is.1) })
after_call depth names s next (Change name values) Dead may is none = same_after s next (Change name values) refl none is.1
after_call depth names s next (End name) (Alive kind) may is none = subst (After s (End name)) (sym is.3) (record { regions = refl; names = omega (arith, length-set s.world name None); none = free_died s.world name none })
after_call depth names s next (End name) Dead may is none = same_after s next (End name) refl none is.1
after_call depth names s next FreezeIn Done may is none = subst (After s FreezeIn) (sym is) (record { regions = refl; names = omega arith; none = none })
after_call depth names s next FreezeMerge Done may is none = subst (After s FreezeMerge) (sym is) (record { regions = refl; names = omega (arith, length-map s.world (moved (Freeze (s.regions - 1)) (Freeze (s.regions - 2)))); none = free_moved (Freeze (s.regions - 1)) (s.regions - 2) s.world none })
after_call depth names s next FreezeClear Done may is none = subst (After s FreezeClear) (sym is) (record { regions = refl; names = omega (arith, length-map s.world (unless_of (Freeze (s.regions - 1)))); none = free_cleared (Freeze (s.regions - 1)) s.world none })
after_call depth names s next (FreezeKeep name) reply may is none = absurd may
after_call depth names s next (Merge name) reply may is none = absurd may
after_call depth names s next _ _ may is none = absurd is

-- ---- a list of calls

all_lawful : (depth names : ℕ) (s : State) (calls : List Call) → MayCallAll depth s.regions names calls → names ≤ length s.world → NoIsolateIn s.world → AllLawful depth s calls
all_lawful depth names s [] may many none = tt
all_lawful depth names s (call ∷ calls) may many none = (
  may_lawful depth names s call may.0 many none,
  λ reply next is.
      let after = after_call depth names s next call reply may.0 is none in
      all_lawful depth names next calls (subst (λ r. MayCallAll depth r names calls) (sym after.regions) may.1) (omega (arith, many, after.names)) after.none,
)

last_after : (depth names : ℕ) (s last : State) (calls : List Call) (replies : List Reply) → MayCallAll depth s.regions names calls → NoIsolateIn s.world → AnswerAll s calls replies last → (last.regions ≡ all_after calls s.regions) × NoIsolateIn last.world
last_after depth names s last [] [] may none is = (ap (λ (x : State). x.regions) is, subst (λ (x : State). NoIsolateIn x.world) (sym is) none)
last_after depth names s last (call ∷ calls) (reply ∷ replies) may none is =
    let after = after_call depth names s is.0 call reply may.0 is.1 none in
    let rest = last_after depth names is.0 last calls replies (subst (λ r. MayCallAll depth r names calls) (sym after.regions) may.1) after.none is.2 in
    (rest.0 ∙ ap (all_after calls) after.regions, rest.1)
last_after depth names s last [] (reply ∷ replies) may none is = absurd is
last_after depth names s last (call ∷ calls) [] may none is = absurd is

-- ---- two lists, one after the other

module _ (heap : HeapState) (table : Plain) (places : List Place) (depth regions names : ℕ) (calls : List Call) (was : IsNamed heap table places depth regions) (few : names ≤ length places) (may : MayCallAll depth regions names calls) where
  may_here : MayCallAll depth was.state.regions names calls
  may_here = subst (λ r. MayCallAll depth r names calls) (sym was.open_regions) may

  lawful : AllLawful heap.depth was.state calls
  lawful = subst (λ d. AllLawful d was.state calls) (sym was.deep) (all_lawful depth names was.state calls may_here (omega (arith, few, was.tied.stands.at.as_many)) was.none)

  pub can_run : CanCallAll heap table places calls
  can_run = (was.state, was.tied, lawful)

  pub run_named : (new : HeapState) (new_table : Plain) (new_places : List Place) (replies : List Reply) → FollowAll heap new table new_table places new_places calls replies → new.depth ≡ heap.depth → IsNamed new new_table new_places depth (all_after calls regions)
  run_named new new_table new_places replies follow deep =
      let last = follow was.state was.tied lawful in
      let after = last_after depth names was.state last.0 calls replies may_here was.none last.1 in
      record {
        state = last.0;
        tied = last.2;
        open_regions = after.0 ∙ ap (all_after calls) was.open_regions;
        none = after.1;
        deep = deep ∙ was.deep;
      }

pub opened_named : (heap : HeapState) (table : Plain) (places : List Place) (depth : ℕ) → IsTied heap table places (record { world = []; regions = 1 }) → heap.depth ≡ depth → IsNamed heap table places depth 1
opened_named heap table places depth tied deep = record {
  state = record { world = []; regions = 1 };
  tied = tied;
  open_regions = refl;
  none = tt;
  deep = deep;
}
