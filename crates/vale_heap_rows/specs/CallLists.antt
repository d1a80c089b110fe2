-- Lists of calls that may be made whatever they answer, where no object is an isolate's.
use Rattle.std.specs.Prelude.{◌≡◌, ℕ, ◌+◌, ◌-◌, ◌<◌, List, [], ◌∷◌, Some, None}
use Rattle.vale_state_spec.specs.World.{Region, Freeze, Isolate, World}
use Rattle.vale_table.specs.Plain.{Plain}
use Rattle.vale_heap.specs.declared.body.Place.{Place}
use Rattle.vale_heap.specs.HeapState.{HeapState}
use Rattle.vale_heap_calls.specs.declared.call.Call.{Call}
use Rattle.vale_heap_calls.specs.declared.call.Call.TheVariants.{Make, Look, Change, End, FreezeIn, FreezeMerge, FreezeClear}
use Rattle.vale_heap_calls.specs.Calls.{AllGiven, State}
use Rattle.vale_heap_calls.specs.Tied.{IsTied}

-- how many regions are open after a call
abbrev pub regions_after : Call → ℕ → ℕ
regions_after FreezeIn regions = regions + 1
regions_after FreezeMerge regions = regions - 1
regions_after FreezeClear regions = regions - 1
regions_after _ regions = regions

abbrev pub all_after : List Call → ℕ → ℕ
all_after [] regions = regions
all_after (call ∷ calls) regions = all_after calls (regions_after call regions)

-- the call may be made where so many regions are open and so many names were given, or more
abbrev pub MayCall : ℕ → ℕ → ℕ → Call → Type 0
MayCall depth regions names (Make kind values) = AllGiven names values
MayCall depth regions names (Look name) = name < names
MayCall depth regions names (Change name values) = (name < names) × AllGiven names values
MayCall depth regions names (End name) = name < names
MayCall depth regions names FreezeIn = regions < depth
MayCall depth regions names FreezeMerge = 1 < regions
MayCall depth regions names FreezeClear = 1 < regions
MayCall depth regions names _ = ⊥

abbrev pub MayCallAll : ℕ → ℕ → ℕ → List Call → Type 0
MayCallAll depth regions names [] = Unit {0}
MayCallAll depth regions names (call ∷ calls) = MayCall depth regions names call × MayCallAll depth (regions_after call regions) names calls

abbrev pub IsFreeze : Region → Type 0
IsFreeze (Freeze depth) = Unit {0}
IsFreeze (Isolate name) = ⊥

-- no object is of an isolate
abbrev pub NoIsolateIn : World → Type 0
NoIsolateIn [] = Unit {0}
NoIsolateIn (None ∷ world) = NoIsolateIn world
NoIsolateIn (Some object ∷ world) = IsFreeze object.region × NoIsolateIn world

-- a heap of names without isolates is stood for
pub record IsNamed (heap : HeapState) (table : Plain) (places : List Place) (depth regions : ℕ) : Type 0 where
  pub state : State
  pub tied : IsTied heap table places state
  pub open_regions : state.regions ≡ regions
  pub none : NoIsolateIn state.world
  pub deep : heap.depth ≡ depth
