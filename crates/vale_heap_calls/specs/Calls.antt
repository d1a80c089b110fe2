-- Calls of a heap by names, and what they answer of a heap of names.
use Rattle.std.specs.Prelude.{◌≡◌, ◌≢◌, ℕ, ◌-◌, ◌+◌, ◌<◌, List, [], ◌∷◌, length, map}
use Rattle.vale_state_spec.specs.World.{Value, Region, Freeze, Isolate, Object, World, Lives, IsDead, born, died, written, relabelled, cleared}
use Rattle.vale_state_spec.specs.World.{Int as int, Truth as truth, Text as text, Own as own, Ref as reference, Iso as isolate}
use Rattle.vale_heap_calls.specs.declared.call.Named.{Named}
use Rattle.vale_heap_calls.specs.declared.call.Named.TheVariants.{Int, Truth, Text, Own, Ref, Iso}
use Rattle.vale_heap_calls.specs.declared.call.Call.{Call}
use Rattle.vale_heap_calls.specs.declared.call.Call.TheVariants.{Make, Look, Change, End, FreezeIn, FreezeMerge, FreezeKeep, FreezeClear, Merge}
use Rattle.vale_heap_calls.specs.declared.call.Reply.{Reply}
use Rattle.vale_heap_calls.specs.declared.call.Reply.TheVariants.{Made, NoPage, Alive, Dead, Done}

abbrev pub value_of : Named → Value
value_of (Int i) = int i
value_of (Truth b) = truth b
value_of (Text t) = text t
value_of (Own name) = own name
value_of (Ref name) = reference name
value_of (Iso name) = isolate name

-- the value speaks of a name that was given
abbrev pub IsGiven : ℕ → Named → Type 0
IsGiven names (Own name) = name < names
IsGiven names (Ref name) = name < names
IsGiven names (Iso name) = name < names
IsGiven names _ = Unit {0}

abbrev pub AllGiven : ℕ → List Named → Type 0
AllGiven names [] = Unit {0}
AllGiven names (value ∷ values) = IsGiven names value × AllGiven names values

-- a heap of names, and how many regions are open
pub record State : Type 0 where
  pub world : World
  pub regions : ℕ

-- the innermost region
abbrev pub inner : State → Region
inner s = Freeze (s.regions - 1)

abbrev pub with_world : State → World → State
with_world s world = record s { world = world }

abbrev pub closed : State → World → State
closed s world = record { world = world; regions = s.regions - 1 }

-- the name was given
abbrev pub IsName : State → ℕ → Type 0
IsName s name = name < length s.world

-- a call that a caller may make, where `depth` regions may be open
abbrev pub Lawful : ℕ → State → Call → Type 0
Lawful depth s (Make kind values) = AllGiven (length s.world) values
Lawful depth s (Look name) = IsName s name
Lawful depth s (Change name values) = IsName s name × AllGiven (length s.world) values
Lawful depth s (End name) = IsName s name × ((object : Object) → Lives s.world name object → object.region ≢ Isolate name)
Lawful depth s FreezeIn = s.regions < depth
Lawful depth s FreezeMerge = 1 < s.regions
Lawful depth s (FreezeKeep name) = (1 < s.regions) × (object : Object) × Lives s.world name object × (object.region ≡ inner s)
Lawful depth s FreezeClear = 1 < s.regions
Lawful depth s (Merge name) = (object : Object) × Lives s.world name object × (object.region ≡ Isolate name)

-- what the heap of names answers, and what it is then
abbrev pub Answers : State → Call → Reply → State → Type 0
Answers s (Make kind values) Made next = next ≡ with_world s (born s.world (record { region = inner s; kind = kind; values = map value_of values }))
Answers s (Make kind values) NoPage next = next ≡ s
Answers s (Look name) (Alive kind) next = (object : Object) × Lives s.world name object × (object.kind ≡ kind) × (next ≡ s)
Answers s (Look name) Dead next = IsDead s.world name × (next ≡ s)
Answers s (Change name values) (Alive kind) next = (object : Object) × Lives s.world name object × (object.kind ≡ kind) × (next ≡ with_world s (written s.world name (record { region = object.region; kind = kind; values = map value_of values })))
Answers s (Change name values) Dead next = IsDead s.world name × (next ≡ s)
Answers s (End name) (Alive kind) next = (object : Object) × Lives s.world name object × (object.kind ≡ kind) × (next ≡ with_world s (died s.world name))
Answers s (End name) Dead next = IsDead s.world name × (next ≡ s)
Answers s FreezeIn Done next = next ≡ record s { regions = s.regions + 1 }
Answers s FreezeMerge Done next = next ≡ closed s (relabelled (inner s) (Freeze (s.regions - 2)) s.world)
Answers s (FreezeKeep name) Done next = next ≡ closed s (relabelled (inner s) (Isolate name) s.world)
Answers s FreezeClear Done next = next ≡ closed s (cleared (inner s) s.world)
Answers s (Merge name) Done next = next ≡ with_world s (relabelled (Isolate name) (inner s) s.world)
Answers s _ _ next = ⊥

-- each call may be made, whatever the calls before it answered
abbrev pub AllLawful : ℕ → State → List Call → Type 0
AllLawful depth s [] = Unit {0}
AllLawful depth s (call ∷ calls) = Lawful depth s call × ((reply : Reply) (next : State) → Answers s call reply next → AllLawful depth next calls)

-- the heap of names answers these calls so, one after the other
abbrev pub AnswerAll : State → List Call → List Reply → State → Type 0
AnswerAll s [] [] last = last ≡ s
AnswerAll s (call ∷ calls) (reply ∷ replies) last = (next : State) × Answers s call reply next × AnswerAll next calls replies last
AnswerAll s [] (reply ∷ replies) last = ⊥
AnswerAll s (call ∷ calls) [] last = ⊥
