-- How a part of a program runs: under the calls that are under way, with the locals in scope and the state of the run.
use Rattle.std.specs.Prelude.{ℕ, Bool, true, false, ◌==◌, List, [], ◌∷◌, Option, Some, None, if◌then◌else◌}
use Rattle.vale_state_spec.specs.Outcome.{End, Cut, Wrong}
use Rattle.vale_state_spec.specs.State.{State, Calls, Answer, gives, traps, fails, spend, has_depth, trap_under, lent}
use Rattle.vale_state_spec.specs.World.{Value, Truth}
use Rattle.vale_base.specs.declared.spot.Spot.{Spot}
use Rattle.vale_base.specs.declared.trap.FrameAt.{FrameAt}
use Rattle.vale_base.specs.declared.trap.TrapKind.{TrapKind}
use Rattle.vale_base.specs.declared.trap.TrapKind.TheVariants.{CallDepth}

-- A local by its name, what it holds (nothing, once it has been moved), and whether its type is that of an owner or an isolate. A
-- value that waits for the rest of its expression is a local without a name.
pub record Local : Type 0 where
  pub name : Option ℕ
  pub value : Option Value
  pub owned : Bool

-- the innermost first
abbrev pub Locals : Type 0
Locals = List Local

-- how far a part came: it goes on with what it gives; the function returned, and its locals are dropped; or the run ended
pub data Result (A : Type 0) : Type 0 where
  goes : A → Locals → State → Result A
  returned : Option Value → State → Result A
  ended : End → State → Result A

abbrev pub Run : Type 0 → Type 0
Run A = Calls → Locals → State → Result A

abbrev pub then_do : {A B : Type 0} → Result A → (A → Locals → State → Result B) → Result B
then_do (goes v l s) go = go v l s
then_do (returned v s) go = returned v s
then_do (ended end s) go = ended end s

-- one part and then another, which gets what the first gave
infixr 1 ◌>>=◌
abbrev pub ◌>>=◌ : {A B : Type 0} → Run A → (A → Run B) → Run B
m >>= k = λ calls l s. then_do (m calls l s) (λ v. k v calls)

-- ---- single steps

abbrev pub give : {A : Type 0} → A → Run A
give v = λ calls l s. goes v l s

-- no value
abbrev pub nothing : Run (Option Value)
nothing = give None

-- no rule gives a next step
abbrev pub wrong : {A : Type 0} → Run A
wrong = λ calls l s. ended Wrong s

abbrev pub trap : {A : Type 0} → TrapKind → Spot → Run A
trap kind at = λ calls l s. ended (trap_under kind at calls) s

abbrev pub answered : Spot → Answer → Run (Option Value)
answered at (gives v t) = λ calls l s. goes v l t
answered at (traps kind) = trap kind at
answered at fails = wrong

-- a step that may trap, at this spot
abbrev pub step : Spot → (State → Answer) → Run (Option Value)
step at f = λ calls l s. answered at (f s) calls l s

abbrev pub change : (State → State) → Run (Unit {0})
change f = λ calls l s. goes tt l (f s)

abbrev pub ticked : Option State → Run (Unit {0})
ticked None = λ calls l s. ended Cut s
ticked (Some t) = λ calls l s. goes tt l t

-- a tick is spent, or the run is cut
abbrev pub tick : Run (Unit {0})
tick = λ calls l s. ticked (spend s) calls l s

-- so many more functions, destructions, freezes or iterations come under way, or the run traps at this spot
abbrev pub deep : ℕ → Spot → Run (Unit {0})
deep more at = λ calls l s. if has_depth more calls s then goes tt l s else trap CallDepth at calls l s

-- with one more call under way
abbrev pub under : {A : Type 0} → FrameAt → Run A → Run A
under frame m = λ calls. m (frame ∷ calls)

abbrev pub the_value : Option Value → Run Value
the_value None = wrong
the_value (Some v) = give v

-- the value that the part gives
abbrev pub valued : Run (Option Value) → Run Value
valued m = do
  v ← m
  the_value v

abbrev pub choose : {A : Type 0} → Value → Run A → Run A → Run A
choose (Truth true) a b = a
choose (Truth false) a b = b
choose _ a b = wrong

-- ---- locals

abbrev pub has_name : ℕ → Option ℕ → Bool
has_name n None = false
has_name n (Some m) = m == n

-- what a local holds
abbrev pub held_by : ℕ → Locals → Option Value
held_by n [] = None
held_by n (x ∷ l) = if has_name n x.name then x.value else held_by n l

abbrev pub with_held : ℕ → Option Value → Locals → Locals
with_held n v [] = []
with_held n v (x ∷ l) = if has_name n x.name then record x { value = v } ∷ l else x ∷ with_held n v l

-- what a local holds, or a reference where it is an owner or an isolate; it stays
abbrev pub read : ℕ → Run Value
read n = λ calls l s. (the_value (held_by n l) >>= λ v. give (lent v)) calls l s

-- an owner or an isolate leaves its local
abbrev pub move : ℕ → Run Value
move n = λ calls l s. then_do (the_value (held_by n l) calls l s) (λ v l s. goes v (with_held n None l) s)

-- the local holds this value, and what it held comes out
abbrev pub exchange : ℕ → Value → Run Value
exchange n new = λ calls l s. then_do (the_value (held_by n l) calls l s) (λ v l s. goes v (with_held n (Some new) l) s)

abbrev pub outer : Locals → Locals
outer [] = []
outer (x ∷ l) = l

abbrev pub innermost : Locals → Option Value
innermost [] = None
innermost (x ∷ l) = x.value

-- a value waits while the part runs
abbrev pub while_waits : {A : Type 0} → Bool → Value → Run A → Run A
while_waits owned v m = λ calls l s. then_do (m calls (record { name = None; value = Some v; owned = owned } ∷ l) s) (λ r l s. goes r (outer l) s)
