-- The locals and waiting values in scope, each in a register of its own, and which of them have been moved.
use Rattle.std.specs.Prelude.{ℕ, ◌+◌, Bool, true, false, ◌&&◌, ◌==◌, List, [], ◌∷◌, Option, Some, None, if◌then◌else◌}
use Rattle.vale_rules_spec.specs.Types.{Ty, is_void, is_owned}
use Rattle.vale_rules_spec.specs.Typed.{Function}
use Rattle.vale_model.specs.Parts.{Parts}
use Rattle.vale_model.specs.Runs as local

-- what a part gives: nothing; a value that is no owner and no isolate; an owner or an isolate
pub data Gives : Type 0 where
  void : Gives
  copy : Gives
  owner : Gives

abbrev pub gives_of : Ty → Gives
gives_of x = if is_void x then void else (if is_owned x then owner else copy)

abbrev pub is_value : Gives → Bool
is_value void = false
is_value copy = true
is_value owner = true

abbrev pub is_owner : Gives → Bool
is_owner owner = true
is_owner _ = false

abbrev pub agree : Gives → Gives → Bool
agree void void = true
agree copy copy = true
agree owner owner = true
agree _ _ = false

-- a local, or a value that waits for the rest of its expression: its register, and whether it is an owner or an isolate
pub record Entry : Type 0 where
  pub name : Option ℕ
  pub register : ℕ
  pub owned : Bool

-- the innermost first; the registers rise from the outermost on
abbrev pub Scope : Type 0
Scope = List Entry

abbrev pub entry : ℕ → ℕ → Gives → Entry
entry n r gives = record { name = Some n; register = r; owned = is_owner gives }

abbrev pub waiting : ℕ → Gives → Entry
waiting r gives = record { name = None; register = r; owned = is_owner gives }

-- the local of a name
abbrev pub find : ℕ → Scope → Option Entry
find n [] = None
find n (x ∷ s) = if local.has_name n x.name then Some x else find n s

-- ---- moves

-- The registers whose owners have been moved: they are empty. The scope stays as it is while a part runs, and this changes.
abbrev pub Gone : Type 0
Gone = List ℕ

abbrev pub is_gone : ℕ → Gone → Bool
is_gone r [] = false
is_gone r (q ∷ g) = if q == r then true else is_gone r g

-- a register gets a value
abbrev pub without : ℕ → Gone → Gone
without r [] = []
without r (q ∷ g) = if q == r then without r g else q ∷ without r g

abbrev pub same_truth : Bool → Bool → Bool
same_truth true b = b
same_truth false true = false
same_truth false false = true

-- two ways have moved the same locals of the scope
abbrev pub same_gone : Scope → Gone → Gone → Bool
same_gone [] g g' = true
same_gone (x ∷ s) g g' = same_truth (is_gone x.register g) (is_gone x.register g') && same_gone s g g'

-- What is gone after a part, and whether a run comes there: none does after a part that always returns.
pub data After : Type 0 where
  comes : Gone → After
  never : Gone → After

abbrev pub no_run : After → After
no_run (comes g) = never g
no_run (never g) = never g

abbrev pub then_after : After → (Gone → After) → After
then_after (comes g) f = f g
then_after (never g) f = no_run (f g)

-- two ways meet, which were one before
abbrev pub met : Gone → After → After → After
met before (comes g) b = comes g
met before (never g) (comes g') = comes g'
met before (never g) (never g') = never before

abbrev pub may_meet : Scope → After → After → Bool
may_meet s (comes g) (comes g') = same_gone s g g'
may_meet s (comes g) (never g') = true
may_meet s (never g) b = true

-- where a run comes back, it has moved nothing
abbrev pub closes : Scope → Gone → After → Bool
closes s g (comes g') = same_gone s g g'
closes s g (never g') = true

-- the parameters have the first registers, in order
abbrev pub parameters : ℕ → List ℕ → List Gives → Scope → Scope
parameters r (n ∷ ns) (q ∷ qs) s = parameters (r + 1) ns qs (entry n r q ∷ s)
parameters r _ _ s = s

abbrev pub all_agree : List Gives → List Gives → Bool
all_agree [] [] = true
all_agree (q ∷ qs) (r ∷ rs) = agree q r && all_agree qs rs
all_agree _ _ = false

-- the program's parts, the texts of the code, the functions of the program, and what the function that is lowered gives
pub record Around : Type 0 where
  pub parts : Parts
  pub texts : List (List ℕ)
  pub functions : List Function
  pub gives : Gives
