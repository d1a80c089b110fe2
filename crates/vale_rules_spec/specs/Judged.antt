-- What is judged of a part of a program: the one form of the phases that refuse (declarations, types, ownership, regions,
-- isolates).
--
-- A node has a row: its rules, each with its code. The node is faulty, with the lowest code whose rule is broken. A part
-- of a program has all the faults of its nodes in post-order, and a phase refuses at the first of them.
use Rattle.std.specs.Prelude.{◌≡◌, ℕ, Bool, not, ◌||◌, List, [], ◌∷◌, ◌++◌, Option, Some, None, Result, Ok, Err, if◌then◌else◌}
use Rattle.vale_base.specs.declared.spot.Spot.{Spot}
use Rattle.vale_syntax.specs.declared.fault.Fault.{Fault}
use Rattle.vale_base.specs.declared.fault.Fail.{Fail}
use Rattle.vale_base.specs.declared.fault.Fail.TheVariants.{Memory, Is}

-- ---- rows

-- the rules of a node, each with its code and whether it is kept, in rising order of the codes
abbrev pub Rules : Type 0
Rules = List (ℕ × Bool)

-- the codes of a row
abbrev pub codes_of : Rules → List ℕ
codes_of [] = []
codes_of (rule ∷ rules) = rule.0 ∷ codes_of rules

-- a rule that is asked only where another holds
infixr 3 ◌⇒◌
abbrev pub ◌⇒◌ : Bool → Bool → Bool
a ⇒ b = not a || b

-- the lowest code whose rule is broken
abbrev pub broken : Rules → Option ℕ
broken [] = None
broken (rule ∷ rules) = if rule.1 then broken rules else Some rule.0

-- ---- parts from which nothing but faults comes up

abbrev pub fault_of : Spot → Option ℕ → List Fault
fault_of at None = []
fault_of at (Some code) = record { code = code; at = at } ∷ []

-- the fault of a node by itself, at its spot
abbrev pub own : Spot → Rules → List Fault
own at rules = fault_of at (broken rules)

-- this where there are no faults, else the first of them
abbrev pub stopped : {A : Type 0} → List Fault → A → Result A Fault
stopped [] a = Ok a
stopped (f ∷ fs) a = Err f

-- the faults of parts that stand one after another, each judged with those before it, the last of them first
abbrev pub one_by_one : {X : Type 0} → (List X → X → List Fault) → List X → List X → List Fault
one_by_one judge before [] = []
one_by_one judge before (x ∷ xs) = judge before x ++ one_by_one judge (x ∷ before) xs

-- ---- parts that are something where they have no fault

-- what a part is, or all its faults in post-order, of which there is at least one
pub data Judged (A : Type 0) : Type 0 where
  fine : A → Judged A
  faulty : Fault → List Fault → Judged A

abbrev pub faults : {A : Type 0} → Judged A → List Fault
faults (fine a) = []
faults (faulty f fs) = f ∷ fs

-- what a part is where these are its faults
abbrev pub unless : {A : Type 0} → List Fault → A → Judged A
unless [] a = fine a
unless (f ∷ fs) a = faulty f fs

-- two parts, one after the other
abbrev pub both : {A B : Type 0} → Judged A → Judged B → Judged (A × B)
both (fine a) (fine b) = fine (a, b)
both (fine a) (faulty g gs) = faulty g gs
both (faulty f fs) k = faulty f (fs ++ faults k)

-- a node over its parts: where they have no fault its own rules are asked
abbrev pub node : {A B : Type 0} → Spot → (A → Rules) → (A → B) → Judged A → Judged B
node at rules make (fine a) = unless (own at (rules a)) (make a)
node at rules make (faulty f fs) = faulty f fs

-- a node without parts
abbrev pub leaf : {B : Type 0} → Spot → Rules → B → Judged B
leaf at rules b = unless (own at rules) b

-- a node with no rule
abbrev pub plain : {A B : Type 0} → (A → B) → Judged A → Judged B
plain make (fine a) = fine (make a)
plain make (faulty f fs) = faulty f fs

-- a part that depends on what the part before it is; where that has a fault nothing is known of it
abbrev pub scoped : {A B : Type 0} → Judged A → (A → Judged B) → Judged (A × B)
scoped (fine a) k = both (fine a) (k a)
scoped (faulty f fs) k = faulty f fs

-- ---- what a phase answers

-- what it is, or the first fault
abbrev pub first : {A : Type 0} → Judged A → Result A Fault
first (fine a) = Ok a
first (faulty f fs) = Err f

abbrev pub IsFine : {A : Type 0} → Judged A → A → Type 0
IsFine j a = j ≡ fine a

abbrev pub first_of : List Fault → Option Fault
first_of [] = None
first_of (f ∷ fs) = Some f

-- the first faulty node in post-order, with the lowest code there
abbrev pub IsFirstFault : {A : Type 0} → Judged A → Fault → Type 0
IsFirstFault j f = first_of (faults j) ≡ Some f

-- what a call answers, seen by the view, is this; nothing is said of want of memory
abbrev pub Gives : {X A : Type 0} → (X → A) → Result X (Fail Fault) → Result A Fault → Type 0
Gives view (Ok x) answer = answer ≡ Ok (view x)
Gives view (Err Memory) answer = Unit {0}
Gives view (Err (Is f)) answer = answer ≡ Err f
