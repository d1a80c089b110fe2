-- How a run goes on: ticks are only spent, pieces are only added, names are only given, and the dead stay dead.
use Rattle.std.specs.Prelude.{◌≡◌, ◌⊎◌, ℕ, ◌+◌, ◌≤◌, List, [], ◌∷◌, ◌++◌, Option, Some, None, slice_get}
use Rattle.vale_state_spec.specs.Outcome.{End, Cut}
use Rattle.vale_state_spec.specs.State.{State, Answer, gives, traps, fails}
use Rattle.vale_state_spec.specs.World.{Object}
use Rattle.vale_base.specs.declared.piece.Piece.{Piece}

-- each piece was printed no earlier than the one before it, from one number of spent ticks to another
abbrev pub StampsRise : ℕ → List Piece → ℕ → Type 0
StampsRise from [] to = from ≤ to
StampsRise from (p ∷ ps) to = (from ≤ p.tick) × StampsRise p.tick ps to

-- What a name stands for, later: a name that was never given may be given, a dead one stays dead, and that of a living object is
-- dead or has an object of the same kind.
abbrev pub NameProgresses : Option (Option Object) → Option (Option Object) → Type 0
NameProgresses None x = Unit {0}
NameProgresses (Some None) x = x ≡ Some None
NameProgresses (Some (Some o)) x = (x ≡ Some None) ⊎ ((p : Object) × (x ≡ Some (Some p)) × (p.kind ≡ o.kind))

-- a state that a run comes to from another
pub record Progresses (s t : State) : Type 0 where
  pub ticks : t.left + t.spent ≡ s.left + s.spent
  pub fewer : t.left ≤ s.left
  pub printed : List Piece
  pub pieces : t.pieces ≡ s.pieces ++ printed
  pub stamps : StampsRise s.spent printed t.spent
  pub names : (name : ℕ) → NameProgresses (slice_get s.world name) (slice_get t.world name)

-- a run is cut only where no tick is left
abbrev pub EndsRight : End → State → Type 0
EndsRight Cut s = s.left ≡ 0
EndsRight _ s = Unit {0}

-- a single step goes on from a state as runs do
abbrev pub StepGoesOn : State → Answer → Type 0
StepGoesOn s (gives v t) = Progresses s t
StepGoesOn s (traps kind) = Unit {0}
StepGoesOn s fails = Unit {0}

-- the second list begins with the first
abbrev pub Begins : List Piece → List Piece → Type 0
Begins ps qs = (more : List Piece) × (qs ≡ ps ++ more)
