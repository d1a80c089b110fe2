-- The invariant of a whole configuration: all that its frames hold, at once, and how deep each frame lies.
use Rattle.std.specs.Prelude.{◌≡◌, ◌≤◌, ℕ, suc, List, [], ◌∷◌, Option, Some, None, slice_get}
use Rattle.vale_state_spec.specs.World.{Value}
use Rattle.vale_code.specs.Enter.{Form, Plain, Pure, Iteration, Destructor, form_of}
use Rattle.vale_code.specs.Frames.{Frame, Running, Dropping, Looping, Alone, Config, Next, On, Over}
use Rattle.vale_code.specs.Parts.{Parts}
use Rattle.vale_code.specs.declared.func.Func.{Func}
use Rattle.vale_region_laws.specs.Holding.{Marked, in_frame, in_frames, held_as}
use Rattle.vale_region_laws.specs.Regions.{Each, Homes, How, Held, Seen, Waits, Holder, Fits, scene}

-- ---- how deep holders may lie below a frame of base b, which comes back to depth r

abbrev pub IsUnder : ℕ → ℕ → How → Type 0
IsUnder r b (Held a) = a ≤ r
IsUnder r b (Seen a) = a ≤ b
IsUnder r b Waits = Unit {0}

abbrev pub Standing : ℕ → ℕ → List Holder → Type 0
Standing r b hs = Each (λ h. IsUnder r b h.how) hs

abbrev pub MarkUnder : ℕ → ℕ → Option How → Type 0
MarkUnder r b None = Unit {0}
MarkUnder r b (Some how) = IsUnder r b how

-- ---- frames

-- the base of a function of this form, which comes back to depth r
abbrev pub base_of : Form → ℕ → ℕ
base_of Plain r = r
base_of Destructor r = r
base_of Pure r = suc r
base_of Iteration r = suc r

abbrev pub form_in : Option Func → Option Form
form_in None = None
form_in (Some func) = form_of func.form

-- the form of a function
abbrev pub form_at : Parts → ℕ → Option Form
form_at code f = form_in (slice_get code.funcs f)

-- Frames that go on at depth r, below a frame of base b. Marked depths are those of the frames at the top.
abbrev pub StackFits : Parts → ℕ → ℕ → List Marked → List Frame → Type 0
StackFits code r b [] [] = Unit {0}
StackFits code r b [] (f ∷ fs) = ⊥
StackFits code r b (m ∷ ms) [] = ⊥
StackFits code r b (m ∷ ms) (Running f ∷ fs) =
    (m.depth ≡ r) × Each (MarkUnder r r) m.marks × (form : Form) × (out : ℕ) × (form_at code f.function ≡ Some form) × (base_of form out ≤ r) × (r ≤ b) × StackFits code out (base_of form out) ms fs
StackFits code r b (m ∷ ms) (Dropping f ∷ fs) = (m.depth ≡ r) × (r ≤ b) × StackFits code r r ms fs
StackFits code r b (m ∷ ms) (Looping f ∷ fs) = (m.depth ≡ r) × (suc r ≤ b) × StackFits code r r ms fs
StackFits code r b (m ∷ ms) (Alone v ∷ fs) = (m.depth ≡ r) × (r ≤ b) × StackFits code r r ms fs

-- a configuration whose top is marked so
abbrev pub TopFits : Parts → Marked → List Marked → Frame → List Frame → ℕ → Type 0
TopFits code m ms (Running f) fs c =
    Each (MarkUnder c c) m.marks × (form : Form) × (out : ℕ) × (form_at code f.function ≡ Some form) × (base_of form out ≤ c) × StackFits code out (base_of form out) ms fs
TopFits code m ms (Dropping f) fs c = StackFits code c c ms fs
TopFits code m ms (Looping f) fs c = StackFits code c c ms fs
TopFits code m ms (Alone v) fs c = StackFits code c c ms fs

pub record ConfigFits (code : Parts) (d : Config) : Type 0 where
  pub home : Homes
  pub top : Marked
  pub marks : List Marked
  pub depth : top.depth ≡ d.state.regions
  pub stack : TopFits code top marks d.top d.below d.state.regions
  pub fits : Fits (scene home (in_frame top d.top (in_frames marks d.below)) d.state.world d.state.regions)

abbrev pub NextFits : Parts → Next → Type 0
NextFits code (On d) = ConfigFits code d
NextFits code (Over end v s) = Unit {0}

-- ---- arguments

abbrev pub in_args : List How → List Value → List Holder → List Holder
in_args [] vs hs = hs
in_args (p ∷ ps) [] hs = hs
in_args (p ∷ ps) (v ∷ vs) hs = held_as p v ∷ in_args ps vs hs

-- what waits arrives at this depth
abbrev pub arrived : ℕ → How → How
arrived d (Held a) = Held a
arrived d (Seen a) = Seen a
arrived d Waits = Held d
