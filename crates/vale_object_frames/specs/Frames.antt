-- Frames as those of the code's meaning, where names have places.
use Rattle.std.specs.Prelude.{◌≡◌, ℕ, zero, suc, ◌+◌, ◌<◌, List, [], ◌∷◌, ◌++◌, take, drop, map, Option, Some, None, slice_get, codes}
use Rattle.std.specs.List.{AllByRecursion}
use Rattle.vale_base.specs.declared.trap.FrameAt.{FrameAt}
use Rattle.vale_state_spec.specs.State.{drop_frame}
use Rattle.vale_code.specs.Frames as meaning
use Rattle.vale_code.specs.Kinds.{kind_text, text_at}
use Rattle.vale_code.specs.Parts.{Parts}
use Rattle.vale_code.specs.Registers.{Registers}
use Rattle.vale_code.specs.declared.func.Func.{Func}
use Rattle.vale_code.specs.declared.ty.Ty.{Ty}
use Rattle.vale_code.specs.declared.ty.Ty.TheVariants as t
use Rattle.vale_heap.specs.declared.body.Place.{Place}
use Rattle.vale_object_cells.specs.Cells.{cells_from}
use Rattle.vale_object_cells.specs.Names.{AllKnown, Knows, value_of, values_in}
use Rattle.vale_object_cells.specs.declared.register.Register.{Register}
use Rattle.vale_object_frames.specs.Stacks.{rest_of}
use Rattle.vale_object_frames.specs.declared.frame.Active.{Active}
use Rattle.vale_object_frames.specs.declared.frame.Frame.{Frame}
use Rattle.vale_object_frames.specs.declared.frame.Frame.TheVariants as frame
use Rattle.vale_object_frames.specs.declared.frame.Leftover.{Leftover}

-- what a trap tells of a destructor: the destruction of its parameter's kind
abbrev pub dropped_text : Parts → List Ty → List ℕ
dropped_text code (t.Own kind ∷ []) = codes "drop " ++ kind_text code kind
dropped_text code _ = []

-- what a trap tells of a function, by its form
abbrev pub told_of : Parts → ℕ → Func → List ℕ
told_of code (suc (suc (suc zero))) func = dropped_text code func.params
told_of code _ func = text_at code func.name

abbrev pub name_in : Parts → Option Func → List ℕ
name_in code None = []
name_in code (Some func) = told_of code func.form func

-- the call of a function, which has its name
abbrev pub call_of : Parts → Active → FrameAt
call_of code a = record { what = name_in code (slice_get code.funcs a.function); at = a.at }

abbrev pub active_of : Parts → Active → Registers → meaning.Active
active_of code a registers = record { call = call_of code a; function = a.function; dest = a.dest; place = a.place; registers = registers }

abbrev pub emptying_of : Parts → List Place → Leftover → meaning.Emptying
emptying_of code names l = record { call = drop_frame (kind_text code l.kind) l.at; rest = map (value_of names) (rest_of l) }

-- Frames, the innermost first. The registers of their functions lie in this row, and each function has those from its base on to
-- the next function's.
abbrev pub frames_in : Parts → List Place → List Frame → List (List ℕ) → List Register → List meaning.Frame
frames_in code names [] texts row = []
frames_in code names (frame.Running a ∷ fs) texts row =
    meaning.Running (active_of code a (values_in names (cells_from a.base texts (drop a.base row)))) ∷ frames_in code names fs texts (take a.base row)
frames_in code names (frame.Dropping l ∷ fs) texts row = meaning.Dropping (emptying_of code names l) ∷ frames_in code names fs texts row

-- what the frames lead to has names
abbrev pub AreKnown : List Place → List Frame → List (List ℕ) → List Register → Type 0
AreKnown names [] texts row = Unit {0}
AreKnown names (frame.Running a ∷ fs) texts row = AllKnown names (cells_from a.base texts (drop a.base row)) × AreKnown names fs texts (take a.base row)
AreKnown names (frame.Dropping l ∷ fs) texts row = AllByRecursion (λ c. Knows names (Some c)) (rest_of l) × AreKnown names fs texts row

-- no freeze begins with the function: it is a plain one or a destructor
abbrev pub IsPlain : ℕ → Type 0
IsPlain zero = Unit {0}
IsPlain (suc (suc (suc zero))) = Unit {0}
IsPlain _ = ⊥

-- a function's registers are the last of so many
pub record IsPlaced (code : Parts) (function base count : ℕ) : Type 0 where
  pub func : Func
  pub found : slice_get code.funcs function ≡ Some func
  pub plain : IsPlain func.form
  pub size : base + func.registers ≡ count

-- the function under a base has a register for a value
abbrev pub HasRoom : Option ℕ → ℕ → List Frame → Type 0
HasRoom None base fs = Unit {0}
HasRoom (Some to) base [] = Unit {0}
HasRoom (Some to) base (frame.Running a ∷ fs) = a.base + to < base
HasRoom (Some to) base (frame.Dropping l ∷ fs) = Unit {0}

-- functions lie one on the other in so many registers
abbrev pub Lie : Parts → List Frame → ℕ → Type 0
Lie code [] count = Unit {0}
Lie code (frame.Running a ∷ fs) count = IsPlaced code a.function a.base count × HasRoom a.dest a.base fs × Lie code fs a.base
Lie code (frame.Dropping l ∷ fs) count = Lie code fs count
