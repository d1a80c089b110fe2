-- A run with objects, as a configuration of the code's meaning, while its innermost function goes on.
use Rattle.std.specs.Prelude.{◌≡◌, ℕ, ◌∷◌, None, Some, Bool, slice_get}
use Rattle.vale_state_spec.specs.Outcome.{Cut}
use Rattle.vale_code.specs.Frames.{Config, Over, Running, trap}
use Rattle.vale_code.specs.Instructions.{fetch}
use Rattle.vale_code.specs.Parts.{Parts}
use Rattle.vale_code.specs.Run.{last_state, step}
use Rattle.vale_code.specs.declared.func.Func.{Func}
use Rattle.vale_code.specs.declared.instr.Instr.{Instr}
use Rattle.vale_heap.specs.HeapState.{HeapState}
use Rattle.vale_heap.specs.Standing.{LowIsFloor}
use Rattle.vale_turn.specs.View.{Leads}
use Rattle.vale_turn.specs.declared.stop.Stop.{Stop}
use Rattle.vale_turn.specs.declared.stop.Stop.TheVariants as stop
use Rattle.vale_object_steps.specs.Views.{Grows, View}
use Rattle.vale_object_turn.specs.Steps.{Scene}
use Rattle.vale_object_stretch.specs.Sound.{IsSound}
use Rattle.vale_object_stretch.specs.Stretch.{AreFit, IsSteady, Leaving, LedTo}
use Rattle.vale_object_frames.specs.Frames.{call_of}
use Rattle.vale_object_flow.specs.Flow.{Runs, active, all_frames, below, row_of}
use Rattle.vale_object_flow.specs.declared.control.Control.{Control}

-- each function's instructions fit its registers
pub record AllFit (code : Parts) : Type 0 where
  pub fit : (function : ℕ) (func : Func) → slice_get code.funcs function ≡ Some func → AreFit code function func.registers

-- the configuration that a run is in, where names have places
abbrev pub config_of : Parts → View → Control → Config
config_of code v c = record { top = Running (active code v c); below = below code v c; state = v.state }

-- what is around the innermost function
abbrev pub scene_of : Parts → View → Control → Scene
scene_of code v c = record { code = code; last = last_state code; function = c.top.function; call = call_of code c.top; dest = c.top.dest; below = below code v c }

-- A function is the innermost; heap and frames stand for these names and this state, and the run is sound from here on.
pub record IsUnderWay (code : Parts) (out : ℕ → Bool) (floors : ℕ → ℕ) (v : View) (heap : HeapState) (c : Control) (left : ℕ) : Type 0 where
  pub low : LowIsFloor v.low out floors
  pub runs : Runs code v heap (all_frames c) c.texts (row_of c) left
  pub sound : IsSound code (config_of code v c)

-- the same frames, where the innermost function has come to another place
pub record IsSameBut (old new : Control) : Type 0 where
  pub end : new.end ≡ old.end
  pub below : new.below ≡ old.below
  pub top : new.top ≡ record (old.top) { place = new.top.place }

-- steps lead from a configuration to where the innermost function goes on
pub record Led (code : Parts) (v : View) (c : Config) (heap : HeapState) (new : Control) (left : ℕ) : Type 0 where
  pub view : View
  pub grows : Grows v view
  pub runs : Runs code view heap (all_frames new) new.texts (row_of new) left
  pub steady : IsSteady v.state view.state
  pub leads : Leads code c (config_of code view new)

-- why a stretch ends, and where
abbrev pub Ended : Parts → View → Config → Stop → HeapState → Control → ℕ → Type 0
Ended code v c stop.Going heap new left = ⊥
Ended code v c (stop.Trap kind at) heap new left = (d : Config) × LedTo code v c d left × (step code d ≡ trap kind at (d.top ∷ d.below) d.state)
Ended code v c stop.Cut heap new left = (d : Config) × LedTo code v c d left × (step code d ≡ Over Cut None d.state)
Ended code v c told heap new left = Led code v c heap new left × ((instr : Instr) × (fetch code new.top.function new.top.place ≡ Some instr) × Leaving told instr)
