-- A machine whose run goes on, and what a turn of it comes to.
use Rattle.std.specs.Prelude.{◌≡◌, ℕ, ◌≤◌, List, Option, Some, None}
use Rattle.vale_state_spec.specs.Outcome.{Done, Trap, Cut}
use Rattle.vale_state_spec.specs.State.{State}
use Rattle.vale_state_spec.specs.World.{Value}
use Rattle.vale_base.specs.declared.piece.Piece.{Piece}
use Rattle.vale_code.specs.Frames.{Config, Next, On, Over}
use Rattle.vale_code.specs.Instructions.{fetch}
use Rattle.vale_code.specs.Parts.{Parts}
use Rattle.vale_code.specs.Run.{state_in, step}
use Rattle.vale_text.specs.Progress.{Begins}
use Rattle.vale_code.specs.declared.instr.Instr.{Instr}
use Rattle.vale_turn.specs.View.{EndsBy, IsSafe, Leads}
use Rattle.vale_turn.specs.declared.stop.Stop.{Stop}
use Rattle.vale_turn.specs.declared.stop.Stop.TheVariants as stop
use Rattle.vale_machine.specs.Lawful.{IsRunnable}
use Rattle.vale_machine.specs.View.{IsLaid, KeepsPieces, Stepped, config_of, own_cells, scene_of, state_of}
use Rattle.vale_machine.specs.declared.machine.Machine.{Machine}
use Rattle.vale_machine.specs.declared.machine.Step.{Step}
use Rattle.vale_machine.specs.declared.machine.Step.TheVariants as told
use Rattle.vale_machine.specs.declared.turn.End.{End}
use Rattle.vale_machine.specs.declared.turn.End.TheVariants as end
use Rattle.vale_machine.specs.declared.turn.Turn.{Turn}
use Rattle.vale_machine.specs.declared.turn.Turn.TheVariants as turn

-- The machine was started with this code, which is certified, these pieces were taken, and its run hasn't ended.
pub record IsUnderWay (code : Parts) (taken : List Piece) (m : Machine) : Type 0 where
  pub runnable : IsRunnable code
  pub laid : IsLaid code m
  pub ticks : m.left ≤ m.given
  pub safe : IsSafe code (config_of code taken m)

-- the same, whatever was taken
abbrev pub IsRunning : Parts → Machine → Type 0
IsRunning code m = (taken : List Piece) × IsUnderWay code taken m

-- a stretch ended so at the machine
abbrev pub EndsSo : Parts → Stop → Machine → Type 0
EndsSo code stop m = (taken : List Piece) → EndsBy code m.top.function (scene_of code taken m) stop m.top.place (own_cells m) m.left

-- one instruction: its step leads on, or the machine stands where it stood, and a stretch ends there
abbrev pub TookOne : Parts → List Piece → Stop → Machine → Machine → Type 0
TookOne code taken stop.Going old new = step code (config_of code taken old) ≡ On (config_of code taken new)
TookOne code taken t old new = EndsBy code new.top.function (scene_of code taken new) t new.top.place (own_cells new) new.left × (config_of code taken new ≡ config_of code taken old)

-- a function has an instruction at a place
abbrev pub IsFetched : Parts → ℕ → ℕ → Type 0
IsFetched code function place = (instr : Instr) × (fetch code function place ≡ Some instr)

-- some steps, and one more, which came to this
pub record Advanced (code : Parts) (taken : List Piece) (came : Step) (start : Config) (new : Machine) : Type 0 where
  pub mid : Machine
  pub leads : Leads code start (config_of code taken mid)
  pub stepped : Stepped code taken came (step code (config_of code taken mid)) new
  pub kept : KeepsPieces came mid new

-- an end of the machine is the one that the step leads to; where memory is wanting, the pieces are the first of those that
-- it leads to
abbrev pub Ends : End → Next → State → Type 0
Ends (end.Done ticks) next s = (ticks ≡ s.spent) × (v : Option Value) × (next ≡ Over Done v s)
Ends (end.Trap ticks info) next s = (ticks ≡ s.spent) × (next ≡ Over (Trap info) None s)
Ends end.Cut next s = next ≡ Over Cut None s
Ends end.Memory next s = Begins s.pieces (state_in next).pieces

-- where memory is wanting, the pieces of the state are the first of those that the step leads to
abbrev pub HasFirst : Step → Next → State → Type 0
HasFirst told.Memory next t = Begins t.pieces (state_in next).pieces
HasFirst _ next t = Unit {0}

-- A turn is a step of the code's meaning, where these pieces were taken before.
abbrev pub Turned : Parts → List Piece → Turn → Next → Machine → Type 0
Turned code taken turn.Going next m = next ≡ On (config_of code taken m)
Turned code taken (turn.Ended e) next m = Ends e next (state_of taken m)

abbrev pub IsTrapped : Next → Type 0
IsTrapped (Over (Trap info) v s) = Unit {0}
IsTrapped _ = ⊥

-- memory may be wanting for what is told of a trap alone
abbrev pub WantsForTrap : Turn → Next → Type 0
WantsForTrap (turn.Ended end.Memory) next = IsTrapped next
WantsForTrap _ next = Unit {0}

abbrev pub IsStillUnderWay : Parts → List Piece → Turn → Machine → Type 0
IsStillUnderWay code taken turn.Going m = IsUnderWay code taken m
IsStillUnderWay code taken (turn.Ended e) m = Unit {0}
