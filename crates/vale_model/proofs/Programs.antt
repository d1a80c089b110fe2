-- Programs as trees, and what is told of their runs.
use Rattle.std.proofs.Common.{ℕ, zero, suc, List, [], ◌∷◌, ◌++◌, Option, Some, None}
use Rattle.std.specs.Prelude.{codes, pos}
use Rattle.std.specs.Fmt.{signed_decimal}
use Rattle.vale_state_spec.specs.Outcome.{Outcome, Done, Trap, Cut}
use Rattle.vale_state_spec.specs.State.{Given, no_input, live}
use Rattle.vale_base.specs.declared.piece.Piece.{Piece}
use Rattle.vale_base.specs.declared.spot.Spot.{Spot}
use Rattle.vale_base.specs.declared.trap.FrameAt.{FrameAt}
use Rattle.vale_base.specs.declared.trap.TrapKind.{TrapKind}
use Rattle.vale_syntax.specs.declared.tree.NameAt.{NameAt}
use Rattle.vale_rules_spec.specs.Judged.{Judged, fine, faulty}
use Rattle.vale_rules_spec.specs.Typing.{typed}
use Rattle.vale_rules_spec.specs.Typed.{Typed}
use Rattle.vale_syntax.specs.Tree.{Tree}
use Rattle.vale_model.specs.Meaning.{meaning, run_of}
use Rattle.vale_model.specs.Need.{need}
use Rattle.vale_model.specs.Parts.{parts_of}
use Rattle.vale_model.specs.Loops.{state_in}

-- ---- nodes, with their lines and columns

abbrev pub at : ℕ → ℕ → Spot
at line column = record { line = line; col = column }

-- the name of a number
abbrev pub n : ℕ → ℕ → ℕ → NameAt
n k line column = record { name = record { 0 = k }; at = at line column }

-- ---- outcomes

abbrev pub run_typed : Judged Typed → Given → ℕ → Option Outcome
run_typed (fine program) input ticks = Some (meaning program input ticks)
run_typed (faulty f fs) input ticks = None

-- what the program does, where its types are lawful
abbrev pub run_on : Tree → Given → ℕ → Option Outcome
run_on p input ticks = run_typed (typed p) input ticks

abbrev pub run : Tree → ℕ → Option Outcome
run p ticks = run_on p no_input ticks

abbrev pub piece : ℕ → List ℕ → Piece
piece tick bytes = record { tick = tick; bytes = bytes }

abbrev pub frame : List ℕ → ℕ → ℕ → FrameAt
frame what line column = record { what = what; at = at line column }

abbrev pub in_main : FrameAt
in_main = frame (codes "main") 1 1

abbrev pub done : ℕ → List Piece → Option Outcome
done ticks pieces = Some (record { pieces = pieces; end = Done; ticks = ticks })

abbrev pub cut : ℕ → List Piece → Option Outcome
cut ticks pieces = Some (record { pieces = pieces; end = Cut; ticks = ticks })

abbrev pub trapped : ℕ → List Piece → TrapKind → Spot → List FrameAt → Option Outcome
trapped ticks pieces kind at frames = Some (record { pieces = pieces; end = Trap (record { kind = kind; at = at; frames = frames; more = 0 }); ticks = ticks })

-- a number and a line feed
abbrev pub line : ℕ → List ℕ
line z = signed_decimal (pos z) ++ 10 ∷ []

-- a text and a line feed
abbrev pub text_line : List ℕ → List ℕ
text_line text = text ++ 10 ∷ []

abbrev pub times : ℕ → FrameAt → List FrameAt → List FrameAt
times zero f fs = fs
times (suc k) f fs = f ∷ times k f fs

-- how many objects live in the end
abbrev pub live_typed : Judged Typed → ℕ → Option ℕ
live_typed (fine program) ticks = Some (live (state_in (run_of (parts_of program) no_input ticks)).world)
live_typed (faulty f fs) ticks = None

abbrev pub live_after : Tree → ℕ → Option ℕ
live_after p ticks = live_typed (typed p) ticks

abbrev pub need_typed : Judged Typed → ℕ → ℕ → Option ℕ
need_typed (fine program) ticks first = Some (need program no_input ticks first)
need_typed (faulty f fs) ticks first = None

-- what it needs, with this first generation
abbrev pub need_of : Tree → ℕ → ℕ → Option ℕ
need_of p ticks first = need_typed (typed p) ticks first
