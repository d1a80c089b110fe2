-- What is told of a trap (docs/LANGUAGE.md, "Reports").
use Rattle.std.specs.Prelude.{ℕ, ◌==◌, List, [], ◌∷◌, ◌++◌, codes, if◌then◌else◌}
use Rattle.std.specs.Fmt.{decimal}
use Rattle.vale_base.specs.declared.spot.Spot.{Spot}
use Rattle.vale_base.specs.declared.trap.FrameAt.{FrameAt}
use Rattle.vale_base.specs.declared.trap.TrapInfo.{TrapInfo}
use Rattle.vale_base.specs.declared.trap.TrapKind.{TrapKind}
use Rattle.vale_base.specs.declared.trap.TrapKind.TheVariants.{Overflow, DivisionByZero, DeadReference, IndexOutOfRange, ArrayTooLong, TextTooLong, EmptyPop, NotANumber, CallDepth, LoopTooWide}

abbrev pub kind_text : TrapKind → List ℕ
kind_text Overflow = codes "overflow"
kind_text DivisionByZero = codes "division by zero"
kind_text DeadReference = codes "dead reference"
kind_text IndexOutOfRange = codes "index out of range"
kind_text ArrayTooLong = codes "array too long"
kind_text TextTooLong = codes "text too long"
kind_text EmptyPop = codes "empty pop"
kind_text NotANumber = codes "not a number"
kind_text CallDepth = codes "call depth"
kind_text LoopTooWide = codes "loop too wide"

abbrev pub spot_text : Spot → List ℕ
spot_text at = decimal at.line ++ codes ":" ++ decimal at.col

-- the frames outside a frame: each with the spot of the call that it made
abbrev pub outer_text : Spot → List FrameAt → List ℕ
outer_text at [] = []
outer_text at (f ∷ more) = codes "called at " ++ spot_text at ++ codes " in " ++ f.what ++ codes "\n" ++ outer_text f.at more

abbrev pub frames_text : List FrameAt → List ℕ
frames_text [] = []
frames_text (f ∷ more) = codes "in " ++ f.what ++ codes "\n" ++ outer_text f.at more

-- the line on the frames that aren't named one by one
abbrev pub more_text : ℕ → List ℕ
more_text n = if n == 0 then [] else codes "and " ++ decimal n ++ codes " more\n"

abbrev pub report_text : TrapInfo → List ℕ
report_text t = codes "trap: " ++ kind_text t.kind ++ codes " at " ++ spot_text t.at ++ codes "\n" ++ frames_text t.frames ++ more_text t.more
