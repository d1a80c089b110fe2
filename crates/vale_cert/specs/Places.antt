-- What is known before each instruction of a function.
use Rattle.std.specs.Prelude.{ℕ, zero, suc, ◌+◌, List, [], ◌∷◌, Option, Some, None, slice_get}
use Rattle.vale_code.specs.Parts.{Parts}
use Rattle.vale_code.specs.declared.func.Func.{Func}
use Rattle.vale_code.specs.declared.instr.Instr.{Instr}
use Rattle.vale_cert.specs.Known.{Known, entry, label_at, stated}
use Rattle.vale_cert.specs.Walk.{known_after}
use Rattle.vale_cert.specs.declared.facts.FuncFacts.{FuncFacts}
use Rattle.vale_cert.specs.declared.facts.Label.{Label}

module _ (code : Parts) (f : Func) (labels : List Label) where
  -- of the instruction after this one, but for its label
  abbrev pub known_beyond : Instr → Option Known → Option Known
  known_beyond instr None = None
  known_beyond instr (Some known) = known_after code f labels 0 instr known

  -- before the n-th of these instructions, the first of which stands at place p
  abbrev pub known_nth : ℕ → List Instr → Option Known → ℕ → Option Known
  known_nth p [] o n = None
  known_nth p (instr ∷ instrs) o zero = stated (label_at labels p) o
  known_nth p (instr ∷ instrs) o (suc n) = known_nth (p + 1) instrs (known_beyond instr (stated (label_at labels p) o)) n

-- at a place of a function
abbrev pub known_at : Parts → Func → FuncFacts → ℕ → Option Known
known_at code f facts place = known_nth code f facts.labels 0 f.body (Some (entry f facts)) place

abbrev pub known_of : Parts → Option Func → Option FuncFacts → ℕ → Option Known
known_of code (Some f) (Some facts) place = known_at code f facts place
known_of code _ _ place = None

-- at a place of a code's function
abbrev pub known_in : Parts → List FuncFacts → ℕ → ℕ → Option Known
known_in code facts function place = known_of code (slice_get code.funcs function) (slice_get facts function) place
