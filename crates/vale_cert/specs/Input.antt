-- Which input a code takes.
use Rattle.std.specs.Prelude.{List, [], ◌∷◌, Option, Some, None, Bool, true, false, slice_get}
use Rattle.vale_state_spec.specs.State.{Given, no_input, numbers, lines}
use Rattle.vale_code.specs.Kinds.{kind_of}
use Rattle.vale_code.specs.Parts.{Parts}
use Rattle.vale_code.specs.declared.func.Func.{Func}
use Rattle.vale_code.specs.declared.kind.KindInfo.{KindInfo}
use Rattle.vale_code.specs.declared.kind.KindInfo.TheVariants as k
use Rattle.vale_code.specs.declared.ty.Ty.{Ty}
use Rattle.vale_code.specs.declared.ty.Ty.TheVariants as t

abbrev pub is_input_of : Given → Option KindInfo → Bool
is_input_of (numbers zs) (Some (k.Array t.Int)) = true
is_input_of (lines ts) (Some (k.Array t.Text)) = true
is_input_of _ _ = false

abbrev pub params_take : Parts → List Ty → Given → Bool
params_take code [] no_input = true
params_take code (t.Own kind ∷ []) input = is_input_of input (kind_of code kind)
params_take code _ _ = false

abbrev pub function_takes : Parts → Given → Option Func → Bool
function_takes code input None = false
function_takes code input (Some f) = params_take code f.params input

-- the input has the form that `main` takes: nothing, numbers or lines
abbrev pub takes_input : Parts → Given → Bool
takes_input code input = function_takes code input (slice_get code.funcs code.main)
