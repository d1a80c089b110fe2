use Rattle.std.proofs.Common.{◌≡◌, map, take}
use Rattle.vale_core.specs.View.{view_function}
use Rattle.vale_model.specs.Parts.{Parts}
use Rattle.vale_lowering.specs.Lowered.{lowered_function}
use Rattle.vale_lower_expr.specs.Held.{functions_of}
use Rattle.vale_lower_code.proofs.code.lower_functions.Given as goal

abbrev pub invariant-loop-function : goal.invariant-loop-function
invariant-loop-function l = (p : Parts) → p.names ≡ l.names → l.funcs ≡ map (lowered_function p l.all (functions_of l.functions)) (map (λ g. view_function g.now) (take l.function-index l.each))
