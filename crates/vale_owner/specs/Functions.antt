-- What is found of a whole function.
use Rattle.std.specs.Prelude.{Bool, not, ◌&&◌, List, Option, Some, None, Result, Ok, Err}
use Rattle.vale_syntax.specs.declared.fault.Fault.{Fault}
use Rattle.vale_rules_spec.specs.Declarations.{param_name}
use Rattle.vale_rules_spec.specs.Judged.{first_of}
use Rattle.vale_syntax.specs.Tree.{Param}
use Rattle.vale_rules_spec.specs.Typed.{Block, Function, function_body}
use Rattle.vale_rules_spec.specs.Owned.{function_flow, block_moves}
use Rattle.vale_rules_spec.specs.Whole.{Locals, params_declared, is_whole}
use Rattle.vale_owner_flow.specs.FlowView.{FlowView}

unfoldable pub declaring_params : List Param → FlowView → FlowView
declaring_params ps f = record { first = f.first; locals = params_declared ps f.locals }

-- at the end of its body
unfoldable pub at_end : Function → FlowView
at_end (function_body h b) = record { first = first_of (function_flow h b).faults; locals = (function_flow h b).after }

abbrev pub body_faults : Function → List Fault
body_faults (function_body h b) = (function_flow h b).faults

-- whether a destructor's parameter is moved by destructurings alone, and isn't whole at the end
abbrev pub is_taken_apart : Param → Block → Locals → Bool
is_taken_apart p b ls = not (block_moves (param_name p).name.0 b) && not (is_whole (param_name p).name.0 ls)

-- what is answered where this is the first fault
abbrev pub answer : Option Fault → Result (Unit {0}) Fault
answer None = Ok tt
answer (Some fault) = Err fault
