-- The code of typed programs breaks no rule of instructions.
use Rattle.vale_model.specs.Parts.{parts_of}
use Rattle.vale_lowering_objects.specs.Code.{lowered, functions_in}
use Rattle.vale_object_facts.proofs.Bodies.{function_is_faultless}
use Rattle.vale_object_typed.specs.Fit.{FunctionsBreakNoRule}
use Rattle.vale_object_typed.proofs.Functions.{typed_programs_fit}
use Rattle.vale_object_typed.proofs.Tables.{lowered_has_tables}

pub functions_break_no_rule : FunctionsBreakNoRule
functions_break_no_rule names items decls program is_declared is_typed plain j base f here cov sure =
    let tables = lowered_has_tables names items decls program is_declared is_typed in
    function_is_faultless (parts_of program) (lowered program) (functions_in (parts_of program)) f base (typed_programs_fit names items program (lowered program) (functions_in (parts_of program)) is_typed plain tables j f here cov) sure
