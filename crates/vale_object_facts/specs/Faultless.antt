-- What the law says of the facts of functions.
use Rattle.std.specs.Prelude.{◌≡◌, ℕ, List, None}
use Rattle.vale_rules_spec.specs.Types.{void}
use Rattle.vale_rules_spec.specs.Typed.{Function}
use Rattle.vale_rules_spec.specs.Typing.{entry}
use Rattle.vale_model.specs.Kinds.{head_of, body_of}
use Rattle.vale_model.specs.Parts.{Parts}
use Rattle.vale_code.specs.Parts.{Parts as Code}
use Rattle.vale_cert.specs.Walk.{function_fault}
use Rattle.vale_lowering_objects.specs.Code.{lowered_function}
use Rattle.vale_lowering_objects.specs.Program.{lowered_body}
use Rattle.vale_object_facts.specs.Facts.{function_facts}
use Rattle.vale_object_facts.specs.Suits.{Sure, block_suits}

-- Lowered functions break no rule of instructions with these facts, where the types of their parts fit.
abbrev pub FunctionsAreFaultless : Type 0
FunctionsAreFaultless =
    (p : Parts) (code : Code) (functions : List Function) (f : Function) (base : ℕ) → block_suits p code functions (entry (head_of f)) void (body_of f) → Sure (lowered_body p code.texts functions f) →
    function_fault code base (lowered_function p code.texts functions f) (function_facts p code.texts functions f) ≡ None
