-- What the law says.
use Rattle.std.specs.Prelude.{◌≡◌, ℕ, Bool, true, false, List, Some, None, slice_get}
use Rattle.std.specs.List.{list_any}
use Rattle.vale_syntax.specs.Tree.{Item, impl_item, tree}
use Rattle.vale_syntax.specs.declared.decls.Decls.{Decls}
use Rattle.vale_rules_spec.specs.DeclFaults.{declared}
use Rattle.vale_rules_spec.specs.Judged.{IsFine}
use Rattle.vale_rules_spec.specs.Types.{void}
use Rattle.vale_rules_spec.specs.Typed.{Function, Typed}
use Rattle.vale_rules_spec.specs.Typing.{entry, typed}
use Rattle.vale_model.specs.Kinds.{head_of, body_of}
use Rattle.vale_model.specs.Parts.{parts_of}
use Rattle.vale_code.specs.Parts.{Parts as Code}
use Rattle.vale_cert.specs.Walk.{function_fault}
use Rattle.vale_lowering_objects.specs.Code.{lowered, lowered_function, functions_in}
use Rattle.vale_lowering_objects.specs.Program.{lowered_body}
use Rattle.vale_object_facts.specs.Facts.{function_facts}
use Rattle.vale_object_facts.specs.Suits.{Sure, block_suits}
use Rattle.vale_object_typed.specs.Covered.{function_is_covered}
use Rattle.vale_object_typed.specs.Tables.{HasTables}

abbrev pub is_impl_item : Item → Bool
is_impl_item (impl_item at i s fs) = true
is_impl_item _ = false

-- The types of a function's parts fit, where the program is typed and has no implementations, and its code has its tables.
abbrev pub TypedProgramsFit : Type 0
TypedProgramsFit =
    (names : List (List ℕ)) (items : List Item) (program : Typed) (code : Code) (functions : List Function) → IsFine (typed (tree names items)) program → list_any is_impl_item items ≡ false →
    HasTables names items (parts_of program) code functions → (j : ℕ) (f : Function) → slice_get (functions_in (parts_of program)) j ≡ Some f → function_is_covered (parts_of program).kinds code.texts f →
    block_suits (parts_of program) code functions (entry (head_of f)) void (body_of f)

-- The code of a program that is declared and typed has its tables.
abbrev pub LoweredHasTables : Type 0
LoweredHasTables =
    (names : List (List ℕ)) (items : List Item) (decls : Decls) (program : Typed) → IsFine (declared (tree names items)) decls → IsFine (typed (tree names items)) program →
    HasTables names items (parts_of program) (lowered program) (functions_in (parts_of program))

-- The code of each function of such a program breaks no rule of instructions, where it has none that no step follows.
abbrev pub FunctionsBreakNoRule : Type 0
FunctionsBreakNoRule =
    (names : List (List ℕ)) (items : List Item) (decls : Decls) (program : Typed) → IsFine (declared (tree names items)) decls → IsFine (typed (tree names items)) program → list_any is_impl_item items ≡ false →
    let p = parts_of program in
    (j base : ℕ) (f : Function) → slice_get (functions_in p) j ≡ Some f → function_is_covered p.kinds (lowered program).texts f → Sure (lowered_body p (lowered program).texts (functions_in p) f) →
    function_fault (lowered program) base (lowered_function p (lowered program).texts (functions_in p) f) (function_facts p (lowered program).texts (functions_in p) f) ≡ None
