-- What the law says.
use Rattle.std.specs.Prelude.{◌≡◌, ℕ, false, List, Some, None, slice_get}
use Rattle.std.specs.List.{list_any}
use Rattle.vale_syntax.specs.Tree.{Item, tree}
use Rattle.vale_syntax.specs.declared.decls.Decls.{Decls}
use Rattle.vale_rules_spec.specs.DeclFaults.{declared}
use Rattle.vale_rules_spec.specs.Judged.{IsFine}
use Rattle.vale_rules_spec.specs.Owned.{owned}
use Rattle.vale_rules_spec.specs.Typed.{Function, Typed}
use Rattle.vale_rules_spec.specs.Typing.{typed}
use Rattle.vale_model.specs.Parts.{parts_of}
use Rattle.vale_cert.specs.Walk.{function_fault}
use Rattle.vale_lowering_objects.specs.Code.{lowered, lowered_function, functions_in}
use Rattle.vale_lowering_objects.specs.Program.{lowered_body}
use Rattle.vale_object_facts.specs.Facts.{function_facts}
use Rattle.vale_object_facts.specs.Suits.{Sure}
use Rattle.vale_object_typed.specs.Covered.{function_is_covered}
use Rattle.vale_object_typed.specs.Fit.{is_impl_item}
use Rattle.vale_object_sure.specs.Lawful.{items_are_lawful}

-- A program that is declared, typed and owned, with lawful literals and no implementations.
pub record IsKept (names : List (List ℕ)) (items : List Item) (decls : Decls) (program : Typed) : Type 0 where
  pub declares : IsFine (declared (tree names items)) decls
  pub types : IsFine (typed (tree names items)) program
  pub owners : IsFine (owned program) program
  pub literals : items_are_lawful items
  pub plain : list_any is_impl_item items ≡ false

-- The code of each function of it has no instruction that no step follows.
abbrev pub SureBodies : Type 0
SureBodies =
    (names : List (List ℕ)) (items : List Item) (decls : Decls) (program : Typed) → IsKept names items decls program →
    let p = parts_of program in
    (j : ℕ) (f : Function) → slice_get (functions_in p) j ≡ Some f → function_is_covered p.kinds (lowered program).texts f → Sure (lowered_body p (lowered program).texts (functions_in p) f)

-- So it breaks no rule of instructions.
abbrev pub OwnedFunctionsBreakNoRule : Type 0
OwnedFunctionsBreakNoRule =
    (names : List (List ℕ)) (items : List Item) (decls : Decls) (program : Typed) → IsKept names items decls program →
    let p = parts_of program in
    (j base : ℕ) (f : Function) → slice_get (functions_in p) j ≡ Some f → function_is_covered p.kinds (lowered program).texts f →
    function_fault (lowered program) base (lowered_function p (lowered program).texts (functions_in p) f) (function_facts p (lowered program).texts (functions_in p) f) ≡ None
