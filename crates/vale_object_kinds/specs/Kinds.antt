-- The kinds of the code of a program whose declarations and types keep their rules.
use Rattle.vale_syntax.specs.Tree.{Tree}
use Rattle.vale_syntax.specs.declared.decls.Decls.{Decls}
use Rattle.vale_rules_spec.specs.DeclFaults.{declared}
use Rattle.vale_rules_spec.specs.Judged.{IsFine}
use Rattle.vale_rules_spec.specs.Typed.{Typed}
use Rattle.vale_rules_spec.specs.Typing.{typed}
use Rattle.vale_model.specs.Parts.{parts_of}
use Rattle.vale_lowering_objects.specs.Code.{functions_in, lowered}
use Rattle.vale_lowering_objects.specs.Destruction.{SameKinds}

-- They are the program's: so objects are destroyed alike.
abbrev pub KindsOfProgram : Type 0
KindsOfProgram =
    (tree : Tree) (decls : Decls) (program : Typed) → IsFine (declared tree) decls → IsFine (typed tree) program →
    SameKinds (lowered program) (functions_in (parts_of program)) (parts_of program)
