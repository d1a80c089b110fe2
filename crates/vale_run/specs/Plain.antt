-- What is so of every program that is accepted so far.
use Rattle.std.specs.Prelude.{◌≡◌, List, ℕ, true}
use Rattle.std.specs.List.{list_all}
use Rattle.vale_front.specs.Front.{Accepts}
use Rattle.vale_model.specs.Input.{takes_nothing}
use Rattle.vale_rules_spec.specs.Sites.{sites}
use Rattle.vale_rules_spec.specs.Typed.{Typed}
use Rattle.vale_run.specs.Means.{input_form}
use Rattle.vale_syntax.specs.Bytes.{is_byte}
use Rattle.vale_syntax.specs.Tree.{Tree}
use Rattle.vale_syntax.specs.declared.decls.Decls.{Decls}

-- it takes no input
abbrev pub TakeNoInput : Type 0
TakeNoInput =
    (text : List ℕ) (tree : Tree) (decls : Decls) (program : Typed) → list_all is_byte text ≡ true → Accepts text tree decls program
    → input_form program ≡ takes_nothing

-- it has no site
abbrev pub HaveNoSite : Type 0
HaveNoSite =
    (text : List ℕ) (tree : Tree) (decls : Decls) (program : Typed) → list_all is_byte text ≡ true → Accepts text tree decls program
    → sites program ≡ 0
