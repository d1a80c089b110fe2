-- Which texts are programs (docs/LANGUAGE.md): those that are read as a tree whose declarations, types and
-- ownership keep their rules.
use Rattle.std.specs.Prelude.{ℕ, ◌≡◌, ◌≤◌, true, List, length}
use Rattle.std.specs.List.{list_all}
use Rattle.vale_base.specs.Limits.{program_limit}
use Rattle.vale_syntax.specs.Bytes.{is_byte}
use Rattle.vale_syntax.specs.Cut.{cut}
use Rattle.vale_rules_spec.specs.DeclFaults.{declared}
use Rattle.vale_syntax.specs.Grammar.{spells}
use Rattle.vale_rules_spec.specs.Judged.{IsFine}
use Rattle.vale_syntax.specs.Tree.{Tree}
use Rattle.vale_rules_spec.specs.Owned.{owned}
use Rattle.vale_rules_spec.specs.Typed.{Typed}
use Rattle.vale_rules_spec.specs.Typing.{typed}
use Rattle.vale_syntax.specs.declared.decls.Decls.{Decls}
use Rattle.vale_syntax.specs.declared.token.Tokens.{Tokens}

-- the text is no longer than a program may be, and cut into tokens that spell this tree
pub record Reads (text : List ℕ) (tree : Tree) : Type 0 where
  pub within : length text ≤ program_limit
  pub tokens : Tokens
  pub cuts : cut text tokens
  pub spelled : spells tree tokens.list

-- the text is read as this tree, which declares this and has these types, and no node of it breaks a rule
pub record WellFormed (text : List ℕ) (tree : Tree) (decls : Decls) (program : Typed) : Type 0 where
  pub reads : Reads text tree
  pub declares : IsFine (declared tree) decls
  pub types : IsFine (typed tree) program
  pub owns : IsFine (owned program) program

-- some text of bytes is well formed and has this typed tree
abbrev pub IsSound : Typed → Type 0
IsSound program = (text : List ℕ) × (tree : Tree) × (decls : Decls) × (list_all is_byte text ≡ true) × WellFormed text tree decls program
