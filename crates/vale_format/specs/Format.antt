-- What formatting is, on texts.
use Rattle.std.specs.Prelude.{◌≡◌, ℕ, List}
use Rattle.vale_syntax.specs.Canon.{canon}
use Rattle.vale_syntax.specs.Cut.{cut}
use Rattle.vale_syntax.specs.Grammar.{spells}
use Rattle.vale_syntax.specs.Tree.{Tree}
use Rattle.vale_syntax.specs.declared.token.Tokens.{Tokens}

-- The source is cut into tokens that spell a tree, and the text is the tree's canonical text.
pub record IsFormatOf (source text : List ℕ) : Type 0 where
  pub tokens : Tokens
  pub tree : Tree
  pub cuts : cut source tokens
  pub spelled : spells tree tokens.list
  pub canonical : text ≡ canon tree

-- Formatting the text gives the text itself, and nothing else.
pub record IsFixed (text : List ℕ) : Type 0 where
  pub itself : IsFormatOf text text
  pub only : (other : List ℕ) → IsFormatOf text other → other ≡ text
