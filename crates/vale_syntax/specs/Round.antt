-- What the canonical text of a tree says: it is read back as the same tree.
use Rattle.std.specs.Prelude.{◌≡◌}
use Rattle.vale_syntax.specs.declared.token.Tokens.{Tokens}
use Rattle.vale_syntax.specs.Canon.{canon}
use Rattle.vale_syntax.specs.Cut.{cut}
use Rattle.vale_syntax.specs.Grammar.{spells}
use Rattle.vale_syntax.specs.Moved.{IsSameTree}
use Rattle.vale_syntax.specs.Tree.{Tree}

-- The tree's canonical text is read back: it is cut into tokens that spell a tree, which is this one but for spots, and
-- they are its only tokens and the only tree. The canonical text of that tree is the same text.
pub record IsReadBack (t : Tree) : Type 0 where
  pub tokens : Tokens
  pub tree : Tree
  pub cuts : cut (canon t) tokens
  pub spelled : spells tree tokens.list
  pub same : IsSameTree tree t
  pub only : (u : Tokens) (x : Tree) → cut (canon t) u → spells x u.list → (u ≡ tokens) × (x ≡ tree)
  pub fixed : canon tree ≡ canon t
