-- Which tokens begin a program, and where the first stands that none goes through.
use Rattle.std.specs.Prelude.{◌≡◌, ℕ, List, [], ◌∷◌, ◌++◌}
use Rattle.vale_syntax.specs.declared.token.Token.{Token}
use Rattle.vale_syntax.specs.Tree.{Tree, tree}
use Rattle.vale_syntax.specs.Grammar.{names_in, each, IsItem}

-- The tokens spell the tree where so many levels are left. `spells` has the limit that a program keeps.
abbrev pub spells_within : ℕ → Tree → List Token → Type 0
spells_within levels (tree names items) tokens = (names ≡ names_in tokens) × each (IsItem names levels) items tokens []

-- A program of some nesting begins with these tokens.
pub record Begins (front : List Token) : Type 0 where
  pub levels : ℕ
  pub rest : List Token
  pub tree : Tree
  pub spells : spells_within levels tree (front ++ rest)

-- Of the tokens front ++ left, no program of any nesting begins with those of front and one more. Where there is no more,
-- those of front are no program.
abbrev pub GoesNoFurther : List Token → List Token → Type 0
GoesNoFurther front [] = (levels : ℕ) (x : Tree) → spells_within levels x front → ⊥
GoesNoFurther front (t ∷ after) = Begins (front ++ t ∷ []) → ⊥

-- The first of the tokens `left`, or the end where there is none, is what no program goes through.
pub record StopsAt (tokens left : List Token) : Type 0 where
  pub front : List Token
  pub there : tokens ≡ front ++ left
  pub begins : Begins front
  pub no_further : GoesNoFurther front left

-- The first of the tokens `left` is one that a program of some nesting goes through.
pub record GoesThrough (tokens left : List Token) : Type 0 where
  pub front : List Token
  pub token : Token
  pub after : List Token
  pub there : tokens ≡ front ++ left
  pub first : left ≡ token ∷ after
  pub begins : Begins (front ++ token ∷ [])
