-- Where a list of words leaves what is lawful.
use Rattle.std.specs.Prelude.{ℕ, ◌≡◌, List, [], ◌∷◌, ◌++◌, length}

abbrev pub Word : Type 0
Word = List ℕ

-- these words begin a lawful list
abbrev pub Begins : (List Word → Type 0) → List Word → Type 0
Begins Lawful words = (more : List Word) × Lawful (words ++ more)

-- the words in front, which begin a lawful list, begin none with the next one, or aren't lawful where there is no next one
abbrev pub StopsAt : (List Word → Type 0) → List Word → List Word → Type 0
StopsAt Lawful front [] = Lawful front → ⊥
StopsAt Lawful front (word ∷ more) = Begins Lawful (front ++ word ∷ []) → ⊥

-- The words aren't lawful, and this is the index of the first word with which they begin no lawful list; where they
-- only end too early, it is their number.
pub record IsFirstFault (Lawful : List Word → Type 0) (words : List Word) (index : ℕ) : Type 0 where
  pub front : List Word
  pub back : List Word
  pub whole : words ≡ front ++ back
  pub at : index ≡ length front
  pub begins : Begins Lawful front
  pub stops : StopsAt Lawful front back
