-- The texts of registers, each by its number; those past the end are empty.
use Rattle.std.specs.Prelude.{◌≡◌, ◌≢◌, ℕ, zero, suc, List, [], ◌∷◌}

abbrev pub text_at : List (List ℕ) → ℕ → List ℕ
text_at [] i = []
text_at (t ∷ ts) zero = t
text_at (t ∷ ts) (suc i) = text_at ts i

-- one register has this text now, and the others those that they had
pub record IsWritten (register : ℕ) (text : List ℕ) (old new : List (List ℕ)) : Type 0 where
  pub is : text_at new register ≡ text
  pub others : (i : ℕ) → i ≢ register → text_at new i ≡ text_at old i
