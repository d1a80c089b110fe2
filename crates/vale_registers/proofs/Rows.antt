-- Texts in a row.
use Rattle.std.proofs.Common.{◌≡◌, ◌≢◌, ℕ, zero, suc, ◌<◌, ◌≤◌, List, [], ◌∷◌, ◌++◌, length, take, get_or, refl, arith}
use Rattle.std.specs.Prelude.{slice_set}
use Rattle.vale_registers.specs.Shares.{share_text, texts_in}
use Rattle.vale_registers.specs.Texts.{text_at}
use Rattle.vale_registers.specs.declared.row.Share.{Share}
use Rattle.vale_registers.specs.declared.row.Share.TheVariants as share

pub past : (shares : List Share) (i : ℕ) → length shares ≤ i → text_at (texts_in shares) i ≡ []
past [] i le = refl
past (s ∷ ss) zero le = absurd (omega arith)
past (s ∷ ss) (suc i) le = past ss i (omega arith)

pub found : (shares : List Share) (i : ℕ) (d : Share) → i < length shares → text_at (texts_in shares) i ≡ share_text (get_or shares i d)
found [] i d lt = absurd (omega arith)
found (s ∷ ss) zero d lt = refl
found (s ∷ ss) (suc i) d lt = found ss i d (omega arith)

pub blank_behind : (shares : List Share) (i : ℕ) → text_at (texts_in (shares ++ share.Blank ∷ [])) i ≡ text_at (texts_in shares) i
blank_behind [] zero = refl
blank_behind [] (suc i) = refl
blank_behind (s ∷ ss) zero = refl
blank_behind (s ∷ ss) (suc i) = blank_behind ss i

pub written_here : (shares : List Share) (to : ℕ) (x : Share) → to < length shares → text_at (texts_in (slice_set shares to x)) to ≡ share_text x
written_here [] to x lt = absurd (omega arith)
written_here (s ∷ ss) zero x lt = refl
written_here (s ∷ ss) (suc to) x lt = written_here ss to x (omega arith)

pub written_else : (shares : List Share) (to : ℕ) (x : Share) (i : ℕ) → i ≢ to → text_at (texts_in (slice_set shares to x)) i ≡ text_at (texts_in shares) i
written_else [] to x i n = refl
written_else (s ∷ ss) zero x zero n = absurd (n refl)
written_else (s ∷ ss) zero x (suc i) n = refl
written_else (s ∷ ss) (suc to) x zero n = refl
written_else (s ∷ ss) (suc to) x (suc i) n = written_else ss to x i (λ e. n (omega arith))

pub first_texts : (shares : List Share) (n i : ℕ) → i < n → text_at (texts_in (take n shares)) i ≡ text_at (texts_in shares) i
first_texts [] zero i lt = refl
first_texts [] (suc n) i lt = refl
first_texts (s ∷ ss) zero i lt = absurd (omega arith)
first_texts (s ∷ ss) (suc n) zero lt = refl
first_texts (s ∷ ss) (suc n) (suc i) lt = first_texts ss n i (omega arith)
