-- What is written of a number, byte by byte.
use Rattle.std.proofs.Common.{◌≡◌, ℕ, ◌+◌, ◌%◌, ◌/◌, ◌<◌, ◌≤◌, List, [], ◌∷◌, ◌++◌, sym, ap, ◌∙◌, append_assoc}
use Rattle.vale_codec.specs.Numbers.{spell}
use Rattle.vale_codec.proofs.NumberLaws.{spell_step, spell_last}

-- one byte more, and what is left to write
pub one_byte : (out : List ℕ) (n : ℕ) (total : List ℕ) → 128 ≤ n → out ++ spell n ≡ total → (out ++ (n % 128 + 128) ∷ []) ++ spell (n / 128) ≡ total
one_byte out n total ge e = append_assoc out ((n % 128 + 128) ∷ []) (spell (n / 128)) ∙ ap (λ (t : List ℕ). out ++ t) (sym (spell_step n ge)) ∙ e

pub last_byte : (out : List ℕ) (n : ℕ) (total : List ℕ) → n < 128 → out ++ spell n ≡ total → out ++ n ∷ [] ≡ total
last_byte out n total lt e = ap (λ (t : List ℕ). out ++ t) (sym (spell_last n lt)) ∙ e
