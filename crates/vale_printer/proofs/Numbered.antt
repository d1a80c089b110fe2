-- The text of a name is at its number.
use Rattle.std.proofs.Common.{◌≡◌, ℕ, true, List, [], Some, get_or, sym}
use Rattle.std.specs.Str.{bytes_eq}
use Rattle.std.proofs.lemmas.List.Quantifiers.{position-Some}
use Rattle.std.proofs.lemmas.Slice.Eq.{bytes_eq-Decides}
use Rattle.vale_syntax.specs.Grammar.{number_of}

same_bytes : (x y : List ℕ) → bytes_eq x y ≡ true → x ≡ y
same_bytes x y h = (bytes_eq-Decides x y).0 h

pub numbered : (names : List (List ℕ)) (text : List ℕ) (n : ℕ) → number_of names text ≡ Some n → get_or names n [] ≡ text
numbered names text n h = sym (same_bytes text (get_or names n []) (position-Some (bytes_eq text) names n [] h).1)
