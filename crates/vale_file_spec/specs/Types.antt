-- The format of each type of a code.
use Rattle.std.specs.Prelude.{ℕ, ◌+◌, ◌*◌, ◌/◌, ◌%◌, List, [], ◌∷◌, ◌++◌, Bool, true, false, ℤ, pos, negsuc, ◌==◌, if◌then◌else◌}
use Rattle.vale_base.specs.declared.name.Kind.{Kind}
use Rattle.vale_base.specs.declared.spot.Spot.{Spot}
use Rattle.vale_code.specs.declared.ty.Ty.{Ty}
use Rattle.vale_code.specs.declared.ty.Ty.TheVariants as t
use Rattle.vale_codec.specs.Format.{Format, both, made, nothing}
use Rattle.vale_codec.specs.Numbers.{spell, number, largest_word, choice}

abbrev pub word : Format ℕ
word = number largest_word

-- the largest number of eight bytes
abbrev pub largest_long : ℕ
largest_long = 18446744073709551615

-- 2n where n isn't below 0, and else -2n - 1
abbrev pub folded : ℤ → ℕ
folded (pos n) = 2 * n
folded (negsuc n) = 2 * n + 1

abbrev pub unfolded : ℕ → ℤ
unfolded n = if n % 2 == 0 then pos (n / 2) else negsuc (n / 2)

abbrev pub signed : Format ℤ
signed = made (number largest_long) unfolded (λ z. spell (folded z))

abbrev pub truth_number : Bool → ℕ
truth_number true = 1
truth_number false = 0

abbrev pub truth : Format Bool
truth = made (number 1) (λ n. n == 1) (λ b. spell (truth_number b))

abbrev pub kind_number : Format Kind
kind_number = made word (λ n. record { 0 = n }) (λ k. spell k.0)

abbrev pub spot : Format Spot
spot = made (both word word) (λ p. record { line = p.0; col = p.1 }) (λ s. spell s.line ++ spell s.col)

-- ---- types

abbrev pub ty_tag : Ty → ℕ
ty_tag t.Void = 0
ty_tag t.Int = 1
ty_tag t.Truth = 2
ty_tag t.Text = 3
ty_tag (t.Own k) = 4
ty_tag (t.Ref k) = 5
ty_tag (t.Frozen k) = 6
ty_tag (t.Iso k) = 7

abbrev pub ty_payload : Ty → List ℕ
ty_payload (t.Own k) = kind_number.write k
ty_payload (t.Ref k) = kind_number.write k
ty_payload (t.Frozen k) = kind_number.write k
ty_payload (t.Iso k) = kind_number.write k
ty_payload _ = []

abbrev pub ty_forms : List (Format Ty)
ty_forms = made nothing (λ _. t.Void) ty_payload
    ∷ made nothing (λ _. t.Int) ty_payload
    ∷ made nothing (λ _. t.Truth) ty_payload
    ∷ made nothing (λ _. t.Text) ty_payload
    ∷ made kind_number (λ k. t.Own k) ty_payload
    ∷ made kind_number (λ k. t.Ref k) ty_payload
    ∷ made kind_number (λ k. t.Frozen k) ty_payload
    ∷ made kind_number (λ k. t.Iso k) ty_payload
    ∷ []

unfoldable pub ty : Format Ty
ty = choice 7 ty_forms ty_tag ty_payload
