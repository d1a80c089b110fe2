-- The laws of each type's format.
use Rattle.std.proofs.Common.{◌≡◌, ℕ, zero, suc, ◌/◌, ◌%◌, ◌≤◌, Bool, cond, eqb, ◌++◌, pos, negsuc, refl, ap, ◌∙◌, arith, inl, inr}
use Rattle.std.proofs.lemmas.Bool.{eq-eqb, ne_eqb, cases_eq}
use Rattle.vale_codec.specs.Format.{Format, both, nothing}
use Rattle.vale_codec.specs.Numbers.{spell, number, largest_word}
use Rattle.vale_code.specs.declared.ty.Ty.TheVariants as t
use Rattle.vale_file_spec.specs.Types.{word, largest_long, folded, unfolded, signed, truth_number, truth, kind_number, spot, ty_tag, ty_payload, ty_forms, ty}
use Rattle.vale_codec.proofs.FormatLaws.{Lawful, followed_lawful, made_lawful, nothing_lawful}
use Rattle.vale_codec.proofs.NumberLaws.{number_lawful, choice_lawful, made_case}

pub both_lawful : {A B : Type 0} (f : Format A) (g : Format B) → Lawful f → Lawful g → Lawful (both f g)
both_lawful f g lf lg = followed_lawful f (λ _. g) lf (λ _. lg)

pub word_lawful : Lawful word
word_lawful = number_lawful largest_word

folded-unfolded : (n : ℕ) → folded (unfolded n) ≡ n
folded-unfolded n =
    elim (cases_eq (n % 2) 0) [
      | inl e ↦ ap folded (ap (λ (b : Bool). cond b (pos (n / 2)) (negsuc (n / 2))) (eq-eqb (n % 2) 0 e)) ∙ omega arith
      | inr e ↦ ap folded (ap (λ (b : Bool). cond b (pos (n / 2)) (negsuc (n / 2))) (ne_eqb (n % 2) 0 e)) ∙ omega arith
    ]

pub signed_lawful : Lawful signed
signed_lawful = made_lawful (number largest_long) unfolded (λ z. spell (folded z)) (number_lawful largest_long) (λ n _. ap spell (folded-unfolded n))

truth-again : (n : ℕ) → n ≤ 1 → truth_number (eqb n 1) ≡ n
truth-again zero le = refl
truth-again (suc zero) le = refl
truth-again (suc (suc n)) le = absurd (omega arith)

pub truth_lawful : Lawful truth
truth_lawful = made_lawful (number 1) (λ n. eqb n 1) (λ b. spell (truth_number b)) (number_lawful 1) (λ n le. ap spell (truth-again n le))

pub kind_number_lawful : Lawful kind_number
kind_number_lawful = made_lawful word (λ n. record { 0 = n }) (λ k. spell k.0) word_lawful (λ n _. refl)

pub spot_lawful : Lawful spot
spot_lawful = made_lawful (both word word) (λ p. record { line = p.0; col = p.1 }) (λ s. spell s.line ++ spell s.col) (both_lawful word word word_lawful word_lawful) (λ p _. refl)

pub ty_lawful : Lawful ty
unfolding ty
ty_lawful = choice_lawful 7 ty_forms ty_tag ty_payload (
  made_case nothing (λ _. t.Void) ty_tag ty_payload 0 nothing_lawful (λ _. refl) (λ _. refl),
  (
    made_case nothing (λ _. t.Int) ty_tag ty_payload 1 nothing_lawful (λ _. refl) (λ _. refl),
    (
      made_case nothing (λ _. t.Truth) ty_tag ty_payload 2 nothing_lawful (λ _. refl) (λ _. refl),
      (
        made_case nothing (λ _. t.Text) ty_tag ty_payload 3 nothing_lawful (λ _. refl) (λ _. refl),
        (
          made_case kind_number (λ k. t.Own k) ty_tag ty_payload 4 kind_number_lawful (λ _. refl) (λ _. refl),
          (
            made_case kind_number (λ k. t.Ref k) ty_tag ty_payload 5 kind_number_lawful (λ _. refl) (λ _. refl),
            (
              made_case kind_number (λ k. t.Frozen k) ty_tag ty_payload 6 kind_number_lawful (λ _. refl) (λ _. refl),
              (made_case kind_number (λ k. t.Iso k) ty_tag ty_payload 7 kind_number_lawful (λ _. refl) (λ _. refl), tt),
            ),
          ),
        ),
      ),
    ),
  ),
)
