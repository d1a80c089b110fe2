-- A name is a word exactly where it is that word's text.
use Rattle.std.proofs.Common.{◌≡◌, ◌≢◌, ℕ, ◌<◌, ◌≤◌, Bool, true, false, cond, List, [], ◌∷◌, length, Option, None, Some, refl, sym, ap, ◌∙◌, inl, inr, arith}
use Rattle.std.proofs.lemmas.Bool.{cases_Bool}
use Rattle.std.specs.List.{find}
use Rattle.std.specs.Str.{bytes_eq}
use Rattle.std.proofs.lemmas.Slice.Eq.{bytes_eq-Decides}
use Rattle.vale_syntax.specs.Bytes.{word_text}
use Rattle.vale_syntax.specs.Cut.{IsName, Means}
use Rattle.vale_syntax.specs.declared.token.Word.{Word}
use Rattle.vale_syntax.specs.declared.token.Word.TheVariants as w
use Rattle.vale_lexer.specs.Next.{words, word_of, kind_by}

-- what is found passes the test
found_by : (p : Word → Bool) (y : Word) (ys : List Word) (x : Word) (t : Bool) → p y ≡ t → cond t (Some y) (find p ys) ≡ Some x → (find p ys ≡ Some x → p x ≡ true) → p x ≡ true
found_by p y ys x true is e more = let same : y ≡ x = cc in ap p (sym same) ∙ is
found_by p y ys x false is e more = more e

found_passes : (p : Word → Bool) (ys : List Word) (x : Word) → find p ys ≡ Some x → p x ≡ true
found_passes p [] x e = absurd cc
found_passes p (y ∷ ys) x e = found_by p y ys x (p y) refl e (found_passes p ys x)

word_found : (name : List ℕ) (x : Word) → word_of name ≡ Some x → name ≡ word_text x
unfolding word_of
word_found name x e = sym ((bytes_eq-Decides (word_text x) name).0 (found_passes (λ y. bytes_eq (word_text y) name) words x e))

pub word_self : (x : Word) → word_of (word_text x) ≡ Some x
unfolding word_of
word_self w.Func = refl
word_self x = refl

none_found : (name : List ℕ) → word_of name ≡ None → (x : Word) → name ≡ word_text x → ⊥
none_found name e x h = let yes = ap word_of h ∙ word_self x in let never : None ≡ Some x = sym e ∙ yes in cc

-- a name is the word that is found, or that name
pub kind_by-Means : (name : List ℕ) → IsName name → (o : Option Word) → word_of name ≡ o → Means name (kind_by name o)
kind_by-Means name is None e = (is, none_found name e, refl)
kind_by-Means name is (Some x) e = word_found name x e

-- a name that is no word is found nowhere
by_none : (name : List ℕ) → ((x : Word) → name ≡ word_text x → ⊥) → (o : Option Word) → word_of name ≡ o → o ≡ None
by_none name h None e = refl
by_none name h (Some x) e = absurd (h x (word_found name x e))

pub no_word : (name : List ℕ) → ((x : Word) → name ≡ word_text x → ⊥) → word_of name ≡ None
no_word name h = by_none name h (word_of name) refl

-- ---- lengths

pub unlike : (text name : List ℕ) → length text ≢ length name → false ≡ bytes_eq text name
unlike text name apart = elim (cases_Bool (bytes_eq text name)) [
  | inl e ↦ absurd (apart (ap length ((bytes_eq-Decides text name).0 e)))
  | inr e ↦ sym e
]

word_length : (x : Word) → (2 ≤ length (word_text x)) × (length (word_text x) ≤ 9)
word_length w.Func = (omega arith, omega arith)
word_length x = (omega arith, omega arith)

pub no_short : (name : List ℕ) → length name < 2 → word_of name ≡ None
no_short name h = no_word name (λ x e. let long = (word_length x).0 in absurd (omega (arith, h, long, ap length e)))

pub no_long : (name : List ℕ) → 9 < length name → word_of name ≡ None
no_long name h = no_word name (λ x e. let short = (word_length x).1 in absurd (omega (arith, h, short, ap length e)))
