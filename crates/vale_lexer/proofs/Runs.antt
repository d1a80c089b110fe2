-- The longest run of bytes that pass a test, and when a piece is the longest.
use Rattle.std.proofs.Common.{◌≡◌, ◌≤◌, ◌+◌, ℕ, suc, Bool, true, false, cond, eqb, List, [], ◌∷◌, ◌++◌, length, take, refl, sym, ap, subst, ◌∙◌, arith, Some}
use Rattle.std.specs.List.{prefix_len}
use Rattle.std.proofs.lemmas.Bool.Decides.{nat_tests}
use Rattle.vale_syntax.specs.Bytes.{Each, is_name_byte, is_letter, is_digit, is_comment_byte, is_plain, escape_of, sign_text}
use Rattle.vale_syntax.specs.Cut.{IsPiece, IsLongest, Quoted, empty, plain, escape}
use Rattle.vale_syntax.specs.declared.token.Sign.{Sign}
use Rattle.vale_syntax.specs.declared.token.Sign.TheVariants as s
use Rattle.vale_lexer.proofs.Sorted.{heads, Sorted, sorted, each_all}

-- ---- runs

run_take : (p : ℕ → Bool) (b : ℕ) (bytes : List ℕ) → p b ≡ true → take (prefix_len p (b ∷ bytes)) (b ∷ bytes) ≡ b ∷ take (prefix_len p bytes) bytes
run_take p b bytes is =
    let one : 1 + prefix_len p bytes ≡ suc (prefix_len p bytes) = omega arith in
    rw (is, one) refl

run_each_by : (p : ℕ → Bool) (b : ℕ) (bytes : List ℕ) (t : Bool) → p b ≡ t → Each p (take (prefix_len p bytes) bytes) → Each p (take (cond t (1 + prefix_len p bytes) 0) (b ∷ bytes))
run_each_by p b bytes true is more = let one : 1 + prefix_len p bytes ≡ suc (prefix_len p bytes) = omega arith in rw one (is, more)
run_each_by p b bytes false is more = tt

pub run_each : (p : ℕ → Bool) (bytes : List ℕ) → Each p (take (prefix_len p bytes) bytes)
run_each p [] = tt
run_each p (b ∷ bytes) = run_each_by p b bytes (p b) refl (run_each p bytes)

pub run_first : (p : ℕ → Bool) (b : ℕ) (bytes : List ℕ) → p b ≡ true → (take (prefix_len p (b ∷ bytes)) (b ∷ bytes) ≡ b ∷ take (prefix_len p bytes) bytes) × Each p (take (prefix_len p bytes) bytes)
run_first p b bytes is = (run_take p b bytes is, run_each p bytes)

pub run_longest : (p : ℕ → Bool) (xs back bytes : List ℕ) → bytes ≡ xs ++ back → Each p xs → length xs ≤ prefix_len p bytes
run_longest p [] back bytes e h = omega arith
run_longest p (x ∷ xs) back [] e h = absurd cc
run_longest p (x ∷ xs) back (b ∷ bytes) e h =
    let q = heads b x bytes (xs ++ back) e in
    let yes : p b ≡ true = ap p q.0 ∙ h.0 in
    let less = run_longest p xs back bytes q.1 h.1 in
    rw yes (omega arith)

-- ---- bytes of one line

each_weaker : (p q : ℕ → Bool) → ((b : ℕ) → p b ≡ true → q b ≡ true) → (xs : List ℕ) → Each p xs → Each q xs
each_weaker p q h [] each = tt
each_weaker p q h (x ∷ xs) each = (h x each.0, each_weaker p q h xs each.1)

pub each_append : (p : ℕ → Bool) (xs ys : List ℕ) → Each p xs → Each p ys → Each p (xs ++ ys)
each_append p [] ys h g = g
each_append p (x ∷ xs) ys h g = (h.0, each_append p xs ys h.1 g)

pub name_line : (b : ℕ) → is_name_byte b ≡ true → is_comment_byte b ≡ true
name_line b h = grind (arith, nat_tests)

pub digit_line : (b : ℕ) → is_digit b ≡ true → is_comment_byte b ≡ true
digit_line b h = grind (arith, nat_tests)

pub letter_name : (b : ℕ) → is_letter b ≡ true → is_name_byte b ≡ true
letter_name b h = rw h refl

pub run_line : (p : ℕ → Bool) → ((b : ℕ) → p b ≡ true → is_comment_byte b ≡ true) → (bytes : List ℕ) → Each is_comment_byte (take (prefix_len p bytes) bytes)
run_line p h bytes = each_weaker p is_comment_byte h (take (prefix_len p bytes) bytes) (run_each p bytes)

plain_line : (b : ℕ) → is_plain b ≡ true → is_comment_byte b ≡ true
plain_line b h = grind (arith, nat_tests)

escape_line : (c b : ℕ) (t : Bool) → eqb c 10 ≡ t → escape_of c ≡ Some b → is_comment_byte c ≡ true
escape_line c b t e h = grind (arith, nat_tests)

pub quoted_line : {inner text : List ℕ} → Quoted inner text → Each is_comment_byte inner
quoted_line empty = tt
quoted_line (plain {b} is q) = (plain_line b is, quoted_line q)
quoted_line (escape {c} {b} is q) = (refl, (escape_line c b (eqb c 10) refl is, quoted_line q))

pub sign_line : (x : Sign) → Each is_comment_byte (sign_text x)
sign_line s.OpenBrace = each_all is_comment_byte (sign_text s.OpenBrace) refl
sign_line x = each_all is_comment_byte (sign_text x) refl

-- ---- the longest piece

longest_at : (piece after : List ℕ) (b : ℕ) (more : List ℕ) → piece ++ after ≡ b ∷ more
    → ((xs back : List ℕ) → more ≡ xs ++ back → Sorted b xs → suc (length xs) ≤ length piece)
    → (front back : List ℕ) → piece ++ after ≡ front ++ back → IsPiece front → length front ≤ length piece
longest_at piece after b more e h [] back g p = omega arith
longest_at piece after b more e h (x ∷ xs) back g p =
    let q = heads b x more (xs ++ back) (sym e ∙ g) in
    h xs back q.1 (sorted b xs (subst (λ (z : ℕ). IsPiece (z ∷ xs)) (sym q.0) p))

-- a piece is the longest where each piece that begins with the first byte is no longer
pub longest_by : (piece after : List ℕ) (b : ℕ) (more : List ℕ) → piece ++ after ≡ b ∷ more
    → ((xs back : List ℕ) → more ≡ xs ++ back → Sorted b xs → suc (length xs) ≤ length piece) → IsLongest piece after
longest_by piece after b more e h = λ front back g p. longest_at piece after b more e h front back g p

pub run_bound : (p : ℕ → Bool) (b : ℕ) (xs back more : List ℕ) → p b ≡ true → more ≡ xs ++ back → Each p xs → suc (length xs) ≤ prefix_len p (b ∷ more)
run_bound p b xs back more is e each = run_longest p (b ∷ xs) back (b ∷ more) (ap (λ (z : List ℕ). b ∷ z) e) (is, each)
