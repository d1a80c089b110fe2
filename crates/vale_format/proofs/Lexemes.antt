-- The canonical text of a token is this token again, and the longest piece where nothing runs on.
use Rattle.std.proofs.Common.{◌≡◌, ◌<◌, ◌≤◌, ◌^◌, ℕ, ℤ, suc, Bool, true, false, eqb, List, [], ◌∷◌, ◌++◌, length, pos, refl, sym, ap, subst, ◌∙◌, arith, rules}
use Rattle.std.specs.Fmt.{decimal, signed_decimal}
use Rattle.std.proofs.lemmas.Bool.{eqb-true}
use Rattle.std.proofs.lemmas.Bool.Decides.{nat_tests}
use Rattle.std.proofs.lemmas.Fmt.{digits_decimal, digits_value-decimal, decimal_is_IsNumeral}
use Rattle.std.proofs.lemmas.Str.Parse.{IsNumeralModel, numerals_by_fold}
use Rattle.vale_syntax.specs.Bytes.{Each, is_letter, is_digit, is_name_byte, is_plain, value, value_behind, word_text, sign_text}
use Rattle.vale_syntax.specs.Canon.{escaped, all_escaped, text_of}
use Rattle.vale_syntax.specs.Cut.{IsName, IsNumber, IsLongest, Means, Quoted, empty, plain, escape}
use Rattle.vale_syntax.specs.declared.token.Sign.{Sign}
use Rattle.vale_syntax.specs.declared.token.Sign.TheVariants as s
use Rattle.vale_syntax.specs.declared.token.TokenKind.{TokenKind}
use Rattle.vale_syntax.specs.declared.token.TokenKind.TheVariants as k
use Rattle.vale_lexer.specs.declared.pieces.Piece.{Piece}
use Rattle.vale_lexer.specs.declared.pieces.Piece.TheVariants.{Token}
use Rattle.vale_lexer.specs.Next.{next}
use Rattle.vale_lexer.proofs.OneCut.{same_front}
use Rattle.vale_lexer.proofs.Runs.{longest_by}
use Rattle.vale_lexer.proofs.Sorted.{heads, letter_class, digit_class, Sorted, a_blank, a_name, a_number, a_quote, a_comment, a_sign, word_name}
use Rattle.vale_lexer.proofs.Tells.{Tells, next_tells, quote_longest}
use Rattle.vale_printer.proofs.Apart.{is_wordy, is_short}

-- ---- quotes

escaped_by : (b : ℕ) (p q r t : Bool) → eqb b 10 ≡ p → eqb b 9 ≡ q → eqb b 92 ≡ r → eqb b 34 ≡ t → {inner text : List ℕ} → Quoted inner text → Quoted (escaped b ++ inner) (b ∷ text)
escaped_by b true q r t e f g h {inner} {text} is = subst (λ (x : ℕ). Quoted (escaped x ++ inner) (x ∷ text)) (sym (eqb-true b 10 e)) (escape {c = 110} {b = 10} refl is)
escaped_by b false true r t e f g h {inner} {text} is = subst (λ (x : ℕ). Quoted (escaped x ++ inner) (x ∷ text)) (sym (eqb-true b 9 f)) (escape {c = 116} {b = 9} refl is)
escaped_by b false false true t e f g h {inner} {text} is = subst (λ (x : ℕ). Quoted (escaped x ++ inner) (x ∷ text)) (sym (eqb-true b 92 g)) (escape {c = 92} {b = 92} refl is)
escaped_by b false false false true e f g h {inner} {text} is = subst (λ (x : ℕ). Quoted (escaped x ++ inner) (x ∷ text)) (sym (eqb-true b 34 h)) (escape {c = 34} {b = 34} refl is)
escaped_by b false false false false e f g h {inner} {text} is =
    let stays : is_plain b ≡ true = rw (h, g, e) refl in
    rw (e, f, g, h) (plain stays is)

-- the canonical escapes are read back
all_quoted : (text : List ℕ) → Quoted (all_escaped text) text
all_quoted [] = empty
all_quoted (b ∷ text) = escaped_by b (eqb b 10) (eqb b 9) (eqb b 92) (eqb b 34) refl refl refl refl (all_quoted text)

-- ---- numbers

own : IsNumeralModel (λ ds. Each is_digit ds) (value_behind 0)
own = numerals_by_fold _ (search rules) value_behind (search rules)

number_means : (v : ℕ) → v < 2 ^ 63 → Means (signed_decimal (pos v)) (k.Number (pos v))
number_means v small =
    let within : v < 2 ^ 64 = omega arith in
    let same : value (decimal v) ≡ v = digits_value-decimal own v within in
    let some : 0 < length (decimal v) = (decimal_is_IsNumeral v within).0.0 in
    ((some, digits_decimal own v within), subst (λ (n : ℕ). n < 2 ^ 63) (sym same) small, ap (λ (n : ℕ). pos n) (sym same))

-- ---- what a token is, its canonical text is too

pub means_again : (piece : List ℕ) (kind : TokenKind) → Means piece kind → Means (text_of kind) kind
means_again piece (k.Word x) h = refl
means_again piece (k.Name text) (is, none, e) = (subst IsName (sym e) is, (λ x h. none x (sym e ∙ h)), refl)
means_again piece (k.Number n) (is, small, e) = subst (λ (z : ℤ). Means (signed_decimal z) (k.Number z)) (sym e) (number_means (value piece) small)
means_again piece (k.Quote text) (is, short) = ((all_escaped text, refl, all_quoted text), short)
means_again piece (k.Sign x) h = refl

-- ---- where names and numbers end

-- these bytes don't begin with one that passes the test
abbrev pub StopsAt : (ℕ → Bool) → List ℕ → Type 0
StopsAt p [] = Unit {0}
StopsAt p (b ∷ rest) = p b ≡ false

true_false : (t : Bool) → t ≡ true → t ≡ false → ⊥
true_false t e f = let never : true ≡ false = sym e ∙ f in cc

run_ends : (p : ℕ → Bool) (xs more rest back : List ℕ) → Each p xs → StopsAt p rest → more ++ rest ≡ xs ++ back → length xs ≤ length more
run_ends p [] more rest back each stop e = omega arith
run_ends p (x ∷ xs) [] [] back each stop e = absurd cc
run_ends p (x ∷ xs) [] (b ∷ rest) back each stop e =
    let q = heads b x rest (xs ++ back) e in
    absurd (true_false (p b) (ap p q.0 ∙ each.0) stop)
run_ends p (x ∷ xs) (m ∷ more) rest back each stop e =
    let q = heads m x (more ++ rest) (xs ++ back) e in
    let less = run_ends p xs more rest back each.1 stop q.1 in
    omega arith

name_ends : (b : ℕ) (xs more rest back : List ℕ) → is_letter b ≡ true → StopsAt is_name_byte rest → more ++ rest ≡ xs ++ back → Sorted b xs → suc (length xs) ≤ suc (length more)
name_ends b xs more rest back is stop e (a_name d each) = omega (arith, run_ends is_name_byte xs more rest back each stop e)
name_ends b xs more rest back is stop e (a_blank d nil) = absurd (omega (arith, letter_class b is, d))
name_ends b xs more rest back is stop e (a_number d each) = absurd (omega (arith, letter_class b is, d))
name_ends b xs more rest back is stop e (a_quote d text q) = absurd (omega (arith, letter_class b is, d))
name_ends b xs more rest back is stop e (a_comment d q) = absurd (omega (arith, letter_class b is, d))
name_ends b xs more rest back is stop e (a_sign d x q) = absurd (omega (arith, letter_class b is, d))

name_longest : (piece rest : List ℕ) → IsName piece → StopsAt is_name_byte rest → IsLongest piece rest
name_longest piece rest (b, more, e, is, each) stop =
    subst (λ (z : List ℕ). IsLongest z rest) (sym e) (longest_by (b ∷ more) rest b (more ++ rest) refl (λ xs back f h. name_ends b xs more rest back is stop f h))

digits_end : (b : ℕ) (xs more rest back : List ℕ) → is_digit b ≡ true → StopsAt is_digit rest → more ++ rest ≡ xs ++ back → Sorted b xs → suc (length xs) ≤ suc (length more)
digits_end b xs more rest back is stop e (a_number d each) = omega (arith, run_ends is_digit xs more rest back each stop e)
digits_end b xs more rest back is stop e (a_blank d nil) = absurd (omega (arith, digit_class b is, d))
digits_end b xs more rest back is stop e (a_name d each) = absurd (omega (arith, digit_class b is, d))
digits_end b xs more rest back is stop e (a_quote d text q) = absurd (omega (arith, digit_class b is, d))
digits_end b xs more rest back is stop e (a_comment d q) = absurd (omega (arith, digit_class b is, d))
digits_end b xs more rest back is stop e (a_sign d x q) = absurd (omega (arith, digit_class b is, d))

number_longest : (piece rest : List ℕ) → IsNumber piece → StopsAt is_digit rest → IsLongest piece rest
number_longest [] rest (some, each) stop = absurd (omega arith)
number_longest (b ∷ more) rest (some, each) stop = longest_by (b ∷ more) rest b (more ++ rest) refl (λ xs back f h. digits_end b xs more rest back each.0 stop f h)

digit_stops : (rest : List ℕ) → StopsAt is_name_byte rest → StopsAt is_digit rest
digit_stops [] stop = tt
digit_stops (b ∷ rest) stop = grind (arith, nat_tests)

-- ---- where signs end

-- these bytes begin with none that makes a sign longer
abbrev pub NoMore : List ℕ → Type 0
NoMore [] = Unit {0}
NoMore (b ∷ rest) = (eqb b 46 ≡ false) × (eqb b 61 ≡ false) × (eqb b 47 ≡ false)

sign_next : (x : Sign) (rest : List ℕ) → (is_short (k.Sign x) ≡ true → NoMore rest) → next (sign_text x ++ rest) ≡ Token (k.Sign x) (length (sign_text x))
unfolding next
sign_next s.Dot [] h = refl
sign_next s.Dot (b ∷ rest) h = let e : eqb b 46 ≡ false = (h refl).0 in rw e refl
sign_next s.Bang [] h = refl
sign_next s.Bang (b ∷ rest) h = let e : eqb b 61 ≡ false = (h refl).1 in rw e refl
sign_next s.Assign [] h = refl
sign_next s.Assign (b ∷ rest) h = let e : eqb b 61 ≡ false = (h refl).1 in rw e refl
sign_next s.Less [] h = refl
sign_next s.Less (b ∷ rest) h = let e : eqb b 61 ≡ false = (h refl).1 in rw e refl
sign_next s.Greater [] h = refl
sign_next s.Greater (b ∷ rest) h = let e : eqb b 61 ≡ false = (h refl).1 in rw e refl
sign_next s.Slash [] h = refl
sign_next s.Slash (b ∷ rest) h = let e : eqb b 47 ≡ false = (h refl).2 in rw e refl
sign_next x [] h = refl
sign_next x (b ∷ rest) h = refl

sign_longest : (x : Sign) (rest : List ℕ) → (is_short (k.Sign x) ≡ true → NoMore rest) → IsLongest (sign_text x) rest
sign_longest x rest h =
    let (f, m, lg) = subst (λ (z : Piece). Tells (sign_text x ++ rest) z) (sign_next x rest h) (next_tells (sign_text x ++ rest)) in
    let q = same_front f.piece (sign_text x) f.after rest (sym f.whole) (ap length m) in
    subst (λ (z : List ℕ). IsLongest z rest) q.0 (subst (λ (z : List ℕ). IsLongest f.piece z) q.1 lg)

-- ---- any token

pub lexeme_longest : (kind : TokenKind) (rest : List ℕ) → Means (text_of kind) kind → (is_wordy kind ≡ true → StopsAt is_name_byte rest) → (is_short kind ≡ true → NoMore rest) → IsLongest (text_of kind) rest
lexeme_longest (k.Word x) rest m stop none = name_longest (word_text x) rest (word_name x) (stop refl)
lexeme_longest (k.Name text) rest m stop none = name_longest text rest m.0 (stop refl)
lexeme_longest (k.Number n) rest m stop none = number_longest (signed_decimal n) rest m.0 (digit_stops rest (stop refl))
lexeme_longest (k.Quote text) rest m stop none = quote_longest (all_escaped text ++ 34 ∷ rest) (all_escaped text) text rest refl (all_quoted text)
lexeme_longest (k.Sign x) rest m stop none = sign_longest x rest none
