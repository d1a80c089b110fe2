-- What is found at the front of a text is its first piece, or what is wrong there.
use Rattle.std.proofs.Common.{◌≡◌, ◌≤◌, ◌+◌, ◌-◌, ◌^◌, ℕ, suc, Bool, true, false, cond, eqb, ltb, leb, ◌&&◌, inl, inr, List, [], ◌∷◌, ◌++◌, length, take, drop, Option, None, Some, is_some, pos, refl, sym, ap, subst, ◌∙◌, arith, append_assoc, length-append}
use Rattle.std.specs.List.{prefix_len}
use Rattle.std.proofs.lemmas.Bool.{eqb-true, ltb-true, ltb-false, leb-true, leb-false}
use Rattle.std.proofs.lemmas.List.{take-append-drop}
use Rattle.std.proofs.lemmas.List.Folds.{length-prefix_len}
use Rattle.vale_base.specs.Limits.{text_limit}
use Rattle.vale_base.specs.declared.spot.Spot.{Spot}
use Rattle.vale_syntax.specs.Bytes.{Each, is_blank, is_letter, is_digit, is_name_byte, is_comment_byte, value, sign_text}
use Rattle.vale_syntax.specs.Cut.{IsName, IsNumber, IsGap, Means, IsLongest, Quoted, large_number, long_quote, IsWrong, no_token, no_escape, too_large, no_end, behind, BeginsNoEscape, EndsLine}
use Rattle.vale_syntax.specs.declared.token.Sign.{Sign}
use Rattle.vale_syntax.specs.declared.token.TokenKind.TheVariants as k
use Rattle.vale_lexer.specs.declared.pieces.Piece.{Piece}
use Rattle.vale_lexer.specs.declared.pieces.Piece.TheVariants.{End, Blank, Comment, Token, Fault}
use Rattle.vale_lexer.specs.Next.{word_of, name_kind, one_sign, two_sign, sign_at, sign_piece, number_piece, Scan, scan, quote_by, quote_piece, is_comment, next}
use Rattle.vale_lexer.proofs.Scans.{IsStop, at_end, at_mark, at_feed, at_slash, Quoted-scan, scan_is}
use Rattle.vale_lexer.proofs.Sorted.{heads, class, letter_class, digit_class, quote_class, slash_class, zero_class, blank_class, Sorted, sorted, a_blank, a_name, a_number, a_quote, a_comment, a_sign}
use Rattle.vale_lexer.proofs.WordLemmas.{kind_by-Means}
use Rattle.vale_lexer.proofs.SignLemmas.{two_found, one_found, sign_short, two_only, one_only}
use Rattle.vale_lexer.proofs.Runs.{run_each, run_first, run_bound, run_line, each_append, name_line, digit_line, letter_name, quoted_line, sign_line, longest_by}

-- so many bytes at the front of the text, all of one line
pub record IsFront (text : List ℕ) (n : ℕ) : Type 0 where
  pub piece : List ℕ
  pub after : List ℕ
  pub whole : text ≡ piece ++ after
  pub count : length piece ≡ n
  pub line : Each is_comment_byte piece

-- what is found of a text says so much of it
abbrev pub Tells : List ℕ → Piece → Type 0
Tells text End = text ≡ []
Tells text (Blank b) = (after : List ℕ) × (text ≡ b ∷ after) × IsGap (b ∷ []) × IsLongest (b ∷ []) after
Tells text (Comment n) = (f : IsFront text n) × IsGap f.piece × IsLongest f.piece f.after
Tells text (Token kind n) = (f : IsFront text n) × Means f.piece kind × IsLongest f.piece f.after
Tells text (Fault code n) = (f : IsFront text n) × ((from : Spot) → IsWrong from text code (behind from f.piece))

not_both : (x m n : ℕ) → x ≡ m → x ≡ n → (m ≡ n → ⊥) → ⊥
not_both x m n e f h = h (sym e ∙ f)

abbrev run_front : (p : ℕ → Bool) → ((b : ℕ) → p b ≡ true → is_comment_byte b ≡ true) → (text : List ℕ) → IsFront text (prefix_len p text)
run_front p h text = record {
  piece = take (prefix_len p text) text;
  after = drop (prefix_len p text) text;
  whole = sym (take-append-drop (prefix_len p text) text);
  count = length-prefix_len p text;
  line = run_line p h text;
}

-- ---- blanks

blank_bound : (b : ℕ) (xs back more : List ℕ) → class b ≡ 1 → more ≡ xs ++ back → Sorted b xs → suc (length xs) ≤ 1
blank_bound b xs back more c e (a_blank d nil) = omega (arith, ap length nil)
blank_bound b xs back more c e (a_name d each) = absurd (omega (arith, c, d))
blank_bound b xs back more c e (a_number d each) = absurd (omega (arith, c, d))
blank_bound b xs back more c e (a_quote d text q) = absurd (omega (arith, c, d))
blank_bound b xs back more c e (a_comment d q) = absurd (omega (arith, c, d))
blank_bound b xs back more c e (a_sign d x q) = absurd (omega (arith, c, d))

pub blank_longest : (b : ℕ) (more : List ℕ) → is_blank b ≡ true → IsLongest (b ∷ []) more
blank_longest b more is = longest_by (b ∷ []) more b more refl (λ xs back e s. blank_bound b xs back more (blank_class b is) e s)

blank_tells : (b : ℕ) (more : List ℕ) → is_blank b ≡ true → Tells (b ∷ more) (Blank b)
blank_tells b more is = (more, refl, inl (b, refl, is), blank_longest b more is)

-- ---- names and words

name_bound : (b : ℕ) (xs back more : List ℕ) → is_letter b ≡ true → more ≡ xs ++ back → Sorted b xs → suc (length xs) ≤ prefix_len is_name_byte (b ∷ more)
name_bound b xs back more is e (a_name d each) = run_bound is_name_byte b xs back more (letter_name b is) e each
name_bound b xs back more is e (a_blank d nil) = absurd (omega (arith, letter_class b is, d))
name_bound b xs back more is e (a_number d each) = absurd (omega (arith, letter_class b is, d))
name_bound b xs back more is e (a_quote d text q) = absurd (omega (arith, letter_class b is, d))
name_bound b xs back more is e (a_comment d q) = absurd (omega (arith, letter_class b is, d))
name_bound b xs back more is e (a_sign d x q) = absurd (omega (arith, letter_class b is, d))

name_tells : (b : ℕ) (more : List ℕ) → is_letter b ≡ true → Tells (b ∷ more) (Token (name_kind (take (prefix_len is_name_byte (b ∷ more)) (b ∷ more))) (prefix_len is_name_byte (b ∷ more)))
name_tells b more is =
    let f = run_front is_name_byte name_line (b ∷ more) in
    let r = run_first is_name_byte b more (letter_name b is) in
    let name : IsName f.piece = (b, take (prefix_len is_name_byte more) more, r.0, is, r.1) in (
      f,
      kind_by-Means f.piece name (word_of f.piece) refl,
      longest_by f.piece f.after b more (sym f.whole) (λ xs back e s. subst (λ (n : ℕ). suc (length xs) ≤ n) (sym f.count) (name_bound b xs back more is e s)),
    )

-- ---- numbers

number_bound : (b : ℕ) (xs back more : List ℕ) → is_digit b ≡ true → more ≡ xs ++ back → Sorted b xs → suc (length xs) ≤ prefix_len is_digit (b ∷ more)
number_bound b xs back more is e (a_number d each) = run_bound is_digit b xs back more is e each
number_bound b xs back more is e (a_blank d nil) = absurd (omega (arith, digit_class b is, d))
number_bound b xs back more is e (a_name d each) = absurd (omega (arith, digit_class b is, d))
number_bound b xs back more is e (a_quote d text q) = absurd (omega (arith, digit_class b is, d))
number_bound b xs back more is e (a_comment d q) = absurd (omega (arith, digit_class b is, d))
number_bound b xs back more is e (a_sign d x q) = absurd (omega (arith, digit_class b is, d))

abbrev nothing_front : (text : List ℕ) → IsFront text 0
nothing_front text = record { piece = []; after = text; whole = refl; count = refl; line = tt }

number_by : (text : List ℕ) (n : ℕ) (f : IsFront text n) (t : Bool) → IsNumber f.piece → IsLongest f.piece f.after → ltb (value f.piece) (2 ^ 63) ≡ t
    → Tells text (cond t (Token (k.Number (pos (value f.piece))) (length f.piece)) (Fault 3 0))
number_by text n f true is longest e = (record { piece = f.piece; after = f.after; whole = f.whole; count = refl; line = f.line }, (is, ltb-true _ _ e, refl), longest)
number_by text n f false is longest e = (nothing_front text, λ from. too_large f.piece f.after f.whole (large_number is (ltb-false _ _ e)) longest)

number_tells : (b : ℕ) (more : List ℕ) → is_digit b ≡ true → Tells (b ∷ more) (number_piece (take (prefix_len is_digit (b ∷ more)) (b ∷ more)))
number_tells b more is =
    let f = run_front is_digit digit_line (b ∷ more) in
    let some = number_bound b [] more more is refl (a_number (digit_class b is) tt) in
    number_by (b ∷ more) (prefix_len is_digit (b ∷ more)) f (ltb (value f.piece) (2 ^ 63)) (omega (arith, some, f.count), run_each is_digit (b ∷ more))
    (longest_by f.piece f.after b more (sym f.whole) (λ xs back e s. subst (λ (m : ℕ). suc (length xs) ≤ m) (sym f.count) (number_bound b xs back more is e s))) refl

-- ---- quotes

mark_found : (bytes inner text more : List ℕ) → bytes ≡ inner ++ 34 ∷ more → Quoted inner text → scan bytes ≡ record { inner = inner; text = text; rest = 34 ∷ more }
mark_found bytes inner text more e q = ap scan e ∙ Quoted-scan q (34 ∷ more) (at_mark more refl)

-- two quotes at the front are one
pub one_quote : (bytes inner text more inner2 text2 more2 : List ℕ) → bytes ≡ inner ++ 34 ∷ more → Quoted inner text → bytes ≡ inner2 ++ 34 ∷ more2 → Quoted inner2 text2 → inner2 ≡ inner
one_quote bytes inner text more inner2 text2 more2 e q f r =
    ap (λ (s : Scan). s.inner) (sym (mark_found bytes inner2 text2 more2 f r) ∙ mark_found bytes inner text more e q)

quote_bound : (bytes inner text more xs back : List ℕ) → bytes ≡ inner ++ 34 ∷ more → Quoted inner text → bytes ≡ xs ++ back → Sorted 34 xs → suc (length xs) ≤ length (34 ∷ inner ++ 34 ∷ [])
quote_bound bytes inner text more xs back e q f (a_quote d text2 (inner2, is, q2)) =
    let h = heads 34 34 xs (inner2 ++ 34 ∷ []) is in
    let g : bytes ≡ inner2 ++ 34 ∷ back = f ∙ (ap (λ (z : List ℕ). z ++ back) h.1 ∙ append_assoc inner2 (34 ∷ []) back) in
    let same = one_quote bytes inner text more inner2 text2 back e q g q2 in
    omega (arith, ap length h.1, ap length same, length-append inner2 (34 ∷ []), length-append inner (34 ∷ []))
quote_bound bytes inner text more xs back e q f (a_blank d nil) = absurd (omega (arith, quote_class 34 refl, d))
quote_bound bytes inner text more xs back e q f (a_name d each) = absurd (omega (arith, quote_class 34 refl, d))
quote_bound bytes inner text more xs back e q f (a_number d each) = absurd (omega (arith, quote_class 34 refl, d))
quote_bound bytes inner text more xs back e q f (a_comment d h) = absurd (omega (arith, quote_class 34 refl, d))
quote_bound bytes inner text more xs back e q f (a_sign d x h) = absurd (omega (arith, quote_class 34 refl, d))

quote_whole : (bytes inner more : List ℕ) → bytes ≡ inner ++ 34 ∷ more → 34 ∷ bytes ≡ (34 ∷ inner ++ 34 ∷ []) ++ more
quote_whole bytes inner more e = ap (λ (z : List ℕ). 34 ∷ z) (e ∙ sym (append_assoc inner (34 ∷ []) more))

pub quote_longest : (bytes inner text more : List ℕ) → bytes ≡ inner ++ 34 ∷ more → Quoted inner text → IsLongest (34 ∷ inner ++ 34 ∷ []) more
quote_longest bytes inner text more e q =
    longest_by (34 ∷ inner ++ 34 ∷ []) more 34 bytes (sym (quote_whole bytes inner more e)) (λ xs back f s. quote_bound bytes inner text more xs back e q f s)

closed_tells : (bytes inner text more : List ℕ) (n : ℕ) (t : Bool) → bytes ≡ inner ++ 34 ∷ more → Quoted inner text → n ≡ length inner → leb (length text) text_limit ≡ t
    → Tells (34 ∷ bytes) (cond t (Token (k.Quote text) (n + 2)) (Fault 3 0))
closed_tells bytes inner text more n true e q m le = (
  record {
    piece = 34 ∷ inner ++ 34 ∷ [];
    after = more;
    whole = quote_whole bytes inner more e;
    count = omega (arith, m, length-append inner (34 ∷ []));
    line = (refl, each_append is_comment_byte inner (34 ∷ []) (quoted_line q) (refl, tt));
  },
  ((inner, refl, q), leb-true _ _ le),
  quote_longest bytes inner text more e q,
)
closed_tells bytes inner text more n false e q m le =
    (nothing_front (34 ∷ bytes), λ from. too_large (34 ∷ inner ++ 34 ∷ []) more (quote_whole bytes inner more e) (long_quote text (inner, refl, q) (leb-false _ _ le)) (quote_longest bytes inner text more e q))

open_tells : (bytes inner text more : List ℕ) → bytes ≡ inner ++ more → Quoted inner text → EndsLine more → Tells (34 ∷ bytes) (Fault 4 0)
open_tells bytes inner text more e q ends = (nothing_front (34 ∷ bytes), λ from. no_end inner text more (ap (λ (z : List ℕ). 34 ∷ z) e) q ends)

slash_tells : (bytes inner text more : List ℕ) (n : ℕ) → bytes ≡ inner ++ 92 ∷ more → Quoted inner text → n ≡ length inner → BeginsNoEscape more → Tells (34 ∷ bytes) (Fault 2 (n + 1))
slash_tells bytes inner text more n e q m none = (
  record { piece = 34 ∷ inner; after = 92 ∷ more; whole = ap (λ (z : List ℕ). 34 ∷ z) e; count = omega (arith, m); line = (refl, quoted_line q) },
  λ from. no_escape inner text more (ap (λ (z : List ℕ). 34 ∷ z) e) q none,
)

quote_by_tells : (bytes inner text rest : List ℕ) (n : ℕ) → bytes ≡ inner ++ rest → Quoted inner text → n ≡ length inner → IsStop rest → Tells (34 ∷ bytes) (quote_by text n rest)
quote_by_tells bytes inner text rest n e q m (at_end h) =
    subst (λ (r : List ℕ). Tells (34 ∷ bytes) (quote_by text n r)) (sym h) (open_tells bytes inner text [] (e ∙ ap (λ (r : List ℕ). inner ++ r) h) q tt)
quote_by_tells bytes inner text rest n e q m (at_feed more h) =
    subst (λ (r : List ℕ). Tells (34 ∷ bytes) (quote_by text n r)) (sym h) (open_tells bytes inner text (10 ∷ more) (e ∙ ap (λ (r : List ℕ). inner ++ r) h) q refl)
quote_by_tells bytes inner text rest n e q m (at_mark more h) =
    subst (λ (r : List ℕ). Tells (34 ∷ bytes) (quote_by text n r)) (sym h) (closed_tells bytes inner text more n (leb (length text) text_limit) (e ∙ ap (λ (r : List ℕ). inner ++ r) h) q m refl)
quote_by_tells bytes inner text rest n e q m (at_slash more h none) =
    subst (λ (r : List ℕ). Tells (34 ∷ bytes) (quote_by text n r)) (sym h) (slash_tells bytes inner text more n (e ∙ ap (λ (r : List ℕ). inner ++ r) h) q m none)

quote_tells : (bytes : List ℕ) → Tells (34 ∷ bytes) (quote_piece bytes)
quote_tells bytes =
    let s = scan_is bytes in
    quote_by_tells bytes (scan bytes).inner (scan bytes).text (scan bytes).rest (length bytes - length (scan bytes).rest) s.whole s.quoted
    (omega (arith, ap length s.whole, length-append (scan bytes).inner (scan bytes).rest)) s.stop

-- ---- comments

comment_bound : (m xs back : List ℕ) → 47 ∷ m ≡ xs ++ back → Sorted 47 xs → suc (length xs) ≤ prefix_len is_comment_byte (47 ∷ 47 ∷ m)
comment_bound m xs back e (a_comment d (body, is, each)) = run_bound is_comment_byte 47 xs back (47 ∷ m) refl e (subst (λ (z : List ℕ). Each is_comment_byte z) (sym (heads 47 47 xs (47 ∷ body) is).1) (refl, each))
comment_bound m xs back e (a_sign d x is) = omega (arith, ap length is, sign_short x)
comment_bound m xs back e (a_blank d nil) = absurd (omega (arith, slash_class 47 refl, d))
comment_bound m xs back e (a_name d each) = absurd (omega (arith, slash_class 47 refl, d))
comment_bound m xs back e (a_number d each) = absurd (omega (arith, slash_class 47 refl, d))
comment_bound m xs back e (a_quote d text q) = absurd (omega (arith, slash_class 47 refl, d))

two_slashes : (m : List ℕ) → Tells (47 ∷ 47 ∷ m) (Comment (prefix_len is_comment_byte (47 ∷ 47 ∷ m)))
two_slashes m =
    let f = run_front is_comment_byte (λ b h. h) (47 ∷ 47 ∷ m) in
    let r = run_first is_comment_byte 47 (47 ∷ m) refl in
    let q = run_first is_comment_byte 47 m refl in (
      f,
      inr (take (prefix_len is_comment_byte m) m, r.0 ∙ ap (λ (z : List ℕ). 47 ∷ z) q.0, q.1),
      longest_by f.piece f.after 47 (47 ∷ m) (sym f.whole) (λ xs back e s. subst (λ (n : ℕ). suc (length xs) ≤ n) (sym f.count) (comment_bound m xs back e s)),
    )

comment_by : (b c : ℕ) (m : List ℕ) (p q : Bool) → eqb b 47 ≡ p → eqb c 47 ≡ q → (p && q) ≡ true → Tells (b ∷ c ∷ m) (Comment (prefix_len is_comment_byte (b ∷ c ∷ m)))
comment_by b c m true true f g e =
    subst (λ (x : ℕ). Tells (x ∷ c ∷ m) (Comment (prefix_len is_comment_byte (x ∷ c ∷ m)))) (sym (eqb-true b 47 f))
    (subst (λ (x : ℕ). Tells (47 ∷ x ∷ m) (Comment (prefix_len is_comment_byte (47 ∷ x ∷ m)))) (sym (eqb-true c 47 g)) (two_slashes m))
comment_by b c m true false f g e = absurd cc
comment_by b c m false q f g e = absurd cc

comment_tells : (b : ℕ) (more : List ℕ) → is_comment b more ≡ true → Tells (b ∷ more) (Comment (prefix_len is_comment_byte (b ∷ more)))
comment_tells b [] is = absurd cc
comment_tells b (c ∷ m) is = comment_by b c m (eqb b 47) (eqb c 47) refl refl is

-- ---- signs

comment_is : (b : ℕ) (xs back more body : List ℕ) → b ∷ xs ≡ 47 ∷ 47 ∷ body → more ≡ xs ++ back → is_comment b more ≡ true
comment_is b xs back more body e f =
    let q = heads b 47 xs (47 ∷ body) e in
    ap (λ (m : List ℕ). is_comment b m) (f ∙ ap (λ (z : List ℕ). z ++ back) q.1) ∙ ap (λ (x : ℕ). is_comment x ((47 ∷ body) ++ back)) q.0

true_false : (t : Bool) → t ≡ true → t ≡ false → ⊥
true_false t e f = let never : true ≡ false = sym e ∙ f in cc

two_bound : (b : ℕ) (xs back more : List ℕ) → class b ≡ 0 → is_comment b more ≡ false → more ≡ xs ++ back → Sorted b xs → suc (length xs) ≤ 2
two_bound b xs back more c no_slash e (a_comment d (body, is, each)) = absurd (true_false (is_comment b more) (comment_is b xs back more body is e) no_slash)
two_bound b xs back more c no_slash e (a_sign d x is) = omega (arith, ap length is, sign_short x)
two_bound b xs back more c no_slash e (a_blank d nil) = absurd (omega (arith, c, d))
two_bound b xs back more c no_slash e (a_name d each) = absurd (omega (arith, c, d))
two_bound b xs back more c no_slash e (a_number d each) = absurd (omega (arith, c, d))
two_bound b xs back more c no_slash e (a_quote d text q) = absurd (omega (arith, c, d))

-- these bytes are no sign of two
abbrev NoTwo : ℕ → List ℕ → Type 0
NoTwo b [] = Unit {0}
NoTwo b (c ∷ more) = two_sign b c ≡ None

no_long : (b : ℕ) (xs back more : List ℕ) (x : Sign) → NoTwo b more → more ≡ xs ++ back → b ∷ xs ≡ sign_text x → suc (length xs) ≤ 1
no_long b [] back more x none e is = omega arith
no_long b (y ∷ ys) back [] x none e is = absurd cc
no_long b (y ∷ ys) back (c ∷ more) x none e is =
    let q = heads c y more (ys ++ back) e in
    let some : two_sign b c ≡ Some x = ap (two_sign b) q.0 ∙ two_only x b y ys is in
    let never : None ≡ Some x = sym none ∙ some in absurd cc

one_bound : (b : ℕ) (xs back more : List ℕ) → class b ≡ 0 → is_comment b more ≡ false → NoTwo b more → more ≡ xs ++ back → Sorted b xs → suc (length xs) ≤ 1
one_bound b xs back more c no_slash none e (a_comment d (body, is, each)) = absurd (true_false (is_comment b more) (comment_is b xs back more body is e) no_slash)
one_bound b xs back more c no_slash none e (a_sign d x is) = no_long b xs back more x none e is
one_bound b xs back more c no_slash none e (a_blank d nil) = absurd (omega (arith, c, d))
one_bound b xs back more c no_slash none e (a_name d each) = absurd (omega (arith, c, d))
one_bound b xs back more c no_slash none e (a_number d each) = absurd (omega (arith, c, d))
one_bound b xs back more c no_slash none e (a_quote d text q) = absurd (omega (arith, c, d))

is_some_none : (o : Option Sign) → o ≡ None → is_some o ≡ true → ⊥
is_some_none o e f = let never : false ≡ true = ap is_some (sym e) ∙ f in cc

begins_none : (b : ℕ) (xs : List ℕ) → class b ≡ 0 → one_sign b ≡ None → Sorted b xs → ⊥
begins_none b xs c none (a_comment d (body, is, each)) =
    let q = heads b 47 xs (47 ∷ body) is in is_some_none (one_sign b) none (ap (λ (z : ℕ). is_some (one_sign z)) q.0)
begins_none b xs c none (a_sign d x is) = is_some_none (one_sign b) none (one_only x b xs is)
begins_none b xs c none (a_blank d nil) = omega (arith, c, d)
begins_none b xs c none (a_name d each) = omega (arith, c, d)
begins_none b xs c none (a_number d each) = omega (arith, c, d)
begins_none b xs c none (a_quote d text q) = omega (arith, c, d)

one_tells : (b : ℕ) (more : List ℕ) (o : Option Sign) → class b ≡ 0 → is_comment b more ≡ false → NoTwo b more → one_sign b ≡ o → Tells (b ∷ more) (sign_at o 1 (Fault 2 0))
one_tells b more None c no_slash none e = (nothing_front (b ∷ more), λ from. no_token b more refl (λ xs p. begins_none b xs c e (sorted b xs p)))
one_tells b more (Some x) c no_slash none e =
    let is = one_found b x e in (
      record { piece = b ∷ []; after = more; whole = refl; count = refl; line = subst (λ (z : List ℕ). Each is_comment_byte z) is (sign_line x) },
      sym is,
      longest_by (b ∷ []) more b more refl (λ xs back f s. one_bound b xs back more c no_slash none f s),
    )

two_tells : (b c : ℕ) (m : List ℕ) (o : Option Sign) → class b ≡ 0 → is_comment b (c ∷ m) ≡ false → two_sign b c ≡ o → Tells (b ∷ c ∷ m) (sign_at o 2 (sign_at (one_sign b) 1 (Fault 2 0)))
two_tells b c m None z no_slash e = one_tells b (c ∷ m) (one_sign b) z no_slash e refl
two_tells b c m (Some x) z no_slash e =
    let is = two_found b c x e in (
      record { piece = b ∷ c ∷ []; after = m; whole = refl; count = refl; line = subst (λ (z : List ℕ). Each is_comment_byte z) is (sign_line x) },
      sym is,
      longest_by (b ∷ c ∷ []) m b (c ∷ m) refl (λ xs back f s. two_bound b xs back (c ∷ m) z no_slash f s),
    )

sign_tells : (b : ℕ) (more : List ℕ) → class b ≡ 0 → is_comment b more ≡ false → Tells (b ∷ more) (sign_piece b more)
sign_tells b [] c no_slash = one_tells b [] (one_sign b) c no_slash tt refl
sign_tells b (d ∷ m) c no_slash = two_tells b d m (two_sign b d) c no_slash refl

-- ---- whatever comes

by_comment : (b : ℕ) (more : List ℕ) (t : Bool) → class b ≡ 0 → is_comment b more ≡ t → Tells (b ∷ more) (cond t (Comment (prefix_len is_comment_byte (b ∷ more))) (sign_piece b more))
by_comment b more true c is = comment_tells b more is
by_comment b more false c is = sign_tells b more c is

abbrev from_mark : ℕ → List ℕ → Piece
from_mark b more = cond (eqb b 34) (quote_piece more) (cond (is_comment b more) (Comment (prefix_len is_comment_byte (b ∷ more))) (sign_piece b more))

by_mark : (b : ℕ) (more : List ℕ) (t : Bool) → is_blank b ≡ false → is_letter b ≡ false → is_digit b ≡ false → eqb b 34 ≡ t
    → Tells (b ∷ more) (cond t (quote_piece more) (cond (is_comment b more) (Comment (prefix_len is_comment_byte (b ∷ more))) (sign_piece b more)))
by_mark b more true f g h is = subst (λ (x : ℕ). Tells (x ∷ more) (quote_piece more)) (sym (eqb-true b 34 is)) (quote_tells more)
by_mark b more false f g h is = by_comment b more (is_comment b more) (zero_class b f g h is) refl

abbrev from_digit : ℕ → List ℕ → Piece
from_digit b more = cond (is_digit b) (number_piece (take (prefix_len is_digit (b ∷ more)) (b ∷ more))) (from_mark b more)

by_digit : (b : ℕ) (more : List ℕ) (t : Bool) → is_blank b ≡ false → is_letter b ≡ false → is_digit b ≡ t
    → Tells (b ∷ more) (cond t (number_piece (take (prefix_len is_digit (b ∷ more)) (b ∷ more))) (from_mark b more))
by_digit b more true f g is = number_tells b more is
by_digit b more false f g is = by_mark b more (eqb b 34) f g is refl

abbrev from_letter : ℕ → List ℕ → Piece
from_letter b more = cond (is_letter b) (Token (name_kind (take (prefix_len is_name_byte (b ∷ more)) (b ∷ more))) (prefix_len is_name_byte (b ∷ more))) (from_digit b more)

by_letter : (b : ℕ) (more : List ℕ) (t : Bool) → is_blank b ≡ false → is_letter b ≡ t
    → Tells (b ∷ more) (cond t (Token (name_kind (take (prefix_len is_name_byte (b ∷ more)) (b ∷ more))) (prefix_len is_name_byte (b ∷ more))) (from_digit b more))
by_letter b more true f is = name_tells b more is
by_letter b more false f is = by_digit b more (is_digit b) f is refl

by_blank : (b : ℕ) (more : List ℕ) (t : Bool) → is_blank b ≡ t → Tells (b ∷ more) (cond t (Blank b) (from_letter b more))
by_blank b more true is = blank_tells b more is
by_blank b more false is = by_letter b more (is_letter b) is refl

pub next_tells : (text : List ℕ) → Tells text (next text)
unfolding next
next_tells [] = refl
next_tells (b ∷ more) = by_blank b more (is_blank b) refl
