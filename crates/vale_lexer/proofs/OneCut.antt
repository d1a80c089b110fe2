-- A text is cut in one way, and has at most one first fault.
use Rattle.std.proofs.Common.{◌≡◌, ◌≤◌, ℕ, List, [], ◌∷◌, ◌++◌, length, refl, sym, ap, subst, ◌∙◌, arith, append_assoc, length-append}
use Rattle.vale_base.specs.declared.spot.Spot.{Spot}
use Rattle.vale_syntax.specs.Cut.{IsPiece, IsGap, Means, IsLongest, Quoted, empty, quote, IsTooLarge, IsWrong, no_token, no_escape, too_large, no_end, behind, EndsLine, BeginsNoEscape, Cuts, none, gap, token, cut, LexFaultAt}
use Rattle.vale_syntax.specs.declared.token.Token.{Token}
use Rattle.vale_syntax.specs.declared.token.TokenKind.{TokenKind}
use Rattle.vale_syntax.specs.declared.token.Tokens.{Tokens}
use Rattle.vale_lexer.specs.Next.{Scan, scan}
use Rattle.vale_lexer.proofs.Scans.{IsStop, at_end, at_mark, at_feed, at_slash, Quoted-scan}
use Rattle.vale_lexer.proofs.Sorted.{heads, cons_no, quote_class, Sorted, sorted, a_blank, a_name, a_number, a_quote, a_comment, a_sign, Means-piece, IsGap-piece, IsTooLarge-piece, IsPiece-some}
use Rattle.vale_lexer.proofs.Alone.{one_kind, gap_or_token, gap_or_large, token_or_large}

-- fronts of one length are one
pub same_front : (a b x y : List ℕ) → a ++ x ≡ b ++ y → length a ≡ length b → (a ≡ b) × (x ≡ y)
same_front [] [] x y e l = (refl, e)
same_front [] (c ∷ b) x y e l = absurd (omega arith)
same_front (c ∷ a) [] x y e l = absurd (omega arith)
same_front (c ∷ a) (d ∷ b) x y e l =
    let q = heads c d (a ++ x) (b ++ y) e in
    let r = same_front a b x y q.1 (omega arith) in
    (ap (λ (z : ℕ). z ∷ a) q.0 ∙ ap (λ (z : List ℕ). d ∷ z) r.0, r.1)

one_piece : (text a b x y : List ℕ) → text ≡ a ++ x → text ≡ b ++ y → IsPiece a → IsPiece b → IsLongest a x → IsLongest b y → (a ≡ b) × (x ≡ y)
one_piece text a b x y e f p q l m =
    let one : length b ≤ length a = l b y (sym e ∙ f) q in
    let two : length a ≤ length b = m a x (sym f ∙ e) p in
    same_front a b x y (sym e ∙ f) (omega arith)

-- ---- where no piece begins

abbrev NoPiece : List ℕ → Type 0
NoPiece text = (piece after : List ℕ) → text ≡ piece ++ after → IsPiece piece → ⊥

token_free : (rest : List ℕ) (b : ℕ) (more : List ℕ) → rest ≡ b ∷ more → ((xs : List ℕ) → IsPiece (b ∷ xs) → ⊥) → (piece after : List ℕ) → rest ≡ piece ++ after → IsPiece piece → ⊥
token_free rest b more e free [] after f p = omega (arith, IsPiece-some [] p)
token_free rest b more e free (x ∷ xs) after f p =
    let q = heads b x more (xs ++ after) (sym e ∙ f) in
    free xs (subst (λ (z : ℕ). IsPiece (z ∷ xs)) (sym q.0) p)

-- a quote goes on to one stop
pub one_stop : (bytes inner text stop inner2 text2 stop2 : List ℕ) → bytes ≡ inner ++ stop → Quoted inner text → IsStop stop → bytes ≡ inner2 ++ stop2 → Quoted inner2 text2 → IsStop stop2 → (inner ≡ inner2) × (stop ≡ stop2)
one_stop bytes inner text stop inner2 text2 stop2 e q s f r t =
    let one : scan bytes ≡ record { inner = inner; text = text; rest = stop } = ap scan e ∙ Quoted-scan q stop s in
    let two : scan bytes ≡ record { inner = inner2; text = text2; rest = stop2 } = ap scan f ∙ Quoted-scan r stop2 t in
    (ap (λ (z : Scan). z.inner) (sym one ∙ two), ap (λ (z : Scan). z.rest) (sym one ∙ two))

quote_stop : (bytes inner text stop xs after : List ℕ) → bytes ≡ inner ++ stop → Quoted inner text → IsStop stop → ((more : List ℕ) → stop ≡ 34 ∷ more → ⊥) → bytes ≡ xs ++ after → Sorted 34 xs → ⊥
quote_stop bytes inner text stop xs after e q s unlike f (a_quote d text2 (inner2, is, q2)) =
    let h = heads 34 34 xs (inner2 ++ 34 ∷ []) is in
    let g : bytes ≡ inner2 ++ 34 ∷ after = f ∙ (ap (λ (z : List ℕ). z ++ after) h.1 ∙ append_assoc inner2 (34 ∷ []) after) in
    unlike after (one_stop bytes inner text stop inner2 text2 (34 ∷ after) e q s g q2 (at_mark after refl)).1
quote_stop bytes inner text stop xs after e q s unlike f (a_blank d nil) = omega (arith, quote_class 34 refl, d)
quote_stop bytes inner text stop xs after e q s unlike f (a_name d each) = omega (arith, quote_class 34 refl, d)
quote_stop bytes inner text stop xs after e q s unlike f (a_number d each) = omega (arith, quote_class 34 refl, d)
quote_stop bytes inner text stop xs after e q s unlike f (a_comment d h) = omega (arith, quote_class 34 refl, d)
quote_stop bytes inner text stop xs after e q s unlike f (a_sign d x h) = omega (arith, quote_class 34 refl, d)

quote_free : (rest inner text stop : List ℕ) → rest ≡ 34 ∷ inner ++ stop → Quoted inner text → IsStop stop → ((more : List ℕ) → stop ≡ 34 ∷ more → ⊥) → (piece after : List ℕ) → rest ≡ piece ++ after → IsPiece piece → ⊥
quote_free rest inner text stop e q s unlike [] after f p = omega (arith, IsPiece-some [] p)
quote_free rest inner text stop e q s unlike (x ∷ xs) after f p =
    let h = heads 34 x (inner ++ stop) (xs ++ after) (sym e ∙ f) in
    quote_stop (inner ++ stop) inner text stop xs after refl q s unlike h.1 (sorted 34 xs (subst (λ (z : ℕ). IsPiece (z ∷ xs)) (sym h.0) p))

unequal : (m n : ℕ) (xs ys : List ℕ) → m ∷ xs ≡ n ∷ ys → (m ≡ n → ⊥) → ⊥
unequal m n xs ys e h = h (heads m n xs ys e).0

line_stop : (more : List ℕ) → EndsLine more → IsStop more
line_stop [] h = at_end refl
line_stop (b ∷ more) h = at_feed more (ap (λ (z : ℕ). z ∷ more) h)

line_unlike : (more : List ℕ) → EndsLine more → (n : ℕ) (xs : List ℕ) → more ≡ n ∷ xs → (n ≡ 10 → ⊥) → ⊥
line_unlike [] h n xs e f = cons_no n xs (sym e)
line_unlike (b ∷ more) h n xs e f = f (sym (heads b n more xs e).0 ∙ h)

escape_free : (rest inner text more : List ℕ) → rest ≡ 34 ∷ inner ++ 92 ∷ more → Quoted inner text → BeginsNoEscape more → NoPiece rest
escape_free rest inner text more e q s = quote_free rest inner text (92 ∷ more) e q (at_slash more refl s) (λ m f. unequal 92 34 more m f (λ g. omega (arith, g)))

end_free : (rest inner text more : List ℕ) → rest ≡ 34 ∷ inner ++ more → Quoted inner text → EndsLine more → NoPiece rest
end_free rest inner text more e q s = quote_free rest inner text more e q (line_stop more s) (λ m f. line_unlike more s 34 m f (λ g. omega (arith, g)))

-- ---- one fault

mark_piece : IsPiece (34 ∷ 34 ∷ [])
mark_piece = quote [] ([], refl, empty)

mark_free : (rest : List ℕ) (b : ℕ) (more xs : List ℕ) → rest ≡ b ∷ more → ((ys : List ℕ) → IsPiece (b ∷ ys) → ⊥) → rest ≡ 34 ∷ xs → ⊥
mark_free rest b more xs e free f =
    let q = heads b 34 more xs (sym e ∙ f) in
    free (34 ∷ []) (subst (λ (z : ℕ). IsPiece (z ∷ 34 ∷ [])) (sym q.0) mark_piece)

tails : (rest xs ys : List ℕ) → rest ≡ 34 ∷ xs → rest ≡ 34 ∷ ys → xs ≡ ys
tails rest xs ys e f = (heads 34 34 xs ys (sym e ∙ f)).1

escape_or_end : (rest inner text more inner2 text2 more2 : List ℕ) → rest ≡ 34 ∷ inner ++ 92 ∷ more → Quoted inner text → BeginsNoEscape more → rest ≡ 34 ∷ inner2 ++ more2 → Quoted inner2 text2 → EndsLine more2 → ⊥
escape_or_end rest inner text more inner2 text2 more2 e q s f r t =
    let h = one_stop (inner ++ 92 ∷ more) inner text (92 ∷ more) inner2 text2 more2 refl q (at_slash more refl s) (tails rest (inner ++ 92 ∷ more) (inner2 ++ more2) e f) r (line_stop more2 t) in
    line_unlike more2 t 92 more (sym h.1) (λ g. omega (arith, g))

escapes_same : (rest inner text more inner2 text2 more2 : List ℕ) → rest ≡ 34 ∷ inner ++ 92 ∷ more → Quoted inner text → BeginsNoEscape more → rest ≡ 34 ∷ inner2 ++ 92 ∷ more2 → Quoted inner2 text2 → BeginsNoEscape more2 → inner ≡ inner2
escapes_same rest inner text more inner2 text2 more2 e q s f r t =
    (one_stop (inner ++ 92 ∷ more) inner text (92 ∷ more) inner2 text2 (92 ∷ more2) refl q (at_slash more refl s) (tails rest (inner ++ 92 ∷ more) (inner2 ++ 92 ∷ more2) e f) r (at_slash more2 refl t)).0

pub one_wrong : (from : Spot) (rest : List ℕ) {c c2 : ℕ} {a a2 : Spot} → IsWrong from rest c a → IsWrong from rest c2 a2 → (c ≡ c2) × (a ≡ a2)
one_wrong from rest (no_token b more e free) (no_token b2 more2 f free2) = (refl, refl)
one_wrong from rest (no_token b more e free) (no_escape inner text more2 f q s) = absurd (mark_free rest b more (inner ++ 92 ∷ more2) e free f)
one_wrong from rest (no_token b more e free) (too_large piece after f l lg) = absurd (token_free rest b more e free piece after f (IsTooLarge-piece piece l))
one_wrong from rest (no_token b more e free) (no_end inner text more2 f q s) = absurd (mark_free rest b more (inner ++ more2) e free f)
one_wrong from rest (no_escape inner text more2 f q s) (no_token b more e free) = absurd (mark_free rest b more (inner ++ 92 ∷ more2) e free f)
one_wrong from rest (no_escape inner text more f q s) (no_escape inner2 text2 more2 f2 q2 s2) = (refl, ap (λ (z : List ℕ). behind from (34 ∷ z)) (escapes_same rest inner text more inner2 text2 more2 f q s f2 q2 s2))
one_wrong from rest (no_escape inner text more e q s) (too_large piece after f l lg) = absurd (escape_free rest inner text more e q s piece after f (IsTooLarge-piece piece l))
one_wrong from rest (no_escape inner text more e q s) (no_end inner2 text2 more2 f q2 s2) = absurd (escape_or_end rest inner text more inner2 text2 more2 e q s f q2 s2)
one_wrong from rest (too_large piece after f l lg) (no_token b more e free) = absurd (token_free rest b more e free piece after f (IsTooLarge-piece piece l))
one_wrong from rest (too_large piece after f l lg) (no_escape inner text more e q s) = absurd (escape_free rest inner text more e q s piece after f (IsTooLarge-piece piece l))
one_wrong from rest (too_large piece after f l lg) (too_large piece2 after2 f2 l2 lg2) = (refl, refl)
one_wrong from rest (too_large piece after f l lg) (no_end inner text more e q s) = absurd (end_free rest inner text more e q s piece after f (IsTooLarge-piece piece l))
one_wrong from rest (no_end inner text more2 f q s) (no_token b more e free) = absurd (mark_free rest b more (inner ++ more2) e free f)
one_wrong from rest (no_end inner2 text2 more2 f q2 s2) (no_escape inner text more e q s) = absurd (escape_or_end rest inner text more inner2 text2 more2 e q s f q2 s2)
one_wrong from rest (no_end inner text more e q s) (too_large piece after f l lg) = absurd (end_free rest inner text more e q s piece after f (IsTooLarge-piece piece l))
one_wrong from rest (no_end inner text more f q s) (no_end inner2 text2 more2 f2 q2 s2) = (refl, refl)

-- ---- one cutting

-- the cutting goes no further: the text ends, or is wrong there
pub data Ends (end : Spot) (left : List ℕ) : Type 0 where
  at_last : left ≡ [] → Ends end left
  at_wrong : (code : ℕ) (at : Spot) → IsWrong end left code at → Ends end left

piece_goes_on : (at : Spot) (text piece after : List ℕ) → text ≡ piece ++ after → IsPiece piece → IsLongest piece after → (IsTooLarge piece → ⊥) → Ends at text → ⊥
piece_goes_on at text piece after e p lg small (at_last f) = omega (arith, IsPiece-some piece p, ap length (sym e ∙ f), length-append piece after)
piece_goes_on at text piece after e p lg small (at_wrong code spot (no_token b more f free)) = token_free text b more f free piece after e p
piece_goes_on at text piece after e p lg small (at_wrong code spot (no_escape inner t more f q s)) = escape_free text inner t more f q s piece after e p
piece_goes_on at text piece after e p lg small (at_wrong code spot (no_end inner t more f q s)) = end_free text inner t more f q s piece after e p
piece_goes_on at text piece after e p lg small (at_wrong code spot (too_large piece2 after2 f l lg2)) =
    let q = one_piece text piece2 piece after2 after f e (IsTooLarge-piece piece2 l) p lg2 lg in
    small (subst IsTooLarge q.0 l)

gap_goes_on : (at : Spot) (text piece after : List ℕ) → text ≡ piece ++ after → IsGap piece → IsLongest piece after → Ends at text → ⊥
gap_goes_on at text piece after e g lg = piece_goes_on at text piece after e (IsGap-piece piece g) lg (gap_or_large piece g)

token_goes_on : (at : Spot) (text piece after : List ℕ) (kind : TokenKind) → text ≡ piece ++ after → Means piece kind → IsLongest piece after → Ends at text → ⊥
token_goes_on at text piece after kind e m lg = piece_goes_on at text piece after e (Means-piece piece kind m) lg (token_or_large piece kind m)

-- a cutting of a text that begins with a gap goes on after it
gap_only : {at end : Spot} {text left : List ℕ} {ts : List Token} → Cuts at text ts end left → Ends end left → (piece after : List ℕ) → text ≡ piece ++ after → IsGap piece → IsLongest piece after → Cuts (behind at piece) after ts end left
gap_only (none {at = at} {text = text}) ends piece after e g lg = absurd (gap_goes_on at text piece after e g lg ends)
gap_only (gap {at = at} {end = end} {text = text} {rest = left} {tokens = ts} piece2 after2 e2 g2 lg2 more) ends piece after e g lg =
    let q = one_piece text piece2 piece after2 after e2 e (IsGap-piece piece2 g2) (IsGap-piece piece g) lg2 lg in
    subst (λ (x : List ℕ). Cuts (behind at x) after ts end left) q.0 (subst (λ (y : List ℕ). Cuts (behind at piece2) y ts end left) q.1 more)
gap_only (token {at = at} {end = end} {text = text} {rest = left} {t = t} {tokens = ts} piece2 after2 e2 m2 lg2 s2 more) ends piece after e g lg =
    let q = one_piece text piece2 piece after2 after e2 e (Means-piece piece2 t.kind m2) (IsGap-piece piece g) lg2 lg in
    absurd (gap_or_token piece t.kind g (subst (λ (x : List ℕ). Means x t.kind) q.0 m2))

-- a token is its kind and its spot
same_token : (t u : Token) → t.kind ≡ u.kind → t.at ≡ u.at → t ≡ u
same_token t u kinds spots =
    let token_of : TokenKind → Spot → Token = λ k a. record { kind = k; at = a } in
    ap (λ k. token_of k t.at) kinds ∙ ap (λ a. token_of u.kind a) spots

-- a cutting of a text that begins with a token begins with it, and goes on after it
pub record HasToken (t : Token) (ts : List Token) (at end : Spot) (after left : List ℕ) : Type 0 where
  pub more : List Token
  pub first : ts ≡ t ∷ more
  pub cuts : Cuts at after more end left

token_only : {at end : Spot} {text left : List ℕ} {ts : List Token} → Cuts at text ts end left → Ends end left → (t : Token) (piece after : List ℕ) → text ≡ piece ++ after → Means piece t.kind → IsLongest piece after → t.at ≡ at → HasToken t ts (behind at piece) end after left
token_only (none {at = at} {text = text}) ends t piece after e m lg s = absurd (token_goes_on at text piece after t.kind e m lg ends)
token_only (gap {at = at} {end = end} {text = text} {rest = left} {tokens = ts} piece2 after2 e2 g2 lg2 more) ends t piece after e m lg s =
    let q = one_piece text piece2 piece after2 after e2 e (IsGap-piece piece2 g2) (Means-piece piece t.kind m) lg2 lg in
    absurd (gap_or_token piece t.kind (subst IsGap q.0 g2) m)
token_only (token {at = at} {end = end} {text = text} {rest = left} {t = u} {tokens = ts} piece2 after2 e2 m2 lg2 s2 more) ends t piece after e m lg s =
    let q = one_piece text piece2 piece after2 after e2 e (Means-piece piece2 u.kind m2) (Means-piece piece t.kind m) lg2 lg in
    let kinds = one_kind piece u.kind t.kind (subst (λ (x : List ℕ). Means x u.kind) q.0 m2) m in
    record {
      more = ts;
      first = ap (λ (z : Token). z ∷ ts) (same_token u t kinds (s2 ∙ sym s));
      cuts = subst (λ (x : List ℕ). Cuts (behind at x) after ts end left) q.0 (subst (λ (y : List ℕ). Cuts (behind at piece2) y ts end left) q.1 more);
    }

-- two cuttings are one
pub record IsSame (ts us : List Token) (end end2 : Spot) (left left2 : List ℕ) : Type 0 where
  pub tokens : ts ≡ us
  pub spot : end ≡ end2
  pub rest : left ≡ left2

stop_only : {at end : Spot} {text left : List ℕ} {ts : List Token} → Cuts at text ts end left → Ends at text → IsSame [] ts at end text left
stop_only none ends = record { tokens = refl; spot = refl; rest = refl }
stop_only (gap {at = at} {end = end} {text = text} {rest = left} {tokens = ts} piece after e g lg more) ends = absurd (gap_goes_on at text piece after e g lg ends)
stop_only (token {at = at} {end = end} {text = text} {rest = left} {t = t} {tokens = ts} piece after e m lg s more) ends = absurd (token_goes_on at text piece after t.kind e m lg ends)

with_first : (t : Token) (ts us vs : List Token) (end end2 : Spot) (left left2 : List ℕ) → vs ≡ t ∷ us → IsSame ts us end end2 left left2 → IsSame (t ∷ ts) vs end end2 left left2
with_first t ts us vs end end2 left left2 e h = record { tokens = ap (λ (z : List Token). t ∷ z) h.tokens ∙ sym e; spot = h.spot; rest = h.rest }

pub one_cut : {at end : Spot} {text left : List ℕ} {ts : List Token} → Cuts at text ts end left → Ends end left → {end2 : Spot} {left2 : List ℕ} {us : List Token} → Cuts at text us end2 left2 → Ends end2 left2 → IsSame ts us end end2 left left2
one_cut none ends d ends2 = stop_only d ends
one_cut (gap piece after e g lg more) ends d ends2 = one_cut more ends (gap_only d ends2 piece after e g lg) ends2
one_cut (token {at = at} {end = end} {text = text} {rest = left} {t = t} {tokens = ts} piece after e m lg s more) ends {end2} {left2} {us} d ends2 =
    let h = token_only d ends2 t piece after e m lg s in
    with_first t ts h.more us end end2 left left2 h.first (one_cut more ends h.cuts ends2)

pub one_tokens : (text : List ℕ) (t u : Tokens) → cut text t → cut text u → t ≡ u
one_tokens text t u c d =
    let h = one_cut c (at_last refl) d (at_last refl) in
    let tokens_of : List Token → Spot → Tokens = λ l e. record { list = l; end = e } in
    ap (λ l. tokens_of l t.end) h.tokens ∙ ap (λ e. tokens_of u.list e) h.spot

wrong_some : (from : Spot) (rest : List ℕ) {c : ℕ} {a : Spot} → IsWrong from rest c a → rest ≡ [] → ⊥
wrong_some from rest (no_token b more e free) f = cons_no b more (sym e ∙ f)
wrong_some from rest (no_escape inner text more e q s) f = cons_no 34 (inner ++ 92 ∷ more) (sym e ∙ f)
wrong_some from rest (no_end inner text more e q s) f = cons_no 34 (inner ++ more) (sym e ∙ f)
wrong_some from rest (too_large piece after e l lg) f = omega (arith, IsPiece-some piece (IsTooLarge-piece piece l), ap length (sym e ∙ f), length-append piece after)

pub no_cut : (text : List ℕ) (code : ℕ) (at : Spot) → LexFaultAt text code at → (t : Tokens) → cut text t → ⊥
no_cut text code at f t c =
    let h = one_cut f.cuts (at_wrong code at f.wrong) c (at_last refl) in
    wrong_some f.from f.rest f.wrong h.rest

pub one_fault : (text : List ℕ) (c c2 : ℕ) (a a2 : Spot) → LexFaultAt text c a → LexFaultAt text c2 a2 → (c ≡ c2) × (a ≡ a2)
one_fault text c c2 a a2 f g =
    let h = one_cut f.cuts (at_wrong c a f.wrong) g.cuts (at_wrong c2 a2 g.wrong) in
    one_wrong g.from g.rest (subst (λ (x : Spot). IsWrong x g.rest c a) h.spot (subst (λ (y : List ℕ). IsWrong f.from y c a) h.rest f.wrong)) g.wrong
