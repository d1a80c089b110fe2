-- What stands in a quote, part by part.
use Rattle.std.proofs.Common.{◌≡◌, ◌<◌, ◌≤◌, ◌-◌, ℕ, Bool, true, false, cond, eqb, List, [], ◌∷◌, ◌++◌, length, drop, take, Option, None, Some, unwrap_or, refl, sym, ap, subst, ◌∙◌, arith, append_assoc, ◌⊎◌, inl, inr}
use Rattle.std.proofs.lemmas.Bool.{eqb-true}
use Rattle.std.proofs.lemmas.Bool.Decides.{nat_tests}
use Rattle.std.proofs.lemmas.Grind.{common_steps}
use Rattle.vale_syntax.specs.Bytes.{is_plain, escape_of}
use Rattle.vale_syntax.specs.Cut.{Quoted, empty, plain, escape, BeginsNoEscape}
use Rattle.vale_lexer.specs.Next.{part_of, meant, Scan, scan, stopped, with_part, escaped}

-- one part was taken
pub record IsPart (bytes : List ℕ) (s : Scan) (b n : ℕ) : Type 0 where
  pub within : n ≤ length bytes
  pub some : 0 < n
  pub text : s.text ≡ b ∷ (scan (drop n bytes)).text
  pub rest : s.rest ≡ (scan (drop n bytes)).rest

abbrev a_part : ℕ → ℕ → Option (ℕ × ℕ)
a_part b n = Some (b, n)

abbrev no_part : Option (ℕ × ℕ)
no_part = None

part_is : (a b m n : ℕ) → a_part a m ≡ a_part b n → (a ≡ b) × (m ≡ n)
part_is a b m n e = (ap (λ (o : Option (ℕ × ℕ)). (unwrap_or o (0, 0)).0) e, ap (λ (o : Option (ℕ × ℕ)). (unwrap_or o (0, 0)).1) e)

none_some : (b n : ℕ) → no_part ≡ a_part b n → ⊥
none_some b n e = cc

some_none : (b n : ℕ) → a_part b n ≡ no_part → ⊥
some_none b n e = cc

plain_part : (c : ℕ) (more : List ℕ) (b n : ℕ) → a_part c 1 ≡ a_part b n → IsPart (c ∷ more) (with_part (c ∷ []) c (scan more)) b n
plain_part c more b n e =
    let (same, one) = part_is c b 1 n e in
    subst (λ (m : ℕ). IsPart (c ∷ more) (with_part (c ∷ []) c (scan more)) b m) one
    (record { within = omega arith; some = omega arith; text = ap (λ (x : ℕ). x ∷ (scan more).text) same; rest = refl })

escape_part : (c : ℕ) (more : List ℕ) (o : Option ℕ) (b n : ℕ) → meant o ≡ a_part b n → IsPart (92 ∷ c ∷ more) (escaped c more o (scan more)) b n
escape_part c more None b n e = absurd (none_some b n e)
escape_part c more (Some d) b n e =
    let (same, two) = part_is d b 2 n e in
    subst (λ (m : ℕ). IsPart (92 ∷ c ∷ more) (with_part (92 ∷ c ∷ []) d (scan more)) b m) two
    (record { within = omega arith; some = omega arith; text = ap (λ (x : ℕ). x ∷ (scan more).text) same; rest = refl })

slash_part : (c d : ℕ) (more : List ℕ) (b n : ℕ) (t : Bool) → eqb c 92 ≡ t → cond t (meant (escape_of d)) None ≡ a_part b n
    → IsPart (c ∷ d ∷ more) (cond t (escaped d more (escape_of d) (scan more)) (stopped (c ∷ d ∷ more))) b n
slash_part c d more b n true is e =
    subst (λ (x : ℕ). IsPart (x ∷ d ∷ more) (escaped d more (escape_of d) (scan more)) b n) (sym (eqb-true c 92 is)) (escape_part d more (escape_of d) b n e)
slash_part c d more b n false is e = absurd (none_some b n e)

-- at a part the scan goes on after it
pub scan_part : (bytes : List ℕ) (b n : ℕ) → part_of bytes ≡ a_part b n → IsPart bytes (scan bytes) b n
unfolding scan
scan_part [] b n e = absurd (none_some b n e)
scan_part (c ∷ []) b n e =
    (elim (is_plain c) as (λ t. cond t (a_part c 1) no_part ≡ a_part b n → IsPart (c ∷ []) (cond t (with_part (c ∷ []) c (stopped [])) (stopped (c ∷ []))) b n) [
      | true ↦ λ h. plain_part c [] b n h
      | false ↦ λ h. absurd (none_some b n h)
    ]) e
scan_part (c ∷ d ∷ more) b n e =
    (elim (is_plain c) as (λ t. cond t (a_part c 1) (cond (eqb c 92) (meant (escape_of d)) None) ≡ a_part b n → IsPart (c ∷ d ∷ more) (cond t (with_part (c ∷ []) c (scan (d ∷ more))) (cond (eqb c 92) (escaped d more (escape_of d) (scan more)) (stopped (c ∷ d ∷ more)))) b n) [
      | true ↦ λ h. plain_part c (d ∷ more) b n h
      | false ↦ λ h. slash_part c d more b n (eqb c 92) refl h
    ]) e

-- a byte that isn't plain
not_plain : (b : ℕ) → is_plain b ≡ false → (b ≡ 34) ⊎ ((b ≡ 10) ⊎ (b ≡ 92))
not_plain b e = grind (arith, nat_tests)

-- nothing that may stand in a quote is at the front: what is there is the end, a `"`, a line feed, or a `\` that begins no escape
pub data IsStop (rest : List ℕ) : Type 0 where
  at_end : rest ≡ [] → IsStop rest
  at_mark : (more : List ℕ) → rest ≡ 34 ∷ more → IsStop rest
  at_feed : (more : List ℕ) → rest ≡ 10 ∷ more → IsStop rest
  at_slash : (more : List ℕ) → rest ≡ 92 ∷ more → BeginsNoEscape more → IsStop rest

no_meant : (o : Option ℕ) → meant o ≡ no_part → o ≡ None
no_meant None e = refl
no_meant (Some b) e = absurd (some_none b 2 e)

stop_by : (b : ℕ) (more : List ℕ) → (b ≡ 34) ⊎ ((b ≡ 10) ⊎ (b ≡ 92)) → (b ≡ 92 → BeginsNoEscape more) → IsStop (b ∷ more)
stop_by b more (inl e) h = at_mark more (ap (λ (x : ℕ). x ∷ more) e)
stop_by b more (inr (inl e)) h = at_feed more (ap (λ (x : ℕ). x ∷ more) e)
stop_by b more (inr (inr e)) h = at_slash more (ap (λ (x : ℕ). x ∷ more) e) (h e)

stop_one : (b : ℕ) (t : Bool) → is_plain b ≡ t → cond t (a_part b 1) no_part ≡ no_part → IsStop (b ∷ [])
stop_one b true is e = absurd (some_none b 1 e)
stop_one b false is e = stop_by b [] (not_plain b is) (λ h. tt)

slash_is : (b : ℕ) → b ≡ 92 → eqb b 92 ≡ true
slash_is b e = ap (λ (x : ℕ). eqb x 92) e

stop_more : (b c : ℕ) (more : List ℕ) (t : Bool) → is_plain b ≡ t → cond t (a_part b 1) (cond (eqb b 92) (meant (escape_of c)) None) ≡ no_part → IsStop (b ∷ c ∷ more)
stop_more b c more true is e = absurd (some_none b 1 e)
stop_more b c more false is e = stop_by b (c ∷ more) (not_plain b is) (λ h. no_meant (escape_of c) (rw (slash_is b h) at e))

pub stop_is : (rest : List ℕ) → part_of rest ≡ None → IsStop rest
stop_is [] e = at_end refl
stop_is (b ∷ []) e = stop_one b (is_plain b) refl e
stop_is (b ∷ c ∷ more) e = stop_more b c more (is_plain b) refl e

-- at a stop the scan ends
escape_stop : (more : List ℕ) → BeginsNoEscape more → scan (92 ∷ more) ≡ stopped (92 ∷ more)
unfolding scan
escape_stop [] h = refl
escape_stop (c ∷ more) h = ap (λ (o : Option ℕ). escaped c more o (scan more)) h

mark_stop : (more : List ℕ) → scan (34 ∷ more) ≡ stopped (34 ∷ more)
unfolding scan
mark_stop [] = refl
mark_stop (c ∷ more) = refl

feed_stop : (more : List ℕ) → scan (10 ∷ more) ≡ stopped (10 ∷ more)
unfolding scan
feed_stop [] = refl
feed_stop (c ∷ more) = refl

end_stop : scan [] ≡ stopped []
unfolding scan
end_stop = refl

stops_at : (a b : List ℕ) → a ≡ b → scan b ≡ stopped b → scan a ≡ stopped a
stops_at a b e h = subst (λ (x : List ℕ). scan x ≡ stopped x) (sym e) h

pub IsStop-scan : (rest : List ℕ) → IsStop rest → scan rest ≡ stopped rest
IsStop-scan rest (at_end e) = stops_at rest [] e end_stop
IsStop-scan rest (at_mark more e) = stops_at rest (34 ∷ more) e (mark_stop more)
IsStop-scan rest (at_feed more e) = stops_at rest (10 ∷ more) e (feed_stop more)
IsStop-scan rest (at_slash more e h) = stops_at rest (92 ∷ more) e (escape_stop more h)

pub scan_stop : (rest : List ℕ) → part_of rest ≡ None → scan rest ≡ stopped rest
scan_stop rest e = IsStop-scan rest (stop_is rest e)

-- what is left of a list, cut at its length
pub take-rest : (d : ℕ) (xs : List ℕ) → take (length xs - d) (drop d xs) ≡ drop d xs
take-rest d xs = grind (arith, common_steps)

-- one byte more was read
pub taken : (read : List ℕ) (b : ℕ) (more text all : List ℕ) → text ≡ b ∷ more → read ++ text ≡ all → (read ++ b ∷ []) ++ more ≡ all
taken read b more text all e h = rw (append_assoc read (b ∷ []) more) (ap (λ (x : List ℕ). read ++ x) (sym e) ∙ h)

-- ---- what is scanned is what may stand in a quote

scan_plain : (b : ℕ) (more : List ℕ) → is_plain b ≡ true → scan (b ∷ more) ≡ with_part (b ∷ []) b (scan more)
unfolding scan
scan_plain b [] is = rw is
scan_plain b (c ∷ more) is = rw is

scan_escape : (c b : ℕ) (more : List ℕ) → escape_of c ≡ Some b → scan (92 ∷ c ∷ more) ≡ with_part (92 ∷ c ∷ []) b (scan more)
unfolding scan
scan_escape c b more e = ap (λ (o : Option ℕ). escaped c more o (scan more)) e

-- the scan goes through what may stand in a quote, up to a stop
pub Quoted-scan : {inner text : List ℕ} → Quoted inner text → (rest : List ℕ) → IsStop rest → scan (inner ++ rest) ≡ record { inner = inner; text = text; rest = rest }
Quoted-scan empty rest stop = IsStop-scan rest stop
Quoted-scan (plain {b} {inner} {text} is q) rest stop = scan_plain b (inner ++ rest) is ∙ ap (λ (s : Scan). with_part (b ∷ []) b s) (Quoted-scan q rest stop)
Quoted-scan (escape {c} {b} {inner} {text} is q) rest stop = scan_escape c b (inner ++ rest) is ∙ ap (λ (s : Scan). with_part (92 ∷ c ∷ []) b s) (Quoted-scan q rest stop)

-- what a scan finds
pub record IsScan (bytes : List ℕ) (s : Scan) : Type 0 where
  pub whole : bytes ≡ s.inner ++ s.rest
  pub quoted : Quoted s.inner s.text
  pub stop : IsStop s.rest

scanned_stop : (rest : List ℕ) → IsStop rest → IsScan rest (stopped rest)
scanned_stop rest stop = record { whole = refl; quoted = empty; stop = stop }

scanned_plain : (b : ℕ) (more : List ℕ) (s : Scan) → is_plain b ≡ true → IsScan more s → IsScan (b ∷ more) (with_part (b ∷ []) b s)
scanned_plain b more s is h = record { whole = ap (λ (x : List ℕ). b ∷ x) h.whole; quoted = plain is h.quoted; stop = h.stop }

scanned_escape : (c : ℕ) (more : List ℕ) (o : Option ℕ) (s : Scan) → escape_of c ≡ o → IsScan more s → IsScan (92 ∷ c ∷ more) (escaped c more o s)
scanned_escape c more None s is h = scanned_stop (92 ∷ c ∷ more) (at_slash (c ∷ more) refl is)
scanned_escape c more (Some b) s is h = record { whole = ap (λ (x : List ℕ). 92 ∷ c ∷ x) h.whole; quoted = escape is h.quoted; stop = h.stop }

scanned_one : (b : ℕ) (t : Bool) → is_plain b ≡ t → IsScan (b ∷ []) (cond t (with_part (b ∷ []) b (stopped [])) (stopped (b ∷ [])))
scanned_one b true is = scanned_plain b [] (stopped []) is (scanned_stop [] (at_end refl))
scanned_one b false is = scanned_stop (b ∷ []) (stop_by b [] (not_plain b is) (λ h. tt))

not_slash : (b : ℕ) → (b ≡ 34) ⊎ ((b ≡ 10) ⊎ (b ≡ 92)) → eqb b 92 ≡ false → (c : ℕ) (more : List ℕ) → IsStop (b ∷ c ∷ more)
not_slash b k unlike c more = stop_by b (c ∷ more) k (λ h. absurd (let yes = slash_is b h in let never : true ≡ false = sym yes ∙ unlike in cc))

scanned_slash : (b c : ℕ) (more : List ℕ) (t : Bool) → is_plain b ≡ false → eqb b 92 ≡ t → IsScan more (scan more)
    → IsScan (b ∷ c ∷ more) (cond t (escaped c more (escape_of c) (scan more)) (stopped (b ∷ c ∷ more)))
scanned_slash b c more true unlike is h = subst (λ (x : ℕ). IsScan (x ∷ c ∷ more) (escaped c more (escape_of c) (scan more))) (sym (eqb-true b 92 is)) (scanned_escape c more (escape_of c) (scan more) refl h)
scanned_slash b c more false unlike is h = scanned_stop (b ∷ c ∷ more) (not_slash b (not_plain b unlike) is c more)

scanned_more : (b c : ℕ) (more : List ℕ) (t : Bool) → is_plain b ≡ t → IsScan (c ∷ more) (scan (c ∷ more)) → IsScan more (scan more)
    → IsScan (b ∷ c ∷ more) (cond t (with_part (b ∷ []) b (scan (c ∷ more))) (cond (eqb b 92) (escaped c more (escape_of c) (scan more)) (stopped (b ∷ c ∷ more))))
scanned_more b c more true is h g = scanned_plain b (c ∷ more) (scan (c ∷ more)) is h
scanned_more b c more false is h g = scanned_slash b c more (eqb b 92) is refl g

pub scan_is : (bytes : List ℕ) → IsScan bytes (scan bytes)
unfolding scan
scan_is [] = scanned_stop [] (at_end refl)
scan_is (b ∷ []) = scanned_one b (is_plain b) refl
scan_is (b ∷ c ∷ more) = scanned_more b c more (is_plain b) refl (scan_is (c ∷ more)) (scan_is more)
