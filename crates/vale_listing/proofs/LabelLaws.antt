-- Walking past labels that rise.
use Rattle.std.proofs.Common.{◌≡◌, ℕ, suc, ◌+◌, ◌<◌, ◌≤◌, true, false, eqb, leb, ltb, List, [], ◌∷◌, ◌++◌, length, get_or, take, drop, drop-cons, ◌-◌, subst, Option, Some, None, refl, sym, ap, ap₂, ◌∙◌, append_assoc, arith, inl, inr}
use Rattle.std.proofs.lemmas.Bool.{and_parts, cases_Bool, leb-true, ltb-true, le-leb, eqb-true, eqb-false, ne_eqb}
use Rattle.std.proofs.lemmas.Grind.{common_steps}
use Rattle.std.proofs.lemmas.List.{append-nil}
use Rattle.vale_cert.specs.Known.{label_at, rise, rise_from}
use Rattle.vale_cert.specs.declared.facts.Label.{Label}
use Rattle.vale_code.specs.declared.instr.Instr.{Instr}
use Rattle.vale_listing.specs.Labels.{rise_at, past}
use Rattle.vale_listing.specs.Listing.{label_line, instr_line, body_lines}

-- nothing stands at a place before labels that rise
pub none_before : (p q : ℕ) (labels : List Label) → rise_from q labels ≡ true → p ≤ q → label_at labels p ≡ None
none_before p q [] h le = refl
none_before p q (l ∷ ls) h le =
    let a = and_parts (ltb q l.at) (rise_from l.at ls) h in
    let lt : q < l.at = ltb-true q l.at a.0 in
    rw (ne_eqb l.at p (λ e. absurd (omega arith))) (none_before p l.at ls a.1 (omega arith))

pub none_at : (p : ℕ) (l : Label) (ls : List Label) → rise_at p (l ∷ ls) ≡ true → eqb l.at p ≡ false → label_at (l ∷ ls) p ≡ None
none_at p l ls h other =
    let a = and_parts (leb p l.at) (rise_from l.at ls) h in
    let le : p ≤ l.at = leb-true p l.at a.0 in
    rw other (none_before p l.at ls a.1 le)

from_rise : (p q : ℕ) (labels : List Label) → rise_from q labels ≡ true → p ≤ suc q → rise_at p labels ≡ true
from_rise p q [] h le = refl
from_rise p q (l ∷ ls) h le =
    let a = and_parts (ltb q l.at) (rise_from l.at ls) h in
    let lt : q < l.at = ltb-true q l.at a.0 in
    rw (le-leb p l.at (omega arith), a.1) refl

-- those that are left rise
pub past_rises : (p : ℕ) (labels : List Label) → rise_at p labels ≡ true → rise_at (p + 1) (past p labels) ≡ true
past_rises p [] h = refl
past_rises p (l ∷ ls) h =
    let a = and_parts (leb p l.at) (rise_from l.at ls) h in
    let le : p ≤ l.at = leb-true p l.at a.0 in
    elim (cases_Bool (eqb l.at p)) [
      | inl t ↦ rw t (from_rise (p + 1) l.at ls a.1 (omega arith))
      | inr t ↦
          let ne = eqb-false l.at p t in
          let lt : p + 1 ≤ l.at = omega (arith, ne) in
          rw t (rw (le-leb (p + 1) l.at lt, a.1) refl)
    ]

-- the label at a later place is among those that are left
pub past_at : (p q : ℕ) (labels : List Label) → p < q → label_at (past p labels) q ≡ label_at labels q
past_at p q [] lt = refl
past_at p q (l ∷ ls) lt =
    elim (cases_Bool (eqb l.at p)) [
      | inl t ↦ let e : l.at ≡ p = eqb-true l.at p t in rw (t, ne_eqb l.at q (λ k. absurd (omega arith))) refl
      | inr t ↦ rw t refl
    ]

same_lines : (a b : List Label) (p : ℕ) (instrs : List Instr) → ((q : ℕ) → p ≤ q → label_at a q ≡ label_at b q) → body_lines a p instrs ≡ body_lines b p instrs
same_lines a b p [] h = refl
same_lines a b p (instr ∷ instrs) h =
    ap₂ (λ (x y : List ℕ). x ++ (instr_line p instr ++ y)) (ap label_line (h p (omega arith))) (same_lines a b (p + 1) instrs (λ q le. h q (omega arith)))

pub past_lines : (p : ℕ) (labels : List Label) (instrs : List Instr) → body_lines (past p labels) (p + 1) instrs ≡ body_lines labels (p + 1) instrs
past_lines p labels instrs = same_lines (past p labels) labels (p + 1) instrs (λ q le. past_at p q labels (omega arith))

pub rise_first : (labels : List Label) → rise labels ≡ true → rise_at 0 labels ≡ true
rise_first [] h = refl
rise_first (l ∷ ls) h = rw (le-leb 0 l.at (omega arith)) h

-- one more instruction is written
pub one_line : (old one two : List ℕ) (labels : List Label) (p : ℕ) (instr : Instr) (instrs : List Instr) (total : List ℕ)
    → one ≡ old ++ label_line (label_at labels p) → two ≡ one ++ instr_line p instr
    → old ++ body_lines labels p (instr ∷ instrs) ≡ total
    → two ++ body_lines (past p labels) (p + 1) instrs ≡ total
one_line old one two labels p instr instrs total e f so_far =
    let whole : two ++ body_lines (past p labels) (p + 1) instrs ≡ ((old ++ label_line (label_at labels p)) ++ instr_line p instr) ++ body_lines labels (p + 1) instrs =
    ap₂ (λ (a b : List ℕ). a ++ b) (f ∙ ap (λ (a : List ℕ). a ++ instr_line p instr) e) (past_lines p labels instrs) in
    let outer = append_assoc (old ++ label_line (label_at labels p)) (instr_line p instr) (body_lines labels (p + 1) instrs) in
    let inner = append_assoc old (label_line (label_at labels p)) (instr_line p instr ++ body_lines labels (p + 1) instrs) in
    whole ∙ (outer ∙ (inner ∙ so_far))

-- the label that stands first isn't at the place
none_first : (p : ℕ) (labels : List Label) (l : Label) → rise_at p labels ≡ true → 1 ≤ length labels → l ≡ get_or labels 0 l → eqb l.at p ≡ false → label_at labels p ≡ None
none_first p [] l h some is other = absurd (omega (arith, some))
none_first p (l ∷ ls) label h some is other = none_at p l ls h (subst (λ (x : Label). eqb x.at p ≡ false) is other)

pub no_line : (text : List ℕ) (p : ℕ) (labels : List Label) (l : Label) → rise_at p labels ≡ true → 1 ≤ length labels → l ≡ get_or labels 0 l → (l.at ≡ p → ⊥) → text ≡ text ++ label_line (label_at labels p)
no_line text p labels l h some is other =
    let none : label_at labels p ≡ None = none_first p labels l h some is (ne_eqb l.at p other) in
    sym (ap (λ (o : Option Label). text ++ label_line o) none ∙ append-nil text)

pub past_none : (p : ℕ) (labels : List Label) (l : Label) → 1 ≤ length labels → l ≡ get_or labels 0 l → eqb l.at p ≡ false → labels ≡ past p labels
past_none p [] l some is other = absurd (omega (arith, some))
past_none p (l ∷ ls) label some is other = let o = subst (λ (x : Label). eqb x.at p ≡ false) is other in rw o refl

-- the label that stands first is at the place
pub at_first : (p : ℕ) (labels : List Label) (l : Label) → 1 ≤ length labels → l ≡ get_or labels 0 l → eqb l.at p ≡ true → label_at labels p ≡ Some l
at_first p [] l some is same = absurd (omega (arith, some))
at_first p (l ∷ ls) label some is same = let o = subst (λ (x : Label). eqb x.at p ≡ true) is same in rw (o, is) refl

pub past_first : (p : ℕ) (labels : List Label) (l : Label) → 1 ≤ length labels → l ≡ get_or labels 0 l → eqb l.at p ≡ true → take (length labels - 1) (drop 1 labels) ≡ past p labels
past_first p [] l some is same = absurd (omega (arith, some))
past_first p (l ∷ ls) label some is same = let o = subst (λ (x : Label). eqb x.at p ≡ true) is same in let all : take (length (l ∷ ls) - 1) (drop 1 (l ∷ ls)) ≡ ls = grind (arith, common_steps) in rw (o, all) refl

-- one more instruction of a list is written
pub next_line : (old one two : List ℕ) (labels left : List Label) (p i : ℕ) (instr : Instr) (body : List Instr) (total : List ℕ)
    → i < length body → instr ≡ get_or body i instr → left ≡ past p labels
    → one ≡ old ++ label_line (label_at labels p) → two ≡ one ++ instr_line p instr
    → old ++ body_lines labels p (drop i body) ≡ total
    → two ++ body_lines left (p + 1) (drop (i + 1) body) ≡ total
next_line old one two labels left p i instr body total lt is past_is e f so_far =
    let more : i + 1 ≡ suc i = omega arith in
    let cut : drop i body ≡ instr ∷ drop (i + 1) body = drop-cons body i instr lt ∙ ap₂ (λ (x : Instr) (n : ℕ). x ∷ drop n body) (sym is) (sym more) in
    let before : old ++ body_lines labels p (instr ∷ drop (i + 1) body) ≡ total = ap (λ (xs : List Instr). old ++ body_lines labels p xs) (sym cut) ∙ so_far in
    rw past_is (one_line old one two labels p instr (drop (i + 1) body) total e f before)
