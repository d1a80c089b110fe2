-- Laws of a page's slots, through a body that is put and through a death. What stands on pages cites these.
use Rattle.std.proofs.Common.{◌≡◌, ◌≢◌, ℕ, zero, suc, ◌+◌, ◌-◌, ◌<◌, ◌≤◌, ◌^◌, Bool, true, false, List, [], ◌∷◌, get_or, set, Option, Some, None, cond, refl, sym, ap, subst, ◌∙◌, inl, inr, arith, nat_eq}
use Rattle.std.proofs.lemmas.Bool.{cases_eq, eqb-true, eqb-false}
use Rattle.std.proofs.lemmas.List.{length-set, get_or-set_same, get_or-set_other}
use Rattle.vale_page.specs.PageState.{PageState, IsPage, IsLater, live_count, retired_count, body_of, body_at, retired_at, generation_at, level_at, with_body, with_retired, with_raised, after_death, greatest, base_of}
use Rattle.vale_page.proofs.CountLemmas.{apart_counts, no_some}

-- no number is above the greatest
pub at_most_greatest : (ns : List ℕ) (k : ℕ) → get_or ns k 0 ≤ greatest ns
at_most_greatest [] k = omega arith
at_most_greatest (n ∷ ns) zero = omega arith
at_most_greatest (n ∷ ns) (suc k) = let later = at_most_greatest ns k in omega (arith, later)

module _ {B : Type 0} where
  -- live and retired slots are at most all
  pub page_counts : (p : PageState B) → IsPage p → live_count p + retired_count p ≤ 64
  page_counts p ok =
      let few = apart_counts p.bodies p.retired (cc) (λ k h t. (ok.spent k (omega (arith, ok.bodies)) t).0) in
      omega (arith, few, ok.bodies)

  -- a slot with a body is not retired
  pub not_retired : (p : PageState B) → IsPage p → (slot : ℕ) (body : B) → slot < 64 → body_of p slot ≡ Some body → retired_at p slot ≡ false
  not_retired p ok slot body within there = by_test (retired_at p slot) refl
    where
      by_test : (r : Bool) → retired_at p slot ≡ r → r ≡ false
      by_test false e = refl
      by_test true e = absurd (let none = (ok.spent slot within e).0 in let clash : Some body ≡ None = sym there ∙ none in cc)

  -- a page without live slots has no body
  pub no_body : (p : PageState B) (slot : ℕ) → live_count p ≡ 0 → body_of p slot ≡ None
  no_body p slot none = by_body (body_of p slot) refl
    where
      by_body : (o : Option B) → body_of p slot ≡ o → o ≡ None
      by_body None e = refl
      by_body (Some body) e = absurd (no_some p.bodies slot body e none)

  -- a page with a body has a live slot
  pub some_live : (p : PageState B) (slot : ℕ) (body : B) → body_of p slot ≡ Some body → 0 < live_count p
  some_live p slot body there = by_count (live_count p) refl
    where
      by_count : (n : ℕ) → live_count p ≡ n → 0 < n
      by_count zero none = absurd (no_some p.bodies slot body there none)
      by_count (suc n) some = omega arith

  -- a place that has a body is at its slot's generation
  pub at_generation : (p : PageState B) (slot generation : ℕ) (body : B) → body_at p slot generation ≡ Some body → generation_at p slot ≡ generation
  at_generation p slot generation body at = by_test (nat_eq (generation_at p slot) generation) refl at
    where
      by_test : (b : Bool) → nat_eq (generation_at p slot) generation ≡ b → cond b (body_of p slot) None ≡ Some body → generation_at p slot ≡ generation
      by_test true e at = eqb-true _ _ e
      by_test false e at = absurd (cc)

  -- and has its slot's body
  pub at_body : (p : PageState B) (slot generation : ℕ) (body : B) → body_at p slot generation ≡ Some body → body_of p slot ≡ Some body
  at_body p slot generation body at = by_test (nat_eq (generation_at p slot) generation) at
    where
      by_test : (b : Bool) → cond b (body_of p slot) None ≡ Some body → body_of p slot ≡ Some body
      by_test true at = at
      by_test false at = absurd (cc)

  -- no generation is above the page's base
  pub generation-le-base : (p : PageState B) (slot : ℕ) → generation_at p slot ≤ base_of p
  generation-le-base p slot = at_most_greatest p.generations slot

  pub generation-le-level : (p : PageState B) (slot : ℕ) → IsPage p → slot < 64 → generation_at p slot ≤ level_at p slot
  generation-le-level p slot ok within = by_test (retired_at p slot) (ok.small slot within)
    where
      by_test : (r : Bool) → generation_at p slot < 2 ^ 64 → generation_at p slot ≤ cond r (2 ^ 64) (generation_at p slot)
      by_test true small = omega arith
      by_test false small = omega arith

  -- a slot that isn't retired counts with its generation
  pub level_serves : (p : PageState B) (slot : ℕ) → retired_at p slot ≡ false → level_at p slot ≡ generation_at p slot
  level_serves p slot serves = ap (λ r. cond r (2 ^ 64) (generation_at p slot)) serves

  -- a page that is the same but for its bodies is no earlier
  pub later_same : (p : PageState B) → IsLater p p
  later_same p = record { same_frame = refl; levels = λ slot within. omega arith }

  -- a body put into a slot that isn't retired
  pub page_with_body : (p : PageState B) (slot : ℕ) (body : B) → IsPage p → retired_at p slot ≡ false → IsPage (with_body p slot body)
  page_with_body p slot body ok serves = record {
    generations = ok.generations;
    bodies = length-set p.bodies slot (Some body) ∙ ok.bodies;
    retired = ok.retired;
    spent = λ k h t. elim (cases_eq k slot) [
      | inl same ↦ absurd (let clash : true ≡ false = sym t ∙ ap (retired_at p) same ∙ serves in cc)
      | inr other ↦ (get_or-set_other p.bodies slot k (Some body) None other ∙ (ok.spent k h t).0, (ok.spent k h t).1)
    ];
    small = ok.small;
  }

  -- What holds of a page after a death holds where the slot retires and where its generation rises.
  pub by_death : (P : PageState B → Type 0) (p : PageState B) (slot : ℕ) → (generation_at p slot ≡ 2 ^ 64 - 1 → P (with_retired p slot)) → (generation_at p slot ≢ 2 ^ 64 - 1 → P (with_raised p slot)) → P (after_death p slot)
  by_death P p slot retires raises = by_test (nat_eq (generation_at p slot) (2 ^ 64 - 1)) refl
    where
      by_test : (b : Bool) → nat_eq (generation_at p slot) (2 ^ 64 - 1) ≡ b → P (cond b (with_retired p slot) (with_raised p slot))
      by_test true e = retires (eqb-true _ _ e)
      by_test false e = raises (eqb-false _ _ e)

  pub page_raised : (p : PageState B) (slot : ℕ) (body : B) → IsPage p → slot < 64 → body_of p slot ≡ Some body → generation_at p slot + 1 < 2 ^ 64 → IsPage (with_raised p slot)
  page_raised p slot body ok within there below =
      let serves : retired_at p slot ≡ false = not_retired p ok slot body within there in
      record {
        generations = length-set p.generations slot _ ∙ ok.generations;
        bodies = length-set p.bodies slot None ∙ ok.bodies;
        retired = ok.retired;
        spent = λ k h t. elim (cases_eq k slot) [
          | inl same ↦ absurd (let clash : true ≡ false = sym t ∙ ap (retired_at p) same ∙ serves in cc)
          | inr other ↦ (
            get_or-set_other p.bodies slot k None None other ∙ (ok.spent k h t).0,
            get_or-set_other p.generations slot k _ 0 other ∙ (ok.spent k h t).1,
          )
        ];
        small = λ k h. elim (cases_eq k slot) [
          | inl same ↦ subst (λ s. get_or (set p.generations slot (generation_at p slot + 1)) s 0 < 2 ^ 64) (sym same) (rw (get_or-set_same p.generations slot (generation_at p slot + 1) 0 (omega (arith, ok.generations, within))) below)
          | inr other ↦ rw (get_or-set_other p.generations slot k (generation_at p slot + 1) 0 other) (ok.small k h)
        ];
      }

  pub page_retired : (p : PageState B) (slot : ℕ) → IsPage p → slot < 64 → generation_at p slot ≡ 2 ^ 64 - 1 → IsPage (with_retired p slot)
  page_retired p slot ok within last = record {
    generations = ok.generations;
    bodies = length-set p.bodies slot None ∙ ok.bodies;
    retired = length-set p.retired slot true ∙ ok.retired;
    spent = λ k h t. elim (cases_eq k slot) [
      | inl same ↦ (
        ap (λ s. get_or (set p.bodies slot None) s None) same ∙ get_or-set_same p.bodies slot None None (omega (arith, ok.bodies, within)),
        ap (generation_at p) same ∙ last,
      )
      | inr other ↦
          let was : retired_at p k ≡ true = sym (get_or-set_other p.retired slot k true false other) ∙ t in (
            get_or-set_other p.bodies slot k None None other ∙ (ok.spent k h was).0,
            (ok.spent k h was).1,
          )
    ];
    small = ok.small;
  }

  -- a death keeps a page a page
  pub page_after_death : (p : PageState B) (slot : ℕ) (body : B) → IsPage p → slot < 64 → body_of p slot ≡ Some body → IsPage (after_death p slot)
  page_after_death p slot body ok within there =
      by_death IsPage p slot (page_retired p slot ok within)
      (λ apart. page_raised p slot body ok within there (let small = ok.small slot within in omega (arith, small, apart)))

  module _ (p : PageState B) (slot : ℕ) where
    pub after_body : (k : ℕ) → body_of (after_death p slot) k ≡ get_or (set p.bodies slot None) k None
    after_body k = by_death (λ q. body_of q k ≡ get_or (set p.bodies slot None) k None) p slot (λ _. refl) (λ _. refl)

    pub after_frame : (after_death p slot).frame ≡ p.frame
    after_frame = by_death (λ q. q.frame ≡ p.frame) p slot (λ _. refl) (λ _. refl)

    pub after_generation_other : (k : ℕ) → k ≢ slot → generation_at (after_death p slot) k ≡ generation_at p k
    after_generation_other k apart = by_death (λ q. generation_at q k ≡ generation_at p k) p slot (λ _. refl) (λ _. get_or-set_other p.generations slot k (generation_at p slot + 1) 0 apart)

    pub after_level_other : (k : ℕ) → k ≢ slot → level_at (after_death p slot) k ≡ level_at p k
    after_level_other k apart =
        by_death (λ q. level_at q k ≡ level_at p k) p slot (λ _. ap (λ r. cond r (2 ^ 64) (generation_at p k)) (get_or-set_other p.retired slot k true false apart))
        (λ _. ap (λ n. cond (retired_at p k) (2 ^ 64) n) (get_or-set_other p.generations slot k (generation_at p slot + 1) 0 apart))

    -- after a death the slot's level is one more
    pub after_level_same : (body : B) → IsPage p → slot < 64 → body_of p slot ≡ Some body → level_at (after_death p slot) slot ≡ level_at p slot + 1
    after_level_same body ok within there =
        let serves : retired_at p slot ≡ false = not_retired p ok slot body within there in
        let level : level_at p slot ≡ generation_at p slot = level_serves p slot serves in
        by_death (λ q. level_at q slot ≡ level_at p slot + 1) p slot
        (λ last.
        let retired : get_or (set p.retired slot true) slot false ≡ true = get_or-set_same p.retired slot true false (omega (arith, ok.retired, within)) in
        ap (λ r. cond r (2 ^ 64) (generation_at p slot)) retired ∙ omega (arith, last, level))
        (λ _. ap (λ r. cond r (2 ^ 64) (get_or (set p.generations slot (generation_at p slot + 1)) slot 0)) serves
        ∙ get_or-set_same p.generations slot (generation_at p slot + 1) 0 (omega (arith, ok.generations, within)) ∙ ap (λ n. n + 1) (sym level))

    -- so a death lowers no level
    pub later_after_death : (body : B) → IsPage p → slot < 64 → body_of p slot ≡ Some body → IsLater p (after_death p slot)
    later_after_death body ok within there = record {
      same_frame = after_frame;
      levels = λ k h. elim (cases_eq k slot) [
        | inl same ↦ subst (λ s. level_at p s ≤ level_at (after_death p slot) s) (sym same) (let more = after_level_same body ok within there in omega (arith, more))
        | inr other ↦ let equal = after_level_other k other in omega (arith, equal)
      ];
    }
