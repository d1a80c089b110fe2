-- A page whose slots are emptied one after the other.
use Rattle.std.proofs.Common.{◌≡◌, ◌⊎◌, ℕ, ◌+◌, ◌<◌, ◌≤◌, get_or, set, Option, Some, None, cond, refl, sym, ap, subst, ◌∙◌, inl, inr, arith}
use Rattle.std.specs.Prelude.{IfNone, OnSome}
use Rattle.std.proofs.lemmas.Bool.{cases_lt, eq-eqb}
use Rattle.std.proofs.lemmas.List.{get_or-set_same, get_or-set_other, get_or_past}
use Rattle.vale_page.specs.PageState.{PageState, IsPage, body_of, body_at, generation_at, level_at, after_death}
use Rattle.vale_page.proofs.PageLaws.{page_after_death, after_body, after_frame, after_generation_other, after_level_other, after_level_same}
use Rattle.vale_heap.specs.declared.body.Body.{Body}
use Rattle.vale_heap.specs.HeapState.{death_count, IsEmptied}
use Rattle.vale_heap.proofs.HandLaws.{after_generation}

-- the slots below n are emptied, and the others are as they were
pub record IsEmptiedTo (old new : PageState Body) (n : ℕ) : Type 0 where
  pub frame : new.frame ≡ old.frame
  pub page : IsPage new
  pub empty : (slot : ℕ) → slot < n → body_of new slot ≡ None
  pub levels : (slot : ℕ) → slot < n → level_at new slot ≡ level_at old slot + death_count (body_of old slot)
  pub rising : (slot : ℕ) → slot < n → generation_at old slot ≤ generation_at new slot
  pub other_bodies : (slot : ℕ) → n ≤ slot → body_of new slot ≡ body_of old slot
  pub other_levels : (slot : ℕ) → n ≤ slot → level_at new slot ≡ level_at old slot
  pub other_generations : (slot : ℕ) → n ≤ slot → generation_at new slot ≡ generation_at old slot

pub emptied_none : (page : PageState Body) → IsPage page → IsEmptiedTo page page 0
emptied_none page ok = record {
  frame = refl;
  page = ok;
  empty = λ slot h. absurd (omega (arith, h));
  levels = λ slot h. absurd (omega (arith, h));
  rising = λ slot h. absurd (omega (arith, h));
  other_bodies = λ slot _. refl;
  other_levels = λ slot _. refl;
  other_generations = λ slot _. refl;
}

pub emptied_all : (old new : PageState Body) → IsEmptiedTo old new 64 → IsEmptied old new
emptied_all old new is = record {
  frame = is.frame;
  page = is.page;
  levels = is.levels;
  rising = is.rising;
  empty = λ slot. elim (cases_lt slot 64) [
    | inl h ↦ is.empty slot h
    | inr past ↦ get_or_past new.bodies slot None (omega (arith, past, is.page.bodies))
  ];
}

-- a slot below the next is below this one, or is this one
below_next : (slot n : ℕ) → slot < n + 1 → (slot < n) ⊎ (slot ≡ n)
below_next slot n h = elim (cases_lt slot n) [ inl less ↦ inl less | inr past ↦ inr (omega (arith, h, past)) ]

module _ (old new : PageState Body) (n : ℕ) (within : n < 64) (is : IsEmptiedTo old new n) where
  -- the slot's body, by its own generation
  own_body : body_at new n (generation_at new n) ≡ body_of new n
  own_body = ap (λ b. cond b (body_of new n) None) (eq-eqb (generation_at new n) (generation_at new n) refl)

  none_left : body_of new n ≡ None → IsEmptiedTo old new (n + 1)
  none_left none = record {
    frame = is.frame;
    page = is.page;
    empty = λ slot h. elim (below_next slot n h) [ inl less ↦ is.empty slot less | inr same ↦ ap (body_of new) same ∙ none ];
    levels = λ slot h. elim (below_next slot n h) [
      | inl less ↦ is.levels slot less
      | inr same ↦
          let zero_more : death_count (body_of old slot) ≡ 0 = ap death_count (ap (body_of old) same ∙ sym (is.other_bodies n (omega arith)) ∙ none) in
          let level = is.other_levels slot (omega (arith, same)) in
          omega (arith, zero_more, level)
    ];
    rising = λ slot h. elim (below_next slot n h) [ inl less ↦ is.rising slot less | inr same ↦ (let g = is.other_generations slot (omega (arith, same)) in omega (arith, g)) ];
    other_bodies = λ slot h. is.other_bodies slot (omega (arith, h));
    other_levels = λ slot h. is.other_levels slot (omega (arith, h));
    other_generations = λ slot h. is.other_generations slot (omega (arith, h));
  }

  one_died : (body : Body) → body_of new n ≡ Some body → IsEmptiedTo old (after_death new n) (n + 1)
  one_died body there = record {
    frame = after_frame new n ∙ is.frame;
    page = page_after_death new n body is.page within there;
    empty = λ slot h. elim (below_next slot n h) [
      | inl less ↦ after_body new n slot ∙ get_or-set_other new.bodies n slot None None (λ e. omega (arith, less, e)) ∙ is.empty slot less
      | inr same ↦ after_body new n slot ∙ ap (λ k. get_or (set new.bodies n None) k None) same ∙ get_or-set_same new.bodies n None None (omega (arith, is.page.bodies, within))
    ];
    levels = λ slot h. elim (below_next slot n h) [
      | inl less ↦ after_level_other new n slot (λ e. omega (arith, less, e)) ∙ is.levels slot less
      | inr same ↦
          let one_more : death_count (body_of old slot) ≡ 1 = ap death_count (ap (body_of old) same ∙ sym (is.other_bodies n (omega arith)) ∙ there) in
          let level = is.other_levels n (omega arith) in
          let now = after_level_same new n body is.page within there in
          let at : level_at (after_death new n) slot ≡ level_at old n + 1 = ap (level_at (after_death new n)) same ∙ omega (arith, now, level) in
          at ∙ ap (λ k. level_at old k + 1) (sym same) ∙ ap (λ k. level_at old slot + k) (sym one_more)
    ];
    rising = λ slot h. elim (below_next slot n h) [
      | inl less ↦ let g = is.rising slot less in let more = after_generation new n slot in omega (arith, g, more)
      | inr same ↦ let g = is.other_generations slot (omega (arith, same)) in let more = after_generation new n slot in omega (arith, g, more)
    ];
    other_bodies = λ slot h. after_body new n slot ∙ get_or-set_other new.bodies n slot None None (λ e. omega (arith, h, e)) ∙ is.other_bodies slot (omega (arith, h));
    other_levels = λ slot h. after_level_other new n slot (λ e. omega (arith, h, e)) ∙ is.other_levels slot (omega (arith, h));
    other_generations = λ slot h. after_generation_other new n slot (λ e. omega (arith, h, e)) ∙ is.other_generations slot (omega (arith, h));
  }

  pub emptied_next : (after : PageState Body) (result : Option Body) → result ≡ body_at new n (generation_at new n) → IfNone result (after ≡ new) → OnSome result (after ≡ after_death new n) → IsEmptiedTo old after (n + 1)
  emptied_next after None got none some = subst (λ p. IsEmptiedTo old p (n + 1)) (sym none) (none_left (sym (got ∙ own_body)))
  emptied_next after (Some body) got none some = subst (λ p. IsEmptiedTo old p (n + 1)) (sym some) (one_died body (sym (got ∙ own_body)))
