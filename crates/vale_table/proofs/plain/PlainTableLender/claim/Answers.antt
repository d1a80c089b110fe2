use Rattle.std.proofs.Common.{◌≡◌, ◌<◌, ℕ, arith, sym, ◌∙◌, get_or, None, length, refl, inl, inr, is_none}
use Rattle.std.proofs.lemmas.List.{get_or_read, length-map}
use Rattle.std.proofs.lemmas.Bool.{cases_lt}
use Rattle.vale_table.proofs.PlainLemmas.{claimed_if, none_home, still_out}
use Rattle.vale_table.proofs.plain.PlainTableLender.claim.Goals as goal

pub returns-then-frame-len-clause-none : goal.returns-then-frame-len-clause-none
returns-then-frame-len-clause-none g c =
    let many = c.self.invariant.many in
    let none : (k : ℕ) → k < length c.self.inside.pages.items → get_or c.self.inside.pages.items k None ≡ None = λ k h. elim (cases_lt k c.self.inside.next) [
      | inl before ↦ c.self.invariant.passed k before
      | inr from ↦ rw c.deref.ensures.value at (c.first_home-frame.ensures.passed k from (omega arith))
    ] in
    rw (← c.self.view_is) (record { full = λ k h. none_home _ none k (omega (arith, length-map c.self.inside.pages.items is_none)); same_hand = λ k. refl })

pub returns-clause-some : goal.returns-clause-some
returns-clause-some g c =
    let many = c.self.invariant.many in
    let within : c.first_home-frame.result < length c.self.inside.pages.items = omega (arith, c.if-frame-len.false, c.first_home-frame.ensures.within) in
    rw (← c.self.view_is, c.take.ensures.after) (claimed_if _ _ _ _ _ c.self.invariant (omega arith)
    (sym (get_or_read c.self.inside.pages.items _ c.index_mut.result.now within c.index_mut.ensures.value None) ∙ sym c.take.ensures.value))

pub returns-clause-known : goal.returns-clause-known
returns-clause-known g c =
    let within : c.first_home-frame.result < length c.self.inside.pages.items = omega (arith, c.if-frame-len.false, c.first_home-frame.ensures.within) in
    rw (← c.self.view_is, c.take.ensures.after) (λ k was. still_out _ c.self.inside.bases.items _ k within was)
