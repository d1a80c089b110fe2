-- Values that are taken out of the registers from one on: what is known of the others then.
use Rattle.std.proofs.Common.{◌≡◌, ℕ, ◌+◌, ◌<◌, ◌≤◌, List, [], ◌∷◌, length, true, sym, ap, ◌∙◌, subst, arith, ⊎_elim}
use Rattle.std.proofs.lemmas.Bool.{cases_eq, cases_lt}
use Rattle.vale_rules_spec.specs.Types.{Ty}
use Rattle.vale_cert.specs.Known.{is_free, agrees}
use Rattle.vale_cert.specs.declared.facts.RegFact.TheVariants.{Empty}
use Rattle.vale_object_facts.proofs.Agreeing.{agrees_same, Facts, put, put_here, put_there}

-- each of the registers is empty then
abbrev pub emptied : List Ty → ℕ → Facts → Facts
emptied [] h F = F
emptied (x ∷ xs) h F = emptied xs (h + 1) (put h Empty F)

-- where nothing is said of the registers from h on, they say nothing then either, and the others what they said
pub emptied_says : (xs : List Ty) (h : ℕ) (F G : Facts) → ((q : ℕ) → q < h → G q ≡ F q) → ((q : ℕ) → h ≤ q → G q ≡ Empty) → ((q : ℕ) → h + length xs ≤ q → F q ≡ Empty) → (q : ℕ) → agrees (G q) (emptied xs h F q) ≡ true
emptied_says [] h F G low above none q =
    ⊎_elim
    (λ lt. subst (λ f. agrees (G q) f ≡ true) (low q lt) (agrees_same (G q)))
    (λ le. subst (λ f. agrees f (F q) ≡ true) (sym (above q le)) (ap is_free (none q (omega (arith, le)))))
    (cases_lt q h)
emptied_says (x ∷ xs) h F G low above none q =
    emptied_says xs (h + 1) (put h Empty F) G
    (λ q lt. ⊎_elim (λ e. above q (omega (arith, e)) ∙ sym (put_here h Empty F q e)) (λ ne. low q (omega (arith, lt, ne)) ∙ sym (put_there h Empty F q ne)) (cases_eq h q))
    (λ q le. above q (omega (arith, le)))
    (λ q le. put_there h Empty F q (λ e. absurd (omega (arith, le, e))) ∙ none q (omega (arith, le))) q
