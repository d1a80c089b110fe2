-- The first fault of a list of parts, which is walked one after another.
use Rattle.std.proofs.Common.{◌≡◌, ℕ, List, [], ◌∷◌, ◌++◌, ◌+◌, ◌<◌, ◌≤◌, length, get_or, drop, Option, Some, None, ap, sym, ◌∙◌}
use Rattle.std.proofs.lemmas.List.{drop_more}
use Rattle.std.specs.Option.{option_or}
use Rattle.vale_syntax.specs.declared.fault.Fault.{Fault}
use Rattle.vale_rules_spec.specs.Judged.{first_of}
use Rattle.vale_region_spec.proofs.FoundLaws.{first_append}

module _ {X : Type 0} (faults : List X → List Fault) (one : X → List Fault) (more : (x : X) (xs : List X) → faults (x ∷ xs) ≡ one x ++ faults xs)
    (xs : List X) (i : ℕ) (x d : X) (lt : i < length xs) (is : x ≡ get_or xs i d) where
  here : first_of (faults (drop i xs)) ≡ option_or (first_of (one x)) (first_of (faults (drop (i + 1) xs)))
  here =
      ap (λ z. first_of (faults z)) (drop_more xs i d lt ∙ ap (λ y. y ∷ drop (i + 1) xs) (sym is))
      ∙ ap first_of (more x (drop (i + 1) xs))
      ∙ first_append (one x) (faults (drop (i + 1) xs))

  -- it has no fault, so the first is that of what is left
  pub list_next : (whole : Option Fault) → None ≡ first_of (one x) → first_of (faults (drop i xs)) ≡ whole → first_of (faults (drop (i + 1) xs)) ≡ whole
  list_next whole e invariant = ap (λ z. option_or z (first_of (faults (drop (i + 1) xs)))) e ∙ sym here ∙ invariant

  -- it has the first fault
  pub list_found : (whole : Option Fault) (f : Fault) → Some f ≡ first_of (one x) → first_of (faults (drop i xs)) ≡ whole → Some f ≡ whole
  list_found whole f e invariant = ap (λ z. option_or z (first_of (faults (drop (i + 1) xs)))) e ∙ sym here ∙ invariant
