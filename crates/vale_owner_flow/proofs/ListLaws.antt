-- A walk over a list, one part more.
use Rattle.std.proofs.Common.{◌≡◌, ℕ, ◌+◌, ◌<◌, ◌≤◌, List, [], ◌∷◌, length, get_or, drop, ap, sym, ◌∙◌}
use Rattle.std.proofs.lemmas.List.{drop_more, drop_all}
use Rattle.vale_owner_flow.specs.FlowView.{FlowView, Kept}

module _ {X : Type 0} (F : List X → FlowView → FlowView) (one : X → FlowView → FlowView) (more : (x : X) (xs : List X) (f : FlowView) → F (x ∷ xs) f ≡ F xs (one x f)) (xs : List X) (i : ℕ) where
  pub list_next : (x d : X) (f g whole : FlowView) → i < length xs → x ≡ get_or xs i d → g ≡ one x f → F (drop i xs) f ≡ whole → F (drop (i + 1) xs) g ≡ whole
  list_next x d f g whole lt is step flow_state =
      ap (λ z. F (drop (i + 1) xs) z) step
      ∙ sym (more x (drop (i + 1) xs) f)
      ∙ ap (λ z. F z f) (sym (drop_more xs i d lt ∙ ap (λ y. y ∷ drop (i + 1) xs) (sym is)))
      ∙ flow_state

pub list_done : {X : Type 0} (F : List X → FlowView → FlowView) (none : (f : FlowView) → F [] f ≡ f) (xs : List X) (i : ℕ) (f whole : FlowView) → length xs ≤ i → F (drop i xs) f ≡ whole → f ≡ whole
list_done F none xs i f whole le flow_state = sym (none f) ∙ ap (λ z. F z f) (sym (drop_all i xs le)) ∙ flow_state

-- the same of the branches of an `if`, beside what is found
module _ {X : Type 0} (G : List X → FlowView → Kept → Kept) (one : X → FlowView → FlowView) (branch : X → FlowView → Kept → Kept) (more : (x : X) (xs : List X) (f : FlowView) (k : Kept) → G (x ∷ xs) f k ≡ G xs (one x f) (branch x f k)) (xs : List X) (i : ℕ) where
  pub branches_next : (x d : X) (f g : FlowView) (k l whole : Kept) → i < length xs → x ≡ get_or xs i d → g ≡ one x f → l ≡ branch x f k → G (drop i xs) f k ≡ whole → G (drop (i + 1) xs) g l ≡ whole
  branches_next x d f g k l whole lt is step step2 flow_state =
      ap (λ z. G (drop (i + 1) xs) z l) step
      ∙ ap (λ z. G (drop (i + 1) xs) (one x f) z) step2
      ∙ sym (more x (drop (i + 1) xs) f k)
      ∙ ap (λ z. G z f k) (sym (drop_more xs i d lt ∙ ap (λ y. y ∷ drop (i + 1) xs) (sym is)))
      ∙ flow_state

pub branches_done : {X : Type 0} (G : List X → FlowView → Kept → Kept) (none : (f : FlowView) (k : Kept) → G [] f k ≡ k) (xs : List X) (i : ℕ) (f : FlowView) (k whole : Kept) → length xs ≤ i → G (drop i xs) f k ≡ whole → k ≡ whole
branches_done G none xs i f k whole le flow_state = sym (none f k) ∙ ap (λ z. G z f k) (sym (drop_all i xs le)) ∙ flow_state
