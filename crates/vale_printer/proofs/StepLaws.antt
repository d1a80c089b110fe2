-- How the parts that are added follow one another.
use Rattle.std.proofs.Common.{◌≡◌, ℕ, List, ◌++◌, sym, ap, ◌∙◌, append_assoc}
use Rattle.std.specs.Prelude.{Result, Ok, Err, OnOk}
use Rattle.std.proofs.lemmas.Grind.{flat_map-append}
use Rattle.vale_syntax.specs.Canon.{rendered, piece_text}
use Rattle.vale_syntax.specs.Layout.{Layout}

pub split : (p q : Layout) → rendered (p ++ q) ≡ rendered p ++ rendered q
split p q = flat_map-append piece_text p q

-- one part, and then another
pub step : (p q : Layout) (a : List ℕ) {b c : List ℕ} → b ≡ a ++ rendered p → c ≡ b ++ rendered q → c ≡ a ++ rendered (p ++ q)
step p q a e f =
    f ∙ ap (λ (z : List ℕ). z ++ rendered q) e ∙ append_assoc a (rendered p) (rendered q) ∙ ap (λ (z : List ℕ). a ++ z) (sym (split p q))

-- the last of the parts of a whole
pub finish : {U E : Type 0} (p q w : Layout) (r : Result U E) (a c : List ℕ) {b : List ℕ} → w ≡ p ++ q → b ≡ a ++ rendered p → OnOk r (c ≡ b ++ rendered q) → OnOk r (c ≡ a ++ rendered w)
finish p q w (Ok u) a c e h i = step p q a h i ∙ ap (λ (z : Layout). a ++ rendered z) (sym e)
finish p q w (Err x) a c e h i = tt
