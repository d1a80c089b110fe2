-- The rows of declarations list their rules in rising order of the codes.
use Rattle.std.proofs.Common.{◌≡◌, ℕ, List, [], ◌∷◌, refl}
use Rattle.vale_syntax.specs.declared.tree.NameAt.{NameAt}
use Rattle.vale_syntax.specs.declared.position.Position.{Position}
use Rattle.vale_syntax.specs.Tree.{TypeExpr, Head, Item}
use Rattle.vale_rules_spec.specs.Judged.{codes_of}
use Rattle.vale_rules_spec.specs.DeclRules.{iso_rules, head_rules, impl_rules, function_rules}

module _ (names : List (List ℕ)) (items : List Item) where
  iso_codes : (position : Position) (x : TypeExpr) → codes_of (iso_rules items position x) ≡ 14 ∷ 16 ∷ []
  iso_codes position x = refl

  head_codes : (i : NameAt) (before : List Head) (h : Head) → codes_of (head_rules i before h) ≡ 10 ∷ 12 ∷ []
  head_codes i before h = refl

  impl_codes : (before : List Item) (i s : NameAt) (methods : List Head) → codes_of (impl_rules items before i s methods) ≡ 10 ∷ 12 ∷ []
  impl_codes before i s methods = refl

  function_codes : (before : List Item) (h : Head) (declared : ℕ) → codes_of (function_rules names items before h declared) ≡ 10 ∷ 13 ∷ 15 ∷ 17 ∷ []
  function_codes before h declared = refl
