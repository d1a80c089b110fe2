-- What is kept of the parts that stand before one: their names.
use Rattle.std.specs.Prelude.{◌≡◌, ℕ, List, false}
use Rattle.std.specs.List.{list_any}
use Rattle.std.specs.Option.{option_map_or}
use Rattle.vale_syntax.specs.declared.tree.NameAt.{NameAt}
use Rattle.vale_syntax.specs.Tree.{Item}
use Rattle.vale_rules_spec.specs.Declarations.{same_name, item_name, is_function_with, is_main}
use Rattle.vale_rules_spec.specs.DeclRules.{drops_same}
use Rattle.vale_names.specs.declared.names.Names.{Names}
use Rattle.vale_types.specs.declared.before.Before.{Before}
use Rattle.vale_names.specs.Names.{has}

-- they are the names of these parts
abbrev pub AreNamesOf : {X : Type 0} → (X → NameAt) → Names → List X → Type 0
AreNamesOf name names before = (n : NameAt) → has names n.name.0 ≡ list_any (λ x. same_name n (name x)) before

-- what is kept of the items before one: their names, the structs of their lawful `drop`s, and whether a function named
-- `main` is among them
pub record IsOf (texts : List (List ℕ)) (items before : List Item) (kept : Before) : Type 0 where
  pub names : (n : NameAt) → has kept.names n.name.0 ≡ list_any (λ item. option_map_or (same_name n) (item_name item) false) before
  pub dropped : (n : NameAt) → has kept.dropped n.name.0 ≡ list_any (is_function_with (drops_same texts items n)) before
  pub has_main : kept.has_main ≡ list_any (is_function_with (is_main texts)) before
