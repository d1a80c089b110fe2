-- Sets of names, given by a test, into which nothing leads from outside.
use Rattle.std.specs.Prelude.{◌≡◌, ℕ, ◌+◌, Bool, true, ◌&&◌, ◌==◌, if◌then◌else◌, List, [], ◌∷◌, flat_map, filter_map, Option, Some, None}
use Rattle.std.specs.List.{list_any}
use Rattle.vale_syntax.specs.Tree.{FieldDecl, Item, struct_item, interface_item, impl_item, function_item}
use Rattle.vale_rules_spec.specs.Reach.{Edge}
use Rattle.vale_rules_spec.specs.Declarations.{field_type, base_of, edge_to}

-- whether the number is in the list
abbrev pub is_in : List ℕ → ℕ → Bool
is_in ms n = list_any (λ m. m == n) ms

-- whether there is an edge from the first to the second
abbrev pub is_edge : List Edge → ℕ → ℕ → Bool
is_edge edges m n = list_any (λ e. e.0 == m && e.1 == n) edges

-- the edges from a struct of this name to what its fields have in them
abbrev pub field_edges : ℕ → List FieldDecl → List Edge
field_edges m fs = flat_map (λ f. edge_to m (base_of (field_type f))) fs

-- the name from which the item leads somewhere, where it does
abbrev pub source_of : Item → Option ℕ
source_of (struct_item n fs) = Some n.name.0
source_of (interface_item n hs) = None
source_of (impl_item at i s fs) = Some i.name.0
source_of (function_item f) = None

abbrev pub sources_of : List Item → List ℕ
sources_of items = filter_map source_of items

-- how many of the names aren't in the set
abbrev pub missing : (ℕ → Bool) → List ℕ → ℕ
missing has [] = 0
missing has (m ∷ ms) = (if has m then 0 else 1) + missing has ms

-- what is in the one is in the other
abbrev pub Within : (ℕ → Bool) → (ℕ → Bool) → Type 0
Within has more = (n : ℕ) → has n ≡ true → more n ≡ true

-- no edge leads into the set from outside
abbrev pub IsClosed : List Edge → (ℕ → Bool) → Type 0
IsClosed edges has = (m : ℕ) → (n : ℕ) → is_edge edges m n ≡ true → has n ≡ true → has m ≡ true

-- the least closed set with these names
pub record IsLeast (edges : List Edge) (ms : List ℕ) (has : ℕ → Bool) : Type 0 where
  pub closed : IsClosed edges has
  pub begins : Within (is_in ms) has
  pub least : (more : ℕ → Bool) → IsClosed edges more → Within (is_in ms) more → Within has more
