-- The fields of structs and the functions of a program, as they are kept by name.
use Rattle.std.specs.Prelude.{◌≡◌, ℕ, ◌+◌, ◌&&◌, nat_eq, List, [], ◌∷◌, map, flat_map, Option, Some, None, if◌then◌else◌}
use Rattle.std.specs.Option.{option_map_or}
use Rattle.std.specs.HashMap.{get}
use Rattle.vale_syntax.specs.View.{view_field}
use Rattle.vale_syntax.specs.Tree.{FieldDecl}
use Rattle.vale_rules_spec.specs.Typed as t
use Rattle.vale_core.specs.declared.tree.Item.{Item}
use Rattle.vale_core.specs.View.{view_item}
use Rattle.vale_model.specs.Parts.{fields_in, place_of_field, has_name}
use Rattle.vale_lower_tables.specs.declared.fields.Listed.{Listed}
use Rattle.vale_lower_tables.specs.declared.fields.Placed.{Placed}
use Rattle.vale_lower_tables.specs.declared.functions.Numbers.{Numbers}

-- ---- fields

-- those that are kept of a struct
abbrev pub fields_at : Listed → ℕ → List FieldDecl
fields_at l s = option_map_or (λ v. map (λ f. view_field f.now) v.items) (get nat_eq l.by_struct s) []

-- they are those of the items
abbrev pub AreFields : List Item → Listed → Type 0
AreFields items l = (s : ℕ) → fields_at l s ≡ flat_map (fields_in s) (map view_item items)

-- where the first field of a name stands among those of a struct
abbrev pub place_at : Placed → ℕ → ℕ → Option ℕ
place_at p s n = get (λ a b. nat_eq a.0 b.0 && nat_eq a.1 b.1) p.places (s, n)

abbrev pub ArePlaced : Listed → Placed → Type 0
ArePlaced l p = (s n : ℕ) → place_at p s n ≡ place_of_field n (fields_at l s)

-- ---- functions

-- the number of the first function of a name, among those from a number on
abbrev pub first_place : ℕ → ℕ → List t.Function → Option ℕ
first_place at n [] = None
first_place at n (f ∷ fs) = if has_name n f then Some at else first_place (at + 1) n fs

abbrev pub number_at : Numbers → ℕ → Option ℕ
number_at t n = get nat_eq t.places n

abbrev pub AreNumbers : List t.Function → Numbers → Type 0
AreNumbers fs t = (n : ℕ) → number_at t n ≡ first_place 0 n fs
