-- What the tables of names say of the items.
use Rattle.std.specs.Prelude.{◌≡◌, ℕ, List}
use Rattle.std.specs.List.{list_any}
use Rattle.vale_syntax.specs.declared.tree.NameAt.{NameAt}
use Rattle.vale_syntax.specs.Tree.{Item}
use Rattle.vale_rules_spec.specs.Reach.{is_reached}
use Rattle.vale_rules_spec.specs.Declarations.{is_struct_of, leads, iso_holders}
use Rattle.vale_rules_spec.specs.DeclRules.{is_kind}
use Rattle.vale_types.specs.declared.known.Known.{Known}
use Rattle.vale_names.specs.Names.{has}

-- they have the structs and interfaces, the structs alone, and the names that reach a struct with `iso` in a field's type
pub record Knows (items : List Item) (known : Known) : Type 0 where
  pub kinds : (n : NameAt) → has known.kinds n.name.0 ≡ is_kind items n
  pub structs : (n : NameAt) → has known.structs n.name.0 ≡ list_any (is_struct_of n) items
  pub isos : (n : ℕ) → has known.isos n ≡ list_any (is_reached (leads items) n) (iso_holders items)
