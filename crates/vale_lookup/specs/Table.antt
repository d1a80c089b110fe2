-- What a table holds: what a program's names are called, by their numbers, and what it declares.
use Rattle.std.specs.Prelude.{ℕ, List, map}
use Rattle.vale_syntax.specs.Tree.{Item}
use Rattle.vale_syntax.specs.View.{view_item}
use Rattle.vale_lookup.specs.declared.table.Table.{Table}

abbrev pub names_of : Table → List (List ℕ)
names_of t = t.names

abbrev pub items_of : Table → List Item
items_of t = map view_item t.items
