-- What `declare` takes so far.
use Rattle.std.specs.Prelude.{◌≡◌, Bool, true, false}
use Rattle.std.specs.List.{list_all}
use Rattle.vale_syntax.specs.Tree.{Item, struct_item, interface_item, impl_item, function_item, Tree, tree}

-- a struct or a function
abbrev pub is_plain : Item → Bool
is_plain (struct_item n fs) = true
is_plain (interface_item n hs) = false
is_plain (impl_item at i s fs) = false
is_plain (function_item f) = true

-- the tree has no interface and no implementation
abbrev pub HasNoInterface : Tree → Type 0
HasNoInterface (tree names items) = list_all is_plain items ≡ true
