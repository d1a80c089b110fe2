-- The rules of declarations: a row for each kind of node, its rules in rising order of their codes (docs/LANGUAGE.md,
-- "Declarations").
use Rattle.std.specs.Prelude.{ℕ, ◌+◌, Bool, true, false, not, ◌||◌, ◌&&◌, List, [], ◌∷◌, length, nat_le, Option, Some, None, is_some, if◌then◌else◌}
use Rattle.std.specs.List.{list_any}
use Rattle.std.specs.Option.{option_map_or}
use Rattle.vale_base.specs.Limits.{locals_limit}
use Rattle.vale_syntax.specs.declared.tree.NameAt.{NameAt}
use Rattle.vale_syntax.specs.declared.position.Position.{Position}
use Rattle.vale_syntax.specs.declared.position.Position.TheVariants.{Value, Field, Element}
use Rattle.vale_syntax.specs.Tree.{TypeExpr, FieldDecl, Param, Head, Item}
use Rattle.vale_rules_spec.specs.Judged.{Rules, ◌⇒◌}
use Rattle.vale_rules_spec.specs.Declarations.{same_name, is_built_in, field_name, param_name, head_name, head_params, item_name, is_struct_of, is_interface_of, is_impl_of, is_function_with, is_object, is_isolates, reaches_iso, is_main, is_lawful_main, is_drop, drops, heads_of, is_method, are_methods_of}

-- a field or an element never holds a frozen reference
abbrev pub may_hold_frozen : Position → Bool
may_hold_frozen Value = true
may_hold_frozen Field = false
may_hold_frozen Element = false

-- a field never holds isolates
abbrev pub may_hold_isolates : Position → Bool
may_hold_isolates Field = false
may_hold_isolates Value = true
may_hold_isolates Element = true

-- ---- types

-- `[]X`
abbrev pub array_rules : Position → TypeExpr → Rules
array_rules position x = (16, is_isolates x ⇒ may_hold_isolates position) ∷ []

-- `&X`
abbrev pub ref_rules : TypeExpr → Rules
ref_rules x = (16, is_object x) ∷ []

-- `&imm X`
abbrev pub imm_ref_rules : Position → TypeExpr → Rules
imm_ref_rules position x = (16, is_object x && may_hold_frozen position) ∷ []

module _ (items : List Item) where
  -- a struct's or an interface's name
  abbrev pub is_kind : NameAt → Bool
  is_kind n = list_any (is_struct_of n) items || list_any (is_interface_of n) items

  abbrev pub named_rules : NameAt → Rules
  named_rules n = (11, is_kind n) ∷ []

  -- `iso X`
  abbrev pub iso_rules : Position → TypeExpr → Rules
  iso_rules position x = (14, is_object x ⇒ not (reaches_iso items x)) ∷ (16, is_object x && may_hold_isolates position) ∷ []

-- ---- parts of items, each with the earlier ones of its list

abbrev pub field_rules : List FieldDecl → FieldDecl → Rules
field_rules before f = (10, not (list_any (λ g. same_name (field_name f) (field_name g)) before)) ∷ []

abbrev pub param_rules : List Param → Param → Rules
param_rules before p = (10, not (list_any (λ q. same_name (param_name p) (param_name q)) before)) ∷ []

-- the earlier methods have no such name
abbrev pub is_new_method : List Head → Head → Bool
is_new_method before h = not (list_any (λ g. same_name (head_name h) (head_name g)) before)

-- a method of the interface
abbrev pub head_rules : NameAt → List Head → Head → Rules
head_rules i before h = (10, is_new_method before h) ∷ (12, is_method i h) ∷ []

-- a method of an implementation, before its body
abbrev pub method_head_rules : List Head → Head → Rules
method_head_rules before h = (10, is_new_method before h) ∷ []

-- the parameters and the names that the body declares
abbrev pub has_room : Head → ℕ → Bool
has_room h declared = nat_le (length (head_params h) + declared) locals_limit

-- a method of an implementation, with its body
abbrev pub method_rules : Head → ℕ → Rules
method_rules h declared = (17, has_room h declared) ∷ []

-- ---- items, each with the earlier ones

module _ (items : List Item) where
  -- the two names of an implementation
  abbrev pub interface_name_rules : NameAt → Rules
  interface_name_rules i = (11, list_any (is_interface_of i) items) ∷ []

  abbrev pub struct_name_rules : NameAt → Rules
  struct_name_rules s = (11, list_any (is_struct_of s) items) ∷ []

  abbrev pub implements_all : NameAt → NameAt → List Head → Option (List Head) → Bool
  implements_all i s ours None = true
  implements_all i s ours (Some theirs) = are_methods_of i s theirs ours

  abbrev pub impl_rules : List Item → NameAt → NameAt → List Head → Rules
  impl_rules before i s methods =
      (10, not (list_any (is_impl_of i s) before))
      ∷ (12, implements_all i s methods (heads_of i items)) ∷ []

module _ (names : List (List ℕ)) where
  -- neither an earlier item nor a built-in has the name
  abbrev pub is_new_item : List Item → NameAt → Bool
  is_new_item before n = not (is_built_in names n || list_any (λ item. option_map_or (same_name n) (item_name item) false) before)

  -- a struct or an interface
  abbrev pub kind_rules : List Item → NameAt → Rules
  kind_rules before n = (10, is_new_item before n) ∷ []

module _ (names : List (List ℕ)) (items : List Item) where
  -- a lawful `drop` of that struct
  abbrev pub drops_same : NameAt → Head → Bool
  drops_same s h = option_map_or (same_name s) (drops names items h) false

  -- a function named `drop` may have that name again, but for two of one struct
  abbrev pub is_new_drop : List Item → Option NameAt → Bool
  is_new_drop before None = true
  is_new_drop before (Some s) = not (list_any (is_function_with (drops_same s)) before)

  abbrev pub is_new_function : List Item → Head → Bool
  is_new_function before h =
      if is_drop names h then is_new_drop before (drops names items h) else is_new_item names before (head_name h)

  -- the first of the functions named `main`
  abbrev pub is_first_main : List Item → Head → Bool
  is_first_main before h = is_main names h && not (list_any (is_function_with (is_main names)) before)

  abbrev pub function_rules : List Item → Head → ℕ → Rules
  function_rules before h declared =
      (10, is_new_function before h)
      ∷ (13, is_first_main before h ⇒ list_any (is_function_with (is_lawful_main names)) items)
      ∷ (15, is_drop names h ⇒ is_some (drops names items h))
      ∷ (17, has_room h declared) ∷ []

  -- the program
  abbrev pub program_rules : Rules
  program_rules = (13, list_any (is_function_with (is_main names)) items) ∷ []
