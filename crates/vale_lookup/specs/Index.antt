-- What a table's parts say of its items.
use Rattle.std.specs.Prelude.{◌≡◌, ℕ, Bool, ◌&&◌, nat_eq, List, [], map, Option, Some, None}
use Rattle.std.specs.List.{list_any, slice_get}
use Rattle.std.specs.Option.{option_and_then, option_map_or}
use Rattle.std.specs.HashSet.{contains}
use Rattle.vale_syntax.specs.Tree.{Head, FieldDecl, field_decl, Item, struct_item, interface_item, function_item}
use Rattle.vale_rules_spec.specs.Reach.{is_reached}
use Rattle.vale_rules_spec.specs.Declarations.{head_name, function_head, leads, iso_holders}
use Rattle.vale_rules_spec.specs.Types.{is_impl}
use Rattle.vale_names.specs.declared.names.Names.{Names}
use Rattle.vale_names.specs.Names.{has}
use Rattle.vale_lookup.specs.declared.places.Places.{Places}
use Rattle.vale_lookup.specs.declared.impls.Impls.{Impls}
use Rattle.vale_lookup.specs.Places.{place_in, place_from}

-- ---- the names of structs, interfaces and functions, and of their fields and methods

abbrev pub struct_key : Item → Option ℕ
struct_key (struct_item n fs) = Some n.name.0
struct_key _ = None

abbrev pub interface_key : Item → Option ℕ
interface_key (interface_item n hs) = Some n.name.0
interface_key _ = None

abbrev pub function_key : Item → Option ℕ
function_key (function_item f) = Some (head_name (function_head f)).name.0
function_key _ = None

abbrev pub field_key : FieldDecl → Option ℕ
field_key (field_decl n may_be_set x) = Some n.name.0

abbrev pub method_key : Head → Option ℕ
method_key h = Some (head_name h).name.0

abbrev pub member_keys : Item → List (Option ℕ)
member_keys (struct_item n fs) = map field_key fs
member_keys (interface_item n hs) = map method_key hs
member_keys _ = []

-- ---- the items at their places

abbrev pub fields_in : Item → Option (List FieldDecl)
fields_in (struct_item n fs) = Some fs
fields_in _ = None

abbrev pub methods_in : Item → Option (List Head)
methods_in (interface_item n hs) = Some hs
methods_in _ = None

abbrev pub head_in : Item → Option Head
head_in (function_item f) = Some (function_head f)
head_in _ = None

abbrev pub keys_at : List Item → ℕ → List (Option ℕ)
keys_at items at = option_map_or member_keys (slice_get items at) []

abbrev pub fields_at : List Item → ℕ → Option (List FieldDecl)
fields_at items at = option_and_then fields_in (slice_get items at)

abbrev pub methods_at : List Item → ℕ → Option (List Head)
methods_at items at = option_and_then methods_in (slice_get items at)

abbrev pub head_at : List Item → ℕ → Option Head
head_at items at = option_and_then head_in (slice_get items at)

-- the field or the method of this name, by where it stands among its item's
abbrev pub field_at : List Item → ℕ → ℕ → Option FieldDecl
field_at items at n = option_and_then (λ fs. option_and_then (slice_get fs) (place_from 0 (keys_at items at) n)) (fields_at items at)

abbrev pub method_at : List Item → ℕ → ℕ → Option Head
method_at items at n = option_and_then (λ hs. option_and_then (slice_get hs) (place_from 0 (keys_at items at) n)) (methods_at items at)

-- ---- what is known of the parts

-- the place of a field or a method in the item at this place
abbrev pub member_in : List Places → ℕ → ℕ → Option ℕ
member_in members at n = option_and_then (λ places. place_in places n) (slice_get members at)

abbrev pub HasMembers : List Item → List Places → Type 0
HasMembers items members = (at n : ℕ) → member_in members at n ≡ place_from 0 (keys_at items at) n

-- whether the interface is implemented by the struct
abbrev pub has_impl : Impls → ℕ → ℕ → Bool
has_impl impls i s = contains (λ a b. nat_eq a.0 b.0 && nat_eq a.1 b.1) impls.pairs (i, s)

abbrev pub HasImpls : List Item → Impls → Type 0
HasImpls items impls = (i s : ℕ) → has_impl impls i s ≡ list_any (is_impl s i) items

-- the set has the names that reach a struct in the type of whose fields `iso` stands
abbrev pub HasIsos : List Item → Names → Type 0
HasIsos items isos = (n : ℕ) → has isos n ≡ list_any (is_reached (leads items) n) (iso_holders items)
