-- What a program declares, and what its names and types mean (docs/LANGUAGE.md, "Declarations").
use Rattle.std.specs.Prelude.{ℕ, ◌+◌, Bool, true, false, not, ◌||◌, ◌&&◌, ◌==◌, List, [], ◌∷◌, Option, Some, None, codes, bytes_eq, slice_get, if◌then◌else◌, flat_map, filter_map}
use Rattle.std.specs.List.{list_any, list_all}
use Rattle.std.specs.Option.{option_map_or}
use Rattle.vale_syntax.specs.declared.tree.NameAt.{NameAt}
use Rattle.vale_syntax.specs.declared.decls.Declared.{Declared}
use Rattle.vale_syntax.specs.declared.decls.Implemented.{Implemented}
use Rattle.vale_syntax.specs.declared.decls.Decls.{Decls}
use Rattle.vale_syntax.specs.Tree.{TypeExpr, int_type, bool_type, str_type, named_type, array_type, ref_type, imm_ref_type, iso_type, Param, param, Head, head, Function, function, FieldDecl, field_decl, Item, struct_item, interface_item, impl_item, function_item}
use Rattle.vale_rules_spec.specs.Reach.{Edge, is_reached}

-- ---- names: two are the same where their numbers are, since no text stands twice among a tree's names

abbrev pub same_name : NameAt → NameAt → Bool
same_name m n = m.name.0 == n.name.0

abbrev pub is_among : NameAt → List NameAt → Bool
is_among n others = list_any (same_name n) others

-- the name has this text
abbrev pub is_called : List (List ℕ) → List ℕ → NameAt → Bool
is_called names text n = option_map_or (bytes_eq text) (slice_get names n.name.0) false

abbrev pub built_ins : List (List ℕ)
built_ins = codes "print" ∷ codes "println" ∷ codes "drop" ∷ codes "len" ∷ codes "push" ∷ codes "pop" ∷ codes "text" ∷ codes "slice" ∷ codes "byte" ∷ codes "is_number" ∷ codes "number" ∷ []

abbrev pub is_built_in : List (List ℕ) → NameAt → Bool
is_built_in names n = list_any (λ text. is_called names text n) built_ins

-- ---- parts of items

abbrev pub field_name : FieldDecl → NameAt
field_name (field_decl n may_be_set x) = n

abbrev pub field_type : FieldDecl → TypeExpr
field_type (field_decl n may_be_set x) = x

abbrev pub param_name : Param → NameAt
param_name (param n x) = n

abbrev pub param_type : Param → TypeExpr
param_type (param n x) = x

abbrev pub head_name : Head → NameAt
head_name (head is_pure n ps x) = n

abbrev pub head_params : Head → List Param
head_params (head is_pure n ps x) = ps

abbrev pub function_head : Function → Head
function_head (function h b) = h

-- the name of a struct, an interface or a function; an implementation has none
abbrev pub item_name : Item → Option NameAt
item_name (struct_item n fs) = Some n
item_name (interface_item n hs) = Some n
item_name (impl_item at i s fs) = None
item_name (function_item f) = Some (head_name (function_head f))

abbrev pub is_struct_of : NameAt → Item → Bool
is_struct_of n (struct_item m fs) = same_name n m
is_struct_of n _ = false

abbrev pub is_interface_of : NameAt → Item → Bool
is_interface_of n (interface_item m hs) = same_name n m
is_interface_of n _ = false

-- an implementation of the interface by the struct
abbrev pub is_impl_of : NameAt → NameAt → Item → Bool
is_impl_of i s (impl_item at j t fs) = same_name i j && same_name s t
is_impl_of i s _ = false

-- a function with a head that passes the test
abbrev pub is_function_with : (Head → Bool) → Item → Bool
is_function_with test (function_item f) = test (function_head f)
is_function_with test _ = false

-- ---- types

-- an owner type: a struct, an interface or an array
abbrev pub is_object : TypeExpr → Bool
is_object (named_type n) = true
is_object (array_type at x) = true
is_object _ = false

-- `&imm X`
abbrev pub is_frozen : TypeExpr → Bool
is_frozen (imm_ref_type at x) = true
is_frozen _ = false

-- `iso X`, or it under one or more `[]`
abbrev pub is_isolates : TypeExpr → Bool
is_isolates (iso_type at x) = true
is_isolates (array_type at x) = is_isolates x
is_isolates _ = false

-- `iso` stands in it
abbrev pub has_iso : TypeExpr → Bool
has_iso (array_type at x) = has_iso x
has_iso (ref_type at x) = has_iso x
has_iso (imm_ref_type at x) = has_iso x
has_iso (iso_type at x) = true
has_iso _ = false

-- the struct or interface that stands in it
abbrev pub base_of : TypeExpr → Option ℕ
base_of (named_type n) = Some n.name.0
base_of (array_type at x) = base_of x
base_of (ref_type at x) = base_of x
base_of (imm_ref_type at x) = base_of x
base_of (iso_type at x) = base_of x
base_of _ = None

-- equal, wherever the two stand
abbrev pub same_type : TypeExpr → TypeExpr → Bool
same_type (int_type at) (int_type to) = true
same_type (bool_type at) (bool_type to) = true
same_type (str_type at) (str_type to) = true
same_type (named_type m) (named_type n) = same_name m n
same_type (array_type at x) (array_type to y) = same_type x y
same_type (ref_type at x) (ref_type to y) = same_type x y
same_type (imm_ref_type at x) (imm_ref_type to y) = same_type x y
same_type (iso_type at x) (iso_type to y) = same_type x y
same_type _ _ = false

-- ---- the types that a type reaches: by its elements and references those that stand in it, by fields those of a
-- struct's fields, and by implementations the structs of an interface

abbrev pub edge_to : ℕ → Option ℕ → List Edge
edge_to m None = []
edge_to m (Some n) = (m, n) ∷ []

-- from a struct to what its fields have in them, from an interface to the structs that implement it
abbrev pub leads_of : Item → List Edge
leads_of (struct_item n fs) = flat_map (λ f. edge_to n.name.0 (base_of (field_type f))) fs
leads_of (interface_item n hs) = []
leads_of (impl_item at i s fs) = (i.name.0, s.name.0) ∷ []
leads_of (function_item f) = []

abbrev pub leads : List Item → List Edge
leads items = flat_map leads_of items

-- a struct with a field in whose type `iso` stands
abbrev pub iso_holder : Item → Option ℕ
iso_holder (struct_item n fs) = if list_any (λ f. has_iso (field_type f)) fs then Some n.name.0 else None
iso_holder _ = None

abbrev pub iso_holders : List Item → List ℕ
iso_holders items = filter_map iso_holder items

-- `iso` stands in the type, or in a field's type of a struct that it reaches
abbrev pub reaches_iso : List Item → TypeExpr → Bool
reaches_iso items x = has_iso x || option_map_or (λ n. list_any (is_reached (leads items) n) (iso_holders items)) (base_of x) false

-- ---- `main` and `drop`

-- what `main` may take: nothing, one `[]int` or one `[]str`
abbrev pub is_input : List Param → Bool
is_input [] = true
is_input (param n (array_type at (int_type to)) ∷ []) = true
is_input (param n (array_type at (str_type to)) ∷ []) = true
is_input _ = false

abbrev pub is_main : List (List ℕ) → Head → Bool
is_main names h = is_called names (codes "main") (head_name h)

-- a `main` that isn't pure, has no result and takes what it may take
abbrev pub is_lawful_main : List (List ℕ) → Head → Bool
is_lawful_main names (head false n ps None) = is_called names (codes "main") n && is_input ps
is_lawful_main names _ = false

abbrev pub is_drop : List (List ℕ) → Head → Bool
is_drop names h = is_called names (codes "drop") (head_name h)

-- the struct of a lawful `func drop(self S)`
abbrev pub drops : List (List ℕ) → List Item → Head → Option NameAt
drops names items (head false n (param self (named_type s) ∷ []) None) =
    if (is_called names (codes "drop") n && is_called names (codes "self") self && list_any (is_struct_of s) items) then Some s else None
drops names items _ = None

-- ---- interfaces and what implements them

-- the heads of an interface
abbrev pub heads_of : NameAt → List Item → Option (List Head)
heads_of i [] = None
heads_of i (interface_item n hs ∷ items) = if same_name i n then Some hs else heads_of i items
heads_of i (_ ∷ items) = heads_of i items

-- the first parameter of a method: `&I`, or where it may only read its object `&imm I`
abbrev pub is_self : NameAt → TypeExpr → Bool
is_self i (ref_type at (named_type n)) = same_name i n
is_self i (imm_ref_type at (named_type n)) = same_name i n
is_self i _ = false

-- a method of an interface: its first parameter is `&I` or `&imm I`, and if it is pure `&imm I`
abbrev pub is_method : NameAt → Head → Bool
is_method i (head is_pure n (param m x ∷ ps) y) = is_self i x && (not is_pure || is_frozen x)
is_method i _ = false

-- `&S` for `&I`, or `&imm S` for `&imm I`
abbrev pub is_self_for : NameAt → NameAt → TypeExpr → TypeExpr → Bool
is_self_for i s (ref_type at (named_type m)) (ref_type to (named_type n)) = same_name i m && same_name s n
is_self_for i s (imm_ref_type at (named_type m)) (imm_ref_type to (named_type n)) = same_name i m && same_name s n
is_self_for i s _ _ = false

abbrev pub same_params : List Param → List Param → Bool
same_params [] [] = true
same_params (param m x ∷ ps) (param n y ∷ qs) = same_type x y && same_params ps qs
same_params _ _ = false

abbrev pub same_result : Option TypeExpr → Option TypeExpr → Bool
same_result None None = true
same_result (Some x) (Some y) = same_type x y
same_result _ _ = false

abbrev pub same_purity : Bool → Bool → Bool
same_purity true true = true
same_purity false false = true
same_purity _ _ = false

-- the second head is that of the first one's method in an implementation
abbrev pub implements : NameAt → NameAt → Head → Head → Bool
implements i s (head p m (param a x ∷ ps) y) (head q n (param b z ∷ qs) w) =
    same_name m n && same_purity p q && is_self_for i s x z && same_params ps qs && same_result y w
implements i s _ _ = false

-- the methods are exactly those of the interface, in any order
abbrev pub are_methods_of : NameAt → NameAt → List Head → List Head → Bool
are_methods_of i s theirs ours =
    list_all (λ h. list_any (implements i s h) ours) theirs && list_all (λ g. list_any (λ h. implements i s h g) theirs) ours

-- ---- what a program declares, in order

-- what the items from the k-th on declare
abbrev pub structs_from : ℕ → List Item → List Declared
structs_from k [] = []
structs_from k (struct_item n fs ∷ items) = record { name = n.name; item = k } ∷ structs_from (k + 1) items
structs_from k (_ ∷ items) = structs_from (k + 1) items

abbrev pub interfaces_from : ℕ → List Item → List Declared
interfaces_from k [] = []
interfaces_from k (interface_item n hs ∷ items) = record { name = n.name; item = k } ∷ interfaces_from (k + 1) items
interfaces_from k (_ ∷ items) = interfaces_from (k + 1) items

abbrev pub impls_from : ℕ → List Item → List Implemented
impls_from k [] = []
impls_from k (impl_item at i s fs ∷ items) = record { interface = i.name; of = s.name; item = k } ∷ impls_from (k + 1) items
impls_from k (_ ∷ items) = impls_from (k + 1) items

abbrev pub functions_from : ℕ → List Item → List Declared
functions_from k [] = []
functions_from k (function_item f ∷ items) = record { name = (head_name (function_head f)).name; item = k } ∷ functions_from (k + 1) items
functions_from k (_ ∷ items) = functions_from (k + 1) items

abbrev pub declarations : List Item → Decls
declarations items = record { structs = structs_from 0 items; interfaces = interfaces_from 0 items; impls = impls_from 0 items; functions = functions_from 0 items }
