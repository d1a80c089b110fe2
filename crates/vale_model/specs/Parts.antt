-- What the meaning of a program looks up in it.
use Rattle.std.specs.Prelude.{ℕ, suc, Bool, false, ◌&&◌, ◌==◌, List, [], ◌∷◌, ◌++◌, flat_map, Option, Some, None, codes, slice_get, slice_index_or, if◌then◌else◌}
use Rattle.vale_base.specs.declared.name.Kind.{Kind}
use Rattle.vale_syntax.specs.Tree.{Param, param, Head, head, FieldDecl, field_decl, named_type}
use Rattle.vale_rules_spec.specs.Declarations.{is_called, head_name, head_params}
use Rattle.vale_rules_spec.specs.Types.{Ty, void, int, bool, str, kind, array, ref, imm, iso, same, View, seen_object}
use Rattle.vale_rules_spec.specs.Typed.{Function, Item, struct_item, impl_item, function_item, Typed, typed}
use Rattle.vale_model.specs.Kinds.{kinds_of, head_of}

-- the texts of its names, its items and its kinds
pub record Parts : Type 0 where
  pub names : List (List ℕ)
  pub items : List Item
  pub kinds : List Ty

abbrev pub parts_of : Typed → Parts
parts_of (typed names items) = record { names = names; items = items; kinds = kinds_of items }

abbrev pub name_text : Parts → ℕ → List ℕ
name_text p n = slice_index_or p.names n []

-- ---- functions

abbrev pub is_pure_head : Head → Bool
is_pure_head (head is_pure n ps x) = is_pure

abbrev pub is_pure : Function → Bool
is_pure f = is_pure_head (head_of f)

abbrev pub name_of : Function → ℕ
name_of f = (head_name (head_of f)).name.0

abbrev pub param_names : List Param → List ℕ
param_names [] = []
param_names (param n x ∷ ps) = n.name.0 ∷ param_names ps

abbrev pub first_function : (Function → Bool) → List Function → Option Function
first_function test [] = None
first_function test (f ∷ fs) = if test f then Some f else first_function test fs

-- the functions that aren't methods
abbrev pub functions_of : Item → List Function
functions_of (function_item f) = f ∷ []
functions_of _ = []

abbrev pub function_with : (Function → Bool) → Parts → Option Function
function_with test p = first_function test (flat_map functions_of p.items)

abbrev pub has_name : ℕ → Function → Bool
has_name n f = name_of f == n

abbrev pub function_named : Parts → ℕ → Option Function
function_named p n = function_with (has_name n) p

abbrev pub has_text : Parts → List ℕ → Function → Bool
has_text p text f = is_called p.names text (head_name (head_of f))

abbrev pub main_of : Parts → Option Function
main_of p = function_with (has_text p (codes "main")) p

abbrev pub takes_struct : ℕ → List Param → Bool
takes_struct s (param n (named_type m) ∷ []) = m.name.0 == s
takes_struct s _ = false

-- the destructor of a struct, where it has one
abbrev pub destructor_of : Parts → ℕ → Option Function
destructor_of p s = function_with (λ f. has_text p (codes "drop") f && takes_struct s (head_params (head_of f))) p

-- the methods of the implementations of an interface by a struct
abbrev pub methods_in : ℕ → ℕ → Item → List Function
methods_in i s (impl_item at j t fs) = if (j.name.0 == i) && (t.name.0 == s) then fs else []
methods_in i s _ = []

abbrev pub method_of : Parts → ℕ → ℕ → ℕ → Option Function
method_of p i s m = first_function (has_name m) (flat_map (methods_in i s) p.items)

-- ---- fields

abbrev pub fields_in : ℕ → Item → List FieldDecl
fields_in s (struct_item n fs) = if n.name.0 == s then fs else []
fields_in s _ = []

abbrev pub later : Option ℕ → Option ℕ
later None = None
later (Some i) = Some (suc i)

abbrev pub place_of_field : ℕ → List FieldDecl → Option ℕ
place_of_field n [] = None
place_of_field n (field_decl m may_be_set x ∷ fs) = if m.name.0 == n then Some 0 else later (place_of_field n fs)

abbrev pub field_place_in : Parts → Option Ty → ℕ → Option ℕ
field_place_in p (Some (kind s)) n = place_of_field n (flat_map (fields_in s) p.items)
field_place_in p _ n = None

-- which field of the struct that is seen so has this name
abbrev pub field_place : Parts → View → ℕ → Option ℕ
field_place p v n = field_place_in p (seen_object v) n

-- ---- kinds

abbrev pub place_of_kind : Ty → List Ty → ℕ
place_of_kind x [] = 0
place_of_kind x (y ∷ ys) = if same x y then 0 else suc (place_of_kind x ys)

-- the kind of the objects that an owner of this type has
abbrev pub kind_of : Parts → Ty → Kind
kind_of p x = record { 0 = place_of_kind x p.kinds }

abbrev pub type_of_kind : Parts → Kind → Option Ty
type_of_kind p k = slice_get p.kinds k.0

-- a type as it is written
abbrev pub type_text : Parts → Ty → List ℕ
type_text p void = []
type_text p int = codes "int"
type_text p bool = codes "bool"
type_text p str = codes "str"
type_text p (kind n) = name_text p n
type_text p (array x) = codes "[]" ++ type_text p x
type_text p (ref x) = codes "&" ++ type_text p x
type_text p (imm x) = codes "&imm " ++ type_text p x
type_text p (iso x) = codes "iso " ++ type_text p x

abbrev pub kind_text_of : Parts → Option Ty → List ℕ
kind_text_of p None = []
kind_text_of p (Some x) = type_text p x

abbrev pub kind_text : Parts → Kind → List ℕ
kind_text p k = kind_text_of p (type_of_kind p k)
