-- The types that values have, how a step sees what it starts from, and what names stand for (docs/LANGUAGE.md, "Types").
use Rattle.std.specs.Prelude.{ℕ, Bool, true, false, not, ◌||◌, ◌&&◌, ◌==◌, List, [], ◌∷◌, Option, Some, None, is_some, if◌then◌else◌}
use Rattle.std.specs.List.{list_any}
use Rattle.std.specs.Option.{option_map_or}
use Rattle.vale_syntax.specs.declared.tree.NameAt.{NameAt}
use Rattle.vale_syntax.specs.Tree.{TypeExpr, int_type, bool_type, str_type, named_type, array_type, ref_type, imm_ref_type, iso_type, Head, FieldDecl, field_decl, Item, struct_item, interface_item, impl_item, function_item}
use Rattle.vale_rules_spec.specs.Declarations.{head_name, function_head, leads, iso_holders}
use Rattle.vale_rules_spec.specs.Reach.{is_reached}

-- ---- types

-- the type of a value, wherever it was written; a struct or an interface is the number of its name
pub data Ty : Type 0 where
  void : Ty
  int : Ty
  bool : Ty
  str : Ty
  -- an owner of a struct's object or an interface's
  kind : ℕ → Ty
  -- an owner of an array, by the type of its elements
  array : Ty → Ty
  -- `&X`, `&imm X` and `iso X`, where X is an owner's type
  ref : Ty → Ty
  imm : Ty → Ty
  iso : Ty → Ty

abbrev pub type_of : TypeExpr → Ty
type_of (int_type at) = int
type_of (bool_type at) = bool
type_of (str_type at) = str
type_of (named_type n) = kind n.name.0
type_of (array_type at x) = array (type_of x)
type_of (ref_type at x) = ref (type_of x)
type_of (imm_ref_type at x) = imm (type_of x)
type_of (iso_type at x) = iso (type_of x)

-- a function without a written result gives nothing
abbrev pub result_of : Option TypeExpr → Ty
result_of None = void
result_of (Some x) = type_of x

abbrev pub same : Ty → Ty → Bool
same void void = true
same int int = true
same bool bool = true
same str str = true
same (kind m) (kind n) = m == n
same (array x) (array y) = same x y
same (ref x) (ref y) = same x y
same (imm x) (imm y) = same x y
same (iso x) (iso y) = same x y
same _ _ = false

abbrev pub is_void : Ty → Bool
is_void void = true
is_void _ = false

abbrev pub is_copy : Ty → Bool
is_copy int = true
is_copy bool = true
is_copy str = true
is_copy _ = false

abbrev pub is_owner : Ty → Bool
is_owner (kind n) = true
is_owner (array x) = true
is_owner _ = false

-- an owner or an isolate: naming it as a value moves it
abbrev pub is_owned : Ty → Bool
is_owned (kind n) = true
is_owned (array x) = true
is_owned (iso x) = true
is_owned _ = false

-- what an owner, a reference or an isolate leads to
abbrev pub object_of : Ty → Option Ty
object_of (kind n) = Some (kind n)
object_of (array x) = Some (array x)
object_of (ref x) = Some x
object_of (imm x) = Some x
object_of (iso x) = Some x
object_of _ = None

-- ---- where `iso` may stand

abbrev pub has_iso : Ty → Bool
has_iso (array x) = has_iso x
has_iso (ref x) = has_iso x
has_iso (imm x) = has_iso x
has_iso (iso x) = true
has_iso _ = false

-- the struct or interface that stands in it
abbrev pub kind_in : Ty → Option ℕ
kind_in (kind n) = Some n
kind_in (array x) = kind_in x
kind_in (ref x) = kind_in x
kind_in (imm x) = kind_in x
kind_in (iso x) = kind_in x
kind_in _ = None

-- an owner's type from which no `iso` is reached
abbrev pub may_be_isolated : List Item → Ty → Bool
may_be_isolated items x =
    is_owner x && not (has_iso x || option_map_or (λ n. list_any (is_reached (leads items) n) (iso_holders items)) (kind_in x) false)

-- ---- what a step starts from

-- how it is seen
pub data View : Type 0 where
  -- there is nothing to step into
  blind : View
  -- an owner local of this depth: the object is there
  direct : Ty → View
  -- as `&X`
  shared : Ty → View
  -- as `&imm X`
  frozen : Ty → View

abbrev pub seen_object : View → Option Ty
seen_object blind = None
seen_object (direct x) = Some x
seen_object (shared x) = Some x
seen_object (frozen x) = Some x

abbrev pub is_direct : View → Bool
is_direct (direct x) = true
is_direct _ = false

abbrev pub is_frozen : View → Bool
is_frozen (frozen x) = true
is_frozen _ = false

-- what is known of an expression: its type as a value, how a step from it sees it, and where it names a place the type of
-- that place
pub record Seen : Type 0 where
  pub value : Ty
  pub view : View
  pub place : Option Ty

-- a value that is no place
abbrev pub value_view : Ty → View
value_view (ref x) = shared x
value_view (imm x) = frozen x
value_view _ = blind

abbrev pub a_value : Ty → Seen
a_value t = record { value = t; view = value_view t; place = None }

-- an owner or isolate that is no place
abbrev pub is_loose : Seen → Bool
is_loose s = is_owned s.value && not (is_some s.place)

-- ---- locals

pub record Local : Type 0 where
  pub name : ℕ
  pub ty : Ty
  -- the number of `pure`, `iso` and parallel blocks round its declaration
  pub depth : ℕ

abbrev pub local_of : ℕ → List Local → Option Local
local_of n [] = None
local_of n (l ∷ ls) = if l.name == n then Some l else local_of n ls

abbrev pub is_visible : NameAt → List Local → Bool
is_visible n ls = is_some (local_of n.name.0 ls)

-- a local of this depth; an isolate is seen as if it were open
abbrev pub view_here : Ty → View
view_here (kind n) = direct (kind n)
view_here (array x) = direct (array x)
view_here (iso x) = direct x
view_here t = value_view t

-- what leads to an object is an `&imm` to it
abbrev pub as_frozen : Ty → Option Ty → Seen
as_frozen t None = record { value = t; view = blind; place = Some t }
as_frozen t (Some x) = record { value = imm x; view = frozen x; place = Some t }

abbrev pub local_seen : ℕ → Local → Seen
local_seen depth l =
    if l.depth == depth then record { value = l.ty; view = view_here l.ty; place = Some l.ty } else as_frozen l.ty (object_of l.ty)

-- it was declared outside of the innermost `pure`, `iso` or parallel block
abbrev pub is_outer : ℕ → Local → Bool
is_outer depth l = not (l.depth == depth)

-- naming the local as a value moves it
abbrev pub is_movable : ℕ → Local → Bool
is_movable depth l = is_owned l.ty && (l.depth == depth)

-- ---- fields and elements of this type, read from what is seen so

abbrev pub as_shared : Ty → Option Ty → Seen
as_shared t None = record { value = t; view = blind; place = Some t }
as_shared t (Some x) = record { value = t; view = shared x; place = Some t }

abbrev pub part_seen : View → Ty → Seen
part_seen (frozen y) t = as_frozen t (object_of t)
part_seen _ t = as_shared t (object_of t)

-- ---- what names stand for

-- the fields of a struct
abbrev pub fields_of : List Item → ℕ → Option (List FieldDecl)
fields_of [] n = None
fields_of (struct_item m fs ∷ items) n = if m.name.0 == n then Some fs else fields_of items n
fields_of (_ ∷ items) n = fields_of items n

abbrev pub field_named : List FieldDecl → ℕ → Option FieldDecl
field_named [] n = None
field_named (field_decl m may_be_set x ∷ fs) n = if m.name.0 == n then Some (field_decl m may_be_set x) else field_named fs n

-- the methods of an interface
abbrev pub methods_of : List Item → ℕ → Option (List Head)
methods_of [] n = None
methods_of (interface_item m hs ∷ items) n = if m.name.0 == n then Some hs else methods_of items n
methods_of (_ ∷ items) n = methods_of items n

abbrev pub method_named : List Head → ℕ → Option Head
method_named [] n = None
method_named (h ∷ hs) n = if (head_name h).name.0 == n then Some h else method_named hs n

abbrev pub function_named : List Item → ℕ → Option Head
function_named [] n = None
function_named (function_item f ∷ items) n = if (head_name (function_head f)).name.0 == n then Some (function_head f) else function_named items n
function_named (_ ∷ items) n = function_named items n

abbrev pub is_impl : ℕ → ℕ → Item → Bool
is_impl s i (impl_item at j t fs) = (j.name.0 == i) && (t.name.0 == s)
is_impl s i _ = false

-- ---- which types fit

module _ (items : List Item) where
  -- an object of the first type is one of the second
  abbrev pub is_object_of : Ty → Ty → Bool
  is_object_of (kind m) (kind n) = (m == n) || list_any (is_impl m n) items
  is_object_of x y = same x y

  -- a value of the first type serves where the second is asked for; an `&imm X` for an `&Y` is refused later
  abbrev pub fits : Ty → Ty → Bool
  fits (kind m) t = is_object_of (kind m) t
  fits (ref x) (ref y) = is_object_of x y
  fits (imm x) (imm y) = is_object_of x y
  fits (imm x) (ref y) = is_object_of x y
  fits (iso x) (iso y) = is_object_of x y
  fits t u = same t u

  -- as the argument of a pure function an `&X` serves for an `&imm Y` too
  abbrev pub fits_argument : Bool → Ty → Ty → Bool
  fits_argument true (ref x) (imm y) = is_object_of x y
  fits_argument _ t u = fits t u
