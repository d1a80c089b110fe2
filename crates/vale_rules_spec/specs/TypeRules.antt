-- The rules of types: a row for each kind of node, its rules in rising order of their codes (docs/LANGUAGE.md, "Types").
--
-- A rule that presupposes another of its row isn't asked where that one is broken.
use Rattle.std.specs.Prelude.{ℕ, Bool, true, false, not, ◌||◌, ◌&&◌, ◌==◌, List, [], ◌∷◌, map, length, Option, Some, None, is_some, codes, if◌then◌else◌}
use Rattle.std.specs.List.{list_all}
use Rattle.std.specs.Option.{option_and_then, option_map_or}
use Rattle.vale_syntax.specs.declared.built_in.BuiltIn.{BuiltIn}
use Rattle.vale_syntax.specs.declared.built_in.BuiltIn.TheVariants as b
use Rattle.vale_syntax.specs.declared.tree.NameAt.{NameAt}
use Rattle.vale_syntax.specs.declared.tree.BinaryOp.{BinaryOp}
use Rattle.vale_syntax.specs.declared.tree.BinaryOp.TheVariants as o
use Rattle.vale_syntax.specs.declared.tree.UnaryOp.{UnaryOp}
use Rattle.vale_syntax.specs.declared.tree.UnaryOp.TheVariants as u
use Rattle.vale_syntax.specs.Tree.{Param, param, Head, head, FieldDecl, Item}
use Rattle.vale_rules_spec.specs.Judged.{Rules, ◌⇒◌}
use Rattle.vale_rules_spec.specs.Declarations.{is_called, field_type, param_type, head_params}
use Rattle.vale_rules_spec.specs.Types.{Ty, void, int, bool, str, kind, array, ref, imm, iso, type_of, result_of, same, is_void, is_copy, is_owned, may_be_isolated, View, blind, direct, shared, frozen, seen_object, is_frozen, Seen, a_value, is_loose, Local, is_visible, part_seen, fields_of, methods_of, function_named, fits, fits_argument}
use Rattle.vale_rules_spec.specs.Typed.{Callee, built_in, constructor, function}

abbrev pub is_int : Ty → Bool
is_int t = same t int

abbrev pub is_bool : Ty → Bool
is_bool t = same t bool

-- ---- names

abbrev pub name_rules : NameAt → List Local → Rules
name_rules n scope = (21, is_visible n scope) ∷ []

-- a name that is declared: by a declaration, a destructuring or a loop
abbrev pub new_name_rules : NameAt → List Local → Rules
new_name_rules n scope = (27, not (is_visible n scope)) ∷ []

abbrev pub declare_rules : NameAt → List Local → Ty → Rules
declare_rules n scope t = (20, not (is_void t)) ∷ (27, not (is_visible n scope)) ∷ []

-- ---- operators

-- numbers, or texts
abbrev pub have_order : Ty → Ty → Bool
have_order int int = true
have_order str str = true
have_order _ _ = false

abbrev pub have_equality : Ty → Ty → Bool
have_equality bool bool = true
have_equality t u = have_order t u

abbrev pub takes_operands : BinaryOp → Ty → Ty → Bool
takes_operands o.Or t u = is_bool t && is_bool u
takes_operands o.And t u = is_bool t && is_bool u
takes_operands o.Equal t u = have_equality t u
takes_operands o.NotEqual t u = have_equality t u
takes_operands o.Less t u = have_order t u
takes_operands o.LessEqual t u = have_order t u
takes_operands o.Greater t u = have_order t u
takes_operands o.GreaterEqual t u = have_order t u
takes_operands o.Add t u = have_order t u
takes_operands o.Sub t u = is_int t && is_int u
takes_operands o.Mul t u = is_int t && is_int u
takes_operands o.Div t u = is_int t && is_int u
takes_operands o.Rem t u = is_int t && is_int u

abbrev pub link_rules : BinaryOp → Ty → Ty → Rules
link_rules op t u = (20, takes_operands op t u) ∷ []

-- what the operator gives, from the type of its first operand
abbrev pub link_gives : BinaryOp → Ty → Ty
link_gives o.Add t = t
link_gives o.Sub t = int
link_gives o.Mul t = int
link_gives o.Div t = int
link_gives o.Rem t = int
link_gives _ t = bool

-- `&p`: an owner or an isolate that has a place
abbrev pub is_owned_place : Option Ty → Bool
is_owned_place place = option_map_or is_owned place false

abbrev pub is_iso : Ty → Bool
is_iso (iso x) = true
is_iso _ = false

abbrev pub unary_rules : UnaryOp → Seen → Rules
unary_rules u.Minus s = (20, is_int s.value) ∷ []
unary_rules u.Not s = (20, is_bool s.value) ∷ []
unary_rules u.Borrow s = (20, is_some s.place ⇒ is_owned_place s.place) ∷ (23, is_some s.place) ∷ []
unary_rules u.Merge s = (20, is_iso s.value) ∷ []

-- by how the place is seen
abbrev pub borrow_gives : View → Ty
borrow_gives blind = void
borrow_gives (direct x) = ref x
borrow_gives (shared x) = ref x
borrow_gives (frozen x) = imm x

abbrev pub merge_gives : Ty → Ty
merge_gives (iso x) = x
merge_gives _ = void

abbrev pub unary_gives : UnaryOp → Seen → Ty
unary_gives u.Minus s = int
unary_gives u.Not s = bool
unary_gives u.Borrow s = borrow_gives s.view
unary_gives u.Merge s = merge_gives s.value

-- ---- arguments

-- each fits what is taken, one for one
abbrev pub all_fit : List Item → Bool → List Ty → List Ty → Bool
all_fit items is_pure [] [] = true
all_fit items is_pure (t ∷ ts) (x ∷ xs) = fits_argument items is_pure t x && all_fit items is_pure ts xs
all_fit items is_pure _ _ = false

abbrev pub as_many : List Ty → List Ty → Bool
as_many args takes = length args == length takes

-- ---- calls

-- how many arguments a built-in function takes
abbrev pub arity : BuiltIn → ℕ
arity b.Push = 2
arity b.Byte = 2
arity b.Slice = 3
arity _ = 1

-- `push` and `pop` on an `&imm []T` are refused later
abbrev pub is_array_ref : Ty → Bool
is_array_ref (ref (array x)) = true
is_array_ref (imm (array x)) = true
is_array_ref _ = false

module _ (items : List Item) where
  abbrev pub may_push : Ty → Ty → Bool
  may_push (ref (array x)) t = fits items t x
  may_push (imm (array x)) t = fits items t x
  may_push _ t = false

  abbrev pub takes_arguments : BuiltIn → List Ty → Bool
  takes_arguments b.Print (t ∷ []) = is_copy t
  takes_arguments b.Println (t ∷ []) = is_copy t
  takes_arguments b.Drop (t ∷ []) = is_owned t
  takes_arguments b.Len (t ∷ []) = same t str || is_array_ref t
  takes_arguments b.Push (t ∷ x ∷ []) = may_push t x
  takes_arguments b.Pop (t ∷ []) = is_array_ref t
  takes_arguments b.Text (t ∷ []) = is_int t
  takes_arguments b.Slice (t ∷ x ∷ y ∷ []) = same t str && is_int x && is_int y
  takes_arguments b.Byte (t ∷ x ∷ []) = same t str && is_int x
  takes_arguments b.IsNumber (t ∷ []) = same t str
  takes_arguments b.Number (t ∷ []) = same t str
  takes_arguments _ _ = false

  abbrev pub built_in_rules : BuiltIn → List Ty → Rules
  built_in_rules f args =
      (20, (length args == arity f) ⇒ takes_arguments f args) ∷ (22, length args == arity f) ∷ []

  -- a constructor or a function, by what it takes
  abbrev pub call_rules : Bool → List Ty → List Ty → Rules
  call_rules is_pure takes args =
      (20, as_many args takes ⇒ all_fit items is_pure args takes) ∷ (22, as_many args takes) ∷ []

-- what a name stands for in a call
pub data Called : Type 0 where
  nothing : Called
  language : BuiltIn → Called
  struct : List FieldDecl → Called
  program : Head → Called

abbrev pub built_ins : List (List ℕ × BuiltIn)
built_ins =
    (codes "print", b.Print) ∷ (codes "println", b.Println) ∷ (codes "drop", b.Drop) ∷ (codes "len", b.Len) ∷ (codes "push", b.Push) ∷ (codes "pop", b.Pop)
    ∷ (codes "text", b.Text) ∷ (codes "slice", b.Slice) ∷ (codes "byte", b.Byte) ∷ (codes "is_number", b.IsNumber) ∷ (codes "number", b.Number) ∷ []

abbrev pub built_in_among : List (List ℕ × BuiltIn) → List (List ℕ) → NameAt → Option BuiltIn
built_in_among [] names n = None
built_in_among (entry ∷ entries) names n = if is_called names entry.0 n then Some entry.1 else built_in_among entries names n

abbrev pub called_else : Option BuiltIn → Option (List FieldDecl) → Option Head → Called
called_else (Some f) fields h = language f
called_else None (Some fs) h = struct fs
called_else None None (Some h) = program h
called_else None None None = nothing

abbrev pub called : List (List ℕ) → List Item → NameAt → Called
called names items n = called_else (built_in_among built_ins names n) (fields_of items n.name.0) (function_named items n.name.0)

abbrev pub field_types : List FieldDecl → List Ty
field_types fs = map (λ f. type_of (field_type f)) fs

abbrev pub param_types : List Param → List Ty
param_types ps = map (λ p. type_of (param_type p)) ps

abbrev pub is_pure_head : Head → Bool
is_pure_head (head is_pure n ps x) = is_pure

abbrev pub head_gives : Head → Ty
head_gives (head is_pure n ps x) = result_of x

abbrev pub called_rules : List Item → Called → List Ty → Rules
called_rules items nothing args = (21, false) ∷ []
called_rules items (language f) args = built_in_rules items f args
called_rules items (struct fs) args = call_rules items false (field_types fs) args
called_rules items (program h) args = call_rules items (is_pure_head h) (param_types (head_params h)) args

abbrev pub popped : Ty → Ty
popped (ref (array x)) = x
popped (imm (array x)) = x
popped _ = void

abbrev pub built_in_gives : BuiltIn → List Ty → Ty
built_in_gives b.Len args = int
built_in_gives b.Pop (t ∷ []) = popped t
built_in_gives b.Text args = str
built_in_gives b.Slice args = str
built_in_gives b.Byte args = int
built_in_gives b.IsNumber args = bool
built_in_gives b.Number args = int
built_in_gives _ args = void

abbrev pub called_gives : NameAt → Called → List Ty → Ty
called_gives n nothing args = void
called_gives n (language f) args = built_in_gives f args
called_gives n (struct fs) args = kind n.name.0
called_gives n (program h) args = head_gives h

-- as it stands in the typed tree, where a call of nothing isn't found
abbrev pub callee : Called → Callee
callee nothing = constructor
callee (language f) = built_in f
callee (struct fs) = constructor
callee (program h) = function (is_pure_head h)

-- `[]T(args)`
abbrev pub array_rules : List Item → Ty → List Ty → Rules
array_rules items t args = (20, list_all (λ a. fits items a t) args) ∷ []

-- ---- steps

abbrev pub array_in : Option Ty → Option Ty
array_in (Some (array x)) = Some x
array_in _ = None

abbrev pub kind_in_view : Option Ty → Option ℕ
kind_in_view (Some (kind n)) = Some n
kind_in_view _ = None

module _ (items : List Item) where
  -- the fields of the struct, the elements' type of the array, and the methods of the interface that a step starts from
  abbrev pub fields_seen : View → Option (List FieldDecl)
  fields_seen v = option_and_then (fields_of items) (kind_in_view (seen_object v))

  abbrev pub methods_seen : View → Option (List Head)
  methods_seen v = option_and_then (methods_of items) (kind_in_view (seen_object v))

abbrev pub elements_seen : View → Option Ty
elements_seen v = array_in (seen_object v)

-- used as a value, an owner or isolate field or element is refused
abbrev pub stays_in_place : Bool → Option Ty → Bool
stays_in_place as_value None = true
stays_in_place as_value (Some t) = as_value ⇒ not (is_owned t)

-- `.f`, by how it is used, its base, the fields of the base and the type of the field
abbrev pub field_rules : Bool → Seen → Option (List FieldDecl) → Option Ty → Rules
field_rules as_value base fields t =
    (20, not (is_loose base) ⇒ is_some fields)
    ∷ (21, is_some fields ⇒ is_some t)
    ∷ (25, not (is_loose base))
    ∷ (28, stays_in_place as_value t) ∷ []

-- `[e]`, by the type of the elements and that of the index
abbrev pub index_rules : Bool → Seen → Option Ty → Ty → Rules
index_rules as_value base t e =
    (20, is_int e && (not (is_loose base) ⇒ is_some t))
    ∷ (25, not (is_loose base))
    ∷ (28, stays_in_place as_value t) ∷ []

abbrev pub part_of : View → Option Ty → Seen
part_of v None = a_value void
part_of v (Some t) = part_seen v t

-- the types that a method takes after its object
abbrev pub method_takes : Head → List Ty
method_takes (head is_pure n [] x) = []
method_takes (head is_pure n (p ∷ ps) x) = param_types ps

abbrev pub is_imm : Ty → Bool
is_imm (imm x) = true
is_imm _ = false

-- a method that isn't pure, whose object must be seen as `&imm`
abbrev pub needs_frozen : Head → Bool
needs_frozen (head false n (param m x ∷ ps) y) = is_imm (type_of x)
needs_frozen _ = false

module _ (items : List Item) where
  abbrev pub may_call : View → Option Head → List Ty → Bool
  may_call v None args = true
  may_call v (Some h) args =
      (needs_frozen h ⇒ is_frozen v) && (as_many args (method_takes h) ⇒ all_fit items (is_pure_head h) args (method_takes h))

  -- `.m(args)`, by the methods of the base and the method
  abbrev pub method_rules : Seen → Option (List Head) → Option Head → List Ty → Rules
  method_rules base methods m args =
      (20, (not (is_loose base) ⇒ is_some methods) && may_call base.view m args)
      ∷ (21, is_some methods ⇒ is_some m)
      ∷ (22, option_map_or (λ h. as_many args (method_takes h)) m true)
      ∷ (25, not (is_loose base)) ∷ []

abbrev pub method_gives : Option Head → Seen
method_gives None = a_value void
method_gives (Some h) = a_value (head_gives h)

-- ---- `set p = e`

-- the last step's field, where the place ends in one, may be set
abbrev pub set_rules : List Item → Bool → Option Ty → Ty → Rules
set_rules items may_be_set place e =
    (20, option_map_or (fits items e) place true) ∷ (23, is_some place) ∷ (24, may_be_set) ∷ []

abbrev pub set_gives : Option Ty → Ty
set_gives None = void
set_gives (Some t) = t

-- ---- blocks and forms

-- the block of a function, a `while` or a `foreach`, and a form that is a statement
abbrev pub void_rules : Ty → Rules
void_rules t = (20, is_void t) ∷ []

abbrev pub condition_rules : Ty → Rules
condition_rules c = (20, is_bool c) ∷ []

abbrev pub bounds_rules : Ty → Ty → Rules
bounds_rules a e = (20, is_int a && is_int e) ∷ []

-- an `if`, by the types of its conditions, those of its first and its further blocks, and whether it has an `else`
abbrev pub branch_rules : List Ty → Ty → List Ty → Bool → Rules
branch_rules conditions t ts has_else = (20, list_all is_bool conditions && list_all (same t) ts && (has_else || is_void t)) ∷ []

abbrev pub iso_rules : List Item → Ty → Rules
iso_rules items t = (20, may_be_isolated items t) ∷ []

-- what the loop's name is, where the value that the loop consumes is a `[]iso U`
abbrev pub isolate_in : Ty → Option Ty
isolate_in (array (iso x)) = Some (iso x)
isolate_in _ = None

abbrev pub consumed_rules : Ty → Rules
consumed_rules t = (20, is_some (isolate_in t)) ∷ []

-- a parallel loop, by the type of its body: what its elements are; other bodies are refused later
abbrev pub parallel_gives : List Item → Ty → Ty
parallel_gives items (iso x) = array (iso x)
parallel_gives items t = if is_copy t then array t else if may_be_isolated items t then array (iso t) else void

-- ---- statements and functions

-- the fields' types of the struct that the value owns
abbrev pub struct_fields : List Item → Ty → Option (List FieldDecl)
struct_fields items (kind n) = fields_of items n
struct_fields items _ = None

abbrev pub destructure_rules : Option (List FieldDecl) → List NameAt → Rules
destructure_rules fields ns =
    (20, is_some fields) ∷ (22, option_map_or (λ fs. length fs == length ns) fields true) ∷ []

abbrev pub return_nothing_rules : Ty → Rules
return_nothing_rules gives = (20, is_void gives) ∷ []

abbrev pub return_value_rules : List Item → Ty → Ty → Rules
return_value_rules items gives t = (20, not (is_void gives) && fits items t gives) ∷ []

abbrev pub function_rules : Ty → Bool → Rules
function_rules gives returns = (26, not (is_void gives) ⇒ returns) ∷ []
