-- What operands lead to, and what is read of objects.
use Rattle.std.specs.Prelude.{ℕ, List, map, replicate, Option, Some, None, Bool, true, false, ◌||◌, nat_lt, nat_le, if◌then◌else◌, slice_get}
use Rattle.std.specs.List.{list_any}
use Rattle.vale_base.specs.Limits.{width_limit}
use Rattle.vale_base.specs.declared.name.Kind.{Kind}
use Rattle.vale_code.specs.Kinds.{kind_of, is_for}
use Rattle.vale_code.specs.Parts.{Parts}
use Rattle.vale_code.specs.declared.func.Impl.{Impl}
use Rattle.vale_code.specs.declared.kind.Field.{Field}
use Rattle.vale_code.specs.declared.kind.KindInfo.{KindInfo}
use Rattle.vale_code.specs.declared.kind.KindInfo.TheVariants as k
use Rattle.vale_code.specs.declared.kind.MethodInfo.{MethodInfo}
use Rattle.vale_code.specs.declared.ty.Ty.{Ty}
use Rattle.vale_code.specs.declared.ty.Ty.TheVariants as t
use Rattle.vale_cert.specs.Numbers.{method_from}
use Rattle.vale_cert.specs.Types.{is_frozen}
use Rattle.vale_cert.specs.declared.facts.RegFact.{RegFact}
use Rattle.vale_cert.specs.declared.facts.RegFact.TheVariants.{Empty, Held}

-- ---- the cells of an object: fields or elements

abbrev pub types_of : List Field → List Ty
types_of fields = map (λ field. field.ty) fields

-- the types of the values of an object with so many
abbrev pub cells_of : Option KindInfo → ℕ → Option (List Ty)
cells_of (Some (k.Struct name destructor fields)) count = Some (types_of fields)
cells_of (Some (k.Array item)) count = Some (replicate count item)
cells_of _ count = None

-- a struct's
abbrev pub fields_of : Option KindInfo → Option (List Ty)
fields_of (Some (k.Struct name destructor fields)) = Some (types_of fields)
fields_of _ = None

-- an object may be made of so many values
abbrev pub has_room : Option KindInfo → ℕ → Bool
has_room (Some (k.Array item)) count = nat_le count width_limit
has_room _ count = true

abbrev pub type_in : Option (List Ty) → ℕ → Option Ty
type_in None n = None
type_in (Some tys) n = slice_get tys n

-- the type of a field, where the kind is a struct that has it
abbrev pub field_of : Parts → ℕ → Kind → Option Ty
field_of code field kind = type_in (fields_of (kind_of code kind)) field

abbrev pub item_in : Option KindInfo → Option Ty
item_in (Some (k.Array item)) = Some item
item_in _ = None

-- the type of the elements, where the kind is an array
abbrev pub item_of : Parts → Kind → Option Ty
item_of code kind = item_in (kind_of code kind)

abbrev pub cell_by : (Kind → Option Ty) → Option Kind → Option Ty
cell_by cell None = None
cell_by cell (Some kind) = cell kind

-- ---- the kind that an operand leads to

-- as an owner
abbrev pub owner_kind : RegFact → Option Kind
owner_kind (Held (t.Own kind) d live) = Some kind
owner_kind _ = None

-- as a reference `&X`, through which objects are changed
abbrev pub reference_kind : RegFact → Option Kind
reference_kind (Held (t.Ref kind) d live) = Some kind
reference_kind _ = None

-- as a reference `&X`, or as what gives `&imm X`
abbrev pub read_kind : ℕ → RegFact → Option Kind
read_kind depth (Held (t.Ref kind) d live) = Some kind
read_kind depth (Held (t.Frozen kind) d live) = Some kind
read_kind depth (Held (t.Own kind) d live) = if nat_lt d depth then Some kind else None
read_kind depth (Held (t.Iso kind) d live) = if nat_lt d depth then Some kind else None
read_kind depth _ = None

-- it gives `&imm X` by itself: it is one, or it is of a smaller depth
abbrev pub is_through_frozen : ℕ → RegFact → Bool
is_through_frozen depth Empty = false
is_through_frozen depth (Held ty d live) = is_frozen ty || nat_lt d depth

-- Of a checked read after which the run goes on: what gave `&imm X` by itself is known to be alive.
abbrev pub found_alive : ℕ → RegFact → RegFact
found_alive depth Empty = Empty
found_alive depth (Held ty d live) = Held ty d (live || is_frozen ty || nat_lt d depth)

-- ---- what is read of a cell

-- An owner gives a reference to its object. Through `&imm` so does an isolate, and all references are `&imm`.
abbrev pub seen : Bool → Ty → Ty
seen true (t.Own kind) = t.Frozen kind
seen true (t.Ref kind) = t.Frozen kind
seen true (t.Iso kind) = t.Frozen kind
seen false (t.Own kind) = t.Ref kind
seen frozen ty = ty

-- ---- views

-- a struct seen as an interface
abbrev pub raised : Kind → Ty → Ty
raised interface (t.Own kind) = t.Own interface
raised interface (t.Ref kind) = t.Ref interface
raised interface (t.Frozen kind) = t.Frozen interface
raised interface (t.Iso kind) = t.Iso interface
raised interface ty = ty

-- the struct implements the interface
abbrev pub is_implemented : List Impl → Kind → Kind → Bool
is_implemented impls interface kind = list_any (is_for interface.0 kind) impls

abbrev pub may_be_raised : List Impl → Kind → Ty → Bool
may_be_raised impls interface (t.Own kind) = is_implemented impls interface kind
may_be_raised impls interface (t.Ref kind) = is_implemented impls interface kind
may_be_raised impls interface (t.Frozen kind) = is_implemented impls interface kind
may_be_raised impls interface (t.Iso kind) = is_implemented impls interface kind
may_be_raised impls interface ty = false

-- ---- methods

-- a method of an interface
abbrev pub method_of : Parts → ℕ → ℕ → Option MethodInfo
method_of code interface n = method_from (slice_get code.kinds interface) n
