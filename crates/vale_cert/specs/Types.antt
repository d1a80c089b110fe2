-- Which types may stand where.
use Rattle.std.specs.Prelude.{ℕ, zero, suc, List, length, Option, Some, None, Bool, true, false, not, ◌&&◌, ◌||◌, ◌==◌, nat_lt, slice_get}
use Rattle.std.specs.List.{list_any}
use Rattle.vale_base.specs.declared.name.Kind.{Kind}
use Rattle.vale_code.specs.Kinds.{kind_of}
use Rattle.vale_code.specs.Parts.{Parts}
use Rattle.vale_code.specs.declared.func.Impl.{Impl}
use Rattle.vale_code.specs.declared.kind.Field.{Field}
use Rattle.vale_code.specs.declared.kind.KindInfo.{KindInfo}
use Rattle.vale_code.specs.declared.kind.KindInfo.TheVariants as k
use Rattle.vale_code.specs.declared.ty.Ty.{Ty}
use Rattle.vale_code.specs.declared.ty.Ty.TheVariants as t

-- a rule that is asked only where another holds
infixr 3 ◌⇒◌
abbrev pub ◌⇒◌ : Bool → Bool → Bool
a ⇒ b = not a || b

abbrev pub is_void : Ty → Bool
is_void t.Void = true
is_void _ = false

abbrev pub is_copy : Ty → Bool
is_copy t.Int = true
is_copy t.Truth = true
is_copy t.Text = true
is_copy _ = false

abbrev pub is_frozen : Ty → Bool
is_frozen (t.Frozen kind) = true
is_frozen _ = false

abbrev pub is_reference : Ty → Bool
is_reference (t.Ref kind) = true
is_reference (t.Frozen kind) = true
is_reference _ = false

-- an owner or an isolate
abbrev pub is_owned : Ty → Bool
is_owned (t.Own kind) = true
is_owned (t.Iso kind) = true
is_owned _ = false

-- ---- which kinds reach a type with an isolate: by fields, elements, references and implementations

-- the type is an isolate, or of a kind that reaches one
abbrev pub type_reaches : (ℕ → Bool) → Ty → Bool
type_reaches reaches (t.Own kind) = reaches kind.0
type_reaches reaches (t.Ref kind) = reaches kind.0
type_reaches reaches (t.Frozen kind) = reaches kind.0
type_reaches reaches (t.Iso kind) = true
type_reaches reaches _ = false

abbrev pub field_reaches : (ℕ → Bool) → Field → Bool
field_reaches reaches field = type_reaches reaches field.ty

abbrev pub impl_reaches : (ℕ → Bool) → ℕ → Impl → Bool
impl_reaches reaches interface impl = (impl.interface.0 == interface) && reaches impl.of.0

abbrev pub kind_reaches : (ℕ → Bool) → List Impl → ℕ → Option KindInfo → Bool
kind_reaches reaches impls n None = false
kind_reaches reaches impls n (Some (k.Struct name destructor fields)) = list_any (field_reaches reaches) fields
kind_reaches reaches impls n (Some (k.Interface name methods)) = list_any (impl_reaches reaches n) impls
kind_reaches reaches impls n (Some (k.Array item)) = type_reaches reaches item

-- a kind does over fewer than so many kinds on the way
abbrev pub reaches_within : Parts → ℕ → ℕ → Bool
reaches_within code zero n = false
reaches_within code (suc m) n = kind_reaches (reaches_within code m) code.impls n (slice_get code.kinds n)

-- No way needs a kind twice.
abbrev pub reaches_isolate : Parts → ℕ → Bool
reaches_isolate code n = reaches_within code (length code.kinds) n

-- how contracts see marks of kinds
abbrev pub or_false : Option Bool → Bool
or_false None = false
or_false (Some b) = b

abbrev pub marked : List Bool → ℕ → Bool
marked marks n = or_false (slice_get marks n)

-- ---- lawful types

abbrev pub is_kind : Parts → Kind → Bool
is_kind code kind = nat_lt kind.0 (length code.kinds)

abbrev pub is_isolate : Ty → Bool
is_isolate (t.Iso kind) = true
is_isolate _ = false

abbrev pub item_test : (Ty → Bool) → Option KindInfo → Bool
item_test test (Some (k.Array item)) = test item
item_test test _ = false

abbrev pub array_test : Parts → (Ty → Bool) → Ty → Bool
array_test code test (t.Own kind) = item_test test (kind_of code kind)
array_test code test _ = false

-- an isolate, or one under so many arrays or fewer
abbrev pub isolates_under : Parts → ℕ → Ty → Bool
isolates_under code zero ty = is_isolate ty
isolates_under code (suc n) ty = is_isolate ty || array_test code (isolates_under code n) ty

-- where this says which kinds reach an isolate
module _ (code : Parts) (reaches : ℕ → Bool) where
  -- an object of the kind may be the root of an isolate
  abbrev pub may_be_isolate : Kind → Bool
  may_be_isolate kind = is_kind code kind && not (reaches kind.0)

  -- the type of a parameter or a register
  abbrev pub is_type : Ty → Bool
  is_type t.Void = false
  is_type (t.Own kind) = is_kind code kind
  is_type (t.Ref kind) = is_kind code kind
  is_type (t.Frozen kind) = is_kind code kind
  is_type (t.Iso kind) = may_be_isolate kind
  is_type _ = true

  -- the type of a result
  abbrev pub is_result : Ty → Bool
  is_result t.Void = true
  is_result ty = is_type ty

  -- the type of an element
  abbrev pub is_element : Ty → Bool
  is_element ty = is_type ty && not (is_frozen ty)

  -- the type of a field: neither a reference into frozen data nor an isolate, nor arrays of isolates
  abbrev pub is_field : Ty → Bool
  is_field ty = is_element ty && not (isolates_under code (length code.kinds) ty)
