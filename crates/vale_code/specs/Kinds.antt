-- What a code says of kinds: their texts, their destructors, the functions that methods are, and the kinds of arrays.
use Rattle.std.specs.Prelude.{ℕ, zero, suc, ◌+◌, List, [], ◌∷◌, ◌++◌, length, Option, Some, None, Bool, true, false, ◌==◌, ◌&&◌, nat_le, if◌then◌else◌, slice_get, codes}
use Rattle.vale_base.specs.Limits.{width_limit}
use Rattle.vale_base.specs.declared.name.Kind.{Kind}
use Rattle.vale_code.specs.Parts.{Parts}
use Rattle.vale_code.specs.declared.func.Impl.{Impl}
use Rattle.vale_code.specs.declared.kind.KindInfo.{KindInfo}
use Rattle.vale_code.specs.declared.kind.KindInfo.TheVariants as k
use Rattle.vale_code.specs.declared.ty.Ty.{Ty}
use Rattle.vale_code.specs.declared.ty.Ty.TheVariants as t

abbrev pub kind_of : Parts → Kind → Option KindInfo
kind_of code kind = slice_get code.kinds kind.0

-- ---- texts

abbrev pub text_or_none : Option (List ℕ) → List ℕ
text_or_none None = []
text_or_none (Some text) = text

-- the text of a number among the texts
abbrev pub text_at : Parts → ℕ → List ℕ
text_at code n = text_or_none (slice_get code.texts n)

-- how a type is written, where this is how kinds are
abbrev pub type_text : (Kind → List ℕ) → Ty → List ℕ
type_text text t.Void = []
type_text text t.Int = codes "int"
type_text text t.Truth = codes "bool"
type_text text t.Text = codes "str"
type_text text (t.Own kind) = text kind
type_text text (t.Ref kind) = codes "&" ++ text kind
type_text text (t.Frozen kind) = codes "&imm " ++ text kind
type_text text (t.Iso kind) = codes "iso " ++ text kind

abbrev pub info_text : Parts → (Kind → List ℕ) → Option KindInfo → List ℕ
info_text code text None = []
info_text code text (Some (k.Struct name destructor fields)) = text_at code name
info_text code text (Some (k.Interface name methods)) = text_at code name
info_text code text (Some (k.Array item)) = codes "[]" ++ type_text text item

-- how a kind is written, where no more than so many arrays stand in one another
abbrev pub nested_text : ℕ → Parts → Kind → List ℕ
nested_text zero code kind = []
nested_text (suc n) code kind = info_text code (nested_text n code) (kind_of code kind)

-- how a kind is written
abbrev pub kind_text : Parts → Kind → List ℕ
kind_text code kind = nested_text (length code.kinds) code kind

-- ---- objects

abbrev pub destructor_in : Option KindInfo → Option ℕ
destructor_in (Some (k.Struct name destructor fields)) = destructor
destructor_in _ = None

-- the function that destroys objects of a kind, where it has one
abbrev pub destructor_of : Parts → Kind → Option ℕ
destructor_of code kind = destructor_in (kind_of code kind)

-- objects of a kind may have so many values when they are made
abbrev pub holds_values : Option KindInfo → ℕ → Bool
holds_values (Some (k.Struct name destructor fields)) count = length fields == count
holds_values (Some (k.Array item)) count = nat_le count width_limit
holds_values _ count = false

abbrev pub is_for : ℕ → Kind → Impl → Bool
is_for interface kind impl = (impl.interface.0 == interface) && (impl.of.0 == kind.0)

-- the function that a method of an interface is for objects of a kind
abbrev pub method_in : List Impl → ℕ → ℕ → Kind → Option ℕ
method_in [] interface method kind = None
method_in (impl ∷ impls) interface method kind =
    if is_for interface kind impl then slice_get impl.funcs method else method_in impls interface method kind

-- ---- arrays

abbrev pub same_type : Ty → Ty → Bool
same_type t.Void t.Void = true
same_type t.Int t.Int = true
same_type t.Truth t.Truth = true
same_type t.Text t.Text = true
same_type (t.Own a) (t.Own b) = a.0 == b.0
same_type (t.Ref a) (t.Ref b) = a.0 == b.0
same_type (t.Frozen a) (t.Frozen b) = a.0 == b.0
same_type (t.Iso a) (t.Iso b) = a.0 == b.0
same_type _ _ = false

abbrev pub is_array_of : Ty → KindInfo → Bool
is_array_of ty (k.Array item) = same_type ty item
is_array_of ty _ = false

abbrev pub array_from : ℕ → List KindInfo → Ty → Option Kind
array_from n [] ty = None
array_from n (info ∷ infos) ty = if is_array_of ty info then Some (record { 0 = n }) else array_from (n + 1) infos ty

-- the first kind that is an array of elements of a type
abbrev pub array_of : Parts → Ty → Option Kind
array_of code ty = array_from 0 code.kinds ty

-- the type of the elements of a parallel loop's array, where its iterations have values of this type
abbrev pub element_type : Ty → Option Ty
element_type t.Void = None
element_type (t.Own kind) = Some (t.Iso kind)
element_type ty = Some ty

-- a result that isn't void goes to a register
abbrev pub result_to : Ty → ℕ → Option ℕ
result_to t.Void to = None
result_to _ to = Some to
