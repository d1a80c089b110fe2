-- Which kinds a kind leads to, by the ways that count.
use Rattle.std.specs.Prelude.{ℕ, zero, suc, List, length, Option, None, Some, Bool, true, false, ◌||◌, ◌≡◌, slice_get}
use Rattle.std.specs.List.{list_any}
use Rattle.vale_code.specs.Parts.{Parts}
use Rattle.vale_code.specs.declared.func.Impl.{Impl}
use Rattle.vale_code.specs.declared.kind.Field.{Field}
use Rattle.vale_code.specs.declared.kind.KindInfo.{KindInfo}
use Rattle.vale_code.specs.declared.kind.KindInfo.TheVariants as k
use Rattle.vale_code.specs.declared.ty.Ty.{Ty}
use Rattle.vale_code.specs.declared.ty.Ty.TheVariants as t
use Rattle.vale_cert.specs.Types.{marked, type_reaches, field_reaches, impl_reaches, is_isolate}
use Rattle.vale_marks.specs.declared.edges.Edge.{Edge}
use Rattle.vale_marks.specs.declared.way.Way.{Way}
use Rattle.vale_marks.specs.declared.way.Way.TheVariants.{Any, Arrays}

-- the type is an isolate, or leads to a marked kind
abbrev pub type_leads : Way → (ℕ → Bool) → Ty → Bool
type_leads Any is_marked ty = type_reaches is_marked ty
type_leads Arrays is_marked (t.Own kind) = is_marked kind.0
type_leads Arrays is_marked ty = is_isolate ty

-- a kind does, by what it has
abbrev pub info_leads : Way → (ℕ → Bool) → KindInfo → Bool
info_leads Any is_marked (k.Struct name destructor fields) = list_any (field_reaches is_marked) fields
info_leads Arrays is_marked (k.Struct name destructor fields) = false
info_leads way is_marked (k.Interface name methods) = false
info_leads way is_marked (k.Array item) = type_leads way is_marked item

abbrev pub has_leads : Way → (ℕ → Bool) → Option KindInfo → Bool
has_leads way is_marked None = false
has_leads way is_marked (Some info) = info_leads way is_marked info

-- an interface does, by the structs that implement it
abbrev pub impls_lead : (ℕ → Bool) → List Impl → ℕ → Option KindInfo → Bool
impls_lead is_marked impls n (Some (k.Interface name methods)) = list_any (impl_reaches is_marked n) impls
impls_lead is_marked impls n _ = false

abbrev pub interface_leads : Way → (ℕ → Bool) → List Impl → ℕ → Option KindInfo → Bool
interface_leads Any is_marked impls n info = impls_lead is_marked impls n info
interface_leads Arrays is_marked impls n info = false

-- kind n does, in one of both ways
abbrev pub leads : Way → Parts → (ℕ → Bool) → ℕ → Bool
leads way code is_marked n =
    has_leads way is_marked (slice_get code.kinds n) || interface_leads way is_marked code.impls n (slice_get code.kinds n)

-- kind n does over fewer than so many kinds
abbrev pub leads_within : Way → Parts → ℕ → ℕ → Bool
leads_within way code zero n = false
leads_within way code (suc m) n = leads way code (leads_within way code m) n

-- No way needs a kind twice.
abbrev pub leads_to_isolate : Way → Parts → ℕ → Bool
leads_to_isolate way code n = leads_within way code (length code.kinds) n

-- ---- edges

-- a kind leads to another: where that is marked, this one leads to it
abbrev pub IsEdge : Way → Parts → Edge → Type 0
IsEdge way code edge = (is_marked : ℕ → Bool) → is_marked edge.to ≡ true → leads way code is_marked edge.from ≡ true

-- the type stands in kind n, so that n leads where the type does
abbrev pub StandsIn : Way → Parts → ℕ → Ty → Type 0
StandsIn way code n ty = (is_marked : ℕ → Bool) → type_leads way is_marked ty ≡ true → leads way code is_marked n ≡ true

-- no other kinds are marked than those that lead to an isolate
abbrev pub AreSound : Way → Parts → List Bool → Type 0
AreSound way code marks = (n : ℕ) → marked marks n ≡ true → leads_to_isolate way code n ≡ true

abbrev pub FieldsStandIn : Parts → ℕ → List Field → Type 0
FieldsStandIn code n fields = (is_marked : ℕ → Bool) → list_any (field_reaches is_marked) fields ≡ true → leads Any code is_marked n ≡ true

-- it is one of the code's implementations
abbrev pub ImplStandsIn : Parts → Impl → Type 0
ImplStandsIn code impl = (is_marked : ℕ → Bool) (n : ℕ) → impl_reaches is_marked n impl ≡ true → list_any (impl_reaches is_marked n) code.impls ≡ true
