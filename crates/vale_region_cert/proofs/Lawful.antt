-- What certified kinds keep: no cell is of a type `&imm`, and no isolate stands in an object of a struct.
use Rattle.std.proofs.Common.{◌≡◌, ℕ, zero, suc, List, [], ◌∷◌, length, Option, Some, None, Bool, true, false, not, ◌&&◌, ◌||◌, refl, subst}
use Rattle.std.specs.Prelude.{slice_get}
use Rattle.std.specs.List.{list_all}
use Rattle.std.proofs.lemmas.Bool.{and_parts}
use Rattle.vale_state_spec.specs.World.{Value, Int, Truth, Text, Own, Ref, Iso, World}
use Rattle.vale_base.specs.declared.name.Kind.{Kind}
use Rattle.vale_code.specs.Kinds.{kind_of}
use Rattle.vale_code.specs.Parts.{Parts}
use Rattle.vale_code.specs.declared.kind.Field.{Field}
use Rattle.vale_code.specs.declared.kind.KindInfo.{KindInfo}
use Rattle.vale_code.specs.declared.kind.KindInfo.TheVariants as k
use Rattle.vale_code.specs.declared.ty.Ty.{Ty}
use Rattle.vale_code.specs.declared.ty.Ty.TheVariants as t
use Rattle.vale_cert.specs.Certificate.{Certified}
use Rattle.vale_cert.specs.Numbers.{is_text}
use Rattle.vale_cert.specs.Objects.{types_of, fields_of, field_of, type_in, item_of, item_in}
use Rattle.vale_cert.specs.Shape.{destroys, field_is_lawful}
use Rattle.vale_cert.specs.Types.{is_frozen, is_isolate, isolates_under, array_test, is_type, is_element, is_field}
use Rattle.vale_cert.specs.declared.facts.FuncFacts.{FuncFacts}
use Rattle.vale_cert.proofs.Cells.{Each as EachOf}
use Rattle.vale_cert.proofs.Fit.{value_has, ArgsFit}
use Rattle.vale_cert.proofs.KindLaws.{kind_lawful}
use Rattle.vale_cert.proofs.Walks.{reaches}
use Rattle.vale_region_laws.specs.Regions.{Each, IsNoIso}

not_true : (b : Bool) → not b ≡ true → b ≡ false
not_true false e = refl
not_true true e = let x : ⊥ = cc in absurd x

pub no_iso : (ty : Ty) (v : Value) → is_isolate ty ≡ false → value_has ty v ≡ true → IsNoIso v
no_iso ty (Iso n) e h = from ty e h
  where
    from : (ty : Ty) → is_isolate ty ≡ false → value_has ty (Iso n) ≡ true → ⊥
    from (t.Iso k) e h = let x : ⊥ = cc in x
    from _ e h = let x : ⊥ = cc in x
no_iso ty (Own n) e h = tt
no_iso ty (Ref n) e h = tt
no_iso ty (Int n) e h = tt
no_iso ty (Truth n) e h = tt
no_iso ty (Text n) e h = tt

module _ (code : Parts) (facts : List FuncFacts) (cert : Certified code facts) where
  no_isolate : (n : ℕ) (ty : Ty) → not (isolates_under code n ty) ≡ true → is_isolate ty ≡ false
  no_isolate zero ty e = not_true (is_isolate ty) e
  no_isolate (suc n) ty e = from (is_isolate ty) refl
    where
      from : (b : Bool) → is_isolate ty ≡ b → is_isolate ty ≡ false
      from false q = q
      from true q = let y : not (true || array_test code (isolates_under code n) ty) ≡ true = subst (λ b. not (b || array_test code (isolates_under code n) ty) ≡ true) q e in let x : ⊥ = cc in absurd x

  element_type : (ty : Ty) → is_element code (reaches code facts cert) ty ≡ true → is_frozen ty ≡ false
  element_type ty e = not_true (is_frozen ty) (and_parts (is_type code (reaches code facts cert) ty) (not (is_frozen ty)) e).1

  field_type : (ty : Ty) → is_field code (reaches code facts cert) ty ≡ true → (is_frozen ty ≡ false) × (is_isolate ty ≡ false)
  field_type ty e =
      let p = and_parts (is_element code (reaches code facts cert) ty) (not (isolates_under code (length code.kinds) ty)) e in
      (element_type ty p.0, no_isolate (length code.kinds) ty p.1)

  abbrev AreFields : List Ty → Type 0
  AreFields tys = Each (λ ty. (is_frozen ty ≡ false) × (is_isolate ty ≡ false)) tys

  field_types : (fields : List Field) → list_all (field_is_lawful code (reaches code facts cert)) fields ≡ true → AreFields (types_of fields)
  field_types [] e = tt
  field_types (x ∷ fields) e =
      let p = and_parts (field_is_lawful code (reaches code facts cert) x) (list_all (field_is_lawful code (reaches code facts cert)) fields) e in
      (field_type x.ty p.0, field_types fields p.1)

  -- the fields of a struct
  pub fields_lawful : (kind : Kind) (tys : List Ty) → fields_of (kind_of code kind) ≡ Some tys → AreFields tys
  fields_lawful kind tys e = from (kind_of code kind) refl e
    where
      from : (info : Option KindInfo) → kind_of code kind ≡ info → fields_of info ≡ Some tys → AreFields tys
      from (Some (k.Struct name destructor fields)) q e =
          let a = and_parts (is_text code name && destroys kind.0 code.funcs destructor) (list_all (field_is_lawful code (reaches code facts cert)) fields) (kind_lawful code facts cert kind (k.Struct name destructor fields) q) in
          let same : types_of fields ≡ tys = cc in subst AreFields same (field_types fields a.1)
      from (Some (k.Array item)) q e = let x : ⊥ = cc in absurd x
      from (Some (k.Interface name methods)) q e = let x : ⊥ = cc in absurd x
      from None q e = let x : ⊥ = cc in absurd x

  pub item_lawful : (kind : Kind) (item : Ty) → item_of code kind ≡ Some item → is_frozen item ≡ false
  item_lawful kind item e = from (kind_of code kind) refl e
    where
      from : (info : Option KindInfo) → kind_of code kind ≡ info → item_in info ≡ Some item → is_frozen item ≡ false
      from (Some (k.Array it)) q e = let same : it ≡ item = cc in subst (λ ty. is_frozen ty ≡ false) same (element_type it (kind_lawful code facts cert kind (k.Array it) q))
      from (Some (k.Struct name destructor fields)) q e = let x : ⊥ = cc in absurd x
      from (Some (k.Interface name methods)) q e = let x : ⊥ = cc in absurd x
      from None q e = let x : ⊥ = cc in absurd x

  field_at : (tys : List Ty) (n : ℕ) (ty : Ty) → AreFields tys → slice_get tys n ≡ Some ty → (is_frozen ty ≡ false) × (is_isolate ty ≡ false)
  field_at [] n ty h e = let x : ⊥ = cc in absurd x
  field_at (u ∷ tys) zero ty h e = let same : u ≡ ty = cc in subst (λ ty. (is_frozen ty ≡ false) × (is_isolate ty ≡ false)) same h.0
  field_at (u ∷ tys) (suc n) ty h e = field_at tys n ty h.1 e

  -- one of them, with all of them
  pub field_of_lawful : (field : ℕ) (kind : Kind) (ty : Ty) → field_of code field kind ≡ Some ty → (tys : List Ty) × (fields_of (kind_of code kind) ≡ Some tys) × (is_frozen ty ≡ false)
  field_of_lawful field kind ty e = from (fields_of (kind_of code kind)) refl e
    where
      from : (o : Option (List Ty)) → fields_of (kind_of code kind) ≡ o → type_in o field ≡ Some ty → (tys : List Ty) × (fields_of (kind_of code kind) ≡ Some tys) × (is_frozen ty ≡ false)
      from None q e = let x : ⊥ = cc in absurd x
      from (Some tys) q e = (tys, q, (field_at tys field ty (fields_lawful kind tys q) e).0)

  pub values_no_iso : (w : World) (tys : List Ty) (vs : List Value) → AreFields tys → ArgsFit code w tys vs → Each IsNoIso vs
  values_no_iso w [] [] h a = tt
  values_no_iso w [] (v ∷ vs) h a = absurd a
  values_no_iso w (ty ∷ tys) [] h a = absurd a
  values_no_iso w (ty ∷ tys) (v ∷ vs) h a = (no_iso ty v h.0.1 a.0.shape, values_no_iso w tys vs h.1 a.1)

  pub items_no_iso : (w : World) (item : Ty) (vs : List Value) → is_isolate item ≡ false → EachOf code w item vs → Each IsNoIso vs
  items_no_iso w item [] e h = tt
  items_no_iso w item (v ∷ vs) e h = (no_iso item v e h.0.shape, items_no_iso w item vs e h.1)
