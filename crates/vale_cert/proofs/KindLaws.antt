-- What rule 1 says of kinds and implementations.
use Rattle.std.proofs.Common.{◌≡◌, ℕ, zero, suc, ◌+◌, List, [], ◌∷◌, ◌++◌, Option, Some, None, Bool, true, false, ◌&&◌, ◌||◌, ◌==◌, not, if◌then◌else◌, refl, sym, ap, ◌∙◌, subst, arith}
use Rattle.std.specs.Prelude.{slice_get}
use Rattle.std.specs.List.{list_any, list_all}
use Rattle.std.proofs.lemmas.Bool.{and_parts}
use Rattle.vale_base.specs.declared.name.Kind.{Kind}
use Rattle.vale_code.specs.Kinds.{kind_of, is_for, method_in}
use Rattle.vale_code.specs.Parts.{Parts}
use Rattle.vale_code.specs.declared.func.Func.{Func}
use Rattle.vale_code.specs.declared.func.Impl.{Impl}
use Rattle.vale_code.specs.declared.kind.KindInfo.{KindInfo}
use Rattle.vale_code.specs.declared.kind.KindInfo.TheVariants as k
use Rattle.vale_code.specs.declared.kind.MethodInfo.{MethodInfo}
use Rattle.vale_code.specs.declared.ty.Ty.{Ty}
use Rattle.vale_cert.specs.Certificate.{Certified}
use Rattle.vale_cert.specs.Numbers.{method_from}
use Rattle.vale_cert.specs.Objects.{is_implemented}
use Rattle.vale_cert.specs.Numbers.{is_text}
use Rattle.vale_cert.specs.Types as types
use Rattle.vale_cert.specs.Types.{◌⇒◌}
use Rattle.vale_cert.specs.Shape.{implements_each, implements_method, method_is_lawful, takes_receiver, has_pure_types, same_types, impls_fault, kinds_fault, kind_is_lawful, impl_is_lawful, implements, same_pair}
use Rattle.vale_cert.specs.declared.facts.FuncFacts.{FuncFacts}
use Rattle.vale_cert.proofs.Fit.{kind_fits, kind_is, type_is}
use Rattle.vale_cert.proofs.Walks.{if_none, impls_lawful, kinds_lawful, reaches}

or_right : (a b : Bool) → a ≡ false → (a || b) ≡ true → b ≡ true
or_right false b e h = h
or_right true b e h = let x : ⊥ = cc in absurd x

-- the implementation of an interface by a struct
pub record Implemented (code : Parts) (impls : List Impl) (interface : ℕ) (kind : Kind) : Type 0 where
  pub impl : Impl
  pub is : is_for interface kind impl ≡ true
  pub lawful : implements code.funcs impl (kind_of code impl.interface) (kind_of code impl.of) ≡ true
  pub dispatch : (m : ℕ) → method_in impls interface m kind ≡ slice_get impl.funcs m

module _ (code : Parts) (interface : ℕ) (kind : Kind) where
  first_or_later : (before : List Impl) (impl : Impl) (impls : List Impl) → impl_is_lawful code before impl ≡ true
      → (list_any (is_for interface kind) impls ≡ true → Implemented code impls interface kind)
      → list_any (is_for interface kind) (impl ∷ impls) ≡ true
      → (b : Bool) → is_for interface kind impl ≡ b → Implemented code (impl ∷ impls) interface kind
  first_or_later before impl impls lawful rest h true g = record {
    impl = impl;
    is = g;
    lawful = (and_parts (implements code.funcs impl (kind_of code impl.interface) (kind_of code impl.of)) (not (list_any (same_pair impl) before)) lawful).0;
    dispatch = λ m. ap (λ b. if b then slice_get impl.funcs m else method_in impls interface m kind) g;
  }
  first_or_later before impl impls lawful rest h false g =
      let r = rest (or_right (is_for interface kind impl) (list_any (is_for interface kind) impls) g h) in
      record { impl = r.impl; is = r.is; lawful = r.lawful; dispatch = λ m. ap (λ b. if b then slice_get impl.funcs m else method_in impls interface m kind) g ∙ r.dispatch m }

  implemented_in : (n : ℕ) (before impls : List Impl) → impls_fault code n before impls ≡ None → list_any (is_for interface kind) impls ≡ true → Implemented code impls interface kind
  implemented_in n before [] e h = let x : ⊥ = cc in absurd x
  implemented_in n before (impl ∷ impls) e h =
      let p = if_none (impl_is_lawful code before impl) (impls_fault code (n + 1) (before ++ impl ∷ []) impls) n e in
      first_or_later before impl impls p.0 (λ g. implemented_in (n + 1) (before ++ impl ∷ []) impls p.1 g) h (is_for interface kind impl) refl

abbrev pub is_concrete : KindInfo → Bool
is_concrete (k.Interface name methods) = false
is_concrete _ = true

-- only interfaces are implemented
only_interfaces : (funcs : List Func) (impl : Impl) (info : KindInfo) (o : Option KindInfo) → is_concrete info ≡ true → implements funcs impl (Some info) o ≡ true → ⊥
only_interfaces funcs impl (k.Struct name destructor fields) None e h = let x : ⊥ = cc in x
only_interfaces funcs impl (k.Struct name destructor fields) (Some o) e h = let x : ⊥ = cc in x
only_interfaces funcs impl (k.Array item) None e h = let x : ⊥ = cc in x
only_interfaces funcs impl (k.Array item) (Some o) e h = let x : ⊥ = cc in x
only_interfaces funcs impl (k.Interface name methods) o e h = let x : ⊥ = cc in x

pub types_are : (xs ys : List Ty) → same_types xs ys ≡ true → xs ≡ ys
types_are [] [] e = refl
types_are [] (y ∷ ys) e = let x : ⊥ = cc in absurd x
types_are (x ∷ xs) [] e = let y : ⊥ = cc in absurd y
types_are (x ∷ xs) (y ∷ ys) e =
    let p = and_parts (Rattle.vale_code.specs.Kinds.same_type x y) (same_types xs ys) e in
    ap (λ x. x ∷ xs) (type_is x y p.0) ∙ ap (λ xs. y ∷ xs) (types_are xs ys p.1)

module _ (code : Parts) (facts : List FuncFacts) (cert : Certified code facts) where
  pub implemented : (interface kind : Kind) → is_implemented code.impls interface kind ≡ true → Implemented code code.impls interface.0 kind
  implemented interface kind e = implemented_in code interface.0 kind 0 [] code.impls (impls_lawful code facts cert) e

  -- of an object that is seen as a struct or an array, that is its kind
  pub exactly : (of kind : Kind) (info : KindInfo) → kind_of code kind ≡ Some info → is_concrete info ≡ true → kind_fits code of kind ≡ true → of ≡ kind
  exactly of kind info e c h = from (of.0 == kind.0) refl
    where
      interface_kind : Implemented code code.impls kind.0 of → ⊥
      interface_kind r =
          let like : r.impl.interface ≡ kind = kind_is r.impl.interface kind (and_parts (r.impl.interface.0 == kind.0) (r.impl.of.0 == of.0) r.is).0 in
          only_interfaces code.funcs r.impl info (kind_of code r.impl.of) c (subst (λ o. implements code.funcs r.impl o (kind_of code r.impl.of) ≡ true) (ap (λ k. kind_of code k) like ∙ e) r.lawful)

      from : (b : Bool) → (of.0 == kind.0) ≡ b → of ≡ kind
      from true g = kind_is of kind g
      from false g = absurd (interface_kind (implemented kind of (or_right (of.0 == kind.0) (is_implemented code.impls kind of) g h)))

  kind_at : (n m : ℕ) (infos : List KindInfo) (info : KindInfo) → kinds_fault code (reaches code facts cert) n infos ≡ None → slice_get infos m ≡ Some info → kind_is_lawful code (reaches code facts cert) (n + m) info ≡ true
  kind_at n m [] info e h = let x : ⊥ = cc in absurd x
  kind_at n zero (i ∷ infos) info e h =
      let here : i ≡ info = cc in
      let first : n ≡ n + 0 = omega arith in
      subst (λ x. kind_is_lawful code (reaches code facts cert) x info ≡ true) first (subst (λ x. kind_is_lawful code (reaches code facts cert) n x ≡ true) here (if_none (kind_is_lawful code (reaches code facts cert) n i) (kinds_fault code (reaches code facts cert) (n + 1) infos) n e).0)
  kind_at n (suc m) (i ∷ infos) info e h =
      subst (λ x. kind_is_lawful code (reaches code facts cert) x info ≡ true) (let x : n + 1 + m ≡ n + suc m = omega arith in x)
      (kind_at (n + 1) m infos info (if_none (kind_is_lawful code (reaches code facts cert) n i) (kinds_fault code (reaches code facts cert) (n + 1) infos) n e).1 h)

  pub kind_lawful : (kind : Kind) (info : KindInfo) → kind_of code kind ≡ Some info → kind_is_lawful code (reaches code facts cert) kind.0 info ≡ true
  kind_lawful kind info e = let first : 0 + kind.0 ≡ kind.0 = omega arith in subst (λ x. kind_is_lawful code (reaches code facts cert) x info ≡ true) first (kind_at 0 kind.0 code.kinds info (kinds_lawful code facts cert) e)

  struct_of : (funcs : List Func) (impl : Impl) (a b : Option KindInfo) → implements funcs impl a b ≡ true → (info : KindInfo) × (b ≡ Some info) × (is_concrete info ≡ true)
  struct_of funcs impl (Some (k.Interface name methods)) (Some (k.Struct other destructor fields)) e = (k.Struct other destructor fields, refl, refl)
  struct_of funcs impl _ _ e = let x : ⊥ = cc in absurd x

  or_true : (a b : Bool) → b ≡ true → (a || b) ≡ true
  or_true true b e = refl
  or_true false b e = e

  -- what is of a struct may be seen as an interface that the struct implements
  pub raised_fits : (interface kind of : Kind) → is_implemented code.impls interface kind ≡ true → kind_fits code of kind ≡ true → kind_fits code of interface ≡ true
  raised_fits interface kind of e h =
      let r = implemented interface kind e in
      let like : r.impl.of ≡ kind = kind_is r.impl.of kind (and_parts (r.impl.interface.0 == interface.0) (r.impl.of.0 == kind.0) r.is).1 in
      let info = struct_of code.funcs r.impl (kind_of code r.impl.interface) (kind_of code r.impl.of) r.lawful in
      let same_kind : of ≡ kind = exactly of kind info.0 (sym (ap (λ k. kind_of code k) like) ∙ info.1) info.2 h in
      subst (λ k. kind_fits code k interface ≡ true) (sym same_kind) (or_true (kind.0 == interface.0) (is_implemented code.impls interface kind) e)

  -- ---- methods

  all_at : (test : MethodInfo → Bool) (ms : List MethodInfo) (n : ℕ) (m : MethodInfo) → list_all test ms ≡ true → slice_get ms n ≡ Some m → test m ≡ true
  all_at test [] n m e h = let x : ⊥ = cc in absurd x
  all_at test (x ∷ ms) zero m e h = let is : x ≡ m = cc in subst (λ x. test x ≡ true) is (and_parts (test x) (list_all test ms) e).0
  all_at test (x ∷ ms) (suc n) m e h = all_at test ms n m (and_parts (test x) (list_all test ms) e).1 h

  -- a method's first parameter is a reference to its interface
  pub receiver : (kind : Kind) (n : ℕ) (m : MethodInfo) → method_from (kind_of code kind) n ≡ Some m → takes_receiver kind.0 m.is_pure m.params ≡ true
  receiver kind n m e = from (kind_of code kind) refl e
    where
      from : (info : Option KindInfo) → kind_of code kind ≡ info → method_from info n ≡ Some m → takes_receiver kind.0 m.is_pure m.params ≡ true
      from (Some (k.Interface name methods)) q e =
          let reach = reaches code facts cert in
          let whole = kind_lawful kind (k.Interface name methods) q in
          let lawful = all_at (method_is_lawful code reach kind.0) methods n m (and_parts (is_text code name) (list_all (method_is_lawful code reach kind.0) methods) whole).1 e in
          let a = and_parts (is_text code m.name && takes_receiver kind.0 m.is_pure m.params && list_all (types.is_type code reach) m.params && types.is_result code reach m.result) (m.is_pure ⇒ has_pure_types m.params m.result) lawful in
          let b = and_parts (is_text code m.name && takes_receiver kind.0 m.is_pure m.params && list_all (types.is_type code reach) m.params) (types.is_result code reach m.result) a.0 in
          let c = and_parts (is_text code m.name && takes_receiver kind.0 m.is_pure m.params) (list_all (types.is_type code reach) m.params) b.0 in
          (and_parts (is_text code m.name) (takes_receiver kind.0 m.is_pure m.params) c.0).1
      from (Some (k.Struct name destructor fields)) q e = let x : ⊥ = cc in absurd x
      from (Some (k.Array item)) q e = let x : ⊥ = cc in absurd x
      from None q e = let x : ⊥ = cc in absurd x

  each_implemented : (impl : Impl) (ms : List MethodInfo) (fs : List ℕ) (n : ℕ) (m : MethodInfo) → implements_each code.funcs impl ms fs ≡ true → slice_get ms n ≡ Some m
      → (g : ℕ) × (slice_get fs n ≡ Some g) × (implements_method impl m (slice_get code.funcs g) ≡ true)
  each_implemented impl [] fs n m e h = let x : ⊥ = cc in absurd x
  each_implemented impl (x ∷ ms) [] n m e h = let x : ⊥ = cc in absurd x
  each_implemented impl (x ∷ ms) (g ∷ fs) zero m e h =
      let is : x ≡ m = cc in (g, refl, subst (λ x. implements_method impl x (slice_get code.funcs g) ≡ true) is (and_parts (implements_method impl x (slice_get code.funcs g)) (implements_each code.funcs impl ms fs) e).0)
  each_implemented impl (x ∷ ms) (g ∷ fs) (suc n) m e h = each_implemented impl ms fs n m (and_parts (implements_method impl x (slice_get code.funcs g)) (implements_each code.funcs impl ms fs) e).1 h

  -- the function that a method is for a struct
  pub record MethodOf (interface kind : Kind) (n : ℕ) (m : MethodInfo) : Type 0 where
    pub impl : Impl
    pub of_is : (impl.of.0 == kind.0) ≡ true
    pub g : ℕ
    pub dispatch : method_in code.impls interface.0 n kind ≡ Some g
    pub lawful : implements_method impl m (slice_get code.funcs g) ≡ true

  pub method_found : (interface kind : Kind) (n : ℕ) (m : MethodInfo) → method_from (kind_of code interface) n ≡ Some m → is_implemented code.impls interface kind ≡ true → MethodOf interface kind n m
  method_found interface kind n m e h = from (kind_of code interface) (kind_of code r.impl.of) refl e lawful_here
    where
      r : Implemented code code.impls interface.0 kind
      r = implemented interface kind h

      parts : ((r.impl.interface.0 == interface.0) ≡ true) × ((r.impl.of.0 == kind.0) ≡ true)
      parts = and_parts (r.impl.interface.0 == interface.0) (r.impl.of.0 == kind.0) r.is

      lawful_here : implements code.funcs r.impl (kind_of code interface) (kind_of code r.impl.of) ≡ true
      lawful_here = subst (λ k. implements code.funcs r.impl (kind_of code k) (kind_of code r.impl.of) ≡ true) (kind_is r.impl.interface interface parts.0) r.lawful

      from : (a b : Option KindInfo) → kind_of code interface ≡ a → method_from a n ≡ Some m → implements code.funcs r.impl a b ≡ true → MethodOf interface kind n m
      from (Some (k.Interface name methods)) (Some (k.Struct other destructor fields)) q e l =
          let g = each_implemented r.impl methods r.impl.funcs n m l e in
          record { impl = r.impl; of_is = parts.1; g = g.0; dispatch = r.dispatch n ∙ g.1; lawful = g.2 }
      from _ _ q e l = let x : ⊥ = cc in absurd x
