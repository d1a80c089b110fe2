-- Rule 1: each kind, implementation and function of a code is as it must be. The fault is at the number of the first that
-- isn't, where kinds, implementations and functions are counted in this order.
use Rattle.std.specs.Prelude.{ℕ, zero, suc, ◌+◌, List, [], ◌∷◌, ◌++◌, length, Option, Some, None, Bool, true, false, not, ◌&&◌, ◌||◌, ◌==◌, nat_lt, nat_le, if◌then◌else◌, slice_get}
use Rattle.std.specs.List.{list_any, list_all}
use Rattle.vale_code.specs.Kinds.{kind_of, same_type}
use Rattle.vale_code.specs.Parts.{Parts}
use Rattle.vale_code.specs.declared.func.Func.{Func}
use Rattle.vale_code.specs.declared.func.Impl.{Impl}
use Rattle.vale_code.specs.declared.kind.Field.{Field}
use Rattle.vale_code.specs.declared.kind.KindInfo.{KindInfo}
use Rattle.vale_code.specs.declared.kind.KindInfo.TheVariants as k
use Rattle.vale_code.specs.declared.kind.MethodInfo.{MethodInfo}
use Rattle.vale_code.specs.declared.ty.Ty.{Ty}
use Rattle.vale_code.specs.declared.ty.Ty.TheVariants as t
use Rattle.vale_cert.specs.Numbers.{is_text, numbers}
use Rattle.vale_cert.specs.Types as types
use Rattle.vale_cert.specs.Types.{◌⇒◌, is_void, is_copy, is_frozen, is_reference}
use Rattle.vale_cert.specs.declared.facts.FuncFacts.{FuncFacts}
use Rattle.vale_cert.specs.declared.facts.Label.{Label}
use Rattle.vale_cert.specs.declared.facts.RegFact.{RegFact}
use Rattle.vale_cert.specs.declared.facts.RegFact.TheVariants.{Empty, Held}

-- ---- the types of pure functions and methods

abbrev pub is_pure_param : Ty → Bool
is_pure_param (t.Frozen kind) = true
is_pure_param (t.Iso kind) = true
is_pure_param ty = is_copy ty

abbrev pub has_pure_types : List Ty → Ty → Bool
has_pure_types params result = list_all is_pure_param params && not (is_reference result)

-- ---- destructors: an owner of a struct comes in, and nothing comes out

abbrev pub takes_owner : ℕ → List Ty → Bool
takes_owner n (t.Own kind ∷ []) = kind.0 == n
takes_owner n _ = false

abbrev pub is_destructor_of : ℕ → Option Func → Bool
is_destructor_of n None = false
is_destructor_of n (Some f) = (f.form == 3) && takes_owner n f.params && is_void f.result

abbrev pub destroys : ℕ → List Func → Option ℕ → Bool
destroys n funcs None = true
destroys n funcs (Some f) = is_destructor_of n (slice_get funcs f)

-- ---- methods of interfaces: the first parameter is the receiver, which a pure one only reads

abbrev pub takes_receiver : ℕ → Bool → List Ty → Bool
takes_receiver n is_pure [] = false
takes_receiver n is_pure (t.Ref kind ∷ params) = (kind.0 == n) && not is_pure
takes_receiver n is_pure (t.Frozen kind ∷ params) = kind.0 == n
takes_receiver n is_pure (_ ∷ params) = false

-- ---- implementations

-- the receiver of a method, and that of the function which it is for a struct
abbrev pub receives : Impl → Ty → Ty → Bool
receives impl (t.Ref a) (t.Ref b) = (a.0 == impl.interface.0) && (b.0 == impl.of.0)
receives impl (t.Frozen a) (t.Frozen b) = (a.0 == impl.interface.0) && (b.0 == impl.of.0)
receives impl _ _ = false

abbrev pub same_types : List Ty → List Ty → Bool
same_types [] [] = true
same_types [] (y ∷ ys) = false
same_types (x ∷ xs) [] = false
same_types (x ∷ xs) (y ∷ ys) = same_type x y && same_types xs ys

abbrev pub same_params : Impl → List Ty → List Ty → Bool
same_params impl [] ys = false
same_params impl (x ∷ xs) [] = false
same_params impl (x ∷ xs) (y ∷ ys) = receives impl x y && same_types xs ys

abbrev pub form_for : Bool → ℕ
form_for true = 1
form_for false = 0

abbrev pub implements_method : Impl → MethodInfo → Option Func → Bool
implements_method impl m None = false
implements_method impl m (Some f) = (f.form == form_for m.is_pure) && same_params impl m.params f.params && same_type m.result f.result

-- one function for each method
abbrev pub implements_each : List Func → Impl → List MethodInfo → List ℕ → Bool
implements_each funcs impl [] [] = true
implements_each funcs impl [] (f ∷ fs) = false
implements_each funcs impl (m ∷ ms) [] = false
implements_each funcs impl (m ∷ ms) (f ∷ fs) = implements_method impl m (slice_get funcs f) && implements_each funcs impl ms fs

-- a struct implements an interface
abbrev pub implements : List Func → Impl → Option KindInfo → Option KindInfo → Bool
implements funcs impl (Some (k.Interface name methods)) (Some (k.Struct other destructor fields)) = implements_each funcs impl methods impl.funcs
implements funcs impl _ _ = false

abbrev pub same_pair : Impl → Impl → Bool
same_pair a b = (a.interface.0 == b.interface.0) && (a.of.0 == b.of.0)

-- an implementation, with the earlier ones
abbrev pub impl_is_lawful : Parts → List Impl → Impl → Bool
impl_is_lawful code before impl =
    implements code.funcs impl (kind_of code impl.interface) (kind_of code impl.of) && not (list_any (same_pair impl) before)

-- ---- functions

-- what an iteration gets: a number or an isolate
abbrev pub is_item : Ty → Bool
is_item t.Int = true
is_item (t.Iso kind) = true
is_item _ = false

-- what all iterations get
abbrev pub is_captured : Ty → Bool
is_captured (t.Frozen kind) = true
is_captured ty = is_copy ty

abbrev pub takes_item : List Ty → Bool
takes_item [] = false
takes_item (ty ∷ tys) = is_item ty && list_all is_captured tys

abbrev pub is_struct : Option KindInfo → Bool
is_struct (Some (k.Struct name destructor fields)) = true
is_struct _ = false

-- the input array: of numbers or of texts
abbrev pub is_input : Option KindInfo → Bool
is_input (Some (k.Array t.Int)) = true
is_input (Some (k.Array t.Text)) = true
is_input _ = false

abbrev pub is_empty : {A : Type 0} → List A → Bool
is_empty [] = true
is_empty (x ∷ xs) = false

abbrev pub takes_a_struct : Parts → List Ty → Bool
takes_a_struct code (t.Own kind ∷ []) = is_struct (kind_of code kind)
takes_a_struct code _ = false

-- only parameters of iterations are known to be alive
abbrev pub has_live : Func → List ℕ → Bool
has_live f live = is_empty live || ((f.form == 2) && list_all (λ n. nat_lt n (length f.params)) live)

abbrev pub has_input : Parts → List Ty → Bool
has_input code [] = true
has_input code (t.Own kind ∷ []) = is_input (kind_of code kind)
has_input code _ = false

abbrev pub is_main : Parts → Func → Bool
is_main code f = (f.form == 0) && has_input code f.params && is_void f.result

abbrev pub body_is_lawful : Parts → Func → Bool
body_is_lawful code f =
    nat_le (length f.params) f.registers && nat_lt 0 (length f.body) && list_all (numbers code f.registers) f.body

-- ---- numbers of faults

abbrev pub counted_after : ℕ → Option ℕ → Option ℕ
counted_after n None = None
counted_after n (Some m) = Some (n + m)

abbrev pub or_else : Option ℕ → Option ℕ → Option ℕ
or_else None o = o
or_else (Some n) o = Some n

abbrev pub impls_fault : Parts → ℕ → List Impl → List Impl → Option ℕ
impls_fault code n before [] = None
impls_fault code n before (impl ∷ impls) = if impl_is_lawful code before impl then impls_fault code (n + 1) (before ++ impl ∷ []) impls else Some n

-- ---- what asks for types

-- where this says which kinds reach an isolate
module _ (code : Parts) (reaches : ℕ → Bool) where
  abbrev pub field_is_lawful : Field → Bool
  field_is_lawful field = types.is_field code reaches field.ty

  abbrev pub method_is_lawful : ℕ → MethodInfo → Bool
  method_is_lawful n m =
      is_text code m.name && takes_receiver n m.is_pure m.params && list_all (types.is_type code reaches) m.params
      && types.is_result code reaches m.result && (m.is_pure ⇒ has_pure_types m.params m.result)

  -- kind n
  abbrev pub kind_is_lawful : ℕ → KindInfo → Bool
  kind_is_lawful n (k.Struct name destructor fields) = is_text code name && destroys n code.funcs destructor && list_all field_is_lawful fields
  kind_is_lawful n (k.Interface name methods) = is_text code name && list_all (method_is_lawful n) methods
  kind_is_lawful n (k.Array item) = types.is_element code reaches item

  -- what comes of an iteration: nothing, a copy value, an isolate, or an owner that may become one
  abbrev pub may_leave_iteration : Ty → Bool
  may_leave_iteration t.Void = true
  may_leave_iteration (t.Own kind) = types.may_be_isolate code reaches kind
  may_leave_iteration ty = not (is_reference ty)

  -- a function has its form: plain, pure, the iterations of a loop, or a destructor
  abbrev pub has_form : ℕ → Func → Bool
  has_form zero f = true
  has_form (suc zero) f = has_pure_types f.params f.result
  has_form (suc (suc zero)) f = takes_item f.params && may_leave_iteration f.result
  has_form (suc (suc (suc zero))) f = takes_a_struct code f.params && is_void f.result
  has_form _ f = false

  abbrev pub fact_is_lawful : RegFact → Bool
  fact_is_lawful Empty = true
  fact_is_lawful (Held ty depth live) = types.is_type code reaches ty

  -- it states something of each register, at a place of the function
  abbrev pub label_is_lawful : Func → Label → Bool
  label_is_lawful f label = nat_lt label.at (length f.body) && (length label.regs == f.registers) && list_all fact_is_lawful label.regs

  abbrev pub head_is_lawful : Func → Bool
  head_is_lawful f =
      is_text code f.name && has_form f.form f && list_all (types.is_type code reaches) f.params && types.is_result code reaches f.result

  -- function m
  abbrev pub func_is_lawful : ℕ → Func → FuncFacts → Bool
  func_is_lawful m f facts =
      head_is_lawful f && body_is_lawful code f && has_live f facts.live && list_all (label_is_lawful f) facts.labels
      && ((m == code.main) ⇒ is_main code f)

  -- ---- the first that is unlawful

  abbrev pub kinds_fault : ℕ → List KindInfo → Option ℕ
  kinds_fault n [] = None
  kinds_fault n (info ∷ infos) = if kind_is_lawful n info then kinds_fault (n + 1) infos else Some n

  -- functions from function m on, each with its facts; in the end `main` has to be one of them
  abbrev pub funcs_fault : ℕ → List Func → List FuncFacts → Option ℕ
  funcs_fault m [] [] = if nat_lt code.main m then None else Some m
  funcs_fault m [] (facts ∷ more) = Some m
  funcs_fault m (f ∷ fs) [] = Some m
  funcs_fault m (f ∷ fs) (facts ∷ more) = if func_is_lawful m f facts then funcs_fault (m + 1) fs more else Some m

  abbrev pub shape_fault_by : List FuncFacts → Option ℕ
  shape_fault_by facts =
      or_else (kinds_fault 0 code.kinds)
      (or_else (counted_after (length code.kinds) (impls_fault code 0 [] code.impls))
      (counted_after (length code.kinds + length code.impls) (funcs_fault 0 code.funcs facts)))

-- the number of the first that isn't as it must be
abbrev pub shape_fault : Parts → List FuncFacts → Option ℕ
shape_fault code facts = shape_fault_by code (types.reaches_isolate code) facts
