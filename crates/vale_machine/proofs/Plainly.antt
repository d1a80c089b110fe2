-- Certified code that has no kinds has none of the instructions on objects.
use Rattle.std.proofs.Common.{◌≡◌, ℕ, zero, suc, ◌+◌, ◌<◌, List, [], ◌∷◌, ◌++◌, length, replicate, Option, Some, None, Bool, true, false, ◌&&◌, ◌==◌, if◌then◌else◌, nat_lt, refl, ap, subst, arith}
use Rattle.std.specs.Prelude.{slice_get, slice_set}
use Rattle.std.specs.List.{list_all}
use Rattle.std.proofs.lemmas.Bool.{and_parts}
use Rattle.std.proofs.lemmas.Bool.Decides.{nat_tests}
use Rattle.vale_base.specs.declared.name.Kind.{Kind}
use Rattle.vale_code.specs.Kinds.{kind_of}
use Rattle.vale_code.specs.Parts.{Parts}
use Rattle.vale_code.specs.declared.func.Func.{Func}
use Rattle.vale_code.specs.declared.func.Impl.{Impl}
use Rattle.vale_code.specs.declared.instr.Instr.{Instr}
use Rattle.vale_code.specs.declared.instr.Instr.TheVariants as i
use Rattle.vale_code.specs.declared.kind.KindInfo.{KindInfo}
use Rattle.vale_code.specs.declared.ty.Ty.{Ty}
use Rattle.vale_code.specs.declared.ty.Ty.TheVariants as t
use Rattle.vale_cert.specs.Certificate.{Certified}
use Rattle.vale_cert.specs.Known.{Known, entry, fact_of, is_there, label_at, params_from, stated}
use Rattle.vale_cert.specs.Numbers.{method_from}
use Rattle.vale_cert.specs.Objects.{field_of, item_of, cell_by, owner_kind, reference_kind, read_kind, is_through_frozen}
use Rattle.vale_cert.specs.Rules.{Effect, reads, overwrites, copy_of, passed, passes_all, after_passing, comes_back, all_fine, call_by_form, calls, finds_alive, calls_method, is_moved, makes, fields_by, opens_of, leads, is_usable, is_raised, leads_as_owner, leads_as_reference, leads_to_read, reads_cell, swaps, pushes, pops, effect}
use Rattle.vale_cert.specs.Shape.{fact_is_lawful, label_is_lawful, head_is_lawful}
use Rattle.vale_cert.specs.Types.{is_copy, is_kind, is_type, is_result}
use Rattle.vale_cert.specs.Walk.{after, goes_on, known_after, walk}
use Rattle.vale_cert.specs.declared.facts.FuncFacts.{FuncFacts}
use Rattle.vale_cert.specs.declared.facts.Label.{Label}
use Rattle.vale_cert.specs.declared.facts.RegFact.{RegFact}
use Rattle.vale_cert.specs.declared.facts.RegFact.TheVariants.{Empty, Held}
use Rattle.vale_cert.proofs.Walks.{Stepped, stepped, Judged, lawful, reaches}
use Rattle.vale_turn.specs.Served.{is_served}

one : (a b : Bool) → (a && b) ≡ true → a ≡ true
one a b e = (and_parts a b e).0

-- ---- what registers hold: numbers, truths and texts

abbrev plain : RegFact → Bool
plain Empty = true
plain (Held ty d l) = is_copy ty

abbrev AllPlain : List RegFact → Type 0
AllPlain regs = (r : ℕ) → plain (fact_of regs r) ≡ true

plain_set : (regs : List RegFact) (to : ℕ) (x : RegFact) → AllPlain regs → plain x ≡ true → AllPlain (slice_set regs to x)
plain_set [] to x all e r = all r
plain_set (y ∷ regs) zero x all e zero = e
plain_set (y ∷ regs) zero x all e (suc r) = all (suc r)
plain_set (y ∷ regs) (suc to) x all e zero = all zero
plain_set (y ∷ regs) (suc to) x all e (suc r) = plain_set regs to x (λ q. all (suc q)) e r

copy_plain : (depth : ℕ) (x : RegFact) → plain x ≡ true → plain (copy_of depth x) ≡ true
copy_plain depth Empty e = refl
copy_plain depth (Held ty d l) e = e

after_pass : (regs : List RegFact) (a : ℕ) (ty : Ty) → AllPlain regs → AllPlain (after_passing regs a ty)
after_pass regs a (t.Own k) all = plain_set regs a Empty all refl
after_pass regs a (t.Iso k) all = plain_set regs a Empty all refl
after_pass regs a t.Void all = all
after_pass regs a t.Int all = all
after_pass regs a t.Truth all = all
after_pass regs a t.Text all = all
after_pass regs a (t.Ref k) all = all
after_pass regs a (t.Frozen k) all = all

after_passes : (depth : ℕ) (tys : List Ty) (args : List ℕ) (x : Effect) → AllPlain x.after → AllPlain (passes_all depth tys args x).after
after_passes depth [] [] x all = all
after_passes depth [] (a ∷ args) x all = all
after_passes depth (ty ∷ tys) [] x all = all
after_passes depth (ty ∷ tys) (a ∷ args) x all = after_passes depth tys args (passed depth a ty x) (after_pass x.after a ty all)

-- ---- no rule lets an instruction on objects be where a register holds no owner and no reference

moves_not : (b : Bool) (x : RegFact) → plain x ≡ true → is_moved x ≡ true → (is_there x && b) ≡ true → ⊥
moves_not b Empty e t h = let z : ⊥ = cc in z
moves_not b (Held t.Int d l) e t h = let z : ⊥ = cc in z
moves_not b (Held t.Truth d l) e t h = let z : ⊥ = cc in z
moves_not b (Held t.Text d l) e t h = let z : ⊥ = cc in z
moves_not b _ e t h = let z : ⊥ = cc in z

drops_not : (x : RegFact) → plain x ≡ true → is_moved x ≡ true → is_there x ≡ true → ⊥
drops_not Empty e t h = let z : ⊥ = cc in z
drops_not (Held t.Int d l) e t h = let z : ⊥ = cc in z
drops_not (Held t.Truth d l) e t h = let z : ⊥ = cc in z
drops_not (Held t.Text d l) e t h = let z : ⊥ = cc in z
drops_not _ e t h = let z : ⊥ = cc in z

borrows_not : (depth to : ℕ) (regs : List RegFact) (x : RegFact) → plain x ≡ true → (overwrites regs to (leads (is_usable depth x) x (owner_kind x))).types ≡ true → (overwrites regs to (leads (is_usable depth x) x (owner_kind x))).present ≡ true → ⊥
borrows_not depth to regs Empty e t h = let z : ⊥ = cc in z
borrows_not depth to regs (Held t.Int d l) e t h = let z : ⊥ = cc in z
borrows_not depth to regs (Held t.Truth d l) e t h = let z : ⊥ = cc in z
borrows_not depth to regs (Held t.Text d l) e t h = let z : ⊥ = cc in z
borrows_not depth to regs _ e t h = let z : ⊥ = cc in z

raises_not : (impls : List Impl) (kind : Kind) (b : Bool) (x : RegFact) → plain x ≡ true → is_raised impls kind x ≡ true → (is_there x && b) ≡ true → ⊥
raises_not impls kind b Empty e t h = let z : ⊥ = cc in z
raises_not impls kind b (Held t.Int d l) e t h = let z : ⊥ = cc in z
raises_not impls kind b (Held t.Truth d l) e t h = let z : ⊥ = cc in z
raises_not impls kind b (Held t.Text d l) e t h = let z : ⊥ = cc in z
raises_not impls kind b _ e t h = let z : ⊥ = cc in z

loads_own_not : (cell : Kind → Option Ty) (depth to : ℕ) (regs : List RegFact) (x : RegFact) → plain x ≡ true → (reads_cell depth false (cell_by cell (owner_kind x)) to (record { kept = leads_as_owner cell depth x; after = regs })).kept.types ≡ true → (reads_cell depth false (cell_by cell (owner_kind x)) to (record { kept = leads_as_owner cell depth x; after = regs })).kept.present ≡ true → ⊥
loads_own_not cell depth to regs Empty e t h = let z : ⊥ = cc in z
loads_own_not cell depth to regs (Held t.Int d l) e t h = let z : ⊥ = cc in z
loads_own_not cell depth to regs (Held t.Truth d l) e t h = let z : ⊥ = cc in z
loads_own_not cell depth to regs (Held t.Text d l) e t h = let z : ⊥ = cc in z
loads_own_not cell depth to regs _ e t h = let z : ⊥ = cc in z

loads_not : (cell : Kind → Option Ty) (depth to : ℕ) (regs : List RegFact) (x : RegFact) → plain x ≡ true → (reads_cell depth (is_through_frozen depth x) (cell_by cell (read_kind depth x)) to (record { kept = leads_to_read cell depth x; after = regs })).kept.types ≡ true → (reads_cell depth (is_through_frozen depth x) (cell_by cell (read_kind depth x)) to (record { kept = leads_to_read cell depth x; after = regs })).kept.present ≡ true → ⊥
loads_not cell depth to regs Empty e t h = let z : ⊥ = cc in z
loads_not cell depth to regs (Held t.Int d l) e t h = let z : ⊥ = cc in z
loads_not cell depth to regs (Held t.Truth d l) e t h = let z : ⊥ = cc in z
loads_not cell depth to regs (Held t.Text d l) e t h = let z : ⊥ = cc in z
loads_not cell depth to regs _ e t h = let z : ⊥ = cc in z

elems_own_not : (cell : Kind → Option Ty) (depth to n : ℕ) (regs after : List RegFact) (x : RegFact) → plain x ≡ true → (reads_cell depth false (cell_by cell (owner_kind x)) to (record { kept = reads regs n t.Int (leads_as_owner cell depth x); after = after })).kept.types ≡ true → (reads_cell depth false (cell_by cell (owner_kind x)) to (record { kept = reads regs n t.Int (leads_as_owner cell depth x); after = after })).kept.present ≡ true → ⊥
elems_own_not cell depth to n regs after Empty e t h = let z : ⊥ = cc in z
elems_own_not cell depth to n regs after (Held t.Int d l) e t h = let z : ⊥ = cc in z
elems_own_not cell depth to n regs after (Held t.Truth d l) e t h = let z : ⊥ = cc in z
elems_own_not cell depth to n regs after (Held t.Text d l) e t h = let z : ⊥ = cc in z
elems_own_not cell depth to n regs after _ e t h = let z : ⊥ = cc in z

elems_not : (cell : Kind → Option Ty) (depth to n : ℕ) (regs after : List RegFact) (x : RegFact) → plain x ≡ true → (reads_cell depth (is_through_frozen depth x) (cell_by cell (read_kind depth x)) to (record { kept = reads regs n t.Int (leads_to_read cell depth x); after = after })).kept.types ≡ true → (reads_cell depth (is_through_frozen depth x) (cell_by cell (read_kind depth x)) to (record { kept = reads regs n t.Int (leads_to_read cell depth x); after = after })).kept.present ≡ true → ⊥
elems_not cell depth to n regs after Empty e t h = let z : ⊥ = cc in z
elems_not cell depth to n regs after (Held t.Int d l) e t h = let z : ⊥ = cc in z
elems_not cell depth to n regs after (Held t.Truth d l) e t h = let z : ⊥ = cc in z
elems_not cell depth to n regs after (Held t.Text d l) e t h = let z : ⊥ = cc in z
elems_not cell depth to n regs after _ e t h = let z : ⊥ = cc in z

measures_not : (cell : Kind → Option Ty) (depth to : ℕ) (regs : List RegFact) (x : RegFact) → plain x ≡ true → (leads_to_read cell depth x).types ≡ true → (overwrites regs to (leads_to_read cell depth x)).present ≡ true → ⊥
measures_not cell depth to regs Empty e t h = let z : ⊥ = cc in z
measures_not cell depth to regs (Held t.Int d l) e t h = let z : ⊥ = cc in z
measures_not cell depth to regs (Held t.Truth d l) e t h = let z : ⊥ = cc in z
measures_not cell depth to regs (Held t.Text d l) e t h = let z : ⊥ = cc in z
measures_not cell depth to regs _ e t h = let z : ⊥ = cc in z

swaps_own_not : (cell : Kind → Option Ty) (depth to v : ℕ) (regs : List RegFact) (x : RegFact) → plain x ≡ true → (swaps depth regs (cell_by cell (owner_kind x)) to v (leads_as_owner cell depth x)).kept.types ≡ true → (swaps depth regs (cell_by cell (owner_kind x)) to v (leads_as_owner cell depth x)).kept.present ≡ true → ⊥
swaps_own_not cell depth to v regs Empty e t h = let z : ⊥ = cc in z
swaps_own_not cell depth to v regs (Held t.Int d l) e t h = let z : ⊥ = cc in z
swaps_own_not cell depth to v regs (Held t.Truth d l) e t h = let z : ⊥ = cc in z
swaps_own_not cell depth to v regs (Held t.Text d l) e t h = let z : ⊥ = cc in z
swaps_own_not cell depth to v regs _ e t h = let z : ⊥ = cc in z

swaps_not : (cell : Kind → Option Ty) (depth to v : ℕ) (regs : List RegFact) (x : RegFact) → plain x ≡ true → (swaps depth regs (cell_by cell (reference_kind x)) to v (leads_as_reference cell depth x)).kept.types ≡ true → (swaps depth regs (cell_by cell (reference_kind x)) to v (leads_as_reference cell depth x)).kept.present ≡ true → ⊥
swaps_not cell depth to v regs Empty e t h = let z : ⊥ = cc in z
swaps_not cell depth to v regs (Held t.Int d l) e t h = let z : ⊥ = cc in z
swaps_not cell depth to v regs (Held t.Truth d l) e t h = let z : ⊥ = cc in z
swaps_not cell depth to v regs (Held t.Text d l) e t h = let z : ⊥ = cc in z
swaps_not cell depth to v regs _ e t h = let z : ⊥ = cc in z

swaps_el_own_not : (cell : Kind → Option Ty) (depth to v n : ℕ) (regs : List RegFact) (x : RegFact) → plain x ≡ true → (swaps depth regs (cell_by cell (owner_kind x)) to v (reads regs n t.Int (leads_as_owner cell depth x))).kept.types ≡ true → (swaps depth regs (cell_by cell (owner_kind x)) to v (reads regs n t.Int (leads_as_owner cell depth x))).kept.present ≡ true → ⊥
swaps_el_own_not cell depth to v n regs Empty e t h = let z : ⊥ = cc in z
swaps_el_own_not cell depth to v n regs (Held t.Int d l) e t h = let z : ⊥ = cc in z
swaps_el_own_not cell depth to v n regs (Held t.Truth d l) e t h = let z : ⊥ = cc in z
swaps_el_own_not cell depth to v n regs (Held t.Text d l) e t h = let z : ⊥ = cc in z
swaps_el_own_not cell depth to v n regs _ e t h = let z : ⊥ = cc in z

swaps_el_not : (cell : Kind → Option Ty) (depth to v n : ℕ) (regs : List RegFact) (x : RegFact) → plain x ≡ true → (swaps depth regs (cell_by cell (reference_kind x)) to v (reads regs n t.Int (leads_as_reference cell depth x))).kept.types ≡ true → (swaps depth regs (cell_by cell (reference_kind x)) to v (reads regs n t.Int (leads_as_reference cell depth x))).kept.present ≡ true → ⊥
swaps_el_not cell depth to v n regs Empty e t h = let z : ⊥ = cc in z
swaps_el_not cell depth to v n regs (Held t.Int d l) e t h = let z : ⊥ = cc in z
swaps_el_not cell depth to v n regs (Held t.Truth d l) e t h = let z : ⊥ = cc in z
swaps_el_not cell depth to v n regs (Held t.Text d l) e t h = let z : ⊥ = cc in z
swaps_el_not cell depth to v n regs _ e t h = let z : ⊥ = cc in z

pushes_not : (cell : Kind → Option Ty) (depth v : ℕ) (regs : List RegFact) (x : RegFact) → plain x ≡ true → (pushes depth regs (cell_by cell (reference_kind x)) v (leads_as_reference cell depth x)).kept.types ≡ true → (pushes depth regs (cell_by cell (reference_kind x)) v (leads_as_reference cell depth x)).kept.present ≡ true → ⊥
pushes_not cell depth v regs Empty e t h = let z : ⊥ = cc in z
pushes_not cell depth v regs (Held t.Int d l) e t h = let z : ⊥ = cc in z
pushes_not cell depth v regs (Held t.Truth d l) e t h = let z : ⊥ = cc in z
pushes_not cell depth v regs (Held t.Text d l) e t h = let z : ⊥ = cc in z
pushes_not cell depth v regs _ e t h = let z : ⊥ = cc in z

pops_not : (cell : Kind → Option Ty) (depth to : ℕ) (regs : List RegFact) (x : RegFact) → plain x ≡ true → (pops depth regs (cell_by cell (reference_kind x)) to (leads_as_reference cell depth x)).kept.types ≡ true → (pops depth regs (cell_by cell (reference_kind x)) to (leads_as_reference cell depth x)).kept.present ≡ true → ⊥
pops_not cell depth to regs Empty e t h = let z : ⊥ = cc in z
pops_not cell depth to regs (Held t.Int d l) e t h = let z : ⊥ = cc in z
pops_not cell depth to regs (Held t.Truth d l) e t h = let z : ⊥ = cc in z
pops_not cell depth to regs (Held t.Text d l) e t h = let z : ⊥ = cc in z
pops_not cell depth to regs _ e t h = let z : ⊥ = cc in z

opens_not : (code : Parts) (depth : ℕ) (to : List ℕ) (regs : List RegFact) (x : RegFact) → plain x ≡ true → (opens_of depth (fields_by code (owner_kind x)) to (record { kept = leads (is_usable depth x) x (fields_by code (owner_kind x)); after = regs })).kept.types ≡ true → (opens_of depth (fields_by code (owner_kind x)) to (record { kept = leads (is_usable depth x) x (fields_by code (owner_kind x)); after = regs })).kept.present ≡ true → ⊥
opens_not code depth to regs Empty e t h = let z : ⊥ = cc in z
opens_not code depth to regs (Held t.Int d l) e t h = let z : ⊥ = cc in z
opens_not code depth to regs (Held t.Truth d l) e t h = let z : ⊥ = cc in z
opens_not code depth to regs (Held t.Text d l) e t h = let z : ⊥ = cc in z
opens_not code depth to regs _ e t h = let z : ⊥ = cc in z

no_makes : (depth : ℕ) (regs : List RegFact) (info : Option KindInfo) (kind : Kind) (to : ℕ) (args : List ℕ) → info ≡ None → (makes depth regs info kind to args).kept.types ≡ true → ⊥
no_makes depth regs None kind to args e t = let z : ⊥ = cc in z
no_makes depth regs (Some info) kind to args e t = let z : ⊥ = cc in z

no_calls : (depth : ℕ) (regs : List RegFact) (info : Option KindInfo) (n to a : ℕ) (args : List ℕ) → info ≡ None → (calls_method depth regs (method_from info n) to a args).kept.types ≡ true → ⊥
no_calls depth regs None n to a args e t = let z : ⊥ = cc in z
no_calls depth regs (Some info) n to a args e t = let z : ⊥ = cc in z

module _ (code : Parts) (none : code.kinds ≡ []) where
  no_kind : (kind : Kind) → is_kind code kind ≡ true → ⊥
  no_kind kind e = let f : nat_lt kind.0 0 ≡ true = subst (λ ks. nat_lt kind.0 (length ks) ≡ true) none e in let lt : kind.0 < 0 = grind (arith, nat_tests) in omega arith

  nowhere : (n : ℕ) → slice_get code.kinds n ≡ None
  nowhere n = ap (λ ks. slice_get ks n) none

  type_plain : (reaches : ℕ → Bool) (ty : Ty) → is_type code reaches ty ≡ true → is_copy ty ≡ true
  type_plain reaches t.Void e = let z : ⊥ = cc in absurd z
  type_plain reaches t.Int e = refl
  type_plain reaches t.Truth e = refl
  type_plain reaches t.Text e = refl
  type_plain reaches (t.Own k) e = absurd (no_kind k e)
  type_plain reaches (t.Ref k) e = absurd (no_kind k e)
  type_plain reaches (t.Frozen k) e = absurd (no_kind k e)
  type_plain reaches (t.Iso k) e = absurd (no_kind k (one _ _ e))

  facts_plain : (reaches : ℕ → Bool) (regs : List RegFact) → list_all (fact_is_lawful code reaches) regs ≡ true → AllPlain regs
  facts_plain reaches [] e r = refl
  facts_plain reaches (Empty ∷ regs) e zero = refl
  facts_plain reaches (Held ty d l ∷ regs) e zero = type_plain reaches ty (one _ _ e)
  facts_plain reaches (x ∷ regs) e (suc r) = facts_plain reaches regs (and_parts _ _ e).1 r

  empty_plain : (n r : ℕ) → plain (fact_of (replicate n Empty) r) ≡ true
  empty_plain zero r = refl
  empty_plain (suc n) zero = refl
  empty_plain (suc n) (suc r) = empty_plain n r

  params_plain : (reaches : ℕ → Bool) (n m : ℕ) (live : List ℕ) (tys : List Ty) → list_all (is_type code reaches) tys ≡ true → AllPlain (params_from n live tys ++ replicate m Empty)
  params_plain reaches n m live [] e r = empty_plain m r
  params_plain reaches n m live (ty ∷ tys) e zero = type_plain reaches ty (one _ _ e)
  params_plain reaches n m live (ty ∷ tys) e (suc r) = params_plain reaches (n + 1) m live tys (and_parts _ _ e).1 r

  result_plain : (reaches : ℕ → Bool) (depth : ℕ) (ty : Ty) (to : ℕ) (x : Effect) → is_result code reaches ty ≡ true → AllPlain x.after → AllPlain (comes_back depth ty to x).after
  result_plain reaches depth t.Void to x e all = all
  result_plain reaches depth t.Int to x e all = plain_set x.after to (Held t.Int depth false) all refl
  result_plain reaches depth t.Truth to x e all = plain_set x.after to (Held t.Truth depth false) all refl
  result_plain reaches depth t.Text to x e all = plain_set x.after to (Held t.Text depth false) all refl
  result_plain reaches depth (t.Own k) to x e all = absurd (no_kind k e)
  result_plain reaches depth (t.Ref k) to x e all = absurd (no_kind k e)
  result_plain reaches depth (t.Frozen k) to x e all = absurd (no_kind k e)
  result_plain reaches depth (t.Iso k) to x e all = absurd (no_kind k (one _ _ e))

  -- ---- one instruction

  served : (ty : Ty) (depth : ℕ) (regs : List RegFact) (instr : Instr) → AllPlain regs → (effect code ty depth regs instr).kept.types ≡ true → (effect code ty depth regs instr).kept.present ≡ true → is_served instr ≡ true
  served ty depth regs (i.Int to n) all e h = refl
  served ty depth regs (i.Truth to choice) all e h = refl
  served ty depth regs (i.Text to text) all e h = refl
  served ty depth regs (i.Copy to a) all e h = refl
  served ty depth regs (i.Add to a b at) all e h = refl
  served ty depth regs (i.Sub to a b at) all e h = refl
  served ty depth regs (i.Mul to a b at) all e h = refl
  served ty depth regs (i.Div to a b at) all e h = refl
  served ty depth regs (i.Rem to a b at) all e h = refl
  served ty depth regs (i.Cmp to choice a b) all e h = refl
  served ty depth regs (i.Not to a) all e h = refl
  served ty depth regs (i.Join to a b at) all e h = refl
  served ty depth regs (i.TextLen to a) all e h = refl
  served ty depth regs (i.Slice to a x y at) all e h = refl
  served ty depth regs (i.Byte to a x at) all e h = refl
  served ty depth regs (i.TextOf to a) all e h = refl
  served ty depth regs (i.IsNum to a) all e h = refl
  served ty depth regs (i.Num to a at) all e h = refl
  served ty depth regs (i.Print a choice) all e h = refl
  served ty depth regs (i.Jump target) all e h = refl
  served ty depth regs (i.Unless a target) all e h = refl
  served ty depth regs (i.Call to func args at) all e h = refl
  served ty depth regs (i.Ret a) all e h = refl
  served ty depth regs i.Tick all e h = refl
  served ty depth regs i.RetVoid all e h = refl
  served ty depth regs (i.Move to a) all e h = absurd (moves_not _ (fact_of regs a) (all a) e h)
  served ty depth regs (i.Destroy a at) all e h = absurd (drops_not (fact_of regs a) (all a) e h)
  served ty depth regs (i.Borrow to a) all e h = absurd (borrows_not depth to regs (fact_of regs a) (all a) e h)
  served ty depth regs (i.Upcast to a kind) all e h = absurd (raises_not code.impls kind _ (fact_of regs a) (all a) e h)
  served ty depth regs (i.LoadOwn to a field) all e h = absurd (loads_own_not (field_of code field) depth to regs (fact_of regs a) (all a) e h)
  served ty depth regs (i.Load to a field at) all e h = absurd (loads_not (field_of code field) depth to (finds_alive depth regs a) (fact_of regs a) (all a) e h)
  served ty depth regs (i.ElemOwn to a x at) all e h = absurd (elems_own_not (item_of code) depth to x regs regs (fact_of regs a) (all a) e h)
  served ty depth regs (i.Elem to a x at) all e h = absurd (elems_not (item_of code) depth to x regs (finds_alive depth regs a) (fact_of regs a) (all a) e h)
  served ty depth regs (i.Len to a at) all e h = absurd (measures_not (item_of code) depth to (finds_alive depth regs a) (fact_of regs a) (all a) e h)
  served ty depth regs (i.SwapOwn to a field v) all e h = absurd (swaps_own_not (field_of code field) depth to v regs (fact_of regs a) (all a) e h)
  served ty depth regs (i.Swap to a field v at) all e h = absurd (swaps_not (field_of code field) depth to v regs (fact_of regs a) (all a) e h)
  served ty depth regs (i.SwapElOwn to a x v at) all e h = absurd (swaps_el_own_not (item_of code) depth to v x regs (fact_of regs a) (all a) e h)
  served ty depth regs (i.SwapEl to a x v at) all e h = absurd (swaps_el_not (item_of code) depth to v x regs (fact_of regs a) (all a) e h)
  served ty depth regs (i.Push a v at) all e h = absurd (pushes_not (item_of code) depth v regs (fact_of regs a) (all a) e h)
  served ty depth regs (i.Pop to a at) all e h = absurd (pops_not (item_of code) depth to regs (fact_of regs a) (all a) e h)
  served ty depth regs (i.Open to a) all e h = absurd (opens_not code depth to (slice_set regs a Empty) (fact_of regs a) (all a) e h)
  served ty depth regs (i.Make to kind args) all e h = absurd (no_makes depth regs (kind_of code kind) kind to args (nowhere kind.0) e)
  served ty depth regs (i.CallM to interface method a args at) all e h = absurd (no_calls depth regs (slice_get code.kinds interface) method to a args (nowhere interface) e)
  served ty depth regs _ all e h = absurd (let z : ⊥ = cc in z)

  module _ (facts : List FuncFacts) (cert : Certified code facts) where
    -- a function that is called gives no owner and no reference
    called_plain : (depth : ℕ) (regs : List RegFact) (g to : ℕ) (args : List ℕ) → AllPlain regs → AllPlain (calls depth regs (slice_get code.funcs g) to args).after
    called_plain depth regs g to args all = at (slice_get code.funcs g) refl
      where
        by_form : (callee : Func) (b : Bool) → is_result code (reaches code facts cert) callee.result ≡ true → AllPlain (call_by_form b depth regs callee to args).after
        by_form callee false e = all
        by_form callee true e = result_plain (reaches code facts cert) depth callee.result to (passes_all depth callee.params args (all_fine regs)) e (after_passes depth callee.params args (all_fine regs) all)

        at : (o : Option Func) → slice_get code.funcs g ≡ o → AllPlain (calls depth regs o to args).after
        at None q = all
        at (Some callee) q = by_form callee (callee.form == 0) (and_parts _ _ (lawful code facts cert g callee q).head).1

    after_plain : (ty : Ty) (depth : ℕ) (regs : List RegFact) (instr : Instr) → AllPlain regs → is_served instr ≡ true → AllPlain (effect code ty depth regs instr).after
    after_plain ty depth regs (i.Int to n) all e = plain_set regs to (Held t.Int depth false) all refl
    after_plain ty depth regs (i.Truth to choice) all e = plain_set regs to (Held t.Truth depth false) all refl
    after_plain ty depth regs (i.Text to text) all e = plain_set regs to (Held t.Text depth false) all refl
    after_plain ty depth regs (i.Copy to a) all e = plain_set regs to (copy_of depth (fact_of regs a)) all (copy_plain depth (fact_of regs a) (all a))
    after_plain ty depth regs (i.Add to a b at) all e = plain_set regs to (Held t.Int depth false) all refl
    after_plain ty depth regs (i.Sub to a b at) all e = plain_set regs to (Held t.Int depth false) all refl
    after_plain ty depth regs (i.Mul to a b at) all e = plain_set regs to (Held t.Int depth false) all refl
    after_plain ty depth regs (i.Div to a b at) all e = plain_set regs to (Held t.Int depth false) all refl
    after_plain ty depth regs (i.Rem to a b at) all e = plain_set regs to (Held t.Int depth false) all refl
    after_plain ty depth regs (i.Cmp to choice a b) all e = plain_set regs to (Held t.Truth depth false) all refl
    after_plain ty depth regs (i.Not to a) all e = plain_set regs to (Held t.Truth depth false) all refl
    after_plain ty depth regs (i.Join to a b at) all e = plain_set regs to (Held t.Text depth false) all refl
    after_plain ty depth regs (i.TextLen to a) all e = plain_set regs to (Held t.Int depth false) all refl
    after_plain ty depth regs (i.Slice to a x y at) all e = plain_set regs to (Held t.Text depth false) all refl
    after_plain ty depth regs (i.Byte to a x at) all e = plain_set regs to (Held t.Int depth false) all refl
    after_plain ty depth regs (i.TextOf to a) all e = plain_set regs to (Held t.Text depth false) all refl
    after_plain ty depth regs (i.IsNum to a) all e = plain_set regs to (Held t.Truth depth false) all refl
    after_plain ty depth regs (i.Num to a at) all e = plain_set regs to (Held t.Int depth false) all refl
    after_plain ty depth regs (i.Print a choice) all e = all
    after_plain ty depth regs (i.Jump target) all e = all
    after_plain ty depth regs (i.Unless a target) all e = all
    after_plain ty depth regs (i.Call to func args at) all e = called_plain depth regs func to args all
    after_plain ty depth regs (i.Ret a) all e = plain_set regs a Empty all refl
    after_plain ty depth regs i.Tick all e = all
    after_plain ty depth regs i.RetVoid all e = all
    after_plain ty depth regs _ all e = absurd (let z : ⊥ = cc in z)

    -- ---- each place of a function

    pub record At (f : Func) (instr : Instr) : Type 0 where
      pub known : Known
      pub types : (effect code f.result known.depth known.regs instr).kept.types ≡ true
      pub served : is_served instr ≡ true

    label_plain : (f : Func) (labels : List Label) (p : ℕ) (label : Label) → list_all (label_is_lawful code (reaches code facts cert) f) labels ≡ true → label_at labels p ≡ Some label → AllPlain label.regs
    label_plain f [] p label e h = absurd (let z : ⊥ = cc in z)
    label_plain f (l ∷ labels) p label e h = by (l.at == p) (λ q. label_plain f labels p label (and_parts _ _ e).1 q) h
      where
        by : (b : Bool) → (label_at labels p ≡ Some label → AllPlain label.regs) → (if b then Some l else label_at labels p) ≡ Some label → AllPlain label.regs
        by true more q =
            let is : l ≡ label = cc in
            subst (λ x. AllPlain x.regs) is (facts_plain (reaches code facts cert) l.regs (and_parts _ _ (one _ _ e)).1)
        by false more q = more q

    module _ (f : Func) (labels : List Label) (base : ℕ) (lawful_labels : list_all (label_is_lawful code (reaches code facts cert) f) labels ≡ true) where
      abbrev Plainly : Option Known → Type 0
      Plainly o = (known : Known) → o ≡ Some known → AllPlain known.regs

      stated_plain : (p : ℕ) (o : Option Known) → Plainly o → Plainly (stated (label_at labels p) o)
      stated_plain p o all = by (label_at labels p) refl
        where
          by : (l : Option Label) → label_at labels p ≡ l → Plainly (stated l o)
          by None q = all
          by (Some label) q = λ known e. let is : record { depth = label.depth; regs = label.regs } ≡ known = cc in subst (λ x. AllPlain x.regs) is (label_plain f labels p label lawful_labels q)

      next_plain : (instr : Instr) (known : Known) → AllPlain (effect code f.result known.depth known.regs instr).after → Plainly (known_after code f labels base instr known)
      next_plain instr known all = by (goes_on instr)
        where
          by : (b : Bool) → Plainly (if b then Some (after code f labels base instr known) else None)
          by true = λ next e. let is : after code f labels base instr known ≡ next = cc in subst (λ x. AllPlain x.regs) is all
          by false = λ next e. absurd (let z : ⊥ = cc in z)

      is_served_here : (p : ℕ) (x : Instr) (is : List Instr) (o : Option Known) → Plainly o → (s : Stepped code f labels base p x is o) → is_served x ≡ true
      is_served_here p x is o all s = served f.result s.known.depth s.known.regs x (stated_plain p o all s.known s.is) s.keeps.types s.keeps.present

      served_at : (k p : ℕ) (is : List Instr) (came : Bool) (o : Option Known) (instr : Instr) → Plainly o → walk code f labels base p is came o ≡ None → slice_get is k ≡ Some instr → At f instr
      served_at k p [] came o instr all w e = absurd (let z : ⊥ = cc in z)
      served_at zero p (x ∷ is) came o instr all w e =
          let s = stepped code f labels base p x is came o w in let same : x ≡ instr = cc in
          subst (At f) same (record { known = s.known; types = s.keeps.types; served = is_served_here p x is o all s })
      served_at (suc k) p (x ∷ is) came o instr all w e =
          let s = stepped code f labels base p x is came o w in
          served_at k (p + 1) is true (known_after code f labels base x s.known) instr
          (next_plain x s.known (after_plain f.result s.known.depth s.known.regs x (stated_plain p o all s.known s.is) (is_served_here p x is o all s))) s.rest e

    pub served_here : (f : Func) (of : FuncFacts) (j : Judged code f of) (place : ℕ) (instr : Instr) → head_is_lawful code (reaches code facts cert) f ≡ true → slice_get f.body place ≡ Some instr → At f instr
    served_here f of j place instr head at =
        served_at f of.labels j.base j.labels_lawful place 0 f.body j.came (Some (entry f of)) instr
        (λ known e. let is : entry f of ≡ known = cc in subst (λ x. AllPlain x.regs) is (params_plain (reaches code facts cert) 0 _ of.live f.params (and_parts _ _ (one _ _ head)).1)) j.walks at
