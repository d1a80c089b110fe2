-- What is known at a function's entry: its parameters.
use Rattle.std.proofs.Common.{◌≡◌, ℕ, zero, suc, ◌+◌, ◌-◌, ◌<◌, ◌≤◌, List, [], ◌∷◌, ◌++◌, length, map, replicate, Bool, true, false, ◌&&◌, if◌then◌else◌, refl, sym, ap, ◌∙◌, subst, arith, length-append}
use Rattle.std.proofs.lemmas.Bool.{eq-eqb, ne_eqb}
use Rattle.std.proofs.lemmas.List.{length-replicate}
use Rattle.vale_syntax.specs.Tree.{Param, param}
use Rattle.vale_rules_spec.specs.Declarations.{head_params, param_type}
use Rattle.vale_rules_spec.specs.Types.{Ty, type_of, is_owned}
use Rattle.vale_rules_spec.specs.Typed.{Function}
use Rattle.vale_model.specs.Kinds.{head_of}
use Rattle.vale_model.specs.Parts.{Parts}
use Rattle.vale_code.specs.declared.ty.Ty.{Ty as CodeTy}
use Rattle.vale_cert.specs.Known.{fact_of, agrees, params_from, entry}
use Rattle.vale_cert.specs.declared.facts.FuncFacts.{FuncFacts}
use Rattle.vale_cert.specs.declared.facts.RegFact.TheVariants.{Empty, Held}
use Rattle.vale_lowering_objects.specs.Program.{code_type}
use Rattle.vale_object_facts.specs.Facts.{param_slots, entry_stand}
use Rattle.vale_object_facts.specs.Slots.{local, Slot, Slots, slot_fact, fact_in}
use Rattle.vale_object_facts.proofs.Agreeing.{agrees_same}
use Rattle.vale_object_facts.proofs.Covering.{Site, at, Covers, Falls, nothing_above}

abbrev pub param_codes : Parts → List Param → List CodeTy
param_codes p ps = map (λ q. code_type p (type_of (param_type q))) ps

none_of : (n q : ℕ) → fact_of (replicate n Empty) q ≡ Empty
none_of zero q = refl
none_of (suc n) zero = refl
none_of (suc n) (suc q) = none_of n q

length_params : (r : ℕ) (tys : List CodeTy) → length (params_from r [] tys) ≡ length tys
length_params r [] = refl
length_params r (ty ∷ tys) = ap suc (length_params (r + 1) tys)

none_lost : (b : Bool) → (true && b && false) ≡ false
none_lost true = refl
none_lost false = refl

module _ (k : Site) where
  abbrev slot_for : ℕ → ℕ → Ty → Slot
  slot_for n r x = record { role = local n; register = r; ty = x; depth = 0 }

  -- parameters leave what is below them
  earlier : (ps : List Param) (r : ℕ) (s : Slots) (q : ℕ) → q < r → fact_in k.parts (param_slots r ps s) [] q ≡ fact_in k.parts s [] q
  earlier [] r s q lt = refl
  earlier (param n x ∷ ps) r s q lt =
      earlier ps (r + 1) (slot_for n.name.0 r (type_of x) ∷ s) q (omega (arith, lt))
      ∙ ap (λ b. if b then slot_fact k.parts (slot_for n.name.0 r (type_of x)) [] else fact_in k.parts s [] q) (ne_eqb r q (omega (arith, lt)))

  entered : (ps : List Param) (r : ℕ) (s : Slots) (n q : ℕ) → Falls k r s → fact_in k.parts (param_slots r ps s) [] (r + q) ≡ fact_of (params_from r [] (param_codes k.parts ps) ++ replicate n Empty) q
  entered [] r s n q f = nothing_above k r s [] (r + q) f (omega arith) ∙ sym (none_of n q)
  entered (param m x ∷ ps) r s n zero f =
      earlier ps (r + 1) (slot_for m.name.0 r (type_of x) ∷ s) (r + 0) (omega arith)
      ∙ ap (λ b. if b then slot_fact k.parts (slot_for m.name.0 r (type_of x)) [] else fact_in k.parts s [] (r + 0)) (eq-eqb r (r + 0) (omega arith))
      ∙ ap (λ b. if b then Empty else Held (code_type k.parts (type_of x)) 0 false) (none_lost (is_owned (type_of x)))
  entered (param m x ∷ ps) r s n (suc q) f =
      ap (fact_in k.parts (param_slots (r + 1) ps (slot_for m.name.0 r (type_of x) ∷ s)) []) (let z : r + suc q ≡ r + 1 + q = omega arith in z)
      ∙ entered ps (r + 1) (slot_for m.name.0 r (type_of x) ∷ s) n q (omega arith, f)

  pub covers_entry : (f : Function) (facts : FuncFacts) → facts.live ≡ [] → k.func.params ≡ param_codes k.parts (head_params (head_of f)) → length k.func.params ≤ k.func.registers → Covers k (entry k.func facts) (entry_stand f)
  covers_entry f facts live params few = record {
    depth = refl;
    regs = record {
      size =
          length-append (params_from 0 facts.live k.func.params) (replicate (k.func.registers - length k.func.params) Empty)
          ∙ ap (λ n. n + length (replicate (k.func.registers - length k.func.params) Empty)) (ap (λ l. length (params_from 0 l k.func.params)) live ∙ length_params 0 k.func.params)
          ∙ ap (λ n. length k.func.params + n) (length-replicate (k.func.registers - length k.func.params) Empty)
          ∙ (let z : length k.func.params + (k.func.registers - length k.func.params) ≡ k.func.registers = omega (arith, few) in z);
      each = λ r lt. subst (λ z. agrees (at k (entry_stand f) r) z ≡ true) (same r) (agrees_same (at k (entry_stand f) r));
    };
  }
    where
      same : (r : ℕ) → at k (entry_stand f) r ≡ fact_of (params_from 0 facts.live k.func.params ++ replicate (k.func.registers - length k.func.params) Empty) r
      same r =
          ap (at k (entry_stand f)) (let z : r ≡ 0 + r = omega arith in z)
          ∙ entered (head_params (head_of f)) 0 [] (k.func.registers - length k.func.params) r tt
          ∙ ap (λ tys. fact_of (params_from 0 [] tys ++ replicate (k.func.registers - length k.func.params) Empty) r) (sym params)
          ∙ ap (λ l. fact_of (params_from 0 l k.func.params ++ replicate (k.func.registers - length k.func.params) Empty) r) (sym live)
