-- A code whose shape is as it must be, function by function.
use Rattle.std.proofs.Common.{◌≡◌, ℕ, zero, suc, ◌+◌, ◌<◌, ◌≤◌, List, [], ◌∷◌, ◌++◌, length, get_or, take, drop, Bool, true, false, Some, None, Option, ◌&&◌, if◌then◌else◌, refl, sym, ap, ◌∙◌, arith, add-one}
use Rattle.std.proofs.lemmas.List.{drop_more, take_more}
use Rattle.std.proofs.lemmas.List.Folds.{list_all-append}
use Rattle.std.proofs.lemmas.Bool.{and_parts, and_from, leb-true, le-leb}
use Rattle.std.specs.Prelude.{nat_le, nat_lt, ◌==◌, slice_get}
use Rattle.vale_shape.proofs.ShapeLaws.{drop_none, drop_some}
use Rattle.std.specs.List.{list_all}
use Rattle.vale_code.specs.Parts.{Parts}
use Rattle.vale_code.specs.Sizes.{instructions}
use Rattle.vale_code.specs.declared.func.Func.{Func}
use Rattle.vale_cert.specs.Known.{entry, label_at, rise, may_enter}
use Rattle.vale_cert.specs.Numbers.{numbers}
use Rattle.vale_cert.specs.Shape.{shape_fault, or_else as or_number, counted_after, kinds_fault, impls_fault, funcs_fault, func_is_lawful, head_is_lawful, body_is_lawful, has_live, label_is_lawful, fact_is_lawful, is_main}
use Rattle.vale_cert.specs.Types.{reaches_isolate, ◌⇒◌}
use Rattle.vale_cert.specs.Walk.{walk, function_fault, functions_fault, or_else}
use Rattle.vale_cert.specs.declared.facts.FuncFacts.{FuncFacts}
use Rattle.vale_cert.specs.declared.facts.Label.{Label}
use Rattle.vale_cert.specs.declared.facts.RegFact.{RegFact}
use Rattle.vale_cert.specs.declared.fault.Fault.{Fault}
use Rattle.vale_verifier.specs.Walking.{states_all, has_room}

-- ---- no fault of shape

or_number_none : (a b : Option ℕ) → or_number a b ≡ None → (a ≡ None) × (b ≡ None)
or_number_none None b e = (refl, e)
or_number_none (Some x) b e = let x : ⊥ = cc in absurd x

counted_none : (n : ℕ) (a : Option ℕ) → counted_after n a ≡ None → a ≡ None
counted_none n None e = refl
counted_none n (Some m) e = let x : ⊥ = cc in absurd x

if_none : {A : Type 0} (b : Bool) (o : Option A) (x : A) → (if b then o else Some x) ≡ None → (b ≡ true) × (o ≡ None)
if_none true o x e = (refl, e)
if_none false o x e = let y : ⊥ = cc in absurd y

pub funcs_lawful : (code : Parts) (facts : List FuncFacts) → shape_fault code facts ≡ None → funcs_fault code (reaches_isolate code) 0 code.funcs facts ≡ None
funcs_lawful code facts e =
    let last = counted_after (length code.kinds + length code.impls) (funcs_fault code (reaches_isolate code) 0 code.funcs facts) in
    let middle = counted_after (length code.kinds) (impls_fault code 0 [] code.impls) in
    counted_none (length code.kinds + length code.impls) (funcs_fault code (reaches_isolate code) 0 code.funcs facts)
    (or_number_none middle last (or_number_none (kinds_fault code (reaches_isolate code) 0 code.kinds) (or_number middle last) e).1).1

states : (code : Parts) (f : Func) (labels : List Label) → list_all (label_is_lawful code (reaches_isolate code) f) labels ≡ true → list_all (states_all f.registers) labels ≡ true
states code f [] e = refl
states code f (l ∷ labels) e =
    let a = and_parts (label_is_lawful code (reaches_isolate code) f l) (list_all (label_is_lawful code (reaches_isolate code) f) labels) e in
    let b = and_parts (nat_lt l.at (length f.body) && (length l.regs == f.registers)) (list_all (fact_is_lawful code (reaches_isolate code)) l.regs) a.0 in
    and_from (states_all f.registers l) (list_all (states_all f.registers) labels) (and_parts (nat_lt l.at (length f.body)) (length l.regs == f.registers) b.0).1 (states code f labels a.1)

pub record Fits (f : Func) (facts : FuncFacts) : Type 0 where
  pub params : length f.params ≤ f.registers
  pub labels : list_all (states_all f.registers) facts.labels ≡ true

fits : (code : Parts) (n : ℕ) (f : Func) (facts : FuncFacts) → func_is_lawful code (reaches_isolate code) n f facts ≡ true → Fits f facts
fits code n f facts all =
    let r = reaches_isolate code in
    let a = and_parts (head_is_lawful code r f && body_is_lawful code f && has_live f facts.live && list_all (label_is_lawful code r f) facts.labels) ((n == code.main) ⇒ is_main code f) all in
    let b = and_parts (head_is_lawful code r f && body_is_lawful code f && has_live f facts.live) (list_all (label_is_lawful code r f) facts.labels) a.0 in
    let c = and_parts (head_is_lawful code r f && body_is_lawful code f) (has_live f facts.live) b.0 in
    let d = and_parts (head_is_lawful code r f) (body_is_lawful code f) c.0 in
    let e = and_parts (nat_le (length f.params) f.registers && nat_lt 0 (length f.body)) (list_all (numbers code f.registers) f.body) d.1 in
    record {
      params = leb-true (length f.params) f.registers (and_parts (nat_le (length f.params) f.registers) (nat_lt 0 (length f.body)) e.0).0;
      labels = states code f facts.labels b.1;
    }

-- ---- one function

pub entered : (code : Parts) (f : Func) (facts : FuncFacts) (base : ℕ) (regs : List RegFact) → rise facts.labels ≡ true → regs ≡ (entry f facts).regs
    → walk code f facts.labels base 0 f.body (may_enter (label_at facts.labels 0) (record { depth = 0; regs = regs })) (Some (record { depth = 0; regs = regs })) ≡ function_fault code base f facts
entered code f facts base regs up is =
    ap (λ (x : List RegFact). walk code f facts.labels base 0 f.body (may_enter (label_at facts.labels 0) (record { depth = 0; regs = x })) (Some (record { depth = 0; regs = x }))) is
    ∙ sym (ap (λ (b : Bool). if b then walk code f facts.labels base 0 f.body (may_enter (label_at facts.labels 0) (entry f facts)) (Some (entry f facts)) else Some (record { rule = 7; at = base })) up)

-- ---- the functions that are left, with their facts

module _ (code : Parts) (n : ℕ) (fs : List Func) (facts : List FuncFacts) (f : Func) (one : FuncFacts) (inside : n < length fs) (is : f ≡ get_or fs n f) (there : Some one ≡ slice_get facts n) where
  front : drop n fs ≡ f ∷ drop (n + 1) fs
  front = drop_more fs n f inside ∙ ap (λ (x : Func). x ∷ drop (n + 1) fs) (sym is)

  tail : drop n facts ≡ one ∷ drop (n + 1) facts
  tail = rw add-one (drop_some facts n one there)

  parts : funcs_fault code (reaches_isolate code) n (drop n fs) (drop n facts) ≡ None
      → (func_is_lawful code (reaches_isolate code) n f one ≡ true) × (funcs_fault code (reaches_isolate code) (n + 1) (drop (n + 1) fs) (drop (n + 1) facts) ≡ None)
  parts e =
      if_none (func_is_lawful code (reaches_isolate code) n f one) (funcs_fault code (reaches_isolate code) (n + 1) (drop (n + 1) fs) (drop (n + 1) facts)) n
      (sym (ap (λ (x : List Func). funcs_fault code (reaches_isolate code) n x (drop n facts)) front ∙ ap (funcs_fault code (reaches_isolate code) n (f ∷ drop (n + 1) fs)) tail) ∙ e)

  pub first_fits : funcs_fault code (reaches_isolate code) n (drop n fs) (drop n facts) ≡ None → Fits f one
  first_fits e = fits code n f one (parts e).0

  pub others_lawful : funcs_fault code (reaches_isolate code) n (drop n fs) (drop n facts) ≡ None → funcs_fault code (reaches_isolate code) (n + 1) (drop (n + 1) fs) (drop (n + 1) facts) ≡ None
  others_lawful e = (parts e).1

  opened : (base : ℕ) → functions_fault code base (drop n fs) (drop n facts) ≡ or_else (function_fault code base f one) (functions_fault code (base + length f.body) (drop (n + 1) fs) (drop (n + 1) facts))
  opened base = ap (λ (x : List Func). functions_fault code base x (drop n facts)) front ∙ ap (functions_fault code base (f ∷ drop (n + 1) fs)) tail

  pub first_breaks : (base : ℕ) (fault : Fault) → Some fault ≡ function_fault code base f one → Some fault ≡ functions_fault code base (drop n fs) (drop n facts)
  first_breaks base fault e = sym (opened base ∙ ap (λ (o : Option Fault). or_else o (functions_fault code (base + length f.body) (drop (n + 1) fs) (drop (n + 1) facts))) (sym e))

  pub first_keeps : (base : ℕ) → None ≡ function_fault code base f one → functions_fault code (base + length f.body) (drop (n + 1) fs) (drop (n + 1) facts) ≡ functions_fault code base (drop n fs) (drop n facts)
  first_keeps base e = sym (opened base ∙ ap (λ (o : Option Fault). or_else o (functions_fault code (base + length f.body) (drop (n + 1) fs) (drop (n + 1) facts))) (sym e))

module _ (n : ℕ) (fs : List Func) (f : Func) (inside : n < length fs) (is : f ≡ get_or fs n f) where
  pub fewer : instructions (drop n fs) ≡ length f.body + instructions (drop (n + 1) fs)
  fewer = ap instructions (drop_more fs n f inside ∙ ap (λ (x : Func). x ∷ drop (n + 1) fs) (sym is))

pub no_facts : (code : Parts) (n base : ℕ) (fs : List Func) (facts : List FuncFacts) → None ≡ slice_get facts n → None ≡ functions_fault code base (drop n fs) (drop n facts)
no_facts code n base fs facts e = by (drop n fs) ∙ ap (functions_fault code base (drop n fs)) (sym (drop_none facts n e))
  where
    by : (x : List Func) → None ≡ functions_fault code base x []
    by [] = refl
    by (g ∷ x) = refl

-- ---- room for registers

pub room_for : (room : ℕ) (fs : List Func) (n : ℕ) (f : Func) → list_all (has_room room) fs ≡ true → n < length fs → f ≡ get_or fs n f → f.registers ≤ room
room_for room [] n f e inside is = absurd (omega arith)
room_for room (g ∷ fs) zero f e inside is =
    let a = and_parts (has_room room g) (list_all (has_room room) fs) e in
    let same : f.registers ≡ g.registers = ap (λ (x : Func). x.registers) is in
    let le : g.registers ≤ room = leb-true g.registers room a.0 in omega arith
room_for room (g ∷ fs) (suc n) f e inside is = room_for room fs n f (and_parts (has_room room g) (list_all (has_room room) fs) e).1 (omega arith) is

pub more_room : (room least : ℕ) (fs : List Func) → least ≤ room → list_all (has_room least) fs ≡ true → list_all (has_room room) fs ≡ true
more_room room least [] le e = refl
more_room room least (f ∷ fs) le e =
    let a = and_parts (has_room least f) (list_all (has_room least) fs) e in
    let small : f.registers ≤ least = leb-true f.registers least a.0 in
    and_from (has_room room f) (list_all (has_room room) fs) (le-leb f.registers room (omega arith)) (more_room room least fs le a.1)

pub room_more : (least room i : ℕ) (fs : List Func) (f : Func) → i < length fs → f ≡ get_or fs i f → least ≤ room → f.registers ≤ room → list_all (has_room least) (take i fs) ≡ true → list_all (has_room room) (take (i + 1) fs) ≡ true
room_more least room i fs f inside is le fits before =
    ap (list_all (has_room room)) (take_more fs i f inside ∙ ap (λ (x : Func). take i fs ++ x ∷ []) (sym is))
    ∙ list_all-append (has_room room) (take i fs) (f ∷ [])
    ∙ and_from (list_all (has_room room) (take i fs)) (list_all (has_room room) (f ∷ [])) (more_room room least (take i fs) le before)
    (and_from (has_room room f) true (le-leb f.registers room fits) refl)
