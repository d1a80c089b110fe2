-- What the walk of a function says of each instruction.
use Rattle.std.proofs.Common.{◌≡◌, ℕ, zero, suc, ◌+◌, ◌<◌, ◌≤◌, List, [], ◌∷◌, ◌++◌, length, Option, Some, None, Bool, true, false, ◌&&◌, ◌==◌, if◌then◌else◌, nat_lt, nat_le, refl, ap, subst, ⊎_elim, arith}
use Rattle.std.specs.Prelude.{slice_get}
use Rattle.std.specs.List.{list_all}
use Rattle.std.proofs.lemmas.Bool.{and_parts, cases_lt, eq-eqb}
use Rattle.vale_code.specs.Parts.{Parts}
use Rattle.vale_code.specs.declared.func.Func.{Func}
use Rattle.vale_code.specs.declared.instr.Instr.{Instr}
use Rattle.vale_cert.specs.Certificate.{rule_one, Certified}
use Rattle.vale_cert.specs.Known.{Known, entry, label_at, rise, may_enter, stated}
use Rattle.vale_cert.specs.Numbers.{numbers}
use Rattle.vale_cert.specs.Shape.{shape_fault, or_else as or_number, counted_after, kinds_fault, impls_fault, funcs_fault, func_is_lawful, head_is_lawful, body_is_lawful, has_live, label_is_lawful, fact_is_lawful, is_main}
use Rattle.vale_cert.specs.Types.{reaches_isolate, ◌⇒◌}
use Rattle.vale_cert.specs.Walk.{broken, fault_of, or_else, row_of, after, enters, has_target, next_of, is_place, rules, known_after, if_known, walk, target_of, function_fault, functions_fault}
use Rattle.vale_cert.specs.declared.facts.FuncFacts.{FuncFacts}
use Rattle.vale_cert.specs.declared.facts.Label.{Label}
use Rattle.vale_cert.specs.declared.fault.Fault.{Fault}
use Rattle.vale_cert.specs.declared.rules.Kept.{Kept}

-- ---- no fault

or_else_none : (a b : Option Fault) → or_else a b ≡ None → (a ≡ None) × (b ≡ None)
or_else_none None b e = (refl, e)
or_else_none (Some x) b e = let x : ⊥ = cc in absurd x

or_number_none : (a b : Option ℕ) → or_number a b ≡ None → (a ≡ None) × (b ≡ None)
or_number_none None b e = (refl, e)
or_number_none (Some x) b e = let x : ⊥ = cc in absurd x

rule_one_none : (a : Option ℕ) → rule_one a ≡ None → a ≡ None
rule_one_none None e = refl
rule_one_none (Some n) e = let x : ⊥ = cc in absurd x

counted_none : (n : ℕ) (a : Option ℕ) → counted_after n a ≡ None → a ≡ None
counted_none n None e = refl
counted_none n (Some m) e = let x : ⊥ = cc in absurd x

fault_none : (at : ℕ) (a : Option ℕ) → fault_of at a ≡ None → a ≡ None
fault_none at None e = refl
fault_none at (Some n) e = let x : ⊥ = cc in absurd x

pub if_none : {A : Type 0} (b : Bool) (o : Option A) (x : A) → (if b then o else Some x) ≡ None → (b ≡ true) × (o ≡ None)
if_none true o x e = (refl, e)
if_none false o x e = let y : ⊥ = cc in absurd y

all_kept : (a b c d l g : Bool) → broken ((2, a) ∷ (3, b) ∷ (4, c) ∷ (5, d) ∷ (6, l) ∷ (7, g) ∷ []) ≡ None → (a ≡ true) × (b ≡ true) × (c ≡ true) × (d ≡ true) × (l ≡ true) × (g ≡ true)
all_kept true true true true true true e = (refl, refl, refl, refl, refl, refl)
all_kept _ _ _ _ _ _ e = let x : ⊥ = cc in absurd x

implied : (a b : Bool) → (a ⇒ b) ≡ true → a ≡ true → b ≡ true
implied true b e t = e
implied false b e t = let x : ⊥ = cc in absurd x

-- ---- one instruction

module _ (code : Parts) (f : Func) (labels : List Label) (base : ℕ) where
  -- the rules of an instruction are kept, before which this is known
  pub record Keeps (p : ℕ) (instr : Instr) (known : Known) : Type 0 where
    pub types : (row_of code f labels base instr known).kept.types ≡ true
    pub present : (row_of code f labels base instr known).kept.present ≡ true
    pub depths : (row_of code f labels base instr known).kept.depths ≡ true
    pub lives : (row_of code f labels base instr known).lives ≡ true
    pub enters_target : enters code f labels base (target_of instr) (after code f labels base instr known) ≡ true
    pub enters_next : enters code f labels base (next_of code f labels base p instr) (after code f labels base instr known) ≡ true
    pub target : has_target code f labels base (target_of instr) ≡ true
    pub next : is_place code f labels base (next_of code f labels base p instr) ≡ true

  module _ (p : ℕ) (came : Bool) (instr : Instr) (known : Known) where
    abbrev kept : Kept
    kept = (row_of code f labels base instr known).kept

    abbrev lives : Bool
    lives = (row_of code f labels base instr known).lives

    abbrev to_target : Bool
    to_target = enters code f labels base (target_of instr) (after code f labels base instr known)

    abbrev to_next : Bool
    to_next = enters code f labels base (next_of code f labels base p instr) (after code f labels base instr known)

    abbrev has_label : Bool
    has_label = has_target code f labels base (target_of instr)

    abbrev has_place : Bool
    has_place = is_place code f labels base (next_of code f labels base p instr)

    all : broken (rules code f labels base p came instr known) ≡ None → (kept.types ≡ true) × (kept.present ≡ true) × (kept.depths ≡ true) × ((came && to_target && to_next) ≡ true) × (lives ≡ true) × ((has_label && has_place) ≡ true)
    all e = all_kept kept.types kept.present kept.depths (came && to_target && to_next) lives (has_label && has_place) e

    keeps : broken (rules code f labels base p came instr known) ≡ None → Keeps p instr known
    keeps e =
        let a = all e in let x = and_parts (came && to_target) to_next a.3 in let y = and_parts has_label has_place a.5 in
        record { types = a.0; present = a.1; depths = a.2; lives = a.4; enters_target = (and_parts came to_target x.0).1; enters_next = x.1; target = y.0; next = y.1 }

    came_in : broken (rules code f labels base p came instr known) ≡ None → came ≡ true
    came_in e = (and_parts came to_target (and_parts (came && to_target) to_next (all e).3).0).0

  pub record Stepped (p : ℕ) (instr : Instr) (instrs : List Instr) (o : Option Known) : Type 0 where
    pub known : Known
    pub is : stated (label_at labels p) o ≡ Some known
    pub keeps : Keeps p instr known
    pub rest : walk code f labels base (p + 1) instrs true (known_after code f labels base instr known) ≡ None

  pub stepped : (p : ℕ) (instr : Instr) (instrs : List Instr) (came : Bool) (o : Option Known) → walk code f labels base p (instr ∷ instrs) came o ≡ None → Stepped p instr instrs o
  stepped p instr instrs came o e = at (stated (label_at labels p) o) refl e
    where
      at : (s : Option Known) → stated (label_at labels p) o ≡ s
          → if_known code f labels base p s (λ known. or_else (fault_of (base + p) (broken (rules code f labels base p came instr known))) (walk code f labels base (p + 1) instrs true (known_after code f labels base instr known))) ≡ None
          → Stepped p instr instrs o
      at None q e = let x : ⊥ = cc in absurd x
      at (Some known) q e =
          let parts = or_else_none (fault_of (base + p) (broken (rules code f labels base p came instr known))) (walk code f labels base (p + 1) instrs true (known_after code f labels base instr known)) e in
          record { known = known; is = q; keeps = keeps p came instr known (fault_none (base + p) (broken (rules code f labels base p came instr known)) parts.0); rest = parts.1 }

  -- the walk comes to each place
  pub record Comes (q p : ℕ) (instrs : List Instr) : Type 0 where
    pub before : List Instr
    pub rest : List Instr
    pub split : instrs ≡ before ++ rest
    pub at : p + length before ≡ q
    pub came : Bool
    pub known : Option Known
    pub walks : walk code f labels base q rest came known ≡ None

  pub comes : (q p : ℕ) (instrs : List Instr) (came : Bool) (o : Option Known) → p ≤ q → q < p + length instrs → walk code f labels base p instrs came o ≡ None → Comes q p instrs
  comes q p [] came o le lt w = absurd (omega arith)
  comes q p (instr ∷ instrs) came o le lt w =
      ⊎_elim
      (λ less. let s = stepped p instr instrs came o w in later (comes q (p + 1) instrs true (known_after code f labels base instr s.known) (omega arith) (omega arith) s.rest))
      (λ ge. let same : p ≡ q = omega arith in
      record { before = []; rest = instr ∷ instrs; split = refl; at = omega (arith, same); came = came; known = o; walks = subst (λ x. walk code f labels base x (instr ∷ instrs) came o ≡ None) same w })
      (cases_lt p q)
    where
      later : Comes q (p + 1) instrs → Comes q p (instr ∷ instrs)
      later c = record { before = instr ∷ c.before; rest = c.rest; split = ap (λ x. instr ∷ x) c.split; at = omega (arith, c.at); came = c.came; known = c.known; walks = c.walks }

-- the first instruction says that the entry may enter the label there
module _ (code : Parts) (f : Func) (labels : List Label) (base : ℕ) where
  came_first : (instr : Instr) (instrs : List Instr) (came : Bool) (s : Option Known)
      → if_known code f labels base 0 s (λ known. or_else (fault_of (base + 0) (broken (rules code f labels base 0 came instr known))) (walk code f labels base (0 + 1) instrs true (known_after code f labels base instr known))) ≡ None
      → came ≡ true
  came_first instr instrs came None e = let x : ⊥ = cc in absurd x
  came_first instr instrs came (Some known) e =
      came_in code f labels base 0 came instr known
      (fault_none (base + 0) (broken (rules code f labels base 0 came instr known))
      (or_else_none (fault_of (base + 0) (broken (rules code f labels base 0 came instr known))) (walk code f labels base (0 + 1) instrs true (known_after code f labels base instr known)) e).0)

  came_in_whole : (instrs : List Instr) (came : Bool) (o : Option Known) → 0 < length instrs → walk code f labels base 0 instrs came o ≡ None → came ≡ true
  came_in_whole [] came o some e = absurd (omega arith)
  came_in_whole (instr ∷ instrs) came o some e = came_first instr instrs came (stated (label_at labels 0) o) e

-- ---- one function of a certified code

-- a function whose body keeps the rules, with its facts
pub record Judged (code : Parts) (f : Func) (facts : FuncFacts) : Type 0 where
  pub base : ℕ
  pub came : Bool
  pub some : 0 < length f.body
  pub numbered : list_all (numbers code f.registers) f.body ≡ true
  pub labels_lawful : list_all (label_is_lawful code (reaches_isolate code) f) facts.labels ≡ true
  pub within : (p : ℕ) (label : Label) → label_at facts.labels p ≡ Some label → p < length f.body
  pub enters : may_enter (label_at facts.labels 0) (entry f facts) ≡ true
  pub walks : walk code f facts.labels base 0 f.body came (Some (entry f facts)) ≡ None

within_body : (p : ℕ) (l label : Label) (size : ℕ) (rest : Option Label) (b : Bool) → (l.at == p) ≡ b → nat_lt l.at size ≡ true → (rest ≡ Some label → p < size) → (if b then Some l else rest) ≡ Some label → p < size
within_body p l label size rest true q inside more g = let lt : l.at < size = grind arith in let same : l.at ≡ p = grind arith in omega arith
within_body p l label size rest false q inside more g = more g

lawful_within : (code : Parts) (reaches : ℕ → Bool) (f : Func) (labels : List Label) (p : ℕ) (label : Label) → list_all (label_is_lawful code reaches f) labels ≡ true → label_at labels p ≡ Some label → p < length f.body
lawful_within code reaches f [] p label e h = let x : ⊥ = cc in absurd x
lawful_within code reaches f (l ∷ labels) p label e h =
    let a = and_parts (label_is_lawful code reaches f l) (list_all (label_is_lawful code reaches f) labels) e in
    let b = and_parts (nat_lt l.at (length f.body) && (length l.regs == f.registers)) (list_all (fact_is_lawful code reaches) l.regs) a.0 in
    within_body p l label (length f.body) (label_at labels p) (l.at == p) refl (and_parts (nat_lt l.at (length f.body)) (length l.regs == f.registers) b.0).0 (λ g. lawful_within code reaches f labels p label a.1 g) h

-- the facts of function n, and the rule of shape for it
record Shaped (code : Parts) (reaches : ℕ → Bool) (n m : ℕ) (facts : List FuncFacts) (f : Func) : Type 0 where
  of : FuncFacts
  found : slice_get facts m ≡ Some of
  lawful : func_is_lawful code reaches (n + m) f of ≡ true

shaped : (code : Parts) (reaches : ℕ → Bool) (n m : ℕ) (fs : List Func) (facts : List FuncFacts) (f : Func) → funcs_fault code reaches n fs facts ≡ None → slice_get fs m ≡ Some f → Shaped code reaches n m facts f
shaped code reaches n m [] facts f e h = let x : ⊥ = cc in absurd x
shaped code reaches n m (g ∷ fs) [] f e h = let x : ⊥ = cc in absurd x
shaped code reaches n zero (g ∷ fs) (of ∷ facts) f e h =
    let same : g ≡ f = cc in
    let here : func_is_lawful code reaches n g of ≡ true = (if_none (func_is_lawful code reaches n g of) (funcs_fault code reaches (n + 1) fs facts) n e).0 in
    let first : n ≡ n + 0 = omega arith in
    record { of = of; found = refl; lawful = subst (λ x. func_is_lawful code reaches x f of ≡ true) first (subst (λ x. func_is_lawful code reaches n x of ≡ true) same here) }
shaped code reaches n (suc m) (g ∷ fs) (of ∷ facts) f e h =
    let r = shaped code reaches (n + 1) m fs facts f (if_none (func_is_lawful code reaches n g of) (funcs_fault code reaches (n + 1) fs facts) n e).1 h in
    record { of = r.of; found = r.found; lawful = subst (λ x. func_is_lawful code reaches x f r.of ≡ true) (let x : n + 1 + m ≡ n + suc m = omega arith in x) r.lawful }

-- `main` is one of the functions
main_within : (code : Parts) (reaches : ℕ → Bool) (n : ℕ) (fs : List Func) (facts : List FuncFacts) → funcs_fault code reaches n fs facts ≡ None → code.main < n + length fs
main_within code reaches n [] [] e = let x : nat_lt code.main n ≡ true = (if_none (nat_lt code.main n) None n e).0 in let lt : code.main < n = grind arith in omega arith
main_within code reaches n [] (of ∷ facts) e = let x : ⊥ = cc in absurd x
main_within code reaches n (f ∷ fs) [] e = let x : ⊥ = cc in absurd x
main_within code reaches n (f ∷ fs) (of ∷ facts) e = let x : code.main < n + 1 + length fs = main_within code reaches (n + 1) fs facts (if_none (func_is_lawful code reaches n f of) (funcs_fault code reaches (n + 1) fs facts) n e).1 in omega arith

walked : (code : Parts) (base n : ℕ) (fs : List Func) (facts : List FuncFacts) (f : Func) (of : FuncFacts) → functions_fault code base fs facts ≡ None → slice_get fs n ≡ Some f → slice_get facts n ≡ Some of → (b : ℕ) × (function_fault code b f of ≡ None)
walked code base n [] facts f of e h k = let x : ⊥ = cc in absurd x
walked code base n (g ∷ fs) [] f of e h k = let x : ⊥ = cc in absurd x
walked code base zero (g ∷ fs) (o ∷ facts) f of e h k =
    let same : g ≡ f = cc in let like : o ≡ of = cc in
    (base, subst (λ x. function_fault code base x of ≡ None) same (subst (λ x. function_fault code base g x ≡ None) like (or_else_none (function_fault code base g o) (functions_fault code (base + length g.body) fs facts) e).0))
walked code base (suc n) (g ∷ fs) (o ∷ facts) f of e h k = walked code (base + length g.body) n fs facts f of (or_else_none (function_fault code base g o) (functions_fault code (base + length g.body) fs facts) e).1 h k

module _ (code : Parts) (facts : List FuncFacts) (cert : Certified code facts) where
  abbrev pub reaches : ℕ → Bool
  reaches = reaches_isolate code

  parts : (shape_fault code facts ≡ None) × (functions_fault code 0 code.funcs facts ≡ None)
  parts =
      let x = or_else_none (rule_one (shape_fault code facts)) (functions_fault code 0 code.funcs facts) cert in
      (rule_one_none (shape_fault code facts) x.0, x.1)

  functions_lawful : funcs_fault code reaches 0 code.funcs facts ≡ None
  functions_lawful =
      let last = counted_after (length code.kinds + length code.impls) (funcs_fault code reaches 0 code.funcs facts) in
      let middle = counted_after (length code.kinds) (impls_fault code 0 [] code.impls) in
      counted_none (length code.kinds + length code.impls) (funcs_fault code reaches 0 code.funcs facts)
      (or_number_none middle last (or_number_none (kinds_fault code reaches 0 code.kinds) (or_number middle last) parts.0).1).1

  -- each kind and each implementation is as it must be
  pub kinds_lawful : kinds_fault code reaches 0 code.kinds ≡ None
  kinds_lawful =
      let last = counted_after (length code.kinds + length code.impls) (funcs_fault code reaches 0 code.funcs facts) in
      let middle = counted_after (length code.kinds) (impls_fault code 0 [] code.impls) in
      (or_number_none (kinds_fault code reaches 0 code.kinds) (or_number middle last) parts.0).0

  pub impls_lawful : impls_fault code 0 [] code.impls ≡ None
  impls_lawful =
      let last = counted_after (length code.kinds + length code.impls) (funcs_fault code reaches 0 code.funcs facts) in
      let middle = counted_after (length code.kinds) (impls_fault code 0 [] code.impls) in
      counted_none (length code.kinds) (impls_fault code 0 [] code.impls)
      (or_number_none middle last (or_number_none (kinds_fault code reaches 0 code.kinds) (or_number middle last) parts.0).1).0

  pub main_is_there : code.main < length code.funcs
  main_is_there = let x : code.main < 0 + length code.funcs = main_within code reaches 0 code.funcs facts functions_lawful in omega arith

  pub record Found (n : ℕ) (f : Func) : Type 0 where
    pub of : FuncFacts
    pub found : slice_get facts n ≡ Some of
    pub head : head_is_lawful code reaches f ≡ true
    pub body : body_is_lawful code f ≡ true
    pub labels : list_all (label_is_lawful code reaches f) of.labels ≡ true
    pub main : ((n == code.main) ⇒ is_main code f) ≡ true

  pub lawful : (n : ℕ) (f : Func) → slice_get code.funcs n ≡ Some f → Found n f
  lawful n f h =
      let s = shaped code reaches 0 n code.funcs facts f functions_lawful h in
      let first : 0 + n ≡ n = omega arith in
      let all : func_is_lawful code reaches n f s.of ≡ true = subst (λ x. func_is_lawful code reaches x f s.of ≡ true) first s.lawful in
      let a = and_parts (head_is_lawful code reaches f && body_is_lawful code f && has_live f s.of.live && list_all (label_is_lawful code reaches f) s.of.labels) ((n == code.main) ⇒ is_main code f) all in
      let b = and_parts (head_is_lawful code reaches f && body_is_lawful code f && has_live f s.of.live) (list_all (label_is_lawful code reaches f) s.of.labels) a.0 in
      let c = and_parts (head_is_lawful code reaches f && body_is_lawful code f) (has_live f s.of.live) b.0 in
      let d = and_parts (head_is_lawful code reaches f) (body_is_lawful code f) c.0 in
      record { of = s.of; found = s.found; head = d.0; body = d.1; labels = b.1; main = a.1 }

  -- each function is judged
  pub judged : (n : ℕ) (f : Func) → slice_get code.funcs n ≡ Some f → (of : FuncFacts) × Judged code f of × (slice_get facts n ≡ Some of)
  judged n f h =
      let s = lawful n f h in
      let w = walked code 0 n code.funcs facts f s.of parts.1 h s.found in
      let may = may_enter (label_at s.of.labels 0) (entry f s.of) in
      let r = if_none (rise s.of.labels) (walk code f s.of.labels w.0 0 f.body may (Some (entry f s.of))) (record { rule = 7; at = w.0 }) w.1 in
      let body = and_parts (nat_le (length f.params) f.registers && nat_lt 0 (length f.body)) (list_all (numbers code f.registers) f.body) s.body in
      let more : nat_lt 0 (length f.body) ≡ true = (and_parts (nat_le (length f.params) f.registers) (nat_lt 0 (length f.body)) body.0).1 in
      let some : 0 < length f.body = grind arith in (
        s.of,
        record {
          base = w.0;
          came = may;
          some = some;
          numbered = body.1;
          labels_lawful = s.labels;
          within = λ p label e. lawful_within code reaches f s.of.labels p label s.labels e;
          enters = came_in_whole code f s.of.labels w.0 f.body may (Some (entry f s.of)) some r.1;
          walks = r.1;
        },
        s.found,
      )

  -- function `main` has the form that it must have
  pub main_lawful : (f : Func) → slice_get code.funcs code.main ≡ Some f → is_main code f ≡ true
  main_lawful f h = implied (code.main == code.main) (is_main code f) (lawful code.main f h).main (eq-eqb code.main code.main refl)
