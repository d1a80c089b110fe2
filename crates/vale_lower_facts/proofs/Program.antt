-- The code of a program whose types fit is certified.
use Rattle.std.proofs.Common.{◌≡◌, ℕ, zero, suc, ◌+◌, ◌<◌, ◌≤◌, List, [], ◌∷◌, ◌++◌, length, map, flat_map, Some, None, Bool, true, false, not, ◌&&◌, ◌||◌, ◌==◌, if◌then◌else◌, refl, ap, ◌∙◌, subst, arith, length-append}
use Rattle.std.specs.Prelude.{slice_get, nat_lt, codes}
use Rattle.std.specs.List.{list_all}
use Rattle.std.proofs.lemmas.Bool.{and_parts, and_from, lt-ltb, le-leb, eq-eqb, eqb-true}
use Rattle.std.proofs.lemmas.List.{length-map}
use Rattle.std.proofs.lemmas.List.Folds.{list_all-append}
use Rattle.std.proofs.lemmas.Option.{slice_get_within}
use Rattle.vale_state_spec.specs.State.{no_input}
use Rattle.vale_syntax.specs.Tree.{Head, head, Param}
use Rattle.vale_rules_spec.specs.Declarations.{head_params, param_type}
use Rattle.vale_rules_spec.specs.Types.{Ty, type_of, result_of}
use Rattle.vale_rules_spec.specs.Types as y
use Rattle.vale_rules_spec.specs.TypeRules.{head_gives, param_types}
use Rattle.vale_rules_spec.specs.Typed.{Function, function_body, Item, struct_item, interface_item, impl_item, function_item, Typed, typed}
use Rattle.vale_rules_spec.specs.Typing.{Env}
use Rattle.vale_rules_spec.specs.Typing as typing
use Rattle.vale_model.specs.Kinds.{head_of, body_of}
use Rattle.vale_model.specs.Parts.{Parts, parts_of, is_pure, name_text, name_of, has_name, has_text, functions_of}
use Rattle.vale_code.specs.Parts.{Parts as Code}
use Rattle.vale_code.specs.declared.func.Func.{Func}
use Rattle.vale_code.specs.declared.instr.Instr.{Instr}
use Rattle.vale_code.specs.declared.instr.Instr.TheVariants as i
use Rattle.vale_code.specs.declared.ty.Ty.{Ty as CodeTy}
use Rattle.vale_code.specs.declared.ty.Ty.TheVariants as t
use Rattle.vale_cert.specs.Certificate.{rule_one, Certified}
use Rattle.vale_cert.specs.Input.{takes_input, function_takes, params_take}
use Rattle.vale_cert.specs.Known.{Known, entry, label_at, may_enter}
use Rattle.vale_cert.specs.Numbers.{numbers}
use Rattle.vale_cert.specs.Shape.{counted_after, funcs_fault, func_is_lawful, head_is_lawful, body_is_lawful, has_form, has_input, label_is_lawful, is_main}
use Rattle.vale_cert.specs.Types.{is_copy, is_type, is_result, is_void, reaches_isolate, ◌⇒◌}
use Rattle.vale_cert.specs.Walk.{or_else, walk, function_fault, functions_fault}
use Rattle.vale_cert.specs.declared.facts.FuncFacts.{FuncFacts}
use Rattle.vale_served_spec.specs.Served.{type_is_served, function_is_served, item_is_served, block_is_served, is_served}
use Rattle.vale_lowering.specs.Lowered.{registers_in, end_code, form_of, around_of, names_in, block_code, lowered_function, functions_in, texts_in, lowered_parts, lowered}
use Rattle.vale_lowering.specs.Scopes.{Around, code_type, head_result, result_type, parameters, number_of_function}
use Rattle.vale_lowering.specs.Texts.{function_quotes, block_quotes}
use Rattle.vale_lowering.proofs.Lookups.{found_function, found_text, in_front}
use Rattle.vale_lower_facts.specs.Slots.{Stand, behind, type_at, or_last}
use Rattle.vale_rules_spec.specs.Returns.{block_returns}
use Rattle.vale_lower_facts.specs.Marks.{Marks, mark, block_due, block_marks, param_slots, entry_stand, value_type, last_of, function_marks, function_facts, facts_of_parts, lowered_facts}
use Rattle.vale_lower_facts.specs.WellTyped.{function_is_well_typed, all_are_well_typed, PartsSuit, WellTyped}
use Rattle.vale_lower_facts.proofs.Stands.{Site, Covers, covers_plain}
use Rattle.vale_lower_facts.proofs.Runs.{Arrives, Ready, Goes, step, Fits, front, back, AllPlain, all_plain, plain_both, Runs}
use Rattle.vale_lower_facts.proofs.Ways.{value_leaves, nothing_leaves}
use Rattle.vale_lower_facts.proofs.Names.{copies_too, IsFunc, Among, among_same, among_front, among_back, Context, Stands}
use Rattle.vale_lower_facts.proofs.Tree.{block_runs}
use Rattle.vale_lower_facts.proofs.Labels.{rises, fits_each, copy_lawful, labels_lawful}
use Rattle.vale_lower_facts.proofs.Entries.{code_param, all_copy, count_names, params_scope, params_gives, named_none, Entered, params_enter, covers_entry}

-- ---- lists

all_at : {A : Type 0} (test : A → Bool) (xs : List A) (i : ℕ) (x : A) → list_all test xs ≡ true → slice_get xs i ≡ Some x → test x ≡ true
all_at test [] i x e h = absurd (cc)
all_at test (z ∷ xs) zero x e h = let same : z ≡ x = cc in subst (λ q. test q ≡ true) same (and_parts (test z) (list_all test xs) e).0
all_at test (z ∷ xs) (suc i) x e h = all_at test xs i x (and_parts (test z) (list_all test xs) e).1 h

map_at : {A B : Type 0} (f : A → B) (xs : List A) (i : ℕ) (x : A) → slice_get xs i ≡ Some x → slice_get (map f xs) i ≡ Some (f x)
map_at f [] i x h = absurd (cc)
map_at f (z ∷ xs) zero x h = let same : z ≡ x = cc in ap (λ q. Some (f q)) same
map_at f (z ∷ xs) (suc i) x h = map_at f xs i x h

quotes_among : (fs : List Function) (i : ℕ) (f : Function) → slice_get fs i ≡ Some f → Among (function_quotes f) (flat_map function_quotes fs)
quotes_among [] i f h = absurd (cc)
quotes_among (g ∷ fs) zero f h =
    let same : g ≡ f = cc in
    subst (λ q. Among (function_quotes q) (function_quotes g ++ flat_map function_quotes fs)) same
    (among_front (function_quotes g) (flat_map function_quotes fs) (among_same (function_quotes g ++ flat_map function_quotes fs)))
quotes_among (g ∷ fs) (suc i) f h =
    let more = quotes_among fs i f h in
    let all = among_back (function_quotes g) (flat_map function_quotes fs) (among_same (function_quotes g ++ flat_map function_quotes fs)) in
    record { each = λ j text e. let d = more.each j text e in all.each d.0 text d.1 }

suits_at : (functions fs : List Function) (i : ℕ) (f : Function) → all_are_well_typed functions fs → slice_get fs i ≡ Some f → function_is_well_typed functions f
suits_at functions [] i f s h = absurd (cc)
suits_at functions (g ∷ fs) zero f s h = let same : g ≡ f = cc in subst (λ q. function_is_well_typed functions q) same s.0
suits_at functions (g ∷ fs) (suc i) f s h = suits_at functions fs i f s.1 h

-- ---- functions

record ServedParts (f : Function) : Type 0 where
  plain : is_pure f ≡ false
  copies : all_copy (head_params (head_of f)) ≡ true
  result : type_is_served (result_type f) ≡ true
  body : block_is_served (body_of f) ≡ true

not_false : (b : Bool) → not b ≡ true → b ≡ false
not_false true e = absurd (cc)
not_false false e = refl

served_parts : (f : Function) → function_is_served f ≡ true → ServedParts f
served_parts (function_body (head is_pure n ps x) b) e =
    let a = and_parts (not is_pure && all_copy ps && type_is_served (result_of x)) (block_is_served b) e in
    let c = and_parts (not is_pure && all_copy ps) (type_is_served (result_of x)) a.0 in
    let d = and_parts (not is_pure) (all_copy ps) c.0 in
    record { plain = not_false is_pure d.0; copies = d.1; result = c.1; body = a.1 }

types_mapped : (ps : List Param) → map code_param ps ≡ map code_type (param_types ps)
types_mapped [] = refl
types_mapped (p ∷ ps) = ap (λ tys. code_param p ∷ tys) (types_mapped ps)

types_copy : (ps : List Param) → all_copy ps ≡ true → list_all y.is_copy (param_types ps) ≡ true
types_copy [] e = refl
types_copy (p ∷ ps) e = let w = and_parts (y.is_copy (type_of (param_type p))) (all_copy ps) e in and_from _ _ w.0 (types_copy ps w.1)

gives_same : (h : Head) → head_gives h ≡ head_result h
gives_same (head is_pure n ps x) = refl

quotes_same : (f : Function) → function_quotes f ≡ block_quotes (body_of f)
quotes_same (function_body h b) = refl

value_plain : (x : Ty) (ty : CodeTy) → value_type x ≡ Some ty → is_copy ty ≡ true
value_plain x ty e = by (y.is_copy x) refl e
  where
    by : (b : Bool) → y.is_copy x ≡ b → (if b then Some (code_type x) else None) ≡ Some ty → is_copy ty ≡ true
    by true is e = let same : code_type x ≡ ty = cc in subst (λ q. is_copy q ≡ true) same (copies_too x is)
    by false is e = absurd (cc)

copy_some : (x : Ty) → y.is_copy x ≡ true → y.is_void x ≡ false
copy_some y.int e = refl
copy_some y.bool e = refl
copy_some y.str e = refl
copy_some y.void e = absurd (cc)
copy_some (y.kind m) e = absurd (cc)
copy_some (y.array x) e = absurd (cc)
copy_some (y.ref x) e = absurd (cc)
copy_some (y.imm x) e = absurd (cc)
copy_some (y.iso x) e = absurd (cc)

covered_void : (x : Ty) → type_is_served x ≡ true → y.is_copy x ≡ false → code_type x ≡ t.Void
covered_void y.void c e = refl
covered_void y.int c e = absurd (cc)
covered_void y.bool c e = absurd (cc)
covered_void y.str c e = absurd (cc)
covered_void (y.kind m) c e = absurd (cc)
covered_void (y.array x) c e = absurd (cc)
covered_void (y.ref x) c e = absurd (cc)
covered_void (y.imm x) c e = absurd (cc)
covered_void (y.iso x) c e = absurd (cc)

one_end : (b : Bool) (n : ℕ) → length (end_code b n) ≡ 1
one_end true n = refl
one_end false n = refl

module _ (p : Parts) (covered : list_all function_is_served (functions_in p) ≡ true) (suits : PartsSuit p) where
  abbrev fs : List Function
  fs = functions_in p

  abbrev texts : List (List ℕ)
  texts = texts_in p fs

  abbrev code : Code
  code = lowered_parts p

  abbrev func : Function → Func
  func f = lowered_function p texts fs f

  abbrev facts_for : Function → FuncFacts
  facts_for f = function_facts p texts fs f

  parts_at : (n : ℕ) (f : Function) → slice_get fs n ≡ Some f → ServedParts f
  parts_at n f at = served_parts f (all_at function_is_served fs n f covered at)

  code_function : (n : ℕ) (f : Function) → slice_get fs n ≡ Some f → IsFunc (slice_get code.funcs n) f
  code_function n f at =
      let c = parts_at n f at in
      record {
        func = func f;
        is = map_at func fs n f at;
        form = ap form_of c.plain;
        params = types_mapped (head_params (head_of f));
        result = refl;
        plain = c.plain;
        copies = types_copy (head_params (head_of f)) c.copies;
        covered = c.result;
      }

  -- ---- one function

  module _ (f : Function) (n : ℕ) (at : slice_get fs n ≡ Some f) (base : ℕ) where
    abbrev k : Site
    k = record { code = code; func = func f; labels = (facts_for f).labels; base = base; result = result_type f; last = last_of f; last_plain = value_plain (result_type f) }

    abbrev params : List Param
    params = head_params (head_of f)

    abbrev count : ℕ
    count = length (names_in f)

    abbrev around : Around
    around = around_of texts fs f

    abbrev start : Stand
    start = entry_stand f

    abbrev env : Env
    env = typing.entry (head_of f)

    abbrev inner : List Instr
    inner = block_code around false (body_of f) 0 count (count + 1) (parameters 0 (names_in f) [])

    abbrev inner_marks : Marks
    inner_marks = block_marks around false (body_of f) (count + 1) start false

    abbrev due : Bool
    due = block_due around.gives false (body_of f) false

    abbrev behind_all : Stand
    behind_all = behind (block_returns (body_of f)) start

    abbrev last_mark : Marks
    last_mark = mark due behind_all ∷ []

    c : ServedParts f
    c = parts_at n f at

    su : function_is_well_typed fs f
    su = suits_at fs fs n f suits.functions at

    context : Context k
    context = record {
      around = around;
      gives = refl;
      result_is = refl;
      covered = c.result;
      texts = refl;
      called = λ m g e. code_function (number_of_function (has_name m) fs) g (found_function (has_name m) fs g e);
    }

    entered : Entered k env (0 + length params) (param_slots 0 params [])
    entered = params_enter k params 0 (record { gives = head_gives (head_of f); depth = 0; scope = [] }) [] c.copies (record { free = λ q le. refl; named = named_none k refl })

    stands : Stands k env (count + 1) start
    stands = record {
      gives = params_gives params (record { gives = head_gives (head_of f); depth = 0; scope = [] }) ∙ gives_same (head_of f);
      below = record { last = omega arith; free = λ r le. entered.free r (omega (arith, le, count_names params)); off_last = entered.free count (omega (arith, count_names params)) };
      named = entered.named.each;
    }

    texts_there : Among (block_quotes (body_of f)) texts
    texts_there =
        subst (λ q. Among q texts) (quotes_same f)
        (let some = quotes_among fs n f at in
        let all = among_back (map (λ f. name_text p (name_of f)) fs) (flat_map function_quotes fs) (among_same texts) in
        record { each = λ j text e. let d = some.each j text e in all.each d.0 text d.1 })

    inner_runs : Runs k 0 inner inner_marks false start due behind_all
    unfolding context
    inner_runs =
        subst (λ s. Runs k 0 (block_code around false (body_of f) 0 count (count + 1) s) inner_marks false start due behind_all) (params_scope params 0 [])
        (block_runs k context env y.void (body_of f) 0 count (count + 1) start false su.0 c.body texts_there stands)

    abbrev whole : List Instr
    whole = inner ++ end_code around.gives count

    along : length (function_marks around f) ≡ length whole
    along = let a = inner_runs.along in omega (arith, a, length-append inner_marks last_mark, length-append inner (end_code around.gives count), one_end around.gives count)

    enough : registers_in whole ≤ (func f).registers
    enough = omega arith

    fits : Fits k 0 whole (function_marks around f)
    fits = record { each = fits_each k whole (function_marks around f) 0 along (λ q le. refl) enough }

    fits_end : Fits k (length inner) (end_code around.gives count) last_mark
    fits_end = subst (λ q. Fits k q (end_code around.gives count) last_mark) (let z : 0 + length inner ≡ length inner = omega arith in z) (back k inner (end_code around.gives count) inner_marks last_mark inner_runs.along fits)

    inside : length inner < length whole
    inside = omega (arith, length-append inner (end_code around.gives count), one_end around.gives count)

    returned : block_returns (body_of f) ≡ true → y.is_copy (result_type f) ≡ true → type_at k.last behind_all count ≡ Some (code_type (result_type f))
    returned r copy =
        ap (or_last k.last (block_returns (body_of f) || false) count) (stands.below.off_last)
        ∙ ap (λ b. if (b || false) && (count == count) then k.last.ty else None) r
        ∙ ap (λ b. if b then k.last.ty else None) (eq-eqb count count refl)
        ∙ ap (λ b. if b then Some (code_type (result_type f)) else None) copy

    end_ready : (b : Bool) → y.is_copy (result_type f) ≡ b → Fits k (length inner) (end_code b count) last_mark → Ready k (length inner) due behind_all (end_code b count)
    end_ready true is fit = step k (length inner) due behind_all (i.Ret count) [] fit.each.0 by
      where
        by : (known : Known) → Covers k known behind_all → Goes k (length inner) (i.Ret count) known []
        by known cov =
            let l = value_leaves k count known (omega arith) (returned (su.1 (copy_some (result_type f) is)) is) cov in
            record { types = l.types; present = l.present; depths = l.depths; to_target = refl; to_next = refl; target = refl; next = refl; inside = inside; walks = refl }
    end_ready false is fit = step k (length inner) due behind_all i.RetVoid [] fit.each.0 by
      where
        by : (known : Known) → Covers k known behind_all → Goes k (length inner) i.RetVoid known []
        by known cov =
            let l = nothing_leaves k known (covered_void (result_type f) c.result is) cov in
            record { types = l.types; present = l.present; depths = l.depths; to_target = refl; to_next = refl; target = refl; next = refl; inside = inside; walks = refl }

    ready : Ready k 0 false start whole
    ready =
        inner_runs.ready (front k inner (end_code around.gives count) inner_marks last_mark inner_runs.along fits) (end_code around.gives count)
        (subst (λ q. Ready k q due behind_all (end_code around.gives count)) (let z : length inner ≡ 0 + length inner = omega arith in z) (end_ready around.gives refl fits_end))

    few : length params ≤ (func f).registers
    few = omega (arith, count_names params)

    covers : Covers k (entry (func f) (facts_for f)) start
    covers = covers_entry k params c.copies few

    arrived : Arrives k 0 whole (entry (func f) (facts_for f))
    arrived = ready.arrives (entry (func f) (facts_for f)) covers

    no_fault : function_fault code base (func f) (facts_for f) ≡ None
    no_fault =
        ap (λ b. if b then walk code (func f) (facts_for f).labels base 0 whole (may_enter (label_at (facts_for f).labels 0) (entry (func f) (facts_for f))) (Some (entry (func f) (facts_for f))) else Some (record { rule = 7; at = base })) (rises (last_of f) (func f).registers (function_marks around f) 0)
        ∙ ap (λ b. walk code (func f) (facts_for f).labels base 0 whole b (Some (entry (func f) (facts_for f)))) arrived.enters
        ∙ arrived.walks

    -- ---- its shape

    numbered_end : (b : Bool) → list_all (numbers code (func f).registers) (end_code b count) ≡ true
    numbered_end true = and_from _ _ (and_from _ _ (and_from _ _ (and_from _ _ (lt-ltb count (func f).registers (omega arith)) refl) refl) refl) refl
    numbered_end false = refl

    numbered : list_all (numbers code (func f).registers) whole ≡ true
    numbered =
        list_all-append (numbers code (func f).registers) inner (end_code around.gives count)
        ∙ and_from _ _ (inner_runs.numbered (front k inner (end_code around.gives count) inner_marks last_mark inner_runs.along fits)) (numbered_end around.gives)

    body_lawful : body_is_lawful code (func f) ≡ true
    body_lawful =
        and_from _ _
        (and_from _ _ (le-leb (length (func f).params) (func f).registers (omega (arith, length-map params code_param, few))) (lt-ltb 0 (length whole) (omega (arith, inside)))) numbered

    module _ (reaches : ℕ → Bool) where
      plains : AllPlain k (function_marks around f)
      plains = let w = inner_runs.plains (covers_plain k covers) in plain_both k inner_marks last_mark w.1 (all_plain k due behind_all [] w.0 tt)

      labels_are : list_all (label_is_lawful code reaches (func f)) (facts_for f).labels ≡ true
      labels_are = labels_lawful k reaches (function_marks around f) 0 (omega (arith, along)) plains

      params_lawful : (ps : List Param) → all_copy ps ≡ true → list_all (is_type code reaches) (map code_param ps) ≡ true
      params_lawful [] e = refl
      params_lawful (q ∷ ps) e = let w = and_parts (y.is_copy (type_of (param_type q))) (all_copy ps) e in and_from _ _ (copy_lawful k reaches (code_param q) (copies_too (type_of (param_type q)) w.0)) (params_lawful ps w.1)

      result_lawful : (x : Ty) → type_is_served x ≡ true → is_result code reaches (code_type x) ≡ true
      result_lawful y.int e = refl
      result_lawful y.bool e = refl
      result_lawful y.str e = refl
      result_lawful y.void e = refl
      result_lawful (y.kind m) e = absurd (cc)
      result_lawful (y.array x) e = absurd (cc)
      result_lawful (y.ref x) e = absurd (cc)
      result_lawful (y.imm x) e = absurd (cc)
      result_lawful (y.iso x) e = absurd (cc)

      named : nat_lt (func f).name (length texts) ≡ true
      named =
          let here = in_front (map (λ f. name_text p (name_of f)) fs) (flat_map function_quotes fs) n (name_text p (name_of f)) (map_at (λ f. name_text p (name_of f)) fs n f at) in
          lt-ltb (func f).name (length texts)
          (slice_get_within texts (func f).name (name_text p (name_of f)) (found_text (name_text p (name_of f)) texts n here))

      formed : has_form code reaches (func f).form (func f) ≡ true
      formed = ap (λ b. has_form code reaches (form_of b) (func f)) c.plain

      head_lawful : head_is_lawful code reaches (func f) ≡ true
      head_lawful = and_from _ _ (and_from _ _ (and_from _ _ named formed) (params_lawful params c.copies)) (result_lawful (result_type f) c.result)

      main_lawful : ((n == code.main) ⇒ is_main code (func f)) ≡ true
      main_lawful = by (n == code.main) refl
        where
          same : n ≡ code.main → f ≡ suits.main.is
          same e =
              let there : slice_get fs code.main ≡ Some suits.main.is = found_function (has_text p (codes "main")) fs suits.main.is suits.main.found in
              let here : slice_get fs code.main ≡ Some f = subst (λ m. slice_get fs m ≡ Some f) e at in cc

          lawful : f ≡ suits.main.is → is_main code (func f) ≡ true
          lawful e =
              and_from _ _ (and_from _ _ (eq-eqb (func f).form 0 (ap form_of c.plain)) (ap (λ ps. has_input code (map code_param ps)) (ap (λ g. head_params (head_of g)) e ∙ suits.main.takes_nothing)))
              (ap (λ x. is_void (code_type x)) (ap result_type e ∙ suits.main.gives_nothing))

          by : (b : Bool) → (n == code.main) ≡ b → (b ⇒ is_main code (func f)) ≡ true
          by true e = lawful (same (eqb-true n code.main e))
          by false e = refl

      is_lawful : func_is_lawful code reaches n (func f) (facts_for f) ≡ true
      is_lawful = and_from _ _ (and_from _ _ (and_from _ _ (and_from _ _ head_lawful body_lawful) refl) labels_are) main_lawful

  -- ---- all functions

  no_walk_fault : (gs : List Function) (m base : ℕ) → ((j : ℕ) (g : Function) → slice_get gs j ≡ Some g → slice_get fs (m + j) ≡ Some g) → functions_fault code base (map func gs) (map facts_for gs) ≡ None
  no_walk_fault [] m base h = refl
  no_walk_fault (g ∷ gs) m base h =
      ap (λ o. or_else o (functions_fault code (base + length (func g).body) (map func gs) (map facts_for gs)))
      (no_fault g m (subst (λ q. slice_get fs q ≡ Some g) (let z : m + 0 ≡ m = omega arith in z) (h 0 g refl)) base)
      ∙ no_walk_fault gs (m + 1) (base + length (func g).body) (λ j x e. subst (λ q. slice_get fs q ≡ Some x) (let z : m + suc j ≡ m + 1 + j = omega arith in z) (h (suc j) x e))

  main_there : code.main < length fs
  main_there = slice_get_within fs code.main suits.main.is (found_function (has_text p (codes "main")) fs suits.main.is suits.main.found)

  no_shape_fault : (reaches : ℕ → Bool) (gs : List Function) (m : ℕ) → m + length gs ≡ length fs → ((j : ℕ) (g : Function) → slice_get gs j ≡ Some g → slice_get fs (m + j) ≡ Some g) → funcs_fault code reaches m (map func gs) (map facts_for gs) ≡ None
  no_shape_fault reaches [] m all h = ap (λ b. if b then None else Some m) (lt-ltb code.main m (let lt = main_there in omega (arith, lt, all)))
  no_shape_fault reaches (g ∷ gs) m all h =
      ap (λ b. if b then funcs_fault code reaches (m + 1) (map func gs) (map facts_for gs) else Some m)
      (is_lawful g m (subst (λ q. slice_get fs q ≡ Some g) (let z : m + 0 ≡ m = omega arith in z) (h 0 g refl)) 0 reaches)
      ∙ no_shape_fault reaches gs (m + 1) (omega (arith, all)) (λ j x e. subst (λ q. slice_get fs q ≡ Some x) (let z : m + suc j ≡ m + 1 + j = omega arith in z) (h (suc j) x e))

  suffix : (j : ℕ) (g : Function) → slice_get fs j ≡ Some g → slice_get fs (0 + j) ≡ Some g
  suffix j g e = subst (λ q. slice_get fs q ≡ Some g) (let z : j ≡ 0 + j = omega arith in z) e

  pub parts_certified : Certified code (facts_of_parts p)
  parts_certified =
      ap (λ o. or_else (rule_one (counted_after 0 o)) (functions_fault code 0 code.funcs (facts_of_parts p))) (no_shape_fault (reaches_isolate code) fs 0 (omega arith) suffix)
      ∙ no_walk_fault fs 0 0 suffix

module _ (p : Parts) (suits : PartsSuit p) where
  -- `main` takes no input
  main_takes_nothing : takes_input (lowered_parts p) no_input ≡ true
  main_takes_nothing =
      let fs = functions_in p in
      let there = found_function (has_text p (codes "main")) fs suits.main.is suits.main.found in
      ap (function_takes (lowered_parts p) no_input) (map_at (lowered_function p (texts_in p fs) fs) fs (lowered_parts p).main suits.main.is there)
      ∙ ap (λ ps. params_take (lowered_parts p) (map code_param ps) no_input) suits.main.takes_nothing

-- ---- programs

pub takes_no_input : (program : Typed) → WellTyped program → takes_input (lowered program) no_input ≡ true
takes_no_input program su = main_takes_nothing (parts_of program) su

functions_served : (items : List Item) → list_all item_is_served items ≡ true → list_all function_is_served (flat_map functions_of items) ≡ true
functions_served [] e = refl
functions_served (function_item f ∷ items) e = let w = and_parts (function_is_served f) (list_all item_is_served items) e in and_from _ _ w.0 (functions_served items w.1)
functions_served (struct_item n fs ∷ items) e = absurd (cc)
functions_served (interface_item n hs ∷ items) e = absurd (cc)
functions_served (impl_item at i s fs ∷ items) e = absurd (cc)

pub lowered_is_certified : (program : Typed) → is_served program ≡ true → WellTyped program → Certified (lowered program) (lowered_facts program)
lowered_is_certified (typed names items) cov su = parts_certified (parts_of (typed names items)) (functions_served items cov) su
