-- From the start of a run to its end.
use Rattle.std.proofs.Common.{◌≡◌, ℕ, zero, suc, ◌+◌, List, [], ◌∷◌, length, map, Option, Some, None, Bool, true, false, if◌then◌else◌, refl, sym, ap, ◌∙◌, subst, ◌⊎◌, inl, inr, arith}
use Rattle.std.specs.Prelude.{slice_get, codes, bytes_eq, option_map, slice_index_or}
use Rattle.std.specs.Option.{option_map_or}
use Rattle.std.proofs.lemmas.Option.{slice_get-map}
use Rattle.std.proofs.lemmas.Slice.Eq.{bytes_eq-Decides}
use Rattle.vale_state_spec.specs.Outcome.{End, Done, Cut, Wrong}
use Rattle.vale_state_spec.specs.State.{State, begin, outcome, no_input, main_frame, function_frame}
use Rattle.vale_state_spec.specs.World.{Value}
use Rattle.vale_rules_spec.specs.Declarations.{head_params, param_type}
use Rattle.vale_syntax.specs.Tree.{Param}
use Rattle.vale_rules_spec.specs.Types.{Ty, is_copy, type_of}
use Rattle.vale_rules_spec.specs.Types as y
use Rattle.vale_rules_spec.specs.Typed.{Function, function_body, Typed}
use Rattle.vale_model.specs.Kinds.{head_of}
use Rattle.vale_model.specs.Parts.{Parts, parts_of, name_of, param_names, has_text, first_function, is_pure, main_of}
use Rattle.vale_model.specs.Runs.{Result, goes, returned, ended}
use Rattle.vale_model.specs.Expressions.{called, called_by}
use Rattle.vale_model.specs.Loops.{state_in}
use Rattle.vale_model.specs.Need as need
use Rattle.vale_model.specs.Meaning.{bound, back_to, with_bound, body_run, level, run_of, outcome_of, meaning}
use Rattle.vale_code.proofs.Ends.{run_ends_once}
use Rattle.vale_code.specs.Enter.{Form, Plain, with_func, with_form, form_of as form_in, enter}
use Rattle.vale_code.specs.Frames.{Config, Next, On, Over, wrong}
use Rattle.vale_code.specs.Kinds.{text_at}
use Rattle.vale_code.specs.Need as code_need
use Rattle.vale_code.specs.Parts.{Parts as Code}
use Rattle.vale_code.specs.Registers.{registers_for}
use Rattle.vale_code.specs.Run.{Ending, then_go, exec, if_plain, with_input, first_spot, start, ending_of, run_code, EndsIn}
use Rattle.vale_code.specs.Run as run
use Rattle.vale_code.specs.declared.func.Func.{Func}
use Rattle.vale_code.specs.declared.ty.Ty.{Ty as CodeTy}
use Rattle.vale_lowering.specs.Scopes.{code_type, number_of_function, result_type}
use Rattle.vale_lowering.specs.Lowered.{form_of, lowered}
use Rattle.vale_lowering.proofs.Reaches.{Where, conf, Reaches}
use Rattle.vale_lowering.proofs.Lookups.{found_function, passes}
use Rattle.vale_lowering.proofs.Calls.{program_code, functions, code_of_function, func_at, text_of_function}
use Rattle.vale_lowering.proofs.Program.{Never, body_runs, all_follow}

-- how what a step leads to ends
abbrev EndsAs : Code → Next → End → State → Type 0
EndsAs code next e w = (m : ℕ) × (v : Option Value) × (then_go next (exec code m) ≡ Some (record { end = e; value = v; state = w }))

-- it ends as a result does, in the same state, unless it goes wrong
abbrev Matches : Code → Next → Result (Option Value) → Type 0
Matches code next r = ((w : State) × EndsAs code next Wrong w) ⊎ ((e : End) × (w : State) × EndsAs code next e w × (outcome e w ≡ outcome_of r) × (w ≡ state_in r))

no_function_here : (test : Function → Bool) (f : Function) (fs : List Function) (b : Bool) → (first_function test fs ≡ None → slice_get fs (number_of_function test fs) ≡ None) → (if b then Some f else first_function test fs) ≡ None → slice_get (f ∷ fs) (if b then 0 else suc (number_of_function test fs)) ≡ None
no_function_here test f fs true rest e = absurd (cc)
no_function_here test f fs false rest e = rest e

no_function : (test : Function → Bool) (fs : List Function) → first_function test fs ≡ None → slice_get fs (number_of_function test fs) ≡ None
no_function test [] e = refl
no_function test (f ∷ fs) e = no_function_here test f fs (test f) (no_function test fs) e

module _ (parts : Parts) (ticks : ℕ) where
  abbrev code : Code
  code = program_code parts

  abbrev test : Function → Bool
  test = has_text parts (codes "main")

  abbrev main_number : ℕ
  main_number = number_of_function test (functions parts)

  wrongs : (next : Next) (r : Result (Option Value)) → next ≡ Over Wrong None (begin ticks) → Matches code next r
  wrongs next r e = inl (begin ticks, (0, None, ap (λ x. then_go x (exec code 0)) e))

  -- the name of what is called `main`
  called_main : (names : List (List ℕ)) (m : ℕ) → option_map_or (bytes_eq (codes "main")) (slice_get names m) false ≡ true → slice_index_or names m [] ≡ codes "main"
  called_main [] m e = absurd (cc)
  called_main (t ∷ names) zero e = sym ((bytes_eq-Decides (codes "main") t).0 e)
  called_main (t ∷ names) (suc m) e = called_main names m e

  abbrev root : Bool → Where
  root gives = record { call = main_frame; function = main_number; dest = None; below = []; gives = gives }

  stopped : (gives : Bool) (n : ℕ) (c : Config) (r : Result (Option Value)) → Reaches code (root gives) n 0 Never c r → Matches code (On c) (back_to [] r)
  stopped gives n c r (inl (w, x)) = inl (w, x)
  stopped gives n c (goes v l w) (inr a) = absurd a.2
  stopped gives n c (returned v w) (inr a) = inr (Done, w, a.0, refl, refl)
  stopped gives n c (ended e w) (inr a) = inr (e, w, a, refl, refl)

  -- `main` without parameters, from its entry
  main_entered : (m : ℕ) (f : Function) → ticks ≡ m → slice_get (functions parts) main_number ≡ Some f → is_pure f ≡ false → head_params (head_of f) ≡ [] → Matches code (enter main_number Plain (code_of_function parts f) main_frame None [] [] (begin m)) (called_by false (level parts m) f [] main_frame [] [] (begin m))
  main_entered zero f t here pure none = inr (Cut, begin 0, (0, None, refl), refl, refl)
  main_entered (suc n) (function_body h b) t here pure none =
      let f = function_body h b in
      let w : State = record (begin (suc n)) { left = n; spent = 0 + 1 } in
      subst (λ ps. Matches code (On (conf (root (is_copy (result_type f))) 0 (registers_for (code_of_function parts f).registers []) w)) (with_bound (bound ps [] []) (λ calls. body_run (level parts n) b (main_frame ∷ calls)) [] [] w)) (sym none)
      (stopped (is_copy (result_type f)) n (conf (root (is_copy (result_type f))) 0 _ w) (body_run (level parts n) b (main_frame ∷ []) [] w)
      (body_runs parts n (all_follow parts n) (root (is_copy (result_type f))) f [] here pure refl tt (ap (λ ps. length (param_names ps)) none) b [] w refl (ap (λ ps. bound ps [] []) none) (omega arith)))

  -- what `main` is given, where it takes something
  takes : (x : Ty) (tys : List CodeTy) (go : List Value → State → Next) → with_input (code_type x ∷ tys) None (begin ticks) go ≡ wrong (begin ticks)
  takes y.int tys go = refl
  takes y.bool tys go = refl
  takes y.str tys go = refl
  takes y.void tys go = refl
  takes (y.kind m) tys go = refl
  takes (y.array x) tys go = refl
  takes (y.ref x) tys go = refl
  takes (y.imm x) tys go = refl
  takes (y.iso x) tys go = refl

  abbrev started : Form → Func → Next
  started form func = if_plain form (begin ticks) (with_input func.params None (begin ticks) (λ args s. enter main_number form func (function_frame (text_at code func.name) first_spot) None args [] s))

  by_params : (f : Function) (ps : List Param) → first_function test (functions parts) ≡ Some f → is_pure f ≡ false → head_params (head_of f) ≡ ps → Matches code (with_input (map (λ q. code_type (type_of (param_type q))) ps) None (begin ticks) (λ args s. enter main_number Plain (code_of_function parts f) (function_frame (text_at code (code_of_function parts f).name) first_spot) None args [] s)) (called_by false (level parts ticks) f [] main_frame [] [] (begin ticks))
  by_params f [] e pure none =
      let here = found_function test (functions parts) f e in
      let named : text_at code (code_of_function parts f).name ≡ codes "main" = text_of_function parts main_number f here ∙ called_main parts.names (name_of f) (passes test (functions parts) f e) in
      subst (λ t. Matches code (enter main_number Plain (code_of_function parts f) (function_frame t first_spot) None [] [] (begin ticks)) (called_by false (level parts ticks) f [] main_frame [] [] (begin ticks))) (sym named)
      (main_entered ticks f refl here pure none)
  by_params f (q ∷ ps) e pure some = wrongs _ (called_by false (level parts ticks) f [] main_frame [] [] (begin ticks)) (takes (type_of (param_type q)) _ _)

  by_purity : (f : Function) (b : Bool) → first_function test (functions parts) ≡ Some f → is_pure f ≡ b → Matches code (with_form (form_in (form_of b)) (code_of_function parts f) (begin ticks) started) (called_by b (level parts ticks) f [] main_frame [] [] (begin ticks))
  by_purity f true e pure = wrongs _ (called_by true (level parts ticks) f [] main_frame [] [] (begin ticks)) refl
  by_purity f false e pure = by_params f (head_params (head_of f)) e pure refl

  by_function : (o : Option Function) → first_function test (functions parts) ≡ o → Matches code (start code no_input ticks) (called (level parts ticks) o [] main_frame [] [] (begin ticks))
  by_function None e =
      wrongs (start code no_input ticks) (called (level parts ticks) None [] main_frame [] [] (begin ticks))
      (ap (λ o. with_func o (begin ticks) started) (slice_get-map (code_of_function parts) (functions parts) main_number ∙ ap (option_map (code_of_function parts)) (no_function test (functions parts) e)))
  by_function (Some f) e =
      subst (λ o. Matches code (with_func o (begin ticks) started) (called (level parts ticks) (Some f) [] main_frame [] [] (begin ticks))) (sym (func_at parts main_number f (found_function test (functions parts) f e)))
      (by_purity f (is_pure f) e refl)

  matches : Matches code (start code no_input ticks) (run_of parts no_input ticks)
  matches = by_function (main_of parts) refl

-- Code that isn't wrong does what the program means.
pub code_means : (program : Typed) (ticks : ℕ) → ((run_code (lowered program) no_input ticks).end ≡ Wrong → ⊥) → run_code (lowered program) no_input ticks ≡ meaning program no_input ticks
code_means program ticks right = by (matches (parts_of program) ticks)
  where
    by : Matches (lowered program) (start (lowered program) no_input ticks) (run_of (parts_of program) no_input ticks) → run_code (lowered program) no_input ticks ≡ meaning program no_input ticks
    by (inl (w, (m, v, e))) =
        let is = run_ends_once (lowered program) no_input ticks (record { end = Wrong; value = v; state = w }) (m, e) in
        absurd (right (ap (λ x. x.end) is))
    by (inr (end, w, (m, v, e), same, last)) =
        ap run.outcome_of (run_ends_once (lowered program) no_input ticks (record { end = end; value = v; state = w }) (m, e)) ∙ same

-- And it needs as many frames.
pub code_needs : (program : Typed) (ticks first : ℕ) → ((run_code (lowered program) no_input ticks).end ≡ Wrong → ⊥) → code_need.need (lowered program) no_input ticks first ≡ need.need program no_input ticks first
code_needs program ticks first right = by (matches (parts_of program) ticks)
  where
    by : Matches (lowered program) (start (lowered program) no_input ticks) (run_of (parts_of program) no_input ticks) → code_need.need (lowered program) no_input ticks first ≡ need.need program no_input ticks first
    by (inl (w, (m, v, e))) =
        let is = run_ends_once (lowered program) no_input ticks (record { end = Wrong; value = v; state = w }) (m, e) in
        absurd (right (ap (λ x. x.end) is))
    by (inr (end, w, (m, v, e), same, last)) =
        ap (λ x. code_need.need_at x.state ticks first) (run_ends_once (lowered program) no_input ticks (record { end = end; value = v; state = w }) (m, e))
        ∙ ap (λ s. code_need.need_at s ticks first) last
