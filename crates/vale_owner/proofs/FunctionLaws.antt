-- Whole functions, one after another.
use Rattle.std.proofs.Common.{◌≡◌, ℕ, List, [], ◌∷◌, ◌++◌, ◌+◌, ◌<◌, ◌≤◌, length, get_or, drop, refl, ap, sym, ◌∙◌, append-nil}
use Rattle.std.proofs.lemmas.List.{drop_more, drop_all}
use Rattle.std.specs.Prelude.{true, false, ◌&&◌, None, Result, Ok, Err, map, option_map, if◌then◌else◌}
use Rattle.vale_base.specs.declared.spot.Spot.{Spot}
use Rattle.vale_base.specs.declared.fault.Fail.{Fail}
use Rattle.vale_base.specs.declared.fault.Fail.TheVariants.{Memory, Is}
use Rattle.vale_syntax.specs.declared.fault.Fault.{Fault}
use Rattle.vale_rules_spec.specs.Declarations.{head_name, head_params, param_name, is_drop}
use Rattle.vale_rules_spec.specs.Judged.{own, first_of, stopped, Gives}
use Rattle.vale_rules_spec.proofs.JudgedLaws.{stopped_after}
use Rattle.vale_syntax.specs.Tree as s
use Rattle.vale_rules_spec.specs.Typed as t
use Rattle.vale_syntax.specs.View.{view_head}
use Rattle.vale_core.specs.declared.tree.Block.{out-Block}
use Rattle.vale_core.specs.declared.tree.Function.{Function}
use Rattle.vale_core.specs.View.{view_expr, view_stmt, view_block, view_function, stmts_of, last_end}
use Rattle.vale_core.proofs.PartLaws.{of_out_block}
use Rattle.vale_rules_spec.specs.Whole.{Locals}
use Rattle.vale_rules_spec.specs.Owned.{function_flow, function_faults, method_faults, are_taken_apart}
use Rattle.vale_owner.specs.After.{after_stmts}
use Rattle.vale_owner_flow.specs.declared.flow_state.FlowState.{FlowState}
use Rattle.vale_owner_flow.specs.FlowView.{FlowView, found, nothing, declaring, judged}
use Rattle.vale_owner.specs.Functions.{declaring_params, at_end, body_faults, is_taken_apart, answer}
use Rattle.vale_owner_flow.proofs.FoundLaws.{first_append}
use Rattle.vale_owner.proofs.WalkLaws.{stmts_by_parts}

pub no_params : (f : FlowView) → declaring_params [] f ≡ f
unfolding declaring_params
no_params f = refl

pub more_params : (p : s.Param) (ps : List s.Param) (f : FlowView) → declaring_params (p ∷ ps) f ≡ declaring_params ps (declaring (param_name p) f)
unfolding declaring_params declaring
more_params (s.param n x) ps f = refl

pub ruleset params = (no_params, more_params)

at_end_of : (h : s.Head) (b : t.Block) (at end : Spot) (ss : t.Stmts) (x : _) → b ≡ t.block at end x ss → at_end (t.function_body h b) ≡ after_stmts ss (declaring_params (head_params h) nothing)
unfolding at_end after_stmts declaring_params nothing
at_end_of h b at end ss x e = ap (λ z. at_end (t.function_body h z)) e

pub body_by_parts : (f : Function) → at_end (view_function f)
    ≡ after_stmts (last_end (option_map view_expr (out-Block f.body).last)) (after_stmts (stmts_of (map view_stmt (out-Block f.body).stmts) None) (declaring_params (head_params (view_head f.head)) nothing))
body_by_parts f =
    at_end_of (view_head f.head) (view_block f.body) _ _ _ _ (of_out_block f.body)
    ∙ stmts_by_parts (map view_stmt (out-Block f.body).stmts) (last_end (option_map view_expr (out-Block f.body).last)) (declaring_params (head_params (view_head f.head)) nothing)

pub ruleset bodies = (body_by_parts)

-- ---- destructors

pub apart_more : (p : s.Param) (ps : List s.Param) (b : t.Block) (ls : Locals) → are_taken_apart (p ∷ ps) b ls ≡ (is_taken_apart p b ls && are_taken_apart ps b ls)
apart_more p ps b ls = refl

pub ruleset apart = (apart_more)

-- ---- answers

pub answered : (fs : List Fault) → answer (first_of fs) ≡ stopped fs tt
answered [] = refl
answered (f ∷ fs) = refl

pub fault_is : (s : FlowState) → s.fault ≡ (found s).first
unfolding found
fault_is s = refl

pub body_is : (f : t.Function) → answer (at_end f).first ≡ stopped (body_faults f) tt
unfolding at_end
body_is (t.function_body h b) = answered (function_flow h b).faults

abbrev judged_end : List (List ℕ) → s.Head → t.Block → FlowView
judged_end names h b = judged (head_name h).at 33 (are_taken_apart (head_params h) b (at_end (t.function_body h b)).locals) (at_end (t.function_body h b))

plain_is : (names : List (List ℕ)) (h : s.Head) (b : t.Block) → is_drop names h ≡ false → answer (at_end (t.function_body h b)).first ≡ stopped (function_faults names (t.function_body h b)) tt
unfolding at_end
plain_is names h b e =
    answered (function_flow h b).faults
    ∙ ap (λ z. stopped z tt) (sym (append-nil (function_flow h b).faults))
    ∙ ap (λ d. stopped ((function_flow h b).faults ++ own (head_name h).at (if d then (33, are_taken_apart (head_params h) b (function_flow h b).after) ∷ [] else [])) tt) (sym e)

drop_is : (names : List (List ℕ)) (h : s.Head) (b : t.Block) → is_drop names h ≡ true → answer (judged_end names h b).first ≡ stopped (function_faults names (t.function_body h b)) tt
unfolding at_end judged
drop_is names h b e =
    let ends : List Fault = own (head_name h).at ((33, are_taken_apart (head_params h) b (function_flow h b).after) ∷ []) in
    ap answer (sym (first_append (function_flow h b).faults ends))
    ∙ answered ((function_flow h b).faults ++ ends)
    ∙ ap (λ d. stopped ((function_flow h b).faults ++ own (head_name h).at (if d then (33, are_taken_apart (head_params h) b (function_flow h b).after) ∷ [] else [])) tt) (sym e)

pub plain_function : (names : List (List ℕ)) (f : Function) (x : FlowView) → x ≡ at_end (view_function f) → is_drop names (view_head f.head) ≡ false → answer x.first ≡ stopped (function_faults names (view_function f)) tt
plain_function names f x end e = ap (λ z. answer z.first) end ∙ plain_is names (view_head f.head) (view_block f.body) e

pub drop_function : (names : List (List ℕ)) (f : Function) (x z : FlowView) → x ≡ at_end (view_function f) → is_drop names (view_head f.head) ≡ true
    → z ≡ judged f.head.name.at 33 (are_taken_apart (head_params (view_head f.head)) (view_block f.body) x.locals) x → answer z.first ≡ stopped (function_faults names (view_function f)) tt
drop_function names f x z end e ez =
    ap (λ y. answer y.first) (ez ∙ ap (λ y. judged f.head.name.at 33 (are_taken_apart (head_params (view_head f.head)) (view_block f.body) y.locals) y) end)
    ∙ drop_is names (view_head f.head) (view_block f.body) e

pub ruleset functions = (fault_is, plain_function, drop_function)

pub ruleset methods = (fault_is, body_is)

-- ---- one after another

pub methods_first : (f : t.Function) (fs : List t.Function) → method_faults (f ∷ fs) ≡ body_faults f ++ method_faults fs
methods_first (t.function_body h b) fs = refl

module _ {X : Type 0} (F : List X → List Fault) (one : X → List Fault) (more : (x : X) (xs : List X) → F (x ∷ xs) ≡ one x ++ F xs) (xs : List X) (i : ℕ) (x d : X) (lt : i < length xs) (is : x ≡ get_or xs i d) where
  here : F (drop i xs) ≡ one x ++ F (drop (i + 1) xs)
  here = ap F (drop_more xs i d lt ∙ ap (λ y. y ∷ drop (i + 1) xs) (sym is)) ∙ more x (drop (i + 1) xs)

  pub faults_next : (whole : Result (Unit {0}) Fault) → stopped (one x) (tt {0}) ≡ Ok (tt {0}) → stopped (F (drop i xs)) (tt {0}) ≡ whole → stopped (F (drop (i + 1) xs)) (tt {0}) ≡ whole
  faults_next whole e flow_state = stopped_after (one x) (F (drop (i + 1) xs)) (tt {0}) (stopped (F (drop (i + 1) xs)) (tt {0})) e refl ∙ ap (λ z. stopped z (tt {0})) (sym here) ∙ flow_state

  stopped_first : (fs gs : List Fault) (f : Fault) → stopped fs (tt {0}) ≡ Err f → stopped (fs ++ gs) (tt {0}) ≡ Err f
  stopped_first [] gs f e = absurd cc
  stopped_first (g ∷ fs) gs f e = e

  pub faults_stop : (whole : Result (Unit {0}) Fault) (e : Fail Fault) → Gives (λ x. x) (Err e) (stopped (one x) (tt {0})) → stopped (F (drop i xs)) (tt {0}) ≡ whole → Gives (λ x. x) (Err e) whole
  faults_stop whole Memory g flow_state = tt
  faults_stop whole (Is f) g flow_state = sym flow_state ∙ ap (λ z. stopped z (tt {0})) here ∙ stopped_first (one x) (F (drop (i + 1) xs)) f g

pub faults_done : {X : Type 0} (F : List X → List Fault) (none : F [] ≡ []) (xs : List X) (i : ℕ) (whole : Result (Unit {0}) Fault) → length xs ≤ i → stopped (F (drop i xs)) (tt {0}) ≡ whole → whole ≡ Ok (tt {0})
faults_done F none xs i whole le flow_state = sym flow_state ∙ ap (λ z. stopped (F z) (tt {0})) (drop_all i xs le) ∙ ap (λ z. stopped z (tt {0})) none
