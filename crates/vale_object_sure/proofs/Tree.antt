-- The code of a typed tree that keeps the rules of types and of ownership is sure: by induction on the tree.
use Rattle.std.proofs.Common.{◌≡◌, ℕ, ◌+◌, ◌≤◌, Bool, true, false, ◌&&◌, ◌||◌, List, [], ◌∷◌, ◌++◌, length, refl, sym, ap, ◌∙◌, subst, arith}
use Rattle.std.proofs.lemmas.Bool.{and_parts}
use Rattle.vale_base.specs.declared.spot.Spot.{Spot}
use Rattle.vale_syntax.specs.declared.tree.BinaryOp.{BinaryOp}
use Rattle.vale_syntax.specs.declared.tree.BinaryOp.TheVariants as op
use Rattle.vale_syntax.specs.declared.tree.NameAt.{NameAt}
use Rattle.vale_syntax.specs.declared.tree.UnaryOp.TheVariants as unary_op
use Rattle.vale_text.specs.Operations.{is_int}
use Rattle.vale_rules_spec.specs.Judged.{own}
use Rattle.vale_rules_spec.specs.Owned.{still, add_branch, agree as branches_agree, link_rules, loop_rules, expr_flow, node_flow, exprs_flow, links_flow, step_flow, steps_flow, form_flow, elses_flow, block_flow, body_flow, stmts_flow, stmt_flow}
use Rattle.vale_rules_spec.specs.Returns.{block_returns}
use Rattle.vale_rules_spec.specs.Types.{Ty, int, bool, array, is_void, is_owned, View, Local as TypedLocal}
use Rattle.vale_rules_spec.specs.Types as y
use Rattle.vale_rules_spec.specs.Typed.{Expr, expr, Node, set, chain, unary, steps, number, quote, truth, name, call, paren, iso, form, Function, Exprs, no_exprs, more_exprs, link, Links, no_links, more_links, Step, field, method, index, Steps, no_steps, more_steps, Form, branch, pure, parallel_range, parallel_each, else_if, Elses, no_else, otherwise, more_elses, Block, block, Stmt, declare, destructure, return_nothing, return_value, while, foreach, form_stmt, express, Stmts, no_stmts, last, more_stmts, type, types, step_seen}
use Rattle.vale_rules_spec.specs.Typed as tree
use Rattle.vale_rules_spec.specs.Typing.{Env, with_local, with_locals}
use Rattle.vale_rules_spec.specs.Whole.{Locals, declared, all_declared, is_whole, are_alike}
use Rattle.vale_model.specs.Expressions.{expr_spot, numbers_of}
use Rattle.vale_model.specs.Parts.{Parts, field_place}
use Rattle.vale_code.specs.Parts.{Parts as Code}
use Rattle.vale_code.specs.declared.instr.Instr.{Instr}
use Rattle.vale_code.specs.declared.instr.Instr.TheVariants as i
use Rattle.vale_lowering.specs.Instructions.{unary_code, registers_from, operator, and_code, only_if}
use Rattle.vale_lowering.specs.Texts.{is_lawful_text}
use Rattle.vale_lowering.specs.Scopes.{number_of_text}
use Rattle.vale_lowering_objects.specs.Changes.{step_changes}
use Rattle.vale_lowering_objects.specs.Lowered.{all_gives, locals_after, link_after, step_view, stays_of, free_register, expr_after, node_after, start_after, step_after, args_after, elses_after, block_after, stmts_after, stmt_after, Origin, reference, hand, drop_entry, drop_value, drop_scope, gives_list, first_type, truth_number, locals_code, make_code, callee_code, link_code, load_element, swap_element, lend_local, move_out, store, count_code, sides, if_comes, then_code, expr_code, node_code, borrow_code, start_code, step_code, steps_code, place_code, targets_code, swap_code, args_code, links_code, form_code, elses_code, block_code, stmts_code, stmt_code}
use Rattle.vale_lowering_objects.specs.Scopes.{Gives, copy, owner, gives_of, is_value, is_owner, agree, Scope, entry, waiting, find, Gone, without, After, comes, never, met, may_meet, closes, Around}
use Rattle.vale_lowering_objects.specs.Scopes as sort
use Rattle.vale_object_facts.specs.Stands.{lent}
use Rattle.vale_object_facts.specs.Suits.{Sure, IsLocal, refers, expr_suits, node_suits, lent_suits, start_suits, step_suits, steps_suit, place_suits, targets_suit, set_suits, exprs_suit, links_suit, form_suits, elses_suit, block_suits, stmts_suit, stmt_suits}
use Rattle.vale_object_sure.proofs.Callees.{agree_same, gives_types, operands, op_copied, operator_sure, AllCallable, callee_sure, make_sure}
use Rattle.vale_object_sure.proofs.Entries.{IsThere, look_up, owner_is, value_is, Stands, stands_on, stands_wait, stands_push}
use Rattle.vale_object_sure.proofs.Flow.{none_in, rule_holds, expr_goes, node_goes, start_goes, step_goes, elses_go, block_goes, stmts_go, stmt_goes, link_goes, leaves_block, leaves_pop, Plain, free_above}
use Rattle.vale_object_sure.proofs.Marks.{has_operator, are_values, are_locals, expr_marks, node_marks, place_marks, exprs_mark, links_mark, step_marks, steps_mark, form_marks, elses_mark, block_marks, stmts_mark, stmt_marks}
use Rattle.vale_object_sure.proofs.Never.{IsNever, block_never}
use Rattle.vale_object_sure.proofs.Shapes.{sure_both, sure_if, then_sure, last_sure, comes_sure, kept_sure, sides_sure, and_sure, turns_sure, count_sure, hand_sure, drop_value_sure, drop_sure, drops_sure, move_sure, lend_sure, from_sure, load_field_sure, load_element_sure, swap_field_sure, swap_element_sure, exchange_sure, store_sure}
use Rattle.vale_object_sure.proofs.Ties.{rows, Kept, Fell, Goes, both_true, went_kept, fell_twice, goes_fell, gone_after, falls_up}
use Rattle.vale_object_sure.proofs.Values.{copied, owns}
use Rattle.vale_object_sure.proofs.Ways.{agree_less, sides_meet, still_closes, still_goes}

-- ---- tests

-- the body of a loop comes back with nothing moved
closes_by : (s : Scope) (g : Gone) (ls ms : Locals) (returns : Bool) (o : After) → (returns ≡ true → IsNever o) → Kept (rows s) g ls → Goes (rows s) g ls o ms → (returns || are_alike ls ms) ≡ true → closes s g o ≡ true
closes_by s g ls ms true (comes g') r k j e = absurd (r refl)
closes_by s g ls ms true (never g') r k j e = refl
closes_by s g ls ms false o r k j e = still_closes s g ls ms o k j e

truth_sure : (h : ℕ) (b : Bool) → Sure (i.Truth h (truth_number b) ∷ [])
truth_sure h true = refl
truth_sure h false = refl

-- a name as a value
moved_is : (used owned : Bool) → true ≡ (used && owned) → owned ≡ true
moved_is true owned e = sym e
moved_is false owned e = absurd (cc)

used_stays : (used : Bool) (x : Ty) (q : Gives) → is_void x ≡ false → false ≡ (used && is_owned x) → q ≡ gives_of x → (used ≡ false → q ≡ copy) → q ≡ copy
used_stays true x q v e same f = same ∙ copied x v (sym e)
used_stays false x q v e same f = f refl

-- steps give a copied value
used_steps : (used : Bool) (x : Ty) (q : Gives) → (used ≡ true → gives_of x ≡ copy) → q ≡ gives_of x → (used ≡ false → q ≡ copy) → q ≡ copy
used_steps true x q m same f = same ∙ m refl
used_steps false x q m same f = f refl

refers_copy : (x : Ty) (v : View) → refers x v → gives_of x ≡ copy
refers_copy x (y.shared z) e = ap gives_of e
refers_copy x (y.frozen z) e = ap gives_of e
refers_copy x y.blind e = absurd e
refers_copy x (y.direct z) e = absurd e

copy_value : (q : Gives) → q ≡ copy → is_value q ≡ true
copy_value q e = ap is_value e

module _ (p : Parts) (c : Code) (functions : List Function) (out : Gives) (calls : AllCallable p c functions) where
  abbrev pub around : Around
  around = record { parts = p; texts = c.texts; functions = functions; gives = out }

  abbrev St : Env → ℕ → Scope → Gone → Locals → Type 0
  St env h s g ls = Stands out env h s g ls

  -- a local that is named
  there_is : (env : Env) (n : NameAt) (x : Ty) (h : ℕ) (s : Scope) (g : Gone) (ls : Locals) → St env h s g ls → (l : IsLocal env n x) → IsThere n.name.0 s g ls l.is
  there_is env n x h s g ls st l = look_up n.name.0 s g ls env.scope l.is st.named st.kept l.found

  links_copied : (env : Env) (t x : Ty) (xs : Links) → gives_of t ≡ copy → links_suit p c functions env t x xs → gives_of x ≡ copy
  links_copied env t x no_links e s = ap gives_of s ∙ e
  links_copied env t x (more_links (link z at o v) xs) e s = links_copied env z.value x xs (ap gives_of s.1 ∙ op_copied o t e) s.3

  first_copied : (env : Env) (t x : Ty) (xs : Links) → has_operator xs → links_suit p c functions env t x xs → gives_of t ≡ copy
  first_copied env t x no_links m s = absurd m
  first_copied env t x (more_links (link z at o v) xs) m s = (operands o t (type v) s.0).0

  -- an operator and its operand
  link_sure : (o : BinaryOp) (x : Ty) (at : Spot) (place h : ℕ) (s : Scope) (g : Gone) (us ms : Locals) (operand : ℕ → ℕ → Gone → List Instr) (f : ℕ → Gone → After) → Kept (rows s) g us → ((k : ℕ) → h ≤ k → Goes (rows s) g us (f k g) ms) → own at (link_rules o us ms) ≡ []
      → ((q k : ℕ) → h ≤ k → Sure (operand q k g)) → Sure (link_code o x at operand f place h s g)
  link_sure op.Or x at place h s g us ms operand f k go rules sure =
      sure_if (closes s g (f h g)) h (sides place h (comes g) (λ place. []) (λ place. operand place h g)) (still_closes s g us ms (f h g) k (go h (omega arith)) (rule_holds at 31 (are_alike us ms) rules))
      (sides_sure place h (comes g) (λ place. []) (λ place. operand place h g) (λ q. refl) (λ q. sure q h (omega arith)))
  link_sure op.And x at place h s g us ms operand f k go rules sure =
      sure_if (closes s g (f h g)) h (and_code place h (λ place. operand place h g)) (still_closes s g us ms (f h g) k (go h (omega arith)) (rule_holds at 31 (are_alike us ms) rules)) (and_sure place h (λ place. operand place h g) (λ q. sure q h (omega arith)))
  link_sure o x at place h s g us ms operand f k go rules sure =
      last_sure place (h + 2) (operand place (h + 1) g) (f (h + 1) g) (λ place g. operator o x at h ∷ []) (sure place (h + 1) (omega arith)) (λ q g'. operator_sure o x at h tt)

  -- several locals, and what runs in their scope
  locals_sure : (ns : List NameAt) (xs : List Ty) (end : Spot) (place : ℕ) (env : Env) (h : ℕ) (s : Scope) (g : Gone) (ls : Locals) (f : ℕ → Scope → Gone → After) (rest : ℕ → ℕ → Scope → Gone → List Instr) → are_locals ns xs → St env h s g ls
      → ((q h : ℕ) (s : Scope) (g : Gone) → St (with_locals ns xs env) h s g (all_declared ns ls) → Sure (rest q h s g)) → Sure (locals_code (numbers_of ns) (all_gives xs) end place h s g f rest)
  locals_sure [] [] end place env h s g ls f rest a st go = go place h s g st
  locals_sure [] (x ∷ xs) end place env h s g ls f rest a st go = absurd a
  locals_sure (n ∷ ns) [] end place env h s g ls f rest a st go = absurd a
  locals_sure (n ∷ ns) (x ∷ xs) end place env h s g ls f rest a st go =
      let inner = entry n.name.0 h (gives_of x) ∷ s in
      sure_if (is_value (gives_of x)) h _ (value_is x a.0)
      (comes_sure place (locals_code (numbers_of ns) (all_gives xs) end place (h + 1) inner (without h g) f rest) (locals_after (numbers_of ns) (all_gives xs) (h + 1) inner (without h g) f) (λ place g. drop_entry (entry n.name.0 h (gives_of x)) g end)
      (locals_sure ns xs end place (with_local n x env) (h + 1) inner (without h g) (declared n ls) f rest a.1 (stands_push out env h s g ls st n x a.0) go) (λ q g'. drop_sure (entry n.name.0 h (gives_of x)) g' end))

  -- ---- by induction on the tree

  mutual
    pub expr_sure : (e : Expr) (env : Env) (h : ℕ) (s : Scope) (g : Gone) (ls : Locals) (place : ℕ) → St env h s g ls → expr_marks true e → expr_suits p c functions env e → (expr_flow e ls).faults ≡ [] → Sure (expr_code around e place h s g)
    expr_sure (expr x node) env h s g ls place st m u f = node_sure node true x.value (gives_of x.value) env h s g ls place st refl (λ e. absurd (cc)) m u f

    node_sure : (node : Node) (used : Bool) (x : Ty) (q : Gives) (env : Env) (h : ℕ) (s : Scope) (g : Gone) (ls : Locals) (place : ℕ) → St env h s g ls → q ≡ gives_of x → (used ≡ false → q ≡ copy) → node_marks used x node → node_suits p c functions env x node → (node_flow node ls).faults ≡ []
        → Sure (node_code around x q node place h s g)
    node_sure (number at n) used x q env h s g ls place st same free m u f =
        sure_if (agree q copy && is_int n) h (i.Int h n ∷ []) (both_true (agree q copy) (is_int n) (agree_same q copy (same ∙ ap gives_of u)) m) refl
    node_sure (quote at text) used x q env h s g ls place st same free m u f =
        sure_if (agree q copy && is_lawful_text text) h (i.Text h (number_of_text text c.texts) ∷ []) (both_true (agree q copy) (is_lawful_text text) (agree_same q copy (same ∙ ap gives_of u.0)) m) refl
    node_sure (truth at b) used x q env h s g ls place st same free m u f = sure_if (agree q copy) h (i.Truth h (truth_number b) ∷ []) (agree_same q copy (same ∙ ap gives_of u)) (truth_sure h b)
    node_sure (name n is_outer true) used x q env h s g ls place st same free m u f =
        let there = there_is env n x h s g ls st u in
        let owned = moved_is used (is_owned x) m in
        sure_if (agree q owner) h (move_out (find n.name.0 s) g h) (agree_same q owner (same ∙ owns x owned))
        (move_sure (find n.name.0 s) there.is g h there.found (there.owned ∙ ap is_owned u.typed ∙ owned) (there.there (rule_holds n.at 30 (is_whole n.name.0 ls) f)))
    node_sure (name n is_outer false) used x q env h s g ls place st same free m u f =
        let there = there_is env n x h s g ls st u in
        let value : is_void x ≡ false = sym (ap is_void u.typed) ∙ there.value in
        sure_if (agree q copy) h (lend_local (find n.name.0 s) g (y.frozen x) h) (agree_same q copy (used_stays used x q value m same free))
        (lend_sure (find n.name.0 s) there.is g (y.frozen x) h there.found (there.there (rule_holds n.at 30 (is_whole n.name.0 ls) f)))
    node_sure (paren at e) used x q env h s g ls place st same free m u f =
        sure_if (agree q (gives_of (type e))) h (expr_code around e place h s g) (agree_same q (gives_of (type e)) (same ∙ ap gives_of u.0)) (expr_sure e env h s g ls place st m u.1 f)
    node_sure (chain e xs) used x q env h s g ls place st same free m u f =
        let us = (expr_flow e ls).after in
        let parts = none_in (expr_flow e ls).faults (links_flow xs us).faults f in
        let first = first_copied env (type e) x xs m.0 u.1 in
        sure_if (is_value (gives_of (type e)) && agree q copy) h _ (both_true (is_value (gives_of (type e))) (agree q copy) (copy_value (gives_of (type e)) first) (agree_same q copy (same ∙ links_copied env (type e) x xs first u.1)))
        (then_sure (rows s) g ls us place (h + 1) (expr_code around e place h s g) (expr_after e h s g) (λ place g. links_code around xs place h s g) (expr_sure e env h s g ls place st m.1 u.0 parts.0) (expr_goes e true h s g ls m.1 st.falls st.kept parts.0)
        (λ r g' k. links_sure xs env (type e) x h s g' us r (stands_on out env h s g ls st h g' us (omega arith) k) m.2 u.1 parts.1))
    node_sure (unary at unary_op.Minus e) used x q env h s g ls place st same free m u f =
        sure_if (is_value (gives_of (type e)) && agree q copy) h _ (both_true (is_value (gives_of (type e))) (agree q copy) (copy_value (gives_of (type e)) (ap gives_of u.0)) (agree_same q copy (same ∙ ap gives_of u.1)))
        (last_sure place (h + 1) (expr_code around e place h s g) (expr_after e h s g) (λ place g. unary_code unary_op.Minus at h) (expr_sure e env h s g ls place st m u.2 f) (λ r g'. refl))
    node_sure (unary at unary_op.Not e) used x q env h s g ls place st same free m u f =
        sure_if (is_value (gives_of (type e)) && agree q copy) h _ (both_true (is_value (gives_of (type e))) (agree q copy) (copy_value (gives_of (type e)) (ap gives_of u.0)) (agree_same q copy (same ∙ ap gives_of u.1)))
        (last_sure place (h + 1) (expr_code around e place h s g) (expr_after e h s g) (λ place g. unary_code unary_op.Not at h) (expr_sure e env h s g ls place st m u.2 f) (λ r g'. refl))
    node_sure (unary at unary_op.Borrow e) used x q env h s g ls place st same free m u f =
        sure_if (agree q copy) h (borrow_code around e place h s g) (agree_same q copy (same ∙ m.0)) (borrow_sure e x env h s g ls place st m.0 m.1 u f)
    node_sure (unary at unary_op.Merge e) used x q env h s g ls place st same free m u f = absurd m
    node_sure (set at pl e) used x q env h s g ls place st same free m u f =
        let us = (expr_flow e ls).after in
        let parts = none_in (expr_flow pl us).faults (expr_flow e ls).faults f in
        sure_if (is_value (gives_of (type e)) && agree q (gives_of (type e))) h _ (both_true (is_value (gives_of (type e))) (agree q (gives_of (type e))) (value_is (type e) m.1) (agree_same q (gives_of (type e)) (same ∙ ap gives_of u.1)))
        (then_sure (rows s) g ls us place (h + 1) (expr_code around e place h s g) (expr_after e h s g) (λ place g. place_code around pl (gives_of (type e)) place h s g) (expr_sure e env h s g ls place st m.2 u.2 parts.1)
        (expr_goes e true h s g ls m.2 st.falls st.kept parts.1) (λ r g' k. place_sure pl env (type e) h s g' us r (stands_on out env h s g ls st h g' us (omega arith) k) m.0 m.1 u.0 parts.0))
    node_sure (call n callee es) used x q env h s g ls place st same free m u f =
        last_sure place (h + length (gives_list es)) (args_code around es place h s g) (args_after es h s g) (λ place g. callee_code around q n callee (first_type es) (gives_list es) h) (args_sure es env h s g ls place st m.0 m.3 u.1 f)
        (λ r g'. subst (λ z. Sure (callee_code around z n callee (first_type es) (gives_list es) h)) (sym same)
        (subst (λ l. Sure (callee_code around (gives_of x) n callee (first_type es) l h)) (sym (gives_types es)) (callee_sure p c functions around refl refl calls n callee (first_type es) (types es) x h u.0 m.2 m.1)))
    node_sure (tree.array at z es) used x q env h s g ls place st same free m u f =
        last_sure place (h + length (gives_list es)) (args_code around es place h s g) (args_after es h s g) (λ place g. make_code p q x (gives_list es) h) (args_sure es env h s g ls place st m.0 m.2 u.3 f)
        (λ r g'. subst (λ l. Sure (make_code p q x l h)) (sym (gives_types es)) (make_sure p c functions q x (types es) h (same ∙ ap gives_of u.0) m.1))
    node_sure (form v) used x q env h s g ls place st same free m u f = form_sure v env x q h s g ls place st same m u f
    node_sure (steps e no_steps) used x q env h s g ls place st same free m u f = absurd m
    node_sure (steps e (more_steps z zs)) used x q env h s g ls place st same free m u f =
        let us = (expr_flow e ls).after in
        let vs = (step_flow z us).after in
        let parts = none_in (expr_flow e ls).faults ((step_flow z us).faults ++ (steps_flow zs vs).faults) f in
        let more = none_in (step_flow z us).faults (steps_flow zs vs).faults parts.1 in
        sure_if (agree q copy) h _ (agree_same q copy (used_steps used x q m.0 same free))
        (then_sure (rows s) g ls vs place (h + 1) (start_code around e (step_view z) (λ n. step_changes n z) place h s g (λ o place k g. step_code around o z place h k s g)) (start_after e (step_view z) (λ n. step_changes n z) h s g (λ k g. step_after z k s g)) (λ place g. steps_code around zs place h s g)
        (start_sure e (step_view z) (λ n. step_changes n z) env h s g ls place (λ o place k g. step_code around o z place h k s g) st m.1 u.0 parts.0 (λ o r k g' le kept. step_sure z o env h k s g' us r (stands_on out env h s g ls st k g' us le kept) m.2 u.1 more.0))
        (start_goes e (step_view z) (λ n. step_changes n z) h s g ls (λ k g. step_after z k s g) vs m.1 st.falls st.kept parts.0 (λ k g' le kept. step_goes z k s g' us m.2 (falls_up (rows s) h k le st.falls) kept more.0))
        (λ r g' k. steps_sure zs env (lent (step_seen z)) h s g' vs r (stands_on out env h s g ls st h g' vs (omega arith) k) m.3 u.2 more.1))
    node_sure (iso at b) used x q env h s g ls place st same free m u f = absurd m

    borrow_sure : (e : Expr) (x : Ty) (env : Env) (h : ℕ) (s : Scope) (g : Gone) (ls : Locals) (place : ℕ) → St env h s g ls → gives_of x ≡ copy → expr_marks false e → lent_suits p c functions env x e → (expr_flow e ls).faults ≡ [] → Sure (borrow_code around e place h s g)
    borrow_sure (expr z (name n is_outer false)) x env h s g ls place st free m u f =
        let there = there_is env n u.0 h s g ls st u.1 in
        lend_sure (find n.name.0 s) there.is g z.view h there.found (there.there (rule_holds n.at 30 (is_whole n.name.0 ls) f))
    borrow_sure (expr z (steps e no_steps)) x env h s g ls place st free m u f = absurd m
    borrow_sure (expr z (steps e (more_steps w ws))) x env h s g ls place st free m u f = node_sure (steps e (more_steps w ws)) false x copy env h s g ls place st (sym free) (λ e. refl) (λ e. absurd (cc), m.1, m.2, m.3) u f
    borrow_sure (expr z node) x env h s g ls place st free m u f = absurd u

    start_sure : (e : Expr) (v : View) (changes : ℕ → Bool) (env : Env) (h : ℕ) (s : Scope) (g : Gone) (ls : Locals) (place : ℕ) (rest : Origin → ℕ → ℕ → Gone → List Instr) → St env h s g ls → expr_marks false e → start_suits p c functions env v e → (expr_flow e ls).faults ≡ []
        → ((o : Origin) (q k : ℕ) (g' : Gone) → h ≤ k → Kept (rows s) g' (expr_flow e ls).after → Sure (rest o q k g')) → Sure (start_code around e v changes place h s g rest)
    start_sure (expr z (name n is_outer false)) v changes env h s g ls place rest st m u f go =
        let there = there_is env n u.0 h s g ls st u.1 in
        let stays = stays_of (find n.name.0 s) v (changes n.name.0) in
        from_sure (find n.name.0 s) there.is stays v place h g rest there.found (there.there (rule_holds n.at 30 (is_whole n.name.0 ls) f)) (λ r q. go r q (free_register stays h) g (free_above stays h) st.kept)
    start_sure (expr z node) v changes env h s g ls place rest st m u f go =
        let free = refers_copy z.value v u.0 in
        sure_if (agree copy (gives_of z.value)) h _ (agree_same copy (gives_of z.value) (sym free))
        (then_sure (rows s) g ls (node_flow node ls).after place (h + 1) (node_code around z.value copy node place h s g) (node_after node h s g) (λ place g. rest (reference h) place (h + 1) g) (node_sure node false z.value copy env h s g ls place st (sym free) (λ e. refl) m u.1 f)
        (node_goes node false z.value h s g ls m st.falls st.kept f) (λ q g' k. go (reference h) q (h + 1) g' (omega arith) k))

    step_sure : (x : Step) (o : Origin) (env : Env) (h k : ℕ) (s : Scope) (g : Gone) (ls : Locals) (place : ℕ) → St env k s g ls → step_marks x → step_suits p c functions env x → (step_flow x ls).faults ≡ [] → Sure (step_code around o x place h k s g)
    step_sure (field x view may_be_set at n) o env h k s g ls place st m u f = load_field_sure o (field_place p view n.0) u.1.place at h u.1.found
    step_sure (method x view at n es) o env h k s g ls place st m u f = absurd m
    step_sure (index x view at e) o env h k s g ls place st m u f =
        sure_if (agree copy (gives_of (type e))) h _ (agree_same copy (gives_of (type e)) (sym (ap gives_of u.3)))
        (last_sure place (k + 1) (expr_code around e place k s g) (expr_after e k s g) (λ place g. load_element o k at h) (expr_sure e env k s g ls place st m u.4 f) (λ r g'. load_element_sure o k at h))

    steps_sure : (xs : Steps) (env : Env) (t : Ty) (h : ℕ) (s : Scope) (g : Gone) (ls : Locals) (place : ℕ) → St env h s g ls → steps_mark xs → steps_suit p c functions env t xs → (steps_flow xs ls).faults ≡ [] → Sure (steps_code around xs place h s g)
    steps_sure no_steps env t h s g ls place st m u f = refl
    steps_sure (more_steps x xs) env t h s g ls place st m u f =
        let us = (step_flow x ls).after in
        let parts = none_in (step_flow x ls).faults (steps_flow xs us).faults f in
        then_sure (rows s) g ls us place (h + 1) (step_code around (reference h) x place h (h + 1) s g) (step_after x (h + 1) s g) (λ place g. steps_code around xs place h s g)
        (step_sure x (reference h) env h (h + 1) s g ls place (stands_on out env h s g ls st (h + 1) g ls (omega arith) st.kept) m.0 u.1 parts.0) (step_goes x (h + 1) s g ls m.0 (falls_up (rows s) h (h + 1) (omega arith) st.falls) st.kept parts.0)
        (λ r g' k. steps_sure xs env (lent (step_seen x)) h s g' us r (stands_on out env h s g ls st h g' us (omega arith) k) m.1 u.2 parts.1)

    place_sure : (pl : Expr) (env : Env) (t : Ty) (h : ℕ) (s : Scope) (g : Gone) (ls : Locals) (place : ℕ) → St env h s g ls → place_marks pl → is_void t ≡ false → place_suits p c functions env t pl → (expr_flow pl ls).faults ≡ [] → Sure (place_code around pl (gives_of t) place h s g)
    place_sure (expr z (name n is_outer moved)) env t h s g ls place st m value u f =
        let there = there_is env n t h s g ls st u in
        exchange_sure (find n.name.0 s) there.is g (gives_of t) h there.found (there.owned ∙ ap is_owned u.typed ∙ sym (owner_is t value)) (there.there (rule_holds n.at 30 (is_whole n.name.0 ls) f)) (value_is t value)
    place_sure (expr z (steps e no_steps)) env t h s g ls place st m value u f = absurd m
    place_sure (expr z (steps e (more_steps w no_steps))) env t h s g ls place st m value u f =
        let q = gives_of t in
        let us = (expr_flow e ls).after in
        let parts = none_in (expr_flow e ls).faults ((step_flow w us).faults ++ []) f in
        let one = none_in (step_flow w us).faults [] parts.1 in
        let inner = stands_wait out env h s g ls st q in
        start_sure e (step_view w) (λ n. step_changes n w) env (h + 1) (waiting h q ∷ s) (without h g) ls place (λ o place k g. swap_code around o w place h k (waiting h q ∷ s) g) inner m.0 u.0 parts.0
        (λ o r k g' le kept. swap_sure w o env t h k (waiting h q ∷ s) g' us r (stands_on out env (h + 1) (waiting h q ∷ s) (without h g) ls inner k g' us le kept) m.1 u.1 one.0)
    place_sure (expr z (steps e (more_steps w (more_steps v vs)))) env t h s g ls place st m value u f =
        let q = gives_of t in
        let scope = waiting h q ∷ s in
        let us = (expr_flow e ls).after in
        let ws = (step_flow w us).after in
        let parts = none_in (expr_flow e ls).faults ((step_flow w us).faults ++ (steps_flow (more_steps v vs) ws).faults) f in
        let more = none_in (step_flow w us).faults (steps_flow (more_steps v vs) ws).faults parts.1 in
        let inner = stands_wait out env h s g ls st q in
        then_sure (rows scope) (without h g) ls ws place (h + 2) (start_code around e (step_view w) (λ n. step_changes n w) place (h + 1) scope (without h g) (λ o place k g. step_code around o w place (h + 1) k scope g))
        (start_after e (step_view w) (λ n. step_changes n w) (h + 1) scope (without h g) (λ k g. step_after w k scope g)) (λ place g. targets_code around (more_steps v vs) place h (h + 1) scope g)
        (start_sure e (step_view w) (λ n. step_changes n w) env (h + 1) scope (without h g) ls place (λ o place k g. step_code around o w place (h + 1) k scope g) inner m.0 u.0 parts.0
        (λ o r k g' le kept. step_sure w o env (h + 1) k scope g' us r (stands_on out env (h + 1) scope (without h g) ls inner k g' us le kept) m.1 u.1 more.0))
        (start_goes e (step_view w) (λ n. step_changes n w) (h + 1) scope (without h g) ls (λ k g. step_after w k scope g) ws m.0 inner.falls inner.kept parts.0 (λ k g' le kept. step_goes w k scope g' us m.1 (falls_up (rows scope) (h + 1) k le inner.falls) kept more.0))
        (λ r g' k. targets_sure (more_steps v vs) env t (lent (step_seen w)) h (h + 1) scope g' ws r (stands_on out env (h + 1) scope (without h g) ls inner (h + 1) g' ws (omega arith) k) m.2 u.2 more.1)
    place_sure (expr z node) env t h s g ls place st m value u f = absurd m

    targets_sure : (xs : Steps) (env : Env) (t w : Ty) (new h : ℕ) (s : Scope) (g : Gone) (ls : Locals) (place : ℕ) → St env h s g ls → steps_mark xs → targets_suit p c functions env t w xs → (steps_flow xs ls).faults ≡ [] → Sure (targets_code around xs place new h s g)
    targets_sure no_steps env t w new h s g ls place st m u f = absurd u
    targets_sure (more_steps x no_steps) env t w new h s g ls place st m u f =
        let parts = none_in (step_flow x ls).faults [] f in
        swap_sure x (reference h) env t new (h + 1) s g ls place (stands_on out env h s g ls st (h + 1) g ls (omega arith) st.kept) m.0 u.1 parts.0
    targets_sure (more_steps x (more_steps v vs)) env t w new h s g ls place st m u f =
        let us = (step_flow x ls).after in
        let parts = none_in (step_flow x ls).faults (steps_flow (more_steps v vs) us).faults f in
        then_sure (rows s) g ls us place (h + 1) (step_code around (reference h) x place h (h + 1) s g) (step_after x (h + 1) s g) (λ place g. targets_code around (more_steps v vs) place new h s g)
        (step_sure x (reference h) env h (h + 1) s g ls place (stands_on out env h s g ls st (h + 1) g ls (omega arith) st.kept) m.0 u.1 parts.0) (step_goes x (h + 1) s g ls m.0 (falls_up (rows s) h (h + 1) (omega arith) st.falls) st.kept parts.0)
        (λ r g' k. targets_sure (more_steps v vs) env t (lent (step_seen x)) new h s g' us r (stands_on out env h s g ls st h g' us (omega arith) k) m.1 u.2 parts.1)

    swap_sure : (x : Step) (o : Origin) (env : Env) (t : Ty) (new k : ℕ) (s : Scope) (g : Gone) (ls : Locals) (place : ℕ) → St env k s g ls → step_marks x → set_suits p c functions env t x → (step_flow x ls).faults ≡ [] → Sure (swap_code around o x place new k s g)
    swap_sure (field x view may_be_set at n) o env t new k s g ls place st m u f = swap_field_sure o (field_place p view n.0) u.1.place at new u.1.found
    swap_sure (method x view at n es) o env t new k s g ls place st m u f = absurd m
    swap_sure (index x view at e) o env t new k s g ls place st m u f =
        sure_if (agree copy (gives_of (type e))) new _ (agree_same copy (gives_of (type e)) (sym (ap gives_of u.2)))
        (last_sure place (k + 1) (expr_code around e place k s g) (expr_after e k s g) (λ place g. swap_element o k at new) (expr_sure e env k s g ls place st m u.3 f) (λ r g'. swap_element_sure o k at new))

    args_sure : (es : Exprs) (env : Env) (h : ℕ) (s : Scope) (g : Gone) (ls : Locals) (place : ℕ) → St env h s g ls → are_values (types es) → exprs_mark es → exprs_suit p c functions env es → (exprs_flow es ls).faults ≡ [] → Sure (args_code around es place h s g)
    args_sure no_exprs env h s g ls place st v m u f = refl
    args_sure (more_exprs e es) env h s g ls place st v m u f =
        let us = (expr_flow e ls).after in
        let q = gives_of (type e) in
        let parts = none_in (expr_flow e ls).faults (exprs_flow es us).faults f in
        sure_if (is_value q) h _ (value_is (type e) v.0)
        (then_sure (rows s) g ls us place (h + 1) (expr_code around e place h s g) (expr_after e h s g) (λ place g. args_code around es place (h + 1) (waiting h q ∷ s) (without h g)) (expr_sure e env h s g ls place st m.0 u.0 parts.0)
        (expr_goes e true h s g ls m.0 st.falls st.kept parts.0)
        (λ r g' k. args_sure es env (h + 1) (waiting h q ∷ s) (without h g') us r (stands_wait out env h s g' us (stands_on out env h s g ls st h g' us (omega arith) k) q) v.1 m.1 u.1 parts.1))

    links_sure : (xs : Links) (env : Env) (t x : Ty) (h : ℕ) (s : Scope) (g : Gone) (ls : Locals) (place : ℕ) → St env h s g ls → links_mark xs → links_suit p c functions env t x xs → (links_flow xs ls).faults ≡ [] → Sure (links_code around xs place h s g)
    links_sure no_links env t x h s g ls place st m u f = refl
    links_sure (more_links (link z at o e) xs) env t x h s g ls place st m u f =
        let us = (expr_flow e ls).after in
        let parts = none_in ((expr_flow e ls).faults ++ own at (link_rules o ls us)) (links_flow xs us).faults f in
        let one = none_in (expr_flow e ls).faults (own at (link_rules o ls us)) parts.0 in
        sure_if (agree copy (gives_of (type e))) h _ (agree_same copy (gives_of (type e)) (sym (operands o t (type e) u.0).1))
        (then_sure (rows s) g ls us place (h + 1) (link_code o z.value at (λ place h g. expr_code around e place h s g) (λ h g. expr_after e h s g) place h s g) (link_after o (λ h g. expr_after e h s g) h g) (λ place g. links_code around xs place h s g)
        (link_sure o z.value at place h s g ls us (λ place h g. expr_code around e place h s g) (λ h g. expr_after e h s g) st.kept (λ k le. expr_goes e true k s g ls m.0 (falls_up (rows s) h k le st.falls) st.kept one.0) one.1
        (λ r k le. expr_sure e env k s g ls r (stands_on out env h s g ls st k g ls le st.kept) m.0 u.2 one.0))
        (link_goes o (rows s) h at g ls us (λ h g. expr_after e h s g) st.kept (λ k le. expr_goes e true k s g ls m.0 (falls_up (rows s) h k le st.falls) st.kept one.0) one.1)
        (λ r g' k. links_sure xs env z.value x h s g' us r (stands_on out env h s g ls st h g' us (omega arith) k) m.1 u.3 parts.1))

    form_sure : (v : Form) (env : Env) (x : Ty) (q : Gives) (h : ℕ) (s : Scope) (g : Gone) (ls : Locals) (place : ℕ) → St env h s g ls → q ≡ gives_of x → form_marks v → form_suits p c functions env x v → (form_flow v ls).faults ≡ [] → Sure (form_code around x q v place h s g)
    form_sure (branch at w b es) env x q h s g ls place st same m u f =
        let us = (expr_flow w ls).after in
        let ms = (block_flow b us).after in
        let ws = (elses_flow es us).branches in
        let returns = block_returns b in
        let one = none_in (expr_flow w ls).faults ((block_flow b us).faults ++ ((elses_flow es us).faults ++ own at ((31, branches_agree (add_branch returns ms ws)) ∷ []))) f in
        let two = none_in (block_flow b us).faults ((elses_flow es us).faults ++ own at ((31, branches_agree (add_branch returns ms ws)) ∷ [])) one.1 in
        let three = none_in (elses_flow es us).faults (own at ((31, branches_agree (add_branch returns ms ws)) ∷ [])) two.1 in
        let alike = rule_holds at 31 (branches_agree (add_branch returns ms ws)) three.1 in
        let goes = expr_goes w true h s g ls m.0 st.falls st.kept one.0 in
        let since = goes_fell (rows s) g ls us (expr_after w h s g) goes in
        let z = gone_after (expr_after w h s g) in
        sure_if (is_value (gives_of (type w))) h _ (copy_value (gives_of (type w)) (ap gives_of u.0))
        (then_sure (rows s) g ls us place (h + 1) (expr_code around w place h s g) (expr_after w h s g)
        (λ place now. only_if (may_meet s (block_after b (h + 1) s now) (elses_after es g h s now)) h (sides place h (block_after b (h + 1) s now) (λ place. block_code around q b place h (h + 1) s now) (λ place. elses_code around q es g place h s now)))
        (expr_sure w env h s g ls place st m.0 u.1 one.0) goes
        (λ r now k.
        sure_if (may_meet s (block_after b (h + 1) s now) (elses_after es g h s now)) h _
        (sides_meet s now g ls us ms returns ws (block_after b (h + 1) s now) (elses_after es g h s now) (λ e. block_never b (h + 1) s now e) (block_goes b (h + 1) s now us m.1 (falls_up (rows s) h (h + 1) (omega arith) st.falls) k two.0)
        (elses_go es g ls z h s now us m.2 st.falls st.kept since k three.0 (agree_less returns ms ws alike)) alike)
        (sides_sure r h (block_after b (h + 1) s now) (λ place. block_code around q b place h (h + 1) s now) (λ place. elses_code around q es g place h s now)
        (λ r. block_sure b env x q h (h + 1) s now us r (stands_on out env h s g ls st (h + 1) now us (omega arith) k) same m.1 u.2 two.0)
        (λ r. elses_sure es env x q g ls z h s now us r (stands_on out env h s g ls st h now us (omega arith) k) st.kept since same m.2 u.3 three.0 (agree_less returns ms ws alike)))))
    form_sure (pure at b) env x q h s g ls place st same m u f = absurd m
    form_sure (parallel_range at n a e b) env x q h s g ls place st same m u f = absurd m
    form_sure (parallel_each at n e b) env x q h s g ls place st same m u f = absurd m

    elses_sure : (es : Elses) (env : Env) (x : Ty) (q : Gives) (gone : Gone) (before : Locals) (z : Gone) (h : ℕ) (s : Scope) (g : Gone) (ls : Locals) (place : ℕ) → St env h s g ls → Kept (rows s) gone before → Fell (rows s) before z ls → q ≡ gives_of x → elses_mark es → elses_suit p c functions env x es
        → (elses_flow es ls).faults ≡ [] → branches_agree (elses_flow es ls).branches ≡ true → Sure (elses_code around q es gone place h s g)
    elses_sure no_else env x q gone before z h s g ls place st kept fell same m u f a = sure_if (agree q sort.void) h [] (agree_same q sort.void (same ∙ ap gives_of u)) refl
    elses_sure (otherwise b) env x q gone before z h s g ls place st kept fell same m u f a = block_sure b env x q h (h + 1) s g ls place (stands_on out env h s g ls st (h + 1) g ls (omega arith) st.kept) same m u f
    elses_sure (more_elses (else_if at w b) es) env x q gone before z h s g ls place st kept fell same m u f a =
        let us = (expr_flow w ls).after in
        let ms = (block_flow b us).after in
        let ws = (elses_flow es us).branches in
        let returns = block_returns b in
        let one = none_in (expr_flow w ls).faults ((block_flow b us).faults ++ (elses_flow es us).faults) f in
        let two = none_in (block_flow b us).faults (elses_flow es us).faults one.1 in
        let goes = expr_goes w true h s g ls m.0 st.falls st.kept one.0 in
        let y = gone_after (expr_after w h s g) in
        let since = fell_twice (rows s) z y before ls us fell (goes_fell (rows s) g ls us (expr_after w h s g) goes) in
        sure_if (is_value (gives_of (type w))) h _ (copy_value (gives_of (type w)) (ap gives_of u.0))
        (then_sure (rows s) g ls us place (h + 1) (expr_code around w place h s g) (expr_after w h s g)
        (λ place g. only_if (may_meet s (block_after b (h + 1) s g) (elses_after es gone h s g)) h (sides place h (block_after b (h + 1) s g) (λ place. block_code around q b place h (h + 1) s g) (λ place. elses_code around q es gone place h s g)))
        (expr_sure w env h s g ls place st m.0 u.1 one.0) goes
        (λ r now k.
        sure_if (may_meet s (block_after b (h + 1) s now) (elses_after es gone h s now)) h _
        (sides_meet s now gone before us ms returns ws (block_after b (h + 1) s now) (elses_after es gone h s now) (λ e. block_never b (h + 1) s now e) (block_goes b (h + 1) s now us m.1 (falls_up (rows s) h (h + 1) (omega arith) st.falls) k two.0)
        (elses_go es gone before y h s now us m.2 st.falls kept since k two.1 (agree_less returns ms ws a)) a)
        (sides_sure r h (block_after b (h + 1) s now) (λ place. block_code around q b place h (h + 1) s now) (λ place. elses_code around q es gone place h s now)
        (λ r. block_sure b env x q h (h + 1) s now us r (stands_on out env h s g ls st (h + 1) now us (omega arith) k) same m.1 u.2 two.0)
        (λ r. elses_sure es env x q gone before y h s now us r (stands_on out env h s g ls st h now us (omega arith) k) kept since same m.2 u.3 two.1 (agree_less returns ms ws a)))))

    block_sure : (b : Block) (env : Env) (x : Ty) (q : Gives) (to h : ℕ) (s : Scope) (g : Gone) (ls : Locals) (place : ℕ) → St env h s g ls → q ≡ gives_of x → block_marks b → block_suits p c functions env x b → (block_flow b ls).faults ≡ [] → Sure (block_code around q b place to h s g)
    block_sure (block at end z ss) env x q to h s g ls place st same m u f = stmts_sure ss end env x q to h s g ls place st same m u.1 f

    pub stmts_sure : (ss : Stmts) (end : Spot) (env : Env) (x : Ty) (q : Gives) (to h : ℕ) (s : Scope) (g : Gone) (ls : Locals) (place : ℕ) → St env h s g ls → q ≡ gives_of x → stmts_mark ss → stmts_suit p c functions env x ss → (stmts_flow ss ls).faults ≡ [] → Sure (stmts_code around q end ss place to h s g)
    stmts_sure no_stmts end env x q to h s g ls place st same m u f = sure_if (agree q sort.void) h [] (agree_same q sort.void (same ∙ ap gives_of u)) refl
    stmts_sure (last e) end env x q to h s g ls place st same m u f =
        sure_if (agree q (gives_of (type e))) h _ (agree_same q (gives_of (type e)) (same ∙ ap gives_of (sym u.0)))
        (comes_sure place (expr_code around e place h s g) (expr_after e h s g) (λ place g. hand q to h) (expr_sure e env h s g ls place st m u.1 f) (λ r g'. hand_sure q to h))
    stmts_sure (more_stmts (declare n x' e) ss) end env x q to h s g ls place st same m u f =
        let us = (expr_flow e ls).after in
        let parts = none_in (expr_flow e ls).faults (stmts_flow ss (declared n us)).faults f in
        let value : is_void x' ≡ false = ap is_void u.0.0 ∙ m.0.0 in
        let inner = entry n.name.0 h (gives_of x') ∷ s in
        sure_if (is_value (gives_of (type e)) && is_value (gives_of x')) h _ (both_true (is_value (gives_of (type e))) (is_value (gives_of x')) (value_is (type e) m.0.0) (value_is x' value))
        (then_sure (rows s) g ls us place (h + 1) (expr_code around e place h s g) (expr_after e h s g)
        (λ place g. if_comes place (stmts_code around q end ss place to (h + 1) inner (without h g)) (stmts_after ss (h + 1) inner (without h g)) (λ place g. drop_entry (entry n.name.0 h (gives_of x')) g end))
        (expr_sure e env h s g ls place st m.0.1 u.0.1 parts.0) (expr_goes e true h s g ls m.0.1 st.falls st.kept parts.0)
        (λ r g' k.
        comes_sure r (stmts_code around q end ss r to (h + 1) inner (without h g')) (stmts_after ss (h + 1) inner (without h g')) (λ place g. drop_entry (entry n.name.0 h (gives_of x')) g end)
        (stmts_sure ss end (with_local n x' env) x q to (h + 1) inner (without h g') (declared n us) r (stands_push out env h s g' us (stands_on out env h s g ls st h g' us (omega arith) k) n x' value) same m.1 u.1 parts.1) (λ r g'. drop_sure (entry n.name.0 h (gives_of x')) g' end)))
    stmts_sure (more_stmts (destructure at ns xs e) ss) end env x q to h s g ls place st same m u f =
        let us = (expr_flow e ls).after in
        let parts = none_in (expr_flow e ls).faults (stmts_flow ss (all_declared ns us)).faults f in
        sure_if (is_value (gives_of (type e))) h _ (ap (λ z. is_value (gives_of z)) u.0.0.1)
        (then_sure (rows s) g ls us place (h + 1) (expr_code around e place h s g) (expr_after e h s g)
        (λ place g. i.Open (registers_from h (length (numbers_of ns))) h ∷ locals_code (numbers_of ns) (all_gives xs) end (place + 1) h s g (λ h s g. stmts_after ss h s g) (λ place h s g. stmts_code around q end ss place to h s g))
        (expr_sure e env h s g ls place st m.0.1 u.0.1 parts.0) (expr_goes e true h s g ls m.0.1 st.falls st.kept parts.0)
        (λ r g' k.
        locals_sure ns xs end (r + 1) env h s g' us (λ h s g. stmts_after ss h s g) (λ place h s g. stmts_code around q end ss place to h s g) m.0.0 (stands_on out env h s g ls st h g' us (omega arith) k)
        (λ r h s g' st. stmts_sure ss end (with_locals ns xs env) x q to h s g' (all_declared ns us) r st same m.1 u.1 parts.1)))
    stmts_sure (more_stmts x' ss) end env x q to h s g ls place st same m u f =
        let us = (stmt_flow x' ls).after in
        let parts = none_in (stmt_flow x' ls).faults (stmts_flow ss us).faults f in
        then_sure (rows s) g ls us place h (stmt_code around x' place h s g) (stmt_after x' h s g) (λ place g. stmts_code around q end ss place to h s g) (stmt_sure x' env h s g ls place tt st m.0 u.0 parts.0) (stmt_goes x' h s g ls tt m.0 st.falls st.kept parts.0)
        (λ r g' k. stmts_sure ss end env x q to h s g' us r (stands_on out env h s g ls st h g' us (omega arith) k) same m.1 u.1 parts.1)

    stmt_sure : (x : Stmt) (env : Env) (h : ℕ) (s : Scope) (g : Gone) (ls : Locals) (place : ℕ) → Plain x → St env h s g ls → stmt_marks x → stmt_suits p c functions env x → (stmt_flow x ls).faults ≡ [] → Sure (stmt_code around x place h s g)
    stmt_sure (declare n x e) env h s g ls place d st m u f = absurd d
    stmt_sure (destructure at ns xs e) env h s g ls place d st m u f = absurd d
    stmt_sure (return_nothing at) env h s g ls place d st m u f =
        sure_if (agree out sort.void) h (drop_scope s g at ++ (i.RetVoid ∷ [])) (agree_same out sort.void (st.gives ∙ ap gives_of u)) (sure_both (drop_scope s g at) (i.RetVoid ∷ []) (drops_sure s g at) refl)
    stmt_sure (return_value at e) env h s g ls place d st m u f =
        sure_if (is_value (gives_of (type e)) && agree out (gives_of (type e))) h _ (both_true (is_value (gives_of (type e))) (agree out (gives_of (type e))) (value_is (type e) m.0) (agree_same out (gives_of (type e)) (st.gives ∙ ap gives_of (sym u.0))))
        (comes_sure place (expr_code around e place h s g) (expr_after e h s g) (λ place g. drop_scope s g at ++ (i.Ret h ∷ [])) (expr_sure e env h s g ls place st m.1 u.1 f) (λ r g'. sure_both (drop_scope s g' at) (i.Ret h ∷ []) (drops_sure s g' at) refl))
    stmt_sure (form_stmt v) env h s g ls place d st m u f = form_sure v env y.void sort.void h s g ls place st refl m u f
    stmt_sure (while at w b) env h s g ls place d st m u f =
        let us = (expr_flow w ls).after in
        let ms = (block_flow b us).after in
        let a = expr_after w h s g in
        let o = block_after b (h + 1) s g in
        let one = none_in (expr_flow w ls).faults ((block_flow b us).faults ++ own at (loop_rules ls (expr_flow w ls) (block_returns b) (block_flow b us))) f in
        let two = none_in (block_flow b us).faults (own at (loop_rules ls (expr_flow w ls) (block_returns b) (block_flow b us))) one.1 in
        let alike = and_parts (are_alike ls us) (block_returns b || are_alike us ms) (rule_holds at 32 (are_alike ls us && (block_returns b || are_alike us ms)) two.1) in
        let goes = expr_goes w true h s g ls m.0 st.falls st.kept one.0 in
        let kept = went_kept (rows s) g g ls us (still_goes (rows s) g (gone_after a) ls us st.kept (goes_fell (rows s) g ls us a goes) alike.0) in
        let more = falls_up (rows s) h (h + 1) (omega arith) st.falls in
        sure_if (is_value (gives_of (type w)) && (closes s g a && closes s g o)) h _
        (both_true (is_value (gives_of (type w))) (closes s g a && closes s g o) (copy_value (gives_of (type w)) (ap gives_of u.0))
        (both_true (closes s g a) (closes s g o) (still_closes s g ls us a st.kept goes alike.0) (closes_by s g us ms (block_returns b) o (λ e. block_never b (h + 1) s g e) kept (block_goes b (h + 1) s g us m.1 more kept two.0) alike.1)))
        (turns_sure place h a (λ place. expr_code around w place h s g) (λ place. block_code around sort.void b place h (h + 1) s g) (λ r. expr_sure w env h s g ls r st m.0 u.1 one.0)
        (λ r. block_sure b env y.void sort.void h (h + 1) s g us r (stands_on out env h s g ls st (h + 1) g us (omega arith) kept) refl m.1 u.2 two.0))
    stmt_sure (foreach at n a e (block start end t ss)) env h s g ls place d st m u f =
        let b = block start end t ss in
        let us = (expr_flow a ls).after in
        let vs = (expr_flow e us).after in
        let ms = (body_flow n b vs).after in
        let returns = block_returns b in
        let inner = entry n.name.0 (h + 2) copy ∷ s in
        let one = none_in ((expr_flow a ls).faults ++ (expr_flow e us).faults) ([] ++ ((body_flow n b vs).faults ++ own at (loop_rules vs (still vs) returns (body_flow n b vs)))) f in
        let two = none_in (expr_flow a ls).faults (expr_flow e us).faults one.0 in
        let three = none_in (body_flow n b vs).faults (own at (loop_rules vs (still vs) returns (body_flow n b vs))) one.1 in
        let alike = and_parts (are_alike vs vs) (returns || are_alike vs ms) (rule_holds at 32 (are_alike vs vs && (returns || are_alike vs ms)) three.1) in
        sure_if (is_value (gives_of (type a)) && is_value (gives_of (type e))) h _ (both_true (is_value (gives_of (type a))) (is_value (gives_of (type e))) (copy_value (gives_of (type a)) (ap gives_of u.0)) (copy_value (gives_of (type e)) (ap gives_of u.1)))
        (then_sure (rows s) g ls us place (h + 1) (expr_code around a place h s g) (expr_after a h s g)
        (λ place g. then_code place (h + 2) (expr_code around e place (h + 1) s g) (expr_after e (h + 1) s g) (λ place g.
        only_if (closes s g (block_after b (h + 2 + 1) inner (without (h + 2) g))) h (count_code place h at (block_after b (h + 2 + 1) inner (without (h + 2) g)) (λ place. block_code around sort.void b place h (h + 2 + 1) inner (without (h + 2) g)))))
        (expr_sure a env h s g ls place st m.0 u.2 two.0) (expr_goes a true h s g ls m.0 st.falls st.kept two.0)
        (λ r g1 k1.
        let st1 = stands_on out env h s g ls st (h + 1) g1 us (omega arith) k1 in
        then_sure (rows s) g1 us vs r (h + 2) (expr_code around e r (h + 1) s g1) (expr_after e (h + 1) s g1)
        (λ place g. only_if (closes s g (block_after b (h + 2 + 1) inner (without (h + 2) g))) h (count_code place h at (block_after b (h + 2 + 1) inner (without (h + 2) g)) (λ place. block_code around sort.void b place h (h + 2 + 1) inner (without (h + 2) g))))
        (expr_sure e env (h + 1) s g1 us r st1 m.1 u.3 two.1) (expr_goes e true (h + 1) s g1 us m.1 st1.falls st1.kept two.1)
        (λ r g2 k2.
        let st2 = stands_on out env h s g ls st (h + 2) g2 vs (omega arith) k2 in
        let st3 = stands_push out env (h + 2) s g2 vs st2 n int refl in
        let o = block_after b (h + 2 + 1) inner (without (h + 2) g2) in
        let leaves = leaves_pop (rows s) (h + 2) n.name.0 false g2 (record { name = n.name.0; whole = true }) vs (stmts_flow ss (declared n vs)).after o st2.falls (stmts_go ss (h + 2 + 1) inner (without (h + 2) g2) (declared n vs) m.2 st3.falls st3.kept three.0) in
        sure_if (closes s g2 o) h _ (closes_by s g2 vs ms returns o (λ e. block_never b (h + 2 + 1) inner (without (h + 2) g2) e) k2 (leaves_block (rows s) g2 vs (stmts_flow ss (declared n vs)).after o leaves) alike.1)
        (count_sure r h at o (λ place. block_code around sort.void b place h (h + 2 + 1) inner (without (h + 2) g2)) (λ r. stmts_sure ss end (with_local n int env) y.void sort.void h (h + 2 + 1) inner (without (h + 2) g2) (declared n vs) r st3 refl m.2 u.4.1 three.0)))))
    stmt_sure (express (expr x (set at (expr z (name n is_outer moved)) e))) env h s g ls place d st m u f =
        let us = (expr_flow e ls).after in
        let q = gives_of (type e) in
        let parts = none_in (own n.at ((30, is_whole n.name.0 us) ∷ [])) (expr_flow e ls).faults f in
        sure_if (is_value q && agree (gives_of x.value) q) h _ (both_true (is_value q) (agree (gives_of x.value) q) (value_is (type e) m.1) (agree_same (gives_of x.value) q (ap gives_of u.1)))
        (kept_sure (rows s) g ls us place (expr_code around e place h s g) (expr_after e h s g) (λ place g. store (find n.name.0 s) g q h at) (expr_sure e env h s g ls place st m.2 u.2 parts.1) (expr_goes e true h s g ls m.2 st.falls st.kept parts.1)
        (λ r g' k.
        let there = there_is env n (type e) h s g' us (stands_on out env h s g ls st h g' us (omega arith) k) u.0 in
        store_sure (find n.name.0 s) there.is g' q h at there.found (there.owned ∙ ap is_owned u.0.typed ∙ sym (owner_is (type e) m.1)) (there.there (rule_holds n.at 30 (is_whole n.name.0 us) parts.0)) (value_is (type e) m.1)))
    stmt_sure (express e) env h s g ls place d st m u f =
        comes_sure place (expr_code around e place h s g) (expr_after e h s g) (λ place g. drop_value (gives_of (type e)) h (expr_spot e)) (expr_sure e env h s g ls place st m u f) (λ r g'. drop_value_sure (gives_of (type e)) h (expr_spot e))
