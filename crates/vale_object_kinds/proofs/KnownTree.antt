-- What the phase of types accepts has known types alone: by induction on the tree.
use Rattle.std.proofs.Common.{◌≡◌, ℕ, Bool, true, false, List, [], ◌∷◌, ◌++◌, Option, None, refl}
use Rattle.std.specs.Option.{option_and_then, option_map_or}
use Rattle.vale_syntax.specs.declared.position.Position.TheVariants.{Element}
use Rattle.vale_syntax.specs.Tree.{Expr, set, chain, unary, steps, number, quote, truth, name, call, paren, array, iso, form, Exprs, no_exprs, more_exprs, Link, link, Links, no_links, more_links, Step, field, method, index, Steps, no_steps, more_steps, Form, branch, pure, parallel_range, parallel_each, ElseIf, else_if, Elses, no_else, otherwise, more_elses, Block, block, Stmt, declare, destructure, return_nothing, return_value, while, foreach, form_stmt, express, Stmts, no_stmts, last, more_stmts, Item}
use Rattle.vale_rules_spec.specs.DeclFaults.{Body, in_expr, in_exprs, in_link, in_links, in_step, in_steps, in_form as in_form_body, in_else_if as in_else_if_body, in_elses, in_block as in_block_body, in_stmts, in_stmt}
use Rattle.vale_rules_spec.specs.Judged.{both as both_judged, node, plain, scoped, Judged, fine, faulty}
use Rattle.vale_rules_spec.specs.Types.{Ty, void, int, bool, str, is_owner, type_of, View, blind, direct, shared, frozen, seen_object, Seen, a_value, value_view, view_here, as_frozen, as_shared, part_seen, object_of, Local, local_of, local_seen, fields_of, field_named, methods_of, method_named, function_named, may_be_isolated, is_copy}
use Rattle.vale_rules_spec.specs.Types as y
use Rattle.vale_rules_spec.specs.Typed as t
use Rattle.vale_rules_spec.specs.Typed.{chain_seen, steps_seen, stmts_type, may_be_set, condition_types, block_types, has_else}
use Rattle.vale_rules_spec.specs.TypeRules.{link_gives, link_rules, unary_gives, unary_rules, built_in_among, built_ins, called, callee, called_rules, called_gives, field_types, kind_in_view, elements_seen, fields_seen, methods_seen, part_of, method_gives, set_gives, set_rules, parallel_gives, isolate_in, struct_fields, name_rules, array_rules, iso_rules, method_rules, field_rules, index_rules, branch_rules, bounds_rules, consumed_rules, void_rules, declare_rules, destructure_rules, return_nothing_rules, return_value_rules, condition_rules}
use Rattle.vale_rules_spec.specs.Takes.{is_value_under}
use Rattle.vale_rules_spec.specs.Typing.{Env, with_local, deeper, after, new_name, new_names, named, name_in, index_view, is_used, form_spot, isolate_of, type_in, is_settable, expr, exprs, operand, links, step, steps_from, in_form, in_else_if, elses, in_block, void_block, stmts, stmt}
use Rattle.vale_object_kinds.proofs.Holds.{Holds, Pair, holds_leaf, holds_node, holds_plain, holds_both, holds_scoped, holds_over}
use Rattle.vale_object_kinds.proofs.Known.{Arrays, no_arrays, both_arrays, arrays_known}
use Rattle.vale_object_kinds.proofs.KnownParts.{none_in, written_known, KnownSeen, KnownScope, KnownExpr, KnownExprs, KnownLink, KnownLinks, KnownStep, KnownSteps, KnownForm, KnownElseIf, KnownElses, KnownBlock, KnownStmts, KnownStmt, Facts, value_known, part_of_known, object_seen, array_known, named_known, after_known, link_known, unary_known, called_known, parallel_known, isolate_known, iso_known, place_known, field_known, method_known, given_known, taken_known}

abbrev Clean : Body → Type 0
Clean body = body.faults ≡ []

module _ (names : List (List ℕ)) (items : List Item) (facts : Facts items) where
  abbrev E : t.Expr → Type 0
  E = KnownExpr items

  abbrev B : t.Block → Type 0
  B = KnownBlock items

  -- nothing is asked of a part
  abbrev Any : {A : Type 0} → A → Type 0
  Any a = Unit {0}

  any_holds : {A : Type 0} (j : Judged A) → Holds (Any {A = A}) j
  any_holds (fine a) = tt
  any_holds (faulty f fs) = tt

  abbrev both : (xs ys : List Ty) → Arrays items xs → Arrays items ys → Arrays items (xs ++ ys)
  both xs ys f g = both_arrays items xs ys f g

  mutual
    pub expr_known : (e : Expr) (env : Env) (as_value : Bool) → KnownScope items env.scope → Clean (in_expr items e) → Holds E (expr names items env as_value e)
    expr_known (set at p e) env as_value k c =
        let parts = none_in _ _ c in
        holds_node (Pair E E) E at (λ v. set_rules items (may_be_set v.0) (t.seen v.0).place (t.type v.1)) (λ v. t.expr (a_value (set_gives (t.seen v.0).place)) (t.set at v.0 v.1))
        (both_judged (expr names items env false p) (expr names items env true e)) (holds_both E E (expr names items env false p) (expr names items env true e) (expr_known p env false k parts.0) (expr_known e env true k parts.1))
        (λ v h kept. (value_known items (set_gives (t.seen v.0).place) (place_known items (t.seen v.0).place h.0.0.2), both _ _ h.0.1 h.1.1))
    expr_known (chain e ls) env as_value k c =
        let parts = none_in _ _ c in
        holds_plain (λ v. E v.0 × KnownLinks items (t.seen v.0) v.1) E (λ v. t.expr (chain_seen (t.seen v.0) v.1) (t.chain v.0 v.1)) (scoped (expr names items env true e) (λ a. links names items env (t.seen a) ls))
        (holds_over E (λ a ls. KnownLinks items (t.seen a) ls) (expr names items env true e) (λ a. links names items env (t.seen a) ls) (expr_known e env true k parts.0) (λ a h. links_known ls env (t.seen a) k h.0 parts.1))
        (λ v h. (h.1.0, both _ _ h.0.1 h.1.1))
    expr_known (unary at op e) env as_value k c =
        holds_node E E at (λ a. unary_rules op (t.seen a)) (λ a. t.expr (a_value (unary_gives op (t.seen a))) (t.unary at op a)) (expr names items env (is_value_under op) e) (expr_known e env (is_value_under op) k c)
        (λ a h kept. (value_known items (unary_gives op (t.seen a)) (unary_known items op (t.seen a) h.0), h.1))
    expr_known (steps e ss) env as_value k c =
        let parts = none_in _ _ c in
        holds_plain (λ v. E v.0 × KnownSteps items (t.seen v.0) v.1) E (λ v. t.expr (steps_seen (t.seen v.0) v.1) (t.steps v.0 v.1)) (scoped (expr names items env false e) (λ a. steps_from names items env as_value (name_in e) (t.seen a) ss))
        (holds_over E (λ a ss. KnownSteps items (t.seen a) ss) (expr names items env false e) (λ a. steps_from names items env as_value (name_in e) (t.seen a) ss) (expr_known e env false k parts.0) (λ a h. steps_known ss env as_value (name_in e) (t.seen a) k h.0 parts.1))
        (λ v h. (h.1.0, both _ _ h.0.1 h.1.1))
    expr_known (number at n) env as_value k c = (value_known items int refl, no_arrays items)
    expr_known (quote at text) env as_value k c = (value_known items str refl, no_arrays items)
    expr_known (truth at x) env as_value k c = (value_known items bool refl, no_arrays items)
    expr_known (name n) env as_value k c =
        holds_leaf E n.at (name_rules n env.scope) (named env as_value n (local_of n.name.0 env.scope)) (λ kept. named_known items env as_value n env.scope k)
    expr_known (call n es) env as_value k c =
        holds_node (KnownExprs items) E n.at (λ v. called_rules items (called names items n) (t.types v))
        (λ v. t.expr (a_value (called_gives n (called names items n) (t.types v))) (t.call n (callee (called names items n)) v)) (exprs names items env es) (exprs_known es env k c)
        (λ v h kept. (value_known items (called_gives n (called names items n) (t.types v)) (called_known items n (built_in_among built_ins names n) (fields_of items n.name.0) (function_named items n.name.0) (t.types v) (facts.fields n.name.0) (facts.functions n.name.0) h.0), h.1))
    expr_known (paren at e) env as_value k c =
        holds_plain E E (λ a. t.expr (a_value (t.type a)) (t.paren at a)) (expr names items env true e) (expr_known e env true k c) (λ a h. (value_known items (t.type a) h.0.0, h.1))
    expr_known (array at x es) env as_value k c =
        let parts = none_in _ _ c in
        let element = written_known items Element x parts.0 in
        holds_node (KnownExprs items) E at (λ v. array_rules items (type_of x) (t.types v)) (λ v. t.expr (a_value (y.array (type_of x))) (t.array at (type_of x) v)) (exprs names items env es) (exprs_known es env k parts.1)
        (λ v h kept. (value_known items (y.array (type_of x)) element, both _ _ h.1 (arrays_known items (y.array (type_of x)) element)))
    expr_known (iso at b) env as_value k c =
        holds_node B E at (λ v. iso_rules items (t.block_type v)) (λ v. t.expr (a_value (y.iso (t.block_type v))) (t.iso at v)) (in_block names items (deeper env) b) (block_known b (deeper env) k c)
        (λ v h kept. (value_known items (y.iso (t.block_type v)) (iso_known items (t.block_type v) h.0 kept), h.1))
    expr_known (form f) env as_value k c =
        holds_plain (KnownForm items) E (λ v. t.expr (a_value v.0) (t.form v.1)) (in_form names items env f) (form_known f env k c) (λ v h. (value_known items v.0 h.0, both _ _ h.1 (arrays_known items v.0 h.0)))

    exprs_known : (es : Exprs) (env : Env) → KnownScope items env.scope → Clean (in_exprs items es) → Holds (KnownExprs items) (exprs names items env es)
    exprs_known no_exprs env k c = (tt, no_arrays items)
    exprs_known (more_exprs e es) env k c =
        let parts = none_in _ _ c in
        holds_plain (Pair E (KnownExprs items)) (KnownExprs items) (λ v. t.more_exprs v.0 v.1) (both_judged (expr names items env true e) (exprs names items env es)) (holds_both E (KnownExprs items) (expr names items env true e) (exprs names items env es) (expr_known e env true k parts.0) (exprs_known es env k parts.1))
        (λ v h. ((h.0.0.0, h.1.0), both _ _ h.0.1 h.1.1))

    operand_known : (l : Link) (env : Env) (s : Seen) → KnownScope items env.scope → KnownSeen items s → Clean (in_link items l) → Holds (KnownLink items) (operand names items env s l)
    operand_known (link at op e) env s k ks c =
        holds_node E (KnownLink items) at (λ a. link_rules op s.value (t.type a)) (λ a. t.link (a_value (link_gives op s.value)) at op a) (expr names items env true e) (expr_known e env true k c)
        (λ a h kept. (value_known items (link_gives op s.value) (link_known items op s.value ks.0), h.1))

    links_known : (ls : Links) (env : Env) (s : Seen) → KnownScope items env.scope → KnownSeen items s → Clean (in_links items ls) → Holds (KnownLinks items s) (links names items env s ls)
    links_known no_links env s k ks c = (ks, no_arrays items)
    links_known (more_links l ls) env s k ks c =
        let parts = none_in _ _ c in
        holds_plain (λ v. KnownLink items v.0 × KnownLinks items (t.link_seen v.0) v.1) (KnownLinks items s) (λ v. t.more_links v.0 v.1) (scoped (operand names items env s l) (λ a. links names items env (t.link_seen a) ls))
        (holds_over (KnownLink items) (λ a ls. KnownLinks items (t.link_seen a) ls) (operand names items env s l) (λ a. links names items env (t.link_seen a) ls) (operand_known l env s k ks parts.0) (λ a h. links_known ls env (t.link_seen a) k h.0 parts.1))
        (λ v h. (h.1.0, both _ _ h.0.1 h.1.1))

    step_known : (x : Step) (env : Env) (as_value : Bool) (local : Option ℕ) (base : Seen) → KnownScope items env.scope → KnownSeen items base → Clean (in_step items x) → Holds (KnownStep items) (step names items env as_value local base x)
    step_known (field at n) env as_value local base k kb c =
        let found = option_and_then (λ fs. field_named fs n.0) (fields_seen items base.view) in
        holds_leaf (KnownStep items) at (field_rules as_value base (fields_seen items base.view) (type_in found)) (t.field (part_of base.view (type_in found)) base.view (is_settable found) at n)
        (λ kept. (part_of_known items base.view (type_in found) (field_known items facts (kind_in_view (seen_object base.view)) n.0), no_arrays items))
    step_known (method at n es) env as_value local base k kb c =
        let methods = methods_seen items base.view in
        let found = option_and_then (λ hs. method_named hs n.0) methods in
        holds_node (KnownExprs items) (KnownStep items) at (λ v. method_rules items base methods found (t.types v)) (λ v. t.method (method_gives found) base.view at n v) (exprs names items env es) (exprs_known es env k c)
        (λ v h kept. (given_known items found (method_known items facts (kind_in_view (seen_object base.view)) n.0), h.1))
    step_known (index at e) env as_value local base k kb c =
        holds_node E (KnownStep items) at (λ a. index_rules as_value base (elements_seen base.view) (t.type a)) (λ a. t.index (part_of base.view (elements_seen base.view)) (index_view local base.view e) at a) (expr names items env true e) (expr_known e env true k c)
        (λ a h kept. (part_of_known items base.view (elements_seen base.view) (array_known items (seen_object base.view) (object_seen items base.view kb.1)), h.1))

    steps_known : (ss : Steps) (env : Env) (as_value : Bool) (local : Option ℕ) (base : Seen) → KnownScope items env.scope → KnownSeen items base → Clean (in_steps items ss) → Holds (KnownSteps items base) (steps_from names items env as_value local base ss)
    steps_known no_steps env as_value local base k kb c = (kb, no_arrays items)
    steps_known (more_steps x xs) env as_value local base k kb c =
        let parts = none_in _ _ c in
        holds_plain (λ v. KnownStep items v.0 × KnownSteps items (t.step_seen v.0) v.1) (KnownSteps items base) (λ v. t.more_steps v.0 v.1) (scoped (step names items env (is_used as_value xs) local base x) (λ a. steps_from names items env as_value None (t.step_seen a) xs))
        (holds_over (KnownStep items) (λ a ss. KnownSteps items (t.step_seen a) ss) (step names items env (is_used as_value xs) local base x) (λ a. steps_from names items env as_value None (t.step_seen a) xs) (step_known x env (is_used as_value xs) local base k kb parts.0) (λ a h. steps_known xs env as_value None (t.step_seen a) k h.0 parts.1))
        (λ v h. (h.1.0, both _ _ h.0.1 h.1.1))

    form_known : (f : Form) (env : Env) → KnownScope items env.scope → Clean (in_form_body items f) → Holds (KnownForm items) (in_form names items env f)
    form_known (branch at q b es) env k c =
        let one = none_in _ _ c in
        let two = none_in _ _ one.1 in
        let sides = both_judged (in_block names items env b) (elses names items env es) in
        holds_node (Pair E (Pair B (KnownElses items))) (KnownForm items) at (λ v. branch_rules (t.type v.0 ∷ condition_types v.1.1) (t.block_type v.1.0) (block_types v.1.1) (has_else v.1.1)) (λ v. (t.block_type v.1.0, t.branch at v.0 v.1.0 v.1.1))
        (both_judged (expr names items env true q) sides)
        (holds_both E (Pair B (KnownElses items)) (expr names items env true q) sides (expr_known q env true k one.0) (holds_both B (KnownElses items) (in_block names items env b) (elses names items env es) (block_known b env k two.0) (elses_known es env k two.1)))
        (λ v h kept. (h.1.0.0, both _ _ (both _ _ h.0.1 h.1.0.1) h.1.1))
    form_known (pure at b) env k c = holds_plain B (KnownForm items) (λ v. (t.block_type v, t.pure at v)) (in_block names items (deeper env) b) (block_known b (deeper env) k c) (λ v h. h)
    form_known (parallel_range at n a e b) env k c =
        let one = none_in _ _ c in
        let two = none_in _ _ one.1 in
        let inner = with_local n int (deeper env) in
        let ends = both_judged (expr names items env true e) (in_block names items inner b) in
        let bounds = both_judged (expr names items env true a) ends in
        holds_node (Pair Any (Pair E (Pair E B))) (KnownForm items) at (λ v. bounds_rules (t.type v.1.0) (t.type v.1.1.0)) (λ v. (parallel_gives items (t.block_type v.1.1.1), t.parallel_range at n v.1.0 v.1.1.0 v.1.1.1))
        (both_judged (new_name env n) bounds)
        (holds_both Any (Pair E (Pair E B)) (new_name env n) bounds (any_holds (new_name env n)) (holds_both E (Pair E B) (expr names items env true a) ends (expr_known a env true k one.0) (holds_both E B (expr names items env true e) (in_block names items inner b) (expr_known e env true k two.0) (block_known b inner (refl, k) two.1))))
        (λ v h kept. (parallel_known items (t.block_type v.1.1.1) h.1.1.1.0, both _ _ (both _ _ h.1.0.1 h.1.1.0.1) h.1.1.1.1))
    form_known (parallel_each at n e b) env k c =
        let parts = none_in _ _ c in
        let taken = both_judged (new_name env n) (expr names items env true e) in
        let owner = node at (λ v. consumed_rules (t.type v.1)) (λ v. v.1) taken in
        let body = λ (a : t.Expr). in_block names items (with_local n (isolate_of (isolate_in (t.type a))) (deeper env)) b in
        holds_plain (Pair E B) (KnownForm items) (λ v. (parallel_gives items (t.block_type v.1), t.parallel_each at n v.0 v.1)) (scoped owner body)
        (holds_scoped E B owner body (holds_node (Pair Any E) E at (λ v. consumed_rules (t.type v.1)) (λ v. v.1) taken (holds_both Any E (new_name env n) (expr names items env true e) (any_holds (new_name env n)) (expr_known e env true k parts.0)) (λ v h kept. h.1))
        (λ a h. block_known b (with_local n (isolate_of (isolate_in (t.type a))) (deeper env)) (isolate_known items (t.type a) h.0.0, k) parts.1))
        (λ v h. (parallel_known items (t.block_type v.1) h.1.0, both _ _ h.0.1 h.1.1))

    else_if_known : (e : ElseIf) (env : Env) → KnownScope items env.scope → Clean (in_else_if_body items e) → Holds (KnownElseIf items) (in_else_if names items env e)
    else_if_known (else_if at q b) env k c =
        let parts = none_in _ _ c in
        holds_plain (Pair E B) (KnownElseIf items) (λ v. t.else_if at v.0 v.1) (both_judged (expr names items env true q) (in_block names items env b)) (holds_both E B (expr names items env true q) (in_block names items env b) (expr_known q env true k parts.0) (block_known b env k parts.1))
        (λ v h. both _ _ h.0.1 h.1.1)

    elses_known : (es : Elses) (env : Env) → KnownScope items env.scope → Clean (in_elses items es) → Holds (KnownElses items) (elses names items env es)
    elses_known no_else env k c = no_arrays items
    elses_known (otherwise b) env k c = holds_plain B (KnownElses items) (λ v. t.otherwise v) (in_block names items env b) (block_known b env k c) (λ v h. h.1)
    elses_known (more_elses e es) env k c =
        let parts = none_in _ _ c in
        holds_plain (Pair (KnownElseIf items) (KnownElses items)) (KnownElses items) (λ v. t.more_elses v.0 v.1) (both_judged (in_else_if names items env e) (elses names items env es)) (holds_both (KnownElseIf items) (KnownElses items) (in_else_if names items env e) (elses names items env es) (else_if_known e env k parts.0) (elses_known es env k parts.1))
        (λ v h. both _ _ h.0 h.1)

    block_known : (b : Block) (env : Env) → KnownScope items env.scope → Clean (in_block_body items b) → Holds B (in_block names items env b)
    block_known (block at end ss) env k c = holds_plain (KnownStmts items) B (λ v. t.block at end (stmts_type v) v) (stmts names items env ss) (stmts_known ss env k c) (λ v h. h)

    pub void_known : (b : Block) (env : Env) → KnownScope items env.scope → Clean (in_block_body items b) → Holds B (void_block names items env b)
    void_known (block at end ss) env k c =
        let whole = plain (λ v. t.block at end (stmts_type v) v) (stmts names items env ss) in
        holds_node B B at (λ v. void_rules (t.block_type v)) (λ v. v) whole (holds_plain (KnownStmts items) B (λ v. t.block at end (stmts_type v) v) (stmts names items env ss) (stmts_known ss env k c) (λ v h. h)) (λ v h kept. h)

    stmts_known : (ss : Stmts) (env : Env) → KnownScope items env.scope → Clean (in_stmts items ss) → Holds (KnownStmts items) (stmts names items env ss)
    stmts_known no_stmts env k c = (refl, no_arrays items)
    stmts_known (last e) env k c = holds_plain E (KnownStmts items) (λ v. t.last v) (expr names items env true e) (expr_known e env true k c) (λ v h. (h.0.0, h.1))
    stmts_known (more_stmts s ss) env k c =
        let parts = none_in _ _ c in
        holds_plain (Pair (KnownStmt items) (KnownStmts items)) (KnownStmts items) (λ v. t.more_stmts v.0 v.1) (scoped (stmt names items env s) (λ a. stmts names items (after a env) ss))
        (holds_scoped (KnownStmt items) (KnownStmts items) (stmt names items env s) (λ a. stmts names items (after a env) ss) (stmt_known s env k parts.0) (λ a h. stmts_known ss (after a env) (after_known items a env h.0 k) parts.1))
        (λ v h. (h.1.0, both _ _ h.0.1 h.1.1))

    stmt_known : (s : Stmt) (env : Env) → KnownScope items env.scope → Clean (in_stmt items s) → Holds (KnownStmt items) (stmt names items env s)
    stmt_known (declare n e) env k c = holds_node E (KnownStmt items) n.at (λ a. declare_rules n env.scope (t.type a)) (λ a. t.declare n (t.type a) a) (expr names items env true e) (expr_known e env true k c) (λ a h kept. (h.0.0, h.1))
    stmt_known (destructure at ns e) env k c =
        holds_node (Pair Any E) (KnownStmt items) at (λ v. destructure_rules (struct_fields items (t.type v.1)) ns) (λ v. t.destructure at ns (option_map_or field_types (struct_fields items (t.type v.1)) []) v.1)
        (both_judged (new_names env ns) (expr names items env true e)) (holds_both Any E (new_names env ns) (expr names items env true e) (any_holds (new_names env ns)) (expr_known e env true k c))
        (λ v h kept. (taken_known items facts (t.type v.1), h.1.1))
    stmt_known (return_nothing at) env k c = holds_leaf (KnownStmt items) at (return_nothing_rules env.gives) (t.return_nothing at) (λ kept. (tt, no_arrays items))
    stmt_known (return_value at e) env k c = holds_node E (KnownStmt items) at (λ a. return_value_rules items env.gives (t.type a)) (λ a. t.return_value at a) (expr names items env true e) (expr_known e env true k c) (λ a h kept. (tt, h.1))
    stmt_known (while at q b) env k c =
        let parts = none_in _ _ c in
        holds_node (Pair E B) (KnownStmt items) at (λ v. condition_rules (t.type v.0)) (λ v. t.while at v.0 v.1) (both_judged (expr names items env true q) (void_block names items env b)) (holds_both E B (expr names items env true q) (void_block names items env b) (expr_known q env true k parts.0) (void_known b env k parts.1))
        (λ v h kept. (tt, both _ _ h.0.1 h.1.1))
    stmt_known (foreach at n a e b) env k c =
        let one = none_in _ _ c in
        let two = none_in _ _ one.1 in
        let inner = with_local n int env in
        let ends = both_judged (expr names items env true e) (void_block names items inner b) in
        let bounds = both_judged (expr names items env true a) ends in
        holds_node (Pair Any (Pair E (Pair E B))) (KnownStmt items) at (λ v. bounds_rules (t.type v.1.0) (t.type v.1.1.0)) (λ v. t.foreach at n v.1.0 v.1.1.0 v.1.1.1)
        (both_judged (new_name env n) bounds)
        (holds_both Any (Pair E (Pair E B)) (new_name env n) bounds (any_holds (new_name env n)) (holds_both E (Pair E B) (expr names items env true a) ends (expr_known a env true k one.0) (holds_both E B (expr names items env true e) (void_block names items inner b) (expr_known e env true k two.0) (void_known b inner (refl, k) two.1))))
        (λ v h kept. (tt, both _ _ (both _ _ h.1.0.1 h.1.1.0.1) h.1.1.1.1))
    stmt_known (form_stmt f) env k c = holds_node (KnownForm items) (KnownStmt items) (form_spot f) (λ v. void_rules v.0) (λ v. t.form_stmt v.1) (in_form names items env f) (form_known f env k c) (λ v h kept. (tt, h.1))
    stmt_known (express e) env k c = holds_plain E (KnownStmt items) (λ v. t.express v) (expr names items env true e) (expr_known e env true k c) (λ v h. (tt, h.1))
