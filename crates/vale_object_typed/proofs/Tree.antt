-- The types of the parts of what is typed fit: by induction on the tree.
use Rattle.std.proofs.Common.{◌≡◌, ℕ, Bool, true, false, not, ◌||◌, ◌&&◌, ◌==◌, List, [], ◌∷◌, length, Option, None, is_some, refl, sym, subst}
use Rattle.std.specs.List.{list_any, list_all}
use Rattle.std.specs.Option.{option_and_then, option_map_or}
use Rattle.std.proofs.lemmas.Bool.{and_parts}
use Rattle.vale_base.specs.declared.spot.Spot.{Spot}
use Rattle.vale_syntax.specs.declared.tree.NameAt.{NameAt}
use Rattle.vale_syntax.specs.Tree.{Expr, set, chain, unary, steps, number, quote, truth, name, call, paren, array, iso, form, Exprs, no_exprs, more_exprs, Link, link, Links, no_links, more_links, Step, field, method, index, Steps, no_steps, more_steps, Form, branch, pure, parallel_range, parallel_each, ElseIf, else_if, Elses, no_else, otherwise, more_elses, Block, block, Stmt, declare, destructure, return_nothing, return_value, while, foreach, form_stmt, express, Stmts, no_stmts, last, more_stmts, Item}
use Rattle.vale_rules_spec.specs.Judged.{Judged, fine, faulty, broken, both, node, plain as plain_node, scoped}
use Rattle.vale_rules_spec.specs.Types.{Ty, void, int, bool, str, same, is_void, type_of, Seen, a_value, local_of, is_visible, fits}
use Rattle.vale_rules_spec.specs.Types as y
use Rattle.vale_rules_spec.specs.Typed as t
use Rattle.vale_rules_spec.specs.TypeRules.{is_bool, is_int, name_rules, declare_rules, takes_operands, link_rules, link_gives, unary_rules, unary_gives, called, callee, called_rules, called_gives, method_rules, methods_seen, fields_seen, elements_seen, field_rules, index_rules, part_of, array_rules, set_rules, set_gives, iso_rules, branch_rules, bounds_rules, void_rules, condition_rules, consumed_rules, isolate_in, method_gives, return_nothing_rules, return_value_rules, parallel_gives, struct_fields, field_types, destructure_rules}
use Rattle.vale_rules_spec.specs.Takes.{is_value_under}
use Rattle.vale_rules_spec.specs.Typing.{Env, with_local, after, deeper, named, name_in, index_view, is_used, form_spot, isolate_of, type_in, is_settable, expr, exprs, operand, links, step, steps_from, in_form, in_else_if, elses, in_block, void_block, stmts, stmt, new_name, new_names}
use Rattle.vale_model.specs.Parts.{Parts}
use Rattle.vale_code.specs.Parts.{Parts as Code}
use Rattle.vale_object_facts.specs.Suits.{expr_suits, exprs_suit, links_suit, form_suits, elses_suit, block_suits, stmts_suit, stmt_suits}
use Rattle.vale_object_typed.specs.Covered.{types_are_covered, expr_is_covered, node_is_covered, exprs_are_covered, links_are_covered, form_is_covered, elses_are_covered, block_is_covered, stmts_are_covered, stmt_is_covered}
use Rattle.vale_object_typed.specs.Fit.{is_impl_item}
use Rattle.vale_object_typed.specs.Tables.{HasTables}
use Rattle.vale_object_kinds.proofs.Holds.{Holds, Pair, holds_leaf, holds_node, holds_plain, holds_both, holds_over}
use Rattle.vale_object_typed.proofs.Nodes.{type_covered, name_meets, set_meets, unary_meets, callee_meets, all_alike, opened_meets, keeps_by, first_by}
use Rattle.vale_object_typed.proofs.Shapes.{Suited, suits_value}
use Rattle.vale_object_typed.proofs.Steps.{StepFits, StepsFit, field_fits, index_fits, no_more, more_fit}
use Rattle.vale_object_typed.proofs.Types.{same_is, void_is, rule_kept, one_rule, fits_same}

module _ (names : List (List ℕ)) (items : List Item) (plain : list_any is_impl_item items ≡ false) (p : Parts) (c : Code) (functions : List t.Function) (tables : HasTables names items p c functions) where
  -- ---- what is shown of the parts

  abbrev Meets : Env → Bool → t.Expr → Type 0
  Meets env as_value x = expr_is_covered p.kinds c.texts x → Suited p c functions env as_value x

  abbrev Suits : Env → t.Expr → Type 0
  Suits env x = expr_suits p c functions env x

  abbrev ExprsMeet : Env → t.Exprs → Type 0
  ExprsMeet env v = exprs_are_covered p.kinds c.texts v → exprs_suit p c functions env v × types_are_covered p.kinds c.texts (t.types v)

  -- an operator stands there
  abbrev Operates : t.Links → Type 0
  Operates t.no_links = ⊥
  Operates (t.more_links l ls) = Unit {0}

  -- the value of operators is no place
  valued : (s : Seen) (ls : t.Links) → s ≡ a_value s.value → (Operates ls → t.chain_seen s ls ≡ a_value (t.chain_seen s ls).value) → t.chain_seen s ls ≡ a_value (t.chain_seen s ls).value
  valued s t.no_links e f = e
  valued s (t.more_links l ls) e f = f tt

  abbrev LinksMeet : Env → Seen → t.Links → Type 0
  LinksMeet env s v = links_are_covered p.kinds c.texts v → links_suit p c functions env s.value (t.chain_seen s v).value v × (Operates v → t.chain_seen s v ≡ a_value (t.chain_seen s v).value)

  abbrev LinkMeets : Env → Seen → t.Link → Type 0
  LinkMeets env s l = (ls : t.Links) → LinksMeet env (t.link_seen l) ls → links_are_covered p.kinds c.texts (t.more_links l ls) → links_suit p c functions env s.value (t.chain_seen (t.link_seen l) ls).value (t.more_links l ls) × (t.chain_seen (t.link_seen l) ls ≡ a_value (t.chain_seen (t.link_seen l) ls).value)

  abbrev FormMeets : Env → Ty × t.Form → Type 0
  FormMeets env v = form_is_covered p.kinds c.texts v.1 → form_suits p c functions env v.0 v.1

  -- all blocks have this type, and without an `else` it is void
  abbrev ElsesMeet : Env → t.Elses → Type 0
  ElsesMeet env v = elses_are_covered p.kinds c.texts v → (x : Ty) → list_all is_bool (t.condition_types v) ≡ true → list_all (same x) (t.block_types v) ≡ true → (t.has_else v || is_void x) ≡ true → elses_suit p c functions env x v

  abbrev ElseIfMeets : Env → t.ElseIf → Type 0
  ElseIfMeets env e = (es : t.Elses) → ElsesMeet env es → ElsesMeet env (t.more_elses e es)

  abbrev BlockMeets : Env → t.Block → Type 0
  BlockMeets env b = block_is_covered p.kinds c.texts b → block_suits p c functions env (t.block_type b) b

  abbrev VoidMeets : Env → t.Block → Type 0
  VoidMeets env b = block_is_covered p.kinds c.texts b → block_suits p c functions env void b

  abbrev StmtsMeet : Env → t.Stmts → Type 0
  StmtsMeet env v = stmts_are_covered p.kinds c.texts v → stmts_suit p c functions env (t.stmts_type v) v

  abbrev StmtMeets : Env → t.Stmt → Type 0
  StmtMeets env s = stmt_is_covered p.kinds c.texts s → stmt_suits p c functions env s

  -- what follows the first step
  abbrev FirstMeets : Env → Bool → t.Expr → t.Steps → Type 0
  FirstMeets env as_value a v = node_is_covered p.kinds c.texts (t.steps a v) → Suited p c functions env as_value (t.expr (t.steps_seen (t.seen a) v) (t.steps a v))

  abbrev Fits : Env → Bool → Seen → t.Step → Type 0
  Fits env used base x = StepFits names items p c functions tables env used base.view x

  abbrev AllFit : Env → Bool → Steps → Seen → t.Steps → Type 0
  AllFit env as_value ss base v = StepsFit names items p c functions tables env as_value ss base v

  -- nothing is asked of a part
  abbrev Any : {A : Type 0} → A → Type 0
  Any a = Unit {0}

  any_holds : {A : Type 0} (j : Judged A) → Holds (Any {A = A}) j
  any_holds (fine a) = tt
  any_holds (faulty f fs) = tt

  -- ---- single nodes

  value : (env : Env) (a : t.Expr) → Meets env true a → expr_is_covered p.kinds c.texts a → Suits env a
  value env a h cov = suits_value p c functions env a (h cov)

  else_if_meets : (env : Env) (at : Spot) (q : t.Expr) (b : t.Block) → Meets env true q → BlockMeets env b → ElseIfMeets env (t.else_if at q b)
  else_if_meets env at q b meets meets_block es rest cov x bools alike ends =
      let bs = and_parts (is_bool (t.type q)) (list_all is_bool (t.condition_types es)) bools in
      let ss = and_parts (same x (t.block_type b)) (list_all (same x) (t.block_types es)) alike in (
        same_is (t.type q) bool bs.0,
        value env q meets cov.0,
        subst (λ z. block_suits p c functions env z b) (sym (same_is x (t.block_type b) ss.0)) (meets_block cov.1),
        rest cov.2 x bs.1 ss.1 ends,
      )

  branch_meets : (env : Env) (at : Spot) (q : t.Expr) (b : t.Block) (es : t.Elses) → Meets env true q → BlockMeets env b → ElsesMeet env es
      → broken (branch_rules (t.type q ∷ t.condition_types es) (t.block_type b) (t.block_types es) (t.has_else es)) ≡ None → FormMeets env (t.block_type b, t.branch at q b es)
  branch_meets env at q b es meets meets_block rest kept cov =
      let x = t.block_type b in
      let bools = list_all is_bool (t.type q ∷ t.condition_types es) in
      let alike = list_all (same x) (t.block_types es) in
      let ends = t.has_else es || is_void x in
      let r = and_parts (bools && alike) ends (one_rule 20 (bools && alike && ends) kept) in
      let s = and_parts bools alike r.0 in
      let bs = and_parts (is_bool (t.type q)) (list_all is_bool (t.condition_types es)) s.0 in
      (same_is (t.type q) bool bs.0, value env q meets cov.0, meets_block cov.1, rest cov.2 x bs.1 s.1 r.1)

  call_meets : (env : Env) (as_value : Bool) (n : NameAt) (v : t.Exprs) → ExprsMeet env v → broken (called_rules items (called names items n) (t.types v)) ≡ None
      → Meets env as_value (t.expr (a_value (called_gives n (called names items n) (t.types v))) (t.call n (callee (called names items n)) v))
  call_meets env as_value n v h kept cov =
      let args = h cov.1.1 in
      ((callee_meets names items plain p c functions tables n (called names items n) refl (t.types v) args.1 cov.1.0 kept, args.0), refl, λ used. refl)

  array_meets : (env : Env) (as_value : Bool) (at : Spot) (z : Ty) (v : t.Exprs) → ExprsMeet env v → broken (array_rules items z (t.types v)) ≡ None → Meets env as_value (t.expr (a_value (y.array z)) (t.array at z v))
  array_meets env as_value at z v h kept cov =
      let args = h cov.1 in (
        (refl, all_alike names items plain p c functions tables z (t.types v) args.1 (one_rule 20 (list_all (λ a. fits items a z) (t.types v)) kept), record { object = refl; cell = tables.elements z cov.0.0 }, args.0),
        refl,
        λ used. refl,
      )

  chain_meets : (env : Env) (as_value : Bool) (a : t.Expr) (v : t.Links) → Meets env true a → LinksMeet env (t.seen a) v → Meets env as_value (t.expr (t.chain_seen (t.seen a) v) (t.chain a v))
  chain_meets env as_value a t.no_links h g cov = absurd cov.1.1
  chain_meets env as_value a (t.more_links l ls) h g cov = let all = g cov.1.2 in ((value env a h cov.1.0, all.0), all.1 tt, λ used. refl)

  -- ---- by induction on the tree

  mutual
    expr_meets : (e : Expr) (env : Env) (as_value : Bool) → Holds (Meets env as_value) (expr names items env as_value e)
    expr_meets (set at pl e) env as_value =
        holds_node (Pair (Meets env false) (Meets env true)) (Meets env as_value) at (λ v. set_rules items (t.may_be_set v.0) (t.seen v.0).place (t.type v.1)) (λ v. t.expr (a_value (set_gives (t.seen v.0).place)) (t.set at v.0 v.1))
        (both (expr names items env false pl) (expr names items env true e)) (holds_both (Meets env false) (Meets env true) (expr names items env false pl) (expr names items env true e) (expr_meets pl env false) (expr_meets e env true))
        (λ v h kept cov. set_meets names items plain p c functions tables env as_value at v.0 v.1 (h.0 cov.1.0) (h.1 cov.1.1) (type_covered names items plain p c functions tables v.1 cov.1.1) kept)
    expr_meets (chain e ls) env as_value =
        holds_plain (λ v. Meets env true v.0 × LinksMeet env (t.seen v.0) v.1) (Meets env as_value) (λ v. t.expr (t.chain_seen (t.seen v.0) v.1) (t.chain v.0 v.1)) (scoped (expr names items env true e) (λ a. links names items env (t.seen a) ls))
        (holds_over (Meets env true) (λ a ls. LinksMeet env (t.seen a) ls) (expr names items env true e) (λ a. links names items env (t.seen a) ls) (expr_meets e env true) (λ a h. links_meet ls env (t.seen a)))
        (λ v h cov. chain_meets env as_value v.0 v.1 h.0 h.1 cov)
    expr_meets (unary at op e) env as_value =
        holds_node (Meets env (is_value_under op)) (Meets env as_value) at (λ a. unary_rules op (t.seen a)) (λ a. t.expr (a_value (unary_gives op (t.seen a))) (t.unary at op a)) (expr names items env (is_value_under op) e) (expr_meets e env (is_value_under op))
        (λ a h kept cov. unary_meets names items plain p c functions tables env as_value at op a (h cov.1.1) cov.1.1 cov.1.0 kept)
    expr_meets (steps e ss) env as_value =
        holds_plain (λ v. Meets env false v.0 × FirstMeets env as_value v.0 v.1) (Meets env as_value) (λ v. t.expr (t.steps_seen (t.seen v.0) v.1) (t.steps v.0 v.1)) (scoped (expr names items env false e) (λ a. steps_from names items env as_value (name_in e) (t.seen a) ss))
        (holds_over (Meets env false) (FirstMeets env as_value) (expr names items env false e) (λ a. steps_from names items env as_value (name_in e) (t.seen a) ss) (expr_meets e env false) (λ a h. first_meets ss env as_value (name_in e) a h))
        (λ v h cov. h.1 cov.1)
    expr_meets (number at n) env as_value = λ cov. (refl, refl, λ used. refl)
    expr_meets (quote at text) env as_value = λ cov. ((refl, cov.1), refl, λ used. refl)
    expr_meets (truth at b) env as_value = λ cov. (refl, refl, λ used. refl)
    expr_meets (name n) env as_value =
        holds_leaf (Meets env as_value) n.at (name_rules n env.scope) (named env as_value n (local_of n.name.0 env.scope))
        (λ kept cov. name_meets names items plain p c functions tables env as_value n (local_of n.name.0 env.scope) refl (one_rule 21 (is_visible n env.scope) kept) cov)
    expr_meets (call n es) env as_value =
        holds_node (ExprsMeet env) (Meets env as_value) n.at (λ v. called_rules items (called names items n) (t.types v)) (λ v. t.expr (a_value (called_gives n (called names items n) (t.types v))) (t.call n (callee (called names items n)) v)) (exprs names items env es) (exprs_meet es env)
        (λ v h kept cov. call_meets env as_value n v h kept cov)
    expr_meets (paren at e) env as_value =
        holds_plain (Meets env true) (Meets env as_value) (λ a. t.expr (a_value (t.type a)) (t.paren at a)) (expr names items env true e) (expr_meets e env true) (λ a h cov. ((refl, value env a h cov.1), refl, λ used. refl))
    expr_meets (array at z es) env as_value =
        holds_node (ExprsMeet env) (Meets env as_value) at (λ v. array_rules items (type_of z) (t.types v)) (λ v. t.expr (a_value (y.array (type_of z))) (t.array at (type_of z) v)) (exprs names items env es) (exprs_meet es env)
        (λ v h kept cov. array_meets env as_value at (type_of z) v h kept cov)
    expr_meets (iso at b) env as_value =
        holds_node (BlockMeets (deeper env)) (Meets env as_value) at (λ v. iso_rules items (t.block_type v)) (λ v. t.expr (a_value (y.iso (t.block_type v))) (t.iso at v)) (in_block names items (deeper env) b) (block_meets b (deeper env)) (λ v h kept cov. absurd cov.1)
    expr_meets (form f) env as_value =
        holds_plain (FormMeets env) (Meets env as_value) (λ v. t.expr (a_value v.0) (t.form v.1)) (in_form names items env f) (form_meets f env) (λ v h cov. (h cov.1, refl, λ used. refl))

    exprs_meet : (es : Exprs) (env : Env) → Holds (ExprsMeet env) (exprs names items env es)
    exprs_meet no_exprs env = λ cov. (tt, tt)
    exprs_meet (more_exprs e es) env =
        holds_plain (Pair (Meets env true) (ExprsMeet env)) (ExprsMeet env) (λ v. t.more_exprs v.0 v.1) (both (expr names items env true e) (exprs names items env es)) (holds_both (Meets env true) (ExprsMeet env) (expr names items env true e) (exprs names items env es) (expr_meets e env true) (exprs_meet es env))
        (λ v h cov. let rest = h.1 cov.1 in ((value env v.0 h.0 cov.0, rest.0), (type_covered names items plain p c functions tables v.0 cov.0, rest.1)))

    link_meets : (l : Link) (env : Env) (s : Seen) → Holds (LinkMeets env s) (operand names items env s l)
    link_meets (link at op e) env s =
        holds_node (Meets env true) (LinkMeets env s) at (λ a. link_rules op s.value (t.type a)) (λ a. t.link (a_value (link_gives op s.value)) at op a) (expr names items env true e) (expr_meets e env true)
        (λ a h kept ls rest cov. let more = rest cov.1 in ((one_rule 20 (takes_operands op s.value (t.type a)) kept, refl, value env a h cov.0, more.0), valued (a_value (link_gives op s.value)) ls refl more.1))

    links_meet : (ls : Links) (env : Env) (s : Seen) → Holds (LinksMeet env s) (links names items env s ls)
    links_meet no_links env s = λ cov. (refl, λ e. absurd e)
    links_meet (more_links l ls) env s =
        holds_plain (λ v. LinkMeets env s v.0 × LinksMeet env (t.link_seen v.0) v.1) (LinksMeet env s) (λ v. t.more_links v.0 v.1) (scoped (operand names items env s l) (λ a. links names items env (t.link_seen a) ls))
        (holds_over (LinkMeets env s) (λ a ls. LinksMeet env (t.link_seen a) ls) (operand names items env s l) (λ a. links names items env (t.link_seen a) ls) (link_meets l env s) (λ a h. links_meet ls env (t.link_seen a)))
        (λ v h cov. let all = h.0 v.1 h.1 cov in (all.0, λ e. all.1))

    first_meets : (ss : Steps) (env : Env) (as_value : Bool) (local : Option ℕ) (a : t.Expr) → Meets env false a → Holds (FirstMeets env as_value a) (steps_from names items env as_value local (t.seen a) ss)
    first_meets no_steps env as_value local a h = λ cov. absurd cov
    first_meets (more_steps s ss) env as_value local a h =
        holds_plain (λ v. Fits env (is_used as_value ss) (t.seen a) v.0 × AllFit env as_value ss (t.step_seen v.0) v.1) (FirstMeets env as_value a) (λ v. t.more_steps v.0 v.1)
        (scoped (step names items env (is_used as_value ss) local (t.seen a) s) (λ b. steps_from names items env as_value None (t.step_seen b) ss))
        (holds_over (Fits env (is_used as_value ss) (t.seen a)) (λ b v. AllFit env as_value ss (t.step_seen b) v) (step names items env (is_used as_value ss) local (t.seen a) s) (λ b. steps_from names items env as_value None (t.step_seen b) ss)
        (step_meets s env (is_used as_value ss) local (t.seen a)) (λ b g. steps_meet ss env as_value (t.step_seen b)))
        (λ v g cov. first_by names items plain p c functions tables env as_value ss a v.0 v.1 (h cov.1) g.0 g.1 cov)

    step_meets : (s : Step) (env : Env) (used : Bool) (local : Option ℕ) (base : Seen) → Holds (Fits env used base) (step names items env used local base s)
    step_meets (field at n) env used local base =
        let found = option_and_then (λ fs. y.field_named fs n.0) (fields_seen items base.view) in
        holds_leaf (Fits env used base) at (field_rules used base (fields_seen items base.view) (type_in found)) (t.field (part_of base.view (type_in found)) base.view (is_settable found) at n) (λ kept. field_fits names items p c functions tables env used base at n (is_settable found) kept)
    step_meets (method at n es) env used local base =
        let methods = methods_seen items base.view in
        let found = option_and_then (λ hs. y.method_named hs n.0) methods in
        holds_node (ExprsMeet env) (Fits env used base) at (λ v. method_rules items base methods found (t.types v)) (λ v. t.method (method_gives found) base.view at n v) (exprs names items env es) (exprs_meet es env) (λ v h kept object cov. absurd cov)
    step_meets (index at e) env used local base =
        holds_node (Meets env true) (Fits env used base) at (λ a. index_rules used base (elements_seen base.view) (t.type a)) (λ a. t.index (part_of base.view (elements_seen base.view)) (index_view local base.view e) at a) (expr names items env true e) (expr_meets e env true)
        (λ a h kept object cov. index_fits names items p c functions tables env used local base at e a (value env a h cov.2) kept object cov.0 cov.1)

    steps_meet : (ss : Steps) (env : Env) (as_value : Bool) (base : Seen) → Holds (AllFit env as_value ss base) (steps_from names items env as_value None base ss)
    steps_meet no_steps env as_value base = no_more names items p c functions tables env as_value base
    steps_meet (more_steps s ss) env as_value base =
        holds_plain (λ v. Fits env (is_used as_value ss) base v.0 × AllFit env as_value ss (t.step_seen v.0) v.1) (AllFit env as_value (more_steps s ss) base) (λ v. t.more_steps v.0 v.1)
        (scoped (step names items env (is_used as_value ss) None base s) (λ b. steps_from names items env as_value None (t.step_seen b) ss))
        (holds_over (Fits env (is_used as_value ss) base) (λ b v. AllFit env as_value ss (t.step_seen b) v) (step names items env (is_used as_value ss) None base s) (λ b. steps_from names items env as_value None (t.step_seen b) ss)
        (step_meets s env (is_used as_value ss) None base) (λ b g. steps_meet ss env as_value (t.step_seen b)))
        (λ v g z e cov kept covers. more_fit names items p c functions tables env as_value (is_used as_value ss) ss base v.0 v.1 (keeps_by names items plain p c functions tables as_value ss) g.0 g.1 z e cov covers)

    form_meets : (f : Form) (env : Env) → Holds (FormMeets env) (in_form names items env f)
    form_meets (branch at q b es) env =
        let ends = both (in_block names items env b) (elses names items env es) in
        holds_node (Pair (Meets env true) (Pair (BlockMeets env) (ElsesMeet env))) (FormMeets env) at (λ v. branch_rules (t.type v.0 ∷ t.condition_types v.1.1) (t.block_type v.1.0) (t.block_types v.1.1) (t.has_else v.1.1)) (λ v. (t.block_type v.1.0, t.branch at v.0 v.1.0 v.1.1))
        (both (expr names items env true q) ends)
        (holds_both (Meets env true) (Pair (BlockMeets env) (ElsesMeet env)) (expr names items env true q) ends (expr_meets q env true) (holds_both (BlockMeets env) (ElsesMeet env) (in_block names items env b) (elses names items env es) (block_meets b env) (elses_meet es env)))
        (λ v h kept cov. branch_meets env at v.0 v.1.0 v.1.1 h.0 h.1.0 h.1.1 kept cov)
    form_meets (pure at b) env = holds_plain (BlockMeets (deeper env)) (FormMeets env) (λ v. (t.block_type v, t.pure at v)) (in_block names items (deeper env) b) (block_meets b (deeper env)) (λ v h cov. absurd cov)
    form_meets (parallel_range at n a e b) env =
        let whole = both (new_name env n) (both (expr names items env true a) (both (expr names items env true e) (in_block names items (with_local n int (deeper env)) b))) in
        holds_node Any (FormMeets env) at (λ v. bounds_rules (t.type v.1.0) (t.type v.1.1.0)) (λ v. (parallel_gives items (t.block_type v.1.1.1), t.parallel_range at n v.1.0 v.1.1.0 v.1.1.1)) whole (any_holds whole) (λ v h kept cov. absurd cov)
    form_meets (parallel_each at n e b) env =
        let whole = scoped (node at (λ v. consumed_rules (t.type v.1)) (λ v. v.1) (both (new_name env n) (expr names items env true e))) (λ a. in_block names items (with_local n (isolate_of (isolate_in (t.type a))) (deeper env)) b) in
        holds_plain Any (FormMeets env) (λ v. (parallel_gives items (t.block_type v.1), t.parallel_each at n v.0 v.1)) whole (any_holds whole) (λ v h cov. absurd cov)

    else_meets : (e : ElseIf) (env : Env) → Holds (ElseIfMeets env) (in_else_if names items env e)
    else_meets (else_if at q b) env =
        holds_plain (Pair (Meets env true) (BlockMeets env)) (ElseIfMeets env) (λ v. t.else_if at v.0 v.1) (both (expr names items env true q) (in_block names items env b))
        (holds_both (Meets env true) (BlockMeets env) (expr names items env true q) (in_block names items env b) (expr_meets q env true) (block_meets b env)) (λ v h. else_if_meets env at v.0 v.1 h.0 h.1)

    elses_meet : (es : Elses) (env : Env) → Holds (ElsesMeet env) (elses names items env es)
    elses_meet no_else env = λ cov x bools alike ends. void_is x ends
    elses_meet (otherwise b) env =
        holds_plain (BlockMeets env) (ElsesMeet env) (λ v. t.otherwise v) (in_block names items env b) (block_meets b env)
        (λ v h cov x bools alike ends. subst (λ z. block_suits p c functions env z v) (sym (same_is x (t.block_type v) (and_parts (same x (t.block_type v)) true alike).0)) (h cov))
    elses_meet (more_elses e es) env =
        holds_plain (Pair (ElseIfMeets env) (ElsesMeet env)) (ElsesMeet env) (λ v. t.more_elses v.0 v.1) (both (in_else_if names items env e) (elses names items env es))
        (holds_both (ElseIfMeets env) (ElsesMeet env) (in_else_if names items env e) (elses names items env es) (else_meets e env) (elses_meet es env)) (λ v h. h.0 v.1 h.1)

    block_meets : (b : Block) (env : Env) → Holds (BlockMeets env) (in_block names items env b)
    block_meets (block at end ss) env = holds_plain (StmtsMeet env) (BlockMeets env) (λ v. t.block at end (t.stmts_type v) v) (stmts names items env ss) (stmts_meet ss env) (λ v h cov. (refl, h cov))

    pub void_meets : (b : Block) (env : Env) → Holds (VoidMeets env) (void_block names items env b)
    void_meets (block at end ss) env =
        let whole = plain_node (λ v. t.block at end (t.stmts_type v) v) (stmts names items env ss) in
        holds_node (BlockMeets env) (VoidMeets env) at (λ v. void_rules (t.block_type v)) (λ v. v) whole
        (holds_plain (StmtsMeet env) (BlockMeets env) (λ v. t.block at end (t.stmts_type v) v) (stmts names items env ss) (stmts_meet ss env) (λ v h cov. (refl, h cov)))
        (λ v h kept cov. subst (λ z. block_suits p c functions env z v) (void_is (t.block_type v) (one_rule 20 (is_void (t.block_type v)) kept)) (h cov))

    stmts_meet : (ss : Stmts) (env : Env) → Holds (StmtsMeet env) (stmts names items env ss)
    stmts_meet no_stmts env = λ cov. refl
    stmts_meet (last e) env = holds_plain (Meets env true) (StmtsMeet env) (λ v. t.last v) (expr names items env true e) (expr_meets e env true) (λ v h cov. (refl, value env v h cov))
    stmts_meet (more_stmts s ss) env =
        holds_plain (λ v. StmtMeets env v.0 × StmtsMeet (after v.0 env) v.1) (StmtsMeet env) (λ v. t.more_stmts v.0 v.1) (scoped (stmt names items env s) (λ a. stmts names items (after a env) ss))
        (holds_over (StmtMeets env) (λ a v. StmtsMeet (after a env) v) (stmt names items env s) (λ a. stmts names items (after a env) ss) (stmt_meets s env) (λ a h. stmts_meet ss (after a env)))
        (λ v h cov. (h.0 cov.0, h.1 cov.1))

    stmt_meets : (s : Stmt) (env : Env) → Holds (StmtMeets env) (stmt names items env s)
    stmt_meets (declare n e) env =
        holds_node (Meets env true) (StmtMeets env) n.at (λ a. declare_rules n env.scope (t.type a)) (λ a. t.declare n (t.type a) a) (expr names items env true e) (expr_meets e env true) (λ a h kept cov. (refl, value env a h cov))
    stmt_meets (destructure at ns e) env =
        holds_node (Pair Any (Meets env true)) (StmtMeets env) at (λ v. destructure_rules (struct_fields items (t.type v.1)) ns) (λ v. t.destructure at ns (option_map_or field_types (struct_fields items (t.type v.1)) []) v.1)
        (both (new_names env ns) (expr names items env true e)) (holds_both Any (Meets env true) (new_names env ns) (expr names items env true e) (any_holds (new_names env ns)) (expr_meets e env true))
        (λ v h kept cov. (opened_meets names items plain p c functions tables (t.type v.1) (rule_kept 20 (is_some (struct_fields items (t.type v.1))) ((22, option_map_or (λ fs. length fs == length ns) (struct_fields items (t.type v.1)) true) ∷ []) kept).0, value env v.1 h.1 cov))
    stmt_meets (return_nothing at) env = holds_leaf (StmtMeets env) at (return_nothing_rules env.gives) (t.return_nothing at) (λ kept cov. void_is env.gives (one_rule 20 (is_void env.gives) kept))
    stmt_meets (return_value at e) env =
        holds_node (Meets env true) (StmtMeets env) at (λ a. return_value_rules items env.gives (t.type a)) (λ a. t.return_value at a) (expr names items env true e) (expr_meets e env true)
        (λ a h kept cov. (fits_same items plain p.kinds c.texts (t.type a) env.gives (type_covered names items plain p c functions tables a cov) (and_parts (not (is_void env.gives)) (fits items (t.type a) env.gives) (one_rule 20 (not (is_void env.gives) && fits items (t.type a) env.gives) kept)).1, value env a h cov))
    stmt_meets (while at q b) env =
        holds_node (Pair (Meets env true) (VoidMeets env)) (StmtMeets env) at (λ v. condition_rules (t.type v.0)) (λ v. t.while at v.0 v.1) (both (expr names items env true q) (void_block names items env b))
        (holds_both (Meets env true) (VoidMeets env) (expr names items env true q) (void_block names items env b) (expr_meets q env true) (void_meets b env))
        (λ v h kept cov. (same_is (t.type v.0) bool (one_rule 20 (is_bool (t.type v.0)) kept), value env v.0 h.0 cov.0, h.1 cov.1))
    stmt_meets (foreach at n a e b) env =
        let inner = with_local n int env in
        let ends = both (expr names items env true e) (void_block names items inner b) in
        let bounds = both (expr names items env true a) ends in
        holds_node (Pair Any (Pair (Meets env true) (Pair (Meets env true) (VoidMeets inner)))) (StmtMeets env) at (λ v. bounds_rules (t.type v.1.0) (t.type v.1.1.0)) (λ v. t.foreach at n v.1.0 v.1.1.0 v.1.1.1) (both (new_name env n) bounds)
        (holds_both Any (Pair (Meets env true) (Pair (Meets env true) (VoidMeets inner))) (new_name env n) bounds (any_holds (new_name env n))
        (holds_both (Meets env true) (Pair (Meets env true) (VoidMeets inner)) (expr names items env true a) ends (expr_meets a env true) (holds_both (Meets env true) (VoidMeets inner) (expr names items env true e) (void_block names items inner b) (expr_meets e env true) (void_meets b inner))))
        (λ v h kept cov.
        let is = and_parts (is_int (t.type v.1.0)) (is_int (t.type v.1.1.0)) (one_rule 20 (is_int (t.type v.1.0) && is_int (t.type v.1.1.0)) kept) in
        (same_is (t.type v.1.0) int is.0, same_is (t.type v.1.1.0) int is.1, value env v.1.0 h.1.0 cov.0, value env v.1.1.0 h.1.1.0 cov.1, h.1.1.1 cov.2))
    stmt_meets (form_stmt f) env =
        holds_node (FormMeets env) (StmtMeets env) (form_spot f) (λ v. void_rules v.0) (λ v. t.form_stmt v.1) (in_form names items env f) (form_meets f env)
        (λ v h kept cov. subst (λ z. form_suits p c functions env z v.1) (void_is v.0 (one_rule 20 (is_void v.0) kept)) (h cov))
    stmt_meets (express e) env = holds_plain (Meets env true) (StmtMeets env) (λ v. t.express v) (expr names items env true e) (expr_meets e env true) (λ v h cov. value env v h cov)
