use Rattle.std.proofs.Common.{ℕ, List, true, false, ◌+◌, map, drop, ap, sym, ◌∙◌, []}
use Rattle.std.specs.Prelude.{Result, Ok, Option, None, option_map}
use Rattle.std.proofs.lemmas.Result.{err_from_is_err_and}
use Rattle.vale_syntax.specs.declared.fault.Fault.{Fault}
use Rattle.vale_syntax.specs.declared.tree.Expr.{Expr}
use Rattle.vale_base.specs.declared.name.Name.{Name}
use Rattle.vale_syntax.specs.declared.tree.Link.{Link}
use Rattle.vale_syntax.specs.declared.tree.Step.{Step}
use Rattle.vale_rules_spec.specs.Judged.{first}
use Rattle.vale_rules_spec.specs.Types.{Seen, a_value}
use Rattle.vale_rules_spec.specs.TypeRules.{set_rules, set_gives, destructure_rules, struct_fields, field_types, bounds_rules, parallel_gives}
use Rattle.vale_rules_spec.specs.Typed as t
use Rattle.vale_rules_spec.specs.Typed.{seen, type, may_be_set, chain_seen, steps_seen, link_seen, step_seen, block_type}
use Rattle.vale_rules_spec.specs.Typing as d
use Rattle.vale_rules_spec.specs.Typing.{name_in, is_used, Env, after, with_local, deeper}
use Rattle.vale_syntax.specs.View.{view_expr, view_link, view_step, exprs_of, links_of, steps_of, view_else_if, elses_of, view_stmt, stmts_of, view_block}
use Rattle.vale_syntax.proofs.ViewLaws.{of_set, of_chain, of_steps, of_parallel_range, of_foreach}
use Rattle.vale_rules_spec.proofs.JudgedLaws.{◌>>=◌}
use Rattle.vale_core.specs.Plain.{number_of}
use Rattle.vale_core.specs.View as core
use Rattle.vale_core.specs.View.{view_ty, view_seen}
use Rattle.vale_seen.specs.Scope.{locals, framed}
use Rattle.vale_lookup.specs.Table.{names_of, items_of}
use Rattle.vale_typed_parts.specs.Walk.{env_at, view_links, view_steps, view_elses, view_else}
use Rattle.vale_typed_parts.proofs.LoopLaws.{pair_passes, after_passes, seen_passes}
use Rattle.vale_typing.proofs.NodeLaws.{second_fails, after_fails, second_ends, fourth_fails, fourth_ends}
use Rattle.vale_syntax.specs.declared.tree.ElseIf.{ElseIf}
use Rattle.vale_syntax.specs.declared.tree.Block.{out-Block}
use Rattle.vale_syntax.specs.declared.tree.Stmt.{Stmt}
use Rattle.std.specs.Option.{option_map_or}
use Rattle.vale_typed_parts.proofs.NameLaws.{new_names_same}
use Rattle.vale_rules_spec.specs.Types as y
use Rattle.vale_core.proofs.ViewLaws.{of_int}
use Rattle.vale_typed_parts.specs.Valued.{view_valued}
use Rattle.vale_typing.proofs.IfLaws.{else_ifs_fail, end_fails, if_ends}
use Rattle.vale_typing.proofs.check.+check.Goals as goal

-- ---- where the second part has a fault

pub type_expr-returns-in_err-value-in-Set : goal.type_expr-returns-in_err-value-in-Set
type_expr-returns-in_err-value-in-Set m c =
    let names = names_of c.args.table.now in
    let items = items_of c.args.table.now in
    let env = env_at (view_ty c.args.gives.now) c.args.depth (locals c.args.scope.now) in
    let p = err_from_is_err_and c.from_residual-in_err-value-in-Set.result c.from_residual-in_err-value-in-Set.ensures.1 in
    rw (p.1, p.2, c.in-Set.is, of_set c.in-Set.at c.in-Set.place c.in-Set.value)
    (second_fails c.in-Set.at (λ v. set_rules items (may_be_set v.0) (seen v.0).place (type v.1)) (λ v. t.expr (a_value (set_gives (seen v.0).place)) (t.set c.in-Set.at v.0 v.1))
    (d.expr names items env false (view_expr c.in-Set.place)) (d.expr names items env true (view_expr c.in-Set.value)) (core.view_expr c.in_ok-place-in-Set.place)
    core.view_expr core.view_expr c.in_err-value-in-Set.field-0.0 (rw c.get.ensures at c.in_ok-place-in-Set.ensures) (rw c.get-in-Set.ensures at c.in_err-value-in-Set.ensures))

pub type_expr-returns-in_err-links-in-Chain : goal.type_expr-returns-in_err-links-in-Chain
type_expr-returns-in_err-links-in-Chain m c =
    let names = names_of c.args.table.now in
    let items = items_of c.args.table.now in
    let env = env_at (view_ty c.args.gives.now) c.args.depth (locals c.args.scope.now) in
    let p = err_from_is_err_and c.from_residual-in_err-links-in-Chain.result c.from_residual-in_err-links-in-Chain.ensures.1 in
    rw (p.1, p.2, c.in-Chain.is, of_chain c.in-Chain.first c.in-Chain.links)
    (after_fails (λ v. t.expr (chain_seen (seen v.0) v.1) (t.chain v.0 v.1))
    (d.expr names items env true (view_expr c.in-Chain.first)) (λ a. d.links names items env (seen a) (links_of (map view_link c.in-Chain.links))) (core.view_expr c.in_ok-first-in-Chain.first)
    core.view_expr view_links c.in_err-links-in-Chain.field-0.0 (rw c.get-in-Chain.ensures at c.in_ok-first-in-Chain.ensures) (rw c.get-in-Chain-2.ensures at c.in_err-links-in-Chain.ensures))

pub type_expr-returns-in_err-steps-in-Steps : goal.type_expr-returns-in_err-steps-in-Steps
type_expr-returns-in_err-steps-in-Steps m c =
    let names = names_of c.args.table.now in
    let items = items_of c.args.table.now in
    let env = env_at (view_ty c.args.gives.now) c.args.depth (locals c.args.scope.now) in
    let p = err_from_is_err_and c.from_residual-in_err-steps-in-Steps.result c.from_residual-in_err-steps-in-Steps.ensures.1 in
    rw (p.1, p.2, c.in-Steps.is, of_steps c.in-Steps.base c.in-Steps.steps)
    (after_fails (λ v. t.expr (steps_seen (seen v.0) v.1) (t.steps v.0 v.1))
    (d.expr names items env false (view_expr c.in-Steps.base)) (λ a. d.steps_from names items env c.args.as_value (name_in (view_expr c.in-Steps.base)) (seen a) (steps_of (map view_step c.in-Steps.steps))) (core.view_expr c.in_ok-first-in-Steps.first)
    core.view_expr view_steps c.in_err-steps-in-Steps.field-0.0 (rw c.get-in-Steps.ensures at c.in_ok-first-in-Steps.ensures) (rw (c.get-base.ensures, c.get-in-Steps-2.ensures) at c.in_err-steps-in-Steps.ensures))

-- ---- lists, with one part more

pub type_exprs-loop-expr-preserved : goal.type_exprs-loop-expr-preserved
type_exprs-loop-expr-preserved m c =
    let names = names_of c.args.table.now in
    let items = items_of c.args.table.now in
    let env = env_at (view_ty c.args.gives.now) c.args.depth (locals c.args.scope.now) in
    let all = c.args.exprs.now in
    let i = c.loop-expr.expr-index in
    let x = c.expr-item.result in
    let z = c.in_ok-expr.expr in
    let rest : List Expr → Result t.Exprs Fault = λ xs. first (d.exprs names items env (exprs_of (map view_expr xs))) in
    rw (c.in_ok-push.ensures.ok, c.into_inner.ensures)
    (seen_passes t.more_exprs core.view_expr c.loop-expr.done all i x x (rest all) rest (rest (drop (i + 1) all)) z c.loop-expr-test.true c.expr-item.is
    (pair_passes (λ v. t.more_exprs v.0 v.1) (d.expr names items env true (view_expr x)) (core.view_expr z) (d.exprs names items env (exprs_of (map view_expr (drop (i + 1) all)))) c.in_ok-expr.ensures)
    c.loop-expr.invariant)

pub type_links-loop-link-preserved : goal.type_links-loop-link-preserved
type_links-loop-link-preserved m c =
    let names = names_of c.args.table.now in
    let items = items_of c.args.table.now in
    let env = env_at (view_ty c.args.gives.now) c.args.depth (locals c.args.scope.now) in
    let all = c.as_slice-links.result.now in
    let i = c.loop-link.link-index in
    let x = c.link-item.result in
    let z = c.in_ok-link.link in
    let here = view_seen c.loop-link.so_far.before in
    let whole = first (d.links names items env (seen (core.view_expr c.args.before.now)) (links_of (map view_link all))) in
    let rest : List Link → Result t.Links Fault = λ xs. first (d.links names items env here (links_of (map view_link xs))) in
    let left : Seen → Result t.Links Fault = λ s. first (d.links names items env s (links_of (map view_link (drop (i + 1) all)))) in
    rw c.in_ok-push.ensures.done
    (seen_passes t.more_links core.view_link c.loop-link.so_far.done all i x x whole rest (left (view_seen c.push.new.self.before)) z c.loop-link-test.true c.link-item.is
    (after_passes (λ v. t.more_links v.0 v.1) (d.operand names items env here (view_link x)) (core.view_link z) (λ a. d.links names items env (link_seen a) (links_of (map view_link (drop (i + 1) all)))) (rw c.get.ensures at c.in_ok-link.ensures)
    ∙ ap (λ (s : Seen). left s >>= λ b. Ok (t.more_links (core.view_link z) b)) (sym c.in_ok-push.ensures.before))
    c.loop-link.invariant)

pub type_steps-loop-index-preserved : goal.type_steps-loop-index-preserved
type_steps-loop-index-preserved m c =
    let names = names_of c.args.table.now in
    let items = items_of c.args.table.now in
    let env = env_at (view_ty c.args.gives.now) c.args.depth (locals c.args.scope.now) in
    let as_value = c.args.as_value in
    let all = c.as_slice-steps.result.now in
    let i = c.loop-index.index in
    let x = c.index-steps-index.result in
    let z = c.in_ok-step.step in
    let local = number_of c.loop-index.so_far.local in
    let base = view_seen c.loop-index.so_far.base in
    let new = c.push.new.self in
    let whole = first (d.steps_from names items env as_value (name_in (view_expr c.args.base.now)) (seen (core.view_expr c.args.before.now)) (steps_of (map view_step all))) in
    let rest : List Step → Result t.Steps Fault = λ xs. first (d.steps_from names items env as_value local base (steps_of (map view_step xs))) in
    let left : Option ℕ → Seen → Result t.Steps Fault = λ l s. first (d.steps_from names items env as_value l s (steps_of (map view_step (drop (i + 1) all)))) in
    let used = is_used as_value (steps_of (map view_step (drop (i + 1) all))) in
    rw c.in_ok-push.ensures.done
    (seen_passes t.more_steps core.view_step c.loop-index.so_far.done all i x x whole rest (left (number_of new.local) (view_seen new.base)) z c.loop-index-test.true c.index-steps-index.is
    (after_passes (λ v. t.more_steps v.0 v.1) (d.step names items env used local base (view_step x)) (core.view_step z) (λ a. d.steps_from names items env as_value None (step_seen a) (steps_of (map view_step (drop (i + 1) all)))) (rw (c.is_used-is_used.ensures, c.get-base.ensures) at c.in_ok-step.ensures)
    ∙ ap (λ (s : Seen). left None s >>= λ b. Ok (t.more_steps (core.view_step z) b)) (sym c.in_ok-push.ensures.base)
    ∙ ap (λ (l : Option Name). left (number_of l) (view_seen new.base) >>= λ b. Ok (t.more_steps (core.view_step z) b)) (sym c.in_ok-push.ensures.local))
    c.loop-index.invariant)

pub type_else_ifs-loop-else_if-preserved : goal.type_else_ifs-loop-else_if-preserved
type_else_ifs-loop-else_if-preserved m c =
    let names = names_of c.args.table.now in
    let items = items_of c.args.table.now in
    let env = env_at (view_ty c.args.gives.now) c.args.depth (locals c.args.scope.now) in
    let all = c.args.else_ifs.now in
    let i = c.loop-else_if.else_if-index in
    let x = c.else_if-item.result in
    let z = c.in_ok-else_if.else_if in
    let rest : List ElseIf → Result t.Elses Fault = λ xs. first (d.elses names items env (elses_of (map view_else_if xs) None)) in
    rw (c.in_ok-push.ensures.ok, c.into_inner.ensures)
    (seen_passes t.more_elses core.view_else_if c.loop-else_if.done all i x x (rest all) rest (rest (drop (i + 1) all)) z c.loop-else_if-test.true c.else_if-item.is
    (pair_passes (λ v. t.more_elses v.0 v.1) (d.in_else_if names items env (view_else_if x)) (core.view_else_if z) (d.elses names items env (elses_of (map view_else_if (drop (i + 1) all)) None)) c.in_ok-else_if.ensures)
    c.loop-else_if.invariant)

pub type_stmts-loop-stmt-preserved : goal.type_stmts-loop-stmt-preserved
type_stmts-loop-stmt-preserved m c =
    let names = names_of c.args.table.now in
    let items = items_of c.args.table.now in
    let gives = view_ty c.args.gives.now in
    let outer = locals c.args.scope.now in
    let here = env_at gives c.args.depth (framed c.loop-stmt.so_far.locals.items outer) in
    let there = env_at gives c.args.depth (framed c.push.new.self.locals.items outer) in
    let all = c.as_slice-stmts.result.now in
    let i = c.loop-stmt.stmt-index in
    let x = c.stmt-item.result in
    let z = c.in_ok-stmt.stmt in
    let end = option_map view_expr (out-Block c.args.block.now).last in
    let whole = first (d.stmts names items (env_at gives c.args.depth outer) (stmts_of (map view_stmt all) end)) in
    let rest : List Stmt → Result t.Stmts Fault = λ xs. first (d.stmts names items here (stmts_of (map view_stmt xs) end)) in
    let left : Env → Result t.Stmts Fault = λ env. first (d.stmts names items env (stmts_of (map view_stmt (drop (i + 1) all)) end)) in
    rw c.in_ok-push.ensures.done
    (seen_passes t.more_stmts core.view_stmt c.loop-stmt.so_far.done all i x x whole rest (left there) z c.loop-stmt-test.true c.stmt-item.is
    (after_passes (λ v. t.more_stmts v.0 v.1) (d.stmt names items here (view_stmt x)) (core.view_stmt z) (λ a. d.stmts names items (after a here) (stmts_of (map view_stmt (drop (i + 1) all)) end)) (rw c.deref.ensures.value at c.in_ok-stmt.ensures)
    ∙ ap (λ (env : Env). left env >>= λ b. Ok (t.more_stmts (core.view_stmt z) b)) (c.in_ok-push.ensures.locals gives outer))
    c.loop-stmt.invariant)

-- ---- nodes with a list, and those of three or four parts

pub type_destructure-returns : goal.type_destructure-returns
type_destructure-returns m c =
    let names = names_of c.args.table.now in
    let items = items_of c.args.table.now in
    let env = env_at (view_ty c.args.gives.now) c.args.depth (locals c.args.scope.now) in
    let at = c.args.at in
    let ns = c.args.names.now in
    let ms = c.in_ok-names.names in
    let same = c.in_ok-names.ensures (view_ty c.args.gives.now) in
    let whole = second_ends at (λ v. destructure_rules (struct_fields items (type v.1)) ns) (λ v. t.destructure at ns (option_map_or field_types (struct_fields items (type v.1)) []) v.1)
    (d.new_names env ns) (d.expr names items env true (view_expr c.args.value.now)) ms (core.view_expr c.in_ok-value.value) same c.in_ok-value.ensures in
    rw whole (rw (new_names_same env ns ms same) at c.destructure.ensures)

pub type_form-returns-in_err-else_ifs-in-If : goal.type_form-returns-in_err-else_ifs-in-If
type_form-returns-in_err-else_ifs-in-If m c =
    let names = names_of c.args.table.now in
    let items = items_of c.args.table.now in
    let env = env_at (view_ty c.args.gives.now) c.args.depth (locals c.args.scope.now) in
    let p = err_from_is_err_and c.from_residual-in_err-else_ifs-in-If.result c.from_residual-in_err-else_ifs-in-If.ensures.1 in
    rw (p.1, p.2, c.in-If.is)
    (else_ifs_fail names items env c.in-If.at c.in-If.condition c.in-If.block c.in-If.else_ifs c.as_slice.result.now c.in-If.otherwise (core.view_expr c.in_ok-condition-in-If.condition) (core.view_block c.in_ok-block-in-If.block) c.as_slice.ensures c.in_ok-condition-in-If.ensures c.in_ok-block-in-If.ensures
    view_valued view_elses c.in_err-else_ifs-in-If.field-0.0 c.in_err-else_ifs-in-If.ensures)

pub type_form-returns-in_err-otherwise-in-If : goal.type_form-returns-in_err-otherwise-in-If
type_form-returns-in_err-otherwise-in-If m c =
    let names = names_of c.args.table.now in
    let items = items_of c.args.table.now in
    let env = env_at (view_ty c.args.gives.now) c.args.depth (locals c.args.scope.now) in
    let p = err_from_is_err_and c.from_residual-in_err-otherwise-in-If.result c.from_residual-in_err-otherwise-in-If.ensures.1 in
    rw (p.1, p.2, c.in-If.is)
    (end_fails names items env c.in-If.at c.in-If.condition c.in-If.block c.in-If.else_ifs c.as_slice.result.now c.in-If.otherwise (core.view_expr c.in_ok-condition-in-If.condition) (core.view_block c.in_ok-block-in-If.block) c.as_slice.ensures c.in_ok-condition-in-If.ensures c.in_ok-block-in-If.ensures
    view_valued view_else c.in_err-otherwise-in-If.field-0.0 (map core.view_else_if c.in_ok-else_ifs-in-If.else_ifs) c.in_ok-else_ifs-in-If.ensures c.in_err-otherwise-in-If.ensures)

pub type_form-returns-in_ok-otherwise-in-If : goal.type_form-returns-in_ok-otherwise-in-If
type_form-returns-in_ok-otherwise-in-If m c =
    let names = names_of c.args.table.now in
    let items = items_of c.args.table.now in
    let env = env_at (view_ty c.args.gives.now) c.args.depth (locals c.args.scope.now) in
    let whole = if_ends names items env c.in-If.at c.in-If.condition c.in-If.block c.in-If.else_ifs c.as_slice.result.now c.in-If.otherwise (core.view_expr c.in_ok-condition-in-If.condition) (core.view_block c.in_ok-block-in-If.block) c.as_slice.ensures c.in_ok-condition-in-If.ensures c.in_ok-block-in-If.ensures
    (map core.view_else_if c.in_ok-else_ifs-in-If.else_ifs) (view_else c.in_ok-otherwise-in-If.otherwise) c.in_ok-else_ifs-in-If.ensures c.in_ok-otherwise-in-If.ensures in
    rw (c.in-If.is, whole) c.branch-alloc.ensures

pub type_form-returns-in_err-block-in-ParallelRange : goal.type_form-returns-in_err-block-in-ParallelRange
type_form-returns-in_err-block-in-ParallelRange m c =
    let names = names_of c.args.table.now in
    let items = items_of c.args.table.now in
    let env = env_at (view_ty c.args.gives.now) c.args.depth (locals c.args.scope.now) in
    let at = c.in-ParallelRange.at in
    let n = c.in-ParallelRange.name in
    let p = err_from_is_err_and c.from_residual-in_err-block-in-ParallelRange.result c.from_residual-in_err-block-in-ParallelRange.ensures.1 in
    rw (p.1, p.2, c.in-ParallelRange.is, of_parallel_range at n c.in-ParallelRange.from c.in-ParallelRange.to c.in-ParallelRange.block)
    (fourth_fails at (λ v. bounds_rules (type v.1.0) (type v.1.1.0)) (λ v. (parallel_gives items (block_type v.1.1.1), t.parallel_range at n v.1.0 v.1.1.0 v.1.1.1))
    (d.new_name env n) (d.expr names items env true (view_expr c.in-ParallelRange.from)) (d.expr names items env true (view_expr c.in-ParallelRange.to)) (d.in_block names items (with_local n y.int (deeper env)) (view_block c.in-ParallelRange.block))
    n (core.view_expr c.in_ok-from-in-ParallelRange.from) (core.view_expr c.in_ok-to-in-ParallelRange.to)
    view_valued core.view_block c.in_err-block-in-ParallelRange.field-0.0 c.in_ok-new_name-in-ParallelRange.ensures c.in_ok-from-in-ParallelRange.ensures c.in_ok-to-in-ParallelRange.ensures (rw (c.in_ok-depth-in-ParallelRange.ensures, of_int) at c.in_err-block-in-ParallelRange.ensures))

pub type_form-returns-in_ok-block-in-ParallelRange : goal.type_form-returns-in_ok-block-in-ParallelRange
type_form-returns-in_ok-block-in-ParallelRange m c =
    let names = names_of c.args.table.now in
    let items = items_of c.args.table.now in
    let env = env_at (view_ty c.args.gives.now) c.args.depth (locals c.args.scope.now) in
    let at = c.in-ParallelRange.at in
    let n = c.in-ParallelRange.name in
    let whole = fourth_ends {E = y.Ty × t.Form} at (λ v. bounds_rules (type v.1.0) (type v.1.1.0)) (λ v. (parallel_gives items (block_type v.1.1.1), t.parallel_range at n v.1.0 v.1.1.0 v.1.1.1))
    (d.new_name env n) (d.expr names items env true (view_expr c.in-ParallelRange.from)) (d.expr names items env true (view_expr c.in-ParallelRange.to)) (d.in_block names items (with_local n y.int (deeper env)) (view_block c.in-ParallelRange.block))
    n (core.view_expr c.in_ok-from-in-ParallelRange.from) (core.view_expr c.in_ok-to-in-ParallelRange.to) (core.view_block c.in_ok-block-in-ParallelRange.block)
    c.in_ok-new_name-in-ParallelRange.ensures c.in_ok-from-in-ParallelRange.ensures c.in_ok-to-in-ParallelRange.ensures (rw (c.in_ok-depth-in-ParallelRange.ensures, of_int) at c.in_ok-block-in-ParallelRange.ensures) in
    rw (c.in-ParallelRange.is, of_parallel_range at n c.in-ParallelRange.from c.in-ParallelRange.to c.in-ParallelRange.block, whole) c.parallel_range.ensures

pub type_stmt-returns-in_err-body-in-Foreach : goal.type_stmt-returns-in_err-body-in-Foreach
type_stmt-returns-in_err-body-in-Foreach m c =
    let names = names_of c.args.table.now in
    let items = items_of c.args.table.now in
    let env = env_at (view_ty c.args.gives.now) c.args.depth (locals c.args.scope.now) in
    let at = c.in-Foreach.at in
    let n = c.in-Foreach.name in
    let p = err_from_is_err_and c.from_residual-in_err-body-in-Foreach.result c.from_residual-in_err-body-in-Foreach.ensures.1 in
    rw (p.1, p.2, c.in-Foreach.is, of_foreach at n c.in-Foreach.from c.in-Foreach.to c.in-Foreach.block)
    (fourth_fails at (λ v. bounds_rules (type v.1.0) (type v.1.1.0)) (λ v. t.foreach at n v.1.0 v.1.1.0 v.1.1.1)
    (d.new_name env n) (d.expr names items env true (view_expr c.in-Foreach.from)) (d.expr names items env true (view_expr c.in-Foreach.to)) (d.void_block names items (with_local n y.int env) (view_block c.in-Foreach.block))
    n (core.view_expr c.in_ok-from-in-Foreach.from) (core.view_expr c.in_ok-to-in-Foreach.to)
    core.view_stmt core.view_block c.in_err-body-in-Foreach.field-0.0 c.in_ok-new_name-in-Foreach.ensures c.in_ok-from-in-Foreach.ensures c.in_ok-to-in-Foreach.ensures (rw of_int at c.in_err-body-in-Foreach.ensures))

pub type_stmt-returns-in_ok-body-in-Foreach : goal.type_stmt-returns-in_ok-body-in-Foreach
type_stmt-returns-in_ok-body-in-Foreach m c =
    let names = names_of c.args.table.now in
    let items = items_of c.args.table.now in
    let env = env_at (view_ty c.args.gives.now) c.args.depth (locals c.args.scope.now) in
    let at = c.in-Foreach.at in
    let n = c.in-Foreach.name in
    let whole = fourth_ends at (λ v. bounds_rules (type v.1.0) (type v.1.1.0)) (λ v. t.foreach at n v.1.0 v.1.1.0 v.1.1.1)
    (d.new_name env n) (d.expr names items env true (view_expr c.in-Foreach.from)) (d.expr names items env true (view_expr c.in-Foreach.to)) (d.void_block names items (with_local n y.int env) (view_block c.in-Foreach.block))
    n (core.view_expr c.in_ok-from-in-Foreach.from) (core.view_expr c.in_ok-to-in-Foreach.to) (core.view_block c.in_ok-body-in-Foreach.body)
    c.in_ok-new_name-in-Foreach.ensures c.in_ok-from-in-Foreach.ensures c.in_ok-to-in-Foreach.ensures (rw of_int at c.in_ok-body-in-Foreach.ensures) in
    rw (c.in-Foreach.is, of_foreach at n c.in-Foreach.from c.in-Foreach.to c.in-Foreach.block, whole) c.foreach.ensures
