use Rattle.std.proofs.Common.{◌≡◌, map, drop}
use Rattle.std.specs.Prelude.{None, option_map}
use Rattle.vale_syntax.specs.declared.tree.Block.{out-Block}
use Rattle.vale_rules_spec.specs.Judged.{first}
use Rattle.vale_syntax.specs.View.{view_expr, view_step, view_stmt, view_else_if, view_link, exprs_of, links_of, steps_of, elses_of, stmts_of}
use Rattle.vale_rules_spec.specs.Typing as d
use Rattle.vale_rules_spec.specs.Typed as t
use Rattle.vale_rules_spec.specs.Typed.{seen}
use Rattle.vale_rules_spec.specs.Typing.{name_in}
use Rattle.vale_core.specs.Plain.{number_of}
use Rattle.vale_core.specs.View as c
use Rattle.vale_core.specs.View.{view_ty, view_seen}
use Rattle.vale_seen.specs.Scope.{framed, locals}
use Rattle.vale_lookup.specs.Table.{names_of, items_of}
use Rattle.vale_typed_parts.specs.Walk.{env_at}
use Rattle.vale_typed_parts.proofs.LoopLaws.{with_parts}
use Rattle.vale_typing.proofs.check.+check.Given as goal

-- what is done, with what the parts that are left give, is what the whole list gives

abbrev pub invariant-type_exprs-loop-expr : goal.invariant-type_exprs-loop-expr
invariant-type_exprs-loop-expr l =
    with_parts t.more_exprs (map c.view_expr l.done) (first (d.exprs (names_of l.table) (items_of l.table) (env_at (view_ty l.gives) l.depth (locals l.scope)) (exprs_of (map view_expr (drop l.expr-index l.exprs)))))
    ≡ first (d.exprs (names_of l.table) (items_of l.table) (env_at (view_ty l.gives) l.depth (locals l.scope)) (exprs_of (map view_expr l.exprs)))

abbrev pub invariant-type_links-loop-link : goal.invariant-type_links-loop-link
invariant-type_links-loop-link l =
    with_parts t.more_links (map c.view_link l.so_far.done) (first (d.links (names_of l.table) (items_of l.table) (env_at (view_ty l.gives) l.depth (locals l.scope)) (view_seen l.so_far.before) (links_of (map view_link (drop l.link-index l.links)))))
    ≡ first (d.links (names_of l.table) (items_of l.table) (env_at (view_ty l.gives) l.depth (locals l.scope)) (seen (c.view_expr l.before)) (links_of (map view_link l.links)))

abbrev pub invariant-type_steps-loop-index : goal.invariant-type_steps-loop-index
invariant-type_steps-loop-index l =
    with_parts t.more_steps (map c.view_step l.so_far.done) (first (d.steps_from (names_of l.table) (items_of l.table) (env_at (view_ty l.gives) l.depth (locals l.scope)) l.as_value (number_of l.so_far.local) (view_seen l.so_far.base) (steps_of (map view_step (drop l.index l.steps)))))
    ≡ first (d.steps_from (names_of l.table) (items_of l.table) (env_at (view_ty l.gives) l.depth (locals l.scope)) l.as_value (name_in (view_expr l.base)) (seen (c.view_expr l.before)) (steps_of (map view_step l.steps)))

abbrev pub invariant-type_else_ifs-loop-else_if : goal.invariant-type_else_ifs-loop-else_if
invariant-type_else_ifs-loop-else_if l =
    with_parts t.more_elses (map c.view_else_if l.done) (first (d.elses (names_of l.table) (items_of l.table) (env_at (view_ty l.gives) l.depth (locals l.scope)) (elses_of (map view_else_if (drop l.else_if-index l.else_ifs)) None)))
    ≡ first (d.elses (names_of l.table) (items_of l.table) (env_at (view_ty l.gives) l.depth (locals l.scope)) (elses_of (map view_else_if l.else_ifs) None))

abbrev pub invariant-type_stmts-loop-stmt : goal.invariant-type_stmts-loop-stmt
invariant-type_stmts-loop-stmt l =
    with_parts t.more_stmts (map c.view_stmt l.so_far.done) (first (d.stmts (names_of l.table) (items_of l.table) (env_at (view_ty l.gives) l.depth (framed l.so_far.locals.items (locals l.scope))) (stmts_of (map view_stmt (drop l.stmt-index l.stmts)) (option_map view_expr (out-Block l.block).last))))
    ≡ first (d.stmts (names_of l.table) (items_of l.table) (env_at (view_ty l.gives) l.depth (locals l.scope)) (stmts_of (map view_stmt l.stmts) (option_map view_expr (out-Block l.block).last)))
