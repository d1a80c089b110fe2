use Rattle.std.proofs.Common.{[], ◌∷◌, map, refl}
use Rattle.std.proofs.lemmas.Result.{err_from_is_err_and}
use Rattle.vale_rules_spec.specs.Judged.{stopped, one_by_one}
use Rattle.vale_syntax.specs.View.{view_item, view_param}
use Rattle.vale_rules_spec.specs.DeclFaults.{param_faults}
use Rattle.vale_types.proofs.LoopLaws.{part_passes, part_fails, parts_end}
use Rattle.vale_types.proofs.heads.check_params.Goals as goal

pub loop-param-init : goal.loop-param-init
loop-param-init c = ([], (λ n. c.new-before.ensures n.name.0), refl)

pub loop-param-preserved : goal.loop-param-preserved
loop-param-preserved c =
    let judge = param_faults (map view_item c.args.items.now) in
    let so_far = c.loop-param.invariant.0 in
    let names = c.loop-param.invariant.1 in (
      view_param c.param-item.result ∷ so_far,
      c.in_ok-check_param.ensures.names so_far names,
      part_passes judge view_param so_far c.args.params.now c.loop-param.param-index c.param-item.result (stopped (one_by_one judge [] (map view_param c.args.params.now)) (tt {0})) c.loop-param-test.true c.param-item.is (c.in_ok-check_param.ensures.fault so_far names) c.loop-param.invariant.2,
    )

pub returns-in_err-check_param : goal.returns-in_err-check_param
returns-in_err-check_param c =
    let judge = param_faults (map view_item c.args.items.now) in
    let so_far = c.loop-param.invariant.0 in
    let p = err_from_is_err_and c.from_residual.result c.from_residual.ensures.1 in
    rw (p.1, p.2) (part_fails judge view_param so_far c.args.params.now c.loop-param.param-index c.param-item.result (stopped (one_by_one judge [] (map view_param c.args.params.now)) (tt {0})) c.in_err-check_param.field-0.0 c.loop-param-test.true c.param-item.is (c.in_err-check_param.ensures.fault so_far c.loop-param.invariant.1) c.loop-param.invariant.2)

pub returns : goal.returns
returns c =
    let judge = param_faults (map view_item c.args.items.now) in
    parts_end judge view_param c.loop-param.invariant.0 c.args.params.now c.loop-param.param-index (stopped (one_by_one judge [] (map view_param c.args.params.now)) (tt {0})) c.loop-param-test.false c.loop-param.invariant.2
