use Rattle.std.proofs.Common.{[], ◌∷◌, map, refl}
use Rattle.std.proofs.lemmas.Result.{err_from_is_err_and}
use Rattle.vale_rules_spec.specs.Judged.{stopped, one_by_one}
use Rattle.vale_syntax.specs.View.{view_item, view_field}
use Rattle.vale_rules_spec.specs.DeclFaults.{field_faults}
use Rattle.vale_types.proofs.LoopLaws.{part_passes, part_fails, parts_end}
use Rattle.vale_types.proofs.heads.check_fields.Goals as goal

pub loop-field-init : goal.loop-field-init
loop-field-init c = ([], (λ n. c.new-before.ensures n.name.0), refl)

pub loop-field-preserved : goal.loop-field-preserved
loop-field-preserved c =
    let judge = field_faults (map view_item c.args.items.now) in
    let so_far = c.loop-field.invariant.0 in
    let names = c.loop-field.invariant.1 in (
      view_field c.field-item.result ∷ so_far,
      c.in_ok-check_field.ensures.names so_far names,
      part_passes judge view_field so_far c.args.fields.now c.loop-field.field-index c.field-item.result (stopped (one_by_one judge [] (map view_field c.args.fields.now)) (tt {0})) c.loop-field-test.true c.field-item.is (c.in_ok-check_field.ensures.fault so_far names) c.loop-field.invariant.2,
    )

pub returns-in_err-check_field : goal.returns-in_err-check_field
returns-in_err-check_field c =
    let judge = field_faults (map view_item c.args.items.now) in
    let so_far = c.loop-field.invariant.0 in
    let p = err_from_is_err_and c.from_residual.result c.from_residual.ensures.1 in
    rw (p.1, p.2) (part_fails judge view_field so_far c.args.fields.now c.loop-field.field-index c.field-item.result (stopped (one_by_one judge [] (map view_field c.args.fields.now)) (tt {0})) c.in_err-check_field.field-0.0 c.loop-field-test.true c.field-item.is (c.in_err-check_field.ensures.fault so_far c.loop-field.invariant.1) c.loop-field.invariant.2)

pub returns : goal.returns
returns c =
    let judge = field_faults (map view_item c.args.items.now) in
    parts_end judge view_field c.loop-field.invariant.0 c.args.fields.now c.loop-field.field-index (stopped (one_by_one judge [] (map view_field c.args.fields.now)) (tt {0})) c.loop-field-test.false c.loop-field.invariant.2
