use Rattle.std.proofs.Common.{map, refl}
use Rattle.std.proofs.lemmas.Result.{err_from_is_err_and}
use Rattle.vale_core.specs.View.{view_item}
use Rattle.vale_rules_spec.specs.Owned.{item_faults, items_faults}
use Rattle.vale_owner.proofs.FunctionLaws.{faults_next, faults_stop, faults_done}
use Rattle.vale_owner.proofs.ownership.own_items.Goals as goal

pub loop-item-preserved : goal.loop-item-preserved
loop-item-preserved c =
    faults_next (λ xs. items_faults c.args.names.now (map view_item xs)) (λ x. item_faults c.args.names.now (view_item x)) (λ x xs. refl)
    c.args.items.now c.loop-item.item-index c.item-item.result c.item-item.result c.loop-item-test.true c.item-item.is _ c.in_ok-own_item.ensures c.loop-item.invariant

pub returns-in_err-own_item : goal.returns-in_err-own_item
returns-in_err-own_item c =
    let p = err_from_is_err_and c.from_residual.result c.from_residual.ensures.1 in
    rw (p.1, p.2)
    (faults_stop (λ xs. items_faults c.args.names.now (map view_item xs)) (λ x. item_faults c.args.names.now (view_item x)) (λ x xs. refl)
    c.args.items.now c.loop-item.item-index c.item-item.result c.item-item.result c.loop-item-test.true c.item-item.is _ c.in_err-own_item.field-0.0 c.in_err-own_item.ensures c.loop-item.invariant)

pub returns : goal.returns
returns c = faults_done (λ xs. items_faults c.args.names.now (map view_item xs)) refl c.args.items.now c.loop-item.item-index _ c.loop-item-test.false c.loop-item.invariant
