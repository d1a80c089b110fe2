use Rattle.std.proofs.Common.{◌≡◌, [], ◌∷◌, map, refl, sym, true, subst}
use Rattle.std.proofs.lemmas.Result.{err_from_is_err_and}
use Rattle.vale_syntax.specs.declared.tree.Item.{Item}
use Rattle.vale_rules_spec.specs.Judged.{stopped, one_by_one}
use Rattle.vale_syntax.specs.View.{view_item}
use Rattle.vale_rules_spec.specs.DeclFaults.{item_faults}
use Rattle.vale_types.specs.Plain.{is_plain}
use Rattle.vale_types.proofs.LoopLaws.{part_passes, part_fails, parts_end, one_of_all}
use Rattle.vale_types.proofs.items.check_items.Goals as goal

pub loop-item-init : goal.loop-item-init
loop-item-init c = (
  [],
  record { names = λ n. c.new.ensures n.name.0; dropped = λ n. c.new-2.ensures n.name.0; has_main = refl },
  refl,
)

pub check_item-requires : goal.check_item-requires
check_item-requires c = record {
  knows = c.requires.knows;
  main = c.requires.main;
  plain = subst (λ (x : Item). is_plain (view_item x) ≡ true) (sym c.item-item.is) (one_of_all is_plain view_item c.args.items.now c.loop-item.item-index c.item-item.result c.loop-item-test.true c.requires.plain);
}

pub loop-item-preserved : goal.loop-item-preserved
loop-item-preserved c =
    let judge = item_faults c.args.names.now (map view_item c.args.items.now) in
    let so_far = c.loop-item.invariant.0 in
    let kept = c.loop-item.invariant.1 in (
      view_item c.item-item.result ∷ so_far,
      c.in_ok-put.ensures so_far kept,
      part_passes judge view_item so_far c.args.items.now c.loop-item.item-index c.item-item.result (stopped (one_by_one judge [] (map view_item c.args.items.now)) (tt {0})) c.loop-item-test.true c.item-item.is (c.in_ok-check_item.ensures so_far kept) c.loop-item.invariant.2,
    )

pub returns-in_err-check_item : goal.returns-in_err-check_item
returns-in_err-check_item c =
    let judge = item_faults c.args.names.now (map view_item c.args.items.now) in
    let so_far = c.loop-item.invariant.0 in
    let p = err_from_is_err_and c.from_residual.result c.from_residual.ensures.1 in
    rw (p.1, p.2) (part_fails judge view_item so_far c.args.items.now c.loop-item.item-index c.item-item.result (stopped (one_by_one judge [] (map view_item c.args.items.now)) (tt {0})) c.in_err-check_item.field-0.0 c.loop-item-test.true c.item-item.is (c.in_err-check_item.ensures so_far c.loop-item.invariant.1) c.loop-item.invariant.2)

pub returns : goal.returns
returns c =
    let judge = item_faults c.args.names.now (map view_item c.args.items.now) in
    parts_end judge view_item c.loop-item.invariant.0 c.args.items.now c.loop-item.item-index (stopped (one_by_one judge [] (map view_item c.args.items.now)) (tt {0})) c.loop-item-test.false c.loop-item.invariant.2
