use Rattle.std.proofs.Common.{◌+◌, ◌||◌, [], ◌∷◌, map, drop, sym, subst, ap, ◌∙◌}
use Rattle.vale_syntax.specs.View.{view_item}
use Rattle.vale_rules_spec.specs.Declarations.{iso_holders}
use Rattle.vale_names.specs.declared.spread.Spread.{Spread}
use Rattle.vale_names.specs.Isos.{is_in}
use Rattle.vale_names.specs.Spread.{finds, awaits, Spreads}
use Rattle.vale_names.proofs.EdgeLaws.{holder_on, holder_past}
use Rattle.vale_names.proofs.SpreadLaws.{all_await}
use Rattle.vale_names.proofs.reach.holders.Goals.{in-Some+in_ok-add, in_default}
use Rattle.vale_names.proofs.reach.holders.Goals as goal

pub loop-item-preserved : goal.loop-item-preserved
loop-item-preserved c =
    let items = c.args.items.now in
    let k = c.loop-item.item-index in
    let x = c.item-item.result in
    let now = c.loop-item.spread in
    let new = c.match-iso_holder.spread in
    let inv = c.loop-item.invariant in
    elim c.match-iso_holder.branch [
      | in-Some+in_ok-add w ↦
          let adds : Spreads (w.in-Some.name ∷ []) now new = subst (λ (s : Spread). Spreads (w.in-Some.name ∷ []) now s) (sym w.spread-is) w.in_ok-add.ensures in
          record {
            found = λ n. holder_on items k x w.in-Some.name n (finds now n) (finds new n) (is_in (iso_holders (map view_item items)) n) c.loop-item-test.true c.item-item.is (sym c.iso_holder.ensures ∙ w.in-Some.is) (adds.found n) (inv.found n);
            todo = all_await (w.in-Some.name ∷ []) now new inv.todo adds;
          }
      | in_default w ↦ record {
        found = λ n. ap (λ (s : Spread). finds s n || is_in (iso_holders (map view_item (drop (k + 1) items))) n) w.spread-is ∙ holder_past items k x n (finds now n) (is_in (iso_holders (map view_item items)) n) c.loop-item-test.true c.item-item.is (sym c.iso_holder.ensures ∙ w.in_default.is) (inv.found n);
        todo = λ n. ap (λ (s : Spread). awaits s n) w.spread-is ∙ (inv.todo n ∙ ap (λ (s : Spread). finds s n) (sym w.spread-is));
      }
    ]
