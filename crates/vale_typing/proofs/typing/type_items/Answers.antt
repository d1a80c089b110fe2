use Rattle.std.proofs.Common.{List, ◌∷◌, ◌+◌, map, drop, ap, ◌∙◌}
use Rattle.std.specs.Prelude.{Result, Ok}
use Rattle.vale_syntax.specs.declared.fault.Fault.{Fault}
use Rattle.vale_syntax.specs.declared.tree.Item.{Item}
use Rattle.vale_rules_spec.specs.Judged.{first}
use Rattle.vale_rules_spec.specs.Typed as t
use Rattle.vale_rules_spec.specs.Typing.{in_item, in_items}
use Rattle.vale_syntax.specs.View.{view_item}
use Rattle.vale_core.specs.View as core
use Rattle.vale_lookup.specs.Table.{names_of, items_of}
use Rattle.vale_typed_parts.proofs.LoopLaws.{pair_passes, seen_passes, parts_end, listed_all}
use Rattle.vale_typing.proofs.typing.type_items.Goals as goal

pub loop-item-preserved : goal.loop-item-preserved
loop-item-preserved c =
    let names = names_of c.args.table.now in
    let items = items_of c.args.table.now in
    let all = c.args.items.now in
    let i = c.loop-item.item-index in
    let x = c.item-item.result in
    let z = c.in_ok-item.item in
    let rest : List Item → Result (List t.Item) Fault = λ xs. first (in_items names items (map view_item xs)) in
    rw (c.in_ok-push.ensures.ok, c.into_inner.ensures)
    (seen_passes ◌∷◌ core.view_item c.loop-item.done all i x x (rest all) rest (rest (drop (i + 1) all)) z c.loop-item-test.true c.item-item.is
    (pair_passes (λ v. v.0 ∷ v.1) (in_item names items (view_item x)) (core.view_item z) (in_items names items (map view_item (drop (i + 1) all))) c.in_ok-item.ensures)
    c.loop-item.invariant)

pub returns : goal.returns
returns c =
    let done = map core.view_item c.loop-item.done in
    let all = c.args.items.now in
    let rest : List Item → Result (List t.Item) Fault = λ xs. first (in_items (names_of c.args.table.now) (items_of c.args.table.now) (map view_item xs)) in
    parts_end ◌∷◌ done all c.loop-item.item-index (rest all) rest c.loop-item-test.false c.loop-item.invariant ∙ ap Ok (listed_all done)
