use Rattle.std.proofs.Common.{◌≡◌, sym, ap, subst, ◌∙◌, arith}
use Rattle.vale_heap_rows.specs.CallLists.{all_after, MayCallAll, IsNamed}
use Rattle.vale_heap_rows.proofs.CallListLaws.{can_run, run_named, opened_named}
use Rattle.vale_heap_rows.proofs.call_lists.replies.Goals as goal

pub run-requires : goal.run-requires
run-requires c =
    let session = c.in_ok-session.session in
    let may : MayCallAll c.args.depth 1 0 c.args.calls.items = subst (MayCallAll c.args.depth 1 0) c.deref.ensures.value c.in-Some.ensures.may in
    can_run session.heap session.table session.places.items c.args.depth 1 0 c.args.calls.items (opened_named session.heap session.table session.places.items c.args.depth c.in_ok-session.ensures.tied c.in_ok-session.ensures.depth) (omega arith) may

pub run-requires-2 : goal.run-requires-2
run-requires-2 c =
    let session = c.in_ok-session.session in
    let new = c.run.new.self in
    let may : MayCallAll c.args.depth 1 0 c.args.calls.items = subst (MayCallAll c.args.depth 1 0) c.deref.ensures.value c.in-Some.ensures.may in
    let was = opened_named session.heap session.table session.places.items c.args.depth c.in_ok-session.ensures.tied c.in_ok-session.ensures.depth in
    let regions : c.in-Some.regions ≡ all_after c.args.calls.items 1 = c.in-Some.ensures.after ∙ ap (λ l. all_after l 1) c.deref.ensures.value in
    let named : IsNamed new.heap new.table new.places.items c.args.depth c.in-Some.regions =
    subst (IsNamed new.heap new.table new.places.items c.args.depth) (sym regions)
    (run_named session.heap session.table session.places.items c.args.depth 1 0 c.args.calls.items was (omega arith) may new.heap new.table new.places.items c.in_ok-early.early.items c.in_ok-early.ensures.follows c.in_ok-early.ensures.depth) in
    let later : MayCallAll c.args.depth c.in-Some.regions c.len-names.result c.args.later.items = subst (MayCallAll c.args.depth c.in-Some.regions c.len-names.result) c.deref-2.ensures.value c.in-Some-all_after.ensures.may in
    can_run new.heap new.table new.places.items c.args.depth c.in-Some.regions c.len-names.result c.args.later.items named (omega (arith, c.len-names.ensures)) later
