use Rattle.std.proofs.Common.{◌<◌, length, sym, ap, subst, arith}
use Rattle.vale_heap.specs.HeapState.{HeapState}
use Rattle.vale_heap_calls.specs.declared.call.Reply.TheVariants.{Done}
use Rattle.vale_heap_calls.specs.Tied.{CanCall, Follows}
use Rattle.vale_heap_calls.proofs.StepLaws.{keep_can, keep_law, merge_can, merge_name, merge_law, open_law, close_law, clear_law}
use Rattle.vale_heap_calls.proofs.session.Session.call.Goals as goal

pub freeze_keep-requires-clause-root : goal.freeze_keep-requires-clause-root
freeze_keep-requires-clause-root c = keep_can c.args.self.now.heap c.args.self.now.table c.args.self.now.places.items c.in-FreezeKeep.name c.index.result.now c.index.ensures (subst (CanCall c.args.self.now.heap c.args.self.now.table c.args.self.now.places.items) c.in-FreezeKeep.is c.requires)

pub index-requires-in-Merge : goal.index-requires-in-Merge
index-requires-in-Merge c =
    let within : c.in-Merge.name < length c.args.self.now.places.items = merge_name c.args.self.now.heap c.args.self.now.table c.args.self.now.places.items c.in-Merge.name (subst (CanCall c.args.self.now.heap c.args.self.now.table c.args.self.now.places.items) c.in-Merge.is c.requires) in
    omega (arith, within, c.args.self.now.places.ok)

pub merge-requires : goal.merge-requires
merge-requires c = merge_can c.args.self.now.heap c.args.self.now.table c.args.self.now.places.items c.in-Merge.name c.index-in-Merge.result.now c.index-in-Merge.ensures (subst (CanCall c.args.self.now.heap c.args.self.now.table c.args.self.now.places.items) c.in-Merge.is c.requires)

pub returns-in-FreezeIn-clause-follows : goal.returns-in-FreezeIn-clause-follows
returns-in-FreezeIn-clause-follows c =
    subst (λ k. Follows c.args.self.now.heap c.freeze_in.new.self c.args.self.now.table c.args.self.now.table c.args.self.now.places.items c.args.self.now.places.items k Done) (sym c.in-FreezeIn.is)
    (open_law c.args.self.now.heap c.freeze_in.new.self c.args.self.now.table c.args.self.now.places.items c.freeze_in.ensures.keeps c.freeze_in.ensures.stands (ap (λ (h : HeapState). h.regions) c.freeze_in.ensures.after))

pub returns-in-FreezeMerge-clause-follows : goal.returns-in-FreezeMerge-clause-follows
returns-in-FreezeMerge-clause-follows c =
    subst (λ k. Follows c.args.self.now.heap c.freeze_merge.new.self c.args.self.now.table c.args.self.now.table c.args.self.now.places.items c.args.self.now.places.items k Done) (sym c.in-FreezeMerge.is)
    (close_law c.args.self.now.heap c.freeze_merge.new.self c.args.self.now.table c.args.self.now.places.items c.freeze_merge.ensures.keeps c.freeze_merge.ensures.stands (ap (λ (h : HeapState). h.regions) c.freeze_merge.ensures.after))

pub returns-in-FreezeKeep-clause-follows : goal.returns-in-FreezeKeep-clause-follows
returns-in-FreezeKeep-clause-follows c =
    subst (λ k. Follows c.args.self.now.heap c.freeze_keep.new.self c.args.self.now.table c.args.self.now.table c.args.self.now.places.items c.args.self.now.places.items k Done) (sym c.in-FreezeKeep.is)
    (keep_law c.args.self.now.heap c.args.self.now.table c.args.self.now.places.items c.in-FreezeKeep.name c.index.result.now c.index.ensures c.freeze_keep.new.self c.freeze_keep.ensures.stands c.freeze_keep.ensures.keeps (ap (λ (h : HeapState). h.regions) c.freeze_keep.ensures.after))

pub returns-in-FreezeClear-clause-follows : goal.returns-in-FreezeClear-clause-follows
returns-in-FreezeClear-clause-follows c =
    subst (λ k. Follows c.args.self.now.heap c.freeze_clear.new.self c.args.self.now.table c.args.self.now.table c.args.self.now.places.items c.args.self.now.places.items k Done) (sym c.in-FreezeClear.is)
    (clear_law c.args.self.now.heap c.freeze_clear.new.self c.args.self.now.table c.args.self.now.places.items c.freeze_clear.ensures.keeps c.freeze_clear.ensures.stands c.freeze_clear.ensures.after.regions)

pub returns-in-Merge-clause-follows : goal.returns-in-Merge-clause-follows
returns-in-Merge-clause-follows c =
    subst (λ k. Follows c.args.self.now.heap c.merge.new.self c.args.self.now.table c.args.self.now.table c.args.self.now.places.items c.args.self.now.places.items k Done) (sym c.in-Merge.is)
    (merge_law c.args.self.now.heap c.args.self.now.table c.args.self.now.places.items c.in-Merge.name c.index-in-Merge.result.now c.index-in-Merge.ensures c.merge.new.self c.merge.ensures.stands c.merge.ensures.keeps (ap (λ (h : HeapState). h.regions) c.merge.ensures.after))
