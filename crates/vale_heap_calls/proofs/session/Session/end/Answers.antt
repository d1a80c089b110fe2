use Rattle.std.proofs.Common.{ap}
use Rattle.vale_heap.specs.HeapState.{HeapState}
use Rattle.vale_heap_calls.proofs.StepLaws.{end_no_root, end_alive, end_dead}
use Rattle.vale_heap_calls.proofs.session.Session.end.Goals as goal

pub end-requires-clause-no_root : goal.end-requires-clause-no_root
end-requires-clause-no_root c = end_no_root _ _ _ c.args.name c.index.result.now c.index.ensures c.requires

pub returns-in-Some-clause-follows : goal.returns-in-Some-clause-follows
returns-in-Some-clause-follows c = end_alive _ _ _ c.args.name c.index.result.now c.index.ensures c.end.new.self c.in-Some.body c.in-Some.ensures.found c.in-Some.ensures.stands c.in-Some.ensures.keeps (ap (λ (h : HeapState). h.regions) c.in-Some.ensures.ended.now)

pub returns-in-None-clause-follows : goal.returns-in-None-clause-follows
returns-in-None-clause-follows c = end_dead _ _ _ c.args.name c.index.result.now c.index.ensures c.end.new.self c.in-None.ensures.found c.in-None.ensures.none
