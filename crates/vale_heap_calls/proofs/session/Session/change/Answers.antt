use Rattle.std.proofs.Common.{map, refl, subst}
use Rattle.std.specs.Prelude.{IsSome}
use Rattle.vale_heap.specs.declared.body.Body.{Body}
use Rattle.vale_heap.specs.HeapState.{look_in}
use Rattle.vale_heap.specs.Standing.{DenoteAll}
use Rattle.vale_heap_calls.specs.Calls.{value_of}
use Rattle.vale_heap_calls.proofs.StepLaws.{change_alive, change_dead}
use Rattle.vale_heap_calls.proofs.session.Session.change.Goals as goal

pub returns-in-Some-clause-follows : goal.returns-in-Some-clause-follows
returns-in-Some-clause-follows c =
    let denote : DenoteAll c.args.self.now.places.items c.in_ok-cells.cells (map value_of c.args.values) =
    subst (λ p. DenoteAll p c.in_ok-cells.cells (map value_of c.args.values)) c.deref.ensures.value c.in_ok-cells.ensures in
    let left : Body = record { kind = c.in-Some.body.now.kind; cells = c.in_ok-cells.cells } in
    let some : IsSome (look_in c.args.self.now.heap c.index.result.now) = subst (λ o. IsSome o) c.in-Some.ensures.value refl in
    change_alive c.args.self.now.heap c.args.self.now.table c.args.self.now.places.items c.args.name c.index.result.now c.index.ensures c.in-Some.body.now (record { kind = c.in-Some.body.now.kind; cells = c.in_ok-cells.cells }) c.args.values c.in-Some.ensures.found some (c.in-Some.ensures.stands left) (c.in-Some.ensures.keeps left) refl denote

pub returns-in-None-clause-follows : goal.returns-in-None-clause-follows
returns-in-None-clause-follows c = change_dead c.args.self.now.heap c.args.self.now.table c.args.self.now.places.items c.args.name c.index.result.now c.index.ensures c.args.self.now.heap c.args.values c.in-None.ensures.found refl
