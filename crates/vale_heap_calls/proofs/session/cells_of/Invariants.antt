use Rattle.std.proofs.Common.{◌≡◌, ◌++◌, map}
use Rattle.vale_heap.specs.Standing.{DenoteAll}
use Rattle.vale_heap_calls.specs.Calls.{value_of}
use Rattle.vale_heap_calls.proofs.session.cells_of.Given as goal

abbrev pub invariant-loop-value : goal.invariant-loop-value
invariant-loop-value l = record {
  kept : DenoteAll l.places l.cells.items (map value_of l.yielded);
  rest : l.yielded ++ l.value-iterator.rest.items ≡ l.initial.value-iterator.rest.items;
}
