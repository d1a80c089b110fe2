use Rattle.std.proofs.Common.{◌≡◌, ◌++◌}
use Rattle.std.specs.Prelude.{Contains}
use Rattle.vale_table.specs.Lending.{IsFull}
use Rattle.vale_table.specs.Plain.{frames_of, out_of}
use Rattle.vale_heap_calls.specs.declared.call.Reply.TheVariants.{NoPage}
use Rattle.vale_heap_calls.specs.Tied.{FollowAll}
use Rattle.vale_heap_calls.proofs.session.Session.run.Given as goal

abbrev pub invariant-loop-call : goal.invariant-loop-call
invariant-loop-call l = record {
  follow : FollowAll l.initial.self.heap l.self.heap l.initial.self.table l.self.table l.initial.self.places.items l.self.places.items l.yielded l.replies.items;
  depth : l.self.heap.depth ≡ l.initial.self.heap.depth;
  full : Contains l.replies.items NoPage → IsFull (frames_of l.self.table) (out_of l.self.table);
  rest : l.yielded ++ l.call-iterator.rest.items ≡ l.initial.call-iterator.rest.items;
}
