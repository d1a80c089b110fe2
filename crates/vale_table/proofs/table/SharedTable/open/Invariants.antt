use Rattle.std.proofs.Common.{◌≡◌, ◌++◌, replicate, length, map, Some}
use Rattle.vale_table.proofs.table.SharedTable.open.Given as goal

abbrev pub invariant-loop-page : goal.invariant-loop-page
invariant-loop-page g l = record {
  words : l.words.items ≡ replicate (length l.yielded) l.first;
  slots : l.slots.items ≡ map Some l.yielded;
  rest : l.yielded ++ l.page-iterator.rest.items ≡ l.initial.page-iterator.rest.items;
}
