use Rattle.std.proofs.Common.{◌≡◌, ◌++◌, map, Some}
use Rattle.vale_table.proofs.plain.PlainTable.open.Given as goal

abbrev pub invariant-loop-page : goal.invariant-loop-page
invariant-loop-page g l = record {
  kept : l.pages.items ≡ map Some l.yielded;
  rest : l.yielded ++ l.page-iterator.rest.items ≡ l.initial.page-iterator.rest.items;
}
