use Rattle.std.proofs.Common.{sym, ◌∙◌, ap}
use Rattle.std.specs.Prelude.{option_copied}
use Rattle.vale_heap.proofs.StandLaws.{looked_law}
use Rattle.vale_heap.proofs.heap.Heap.look_live.Goals as goal

pub returns-clause-stands : goal.returns-clause-stands
returns-clause-stands c = looked_law _ _ c.args.at _ (sym (ap option_copied c.in-Some.is) ∙ c.find.ensures)
