use Rattle.std.proofs.Common.{◌≡◌, ◌++◌, length}
use Rattle.std.specs.List.{flat_map}
use Rattle.vale_file_spec.specs.File.{func, beside}
use Rattle.vale_file_writer.proofs.content.write_each_func.Given as goal

abbrev pub invariant-loop-left : goal.invariant-loop-left
invariant-loop-left l = l.out.items ++ flat_map func.write (beside l.left l.known) ≡ l.fn.out.items ++ flat_map func.write (beside l.parts l.facts)

abbrev pub decreases-loop-left : goal.decreases-loop-left
decreases-loop-left l = length l.left
