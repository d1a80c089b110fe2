use Rattle.std.proofs.Common.{◌≡◌, ◌++◌, take}
use Rattle.std.specs.List.{flat_map}
use Rattle.vale_file_spec.specs.File.{method}
use Rattle.vale_file_writer.proofs.kinds.write_each_method.Given as goal

abbrev pub invariant-loop-part : goal.invariant-loop-part
invariant-loop-part l = l.out.items ≡ l.fn.out.items ++ flat_map method.write (take l.part-index l.parts)
