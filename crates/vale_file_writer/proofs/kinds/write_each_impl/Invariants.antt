use Rattle.std.proofs.Common.{◌≡◌, ◌++◌, take}
use Rattle.std.specs.List.{flat_map}
use Rattle.vale_file_spec.specs.File.{impl_info}
use Rattle.vale_file_writer.proofs.kinds.write_each_impl.Given as goal

abbrev pub invariant-loop-part : goal.invariant-loop-part
invariant-loop-part l = l.out.items ≡ l.fn.out.items ++ flat_map impl_info.write (take l.part-index l.parts)
