use Rattle.std.proofs.Common.{◌≡◌, ◌++◌, take}
use Rattle.std.specs.List.{flat_map}
use Rattle.vale_file_spec.specs.File.{label_write}
use Rattle.vale_file_writer.proofs.funcs.write_each_label.Given as goal

abbrev pub invariant-loop-part : goal.invariant-loop-part
invariant-loop-part l = l.out.items ≡ l.fn.out.items ++ flat_map label_write (take l.part-index l.parts)
