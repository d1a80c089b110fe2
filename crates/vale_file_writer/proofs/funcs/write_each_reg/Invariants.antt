use Rattle.std.proofs.Common.{◌≡◌, ◌++◌, take}
use Rattle.std.specs.List.{flat_map}
use Rattle.vale_file_spec.specs.File.{reg}
use Rattle.vale_file_writer.proofs.funcs.write_each_reg.Given as goal

abbrev pub invariant-loop-part : goal.invariant-loop-part
invariant-loop-part l = l.out.items ≡ l.fn.out.items ++ flat_map reg.write (take l.part-index l.parts)
