use Rattle.std.proofs.Common.{◌≡◌, ◌-◌}
use Rattle.vale_codec.specs.Format.{many_read}
use Rattle.vale_file_spec.specs.File.{func}
use Rattle.vale_codec.proofs.Loops.{with_front}
use Rattle.vale_file_reader.proofs.funcs.read_each_func.Given as goal

abbrev pub invariant-loop : goal.invariant-loop
invariant-loop l = with_front l.parts.items (many_read func (l.count - l.counter) l.rest) ≡ many_read func l.count l.bytes
