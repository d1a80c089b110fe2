use Rattle.std.proofs.Common.{◌≡◌, ◌++◌}
use Rattle.vale_codec.specs.Numbers.{spell}
use Rattle.vale_codec.proofs.numbers.write_number.Given as goal

abbrev pub invariant-loop-rest : goal.invariant-loop-rest
invariant-loop-rest l = l.out.items ++ spell l.rest ≡ l.fn.out.items ++ spell l.number

abbrev pub decreases-loop-rest : goal.decreases-loop-rest
decreases-loop-rest l = l.rest
