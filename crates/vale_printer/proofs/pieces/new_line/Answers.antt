use Rattle.std.proofs.Common.{append_assoc, arith}
use Rattle.vale_printer.proofs.ByteLaws.{spaces_more}
use Rattle.vale_printer.proofs.pieces.new_line.Goals as goal

pub loop-preserved : goal.loop-preserved
loop-preserved c = grind (arith, append_assoc, spaces_more c.loop.counter)
