use Rattle.vale_text.proofs.NumeralLaws.{read_again, is_int_fits}
use Rattle.vale_text.proofs.laws.written_is_read.Goals as goal

pub returns : goal.returns
returns c = read_again c.args.n (is_int_fits c.args.n c.ranges.n)
