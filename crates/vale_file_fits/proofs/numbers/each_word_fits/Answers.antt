use Rattle.std.proofs.Common.{arith}
use Rattle.vale_file_fits.proofs.PartFits.{words_all}
use Rattle.vale_file_fits.proofs.numbers.each_word_fits.Goals as goal

pub returns : goal.returns
returns c = words_all c.args.numbers.now (λ i. omega (arith, c.type_inv.numbers i))
