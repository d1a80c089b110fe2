use Rattle.std.proofs.Common.{Ok}
use Rattle.vale_code.specs.declared.instr.Instr.TheVariants as i
use Rattle.vale_file_spec.specs.Instructions.{two_words}
use Rattle.vale_codec.proofs.Loops.{fails_on, reads_on}
use Rattle.vale_file_reader.proofs.instrs.read_operands_0_to_10.Goals as goal

pub returns-in-Err-read_two_words : goal.returns-in-Err-read_two_words
returns-in-Err-read_two_words c =
    rw c.in-2.is (fails_on c.in-Err-read_two_words.fault (two_words.read c.args.bytes.now) (λ x. Ok (i.Text x.0.0 x.0.1, x.1)) c.in-Err-read_two_words.ensures)

pub returns-in-Ok-read_two_words : goal.returns-in-Ok-read_two_words
returns-in-Ok-read_two_words c =
    rw c.in-2.is (reads_on (two_words.read c.args.bytes.now) ((c.in-Ok-read_two_words.to, c.in-Ok-read_two_words.text), c.in-Ok-read_two_words.rest.now) (λ x. Ok (i.Text x.0.0 x.0.1, x.1)) c.in-Ok-read_two_words.ensures)
