use Rattle.std.proofs.Common.{ap, ◌∙◌}
use Rattle.vale_registers.specs.Shares.{texts_in}
use Rattle.vale_registers.specs.Texts.{text_at}
use Rattle.vale_registers.proofs.Rows.{first_texts}
use Rattle.vale_registers.proofs.row.cut.Goals as goal

pub returns-then-count-len : goal.returns-then-count-len
returns-then-count-len c = λ i lt. ap (λ l. text_at (texts_in l) i) c.truncate.ensures.items ∙ first_texts c.args.shares.now.items c.args.count i lt
