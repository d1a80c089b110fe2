use Rattle.std.proofs.Common.{ap, ◌∙◌}
use Rattle.vale_registers.specs.Shares.{texts_in}
use Rattle.vale_registers.specs.Texts.{text_at}
use Rattle.vale_registers.proofs.Rows.{blank_behind}
use Rattle.vale_registers.proofs.row.reach.Goals as goal

pub blanks-preserved : goal.blanks-preserved
blanks-preserved c = λ i. ap (λ l. text_at (texts_in l) i) c.in_ok-push.ensures.items ∙ blank_behind c.blanks.shares.items i ∙ c.blanks.invariant i
