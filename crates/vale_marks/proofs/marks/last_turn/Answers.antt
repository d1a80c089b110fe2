use Rattle.std.proofs.Common.{sym, ◌∙◌}
use Rattle.vale_marks.proofs.marks.last_turn.Goals as goal

pub returns-clause-last : goal.returns-clause-last
returns-clause-last c = λ same n. sym (c.same_marks.ensures same n) ∙ c.turn.ensures n
