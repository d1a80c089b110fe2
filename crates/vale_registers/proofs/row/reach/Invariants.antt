use Rattle.std.proofs.Common.{◌≡◌, ℕ, suc, ◌-◌, length}
use Rattle.vale_registers.specs.Shares.{texts_in}
use Rattle.vale_registers.specs.Texts.{text_at}
use Rattle.vale_registers.proofs.row.reach.Given as goal

-- no text is another
abbrev pub invariant-blanks : goal.invariant-blanks
invariant-blanks l = (i : ℕ) → text_at (texts_in l.shares.items) i ≡ text_at (texts_in l.fn.shares.items) i

abbrev pub decreases-blanks : goal.decreases-blanks
decreases-blanks l = suc l.register - length l.shares.items
