use Rattle.std.proofs.Common.{◌-◌, ◌+◌, length}
use Rattle.std.specs.Fn.{FnReturnsAt}
use Rattle.vale_reading.specs.Turns.{FoundAll, Turns}
use Rattle.vale_reading.proofs.lists.many.Given as goal

-- what the turns that are left may give, all of them may
abbrev pub invariant-loop : goal.invariant-loop
invariant-loop g l =
    (result : FoundAll _ _) → Turns (FnReturnsAt g.F.Fn l.turn) (length l.tokens + 1 - l.counter) l.items l.rest result → Turns (FnReturnsAt g.F.Fn l.turn) (length l.tokens + 1) l.fn.items l.tokens result
