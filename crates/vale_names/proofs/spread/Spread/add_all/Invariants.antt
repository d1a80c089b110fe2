use Rattle.std.proofs.Common.{take}
use Rattle.vale_names.specs.Spread.{Spreads}
use Rattle.vale_names.proofs.spread.Spread.add_all.Given as goal

-- the names so far are added
abbrev pub invariant-loop-name : goal.invariant-loop-name
invariant-loop-name l = Spreads (take l.name-index l.names) l.fn.self l.self
