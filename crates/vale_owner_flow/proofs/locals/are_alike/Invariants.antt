use Rattle.std.proofs.Common.{◌≡◌, drop}
use Rattle.vale_owner_flow.specs.Places.{alike}
use Rattle.vale_owner_flow.proofs.locals.are_alike.Given as goal

-- it is up to what is left of the two
abbrev pub invariant-loop-at : goal.invariant-loop-at
invariant-loop-at l = alike (drop l.at l.one) (drop l.at l.other) ≡ alike l.one l.other
