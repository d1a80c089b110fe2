use Rattle.std.proofs.Common.{◌≡◌, ◌-◌, length, take}
use Rattle.vale_owner_flow.specs.Places.{place_of}
use Rattle.vale_owner_flow.proofs.locals.place_of.Given as goal

-- none after these has the name
abbrev pub invariant-loop-back : goal.invariant-loop-back
invariant-loop-back l = place_of l.name.0 (take (length l.locals - l.back) l.locals) ≡ place_of l.name.0 l.locals
