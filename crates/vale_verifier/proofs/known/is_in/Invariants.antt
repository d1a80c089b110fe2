use Rattle.std.proofs.Common.{◌≡◌, drop}
use Rattle.vale_cert.specs.Known.{is_in}
use Rattle.vale_verifier.proofs.known.is_in.Given as goal

-- what is left decides
abbrev pub invariant-loop-m : goal.invariant-loop-m
invariant-loop-m l = is_in l.n (drop l.m-index l.live) ≡ is_in l.n l.live
