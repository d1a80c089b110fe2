use Rattle.std.proofs.Common.{◌≡◌, take, true}
use Rattle.std.specs.List.{list_all}
use Rattle.vale_verifier.specs.Walking.{has_room}
use Rattle.vale_verifier.proofs.walk.most_registers.Given as goal

-- room for those so far
abbrev pub invariant-loop-func : goal.invariant-loop-func
invariant-loop-func l = list_all (has_room l.most) (take l.func-index l.funcs) ≡ true
