use Rattle.std.proofs.Common.{◌≡◌, take}
use Rattle.vale_typed_parts.proofs.copies.copy_params.Given as goal

-- the first of them are copied
abbrev pub invariant-loop-param : goal.invariant-loop-param
invariant-loop-param l = l.done ≡ take l.param-index l.params
