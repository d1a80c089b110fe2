use Rattle.std.proofs.Common.{◌≡◌, take}
use Rattle.vale_typed_parts.proofs.copies.copy_heads.Given as goal

-- the first of them are copied
abbrev pub invariant-loop-head : goal.invariant-loop-head
invariant-loop-head l = l.done ≡ take l.head-index l.heads
