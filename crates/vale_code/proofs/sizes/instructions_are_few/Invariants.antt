use Rattle.std.proofs.Common.{◌≡◌, ◌+◌, ◌<◌, drop}
use Rattle.vale_code.specs.Sizes.{instructions, parts_limit}
use Rattle.vale_code.proofs.sizes.instructions_are_few.Given as goal

abbrev pub invariant-loop-func : goal.invariant-loop-func
invariant-loop-func l = record {
  left : 0 < l.room;
  limit : instructions l.funcs + l.room ≡ instructions (drop l.func-index l.funcs) + parts_limit;
}
