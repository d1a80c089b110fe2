use Rattle.std.proofs.Common.{◌≡◌, drop}
use Rattle.std.specs.List.{list_all}
use Rattle.std.specs.Prelude.{nat_lt}
use Rattle.vale_shape.proofs.funcs.are_params.Given as goal

-- what is left decides
abbrev pub invariant-loop-n : goal.invariant-loop-n
invariant-loop-n l = list_all (λ n. nat_lt n l.count) (drop l.n-index l.live) ≡ list_all (λ n. nat_lt n l.count) l.live
