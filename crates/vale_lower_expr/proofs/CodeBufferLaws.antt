-- A place where no instruction stands yet.
use Rattle.std.proofs.Common.{◌≡◌, ℕ, zero, suc, ◌≤◌, List, [], ◌∷◌, length, refl, ap, arith}
use Rattle.std.specs.Prelude.{slice_set}
use Rattle.vale_code.specs.declared.instr.Instr.{Instr}

pub set_past : (xs : List Instr) (n : ℕ) (x : Instr) → length xs ≤ n → slice_set xs n x ≡ xs
set_past [] n x h = refl
set_past (y ∷ ys) zero x h = absurd (omega arith)
set_past (y ∷ ys) (suc n) x h = ap (λ (zs : List Instr). y ∷ zs) (set_past ys n x (omega arith))
