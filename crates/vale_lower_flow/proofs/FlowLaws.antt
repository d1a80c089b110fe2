-- What follows a part, and where two ways meet, by whether a run comes there.
use Rattle.std.proofs.Common.{◌≡◌, ℕ, zero, suc, ◌≤◌, List, [], ◌∷◌, ◌++◌, length, refl, ap, arith, append_assoc, length-append}
use Rattle.std.specs.Prelude.{Bool, true, false, ◌&&◌, if◌then◌else◌, slice_set}
use Rattle.vale_code.specs.declared.instr.Instr.{Instr}
use Rattle.vale_lowering_objects.specs.Scopes.{Scope, Gone, After, same_gone, may_meet, closes}
use Rattle.vale_lower_flow.specs.Flow.{after_of}

-- a place where no instruction stands yet
pub set_past : (xs : List Instr) (n : ℕ) (x : Instr) → length xs ≤ n → slice_set xs n x ≡ xs
set_past [] n x h = refl
set_past (y ∷ ys) zero x h = absurd (omega arith)
set_past (y ∷ ys) (suc n) x h = ap (λ (zs : List Instr). y ∷ zs) (set_past ys n x (omega arith))

pub meets_by_test : (s : Scope) (k l : Bool) (g g' : Gone) → may_meet s (after_of k g) (after_of l g') ≡ (if k && l then same_gone s g g' else true)
meets_by_test s true true g g' = refl
meets_by_test s true false g g' = refl
meets_by_test s false l g g' = refl

pub closes_by_test : (s : Scope) (k : Bool) (g g' : Gone) → closes s g (after_of k g') ≡ (if k then same_gone s g g' else true)
closes_by_test s true g g' = refl
closes_by_test s false g g' = refl

pub ruleset begins = (append_assoc, length-append)

pub ruleset meets = (meets_by_test)

pub ruleset closings = (closes_by_test)
