-- The levels that are left.
use Rattle.std.proofs.Common.{◌≡◌, ◌-◌, ◌<◌, ℕ, zero, suc, List, Some, None, refl, ap, arith}
use Rattle.vale_reading.specs.Reading.{inner_of, within}
use Rattle.vale_reading.specs.ItemReading.{one_fewer}

pub within_none : (names : List (List ℕ)) (d : ℕ) → d ≡ 0 → within names d ≡ None
unfolding within
within_none names zero h = refl
within_none names (suc d) h = absurd (omega arith)

pub within_more : (names : List (List ℕ)) (d e : ℕ) → e < d → e ≡ d - 1 → within names d ≡ Some (inner_of names (within names e))
unfolding within
within_more names zero e lt h = absurd (omega arith)
within_more names (suc d) e lt h = let same : d ≡ e = omega arith in ap (λ (n : ℕ). Some (inner_of names (within names n))) same

pub one_none : (d : ℕ) → d ≡ 0 → one_fewer d ≡ None
one_none zero h = refl
one_none (suc d) h = absurd (omega arith)

pub one_more : (d e : ℕ) → e < d → e ≡ d - 1 → one_fewer d ≡ Some e
one_more zero e lt h = absurd (omega arith)
one_more (suc d) e lt h = let same : d ≡ e = omega arith in ap (λ (n : ℕ). Some n) same
