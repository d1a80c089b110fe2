-- The larger of numbers.
use Rattle.std.proofs.Common.{◌≡◌, ℕ, ◌+◌, arith}
use Rattle.std.specs.Prelude.{max}

pub max_in_turn : (a b c : ℕ) → max (max a b) c ≡ max a (max b c)
max_in_turn a b c = omega arith

pub max_zero : (a : ℕ) → max 0 a ≡ a
max_zero a = omega arith

pub max_last : (a : ℕ) → max a 0 ≡ a
max_last a = omega arith

pub max_above : (a b : ℕ) → max (a + 1) (b + 1) ≡ max a b + 1
max_above a b = omega arith

pub ruleset larger_laws = (max_in_turn, max_zero, max_last, max_above)
