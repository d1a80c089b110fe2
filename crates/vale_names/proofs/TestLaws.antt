-- Tests that are joined.
use Rattle.std.proofs.Common.{◌≡◌, refl, sym}
use Rattle.std.specs.Prelude.{Bool, true, false, not, ◌||◌}

pub or_here : (a b : Bool) → a ≡ true → (a || b) ≡ true
or_here true b e = refl
or_here false b e = cc

pub or_there : (a b : Bool) → b ≡ true → (a || b) ≡ true
or_there true b e = refl
or_there false b e = e

pub or_none : (a : Bool) → (a || false) ≡ a
or_none true = refl
or_none false = refl

pub or_or : (a b c : Bool) → ((a || b) || c) ≡ (a || (b || c))
or_or true b c = refl
or_or false b c = refl

pub not_true : (b : Bool) → not b ≡ true → b ≡ false
not_true true e = sym e
not_true false e = refl

pub same_tests : (a b : Bool) → (a ≡ true → b ≡ true) → (b ≡ true → a ≡ true) → a ≡ b
same_tests true b f g = sym (f refl)
same_tests false true f g = g refl
same_tests false false f g = refl
