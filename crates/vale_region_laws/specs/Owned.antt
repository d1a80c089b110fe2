-- How often a name is owned, and whether it is alive.
use Rattle.std.specs.Prelude.{ℕ, zero, suc, ◌+◌, List, [], ◌∷◌, Option, Some, None, slice_get}
use Rattle.vale_state_spec.specs.State.{living}
use Rattle.vale_state_spec.specs.World.{Value, Int, Truth, Text, Own, Ref, Iso, Object, World}

abbrev pub same : ℕ → ℕ → ℕ
same zero zero = 1
same zero (suc m) = 0
same (suc n) zero = 0
same (suc n) (suc m) = same n m

abbrev pub own : ℕ → Value → ℕ
own n (Own m) = same n m
own n (Iso m) = same n m
own n (Ref m) = 0
own n (Int z) = 0
own n (Truth b) = 0
own n (Text bytes) = 0

abbrev pub in_values : ℕ → List Value → ℕ
in_values n [] = 0
in_values n (v ∷ vs) = own n v + in_values n vs

abbrev pub in_object : ℕ → Option Object → ℕ
in_object n None = 0
in_object n (Some o) = in_values n o.values

abbrev pub in_world : ℕ → World → ℕ
in_world n [] = 0
in_world n (x ∷ xs) = in_object n x + in_world n xs

abbrev pub one_if : Option Object → ℕ
one_if None = 0
one_if (Some o) = 1

abbrev pub alive : ℕ → World → ℕ
alive n w = one_if (living (slice_get w n))
