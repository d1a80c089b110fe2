-- The first fault of parts that stand one after another.
use Rattle.std.proofs.Common.{◌≡◌, ℕ, List, [], ◌∷◌, ◌++◌, Option, Some, None, refl}
use Rattle.std.specs.Option.{option_or}
use Rattle.vale_base.specs.declared.spot.Spot.{Spot}
use Rattle.vale_syntax.specs.declared.fault.Fault.{Fault}
use Rattle.vale_rules_spec.specs.Judged.{own, fault_of, first_of, broken, stopped, Rules}
use Rattle.vale_region_spec.specs.Found.{found_at, verdict}

pub first_append : (fs gs : List Fault) → first_of (fs ++ gs) ≡ option_or (first_of fs) (first_of gs)
first_append [] gs = refl
first_append (f ∷ fs) gs = refl

pub or_or : (a b c : Option Fault) → option_or a (option_or b c) ≡ option_or (option_or a b) c
or_or None b c = refl
or_or (Some f) b c = refl

first_code : (at : Spot) (code : Option ℕ) → first_of (fault_of at code) ≡ found_at at code
first_code at None = refl
first_code at (Some code) = refl

pub first_own : (at : Spot) (rules : Rules) → first_of (own at rules) ≡ found_at at (broken rules)
first_own at rules = first_code at (broken rules)

pub verdict_is : (fs : List Fault) → verdict (first_of fs) ≡ stopped fs (tt {0})
verdict_is [] = refl
verdict_is (f ∷ fs) = refl
