-- What is found by places is what is found by walking.
use Rattle.std.proofs.Common.{◌≡◌, ℕ, suc, ◌+◌, List, [], ◌∷◌, Option, Some, None, refl, ap, sym, ◌∙◌, arith}
use Rattle.std.specs.Prelude.{Bool, true, false, if◌then◌else◌}
use Rattle.std.specs.List.{slice_get}
use Rattle.std.specs.Option.{option_and_then, option_or}
use Rattle.vale_rules_spec.specs.Typed.{Item}
use Rattle.vale_region_spec.specs.RegionRules.{name_of, is_name, item_named}
use Rattle.vale_region_rules.specs.Places.{place_from}

-- a place is added after those that were there, before those that are left
pub add_place : (o : Option ℕ) (b : Bool) (at : ℕ) (rest : Option ℕ) → option_or (option_or o (if b then Some at else None)) rest ≡ option_or o (if b then Some at else rest)
add_place None true at rest = refl
add_place None false at rest = refl
add_place (Some k) b at rest = refl

choose : (b : Bool) (find : ℕ → Option Item) (at : ℕ) (rest : Option ℕ) (here there : Option Item) → find at ≡ here → option_and_then find rest ≡ there → option_and_then find (if b then Some at else rest) ≡ (if b then here else there)
choose true find at rest here there e g = e
choose false find at rest here there e g = g

-- of all items, those that are left go on so from this place
found_from : (all : List Item) (at : ℕ) (xs : List Item) (n : ℕ) → ((i : ℕ) → slice_get xs i ≡ slice_get all (at + i)) → option_and_then (slice_get all) (place_from at xs n) ≡ item_named xs n
found_from all at [] n same = refl
found_from all at (x ∷ xs) n same =
    let here : slice_get all at ≡ Some x = (let e : at ≡ at + 0 = omega arith in ap (slice_get all) e) ∙ sym (same 0) in
    let later : (i : ℕ) → slice_get xs i ≡ slice_get all ((at + 1) + i) = λ i. (let e : at + suc i ≡ (at + 1) + i = omega arith in same (suc i) ∙ ap (slice_get all) e) in
    choose (is_name (name_of x) n) (slice_get all) at (place_from (at + 1) xs n) (Some x) (item_named xs n) here (found_from all (at + 1) xs n later)

pub item_found : (items : List Item) (n : ℕ) → option_and_then (slice_get items) (place_from 0 items n) ≡ item_named items n
item_found items n = found_from items 0 items n (λ i. let e : i ≡ 0 + i = omega arith in ap (slice_get items) e)
