-- A loop over parts, each judged with those before it.
use Rattle.std.proofs.Common.{◌≡◌, ℕ, ◌+◌, ◌<◌, ◌≤◌, List, [], ◌∷◌, length, get_or, drop, map, sym, ◌∙◌, ap, arith, zero, suc}
use Rattle.std.specs.Prelude.{Bool, true, Result, Ok, Err}
use Rattle.std.specs.List.{list_all}
use Rattle.std.proofs.lemmas.Bool.{and_parts}
use Rattle.std.proofs.lemmas.List.{drop_more, drop_all}
use Rattle.vale_base.specs.declared.fault.Fail.{Fail}
use Rattle.vale_base.specs.declared.fault.Fail.TheVariants.{Memory, Is}
use Rattle.vale_syntax.specs.declared.fault.Fault.{Fault}
use Rattle.vale_rules_spec.specs.Judged.{stopped, one_by_one, Gives}
use Rattle.vale_types.proofs.RowLaws.{next_part, faulty_part}

module _ {X Y : Type 0} (judge : List Y → Y → List Fault) (view : X → Y) (before : List Y) (xs : List X) where
  -- the answer to the parts that are left
  abbrev pub rest_from : ℕ → Result (Unit {0}) Fault
  rest_from k = stopped (one_by_one judge before (map view (drop k xs))) (tt {0})

  pub at_part : (k : ℕ) (x : X) → k < length xs → x ≡ get_or xs k x → rest_from k ≡ stopped (one_by_one judge before (view x ∷ map view (drop (k + 1) xs))) (tt {0})
  at_part k x l is =
      ap (λ (ys : List X). stopped (one_by_one judge before (map view ys)) (tt {0})) (drop_more xs k x l)
      ∙ ap (λ (y : X). stopped (one_by_one judge before (view y ∷ map view (drop (k + 1) xs))) (tt {0})) (sym is)

  pub part_passes : (k : ℕ) (x : X) (whole : Result (Unit {0}) Fault) → k < length xs → x ≡ get_or xs k x → stopped (judge before (view x)) (tt {0}) ≡ Ok (tt {0}) → rest_from k ≡ whole
      → stopped (one_by_one judge (view x ∷ before) (map view (drop (k + 1) xs))) (tt {0}) ≡ whole
  part_passes k x whole l is fine e = sym (next_part judge before (view x) (map view (drop (k + 1) xs)) (tt {0}) fine) ∙ sym (at_part k x l is) ∙ e

  pub part_fails : (k : ℕ) (x : X) (whole : Result (Unit {0}) Fault) (fail : Fail Fault) → k < length xs → x ≡ get_or xs k x → Gives {X = Unit {0}} (λ y. y) (Err fail) (stopped (judge before (view x)) (tt {0})) → rest_from k ≡ whole → Gives {X = Unit {0}} (λ y. y) (Err fail) whole
  part_fails k x whole Memory l is faulty e = tt {0}
  part_fails k x whole (Is f) l is faulty e = sym e ∙ at_part k x l is ∙ faulty_part judge before (view x) (map view (drop (k + 1) xs)) (tt {0}) f faulty

  pub parts_end : (k : ℕ) (whole : Result (Unit {0}) Fault) → length xs ≤ k → rest_from k ≡ whole → whole ≡ Ok (tt {0})
  parts_end k whole l e = sym e ∙ ap (λ (ys : List X). stopped (one_by_one judge before (map view ys)) (tt {0})) (drop_all k xs l)

-- a part of a list whose parts all pass
pub one_of_all : {X Y : Type 0} (test : Y → Bool) (view : X → Y) (xs : List X) (k : ℕ) (d : X) → k < length xs → list_all test (map view xs) ≡ true → test (view (get_or xs k d)) ≡ true
one_of_all test view [] k d l e = absurd (omega arith)
one_of_all test view (x ∷ xs) zero d l e = (and_parts (test (view x)) (list_all test (map view xs)) e).0
one_of_all test view (x ∷ xs) (suc k) d l e = one_of_all test view xs k d (omega arith) (and_parts (test (view x)) (list_all test (map view xs)) e).1
