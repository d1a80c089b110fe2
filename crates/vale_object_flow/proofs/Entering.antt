-- The registers of a function that is entered, by names.
use Rattle.std.proofs.Common.{◌≡◌, ℕ, zero, suc, ◌-◌, ◌++◌, List, [], ◌∷◌, length, map, replicate, Option, Some, None, refl, sym, ap, ◌∙◌}
use Rattle.vale_state_spec.specs.World.{Value}
use Rattle.vale_state_spec.specs.World.{Ref as reference}
use Rattle.vale_code.specs.Registers.{registers_for}
use Rattle.vale_heap.specs.declared.body.Cell.{Cell}
use Rattle.vale_heap.specs.declared.body.Place.{Place}
use Rattle.vale_object_cells.specs.Names.{name_at, value_in, values_in}
use Rattle.vale_object_passing.specs.Passing.{object_cells}

pub values_append : (names : List Place) (xs ys : List (Option Cell)) → values_in names (xs ++ ys) ≡ values_in names xs ++ values_in names ys
values_append names [] ys = refl
values_append names (x ∷ xs) ys = ap (λ l. value_in names x ∷ l) (values_append names xs ys)

abbrev no_cell : Option Cell
no_cell = None

abbrev no_value : Option Value
no_value = None

pub values_none : (names : List Place) (n : ℕ) → values_in names (replicate n no_cell) ≡ replicate n no_value
values_none names zero = refl
values_none names (suc n) = ap (λ l. None ∷ l) (values_none names n)

some_append : (xs ys : List Value) → map Some (xs ++ ys) ≡ map Some xs ++ map Some ys
some_append [] ys = refl
some_append (x ∷ xs) ys = ap (λ l. Some x ∷ l) (some_append xs ys)

-- what a method gets before its arguments
abbrev pub object_values : List Place → Option Place → List Value
object_values names None = []
object_values names (Some p) = reference (name_at names p) ∷ []

object_is : (names : List Place) (object : Option Place) → values_in names (object_cells object) ≡ map Some (object_values names object)
object_is names None = refl
object_is names (Some p) = refl

pub registers_are : (names : List Place) (object : Option Place) (cells : List (Option Cell)) (values : List Value) (n count : ℕ) → values_in names cells ≡ map Some values → count - length (object_values names object ++ values) ≡ n
    → values_in names (object_cells object ++ cells ++ replicate n None) ≡ registers_for count (object_values names object ++ values)
registers_are names object cells values n count is left =
    values_append names (object_cells object ++ cells) (replicate n None)
    ∙ ap (λ l. l ++ values_in names (replicate n None))
    (values_append names (object_cells object) cells
    ∙ ap (λ l. l ++ values_in names cells) (object_is names object)
    ∙ ap (λ l. map Some (object_values names object) ++ l) is
    ∙ sym (some_append (object_values names object) values))
    ∙ ap (λ l. map Some (object_values names object ++ values) ++ l) (values_none names n)
    ∙ ap (λ k. map Some (object_values names object ++ values) ++ replicate k None) (sym left)
