-- The texts and the functions that are kept with their numbers.
use Rattle.std.specs.Prelude.{ℕ, Bool, List, map, Option, Some, None, if◌then◌else◌}
use Rattle.vale_rules_spec.specs.Typed.{Function}
use Rattle.vale_core.specs.View.{view_function}
use Rattle.vale_model.specs.Parts.{has_name, first_function}
use Rattle.vale_lowering.specs.Scopes.{number_of_function, may_be_called}
use Rattle.vale_lower_expr.specs.declared.texts.Texts.{Texts}
use Rattle.vale_lower_expr.specs.declared.functions.Functions.{Functions}

abbrev pub texts_of : Texts → List (List ℕ)
texts_of t = t.all.now

abbrev pub functions_of : Functions → List Function
functions_of f = map (λ g. view_function g.now) f.all.items

-- the number of the function that the name stands for, where it may be called so
abbrev pub called : Bool → ℕ → List Function → Option ℕ
called gives n fs = if may_be_called gives (first_function (has_name n) fs) then Some (number_of_function (has_name n) fs) else None
