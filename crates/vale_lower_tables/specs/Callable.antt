-- The functions that are kept with their numbers.
use Rattle.std.specs.Prelude.{List, map}
use Rattle.vale_rules_spec.specs.Typed.{Function}
use Rattle.vale_core.specs.View.{view_function}
use Rattle.vale_lower_tables.specs.declared.functions.Callee.{Callee}
use Rattle.vale_lower_tables.specs.declared.functions.Functions.{Functions}

abbrev pub functions_of : Functions → List Function
functions_of f = map (λ g. view_function g.now) f.all.items

abbrev pub function_in : Callee → Function
function_in c = view_function c.function.now
