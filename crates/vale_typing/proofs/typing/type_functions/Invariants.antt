use Rattle.std.proofs.Common.{◌≡◌, ◌∷◌, drop, map}
use Rattle.vale_rules_spec.specs.Judged.{first}
use Rattle.vale_rules_spec.specs.Typing.{in_functions}
use Rattle.vale_syntax.specs.View.{view_function}
use Rattle.vale_core.specs.View as c
use Rattle.vale_lookup.specs.Table.{names_of, items_of}
use Rattle.vale_typed_parts.proofs.LoopLaws.{with_parts}
use Rattle.vale_typing.proofs.typing.type_functions.Given as goal

-- what is done, with what those that are left give, is what all of them give
abbrev pub invariant-loop-function : goal.invariant-loop-function
invariant-loop-function l = with_parts ◌∷◌ (map c.view_function l.done) (first (in_functions (names_of l.table) (items_of l.table) (map view_function (drop l.function-index l.functions)))) ≡ first (in_functions (names_of l.table) (items_of l.table) (map view_function l.functions))
