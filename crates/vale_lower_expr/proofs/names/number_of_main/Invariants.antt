use Rattle.std.proofs.Common.{◌≡◌, ◌+◌, map, drop}
use Rattle.std.specs.Prelude.{codes}
use Rattle.vale_rules_spec.specs.Declarations.{is_called, head_name}
use Rattle.vale_core.specs.View.{view_function}
use Rattle.vale_model.specs.Kinds.{head_of}
use Rattle.vale_lowering.specs.Scopes.{number_of_function}
use Rattle.vale_lower_expr.proofs.names.number_of_main.Given as goal

abbrev pub invariant-loop-function : goal.invariant-loop-function
invariant-loop-function l = l.at + number_of_function (λ f. is_called l.names (codes "main") (head_name (head_of f))) (map (λ g. view_function g.now) (drop l.function-index l.functions)) ≡ number_of_function (λ f. is_called l.names (codes "main") (head_name (head_of f))) (map (λ g. view_function g.now) l.functions)
