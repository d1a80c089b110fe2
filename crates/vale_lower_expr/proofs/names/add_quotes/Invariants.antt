use Rattle.std.proofs.Common.{◌≡◌, ◌++◌, drop}
use Rattle.std.specs.Prelude.{flat_map}
use Rattle.vale_core.specs.View.{view_function}
use Rattle.vale_lowering.specs.Texts.{function_quotes}
use Rattle.vale_lower_expr.proofs.names.add_quotes.Given as goal

abbrev pub invariant-loop-function : goal.invariant-loop-function
invariant-loop-function l = l.texts ++ flat_map (λ g. function_quotes (view_function g.now)) (drop l.function-index l.functions) ≡ l.initial.texts ++ flat_map (λ g. function_quotes (view_function g.now)) l.functions
