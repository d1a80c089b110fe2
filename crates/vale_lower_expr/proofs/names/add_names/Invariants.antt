use Rattle.std.proofs.Common.{◌≡◌, ◌++◌, [], map, drop}
use Rattle.std.specs.Prelude.{slice_index_or}
use Rattle.vale_core.specs.View.{view_function}
use Rattle.vale_model.specs.Parts.{name_of}
use Rattle.vale_lower_expr.proofs.names.add_names.Given as goal

abbrev pub invariant-loop-function : goal.invariant-loop-function
invariant-loop-function l = l.texts ++ map (λ g. slice_index_or l.names (name_of (view_function g.now)) []) (drop l.function-index l.functions) ≡ l.initial.texts ++ map (λ g. slice_index_or l.names (name_of (view_function g.now)) []) l.functions
