use Rattle.std.proofs.Common.{◌≡◌, [], map, drop}
use Rattle.vale_syntax.specs.View.{view_param}
use Rattle.vale_model.specs.Parts.{param_names}
use Rattle.vale_lowering.specs.Scopes.{parameters}
use Rattle.vale_lower_expr.specs.Entries.{framed}
use Rattle.vale_lower_code.proofs.function.param_frame.Given as goal

-- the parameters so far, and those that are left
abbrev pub invariant-loop-param : goal.invariant-loop-param
invariant-loop-param l = record {
  next : l.frame.next ≡ l.param-index;
  locals : parameters l.frame.next (param_names (map view_param (drop l.param-index l.params))) (framed l.frame.locals.items []) ≡ parameters 0 (param_names (map view_param l.params)) [];
}
