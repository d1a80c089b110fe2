use Rattle.std.proofs.Common.{◌≡◌, map, drop}
use Rattle.std.specs.List.{list_all}
use Rattle.vale_syntax.specs.View.{view_param}
use Rattle.vale_served_spec.specs.Served.{param_is_served}
use Rattle.vale_front.proofs.served.params_are_served.Given as goal

abbrev pub invariant-loop-param : goal.invariant-loop-param
invariant-loop-param l = list_all param_is_served (map view_param (drop l.param-index l.params)) ≡ list_all param_is_served (map view_param l.params)
