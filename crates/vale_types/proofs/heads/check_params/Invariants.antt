use Rattle.std.proofs.Common.{◌≡◌, List, [], map, drop}
use Rattle.vale_syntax.specs.Tree.{Param}
use Rattle.vale_rules_spec.specs.Judged.{stopped, one_by_one}
use Rattle.vale_syntax.specs.View.{view_item, view_param}
use Rattle.vale_rules_spec.specs.Declarations.{param_name}
use Rattle.vale_rules_spec.specs.DeclFaults.{param_faults}
use Rattle.vale_types.specs.Before.{AreNamesOf}
use Rattle.vale_types.proofs.heads.check_params.Given as goal

-- the names are those of the parameters so far, and the parameters that are left give what all of them give
abbrev pub invariant-loop-param : goal.invariant-loop-param
invariant-loop-param l = (ps : List Param) × AreNamesOf param_name l.before ps × (stopped (one_by_one (param_faults (map view_item l.items)) ps (map view_param (drop l.param-index l.params))) (tt {0}) ≡ stopped (one_by_one (param_faults (map view_item l.items)) [] (map view_param l.params)) (tt {0}))
