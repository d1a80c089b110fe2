use Rattle.std.proofs.Common.{◌≡◌, ◌+◌, map, drop}
use Rattle.vale_core.specs.View.{view_expr}
use Rattle.vale_label_steps.specs.Filling.{args_known}
use Rattle.vale_label_steps.proofs.known.hold_args.Given as goal

abbrev pub invariant-loop-at : goal.invariant-loop-at
invariant-loop-at l = args_known (map view_expr (drop l.at l.args)) (l.h + l.at) l.facts.items ≡ args_known (map view_expr l.args) l.h l.initial.facts.items
