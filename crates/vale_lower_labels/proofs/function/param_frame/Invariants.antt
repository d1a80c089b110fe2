use Rattle.std.proofs.Common.{◌≡◌, [], map, drop}
use Rattle.std.specs.Prelude.{false}
use Rattle.vale_syntax.specs.View.{view_param}
use Rattle.vale_lower_facts.specs.Marks.{param_slots}
use Rattle.vale_label_steps.specs.Standing.{framed}
use Rattle.vale_lower_labels.proofs.function.param_frame.Given as goal

-- the parameters so far, and those that are left
abbrev pub invariant-loop-param : goal.invariant-loop-param
invariant-loop-param l = record {
  next : l.frame.next ≡ l.param-index;
  locals : param_slots l.frame.next (map view_param (drop l.param-index l.params)) (framed l.frame.locals.items []) ≡ param_slots 0 (map view_param l.params) [];
  over : l.frame.over ≡ false;
}
