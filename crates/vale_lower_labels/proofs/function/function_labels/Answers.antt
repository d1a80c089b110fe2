use Rattle.std.proofs.Common.{[], ◌∙◌}
use Rattle.vale_core.specs.View.{view_function}
use Rattle.vale_label_steps.specs.Standing.{framed}
use Rattle.vale_lower_labels.proofs.FunctionLaws.{function_by_parts}
use Rattle.vale_lower_labels.proofs.function.function_labels.Goals as goal

pub returns : goal.returns
returns c =
    c.from_vec.ensures
    ∙ function_by_parts (view_function c.args.function.now) c.in_ok-labels.labels c.value_type-result_type.result c.in_ok-frame.frame.next (framed c.in_ok-frame.frame.locals.items []) c.in_ok-frame.frame.over c.args.registers
    c.value_type-result_type.ensures (rw c.as_slice.ensures at c.in_ok-frame.ensures.next) (rw c.as_slice.ensures at c.in_ok-frame.ensures.locals) c.in_ok-frame.ensures.over c.in_ok-labels.ensures
