use Rattle.std.proofs.Common.{ap, sym, ◌∙◌}
use Rattle.std.specs.Prelude.{true}
use Rattle.std.specs.Option.{option_or}
use Rattle.vale_rules_spec.specs.Judged.{first_of}
use Rattle.vale_core.specs.declared.tree.ElseIf.{out-ElseIf}
use Rattle.vale_core.specs.View.{view_expr}
use Rattle.vale_region_spec.specs.Regions.{expr_faults}
use Rattle.vale_region_rules.specs.Items.{items_of}
use Rattle.vale_region.proofs.WalkLaws.{else_if_by_parts}
use Rattle.vale_region.proofs.walk.+walk.Goals as goal

pub else_if_fault-returns : goal.else_if_fault-returns
else_if_fault-returns t c =
    c.earlier.ensures
    ∙ ap (λ x. option_or x c.block_fault-block.result) c.expr_fault.ensures
    ∙ ap (option_or (first_of (expr_faults (items_of c.args.signatures.now) c.args.around true (view_expr (out-ElseIf c.args.else_if.now).condition)))) c.block_fault-block.ensures
    ∙ sym (else_if_by_parts (items_of c.args.signatures.now) c.args.around c.args.else_if.now)
