use Rattle.std.proofs.Common.{◌∙◌}
use Rattle.vale_verifier.proofs.WalkLaws.{judged}
use Rattle.vale_verifier.proofs.judge.step.Goals as goal

pub returns-clause-rule : goal.returns-clause-rule
returns-clause-rule c = λ base.
    c.lowest.ensures
    ∙ judged c.args.here.now.code.now c.args.here.now.func.now c.args.here.now.labels.now base c.args.here.now.place c.args.here.now.came c.args.instr.now (record { depth = c.args.depth.now; regs = c.args.regs.now }) c.enters_labels-enters.result c.leads_on-leads.result
    (record { kept = c.row_of-row.result.kept; lives = c.row_of-row.result.lives; depth = c.row_of-row.result.depth; after = c.row_of-row.new.regs })
    c.row_of-row.ensures (c.enters_labels-enters.ensures c.args.here.now.code.now c.args.here.now.func.now base) (c.leads_on-leads.ensures c.args.here.now.code.now base)
