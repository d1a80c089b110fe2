use Rattle.std.proofs.Common.{◌+◌, ◌<◌, ℕ, Option, sym, ap, ◌∙◌, arith}
use Rattle.vale_cert.specs.Known.{Known}
use Rattle.vale_cert.specs.Walk.{enters, next_of, target_of}
use Rattle.vale_verifier.proofs.WalkLaws.{both_hold, first_fails, next_enters}
use Rattle.vale_verifier.proofs.judge.enters_labels.Goals as goal

pub returns-then-may_enter : goal.returns-then-may_enter
returns-then-may_enter c = λ code f base.
    let labels = c.args.labels.now in
    let known : Known = record { depth = c.args.depth; regs = c.args.regs.now } in
    let later : c.args.place < c.args.place + 1 = omega arith in
    both_hold c.may_enter.result c.may_enter-then-may_enter.result
    (enters code f labels base (target_of c.args.instr.now) known) (enters code f labels base (next_of code f labels base c.args.place c.args.instr.now) known)
    (ap (λ (o : Option ℕ). enters code f labels base o known) (sym c.target_of-target.ensures) ∙ c.label_of-aim.ensures.enters code f base known ∙ sym c.may_enter.ensures)
    (sym (next_enters code f labels c.args.left.now base c.args.place c.args.instr.now known (c.requires.same (c.args.place + 1) later))
    ∙ c.label_behind-next.ensures code f base known ∙ sym c.may_enter-then-may_enter.ensures)
    c.if-may_enter.true

pub returns-else-may_enter : goal.returns-else-may_enter
returns-else-may_enter c = λ code f base.
    let labels = c.args.labels.now in
    let known : Known = record { depth = c.args.depth; regs = c.args.regs.now } in
    first_fails c.may_enter.result
    (enters code f labels base (target_of c.args.instr.now) known) (enters code f labels base (next_of code f labels base c.args.place c.args.instr.now) known)
    (ap (λ (o : Option ℕ). enters code f labels base o known) (sym c.target_of-target.ensures) ∙ c.label_of-aim.ensures.enters code f base known ∙ sym c.may_enter.ensures)
    c.if-may_enter.false
