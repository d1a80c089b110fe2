use Rattle.std.proofs.Common.{ℕ, Option, sym, ap, ◌∙◌}
use Rattle.vale_cert.specs.Walk.{has_target, is_place, next_of, target_of}
use Rattle.vale_verifier.proofs.WalkLaws.{both_hold, first_fails}
use Rattle.vale_verifier.proofs.judge.leads_on.Goals as goal

pub returns-then-has_or_none : goal.returns-then-has_or_none
returns-then-has_or_none c = λ code base.
    let labels = c.args.labels.now in
    let f = c.args.func.now in
    both_hold c.has_or_none.result c.has_next.result
    (has_target code f labels base (target_of c.args.instr.now)) (is_place code f labels base (next_of code f labels base c.args.place c.args.instr.now))
    (ap (λ (o : Option ℕ). has_target code f labels base o) (sym c.target_of-target.ensures) ∙ c.label_of-aim.ensures.has code f base ∙ sym c.has_or_none.ensures)
    (sym (c.has_next.ensures code labels base))
    c.if-has_or_none.true

pub returns-else-has_or_none : goal.returns-else-has_or_none
returns-else-has_or_none c = λ code base.
    let labels = c.args.labels.now in
    let f = c.args.func.now in
    first_fails c.has_or_none.result
    (has_target code f labels base (target_of c.args.instr.now)) (is_place code f labels base (next_of code f labels base c.args.place c.args.instr.now))
    (ap (λ (o : Option ℕ). has_target code f labels base o) (sym c.target_of-target.ensures) ∙ c.label_of-aim.ensures.has code f base ∙ sym c.has_or_none.ensures)
    c.if-has_or_none.false
