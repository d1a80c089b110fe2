use Rattle.std.proofs.Common.{sym, ap, ◌∙◌, arith}
use Rattle.vale_registers.specs.Shares.{share_text}
use Rattle.vale_registers.proofs.Rows.{found, past}
use Rattle.vale_registers.proofs.row.held.Goals as goal

pub returns-then-register-shares : goal.returns-then-register-shares
returns-then-register-shares c = sym (past c.args.shares.now c.args.register (omega (arith, c.if-register-shares.true)))

pub returns-in-Blank : goal.returns-in-Blank
returns-in-Blank c =
    let r = c.index-shares-register in
    sym (found c.args.shares.now c.args.register r.result (omega (arith, c.if-register-shares.false)) ∙ ap share_text (sym r.is ∙ c.in-Blank.is))

pub returns-in_ok-clone-in-Of : goal.returns-in_ok-clone-in-Of
returns-in_ok-clone-in-Of c =
    let r = c.index-shares-register in
    c.in_ok-clone-in-Of.ensures.cases ∙ sym (found c.args.shares.now c.args.register r.result (omega (arith, c.if-register-shares.false)) ∙ ap share_text (sym r.is ∙ c.in-Of.is))
