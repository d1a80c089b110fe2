use Rattle.std.proofs.Common.{ap, ◌∙◌}
use Rattle.vale_code.specs.declared.func.Func.{Func}
use Rattle.vale_lower_facts.specs.Marks.{function_facts}
use Rattle.vale_lower.proofs.WholeLaws.{facts_next, facts_all}
use Rattle.vale_lower.proofs.facts.all_facts.Goals as goal

pub loop-at-preserved : goal.loop-at-preserved
loop-at-preserved c = λ p texts fs e.
    facts_next p texts fs c.args.funcs.now c.args.functions.now c.loop-at.at c.index-functions-at.result c.index-funcs-at.result c.in_ok-function_facts.field-0 c.loop-at.facts c.push.new.self
    c.loop-at-test.true c.index-functions-at.is c.index-funcs-at.is c.in_ok-push.ensures.pushed (λ er. c.in_ok-function_facts.ensures p texts fs (er ∙ ap (λ (x : Func). x.registers) c.index-funcs-at.is)) e (c.loop-at.invariant p texts fs e)

pub returns : goal.returns
returns c = λ p texts fs e.
    facts_all (function_facts p texts fs) c.loop-at.facts c.args.functions.now c.loop-at.at c.loop-at-test.false (c.loop-at.invariant p texts fs e)
