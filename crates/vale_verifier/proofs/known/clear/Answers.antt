use Rattle.std.proofs.Common.{List, ap, ◌∙◌}
use Rattle.std.proofs.Math.ListN.{set}
use Rattle.vale_cert.specs.declared.facts.RegFact.{RegFact}
use Rattle.vale_cert.specs.declared.facts.RegFact.TheVariants.{Empty}
use Rattle.vale_verifier.proofs.KnownLaws.{one_empty}
use Rattle.vale_verifier.proofs.known.clear.Goals as goal

pub loop-fact-preserved : goal.loop-fact-preserved
loop-fact-preserved c =
    ap (λ (r : List RegFact). set r c.loop-fact.fact-index Empty) c.loop-fact.invariant
    ∙ one_empty c.args.regs.now c.loop-fact.fact-index c.loop-fact-test.true
