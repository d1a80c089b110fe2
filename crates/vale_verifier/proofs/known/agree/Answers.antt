use Rattle.std.proofs.Common.{sym, ◌∙◌}
use Rattle.vale_verifier.proofs.KnownLaws.{too_few_facts}
use Rattle.vale_verifier.proofs.known.agree.Goals as goal

pub returns-in-empty : goal.returns-in-empty
returns-in-empty c = sym (too_few_facts c.args.stated.now c.loop-one.left.now c.loop-one.one-index c.loop-one-test.true c.in-empty.len_below) ∙ c.loop-one.invariant
