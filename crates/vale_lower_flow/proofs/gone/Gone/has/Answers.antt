use Rattle.vale_lower_flow.specs.Entries.{gone_of}
use Rattle.std.proofs.lemmas.Bool.{eq-eqb, ne_eqb}
use Rattle.std.proofs.lemmas.List.{get_or_default}
use Rattle.vale_lower_flow.proofs.ScopeLaws.{has_next, has_here}
use Rattle.vale_lower_flow.proofs.gone.Gone.has.Goals as goal

pub returns-then-registers-at : goal.returns-then-registers-at
unfolding gone_of
returns-then-registers-at c =
    rw c.as_slice-registers.ensures.value at
    (has_here c.args.register c.as_slice-registers.result.now c.loop-at.at _ _ c.loop-at-test.true (get_or_default _ _ _ _ c.loop-at-test.true) (eq-eqb _ _ c.if-registers-at.true) c.loop-at.invariant)

pub loop-at-preserved : goal.loop-at-preserved
loop-at-preserved c =
    has_next c.args.register c.as_slice-registers.result.now c.loop-at.at _ _ c.loop-at-test.true (get_or_default _ _ _ _ c.loop-at-test.true) (ne_eqb _ _ c.if-registers-at.false) c.loop-at.invariant
