use Rattle.vale_lower_expr.specs.Numbered.{text_place}
use Rattle.vale_lower_expr.proofs.NumberLaws.{text_next}
use Rattle.vale_lower_expr.proofs.texts.first_places.Goals as goal

pub loop-at-preserved : goal.loop-at-preserved
loop-at-preserved c = λ q.
    text_next (text_place c.loop-at.places q.now) (text_place c.add.new.self q.now) q.now c.index-all-at.result c.as_slice.result.now c.loop-at.at c.args.all.now
    c.loop-at-test.true c.index-all-at.is c.as_slice.ensures (c.in_ok-add.ensures q) (c.loop-at.invariant q)
