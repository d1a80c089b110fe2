use Rattle.vale_heap.proofs.StandLaws.{put_law}
use Rattle.vale_heap.proofs.heap.Heap.make.Goals as goal

pub returns-in-Some-clause-stands : goal.returns-in-Some-clause-stands
returns-in-Some-clause-stands g c below low away names world values stood cells below_known away_known low_is =
    put_law _ _ c.args.body _ below low away names world values c.put_at.ensures.put stood cells
