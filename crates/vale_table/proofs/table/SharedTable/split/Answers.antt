use Rattle.std.proofs.Common.{arith, ap, ◌∙◌}
use Rattle.vale_table.specs.Marks.{mark}
use Rattle.vale_table.proofs.SeatLemmas.{splits}
use Rattle.vale_table.proofs.ViewLemmas.{root_of, worker_out, right_rests, rests_as, splits_as}
use Rattle.vale_table.proofs.table.SharedTable.split.Goals as goal

pub split_seat-requires : goal.split_seat-requires
split_seat-requires g c =
    let t = c.args.self.now in
    (c.requires.table, omega (arith, t.words, t.positive), splits _ _ _ _ (root_of c.args.seat.now.token.table_id c.args.seat.now.token.me.0 c.requires.root))

pub invariant_of-result : goal.invariant_of-result
invariant_of-result g c =
    let e = c.split_seat.ensures in
    let seat = c.args.seat.now in
    record {
      empty = ap (λ m. m.1) e.4;
      passed = λ f near. ap (λ m. (mark m.0 f).is_out) e.4 ∙ worker_out seat.token.me.0 f ∙ seat.passed f near;
      rests = rests_as seat.token.table_id.slots _ _ _ (ap (λ t. t.slots) e.3) (ap (λ m. m.0) e.4) (right_rests seat.token.table_id seat.token.me.0);
    }

pub returns-clause-split : goal.returns-clause-split
returns-clause-split g c =
    let e = c.split_seat.ensures in
    splits_as _ _ _ _ _ _ e.0 e.3 (ap (λ m. m.0) e.2) (ap (λ m. m.0) e.4)
