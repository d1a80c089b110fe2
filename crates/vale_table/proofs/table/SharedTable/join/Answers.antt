use Rattle.std.proofs.Common.{arith, ap, sym, ◌∙◌, subst, ◌<◌, ℕ}
use Rattle.vale_table.specs.Steps.{IsSane}
use Rattle.vale_table.specs.Marks.{mark}
use Rattle.vale_table.proofs.SeatLemmas.{joins}
use Rattle.vale_table.proofs.ViewLemmas.{root_of, worker_of, either_out, joins_as}
use Rattle.vale_table.proofs.table.SharedTable.join.Goals as goal

pub join_seat-requires : goal.join_seat-requires
join_seat-requires g c =
    let t = c.args.self.now in
    let root = root_of c.args.seat.now.token.table_id c.args.seat.now.token.me.0 c.requires.root in
    let worker = worker_of c.args.other.token.table_id c.args.other.token.table_id c.args.other.token.me.0 c.args.other.rests c.requires.worker in
    (c.requires.table.0, c.requires.table.1, c.args.other.empty, omega (arith, t.words, t.positive), joins _ _ _ _ _ _ root worker)

pub invariant_of-seat : goal.invariant_of-seat
invariant_of-seat g c =
    let j = c.join_seat.ensures in
    let t = c.tell.ensures in
    let seat = c.args.seat.now in
    let slots = ap (λ i. i.slots) c.requires.table.0 in
    let sane = λ (f : ℕ) (near : f < seat.token.table_id.slots). subst (λ y. IsSane (mark y f)) (sym (ap (λ m. m.0) t.same)) (t.sane f (omega (arith, near, slots, c.args.self.now.slots))) in
    let r = joins_as seat.token.table_id c.args.other.token.table_id c.tell.new.token.table_id seat.token.me.0 c.args.other.token.me.0 c.tell.new.token.me.0
    (c.requires.table.1 ∙ sym c.requires.table.0) (t.table ∙ j.0) (ap (λ m. m.0) (t.same ∙ j.2)) seat.rests c.args.other.rests sane in
    record {
      empty = ap (λ m. m.1) (t.same ∙ j.2) ∙ seat.empty;
      passed = λ f near. r.1.out f ∙ either_out _ _ f seat.next c.args.other.next _ near c.max-seat.ensures (seat.passed f) (c.args.other.passed f);
      rests = r.0;
    }

pub returns-clause-joined : goal.returns-clause-joined
returns-clause-joined g c =
    let j = c.join_seat.ensures in
    let t = c.tell.ensures in
    let seat = c.args.seat.now in
    let slots = ap (λ i. i.slots) c.requires.table.0 in
    let sane = λ (f : ℕ) (near : f < seat.token.table_id.slots). subst (λ y. IsSane (mark y f)) (sym (ap (λ m. m.0) t.same)) (t.sane f (omega (arith, near, slots, c.args.self.now.slots))) in
    let r = joins_as seat.token.table_id c.args.other.token.table_id c.tell.new.token.table_id seat.token.me.0 c.args.other.token.me.0 c.tell.new.token.me.0
    (c.requires.table.1 ∙ sym c.requires.table.0) (t.table ∙ j.0) (ap (λ m. m.0) (t.same ∙ j.2)) seat.rests c.args.other.rests sane in
    r.1
