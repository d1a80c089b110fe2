use Rattle.std.proofs.Common.{arith, ap, ◌∙◌, ◌≡◌, ◌<◌, true}
use Rattle.vale_table.specs.Marks.{mark}
use Rattle.vale_table.proofs.ViewLemmas.{tried_as, found_out, passed_next}
use Rattle.vale_table.proofs.table.SharedTable.try_next.Goals as goal

pub invariant_of-seat : goal.invariant_of-seat
invariant_of-seat g c =
    let seat = c.args.seat.now in
    let near : seat.next < seat.token.table_id.slots = omega (arith, c.requires.next, c.args.self.now.slots, ap (λ z. z.slots) c.requires.table) in
    let r = found_out seat.token.table_id c.look-base.new.token.table_id seat.token.me.0 c.look-base.new.token.me.0 seat.next c.look-base.ensures.table near (c.look-base.ensures.out c.if-base-eq0.true) seat.rests in
    record {
      empty = c.look-base.ensures.slots ∙ seat.empty;
      passed = passed_next seat.next (λ f. (mark c.look-base.new.token.me.0 f).is_out ≡ true) (λ f before. r.1.known f (seat.passed f before)) r.2;
      rests = r.0;
    }

pub returns-then-base-eq0-clause-page : goal.returns-then-base-eq0-clause-page
returns-then-base-eq0-clause-page g c =
    let seat = c.args.seat.now in
    let near : seat.next < seat.token.table_id.slots = omega (arith, c.requires.next, c.args.self.now.slots, ap (λ z. z.slots) c.requires.table) in
    (found_out seat.token.table_id c.look-base.new.token.table_id seat.token.me.0 c.look-base.new.token.me.0 seat.next c.look-base.ensures.table near (c.look-base.ensures.out c.if-base-eq0.true) seat.rests).1

pub invariant_of-seat-2 : goal.invariant_of-seat-2
invariant_of-seat-2 g c =
    let seat = c.args.seat.now in
    let near : seat.next < seat.token.table_id.slots = omega (arith, c.requires.next, c.args.self.now.slots, ap (λ z. z.slots) c.requires.table) in
    let r = tried_as seat.token.table_id c.win.new.token.table_id seat.token.me.0 c.look-base.new.token.me.0 c.win.new.token.me.0 seat.next c.look-base.result c.win.result (c.win.ensures.table ∙ c.look-base.ensures.table) near (omega (arith, c.if-base-eq0.false))
    (c.look-base.ensures.seen c.if-base-eq0.false) seat.rests c.win.ensures.page in
    record {
      empty = c.win.ensures.slots;
      passed = passed_next seat.next (λ f. (mark c.win.new.token.me.0 f).is_out ≡ true) (λ f before. r.known f (seat.passed f before)) r.passed;
      rests = r.rests;
    }

pub returns-clause-page : goal.returns-clause-page
returns-clause-page g c =
    let seat = c.args.seat.now in
    let near : seat.next < seat.token.table_id.slots = omega (arith, c.requires.next, c.args.self.now.slots, ap (λ z. z.slots) c.requires.table) in
    (tried_as seat.token.table_id c.win.new.token.table_id seat.token.me.0 c.look-base.new.token.me.0 c.win.new.token.me.0 seat.next c.look-base.result c.win.result (c.win.ensures.table ∙ c.look-base.ensures.table) near (omega (arith, c.if-base-eq0.false))
    (c.look-base.ensures.seen c.if-base-eq0.false) seat.rests c.win.ensures.page).means
