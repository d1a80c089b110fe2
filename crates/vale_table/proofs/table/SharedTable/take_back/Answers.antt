use Rattle.std.proofs.Common.{arith, ap, ◌∙◌}
use Rattle.vale_table.proofs.ViewLemmas.{can_go_home, gives_back_as}
use Rattle.vale_table.proofs.table.SharedTable.take_back.Goals as goal

pub give_home-requires-clause-base : goal.give_home-requires-clause-base
give_home-requires-clause-base g c =
    let h = can_go_home c.args.seat.now.token.table_id c.args.seat.now.token.me.0 c.args.page c.args.seat.now.rests c.requires.can in
    omega (arith, h.1, c.base-base.ensures)

pub give_home-requires-clause-held : goal.give_home-requires-clause-held
give_home-requires-clause-held g c =
    let h = can_go_home c.args.seat.now.token.table_id c.args.seat.now.token.me.0 c.args.page c.args.seat.now.rests c.requires.can in
    rw (c.frame-frame.ensures, c.base-base.ensures) h.2

pub invariant_of-seat : goal.invariant_of-seat
invariant_of-seat g c =
    let seat = c.args.seat.now in
    let h = can_go_home seat.token.table_id seat.token.me.0 c.args.page seat.rests c.requires.can in
    let r = gives_back_as seat.token.table_id c.give_home.new.token.table_id seat.token.me.0 c.give_home.new.token.me.0 c.frame-frame.result c.base-base.result c.args.page c.give_home.ensures.table
    c.frame-frame.ensures c.base-base.ensures (omega (arith, h.0, c.frame-frame.ensures)) c.give_home.ensures.view seat.rests in
    record {
      empty = c.give_home.ensures.slots;
      passed = λ f near. ap (λ m. m.is_out) (c.give_home.ensures.view.other f (λ e. omega (arith, e, near, c.min-seat.ensures))) ∙ seat.passed f (omega (arith, near, c.min-seat.ensures));
      rests = r.0;
    }

pub returns-clause-back : goal.returns-clause-back
returns-clause-back g c =
    let seat = c.args.seat.now in
    let h = can_go_home seat.token.table_id seat.token.me.0 c.args.page seat.rests c.requires.can in
    (gives_back_as seat.token.table_id c.give_home.new.token.table_id seat.token.me.0 c.give_home.new.token.me.0 c.frame-frame.result c.base-base.result c.args.page c.give_home.ensures.table
    c.frame-frame.ensures c.base-base.ensures (omega (arith, h.0, c.frame-frame.ensures)) c.give_home.ensures.view seat.rests).1
