use Rattle.std.proofs.Common.{rules, arith, ap, sym, ◌∙◌, ◌∷◌, subst, Some, ◌≡◌, ◌≤◌, [], false, MatchOption}
use Rattle.atomic_table.specs.Table.{rest}
use Rattle.vale_page.specs.PageState.{IsBlankAt}
use Rattle.vale_table.specs.Marks.{mark, knows_out}
use Rattle.vale_table.specs.Seats.{IsMarked, held_at}
use Rattle.vale_table.proofs.StepLemmas.{tries}
use Rattle.vale_table.proofs.HandLemmas.{puts_home}
use Rattle.vale_table.proofs.ViewLemmas.{marked_is, wins, won_slot}
use Rattle.vale_table.proofs.table.SharedTable.win.Goals as goal

pub compare_exchange-requires : goal.compare_exchange-requires
compare_exchange-requires g c =
    let t = c.args.self.now in
    (c.requires.table, omega (arith, t.words, c.requires.frame), tries _ _ _ _ _ _ _ (omega (arith, t.key, c.requires.frame)) c.requires.alive c.requires.seen c.requires.base)

pub returns-then-compare_exchange-base-clause-page : goal.returns-then-compare_exchange-base-clause-page
returns-then-compare_exchange-base-clause-page g c = marked_is _ _ _ _ (ap (λ m. m.0) (c.compare_exchange.ensures.2.1 c.if-compare_exchange-base.true).1)

pub exchange-page-requires : goal.exchange-page-requires
exchange-page-requires g c =
    let won = c.compare_exchange.ensures.2.0 c.if-compare_exchange-base.false in
    let e = ap (λ m. m.1) won.2 in
    (search rules, (Some won.0, e ∙ ap (λ l. (c.args.frame, Some won.0) ∷ l) (ap rest (sym e))))

pub load-requires : goal.load-requires
load-requires g c =
    let t = c.args.self.now in
    let won = c.compare_exchange.ensures.2.0 c.if-compare_exchange-base.false in
    let s = won_slot _ _ _ c.args.frame c.args.base c.exchange-page.result c.requires.slots c.requires.alive won c.exchange-page.ensures.3 in
    (search rules, omega (arith, t.words, c.requires.frame), puts_home _ _ _ _ _ c.args.base _ s.0 (omega (arith, t.key, c.requires.frame)) s.1 s.2)

pub returns-clause-slots : goal.returns-clause-slots
returns-clause-slots g c =
    let won = c.compare_exchange.ensures.2.0 c.if-compare_exchange-base.false in
    (wins _ _ _ _ c.args.frame c.args.base c.exchange-page.result c.requires.slots won c.exchange-page.ensures.2 c.exchange-page.ensures.3 c.load.ensures.2).0

pub returns-clause-page : goal.returns-clause-page
returns-clause-page g c =
    let won = c.compare_exchange.ensures.2.0 c.if-compare_exchange-base.false in
    let q = (wins _ _ _ _ c.args.frame c.args.base c.exchange-page.result c.requires.slots won c.exchange-page.ensures.2 c.exchange-page.ensures.3 c.load.ensures.2).1 in
    subst (λ o. MatchOption o (IsMarked c.args.token.now.me.0 c.args.frame (knows_out (mark c.args.token.now.me.0 c.args.frame)) c.load.new.seat.me.0)
    (λ p. IsBlankAt p c.args.frame c.args.base × IsMarked c.args.token.now.me.0 c.args.frame (held_at c.args.base (mark c.args.token.now.me.0 c.args.frame)) c.load.new.seat.me.0
    × ((mark c.args.token.now.me.0 c.args.frame).floor ≤ c.args.base) × ((mark c.args.token.now.me.0 c.args.frame).is_out ≡ false) × ((mark c.args.token.now.me.0 c.args.frame).bases ≡ []))) (sym q.1) (q.2, q.3, q.4, q.5, q.6)
