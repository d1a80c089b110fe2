use Rattle.std.proofs.Common.{rules, arith, ap, sym, ◌∙◌, ◌∷◌, Some, None, ◌≡◌}
use Rattle.atomic_table.specs.Table.{rest}
use Rattle.vale_table.specs.declared.view.Role.TheVariants.{Root, Spent}
use Rattle.vale_table.proofs.HandLemmas.{fetches, gives_home}
use Rattle.vale_table.proofs.ViewLemmas.{marked_is, marked_twice, fetched_slot, had_none}
use Rattle.vale_table.proofs.table.SharedTable.give_home.Goals as goal

pub load-requires : goal.load-requires
load-requires g c =
    let t = c.args.self.now in
    (c.requires.table, omega (arith, t.words, c.requires.frame), fetches _ _ _ _ _ c.requires.held.0 _ c.requires.slots (omega (arith, t.key, c.requires.frame)) (λ s. let e : Root ≡ Spent = sym c.requires.root ∙ s in cc) c.requires.held.1 c.requires.home)

pub exchange-before-requires : goal.exchange-before-requires
exchange-before-requires g c = let e = ap (λ m. m.1) c.load.ensures.2 in (search rules, (None, e ∙ ap (λ l. (c.args.frame, None) ∷ l) (ap rest (sym e))))

pub unreachable-requires : goal.unreachable-requires
unreachable-requires g c = c.in_default.not-None (had_none _ _ c.args.frame _ _ c.load.ensures.2 c.exchange-before.ensures.2)

pub swap-requires : goal.swap-requires
swap-requires g c =
    let t = c.args.self.now in
    let s = fetched_slot _ _ _ c.args.frame c.requires.held.0 c.exchange-before.result (Some c.args.page) c.load.ensures.2 c.requires.slots c.requires.held.1 c.exchange-before.ensures.3 in
    (search rules, omega (arith, t.words, c.requires.frame), gives_home _ _ _ _ _ c.requires.held.0 _ c.args.page _ s.0 (omega (arith, t.key, c.requires.frame)) (s.1 ∙ c.requires.root) (s.2 ∙ c.requires.no_worker) s.3 c.requires.base c.requires.held.2 c.requires.page)

pub returns-clause-slots : goal.returns-clause-slots
returns-clause-slots g c =
    let s = fetched_slot _ _ _ c.args.frame c.requires.held.0 c.exchange-before.result (Some c.args.page) c.load.ensures.2 c.requires.slots c.requires.held.1 c.exchange-before.ensures.3 in
    ap (λ m. m.1) c.swap.ensures.2 ∙ ap rest s.0

pub returns-clause-view : goal.returns-clause-view
returns-clause-view g c =
    let s = fetched_slot _ _ _ c.args.frame c.requires.held.0 c.exchange-before.result (Some c.args.page) c.load.ensures.2 c.requires.slots c.requires.held.1 c.exchange-before.ensures.3 in
    marked_twice _ _ _ _ _ _ s.4 (marked_is _ _ _ _ (ap (λ m. m.0) c.swap.ensures.2))
