use Rattle.std.proofs.Common.{◌<◌, length}
use Rattle.vale_table.proofs.PlainLemmas.{table_given, given, held_within}
use Rattle.vale_table.proofs.plain.PlainTableLender.give.Goals as goal

pub invariant_of-self : goal.invariant_of-self
invariant_of-self g c =
    let within : c.args.page.frame < length c.self.inside.bases.items = held_within _ _ _ _ _ c.self.invariant (rw (← c.self.view_is) at c.requires.can.held) in
    let blank = c.reset.ensures.blank in
    rw (c.min-self-inside.ensures, c.frame-frame.ensures) (table_given _ _ _ _ _ _ c.self.invariant within c.base-base.type_inv blank)

pub returns-clause-given : goal.returns-clause-given
returns-clause-given g c =
    let within : c.args.page.frame < length c.self.inside.bases.items = held_within _ _ _ _ _ c.self.invariant (rw (← c.self.view_is) at c.requires.can.held) in
    rw (← c.self.view_is, c.frame-frame.ensures) (given _ _ _ c.args.page _ _ c.self.invariant within c.base-base.ensures)
