use Rattle.std.proofs.Common.{refl, subst}
use Rattle.vale_turn.specs.View.{Stays}
use Rattle.vale_object_cells.specs.Cells.{cells_from}
use Rattle.vale_object_within.specs.Within.{FitsOpened, ObeysWithinLent}
use Rattle.vale_object_within.proofs.WithinLaws.{lent_by, obeys_as, on_if_ok, stays_by, still_lent}
use Rattle.vale_object_within.proofs.within.obey_within.Goals as goal

pub obey_open-requires-clause-no_root : goal.obey_open-requires-clause-no_root
obey_open-requires-clause-no_root g c = subst (FitsOpened c.args.heap.now (cells_from c.args.base c.args.texts.now c.args.registers.now)) c.in-Open.is c.requires.opened

pub returns-in-Open-clause-lent : goal.returns-in-Open-clause-lent
returns-in-Open-clause-lent g c =
    still_lent c.args.heap.now c.obey_open.new.heap (g.L.Lender.frames c.args.lender.now) (g.L.Lender.out c.args.lender.now) (g.L.Lender.floors c.args.lender.now) c.requires.known c.obey_open.ensures.keeps

pub returns-in-SwapOwn-clause-lent : goal.returns-in-SwapOwn-clause-lent
returns-in-SwapOwn-clause-lent g c =
    still_lent c.args.heap.now c.obey_change.new.heap (g.L.Lender.frames c.args.lender.now) (g.L.Lender.out c.args.lender.now) (g.L.Lender.floors c.args.lender.now) c.requires.known c.obey_change.ensures.keeps

pub returns-in-SwapOwn-clause-step : goal.returns-in-SwapOwn-clause-step
returns-in-SwapOwn-clause-step g c =
    let a = c.args in
    let cells = cells_from a.base a.texts.now a.registers.now in
    let after = cells_from a.base c.obey_change.new.texts c.obey_change.new.registers in
    on_if_ok c.obey_change.result c.wanting-in-SwapOwn.result _ (λ told. ObeysWithinLent (g.L.Lender.out a.lender.now) (g.L.Lender.floors a.lender.now) a.code.now a.body.now a.instr.now a.heap.now cells a.place.now a.left.now told c.obey_change.new.heap after c.obey_change.new.place a.left.now)
    c.wanting-in-SwapOwn.ensures.ok c.obey_change.ensures.step
    (λ told o. lent_by a.code.now a.body.now a.instr.now a.heap.now a.place.now a.left.now cells (g.L.Lender.out a.lender.now) (g.L.Lender.floors a.lender.now) told c.obey_change.new.heap after c.obey_change.new.place a.left.now
    (obeys_as a.code.now a.body.now a.instr.now a.heap.now a.place.now a.left.now cells a.instr.now refl told c.obey_change.new.heap after c.obey_change.new.place a.left.now (o a.left.now)))

pub returns-in-SwapOwn-clause-stays : goal.returns-in-SwapOwn-clause-stays
returns-in-SwapOwn-clause-stays g c =
    let a = c.args in
    let cells = cells_from a.base a.texts.now a.registers.now in
    let after = cells_from a.base c.obey_change.new.texts c.obey_change.new.registers in
    on_if_ok c.obey_change.result c.wanting-in-SwapOwn.result _ (λ told. Stays told) c.wanting-in-SwapOwn.ensures.ok c.obey_change.ensures.step
    (λ told o. stays_by a.code.now a.body.now a.instr.now a.heap.now a.place.now a.left.now cells told c.obey_change.new.heap after c.obey_change.new.place a.left.now c.requires.right
    (obeys_as a.code.now a.body.now a.instr.now a.heap.now a.place.now a.left.now cells a.instr.now refl told c.obey_change.new.heap after c.obey_change.new.place a.left.now (o a.left.now)))
