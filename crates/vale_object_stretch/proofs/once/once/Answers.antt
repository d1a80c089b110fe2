use Rattle.std.proofs.lemmas.Result.{IfOk-weaker}
use Rattle.vale_turn.specs.View.{Stays}
use Rattle.vale_object_cells.specs.Cells.{cells_from}
use Rattle.vale_object_within.specs.Within.{ObeysWithinLent}
use Rattle.vale_object_stretch.specs.Stretch.{Leaving, Obeyed}
use Rattle.vale_object_stretch.proofs.Stretching.{both_ok, leaving_by, obeyed_by}
use Rattle.vale_object_stretch.proofs.once.once.Goals as goal

pub returns-in_default-clause-step : goal.returns-in_default-clause-step
returns-in_default-clause-step g c =
    let a = c.args in
    let out = g.L.Lender.out a.lender.now in
    let floors = g.L.Lender.floors a.lender.now in
    let cells = cells_from a.base a.texts.now a.registers.now in
    let n = c.obey_within.new in
    let after = cells_from a.base n.texts n.registers in
    both_ok c.obey_within.result (λ told. Stays told) (λ told. ObeysWithinLent out floors a.code.now a.body.now a.instr.now a.heap.now cells a.place.now a.left.now told n.heap after n.place n.left)
    (λ told. Obeyed out floors a.code.now a.body.now a.instr.now a.heap.now cells a.place.now a.left.now told n.heap after n.place n.left) c.obey_within.ensures.stays c.obey_within.ensures.step
    (λ told k o. obeyed_by out floors a.code.now a.body.now a.instr.now a.heap.now cells a.place.now a.left.now told n.heap after n.place n.left k o)

pub returns-in_default-clause-leaving : goal.returns-in_default-clause-leaving
returns-in_default-clause-leaving g c = IfOk-weaker c.obey_within.result (λ told. Stays told) (λ told. Leaving told c.args.instr.now) (λ told k. leaving_by told c.args.instr.now k) c.obey_within.ensures.stays
