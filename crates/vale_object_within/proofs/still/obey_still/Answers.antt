use Rattle.std.proofs.Common.{refl}
use Rattle.std.proofs.lemmas.Result.{IfOk-weaker}
use Rattle.vale_code.specs.declared.instr.Instr.TheVariants as i
use Rattle.vale_turn.specs.View.{Stays}
use Rattle.vale_object_cells.specs.Cells.{cells_from}
use Rattle.vale_object_within.specs.Within.{ObeysWithin}
use Rattle.vale_object_within.proofs.WithinLaws.{obeys_as, obeys_number, obeys_reference, rule_of, stays_by}
use Rattle.vale_object_within.proofs.still.obey_still.Goals as goal

pub obey_jump-requires-clause-right : goal.obey_jump-requires-clause-right
obey_jump-requires-clause-right c = rule_of c.args.code.now c.args.body.now c.args.instr.now c.args.heap.now c.args.place.now c.args.left.now c.args.base c.args.texts.now c.args.registers.now c.requires.right

pub returns-in-Copy-clause-step : goal.returns-in-Copy-clause-step
returns-in-Copy-clause-step c =
    let a = c.args in
    let cells = cells_from a.base a.texts.now a.registers.now in
    let after = cells_from a.base c.obey_copy.new.texts c.obey_copy.new.registers in
    IfOk-weaker c.obey_copy.result _ (λ told. ObeysWithin a.code.now a.body.now a.instr.now a.heap.now cells a.place.now a.left.now told a.heap.now after c.obey_copy.new.place a.left.now)
    (λ told o. obeys_as a.code.now a.body.now a.instr.now a.heap.now a.place.now a.left.now cells (i.Copy c.in-Copy.to c.in-Copy.from) c.in-Copy.is told a.heap.now after c.obey_copy.new.place a.left.now (o a.heap.now a.left.now)) c.obey_copy.ensures.step

pub returns-in-Copy-clause-stays : goal.returns-in-Copy-clause-stays
returns-in-Copy-clause-stays c =
    let a = c.args in
    let cells = cells_from a.base a.texts.now a.registers.now in
    let after = cells_from a.base c.obey_copy.new.texts c.obey_copy.new.registers in
    IfOk-weaker c.obey_copy.result _ (λ told. Stays told)
    (λ told o. stays_by a.code.now a.body.now a.instr.now a.heap.now a.place.now a.left.now cells told a.heap.now after c.obey_copy.new.place a.left.now c.requires.right
    (obeys_as a.code.now a.body.now a.instr.now a.heap.now a.place.now a.left.now cells (i.Copy c.in-Copy.to c.in-Copy.from) c.in-Copy.is told a.heap.now after c.obey_copy.new.place a.left.now (o a.heap.now a.left.now))) c.obey_copy.ensures.step

pub returns-in-Cmp-clause-step : goal.returns-in-Cmp-clause-step
returns-in-Cmp-clause-step c =
    let a = c.args in
    obeys_as a.code.now a.body.now a.instr.now a.heap.now a.place.now a.left.now (cells_from a.base a.texts.now a.registers.now) (i.Cmp c.in-Cmp.to c.in-Cmp.choice c.in-Cmp.one c.in-Cmp.right) c.in-Cmp.is c.obey_compare.result a.heap.now
    (cells_from a.base a.texts.now c.obey_compare.new.registers) c.obey_compare.new.place a.left.now (c.obey_compare.ensures.step a.heap.now a.left.now)

pub returns-in-LoadOwn-clause-step : goal.returns-in-LoadOwn-clause-step
returns-in-LoadOwn-clause-step c =
    let a = c.args in
    let cells = cells_from a.base a.texts.now a.registers.now in
    let after = cells_from a.base c.obey_look.new.texts c.obey_look.new.registers in
    IfOk-weaker c.obey_look.result _ (λ told. ObeysWithin a.code.now a.body.now a.instr.now a.heap.now cells a.place.now a.left.now told a.heap.now after c.obey_look.new.place a.left.now)
    (λ told o. obeys_as a.code.now a.body.now a.instr.now a.heap.now a.place.now a.left.now cells a.instr.now refl told a.heap.now after c.obey_look.new.place a.left.now (o a.left.now)) c.obey_look.ensures.step

pub returns-in-LoadOwn-clause-stays : goal.returns-in-LoadOwn-clause-stays
returns-in-LoadOwn-clause-stays c =
    let a = c.args in
    let cells = cells_from a.base a.texts.now a.registers.now in
    let after = cells_from a.base c.obey_look.new.texts c.obey_look.new.registers in
    IfOk-weaker c.obey_look.result _ (λ told. Stays told)
    (λ told o. stays_by a.code.now a.body.now a.instr.now a.heap.now a.place.now a.left.now cells told a.heap.now after c.obey_look.new.place a.left.now c.requires.right
    (obeys_as a.code.now a.body.now a.instr.now a.heap.now a.place.now a.left.now cells a.instr.now refl told a.heap.now after c.obey_look.new.place a.left.now (o a.left.now))) c.obey_look.ensures.step

pub returns-in-Move-clause-step : goal.returns-in-Move-clause-step
returns-in-Move-clause-step c =
    let a = c.args in
    obeys_reference a.code.now a.body.now a.instr.now a.heap.now a.place.now a.left.now a.base a.texts.now a.registers.now c.obey_reference.result c.obey_reference.new.registers c.obey_reference.new.place c.obey_reference.ensures.step

pub returns-in-Move-clause-stays : goal.returns-in-Move-clause-stays
returns-in-Move-clause-stays c =
    let a = c.args in
    stays_by a.code.now a.body.now a.instr.now a.heap.now a.place.now a.left.now (cells_from a.base a.texts.now a.registers.now) c.obey_reference.result a.heap.now (cells_from a.base a.texts.now c.obey_reference.new.registers) c.obey_reference.new.place a.left.now c.requires.right
    (obeys_reference a.code.now a.body.now a.instr.now a.heap.now a.place.now a.left.now a.base a.texts.now a.registers.now c.obey_reference.result c.obey_reference.new.registers c.obey_reference.new.place c.obey_reference.ensures.step)

pub returns-in-Int-clause-step : goal.returns-in-Int-clause-step
returns-in-Int-clause-step c =
    let a = c.args in
    obeys_number a.code.now a.body.now a.instr.now a.heap.now a.place.now a.left.now a.base a.texts.now a.registers.now c.obey_number.result c.obey_number.new.registers c.obey_number.new.place c.obey_number.ensures.step

pub obey_on_text-requires-clause-right : goal.obey_on_text-requires-clause-right
obey_on_text-requires-clause-right c = (c.args.body.now, c.args.heap.now, c.args.left.now, c.requires.right)

pub returns-in_default-clause-step : goal.returns-in_default-clause-step
returns-in_default-clause-step c =
    let a = c.args in
    let cells = cells_from a.base a.texts.now a.registers.now in
    let after = cells_from a.base c.obey_on_text.new.texts c.obey_on_text.new.registers in
    IfOk-weaker c.obey_on_text.result _ (λ told. ObeysWithin a.code.now a.body.now a.instr.now a.heap.now cells a.place.now a.left.now told a.heap.now after c.obey_on_text.new.place a.left.now)
    (λ told o. o a.body.now a.heap.now a.left.now) c.obey_on_text.ensures.step
