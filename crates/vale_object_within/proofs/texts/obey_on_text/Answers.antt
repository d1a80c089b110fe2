use Rattle.std.proofs.Common.{ℕ, List, refl}
use Rattle.std.proofs.lemmas.Result.{IfOk-weaker}
use Rattle.vale_code.specs.declared.instr.Instr.{Instr}
use Rattle.vale_code.specs.declared.instr.Instr.TheVariants as i
use Rattle.vale_heap.specs.HeapState.{HeapState}
use Rattle.vale_object_cells.specs.Cells.{cells_from}
use Rattle.vale_object_within.specs.Within.{ObeysWithin}
use Rattle.vale_object_within.proofs.WithinLaws.{obeys_as, obeys_of_code, rule_of_code}
use Rattle.vale_object_within.proofs.texts.obey_on_text.Goals as goal

pub obey_quote-requires-clause-right : goal.obey_quote-requires-clause-right
obey_quote-requires-clause-right c =
    let a = c.args in
    let r = c.requires.right in
    (r.1, r.2, rule_of_code a.code.now r.0 a.instr.now r.1 a.place.now r.2 (cells_from a.base a.texts.now a.registers.now) (i.Text c.in-Text.to c.in-Text.text) c.in-Text.is r.3)

pub obey_text-requires-clause-right : goal.obey_text-requires-clause-right
obey_text-requires-clause-right c =
    let r = c.requires.right in
    (r.1, r.2, r.3.rule)

pub obey_reading-requires-clause-right : goal.obey_reading-requires-clause-right
obey_reading-requires-clause-right c =
    let r = c.requires.right in
    (r.1, r.2, r.3.rule)

pub returns-in-Text-clause-step : goal.returns-in-Text-clause-step
returns-in-Text-clause-step c =
    let a = c.args in
    let cells = cells_from a.base a.texts.now a.registers.now in
    let n = c.obey_quote.new in
    let after = cells_from a.base n.texts n.registers in
    IfOk-weaker c.obey_quote.result _ (λ told. (body : List Instr) (heap : HeapState) (left : ℕ) → ObeysWithin a.code.now body a.instr.now heap cells a.place.now left told heap after n.place left)
    (λ told o body heap left. obeys_of_code a.code.now body a.instr.now heap a.place.now left cells (i.Text c.in-Text.to c.in-Text.text) c.in-Text.is told heap after n.place left (o heap left)) c.obey_quote.ensures.step

pub returns-in-Join-clause-step : goal.returns-in-Join-clause-step
returns-in-Join-clause-step c =
    let a = c.args in
    let cells = cells_from a.base a.texts.now a.registers.now in
    let n = c.obey_text.new in
    let after = cells_from a.base n.texts n.registers in
    IfOk-weaker c.obey_text.result _ (λ told. (body : List Instr) (heap : HeapState) (left : ℕ) → ObeysWithin a.code.now body a.instr.now heap cells a.place.now left told heap after n.place left)
    (λ told o body heap left. obeys_as a.code.now body a.instr.now heap a.place.now left cells a.instr.now refl told heap after n.place left (o heap left)) c.obey_text.ensures.step

pub returns-in-TextLen-clause-step : goal.returns-in-TextLen-clause-step
returns-in-TextLen-clause-step c = λ body heap left.
    let a = c.args in
    obeys_as a.code.now body a.instr.now heap a.place.now left (cells_from a.base a.texts.now a.registers.now) a.instr.now refl c.obey_reading.result heap
    (cells_from a.base a.texts.now c.obey_reading.new.registers) c.obey_reading.new.place left (c.obey_reading.ensures.step heap left)
