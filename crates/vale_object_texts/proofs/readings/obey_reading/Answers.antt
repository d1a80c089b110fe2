use Rattle.std.proofs.Common.{◌+◌, ◌<◌, pos, Some, ap, length, rules, subst, ◌∙◌}
use Rattle.std.specs.Prelude.{Ok, slice_set}
use Rattle.std.proofs.lemmas.Int.{to_z-of_z}
use mir.Syntax.{w64}
use Rattle.vale_code.specs.declared.instr.Instr.TheVariants as i
use Rattle.vale_text.specs.Operations as o
use Rattle.vale_text.specs.Steps.{gives_int, gives_truth}
use Rattle.vale_registers.specs.Cells.{HasRegister}
use Rattle.vale_registers.specs.Passing.{from_base}
use Rattle.vale_registers.specs.Texts.{text_at}
use Rattle.vale_heap.specs.declared.body.Cell.TheVariants.{Int}
use Rattle.vale_turn.specs.Served.{register_of}
use Rattle.vale_turn.specs.declared.stop.Stop.TheVariants as stop
use Rattle.vale_object_cells.specs.Cells.{cells_from}
use Rattle.vale_object_steps.proofs.Registers.{cells_many}
use Rattle.vale_object_texts.proofs.TextLaws.{lands_int, lands_truth, leads_as, measured, measures, nowhere, numbered, numbers, obeys, picked, picks, tested, tests, text_bound, text_held}
use Rattle.vale_object_texts.proofs.readings.obey_reading.Goals as goal

pub text_in-measured-requires : goal.text_in-measured-requires
text_in-measured-requires c =
    let t = from_base c.args.base (text_at c.args.texts.now) in
    text_bound t c.args.registers.now c.in-TextLen.from (measures t c.args.registers.now c.args.place.now c.args.instr.now c.requires.right c.in-TextLen.to c.in-TextLen.from c.in-TextLen.is) c.args.base c.requires.few

pub returns-in-TextLen-clause-step : goal.returns-in-TextLen-clause-step
returns-in-TextLen-clause-step c =
    let t = from_base c.args.base (text_at c.args.texts.now) in
    let rs = c.args.registers.now in
    let cells = cells_from c.args.base c.args.texts.now rs in
    let new = cells_from c.args.base c.args.texts.now c.set_int.new.registers in
    let same = i.TextLen c.in-TextLen.to c.in-TextLen.from in
    let place = c.args.place.now in
    let to = c.in-TextLen.to in
    let x = c.text_in-measured.result.now in
    let z = c.count_of-count.result in
    let k = measures t rs place c.args.instr.now c.requires.right to c.in-TextLen.from c.in-TextLen.is in
    let room : to < length rs = subst (λ j. HasRegister (register_of j) (length rs)) c.in-TextLen.is c.requires.room in
    obeys cells place to nowhere c.args.instr.now same c.in-TextLen.is (λ s. gives_int s (Ok z)) stop.Going new (c.args.place.now + 1)
    (leads_as cells place to nowhere same (λ s n. gives_int s (Ok n)) (pos (length x)) z c.count_of-count.ensures (measured cells place to nowhere c.in-TextLen.from x (text_held t rs c.in-TextLen.from k x c.text_in-measured.ensures)))
    (lands_int to nowhere cells new place z (cells_many c.args.base c.args.texts.now rs to room) (c.set_int.ensures t ∙ ap (λ n. slice_set cells to (Some (Int n))) (to_z-of_z w64 z (search rules))))

pub text_in-source-requires : goal.text_in-source-requires
text_in-source-requires c =
    let t = from_base c.args.base (text_at c.args.texts.now) in
    let k = picks t c.args.registers.now c.args.place.now c.args.instr.now c.requires.right c.in-Byte.to c.in-Byte.from c.in-Byte.index c.in-Byte.at c.in-Byte.is in
    text_bound t c.args.registers.now c.in-Byte.from k.0 c.args.base c.requires.few

pub int_at-position-requires : goal.int_at-position-requires
int_at-position-requires c =
    let t = from_base c.args.base (text_at c.args.texts.now) in
    let k = picks t c.args.registers.now c.args.place.now c.args.instr.now c.requires.right c.in-Byte.to c.in-Byte.from c.in-Byte.index c.in-Byte.at c.in-Byte.is in k.1

pub returns-in-Byte-clause-step : goal.returns-in-Byte-clause-step
returns-in-Byte-clause-step c =
    let t = from_base c.args.base (text_at c.args.texts.now) in
    let rs = c.args.registers.now in
    let cells = cells_from c.args.base c.args.texts.now rs in
    let place = c.args.place.now in
    let to = c.in-Byte.to in
    let at = c.in-Byte.at in
    let same = i.Byte to c.in-Byte.from c.in-Byte.index at in
    let x = c.text_in-source.result.now in
    let z = c.int_at-position.result in
    let k = picks t rs place c.args.instr.now c.requires.right to c.in-Byte.from c.in-Byte.index at c.in-Byte.is in
    obeys cells place to at c.args.instr.now same c.in-Byte.is (λ s. gives_int s c.byte-byte.result) c.land_int.result (cells_from c.args.base c.args.texts.now c.land_int.new.registers) c.land_int.new.place
    (leads_as cells place to at same gives_int (o.byte x z) c.byte-byte.result (c.byte-byte.ensures ∙ ap (o.byte x) (to_z-of_z w64 z (search rules)))
    (picked cells place to at c.in-Byte.from c.in-Byte.index x z (text_held t rs c.in-Byte.from k.0 x c.text_in-source.ensures) (c.int_at-position.ensures t)))
    (c.land_int.ensures.step t)

pub text_in-tested-requires : goal.text_in-tested-requires
text_in-tested-requires c =
    let t = from_base c.args.base (text_at c.args.texts.now) in
    text_bound t c.args.registers.now c.in-IsNum.from (tests t c.args.registers.now c.args.place.now c.args.instr.now c.requires.right c.in-IsNum.to c.in-IsNum.from c.in-IsNum.is) c.args.base c.requires.few

pub returns-in-IsNum-clause-step : goal.returns-in-IsNum-clause-step
returns-in-IsNum-clause-step c =
    let t = from_base c.args.base (text_at c.args.texts.now) in
    let rs = c.args.registers.now in
    let cells = cells_from c.args.base c.args.texts.now rs in
    let new = cells_from c.args.base c.args.texts.now c.set_truth.new.registers in
    let place = c.args.place.now in
    let to = c.in-IsNum.to in
    let same = i.IsNum to c.in-IsNum.from in
    let x = c.text_in-tested.result.now in
    let b = c.is_number-truth.result in
    let k = tests t rs place c.args.instr.now c.requires.right to c.in-IsNum.from c.in-IsNum.is in
    let room : to < length rs = subst (λ j. HasRegister (register_of j) (length rs)) c.in-IsNum.is c.requires.room in
    obeys cells place to nowhere c.args.instr.now same c.in-IsNum.is (λ s. gives_truth s b) stop.Going new (c.args.place.now + 1)
    (leads_as cells place to nowhere same gives_truth (o.is_number x) b c.is_number-truth.ensures (tested cells place to nowhere c.in-IsNum.from x (text_held t rs c.in-IsNum.from k x c.text_in-tested.ensures)))
    (lands_truth to nowhere cells new place b (cells_many c.args.base c.args.texts.now rs to room) (c.set_truth.ensures t))

pub text_in-digits-requires : goal.text_in-digits-requires
text_in-digits-requires c =
    let t = from_base c.args.base (text_at c.args.texts.now) in
    text_bound t c.args.registers.now c.in-Num.from (numbers t c.args.registers.now c.args.place.now c.args.instr.now c.requires.right c.in-Num.to c.in-Num.from c.in-Num.at c.in-Num.is) c.args.base c.requires.few

pub returns-in-Num-clause-step : goal.returns-in-Num-clause-step
returns-in-Num-clause-step c =
    let t = from_base c.args.base (text_at c.args.texts.now) in
    let rs = c.args.registers.now in
    let cells = cells_from c.args.base c.args.texts.now rs in
    let place = c.args.place.now in
    let to = c.in-Num.to in
    let at = c.in-Num.at in
    let same = i.Num to c.in-Num.from at in
    let x = c.text_in-digits.result.now in
    let k = numbers t rs place c.args.instr.now c.requires.right to c.in-Num.from at c.in-Num.is in
    obeys cells place to at c.args.instr.now same c.in-Num.is (λ s. gives_int s c.number-number.result) c.land_int-in-Num.result (cells_from c.args.base c.args.texts.now c.land_int-in-Num.new.registers) c.land_int-in-Num.new.place
    (leads_as cells place to at same gives_int (o.number x) c.number-number.result c.number-number.ensures (numbered cells place to at c.in-Num.from x (text_held t rs c.in-Num.from k x c.text_in-digits.ensures)))
    (c.land_int-in-Num.ensures.step t)
