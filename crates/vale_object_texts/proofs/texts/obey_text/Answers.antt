use Rattle.std.proofs.Common.{ℤ, ap, rules, subst, ◌∙◌, of_z, to_z}
use Rattle.std.specs.Prelude.{Ok}
use Rattle.std.proofs.lemmas.Int.{to_z-of_z}
use mir.Syntax.{w64}
use Rattle.vale_code.specs.declared.instr.Instr.TheVariants as i
use Rattle.vale_text.specs.Gives.{Gives}
use Rattle.vale_text.specs.Operations as o
use Rattle.vale_text.specs.Steps.{gives_text}
use Rattle.vale_registers.specs.Passing.{from_base}
use Rattle.vale_registers.specs.Texts.{text_at}
use Rattle.vale_object_cells.specs.Cells.{cells_from}
use Rattle.vale_object_texts.proofs.TextLaws.{joined, joins, leads_as, nowhere, obeys_given, obeys_taken, sliced, slices, spelled, spells, text_bound, text_held}
use Rattle.vale_object_texts.proofs.texts.obey_text.Goals as goal

pub text_in-first-requires : goal.text_in-first-requires
text_in-first-requires c =
    let t = from_base c.args.base (text_at c.args.texts.now) in
    let k = joins t c.args.registers.now c.args.place.now c.args.instr.now c.requires.right c.in-Join.to c.in-Join.left c.in-Join.right c.in-Join.at c.in-Join.is in
    text_bound t c.args.registers.now c.in-Join.left k.0 c.args.base c.requires.few

pub text_in-second-requires : goal.text_in-second-requires
text_in-second-requires c =
    let t = from_base c.args.base (text_at c.args.texts.now) in
    let k = joins t c.args.registers.now c.args.place.now c.args.instr.now c.requires.right c.in-Join.to c.in-Join.left c.in-Join.right c.in-Join.at c.in-Join.is in
    text_bound t c.args.registers.now c.in-Join.right k.1 c.args.base c.requires.few

pub returns-in-Join-clause-step : goal.returns-in-Join-clause-step
returns-in-Join-clause-step c =
    let t = from_base c.args.base (text_at c.args.texts.now) in
    let rs = c.args.registers.now in
    let cells = cells_from c.args.base c.args.texts.now rs in
    let k = joins t rs c.args.place.now c.args.instr.now c.requires.right c.in-Join.to c.in-Join.left c.in-Join.right c.in-Join.at c.in-Join.is in
    let x = c.text_in-first.result.now in
    let y = c.text_in-second.result.now in
    obeys_given cells c.args.place.now c.in-Join.to c.in-Join.at c.args.instr.now (i.Join c.in-Join.to c.in-Join.left c.in-Join.right c.in-Join.at) c.in-Join.is c.join-joined.result (o.join x y) c.join-joined.ensures c.land_text.result
    (cells_from c.args.base c.land_text.new.texts c.land_text.new.registers) c.land_text.new.place
    (joined cells c.args.place.now c.in-Join.to c.in-Join.at c.in-Join.left c.in-Join.right x y (text_held t rs c.in-Join.left k.0 x c.text_in-first.ensures) (text_held t rs c.in-Join.right k.1 y c.text_in-second.ensures)) c.land_text.ensures.step

pub text_in-whole-requires : goal.text_in-whole-requires
text_in-whole-requires c =
    let t = from_base c.args.base (text_at c.args.texts.now) in
    let k = slices t c.args.registers.now c.args.place.now c.args.instr.now c.requires.right c.in-Slice.to c.in-Slice.from c.in-Slice.first c.in-Slice.end c.in-Slice.at c.in-Slice.is in
    text_bound t c.args.registers.now c.in-Slice.from k.0 c.args.base c.requires.few

pub int_at-begin-requires : goal.int_at-begin-requires
int_at-begin-requires c =
    let t = from_base c.args.base (text_at c.args.texts.now) in
    let k = slices t c.args.registers.now c.args.place.now c.args.instr.now c.requires.right c.in-Slice.to c.in-Slice.from c.in-Slice.first c.in-Slice.end c.in-Slice.at c.in-Slice.is in k.1

pub int_at-limit-requires : goal.int_at-limit-requires
int_at-limit-requires c =
    let t = from_base c.args.base (text_at c.args.texts.now) in
    let k = slices t c.args.registers.now c.args.place.now c.args.instr.now c.requires.right c.in-Slice.to c.in-Slice.from c.in-Slice.first c.in-Slice.end c.in-Slice.at c.in-Slice.is in k.2

pub returns-in-Slice-clause-step : goal.returns-in-Slice-clause-step
returns-in-Slice-clause-step c =
    let t = from_base c.args.base (text_at c.args.texts.now) in
    let rs = c.args.registers.now in
    let cells = cells_from c.args.base c.args.texts.now rs in
    let k = slices t rs c.args.place.now c.args.instr.now c.requires.right c.in-Slice.to c.in-Slice.from c.in-Slice.first c.in-Slice.end c.in-Slice.at c.in-Slice.is in
    let x = c.text_in-whole.result.now in
    let y = c.int_at-begin.result in
    let z = c.int_at-limit.result in
    let begin = to_z-of_z w64 y (search rules) in
    let limit = to_z-of_z w64 z (search rules) in
    let gives = subst (λ (n : ℤ). Gives c.slice-part.result (o.slice x y n)) limit (subst (λ (n : ℤ). Gives c.slice-part.result (o.slice x n (to_z w64 (of_z w64 z)))) begin c.slice-part.ensures) in
    obeys_given cells c.args.place.now c.in-Slice.to c.in-Slice.at c.args.instr.now (i.Slice c.in-Slice.to c.in-Slice.from c.in-Slice.first c.in-Slice.end c.in-Slice.at) c.in-Slice.is c.slice-part.result (o.slice x y z) gives c.land_text-in-Slice.result
    (cells_from c.args.base c.land_text-in-Slice.new.texts c.land_text-in-Slice.new.registers) c.land_text-in-Slice.new.place
    (sliced cells c.args.place.now c.in-Slice.to c.in-Slice.at c.in-Slice.from c.in-Slice.first c.in-Slice.end x y z (text_held t rs c.in-Slice.from k.0 x c.text_in-whole.ensures) (c.int_at-begin.ensures t) (c.int_at-limit.ensures t)) c.land_text-in-Slice.ensures.step

pub int_at-number-requires : goal.int_at-number-requires
int_at-number-requires c =
    let t = from_base c.args.base (text_at c.args.texts.now) in
    spells t c.args.registers.now c.args.place.now c.args.instr.now c.requires.right c.in-TextOf.to c.in-TextOf.from c.in-TextOf.is

pub returns-in-Ok-clause-step : goal.returns-in-Ok-clause-step
returns-in-Ok-clause-step c =
    let t = from_base c.args.base (text_at c.args.texts.now) in
    let cells = cells_from c.args.base c.args.texts.now c.args.registers.now in
    let z = c.int_at-number.result in
    let is = c.in-Ok.ensures ∙ ap o.text_of (to_z-of_z w64 z (search rules)) in
    obeys_taken cells c.args.place.now c.in-TextOf.to nowhere c.args.instr.now (i.TextOf c.in-TextOf.to c.in-TextOf.from) c.in-TextOf.is c.in-Ok.digits c.take_text.result (cells_from c.args.base c.take_text.new.texts c.take_text.new.registers) c.take_text.new.place
    (leads_as cells c.args.place.now c.in-TextOf.to nowhere (i.TextOf c.in-TextOf.to c.in-TextOf.from) (λ s x. gives_text s (Ok x)) (o.text_of z) c.in-Ok.digits is (spelled cells c.args.place.now c.in-TextOf.to nowhere c.in-TextOf.from z (c.int_at-number.ensures t))) c.take_text.ensures.step
