use Rattle.std.proofs.Common.{Some, ap, sym, ◌∙◌}
use Rattle.vale_object_cells.specs.Cells.{cells_from}
use Rattle.vale_object_texts.proofs.TextLaws.{quoted_within, quotes}
use Rattle.vale_object_texts.proofs.texts.obey_quote.Goals as goal

pub text_numbered-quoted-requires : goal.text_numbered-quoted-requires
text_numbered-quoted-requires c =
    let h = c.requires.right in
    quoted_within c.args.code.now (cells_from c.args.base c.args.texts.now c.args.registers.now) c.args.place.now c.args.to c.args.text h.0 h.1 h.2

pub returns-in-Ok-clause-step : goal.returns-in-Ok-clause-step
returns-in-Ok-clause-step c =
    let cells = cells_from c.args.base c.args.texts.now c.args.registers.now in
    let new = cells_from c.args.base c.take_text.new.texts c.take_text.new.registers in
    quotes c.args.code.now cells c.args.place.now c.args.to c.args.text c.in-Ok.copy c.take_text.result new c.take_text.new.place (c.text_numbered-quoted.ensures ∙ ap (λ x. Some x) (sym (c.in-Ok.ensures ∙ c.as_slice.ensures))) c.take_text.ensures.step
