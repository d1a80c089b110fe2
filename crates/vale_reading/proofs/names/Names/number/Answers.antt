use Rattle.std.proofs.Common.{sym, ap, ◌∙◌}
use Rattle.vale_reading.proofs.Numbered.{numbered_is, as_name}
use Rattle.vale_reading.proofs.names.Names.number.Goals as goal

pub returns-in_err-index : goal.returns-in_err-index
returns-in_err-index c =
    let is = numbered_is c.args.text.now c.as_slice.result.now c.self.inside.texts.keys c.args.self.now c.get_index_of.result c.get_index_of.ensures.index c.as_slice.ensures c.self.view_is in
    c.from_residual.ensures ∙ ap as_name (sym c.in_err-index.was ∙ is)

pub returns : goal.returns
returns c =
    let is = numbered_is c.args.text.now c.as_slice.result.now c.self.inside.texts.keys c.args.self.now c.get_index_of.result c.get_index_of.ensures.index c.as_slice.ensures c.self.view_is in
    ap as_name (sym c.in_ok-index.was ∙ is)
