use Rattle.vale_listing.proofs.LabelLaws.{no_line}
use Rattle.vale_listing.proofs.lines.push_label.Goals as goal

pub returns-then-label-place-clause-line : goal.returns-then-label-place-clause-line
returns-then-label-place-clause-line c =
    no_line _ c.args.place c.args.labels.now c.label-item.result c.requires c.in-len1-up.len_at_least c.label-item.is c.if-label-place.true
