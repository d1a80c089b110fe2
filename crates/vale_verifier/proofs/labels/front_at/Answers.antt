use Rattle.vale_verifier.proofs.LabelLaws.{none_at_front}
use Rattle.vale_verifier.proofs.labels.front_at.Goals as goal

pub returns-else-label-p : goal.returns-else-label-p
returns-else-label-p c = none_at_front c.args.labels.now c.label-item.result c.args.p c.in-len1-up.len_at_least c.label-item.is c.if-label-p.false c.requires
