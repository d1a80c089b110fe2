use Rattle.std.proofs.Common.{ℕ, List, ap, ◌∙◌}
use Rattle.vale_reading.specs.Seen.{nows, seen}
use Rattle.vale_reading.proofs.Numbered.{insert_nows}
use Rattle.vale_reading.proofs.names.see.Goals as goal

pub returns-in_ok-insert : goal.returns-in_ok-insert
returns-in_ok-insert c =
    rw c.in-Name.is (ap nows c.in_ok-insert.ensures.keys ∙ (insert_nows c.args.texts.now.keys c.as_slice.result ∙ ap (λ (z : List ℕ). seen (nows c.args.texts.now.keys) z) c.as_slice.ensures))
