use Rattle.vale_file_spec.proofs.WholeLaws.{one_spelling}
use Rattle.vale_codefile.proofs.SpellingLaws.{shaped, is_spelled}
use Rattle.vale_codefile.proofs.writing.write_code.Goals as goal

pub returns-clause-spelled : goal.returns-clause-spelled
returns-clause-spelled c =
    let v = c.args.verified.now in
    is_spelled c.in_ok-bytes.bytes.items v.code v.facts (c.code_fits.ensures.shaped (shaped v.code v.facts v.certified)) c.in_ok-bytes.ensures

pub returns-clause-unique : goal.returns-clause-unique
returns-clause-unique c = λ bytes s.
    let v = c.args.verified.now in
    one_spelling c.in_ok-bytes.bytes.items bytes 1 v.code v.facts (is_spelled c.in_ok-bytes.bytes.items v.code v.facts (c.code_fits.ensures.shaped (shaped v.code v.facts v.certified)) c.in_ok-bytes.ensures) s
