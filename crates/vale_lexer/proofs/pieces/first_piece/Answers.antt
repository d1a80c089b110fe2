use Rattle.std.proofs.Common.{◌∙◌, sym, arith}
use Rattle.vale_lexer.proofs.Fronts.{next_sign}
use Rattle.vale_lexer.proofs.Scans.{take-rest}
use Rattle.vale_lexer.proofs.pieces.first_piece.Goals as goal

pub returns-else-starts_with : goal.returns-else-starts_with
returns-else-starts_with c =
    c.sign_piece.ensures ∙ rw (take-rest 1 c.args.bytes.now)
    (next_sign c.args.bytes.now (omega arith) (sym c.is_blank.ensures ∙ c.if-is_blank.false) (sym c.is_letter.ensures ∙ c.if-is_letter.false)
    (sym c.is_digit.ensures ∙ c.if-is_digit.false) c.if-first-eq34.false (sym c.starts_with.ensures.value ∙ c.if-starts_with.false))
