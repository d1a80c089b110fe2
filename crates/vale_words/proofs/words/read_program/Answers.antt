use Rattle.std.proofs.Common.{sym, subst}
use Rattle.vale_words.proofs.OptionLemmas.{texts-cons, texts-none, more_texts}
use Rattle.vale_words.proofs.WordLemmas.{program_missing, program_wrong, text_more, program_behind}
use Rattle.vale_words.specs.Words.{IsNumber}
use Rattle.vale_words.proofs.words.read_program.Goals as goal

pub returns-in_default-clause-fault : goal.returns-in_default-clause-fault
returns-in_default-clause-fault c = rw (c.fault_at.ensures, texts-none _ c.in_default.len_below) program_missing

pub returns-in_default-small_number_within-clause-fault : goal.returns-in_default-small_number_within-clause-fault
returns-in_default-small_number_within-clause-fault c =
    rw (c.fault_at-in_default-small_number_within.ensures, texts-cons _ _ c.in-len1-up.len_at_least c.number-item.is)
    (program_wrong _ _ (λ n is. c.in_default-small_number_within.not-Some n (c.small_number_within.ensures.complete n (subst (λ w. IsNumber 1 10000 w n) (sym c.as_str.ensures.value) is))))

pub returns-then-more-gt1-clause-fault : goal.returns-then-more-gt1-clause-fault
returns-then-more-gt1-clause-fault c =
    let is = subst (λ w. IsNumber 1 10000 w c.in-Some.n) c.as_str.ensures.value c.in-Some.ensures.found in
    rw (c.fault_at-then-more-gt1.ensures, texts-cons _ _ c.in-len1-up.len_at_least c.number-item.is)
    (text_more _ _ c.in-Some.n is (c.begins_with_text.ensures.yes c.if-begins_with_text.true) (more_texts _ c.if-more-gt1.true))

pub returns-in-Err-Is-clause-fault : goal.returns-in-Err-Is-clause-fault
returns-in-Err-Is-clause-fault c =
    let is = subst (λ w. IsNumber 1 10000 w c.in-Some.n) c.as_str.ensures.value c.in-Some.ensures.found in
    let fault = rw c.in-Err-Is.field-0-is at c.in-Err-Is.ensures.fault in
    rw (c.fault_at-in-Err-Is.ensures, texts-cons _ _ c.in-len1-up.len_at_least c.number-item.is)
    (program_behind _ c.in-Some.n is _ _ (c.begins_with_text.ensures.no c.if-begins_with_text.false) fault)
