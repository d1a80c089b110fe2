use Rattle.std.proofs.Common.{◌∙◌, sym}
use Rattle.vale_words.proofs.FaultLemmas.{unlawful, one_fault}
use Rattle.vale_words.proofs.OptionLemmas.{texts-cons, texts-none}
use Rattle.vale_words.proofs.WordLemmas.{words_missing, command_wrong, command_behind}
use Rattle.vale_words.specs.Words.{Lawful}
use Rattle.vale_words.proofs.words.read_words.Goals as goal

pub returns-in_default-clause-fault : goal.returns-in_default-clause-fault
returns-in_default-clause-fault c = rw (c.fault_at.ensures, texts-none _ c.in_default.len_below) words_missing

pub returns-in_default-command_named-clause-fault : goal.returns-in_default-command_named-clause-fault
returns-in_default-command_named-clause-fault c =
    rw (c.fault_at-in_default-command_named.ensures, texts-cons _ _ c.in-len1-up.len_at_least c.word-item.is)
    (command_wrong _ _ (λ command text. c.in_default-command_named.not-Some command (c.command_named.ensures.complete command (text ∙ sym c.as_str.ensures.value))))

pub returns-in_default-command_named-clause-faulty : goal.returns-in_default-command_named-clause-faulty
returns-in_default-command_named-clause-faulty c index fault =
    let other = rw (texts-cons _ _ c.in-len1-up.len_at_least c.word-item.is) at fault in
    rw c.fault_at-in_default-command_named.ensures
    (one_fault Lawful _ 0 index (command_wrong _ _ (λ command text. c.in_default-command_named.not-Some command (c.command_named.ensures.complete command (text ∙ sym c.as_str.ensures.value)))) other)

pub returns-in-Ok-clause-faulty : goal.returns-in-Ok-clause-faulty
returns-in-Ok-clause-faulty c index fault =
    let other = rw (texts-cons _ _ c.in-len1-up.len_at_least c.word-item.is) at fault in
    unlawful Lawful _ index other (c.in-Ok.job, (c.in-Some.command, c.in-Some.ensures.found ∙ c.as_str.ensures.value, c.in-Ok.ensures.found))

pub returns-in-Err-Is-clause-fault : goal.returns-in-Err-Is-clause-fault
returns-in-Err-Is-clause-fault c =
    let behind = rw c.in-Err-Is.field-0-is at c.in-Err-Is.ensures.fault in
    rw (c.fault_at-in-Err-Is.ensures, texts-cons _ _ c.in-len1-up.len_at_least c.word-item.is)
    (command_behind _ _ c.in-Some.command _ (c.in-Some.ensures.found ∙ c.as_str.ensures.value) (λ other text. c.in-Some.ensures.complete other (text ∙ sym c.as_str.ensures.value)) behind)

pub returns-in-Err-Is-clause-faulty : goal.returns-in-Err-Is-clause-faulty
returns-in-Err-Is-clause-faulty c index fault =
    let behind = rw c.in-Err-Is.field-0-is at c.in-Err-Is.ensures.fault in
    let other = rw (texts-cons _ _ c.in-len1-up.len_at_least c.word-item.is) at fault in
    rw c.fault_at-in-Err-Is.ensures
    (one_fault Lawful _ _ index
    (command_behind _ _ c.in-Some.command _ (c.in-Some.ensures.found ∙ c.as_str.ensures.value) (λ command text. c.in-Some.ensures.complete command (text ∙ sym c.as_str.ensures.value)) behind)
    other)
