use Rattle.std.proofs.Common.{sym, subst}
use Rattle.vale_words.proofs.OptionLemmas.{texts-cons, texts-none}
use Rattle.vale_words.proofs.WordLemmas.{with_missing, with_wrong, with_behind, not_true}
use Rattle.vale_words.specs.Words.{IsFileName}
use Rattle.vale_words.proofs.words.read_name_with.Goals as goal

pub returns-in_default-clause-fault : goal.returns-in_default-clause-fault
returns-in_default-clause-fault c = rw (c.fault_at.ensures, texts-none _ c.in_default.len_below) with_missing

pub returns-then-not-is_file_name-clause-fault : goal.returns-then-not-is_file_name-clause-fault
returns-then-not-is_file_name-clause-fault c =
    rw (c.fault_at-then-not-is_file_name.ensures, texts-cons _ _ c.in-len1-up.len_at_least c.name-item.is)
    (with_wrong _ _ (λ is. not_true c.is_file_name.result c.if-not-is_file_name.true (c.is_file_name.ensures.1 (subst IsFileName (sym c.as_str.ensures.value) is))))

pub returns-in-Err-Is-clause-fault : goal.returns-in-Err-Is-clause-fault
returns-in-Err-Is-clause-fault c =
    let fault = rw c.in-Err-Is.field-0-is at c.in-Err-Is.ensures.fault in
    rw (c.fault_at-in-Err-Is.ensures, texts-cons _ _ c.in-len1-up.len_at_least c.name-item.is)
    (with_behind _ _ _ (subst IsFileName c.as_str.ensures.value (c.is_file_name.ensures.0 c.if-not-is_file_name.false)) fault)
