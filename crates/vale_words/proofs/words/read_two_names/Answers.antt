use Rattle.std.proofs.Common.{sym, subst}
use Rattle.vale_words.proofs.OptionLemmas.{texts-cons, texts-none}
use Rattle.vale_words.proofs.WordLemmas.{two_missing, two_wrong, two_behind, not_true}
use Rattle.vale_words.specs.Words.{IsFileName}
use Rattle.vale_words.proofs.words.read_two_names.Goals as goal

pub returns-in_default-clause-fault : goal.returns-in_default-clause-fault
returns-in_default-clause-fault c = rw (texts-none _ c.in_default.len_below) two_missing

pub returns-then-not-is_file_name-clause-fault : goal.returns-then-not-is_file_name-clause-fault
returns-then-not-is_file_name-clause-fault c =
    rw (texts-cons _ _ c.in-len1-up.len_at_least c.name-item.is)
    (two_wrong _ _ (λ is. not_true c.is_file_name.result c.if-not-is_file_name.true (c.is_file_name.ensures.1 (subst IsFileName (sym c.as_str.ensures.value) is))))

pub returns-in-Err-clause-fault : goal.returns-in-Err-clause-fault
returns-in-Err-clause-fault c =
    rw (texts-cons _ _ c.in-len1-up.len_at_least c.name-item.is)
    (two_behind _ _ _ (subst IsFileName c.as_str.ensures.value (c.is_file_name.ensures.0 c.if-not-is_file_name.false)) c.in-Err.ensures.fault)
