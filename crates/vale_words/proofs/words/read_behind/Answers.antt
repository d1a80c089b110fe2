use Rattle.vale_words.proofs.FaultLemmas.{unlawful}
use Rattle.vale_words.proofs.WordLemmas.{run_fault, exec_fault, check_fault, fmt_fault, list_fault, build_fault, no_build, IfFault-weaker}
use Rattle.vale_words.specs.Words.{AreTwoNames}
use Rattle.vale_words.specs.declared.job.Job.{Job}
use Rattle.vale_words.specs.declared.job.Options.{Options}
use Rattle.vale_words.proofs.words.read_behind.Goals as goal

pub returns-in-Err-clause-fault : goal.returns-in-Err-clause-fault
returns-in-Err-clause-fault c =
    rw c.in-Run.is (IfFault-weaker Options Job _ _ c.in-Err.fault (λ f fault. run_fault _ f.index fault) c.in-Err.ensures.fault)

pub returns-in-Err-read_name-clause-fault : goal.returns-in-Err-read_name-clause-fault
returns-in-Err-read_name-clause-fault c = rw (c.fault_at.ensures, c.in-Check.is) (check_fault _ _ c.in-Err-read_name.ensures.fault)

pub returns-in-Err-read_name-2-clause-fault : goal.returns-in-Err-read_name-2-clause-fault
returns-in-Err-read_name-2-clause-fault c =
    rw (c.fault_at-in-Err-read_name-2.ensures, c.in-Fmt.is) (fmt_fault _ _ c.in-Err-read_name-2.ensures.fault)

pub returns-in-Err-read_two_names-clause-complete : goal.returns-in-Err-read_two_names-clause-complete
returns-in-Err-read_two_names-clause-complete c job asks =
    let asked = rw c.in-Build.is at asks in
    absurd (no_build _ job (unlawful AreTwoNames _ _ c.in-Err-read_two_names.ensures.fault) asked)

pub returns-in-Err-read_two_names-clause-fault : goal.returns-in-Err-read_two_names-clause-fault
returns-in-Err-read_two_names-clause-fault c =
    rw (c.fault_at-in-Err-read_two_names.ensures, c.in-Build.is) (build_fault _ _ c.in-Err-read_two_names.ensures.fault)

pub returns-in-Err-read_name_with-clause-fault : goal.returns-in-Err-read_name_with-clause-fault
returns-in-Err-read_name_with-clause-fault c =
    rw c.in-Exec.is (IfFault-weaker Options Job _ _ c.in-Err-read_name_with.fault (λ f fault. exec_fault _ f.index fault) c.in-Err-read_name_with.ensures.fault)

pub returns-in-Err-read_name-3-clause-fault : goal.returns-in-Err-read_name-3-clause-fault
returns-in-Err-read_name-3-clause-fault c =
    rw (c.fault_at-in-Err-read_name-3.ensures, c.in-List.is) (list_fault _ _ c.in-Err-read_name-3.ensures.fault)
