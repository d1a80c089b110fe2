use Rattle.vale_region_cert.proofs.Ending.{ends_innermost, no_root_ends}
use Rattle.vale_region_cert.proofs.Starting.{run_keeps}
use Rattle.vale_region_cert.proofs.laws.certified_code_keeps_regions.Goals as goal

pub returns-clause-kept : goal.returns-clause-kept
returns-clause-kept c = λ code facts cert input takes ticks last d reached. (run_keeps code facts cert input takes ticks last d reached).1

pub returns-clause-innermost : goal.returns-clause-innermost
returns-clause-innermost c = λ code facts cert input takes ticks last d reached. ends_innermost code facts cert input takes ticks last d reached

pub returns-clause-no_root : goal.returns-clause-no_root
returns-clause-no_root c = λ code facts cert input takes ticks last d reached. no_root_ends code facts cert input takes ticks last d reached
