use Rattle.vale_cert.proofs.Start.{safe}
use Rattle.vale_cert.proofs.laws.certified_code_never_goes_wrong.Goals as goal

pub returns : goal.returns
returns c = λ code facts cert input takes ticks. safe code facts cert input takes ticks
