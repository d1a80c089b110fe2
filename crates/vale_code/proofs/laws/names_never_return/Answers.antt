use Rattle.vale_code.proofs.RunLaws.{steps_later}
use Rattle.vale_code.proofs.laws.names_never_return.Goals as goal

pub returns : goal.returns
returns c code n d name = (steps_later code n d).names name
