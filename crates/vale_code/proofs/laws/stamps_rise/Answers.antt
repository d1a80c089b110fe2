use Rattle.vale_code.proofs.RunLaws.{stamps}
use Rattle.vale_code.proofs.laws.stamps_rise.Goals as goal

pub returns : goal.returns
returns c = stamps
