use Rattle.std.proofs.Common.{arith, ap}
use Rattle.vale_table.proofs.StepLemmas.{looks}
use Rattle.vale_table.proofs.ViewLemmas.{marked_is}
use Rattle.vale_table.proofs.table.SharedTable.look.Goals as goal

pub load-requires : goal.load-requires
load-requires g c = let t = c.args.self.now in (c.requires.table, omega (arith, t.words, c.requires.frame), looks _ _ _ _ _ _ (omega (arith, t.key, c.requires.frame)) c.requires.alive)

pub returns-clause-out : goal.returns-clause-out
returns-clause-out g c = λ zero. marked_is _ _ _ _ (ap (λ m. m.0) (c.load.ensures.2.0 zero))

pub returns-clause-seen : goal.returns-clause-seen
returns-clause-seen g c = λ some. marked_is _ _ _ _ (ap (λ m. m.0) (c.load.ensures.2.1 some))
