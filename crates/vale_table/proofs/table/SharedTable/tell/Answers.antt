use Rattle.std.proofs.Common.{arith}
use Rattle.vale_table.proofs.HandLemmas.{tells}
use Rattle.vale_table.proofs.table.SharedTable.tell.Goals as goal

pub load-requires : goal.load-requires
load-requires g c = let t = c.args.self.now in (c.requires, omega (arith, t.words, t.positive), tells _ _ _ _ _ _)

pub returns-clause-sane : goal.returns-clause-sane
returns-clause-sane g c = λ f near. let t = c.args.self.now in c.load.ensures.2.1 f (omega (arith, t.slots, near))
