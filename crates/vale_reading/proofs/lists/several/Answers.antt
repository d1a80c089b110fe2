use Rattle.std.proofs.Common.{refl}
use Rattle.vale_reading.proofs.lists.several.Goals as goal

pub returns-in-Ok : goal.returns-in-Ok
returns-in-Ok g c = record { all = c.many.result; turns = c.many.ensures; alone = rw c.in-Ok.is refl }

pub returns-in-Err : goal.returns-in-Err
returns-in-Err g c = record { all = c.many.result; turns = c.many.ensures; alone = rw c.in-Err.is refl }
