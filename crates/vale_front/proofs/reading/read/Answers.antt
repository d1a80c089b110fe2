use Rattle.std.proofs.Common.{arith}
use Rattle.vale_front.specs.Front.{no_tree}
use Rattle.vale_front.proofs.reading.read.Goals as goal

pub returns-in-Err-Is-parse-clause-refused : goal.returns-in-Err-Is-parse-clause-refused
returns-in-Err-Is-parse-clause-refused c =
    let why = rw c.in-Err-Is-parse.field-0-is at c.in-Err-Is-parse.ensures.fault in
    no_tree (omega arith) c.in-Ok.tokens c.in-Ok.ensures.found
    (λ x spelled. rw c.in-Err-Is-parse.field-0-is at (c.in-Err-Is-parse.ensures.complete x spelled)) why
