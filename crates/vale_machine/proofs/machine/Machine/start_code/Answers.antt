use Rattle.std.proofs.Common.{◌≡◌, true, subst}
use Rattle.vale_cert.specs.Input.{takes_input}
use Rattle.vale_machine.specs.Given.{given_of}
use Rattle.vale_machine.proofs.Beginning.{if_started, startable}
use Rattle.vale_machine.proofs.machine.Machine.start_code.Goals as goal

pub begin-requires-clause-startable : goal.begin-requires-clause-startable
begin-requires-clause-startable c =
    let code = c.args.code.now in
    startable code c.requires.certified.0 c.requires.certified.1 (subst (λ i. takes_input code (given_of i) ≡ true) c.requires.none c.requires.takes)

pub returns-clause-under_way : goal.returns-clause-under_way
returns-clause-under_way c =
    let code = c.args.code.now in
    if_started code c.requires.certified.0 c.requires.certified.1 c.args.ticks c.begin.result c.requires.no_kinds (subst (λ i. takes_input code (given_of i) ≡ true) c.requires.none c.requires.takes) c.begin.ensures.begins c.begin.ensures.laid c.begin.ensures.left
