use Rattle.std.proofs.Common.{map}
use Rattle.vale_syntax.specs.View.{view_head}
use Rattle.vale_type_faults.proofs.steps.method_fault.Goals as goal

pub returns-in_ok-code-in-Some-method_seen : goal.returns-in_ok-code-in-Some-method_seen
returns-in_ok-code-in-Some-method_seen c =
    rw (← c.in-Some-method_seen.ensures, ← c.in-Some.ensures) (c.in_ok-code-in-Some-method_seen.ensures (map view_head c.in-Some._methods.now))
