use Rattle.std.proofs.Common.{◌≡◌, []}
use Rattle.vale_code.specs.Fuel.{fuel}
use Rattle.vale_machine.specs.Given.{given_of}
use Rattle.vale_machine.specs.UnderWay.{IsUnderWay}
use Rattle.vale_machine.specs.View.{config_of}
use Rattle.vale_machine.proofs.Running.{Follows}
use Rattle.vale_machine.proofs.runs.run_certified.Given as goal

-- the run goes on from the machine as from its start
abbrev pub invariant-stretches : goal.invariant-stretches
invariant-stretches l = record {
  under_way : IsUnderWay l.code [] l.machine;
  follows : Follows l.code (given_of l.fn.input) l.ticks (config_of l.code [] l.machine);
  given : l.machine.given ≡ l.ticks;
}

abbrev pub decreases-stretches : goal.decreases-stretches
decreases-stretches l = fuel l.code (config_of l.code [] l.machine)
