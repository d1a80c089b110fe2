use Rattle.std.proofs.Common.{map}
use Rattle.vale_syntax.specs.View.{view_item}
use Rattle.vale_rules_spec.specs.Declarations.{leads, iso_holders}
use Rattle.vale_names.specs.Isos.{sources_of}
use Rattle.vale_names.specs.Spread.{work}
use Rattle.vale_names.proofs.SpreadLaws.{IsSpreading}
use Rattle.vale_names.proofs.reach.least_closed.Given as goal

abbrev pub invariant-loop-name : goal.invariant-loop-name
invariant-loop-name l = IsSpreading (leads (map view_item l.items)) (iso_holders (map view_item l.items)) l.spread

abbrev pub decreases-loop-name : goal.decreases-loop-name
decreases-loop-name l = work l.spread (sources_of (map view_item l.items))
