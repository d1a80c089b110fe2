use Rattle.std.proofs.Common.{◌≡◌, take, List, option_map}
use Rattle.vale_lowering_objects.specs.Scopes.{Entry, find}
use Rattle.vale_lower_flow.specs.Entries.{entry_of, framed}
use Rattle.vale_lower_flow.specs.Kept.{or_else}
use Rattle.vale_lower_flow.proofs.scope.last_named.Given as goal

-- what was found is the last of those so far
abbrev pub invariant-loop-local : goal.invariant-loop-local
invariant-loop-local l = (outer : List Entry) → find l.name.0 (framed (take l.local-index l.locals) outer) ≡ or_else (option_map entry_of l.found) (find l.name.0 outer)
