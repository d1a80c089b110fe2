use Rattle.std.proofs.Common.{◌≡◌, take}
use Rattle.vale_reading.specs.Seen.{nows}
use Rattle.vale_reading.proofs.names.Names.to_items.Given as goal

abbrev pub invariant-loop-text : goal.invariant-loop-text
invariant-loop-text l = l.texts ≡ nows (take l.text-index l.slices)
