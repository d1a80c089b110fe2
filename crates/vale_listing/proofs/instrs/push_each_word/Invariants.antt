use Rattle.std.proofs.Common.{◌≡◌, ◌++◌, take}
use Rattle.vale_listing.specs.Listing.{words}
use Rattle.vale_listing.proofs.instrs.push_each_word.Given as goal

abbrev pub invariant-loop-number : goal.invariant-loop-number
invariant-loop-number l = l.text.items ≡ l.fn.text.items ++ words (take l.number-index l.numbers)
