use Rattle.std.proofs.Common.{◌≡◌, ◌++◌, drop}
use Rattle.vale_listing.specs.Listing.{funcs_lines}
use Rattle.vale_listing.proofs.lines.push_funcs.Given as goal

abbrev pub invariant-loop-func : goal.invariant-loop-func
invariant-loop-func l = record {
  at : l.number ≡ l.func-index;
  written : l.text.items ++ funcs_lines l.texts l.facts l.number (drop l.func-index l.funcs) ≡ l.fn.text.items ++ funcs_lines l.texts l.facts 0 l.funcs;
}
