use Rattle.std.proofs.Common.{◌≡◌, ◌++◌, true, drop}
use Rattle.vale_listing.specs.Labels.{rise_at}
use Rattle.vale_listing.specs.Listing.{body_lines}
use Rattle.vale_listing.proofs.lines.push_body.Given as goal

abbrev pub invariant-loop-instr : goal.invariant-loop-instr
invariant-loop-instr l = record {
  at : l.place ≡ l.instr-index;
  rises : rise_at l.place l.left ≡ true;
  written : l.text.items ++ body_lines l.left l.place (drop l.instr-index l.body) ≡ l.fn.text.items ++ body_lines l.labels 0 l.body;
}
