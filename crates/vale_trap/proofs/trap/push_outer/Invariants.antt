use Rattle.std.proofs.Common.{◌≡◌, ◌++◌, drop}
use Rattle.vale_model.specs.Report.{outer_text}
use Rattle.vale_trap.proofs.trap.push_outer.Given as goal

abbrev pub invariant-loop-frame : goal.invariant-loop-frame
invariant-loop-frame l = l.text.items ++ outer_text l.at (drop l.frame-index l.frames) ≡ l.initial.text.items ++ outer_text l.initial.at l.frames
