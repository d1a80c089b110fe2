use Rattle.std.proofs.Common.{sym, ap, subst}
use Rattle.vale_code.specs.Parts.{Parts}
use Rattle.vale_cert.specs.Certificate.{Certified}
use Rattle.vale_core.specs.View.{view_core}
use Rattle.vale_lower_facts.specs.Marks.{lowered_facts}
use Rattle.vale_run.proofs.running.run_program.Goals as goal

pub run_certified-ran-requires-clause-certified : goal.run_certified-ran-requires-clause-certified
run_certified-ran-requires-clause-certified c =
    let facts = lowered_facts (view_core c.args.core.now) in
    (facts, subst (λ z. Certified z facts) (sym c.in_ok-code.ensures) c.requires.runs.certified)

pub run_certified-ran-requires-clause-no_kinds : goal.run_certified-ran-requires-clause-no_kinds
run_certified-ran-requires-clause-no_kinds c = ap (λ (z : Parts). z.kinds) c.in_ok-code.ensures
