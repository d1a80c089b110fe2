use Rattle.vale_run.proofs.CodeLaws.{run_kinds, run_takes}
use Rattle.vale_run.proofs.codes.run_verified.Goals as goal

pub run-ran-requires-clause-no_kinds : goal.run-ran-requires-clause-no_kinds
run-ran-requires-clause-no_kinds c = run_kinds c.args.code.now.code c.requires.runs

pub run-ran-requires-clause-takes : goal.run-ran-requires-clause-takes
run-ran-requires-clause-takes c = run_takes c.args.code.now.code c.requires.runs
