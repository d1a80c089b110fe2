use Rattle.std.proofs.Math.Logic.{∥∥₁_map}
use Rattle.vale_core.specs.View.{view_core}
use Rattle.vale_lower.proofs.lowering.lower.Goals as goal

pub returns-in_err-code-clause-runs : goal.returns-in_err-code-clause-runs
returns-in_err-code-clause-runs c covered =
    ∥∥₁_map c.args.sound.now.is_sound (λ s. c.well_formed_programs_run.ensures s.0 s.1 s.2 (view_core c.args.sound.now.core) s.3 s.4 covered)

pub returns-in_err-facts-clause-runs : goal.returns-in_err-facts-clause-runs
returns-in_err-facts-clause-runs c covered =
    ∥∥₁_map c.args.sound.now.is_sound (λ s. c.well_formed_programs_run.ensures s.0 s.1 s.2 (view_core c.args.sound.now.core) s.3 s.4 covered)

pub returns-clause-runs : goal.returns-clause-runs
returns-clause-runs c covered =
    ∥∥₁_map c.args.sound.now.is_sound (λ s. c.well_formed_programs_run.ensures s.0 s.1 s.2 (view_core c.args.sound.now.core) s.3 s.4 covered)
