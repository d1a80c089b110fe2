use Rattle.std.proofs.Common.{refl, arith}
use Rattle.std.proofs.lemmas.Result.{IfOk-weaker}
use Rattle.vale_core.specs.View.{view_core}
use Rattle.vale_front.proofs.ByteLaws.{all_bytes}
use Rattle.vale_run.specs.CodeMeans.{refused_build, builds}
use Rattle.vale_run.specs.Effects.{refuses, writes}
use Rattle.vale_run.proofs.codes.build_text.Goals as goal

pub build_program-requires : goal.build_program-requires
build_program-requires c =
    let found = c.in-Ok.ensures.found in
    record { runs = c.accepted_programs_run.ensures c.args.text.now found.0 found.1 (view_core c.in-Ok.sound.core) (all_bytes c.args.text.now (λ k. omega (arith, c.type_inv.text k))) found.2 }

pub returns-in-Ok : goal.returns-in-Ok
returns-in-Ok c =
    let found = c.in-Ok.ensures.found in
    IfOk-weaker c.build_program.result _ _
    (λ a built. (writes (record { name = c.args.name.now; bytes = built.0 }), builds found.0 found.1 (view_core c.in-Ok.sound.core) found.2 built.0 built.1 refl, built.2))
    c.build_program.ensures

pub returns-in-Err-Is : goal.returns-in-Err-Is
returns-in-Err-Is c =
    let why = rw c.in-Err-Is.field-0-is at c.in-Err-Is.ensures.refused in
    IfOk-weaker c.refused.result _ _ (λ a e. (refuses _ _, refused_build _ _ why refl, e)) c.refused.ensures
