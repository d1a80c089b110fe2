use Rattle.std.proofs.Common.{◌≡◌, ◌∙◌}
use Rattle.std.proofs.lemmas.Result.{IfOk-weaker}
use Rattle.vale_core.specs.View.{view_core}
use Rattle.vale_lowering.specs.Lowered.{lowered}
use Rattle.vale_lower_code.proofs.WholeLaws.{whole}
use Rattle.vale_lower_code.proofs.code.lower_code.Goals as goal

pub returns : goal.returns
returns c = IfOk-weaker c.new-2.result _ (λ x. x ≡ lowered (view_core c.args.core.now)) (λ x e. e ∙
    whole c.args.core.now c.as_slice-names.result.now c.in_ok-texts.texts c.as_slice-all.result.now c.as_slice-items.result.now c.in_ok-functions.functions c.as_slice-each.result.now c.new-kinds.result c.new-impls.result c.in_ok-funcs.funcs c.in_ok-main.main
    c.as_slice-names.ensures c.as_slice-items.ensures c.in_ok-functions.ensures c.as_slice-each.ensures c.in_ok-texts.ensures c.as_slice-all.ensures c.in_ok-funcs.ensures c.in_ok-main.ensures c.new-kinds.ensures c.new-impls.ensures) c.new-2.ensures.made
