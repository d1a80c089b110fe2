use Rattle.std.proofs.Common.{◌≡◌, [], ◌∷◌, sym, ap, ◌∙◌}
use Rattle.std.specs.Prelude.{true}
use Rattle.std.proofs.lemmas.Result.{on_ok_weaker}
use Rattle.vale_code.specs.declared.instr.Instr.TheVariants as i
use Rattle.vale_lower_flow.specs.Entries.{entries}
use Rattle.vale_lower_flow.specs.Flow.{Going, going, put}
use Rattle.vale_lower_stmts.proofs.EndLaws.{there_dropped}
use Rattle.vale_lower_stmts.proofs.ends.return_there.Goals as goal

pub returns : goal.returns
unfolding going
returns c =
    let k : (going c.args.flow.now).comes ≡ true = cc in
    on_ok_weaker c.put.result (λ e. e ∙ ap (λ (z : Going). put (i.Ret c.args.h ∷ []) z) c.in_ok-drop_scope.ensures ∙ sym (there_dropped (entries c.args.scope.now) c.args.at (i.Ret c.args.h) (going c.args.flow.now) k)) c.put.ensures
