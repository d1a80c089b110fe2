use Rattle.std.proofs.Common.{◌≡◌, [], ◌∷◌, sym, ◌∙◌}
use Rattle.std.specs.Prelude.{true}
use Rattle.std.proofs.lemmas.Result.{on_ok_weaker}
use Rattle.vale_code.specs.declared.instr.Instr.TheVariants as i
use Rattle.vale_lower_flow.specs.Flow.{going}
use Rattle.vale_lower_stmts.proofs.EndLaws.{there_put}
use Rattle.vale_lower_stmts.proofs.ends.keep_there.Goals as goal

pub returns : goal.returns
unfolding going
returns c =
    let k : (going c.args.flow.now).comes ≡ true = cc in
    on_ok_weaker c.put.result (λ e. e ∙ sym (there_put (i.ThawKeep c.args.h c.args.h ∷ []) (going c.args.flow.now) k)) c.put.ensures
