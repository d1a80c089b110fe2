use Rattle.std.proofs.Common.{◌≡◌, sym, ◌∙◌}
use Rattle.std.specs.Prelude.{true}
use Rattle.std.proofs.lemmas.Result.{on_ok_weaker}
use Rattle.vale_lowering_objects.specs.Lowered.{drop_value}
use Rattle.vale_lower_flow.specs.Flow.{going}
use Rattle.vale_lower_flow.specs.Kept.{view_gives}
use Rattle.vale_lower_stmts.proofs.EndLaws.{there_put}
use Rattle.vale_lower_stmts.proofs.ends.drop_unused.Goals as goal

pub returns : goal.returns
unfolding going
returns c =
    let k : (going c.args.flow.now).comes ≡ true = cc in
    on_ok_weaker c.drop_value.result (λ e. e ∙ sym (there_put (drop_value (view_gives c.args.gives) c.args.h c.args.at) (going c.args.flow.now) k)) c.drop_value.ensures
