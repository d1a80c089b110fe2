use Rattle.std.proofs.Common.{◌≡◌, sym, ◌∙◌}
use Rattle.std.specs.Prelude.{true}
use Rattle.std.proofs.lemmas.Result.{on_ok_weaker}
use Rattle.vale_lowering_objects.specs.Lowered.{hand}
use Rattle.vale_lower_flow.specs.Flow.{going}
use Rattle.vale_lower_flow.specs.Kept.{view_gives}
use Rattle.vale_lower_stmts.proofs.EndLaws.{there_put}
use Rattle.vale_lower_stmts.proofs.ends.hand_there.Goals as goal

pub returns : goal.returns
unfolding going
returns c =
    let k : (going c.args.flow.now).comes ≡ true = cc in
    on_ok_weaker c.put_hand.result (λ e. e ∙ sym (there_put (hand (view_gives c.args.gives) c.args.to c.args.h) (going c.args.flow.now) k)) c.put_hand.ensures
