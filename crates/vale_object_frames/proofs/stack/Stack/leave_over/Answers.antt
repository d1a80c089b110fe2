use Rattle.std.proofs.Common.{refl, reverse, ap, ◌∙◌}
use Rattle.std.proofs.lemmas.List.{reverse-reverse}
use Rattle.std.proofs.lemmas.Result.{on_ok_weaker}
use Rattle.vale_object_frames.proofs.StackLaws.{is_left}
use Rattle.vale_object_frames.proofs.stack.Stack.leave_over.Goals as goal

pub returns : goal.returns
returns c =
    on_ok_weaker c.lay.result
    (is_left c.args.kind c.args.at c.args.cells c.args.self.now c.lay.new.self (record { kind = c.args.kind; at = c.args.at; rest = c.reverse.new.self }) refl refl
    (ap reverse c.reverse.ensures.items ∙ reverse-reverse c.into_vec-rest.result.items ∙ c.into_vec-rest.ensures))
    c.lay.ensures
