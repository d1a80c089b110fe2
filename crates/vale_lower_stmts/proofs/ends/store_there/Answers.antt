use Rattle.std.proofs.Common.{◌≡◌, sym, ◌∙◌}
use Rattle.std.specs.Prelude.{true, option_map}
use Rattle.std.proofs.lemmas.Result.{on_ok_weaker}
use Rattle.vale_lower_flow.specs.Entries.{entry_of}
use Rattle.vale_lower_flow.specs.Flow.{going}
use Rattle.vale_lower_flow.specs.Kept.{view_gives}
use Rattle.vale_lower_stmts.proofs.EndLaws.{there_stored}
use Rattle.vale_lower_stmts.proofs.ends.store_there.Goals as goal

pub returns : goal.returns
unfolding going
returns c =
    let k : (going c.args.flow.now).comes ≡ true = cc in
    on_ok_weaker c.put_store.result (λ e. e ∙ sym (there_stored (option_map entry_of c.args.local) (view_gives c.args.gives) c.args.h c.args.at (going c.args.flow.now) k)) c.put_store.ensures
