use Rattle.std.proofs.Common.{◌≡◌, [], ◌∷◌, sym, ap, ◌∙◌}
use Rattle.std.specs.Prelude.{true, pos}
use Rattle.std.proofs.lemmas.Result.{on_ok_weaker}
use Rattle.vale_code.specs.declared.instr.Instr.TheVariants as i
use Rattle.vale_lower_flow.specs.Flow.{Going, going, put}
use Rattle.vale_lower_stmts.proofs.EndLaws.{there_two}
use Rattle.vale_lower_stmts.proofs.loops.go_on.Goals as goal

pub returns : goal.returns
unfolding going
returns c =
    let k : (going c.args.flow.now).comes ≡ true = cc in
    on_ok_weaker c.put-2.result (λ e. e ∙ ap (λ (z : Going). put (i.Add c.args.h c.args.h c.args.turn c.args.at ∷ []) z) c.in_ok-put.ensures ∙ sym (there_two (i.Int c.args.turn (pos 1)) (i.Add c.args.h c.args.h c.args.turn c.args.at) (going c.args.flow.now) k)) c.put-2.ensures
