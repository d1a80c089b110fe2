use Rattle.std.proofs.Common.{◌++◌, ◌-◌, List, Bool, length, get_or, take, replicate, ap, ◌∙◌}
use Rattle.std.proofs.Math.ListN.{set}
use Rattle.std.proofs.lemmas.List.{get_or_default}
use Rattle.vale_code.specs.declared.ty.Ty.{Ty}
use Rattle.vale_code.specs.declared.ty.Ty.TheVariants.{Void}
use Rattle.vale_cert.specs.Known.{params_from}
use Rattle.vale_cert.specs.declared.facts.RegFact.{RegFact}
use Rattle.vale_cert.specs.declared.facts.RegFact.TheVariants.{Empty, Held}
use Rattle.vale_verifier.proofs.KnownLaws.{enters_one}
use Rattle.vale_verifier.proofs.known.enter.Goals as goal

pub loop-i-preserved : goal.loop-i-preserved
loop-i-preserved c =
    let params = c.args.params.now in
    let i = c.loop-i.i in
    let room = length c.args.regs.now in
    let ty : Ty = get_or params i Void in
    ap (λ (r : List RegFact). set r i (Held ty 0 c.is_in.result)) c.loop-i.invariant
    ∙ ap (λ (b : Bool). set (params_from 0 c.args.live.now (take i params) ++ replicate (room - i) Empty) i (Held ty 0 b)) c.is_in.ensures
    ∙ enters_one room c.args.live.now params i ty c.loop-i-test.true c.requires (get_or_default params i Void ty c.loop-i-test.true)
