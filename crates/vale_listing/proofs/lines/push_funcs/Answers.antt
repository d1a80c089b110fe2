use Rattle.std.proofs.Common.{arith}
use Rattle.vale_listing.proofs.CertifiedLaws.{labels_rise}
use Rattle.vale_listing.proofs.lines.push_funcs.Goals as goal

pub push_func-requires : goal.push_func-requires
push_func-requires c =
    rw c.labels_of.ensures (labels_rise c.args.funcs.now c.args.facts.now c.loop-func.number c.requires (omega (arith, c.loop-func.invariant.at, c.loop-func-test.true)))
