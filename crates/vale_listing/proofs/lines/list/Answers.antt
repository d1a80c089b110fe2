use Rattle.vale_listing.proofs.CertifiedLaws.{certified_rises}
use Rattle.vale_listing.proofs.lines.list.Goals as goal

pub push_funcs-requires : goal.push_funcs-requires
push_funcs-requires c =
    let whole = certified_rises c.args.code.now c.args.facts.now c.requires.certified in
    let code = rw (← c.code.view_is) at whole in
    let both = rw (← c.facts.view_is) at code in
    rw (c.as_slice-2.ensures, c.as_slice-3.ensures) both
