use Rattle.std.proofs.Common.{sym, ◌∙◌, refl, ap}
use Rattle.vale_page.specs.BlockState.{body_in}
use Rattle.vale_page.proofs.PageLemmas.{held, body_shown, kept_lent, lent_shown}
use Rattle.vale_page.proofs.page.Page.body_mut.Goals as goal

pub get_mut-requires : goal.get_mut-requires
get_mut-requires g c =
    let laid = c.self.invariant.block.laid in
    (sym laid.bodies_at, held c.self.inside.frame c.self.inside.block c.args.slot (rw (← c.self.view_is) at c.requires.there))

pub invariant_of-self-lent : goal.invariant_of-self-lent
invariant_of-self-lent g c w = kept_lent _ _ _ c.self.inside.block c.self.invariant c.args.slot _ w c.get_mut.ensures.value

pub returns : goal.returns
returns g c =
    rw (← c.self.view_is) (
      (refl, λ w. lent_shown _ _ _ c.self.inside.block c.self.invariant c.args.slot _ w c.get_mut.ensures.value),
      record { writes_back = tt; value = body_shown c.self.inside.block.bodies.cells c.args.slot ∙ ap body_in c.get_mut.ensures.value },
    )
