-- What a page ends as, where a `&mut` to one of its bodies is returned.
use Rattle.std.specs.Prelude.{ℕ, Option}
use Rattle.std.specs.Borrow.{Lends, LendsIf, Fml, RattleType, MutBor}
use Rattle.vale_page.specs.PageState.{PageState, with_body}
use Rattle.vale_page.specs.contracts.page.Page.{the_row}

module _ (B : RattleType) (p : MutBor (PageState B.Denot)) (slot : ℕ) where
  -- once the borrow ends the slot has the last body written, and at `None` the page stays as it is
  abbrev pub lends_body : Option (MutBor B.Denot) → Fml
  lends_body r = LendsIf (the_row B) B p r (with_body p.now slot) p.now

  abbrev pub lends_live_body : MutBor B.Denot → Fml
  lends_live_body r = Lends (the_row B) B p r (with_body p.now slot)
