use Rattle.std.proofs.Common.{arith, ap, ◌∙◌, refl, length, Some}
use Rattle.std.proofs.lemmas.List.{length-map}
use Rattle.vale_table.proofs.SeatLemmas.{opens_here, whole_batch}
use Rattle.vale_table.proofs.ViewLemmas.{opens_as}
use Rattle.vale_table.proofs.table.SharedTable.open.Goals as goal

pub new-requires : goal.new-requires
new-requires g c =
    let i = c.loop-page.invariant in
    let empty = c.in-None.ensures.steps.0 in
    let batch = whole_batch c.loop-page.yielded _ _ c.args.frames c.args.first (omega (arith, empty)) (i.rest ∙ c.into_iter-page-iterator.ensures.into_iter_gives.0) c.in_ok-page-items.ensures in
    opens_here _ _ _ _ _ c.loop-page.yielded c.deref.ensures.value i.words i.slots c.requires.first batch

pub invariant_of-result-in-Ok : goal.invariant_of-result-in-Ok
invariant_of-result-in-Ok g c =
    let i = c.loop-page.invariant in
    let h = c.in-Ok.ensures.ok in
    let empty = c.in-None.ensures.steps.0 in
    let batch = whole_batch c.loop-page.yielded _ _ c.args.frames c.args.first (omega (arith, empty)) (i.rest ∙ c.into_iter-page-iterator.ensures.into_iter_gives.0) c.in_ok-page-items.ensures in
    let o = opens_as c.args.frames c.args.first c.in-Ok.token.table_id c.in-Ok.token.me.0 (ap (λ z. z.slots) h.2 ∙ h.1 ∙ ap length i.slots ∙ length-map c.loop-page.yielded Some ∙ batch.many) (ap (λ m. m.0) h.4) in
    record { empty = ap (λ m. m.1) h.4; passed = λ f near. absurd (omega (arith, near)); rests = o.0 }

pub returns-in-Ok : goal.returns-in-Ok
returns-in-Ok g c =
    let i = c.loop-page.invariant in
    let h = c.in-Ok.ensures.ok in
    let empty = c.in-None.ensures.steps.0 in
    let batch = whole_batch c.loop-page.yielded _ _ c.args.frames c.args.first (omega (arith, empty)) (i.rest ∙ c.into_iter-page-iterator.ensures.into_iter_gives.0) c.in_ok-page-items.ensures in
    let o = opens_as c.args.frames c.args.first c.in-Ok.token.table_id c.in-Ok.token.me.0 (ap (λ z. z.slots) h.2 ∙ h.1 ∙ ap length i.slots ∙ length-map c.loop-page.yielded Some ∙ batch.many) (ap (λ m. m.0) h.4) in
    (h.2, refl, o.1)
