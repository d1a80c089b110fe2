use Rattle.std.proofs.Common.{◌≡◌, sym, ap, subst, ◌∙◌, inr}
use Rattle.vale_heap.specs.HeapState.{IsPut, with_spare}
use Rattle.vale_heap.proofs.StandLaws.{made_law}
use Rattle.vale_heap.proofs.HandLaws.{frugal_law, made_of_hand}
use Rattle.vale_heap.proofs.heap.Heap.make_by_claim.Goals as goal

pub returns-in-Some-clause-made : goal.returns-in-Some-clause-made
returns-in-Some-clause-made g c =
    let claimed = c.in-Some.ensures.some in
    let page = c.in-Some.page in
    let place = c.put_at.result in
    let at : place.frame ≡ page.frame = c.put_at.ensures.frame ∙ c.take_page-frame.ensures.frame in
    inr (record {
      no_room = c.requires.no_room;
      page = page;
      base = claimed.0;
      claimed = rw at claimed.1;
      put = subst (λ h. IsPut h c.put_at.new.self c.args.body place) (c.take_page-frame.ensures.after ∙ ap (λ f. with_spare c.args.self.now f page) (sym at)) c.put_at.ensures.put;
    })

pub returns-in-Some-clause-stands : goal.returns-in-Some-clause-stands
returns-in-Some-clause-stands g c = made_law _ _ _ c.args.body _ c.requires.few c.requires.known (returns-in-Some-clause-made g c)

pub returns-in-Some-clause-frugal : goal.returns-in-Some-clause-frugal
returns-in-Some-clause-frugal g c = frugal_law _ _ _ c.args.body _ c.requires.sound c.requires.few (returns-in-Some-clause-made g c)

pub returns-in-Some-clause-of_hand : goal.returns-in-Some-clause-of_hand
returns-in-Some-clause-of_hand g c = made_of_hand _ _ _ c.args.body _ (returns-in-Some-clause-made g c)
