use Rattle.std.proofs.Common.{◌≡◌, ◌≢◌, ◌<◌, ℕ, Some, length, ◌∙◌, ap, arith}
use Rattle.vale_heap.specs.HeapState.{HeapState}
use Rattle.vale_heap.specs.Layout.{roomy_list}
use Rattle.vale_heap.specs.ListState.{list_at}
use Rattle.vale_heap.proofs.LayoutLaws.{roomy_is_for, first_full, none_for_law}
use Rattle.vale_heap.proofs.heap.Heap.first_open.Goals as goal

pub returns-in-Some-clause-some : goal.returns-in-Some-clause-some
returns-in-Some-clause-some c =
    let h : HeapState = record { seats = c.self.inside.seats.items; regions = c.self.inside.regions; depth = c.self.inside.depth } in
    let len : c.len.result ≡ length c.self.inside.seats.items = omega (arith, c.len.ensures, c.self.inside.seats.ok) in
    let list : c.roomy_list-roomy.result ≡ roomy_list (length c.self.inside.seats.items) c.args.region = c.roomy_list-roomy.ensures ∙ ap (λ n. roomy_list n c.args.region) len in
    let is : list_at c.self.inside.lists c.in-Some.frame ≡ Some (roomy_list (length c.self.inside.seats.items) c.args.region) = c.in-Some.ensures.some.1 ∙ ap (λ n. Some n) list in
    rw (← c.self.view_is) (roomy_is_for h c.self.inside.lists c.self.invariant c.in-Some.frame c.args.region c.in-Some.ensures.some.0 is)

pub returns-in-None-clause-some : goal.returns-in-None-clause-some
returns-in-None-clause-some c =
    let h : HeapState = record { seats = c.self.inside.seats.items; regions = c.self.inside.regions; depth = c.self.inside.depth } in
    let len : c.len.result ≡ length c.self.inside.seats.items = omega (arith, c.len.ensures, c.self.inside.seats.ok) in
    let list : c.roomy_list-roomy.result ≡ roomy_list (length c.self.inside.seats.items) c.args.region = c.roomy_list-roomy.ensures ∙ ap (λ n. roomy_list n c.args.region) len in
    rw (← c.self.view_is) (first_full h c.self.inside.lists c.self.invariant c.args.region c.first-in-None.result (rw list at c.first-in-None.ensures.some))

pub returns-in-None-clause-none : goal.returns-in-None-clause-none
returns-in-None-clause-none c =
    let h : HeapState = record { seats = c.self.inside.seats.items; regions = c.self.inside.regions; depth = c.self.inside.depth } in
    let len : c.len.result ≡ length c.self.inside.seats.items = omega (arith, c.len.ensures, c.self.inside.seats.ok) in
    let list : c.roomy_list-roomy.result ≡ roomy_list (length c.self.inside.seats.items) c.args.region = c.roomy_list-roomy.ensures ∙ ap (λ n. roomy_list n c.args.region) len in
    let no_roomy : (frame : ℕ) → frame < length c.self.inside.lists.on → list_at c.self.inside.lists frame ≢ Some (roomy_list (length c.self.inside.seats.items) c.args.region) = rw list at c.in-None.ensures.none in
    rw (← c.self.view_is) (none_for_law h c.self.inside.lists c.self.invariant c.args.region c.first-in-None.result no_roomy (rw list at c.first-in-None.ensures.none))
