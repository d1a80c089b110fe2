use Rattle.std.proofs.Common.{◌≡◌, ◌+◌, ◌<◌, ◌≢◌, Some, None, length, get_or, sym, ◌∙◌, arith, subst}
use Rattle.std.proofs.lemmas.List.{get_or_read}
use Rattle.vale_heap.proofs.ListLaws.{at, first_none, first_some}
use Rattle.vale_heap.proofs.lists.Lists.first.Goals as goal

pub returns-then-item-head-clause-none : goal.returns-then-item-head-clause-none
returns-then-item-head-clause-none c =
    let ring = c.self.invariant.0 in
    let len : c.len.result ≡ length c.self.inside.on.items = omega (arith, c.len.ensures, c.self.inside.on.ok) in
    let fits : c.args.list < c.self.inside.lists = rw (← c.self.view_is) at c.requires in
    let within : c.len.result + c.args.list < length c.self.inside.next.items = omega (arith, ring.nexts, c.len.ensures, fits) in
    let read : c.index-item.result.now ≡ at c.self.inside.next.items (c.len.result + c.args.list) = get_or_read _ (c.len.result + c.args.list) _ within c.index-item.ensures 0 in
    let empty : at c.self.inside.next.items (length c.self.inside.on.items + c.args.list) ≡ length c.self.inside.on.items + c.args.list =
    subst (λ n. at c.self.inside.next.items (n + c.args.list) ≡ n + c.args.list) len (sym read ∙ c.if-item-head.true) in
    rw (← c.self.view_is) (first_none _ _ _ _ c.args.list ring fits empty)

pub returns-else-item-head-clause-some : goal.returns-else-item-head-clause-some
returns-else-item-head-clause-some c =
    let ring = c.self.invariant.0 in
    let len : c.len.result ≡ length c.self.inside.on.items = omega (arith, c.len.ensures, c.self.inside.on.ok) in
    let fits : c.args.list < c.self.inside.lists = rw (← c.self.view_is) at c.requires in
    let within : c.len.result + c.args.list < length c.self.inside.next.items = omega (arith, ring.nexts, c.len.ensures, fits) in
    let read : c.index-item.result.now ≡ at c.self.inside.next.items (c.len.result + c.args.list) = get_or_read _ (c.len.result + c.args.list) _ within c.index-item.ensures 0 in
    let read_on : c.index-item.result.now ≡ at c.self.inside.next.items (length c.self.inside.on.items + c.args.list) =
    subst (λ n. c.index-item.result.now ≡ at c.self.inside.next.items (n + c.args.list)) len read in
    let some : at c.self.inside.next.items (length c.self.inside.on.items + c.args.list) ≢ length c.self.inside.on.items + c.args.list =
    λ e. c.if-item-head.false (omega (arith, read_on, e, c.len.ensures)) in
    rw (← c.self.view_is) (subst (λ n. (n < length c.self.inside.on.items) × (get_or c.self.inside.on.items n None ≡ Some c.args.list)) (sym read_on) (first_some _ _ _ _ c.args.list ring fits some))
