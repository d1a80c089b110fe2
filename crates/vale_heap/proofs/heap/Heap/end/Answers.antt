use Rattle.std.proofs.Common.{◌≡◌, ◌<◌, Bool, arith, sym, ap, subst, ◌∙◌, get_or, Some, None, length, refl}
use Rattle.std.proofs.lemmas.List.{get_or_read}
use Rattle.std.proofs.lemmas.Grind.{common_steps}
use Rattle.std.specs.Option.{option_map}
use Rattle.vale_heap.specs.declared.body.Body.{Body}
use Rattle.vale_heap.specs.Layout.{list_for}
use Rattle.vale_heap.specs.HeapState.{HeapState, body_in, look_in, EndsIn, IsEnded, IsRoot, KeepsFrames, with_seat}
use Rattle.vale_heap.proofs.HeapLaws.{heap_ended}
use Rattle.vale_heap.proofs.LayoutLaws.{listed_law, list_there, laid_same}
use Rattle.vale_heap.proofs.StandLaws.{found_law, end_law}
use Rattle.vale_heap.proofs.HandLaws.{ended_keeps, keeps_same}
use Rattle.vale_heap.proofs.heap.Heap.end.Goals.{then-moves, else-moves}
use Rattle.vale_heap.proofs.heap.Heap.end.Goals as goal

abbrev fst : Body × Bool → Body
fst ended = ended.0

pub move_to-requires-clause-list : goal.move_to-requires-clause-list
move_to-requires-clause-list c =
    let h : HeapState = record { seats = c.self.inside.seats.items; regions = c.self.inside.regions; depth = c.self.inside.depth } in
    let frame = c.args.at.frame in
    let within : frame < length h.seats = omega (arith, c.if-frame-frames.false, c.len-frames.ensures, c.self.inside.seats.ok) in
    let read : get_or h.seats frame None ≡ c.index_mut-seat.result.now = sym (get_or_read _ frame _ within c.index_mut-seat.ensures.value None) in
    let ended : IsEnded h (with_seat h frame c.end_in.new.seat) c.in-Some.body c.args.at = record { seat = c.end_in.new.seat; ends = subst (λ o. EndsIn o c.end_in.new.seat c.in-Some.body c.args.at) (sym read) c.in-Some.ensures.ended; now = refl } in
    let no_root : IsRoot h c.args.at → ⊥ = rw (← c.self.view_is) at c.requires.no_root in
    let many : c.len-frames.result ≡ length h.seats = omega (arith, c.len-frames.ensures, c.self.inside.seats.ok) in
    list_there h c.self.inside.lists frame c.len-frames.result c.end_in.new.seat c.list_for.result c.self.invariant within (heap_ended h _ c.in-Some.body c.args.at c.self.invariant.heap c.requires.within no_root ended) many c.list_for.ensures

pub invariant_of-self : goal.invariant_of-self
invariant_of-self c =
    let h : HeapState = record { seats = c.self.inside.seats.items; regions = c.self.inside.regions; depth = c.self.inside.depth } in
    let frame = c.args.at.frame in
    let within : frame < length h.seats = omega (arith, c.if-frame-frames.false, c.len-frames.ensures, c.self.inside.seats.ok) in
    let read : get_or h.seats frame None ≡ c.index_mut-seat.result.now = sym (get_or_read _ frame _ within c.index_mut-seat.ensures.value None) in
    let ended : IsEnded h (with_seat h frame c.end_in.new.seat) c.in-Some.body c.args.at = record { seat = c.end_in.new.seat; ends = subst (λ o. EndsIn o c.end_in.new.seat c.in-Some.body c.args.at) (sym read) c.in-Some.ensures.ended; now = refl } in
    let no_root : IsRoot h c.args.at → ⊥ = rw (← c.self.view_is) at c.requires.no_root in
    let many : c.len-frames.result ≡ length h.seats = omega (arith, c.len-frames.ensures, c.self.inside.seats.ok) in
    listed_law h c.self.inside.lists c.move_to.new.self frame c.len-frames.result c.end_in.new.seat c.list_for.result c.self.invariant within (heap_ended h _ c.in-Some.body c.args.at c.self.invariant.heap c.requires.within no_root ended) many c.list_for.ensures c.move_to.ensures

pub invariant_of-self-else-moves : goal.invariant_of-self-else-moves
invariant_of-self-else-moves c =
    let h : HeapState = record { seats = c.self.inside.seats.items; regions = c.self.inside.regions; depth = c.self.inside.depth } in
    let frame = c.args.at.frame in
    let within : frame < length h.seats = omega (arith, c.if-frame-frames.false, c.len-frames.ensures, c.self.inside.seats.ok) in
    let read : get_or h.seats frame None ≡ c.index_mut-seat.result.now = sym (get_or_read _ frame _ within c.index_mut-seat.ensures.value None) in
    let ended : IsEnded h (with_seat h frame c.end_in.new.seat) c.in-Some.body c.args.at = record { seat = c.end_in.new.seat; ends = subst (λ o. EndsIn o c.end_in.new.seat c.in-Some.body c.args.at) (sym read) c.in-Some.ensures.ended; now = refl } in
    let no_root : IsRoot h c.args.at → ⊥ = rw (← c.self.view_is) at c.requires.no_root in
    laid_same h c.self.inside.lists frame c.end_in.new.seat c.self.invariant within (heap_ended h _ c.in-Some.body c.args.at c.self.invariant.heap c.requires.within no_root ended) (c.in-Some.ensures.stays c.if-moves.false (length h.seats) frame ∙ ap (list_for (length h.seats) frame) (sym read))

pub returns-after-moves-clause-ended : goal.returns-after-moves-clause-ended
returns-after-moves-clause-ended c =
    let h : HeapState = record { seats = c.self.inside.seats.items; regions = c.self.inside.regions; depth = c.self.inside.depth } in
    let within : c.args.at.frame < length h.seats = omega (arith, c.if-frame-frames.false, c.len-frames.ensures, c.self.inside.seats.ok) in
    let read : get_or h.seats c.args.at.frame None ≡ c.index_mut-seat.result.now = sym (get_or_read _ c.args.at.frame _ within c.index_mut-seat.ensures.value None) in
    let now : c.if-moves.self ≡ with_seat h c.args.at.frame c.end_in.new.seat = elim c.if-moves.branch [ then-moves w ↦ w.self-is | else-moves w ↦ w.self-is ] in
    rw (← c.self.view_is) (record {
      seat = c.end_in.new.seat;
      ends = subst (λ o. EndsIn o c.end_in.new.seat c.in-Some.body c.args.at) (sym read) c.in-Some.ensures.ended;
      now = now;
    })

pub returns-after-moves-clause-found : goal.returns-after-moves-clause-found
returns-after-moves-clause-found c =
    let within : c.args.at.frame < length c.self.inside.seats.items = omega (arith, c.if-frame-frames.false, c.len-frames.ensures, c.self.inside.seats.ok) in
    let read : get_or c.self.inside.seats.items c.args.at.frame None ≡ c.index_mut-seat.result.now = sym (get_or_read _ c.args.at.frame _ within c.index_mut-seat.ensures.value None) in
    let found : option_map fst c.end_in.result ≡ look_in c.args.self.now c.args.at = rw (← c.self.view_is) (c.end_in.ensures.body ∙ ap (λ o. body_in o c.args.at.slot c.args.at.generation) (sym read)) in
    found_law c.args.self.now c.args.at (Some c.in-Some.body) (sym (ap (option_map fst) c.in-Some.is) ∙ found)

pub returns-after-moves-clause-stands : goal.returns-after-moves-clause-stands
returns-after-moves-clause-stands c = end_law _ _ c.in-Some.body c.args.at c.requires.within c.requires.no_root (returns-after-moves-clause-ended c)

pub returns-after-moves-clause-keeps : goal.returns-after-moves-clause-keeps
returns-after-moves-clause-keeps c = ended_keeps _ _ c.in-Some.body c.args.at (returns-after-moves-clause-ended c)

pub returns-in-None-clause-found : goal.returns-in-None-clause-found
returns-in-None-clause-found c =
    let within : c.args.at.frame < length c.self.inside.seats.items = omega (arith, c.if-frame-frames.false, c.len-frames.ensures, c.self.inside.seats.ok) in
    let read : get_or c.self.inside.seats.items c.args.at.frame None ≡ c.index_mut-seat.result.now = sym (get_or_read _ c.args.at.frame _ within c.index_mut-seat.ensures.value None) in
    let found : option_map fst c.end_in.result ≡ look_in c.args.self.now c.args.at = rw (← c.self.view_is) (c.end_in.ensures.body ∙ ap (λ o. body_in o c.args.at.slot c.args.at.generation) (sym read)) in
    found_law c.args.self.now c.args.at None (sym (ap (option_map fst) c.in-None.is) ∙ found)

pub returns-in-None-clause-none : goal.returns-in-None-clause-none
returns-in-None-clause-none c = grind (arith, common_steps)

pub returns-in-None-clause-keeps : goal.returns-in-None-clause-keeps
returns-in-None-clause-keeps c = subst (KeepsFrames c.args.self.now) (sym (returns-in-None-clause-none c)) (keeps_same c.args.self.now)
