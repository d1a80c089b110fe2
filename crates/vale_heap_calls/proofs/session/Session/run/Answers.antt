use Rattle.std.proofs.Common.{◌≡◌, [], ◌∷◌, ◌++◌, sym, ap, ◌∙◌, append_assoc}
use Rattle.vale_heap_calls.proofs.RunLaws.{follow_more, full_more, can_next}
use Rattle.vale_heap_calls.proofs.session.Session.run.Goals as goal

pub call-requires : goal.call-requires
call-requires c =
    let inv = c.loop-call.invariant in
    let all : c.loop-call.yielded ++ c.in-Some.call ∷ c.next.new.self.rest.items ≡ c.args.calls.items =
    ap (λ l. c.loop-call.yielded ++ l) (sym c.in-Some.ensures.steps.0) ∙ inv.rest ∙ c.into_iter-call-iterator.ensures.into_iter_gives.0 in
    can_next c.args.self.now.heap c.loop-call.self.heap c.args.self.now.table c.loop-call.self.table c.args.self.now.places.items c.loop-call.self.places.items c.args.calls.items c.loop-call.yielded c.next.new.self.rest.items c.loop-call.replies.items c.in-Some.call inv.depth inv.follow all c.requires

pub loop-call-preserved : goal.loop-call-preserved
loop-call-preserved c =
    let inv = c.loop-call.invariant in
    record {
      follow = rw c.in_ok-push.ensures.items (follow_more c.args.self.now.heap c.loop-call.self.heap c.call.new.self.heap c.args.self.now.table c.loop-call.self.table c.call.new.self.table c.args.self.now.places.items c.loop-call.self.places.items c.call.new.self.places.items c.loop-call.yielded c.loop-call.replies.items c.in-Some.call c.in_ok-reply.reply inv.depth inv.follow c.in_ok-reply.ensures.follows);
      depth = c.call.ensures.depth ∙ inv.depth;
      full = rw c.in_ok-push.ensures.items (full_more c.loop-call.self.heap c.loop-call.self.table c.call.new.self.table c.loop-call.replies.items c.in_ok-reply.reply inv.full c.call.ensures.known c.call.ensures.frames c.in_ok-reply.ensures.cause);
      rest = append_assoc c.loop-call.yielded (c.in-Some.call ∷ []) c.next.new.self.rest.items ∙ ap (λ l. c.loop-call.yielded ++ l) (sym c.in-Some.ensures.steps.0) ∙ inv.rest;
    }
