use Rattle.std.proofs.Common.{◌≡◌, ◌<◌, ◌∙◌, ℕ, ◌==◌, min, length, refl, sym, arith}
use Rattle.std.proofs.lemmas.List.{drop_more}
use Rattle.std.proofs.lemmas.Result.{on_ok_weaker}
use Rattle.vale_lower_flow.specs.Entries.{framed}
use Rattle.vale_lower_flow.specs.Flow.{going}
use Rattle.vale_lower_parts.proofs.BlockLaws.{declared_step, declared_end, next_of}
use Rattle.vale_lower_parts.proofs.frame.Frame.declare_all.Goals as goal

pub loop-at-preserved : goal.loop-at-preserved
loop-at-preserved c = λ outer after rest.
    let named : c.loop-at.at < length c.args.names.now = omega arith in
    let typed : c.loop-at.at < length c.args.types.now = omega arith in
    declared_step c.args.end after rest c.loop-at.self.closings c.keep.new.self c.declare.new.self.closings c.args.names.now c.args.types.now c.loop-at.at _ c.index-types-at.result
    c.loop-at.self.next c.declare.new.self.next _ _ _ (framed c.loop-at.self.locals.items outer) (framed c.declare.new.self.locals.items outer) (going c.loop-at.flow) (going c.declare.new.flow)
    (drop_more c.args.names.now c.loop-at.at _ named) (next_of c.args.types.now c.loop-at.at c.index-types-at.result typed c.index-types-at.is)
    c.of-gives.ensures c.is_value.ensures c.in_ok-start.ensures c.in_ok-keep.ensures c.in_ok-declare.ensures.next (c.in_ok-declare.ensures.locals outer) c.in_ok-declare.ensures.filled c.in_ok-declare.ensures.closings
    ∙ c.loop-at.invariant outer after rest

pub returns : goal.returns
returns c = on_ok_weaker c.keep-2.result (λ e. λ outer after rest.
    let ended : c.loop-at.at ≡ min (length c.args.names.now) (length c.args.types.now) = omega arith in
    declared_end c.args.end after rest c.loop-at.self.closings c.keep-2.new.self c.args.names.now c.args.types.now c.loop-at.at c.loop-at.self.next _ _ (framed c.loop-at.self.locals.items outer) (going c.loop-at.flow)
    ended refl c.in_ok-start-2.ensures e
    ∙ c.loop-at.invariant outer after rest) c.keep-2.ensures
