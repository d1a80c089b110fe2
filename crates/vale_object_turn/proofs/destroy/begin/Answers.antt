use Rattle.std.proofs.Common.{◌∙◌, arith, refl, sym}
use Rattle.vale_object_turn.proofs.Destroying.{begin_dies, begin_enters}
use Rattle.vale_object_turn.proofs.destroy.begin.Goals as goal

pub returns-in-Some-clause-step : goal.returns-in-Some-clause-step
returns-in-Some-clause-step c =
    begin_enters c.args.code.now c.args.place c.args.depth c.args.heap.now c.args.left.now c.in-Some.function c.kind_at-kind.result _ (omega arith) (omega arith) c.kind_at-kind.ensures (sym c.destructor_of-destructor.ensures ∙ c.in-Some.is) refl

pub returns-in-None-clause-step : goal.returns-in-None-clause-step
returns-in-None-clause-step c =
    begin_dies c.args.code.now c.args.place c.args.depth c.args.heap.now c.args.left.now c.kind_at-kind.result c.end-body.result c.end-body.new.heap _ (omega arith) (omega arith) c.kind_at-kind.ensures (sym c.destructor_of-destructor.ensures ∙ c.in-None.is) c.end-body.ensures.ends refl
