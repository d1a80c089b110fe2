use Rattle.std.proofs.lemmas.List.Elements.{All-get_or}
use Rattle.vale_marks.specs.Ways.{IsEdge}
use Rattle.vale_marks.proofs.WayLaws.{marked_next}
use Rattle.vale_marks.proofs.marks.spread_along.Goals as goal

pub returns-in_err-mark : goal.returns-in_err-mark
returns-in_err-mark c =
    marked_next c.args.way c.args.code.now c.loop-edge.marks c.mark.new.marks _ c.args.kind c.loop-edge.invariant
    (All-get_or (IsEdge c.args.way c.args.code.now) c.args.edges.now c.loop-edge.edge-index _ c.loop-edge-test.true c.requires.edges) c.if-edge-kind.false c.requires.leads c.mark.ensures

pub loop-edge-preserved : goal.loop-edge-preserved
loop-edge-preserved c =
    marked_next c.args.way c.args.code.now c.loop-edge.marks c.mark.new.marks _ c.args.kind c.loop-edge.invariant
    (All-get_or (IsEdge c.args.way c.args.code.now) c.args.edges.now c.loop-edge.edge-index _ c.loop-edge-test.true c.requires.edges) c.if-edge-kind.false c.requires.leads c.mark.ensures
