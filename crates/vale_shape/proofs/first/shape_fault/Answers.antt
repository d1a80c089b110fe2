use Rattle.std.proofs.Common.{List, Bool, sym, ap, ◌∙◌}
use Rattle.vale_cert.specs.Shape.{shape_fault_by}
use Rattle.vale_cert.specs.Types.{marked}
use Rattle.vale_shape.proofs.ShapeLaws.{by_marks}
use Rattle.vale_shape.proofs.first.shape_fault.Goals as goal

pub returns-in-None : goal.returns-in-None
returns-in-None c =
    record {
      first = sym c.in-None.is ∙ c.in_ok-fault.ensures.first ∙ ap (λ (marks : List Bool). shape_fault_by c.args.code.now (marked marks) c.args.facts.now) c.deref.ensures.value
          ∙ by_marks c.args.code.now c.in_ok-marks.marks.items c.args.facts.now c.in_ok-marks.ensures;
      known = λ is. c.in_ok-fault.ensures.known c.in-None.is;
    }

pub returns : goal.returns
returns c =
    record {
      first = sym c.in-Some.is ∙ c.in_ok-fault.ensures.first ∙ ap (λ (marks : List Bool). shape_fault_by c.args.code.now (marked marks) c.args.facts.now) c.deref.ensures.value
          ∙ by_marks c.args.code.now c.in_ok-marks.marks.items c.args.facts.now c.in_ok-marks.ensures;
      known = λ is. absurd (cc is);
    }
