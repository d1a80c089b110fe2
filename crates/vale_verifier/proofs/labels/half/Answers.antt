use Rattle.std.proofs.Common.{◌/◌, ◌<◌, ◌≤◌, List, length, subst, sym, ap, ◌∙◌, arith}
use Rattle.vale_cert.specs.Known.{label_at}
use Rattle.vale_cert.specs.declared.facts.Label.{Label}
use Rattle.vale_verifier.specs.Walking.{Ahead}
use Rattle.vale_verifier.proofs.LabelLaws.{front_ahead, back_ahead, in_front, in_back, whole_back}
use Rattle.vale_verifier.proofs.labels.half.Goals as goal

pub returns-then-p-labels-clause-ahead : goal.returns-then-p-labels-clause-ahead
returns-then-p-labels-clause-ahead c = front_ahead (length c.args.labels.now / 2) 0 c.args.labels.now c.requires.ahead

pub returns-then-p-labels-clause-same : goal.returns-then-p-labels-clause-same
returns-then-p-labels-clause-same c =
    let labels = c.args.labels.now in
    let inside : length labels / 2 < length labels = omega (arith, c.requires.some) in
    let at = ap (λ (x : Label). x.at) c.index-labels-middle.is in
    let less : c.args.p < c.index-labels-middle.result.at = omega (arith, at, c.if-p-labels.true) in
    in_front (length labels / 2) 0 c.args.p labels c.index-labels-middle.result c.requires.ahead inside c.index-labels-middle.is less

pub returns-else-p-labels-clause-ahead : goal.returns-else-p-labels-clause-ahead
returns-else-p-labels-clause-ahead c =
    let labels = c.args.labels.now in
    subst (λ (x : List Label). Ahead 0 x) (sym (whole_back (length labels / 2) labels)) (back_ahead (length labels / 2) 0 labels c.requires.ahead)

pub returns-else-p-labels-clause-same : goal.returns-else-p-labels-clause-same
returns-else-p-labels-clause-same c =
    let labels = c.args.labels.now in
    let inside : length labels / 2 < length labels = omega (arith, c.requires.some) in
    let at = ap (λ (x : Label). x.at) c.index-labels-middle.is in
    let le : c.index-labels-middle.result.at ≤ c.args.p = omega (arith, at, c.if-p-labels.false) in
    ap (λ (x : List Label). label_at x c.args.p) (whole_back (length labels / 2) labels)
    ∙ in_back (length labels / 2) 0 c.args.p labels c.index-labels-middle.result c.requires.ahead inside c.index-labels-middle.is le
