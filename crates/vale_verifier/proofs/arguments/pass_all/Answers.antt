use Rattle.std.proofs.Common.{◌≡◌, ◌≢◌, ◌<◌, length, drop, sym, ◌∙◌, arith, length-drop}
use Rattle.std.proofs.lemmas.Bool.{eqb-false}
use Rattle.vale_verifier.proofs.RuleLaws.{too_many, too_few}
use Rattle.vale_verifier.proofs.arguments.pass_all.Goals as goal

pub returns-in-empty : goal.returns-in-empty
returns-in-empty c =
    let rest = drop c.loop-a.a-index c.args.args.now in
    let more : 0 < length rest = omega (arith, length-drop c.loop-a.a-index c.args.args.now) in
    sym c.loop-a.invariant ∙ too_many _ _ _ _ c.in-empty.len_below more

pub returns-else-is_empty : goal.returns-else-is_empty
returns-else-is_empty c =
    let rest = drop c.loop-a.a-index c.args.args.now in
    let some : length c.loop-a.left.now ≢ 0 = eqb-false (length c.loop-a.left.now) 0 (sym c.is_empty.ensures ∙ c.if-is_empty.false) in
    let more : 0 < length c.loop-a.left.now = omega arith in
    let none : length rest ≡ 0 = omega (arith, length-drop c.loop-a.a-index c.args.args.now) in
    sym c.loop-a.invariant ∙ too_few _ _ _ _ more none
