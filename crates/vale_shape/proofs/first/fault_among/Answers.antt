use Rattle.std.proofs.Common.{◌≡◌, ◌<◌, ℕ, length, Some, ap, ◌∙◌, sym, arith}
use Rattle.vale_cert.specs.Types.{marked}
use Rattle.vale_shape.proofs.ShapeLaws.{no_facts, unlawful, lawful, more_facts}
use Rattle.vale_shape.proofs.first.fault_among.Goals as goal

pub returns-in-None-clause-first : goal.returns-in-None-clause-first
returns-in-None-clause-first c =
    no_facts c.args.code.now (marked c.args.marks.now) c.loop-m.m c.args.funcs.now c.args.facts.now c.index-funcs-m.result c.loop-m-test.true c.index-funcs-m.is c.in-None.ensures
    ∙ c.loop-m.invariant

pub returns-then-not-func_is_lawful-clause-first : goal.returns-then-not-func_is_lawful-clause-first
returns-then-not-func_is_lawful-clause-first c =
    unlawful c.args.code.now (marked c.args.marks.now) c.loop-m.m c.args.funcs.now c.args.facts.now c.index-funcs-m.result c.loop-m-test.true c.index-funcs-m.is c.in-Some.one.now c.in-Some.ensures
    (sym c.func_is_lawful.ensures ∙ c.if-not-func_is_lawful.true)
    ∙ c.loop-m.invariant

pub loop-m-preserved : goal.loop-m-preserved
loop-m-preserved c =
    lawful c.args.code.now (marked c.args.marks.now) c.loop-m.m c.args.funcs.now c.args.facts.now c.index-funcs-m.result c.loop-m-test.true c.index-funcs-m.is c.in-Some.one.now c.in-Some.ensures
    (sym c.func_is_lawful.ensures ∙ c.if-not-func_is_lawful.false)
    ∙ c.loop-m.invariant

pub returns-then-facts-count-clause-first : goal.returns-then-facts-count-clause-first
returns-then-facts-count-clause-first c =
    let all : length c.args.funcs.now ≡ c.loop-m.m = omega arith in
    let more : c.loop-m.m < length c.args.facts.now = omega arith in
    ap (λ (n : ℕ). Some n) all
    ∙ more_facts c.args.code.now (marked c.args.marks.now) c.loop-m.m c.args.funcs.now c.args.facts.now c.loop-m-test.false more
    ∙ c.loop-m.invariant
