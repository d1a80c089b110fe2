use Rattle.std.proofs.Common.{◌≡◌, ◌+◌, ◌∙◌, ℕ, ap, length, drop, arith}
use Rattle.vale_code.specs.Sizes.{instructions}
use Rattle.vale_cert.specs.Walk.{functions_fault}
use Rattle.vale_verifier.proofs.FuncLaws.{first_fits, no_facts, first_breaks, first_keeps, others_lawful, fewer}
use Rattle.vale_verifier.proofs.walk.fault_among.Goals as goal

pub function_fault-requires-clause-params : goal.function_fault-requires-clause-params
function_fault-requires-clause-params c =
    (first_fits c.args.code.now c.loop-n.n c.args.funcs.now c.args.facts.now c.index-funcs-n.result c.in-Some.one.now c.loop-n-test.true c.index-funcs-n.is c.in-Some.ensures c.loop-n.invariant.lawful).params

pub function_fault-requires-clause-labels : goal.function_fault-requires-clause-labels
function_fault-requires-clause-labels c =
    (first_fits c.args.code.now c.loop-n.n c.args.funcs.now c.args.facts.now c.index-funcs-n.result c.in-Some.one.now c.loop-n-test.true c.index-funcs-n.is c.in-Some.ensures c.loop-n.invariant.lawful).labels

pub returns-in-None : goal.returns-in-None
returns-in-None c = no_facts c.args.code.now c.loop-n.n c.loop-n.base c.args.funcs.now c.args.facts.now c.in-None.ensures ∙ c.loop-n.invariant.rest

pub returns-in-Some-function_fault : goal.returns-in-Some-function_fault
returns-in-Some-function_fault c =
    first_breaks c.args.code.now c.loop-n.n c.args.funcs.now c.args.facts.now c.index-funcs-n.result c.in-Some.one.now c.loop-n-test.true c.index-funcs-n.is c.in-Some.ensures c.loop-n.base c.in-Some-function_fault.fault c.in-Some-function_fault.ensures
    ∙ c.loop-n.invariant.rest

pub loop-n-preserved : goal.loop-n-preserved
loop-n-preserved c =
    let f = c.index-funcs-n.result in
    let less : instructions (drop c.loop-n.n c.args.funcs.now) ≡ length f.body + instructions (drop (c.loop-n.n + 1) c.args.funcs.now) = fewer c.loop-n.n c.args.funcs.now f c.loop-n-test.true c.index-funcs-n.is in
    record {
      lawful = others_lawful c.args.code.now c.loop-n.n c.args.funcs.now c.args.facts.now f c.in-Some.one.now c.loop-n-test.true c.index-funcs-n.is c.in-Some.ensures c.loop-n.invariant.lawful;
      base = omega (arith, less, c.loop-n.invariant.base, c.len.ensures);
      rest =
          ap (λ (n : ℕ). functions_fault c.args.code.now (c.loop-n.base + n) (drop (c.loop-n.n + 1) c.args.funcs.now) (drop (c.loop-n.n + 1) c.args.facts.now)) c.len.ensures
          ∙ first_keeps c.args.code.now c.loop-n.n c.args.funcs.now c.args.facts.now f c.in-Some.one.now c.loop-n-test.true c.index-funcs-n.is c.in-Some.ensures c.loop-n.base c.in-None-function_fault.ensures
          ∙ c.loop-n.invariant.rest;
    }
