use Rattle.std.proofs.Common.{◌≡◌, ◌+◌, ◌-◌, ◌<◌, ◌≤◌, length, sym, subst, arith}
use Rattle.vale_base.specs.Limits.{depth_limit}
use Rattle.vale_code.specs.Kinds.{result_to}
use Rattle.vale_code.specs.declared.func.Func.{Func}
use Rattle.vale_registers.specs.Cells.{HasRegister}
use Rattle.vale_object_flow.proofs.Calling.{called, given_there, no_tick_to_call, same_func, steady, too_deep_to_call}
use Rattle.vale_object_flow.proofs.control.Control.call.Goals as goal

pub returns-then-depth-gt-DEPTH_LIMIT-clause-step : goal.returns-then-depth-gt-DEPTH_LIMIT-clause-step
returns-then-depth-gt-DEPTH_LIMIT-clause-step c = λ last heap v runs deep right.
    let k = c.requires.callable in
    let lt : depth_limit < c.args.depth + 1 = omega (arith, c.if-depth-gt-DEPTH_LIMIT.true) in
    (v.state, steady v.state, too_deep_to_call c.args.code.now last v heap c.args.self.now k.func c.args.to c.args.function c.args.args.now c.args.at c.args.left.now c.args.depth k.found k.plain deep lt right)

pub returns-then-left-eq0-clause-step : goal.returns-then-left-eq0-clause-step
returns-then-left-eq0-clause-step c = λ last heap v runs deep right.
    let k = c.requires.callable in
    let few : c.args.depth + 1 ≤ depth_limit = omega (arith, c.if-depth-gt-DEPTH_LIMIT.false) in
    (v.state, steady v.state, no_tick_to_call c.args.code.now last v heap c.args.self.now k.func c.args.to c.args.function c.args.args.now c.args.at c.args.left.now c.args.depth k.found k.plain runs deep few c.if-left-eq0.true right)

pub arrange-requires-clause-given : goal.arrange-requires-clause-given
arrange-requires-clause-given c =
    let k = c.requires.callable in
    let callee : c.function_of-callee.result.now ≡ k.func = same_func _ _ k.func c.function_of-callee.ensures k.found in
    let plain = subst (λ (f : Func). f.form ≡ 0) (sym callee) k.plain in
    given_there c.args.code.now c.args.self.now c.args.to c.args.function c.args.args.now c.args.at c.function_of-callee.result.now c.function_of-callee.ensures plain c.requires.right

pub returns-clause-step : goal.returns-clause-step
returns-clause-step c = λ last heap v runs deep right.
    let k = c.requires.callable in
    let func = c.function_of-callee.result.now in
    let callee : func ≡ k.func = same_func _ _ k.func c.function_of-callee.ensures k.found in
    let plain = subst (λ (f : Func). f.form ≡ 0) (sym callee) k.plain in
    let fits = subst (λ (f : Func). length c.args.args.now ≤ f.registers) (sym callee) k.fits in
    let room = subst (λ (f : Func). HasRegister (result_to f.result c.args.to) (c.args.self.now.end - c.args.self.now.top.base)) (sym callee) k.room in
    let few : c.args.depth + 1 ≤ depth_limit = omega (arith, c.if-depth-gt-DEPTH_LIMIT.false) in
    let some : 0 < c.args.left.now = omega (arith, c.if-left-eq0.false) in
    called c.args.code.now last v heap c.args.self.now func c.args.to c.args.function c.args.args.now c.args.at c.args.left.now c.args.depth c.arrange.new.self c.cover.new.self c.dest_of-dest.result c.function_of-callee.ensures plain fits room c.requires.base c.requires.end c.in-Ok.ensures.size c.in-Ok.ensures.passed c.in-Ok.ensures.same c.in-Ok-cover.ensures c.dest_of-dest.ensures runs deep few some
