use Rattle.std.proofs.Common.{◌≡◌, ◌-◌, ◌≤◌, [], length, take, drop, sym, ap, subst, ◌∙◌, arith}
use Rattle.std.specs.Prelude.{IsSome}
use Rattle.std.proofs.lemmas.Result.{on_ok_weaker}
use Rattle.vale_object_cells.specs.Cells.{cells_from}
use Rattle.vale_object_passing.specs.Giving.{give_from}
use Rattle.vale_object_passing.proofs.Passes.{frame_of, passed}
use Rattle.vale_object_passing.proofs.arguments.lay_within.Goals as goal

pub lay_above-requires-clause-given : goal.lay_above-requires-clause-given
lay_above-requires-clause-given c =
    let s = c.split_at_mut-used in
    let u = c.split_at_mut-above in
    let is_above : u.result.1.now ≡ drop c.args.base (take c.args.end c.args.registers.now) = u.ensures.back ∙ ap (drop c.args.base) s.ensures.front in
    let few : c.args.top ≤ c.args.end = omega (arith, c.requires.top) in
    let was : take (c.args.top - c.args.base) u.result.1.now ≡ drop c.args.base (take c.args.top c.args.registers.now) = ap (take (c.args.top - c.args.base)) is_above ∙ frame_of c.args.base c.args.top c.args.end c.args.registers.now c.requires.base few in
    subst (λ f. IsSome (give_from [] c.args.types.now c.args.args.now (cells_from c.args.base c.args.texts.now f))) (sym was) c.requires.given

pub returns : goal.returns
returns c =
    let s = c.split_at_mut-used in
    let u = c.split_at_mut-above in
    let many : length c.lay_above.new.registers ≡ c.args.end - c.args.base = omega (arith, c.lay_above.auto.registers, u.ensures.back_len, s.ensures.front_len, c.requires.base, c.requires.top) in
    on_ok_weaker c.lay_above.result
    (passed c.args.base c.args.top c.args.end c.args.object c.args.types.now c.args.args.now c.args.registers.now c.args.texts.now c.lay_above.new.texts u.result.0.now u.result.1.now c.lay_above.new.registers s.result.1.now c.requires.base (omega (arith, c.requires.top)) c.requires.end
    (u.ensures.front ∙ ap (take c.args.base) s.ensures.front) (u.ensures.back ∙ ap (drop c.args.base) s.ensures.front) u.ensures.front_len many)
    c.lay_above.ensures
