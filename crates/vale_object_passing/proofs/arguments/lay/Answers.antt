use Rattle.std.proofs.Common.{◌≡◌, ◌-◌, ◌++◌, length, arith, length-append}
use Rattle.vale_object_passing.proofs.Passes.{laid}
use Rattle.vale_object_passing.proofs.arguments.lay.Goals as goal

pub returns : goal.returns
returns c =
    let given = c.give_all.new.own in
    let rest = c.blank.new.registers in
    let count = length c.split_at_mut-given.result.1.now in
    let size : length given ≡ length c.args.args.now = omega (arith, c.give_all.auto.own, c.split_at_mut-given.ensures.front_len) in
    let left : length (given ++ rest) - length c.args.args.now ≡ count = omega (arith, length-append given rest, size, c.blank.auto.registers) in
    laid c.args.base c.args.first c.args.types.now c.args.args.now c.args.frame.now c.args.texts.now c.give_all.new.frame given rest count c.give_all.new.texts left c.in-Ok.ensures c.blank.ensures
