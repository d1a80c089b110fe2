use Rattle.std.proofs.Common.{◌≡◌, ◌-◌, ◌++◌, length, arith, length-append}
use Rattle.vale_registers.proofs.Passes.{laid}
use Rattle.vale_registers.proofs.passing.lay.Goals as goal

pub returns : goal.returns
returns c =
    let given = c.give.new.to in
    let rest = c.blank.new.cells in
    let count = length c.split_at_mut-given.result.1.now in
    let size : length given ≡ length c.args.args.now = omega (arith, c.give.auto.to, c.split_at_mut-given.ensures.front_len) in
    let left : length (given ++ rest) - length c.args.args.now ≡ count = omega (arith, length-append given rest, size, c.blank.auto.cells) in
    laid c.args.base c.args.args.now c.args.row.now c.args.texts.now given rest count c.give.new.texts size left c.in-Ok.ensures c.blank.ensures
