use Rattle.std.proofs.lemmas.Result.{err_from_is_err_and}
use Rattle.vale_codec.specs.Format.{many_read}
use Rattle.vale_file_spec.specs.Instructions.{instr}
use Rattle.vale_codec.proofs.Loops.{goes_on, ends, is_done}
use Rattle.vale_file_reader.proofs.funcs.read_each_instr.Goals as goal

pub returns-in_err-part : goal.returns-in_err-part
returns-in_err-part c =
    let p = err_from_is_err_and c.from_residual-in_err-part.result c.from_residual-in_err-part.ensures.1 in
    rw (p.1, p.2) (ends instr c.in_err-part.field-0.0 c.loop.parts.items c.args.count c.loop.counter c.loop.rest.now (many_read instr c.args.count c.args.bytes.now) c.loop-test.true c.in_err-part.ensures c.loop.invariant)

pub loop-preserved : goal.loop-preserved
loop-preserved c =
    rw c.in_ok-push.ensures.items (goes_on instr c.loop.parts.items c.args.count c.loop.counter c.loop.rest.now c.in_ok-part.part c.in_ok-part.after.now (many_read instr c.args.count c.args.bytes.now) c.loop-test.true c.in_ok-part.ensures c.loop.invariant)

pub returns : goal.returns
returns c = is_done instr c.loop.parts.items c.args.count c.loop.counter c.loop.rest.now (many_read instr c.args.count c.args.bytes.now) c.loop-test.false c.loop.invariant
