use Rattle.std.proofs.Common.{◌++◌, ◌∙◌, arith}
use Rattle.vale_codec.specs.Numbers.{spell}
use Rattle.vale_codec.proofs.SpellLaws.{one_byte, last_byte}
use Rattle.vale_codec.proofs.numbers.write_number.Goals as goal

pub loop-rest-preserved : goal.loop-rest-preserved
loop-rest-preserved c =
    rw c.in_ok-push.ensures.items (one_byte c.loop-rest.out.items c.loop-rest.rest (c.args.out.now.items ++ spell c.args.number) c.loop-rest-test.true c.loop-rest.invariant)

pub returns : goal.returns
returns c =
    c.in_ok-push-2.ensures.items ∙ last_byte c.loop-rest.out.items c.loop-rest.rest (c.args.out.now.items ++ spell c.args.number) (omega arith) c.loop-rest.invariant
