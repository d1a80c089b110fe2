use Rattle.std.proofs.Common.{of_z, rules, to_z}
use Rattle.std.proofs.lemmas.Int.{to_z-of_z}
use mir.Syntax.{w64}
use Rattle.vale_object_numbers.proofs.NumberLaws.{lands_number, lands_trap}
use Rattle.vale_object_numbers.proofs.numbers.land.Goals as goal

pub returns-in-Ok-clause-step : goal.returns-in-Ok-clause-step
returns-in-Ok-clause-step c =
    lands_number c.args.to c.args.at c.args.registers.now c.args.place.now c.set_int.new.registers c.requires.room c.args.outcome c.in-Ok.number (to_z w64 (of_z w64 c.in-Ok.number)) c.in-Ok.is (to_z-of_z w64 c.in-Ok.number (search rules)) c.set_int.ensures

pub returns-in-Err-clause-step : goal.returns-in-Err-clause-step
returns-in-Err-clause-step c = lands_trap c.args.to c.args.at c.args.registers.now c.args.place.now c.args.outcome c.in-Err.kind c.in-Err.is
