use Rattle.std.proofs.Common.{ap, length, refl, rules, subst, to_z, of_z, ◌∙◌}
use Rattle.std.proofs.lemmas.Int.{to_z-of_z}
use mir.Syntax.{w64}
use Rattle.vale_text.specs.Operations as o
use Rattle.vale_code.specs.declared.instr.Instr.TheVariants as i
use Rattle.vale_registers.specs.Cells.{HasRegister}
use Rattle.vale_turn.specs.Served.{register_of}
use Rattle.vale_object_numbers.proofs.NumberLaws.{holds_truth, operands, operated, puts_choice, puts_int, puts_opposite}
use Rattle.vale_object_numbers.proofs.numbers.obey_number.Goals as goal

pub int_at-augend-requires : goal.int_at-augend-requires
int_at-augend-requires c = (operands c.args.instr.now (i.Add c.in-Add.to c.in-Add.left c.in-Add.right c.in-Add.at) o.add c.in-Add.to c.in-Add.left c.in-Add.right c.in-Add.at c.in-Add.is (λ s v place cells. refl) c.args.registers.now c.args.place.now c.requires.right).0

pub int_at-addend-requires : goal.int_at-addend-requires
int_at-addend-requires c = (operands c.args.instr.now (i.Add c.in-Add.to c.in-Add.left c.in-Add.right c.in-Add.at) o.add c.in-Add.to c.in-Add.left c.in-Add.right c.in-Add.at c.in-Add.is (λ s v place cells. refl) c.args.registers.now c.args.place.now c.requires.right).1

pub returns-in-Add-clause-step : goal.returns-in-Add-clause-step
returns-in-Add-clause-step c =
    let first = to_z-of_z w64 c.int_at-augend.result (search rules) in
    let second = to_z-of_z w64 c.int_at-addend.result (search rules) in
    let e = c.add-sum.ensures ∙ ap (λ z. o.add z (to_z w64 (of_z w64 c.int_at-addend.result))) first ∙ ap (o.add c.int_at-augend.result) second in
    operated c.args.instr.now (i.Add c.in-Add.to c.in-Add.left c.in-Add.right c.in-Add.at) o.add c.in-Add.to c.in-Add.left c.in-Add.right c.in-Add.at c.in-Add.is (λ s v place cells. refl) c.args.registers.now c.args.place.now c.int_at-augend.result c.int_at-addend.result c.add-sum.result c.land.result c.land.new.registers c.land.new.place c.int_at-augend.ensures c.int_at-addend.ensures e c.land.ensures.step

pub int_at-minuend-requires : goal.int_at-minuend-requires
int_at-minuend-requires c = (operands c.args.instr.now (i.Sub c.in-Sub.to c.in-Sub.left c.in-Sub.right c.in-Sub.at) o.sub c.in-Sub.to c.in-Sub.left c.in-Sub.right c.in-Sub.at c.in-Sub.is (λ s v place cells. refl) c.args.registers.now c.args.place.now c.requires.right).0

pub int_at-subtrahend-requires : goal.int_at-subtrahend-requires
int_at-subtrahend-requires c = (operands c.args.instr.now (i.Sub c.in-Sub.to c.in-Sub.left c.in-Sub.right c.in-Sub.at) o.sub c.in-Sub.to c.in-Sub.left c.in-Sub.right c.in-Sub.at c.in-Sub.is (λ s v place cells. refl) c.args.registers.now c.args.place.now c.requires.right).1

pub returns-in-Sub-clause-step : goal.returns-in-Sub-clause-step
returns-in-Sub-clause-step c =
    let first = to_z-of_z w64 c.int_at-minuend.result (search rules) in
    let second = to_z-of_z w64 c.int_at-subtrahend.result (search rules) in
    let e = c.sub-difference.ensures ∙ ap (λ z. o.sub z (to_z w64 (of_z w64 c.int_at-subtrahend.result))) first ∙ ap (o.sub c.int_at-minuend.result) second in
    operated c.args.instr.now (i.Sub c.in-Sub.to c.in-Sub.left c.in-Sub.right c.in-Sub.at) o.sub c.in-Sub.to c.in-Sub.left c.in-Sub.right c.in-Sub.at c.in-Sub.is (λ s v place cells. refl) c.args.registers.now c.args.place.now c.int_at-minuend.result c.int_at-subtrahend.result c.sub-difference.result c.land-in-Sub.result c.land-in-Sub.new.registers c.land-in-Sub.new.place c.int_at-minuend.ensures c.int_at-subtrahend.ensures e c.land-in-Sub.ensures.step

pub int_at-multiplicand-requires : goal.int_at-multiplicand-requires
int_at-multiplicand-requires c = (operands c.args.instr.now (i.Mul c.in-Mul.to c.in-Mul.left c.in-Mul.right c.in-Mul.at) o.mul c.in-Mul.to c.in-Mul.left c.in-Mul.right c.in-Mul.at c.in-Mul.is (λ s v place cells. refl) c.args.registers.now c.args.place.now c.requires.right).0

pub int_at-multiplier-requires : goal.int_at-multiplier-requires
int_at-multiplier-requires c = (operands c.args.instr.now (i.Mul c.in-Mul.to c.in-Mul.left c.in-Mul.right c.in-Mul.at) o.mul c.in-Mul.to c.in-Mul.left c.in-Mul.right c.in-Mul.at c.in-Mul.is (λ s v place cells. refl) c.args.registers.now c.args.place.now c.requires.right).1

pub returns-in-Mul-clause-step : goal.returns-in-Mul-clause-step
returns-in-Mul-clause-step c =
    let first = to_z-of_z w64 c.int_at-multiplicand.result (search rules) in
    let second = to_z-of_z w64 c.int_at-multiplier.result (search rules) in
    let e = c.mul-product.ensures ∙ ap (λ z. o.mul z (to_z w64 (of_z w64 c.int_at-multiplier.result))) first ∙ ap (o.mul c.int_at-multiplicand.result) second in
    operated c.args.instr.now (i.Mul c.in-Mul.to c.in-Mul.left c.in-Mul.right c.in-Mul.at) o.mul c.in-Mul.to c.in-Mul.left c.in-Mul.right c.in-Mul.at c.in-Mul.is (λ s v place cells. refl) c.args.registers.now c.args.place.now c.int_at-multiplicand.result c.int_at-multiplier.result c.mul-product.result c.land-in-Mul.result c.land-in-Mul.new.registers c.land-in-Mul.new.place c.int_at-multiplicand.ensures c.int_at-multiplier.ensures e c.land-in-Mul.ensures.step

pub int_at-dividend-requires : goal.int_at-dividend-requires
int_at-dividend-requires c = (operands c.args.instr.now (i.Div c.in-Div.to c.in-Div.left c.in-Div.right c.in-Div.at) o.div c.in-Div.to c.in-Div.left c.in-Div.right c.in-Div.at c.in-Div.is (λ s v place cells. refl) c.args.registers.now c.args.place.now c.requires.right).0

pub int_at-divisor-requires : goal.int_at-divisor-requires
int_at-divisor-requires c = (operands c.args.instr.now (i.Div c.in-Div.to c.in-Div.left c.in-Div.right c.in-Div.at) o.div c.in-Div.to c.in-Div.left c.in-Div.right c.in-Div.at c.in-Div.is (λ s v place cells. refl) c.args.registers.now c.args.place.now c.requires.right).1

pub returns-in-Div-clause-step : goal.returns-in-Div-clause-step
returns-in-Div-clause-step c =
    let first = to_z-of_z w64 c.int_at-dividend.result (search rules) in
    let second = to_z-of_z w64 c.int_at-divisor.result (search rules) in
    let e = c.div-quotient.ensures ∙ ap (λ z. o.div z (to_z w64 (of_z w64 c.int_at-divisor.result))) first ∙ ap (o.div c.int_at-dividend.result) second in
    operated c.args.instr.now (i.Div c.in-Div.to c.in-Div.left c.in-Div.right c.in-Div.at) o.div c.in-Div.to c.in-Div.left c.in-Div.right c.in-Div.at c.in-Div.is (λ s v place cells. refl) c.args.registers.now c.args.place.now c.int_at-dividend.result c.int_at-divisor.result c.div-quotient.result c.land-in-Div.result c.land-in-Div.new.registers c.land-in-Div.new.place c.int_at-dividend.ensures c.int_at-divisor.ensures e c.land-in-Div.ensures.step

pub int_at-numerator-requires : goal.int_at-numerator-requires
int_at-numerator-requires c = (operands c.args.instr.now (i.Rem c.in-Rem.to c.in-Rem.left c.in-Rem.right c.in-Rem.at) o.rem c.in-Rem.to c.in-Rem.left c.in-Rem.right c.in-Rem.at c.in-Rem.is (λ s v place cells. refl) c.args.registers.now c.args.place.now c.requires.right).0

pub int_at-modulus-requires : goal.int_at-modulus-requires
int_at-modulus-requires c = (operands c.args.instr.now (i.Rem c.in-Rem.to c.in-Rem.left c.in-Rem.right c.in-Rem.at) o.rem c.in-Rem.to c.in-Rem.left c.in-Rem.right c.in-Rem.at c.in-Rem.is (λ s v place cells. refl) c.args.registers.now c.args.place.now c.requires.right).1

pub returns-in-Rem-clause-step : goal.returns-in-Rem-clause-step
returns-in-Rem-clause-step c =
    let first = to_z-of_z w64 c.int_at-numerator.result (search rules) in
    let second = to_z-of_z w64 c.int_at-modulus.result (search rules) in
    let e = c.rem-remainder.ensures ∙ ap (λ z. o.rem z (to_z w64 (of_z w64 c.int_at-modulus.result))) first ∙ ap (o.rem c.int_at-numerator.result) second in
    operated c.args.instr.now (i.Rem c.in-Rem.to c.in-Rem.left c.in-Rem.right c.in-Rem.at) o.rem c.in-Rem.to c.in-Rem.left c.in-Rem.right c.in-Rem.at c.in-Rem.is (λ s v place cells. refl) c.args.registers.now c.args.place.now c.int_at-numerator.result c.int_at-modulus.result c.rem-remainder.result c.land-in-Rem.result c.land-in-Rem.new.registers c.land-in-Rem.new.place c.int_at-numerator.ensures c.int_at-modulus.ensures e c.land-in-Rem.ensures.step

pub returns-in-Int-clause-step : goal.returns-in-Int-clause-step
returns-in-Int-clause-step c = λ left. puts_int c.args.registers.now c.args.place.now c.set_int.new.registers c.in-Int.to left (subst (λ j. HasRegister (register_of j) (length c.args.registers.now)) c.in-Int.is c.requires.room) c.in-Int.number (to_z w64 (of_z w64 c.in-Int.number)) c.args.instr.now c.in-Int.is (to_z-of_z w64 c.in-Int.number (search rules)) c.set_int.ensures

pub returns-in-Truth-clause-step : goal.returns-in-Truth-clause-step
returns-in-Truth-clause-step c = λ left. puts_choice c.args.registers.now c.args.place.now c.set_truth.new.registers c.in-Truth.to left (subst (λ j. HasRegister (register_of j) (length c.args.registers.now)) c.in-Truth.is c.requires.room) c.in-Truth.choice _ c.args.instr.now refl c.in-Truth.is c.set_truth.ensures

pub truth_at-truth-requires : goal.truth_at-truth-requires
truth_at-truth-requires c = holds_truth c.args.registers.now c.args.place.now c.args.instr.now c.in-Not.to c.in-Not.from c.in-Not.is c.requires.right

pub returns-in-Not-clause-step : goal.returns-in-Not-clause-step
returns-in-Not-clause-step c = λ left. puts_opposite c.args.registers.now c.args.place.now c.set_truth-in-Not.new.registers c.in-Not.to left (subst (λ j. HasRegister (register_of j) (length c.args.registers.now)) c.in-Not.is c.requires.room) c.in-Not.from c.truth_at-truth.result c.args.instr.now c.in-Not.is c.truth_at-truth.ensures c.set_truth-in-Not.ensures
