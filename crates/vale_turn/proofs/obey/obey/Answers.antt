use Rattle.std.proofs.Common.{ap, sym, subst}
use Rattle.vale_code.specs.declared.instr.Instr.{Instr}
use Rattle.vale_turn.specs.Served.{is_aside}
use Rattle.vale_turn.specs.View.{next_of, Obeyed}
use Rattle.vale_turn.proofs.Rules.{add_ints, sub_ints, mul_ints, div_ints, rem_ints, copied_value, cmp_right, leaving_aside}
use Rattle.vale_turn.proofs.obey.obey.Goals as goal

pub copy-requires-clause-value : goal.copy-requires-clause-value
copy-requires-clause-value c = copied_value c.args.body.now c.args.place.now c.args.cells.now c.args.left.now c.args.instr.now c.in-Copy.to c.in-Copy.from c.in-Copy.is c.requires.right

pub int_at-requires : goal.int_at-requires
int_at-requires c = (add_ints c.args.body.now c.args.place.now c.args.cells.now c.args.left.now c.args.instr.now c.in-Add.to c.in-Add.left c.in-Add.right c.in-Add.at c.in-Add.is c.requires.right).0

pub int_at-requires-in-Add : goal.int_at-requires-in-Add
int_at-requires-in-Add c = (add_ints c.args.body.now c.args.place.now c.args.cells.now c.args.left.now c.args.instr.now c.in-Add.to c.in-Add.left c.in-Add.right c.in-Add.at c.in-Add.is c.requires.right).1

pub int_at-requires-in-Sub : goal.int_at-requires-in-Sub
int_at-requires-in-Sub c = (sub_ints c.args.body.now c.args.place.now c.args.cells.now c.args.left.now c.args.instr.now c.in-Sub.to c.in-Sub.left c.in-Sub.right c.in-Sub.at c.in-Sub.is c.requires.right).0

pub int_at-requires-in-Sub-2 : goal.int_at-requires-in-Sub-2
int_at-requires-in-Sub-2 c = (sub_ints c.args.body.now c.args.place.now c.args.cells.now c.args.left.now c.args.instr.now c.in-Sub.to c.in-Sub.left c.in-Sub.right c.in-Sub.at c.in-Sub.is c.requires.right).1

pub int_at-requires-in-Mul : goal.int_at-requires-in-Mul
int_at-requires-in-Mul c = (mul_ints c.args.body.now c.args.place.now c.args.cells.now c.args.left.now c.args.instr.now c.in-Mul.to c.in-Mul.left c.in-Mul.right c.in-Mul.at c.in-Mul.is c.requires.right).0

pub int_at-requires-in-Mul-2 : goal.int_at-requires-in-Mul-2
int_at-requires-in-Mul-2 c = (mul_ints c.args.body.now c.args.place.now c.args.cells.now c.args.left.now c.args.instr.now c.in-Mul.to c.in-Mul.left c.in-Mul.right c.in-Mul.at c.in-Mul.is c.requires.right).1

pub int_at-requires-in-Div : goal.int_at-requires-in-Div
int_at-requires-in-Div c = (div_ints c.args.body.now c.args.place.now c.args.cells.now c.args.left.now c.args.instr.now c.in-Div.to c.in-Div.left c.in-Div.right c.in-Div.at c.in-Div.is c.requires.right).0

pub int_at-requires-in-Div-2 : goal.int_at-requires-in-Div-2
int_at-requires-in-Div-2 c = (div_ints c.args.body.now c.args.place.now c.args.cells.now c.args.left.now c.args.instr.now c.in-Div.to c.in-Div.left c.in-Div.right c.in-Div.at c.in-Div.is c.requires.right).1

pub int_at-requires-in-Rem : goal.int_at-requires-in-Rem
int_at-requires-in-Rem c = (rem_ints c.args.body.now c.args.place.now c.args.cells.now c.args.left.now c.args.instr.now c.in-Rem.to c.in-Rem.left c.in-Rem.right c.in-Rem.at c.in-Rem.is c.requires.right).0

pub int_at-requires-in-Rem-2 : goal.int_at-requires-in-Rem-2
int_at-requires-in-Rem-2 c = (rem_ints c.args.body.now c.args.place.now c.args.cells.now c.args.left.now c.args.instr.now c.in-Rem.to c.in-Rem.left c.in-Rem.right c.in-Rem.at c.in-Rem.is c.requires.right).1

pub compare-requires-clause-right : goal.compare-requires-clause-right
compare-requires-clause-right c = cmp_right c.args.body.now c.args.place.now c.args.cells.now c.args.left.now c.args.instr.now c.in-Cmp.to c.in-Cmp.choice c.in-Cmp.left c.in-Cmp.right c.in-Cmp.is c.requires.right

pub returns-in-Copy-clause-leaves : goal.returns-in-Copy-clause-leaves
returns-in-Copy-clause-leaves c = leaving_aside c.copy.result c.args.instr.now c.copy.ensures.aside (ap is_aside c.in-Copy.is)

pub returns-in-Cmp-clause-leaves : goal.returns-in-Cmp-clause-leaves
returns-in-Cmp-clause-leaves c = leaving_aside c.compare.result c.args.instr.now c.compare.ensures.aside (ap is_aside c.in-Cmp.is)

pub returns-in-Copy-clause-step : goal.returns-in-Copy-clause-step
returns-in-Copy-clause-step c = λ code function s body few.
    subst (λ (x : Instr). Obeyed function s c.copy.result (next_of code function s c.args.place.now c.args.cells.now c.args.left.now x) c.copy.new.place c.copy.new.cells c.args.left.now)
    (sym c.in-Copy.is) (c.copy.ensures.step code function c.args.left.now s)

pub returns-in-Cmp-clause-step : goal.returns-in-Cmp-clause-step
returns-in-Cmp-clause-step c = λ code function s body few.
    subst (λ (x : Instr). Obeyed function s c.compare.result (next_of code function s c.args.place.now c.args.cells.now c.args.left.now x) c.compare.new.place c.compare.new.cells c.args.left.now)
    (sym c.in-Cmp.is) (c.compare.ensures.step code function c.args.left.now s)
