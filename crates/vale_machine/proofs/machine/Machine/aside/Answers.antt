use Rattle.std.proofs.Common.{Some, ap, sym, ◌∙◌, rules}
use Rattle.std.proofs.lemmas.Int.{to_z-of_z}
use mir.Syntax.{w64}
use Rattle.vale_state_spec.specs.World.{Int}
use Rattle.vale_code.specs.Instructions.{onward}
use Rattle.vale_code.specs.Registers.{put}
use Rattle.vale_machine.specs.View.{active, below, registers_of, state_of}
use Rattle.vale_machine.specs.Aside.{next_in}
use Rattle.vale_machine.proofs.Getting.{goes_on}
use Rattle.vale_machine.proofs.Reading.{compared_here, comparing, held, joined, measured, measured_here, numbered, picked, shows, quoted, sliced, spelled, tested}
use Rattle.vale_machine.proofs.machine.Machine.aside.Goals as goal

pub quote-requires-clause-there : goal.quote-requires-clause-there
quote-requires-clause-there c = quoted c.args.code.now c.args.self.now c.args.instr.now c.requires.right c.in-Text.to c.in-Text.text c.in-Text.is

pub copy-requires-clause-value : goal.copy-requires-clause-value
copy-requires-clause-value c = held c.args.code.now c.args.self.now c.args.instr.now c.requires.right c.in-Copy.to c.in-Copy.from c.in-Copy.is

pub compared-truth-requires-clause-right : goal.compared-truth-requires-clause-right
compared-truth-requires-clause-right c = comparing c.args.code.now c.args.self.now c.args.instr.now c.requires.right c.in-Cmp.to c.in-Cmp.choice c.in-Cmp.left c.in-Cmp.right c.in-Cmp.is

pub text-requires-clause-holds : goal.text-requires-clause-holds
text-requires-clause-holds c = (joined c.args.code.now c.args.self.now c.args.instr.now c.requires.right c.in-Join.to c.in-Join.left c.in-Join.right c.in-Join.at c.in-Join.is).0

pub text-requires-in-Join-clause-holds : goal.text-requires-in-Join-clause-holds
text-requires-in-Join-clause-holds c = (joined c.args.code.now c.args.self.now c.args.instr.now c.requires.right c.in-Join.to c.in-Join.left c.in-Join.right c.in-Join.at c.in-Join.is).1

pub text-requires-in-TextLen-clause-holds : goal.text-requires-in-TextLen-clause-holds
text-requires-in-TextLen-clause-holds c = measured c.args.code.now c.args.self.now c.args.instr.now c.requires.right c.in-TextLen.to c.in-TextLen.from c.in-TextLen.is

pub int-begin-requires-clause-holds : goal.int-begin-requires-clause-holds
int-begin-requires-clause-holds c = (sliced c.args.code.now c.args.self.now c.args.instr.now c.requires.right c.in-Slice.to c.in-Slice.from c.in-Slice.first c.in-Slice.end c.in-Slice.at c.in-Slice.is).1

pub int-limit-requires-clause-holds : goal.int-limit-requires-clause-holds
int-limit-requires-clause-holds c = (sliced c.args.code.now c.args.self.now c.args.instr.now c.requires.right c.in-Slice.to c.in-Slice.from c.in-Slice.first c.in-Slice.end c.in-Slice.at c.in-Slice.is).2

pub text-requires-in-Slice-clause-holds : goal.text-requires-in-Slice-clause-holds
text-requires-in-Slice-clause-holds c = (sliced c.args.code.now c.args.self.now c.args.instr.now c.requires.right c.in-Slice.to c.in-Slice.from c.in-Slice.first c.in-Slice.end c.in-Slice.at c.in-Slice.is).0

pub text-requires-in-Byte-clause-holds : goal.text-requires-in-Byte-clause-holds
text-requires-in-Byte-clause-holds c = (picked c.args.code.now c.args.self.now c.args.instr.now c.requires.right c.in-Byte.to c.in-Byte.from c.in-Byte.index c.in-Byte.at c.in-Byte.is).0

pub int-requires-clause-holds : goal.int-requires-clause-holds
int-requires-clause-holds c = (picked c.args.code.now c.args.self.now c.args.instr.now c.requires.right c.in-Byte.to c.in-Byte.from c.in-Byte.index c.in-Byte.at c.in-Byte.is).1

pub int-requires-in-TextOf-clause-holds : goal.int-requires-in-TextOf-clause-holds
int-requires-in-TextOf-clause-holds c = spelled c.args.code.now c.args.self.now c.args.instr.now c.requires.right c.in-TextOf.to c.in-TextOf.from c.in-TextOf.is

pub text-requires-in-IsNum-clause-holds : goal.text-requires-in-IsNum-clause-holds
text-requires-in-IsNum-clause-holds c = tested c.args.code.now c.args.self.now c.args.instr.now c.requires.right c.in-IsNum.to c.in-IsNum.from c.in-IsNum.is

pub text-requires-in-Num-clause-holds : goal.text-requires-in-Num-clause-holds
text-requires-in-Num-clause-holds c = numbered c.args.code.now c.args.self.now c.args.instr.now c.requires.right c.in-Num.to c.in-Num.from c.in-Num.at c.in-Num.is

pub print-requires-clause-shown : goal.print-requires-clause-shown
print-requires-clause-shown c = (shows c.args.code.now c.args.self.now c.args.instr.now c.requires.right c.in-Print.from c.in-Print.choice c.in-Print.is).0

pub print-requires-clause-choice : goal.print-requires-clause-choice
print-requires-clause-choice c = (shows c.args.code.now c.args.self.now c.args.instr.now c.requires.right c.in-Print.from c.in-Print.choice c.in-Print.is).1

pub returns-in-Cmp-clause-step : goal.returns-in-Cmp-clause-step
returns-in-Cmp-clause-step c = λ taken.
    let code = c.args.code.now in
    let m = c.args.self.now in
    ap (next_in code taken m) c.in-Cmp.is
    ∙ compared_here code taken m c.in-Cmp.to c.in-Cmp.left c.in-Cmp.choice c.in-Cmp.right c.compared-truth.result c.compared-truth.ensures
    ∙ goes_on code taken m c.get_truth.new.self _ c.get_truth.ensures

pub returns-in-TextLen-clause-step : goal.returns-in-TextLen-clause-step
returns-in-TextLen-clause-step c = λ taken.
    let code = c.args.code.now in
    let m = c.args.self.now in
    ap (next_in code taken m) c.in-TextLen.is
    ∙ measured_here code taken m c.in-TextLen.to c.in-TextLen.from c.text-in-TextLen.result.now c.text-in-TextLen.ensures
    ∙ ap (λ z. onward (active code m) (put (registers_of m) c.in-TextLen.to (Some (Int z))) (below code m) (state_of taken m)) (sym c.count_of-count.ensures ∙ sym (to_z-of_z w64 c.count_of-count.result (search rules)))
    ∙ goes_on code taken m c.get_int.new.self _ c.get_int.ensures
