use Rattle.std.proofs.Common.{◌≡◌, ◌<◌, ◌+◌, refl, sym, ◌∙◌, subst, arith}
use Rattle.vale_code.specs.Registers.{read}
use Rattle.vale_registers.specs.Cells.{values_in}
use Rattle.vale_registers.specs.Passing.{IsHanded}
use Rattle.vale_registers.proofs.Bases.{held_drop, held_take, read_drop, read_take}
use Rattle.vale_registers.proofs.Registers.{value_within}
use Rattle.vale_machine.specs.View.{all_texts, own_cells, registers_of, row_of}
use Rattle.vale_machine.specs.declared.machine.Machine.{Machine}
use Rattle.vale_machine.proofs.Frames.{own_size}
use Rattle.vale_machine.proofs.Leaving.{base_back, goes_back, left_by, lies_back, none_left, nothing_below, room_back}
use Rattle.vale_machine.proofs.machine.Machine.ret.Goals as goal

pub hand-requires-clause-from : goal.hand-requires-clause-from
hand-requires-clause-from c =
    let m = c.args.self.now in
    omega (arith, value_within (own_cells m) c.args.from c.requires.value, own_size m c.requires.end, c.requires.end)

pub hand-requires-clause-room : goal.hand-requires-clause-room
hand-requires-clause-room c = room_back c.pop.new.self.items c.args.self.now.below.items c.in-Some.frame c.args.self.now.top.dest c.args.self.now.top.base c.in-Some.ensures.items c.requires.room

pub hand-requires-clause-value : goal.hand-requires-clause-value
hand-requires-clause-value c =
    let m = c.args.self.now in
    let lt : m.top.base + c.args.from < m.end = omega (arith, value_within (own_cells m) c.args.from c.requires.value, own_size m c.requires.end) in
    held_take m.cells.items m.end (m.top.base + c.args.from) lt (held_drop (row_of m) m.top.base c.args.from c.requires.value)

pub returns-in-None-clause-step : goal.returns-in-None-clause-step
returns-in-None-clause-step c = λ code taken laid.
    let m = c.args.self.now in
    (read (registers_of m) c.args.from, nothing_below code taken m (read (registers_of m) c.args.from) (none_left m.below.items c.pop.new.self.items _ c.in-None.ensures.cases.0 c.in-None.ensures.rest c.in-None.ensures.items))

pub returns-in-Some-clause-step : goal.returns-in-Some-clause-step
returns-in-Some-clause-step c = λ code taken laid.
    let m = c.args.self.now in
    let f = c.in-Some.frame in
    let v = read (registers_of m) c.args.from in
    let mid : Machine = record m { below = c.pop.new.self; cells = c.hand.new.cells; texts = c.hand.new.texts } in
    let lt : m.top.base + c.args.from < m.end = omega (arith, value_within (own_cells m) c.args.from c.requires.value, own_size m c.requires.end) in
    let held : read (values_in (all_texts m) m.cells.items) (m.top.base + c.args.from) ≡ v = sym (read_take (all_texts m) m.cells.items m.end (m.top.base + c.args.from) lt) ∙ read_drop (all_texts m) (row_of m) m.top.base c.args.from in
    let handed = subst (λ o. IsHanded f.base m.top.base m.top.dest o m.cells.items m.texts mid.cells.items mid.texts) held c.hand.ensures in
    let under = base_back code c.pop.new.self.items m.below.items f m.top.base c.in-Some.ensures.items laid.lie.2 in
    let q = left_by m mid c.uncover.new.self f v (record { top = refl; left = refl; given = refl; pieces = refl }) c.in-Some.ensures.items handed c.uncover.ensures under c.requires.base c.requires.end in
    goes_back code m c.uncover.new.self f v q taken

pub returns-in-Some-clause-laid : goal.returns-in-Some-clause-laid
returns-in-Some-clause-laid c = λ code laid.
    let m = c.args.self.now in
    let f = c.in-Some.frame in
    let v = read (registers_of m) c.args.from in
    let mid : Machine = record m { below = c.pop.new.self; cells = c.hand.new.cells; texts = c.hand.new.texts } in
    let lt : m.top.base + c.args.from < m.end = omega (arith, value_within (own_cells m) c.args.from c.requires.value, own_size m c.requires.end) in
    let held : read (values_in (all_texts m) m.cells.items) (m.top.base + c.args.from) ≡ v = sym (read_take (all_texts m) m.cells.items m.end (m.top.base + c.args.from) lt) ∙ read_drop (all_texts m) (row_of m) m.top.base c.args.from in
    let handed = subst (λ o. IsHanded f.base m.top.base m.top.dest o m.cells.items m.texts mid.cells.items mid.texts) held c.hand.ensures in
    let under = base_back code c.pop.new.self.items m.below.items f m.top.base c.in-Some.ensures.items laid.lie.2 in
    let q = left_by m mid c.uncover.new.self f v (record { top = refl; left = refl; given = refl; pieces = refl }) c.in-Some.ensures.items handed c.uncover.ensures under c.requires.base c.requires.end in
    lies_back code m c.uncover.new.self f v q laid
