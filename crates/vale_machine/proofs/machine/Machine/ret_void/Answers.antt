use Rattle.std.proofs.Common.{None, refl}
use Rattle.vale_machine.specs.declared.machine.Machine.{Machine}
use Rattle.vale_machine.proofs.Leaving.{base_back, goes_back, left_by, lies_back, none_left, nothing_below, nothing_handed}
use Rattle.vale_machine.proofs.machine.Machine.ret_void.Goals as goal

pub returns-in-None-clause-step : goal.returns-in-None-clause-step
returns-in-None-clause-step c = λ code taken laid.
    let m = c.args.self.now in
    (None, nothing_below code taken m None (none_left m.below.items c.pop.new.self.items _ c.in-None.ensures.cases.0 c.in-None.ensures.rest c.in-None.ensures.items))

pub returns-in-Some-clause-step : goal.returns-in-Some-clause-step
returns-in-Some-clause-step c = λ code taken laid.
    let m = c.args.self.now in
    let f = c.in-Some.frame in
    let mid : Machine = record m { below = c.pop.new.self } in
    let under = base_back code c.pop.new.self.items m.below.items f m.top.base c.in-Some.ensures.items laid.lie.2 in
    let q = left_by m mid c.uncover.new.self f None (record { top = refl; left = refl; given = refl; pieces = refl }) c.in-Some.ensures.items (nothing_handed f.base m.top.base m.top.dest m.cells.items m.texts) c.uncover.ensures under c.requires.base c.requires.end in
    goes_back code m c.uncover.new.self f None q taken

pub returns-in-Some-clause-laid : goal.returns-in-Some-clause-laid
returns-in-Some-clause-laid c = λ code laid.
    let m = c.args.self.now in
    let f = c.in-Some.frame in
    let mid : Machine = record m { below = c.pop.new.self } in
    let under = base_back code c.pop.new.self.items m.below.items f m.top.base c.in-Some.ensures.items laid.lie.2 in
    let q = left_by m mid c.uncover.new.self f None (record { top = refl; left = refl; given = refl; pieces = refl }) c.in-Some.ensures.items (nothing_handed f.base m.top.base m.top.dest m.cells.items m.texts) c.uncover.ensures under c.requires.base c.requires.end in
    lies_back code m c.uncover.new.self f None q laid
