use Rattle.std.proofs.Common.{◌≡◌, ◌-◌, ◌++◌, length, reverse, take, drop, sym, ap, ◌∙◌, subst, arith}
use Rattle.vale_registers.proofs.Bases.{lent_back}
use Rattle.vale_turn.specs.Served.{AreFit}
use Rattle.vale_turn.specs.View.{IsSafe, Leads, config}
use Rattle.vale_machine.specs.View.{all_texts, frames_in, scene_of}
use Rattle.vale_machine.proofs.Frames.{fit_function}
use Rattle.vale_machine.proofs.machine.Machine.run_on.Goals as goal

pub go_within-stop-requires-clause-fit : goal.go_within-stop-requires-clause-fit
go_within-stop-requires-clause-fit c =
    let m = c.args.self.now in
    let p = c.requires.placed in
    let n : p.func.registers ≡ m.end - m.top.base = omega (arith, p.size) in
    subst (λ k. AreFit c.args.code.now m.top.function k) n (fit_function c.args.code.now m.top.function p.func c.requires.runnable p.found)

pub go_within-stop-requires-clause-safe : goal.go_within-stop-requires-clause-safe
go_within-stop-requires-clause-safe c =
    let m = c.args.self.now in
    let h = c.requires.safe in
    let s = scene_of c.args.code.now h.0 m in
    (s, c.requires.ticks, subst (λ cs. IsSafe c.args.code.now (config m.top.function s m.top.place (drop m.top.base (take m.end cs)) m.left)) (sym c.deref_mut.ensures.value) h.1)

pub returns-clause-leads : goal.returns-clause-leads
returns-clause-leads c = λ taken.
    let code = c.args.code.now in
    let m = c.args.self.now in
    let v = m.cells.items in
    let w = c.go_within-stop.new.cells in
    let s = scene_of code taken m in
    let f = m.top.function in
    let base = m.top.base in
    let place = c.go_within-stop.new.place in
    let left = c.go_within-stop.new.left in
    let d = c.deref_mut.ensures.value in
    let below : take base (take m.end v) ≡ take base (take m.end w) = sym (c.go_within-stop.ensures.below ∙ ap (λ l. take base (take m.end l)) d) in
    let back : w ≡ take m.cells.len (w ++ drop (length w) v) = sym (lent_back v w m.cells.len (m.cells.ok.0 ∙ sym (ap length d) ∙ sym c.go_within-stop.auto.cells)) in
    let one = subst (λ cs. Leads code (config f s m.top.place (drop base (take m.end cs)) m.left) (config f s place (drop base (take m.end w)) left)) d (c.go_within-stop.ensures.leads s c.requires.ticks) in
    let two = subst (λ b. Leads code (config f s m.top.place (drop base (take m.end v)) m.left) (config f (record s { below = frames_in code (reverse m.below.items) (all_texts m) b }) place (drop base (take m.end w)) left)) below one in
    subst (λ cs. Leads code (config f s m.top.place (drop base (take m.end v)) m.left) (config f (record s { below = frames_in code (reverse m.below.items) (all_texts m) (take base (take m.end cs)) }) place (drop base (take m.end cs)) left)) back two
