use Rattle.std.proofs.Common.{◌≡◌, ◌-◌, ◌++◌, length, reverse, take, drop, refl, sym, ap, ◌∙◌, subst, arith}
use Rattle.vale_registers.proofs.Bases.{lent_back}
use Rattle.vale_turn.specs.Served.{AreFit}
use Rattle.std.specs.Vec.{with_items}
use Rattle.vale_turn.specs.View.{config, IfStopped, IsSafe, OnceBy}
use Rattle.vale_machine.specs.View.{all_texts, config_of, frames_in, scene_of}
use Rattle.vale_machine.specs.declared.machine.Machine.{Machine}
use Rattle.vale_machine.proofs.Frames.{fit_function}
use Rattle.vale_machine.proofs.Running.{took_one}
use Rattle.vale_machine.proofs.machine.Machine.once.Goals as goal

pub once_within-stop-requires-clause-fit : goal.once_within-stop-requires-clause-fit
once_within-stop-requires-clause-fit c =
    let m = c.args.self.now in
    let p = c.requires.placed in
    let n : p.func.registers ≡ m.end - m.top.base = omega (arith, p.size) in
    subst (λ k. AreFit c.args.code.now m.top.function k) n (fit_function c.args.code.now m.top.function p.func c.requires.runnable p.found)

pub once_within-stop-requires-clause-safe : goal.once_within-stop-requires-clause-safe
once_within-stop-requires-clause-safe c =
    let m = c.args.self.now in
    let h = c.requires.safe in
    let s = scene_of c.args.code.now h.0 m in
    (s, c.requires.ticks, subst (λ cs. IsSafe c.args.code.now (config m.top.function s m.top.place (drop m.top.base (take m.end cs)) m.left)) (sym c.deref_mut.ensures.value) h.1)

pub returns-clause-step : goal.returns-clause-step
returns-clause-step c = λ taken.
    let code = c.args.code.now in
    let m = c.args.self.now in
    let v = m.cells.items in
    let w = c.once_within-stop.new.cells in
    let base = m.top.base in
    let d = c.deref_mut.ensures.value in
    let below : take base (take m.end v) ≡ take base (take m.end w) = sym (c.once_within-stop.ensures.below ∙ ap (λ l. take base (take m.end l)) d) in
    let size : m.cells.len ≡ length w = m.cells.ok.0 ∙ sym (ap length d) ∙ sym c.once_within-stop.auto.cells in
    let back : w ≡ take m.cells.len (w ++ drop (length w) v) = sym (lent_back v w m.cells.len size) in
    let s = scene_of code taken m in
    let es = ap (λ b. record s { below = frames_in code (reverse m.below.items) (all_texts m) b }) (below ∙ ap (λ l. take base (take m.end l)) back) in
    let new : Machine = record m { cells = with_items m.cells w; top = record m.top { place = c.once_within-stop.new.place }; left = c.once_within-stop.new.left } in
    let step = subst (λ cs. OnceBy code m.top.function s c.once_within-stop.result (config m.top.function s m.top.place (drop base (take m.end cs)) m.left) c.once_within-stop.new.place (drop base (take m.end w)) c.once_within-stop.new.left) d (c.once_within-stop.ensures.step s c.requires.ticks) in
    let same = subst (λ cs. IfStopped c.once_within-stop.result ((c.once_within-stop.new.place ≡ m.top.place) × (drop base (take m.end w) ≡ drop base (take m.end cs)) × (c.once_within-stop.new.left ≡ m.left))) d c.once_within-stop.ensures.same in
    took_one code taken c.once_within-stop.result m new es refl
    (subst (λ cs. OnceBy code m.top.function s c.once_within-stop.result (config_of code taken m) c.once_within-stop.new.place (drop base (take m.end cs)) c.once_within-stop.new.left) back step)
    (subst (λ cs. IfStopped c.once_within-stop.result ((c.once_within-stop.new.place ≡ m.top.place) × (drop base (take m.end cs) ≡ drop base (take m.end v)) × (c.once_within-stop.new.left ≡ m.left))) back same)
