use Rattle.std.proofs.Common.{◌≡◌, ◌<◌, ℕ, List, Option, Some, length, get_or, subst, sym, ap, ◌∙◌, arith}
use Rattle.std.specs.Prelude.{IfSome, option_copied}
use Rattle.vale_code.specs.declared.instr.Instr.{Instr}
use Rattle.vale_cert.specs.Known.{Known, label_at, stated}
use Rattle.vale_cert.specs.declared.facts.Label.{Label}
use Rattle.vale_verifier.specs.Walking.{known_of}
use Rattle.vale_verifier.proofs.WalkLaws.{states_each, breaks, goes_further}
use Rattle.vale_verifier.proofs.walk.walk.Goals as goal

pub state-requires : goal.state-requires
state-requires c =
    let labels = c.args.labels.now in
    let place = c.loop-place.place in
    let at : label_at labels place ≡ option_copied c.front_at-label.result = sym (c.front_at-label.ensures ∙ c.loop-place.invariant.same place (omega arith)) in
    let size : c.args.func.now.registers ≡ length c.loop-place.regs = omega (arith, c.loop-place.auto.regs, c.requires.registers) in
    subst (λ (o : Option Label). IfSome o (λ l. length l.regs ≡ length c.loop-place.regs)) at
    (subst (λ (n : ℕ). IfSome (label_at labels place) (λ l. length l.regs ≡ n)) size (states_each c.args.func.now.registers labels place c.requires.labels))

pub returns-in-Some-step : goal.returns-in-Some-step
returns-in-Some-step c =
    let labels = c.args.labels.now in
    let place = c.loop-place.place in
    let o = known_of c.loop-place.depth c.loop-place.regs in
    let known : Known = record { depth = c.in-Some.stated; regs = c.state.new.regs } in
    let at : label_at labels place ≡ option_copied c.front_at-label.result = sym (c.front_at-label.ensures ∙ c.loop-place.invariant.same place (omega arith)) in
    let some : stated (label_at labels place) o ≡ Some known = ap (λ (l : Option Label). stated l o) at ∙ sym c.in-Some.ensures in
    let inside = subst (λ (b : List Instr). place < length b) c.as_slice-instr-items.ensures c.loop-place-test.true in
    let is = subst (λ (b : List Instr). c.instr-item.result ≡ get_or b place c.instr-item.result) c.as_slice-instr-items.ensures c.instr-item.is in
    sym (breaks c.args.code.now c.args.func.now labels c.args.base place c.args.func.now.body c.instr-item.result c.loop-place.came o inside is known c.in-Some-step.rule some (sym (c.in-Some-step.ensures.rule c.args.base)))
    ∙ c.loop-place.invariant.rest

pub loop-place-preserved : goal.loop-place-preserved
loop-place-preserved c =
    let labels = c.args.labels.now in
    let place = c.loop-place.place in
    let o = known_of c.loop-place.depth c.loop-place.regs in
    let known : Known = record { depth = c.in-Some.stated; regs = c.state.new.regs } in
    let at : label_at labels place ≡ option_copied c.front_at-label.result = sym (c.front_at-label.ensures ∙ c.loop-place.invariant.same place (omega arith)) in
    let some : stated (label_at labels place) o ≡ Some known = ap (λ (l : Option Label). stated l o) at ∙ sym c.in-Some.ensures in
    let inside = subst (λ (b : List Instr). place < length b) c.as_slice-instr-items.ensures c.loop-place-test.true in
    let is = subst (λ (b : List Instr). c.instr-item.result ≡ get_or b place c.instr-item.result) c.as_slice-instr-items.ensures c.instr-item.is in
    record {
      ahead = c.behind-left.ensures.ahead;
      same = λ q le. c.behind-left.ensures.same q (omega (arith, le)) ∙ c.loop-place.invariant.same q (omega (arith, le));
      rest =
          goes_further c.args.code.now c.args.func.now labels c.args.base place c.args.func.now.body c.instr-item.result c.loop-place.came o inside is known (record { depth = c.step.new.depth; regs = c.step.new.regs }) (known_of c.depth_after-depth.result c.step.new.regs) some
          (sym (c.in-None.ensures.rule c.args.base)) (c.step.ensures.after c.args.base) (c.depth_after-depth.ensures c.step.new.regs)
          ∙ c.loop-place.invariant.rest;
    }
