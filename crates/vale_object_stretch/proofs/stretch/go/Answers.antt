use Rattle.std.proofs.Common.{◌≡◌, ◌<◌, ◌∙◌, Some, ap, arith, length, refl, sym, subst}
use Rattle.std.specs.Prelude.{slice_get}
use Rattle.vale_code.specs.Instructions.{fetch}
use Rattle.vale_turn.proofs.Stretching.{fetched}
use Rattle.vale_object_cells.specs.Cells.{cells_from}
use Rattle.vale_object_turn.specs.Steps.{config}
use Rattle.vale_object_stretch.specs.Stretch.{IsFit, Obeyed}
use Rattle.vale_object_stretch.proofs.Instructions.{fits_opened, is_here, is_right, place_within, rule_within}
use Rattle.vale_object_stretch.proofs.Stretching.{ended_so, led_here, led_so, lent_here, lent_then, less_so}
use Rattle.vale_object_stretch.proofs.stretch.go.Goals as goal

pub turns-init : goal.turns-init
turns-init g c =
    let a = c.args in
    let cells = cells_from a.base a.texts.now a.registers.now in
    record {
      leads = λ s v u. (led_here a.code.now a.function s v (config s v a.place.now cells) a.heap.now cells a.place.now a.left.now refl u.runs, u);
      lent = lent_here a.heap.now (g.L.Lender.frames a.lender.now) (g.L.Lender.out a.lender.now) (g.L.Lender.floors a.lender.now) c.requires.known;
      of_hand = λ h. h;
      others = λ i lt. refl;
      ticks = omega arith;
      count = refl;
    }

pub instr_at-instr-requires : goal.instr_at-instr-requires
instr_at-instr-requires g c =
    let a = c.args in
    let l = c.turns in
    let r = c.requires.under_way in
    let w = l.invariant.leads r.0 r.1 r.2 in
    let within = place_within a.code.now a.function (g.L.Lender.out l.lender) (g.L.Lender.floors l.lender) r.0 w.0.view l.heap (cells_from a.base l.texts l.registers) l.place l.left w.1 c.function_of.result.now c.function_of.ensures in
    subst (λ b. l.place < length b) (sym c.as_slice-body.ensures) within

pub once-requires-clause-fit : goal.once-requires-clause-fit
once-requires-clause-fit g c =
    let a = c.args in
    let l = c.turns in
    let at : fetch a.code.now a.function l.place ≡ Some c.instr_at-instr.result.now =
    fetched a.code.now a.function l.place c.function_of.result.now c.instr_at-instr.result.now c.function_of.ensures (ap (λ b. slice_get b l.place) (sym c.as_slice-body.ensures) ∙ c.instr_at-instr.ensures.found) in
    subst (λ n. IsFit c.instr_at-instr.result.now n) (sym l.invariant.count) (c.requires.fit.fit l.place c.instr_at-instr.result.now at)

pub once-requires-clause-opened : goal.once-requires-clause-opened
once-requires-clause-opened g c =
    let a = c.args in
    let l = c.turns in
    let r = c.requires.under_way in
    let w = l.invariant.leads r.0 r.1 r.2 in
    let out = g.L.Lender.out l.lender in
    let floors = g.L.Lender.floors l.lender in
    let cells = cells_from a.base l.texts l.registers in
    let func = c.function_of.result.now in
    let body = c.as_slice-body.result.now in
    let instr = c.instr_at-instr.result.now in
    let is : func.body ≡ body = sym c.as_slice-body.ensures in
    fits_opened a.code.now a.function out floors r.0 w.0.view l.heap cells l.place l.left w.1 instr (is_here a.code.now a.function out floors r.0 w.0.view l.heap cells l.place l.left w.1 func body instr c.function_of.ensures is c.instr_at-instr.ensures.found)
    (is_right a.code.now a.function out floors r.0 w.0.view l.heap cells l.place l.left w.1 func body instr c.function_of.ensures is c.instr_at-instr.ensures.found)

pub once-requires-clause-right : goal.once-requires-clause-right
once-requires-clause-right g c =
    let a = c.args in
    let l = c.turns in
    let r = c.requires.under_way in
    let w = l.invariant.leads r.0 r.1 r.2 in
    rule_within a.code.now a.function (g.L.Lender.out l.lender) (g.L.Lender.floors l.lender) r.0 w.0.view l.heap (cells_from a.base l.texts l.registers) l.place l.left w.1 c.function_of.result.now c.as_slice-body.result.now c.instr_at-instr.result.now
    c.function_of.ensures (sym c.as_slice-body.ensures) c.instr_at-instr.ensures.found

pub turns-smaller : goal.turns-smaller
turns-smaller g c =
    let a = c.args in
    let l = c.turns in
    let n = c.once.new in
    let r = c.requires.under_way in
    let w = l.invariant.leads r.0 r.1 r.2 in
    let out = g.L.Lender.out l.lender in
    let floors = g.L.Lender.floors l.lender in
    let cells = cells_from a.base l.texts l.registers in
    let after = cells_from a.base n.texts n.registers in
    let body = c.as_slice-body.result.now in
    let instr = c.instr_at-instr.result.now in
    let obeyed = subst (λ told. Obeyed out floors a.code.now body instr l.heap cells l.place l.left told n.heap after n.place n.left) c.in-Going.is c.in_ok-stop.ensures.step in
    less_so a.code.now a.function c.function_of.result.now body instr c.function_of.ensures (sym c.as_slice-body.ensures) l.heap n.heap cells after l.place l.left n.place n.left (g.L.Lender.frames l.lender) (g.L.Lender.frames n.lender) out (g.L.Lender.out n.lender) floors (g.L.Lender.floors n.lender)
    c.instr_at-instr.ensures.found r.0 w.0.view w.1 obeyed

pub turns-preserved : goal.turns-preserved
turns-preserved g c =
    let a = c.args in
    let l = c.turns in
    let n = c.once.new in
    let out = g.L.Lender.out l.lender in
    let floors = g.L.Lender.floors l.lender in
    let cells = cells_from a.base l.texts l.registers in
    let after = cells_from a.base n.texts n.registers in
    let body = c.as_slice-body.result.now in
    let instr = c.instr_at-instr.result.now in
    let e = c.in_ok-stop.ensures in
    let obeyed = subst (λ told. Obeyed out floors a.code.now body instr l.heap cells l.place l.left told n.heap after n.place n.left) c.in-Going.is e.step in
    record {
      leads = λ s v u.
          let w = l.invariant.leads s v u in
          led_so a.code.now a.function c.function_of.result.now body instr c.function_of.ensures (sym c.as_slice-body.ensures) l.heap n.heap cells after l.place l.left n.place n.left (g.L.Lender.frames l.lender) (g.L.Lender.frames n.lender) out (g.L.Lender.out n.lender) floors (g.L.Lender.floors n.lender)
          c.instr_at-instr.ensures.found s v (config s v a.place.now (cells_from a.base a.texts.now a.registers.now)) w.0 w.1 obeyed e.lent;
      lent = lent_then a.heap.now l.heap n.heap _ _ _ _ _ _ _ _ _ l.invariant.lent e.lent;
      of_hand = λ h. e.of_hand (l.invariant.of_hand h);
      others = λ i lt. e.others i lt ∙ l.invariant.others i lt;
      ticks = omega (arith, l.invariant.ticks, e.ticks);
      count = c.once.auto.registers ∙ l.invariant.count;
    }

pub returns-in_default-clause-ends : goal.returns-in_default-clause-ends
returns-in_default-clause-ends g c = λ s v u.
    let a = c.args in
    let l = c.turns in
    let n = c.once.new in
    let e = c.in_ok-stop.ensures in
    let w = l.invariant.leads s v u in
    ended_so a.code.now a.function c.function_of.result.now c.as_slice-body.result.now c.instr_at-instr.result.now c.function_of.ensures (sym c.as_slice-body.ensures) l.heap n.heap (cells_from a.base l.texts l.registers) (cells_from a.base n.texts n.registers) l.place l.left n.place n.left
    (g.L.Lender.frames l.lender) (g.L.Lender.frames n.lender) (g.L.Lender.out l.lender) (g.L.Lender.out n.lender) (g.L.Lender.floors l.lender) (g.L.Lender.floors n.lender) c.instr_at-instr.ensures.found s v (config s v a.place.now (cells_from a.base a.texts.now a.registers.now)) w.0 w.1 c.in_ok-stop.stop c.in_default.not-Going e.step e.leaving e.kept

pub returns-in_default-clause-lent : goal.returns-in_default-clause-lent
returns-in_default-clause-lent g c = lent_then c.args.heap.now c.turns.heap c.once.new.heap _ _ _ _ _ _ _ _ _ c.turns.invariant.lent c.in_ok-stop.ensures.lent
