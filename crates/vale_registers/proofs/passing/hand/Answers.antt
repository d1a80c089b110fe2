use Rattle.std.proofs.Common.{◌≡◌, ◌-◌, ◌<◌, ◌++◌, Some, length, take, drop, sym, ap, ◌∙◌, subst, arith}
use Rattle.vale_code.specs.Registers.{read}
use Rattle.vale_registers.specs.Cells.{HasRegister, HoldsValue, values_in}
use Rattle.vale_registers.specs.Passing.{IsHanded}
use Rattle.vale_registers.specs.Texts.{text_at}
use Rattle.vale_registers.proofs.Bases.{lent_back}
use Rattle.vale_registers.proofs.Passes.{handed, none_handed}
use Rattle.vale_registers.proofs.passing.hand.Goals as goal

pub hand_within-requires-clause-to : goal.hand_within-requires-clause-to
hand_within-requires-clause-to c =
    let room : c.in-Some.to < c.args.top - c.args.base = subst (λ d. HasRegister d (c.args.top - c.args.base)) c.in-Some.is c.requires.room in
    omega (arith, room)

pub returns-in-Some : goal.returns-in-Some
returns-in-Some c =
    let v = c.args.cells.now in
    let w = c.hand_within.new.cells in
    let d = c.deref_mut.ensures.value in
    let base = c.args.base in
    let top = c.args.top in
    let from = c.args.from in
    let to = c.in-Some.to in
    let old = c.args.texts.now in
    let room : to < top - base = subst (λ o. HasRegister o (top - base)) c.in-Some.is c.requires.room in
    let back : w ≡ take v.len (w ++ drop (length w) v.items) = sym (lent_back v.items w v.len (v.ok.0 ∙ sym (ap length d) ∙ sym c.hand_within.auto.cells)) in
    let held = subst (λ l. HoldsValue l from) (sym d) c.requires.value in
    let one = handed base top to from c.deref_mut.result.now old w c.hand_within.new.texts (omega (arith, room)) c.requires.above (omega (arith, c.requires.above, c.requires.from, ap length d)) held c.hand_within.auto.cells c.hand_within.ensures in
    let two = subst (λ l. IsHanded base top (Some to) (read (values_in (text_at old) l) from) l old w c.hand_within.new.texts) d one in
    let three = subst (λ l. IsHanded base top (Some to) (read (values_in (text_at old) v.items) from) v.items old l c.hand_within.new.texts) back two in
    subst (λ o. IsHanded base top o (read (values_in (text_at old) v.items) from) v.items old (take v.len (w ++ drop (length w) v.items)) c.hand_within.new.texts) (sym c.in-Some.is) three

pub returns-in-None : goal.returns-in-None
returns-in-None c =
    subst (λ o. IsHanded c.args.base c.args.top o (read (values_in (text_at c.args.texts.now) c.args.cells.now.items) c.args.from) c.args.cells.now.items c.args.texts.now c.args.cells.now.items c.args.texts.now) (sym c.in-None.is)
    (none_handed c.args.base c.args.top c.args.from _ c.args.cells.now.items c.args.texts.now)
