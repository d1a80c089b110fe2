use Rattle.std.proofs.Common.{ℕ, List, [], ◌∷◌, get_or, take, sym, subst}
use Rattle.std.proofs.lemmas.List.{take_more}
use Rattle.vale_names.specs.Spread.{Spreads}
use Rattle.vale_names.proofs.SpreadLaws.{adds_both}
use Rattle.vale_names.proofs.spread.Spread.add_all.Goals as goal

pub loop-name-preserved : goal.loop-name-preserved
loop-name-preserved c =
    let names = c.args.names.now in
    let k = c.loop-name.name-index in
    let old = c.args.self.now in
    let new = c.add.new.self in
    subst (λ (ns : List ℕ). Spreads ns old new) (sym (take_more names k 0 c.loop-name-test.true)) (adds_both (take k names) (get_or names k 0 ∷ []) old c.loop-name.self new c.loop-name.invariant c.in_ok-add.ensures)
