use Rattle.std.proofs.Common.{◌≡◌, ◌<◌, ◌∙◌, ℕ, arith, length, refl, sym}
use Rattle.std.proofs.lemmas.List.{length-take-le}
use Rattle.vale_registers.specs.Texts.{text_at}
use Rattle.vale_object_passing.specs.Passing.{cells_of}
use Rattle.vale_object_flow.specs.Flow.{row_of}
use Rattle.vale_object_flow.specs.declared.control.Control.{Control}
use Rattle.vale_object_steps.specs.Views.{View}
use Rattle.vale_object_turn.specs.Steps.{Scene, config}
use Rattle.vale_object_stretch.specs.Stretch as stretch
use Rattle.vale_object_stretch.proofs.Stretching.{both_ok}
use Rattle.vale_object_advance.specs.Advance.{Ended, IsUnderWay, config_of, scene_of}
use Rattle.vale_object_advance.proofs.Advancing.{ended_so, fits_within, under_way_within}
use Rattle.vale_object_advance.proofs.stretch.run_on.Goals as goal

pub go_in_row-came-requires-clause-fit : goal.go_in_row-came-requires-clause-fit
go_in_row-came-requires-clause-fit g c =
    let r = c.requires.under_way in
    fits_within c.args.code.now r.0 c.args.heap.now c.args.control.now c.args.left.now c.requires.end c.requires.fits r.1.runs

pub go_in_row-came-requires-clause-under_way : goal.go_in_row-came-requires-clause-under_way
go_in_row-came-requires-clause-under_way g c =
    let r = c.requires.under_way in
    let a = c.args in
    (scene_of a.code.now r.0 a.control.now, r.0, under_way_within a.code.now r.0 a.heap.now a.control.now a.left.now (g.L.Lender.out a.lender.now) (g.L.Lender.floors a.lender.now) r.1)

pub returns-clause-ends : goal.returns-clause-ends
returns-clause-ends g c =
    let a = c.args in
    let old = a.control.now in
    let n = c.go_in_row-came.new in
    let e = c.go_in_row-came.ensures in
    let code = a.code.now in
    let out = g.L.Lender.out a.lender.now in
    let floors = g.L.Lender.floors a.lender.now in
    let new : Control = record { registers = n.registers; texts = n.texts; end = old.end; top = record (old.top) { place = n.place }; below = old.below } in
    let cells = cells_of old.top.base old.end old.texts old.registers.items in
    let after = cells_of old.top.base old.end n.texts n.registers.items in
    let count : length (row_of old) ≡ old.end = length-take-le old.end old.registers.items c.requires.end in
    let same : length (row_of new) ≡ old.end = length-take-le old.end n.registers.items (omega (arith, c.requires.end, c.go_in_row-came.ensures.size)) in
    both_ok c.go_in_row-came.result
    (λ told. (s : Scene) (v : View) → stretch.IsUnderWay code old.top.function out floors s v a.heap.now cells old.top.place a.left.now → stretch.Ended code s v (config s v old.top.place cells) told n.heap after n.place n.left)
    (λ told. (i : ℕ) → i < old.top.base → text_at n.texts i ≡ text_at old.texts i)
    (λ told. (v : View) → IsUnderWay code out floors v a.heap.now old a.left.now → Ended code v (config_of code v old) told n.heap new n.left)
    e.ends e.others
    (λ told h others v u.
    ended_so code v old new refl refl refl e.below (omega (arith, c.requires.base, count)) (same ∙ sym count) others a.heap.now n.heap a.left.now n.left u.runs told
    (h (scene_of code v old) v (under_way_within code v a.heap.now old a.left.now out floors u)))
