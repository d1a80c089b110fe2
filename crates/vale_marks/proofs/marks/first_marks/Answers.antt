use Rattle.std.proofs.Common.{◌≡◌, ℕ, List, length, Bool, ap, ◌∙◌, arith}
use Rattle.std.proofs.lemmas.List.{with_items_is}
use Rattle.vale_cert.specs.Types.{marked}
use Rattle.vale_marks.proofs.WayLaws.{first_sound, none_marked}
use Rattle.vale_marks.proofs.marks.first_marks.Goals as goal

pub spread-requires-clause-sound : goal.spread-requires-clause-sound
spread-requires-clause-sound c =
    let empty = λ (n : ℕ). ap (λ (ms : List Bool). marked ms n) (c.deref.ensures.value ∙ c.in_ok-none.ensures.items_if_clones_equal (λ y e. e)) ∙ none_marked c.len-count.result n in
    let long : length c.turn.new.next ≡ length c.in_ok-marks.marks.items = c.turn.auto.next ∙ ap length c.deref_mut.ensures.value in
    let turned : c.deref_mut-2.result.now ≡ c.turn.new.next = c.deref_mut-2.ensures.value ∙ with_items_is c.in_ok-marks.marks c.turn.new.next (omega (arith, long, c.in_ok-marks.marks.ok.0)) in
    first_sound c.args.way c.args.code.now c.deref.result.now c.deref_mut-2.result.now empty
    (λ n. ap (λ (ms : List Bool). marked ms n) turned ∙ c.turn.ensures n)
