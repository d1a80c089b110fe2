use Rattle.std.proofs.Common.{◌≡◌, ℕ, List, length, Bool, sym, ap, ◌∙◌, arith, add-one}
use Rattle.std.proofs.lemmas.List.{with_items_is}
use Rattle.vale_cert.specs.Types.{marked}
use Rattle.vale_marks.specs.Ways.{leads}
use Rattle.vale_marks.proofs.WayLaws.{stays_sound, goes_on, fixed}
use Rattle.vale_marks.proofs.marks.marks_of.Goals as goal

pub returns-then-last_turn : goal.returns-then-last_turn
returns-then-last_turn c =
    let way = c.args.way in
    let code = c.args.code.now in
    let marks = c.loop-turn.marks.items in
    let again = λ (n : ℕ).
    ap (λ (ms : List Bool). marked ms n) (sym c.deref.ensures.value)
    ∙ c.last_turn.ensures.last c.if-last_turn.true n
    ∙ ap (λ (ms : List Bool). leads way code (marked ms) n) c.deref.ensures.value in
    fixed way code (marked marks) c.loop-turn.invariant.sound again

pub loop-turn-preserved : goal.loop-turn-preserved
loop-turn-preserved c =
    let way = c.args.way in
    let code = c.args.code.now in
    let marks = c.loop-turn.marks.items in
    let long : length c.last_turn.new.next ≡ length c.args.code.now.kinds = c.last_turn.auto.next ∙ ap length c.deref_mut.ensures.value ∙ c.loop-turn.invariant.next in
    let new : c.swap.new.x.items ≡ c.last_turn.new.next = rw c.swap.ensures.x_after (with_items_is c.loop-turn.next c.last_turn.new.next (omega (arith, long, c.loop-turn.invariant.next, c.loop-turn.next.ok.0))) in
    let turn : (n : ℕ) → marked c.swap.new.x.items n ≡ leads way code (marked marks) n = λ n.
    ap (λ (ms : List Bool). marked ms n) new
    ∙ c.last_turn.ensures.next n
    ∙ ap (λ (ms : List Bool). leads way code (marked ms) n) c.deref.ensures.value in
    record {
      count = c.loop-turn.invariant.count;
      marks = ap length new ∙ long;
      next = rw c.swap.ensures.y_after c.loop-turn.invariant.marks;
      sound = λ n is. stays_sound way code (marked marks) c.loop-turn.invariant.sound n (sym (turn n) ∙ is);
      within = λ n is. turn n ∙ goes_on way code (marked marks) c.loop-turn._turn c.loop-turn.invariant.within n (rw add-one at is);
    }
