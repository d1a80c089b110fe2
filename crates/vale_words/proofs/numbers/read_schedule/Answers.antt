use Rattle.std.proofs.Common.{◌∙◌, Some, ap, lit<, arith}
use Rattle.std.proofs.lemmas.Iterator.Splits.{YieldsList-from_str_split}
use Rattle.vale_words.proofs.ScheduleLemmas.{read_nothing, stuck, one_more, read_whole, read_alone}
use Rattle.vale_words.proofs.numbers.read_schedule.Goals as goal

pub loop-part-init : goal.loop-part-init
loop-part-init c =
    let split = c.split-part-items.ensures in
    record {
      next = tt;
      finite = tt;
      reading =
          rw (c.new-turns.ensures.items, c.into_iter-part-iterator.ensures.into_iter_gives)
          (read_nothing _ _ _ _ (YieldsList-from_str_split 44 c.args.word.now (lit< tt) split.text split.has_more split.pattern).runs);
    }

pub loop-part-preserved : goal.loop-part-preserved
loop-part-preserved c =
    let found = rw c.in-Some-small_number_within.is at c.small_number_within.ensures.found in
    record {
      next = tt;
      finite = tt;
      reading =
          rw c.in_ok-push.ensures.items
          (one_more _ _ _ _ _ c.next.new.self c.in-Some.part _ c.loop-part.invariant.reading c.in-Some.ensures.steps found.spelled (omega (arith, found.below)));
    }

pub returns-in_default-clause-complete : goal.returns-in_default-clause-complete
returns-in_default-clause-complete c turns is =
    let (n, is_number) = stuck _ _ _ _ turns _ c.next.new.self c.in-Some.part c.loop-part.invariant.reading c.in-Some.ensures.steps is in
    absurd (c.in_default.not-Some n (c.small_number_within.ensures.complete n is_number))

pub returns-clause-found : goal.returns-clause-found
returns-clause-found c = rw c.from_vec.ensures (read_whole _ _ _ _ _ _ c.loop-part.invariant.reading c.in-None.ensures.steps)

pub returns-clause-complete : goal.returns-clause-complete
returns-clause-complete c turns is =
    ap Some (c.from_vec.ensures ∙ read_alone _ _ _ _ turns _ _ c.loop-part.invariant.reading c.in-None.ensures.steps is)
