use Rattle.std.proofs.Common.{◌≡◌}
use Rattle.std.specs.Str.Iter.{split_steps}
use Rattle.std.specs.Str.Pattern.{FindsChar}
use Rattle.vale_words.proofs.ScheduleLemmas.{Reading}
use Rattle.vale_words.proofs.numbers.read_schedule.Given as goal

abbrev pub invariant-loop-part : goal.invariant-loop-part
invariant-loop-part l = record {
  next : (goal.iterator-loop-part).can_next l.part-iterator;
  finite : (goal.iterator-loop-part).is_finite l.part-iterator;
  reading : Reading (split_steps FindsChar (λ a b. b ≡ a)) (λ x. x.now) l.word l.turns.items l.part-iterator;
}
