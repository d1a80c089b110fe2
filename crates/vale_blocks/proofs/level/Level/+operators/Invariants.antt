use Rattle.std.proofs.Common.{◌≡◌, ◌-◌, ◌+◌, ◌*◌}
use Rattle.std.specs.Prelude.{map}
use Rattle.vale_syntax.specs.Tree.{no_links, more_links}
use Rattle.vale_syntax.specs.View.{listed, view_link}
use Rattle.vale_reading.specs.Steps.{with_front, turns_at}
use Rattle.vale_reading.specs.Reading.{no_more, within, link_turn, level_at}
use Rattle.vale_blocks.proofs.level.Level.+operators.Given as goal

abbrev pub decreases-level : goal.decreases-level
decreases-level g l = 3 * l.height + 2

abbrev pub decreases-links : goal.decreases-links
decreases-links g l = 3 * l.height + 1

abbrev pub decreases-link : goal.decreases-link
decreases-link g l = 3 * l.height

abbrev pub invariant-links-loop : goal.invariant-links-loop
invariant-links-loop g l =
    with_front (listed (λ x xs. more_links x xs) (map (view_link) l.items)) (turns_at (link_turn (level_at l.self.parser.now.names.now (within l.self.parser.now.names.now l.self.depth) (l.height - 1)) l.height) (λ x xs. more_links x xs) (λ _. no_links) (no_more) (l.most - l.counter) l.rest) ≡ turns_at (link_turn (level_at l.self.parser.now.names.now (within l.self.parser.now.names.now l.self.depth) (l.height - 1)) l.height) (λ x xs. more_links x xs) (λ _. no_links) (no_more) (l.most) l.tokens
