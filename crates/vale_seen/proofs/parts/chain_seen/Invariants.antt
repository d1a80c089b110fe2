use Rattle.std.proofs.Common.{◌≡◌, map, drop}
use Rattle.vale_rules_spec.specs.Typed.{chain_seen}
use Rattle.vale_core.specs.View.{links_of, view_seen, view_link}
use Rattle.vale_seen.proofs.parts.chain_seen.Given as goal

-- the operators that are left give, after what is known so far, what all of them give
abbrev pub invariant-loop-link : goal.invariant-loop-link
invariant-loop-link l = chain_seen (view_seen l.seen) (links_of (map view_link (drop l.link-index l.links))) ≡ chain_seen (view_seen l.first) (links_of (map view_link l.links))
