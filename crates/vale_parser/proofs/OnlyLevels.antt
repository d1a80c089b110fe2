-- Where the code is 6, only levels were wanting.
use Rattle.std.proofs.Common.{◌≡◌, ◌<◌, ℕ, true, List, Result, Ok, Err, subst, arith}
use Rattle.vale_base.specs.declared.spot.Spot.{Spot}
use Rattle.vale_base.specs.Limits.{level_limit}
use Rattle.vale_syntax.specs.declared.token.Token.{Token}
use Rattle.vale_syntax.specs.Tree.{Item, Tree}
use Rattle.vale_syntax.specs.Grammar.{names_in}
use Rattle.vale_reading.specs.Steps.{Fault, too_deep, Read}
use Rattle.vale_reading.specs.ItemReading.{items_at, read_items, tree_of, read_at, all_of}
use Rattle.vale_reading_laws.proofs.MoreLevels.{Follows}
use Rattle.vale_reading_laws.proofs.MoreItems.{levels, items_grow}
use Rattle.vale_parser.specs.declared.parser.ParseFault.{ParseFault}
use Rattle.vale_parser.specs.Refusal.{spot_at}
use Rattle.vale_parser.specs.TooMany.{GetsPast, OpensTooMany}

abbrev fault : Fault → Result Tree Fault
fault f = Err f

fault_is : (f g : Fault) → fault f ≡ fault g → f ≡ g
fault_is f g e = cc

gets_past : (names : List (List ℕ)) (us : List Token) (q : Read (List Item)) → Follows {A = List Item} true (Err (too_deep us)) q → GetsPast us (tree_of names (read_items q))
gets_past names us (Ok x) h = omega (arith, h)
gets_past names us (Err f) h = h

past_of : (names : List (List ℕ)) (us : List Token) (r q : Read (List Item)) → tree_of names (read_items r) ≡ Err (too_deep us) → Follows true r q → GetsPast us (tree_of names (read_items q))
past_of names us (Ok x) q e h = absurd cc
past_of names us (Err f) q e h = gets_past names us q (subst (λ (f : Fault). Follows {A = List Item} true (Err f) q) (fault_is f (too_deep us) e) h)

-- where a level was wanting, the reader with more of them gets past the token
more_get_past : (ts us : List Token) (more : ℕ) → level_limit < more → all_of ts ≡ Err (too_deep us) → GetsPast us (read_at more ts)
unfolding all_of
more_get_past ts us more lt e = past_of (names_in ts) us (items_at (names_in ts) level_limit ts) (items_at (names_in ts) more ts) e (items_grow (names_in ts) (levels true level_limit more lt) ts).follows

pub is_deep : (end : Spot) (ts us : List Token) (f : ParseFault) → all_of ts ≡ Err (too_deep us) → f.at ≡ spot_at end us → OpensTooMany end ts f
is_deep end ts us f e h = record { left = us; stops = e; there = h; past = λ levels lt. more_get_past ts us levels lt e }
