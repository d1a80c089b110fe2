-- What the reader's answer means.
use Rattle.std.proofs.Common.{◌≡◌, List, Ok, Err, refl, sym, ◌∙◌}
use Rattle.vale_base.specs.declared.spot.Spot.{Spot}
use Rattle.vale_base.specs.Limits.{level_limit}
use Rattle.vale_syntax.specs.declared.token.Token.{Token}
use Rattle.vale_syntax.specs.Tree.{Tree, tree}
use Rattle.vale_syntax.specs.Grammar.{spells}
use Rattle.vale_reading.specs.Steps.{Fault, unexpected, too_deep}
use Rattle.vale_reading.specs.ItemReading.{all_of}
use Rattle.vale_reading_laws.proofs.StepLaws.{ok_is}
use Rattle.vale_reading_laws.proofs.ItemTakes.{all_takes}
use Rattle.vale_reading_laws.proofs.ItemAgain.{all_again, none_left}
use Rattle.vale_prefix_spec.specs.Begins.{StopsAt, spells_within}
use Rattle.vale_prefix.proofs.Spots.{all_stops, all_go_through, one_stop, spelled_no_stop}
use Rattle.vale_parser.specs.declared.parser.ParseFault.{ParseFault}
use Rattle.vale_parser.specs.Refusal.{spot_at, IsUnexpected, IsGoneThrough}

pub is_found : (ts : List Token) (x : Tree) → all_of ts ≡ Ok x → spells x ts
is_found ts x e = all_takes ts x e

pub is_complete : (ts : List Token) (x y : Tree) → all_of ts ≡ Ok x → spells y ts → x ≡ y
is_complete ts x y e h = ok_is x y (sym e ∙ all_again ts y h)

pub is_none : (ts : List Token) (f : Fault) (y : Tree) → all_of ts ≡ Err f → spells y ts → ⊥
is_none ts f y e h = none_left ts f y e h

pub is_unexpected : (end : Spot) (ts us : List Token) (f : ParseFault) → all_of ts ≡ Err (unexpected us) → f.at ≡ spot_at end us → IsUnexpected end ts f
is_unexpected end ts us f e h = record { left = us; there = h; stops = all_stops ts us e }

pub is_gone_through : (end : Spot) (ts us : List Token) (f : ParseFault) → all_of ts ≡ Err (too_deep us) → f.at ≡ spot_at end us → IsGoneThrough end ts f
is_gone_through end ts us f e h = record { left = us; there = h; through = all_go_through ts us e }

within_limit : (x : Tree) (ts : List Token) → spells x ts → spells_within level_limit x ts
within_limit (tree names items) ts h = h

pub is_no_stop : (ts left : List Token) (x : Tree) → all_of ts ≡ Ok x → StopsAt ts left → ⊥
is_no_stop ts left x e s = spelled_no_stop level_limit ts left x (within_limit x ts (is_found ts x e)) s

pub is_stop : (end : Spot) (ts us left : List Token) → all_of ts ≡ Err (unexpected us) → StopsAt ts left → spot_at end us ≡ spot_at end left
is_stop end ts us left e s = let same : us ≡ left = one_stop ts us left (all_stops ts us e) s in rw same refl
