-- The refusal that a fault of reading is.
use Rattle.std.specs.Prelude.{◌≡◌, List, [], ◌∷◌, Result, Ok, Err}
use Rattle.vale_base.specs.declared.spot.Spot.{Spot}
use Rattle.vale_syntax.specs.declared.token.Token.{Token}
use Rattle.vale_syntax.specs.Tree.{Tree}
use Rattle.vale_prefix_spec.specs.Begins.{StopsAt, GoesThrough}
use Rattle.vale_reading.specs.Steps.{Fault, unexpected, too_deep}
use Rattle.vale_parser.specs.declared.parser.ParseFault.{ParseFault}

-- the spot of the first token, or of the end
abbrev pub spot_at : Spot → List Token → Spot
spot_at end [] = end
spot_at end (t ∷ ts) = t.at

-- 5 at what wasn't expected, 6 at what opens a level too many
abbrev pub refusal : Spot → Fault → ParseFault
refusal end (unexpected ts) = record { code = 5; at = spot_at end ts }
refusal end (too_deep ts) = record { code = 6; at = spot_at end ts }

abbrev pub IsRefusal : Spot → Result Tree Fault → ParseFault → Type 0
IsRefusal end (Ok x) f = ⊥
IsRefusal end (Err e) f = f ≡ refusal end e

-- The fault is where the tokens `left` begin: at the first of them, or at the end, a program stops.
pub record IsUnexpected (end : Spot) (tokens : List Token) (fault : ParseFault) : Type 0 where
  pub left : List Token
  pub there : fault.at ≡ spot_at end left
  pub stops : StopsAt tokens left

-- The fault is at a token that a program of some nesting goes through.
pub record IsGoneThrough (end : Spot) (tokens : List Token) (fault : ParseFault) : Type 0 where
  pub left : List Token
  pub there : fault.at ≡ spot_at end left
  pub through : GoesThrough tokens left
