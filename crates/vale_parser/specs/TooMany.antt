-- What a fault of code 6 says: only levels were wanting.
use Rattle.std.specs.Prelude.{ℕ, ◌≡◌, ◌<◌, List, length, Result, Ok, Err}
use Rattle.vale_base.specs.declared.spot.Spot.{Spot}
use Rattle.vale_base.specs.Limits.{level_limit}
use Rattle.vale_syntax.specs.declared.token.Token.{Token}
use Rattle.vale_syntax.specs.Tree.{Tree}
use Rattle.vale_reading.specs.Steps.{Fault, from, too_deep}
use Rattle.vale_reading.specs.ItemReading.{read_at, all_of}
use Rattle.vale_parser.specs.declared.parser.ParseFault.{ParseFault}
use Rattle.vale_parser.specs.Refusal.{spot_at}

-- There is a first of these tokens, and reading gets past it: it gives a tree, or fewer tokens are left at its fault.
abbrev pub GetsPast : List Token → Result Tree Fault → Type 0
GetsPast left (Ok read) = 0 < length left
GetsPast left (Err fault) = length (from fault) < length left

-- The first of the tokens `left` opens a level too many: reading stops at it, the fault is there, and each reader that
-- has more levels gets past it.
pub record OpensTooMany (end : Spot) (tokens : List Token) (fault : ParseFault) : Type 0 where
  pub left : List Token
  pub stops : all_of tokens ≡ Err (too_deep left)
  pub there : fault.at ≡ spot_at end left
  pub past : (levels : ℕ) → level_limit < levels → GetsPast left (read_at levels tokens)
