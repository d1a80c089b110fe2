-- Reading from left to right, with one token in hand: what every reader is made of. A reader gives what it read and the
-- tokens after it, or its first fault.
use Rattle.std.specs.Prelude.{ℕ, zero, suc, Bool, false, List, [], ◌∷◌, length, Option, Some, None, Result, Ok, Err, if◌then◌else◌, ◌+◌}
use denote.Enum.Bare.{sameb}
use Rattle.vale_base.specs.declared.spot.Spot.{Spot}
use Rattle.vale_syntax.specs.declared.token.Token.{Token}
use Rattle.vale_syntax.specs.declared.token.TokenKind.{TokenKind}
use Rattle.vale_syntax.specs.declared.token.TokenKind.TheVariants as k
use Rattle.vale_syntax.specs.declared.token.Sign.{Sign}
use Rattle.vale_syntax.specs.contracts.token.Sign as signs
use Rattle.vale_syntax.specs.declared.token.Word.{Word}
use Rattle.vale_syntax.specs.contracts.token.Word as words
use Rattle.vale_syntax.specs.declared.tree.NameAt.{NameAt}
use Rattle.vale_syntax.specs.Grammar.{number_of}
use Rattle.vale_reading.specs.declared.stop.Turn.{Turn}
use Rattle.vale_reading.specs.declared.stop.Turn.TheVariants.{More, End}

-- The tokens from the fault on: at the first of them, or at the end, stands nothing that was expected, or it opens a
-- level too many.
pub data Fault : Type 0 where
  unexpected : List Token → Fault
  too_deep : List Token → Fault

abbrev pub from : Fault → List Token
from (unexpected ts) = ts
from (too_deep ts) = ts

abbrev pub Read : Type 0 → Type 0
Read A = Result (A × List Token) Fault

abbrev pub Reader : Type 0 → Type 0
Reader A = List Token → Read A

infixl 10 ◌>>=◌
abbrev pub ◌>>=◌ : {A B : Type 0} → Read A → (A × List Token → Read B) → Read B
(Ok x) >>= f = f x
(Err e) >>= f = Err e

-- ---- one token

abbrev pub is_sign : Sign → TokenKind → Bool
is_sign x (k.Sign y) = sameb signs.the_type y x
is_sign x _ = false

abbrev pub is_word : Word → TokenKind → Bool
is_word x (k.Word y) = sameb words.the_type y x
is_word x _ = false

-- what the next token is, without taking it
abbrev pub begins : Sign → List Token → Bool
begins x [] = false
begins x (t ∷ ts) = is_sign x t.kind

abbrev pub begins_word : Word → List Token → Bool
begins_word x [] = false
begins_word x (t ∷ ts) = is_word x t.kind

-- the spot of this sign or word
unfoldable pub sign_at : Sign → Reader Spot
sign_at x [] = Err (unexpected [])
sign_at x (t ∷ ts) = if is_sign x t.kind then Ok (t.at, ts) else Err (unexpected (t ∷ ts))

unfoldable pub word_at : Word → Reader Spot
word_at x [] = Err (unexpected [])
word_at x (t ∷ ts) = if is_word x t.kind then Ok (t.at, ts) else Err (unexpected (t ∷ ts))

module _ (names : List (List ℕ)) where
  abbrev pub numbered : Token → List Token → Option ℕ → Read NameAt
  numbered t ts (Some n) = Ok (record { name = record { 0 = n }; at = t.at }, ts)
  numbered t ts None = Err (unexpected (t ∷ ts))

  abbrev pub name_of : Token → List Token → TokenKind → Read NameAt
  name_of t ts (k.Name text) = numbered t ts (number_of names text)
  name_of t ts _ = Err (unexpected (t ∷ ts))

  unfoldable pub name_at : Reader NameAt
  name_at [] = Err (unexpected [])
  name_at (t ∷ ts) = name_of t ts t.kind

-- ---- lists, by turns: each gives an item, or ends the list

abbrev pub with_front : {A : Type 0} → (A → A) → Read A → Read A
with_front f (Ok x) = Ok (f x.0, x.1)
with_front f (Err e) = Err e

module _ {X E L : Type 0} (turn : Reader (Turn X E)) (more : X → L → L) (end : E → L) (out : Reader L) where
  abbrev pub turn_then : Reader L → Read (Turn X E) → Read L
  turn_then others (Ok (More x, ts)) = with_front (more x) (others ts)
  turn_then others (Ok (End e, ts)) = Ok (end e, ts)
  turn_then others (Err e) = Err e

  -- at most so many items
  unfoldable pub turns_at : ℕ → Reader L
  turns_at zero ts = out ts
  turns_at (suc n) ts = turn_then (turns_at n) (turn ts)

-- each turn takes a token, so these are enough
abbrev pub enough : List Token → ℕ
enough ts = length ts + 1

abbrev pub faulty : {A : Type 0} → Reader A
faulty ts = Err (unexpected ts)
