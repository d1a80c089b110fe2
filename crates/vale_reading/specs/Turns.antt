-- What turns give, one after the other: each is a call of a function that reads one more item, or ends the list.
use Rattle.std.specs.Prelude.{◌≡◌, ℕ, zero, suc, List, [], ◌∷◌, ◌++◌, Result, Ok, Err}
use Rattle.std.specs.Borrow.{Bor}
use Rattle.vale_syntax.specs.declared.token.Token.{Token}
use Rattle.vale_reading.specs.declared.stop.Stop.{Stop}
use Rattle.vale_reading.specs.declared.stop.Stop.TheVariants as stop
use Rattle.vale_reading.specs.declared.stop.Turn.{Turn}
use Rattle.vale_reading.specs.declared.stop.Turn.TheVariants.{More, End}

-- what a turn finds, and what all of them do
abbrev pub FoundTurn : Type 0 → Type 0 → Type 0
FoundTurn X E = Result (Turn X E × Bor (List Token)) Stop

abbrev pub FoundAll : Type 0 → Type 0 → Type 0
FoundAll X E = Result ((List X × E) × Bor (List Token)) Stop

module _ {X E : Type 0} where
  -- there are no more turns
  abbrev pub RunsOut : List Token → FoundAll X E → Type 0
  RunsOut ts (Err (stop.Unexpected us)) = us.now ≡ ts
  RunsOut ts _ = ⊥

  -- after a turn, where the others are told of the items so far and the tokens that are left; memory may be wanting for
  -- an item
  abbrev pub AfterTurn : (List X → List Token → FoundAll X E → Type 0) → List X → FoundTurn X E → FoundAll X E → Type 0
  AfterTurn others xs (Ok (More x, rest)) (Err stop.Memory) = Unit {0}
  AfterTurn others xs (Ok (More x, rest)) result = others (xs ++ x ∷ []) rest.now result
  AfterTurn others xs (Ok (End e, rest)) result = result ≡ Ok ((xs, e), rest)
  AfterTurn others xs (Err s) result = result ≡ Err s

  -- so many turns at most, after the items xs
  abbrev pub Turns : (List Token → FoundTurn X E → Type 0) → ℕ → List X → List Token → FoundAll X E → Type 0
  Turns gives zero xs ts result = RunsOut ts result
  Turns gives (suc n) xs ts result = (t : FoundTurn X E) × gives ts t × AfterTurn (Turns gives n) xs t result

  -- where nothing but the end ends the list
  abbrev pub items_alone : FoundAll X E → Result (List X × Bor (List Token)) Stop
  items_alone (Ok ((xs, e), rest)) = Ok (xs, rest)
  items_alone (Err s) = Err s

  pub record TurnsAlone (gives : List Token → FoundTurn X E → Type 0) (n : ℕ) (xs : List X) (ts : List Token) (result : Result (List X × Bor (List Token)) Stop) : Type 0 where
    pub all : FoundAll X E
    pub turns : Turns gives n xs ts all
    pub alone : result ≡ items_alone all
