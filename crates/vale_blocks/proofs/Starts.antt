-- Turns after a list that was made empty are those of a whole list.
use Rattle.std.proofs.Common.{◌≡◌, ℕ, List, [], Result, subst}
use Rattle.std.specs.Borrow.{Bor}
use Rattle.vale_syntax.specs.declared.token.Token.{Token}
use Rattle.vale_reading.specs.declared.stop.Stop.{Stop}
use Rattle.vale_reading.specs.Turns.{FoundTurn, FoundAll, Turns, TurnsAlone}

module _ {X E : Type 0} (gives : List Token → FoundTurn X E → Type 0) (n : ℕ) (xs : List X) (ts : List Token) (none : xs ≡ []) where
  pub turns_start : (result : FoundAll X E) → Turns gives n xs ts result → Turns gives n [] ts result
  turns_start result h = subst (λ (ys : List X). Turns gives n ys ts result) none h

  pub alone_start : (result : Result (List X × Bor (List Token)) Stop) → TurnsAlone gives n xs ts result → TurnsAlone gives n [] ts result
  alone_start result h = subst (λ (ys : List X). TurnsAlone gives n ys ts result) none h
