-- What a run of a program is: what it printed and when, how it ended, and the ticks that it spent.
use Rattle.std.specs.Prelude.{ℕ, List, ◌++◌, [], ◌∷◌}
use Rattle.vale_base.specs.declared.piece.Piece.{Piece}
use Rattle.vale_base.specs.declared.trap.TrapInfo.{TrapInfo}

-- how a run ends: done, stopped by a trap, cut where no tick was left, or where no rule gives a next step
pub data End : Type 0 where
  Done : End
  Trap : TrapInfo → End
  Cut : End
  Wrong : End

pub record Outcome : Type 0 where
  pub pieces : List Piece
  pub end : End
  pub ticks : ℕ

-- the bytes of the pieces, in order
abbrev pub joined : List Piece → List ℕ
joined [] = []
joined (p ∷ ps) = p.bytes ++ joined ps

-- what the run printed
abbrev pub output : Outcome → List ℕ
output o = joined o.pieces
