-- What `fmt` prints stays as it is.
use Rattle.std.specs.Prelude.{◌≡◌, ◌≤◌, List, ℕ, length}
use Rattle.vale_base.specs.Limits.{program_limit}
use Rattle.vale_run.specs.Effects.{Effect, prints}
use Rattle.vale_run.specs.Means.{FormatsTo}

-- `fmt` of what `fmt` printed prints the same and nothing else, where that is no longer than a program may be.
abbrev pub StaysFormatted : Type 0
StaysFormatted =
    (text out : List ℕ) → FormatsTo text (prints out) → length out ≤ program_limit
    → FormatsTo out (prints out) × ((e : Effect) → FormatsTo out e → e ≡ prints out)
