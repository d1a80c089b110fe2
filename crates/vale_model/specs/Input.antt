-- The input of a run: what its bytes are for the parameter of `main`, or the place at which they are unlawful (docs/LANGUAGE.md,
-- "Input").
use Rattle.std.specs.Prelude.{ℕ, suc, ℤ, Bool, ◌||◌, ◌==◌, nat_lt, List, [], ◌∷◌, length, Result, Ok, Err, if◌then◌else◌}
use Rattle.vale_base.specs.Limits.{input_limit, width_limit, text_limit}
use Rattle.vale_state_spec.specs.State.{Given, no_input, numbers, lines}
use Rattle.vale_base.specs.declared.trap.TrapKind.{TrapKind}
use Rattle.vale_text.specs.Operations.{number}
use Rattle.vale_rules_spec.specs.Types.{Ty, array}
use Rattle.vale_rules_spec.specs.Types as y

-- what `main` takes
pub data Form : Type 0 where
  takes_nothing : Form
  takes_numbers : Form
  takes_lines : Form

abbrev pub form_of : Ty → Form
form_of (array y.int) = takes_numbers
form_of (array y.str) = takes_lines
form_of _ = takes_nothing

-- bytes that stand together, from this place on
pub record Piece : Type 0 where
  pub place : ℕ
  pub bytes : List ℕ

-- ---- numbers

-- a space, a tab, a carriage return or a line feed
abbrev pub is_blank : ℕ → Bool
is_blank c = (c == 32) || (c == 9) || (c == 13) || (c == 10)

-- a byte before the words after it: it begins the first of them, where that follows at once, or is a word by itself
abbrev pub with_byte : ℕ → ℕ → List Piece → List Piece
with_byte place c [] = record { place = place; bytes = c ∷ [] } ∷ []
with_byte place c (w ∷ ws) =
    if w.place == suc place then record { place = place; bytes = c ∷ w.bytes } ∷ ws
    else record { place = place; bytes = c ∷ [] } ∷ w ∷ ws

-- what stands between blanks
abbrev pub words_from : ℕ → List ℕ → List Piece
words_from place [] = []
words_from place (c ∷ cs) = if is_blank c then words_from (suc place) cs else with_byte place c (words_from (suc place) cs)

abbrev pub before_numbers : ℤ → Result (List ℤ) ℕ → Result (List ℤ) ℕ
before_numbers z (Ok zs) = Ok (z ∷ zs)
before_numbers z (Err place) = Err place

abbrev pub number_at : ℕ → Result ℤ TrapKind → Result (List ℤ) ℕ → Result (List ℤ) ℕ
number_at place (Ok z) rest = before_numbers z rest
number_at place (Err kind) rest = Err place

-- the numbers that the words write, where so many stand before them
abbrev pub numbers_in : ℕ → List Piece → Result (List ℤ) ℕ
numbers_in before [] = Ok []
numbers_in before (w ∷ ws) = if before == width_limit then Err w.place else number_at w.place (number w.bytes) (numbers_in (suc before) ws)

abbrev pub as_numbers : Result (List ℤ) ℕ → Result Given ℕ
as_numbers (Ok zs) = Ok (numbers zs)
as_numbers (Err place) = Err place

-- ---- lines

abbrev pub onto_line : ℕ → ℕ → List Piece → List Piece
onto_line place c [] = record { place = place; bytes = c ∷ [] } ∷ []
onto_line place c (l ∷ ls) = record { place = place; bytes = c ∷ l.bytes } ∷ ls

-- each line feed ends a line; bytes after the last one are a line too
abbrev pub lines_from : ℕ → List ℕ → List Piece
lines_from place [] = []
lines_from place (c ∷ cs) =
    if c == 10 then record { place = place; bytes = [] } ∷ lines_from (suc place) cs
    else onto_line place c (lines_from (suc place) cs)

abbrev pub before_lines : List ℕ → Result (List (List ℕ)) ℕ → Result (List (List ℕ)) ℕ
before_lines t (Ok ts) = Ok (t ∷ ts)
before_lines t (Err place) = Err place

abbrev pub lines_in : ℕ → List Piece → Result (List (List ℕ)) ℕ
lines_in before [] = Ok []
lines_in before (l ∷ ls) =
    if (before == width_limit) || nat_lt text_limit (length l.bytes) then Err l.place else before_lines l.bytes (lines_in (suc before) ls)

abbrev pub as_lines : Result (List (List ℕ)) ℕ → Result Given ℕ
as_lines (Ok ts) = Ok (lines ts)
as_lines (Err place) = Err place

-- ---- the whole input

abbrev pub unless_long : List ℕ → Result Given ℕ → Result Given ℕ
unless_long bytes r = if nat_lt input_limit (length bytes) then Err input_limit else r

-- the input that the bytes are, or the place of their first fault
abbrev pub taken : Form → List ℕ → Result Given ℕ
taken takes_nothing bytes = Ok no_input
taken takes_numbers bytes = unless_long bytes (as_numbers (numbers_in 0 (words_from 0 bytes)))
taken takes_lines bytes = unless_long bytes (as_lines (lines_in 0 (lines_from 0 bytes)))
