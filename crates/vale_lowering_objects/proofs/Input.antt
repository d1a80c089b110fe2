-- What `main` takes from bytes is lawful, and so is what lawful input gives.
use Rattle.std.proofs.Common.{◌≡◌, ℕ, suc, ◌+◌, ◌≤◌, ℤ, List, [], ◌∷◌, length, Option, Some, None, Bool, true, false, ◌&&◌, ◌||◌, ◌==◌, nat_le, nat_lt, if◌then◌else◌, Result, Ok, Err, refl, ap, subst, arith}
use Rattle.std.specs.List.{list_all}
use Rattle.vale_base.specs.Limits.{width_limit, text_limit, input_limit}
use Rattle.vale_base.specs.declared.trap.TrapKind.{TrapKind}
use Rattle.vale_state_spec.specs.State.{Given, no_input, numbers, lines, given, ints, texts}
use Rattle.vale_state_spec.specs.World.{Value}
use Rattle.vale_syntax.specs.Bytes.{is_byte}
use Rattle.vale_text.specs.Operations.{is_int, number}
use Rattle.vale_model.specs.Input.{Form, takes_nothing, takes_numbers, takes_lines, Piece, taken, unless_long, as_numbers, number_at, numbers_in, words_from, as_lines, before_lines, onto_line, lines_from, lines_in}
use Rattle.vale_lowering.specs.Texts.{is_lawful_text}
use Rattle.vale_lowering.proofs.Ranges.{number_gives, lawful}
use Rattle.vale_lowering_objects.specs.Input.{is_lawful_input, TakesLawfulInput}
use Rattle.vale_lowering_objects.proofs.Lawful.{LawfulValues}
use Rattle.vale_lowering_objects.proofs.Registers.{and_first, and_second}

both : (a b : Bool) → a ≡ true → b ≡ true → (a && b) ≡ true
both true b e f = f
both false b e f = e

-- ---- what lawful input gives

ints_lawful : (zs : List ℤ) → list_all is_int zs ≡ true → LawfulValues (ints zs)
ints_lawful [] e = tt
ints_lawful (z ∷ zs) e = (and_first (is_int z) (list_all is_int zs) e, ints_lawful zs (and_second (is_int z) (list_all is_int zs) e))

as_many_ints : (zs : List ℤ) → length (ints zs) ≡ length zs
as_many_ints [] = refl
as_many_ints (z ∷ zs) = ap suc (as_many_ints zs)

texts_lawful : (ts : List (List ℕ)) → list_all is_lawful_text ts ≡ true → LawfulValues (texts ts)
texts_lawful [] e = tt
texts_lawful (t ∷ ts) e = (lawful t (and_first (is_lawful_text t) (list_all is_lawful_text ts) e), texts_lawful ts (and_second (is_lawful_text t) (list_all is_lawful_text ts) e))

as_many_texts : (ts : List (List ℕ)) → length (texts ts) ≡ length ts
as_many_texts [] = refl
as_many_texts (t ∷ ts) = ap suc (as_many_texts ts)

abbrev pub LawfulElements : Option (List Value) → Type 0
LawfulElements None = Unit {0}
LawfulElements (Some vs) = LawfulValues vs × (length vs ≤ width_limit)

pub elements_lawful : (input : Given) → is_lawful_input input ≡ true → LawfulElements (given input)
elements_lawful no_input e = tt
elements_lawful (numbers zs) e =
    let few = and_second (list_all is_int zs) (nat_le (length zs) width_limit) e in
    let same = as_many_ints zs in
    (ints_lawful zs (and_first (list_all is_int zs) (nat_le (length zs) width_limit) e), grind (arith, few, same))
elements_lawful (lines ts) e =
    let few = and_second (list_all is_lawful_text ts) (nat_le (length ts) width_limit) e in
    let same = as_many_texts ts in
    (texts_lawful ts (and_first (list_all is_lawful_text ts) (nat_le (length ts) width_limit) e), grind (arith, few, same))

-- ---- numbers

abbrev LawfulNumbers : ℕ → Result (List ℤ) ℕ → Type 0
LawfulNumbers before (Ok zs) = (list_all is_int zs ≡ true) × (before + length zs ≤ width_limit)
LawfulNumbers before (Err place) = Unit {0}

number_lawful : (before place : ℕ) (r : Result ℤ TrapKind) (rest : Result (List ℤ) ℕ) → ((z : ℤ) → r ≡ Ok z → is_int z ≡ true) → LawfulNumbers (suc before) rest → LawfulNumbers before (number_at place r rest)
number_lawful before place (Err kind) rest f h = tt
number_lawful before place (Ok z) (Err at) f h = tt
number_lawful before place (Ok z) (Ok zs) f h = let few = h.1 in (both (is_int z) (list_all is_int zs) (f z refl) h.0, omega (arith, few))

numbers_lawful : (before : ℕ) (ws : List Piece) → before ≤ width_limit → LawfulNumbers before (numbers_in before ws)
numbers_lawful before [] le = (refl, omega (arith, le))
numbers_lawful before (w ∷ ws) le = by (before == width_limit) refl (λ less. numbers_lawful (suc before) ws less)
  where
    by : (b : Bool) → (before == width_limit) ≡ b → (suc before ≤ width_limit → LawfulNumbers (suc before) (numbers_in (suc before) ws)) → LawfulNumbers before (if b then Err w.place else number_at w.place (number w.bytes) (numbers_in (suc before) ws))
    by true e rest = tt
    by false e rest = number_lawful before w.place (number w.bytes) (numbers_in (suc before) ws) (number_gives w.bytes) (rest (grind (arith, e, le)))

-- ---- lines

abbrev LawfulLines : ℕ → Result (List (List ℕ)) ℕ → Type 0
LawfulLines before (Ok ts) = (list_all is_lawful_text ts ≡ true) × (before + length ts ≤ width_limit)
LawfulLines before (Err place) = Unit {0}

-- each piece is of bytes
abbrev OfBytes : List Piece → Type 0
OfBytes [] = Unit {0}
OfBytes (l ∷ ls) = (list_all is_byte l.bytes ≡ true) × OfBytes ls

onto_bytes : (place c : ℕ) (ls : List Piece) → is_byte c ≡ true → OfBytes ls → OfBytes (onto_line place c ls)
onto_bytes place c [] e h = (both (is_byte c) true e refl, tt)
onto_bytes place c (l ∷ ls) e h = (both (is_byte c) (list_all is_byte l.bytes) e h.0, h.1)

lines_bytes : (place : ℕ) (cs : List ℕ) → list_all is_byte cs ≡ true → OfBytes (lines_from place cs)
lines_bytes place [] e = tt
lines_bytes place (c ∷ cs) e = by (c == 10) (lines_bytes (suc place) cs (and_second (is_byte c) (list_all is_byte cs) e))
  where
    by : (b : Bool) → OfBytes (lines_from (suc place) cs) → OfBytes (if b then (record { place = place; bytes = [] } ∷ lines_from (suc place) cs) else onto_line place c (lines_from (suc place) cs))
    by true rest = (refl, rest)
    by false rest = onto_bytes place c (lines_from (suc place) cs) (and_first (is_byte c) (list_all is_byte cs) e) rest

line_lawful : (before : ℕ) (t : List ℕ) (rest : Result (List (List ℕ)) ℕ) → is_lawful_text t ≡ true → LawfulLines (suc before) rest → LawfulLines before (before_lines t rest)
line_lawful before t (Err at) e h = tt
line_lawful before t (Ok ts) e h = let few = h.1 in (both (is_lawful_text t) (list_all is_lawful_text ts) e h.0, omega (arith, few))

lines_lawful : (before : ℕ) (ls : List Piece) → before ≤ width_limit → OfBytes ls → LawfulLines before (lines_in before ls)
lines_lawful before [] le h = (refl, omega (arith, le))
lines_lawful before (l ∷ ls) le h = by (before == width_limit) (nat_lt text_limit (length l.bytes)) refl refl (λ less. lines_lawful (suc before) ls less h.1)
  where
    by : (b c : Bool) → (before == width_limit) ≡ b → nat_lt text_limit (length l.bytes) ≡ c → (suc before ≤ width_limit → LawfulLines (suc before) (lines_in (suc before) ls)) → LawfulLines before (if b || c then Err l.place else before_lines l.bytes (lines_in (suc before) ls))
    by true c e f rest = tt
    by false true e f rest = tt
    by false false e f rest =
        line_lawful before l.bytes (lines_in (suc before) ls) (both (nat_le (length l.bytes) text_limit) (list_all is_byte l.bytes) (grind (arith, f)) h.0)
        (rest (grind (arith, e, le)))

-- ---- the whole input

abbrev LawfulTaken : Result Given ℕ → Type 0
LawfulTaken (Ok input) = is_lawful_input input ≡ true
LawfulTaken (Err place) = Unit {0}

unless_lawful : (bytes : List ℕ) (r : Result Given ℕ) → LawfulTaken r → LawfulTaken (unless_long bytes r)
unless_lawful bytes r h = by (nat_lt input_limit (length bytes))
  where
    by : (b : Bool) → LawfulTaken (if b then Err input_limit else r)
    by true = tt
    by false = h

numbers_taken : (r : Result (List ℤ) ℕ) → LawfulNumbers 0 r → LawfulTaken (as_numbers r)
numbers_taken (Ok zs) h = let few = h.1 in both (list_all is_int zs) (nat_le (length zs) width_limit) h.0 (grind (arith, few))
numbers_taken (Err place) h = tt

lines_taken : (r : Result (List (List ℕ)) ℕ) → LawfulLines 0 r → LawfulTaken (as_lines r)
lines_taken (Ok ts) h = let few = h.1 in both (list_all is_lawful_text ts) (nat_le (length ts) width_limit) h.0 (grind (arith, few))
lines_taken (Err place) h = tt

taken_lawful : (form : Form) (bytes : List ℕ) → list_all is_byte bytes ≡ true → LawfulTaken (taken form bytes)
taken_lawful takes_nothing bytes e = refl
taken_lawful takes_numbers bytes e = unless_lawful bytes (as_numbers (numbers_in 0 (words_from 0 bytes))) (numbers_taken (numbers_in 0 (words_from 0 bytes)) (numbers_lawful 0 (words_from 0 bytes) (omega arith)))
taken_lawful takes_lines bytes e = unless_lawful bytes (as_lines (lines_in 0 (lines_from 0 bytes))) (lines_taken (lines_in 0 (lines_from 0 bytes)) (lines_lawful 0 (lines_from 0 bytes) (omega arith) (lines_bytes 0 bytes e)))

pub takes_lawful_input : TakesLawfulInput
takes_lawful_input form bytes input e f = subst LawfulTaken f (taken_lawful form bytes e)
