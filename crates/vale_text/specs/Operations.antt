-- What the operations on numbers and texts give, or the trap that they are (docs/LANGUAGE.md, "Operations").
use Rattle.std.specs.Prelude.{ℕ, ℤ, pos, negsuc, neg_ℤ, ◌+ℤ◌, ◌-ℤ◌, ◌*ℤ◌, ◌+◌, ◌-◌, int_le, int_div, int_rem, unsigned_abs, Bool, false, ◌&&◌, nat_le, ◌==◌, List, [], ◌∷◌, ◌++◌, length, take, drop, Option, Some, None, Result, Ok, Err, is_ok, slice_get, if◌then◌else◌}
use Rattle.std.specs.Fmt.{signed_decimal}
use Rattle.std.specs.List.{list_all}
use Rattle.std.specs.Str.Parse.{digits_value}
use Rattle.vale_base.specs.Limits.{text_limit}
use Rattle.vale_base.specs.declared.trap.TrapKind.{TrapKind}
use Rattle.vale_base.specs.declared.trap.TrapKind.TheVariants.{Overflow, DivisionByZero, IndexOutOfRange, TextTooLong, NotANumber}

-- ---- numbers

-- a number within the range of int
abbrev pub is_int : ℤ → Bool
is_int z = int_le (negsuc 9223372036854775807) z && int_le z (pos 9223372036854775807)

abbrev pub is_zero : ℤ → Bool
is_zero z = unsigned_abs z == 0

-- the number where it is an int, and else this trap
abbrev pub int_or : TrapKind → ℤ → Result ℤ TrapKind
int_or kind z = if is_int z then Ok z else Err kind

abbrev pub add : ℤ → ℤ → Result ℤ TrapKind
add x y = int_or Overflow (x +ℤ y)

abbrev pub sub : ℤ → ℤ → Result ℤ TrapKind
sub x y = int_or Overflow (x -ℤ y)

abbrev pub mul : ℤ → ℤ → Result ℤ TrapKind
mul x y = int_or Overflow (x *ℤ y)

-- towards zero; the least int divided by -1 is no int
abbrev pub div : ℤ → ℤ → Result ℤ TrapKind
div x y = if is_zero y then Err DivisionByZero else int_or Overflow (int_div x y)

-- with the dividend's sign; a trap where the quotient is one
abbrev pub rem : ℤ → ℤ → Result ℤ TrapKind
rem x y = if is_zero y then Err DivisionByZero else if is_int (int_div x y) then Ok (int_rem x y) else Err Overflow

-- ---- texts

abbrev pub join : List ℕ → List ℕ → Result (List ℕ) TrapKind
join s t = if nat_le (length s + length t) text_limit then Ok (s ++ t) else Err TextTooLong

-- the bytes from a to b - 1
abbrev pub slice : List ℕ → ℤ → ℤ → Result (List ℕ) TrapKind
slice s (pos a) (pos b) = if nat_le a b && nat_le b (length s) then Ok (take (b - a) (drop a s)) else Err IndexOutOfRange
slice s _ _ = Err IndexOutOfRange

abbrev pub byte_of : Option ℕ → Result ℤ TrapKind
byte_of None = Err IndexOutOfRange
byte_of (Some b) = Ok (pos b)

abbrev pub byte : List ℕ → ℤ → Result ℤ TrapKind
byte s (pos i) = byte_of (slice_get s i)
byte s _ = Err IndexOutOfRange

-- ---- numbers in texts

abbrev pub is_digit : ℕ → Bool
is_digit c = nat_le 48 c && nat_le c 57

-- one or more digits
abbrev pub are_digits : List ℕ → Bool
are_digits [] = false
are_digits (c ∷ cs) = list_all is_digit (c ∷ cs)

-- the number that the digits write, where they are some
abbrev pub digits_number : List ℕ → Option ℤ
digits_number cs = if are_digits cs then Some (pos (digits_value 10 cs)) else None

abbrev pub negated : Option ℤ → Option ℤ
negated None = None
negated (Some z) = Some (neg_ℤ z)

-- the number that digits write, after a `-` or not
abbrev pub written_in : List ℕ → Option ℤ
written_in [] = None
written_in (c ∷ cs) = if c == 45 then negated (digits_number cs) else digits_number (c ∷ cs)

abbrev pub number_of : Option ℤ → Result ℤ TrapKind
number_of None = Err NotANumber
number_of (Some z) = int_or NotANumber z

abbrev pub number : List ℕ → Result ℤ TrapKind
number s = number_of (written_in s)

-- an optional `-` and one or more digits, of a number within the range of int
abbrev pub is_number : List ℕ → Bool
is_number s = is_ok (number s)

abbrev pub text_of : ℤ → List ℕ
text_of z = signed_decimal z
