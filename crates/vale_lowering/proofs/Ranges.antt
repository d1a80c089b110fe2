-- The operations keep numbers within the range of int, and texts short and of bytes.
use Rattle.std.proofs.Common.{◌≡◌, ℕ, zero, suc, ◌+◌, ◌^◌, ◌<◌, ◌≤◌, ℤ, pos, negsuc, List, [], ◌∷◌, ◌++◌, length, Option, Some, None, Bool, true, false, ◌&&◌, nat_le, if◌then◌else◌, Result, Ok, Err, FitsSigned, w64, refl, ap, ◌∙◌, subst, arith, length-append}
use Rattle.std.specs.Prelude.{slice_get, take, drop, ◌-◌, int_div, int_rem, unsigned_abs, ◌+ℤ◌, ◌-ℤ◌, ◌*ℤ◌}
use Rattle.std.specs.List.{list_all}
use Rattle.std.specs.Str.{IsAscii}
use Rattle.std.specs.Fmt.{decimal, signed_decimal}
use Rattle.std.proofs.lemmas.Bool.Decides.{nat_tests}
use Rattle.std.proofs.lemmas.Fmt.{length-decimal-le, IsAscii-decimal}
use Rattle.std.proofs.lemmas.Int.{rem_below, fits_signed_from_abs}
use Rattle.vale_base.specs.Limits.{text_limit}
use Rattle.vale_base.specs.declared.trap.TrapKind.{TrapKind}
use Rattle.vale_base.specs.declared.trap.TrapKind.TheVariants.{Overflow, DivisionByZero, IndexOutOfRange, TextTooLong, NotANumber}
use Rattle.vale_text.specs.Operations.{is_int, is_zero, int_or, byte_of, number_of, written_in}
use Rattle.vale_text.specs.Operations as o
use Rattle.vale_syntax.specs.Bytes.{is_byte}
use Rattle.vale_lowering.specs.Texts.{is_lawful_text}

pub record IsLawful (t : List ℕ) : Type 0 where
  pub short : length t ≤ text_limit
  pub bytes : list_all is_byte t ≡ true

and_parts : (a b : Bool) → (a && b) ≡ true → (a ≡ true) × (b ≡ true)
and_parts true b e = (refl, e)
and_parts false b e = absurd (cc)

pub lawful : (t : List ℕ) → is_lawful_text t ≡ true → IsLawful t
lawful t e =
    let h = and_parts (nat_le (length t) text_limit) (list_all is_byte t) e in
    let short : nat_le (length t) text_limit ≡ true = h.0 in
    record { short = grind (arith, short); bytes = h.1 }

-- ---- numbers

pub int_or_is : (kind : TrapKind) (z y : ℤ) → int_or kind z ≡ Ok y → is_int y ≡ true
int_or_is kind z y e = by (is_int z) refl e
  where
    by : (b : Bool) → is_int z ≡ b → (if b then Ok z else Err kind) ≡ Ok y → is_int y ≡ true
    by true is e = let same : z ≡ y = cc in subst (λ x. is_int x ≡ true) same is
    by false is e = absurd (cc)

pub length_is_int : (t : List ℕ) → IsLawful t → is_int (pos (length t)) ≡ true
length_is_int t h = let short = h.short in grind (arith, short)

pub byte_is_int : (b : ℕ) → is_byte b ≡ true → is_int (pos b) ≡ true
byte_is_int b h = grind (arith, h)

pub byte_at : (t : List ℕ) (i b : ℕ) → list_all is_byte t ≡ true → slice_get t i ≡ Some b → is_byte b ≡ true
byte_at [] i b h e = absurd (cc)
byte_at (c ∷ t) zero b h e = let same : c ≡ b = cc in subst (λ x. is_byte x ≡ true) same (and_parts (is_byte c) (list_all is_byte t) h).0
byte_at (c ∷ t) (suc i) b h e = byte_at t i b (and_parts (is_byte c) (list_all is_byte t) h).1 e

is_int_below : (y : ℤ) → is_int y ≡ true → unsigned_abs y ≤ 2 ^ 63
is_int_below (pos n) h = grind (arith, h)
is_int_below (negsuc n) h = grind (arith, h)

is_int_fits : (z : ℤ) → FitsSigned w64 z → is_int z ≡ true
is_int_fits (pos n) fits = grind (arith, nat_tests, fits.sfits)
is_int_fits (negsuc n) fits = grind (arith, nat_tests, fits.sfits)

pub rem_is_int : (x y : ℤ) → is_zero y ≡ false → is_int y ≡ true → is_int (int_rem x y) ≡ true
rem_is_int x y some h =
    let large : 0 < unsigned_abs y = grind (arith, some) in
    let below = rem_below x y large in
    let few = is_int_below y h in
    is_int_fits (int_rem x y) (fits_signed_from_abs w64 (int_rem x y) (omega (arith, below, few)))

-- ---- texts

all_of_both : (s t : List ℕ) → list_all is_byte s ≡ true → list_all is_byte t ≡ true → list_all is_byte (s ++ t) ≡ true
all_of_both [] t h k = k
all_of_both (c ∷ s) t h k =
    let p = and_parts (is_byte c) (list_all is_byte s) h in
    ap (λ b. b && list_all is_byte (s ++ t)) p.0 ∙ all_of_both s t p.1 k

all_of_front : (n : ℕ) (t : List ℕ) → list_all is_byte t ≡ true → list_all is_byte (take n t) ≡ true
all_of_front zero t h = refl
all_of_front (suc n) [] h = refl
all_of_front (suc n) (c ∷ t) h =
    let p = and_parts (is_byte c) (list_all is_byte t) h in
    ap (λ b. b && list_all is_byte (take n t)) p.0 ∙ all_of_front n t p.1

all_of_back : (n : ℕ) (t : List ℕ) → list_all is_byte t ≡ true → list_all is_byte (drop n t) ≡ true
all_of_back zero t h = h
all_of_back (suc n) [] h = refl
all_of_back (suc n) (c ∷ t) h = all_of_back n t (and_parts (is_byte c) (list_all is_byte t) h).1

front_shorter : (n : ℕ) (t : List ℕ) → length (take n t) ≤ length t
front_shorter zero t = omega arith
front_shorter (suc n) [] = omega arith
front_shorter (suc n) (c ∷ t) = let h = front_shorter n t in omega (arith, h)

back_shorter : (n : ℕ) (t : List ℕ) → length (drop n t) ≤ length t
back_shorter zero t = omega arith
back_shorter (suc n) [] = omega arith
back_shorter (suc n) (c ∷ t) = let h = back_shorter n t in omega (arith, h)

pub slice_is_lawful : (n m : ℕ) (t : List ℕ) → IsLawful t → IsLawful (take n (drop m t))
slice_is_lawful n m t h =
    let a = front_shorter n (drop m t) in
    let b = back_shorter m t in
    let c = h.short in
    record { short = omega (arith, a, b, c); bytes = all_of_front n (drop m t) (all_of_back m t h.bytes) }

pub join_is_lawful : (s t : List ℕ) → IsLawful s → IsLawful t → length s + length t ≤ text_limit → IsLawful (s ++ t)
join_is_lawful s t h k few = record { short = omega (arith, few, length-append s t); bytes = all_of_both s t h.bytes k.bytes }

from_ascii : (t : List ℕ) → IsAscii t → list_all is_byte t ≡ true
from_ascii [] h = refl
from_ascii (c ∷ t) h =
    let small : c < 128 = h 0 in
    let byte : is_byte c ≡ true = grind (arith, small) in
    ap (λ b. b && list_all is_byte t) byte ∙ from_ascii t (λ i. h (suc i))

pub text_of_is_lawful : (z : ℤ) → is_int z ≡ true → IsLawful (signed_decimal z)
text_of_is_lawful (pos n) h =
    let small : n < 2 ^ 63 = grind (arith, nat_tests, h) in
    let few = length-decimal-le 19 n (omega arith) (omega arith) (omega arith) in
    record { short = omega (arith, few); bytes = from_ascii (decimal n) (IsAscii-decimal n (omega arith)) }
text_of_is_lawful (negsuc n) h =
    let small : n < 2 ^ 63 = grind (arith, nat_tests, h) in
    let few = length-decimal-le 19 (suc n) (omega arith) (omega arith) (omega arith) in
    record { short = omega (arith, few); bytes = from_ascii (decimal (suc n)) (IsAscii-decimal (suc n) (omega arith)) }

-- ---- what operations give

abbrev pub GivesInt : Result ℤ TrapKind → Type 0
GivesInt r = (z : ℤ) → r ≡ Ok z → is_int z ≡ true

abbrev pub GivesText : Result (List ℕ) TrapKind → Type 0
GivesText r = (t : List ℕ) → r ≡ Ok t → IsLawful t

-- an operator on two ints
abbrev pub KeepsInts : (ℤ → ℤ → Result ℤ TrapKind) → Type 0
KeepsInts f = (x y : ℤ) → is_int x ≡ true → is_int y ≡ true → GivesInt (f x y)

pub add_keeps : KeepsInts o.add
add_keeps x y hx hy z e = int_or_is Overflow (x +ℤ y) z e

pub sub_keeps : KeepsInts o.sub
sub_keeps x y hx hy z e = int_or_is Overflow (x -ℤ y) z e

pub mul_keeps : KeepsInts o.mul
mul_keeps x y hx hy z e = int_or_is Overflow (x *ℤ y) z e

pub div_keeps : KeepsInts o.div
div_keeps x y hx hy z e = by (is_zero y) e
  where
    by : (b : Bool) → (if b then Err DivisionByZero else int_or Overflow (int_div x y)) ≡ Ok z → is_int z ≡ true
    by true e = absurd (cc)
    by false e = int_or_is Overflow (int_div x y) z e

pub rem_keeps : KeepsInts o.rem
rem_keeps x y hx hy z e = by (is_zero y) refl e
  where
    within : (b : Bool) → is_zero y ≡ false → (if b then Ok (int_rem x y) else Err Overflow) ≡ Ok z → is_int z ≡ true
    within true some e = let same : int_rem x y ≡ z = cc in subst (λ q. is_int q ≡ true) same (rem_is_int x y some hy)
    within false some e = absurd (cc)

    by : (b : Bool) → is_zero y ≡ b → (if b then Err DivisionByZero else if is_int (int_div x y) then Ok (int_rem x y) else Err Overflow) ≡ Ok z → is_int z ≡ true
    by true some e = absurd (cc)
    by false some e = within (is_int (int_div x y)) some e

pub number_gives : (t : List ℕ) → GivesInt (o.number t)
number_gives t z e = by (written_in t) e
  where
    by : (n : Option ℤ) → number_of n ≡ Ok z → is_int z ≡ true
    by None e = absurd (cc)
    by (Some n) e = int_or_is NotANumber n z e

pub byte_gives : (t : List ℕ) (x : ℤ) → IsLawful t → GivesInt (o.byte t x)
byte_gives t (negsuc i) h z e = absurd (cc)
byte_gives t (pos i) h z e = by (slice_get t i) refl e
  where
    by : (b : Option ℕ) → slice_get t i ≡ b → byte_of b ≡ Ok z → is_int z ≡ true
    by None at e = absurd (cc)
    by (Some b) at e = let same : pos b ≡ z = cc in subst (λ q. is_int q ≡ true) same (byte_is_int b (byte_at t i b h.bytes at))

pub join_gives : (s t : List ℕ) → IsLawful s → IsLawful t → GivesText (o.join s t)
join_gives s t h k u e = by (nat_le (length s + length t) text_limit) refl e
  where
    by : (b : Bool) → nat_le (length s + length t) text_limit ≡ b → (if b then Ok (s ++ t) else Err TextTooLong) ≡ Ok u → IsLawful u
    by true few e =
        let short : length s + length t ≤ text_limit = grind (arith, few) in
        let same : s ++ t ≡ u = cc in
        subst (λ q. IsLawful q) same (join_is_lawful s t h k short)
    by false few e = absurd (cc)

pub slice_gives : (t : List ℕ) (x y : ℤ) → IsLawful t → GivesText (o.slice t x y)
slice_gives t (negsuc a) y h u e = absurd (cc)
slice_gives t (pos a) (negsuc b) h u e = absurd (cc)
slice_gives t (pos a) (pos b) h u e = by (nat_le a b && nat_le b (length t)) e
  where
    by : (c : Bool) → (if c then Ok (take (b - a) (drop a t)) else Err IndexOutOfRange) ≡ Ok u → IsLawful u
    by true e = let same : take (b - a) (drop a t) ≡ u = cc in subst (λ q. IsLawful q) same (slice_is_lawful (b - a) a t h)
    by false e = absurd (cc)
