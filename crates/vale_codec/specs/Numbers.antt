-- Numbers in base 128: seven bits a byte, low part first, the top bit set on all but the last byte, in the shortest form.
use Rattle.std.specs.Prelude.{◌≡◌, ℕ, zero, suc, ◌+◌, ◌-◌, ◌*◌, ◌/◌, ◌%◌, ◌<◌, ◌≤◌, List, [], ◌∷◌, ◌++◌, length, Result, Ok, Err, Option, Some, None, Bool, true, ◌&&◌, nat_lt, nat_le, if◌then◌else◌, ◌⊎◌}
use Rattle.vale_codec.specs.declared.fault.Fault.{Fault}
use Rattle.vale_codec.specs.declared.fault.Reason.TheVariants.{Ends, Number}
use Rattle.std.specs.List.{flat_map}
use Rattle.vale_codec.specs.Format.{Format, followed, made, many, byte_string, pick}

-- the spelling of n, where n is at most the first number
unfoldable pub spell_by : ℕ → ℕ → List ℕ
spell_by zero n = n ∷ []
spell_by (suc k) n = if nat_lt n 128 then n ∷ [] else (n % 128 + 128) ∷ spell_by k (n / 128)

abbrev pub spell : ℕ → List ℕ
spell n = spell_by n n

-- Bytes up to the first one below 128, as a number: what they are worth, whether they are its shortest form, and what follows.
pub record Group : Type 0 where
  pub worth : ℕ
  pub shortest : Bool
  pub rest : List ℕ

abbrev pub lower : ℕ → Option Group → Option Group
lower b None = None
lower b (Some g) = Some (record { worth = b - 128 + 128 * g.worth; shortest = g.shortest && nat_lt 0 g.worth; rest = g.rest })

unfoldable pub group_at : List ℕ → Option Group
group_at [] = None
group_at (b ∷ bytes) = if nat_lt b 128 then Some (record { worth = b; shortest = true; rest = bytes }) else lower b (group_at bytes)

abbrev pub judged : ℕ → ℕ → Option Group → Result (ℕ × List ℕ) Fault
judged limit left None = Err (record { reason = Ends; left = 0 })
judged limit left (Some g) = if g.shortest && nat_le g.worth limit then Ok (g.worth, g.rest) else Err (record { reason = Number; left = left })

unfoldable pub number_read : ℕ → List ℕ → Result (ℕ × List ℕ) Fault
number_read limit bytes = judged limit (length bytes) (group_at bytes)

-- All bytes have the top bit set, as those of a number that doesn't end.
abbrev pub IsUnended : List ℕ → Type 0
IsUnended [] = Unit {0}
IsUnended (b ∷ bytes) = (128 ≤ b) × IsUnended bytes

-- The bytes end where a number ends, and not before.
abbrev pub IsGroup : List ℕ → Type 0
IsGroup [] = ⊥
IsGroup (b ∷ bytes) = ((b < 128) × (bytes ≡ [])) ⊎ ((128 ≤ b) × IsGroup bytes)

-- The number doesn't end, or it is the spelling of no number up to the limit.
abbrev pub number_faulty : ℕ → List ℕ → Fault → Type 0
number_faulty limit bytes e =
    (IsUnended bytes × (e ≡ record { reason = Ends; left = 0 }))
    ⊎ ((here : List ℕ) × (rest : List ℕ) × (bytes ≡ here ++ rest) × IsGroup here × ((n : ℕ) → n ≤ limit → here ≡ spell n → ⊥) × (e ≡ record { reason = Number; left = length bytes }))

abbrev pub number : ℕ → Format ℕ
number limit = record {
  read = number_read limit;
  write = spell;
  Fits = λ n. n ≤ limit;
  Faulty = number_faulty limit;
}

-- The largest number of most fields: 2^32 - 1.
abbrev pub largest_word : ℕ
largest_word = 4294967295

-- A list: its count, and its parts.
abbrev pub list_of : {A : Type 0} → Format A → Format (List A)
list_of f = made (followed (number largest_word) (many f)) (λ p. p.1) (λ xs. spell (length xs) ++ flat_map f.write xs)

-- A text: its count, and its bytes.
abbrev pub text : Format (List ℕ)
text = made (followed (number largest_word) byte_string) (λ p. p.1) (λ bytes. spell (length bytes) ++ bytes)

-- A tag, and what the form of this number says.
abbrev pub choice : {A : Type 0} → ℕ → List (Format A) → (A → ℕ) → (A → List ℕ) → Format A
choice last forms tag payload = made (followed (number last) (pick forms)) (λ p. p.1) (λ x. spell (tag x) ++ payload x)
