-- A schedule is read part by part.
use Rattle.std.proofs.Common.{◌≡◌, ℕ, ◌+◌, ◌<◌, List, [], ◌∷◌, ◌++◌, length, map, All, false, eqb, sym, ap, refl, ◌∙◌, arith, append_assoc, append-nil, Option, Some, None}
use Rattle.std.proofs.lemmas.Fmt.{decimal_injective, digits_decimal}
use Rattle.std.proofs.lemmas.List.{length-map, map-append}
use Rattle.std.proofs.lemmas.List.Splits.{slice_split_none, slice_split_at, join_with_byte-slice_split, length-slice_split}
use Rattle.std.proofs.lemmas.Str.Parse.{IsNumeralModel, tells_digits}
use Rattle.std.proofs.lemmas.List.Elements.{All-cons, All-nil, All-head, All-tail, All-push}
use Rattle.std.specs.Fmt.{decimal}
use Rattle.std.specs.Int.{IsInRange}
use Rattle.std.specs.Iterator.{AlwaysYields}
use Rattle.std.specs.List.{join_with_byte, slice_split, count_by}
use Rattle.std.specs.Str.Parse.{AllDigits, digits_value}
use Rattle.vale_base.specs.Limits.{workers_limit}
use Rattle.vale_words.specs.Words.{IsNumber, IsSchedule}

abbrev Small : ℕ → Type 0
Small n = n < workers_limit

-- the parts between the commas
abbrev pub parts_of : List ℕ → List (List ℕ)
parts_of word = slice_split (λ b. eqb b 44) word

own_model : IsNumeralModel (AllDigits 10) (digits_value 10)
own_model = record { to = λ ds all. all; from = λ ds all. all; same = λ ds all. refl }

no_digit : (d : ℕ) → IsInRange 48 57 d → eqb d 44 ≡ false
no_digit d digit = grind (arith, digit)

no_comma_in : (ds : List ℕ) → AllDigits 10 ds → All (λ b. eqb b 44 ≡ false) ds
no_comma_in [] all = All-nil (λ b. eqb b 44 ≡ false)
no_comma_in (d ∷ ds) all =
    let (digit, more) = tells_digits.parts d ds all in
    All-cons (λ b. eqb b 44 ≡ false) d ds (no_digit d digit) (no_comma_in ds more)

-- a number has no comma
no_comma : (n : ℕ) → n < workers_limit → All (λ b. eqb b 44 ≡ false) (decimal n)
no_comma n small = no_comma_in (decimal n) (digits_decimal own_model n (omega (arith, small)))

parts-joined : (ns : List ℕ) → 0 < length ns → All (λ n. n < workers_limit) ns → parts_of (join_with_byte 44 (map decimal ns)) ≡ map decimal ns
parts-joined [] some small = absurd (omega (arith, some))
parts-joined (n ∷ []) some small = slice_split_none (λ b. eqb b 44) (decimal n) (no_comma n (All-head Small n [] small))
parts-joined (n ∷ m ∷ ns) some small =
    slice_split_at (λ b. eqb b 44) (decimal n) 44 (join_with_byte 44 (map decimal (m ∷ ns))) (no_comma n (All-head Small n (m ∷ ns) small)) refl
    ∙ ap (λ parts. decimal n ∷ parts) (parts-joined (m ∷ ns) (omega arith) (All-tail Small n (m ∷ ns) small))

pub parts-schedule : (word turns : List ℕ) → IsSchedule word turns → parts_of word ≡ map decimal turns
parts-schedule word turns is = ap parts_of is.spelled ∙ parts-joined turns is.some is.workers

pub schedule-parts : (word turns : List ℕ) → parts_of word ≡ map decimal turns → All (λ n. n < workers_limit) turns → IsSchedule word turns
schedule-parts word turns parts small =
    record {
      some =
          let as_many : length turns ≡ count_by (λ b. eqb b 44) word + 1 = sym (length-map turns decimal) ∙ ap length (sym parts) ∙ length-slice_split (λ b. eqb b 44) word in
          omega (arith, as_many);
      spelled = sym (join_with_byte-slice_split 44 word) ∙ ap (join_with_byte 44) parts;
      workers = small;
    }

-- numbers with the same digits are the same
pub numbers_unique : (ms ns : List ℕ) → All (λ n. n < workers_limit) ms → All (λ n. n < workers_limit) ns → map decimal ms ≡ map decimal ns → ms ≡ ns
numbers_unique [] [] a b e = refl
numbers_unique [] (n ∷ ns) a b e = absurd (cc e)
numbers_unique (m ∷ ms) [] a b e = absurd (cc e)
numbers_unique (m ∷ ms) (n ∷ ns) a b e =
    let first : decimal m ≡ decimal n = cc e in
    let more : map decimal ms ≡ map decimal ns = cc e in
    let same = decimal_injective m n (omega (arith, All-head Small m ms a)) (omega (arith, All-head Small n ns b)) first in
    ap (λ k. k ∷ ms) same ∙ ap (λ ks. n ∷ ks) (numbers_unique ms ns (All-tail Small m ms a) (All-tail Small n ns b) more)

-- a part after the numbers that were read is a number of the whole
pub next_number : (all turns : List ℕ) (part : List ℕ) (left : List (List ℕ)) → All (λ n. n < workers_limit) all → map decimal all ≡ map decimal turns ++ part ∷ left → (n : ℕ) × (part ≡ decimal n) × (n < workers_limit)
next_number [] [] part left a e = absurd (cc e)
next_number [] (t ∷ turns) part left a e = absurd (cc e)
next_number (n ∷ all) [] part left a e =
    let first : decimal n ≡ part = cc e in (n, sym first, All-head Small n all a)
next_number (n ∷ all) (t ∷ turns) part left a e =
    let more : map decimal all ≡ map decimal turns ++ part ∷ left = cc e in next_number all turns part left (All-tail Small n all a) more

module _ {S A : Type 0} (steps : S → Option A → S → Type 0) (v : A → List ℕ) where
  -- these turns were read of the word, and the iterator gives the parts after them
  pub record Reading (word turns : List ℕ) (s : S) : Type 0 where
    pub left : List (List ℕ)
    pub yields : AlwaysYields steps v s left
    pub parts : parts_of word ≡ map decimal turns ++ left
    pub small : All (λ n. n < workers_limit) turns

  part_of : (word turns : List ℕ) (s t : S) (x : A) (left : List (List ℕ)) → AlwaysYields steps v s left → parts_of word ≡ map decimal turns ++ left → steps s (Some x) t → (rest : List (List ℕ)) × (parts_of word ≡ map decimal turns ++ v x ∷ rest) × AlwaysYields steps v t rest
  part_of word turns s t x [] yields parts step = absurd (yields x t step)
  part_of word turns s t x (y ∷ rest) yields parts step =
      let (same, more) = yields.1 x t step in
      (rest, parts ∙ ap (λ z. map decimal turns ++ z ∷ rest) (sym same), more)

  -- a part that is no number
  pub stuck : (word turns all : List ℕ) (s t : S) (x : A) → Reading word turns s → steps s (Some x) t → IsSchedule word all → (n : ℕ) × IsNumber 0 63 (v x) n
  stuck word turns all s t x reading step is =
      let (rest, parts, more) = part_of word turns s t x reading.left reading.yields reading.parts step in
      let (n, spelled, small) = next_number all turns (v x) rest is.workers (sym (parts-schedule word all is) ∙ parts) in
      (n, record { spelled = spelled; above = omega arith; below = omega (arith, small) })

  -- a part that is one
  pub one_more : (word turns : List ℕ) (s t : S) (x : A) (n : ℕ) → Reading word turns s → steps s (Some x) t → v x ≡ decimal n → n < workers_limit → Reading word (turns ++ n ∷ []) t
  one_more word turns s t x n reading step is small =
      let (rest, parts, more) = part_of word turns s t x reading.left reading.yields reading.parts step in
      record {
        left = rest;
        yields = more;
        parts =
            parts ∙ (ap (λ z. map decimal turns ++ z ∷ rest) is
            ∙ (sym (append_assoc (map decimal turns) (decimal n ∷ []) rest) ∙ ap (λ xs. xs ++ rest) (sym (map-append decimal turns (n ∷ [])))));
        small = All-push Small turns n reading.small small;
      }

  all_parts : (word turns : List ℕ) (s t : S) (left : List (List ℕ)) → AlwaysYields steps v s left → parts_of word ≡ map decimal turns ++ left → steps s None t → parts_of word ≡ map decimal turns
  all_parts word turns s t [] yields parts step = parts ∙ append-nil (map decimal turns)
  all_parts word turns s t (y ∷ rest) yields parts step = absurd (yields.0 t step)

  pub read_whole : (word turns : List ℕ) (s t : S) → Reading word turns s → steps s None t → IsSchedule word turns
  read_whole word turns s t reading step =
      schedule-parts word turns (all_parts word turns s t reading.left reading.yields reading.parts step) reading.small

  pub read_alone : (word turns all : List ℕ) (s t : S) → Reading word turns s → steps s None t → IsSchedule word all → turns ≡ all
  read_alone word turns all s t reading step is =
      let parts = all_parts word turns s t reading.left reading.yields reading.parts step in
      numbers_unique turns all reading.small is.workers (sym parts ∙ parts-schedule word all is)

pub read_nothing : {S A : Type 0} (steps : S → Option A → S → Type 0) (v : A → List ℕ) (word : List ℕ) (s : S) → AlwaysYields steps v s (parts_of word) → Reading steps v word [] s
read_nothing steps v word s yields =
    record { left = parts_of word; yields = yields; parts = refl; small = All-nil Small }
