-- Values that go from registers to registers.
use Rattle.std.proofs.Common.{◌≡◌, ℕ, zero, suc, ◌+◌, ◌-◌, ◌<◌, ◌≤◌, List, [], ◌∷◌, ◌++◌, length, take, drop, get_or, map, replicate, Option, Some, None, refl, sym, ap, ◌∙◌, arith, length-append}
use Rattle.std.specs.Prelude.{slice_set}
use Rattle.std.proofs.lemmas.List.{length-drop, length-set, length-take-le, take-set-le, take-take, take_all}
use Rattle.vale_state_spec.specs.World.{Value}
use Rattle.vale_code.specs.Registers.{Registers, read, put, with_result}
use Rattle.vale_registers.specs.Cells.{value_in, values_in, HoldsValue}
use Rattle.vale_registers.specs.Passing.{AreLaid, AreShared, IsGiven, IsHanded, IsMoved, IsPassed, IsShared, from_base, values_from}
use Rattle.vale_registers.specs.Texts.{text_at}
use Rattle.vale_registers.specs.declared.cell.Cell.{Cell}
use Rattle.vale_registers.proofs.Bases.{drop_front, read_drop, take_front, take_written, values_append, written}
use Rattle.vale_registers.proofs.Registers.{read_within, same_values, some_value}

-- ---- what is shared one after another

-- the first so many registers got what these hold
pub record AreSharing (base i : ℕ) (args : List ℕ) (row : List Cell) (old : List (List ℕ)) (to : List Cell) (new : List (List ℕ)) : Type 0 where
  pub all : values_in (from_base (length row) (text_at new)) (take i to) ≡ map (read (values_from base old row)) (take i args)
  pub others : (k : ℕ) → k < length row → text_at new k ≡ text_at old k
  pub count : length to ≡ length args

none_taken : {A : Type 0} (xs : List A) → take 0 xs ≡ []
none_taken [] = refl
none_taken (x ∷ xs) = refl

pub sharing_none : (base : ℕ) (args : List ℕ) (row : List Cell) (old : List (List ℕ)) (to : List Cell) → length to ≡ length args → AreSharing base 0 args row old to old
sharing_none base args row old to count = record {
  all = ap (values_in (from_base (length row) (text_at old))) (none_taken to) ∙ sym (ap (map (read (values_from base old row))) (none_taken args));
  others = λ k lt. refl;
  count = count;
}

map_more : (f : ℕ → Option Value) (args : List ℕ) (i : ℕ) → i < length args → map f (take (i + 1) args) ≡ map f (take i args) ++ f (get_or args i 0) ∷ []
map_more f [] i lt = absurd (omega arith)
map_more f (a ∷ args) zero lt = ap (λ l. f a ∷ map f l) (none_taken args)
map_more f (a ∷ args) (suc i) lt =
    let n : suc i + 1 ≡ suc (i + 1) = omega arith in
    ap (λ k. map f (take k (a ∷ args))) n ∙ ap (λ l. f a ∷ l) (map_more f args i (omega arith))

module _ (base i : ℕ) (args : List ℕ) (row : List Cell) (old : List (List ℕ)) (to : List Cell) (new : List (List ℕ)) where
  abbrev source : ℕ
  source = base + get_or args i 0

  pub sharing_more : (d b : Cell) (newer : List (List ℕ)) → i < length args → source < length row → IsShared source (length row + i) (get_or row source d) b new newer → AreSharing base i args row old to new
      → AreSharing base (i + 1) args row old (slice_set to i b) newer
  sharing_more d b newer lt within q p =
      let t = from_base (length row) (text_at newer) in
      let here : i < length to = omega (arith, lt, p.count) in
      let size : length (take i to) ≡ i = length-take-le i to (omega (arith, here)) in
      let kept : values_in t (take i to) ≡ values_in (from_base (length row) (text_at new)) (take i to) =
      same_values (from_base (length row) (text_at new)) t (take i to) (λ k less. q.others (length row + k) (λ e. absurd (omega (arith, e, less, size)))) in
      let zero_more : length (take i to) + 0 ≡ i = omega (arith, size) in
      let value : value_in b (t i) ≡ read (values_from base old row) (get_or args i 0) =
      q.value ∙ ap (value_in (get_or row source d)) (p.others source within) ∙ sym (read_within (text_at old) row source d within) ∙ read_drop (text_at old) row base (get_or args i 0) in
      record {
        all = ap (values_in t) (take_written to i b here)
            ∙ values_append t (take i to) (b ∷ [])
            ∙ ap (λ n. values_in t (take i to) ++ value_in b (t n) ∷ []) zero_more
            ∙ ap (λ o. values_in t (take i to) ++ o ∷ []) value
            ∙ ap (λ l. l ++ read (values_from base old row) (get_or args i 0) ∷ []) (kept ∙ p.all)
            ∙ sym (map_more (read (values_from base old row)) args i lt);
        others = λ k less. q.others k (λ e. absurd (omega (arith, e, less))) ∙ p.others k less;
        count = length-set to i b ∙ p.count;
      }

pub all_shared : (base i : ℕ) (args : List ℕ) (row : List Cell) (old : List (List ℕ)) (to : List Cell) (new : List (List ℕ)) → length args ≤ i → AreSharing base i args row old to new → AreShared base args row old to new
all_shared base i args row old to new le p = record {
  all = ap (values_in (from_base (length row) (text_at new))) (sym (take_all i to (omega (arith, le, p.count)))) ∙ p.all ∙ ap (map (read (values_from base old row))) (take_all i args le);
  others = p.others;
}

-- ---- registers that are emptied one after another

pub record AreBlank (i : ℕ) (old new : List Cell) : Type 0 where
  pub values : (t : ℕ → List ℕ) → values_in t (take i new) ≡ replicate i None
  pub size : length new ≡ length old

pub blank_none : (old : List Cell) → AreBlank 0 old old
blank_none old = record { values = λ t. ap (values_in t) (none_taken old); size = refl }

abbrev no_value : Option Value
no_value = None

replicate_more : (i : ℕ) → replicate i no_value ++ no_value ∷ [] ≡ replicate (i + 1) no_value
replicate_more zero = refl
replicate_more (suc i) =
    let n : suc i + 1 ≡ suc (i + 1) = omega arith in
    ap (λ l. None ∷ l) (replicate_more i) ∙ ap (λ k. replicate k None) (sym n)

pub blank_more : (i : ℕ) (old new : List Cell) (b : Cell) → i < length new → ((x : List ℕ) → value_in b x ≡ None) → AreBlank i old new → AreBlank (i + 1) old (slice_set new i b)
blank_more i old new b lt is p = record {
  values = λ t. ap (values_in t) (take_written new i b lt) ∙ values_append t (take i new) (b ∷ [])
      ∙ ap (λ o. values_in t (take i new) ++ o ∷ []) (is (t (length (take i new) + 0)))
      ∙ ap (λ l. l ++ None ∷ []) (p.values t) ∙ replicate_more i;
  size = length-set new i b ∙ p.size;
}

pub all_blank : (i : ℕ) (old new : List Cell) → i ≡ length old → AreBlank i old new → (t : ℕ → List ℕ) → values_in t new ≡ replicate (length old) None
all_blank i old new e p t =
    ap (values_in t) (sym (take_all i new (omega (arith, e, p.size)))) ∙ p.values t ∙ ap (λ n. replicate n None) e

-- ---- the registers of a function

pub laid : (base : ℕ) (args : List ℕ) (row : List Cell) (old : List (List ℕ)) (given rest : List Cell) (count : ℕ) (new : List (List ℕ)) → length given ≡ length args → length (given ++ rest) - length args ≡ count → AreShared base args row old given new
    → ((t : ℕ → List ℕ) → values_in t rest ≡ replicate count None) → AreLaid base args row old (given ++ rest) new
laid base args row old given rest count new size left p blank =
    let t = from_base (length row) (text_at new) in
    record {
      all = values_append t given rest ∙ ap (λ l. l ++ values_in (from_base (length given) t) rest) p.all
          ∙ ap (λ l. map (read (values_from base old row)) args ++ l) (blank (from_base (length given) t) ∙ ap (λ n. replicate n None) (sym left));
      others = p.others;
    }

-- ---- a value that is handed down

with_some : (to : ℕ) (o : Option Value) (v : Value) (regs : Registers) → o ≡ Some v → with_result (Some to) o regs ≡ put regs to o
with_some to (Some w) v regs e = refl
with_some to None v regs e = absurd (let x : Some v ≡ None = sym e in let y : ⊥ = cc in y)

module _ (base top to from : ℕ) (cells : List Cell) (old : List (List ℕ)) (new : List Cell) (newer : List (List ℕ)) where
  pub handed : base + to < top → top ≤ from → top ≤ length cells → HoldsValue cells from → length new ≡ length cells → IsGiven top (base + to) from cells old new newer
      → IsHanded base top (Some to) (read (values_in (text_at old) cells) from) cells old new newer
  handed lt above few held same g =
      let row = take top cells in
      let size : length (drop base row) ≡ top - base = omega (arith, length-drop base row, length-take-le top cells few) in
      let v = read (values_in (text_at old) cells) from in
      let some = some_value cells from held (text_at old) in
      record {
        size = same;
        above = ap (λ l. values_in (from_base base (text_at newer)) (drop base l)) g.is
            ∙ written (text_at old) (text_at newer) row base to g.cell
            (λ i n less. g.others (base + i) (λ e. n (omega (arith, e))) (λ e. absurd (omega (arith, e, less, size, above)))) (omega (arith, size, lt))
            ∙ ap (put (values_from base old row) to) g.value
            ∙ sym (with_some to v some.0 (values_from base old row) some.1);
        below = under new cells (ap (take base) g.is ∙ take-set-le base row (base + to) g.cell (omega arith));
        others = λ i less. g.others i (λ e. absurd (omega (arith, e, less))) (λ e. absurd (omega (arith, e, less, lt, above)));
      }
    where
      under : (xs ys : List Cell) → take base (take top xs) ≡ take base (take top ys) → take base xs ≡ take base ys
      under xs ys e = sym (take-take base top xs (omega (arith, lt))) ∙ e ∙ take-take base top ys (omega (arith, lt))

pub none_handed : (base top from : ℕ) (v : Option Value) (cells : List Cell) (texts : List (List ℕ)) → IsHanded base top None v cells texts cells texts
none_handed base top from v cells texts = record { size = refl; above = refl; below = refl; others = λ i lt. refl }

-- ---- parts that were written

pub passed_behind : (base top : ℕ) (args : List ℕ) (cells : List Cell) (old : List (List ℕ)) (row own new : List Cell) (newer : List (List ℕ)) → row ≡ take top cells → length row ≡ top → length own + top ≡ length cells → length new ≡ length own
    → AreLaid base args row old new newer → IsPassed base top (length cells) args cells old (row ++ new) newer
passed_behind base top args cells old row own new newer front size whole same p =
    let left : length new - length args ≡ length cells - top - length args = omega (arith, whole, same) in
    record {
      row = take_front row new top size ∙ front;
      own = ap (λ l. values_in (from_base top (text_at newer)) (drop top l)) (take_all (length cells) (row ++ new) (omega (arith, length-append row new, size, whole, same)))
          ∙ ap (values_in (from_base top (text_at newer))) (drop_front row new top size)
          ∙ ap (λ n. values_in (from_base n (text_at newer)) new) (sym size)
          ∙ p.all
          ∙ ap (λ l. map (read (values_from base old l)) args ++ replicate (length new - length args) None) front
          ∙ ap (λ n. map (read (values_from base old (take top cells))) args ++ replicate n None) left;
      others = λ i lt. p.others i (omega (arith, lt, size));
    }

pub passed_within : (base top end : ℕ) (args : List ℕ) (cells : List Cell) (old : List (List ℕ)) (used rest new : List Cell) (newer : List (List ℕ)) → used ≡ take end cells → length used ≡ end → length new ≡ length used → top ≤ end
    → IsPassed base top (length used) args used old new newer → IsPassed base top end args cells old (new ++ rest) newer
passed_within base top end args cells old used rest new newer front size same le p =
    let first : take end (new ++ rest) ≡ new = take_front new rest end (same ∙ size) in
    let under : take top used ≡ take top cells = ap (take top) front ∙ take-take top end cells le in
    record {
      row = sym (take-take top end (new ++ rest) le) ∙ ap (take top) first ∙ p.row ∙ under;
      own = ap (values_from top newer) (first ∙ sym (take_all (length used) new (omega (arith, same))))
          ∙ p.own
          ∙ ap (λ l. map (read (values_from base old l)) args ++ replicate (length used - top - length args) None) under
          ∙ ap (λ n. map (read (values_from base old (take top cells))) args ++ replicate (n - top - length args) None) size;
      others = p.others;
    }

at_drop : (n k : ℕ) (xs : List Cell) (d : Cell) → get_or (drop n xs) k d ≡ get_or xs (n + k) d
at_drop zero k [] d = refl
at_drop zero k (x ∷ xs) d = let e : k ≡ 0 + k = omega arith in ap (λ i. get_or (x ∷ xs) i d) e
at_drop (suc n) k [] d = refl
at_drop (suc n) k (x ∷ xs) d = let e : suc (n + k) ≡ suc n + k = omega arith in at_drop n k xs d ∙ ap (λ i. get_or (x ∷ xs) i d) e

pub given_down : (top to from : ℕ) (cells : List Cell) (old : List (List ℕ)) (lower upper : List Cell) (d b : Cell) (newer : List (List ℕ)) → lower ≡ take top cells → upper ≡ drop top cells → length lower ≡ top → to < top → top ≤ from → from < length cells
    → IsMoved from to (get_or upper (from - top) d) b old newer → IsGiven top to from cells old (slice_set lower to b ++ upper) newer
given_down top to from cells old lower upper d b newer front back size lt above few p =
    let place : top + (from - top) ≡ from = omega (arith, above) in
    record {
      cell = b;
      is = take_front (slice_set lower to b) upper top (length-set lower to b ∙ size) ∙ ap (λ l. slice_set l to b) front;
      value = p.value ∙ ap (λ l. value_in (get_or l (from - top) d) (text_at old from)) back
          ∙ ap (λ c. value_in c (text_at old from)) (at_drop top (from - top) cells d ∙ ap (λ i. get_or cells i d) place)
          ∙ sym (read_within (text_at old) cells from d few);
      others = p.others;
    }
