-- Registers that get values one after another, and parts of rows.
use Rattle.std.proofs.Common.{◌≡◌, ◌≢◌, ℕ, zero, suc, ◌+◌, ◌-◌, ◌<◌, ◌≤◌, List, [], ◌∷◌, ◌++◌, length, take, drop, get_or, replicate, Option, Some, None, Bool, false, true, refl, sym, ap, subst, ◌∙◌, arith, length-append}
use Rattle.std.specs.Prelude.{IsSome, slice_set}
use Rattle.std.proofs.lemmas.List.{drop-set-add, drop-drop, drop-take, drop_all, drop_at, drop_more, get_or-drop, length-drop, length-set, length-take-le, take-set-le, take-take, take_all, take_at, take_more_set}
use Rattle.vale_code.specs.declared.ty.Ty.{Ty}
use Rattle.vale_registers.specs.Passing.{from_base}
use Rattle.vale_registers.specs.Texts.{text_at}
use Rattle.vale_heap.specs.declared.body.Cell.{Cell}
use Rattle.vale_heap.specs.declared.body.Cell.TheVariants.{Ref}
use Rattle.vale_heap.specs.declared.body.Place.{Place}
use Rattle.vale_object_cells.specs.Cells.{cell_in, cells_from, cells_in, held}
use Rattle.vale_object_cells.specs.declared.register.Register.{Register}
use Rattle.vale_object_cells.proofs.Holding.{as_many, held_within, same_cells}
use Rattle.vale_object_passing.specs.Giving.{Given, after_as, give_from, given_as, is_frozen}
use Rattle.vale_object_passing.specs.Passing.{AreEntered, AreEnteredAbove, AreGiven, AreLaid, IsGiven, IsHanded, IsMoved, IsPassed, cells_of, landed_in, object_cells}
use Rattle.vale_object_passing.proofs.Giving.{next_rest, next_there}

-- ---- registers behind others

pub cells_append : (t : ℕ → List ℕ) (xs ys : List Register) → cells_in t (xs ++ ys) ≡ cells_in t xs ++ cells_in (from_base (length xs) t) ys
cells_append t [] ys = same_cells (from_base 0 t) t ys (λ i lt. ap t (let e : i ≡ 0 + i = omega arith in e))
cells_append t (x ∷ xs) ys =
    ap (λ l. cell_in x (t 0) ∷ l)
    (cells_append (λ i. t (suc i)) xs ys
    ∙ ap (λ l. cells_in (λ i. t (suc i)) xs ++ l) (same_cells (from_base (suc (length xs)) t) (from_base (length xs) (λ i. t (suc i))) ys (λ i lt. ap t (let e : suc (length xs + i) ≡ suc (length xs) + i = omega arith in e))))

-- ---- what is given one after another

-- the first so many parameters got what they get
pub record AreGiving (base first at : ℕ) (types : List Ty) (args : List ℕ) (start : List Register) (old : List (List ℕ)) (frame own : List Register) (new : List (List ℕ)) : Type 0 where
  pub all : give_from [] types args (cells_from base old start) ≡ give_from (cells_from first new (take at own)) (drop at types) (drop at args) (cells_from base new frame)
  pub others : (i : ℕ) → i < first → text_at new i ≡ text_at old i
  pub frame_size : length frame ≡ length start
  pub size : length own ≡ length args

none_taken : {A : Type 0} (xs : List A) → take 0 xs ≡ []
none_taken [] = refl
none_taken (x ∷ xs) = refl

pub giving_none : (base first : ℕ) (types : List Ty) (args : List ℕ) (frame own : List Register) (old : List (List ℕ)) → length own ≡ length args → AreGiving base first 0 types args frame old frame own old
giving_none base first types args frame own old count = record {
  all = ap (λ l. give_from l types args (cells_from base old frame)) (ap (cells_from first old) (sym (none_taken own)));
  others = λ i lt. refl;
  frame_size = refl;
  size = count;
}

module _ (base first at : ℕ) (types : List Ty) (args : List ℕ) (start : List Register) (old : List (List ℕ)) (frame own : List Register) (new : List (List ℕ)) where
  -- the current parameter gets something
  pub giving_there : (d : Ty) → AreGiving base first at types args start old frame own new → IsSome (give_from [] types args (cells_from base old start)) → length types ≡ length args → at < length args
      → IsSome (give_from (cells_from first new (take at own)) (get_or types at d ∷ drop (at + 1) types) (get_or args at 0 ∷ drop (at + 1) args) (cells_from base new frame))
  giving_there d p some many lt =
      subst (λ g. IsSome g)
      (p.all
      ∙ ap (λ l. give_from (cells_from first new (take at own)) l (drop at args) (cells_from base new frame)) (drop_more types at d (omega (arith, lt, many)))
      ∙ ap (λ l. give_from (cells_from first new (take at own)) (get_or types at d ∷ drop (at + 1) types) l (cells_from base new frame)) (drop_more args at 0 lt))
      some

  pub giving_given : (d : Ty) → AreGiving base first at types args start old frame own new → IsSome (give_from [] types args (cells_from base old start)) → length types ≡ length args → at < length args
      → (t : ℕ → List ℕ) × (c : Cell) × (given_as (is_frozen (get_or types at d)) (held (cells_in t frame) (get_or args at 0)) ≡ Some c)
  giving_given d p some many lt =
      let c = next_there (cells_from first new (take at own)) (get_or types at d) (drop (at + 1) types) (get_or args at 0) (drop (at + 1) args) (cells_from base new frame) (giving_there d p some many lt) in
      (from_base base (text_at new), c.0, c.1)

  pub giving_more : (d : Ty) (after : List Register) (x : Register) (newer : List (List ℕ)) → AreGiving base first at types args start old frame own new → IsSome (give_from [] types args (cells_from base old start)) → length types ≡ length args → at < length args
      → length after ≡ length frame → IsGiven (is_frozen (get_or types at d)) base (get_or args at 0) (first + at) frame new after x newer → AreGiving base first (at + 1) types args start old after (slice_set own at x) newer
  giving_more d after x newer p some many lt same q =
      let ty = get_or types at d in
      let r = get_or args at 0 in
      let front = cells_from first new (take at own) in
      let now = cells_from base new frame in
      let g = given_as (is_frozen ty) (held now r) in
      let here : at < length own = omega (arith, lt, p.size) in
      let size : length (take at own) ≡ at = length-take-le at own (omega (arith, here)) in
      let t = from_base first (text_at newer) in
      let kept : cells_in t (take at own) ≡ front = same_cells (from_base first (text_at new)) t (take at own) (λ i less. q.others (first + i) (λ e. absurd (omega (arith, e, less, size)))) in
      let last : first + (length (take at own) + 0) ≡ first + at = omega (arith, size) in
      let built : cells_in t (take (at + 1) (slice_set own at x)) ≡ front ++ g ∷ [] =
      ap (cells_in t) (take_more_set own at x here)
      ∙ cells_append t (take at own) (x ∷ [])
      ∙ ap (λ l. l ++ cell_in x (text_at newer (first + (length (take at own) + 0))) ∷ []) kept
      ∙ ap (λ n. front ++ cell_in x (text_at newer n) ∷ []) last
      ∙ ap (λ c. front ++ c ∷ []) q.cell in
      record {
        all =
            p.all
            ∙ ap (λ l. give_from front l (drop at args) now) (drop_more types at d (omega (arith, lt, many)))
            ∙ ap (λ l. give_from front (ty ∷ drop (at + 1) types) l now) (drop_more args at 0 lt)
            ∙ next_rest front ty (drop (at + 1) types) r (drop (at + 1) args) now (giving_there d p some many lt)
            ∙ ap (λ l. give_from l (drop (at + 1) types) (drop (at + 1) args) (after_as (is_frozen ty) r now)) (sym built)
            ∙ ap (give_from (cells_in t (take (at + 1) (slice_set own at x))) (drop (at + 1) types) (drop (at + 1) args)) (sym q.left);
        others = λ i less. q.others i (λ e. absurd (omega (arith, e, less))) ∙ p.others i less;
        frame_size = same ∙ p.frame_size;
        size = length-set own at x ∙ p.size;
      }

  pub all_given : AreGiving base first at types args start old frame own new → length types ≡ length args → length args ≤ at → AreGiven base first types args start old frame own new
  all_given p many le = record {
    all =
        p.all
        ∙ ap (λ l. give_from (cells_from first new l) (drop at types) (drop at args) (cells_from base new frame)) (take_all at own (omega (arith, le, p.size)))
        ∙ ap (λ l. give_from (cells_from first new own) l (drop at args) (cells_from base new frame)) (drop_all at types (omega (arith, le, many)))
        ∙ ap (λ l. give_from (cells_from first new own) [] l (cells_from base new frame)) (drop_all at args le);
    others = p.others;
  }

-- ---- registers that are emptied one after another

pub record AreBlank (at : ℕ) (old new : List Register) : Type 0 where
  pub cells : (t : ℕ → List ℕ) → cells_in t (take at new) ≡ replicate at None
  pub size : length new ≡ length old

pub blank_none : (old : List Register) → AreBlank 0 old old
blank_none old = record { cells = λ t. ap (cells_in t) (none_taken old); size = refl }

abbrev no_cell : Option Cell
no_cell = None

replicate_more : (i : ℕ) → replicate i no_cell ++ no_cell ∷ [] ≡ replicate (i + 1) no_cell
replicate_more zero = refl
replicate_more (suc i) =
    let n : suc i + 1 ≡ suc (i + 1) = omega arith in
    ap (λ l. None ∷ l) (replicate_more i) ∙ ap (λ k. replicate k None) (sym n)

pub blank_more : (at : ℕ) (old new : List Register) (b : Register) → at < length new → ((x : List ℕ) → cell_in b x ≡ None) → AreBlank at old new → AreBlank (at + 1) old (slice_set new at b)
blank_more at old new b lt is p = record {
  cells = λ t.
      ap (cells_in t) (take_more_set new at b lt)
      ∙ cells_append t (take at new) (b ∷ [])
      ∙ ap (λ o. cells_in t (take at new) ++ o ∷ []) (is (t (length (take at new) + 0)))
      ∙ ap (λ l. l ++ None ∷ []) (p.cells t)
      ∙ replicate_more at;
  size = length-set new at b ∙ p.size;
}

pub all_blank : (at : ℕ) (old new : List Register) → at ≡ length old → AreBlank at old new → (t : ℕ → List ℕ) → cells_in t new ≡ replicate (length old) None
all_blank at old new e p t =
    ap (cells_in t) (sym (take_all at new (omega (arith, e, p.size)))) ∙ p.cells t ∙ ap (λ n. replicate n None) e

-- ---- the registers of a function

pub laid : (base first : ℕ) (types : List Ty) (args : List ℕ) (frame : List Register) (old : List (List ℕ)) (after given rest : List Register) (count : ℕ) (new : List (List ℕ)) → length (given ++ rest) - length args ≡ count → AreGiven base first types args frame old after given new
    → ((t : ℕ → List ℕ) → cells_in t rest ≡ replicate count None) → AreLaid base first types args frame old after (given ++ rest) new
laid base first types args frame old after given rest count new left p blank =
    let t = from_base first (text_at new) in
    record {
      given = record { cells = cells_from first new given; after = cells_from base new after };
      is = p.all;
      left = refl;
      got =
          cells_append t given rest
          ∙ ap (λ l. cells_in t given ++ l) (blank (from_base (length given) t) ∙ ap (λ n. replicate n None) (sym left));
      others = p.others;
    }

pub entered_none : (base first : ℕ) (types : List Ty) (args : List ℕ) (frame : List Register) (old : List (List ℕ)) (after own : List Register) (new : List (List ℕ)) → AreLaid base first types args frame old after own new → AreEntered base first None types args frame old after own new
entered_none base first types args frame old after own new p =
    let same : length own - length args ≡ length own - 0 - length args = omega arith in
    record { given = p.given; is = p.is; left = p.left; got = p.got ∙ ap (λ n. p.given.cells ++ replicate n None) same; others = p.others }

one_set : (cells : List (Option Cell)) (c : Option Cell) → length cells ≡ 1 → slice_set cells 0 c ≡ c ∷ []
one_set [] c e = absurd (omega (arith, e))
one_set (d ∷ []) c e = refl
one_set (d ∷ x ∷ ds) c e = absurd (omega (arith, e))

module _ (base first : ℕ) (p : Place) (types : List Ty) (args : List ℕ) (frame : List Register) (old : List (List ℕ)) (after : List Register) (new : List (List ℕ)) where
  pub entered_some : (receiver before rest : List Register) → length before ≡ 1 → length receiver ≡ length before → ((t : ℕ → List ℕ) → cells_in t receiver ≡ slice_set (cells_in t before) 0 (Some (Ref p))) → AreLaid base (first + 1) types args frame old after rest new
      → AreEntered base first (Some p) types args frame old after (receiver ++ rest) new
  entered_some receiver before rest one same set q =
      let t = from_base first (text_at new) in
      let head : cells_in t receiver ≡ Some (Ref p) ∷ [] = set t ∙ one_set (cells_in t before) (Some (Ref p)) (as_many t before ∙ one) in
      let behind : cells_in (from_base (length receiver) t) rest ≡ cells_from (first + 1) new rest =
      same_cells (from_base (first + 1) (text_at new)) (from_base (length receiver) t) rest (λ i lt. ap (text_at new) (let e : first + (length receiver + i) ≡ (first + 1) + i = omega (arith, one, same) in e)) in
      let size : length rest - length args ≡ length (receiver ++ rest) - 1 - length args = omega (arith, length-append receiver rest, one, same) in
      record {
        given = q.given;
        is = q.is;
        left = q.left;
        got =
            cells_append t receiver rest
            ∙ ap (λ l. l ++ cells_in (from_base (length receiver) t) rest) head
            ∙ ap (λ l. Some (Ref p) ∷ l) (behind ∙ q.got ∙ ap (λ n. q.given.cells ++ replicate n None) size);
        others = λ i lt. q.others i (omega (arith, lt));
      }

-- ---- parts that were written

pub entered_above : (base top : ℕ) (object : Option Place) (types : List Ty) (args : List ℕ) (registers : List Register) (old : List (List ℕ)) (frame after own : List Register) (new : List (List ℕ)) → frame ≡ take (top - base) registers → length after ≡ top - base
    → AreEntered base top object types args frame old after own new → AreEnteredAbove base top object types args registers old (after ++ own) new
entered_above base top object types args registers old frame after own new front size p =
    let one = subst (λ f. AreEntered base top object types args f old after own new) front p in
    let two = subst (λ f. AreEntered base top object types args (take (top - base) registers) old f own new) (sym (take_at after own (top - base) size)) one in
    record { entered = subst (λ f. AreEntered base top object types args (take (top - base) registers) old (take (top - base) (after ++ own)) f new) (sym (drop_at after own (top - base) size)) two }

-- the frame of a row is the first part of what is above its base
pub frame_of : (base top end : ℕ) (row : List Register) → base ≤ top → top ≤ end → take (top - base) (drop base (take end row)) ≡ drop base (take top row)
frame_of base top end row le few =
    let e : base + (top - base) ≡ top = omega (arith, le) in
    sym (drop-take base (top - base) (take end row)) ∙ ap (λ n. drop base (take n (take end row))) e ∙ ap (drop base) (take-take top end row few)

module _ (base top end : ℕ) (object : Option Place) (types : List Ty) (args : List ℕ) (row : List Register) (old : List (List ℕ)) (new : List (List ℕ)) where
  pub passed : (under above after rest : List Register) → base ≤ top → top ≤ end → end ≤ length row → under ≡ take base (take end row) → above ≡ drop base (take end row) → length under ≡ base → length after ≡ end - base
      → AreEnteredAbove base top object types args above old after new → IsPassed base top end object types args row old ((under ++ after) ++ rest) new
  passed under above after rest le few there is_under is_above size many p =
      let whole = (under ++ after) ++ rest in
      let whole_size : length (under ++ after) ≡ end = omega (arith, length-append under after, size, many, le, few) in
      let first : take end whole ≡ under ++ after = take_at (under ++ after) rest end whole_size in
      let mine : drop base (take end whole) ≡ after = ap (drop base) first ∙ drop_at under after base size in
      let frame : drop base (take top whole) ≡ take (top - base) after = sym (frame_of base top end whole le few) ∙ ap (take (top - base)) mine in
      let up : base + (top - base) ≡ top = omega (arith, le) in
      let own : drop top (take end whole) ≡ drop (top - base) after = ap (λ n. drop n (take end whole)) (sym up) ∙ sym (twice base (top - base) (take end whole)) ∙ ap (drop (top - base)) mine in
      let was : take (top - base) above ≡ drop base (take top row) = ap (take (top - base)) is_above ∙ frame_of base top end row le few in
      let q = p.entered in
      let count : length (drop (top - base) after) - length (object_cells object) - length args ≡ end - top - length (object_cells object) - length args = omega (arith, length-drop (top - base) after, many, le, few) in
      record {
        given = q.given;
        is = subst (λ f. give_from [] types args (cells_from base old f) ≡ Some q.given) was q.is;
        left = ap (cells_from base new) frame ∙ q.left;
        got = ap (cells_from top new) own ∙ q.got ∙ ap (λ n. object_cells object ++ q.given.cells ++ replicate n None) count;
        below = sym (take-take base end whole (omega (arith, le, few))) ∙ ap (take base) first ∙ take_at under after base size ∙ is_under ∙ take-take base end row (omega (arith, le, few));
        others = q.others;
      }
    where
      twice : (m n : ℕ) (l : List Register) → drop n (drop m l) ≡ drop (m + n) l
      twice m n l = drop-drop n m l

-- ---- results

-- a register of another content or text, where the others have the texts that they had
put_within : (t u : ℕ → List ℕ) (rs : List Register) (to : ℕ) (c : Register) → ((i : ℕ) → i ≢ to → i < length rs → u i ≡ t i) → to < length rs → cells_in u (slice_set rs to c) ≡ slice_set (cells_in t rs) to (cell_in c (u to))
put_within t u [] to c same lt = absurd (omega arith)
put_within t u (d ∷ ds) zero c same lt = ap (λ l. cell_in c (u 0) ∷ l) (same_cells (λ i. t (suc i)) (λ i. u (suc i)) ds (λ i less. same (suc i) (λ e. absurd (omega (arith, e))) (omega arith)))
put_within t u (d ∷ ds) (suc to) c same lt =
    let first : u 0 ≡ t 0 = same 0 (λ e. absurd (omega (arith, e))) (omega arith) in
    let rest = put_within (λ i. t (suc i)) (λ i. u (suc i)) ds to c (λ i n less. same (suc i) (λ e. n (omega (arith, e))) (omega arith)) (omega arith) in
    ap (λ x. cell_in d x ∷ cells_in (λ i. u (suc i)) (slice_set ds to c)) first ∙ ap (λ l. cell_in d (t 0) ∷ l) rest

pub handed_down : (base top to from : ℕ) (row : List Register) (old : List (List ℕ)) (lower upper : List Register) (d x : Register) (new : List (List ℕ)) → lower ≡ take top row → upper ≡ drop top row → length lower ≡ top → base + to < top → top ≤ from → from < length row
    → IsMoved from (base + to) (get_or upper (from - top) d) x old new → IsHanded base top (Some to) from row old (slice_set lower (base + to) x ++ upper) new
handed_down base top to from row old lower upper d x new front back size lt above few p =
    let t = from_base base (text_at old) in
    let u = from_base base (text_at new) in
    let many : length (drop base lower) ≡ top - base = omega (arith, length-drop base lower, size) in
    let up : top + (from - top) ≡ from = omega (arith, above) in
    let first : take top (slice_set lower (base + to) x ++ upper) ≡ slice_set lower (base + to) x = take_at (slice_set lower (base + to) x) upper top (length-set lower (base + to) x ∙ size) in
    record {
      cells =
          ap (λ l. cells_in u (drop base l)) first
          ∙ ap (cells_in u) (drop-set-add base lower to x)
          ∙ put_within t u (drop base lower) to x (λ i n less. p.others (base + i) (λ e. n (omega (arith, e))) (λ e. absurd (omega (arith, e, less, many, above)))) (omega (arith, many, lt))
          ∙ ap (λ l. slice_set (cells_in t (drop base l)) to (cell_in x (u to))) front
          ∙ ap (slice_set (cells_of base top old row) to)
          (p.cell ∙ ap (λ l. cell_in (get_or l (from - top) d) (text_at old from)) back
          ∙ ap (λ c. cell_in c (text_at old from)) (get_or-drop top row (from - top) d ∙ ap (λ i. get_or row i d) up)
          ∙ sym (held_within (text_at old) row from d few));
      below =
          sym (take-take base top (slice_set lower (base + to) x ++ upper) (omega (arith, lt)))
          ∙ ap (take base) first
          ∙ take-set-le base lower (base + to) x (omega arith)
          ∙ ap (take base) front
          ∙ take-take base top row (omega (arith, lt));
      others = λ i less. p.others i (λ e. absurd (omega (arith, e, less))) (λ e. absurd (omega (arith, e, less, lt, above)));
    }

pub none_handed : (base top from : ℕ) (row : List Register) (texts : List (List ℕ)) → IsHanded base top None from row texts row texts
none_handed base top from row texts = record { cells = refl; below = refl; others = λ i lt. refl }
