-- What is given to parameters, by names.
use Rattle.std.proofs.Common.{◌≡◌, ℕ, zero, suc, ◌+◌, ◌<◌, ◌≤◌, ◌++◌, List, [], ◌∷◌, length, map, Option, Some, None, Bool, true, false, refl, sym, ap, subst, ◌∙◌, arith, append_assoc, append-nil}
use Rattle.std.specs.Prelude.{IsSome}
use Rattle.vale_state_spec.specs.World.{Value}
use Rattle.vale_code.specs.Registers.{Read, Registers, after_giving, after_keeping, and_then, as_frozen, give_all, given_value, named, read}
use Rattle.vale_code.specs.declared.ty.Ty.{Ty}
use Rattle.vale_code.specs.declared.ty.Ty.TheVariants as t
use Rattle.vale_heap.specs.declared.body.Cell.{Cell}
use Rattle.vale_heap.specs.declared.body.Cell.TheVariants.{Int, Truth, Text, Own, Ref, Iso}
use Rattle.vale_heap.specs.declared.body.Place.{Place}
use Rattle.vale_object_cells.specs.Cells.{held, kept_cells, place_in}
use Rattle.vale_object_cells.specs.Names.{AllKnown, IsKnown, Knows, value_in, value_of, values_in}
use Rattle.vale_object_cells.proofs.Naming.{kept_is, kept_known, kept_long, read_values}
use Rattle.vale_object_passing.specs.Giving.{Given, after_as, give_from, given_as, given_then, is_frozen, reference_to}

held_within : (cells : List (Option Cell)) (r : ℕ) (c : Cell) → held cells r ≡ Some c → r < length cells
held_within [] r c e = absurd (let x : ⊥ = cc in x)
held_within (d ∷ ds) zero c e = omega arith
held_within (d ∷ ds) (suc r) c e = let h = held_within ds r c e in omega (arith, h)

-- ---- one parameter

frozen_value : (names : List Place) (c : Option Cell) → value_in names (reference_to (place_in c)) ≡ as_frozen (named (value_in names c))
frozen_value names None = refl
frozen_value names (Some (Int z)) = refl
frozen_value names (Some (Truth z)) = refl
frozen_value names (Some (Text z)) = refl
frozen_value names (Some (Own p)) = refl
frozen_value names (Some (Ref p)) = refl
frozen_value names (Some (Iso p)) = refl

given_is : (names : List Place) (ty : Ty) (c : Option Cell) → value_in names (given_as (is_frozen ty) c) ≡ given_value ty (value_in names c)
given_is names t.Void c = refl
given_is names t.Int c = refl
given_is names t.Truth c = refl
given_is names t.Text c = refl
given_is names (t.Own k) c = refl
given_is names (t.Ref k) c = refl
given_is names (t.Frozen k) c = frozen_value names c
given_is names (t.Iso k) c = refl

given_known : (names : List Place) (b : Bool) (c : Option Cell) → Knows names c → Knows names (given_as b c)
given_known names false c k = k
given_known names true None k = λ p e. absurd (let x : ⊥ = cc in x)
given_known names true (Some (Int z)) k = λ p e. absurd (let x : ⊥ = cc in x)
given_known names true (Some (Truth z)) k = λ p e. absurd (let x : ⊥ = cc in x)
given_known names true (Some (Text z)) k = λ p e. absurd (let x : ⊥ = cc in x)
given_known names true (Some (Own q)) k = k
given_known names true (Some (Ref q)) k = k
given_known names true (Some (Iso q)) k = k

module _ (names : List Place) (now : List (Option Cell)) (r : ℕ) (c : Cell) where
  kept_after : held now r ≡ Some c → values_in names (kept_cells (held now r) r now) ≡ after_keeping r (read (values_in names now) r) (values_in names now)
  kept_after e =
      ap (λ o. values_in names (kept_cells o r now)) e
      ∙ kept_is names now r c (held_within now r c e)
      ∙ sym (ap (λ o. after_keeping r o (values_in names now)) (read_values names now r ∙ ap (value_in names) e))

  after_is : (ty : Ty) → held now r ≡ Some c → values_in names (after_as (is_frozen ty) r now) ≡ after_giving ty r (read (values_in names now) r) (values_in names now)
  after_is t.Void e = kept_after e
  after_is t.Int e = kept_after e
  after_is t.Truth e = kept_after e
  after_is t.Text e = kept_after e
  after_is (t.Own k) e = kept_after e
  after_is (t.Ref k) e = kept_after e
  after_is (t.Frozen k) e = refl
  after_is (t.Iso k) e = kept_after e

after_known : (names : List Place) (b : Bool) (r : ℕ) (now : List (Option Cell)) → AllKnown names now → AllKnown names (after_as b r now)
after_known names true r now k = k
after_known names false r now k = kept_known names now r (held now r) k

pub after_long : (b : Bool) (r : ℕ) (now : List (Option Cell)) → length (after_as b r now) ≡ length now
after_long true r now = refl
after_long false r now = kept_long now r (held now r)

-- what is given was there
was_held : (b : Bool) (o : Option Cell) (c : Cell) → given_as b o ≡ Some c → (d : Cell) × (o ≡ Some d)
was_held true None c e = absurd (let x : ⊥ = cc in x)
was_held false None c e = absurd (let x : ⊥ = cc in x)
was_held b (Some d) c e = (d, refl)

there : (o : Option Cell) (rest : Option Given) (g : Given) → given_then o rest ≡ Some g → (c : Cell) × (o ≡ Some c)
there None rest g e = absurd (let x : ⊥ = cc in x)
there (Some c) rest g e = (c, refl)

then_rest : (o : Option Cell) (rest : Option Given) (c : Cell) → o ≡ Some c → given_then o rest ≡ rest
then_rest None rest c e = absurd (let x : ⊥ = cc in x)
then_rest (Some d) rest c e = refl

-- ---- all of them

pub record GivenAs (names : List Place) (before : List (Option Cell)) (types : List Ty) (rs : List ℕ) (now : List (Option Cell)) (g : Given) : Type 0 where
  pub cells : List (Option Cell)
  pub values : List Value
  pub is : g.cells ≡ before ++ cells
  pub values_are : values_in names cells ≡ map Some values
  pub gives : give_all types rs (values_in names now) ≡ Some (record { values = values; after = values_in names g.after })
  pub known : AllKnown names g.after
  pub cells_known : AllKnown names cells
  pub size : length g.after ≡ length now
  pub count : length cells ≡ length rs

none_known : (names : List Place) → AllKnown names []
none_known names r p e = absurd (let x : ⊥ = cc in x)

more_known : (names : List Place) (c : Option Cell) (cells : List (Option Cell)) → Knows names c → AllKnown names cells → AllKnown names (c ∷ cells)
more_known names c cells k all zero = k
more_known names c cells k all (suc r) = all r

pub given_by_names : (names : List Place) (before : List (Option Cell)) (types : List Ty) (rs : List ℕ) (now : List (Option Cell)) (g : Given) → AllKnown names now → give_from before types rs now ≡ Some g → GivenAs names before types rs now g
given_by_names names before [] [] now g all e =
    let first : Given = record { cells = before; after = now } in
    let same : first ≡ g = cc in
    let cs : before ≡ g.cells = ap (λ (x : Given). x.cells) same in
    let rest : now ≡ g.after = ap (λ (x : Given). x.after) same in
    record {
      cells = [];
      values = [];
      is = sym cs ∙ sym (append-nil before);
      values_are = refl;
      gives = ap (λ x. Some (record { values = []; after = values_in names x })) rest;
      known = subst (AllKnown names) rest all;
      cells_known = none_known names;
      size = ap length (sym rest);
      count = refl;
    }
given_by_names names before [] (r ∷ rs) now g all e = absurd (let x : ⊥ = cc in x)
given_by_names names before (ty ∷ types) [] now g all e = absurd (let x : ⊥ = cc in x)
given_by_names names before (ty ∷ types) (r ∷ rs) now g all e =
    let b : Bool = is_frozen ty in
    let o : Option Cell = given_as b (held now r) in
    let next : List (Option Cell) = after_as b r now in
    let rest : Option Given = give_from (before ++ o ∷ []) types rs next in
    let c = there o rest g e in
    let d = was_held b (held now r) c.0 c.1 in
    let x = given_by_names names (before ++ o ∷ []) types rs next g (after_known names b r now all) (sym (then_rest o rest c.0 c.1) ∙ e) in
    let value : given_value ty (read (values_in names now) r) ≡ Some (value_of names c.0) =
    ap (given_value ty) (read_values names now r) ∙ sym (given_is names ty (held now r)) ∙ ap (value_in names) c.1 in
    let after = after_is names now r d.0 ty d.1 in
    record {
      cells = o ∷ x.cells;
      values = value_of names c.0 ∷ x.values;
      is = x.is ∙ append_assoc before (o ∷ []) x.cells;
      values_are = ap (λ v. v ∷ values_in names x.cells) (ap (value_in names) c.1) ∙ ap (λ vs. Some (value_of names c.0) ∷ vs) x.values_are;
      gives =
          ap (and_then (given_value ty (read (values_in names now) r))) (ap (give_all types rs) (sym after) ∙ x.gives)
          ∙ ap (λ v. and_then v (Some (record { values = x.values; after = values_in names g.after }))) value;
      known = x.known;
      cells_known = more_known names o x.cells (given_known names b (held now r) (all r)) x.cells_known;
      size = x.size ∙ after_long b r now;
      count = ap suc x.count;
    }

read_rest : (o : Option Value) (rest : Option Read) (x : Read) → and_then o rest ≡ Some x → (v : Value) × (y : Read) × (o ≡ Some v) × (rest ≡ Some y)
read_rest None rest x e = absurd (let y : ⊥ = cc in y)
read_rest (Some v) None x e = absurd (let y : ⊥ = cc in y)
read_rest (Some v) (Some r) x e = (v, r, refl, refl)

cell_there : (names : List Place) (o : Option Cell) (v : Value) → value_in names o ≡ Some v → (c : Cell) × (o ≡ Some c)
cell_there names None v e = absurd (let y : ⊥ = cc in y)
cell_there names (Some c) v e = (c, refl)

-- registers that are given by names are given
pub gives_cells : (names : List Place) (before : List (Option Cell)) (types : List Ty) (rs : List ℕ) (now : List (Option Cell)) (x : Read) → give_all types rs (values_in names now) ≡ Some x → IsSome (give_from before types rs now)
gives_cells names before [] [] now x e = refl
gives_cells names before [] (r ∷ rs) now x e = absurd (let y : ⊥ = cc in y)
gives_cells names before (ty ∷ types) [] now x e = absurd (let y : ⊥ = cc in y)
gives_cells names before (ty ∷ types) (r ∷ rs) now x e =
    let b : Bool = is_frozen ty in
    let o : Option Cell = given_as b (held now r) in
    let next : List (Option Cell) = after_as b r now in
    let p = read_rest (given_value ty (read (values_in names now) r)) (give_all types rs (after_giving ty r (read (values_in names now) r) (values_in names now))) x e in
    let c = cell_there names o p.0 (given_is names ty (held now r) ∙ sym (ap (given_value ty) (read_values names now r)) ∙ p.2) in
    let d = was_held b (held now r) c.0 c.1 in
    subst (λ g. IsSome g) (sym (then_rest o (give_from (before ++ o ∷ []) types rs next) c.0 c.1))
    (gives_cells names (before ++ o ∷ []) types rs next p.1 (ap (give_all types rs) (after_is names now r d.0 ty d.1) ∙ p.3))

-- ---- one after another

some_there : (o : Option Cell) (rest : Option Given) → IsSome (given_then o rest) → (c : Cell) × (o ≡ Some c)
some_there None rest e = absurd (let x : ⊥ = cc in x)
some_there (Some c) rest e = (c, refl)

pub next_there : (before : List (Option Cell)) (ty : Ty) (types : List Ty) (r : ℕ) (rs : List ℕ) (now : List (Option Cell)) → IsSome (give_from before (ty ∷ types) (r ∷ rs) now) → (c : Cell) × (given_as (is_frozen ty) (held now r) ≡ Some c)
next_there before ty types r rs now some = some_there (given_as (is_frozen ty) (held now r)) (give_from (before ++ given_as (is_frozen ty) (held now r) ∷ []) types rs (after_as (is_frozen ty) r now)) some

pub next_rest : (before : List (Option Cell)) (ty : Ty) (types : List Ty) (r : ℕ) (rs : List ℕ) (now : List (Option Cell)) → IsSome (give_from before (ty ∷ types) (r ∷ rs) now)
    → give_from before (ty ∷ types) (r ∷ rs) now ≡ give_from (before ++ given_as (is_frozen ty) (held now r) ∷ []) types rs (after_as (is_frozen ty) r now)
next_rest before ty types r rs now some =
    let c = next_there before ty types r rs now some in
    then_rest (given_as (is_frozen ty) (held now r)) (give_from (before ++ given_as (is_frozen ty) (held now r) ∷ []) types rs (after_as (is_frozen ty) r now)) c.0 c.1

-- there are as many types as registers
pub as_many_types : (before : List (Option Cell)) (types : List Ty) (rs : List ℕ) (now : List (Option Cell)) → IsSome (give_from before types rs now) → length types ≡ length rs
as_many_types before [] [] now some = refl
as_many_types before [] (r ∷ rs) now some = absurd (let x : ⊥ = cc in x)
as_many_types before (ty ∷ types) [] now some = absurd (let x : ⊥ = cc in x)
as_many_types before (ty ∷ types) (r ∷ rs) now some =
    let next = next_rest before ty types r rs now some in
    ap suc (as_many_types (before ++ given_as (is_frozen ty) (held now r) ∷ []) types rs (after_as (is_frozen ty) r now) (subst (λ g. IsSome g) next some))
