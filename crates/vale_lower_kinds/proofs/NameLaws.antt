-- Names that are found and names that are new.
use Rattle.std.proofs.Common.{◌≡◌, ℕ, zero, suc, ◌+◌, List, [], ◌∷◌, ◌++◌, length, refl, ap, sym, ◌∙◌, arith, true≢false}
use Rattle.std.proofs.lemmas.Bool.{eq-eqb, eqb-true}
use Rattle.vale_base.specs.declared.name.Name.{Name}
use Rattle.std.specs.Prelude.{Bool, true, false, ◌==◌, ◌||◌, Option, Some, None, map, if◌then◌else◌}
use Rattle.std.specs.List.{list_any}
use Rattle.vale_rules_spec.specs.Types.{Ty, kind, same}
use Rattle.vale_lower_kinds.specs.Added.{put_type, added, kind_types}
use Rattle.vale_lower_kinds.specs.Names.{place_in, name_place, names_of, AreNumbered}
use Rattle.vale_lower_kinds.specs.declared.named.Places.{Places}

abbrev is_some : {A : Type 0} → Option A → Bool
is_some (Some x) = true
is_some None = false

some_by : (b : Bool) (at : ℕ) (rest : Option ℕ) (r : Bool) → is_some rest ≡ r → is_some (if b then Some at else rest) ≡ (b || r)
some_by true at rest r e = refl
some_by false at rest r e = e

-- a name has a place just where its kind is among the types
pub place_any : (at n : ℕ) (ns : List ℕ) → is_some (name_place at n ns) ≡ list_any (same (kind n)) (kind_types ns)
place_any at n [] = refl
place_any at n (m ∷ ms) = some_by (n == m) at (name_place (at + 1) n ms) (list_any (same (kind n)) (kind_types ms)) (place_any (at + 1) n ms)

pub types_last : (ns : List ℕ) (n : ℕ) → kind_types (ns ++ n ∷ []) ≡ kind_types ns ++ kind n ∷ []
types_last [] n = refl
types_last (m ∷ ns) n = ap (λ z. kind m ∷ z) (types_last ns n)

pub put_known : (ns : List ℕ) (n k : ℕ) → name_place 0 n ns ≡ Some k → put_type (kind_types ns) (kind n) ≡ kind_types ns
put_known ns n k e = ap (λ b. if b then kind_types ns else kind_types ns ++ kind n ∷ []) (sym (place_any 0 n ns) ∙ ap is_some e)

pub put_new : (ns : List ℕ) (n : ℕ) → name_place 0 n ns ≡ None → put_type (kind_types ns) (kind n) ≡ kind_types (ns ++ n ∷ [])
put_new ns n e = ap (λ b. if b then kind_types ns else kind_types ns ++ kind n ∷ []) (sym (place_any 0 n ns) ∙ ap is_some e) ∙ sym (types_last ns n)

-- one name more
abbrev or_else_place : Option ℕ → Option ℕ → Option ℕ
or_else_place (Some k) other = Some k
or_else_place None other = other

more_by : (b : Bool) (at : ℕ) (rest last more : Option ℕ) → rest ≡ or_else_place more last → (if b then Some at else rest) ≡ or_else_place (if b then Some at else more) last
more_by true at rest last more e = refl
more_by false at rest last more e = e

place_last : (at n m : ℕ) (ns : List ℕ) → name_place at n (ns ++ m ∷ []) ≡ or_else_place (name_place at n ns) (if n == m then Some (at + length ns) else None)
place_last at n m [] = let e : at ≡ at + 0 = omega arith in ap (λ k. if n == m then Some k else None) e
place_last at n m (k ∷ ns) =
    let e : (at + 1) + length ns ≡ at + suc (length ns) = omega arith in
    more_by (n == k) at (name_place (at + 1) n (ns ++ m ∷ [])) (if n == m then Some (at + suc (length ns)) else None) (name_place (at + 1) n ns)
    (place_last (at + 1) n m ns ∙ ap (λ j. or_else_place (name_place (at + 1) n ns) (if n == m then Some j else None)) e)

flip_by : (m n : ℕ) (b c : Bool) → (m == n) ≡ b → (n == m) ≡ c → b ≡ c
flip_by m n true true e f = refl
flip_by m n false false e f = refl
flip_by m n true false e f = sym (eq-eqb n m (sym (eqb-true m n e))) ∙ f
flip_by m n false true e f = sym e ∙ eq-eqb m n (sym (eqb-true n m f))

or_nothing : (p : Option ℕ) → p ≡ or_else_place p None
or_nothing None = refl
or_nothing (Some k) = refl

after_by : (b c : Bool) (p : Option ℕ) (k : ℕ) → b ≡ c → (b ≡ true → p ≡ None) → (if b then Some k else p) ≡ or_else_place p (if c then Some k else None)
after_by true true p k e none = sym (ap (λ z. or_else_place z (Some k)) (none refl))
after_by false false p k e none = or_nothing p
after_by true false p k e none = absurd (true≢false e)
after_by false true p k e none = absurd (true≢false (sym e))

none_before : (n : ℕ) → n ≡ 0 + n
none_before n = omega arith

-- what is found after a name got the place at the end
pub place_after : (ns : List ℕ) (n m : ℕ) → name_place 0 m ns ≡ None → (if m == n then Some (length ns) else name_place 0 n ns) ≡ name_place 0 n (ns ++ m ∷ [])
place_after ns n m new =
    after_by (m == n) (n == m) (name_place 0 n ns) (length ns) (flip_by m n (m == n) (n == m) refl refl) (λ e. ap (λ k. name_place 0 k ns) (sym (eqb-true m n e)) ∙ new)
    ∙ ap (λ k. or_else_place (name_place 0 n ns) (if n == m then Some k else None)) (none_before (length ns))
    ∙ sym (place_last 0 n m ns)

names_last : (all : List Name) (m : Name) → names_of (all ++ m ∷ []) ≡ names_of all ++ m.0 ∷ []
names_last [] m = refl
names_last (n ∷ all) m = ap (λ z. n.0 ∷ z) (names_last all m)

names_length : (all : List Name) → length (names_of all) ≡ length all
names_length [] = refl
names_length (n ∷ all) = ap suc (names_length all)

pub numbered_next : (all : List Name) (m : Name) (p q : Places) (at : ℕ) → at ≡ length all → AreNumbered (names_of all) p → place_in p m.0 ≡ None → ((n : ℕ) → place_in q n ≡ (if m.0 == n then Some at else place_in p n)) → AreNumbered (names_of (all ++ m ∷ [])) q
numbered_next all m p q at is each none more n =
    more n ∙ ap (λ k. if m.0 == n then Some k else place_in p n) (is ∙ sym (names_length all))
    ∙ ap (λ o. if m.0 == n then Some (length (names_of all)) else o) (each n)
    ∙ place_after (names_of all) n m.0 (sym (each m.0) ∙ none)
    ∙ ap (λ ns. name_place 0 n ns) (sym (names_last all m))

-- the same of what was put
pub known_name : (all : List Name) (m : Name) (p : Places) (k : ℕ) → AreNumbered (names_of all) p → place_in p m.0 ≡ Some k → put_type (kind_types (names_of all)) (kind m.0) ≡ kind_types (names_of all)
known_name all m p k each some = put_known (names_of all) m.0 k (sym (each m.0) ∙ some)

pub new_name : (all : List Name) (m : Name) (p : Places) → AreNumbered (names_of all) p → place_in p m.0 ≡ None → kind_types (names_of (all ++ m ∷ [])) ≡ put_type (kind_types (names_of all)) (kind m.0)
new_name all m p each none = ap kind_types (names_last all m) ∙ sym (put_new (names_of all) m.0 (sym (each m.0) ∙ none))

pub ruleset adds = (known_name)
