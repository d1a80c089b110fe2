-- Known types: the structs and interfaces in them are declared, and references and isolates lead to owners' types.
use Rattle.std.proofs.Common.{◌≡◌, ℕ, Bool, true, false, ◌&&◌, ◌||◌, ◌==◌, List, [], ◌∷◌, ◌++◌, Some, refl, sym, ap, subst}
use Rattle.std.proofs.lemmas.Bool.Decides.{Decides-eqb}
use Rattle.std.specs.List.{list_any}
use Rattle.vale_syntax.specs.Tree.{Item, struct_item, interface_item}
use Rattle.vale_rules_spec.specs.Types.{Ty, void, int, bool, str, kind, array, ref, imm, iso, same, is_owner, object_of}
use Rattle.vale_model.specs.Kinds.{arrays_in}

pub and_first : (a b : Bool) → (a && b) ≡ true → a ≡ true
and_first true b e = refl
and_first false b e = e

pub and_second : (a b : Bool) → (a && b) ≡ true → b ≡ true
and_second true b e = e
and_second false b e = absurd (cc)

-- ---- names that are declared

abbrev pub names_kind : ℕ → Item → Bool
names_kind m (struct_item n fs) = m == n.name.0
names_kind m (interface_item n hs) = m == n.name.0
names_kind m _ = false

abbrev pub is_declared : List Item → ℕ → Bool
is_declared items m = list_any (names_kind m) items

-- ---- lists in which what an array's elements lead to stands before it

abbrev pub has : Ty → List Ty → Bool
has x xs = list_any (same x) xs

-- what the elements of this type lead to is there
abbrev pub Inside : List Ty → Ty → Type 0
Inside xs (kind m) = has (kind m) xs ≡ true
Inside xs (array z) = has (array z) xs ≡ true
Inside xs (ref z) = (is_owner z && has z xs) ≡ true
Inside xs (imm z) = (is_owner z && has z xs) ≡ true
Inside xs (iso z) = (is_owner z && has z xs) ≡ true
Inside xs _ = Unit {0}

-- a kind, after those before it
abbrev pub Root : List Ty → Ty → Type 0
Root before (kind m) = Unit {0}
Root before (array x) = Inside before x
Root before _ = ⊥

abbrev pub Grounded : List Ty → List Ty → Type 0
Grounded before [] = Unit {0}
Grounded before (x ∷ xs) = Root before x × Grounded (x ∷ before) xs

-- one list has all that another has
abbrev pub Covers : List Ty → List Ty → Type 0
Covers xs ys = (z : Ty) → has z ys ≡ true → has z xs ≡ true

pub same_is : (x z : Ty) → same x z ≡ true → x ≡ z
same_is void void e = refl
same_is int int e = refl
same_is bool bool e = refl
same_is str str e = refl
same_is (kind m) (kind n) e = ap kind ((Decides-eqb m n).0 e)
same_is (array x) (array z) e = ap array (same_is x z e)
same_is (ref x) (ref z) e = ap ref (same_is x z e)
same_is (imm x) (imm z) e = ap imm (same_is x z e)
same_is (iso x) (iso z) e = ap iso (same_is x z e)
same_is _ _ e = absurd (cc)

pub same_itself : (x : Ty) → same x x ≡ true
same_itself void = refl
same_itself int = refl
same_itself bool = refl
same_itself str = refl
same_itself (kind m) = (Decides-eqb m m).1 refl
same_itself (array x) = same_itself x
same_itself (ref x) = same_itself x
same_itself (imm x) = same_itself x
same_itself (iso x) = same_itself x

pub or_either : (a b c : Bool) → (a ≡ true → c ≡ true) → (b ≡ true → c ≡ true) → (a || b) ≡ true → c ≡ true
or_either true b c f g e = f refl
or_either false b c f g e = g e

pub or_right : (a b : Bool) → b ≡ true → (a || b) ≡ true
or_right true b e = refl
or_right false b e = e

pub or_left : (a b : Bool) → a ≡ true → (a || b) ≡ true
or_left true b e = refl
or_left false b e = absurd (cc)

pub or_of : (a b c : Bool) → (b ≡ true → c ≡ true) → (a || b) ≡ true → (a || c) ≡ true
or_of true b c f e = refl
or_of false b c f e = f e

pub pair : (a b c : Bool) → (b ≡ true → c ≡ true) → (a && b) ≡ true → (a && c) ≡ true
pair true b c f e = f e
pair false b c f e = e

pub has_first : (x : Ty) (xs : List Ty) → has x (x ∷ xs) ≡ true
has_first x xs = or_left (same x x) (has x xs) (same_itself x)

pub covers_more : (x : Ty) (xs : List Ty) → Covers (x ∷ xs) xs
covers_more x xs z e = or_right (same z x) (has z xs) e

covers_both : (x : Ty) (xs ys : List Ty) → Covers xs ys → Covers (x ∷ xs) (x ∷ ys)
covers_both x xs ys c z e = or_of (same z x) (has z ys) (has z xs) (c z) e

inside_more : (xs ys : List Ty) (y : Ty) → Covers xs ys → Inside ys y → Inside xs y
inside_more xs ys void c h = tt
inside_more xs ys int c h = tt
inside_more xs ys bool c h = tt
inside_more xs ys str c h = tt
inside_more xs ys (kind m) c h = c (kind m) h
inside_more xs ys (array z) c h = c (array z) h
inside_more xs ys (ref z) c h = pair (is_owner z) (has z ys) (has z xs) (c z) h
inside_more xs ys (imm z) c h = pair (is_owner z) (has z ys) (has z xs) (c z) h
inside_more xs ys (iso z) c h = pair (is_owner z) (has z ys) (has z xs) (c z) h

root_more : (xs ys : List Ty) (x : Ty) → Covers xs ys → Root ys x → Root xs x
root_more xs ys (kind m) c h = tt
root_more xs ys (array x) c h = inside_more xs ys x c h
root_more xs ys void c h = h
root_more xs ys int c h = h
root_more xs ys bool c h = h
root_more xs ys str c h = h
root_more xs ys (ref x) c h = h
root_more xs ys (imm x) c h = h
root_more xs ys (iso x) c h = h

pub grounded_more : (xs ys zs : List Ty) → Covers xs ys → Grounded ys zs → Grounded xs zs
grounded_more xs ys [] c g = tt
grounded_more xs ys (z ∷ zs) c g = (root_more xs ys z c g.0, grounded_more (z ∷ xs) (z ∷ ys) zs (covers_both z xs ys c) g.1)

-- a list after what stood before it, the last first
abbrev pub onto : List Ty → List Ty → List Ty
onto before [] = before
onto before (x ∷ xs) = onto (x ∷ before) xs

pub covers_onto : (before xs : List Ty) → Covers (onto before xs) before
covers_onto before [] z e = e
covers_onto before (x ∷ xs) z e = covers_onto (x ∷ before) xs z (covers_more x before z e)

pub grounded_both : (before xs ys : List Ty) → Grounded before xs → Grounded (onto before xs) ys → Grounded before (xs ++ ys)
grounded_both before [] ys g k = k
grounded_both before (x ∷ xs) ys g k = (g.0, grounded_both (x ∷ before) xs ys g.1 k)

onto_both : (before xs ys : List Ty) → onto before (xs ++ ys) ≡ onto (onto before xs) ys
onto_both before [] ys = refl
onto_both before (x ∷ xs) ys = onto_both (x ∷ before) xs ys

module _ (items : List Item) where
  -- ---- known types

  abbrev pub known : Ty → Bool
  known (kind m) = is_declared items m
  known (array x) = known x
  known (ref x) = is_owner x && known x
  known (imm x) = is_owner x && known x
  known (iso x) = is_owner x && known x
  known _ = true

  abbrev pub Known : Ty → Type 0
  Known x = known x ≡ true

  -- an owner's type
  abbrev pub KnownOwner : Ty → Type 0
  KnownOwner x = (is_owner x && known x) ≡ true

  pub owner_known : (x : Ty) → KnownOwner x → Known x
  owner_known x k = and_second (is_owner x) (known x) k

  -- ---- lists of array types that may stand after all declared kinds

  abbrev pub HasNamed : List Ty → Type 0
  HasNamed before = (m : ℕ) → is_declared items m ≡ true → has (kind m) before ≡ true

  abbrev pub Arrays : List Ty → Type 0
  Arrays xs = (before : List Ty) → HasNamed before → Grounded before xs

  pub no_arrays : Arrays []
  no_arrays before named = tt

  pub both_arrays : (xs ys : List Ty) → Arrays xs → Arrays ys → Arrays (xs ++ ys)
  both_arrays xs ys f g before named =
      grounded_both before xs ys (f before named) (g (onto before xs) (λ m e. covers_onto before xs (kind m) (named m e)))

  -- after the arrays in a known type what it leads to is there
  has_last : (x : Ty) (before : List Ty) → has (array x) (onto before (arrays_in (array x))) ≡ true
  has_last x before = subst (λ l. has (array x) l ≡ true) (sym (onto_both before (arrays_in x) (array x ∷ []))) (has_first (array x) (onto before (arrays_in x)))

  owner_there : (z : Ty) (before : List Ty) → HasNamed before → KnownOwner z → (is_owner z && has z (onto before (arrays_in z))) ≡ true
  owner_there (kind m) before named k = named m k
  owner_there (array x) before named k = has_last x before
  owner_there void before named k = absurd (cc)
  owner_there int before named k = absurd (cc)
  owner_there bool before named k = absurd (cc)
  owner_there str before named k = absurd (cc)
  owner_there (ref x) before named k = absurd (cc)
  owner_there (imm x) before named k = absurd (cc)
  owner_there (iso x) before named k = absurd (cc)

  inside_there : (y : Ty) (before : List Ty) → HasNamed before → Known y → Inside (onto before (arrays_in y)) y
  inside_there void before named k = tt
  inside_there int before named k = tt
  inside_there bool before named k = tt
  inside_there str before named k = tt
  inside_there (kind m) before named k = named m k
  inside_there (array z) before named k = has_last z before
  inside_there (ref z) before named k = owner_there z before named k
  inside_there (imm z) before named k = owner_there z before named k
  inside_there (iso z) before named k = owner_there z before named k

  pub arrays_known : (x : Ty) → Known x → Arrays (arrays_in x)
  arrays_known void k before named = tt
  arrays_known int k before named = tt
  arrays_known bool k before named = tt
  arrays_known str k before named = tt
  arrays_known (kind m) k before named = tt
  arrays_known (array x) k before named = grounded_both before (arrays_in x) (array x ∷ []) (arrays_known x k before named) (inside_there x before named k, tt)
  arrays_known (ref x) k before named = arrays_known x (owner_known x k) before named
  arrays_known (imm x) k before named = arrays_known x (owner_known x k) before named
  arrays_known (iso x) k before named = arrays_known x (owner_known x k) before named

  -- ---- what leads to an object

  pub object_known : (t x : Ty) → Known t → object_of t ≡ Some x → KnownOwner x
  object_known (kind m) x k e = let f : kind m ≡ x = cc in subst (λ z. KnownOwner z) f k
  object_known (array y) x k e = let f : array y ≡ x = cc in subst (λ z. KnownOwner z) f k
  object_known (ref y) x k e = let f : y ≡ x = cc in subst (λ z. KnownOwner z) f k
  object_known (imm y) x k e = let f : y ≡ x = cc in subst (λ z. KnownOwner z) f k
  object_known (iso y) x k e = let f : y ≡ x = cc in subst (λ z. KnownOwner z) f k
  object_known void x k e = absurd (cc)
  object_known int x k e = absurd (cc)
  object_known bool x k e = absurd (cc)
  object_known str x k e = absurd (cc)
