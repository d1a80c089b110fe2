-- What is found by places is what is found by walking.
use Rattle.std.proofs.Common.{◌≡◌, ℕ, zero, suc, ◌+◌, ◌<◌, ◌≤◌, List, [], ◌∷◌, ◌++◌, length, get_or, drop, Option, Some, None, map, refl, ap, sym, subst, ◌∙◌, append_assoc, arith}
use Rattle.std.proofs.Math.ListN.{drop_of_length-le}
use Rattle.std.proofs.lemmas.List.{drop_more, append-nil}
use Rattle.std.specs.Prelude.{Bool, true, false, if◌then◌else◌}
use Rattle.std.specs.List.{slice_get}
use Rattle.std.specs.Option.{option_and_then, option_map_or, option_or}
use Rattle.vale_syntax.specs.declared.tree.Item as c
use Rattle.vale_syntax.specs.View.{view_item}
use Rattle.vale_syntax.specs.Tree.{Head, FieldDecl, field_decl, Item, struct_item, interface_item, impl_item, function_item}
use Rattle.vale_rules_spec.specs.Types.{fields_of, field_named, methods_of, method_named, function_named}
use Rattle.vale_lookup.specs.declared.places.Places.{Places}
use Rattle.vale_lookup.specs.Places.{is_name, place_from, HasPlaces}
use Rattle.vale_lookup.specs.Index.{struct_key, interface_key, function_key, field_key, method_key, member_keys, fields_in, methods_in, head_in, fields_at, methods_at, head_at, field_at, method_at, HasMembers}

-- a place is added after those that were there, before those that are left
pub add_place : (o : Option ℕ) (b : Bool) (at : ℕ) (rest : Option ℕ) → option_or (option_or o (if b then Some at else None)) rest ≡ option_or o (if b then Some at else rest)
add_place None true at rest = refl
add_place None false at rest = refl
add_place (Some k) b at rest = refl

choose : {A : Type 0} (b : Bool) (f : ℕ → Option A) (at : ℕ) (r : Option ℕ) (here there : Option A) → f at ≡ here → option_and_then f r ≡ there → option_and_then f (if b then Some at else r) ≡ (if b then here else there)
choose true f at r here there e g = e
choose false f at r here there e g = g

-- what stands at the first place of a name, where the whole list goes on so from this place
module _ {X A : Type 0} (key : X → Option ℕ) (make : X → Option A) (find : List X → ℕ → Option A)
    (at_end : (n : ℕ) → None ≡ find [] n) (at_more : (x : X) (xs : List X) (n : ℕ) → (if is_name (key x) n then make x else find xs n) ≡ find (x ∷ xs) n) where
  found_from : (all : List X) (at : ℕ) (xs : List X) (n : ℕ) → ((i : ℕ) → slice_get xs i ≡ slice_get all (at + i)) → option_and_then (λ i. option_and_then make (slice_get all i)) (place_from at (map key xs) n) ≡ find xs n
  found_from all at [] n same = at_end n
  found_from all at (x ∷ xs) n same =
      let here : slice_get all at ≡ Some x = (let e : at ≡ at + 0 = omega arith in ap (slice_get all) e) ∙ sym (same 0) in
      let later : (i : ℕ) → slice_get xs i ≡ slice_get all ((at + 1) + i) = λ i. (let e : at + suc i ≡ (at + 1) + i = omega arith in same (suc i) ∙ ap (slice_get all) e) in
      choose (is_name (key x) n) (λ i. option_and_then make (slice_get all i)) at (place_from (at + 1) (map key xs) n) (make x) (find xs n)
      (ap (option_and_then make) here) (found_from all (at + 1) xs n later)
      ∙ at_more x xs n

  found : (xs : List X) (n : ℕ) → option_and_then (λ i. option_and_then make (slice_get xs i)) (place_from 0 (map key xs) n) ≡ find xs n
  found xs n = found_from xs 0 xs n (λ i. let e : i ≡ 0 + i = omega arith in ap (slice_get xs) e)

fields_more : (x : Item) (xs : List Item) (n : ℕ) → (if is_name (struct_key x) n then fields_in x else fields_of xs n) ≡ fields_of (x ∷ xs) n
fields_more (struct_item m fs) xs n = refl
fields_more (interface_item m hs) xs n = refl
fields_more (impl_item at i s fs) xs n = refl
fields_more (function_item f) xs n = refl

pub fields_found : (items : List Item) (n : ℕ) → option_and_then (fields_at items) (place_from 0 (map struct_key items) n) ≡ fields_of items n
fields_found items n = found struct_key fields_in fields_of (λ m. refl) fields_more items n

methods_more : (x : Item) (xs : List Item) (n : ℕ) → (if is_name (interface_key x) n then methods_in x else methods_of xs n) ≡ methods_of (x ∷ xs) n
methods_more (struct_item m fs) xs n = refl
methods_more (interface_item m hs) xs n = refl
methods_more (impl_item at i s fs) xs n = refl
methods_more (function_item f) xs n = refl

pub methods_found : (items : List Item) (n : ℕ) → option_and_then (methods_at items) (place_from 0 (map interface_key items) n) ≡ methods_of items n
methods_found items n = found interface_key methods_in methods_of (λ m. refl) methods_more items n

function_more : (x : Item) (xs : List Item) (n : ℕ) → (if is_name (function_key x) n then head_in x else function_named xs n) ≡ function_named (x ∷ xs) n
function_more (struct_item m fs) xs n = refl
function_more (interface_item m hs) xs n = refl
function_more (impl_item at i s fs) xs n = refl
function_more (function_item f) xs n = refl

pub function_found : (items : List Item) (n : ℕ) → option_and_then (head_at items) (place_from 0 (map function_key items) n) ≡ function_named items n
function_found items n = found function_key head_in function_named (λ m. refl) function_more items n

field_more : (x : FieldDecl) (xs : List FieldDecl) (n : ℕ) → (if is_name (field_key x) n then Some x else field_named xs n) ≡ field_named (x ∷ xs) n
field_more (field_decl m may_be_set x) xs n = refl

method_more : (x : Head) (xs : List Head) (n : ℕ) → (if is_name (method_key x) n then Some x else method_named xs n) ≡ method_named (x ∷ xs) n
method_more x xs n = refl

some_of : {X : Type 0} (o : Option X) → option_and_then Some o ≡ o
some_of None = refl
some_of (Some x) = refl

same_then : {X Y : Type 0} (f g : X → Option Y) (o : Option X) → ((x : X) → f x ≡ g x) → option_and_then f o ≡ option_and_then g o
same_then f g None same = refl
same_then f g (Some x) same = same x

field_found : (fs : List FieldDecl) (n : ℕ) → option_and_then (slice_get fs) (place_from 0 (map field_key fs) n) ≡ field_named fs n
field_found fs n =
    same_then (slice_get fs) (λ i. option_and_then Some (slice_get fs i)) (place_from 0 (map field_key fs) n) (λ i. sym (some_of (slice_get fs i)))
    ∙ found field_key Some field_named (λ m. refl) field_more fs n

method_found : (hs : List Head) (n : ℕ) → option_and_then (slice_get hs) (place_from 0 (map method_key hs) n) ≡ method_named hs n
method_found hs n =
    same_then (slice_get hs) (λ i. option_and_then Some (slice_get hs i)) (place_from 0 (map method_key hs) n) (λ i. sym (some_of (slice_get hs i)))
    ∙ found method_key Some method_named (λ m. refl) method_more hs n

-- ---- members

field_of_item : (o : Option Item) (n : ℕ) → option_and_then (λ fs. option_and_then (slice_get fs) (place_from 0 (option_map_or member_keys o []) n)) (option_and_then fields_in o) ≡ option_and_then (λ fs. field_named fs n) (option_and_then fields_in o)
field_of_item None n = refl
field_of_item (Some (struct_item m fs)) n = field_found fs n
field_of_item (Some (interface_item m hs)) n = refl
field_of_item (Some (impl_item at i s fs)) n = refl
field_of_item (Some (function_item f)) n = refl

field_at_place : (items : List Item) (place : Option ℕ) (n : ℕ) → option_and_then (λ at. field_at items at n) place ≡ option_and_then (λ fs. field_named fs n) (option_and_then (fields_at items) place)
field_at_place items None n = refl
field_at_place items (Some at) n = field_of_item (slice_get items at) n

field_of_struct : (items : List Item) (m n : ℕ) → option_and_then (λ at. field_at items at n) (place_from 0 (map struct_key items) m) ≡ option_and_then (λ fs. field_named fs n) (fields_of items m)
field_of_struct items m n = field_at_place items (place_from 0 (map struct_key items) m) n ∙ ap (option_and_then (λ fs. field_named fs n)) (fields_found items m)

-- the field that a struct's place leads to
pub field_there : (items : List Item) (m n : ℕ) (place : Option ℕ) (f : Option FieldDecl) → place ≡ place_from 0 (map struct_key items) m → f ≡ option_and_then (λ at. field_at items at n) place → f ≡ option_and_then (λ fs. field_named fs n) (fields_of items m)
field_there items m n place f there is = is ∙ ap (option_and_then (λ at. field_at items at n)) there ∙ field_of_struct items m n

method_of_item : (o : Option Item) (n : ℕ) → option_and_then (λ hs. option_and_then (slice_get hs) (place_from 0 (option_map_or member_keys o []) n)) (option_and_then methods_in o) ≡ option_and_then (λ hs. method_named hs n) (option_and_then methods_in o)
method_of_item None n = refl
method_of_item (Some (struct_item m fs)) n = refl
method_of_item (Some (interface_item m hs)) n = method_found hs n
method_of_item (Some (impl_item at i s fs)) n = refl
method_of_item (Some (function_item f)) n = refl

method_at_place : (items : List Item) (place : Option ℕ) (n : ℕ) → option_and_then (λ at. method_at items at n) place ≡ option_and_then (λ hs. method_named hs n) (option_and_then (methods_at items) place)
method_at_place items None n = refl
method_at_place items (Some at) n = method_of_item (slice_get items at) n

method_of_interface : (items : List Item) (m n : ℕ) → option_and_then (λ at. method_at items at n) (place_from 0 (map interface_key items) m) ≡ option_and_then (λ hs. method_named hs n) (methods_of items m)
method_of_interface items m n = method_at_place items (place_from 0 (map interface_key items) m) n ∙ ap (option_and_then (λ hs. method_named hs n)) (methods_found items m)

-- the method that an interface's place leads to
pub method_there : (items : List Item) (m n : ℕ) (place : Option ℕ) (h : Option Head) → place ≡ place_from 0 (map interface_key items) m → h ≡ option_and_then (λ at. method_at items at n) place → h ≡ option_and_then (λ hs. method_named hs n) (methods_of items m)
method_there items m n place h there is = is ∙ ap (option_and_then (λ at. method_at items at n)) there ∙ method_of_interface items m n

-- ---- the members of the items, one item after another

members_more : (x : Item) (xs : List Item) (p : Places) (ps : List Places) → HasPlaces (member_keys x) p → HasMembers xs ps → HasMembers (x ∷ xs) (p ∷ ps)
members_more x xs p ps here later zero n = here n
members_more x xs p ps here later (suc at) n = later at n

no_members : HasMembers [] []
no_members at n = refl

-- whatever has the members of the items that are left, after those that are done, has those of all
abbrev pub Done : List c.Item → ℕ → List Places → Type 0
Done items i done = (ps : List Places) → HasMembers (map view_item (drop i items)) ps → HasMembers (map view_item items) (done ++ ps)

pub one_more : (items : List c.Item) (i : ℕ) (x : c.Item) (done : List Places) (p : Places) → i < length items → x ≡ get_or items i x → HasPlaces (member_keys (view_item x)) p → Done items i done → Done items (i + 1) (done ++ p ∷ [])
one_more items i x done p within is here before ps later =
    let e : drop i items ≡ x ∷ drop (i + 1) items = drop_more items i x within ∙ ap (λ y. y ∷ drop (i + 1) items) (sym is) in
    let all : HasMembers (map view_item (drop i items)) (p ∷ ps) = subst (λ zs. HasMembers (map view_item zs) (p ∷ ps)) (sym e) (members_more (view_item x) (map view_item (drop (i + 1) items)) p ps here later) in
    subst (HasMembers (map view_item items)) (sym (append_assoc done (p ∷ []) ps)) (before (p ∷ ps) all)

pub all_done : (items : List c.Item) (i : ℕ) (done : List Places) → length items ≤ i → Done items i done → HasMembers (map view_item items) done
all_done items i done past before =
    let e : drop i items ≡ [] = drop_of_length-le items past in
    subst (HasMembers (map view_item items)) (append-nil done) (before [] (subst (λ zs. HasMembers (map view_item zs) []) (sym e) no_members))
