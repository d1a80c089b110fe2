-- The edges of items, one part after another.
use Rattle.std.proofs.Common.{◌≡◌, ℕ, ◌+◌, ◌<◌, List, [], ◌∷◌, ◌++◌, length, get_or, drop, map, inl, inr, refl, sym, ap, ◌∙◌, Option, Some, None}
use Rattle.std.specs.Prelude.{Bool, true, false, ◌||◌, ◌&&◌, ◌==◌}
use Rattle.std.specs.List.{cons_option}
use Rattle.std.proofs.lemmas.Bool.{and_parts, or_cases}
use Rattle.std.proofs.lemmas.List.{drop_more}
use Rattle.std.proofs.lemmas.List.Folds.{list_any-append}
use Rattle.vale_syntax.specs.declared.tree.Item.{Item}
use Rattle.vale_syntax.specs.declared.tree.FieldDecl.{FieldDecl}
use Rattle.vale_syntax.specs.View.{view_item, view_field}
use Rattle.vale_syntax.specs.Tree as t
use Rattle.vale_rules_spec.specs.Reach.{Edge}
use Rattle.vale_rules_spec.specs.Declarations.{field_type, base_of, edge_to, leads_of, leads, iso_holder, iso_holders}
use Rattle.vale_names.specs.Isos.{is_in, is_edge, field_edges, source_of, sources_of}
use Rattle.vale_names.proofs.TestLaws.{or_here, or_there, or_none, or_or}

both_edges : (xs ys : List Edge) (m n : ℕ) → is_edge (xs ++ ys) m n ≡ (is_edge xs m n || is_edge ys m n)
both_edges xs ys m n = list_any-append (λ e. e.0 == m && e.1 == n) xs ys

-- ---- one part more, and the rest

moves_on : (now new here left rest all : Bool) → new ≡ (now || here) → left ≡ (here || rest) → (now || left) ≡ all → (new || rest) ≡ all
moves_on now new here left rest all e f g = ap (λ b. b || rest) e ∙ (or_or now here rest ∙ (ap (λ b. now || b) (sym f) ∙ g))

goes_past : (now here left rest all : Bool) → here ≡ false → left ≡ (here || rest) → (now || left) ≡ all → (now || rest) ≡ all
goes_past now here left rest all e f g = ap (λ b. now || b) (sym (f ∙ ap (λ b. b || rest) e)) ∙ g

one_edge : (s t : ℕ) (o : Option ℕ) (m n : ℕ) → o ≡ Some t → is_edge (edge_to s o) m n ≡ (s == m && t == n)
one_edge s t None m n e = cc
one_edge s t (Some x) m n e = let same : ((s == m && x == n) || false) ≡ (s == m && x == n) = or_none (s == m && x == n) in cc

no_edge : (s : ℕ) (o : Option ℕ) (m n : ℕ) → o ≡ None → is_edge (edge_to s o) m n ≡ false
no_edge s None m n e = refl
no_edge s (Some x) m n e = cc

fields_left : (s : ℕ) (fields : List FieldDecl) (k : ℕ) (x : FieldDecl) (m n : ℕ) → k < length fields → x ≡ get_or fields k x
    → is_edge (field_edges s (map view_field (drop k fields))) m n ≡ (is_edge (edge_to s (base_of (field_type (view_field x)))) m n || is_edge (field_edges s (map view_field (drop (k + 1) fields))) m n)
fields_left s fields k x m n l is =
    ap (λ (xs : List FieldDecl). is_edge (field_edges s (map view_field xs)) m n) (drop_more fields k x l)
    ∙ (ap (λ (y : FieldDecl). is_edge (field_edges s (view_field y ∷ map view_field (drop (k + 1) fields))) m n) (sym is)
    ∙ both_edges (edge_to s (base_of (field_type (view_field x)))) (field_edges s (map view_field (drop (k + 1) fields))) m n)

items_left : (items : List Item) (k : ℕ) (x : Item) (m n : ℕ) → k < length items → x ≡ get_or items k x
    → is_edge (leads (map view_item (drop k items))) m n ≡ (is_edge (leads_of (view_item x)) m n || is_edge (leads (map view_item (drop (k + 1) items))) m n)
items_left items k x m n l is =
    ap (λ (xs : List Item). is_edge (leads (map view_item xs)) m n) (drop_more items k x l)
    ∙ (ap (λ (y : Item). is_edge (leads (view_item y ∷ map view_item (drop (k + 1) items))) m n) (sym is)
    ∙ both_edges (leads_of (view_item x)) (leads (map view_item (drop (k + 1) items))) m n)

-- the next field has a base
pub field_on : (s t : ℕ) (fields : List FieldDecl) (k : ℕ) (x : FieldDecl) (m n : ℕ) (now new all : Bool) → k < length fields → x ≡ get_or fields k x → base_of (field_type (view_field x)) ≡ Some t
    → new ≡ (now || (s == m && t == n)) → (now || is_edge (field_edges s (map view_field (drop k fields))) m n) ≡ all → (new || is_edge (field_edges s (map view_field (drop (k + 1) fields))) m n) ≡ all
field_on s t fields k x m n now new all l is base e inv =
    moves_on now new (is_edge (edge_to s (base_of (field_type (view_field x)))) m n) (is_edge (field_edges s (map view_field (drop k fields))) m n) (is_edge (field_edges s (map view_field (drop (k + 1) fields))) m n) all
    (e ∙ ap (λ b. now || b) (sym (one_edge s t (base_of (field_type (view_field x))) m n base))) (fields_left s fields k x m n l is) inv

-- the next field has none
pub field_past : (s : ℕ) (fields : List FieldDecl) (k : ℕ) (x : FieldDecl) (m n : ℕ) (now all : Bool) → k < length fields → x ≡ get_or fields k x → base_of (field_type (view_field x)) ≡ None
    → (now || is_edge (field_edges s (map view_field (drop k fields))) m n) ≡ all → (now || is_edge (field_edges s (map view_field (drop (k + 1) fields))) m n) ≡ all
field_past s fields k x m n now all l is base inv =
    goes_past now (is_edge (edge_to s (base_of (field_type (view_field x)))) m n) (is_edge (field_edges s (map view_field (drop k fields))) m n) (is_edge (field_edges s (map view_field (drop (k + 1) fields))) m n) all
    (no_edge s (base_of (field_type (view_field x))) m n base) (fields_left s fields k x m n l is) inv

pub item_on : (items : List Item) (k : ℕ) (x : Item) (m n : ℕ) (now new all : Bool) → k < length items → x ≡ get_or items k x
    → new ≡ (now || is_edge (leads_of (view_item x)) m n) → (now || is_edge (leads (map view_item (drop k items))) m n) ≡ all → (new || is_edge (leads (map view_item (drop (k + 1) items))) m n) ≡ all
item_on items k x m n now new all l is e inv =
    moves_on now new (is_edge (leads_of (view_item x)) m n) (is_edge (leads (map view_item (drop k items))) m n) (is_edge (leads (map view_item (drop (k + 1) items))) m n) all e (items_left items k x m n l is) inv

-- ---- the holders of isolates

one_in : (o : Option ℕ) (ms : List ℕ) (name n : ℕ) → o ≡ Some name → is_in (cons_option o ms) n ≡ (is_in (name ∷ []) n || is_in ms n)
one_in None ms name n e = cc
one_in (Some x) ms name n e = let same : ((name == n) || false) ≡ (name == n) = or_none (name == n) in cc

none_in : (o : Option ℕ) (ms : List ℕ) (n : ℕ) → o ≡ None → is_in (cons_option o ms) n ≡ (false || is_in ms n)
none_in None ms n e = refl
none_in (Some x) ms n e = cc

holders_left : (items : List Item) (k : ℕ) (x : Item) (n : ℕ) → k < length items → x ≡ get_or items k x
    → is_in (iso_holders (map view_item (drop k items))) n ≡ is_in (cons_option (iso_holder (view_item x)) (iso_holders (map view_item (drop (k + 1) items)))) n
holders_left items k x n l is =
    ap (λ (xs : List Item). is_in (iso_holders (map view_item xs)) n) (drop_more items k x l)
    ∙ ap (λ (y : Item). is_in (iso_holders (view_item y ∷ map view_item (drop (k + 1) items))) n) (sym is)

pub holder_on : (items : List Item) (k : ℕ) (x : Item) (name n : ℕ) (now new all : Bool) → k < length items → x ≡ get_or items k x → iso_holder (view_item x) ≡ Some name
    → new ≡ (now || is_in (name ∷ []) n) → (now || is_in (iso_holders (map view_item (drop k items))) n) ≡ all → (new || is_in (iso_holders (map view_item (drop (k + 1) items))) n) ≡ all
holder_on items k x name n now new all l is some e inv =
    moves_on now new (is_in (name ∷ []) n) (is_in (iso_holders (map view_item (drop k items))) n) (is_in (iso_holders (map view_item (drop (k + 1) items))) n) all e
    (holders_left items k x n l is ∙ one_in (iso_holder (view_item x)) (iso_holders (map view_item (drop (k + 1) items))) name n some) inv

pub holder_past : (items : List Item) (k : ℕ) (x : Item) (n : ℕ) (now all : Bool) → k < length items → x ≡ get_or items k x → iso_holder (view_item x) ≡ None
    → (now || is_in (iso_holders (map view_item (drop k items))) n) ≡ all → (now || is_in (iso_holders (map view_item (drop (k + 1) items))) n) ≡ all
holder_past items k x n now all l is none inv =
    goes_past now false (is_in (iso_holders (map view_item (drop k items))) n) (is_in (iso_holders (map view_item (drop (k + 1) items))) n) all refl
    (holders_left items k x n l is ∙ none_in (iso_holder (view_item x)) (iso_holders (map view_item (drop (k + 1) items))) n none) inv

-- ---- an edge begins at the name of an item

from_itself : (s m n : ℕ) (o : Option ℕ) → is_edge (edge_to s o) m n ≡ true → (s == m) ≡ true
from_itself s m n None e = cc
from_itself s m n (Some x) e = (and_parts (s == m) (x == n) (sym (or_none (s == m && x == n)) ∙ e)).0

from_struct : (s m n : ℕ) (fs : List t.FieldDecl) → is_edge (field_edges s fs) m n ≡ true → (s == m) ≡ true
from_struct s m n [] e = cc
from_struct s m n (f ∷ fs) e = elim (or_cases (is_edge (edge_to s (base_of (field_type f))) m n) (is_edge (field_edges s fs) m n) (sym (both_edges (edge_to s (base_of (field_type f))) (field_edges s fs) m n) ∙ e)) [
  | inl h ↦ from_itself s m n (base_of (field_type f)) h
  | inr h ↦ from_struct s m n fs h
]

from_item : (item : t.Item) (ms : List ℕ) (m n : ℕ) → is_edge (leads_of item) m n ≡ true → is_in (cons_option (source_of item) ms) m ≡ true
from_item (t.struct_item s fs) ms m n e = or_here (s.name.0 == m) (is_in ms m) (from_struct s.name.0 m n fs e)
from_item (t.interface_item i hs) ms m n e = cc
from_item (t.impl_item at i s fs) ms m n e = or_here (i.name.0 == m) (is_in ms m) (from_itself i.name.0 m n (Some s.name.0) e)
from_item (t.function_item f) ms m n e = cc

in_more : (o : Option ℕ) (ms : List ℕ) (m : ℕ) → is_in ms m ≡ true → is_in (cons_option o ms) m ≡ true
in_more None ms m e = e
in_more (Some x) ms m e = or_there (x == m) (is_in ms m) e

pub from_source : (items : List t.Item) (m n : ℕ) → is_edge (leads items) m n ≡ true → is_in (sources_of items) m ≡ true
from_source [] m n e = cc
from_source (item ∷ items) m n e = elim (or_cases (is_edge (leads_of item) m n) (is_edge (leads items) m n) (sym (both_edges (leads_of item) (leads items) m n) ∙ e)) [
  | inl h ↦ from_item item (sources_of items) m n h
  | inr h ↦ in_more (source_of item) (sources_of items) m (from_source items m n h)
]
