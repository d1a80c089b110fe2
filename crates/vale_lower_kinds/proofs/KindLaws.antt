-- Kinds that are found and kinds that are new.
use Rattle.std.proofs.Common.{◌≡◌, ℕ, zero, suc, ◌+◌, ◌<◌, ◌≤◌, List, [], ◌∷◌, ◌++◌, length, refl, ap, sym, ◌∙◌, arith, append_assoc, append-nil, length-append, true≢false}
use Rattle.std.proofs.lemmas.Option.{none-some}
use Rattle.std.specs.Prelude.{Bool, true, false, ◌==◌, ◌||◌, Option, Some, None, map, unwrap_or, if◌then◌else◌}
use Rattle.std.specs.List.{list_any}
use Rattle.vale_core.specs.declared.ty.Ty.{Ty as Kept}
use Rattle.vale_core.specs.declared.ty.Ty.TheVariants as x
use Rattle.vale_core.specs.View.{view_ty}
use Rattle.vale_core.proofs.ViewLaws as v
use Rattle.vale_rules_spec.specs.Types.{Ty, void, int, bool, str, kind, array, ref, imm, iso, same}
use Rattle.vale_model.specs.Kinds.{arrays_in}
use Rattle.vale_model.specs.Parts.{place_of_kind}
use Rattle.vale_lower_kinds.specs.Added.{put_type, added, kind_types}
use Rattle.vale_lower_kinds.specs.Names.{name_place}
use Rattle.vale_lower_kinds.proofs.AddedLaws.{added_more, added_one}

-- ---- numbers

array_in_arrays : (x : Ty) (es : List Ty) → place_of_kind (array x) (map array es) ≡ place_of_kind x es
array_in_arrays x [] = refl
array_in_arrays x (e ∷ es) = ap (λ n. if same x e then 0 else suc n) (array_in_arrays x es)

none_before : (n : ℕ) → n ≡ 0 + n
none_before n = omega arith

one_before : (m n : ℕ) → suc (m + n) ≡ suc m + n
one_before m n = omega arith

pub number_of_array : (x : Ty) (ns : List ℕ) (es : List Ty) → place_of_kind (array x) (kind_types ns ++ map array es) ≡ length ns + place_of_kind x es
number_of_array x [] es = array_in_arrays x es ∙ none_before (place_of_kind x es)
number_of_array x (n ∷ ns) es = ap suc (number_of_array x ns es) ∙ one_before (length ns) (place_of_kind x es)

-- a type that is neither is past all
abbrev is_other : Ty → Bool
is_other (kind n) = false
is_other (array x) = false
is_other x = true

not_a_name : (x : Ty) (n : ℕ) → is_other x ≡ true → same x (kind n) ≡ false
not_a_name (kind m) n e = absurd (true≢false (sym e))
not_a_name (array x) n e = absurd (true≢false (sym e))
not_a_name void n e = refl
not_a_name int n e = refl
not_a_name bool n e = refl
not_a_name str n e = refl
not_a_name (ref x) n e = refl
not_a_name (imm x) n e = refl
not_a_name (iso x) n e = refl

not_an_array : (x z : Ty) → is_other x ≡ true → same x (array z) ≡ false
not_an_array (kind m) z e = absurd (true≢false (sym e))
not_an_array (array x) z e = absurd (true≢false (sym e))
not_an_array void z e = refl
not_an_array int z e = refl
not_an_array bool z e = refl
not_an_array str z e = refl
not_an_array (ref x) z e = refl
not_an_array (imm x) z e = refl
not_an_array (iso x) z e = refl

other_past_arrays : (x : Ty) (es : List Ty) → is_other x ≡ true → place_of_kind x (map array es) ≡ length es
other_past_arrays x [] e = refl
other_past_arrays x (z ∷ es) e = ap (λ b. if b then 0 else suc (place_of_kind x (map array es))) (not_an_array x z e) ∙ ap suc (other_past_arrays x es e)

other_past : (x : Ty) (ns : List ℕ) (es : List Ty) → is_other x ≡ true → place_of_kind x (kind_types ns ++ map array es) ≡ length ns + length es
other_past x [] es e = other_past_arrays x es e ∙ none_before (length es)
other_past x (n ∷ ns) es e = ap (λ b. if b then 0 else suc (place_of_kind x (kind_types ns ++ map array es))) (not_a_name x n e) ∙ ap suc (other_past x ns es e) ∙ one_before (length ns) (length es)

pub number_of_void : (ns : List ℕ) (es : List Ty) → place_of_kind void (kind_types ns ++ map array es) ≡ length ns + length es
number_of_void ns es = other_past void ns es refl

pub number_of_int : (ns : List ℕ) (es : List Ty) → place_of_kind int (kind_types ns ++ map array es) ≡ length ns + length es
number_of_int ns es = other_past int ns es refl

pub number_of_bool : (ns : List ℕ) (es : List Ty) → place_of_kind bool (kind_types ns ++ map array es) ≡ length ns + length es
number_of_bool ns es = other_past bool ns es refl

pub number_of_str : (ns : List ℕ) (es : List Ty) → place_of_kind str (kind_types ns ++ map array es) ≡ length ns + length es
number_of_str ns es = other_past str ns es refl

pub number_of_ref : (x : Ty) (ns : List ℕ) (es : List Ty) → place_of_kind (ref x) (kind_types ns ++ map array es) ≡ length ns + length es
number_of_ref x ns es = other_past (ref x) ns es refl

pub number_of_imm : (x : Ty) (ns : List ℕ) (es : List Ty) → place_of_kind (imm x) (kind_types ns ++ map array es) ≡ length ns + length es
number_of_imm x ns es = other_past (imm x) ns es refl

pub number_of_iso : (x : Ty) (ns : List ℕ) (es : List Ty) → place_of_kind (iso x) (kind_types ns ++ map array es) ≡ length ns + length es
number_of_iso x ns es = other_past (iso x) ns es refl

-- a name
found_by : (b : Bool) (at k : ℕ) (rest : Option ℕ) (place : ℕ) → (if b then Some at else rest) ≡ Some k → (rest ≡ Some k → (at + 1) + place ≡ k) → at + (if b then 0 else suc place) ≡ k
found_by true at k rest place e more = let h : at ≡ k = ap (λ o. unwrap_or o 0) e in omega arith
found_by false at k rest place e more = let h : (at + 1) + place ≡ k = more e in omega arith

found_from : (at n k : ℕ) (ns : List ℕ) (rest : List Ty) → name_place at n ns ≡ Some k → at + place_of_kind (kind n) (kind_types ns ++ rest) ≡ k
found_from at n k [] rest e = absurd (none-some k e)
found_from at n k (m ∷ ns) rest e = found_by (n == m) at k (name_place (at + 1) n ns) (place_of_kind (kind n) (kind_types ns ++ rest)) e (λ h. found_from (at + 1) n k ns rest h)

pub number_found : (n k : ℕ) (ns : List ℕ) (es : List Ty) → name_place 0 n ns ≡ Some k → place_of_kind (kind n) (kind_types ns ++ map array es) ≡ k
number_found n k ns es e = none_before (place_of_kind (kind n) (kind_types ns ++ map array es)) ∙ found_from 0 n k ns (map array es) e

name_past_arrays : (n : ℕ) (es : List Ty) → place_of_kind (kind n) (map array es) ≡ length es
name_past_arrays n [] = refl
name_past_arrays n (e ∷ es) = ap suc (name_past_arrays n es)

past_by : (b : Bool) (at : ℕ) (rest : Option ℕ) (place more : ℕ) → (if b then Some at else rest) ≡ None → (rest ≡ None → place ≡ more) → (if b then 0 else suc place) ≡ suc more
past_by false at rest place more e next = ap suc (next e)
past_by true at rest place more e next = absurd (none-some at (sym e))

past_from : (at n : ℕ) (ns : List ℕ) (es : List Ty) → name_place at n ns ≡ None → place_of_kind (kind n) (kind_types ns ++ map array es) ≡ length ns + length es
past_from at n [] es e = name_past_arrays n es ∙ none_before (length es)
past_from at n (m ∷ ns) es e = past_by (n == m) at (name_place (at + 1) n ns) (place_of_kind (kind n) (kind_types ns ++ map array es)) (length ns + length es) e (λ h. past_from (at + 1) n ns es h) ∙ one_before (length ns) (length es)

pub number_past : (n : ℕ) (ns : List ℕ) (es : List Ty) → name_place 0 n ns ≡ None → place_of_kind (kind n) (kind_types ns ++ map array es) ≡ length ns + length es
number_past n ns es e = past_from 0 n ns es e

-- ---- array types

any_array : (x : Ty) (ns : List ℕ) (es : List Ty) → list_any (same (array x)) (kind_types ns ++ map array es) ≡ list_any (same x) es
any_array x [] [] = refl
any_array x [] (e ∷ es) = ap (λ b. same x e || b) (any_array x [] es)
any_array x (n ∷ ns) es = any_array x ns es

known_by : (b : Bool) (place count : ℕ) (more : Bool) → (if b then 0 else suc place) < suc count → (place < count → more ≡ true) → (b || more) ≡ true
known_by true place count more lt next = refl
known_by false place count more lt next = next (omega arith)

known_any : (x : Ty) (es : List Ty) → place_of_kind x es < length es → list_any (same x) es ≡ true
known_any x [] lt = absurd (omega arith)
known_any x (e ∷ es) lt = known_by (same x e) (place_of_kind x es) (length es) (list_any (same x) es) lt (λ less. known_any x es less)

new_by : (b : Bool) (place count : ℕ) (more : Bool) → suc count ≤ (if b then 0 else suc place) → (count ≤ place → more ≡ false) → (b || more) ≡ false
new_by true place count more le next = absurd (omega arith)
new_by false place count more le next = next (omega arith)

new_any : (x : Ty) (es : List Ty) → length es ≤ place_of_kind x es → list_any (same x) es ≡ false
new_any x [] le = refl
new_any x (e ∷ es) le = new_by (same x e) (place_of_kind x es) (length es) (list_any (same x) es) le (λ more. new_any x es more)

arrays_last : (ts : List Kept) (x : Kept) → map array (map view_ty (ts ++ x ∷ [])) ≡ map array (map view_ty ts) ++ array (view_ty x) ∷ []
arrays_last [] x = refl
arrays_last (t ∷ ts) x = ap (λ z. array (view_ty t) ∷ z) (arrays_last ts x)

types_length : (ts : List Kept) → length (map view_ty ts) ≡ length ts
types_length [] = refl
types_length (t ∷ ts) = ap suc (types_length ts)

pub name_past : (n : ℕ) (ns : List ℕ) (ts : List Kept) → name_place 0 n ns ≡ None → place_of_kind (kind n) (kind_types ns ++ map array (map view_ty ts)) ≡ length ns + length ts
name_past n ns ts e = number_past n ns (map view_ty ts) e ∙ ap (λ k. length ns + k) (types_length ts)

pub ruleset names = (number_found, name_past)

pub array_known : (x : Kept) (ns : List ℕ) (ts : List Kept) → place_of_kind (view_ty x) (map view_ty ts) < length ts → put_type (kind_types ns ++ map array (map view_ty ts)) (array (view_ty x)) ≡ kind_types ns ++ map array (map view_ty ts)
array_known x ns ts lt =
    let l = types_length ts in
    let ks : List Ty = kind_types ns ++ map array (map view_ty ts) in
    let lt' : place_of_kind (view_ty x) (map view_ty ts) < length (map view_ty ts) = omega arith in
    ap (λ b. if b then ks else ks ++ array (view_ty x) ∷ []) (any_array (view_ty x) ns (map view_ty ts) ∙ known_any (view_ty x) (map view_ty ts) lt')

pub array_new : (x : Kept) (ns : List ℕ) (ts : List Kept) → length ts ≤ place_of_kind (view_ty x) (map view_ty ts) → put_type (kind_types ns ++ map array (map view_ty ts)) (array (view_ty x)) ≡ kind_types ns ++ map array (map view_ty (ts ++ x ∷ []))
array_new x ns ts le =
    let l = types_length ts in
    let ks : List Ty = kind_types ns ++ map array (map view_ty ts) in
    let le' : length (map view_ty ts) ≤ place_of_kind (view_ty x) (map view_ty ts) = omega arith in
    ap (λ b. if b then ks else ks ++ array (view_ty x) ∷ []) (any_array (view_ty x) ns (map view_ty ts) ∙ new_any (view_ty x) (map view_ty ts) le')
    ∙ append_assoc (kind_types ns) (map array (map view_ty ts)) (array (view_ty x) ∷ [])
    ∙ ap (λ z. kind_types ns ++ z) (sym (arrays_last ts x))

pub ruleset puts = (array_known, array_new)

pub ruleset arrays = (added_more, added_one, v.of_void, v.of_int, v.of_bool, v.of_str, v.of_kind, v.of_array, v.of_ref, v.of_imm, v.of_iso)

pub void_number : (ns : List ℕ) (ts : List Kept) → place_of_kind (view_ty x.Void) (kind_types ns ++ map array (map view_ty ts)) ≡ length ns + length ts
void_number ns ts = ap (λ z. place_of_kind z (kind_types ns ++ map array (map view_ty ts))) v.of_void ∙ number_of_void ns (map view_ty ts) ∙ ap (λ k. length ns + k) (types_length ts)

pub ruleset numbers = (void_number, number_of_array, number_of_void, number_of_int, number_of_bool, number_of_str, number_of_ref, number_of_imm, number_of_iso, v.of_void, v.of_int, v.of_bool, v.of_str, v.of_kind, v.of_array, v.of_ref, v.of_imm, v.of_iso)
