-- The kinds of the code are written as the program writes them.
use Rattle.std.proofs.Common.{◌≡◌, ℕ, zero, suc, ◌<◌, Bool, true, false, ◌||◌, List, [], ◌∷◌, ◌++◌, length, map, take, Option, Some, None, if◌then◌else◌, refl, sym, ap, ◌∙◌, subst, arith}
use Rattle.std.specs.Prelude.{slice_get, option_map, flat_map, codes}
use Rattle.std.proofs.lemmas.List.{length-map}
use Rattle.std.proofs.lemmas.Option.{slice_get-map}
use Rattle.vale_base.specs.declared.name.Kind.{Kind}
use Rattle.vale_syntax.specs.Tree.{Head}
use Rattle.vale_rules_spec.specs.Types.{Ty, void, int, bool, str, kind, array, ref, imm, iso, same, is_owner}
use Rattle.vale_rules_spec.specs.Typed.{Function}
use Rattle.vale_model.specs.Parts as model
use Rattle.vale_model.specs.Parts.{Parts, name_text, name_of, place_of_kind, kind_text_of}
use Rattle.vale_code.specs.Kinds as code_kinds
use Rattle.vale_code.specs.Kinds.{nested_text, info_text, kind_text, text_or_none}
use Rattle.vale_code.specs.Parts.{Parts as Code}
use Rattle.vale_lowering.proofs.Lookups.{found_text, in_front}
use Rattle.vale_lowering.specs.Scopes.{number_of_text}
use Rattle.vale_lowering_objects.specs.Code.{lowered_parts, functions_in, texts_of, kind_info, kind_of_name, kind_names, method_names, methods_in}
use Rattle.vale_lowering_objects.specs.Program.{code_type}
use Rattle.vale_lowering_objects.specs.Quotes.{function_quotes}
use Rattle.vale_object_kinds.proofs.Known.{and_second, or_left, or_right, or_either, has, Inside, Root, Grounded, onto, same_is}

-- ---- texts

-- the text stands in the list
abbrev Somewhere : List (List ℕ) → List ℕ → Type 0
Somewhere xs text = (i : ℕ) × (slice_get xs i ≡ Some text)

behind : (xs ys : List (List ℕ)) (text : List ℕ) → Somewhere ys text → Somewhere (xs ++ ys) text
behind [] ys text s = s
behind (x ∷ xs) ys text s = let rest = behind xs ys text s in (suc rest.0, rest.1)

before_more : (xs ys : List (List ℕ)) (text : List ℕ) → Somewhere xs text → Somewhere (xs ++ ys) text
before_more xs ys text s = (s.0, in_front xs ys s.0 text s.1)

below_length : {A : Type 0} (xs : List A) (j : ℕ) (x : A) → slice_get xs j ≡ Some x → j < length xs
below_length [] j x e = absurd (cc)
below_length (y ∷ ys) zero x e = omega arith
below_length (y ∷ ys) (suc j) x e = let h = below_length ys j x e in omega (arith, h)

-- ---- kinds that stand before others

-- the place of a kind among these, which stands before j
abbrev Found : List Ty → ℕ → Ty → Type 0
Found kinds j z = (place_of_kind z kinds < j) × (slice_get kinds (place_of_kind z kinds) ≡ Some z)

has_then : (z : Ty) (before xs : List Ty) → has z (onto before xs) ≡ true → (has z before || has z xs) ≡ true
has_then z before [] e = or_left (has z before) false e
has_then z before (x ∷ xs) e =
    or_either (has z (x ∷ before)) (has z xs) (has z before || has z (x ∷ xs))
    (λ f. or_either (same z x) (has z before) (has z before || has z (x ∷ xs)) (λ g. or_right (has z before) (has z (x ∷ xs)) (or_left (same z x) (has z xs) g)) (λ g. or_left (has z before) (has z (x ∷ xs)) g) f)
    (λ f. or_right (has z before) (has z (x ∷ xs)) (or_right (same z x) (has z xs) f))
    (has_then z (x ∷ before) xs e)

place_found : (z : Ty) (kinds : List Ty) (j : ℕ) → has z (take j kinds) ≡ true → Found kinds j z
place_found z [] zero e = absurd (cc)
place_found z [] (suc j) e = absurd (cc)
place_found z (x ∷ xs) zero e = absurd (cc)
place_found z (x ∷ xs) (suc j) e = by (same z x) refl (λ f. place_found z xs j f) e
  where
    by : (b : Bool) → same z x ≡ b → (has z (take j xs) ≡ true → Found xs j z) → (b || has z (take j xs)) ≡ true → ((if b then 0 else suc (place_of_kind z xs)) < suc j) × (slice_get (x ∷ xs) (if b then 0 else suc (place_of_kind z xs)) ≡ Some z)
    by true is rest e = (omega arith, ap Some (sym (same_is z x is)))
    by false is rest e = let h = rest e in let lt = h.0 in (omega (arith, lt), h.1)

found_before : (z : Ty) (kinds : List Ty) (j : ℕ) → has z (onto [] (take j kinds)) ≡ true → Found kinds j z
found_before z kinds j e = place_found z kinds j (has_then z [] (take j kinds) e)

root_at : (before kinds : List Ty) (j : ℕ) (x : Ty) → Grounded before kinds → slice_get kinds j ≡ Some x → Root (onto before (take j kinds)) x
root_at before [] j x g e = absurd (cc)
root_at before (y ∷ ys) zero x g e = let same : y ≡ x = cc in subst (λ z. Root before z) same g.0
root_at before (y ∷ ys) (suc j) x g e = root_at (y ∷ before) ys j x g.1 e

module _ (p : Parts) (grounded : Grounded [] p.kinds) where
  abbrev code : Code
  code = lowered_parts p

  abbrev functions : List Function
  functions = functions_in p

  abbrev texts : List (List ℕ)
  texts = texts_of p functions

  abbrev numbered : ℕ → Kind
  numbered j = record { 0 = j }

  info_at : (j : ℕ) (o : Option Ty) → slice_get p.kinds j ≡ o → code_kinds.kind_of code (numbered j) ≡ option_map (kind_info p texts functions) o
  info_at j o e = slice_get-map (kind_info p texts functions) p.kinds j ∙ ap (option_map (kind_info p texts functions)) e

  -- ---- the names of structs and interfaces

  among_kinds : (kinds : List Ty) (j s : ℕ) → slice_get kinds j ≡ Some (kind s) → Somewhere (flat_map (kind_names p) kinds) (name_text p s)
  among_kinds [] j s e = absurd (cc)
  among_kinds (x ∷ xs) zero s e = let same : x ≡ kind s = cc in subst (λ z. Somewhere (kind_names p z ++ flat_map (kind_names p) xs) (name_text p s)) (sym same) (0, refl)
  among_kinds (x ∷ xs) (suc j) s e = behind (kind_names p x) (flat_map (kind_names p) xs) (name_text p s) (among_kinds xs j s e)

  named_text : (j s : ℕ) → slice_get p.kinds j ≡ Some (kind s) → code_kinds.text_at code (number_of_text (name_text p s) texts) ≡ name_text p s
  named_text j s e =
      let methods = flat_map (method_names p) p.items in
      let quotes = flat_map function_quotes functions in
      let kinds = flat_map (kind_names p) p.kinds in
      let here = behind (map (λ f. name_text p (name_of f)) functions) (kinds ++ methods ++ quotes) (name_text p s) (before_more (kinds ++ methods) quotes (name_text p s) (before_more kinds methods (name_text p s) (among_kinds p.kinds j s e))) in
      ap text_or_none (found_text (name_text p s) texts here.0 here.1)

  named_info : (s : ℕ) (text : Kind → List ℕ) (hs : List (List Head)) → code_kinds.text_at code (number_of_text (name_text p s) texts) ≡ name_text p s → info_text code text (Some (kind_of_name p texts functions s hs)) ≡ name_text p s
  named_info s text [] e = e
  named_info s text (h ∷ hs) e = e

  -- ---- array types

  -- kinds before j are written right by this
  abbrev Right : ℕ → (Kind → List ℕ) → Type 0
  Right j text = (i : ℕ) (z : Ty) → i < j → slice_get p.kinds i ≡ Some z → text (numbered i) ≡ model.type_text p z

  kind_right : (j : ℕ) (text : Kind → List ℕ) (z : Ty) → Right j text → has z (onto [] (take j p.kinds)) ≡ true → text (model.kind_of p z) ≡ model.type_text p z
  kind_right j text z right e = let h = found_before z p.kinds j e in right (place_of_kind z p.kinds) z h.0 h.1

  element_right : (j : ℕ) (text : Kind → List ℕ) (x : Ty) → Right j text → Inside (onto [] (take j p.kinds)) x → code_kinds.type_text text (code_type p x) ≡ model.type_text p x
  element_right j text void right h = refl
  element_right j text int right h = refl
  element_right j text bool right h = refl
  element_right j text str right h = refl
  element_right j text (kind m) right h = kind_right j text (kind m) right h
  element_right j text (array z) right h = kind_right j text (array z) right h
  element_right j text (ref z) right h = ap (λ t. codes "&" ++ t) (kind_right j text z right (and_second (is_owner z) (has z (onto [] (take j p.kinds))) h))
  element_right j text (imm z) right h = ap (λ t. codes "&imm " ++ t) (kind_right j text z right (and_second (is_owner z) (has z (onto [] (take j p.kinds))) h))
  element_right j text (iso z) right h = ap (λ t. codes "iso " ++ t) (kind_right j text z right (and_second (is_owner z) (has z (onto [] (take j p.kinds))) h))

  -- ---- all of them

  info_right : (j : ℕ) (x : Ty) (text : Kind → List ℕ) → slice_get p.kinds j ≡ Some x → Right j text → Root (onto [] (take j p.kinds)) x → info_text code text (Some (kind_info p texts functions x)) ≡ model.type_text p x
  info_right j (kind s) text e right h = named_info s text (flat_map (methods_in s) p.items) (named_text j s e)
  info_right j (array x) text e right h = ap (λ t. codes "[]" ++ t) (element_right j text x right h)
  info_right j void text e right h = absurd h
  info_right j int text e right h = absurd h
  info_right j bool text e right h = absurd h
  info_right j str text e right h = absurd h
  info_right j (ref x) text e right h = absurd h
  info_right j (imm x) text e right h = absurd h
  info_right j (iso x) text e right h = absurd h

  nested_right : (n j : ℕ) (x : Ty) → j < n → slice_get p.kinds j ≡ Some x → nested_text n code (numbered j) ≡ model.type_text p x
  nested_right zero j x lt e = absurd (omega (arith, lt))
  nested_right (suc n) j x lt e =
      ap (info_text code (nested_text n code)) (info_at j (Some x) e)
      ∙ info_right j x (nested_text n code) e (λ i z less f. nested_right n i z (omega (arith, less, lt)) f) (root_at [] p.kinds j x grounded e)

  unnamed : (n j : ℕ) → slice_get p.kinds j ≡ None → nested_text n code (numbered j) ≡ []
  unnamed zero j e = refl
  unnamed (suc n) j e = ap (info_text code (nested_text n code)) (info_at j None e)

  pub texts_same : (j : ℕ) → kind_text code (numbered j) ≡ model.kind_text p (numbered j)
  texts_same j = by (slice_get p.kinds j) refl
    where
      by : (o : Option Ty) → slice_get p.kinds j ≡ o → kind_text code (numbered j) ≡ model.kind_text p (numbered j)
      by None e = unnamed (length code.kinds) j e ∙ sym (ap (kind_text_of p) e)
      by (Some x) e =
          let few = below_length p.kinds j x e in
          let many = length-map p.kinds (kind_info p texts functions) in
          nested_right (length code.kinds) j x (omega (arith, few, many)) e ∙ sym (ap (kind_text_of p) e)
