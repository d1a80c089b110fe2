-- The code of a program that is declared and typed has its tables.
use Rattle.std.proofs.Common.{◌≡◌, ℕ, suc, Bool, true, false, ◌||◌, ◌==◌, List, [], ◌∷◌, ◌++◌, map, Option, Some, None, if◌then◌else◌, refl, sym, ap, ◌∙◌, subst, append-nil}
use Rattle.std.specs.Prelude.{slice_get, option_map, flat_map, bytes_eq, codes}
use Rattle.std.specs.List.{list_any}
use Rattle.std.specs.Option.{option_map_or}
use Rattle.std.proofs.lemmas.Bool.{eq-eqb, eqb-true}
use Rattle.std.proofs.lemmas.Option.{slice_get-map}
use Rattle.vale_syntax.specs.declared.built_in.BuiltIn.{BuiltIn}
use Rattle.vale_syntax.specs.declared.built_in.BuiltIn.TheVariants as b
use Rattle.vale_syntax.specs.declared.fault.Fault.{Fault}
use Rattle.vale_syntax.specs.declared.tree.NameAt.{NameAt}
use Rattle.vale_syntax.specs.Tree.{Param, Head, head, Function, function, FieldDecl, field_decl, Item, struct_item, interface_item, impl_item, function_item, tree}
use Rattle.vale_rules_spec.specs.Declarations.{declarations, head_name, head_params, param_type, is_called}
use Rattle.vale_rules_spec.specs.DeclFaults.{declaration_faults, item_faults, program_spot}
use Rattle.vale_rules_spec.specs.DeclRules.{program_rules}
use Rattle.vale_rules_spec.specs.Judged.{Judged, fine, faulty, unless, own, one_by_one, both}
use Rattle.vale_rules_spec.specs.Returns.{block_returns}
use Rattle.vale_rules_spec.specs.Types.{Ty, kind, array, same, type_of, View, seen_object, fields_of, field_named, function_named}
use Rattle.vale_rules_spec.specs.Typed as t
use Rattle.vale_rules_spec.specs.Typed.{Typed}
use Rattle.vale_rules_spec.specs.TypeRules.{program, built_ins, built_in_among, called_else, called, field_types, param_types, is_pure_head, head_gives, function_rules}
use Rattle.vale_rules_spec.specs.Typing.{type_in, entry, void_block, in_function, in_functions, in_item, in_items}
use Rattle.vale_model.specs.Kinds.{head_of, once, kinds_of, named_kinds, declared_arrays, made_arrays}
use Rattle.vale_model.specs.Parts.{Parts, parts_of, kind_of, place_of_kind, fields_in, later, place_of_field, field_place_in, first_function, has_name, name_of, functions_of, is_pure, is_pure_head as pure_of}
use Rattle.vale_code.specs.Kinds as code_kinds
use Rattle.vale_code.specs.Parts.{Parts as Code}
use Rattle.vale_cert.specs.Objects.{types_of, fields_of as code_fields, item_in, type_in as cell_in}
use Rattle.vale_lowering.specs.Scopes.{number_of_function, head_result}
use Rattle.vale_lowering.proofs.Lookups.{found_function, passes}
use Rattle.vale_lowering_objects.specs.Code.{lowered, lowered_parts, lowered_function, functions_in, texts_of, kind_info, kind_of_name, methods_in, code_field}
use Rattle.vale_lowering_objects.specs.Lowered.{is_destructor}
use Rattle.vale_lowering_objects.specs.Program.{code_type}
use Rattle.vale_object_facts.specs.Suits.{code_types, HasField}
use Rattle.vale_object_typed.specs.Fit.{LoweredHasTables}
use Rattle.vale_object_typed.specs.Tables.{HasFunction, HasTables}
use Rattle.vale_object_typed.proofs.Functions.{typed_items}
use Rattle.vale_object_typed.proofs.Types.{same_is}
use Rattle.vale_object_kinds.proofs.Destructors.{has_number, is_struct, is_interface, methods_of_tree, Matches, drop_items, all_match, later_struct, no_both}
use Rattle.vale_object_kinds.proofs.Holds.{Holds, Pair, holds_node, holds_plain, holds_both}
use Rattle.vale_object_kinds.proofs.Items.{AllClean, all_clean, AllItems, items_known, ItemsArrays, items_arrays}
use Rattle.vale_object_kinds.proofs.Known.{or_left, or_right, or_either, is_declared, has}
use Rattle.vale_object_kinds.proofs.KnownParts.{none_in}

-- ---- kinds that are listed

place_is : (z : Ty) (kinds : List Ty) → has z kinds ≡ true → slice_get kinds (place_of_kind z kinds) ≡ Some z
place_is z [] e = absurd (cc)
place_is z (x ∷ xs) e = by (same z x) refl (λ f. place_is z xs f) e
  where
    by : (b : Bool) → same z x ≡ b → (has z xs ≡ true → slice_get xs (place_of_kind z xs) ≡ Some z) → (b || has z xs) ≡ true → slice_get (x ∷ xs) (if b then 0 else suc (place_of_kind z xs)) ≡ Some z
    by true is rest e = ap Some (sym (same_is z x is))
    by false is rest e = rest e

has_once : (z : Ty) (before xs : List Ty) → has z xs ≡ true → (has z before || has z (once before xs)) ≡ true
has_once z before [] e = absurd (cc)
has_once z before (x ∷ xs) e = by (list_any (same x) before) refl (λ f. has_once z before xs f) (λ f. has_once z (x ∷ before) xs f)
  where
    here : (same z x ≡ true) → list_any (same x) before ≡ true → has z before ≡ true
    here f g = subst (λ w. has w before ≡ true) (sym (same_is z x f)) g

    moved : (a b c d : Bool) → ((a || b) || c) ≡ true → (b || (a || c)) ≡ true
    moved true true c d e = refl
    moved true false c d e = refl
    moved false b c d e = e

    by : (b : Bool) → list_any (same x) before ≡ b → (has z xs ≡ true → (has z before || has z (once before xs)) ≡ true) → (has z xs ≡ true → (has z (x ∷ before) || has z (once (x ∷ before) xs)) ≡ true) → (has z before || has z (if b then once before xs else x ∷ once (x ∷ before) xs)) ≡ true
    by true g again more = or_either (same z x) (has z xs) (has z before || has z (once before xs)) (λ f. or_left (has z before) (has z (once before xs)) (here f g)) again e
    by false g again more =
        or_either (same z x) (has z xs) (has z before || has z (x ∷ once (x ∷ before) xs))
        (λ f. or_right (has z before) (has z (x ∷ once (x ∷ before) xs)) (or_left (same z x) (has z (once (x ∷ before) xs)) f))
        (λ f. moved (same z x) (has z before) (has z (once (x ∷ before) xs)) true (more f)) e

has_front : (z : Ty) (xs ys : List Ty) → has z xs ≡ true → has z (xs ++ ys) ≡ true
has_front z [] ys e = absurd (cc)
has_front z (x ∷ xs) ys e = or_either (same z x) (has z xs) (has z (x ∷ xs ++ ys)) (λ f. or_left (same z x) (has z (xs ++ ys)) f) (λ f. or_right (same z x) (has z (xs ++ ys)) (has_front z xs ys f)) e

-- ---- a struct's fields, once

abbrev tree_fields : ℕ → Item → List FieldDecl
tree_fields q (struct_item n fs) = if n.name.0 == q then fs else []
tree_fields q _ = []

turned : (m n : ℕ) → (m == n) ≡ true → (n == m) ≡ true
turned m n e = eq-eqb n m (sym (eqb-true m n e))

other_turned : (m n : ℕ) → (m == n) ≡ false → (n == m) ≡ false
other_turned m n e = by (n == m) refl
  where
    by : (b : Bool) → (n == m) ≡ b → b ≡ false
    by false f = refl
    by true f = absurd (let g : true ≡ false = sym (turned n m f) ∙ e in cc)

none_here : (q : ℕ) (xs : List Item) → (list_any (is_struct q) xs ≡ true → ⊥) → flat_map (tree_fields q) xs ≡ []
none_here q [] f = refl
none_here q (struct_item n fs ∷ xs) f = by (n.name.0 == q) refl (λ g. none_here q xs g)
  where
    by : (b : Bool) → (n.name.0 == q) ≡ b → ((list_any (is_struct q) xs ≡ true → ⊥) → flat_map (tree_fields q) xs ≡ []) → (if b then fs else []) ++ flat_map (tree_fields q) xs ≡ []
    by true e rest = absurd (f (or_left (q == n.name.0) (list_any (is_struct q) xs) (turned n.name.0 q e)))
    by false e rest = rest (λ g. f (or_right (q == n.name.0) (list_any (is_struct q) xs) g))
none_here q (interface_item n hs ∷ xs) f = none_here q xs f
none_here q (impl_item at i s fs ∷ xs) f = none_here q xs f
none_here q (function_item g ∷ xs) f = none_here q xs f

no_methods : (names : List (List ℕ)) (items : List Item) (q : ℕ) (xs : List Item) → (list_any (is_interface q) xs ≡ true → ⊥) → flat_map (methods_of_tree names items q) xs ≡ []
no_methods names items q [] f = refl
no_methods names items q (interface_item n hs ∷ xs) f = by (n.name.0 == q) refl (λ g. no_methods names items q xs g)
  where
    by : (b : Bool) → (n.name.0 == q) ≡ b → ((list_any (is_interface q) xs ≡ true → ⊥) → flat_map (methods_of_tree names items q) xs ≡ []) → (if b then hs ∷ [] else []) ++ flat_map (methods_of_tree names items q) xs ≡ []
    by true e rest = absurd (f (or_left (n.name.0 == q) (list_any (is_interface q) xs) e))
    by false e rest = rest (λ g. f (or_right (n.name.0 == q) (list_any (is_interface q) xs) g))
no_methods names items q (struct_item n fs ∷ xs) f = no_methods names items q xs f
no_methods names items q (impl_item at i s fs ∷ xs) f = no_methods names items q xs f
no_methods names items q (function_item g ∷ xs) f = no_methods names items q xs f

module _ (names : List (List ℕ)) (items : List Item) where
  -- a struct of this number is declared
  struct_there : (q : ℕ) (xs : List Item) (fs : List FieldDecl) → fields_of xs q ≡ Some fs → list_any (is_struct q) xs ≡ true
  struct_there q [] fs e = absurd (cc)
  struct_there q (struct_item n gs ∷ xs) fs e = by (n.name.0 == q) refl (λ g. struct_there q xs fs g) e
    where
      by : (b : Bool) → (n.name.0 == q) ≡ b → (fields_of xs q ≡ Some fs → list_any (is_struct q) xs ≡ true) → (if b then Some gs else fields_of xs q) ≡ Some fs → ((q == n.name.0) || list_any (is_struct q) xs) ≡ true
      by true is rest e = or_left (q == n.name.0) (list_any (is_struct q) xs) (turned n.name.0 q is)
      by false is rest e = or_right (q == n.name.0) (list_any (is_struct q) xs) (rest e)
  struct_there q (interface_item n hs ∷ xs) fs e = struct_there q xs fs e
  struct_there q (impl_item at i s gs ∷ xs) fs e = struct_there q xs fs e
  struct_there q (function_item g ∷ xs) fs e = struct_there q xs fs e

  fields_once : (q : ℕ) (before xs : List Item) (fs : List FieldDecl) → AllClean (item_faults names items) before xs → fields_of xs q ≡ Some fs → flat_map (tree_fields q) xs ≡ fs
  fields_once q before [] fs c e = absurd (cc)
  fields_once q before (struct_item n gs ∷ xs) fs c e = by (n.name.0 == q) refl (λ g. fields_once q (struct_item n gs ∷ before) xs fs c.1 g) e
    where
      by : (b : Bool) → (n.name.0 == q) ≡ b → (fields_of xs q ≡ Some fs → flat_map (tree_fields q) xs ≡ fs) → (if b then Some gs else fields_of xs q) ≡ Some fs → (if b then gs else []) ++ flat_map (tree_fields q) xs ≡ fs
      by true is rest e =
          let same : gs ≡ fs = cc in
          ap (λ l. gs ++ l) (none_here q xs (λ f. later_struct names items q (struct_item n gs ∷ before) xs c.1 (or_left (q == n.name.0) (list_any (has_number q) before) (turned n.name.0 q is)) f)) ∙ append-nil gs ∙ same
      by false is rest e = rest e
  fields_once q before (interface_item n hs ∷ xs) fs c e = fields_once q (interface_item n hs ∷ before) xs fs c.1 e
  fields_once q before (impl_item at i s gs ∷ xs) fs c e = fields_once q (impl_item at i s gs ∷ before) xs fs c.1 e
  fields_once q before (function_item g ∷ xs) fs c e = fields_once q (function_item g ∷ before) xs fs c.1 e

  -- ---- the typed items have the same

  abbrev SameFields : List Item → List t.Item → Type 0
  SameFields xs zs = (q : ℕ) → flat_map (fields_in q) zs ≡ flat_map (tree_fields q) xs

  any_holds : {A : Type 0} (j : Judged A) → Holds (λ a. Unit {0}) j
  any_holds (fine a) = tt
  any_holds (faulty f fs) = tt

  one_field : (x : Item) → Holds (λ z. (q : ℕ) → fields_in q z ≡ tree_fields q x) (in_item names items x)
  one_field (struct_item n fs) = λ q. refl
  one_field (interface_item n hs) = λ q. refl
  one_field (impl_item at i s fs) = holds_plain (λ v. Unit {0}) (λ z. (q : ℕ) → fields_in q z ≡ []) (λ v. t.impl_item at i s v) (in_functions names items fs) (any_holds (in_functions names items fs)) (λ v h q. refl)
  one_field (function_item f) = holds_plain (λ v. Unit {0}) (λ z. (q : ℕ) → fields_in q z ≡ []) (λ v. t.function_item v) (in_function names items f) (any_holds (in_function names items f)) (λ v h q. refl)

  same_fields : (xs : List Item) → Holds (SameFields xs) (in_items names items xs)
  same_fields [] = λ q. refl
  same_fields (x ∷ xs) =
      holds_plain (Pair (λ z. (q : ℕ) → fields_in q z ≡ tree_fields q x) (SameFields xs)) (SameFields (x ∷ xs)) (λ v. v.0 ∷ v.1) (both (in_item names items x) (in_items names items xs))
      (holds_both (λ z. (q : ℕ) → fields_in q z ≡ tree_fields q x) (SameFields xs) (in_item names items x) (in_items names items xs) (one_field x) (same_fields xs))
      (λ v h q. ap (λ l. l ++ flat_map (fields_in q) v.1) (h.0 q) ∙ ap (λ l. tree_fields q x ++ l) (h.1 q))

  -- a function that is found in the tree is found among the typed functions
  record IsFound (zs : List t.Item) (n : ℕ) (h : Head) : Type 0 where
    is : t.Function
    found : first_function (has_name n) (flat_map functions_of zs) ≡ Some is
    has_head : head_of is ≡ h

  abbrev Found : List Item → List t.Item → Type 0
  Found xs zs = (n : ℕ) (h : Head) → function_named xs n ≡ Some h → IsFound zs n h

  abbrev FoundIn : Item → t.Item → Type 0
  FoundIn x z = (xs : List Item) (zs : List t.Item) → Found xs zs → Found (x ∷ xs) (z ∷ zs)

  found_here : (n : ℕ) (h g : Head) (b : t.Block) (xs : List Item) (zs : List t.Item) (here : Bool) → ((head_name g).name.0 == n) ≡ here → Found xs zs → (if here then Some g else function_named xs n) ≡ Some h → IsFound (t.function_item (t.function_body g b) ∷ zs) n h
  found_here n h g b xs zs true is rest e =
      let same : g ≡ h = cc in
      record { is = t.function_body g b; found = ap (λ c. if c then Some (t.function_body g b) else first_function (has_name n) (flat_map functions_of zs)) is; has_head = same }
  found_here n h g b xs zs false is rest e =
      let f = rest n h e in
      record { is = f.is; found = ap (λ c. if c then Some (t.function_body g b) else first_function (has_name n) (flat_map functions_of zs)) is ∙ f.found; has_head = f.has_head }

  found_function_item : (f : Function) → Holds (λ v. FoundIn (function_item f) (t.function_item v)) (in_function names items f)
  found_function_item (function h b) =
      holds_node (λ v. Unit {0}) (λ v. FoundIn (function_item (function h b)) (t.function_item v)) (head_name h).at (λ v. function_rules (head_gives h) (block_returns v)) (λ v. t.function_body h v) (void_block names items (entry h) b) (any_holds (void_block names items (entry h) b))
      (λ v u kept xs zs rest n g e. found_here n g h v xs zs ((head_name h).name.0 == n) refl rest e)

  found_item : (x : Item) → Holds (FoundIn x) (in_item names items x)
  found_item (struct_item m fs) = λ xs zs rest n h e. let f = rest n h e in record { is = f.is; found = f.found; has_head = f.has_head }
  found_item (interface_item m hs) = λ xs zs rest n h e. let f = rest n h e in record { is = f.is; found = f.found; has_head = f.has_head }
  found_item (impl_item at i s fs) =
      holds_plain (λ v. Unit {0}) (FoundIn (impl_item at i s fs)) (λ v. t.impl_item at i s v) (in_functions names items fs) (any_holds (in_functions names items fs)) (λ v u xs zs rest n h e. let f = rest n h e in record { is = f.is; found = f.found; has_head = f.has_head })
  found_item (function_item f) = holds_plain (λ v. FoundIn (function_item f) (t.function_item v)) (FoundIn (function_item f)) (λ v. t.function_item v) (in_function names items f) (found_function_item f) (λ v h. h)

  all_found : (xs : List Item) → Holds (Found xs) (in_items names items xs)
  all_found [] = λ n h e. absurd (cc)
  all_found (x ∷ xs) =
      holds_plain (Pair (FoundIn x) (Found xs)) (Found (x ∷ xs)) (λ v. v.0 ∷ v.1) (both (in_item names items x) (in_items names items xs)) (holds_both (FoundIn x) (Found xs) (in_item names items x) (in_items names items xs) (found_item x) (all_found xs))
      (λ v h. h.0 xs v.1 h.1)

-- ---- names of functions

-- what isn't built in isn't called `drop`
not_drop_by : (a b c : Bool) (x y z : BuiltIn) (o : Option BuiltIn) → (if a then Some x else (if b then Some y else (if c then Some z else o))) ≡ None → c ≡ false
not_drop_by true b c x y z o e = absurd (cc)
not_drop_by false true c x y z o e = absurd (cc)
not_drop_by false false true x y z o e = absurd (cc)
not_drop_by false false false x y z o e = refl

called_program : (a : Option BuiltIn) (fields : Option (List FieldDecl)) (c : Option Head) (h : Head) → called_else a fields c ≡ program h → (a ≡ None) × (c ≡ Some h)
called_program (Some f) fields c h e = absurd (cc)
called_program None (Some fs) c h e = absurd (cc)
called_program None None (Some g) h e = let same : g ≡ h = cc in (refl, ap Some same)
called_program None None None h e = absurd (cc)

pure_too : (h : Head) → pure_of h ≡ is_pure_head h
pure_too (head is_pure n ps x) = refl

gives_too : (h : Head) → head_result h ≡ head_gives h
gives_too (head is_pure n ps x) = refl

struct_declared : (q : ℕ) (xs : List Item) → list_any (is_struct q) xs ≡ true → is_declared xs q ≡ true
struct_declared q [] e = absurd (cc)
struct_declared q (struct_item n fs ∷ xs) e = or_either (q == n.name.0) (list_any (is_struct q) xs) (is_declared (struct_item n fs ∷ xs) q) (λ f. or_left (q == n.name.0) (is_declared xs q) f) (λ f. or_right (q == n.name.0) (is_declared xs q) (struct_declared q xs f)) e
struct_declared q (interface_item n hs ∷ xs) e = or_right (q == n.name.0) (is_declared xs q) (struct_declared q xs e)
struct_declared q (impl_item at i s fs ∷ xs) e = struct_declared q xs e
struct_declared q (function_item f ∷ xs) e = struct_declared q xs e

-- ---- the tables

module _ (p : Parts) where
  field_codes : (fs : List FieldDecl) → types_of (map (code_field p) fs) ≡ code_types p (field_types fs)
  field_codes [] = refl
  field_codes (field_decl n may_be_set x ∷ fs) = ap (λ l. code_type p (type_of x) ∷ l) (field_codes fs)

  param_codes : (ps : List Param) → map (λ q. code_type p (type_of (param_type q))) ps ≡ code_types p (param_types ps)
  param_codes [] = refl
  param_codes (q ∷ ps) = ap (λ l. code_type p (type_of (param_type q)) ∷ l) (param_codes ps)

  -- where a field stands
  record FieldAt (fs : List FieldDecl) (m : ℕ) (z : Ty) : Type 0 where
    place : ℕ
    found : place_of_field m fs ≡ Some place
    typed : slice_get (code_types p (field_types fs)) place ≡ Some (code_type p z)

  field_at : (fs : List FieldDecl) (m : ℕ) (z : Ty) → type_in (field_named fs m) ≡ Some z → FieldAt fs m z
  field_at [] m z e = absurd (cc)
  field_at (field_decl n may_be_set x ∷ fs) m z e = by (n.name.0 == m) refl (λ g. field_at fs m z g) e
    where
      by : (b : Bool) → (n.name.0 == m) ≡ b → (type_in (field_named fs m) ≡ Some z → FieldAt fs m z) → type_in (if b then Some (field_decl n may_be_set x) else field_named fs m) ≡ Some z → FieldAt (field_decl n may_be_set x ∷ fs) m z
      by true is later_field e = let same : type_of x ≡ z = cc in record { place = 0; found = ap (λ b. if b then Some 0 else later (place_of_field m fs)) is; typed = ap (λ w. Some (code_type p w)) same }
      by false is later_field e = let rest = later_field e in record { place = suc rest.place; found = ap (λ b. if b then Some 0 else later (place_of_field m fs)) is ∙ ap later rest.found; typed = rest.typed }

module _ (names : List (List ℕ)) (items : List Item) (clean : AllClean (item_faults names items) [] items) (zs : List t.Item) (is_typed : in_items names items items ≡ fine zs) where
  abbrev p : Parts
  p = record { names = names; items = zs; kinds = kinds_of zs }

  abbrev fs : List t.Function
  fs = functions_in p

  abbrev texts : List (List ℕ)
  texts = texts_of p fs

  abbrev c : Code
  c = lowered_parts p

  all_known : AllItems items items
  all_known = items_known items names [] items clean

  arrays : ItemsArrays items items zs
  arrays = subst (λ j. Holds (ItemsArrays items items) j) is_typed (items_arrays items names all_known items all_known)

  matches : Matches names items items zs
  matches = subst (λ j. Holds (Matches names items items) j) is_typed (all_match names items items (drop_items names items [] items clean))

  fields_same : (q : ℕ) → flat_map (fields_in q) zs ≡ flat_map (tree_fields q) items
  fields_same = subst (λ j. Holds (SameFields names items items) j) is_typed (same_fields names items items)

  functions_found : (n : ℕ) (h : Head) → function_named items n ≡ Some h → IsFound names items zs n h
  functions_found = subst (λ j. Holds (Found names items items) j) is_typed (all_found names items items)

  kind_listed : (n : ℕ) (gs : List FieldDecl) → fields_of items n ≡ Some gs → has (kind n) p.kinds ≡ true
  kind_listed n gs e =
      has_once (kind n) [] (flat_map named_kinds zs ++ flat_map declared_arrays zs ++ flat_map made_arrays zs)
      (has_front (kind n) (flat_map named_kinds zs ++ flat_map declared_arrays zs) (flat_map made_arrays zs)
      (has_front (kind n) (flat_map named_kinds zs) (flat_map declared_arrays zs) (arrays.0 n (struct_declared n items (struct_there names items n items gs e)))))

  -- the kind of a type that is listed
  info_of : (x : Ty) → has x p.kinds ≡ true → code_kinds.kind_of c (kind_of p x) ≡ Some (kind_info p texts fs x)
  info_of x e = slice_get-map (kind_info p texts fs) p.kinds (place_of_kind x p.kinds) ∙ ap (option_map (kind_info p texts fs)) (place_is x p.kinds e)

  declared_fields : (n : ℕ) (gs : List FieldDecl) → fields_of items n ≡ Some gs → flat_map (fields_in n) zs ≡ gs
  declared_fields n gs e = fields_same n ∙ fields_once names items n [] items gs clean e

  no_interface : (n : ℕ) (gs : List FieldDecl) → fields_of items n ≡ Some gs → flat_map (methods_in n) zs ≡ []
  no_interface n gs e = matches.1 n ∙ no_methods names items n items (λ f. no_both names items n [] items clean (struct_there names items n items gs e) f)

  has_made : (n : ℕ) (gs : List FieldDecl) → fields_of items n ≡ Some gs → code_fields (code_kinds.kind_of c (kind_of p (kind n))) ≡ Some (code_types p (field_types gs))
  has_made n gs e =
      ap code_fields (info_of (kind n) (kind_listed n gs e))
      ∙ ap (λ ms. code_fields (Some (kind_of_name p texts fs n ms))) (no_interface n gs e)
      ∙ ap (λ l. Some (types_of (map (code_field p) l))) (declared_fields n gs e)
      ∙ ap Some (field_codes p gs)

  has_field : (v : View) (n m : ℕ) (gs : List FieldDecl) (z : Ty) → seen_object v ≡ Some (kind n) → fields_of items n ≡ Some gs → type_in (field_named gs m) ≡ Some z → HasField p c v m z
  has_field v n m gs z object e typed =
      let at = field_at p gs m z typed in
      record {
        struct = n;
        object = object;
        place = at.place;
        found = ap (λ o. field_place_in p o m) object ∙ ap (place_of_field m) (declared_fields n gs e) ∙ at.found;
        cell = ap (λ o. cell_in o at.place) (has_made n gs e) ∙ at.typed;
      }

  has_function : (n : NameAt) (h : Head) → called names items n ≡ program h → is_pure_head h ≡ false → HasFunction p c fs n.name.0 h
  has_function n h e pure =
      let parts = called_program (built_in_among built_ins names n) (fields_of items n.name.0) (function_named items n.name.0) h e in
      let f = functions_found n.name.0 h parts.1 in
      let at = number_of_function (has_name n.name.0) fs in
      let named : name_of f.is ≡ n.name.0 = eqb-true (name_of f.is) n.name.0 (passes (has_name n.name.0) fs f.is f.found) in
      let dropped : is_destructor p f.is ≡ false = ap (λ q. option_map_or (bytes_eq (codes "drop")) (slice_get names q) false) named ∙ not_dropped n parts.0 in
      let impure : is_pure f.is ≡ false = ap pure_of f.has_head ∙ pure_too h ∙ pure in
      record {
        func = lowered_function p texts fs f.is;
        here = slice_get-map (lowered_function p texts fs) fs at ∙ ap (option_map (lowered_function p texts fs)) (found_function (has_name n.name.0) fs f.is f.found);
        plain = ap (λ b. if b then 1 else (if is_destructor p f.is then 3 else 0)) impure ∙ ap (λ b. if b then 3 else 0) dropped;
        takes = ap (λ g. map (λ q. code_type p (type_of (param_type q))) (head_params g)) f.has_head ∙ param_codes p (head_params h);
        gives = ap (λ g. code_type p (head_result g)) f.has_head ∙ ap (code_type p) (gives_too h);
      }
    where
      not_dropped : (n : NameAt) → built_in_among built_ins names n ≡ None → is_called names (codes "drop") n ≡ false
      not_dropped n e = not_drop_by (is_called names (codes "print") n) (is_called names (codes "println") n) (is_called names (codes "drop") n) b.Print b.Println b.Drop _ e

  has_tables : HasTables names items p c fs
  has_tables = record { made = has_made; field = has_field; elements = λ x e. ap item_in (info_of (array x) e); callable = has_function }

-- ---- the whole

without_faults : {A : Type 0} (gs : List Fault) (a b : A) → unless gs a ≡ fine b → gs ≡ []
without_faults [] a b e = refl
without_faults (f ∷ gs) a b e = absurd (cc)

pub lowered_has_tables : LoweredHasTables
lowered_has_tables names items decls whole declares types =
    let faultless = without_faults (declaration_faults (tree names items)) (declarations items) decls declares in
    let parts = none_in (one_by_one (item_faults names items) [] items) (own program_spot (program_rules names items)) faultless in
    let clean = all_clean (item_faults names items) [] items parts.0 in
    let zs = typed_items names whole (in_items names items items) types in
    subst (λ q. HasTables names items (parts_of q) (lowered q) (functions_in (parts_of q))) zs.2 (has_tables names items clean zs.0 zs.1)
