-- The kinds of a program that is declared and typed: what the elements of an array lead to stands before it.
use Rattle.std.proofs.Common.{◌≡◌, ℕ, Bool, true, false, ◌==◌, List, [], ◌∷◌, ◌++◌, map, Some, None, if◌then◌else◌, refl, sym, subst}
use Rattle.std.specs.Prelude.{flat_map}
use Rattle.std.specs.List.{list_any}
use Rattle.std.proofs.lemmas.Bool.Decides.{Decides-eqb}
use Rattle.std.proofs.lemmas.List.{append_assoc}
use Rattle.vale_syntax.specs.declared.fault.Fault.{Fault}
use Rattle.vale_syntax.specs.declared.position.Position.TheVariants.{Value, Field}
use Rattle.vale_syntax.specs.declared.tree.NameAt.{NameAt}
use Rattle.vale_syntax.specs.Tree.{Param, param, Head, head, Function, function, FieldDecl, field_decl, Item, struct_item, interface_item, impl_item, function_item}
use Rattle.vale_rules_spec.specs.Declarations.{field_type, param_type, head_params, head_name, function_head}
use Rattle.vale_rules_spec.specs.DeclFaults.{type_faults, field_faults, param_faults, result_faults, inside_head, head_faults, method_faults, item_faults, in_block as in_block_body}
use Rattle.vale_rules_spec.specs.DeclRules.{field_rules, param_rules, head_rules, method_head_rules, method_rules, kind_rules, interface_name_rules, struct_name_rules, impl_rules, function_rules}
use Rattle.vale_rules_spec.specs.Judged.{Judged, fine, faulty, own, one_by_one}
use Rattle.vale_rules_spec.specs.Types.{Ty, kind, same, type_of, result_of, fields_of, methods_of, function_named}
use Rattle.vale_rules_spec.specs.Returns.{block_returns}
use Rattle.vale_rules_spec.specs.Typed as t
use Rattle.vale_rules_spec.specs.TypeRules.{head_gives, function_rules as type_rules}
use Rattle.vale_rules_spec.specs.Typing.{Env, with_params, with_local, entry, void_block, in_function, in_functions, in_item, in_items}
use Rattle.vale_model.specs.Kinds.{arrays_in, head_of, body_of, block_arrays, head_arrays, declared_arrays, made_arrays, named_kinds, once, kinds_of}
use Rattle.vale_object_kinds.proofs.Holds.{Holds, Pair, holds_node, holds_plain, holds_both}
use Rattle.vale_object_kinds.proofs.Known.{or_left, or_right, or_either, names_kind, is_declared, Known, has, Grounded, Covers, Arrays, onto, same_is, no_arrays, both_arrays, arrays_known, grounded_both, grounded_more, covers_onto}
use Rattle.vale_object_kinds.proofs.KnownParts.{none_in, written_known, KnownScope, KnownBlock, AllFields, AllHeads, KnownFields, KnownMethods, KnownHead, Facts}
use Rattle.vale_object_kinds.proofs.KnownTree.{void_known}

-- ---- each part of a list is without faults

abbrev pub AllClean : {X : Type 0} → (List X → X → List Fault) → List X → List X → Type 0
AllClean judge before [] = Unit {0}
AllClean judge before (x ∷ xs) = (judge before x ≡ []) × AllClean judge (x ∷ before) xs

pub all_clean : {X : Type 0} (judge : List X → X → List Fault) (before xs : List X) → one_by_one judge before xs ≡ [] → AllClean judge before xs
all_clean judge before [] e = tt
all_clean judge before (x ∷ xs) e =
    let parts = none_in (judge before x) (one_by_one judge (x ∷ before) xs) e in
    (parts.0, all_clean judge (x ∷ before) xs parts.1)

turned : (m n : ℕ) → (m == n) ≡ true → (n == m) ≡ true
turned m n e = (Decides-eqb n m).1 (sym ((Decides-eqb m n).0 e))

-- ---- what is declared

module _ (items : List Item) where
  abbrev AllParams : List Param → Type 0
  AllParams [] = Unit {0}
  AllParams (p ∷ ps) = Known items (type_of (param_type p)) × AllParams ps

  fields_known : (before fs : List FieldDecl) → AllClean (field_faults items) before fs → AllFields items fs
  fields_known before [] c = tt
  fields_known before (field_decl n may_be_set x ∷ fs) c =
      (written_known items Field x (none_in (type_faults items Field x) (own n.at (field_rules before (field_decl n may_be_set x))) c.0).0, fields_known _ fs c.1)

  params_known : (before ps : List Param) → AllClean (param_faults items) before ps → AllParams ps
  params_known before [] c = tt
  params_known before (param n x ∷ ps) c =
      (written_known items Value x (none_in (type_faults items Value x) (own n.at (param_rules before (param n x))) c.0).0, params_known _ ps c.1)

  -- a head without faults
  abbrev KnownInside : Head → Type 0
  KnownInside h = AllParams (head_params h) × Known items (head_gives h)

  inside_known : (h : Head) → inside_head items h ≡ [] → KnownInside h
  inside_known (head is_pure n ps None) e = (params_known [] ps (all_clean (param_faults items) [] ps (none_in (one_by_one (param_faults items) [] ps) (result_faults items None) e).0), refl)
  inside_known (head is_pure n ps (Some x)) e =
      let parts = none_in (one_by_one (param_faults items) [] ps) (result_faults items (Some x)) e in
      (params_known [] ps (all_clean (param_faults items) [] ps parts.0), written_known items Value x parts.1)

  abbrev AllInside : List Head → Type 0
  AllInside [] = Unit {0}
  AllInside (h ∷ hs) = KnownInside h × AllInside hs

  heads_known : (i : NameAt) (before hs : List Head) → AllClean (head_faults items i) before hs → AllInside hs
  heads_known i before [] c = tt
  heads_known i before (h ∷ hs) c = (inside_known h (none_in (inside_head items h) (own (head_name h).at (head_rules i before h)) c.0).0, heads_known i _ hs c.1)

  only_gives : (hs : List Head) → AllInside hs → AllHeads items hs
  only_gives [] k = tt
  only_gives (h ∷ hs) k = (k.0.1, only_gives hs k.1)

  -- ---- what items declare

  abbrev KnownFunction : Function → Type 0
  KnownFunction (function h b) = KnownInside h × ((in_block_body items b).faults ≡ [])

  abbrev AllFunctions : List Function → Type 0
  AllFunctions [] = Unit {0}
  AllFunctions (f ∷ fs) = KnownFunction f × AllFunctions fs

  abbrev KnownItem : Item → Type 0
  KnownItem (struct_item n fs) = AllFields items fs
  KnownItem (interface_item n hs) = AllInside hs
  KnownItem (impl_item at i s fs) = AllFunctions fs
  KnownItem (function_item f) = KnownFunction f

  abbrev pub AllItems : List Item → Type 0
  AllItems [] = Unit {0}
  AllItems (x ∷ xs) = KnownItem x × AllItems xs

  functions_known : (before fs : List Function) → AllClean (method_faults items) before fs → AllFunctions fs
  functions_known before [] c = tt
  functions_known before (function h b ∷ fs) c =
      let head_rows = own (head_name h).at (method_head_rules (map function_head before) h) in
      let last = none_in (inside_head items h ++ head_rows ++ (in_block_body items b).faults) (own (head_name h).at (method_rules h (in_block_body items b).declared)) c.0 in
      let body = none_in (inside_head items h ++ head_rows) (in_block_body items b).faults last.0 in
      ((inside_known h (none_in (inside_head items h) head_rows body.0).0, body.1), functions_known _ fs c.1)

  item_known : (names : List (List ℕ)) (before : List Item) (x : Item) → item_faults names items before x ≡ [] → KnownItem x
  item_known names before (struct_item n fs) e = fields_known [] fs (all_clean (field_faults items) [] fs (none_in (one_by_one (field_faults items) [] fs) (own n.at (kind_rules names before n)) e).0)
  item_known names before (interface_item n hs) e = heads_known n [] hs (all_clean (head_faults items n) [] hs (none_in (one_by_one (head_faults items n) [] hs) (own n.at (kind_rules names before n)) e).0)
  item_known names before (impl_item at i s fs) e =
      let two_names = own i.at (interface_name_rules items i) ++ own s.at (struct_name_rules items s) in
      let last = none_in (two_names ++ one_by_one (method_faults items) [] fs) (own at (impl_rules items before i s (map function_head fs))) e in
      functions_known [] fs (all_clean (method_faults items) [] fs (none_in two_names (one_by_one (method_faults items) [] fs) last.0).1)
  item_known names before (function_item (function h b)) e =
      let last = none_in (inside_head items h ++ (in_block_body items b).faults) (own (head_name h).at (function_rules names items before h (in_block_body items b).declared)) e in
      let body = none_in (inside_head items h) (in_block_body items b).faults last.0 in
      (inside_known h body.0, body.1)

  pub items_known : (names : List (List ℕ)) (before xs : List Item) → AllClean (item_faults names items) before xs → AllItems xs
  items_known names before [] c = tt
  items_known names before (x ∷ xs) c = (item_known names before x c.0, items_known names (x ∷ before) xs c.1)

  -- ---- what the phase of types asks

  -- what these items declare is declared
  abbrev Within : List Item → Type 0
  Within xs = (m : ℕ) → is_declared xs m ≡ true → is_declared items m ≡ true

  later : (x : Item) (xs : List Item) → Within (x ∷ xs) → Within xs
  later x xs w m e = w m (or_right (names_kind m x) (is_declared xs m) e)

  fields_found : (xs : List Item) (m : ℕ) → AllItems xs → Within xs → KnownFields items m (fields_of xs m)
  fields_found [] m k w = tt
  fields_found (struct_item n fs ∷ xs) m k w = by (n.name.0 == m) refl (fields_found xs m k.1 (later (struct_item n fs) xs w))
    where
      by : (b : Bool) → (n.name.0 == m) ≡ b → KnownFields items m (fields_of xs m) → KnownFields items m (if b then Some fs else fields_of xs m)
      by true e rest = (w m (or_left (m == n.name.0) (is_declared xs m) (turned n.name.0 m e)), k.0)
      by false e rest = rest
  fields_found (interface_item n hs ∷ xs) m k w = fields_found xs m k.1 (later (interface_item n hs) xs w)
  fields_found (impl_item at i s fs ∷ xs) m k w = fields_found xs m k.1 w
  fields_found (function_item f ∷ xs) m k w = fields_found xs m k.1 w

  methods_found : (xs : List Item) (m : ℕ) → AllItems xs → KnownMethods items (methods_of xs m)
  methods_found [] m k = tt
  methods_found (struct_item n fs ∷ xs) m k = methods_found xs m k.1
  methods_found (interface_item n hs ∷ xs) m k = by (n.name.0 == m) (methods_found xs m k.1)
    where
      by : (b : Bool) → KnownMethods items (methods_of xs m) → KnownMethods items (if b then Some hs else methods_of xs m)
      by true rest = only_gives hs k.0
      by false rest = rest
  methods_found (impl_item at i s fs ∷ xs) m k = methods_found xs m k.1
  methods_found (function_item f ∷ xs) m k = methods_found xs m k.1

  function_found : (xs : List Item) (m : ℕ) → AllItems xs → KnownHead items (function_named xs m)
  function_found [] m k = tt
  function_found (struct_item n fs ∷ xs) m k = function_found xs m k.1
  function_found (interface_item n hs ∷ xs) m k = function_found xs m k.1
  function_found (impl_item at i s fs ∷ xs) m k = function_found xs m k.1
  function_found (function_item (function h b) ∷ xs) m k = by ((head_name h).name.0 == m) (function_found xs m k.1)
    where
      by : (x : Bool) → KnownHead items (function_named xs m) → KnownHead items (if x then Some h else function_named xs m)
      by true rest = k.0.0.1
      by false rest = rest

  facts : AllItems items → Facts items
  facts k = record { fields = λ m. fields_found items m k (λ m e. e); methods = λ m. methods_found items m k; functions = λ m. function_found items m k }

  -- ---- the arrays in typed items

  params_arrays : (ps : List Param) → AllParams ps → Arrays items (flat_map (λ p. arrays_in (type_of (param_type p))) ps)
  params_arrays [] k = no_arrays items
  params_arrays (p ∷ ps) k = both_arrays items (arrays_in (type_of (param_type p))) _ (arrays_known items (type_of (param_type p)) k.0) (params_arrays ps k.1)

  head_is_known : (h : Head) → KnownInside h → Arrays items (head_arrays h)
  head_is_known (head is_pure n ps x) k = both_arrays items (flat_map (λ p. arrays_in (type_of (param_type p))) ps) (arrays_in (result_of x)) (params_arrays ps k.0) (arrays_known items (result_of x) k.1)

  heads_arrays : (hs : List Head) → AllInside hs → Arrays items (flat_map head_arrays hs)
  heads_arrays [] k = no_arrays items
  heads_arrays (h ∷ hs) k = both_arrays items (head_arrays h) _ (head_is_known h k.0) (heads_arrays hs k.1)

  fields_arrays : (fs : List FieldDecl) → AllFields items fs → Arrays items (flat_map (λ f. arrays_in (type_of (field_type f))) fs)
  fields_arrays [] k = no_arrays items
  fields_arrays (f ∷ fs) k = both_arrays items (arrays_in (type_of (field_type f))) _ (arrays_known items (type_of (field_type f)) k.0) (fields_arrays fs k.1)

  scope_known : (ps : List Param) (env : Env) → AllParams ps → KnownScope items env.scope → KnownScope items (with_params ps env).scope
  scope_known [] env k ks = ks
  scope_known (param n x ∷ ps) env k ks = scope_known ps (with_local n (type_of x) env) k.1 (k.0, ks)

  -- of a typed function, by its head and its body
  abbrev FunctionArrays : t.Function → Type 0
  FunctionArrays f = Arrays items (head_arrays (head_of f)) × Arrays items (block_arrays (body_of f))

  abbrev FunctionsArrays : List t.Function → Type 0
  FunctionsArrays fs = Arrays items (flat_map (λ f. head_arrays (head_of f)) fs) × Arrays items (flat_map (λ f. block_arrays (body_of f)) fs)

  -- the kinds that the items name, and the arrays that they declare and make
  abbrev pub ItemsArrays : List Item → List t.Item → Type 0
  ItemsArrays xs ys = ((m : ℕ) → is_declared xs m ≡ true → has (kind m) (flat_map named_kinds ys) ≡ true) × Arrays items (flat_map declared_arrays ys) × Arrays items (flat_map made_arrays ys)

  abbrev ItemArrays : Item → t.Item → Type 0
  ItemArrays x z = ((m : ℕ) → names_kind m x ≡ true → has (kind m) (named_kinds z) ≡ true) × Arrays items (declared_arrays z) × Arrays items (made_arrays z)

  module _ (names : List (List ℕ)) (all : AllItems items) where
    function_arrays : (f : Function) → KnownFunction f → Holds FunctionArrays (in_function names items f)
    function_arrays (function h b) k =
        holds_node (KnownBlock items) FunctionArrays (head_name h).at (λ v. type_rules (head_gives h) (block_returns v)) (λ v. t.function_body h v) (void_block names items (entry h) b) (void_known names items (facts all) b (entry h) (scope_known (head_params h) (record { gives = head_gives h; depth = 0; scope = [] }) k.0.0 tt) k.1)
        (λ v x kept. (head_is_known h k.0, x.1))

    functions_arrays : (fs : List Function) → AllFunctions fs → Holds FunctionsArrays (in_functions names items fs)
    functions_arrays [] k = (no_arrays items, no_arrays items)
    functions_arrays (f ∷ fs) k =
        holds_plain (Pair FunctionArrays FunctionsArrays) FunctionsArrays _ _ (holds_both FunctionArrays FunctionsArrays _ _ (function_arrays f k.0) (functions_arrays fs k.1))
        (λ v x. (both_arrays items (head_arrays (head_of v.0)) _ x.0.0 x.1.0, both_arrays items (block_arrays (body_of v.0)) _ x.0.1 x.1.1))

    named_there : (m n : ℕ) → (m == n) ≡ true → has (kind m) (kind n ∷ []) ≡ true
    named_there m n e = or_left (m == n) false e

    item_arrays : (x : Item) → KnownItem x → Holds (ItemArrays x) (in_item names items x)
    item_arrays (struct_item n fs) k = (λ m e. named_there m n.name.0 e, fields_arrays fs k, no_arrays items)
    item_arrays (interface_item n hs) k = (λ m e. named_there m n.name.0 e, heads_arrays hs k, no_arrays items)
    item_arrays (impl_item at i s fs) k = holds_plain FunctionsArrays (ItemArrays (impl_item at i s fs)) _ _ (functions_arrays fs k) (λ v x. (λ m e. absurd (cc), x.0, x.1))
    item_arrays (function_item f) k = holds_plain FunctionArrays (ItemArrays (function_item f)) _ _ (function_arrays f k) (λ v x. (λ m e. absurd (cc), x.0, x.1))

    has_front : (z : Ty) (xs ys : List Ty) → has z xs ≡ true → has z (xs ++ ys) ≡ true
    has_front z [] ys e = absurd (cc)
    has_front z (x ∷ xs) ys e = or_either (same z x) (has z xs) (has z (x ∷ xs ++ ys)) (λ f. or_left (same z x) (has z (xs ++ ys)) f) (λ f. or_right (same z x) (has z (xs ++ ys)) (has_front z xs ys f)) e

    has_back : (z : Ty) (xs ys : List Ty) → has z ys ≡ true → has z (xs ++ ys) ≡ true
    has_back z [] ys e = e
    has_back z (x ∷ xs) ys e = or_right (same z x) (has z (xs ++ ys)) (has_back z xs ys e)

    pub items_arrays : (xs : List Item) → AllItems xs → Holds (ItemsArrays xs) (in_items names items xs)
    items_arrays [] k = (λ m e. e, no_arrays items, no_arrays items)
    items_arrays (x ∷ xs) k =
        holds_plain (Pair (ItemArrays x) (ItemsArrays xs)) (ItemsArrays (x ∷ xs)) _ _ (holds_both (ItemArrays x) (ItemsArrays xs) _ _ (item_arrays x k.0) (items_arrays xs k.1))
        (λ v h. (
          λ m e. or_either (names_kind m x) (is_declared xs m) _ (λ f. has_front (kind m) (named_kinds v.0) _ (h.0.0 m f)) (λ f. has_back (kind m) (named_kinds v.0) _ (h.1.0 m f)) e,
          both_arrays items (declared_arrays v.0) _ h.0.1 h.1.1,
          both_arrays items (made_arrays v.0) _ h.0.2 h.1.2,
        ))

    -- ---- each kind once

    covers_again : (x : Ty) (before : List Ty) → has x before ≡ true → Covers before (x ∷ before)
    covers_again x before e z f = or_either (same z x) (has z before) (has z before) (λ g. subst (λ q. has q before ≡ true) (sym (same_is z x g)) e) (λ g. g) f

    once_grounded : (before xs : List Ty) → Grounded before xs → Grounded before (once before xs)
    once_grounded before [] g = tt
    once_grounded before (x ∷ xs) g = by (list_any (same x) before) refl (λ e. once_grounded before xs (grounded_more before (x ∷ before) xs (covers_again x before e) g.1)) (once_grounded (x ∷ before) xs g.1)
      where
        by : (b : Bool) → list_any (same x) before ≡ b → (list_any (same x) before ≡ true → Grounded before (once before xs)) → Grounded (x ∷ before) (once (x ∷ before) xs) → Grounded before (if b then once before xs else x ∷ once (x ∷ before) xs)
        by true e again more = again e
        by false e again more = (g.0, more)

    named_grounded : (before : List Ty) (zs : List t.Item) → Grounded before (flat_map named_kinds zs)
    named_grounded before [] = tt
    named_grounded before (t.struct_item n fs ∷ zs) = (tt, named_grounded (kind n.name.0 ∷ before) zs)
    named_grounded before (t.interface_item n hs ∷ zs) = (tt, named_grounded (kind n.name.0 ∷ before) zs)
    named_grounded before (t.impl_item at i s fs ∷ zs) = named_grounded before zs
    named_grounded before (t.function_item f ∷ zs) = named_grounded before zs

    has_onto : (z : Ty) (before xs : List Ty) → has z xs ≡ true → has z (onto before xs) ≡ true
    has_onto z before [] e = absurd (cc)
    has_onto z before (x ∷ xs) e =
        or_either (same z x) (has z xs) (has z (onto (x ∷ before) xs)) (λ f. covers_onto (x ∷ before) xs z (or_left (same z x) (has z before) f)) (λ f. has_onto z (x ∷ before) xs f) e

    -- the kinds of the typed items
    pub kinds_grounded : (zs : List t.Item) → ItemsArrays items zs → Grounded [] (kinds_of zs)
    kinds_grounded zs h =
        once_grounded [] (flat_map named_kinds zs ++ flat_map declared_arrays zs ++ flat_map made_arrays zs)
        (subst (λ l. Grounded [] l) (sym (append_assoc (flat_map named_kinds zs) (flat_map declared_arrays zs) (flat_map made_arrays zs)))
        (grounded_both [] (flat_map named_kinds zs) (flat_map declared_arrays zs ++ flat_map made_arrays zs) (named_grounded [] zs)
        (both_arrays items (flat_map declared_arrays zs) (flat_map made_arrays zs) h.1 h.2 (onto [] (flat_map named_kinds zs)) (λ m e. has_onto (kind m) [] (flat_map named_kinds zs) (h.0 m e)))))

    pub typed_grounded : (zs : List t.Item) → in_items names items items ≡ fine zs → Grounded [] (kinds_of zs)
    typed_grounded zs e = subst (λ j. Holds (λ zs. Grounded [] (kinds_of zs)) j) e (more (in_items names items items) (items_arrays items all))
      where
        more : (j : Judged (List t.Item)) → Holds (ItemsArrays items) j → Holds (λ zs. Grounded [] (kinds_of zs)) j
        more (fine zs) h = kinds_grounded zs h
        more (faulty f fs) h = tt
