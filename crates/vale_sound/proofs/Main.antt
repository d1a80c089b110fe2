-- The first function named `main` of a declared program is the lawful one, since no second has the name.
use Rattle.std.proofs.Common.{◌≡◌, ℕ, Bool, true, false, not, ◌&&◌, ◌||◌, List, [], ◌∷◌, ◌++◌, codes, get_or, Option, Some, None, if◌then◌else◌, refl, sym, ap, subst, ◌∙◌}
use Rattle.std.specs.Prelude.{flat_map, slice_get, bytes_eq}
use Rattle.std.specs.List.{AllByRecursion, list_all, list_any}
use Rattle.std.specs.Option.{option_map_or, is_some}
use Rattle.std.proofs.lemmas.Bool.{and_parts, and_from, or_parts, or_from, or_left, or_right, not_from_false, eq-eqb}
use Rattle.std.proofs.lemmas.List.Quantifiers.{position-Some}
use Rattle.std.proofs.lemmas.Option.{slice_get-get_or}
use Rattle.std.proofs.lemmas.Slice.Eq.{bytes_eq-Decides}
use Rattle.vale_base.specs.declared.spot.Spot.{Spot}
use Rattle.vale_syntax.specs.declared.fault.Fault.{Fault}
use Rattle.vale_syntax.specs.declared.token.Token.{Token}
use Rattle.vale_syntax.specs.declared.tree.NameAt.{NameAt}
use Rattle.vale_syntax.specs.Tree.{int_type, bool_type, str_type, named_type, array_type, ref_type, imm_ref_type, iso_type, Param, param, Head, head, Block, Function, function, Item, struct_item, interface_item, impl_item, function_item}
use Rattle.vale_rules_spec.specs.Declarations.{same_name, is_called, is_built_in, item_name, head_name, head_params, param_type, function_head, is_function_with, is_main, is_lawful_main, is_drop, is_input, drops}
use Rattle.vale_rules_spec.specs.DeclRules.{has_room, is_new_item, is_new_drop, is_new_function, is_first_main, function_rules, program_rules}
use Rattle.vale_rules_spec.specs.DeclFaults.{in_block, inside_head, item_faults, program_spot}
use Rattle.vale_syntax.specs.Grammar.{each, number_of, IsFunction, IsItem}
use Rattle.vale_rules_spec.specs.Judged.{◌⇒◌, broken, fault_of, own, one_by_one, unless, both, fine}
use Rattle.vale_rules_spec.specs.Types.{is_copy, void, type_of}
use Rattle.vale_rules_spec.specs.Typed as t
use Rattle.vale_rules_spec.specs.Typing.{entry, void_block, in_function, in_functions, in_item, in_items}
use Rattle.vale_rules_spec.specs.TypeRules as rules
use Rattle.vale_rules_spec.specs.Returns.{block_returns}
use Rattle.vale_model.specs.Kinds.{head_of}
use Rattle.vale_model.specs.Parts.{first_function, functions_of, is_pure}
use Rattle.vale_served_spec.specs.Served.{type_is_served, block_is_served, function_is_served, item_is_served}
use Rattle.vale_lowering.specs.Scopes.{head_result, result_type}
use Rattle.vale_sound.proofs.Fine.{rule_kept, one_rule, asked, of_node, of_plain, of_fine, of_both}
use Rattle.vale_sound.proofs.Fits.{impossible, not_true, served_function}

-- ---- no faults

pub no_parts : {A : Type 0} (xs ys : List A) → xs ++ ys ≡ [] → (xs ≡ []) × (ys ≡ [])
no_parts [] ys e = (refl, e)
no_parts (x ∷ xs) ys e = absurd (cc)

no_code : (at : Spot) (code : Option ℕ) → fault_of at code ≡ [] → code ≡ None
no_code at None e = refl
no_code at (Some code) e = absurd (cc)

pub no_faults : {A : Type 0} (fs : List Fault) (a b : A) → unless fs a ≡ fine b → fs ≡ []
no_faults [] a b e = refl
no_faults (f ∷ fs) a b e = absurd (cc)

-- ---- the names of functions are numbers of texts

module _ (names : List (List ℕ)) where
  abbrev pub IsNumbered : NameAt → Type 0
  IsNumbered n = (text : List ℕ) × (number_of names text ≡ Some n.name.0)

  abbrev pub Numbered : Item → Type 0
  Numbered (struct_item n fs) = Unit {0}
  Numbered (interface_item n hs) = Unit {0}
  Numbered (impl_item at i s fs) = Unit {0}
  Numbered (function_item f) = IsNumbered (head_name (function_head f))

  function_numbered : (d : ℕ) (f : Function) (ts rest : List Token) → IsFunction names d f ts rest → IsNumbered (head_name (function_head f))
  function_numbered d (function (head p n ps x) b) ts rest h = (h.1.2.2.1.0, h.1.2.2.1.1)

  item_numbered : (d : ℕ) (x : Item) (ts rest : List Token) → IsItem names d x ts rest → Numbered x
  item_numbered d (struct_item n fs) ts rest h = tt
  item_numbered d (interface_item n hs) ts rest h = tt
  item_numbered d (impl_item at i s fs) ts rest h = tt
  item_numbered d (function_item f) ts rest h = function_numbered d f ts rest h

  pub items_numbered : (d : ℕ) (xs : List Item) (ts rest : List Token) → each (IsItem names d) xs ts rest → AllByRecursion Numbered xs
  items_numbered d [] ts rest h = tt
  items_numbered d (x ∷ xs) ts rest h = (item_numbered d x ts h.0 h.1, items_numbered d xs h.0 rest h.2)

  -- a name with a text is its number
  number_is : (text : List ℕ) (n : NameAt) → IsNumbered n → is_called names text n ≡ true → number_of names text ≡ Some n.name.0
  number_is text n h called =
      let u = get_or names n.name.0 [] in
      let at = position-Some (bytes_eq h.0) names n.name.0 [] h.1 in
      let there = slice_get-get_or names n.name.0 [] at.0 in
      let own : h.0 ≡ u = (bytes_eq-Decides h.0 u).0 at.1 in
      let given : text ≡ u = (bytes_eq-Decides text u).0 (subst (λ o. option_map_or (bytes_eq text) o false ≡ true) there called) in
      subst (λ s. number_of names s ≡ Some n.name.0) (own ∙ sym given) h.1

  -- ---- `main` is no `drop`

  other_text : (o : Option (List ℕ)) → option_map_or (bytes_eq (codes "main")) o false ≡ true → option_map_or (bytes_eq (codes "drop")) o false ≡ false
  other_text None e = impossible e
  other_text (Some u) e = subst (λ s. bytes_eq (codes "drop") s ≡ false) ((bytes_eq-Decides (codes "main") u).0 e) refl

  lawful_is_main : (h : Head) → is_lawful_main names h ≡ true → is_main names h ≡ true
  lawful_is_main (head false n ps None) e = (and_parts (is_called names (codes "main") n) (is_input ps) e).0
  lawful_is_main (head false n ps (Some x)) e = impossible e
  lawful_is_main (head true n ps x) e = impossible e

  lawful_takes : (h : Head) → is_lawful_main names h ≡ true → is_input (head_params h) ≡ true
  lawful_takes (head false n ps None) e = (and_parts (is_called names (codes "main") n) (is_input ps) e).1
  lawful_takes (head false n ps (Some x)) e = impossible e
  lawful_takes (head true n ps x) e = impossible e

  lawful_gives : (h : Head) → is_lawful_main names h ≡ true → head_result h ≡ void
  lawful_gives (head false n ps None) e = refl
  lawful_gives (head false n ps (Some x)) e = impossible e
  lawful_gives (head true n ps x) e = impossible e

  module _ (items : List Item) where
    function_kept : (before : List Item) (h : Head) (b : Block) → item_faults names items before (function_item (function h b)) ≡ [] → broken (function_rules names items before h (in_block items b).declared) ≡ None
    function_kept before h b e =
        no_code (head_name h).at (broken (function_rules names items before h (in_block items b).declared))
        (no_parts (inside_head items h ++ (in_block items b).faults) (own (head_name h).at (function_rules names items before h (in_block items b).declared)) e).1

    -- ---- no second

    -- an earlier item has this number for its name
    abbrev HasNumber : ℕ → List Item → Type 0
    HasNumber i before = (n : NameAt) → n.name.0 ≡ i → list_any (λ item. option_map_or (same_name n) (item_name item) false) before ≡ true

    not_new : (before : List Item) (h : Head) (i : ℕ) → HasNumber i before → number_of names (codes "main") ≡ Some i → IsNumbered (head_name h) → is_main names h ≡ true → is_new_function names items before h ≡ true → false ≡ true
    not_new before h i has number numbered main new =
        let n = head_name h in
        let same : n.name.0 ≡ i = (let e = number_is (codes "main") n numbered main in cc) in
        let item : is_new_item names before n ≡ true = subst (λ b. (if b then is_new_drop names items before (drops names items h) else is_new_item names before n) ≡ true) (other_text (slice_get names n.name.0) main) new in
        sym (or_parts (is_built_in names n) (list_any (λ item. option_map_or (same_name n) (item_name item) false) before) (not_true _ item)).1 ∙ has n same

    lawful_by : (h : Head) (lawful : Bool) → is_lawful_main names h ≡ lawful → (is_lawful_main names h ≡ true → false ≡ true) → lawful ≡ false
    lawful_by h true is never = impossible (never is)
    lawful_by h false is never = refl

    item_not_lawful : (before : List Item) (x : Item) (i : ℕ) → HasNumber i before → number_of names (codes "main") ≡ Some i → Numbered x → item_faults names items before x ≡ [] → is_function_with (is_lawful_main names) x ≡ false
    item_not_lawful before (struct_item n fs) i has number numbered none = refl
    item_not_lawful before (interface_item n hs) i has number numbered none = refl
    item_not_lawful before (impl_item at j s fs) i has number numbered none = refl
    item_not_lawful before (function_item (function h b)) i has number numbered none =
        let declared = (in_block items b).declared in
        let kept = function_kept before h b none in
        let new = (rule_kept 10 (is_new_function names items before h) ((13, is_first_main names items before h ⇒ list_any (is_function_with (is_lawful_main names)) items) ∷ (15, is_drop names h ⇒ is_some (drops names items h)) ∷ (17, has_room h declared) ∷ []) kept).0 in
        lawful_by h (is_lawful_main names h) refl (λ lawful. not_new before h i has number numbered (lawful_is_main h lawful) new)

    no_second : (before xs : List Item) (i : ℕ) → HasNumber i before → number_of names (codes "main") ≡ Some i → AllByRecursion Numbered xs → one_by_one (item_faults names items) before xs ≡ [] → list_any (is_function_with (is_lawful_main names)) xs ≡ false
    no_second before [] i has number numbered none = refl
    no_second before (x ∷ xs) i has number numbered none =
        let p = no_parts (item_faults names items before x) (one_by_one (item_faults names items) (x ∷ before) xs) none in
        or_from (is_function_with (is_lawful_main names) x) (list_any (is_function_with (is_lawful_main names)) xs) (item_not_lawful before x i has number numbered.0 p.0)
        (no_second (x ∷ before) xs i (λ n e. or_right (option_map_or (same_name n) (item_name x) false) (list_any (λ item. option_map_or (same_name n) (item_name item) false) before) (has n e)) number numbered.1 p.1)

    -- ---- the first

    abbrev pub is_main_function : t.Function → Bool
    is_main_function f = is_called names (codes "main") (head_name (head_of f))

    pub record MainIn (functions : List t.Function) : Type 0 where
      pub is : t.Function
      pub found : first_function is_main_function functions ≡ Some is
      pub takes_nothing : head_params (head_of is) ≡ []
      pub gives_nothing : result_type is ≡ void

    no_params : (ps : List Param) → is_input ps ≡ true → list_all (λ p. is_copy (type_of (param_type p))) ps ≡ true → ps ≡ []
    no_params [] e copies = refl
    no_params (param n (int_type at) ∷ ps) e copies = impossible e
    no_params (param n (bool_type at) ∷ ps) e copies = impossible e
    no_params (param n (str_type at) ∷ ps) e copies = impossible e
    no_params (param n (named_type m) ∷ ps) e copies = impossible e
    no_params (param n (array_type at x) ∷ ps) e copies = impossible (and_parts false (list_all (λ p. is_copy (type_of (param_type p))) ps) copies).0
    no_params (param n (ref_type at x) ∷ ps) e copies = impossible e
    no_params (param n (imm_ref_type at x) ∷ ps) e copies = impossible e
    no_params (param n (iso_type at x) ∷ ps) e copies = impossible e

    abbrev any_lawful : List Item → Bool
    any_lawful xs = list_any (is_function_with (is_lawful_main names)) xs

    abbrev any_main : List Item → Bool
    any_main xs = list_any (is_function_with (is_main names)) xs

    or_first : (a b : Bool) → (a || b) ≡ true → b ≡ false → a ≡ true
    or_first true b e f = refl
    or_first false b e f = impossible (sym f ∙ e)

    or_second : (a b : Bool) → (a || b) ≡ true → a ≡ false → b ≡ true
    or_second true b e f = impossible (sym f)
    or_second false b e f = e

    -- what is known of the items from one on
    record Rest (before xs : List Item) : Type 0 where
      none_before : any_main before ≡ false
      numbered : AllByRecursion Numbered xs
      faultless : one_by_one (item_faults names items) before xs ≡ []
      lawful : any_lawful items ≡ true → any_lawful xs ≡ true
      main : any_main xs ≡ true

    abbrev RestFound : List t.Item → List Item → List Item → Type 0
    RestFound ys before xs = list_all item_is_served ys ≡ true → Rest before xs → MainIn (flat_map functions_of ys)

    function_first : (before xs : List Item) (h : Head) (b : Block) (v : t.Block) (ys : List t.Item) (main : Bool) → is_main names h ≡ main → RestFound ys (function_item (function h b) ∷ before) xs
        → RestFound (t.function_item (t.function_body h v) ∷ ys) before (function_item (function h b) ∷ xs)
    function_first before xs h b v ys true is rest cov r =
        let x = function_item (function h b) in
        let f = t.function_body h v in
        let declared = (in_block items b).declared in
        let p = no_parts (item_faults names items before x) (one_by_one (item_faults names items) (x ∷ before) xs) r.faultless in
        let first = is_first_main names items before h in
        let kept = rule_kept 10 (is_new_function names items before h) ((13, first ⇒ any_lawful items) ∷ (15, is_drop names h ⇒ is_some (drops names items h)) ∷ (17, has_room h declared) ∷ []) (function_kept before h b p.0) in
        let thirteen = (rule_kept 13 (first ⇒ any_lawful items) ((15, is_drop names h ⇒ is_some (drops names items h)) ∷ (17, has_room h declared) ∷ []) kept.1).0 in
        let some = r.lawful (asked first (any_lawful items) thirteen (and_from (is_main names h) (not (any_main before)) is (not_from_false (any_main before) r.none_before))) in
        let number = number_is (codes "main") (head_name h) r.numbered.0 is in
        let others = no_second (x ∷ before) xs (head_name h).name.0
        (λ n e. or_left (same_name n (head_name h)) (list_any (λ item. option_map_or (same_name n) (item_name item) false) before) (eq-eqb n.name.0 (head_name h).name.0 e))
        number r.numbered.1 p.1 in
        let lawful = or_first (is_lawful_main names h) (any_lawful xs) some others in
        let c = and_parts (function_is_served f) (list_all item_is_served ys) cov in
        let copies = (served_function h v c.0).copies in
        record {
          is = f;
          found = ap (λ c. if c then Some f else first_function is_main_function (flat_map functions_of ys)) is;
          takes_nothing = no_params (head_params h) (lawful_takes h lawful) copies;
          gives_nothing = lawful_gives h lawful;
        }
    function_first before xs h b v ys false is rest cov r =
        let x = function_item (function h b) in
        let f = t.function_body h v in
        let p = no_parts (item_faults names items before x) (one_by_one (item_faults names items) (x ∷ before) xs) r.faultless in
        let not_lawful = lawful_by h (is_lawful_main names h) refl (λ e. sym is ∙ lawful_is_main h e) in
        let m = rest (and_parts (function_is_served f) (list_all item_is_served ys) cov).1 (record {
          none_before = or_from (is_main names h) (any_main before) is r.none_before;
          numbered = r.numbered.1;
          faultless = p.1;
          lawful = λ e. or_second (is_lawful_main names h) (any_lawful xs) (r.lawful e) not_lawful;
          main = or_second (is_main names h) (any_main xs) r.main is;
        }) in
        record {
          is = m.is;
          found = ap (λ c. if c then Some f else first_function is_main_function (flat_map functions_of ys)) is ∙ m.found;
          takes_nothing = m.takes_nothing;
          gives_nothing = m.gives_nothing;
        }

    abbrev FirstAt : List Item → List Item → Item → t.Item → Type 0
    FirstAt before xs x y = (ys : List t.Item) → RestFound ys (x ∷ before) xs → RestFound (y ∷ ys) before (x ∷ xs)

    function_at : (before xs : List Item) (f : Function) (v : t.Function) → in_function names items f ≡ fine v → FirstAt before xs (function_item f) (t.function_item v)
    function_at before xs (function h b) v is =
        of_node (λ v. FirstAt before xs (function_item (function h b)) (t.function_item v)) (head_name h).at (λ v. rules.function_rules (rules.head_gives h) (block_returns v)) (λ v. t.function_body h v) (void_block names items (entry h) b) v is
        (λ w each kept ys rest. function_first before xs h b w ys (is_main names h) refl rest)

    item_at : (before xs : List Item) (x : Item) (v : t.Item) → in_item names items x ≡ fine v → FirstAt before xs x v
    item_at before xs (struct_item n fs) v is = of_fine (FirstAt before xs (struct_item n fs)) (t.struct_item n fs) v is (λ ys rest cov r. impossible (and_parts false (list_all item_is_served ys) cov).0)
    item_at before xs (interface_item n hs) v is = of_fine (FirstAt before xs (interface_item n hs)) (t.interface_item n hs) v is (λ ys rest cov r. impossible (and_parts false (list_all item_is_served ys) cov).0)
    item_at before xs (impl_item at i s fs) v is =
        of_plain (FirstAt before xs (impl_item at i s fs)) (λ v. t.impl_item at i s v) (in_functions names items fs) v is (λ w each ys rest cov r. impossible (and_parts false (list_all item_is_served ys) cov).0)
    item_at before xs (function_item f) v is =
        of_plain (FirstAt before xs (function_item f)) (λ v. t.function_item v) (in_function names items f) v is (λ w each. function_at before xs f w each)

    first_main : (before xs : List Item) (ys : List t.Item) → in_items names items xs ≡ fine ys → RestFound ys before xs
    first_main before [] ys is = λ cov r. impossible r.main
    first_main before (x ∷ xs) ys is =
        of_plain (λ ys. RestFound ys before (x ∷ xs)) (λ v. v.0 ∷ v.1) (both (in_item names items x) (in_items names items xs)) ys is
        (λ w each.
        let parts = of_both (in_item names items x) (in_items names items xs) w each in
        item_at before xs x w.0 parts.0 w.1 (first_main (x ∷ before) xs w.1 parts.1))

    pub has_main : (ys : List t.Item) → AllByRecursion Numbered items → one_by_one (item_faults names items) [] items ++ own program_spot (program_rules names items) ≡ [] → in_items names items items ≡ fine ys
        → list_all item_is_served ys ≡ true → MainIn (flat_map functions_of ys)
    has_main ys numbered none is cov =
        let p = no_parts (one_by_one (item_faults names items) [] items) (own program_spot (program_rules names items)) none in
        let main = one_rule 13 (any_main items) (no_code program_spot (broken (program_rules names items)) p.1) in
        first_main [] items ys is cov (record { none_before = refl; numbered = numbered; faultless = p.0; lawful = λ e. e; main = main })
