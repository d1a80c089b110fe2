-- The functions of a program that the phase of types accepts.
use Rattle.std.proofs.Common.{◌≡◌, ℕ, Bool, true, false, not, ◌&&◌, ◌==◌, List, [], ◌∷◌, Some, if◌then◌else◌, refl, ap, ◌∙◌}
use Rattle.std.specs.Prelude.{flat_map}
use Rattle.std.specs.List.{AllByRecursion, list_all}
use Rattle.std.proofs.lemmas.Bool.{and_parts}
use Rattle.vale_syntax.specs.Tree.{Head, Function, function, Item, struct_item, interface_item, impl_item, function_item}
use Rattle.vale_rules_spec.specs.Declarations.{head_name, head_params, param_type}
use Rattle.vale_rules_spec.specs.Judged.{◌⇒◌, both, fine}
use Rattle.vale_rules_spec.specs.Types.{is_void, is_copy, type_of, function_named}
use Rattle.vale_rules_spec.specs.Typed as t
use Rattle.vale_rules_spec.specs.TypeRules.{head_gives, function_rules}
use Rattle.vale_rules_spec.specs.Returns.{block_returns}
use Rattle.vale_rules_spec.specs.Typing.{entry, void_block, in_function, in_functions, in_item, in_items}
use Rattle.vale_model.specs.Parts.{first_function, functions_of, has_name, is_pure}
use Rattle.vale_served_spec.specs.Served.{type_is_served, block_is_served, function_is_served, item_is_served}
use Rattle.vale_lowering.specs.Scopes.{head_result}
use Rattle.vale_lower_facts.specs.WellTyped.{function_is_well_typed, all_are_well_typed}
use Rattle.vale_sound.proofs.Fine.{one_rule, asked, of_node, of_plain, of_fine, of_both}
use Rattle.vale_sound.proofs.Fits.{impossible, same_gives, served_function}
use Rattle.vale_sound.proofs.Literals.{LawfulFunction, LawfulItem}
use Rattle.vale_sound.proofs.Parts.{IsFound, Finds, void_meets}

-- ---- each function suits

module _ (names : List (List ℕ)) (items : List Item) (functions : List t.Function) (finds : Finds items functions) where
  abbrev FunctionMeets : t.Function → Type 0
  FunctionMeets f = function_is_served f ≡ true → function_is_well_typed functions f

  function_meets : (f : Function) (v : t.Function) → LawfulFunction f → in_function names items f ≡ fine v → FunctionMeets v
  function_meets (function h b) v law is =
      of_node FunctionMeets (head_name h).at (λ v. function_rules (head_gives h) (block_returns v)) (λ v. t.function_body h v) (void_block names items (entry h) b) v is
      (λ w each kept cov. (
        void_meets names items functions finds (entry h) b w law each (served_function h w cov).body,
        λ some. asked (not (is_void (head_gives h))) (block_returns w) (one_rule 26 (not (is_void (head_gives h)) ⇒ block_returns w) kept)
            (ap (λ x. not (is_void x)) (same_gives h) ∙ ap not some),
      ))

  abbrev AllMeet : List t.Item → Type 0
  AllMeet ys = list_all item_is_served ys ≡ true → all_are_well_typed functions (flat_map functions_of ys)

  abbrev ItemMeets : t.Item → Type 0
  ItemMeets y = (ys : List t.Item) → AllMeet ys → AllMeet (y ∷ ys)

  item_meets : (x : Item) (v : t.Item) → LawfulItem x → in_item names items x ≡ fine v → ItemMeets v
  item_meets (struct_item n fs) v law is = of_fine ItemMeets (t.struct_item n fs) v is (λ ys rest cov. impossible (and_parts false (list_all item_is_served ys) cov).0)
  item_meets (interface_item n hs) v law is = of_fine ItemMeets (t.interface_item n hs) v is (λ ys rest cov. impossible (and_parts false (list_all item_is_served ys) cov).0)
  item_meets (impl_item at i s fs) v law is =
      of_plain ItemMeets (λ v. t.impl_item at i s v) (in_functions names items fs) v is (λ w each ys rest cov. impossible (and_parts false (list_all item_is_served ys) cov).0)
  item_meets (function_item f) v law is =
      of_plain ItemMeets (λ v. t.function_item v) (in_function names items f) v is
      (λ w each ys rest cov.
      let c = and_parts (function_is_served w) (list_all item_is_served ys) cov in
      (function_meets f w law each c.0, rest c.1))

  pub items_meet : (xs : List Item) (ys : List t.Item) → AllByRecursion LawfulItem xs → in_items names items xs ≡ fine ys → AllMeet ys
  items_meet [] ys law is = of_fine AllMeet [] ys is (λ cov. tt)
  items_meet (x ∷ xs) ys law is =
      of_plain AllMeet (λ v. v.0 ∷ v.1) (both (in_item names items x) (in_items names items xs)) ys is
      (λ w each.
      let parts = of_both (in_item names items x) (in_items names items xs) w each in
      item_meets x w.0 law.0 parts.0 w.1 (items_meet xs w.1 law.1 parts.1))

-- ---- each function is found by its name

module _ (names : List (List ℕ)) (items : List Item) (n : ℕ) (h : Head) where
  -- after these items of the source, those of the typed tree have it
  abbrev Found : List Item → List t.Item → Type 0
  Found xs ys = function_named xs n ≡ Some h → IsFound (flat_map functions_of ys) n h

  found_here : (g : Head) (b : t.Block) (xs : List Item) (ys : List t.Item) (here : Bool) → (head_name g).name.0 == n ≡ here → Found xs ys → (if here then Some g else function_named xs n) ≡ Some h
      → IsFound (t.function_body g b ∷ flat_map functions_of ys) n h
  found_here g b xs ys true is rest e =
      let same : g ≡ h = cc in
      record { is = t.function_body g b; found = ap (λ c. if c then Some (t.function_body g b) else first_function (has_name n) (flat_map functions_of ys)) is; has_head = same }
  found_here g b xs ys false is rest e =
      let f = rest e in
      record {
        is = f.is;
        found = ap (λ c. if c then Some (t.function_body g b) else first_function (has_name n) (flat_map functions_of ys)) is ∙ f.found;
        has_head = f.has_head;
      }

  abbrev FoundIn : List Item → Item → t.Item → Type 0
  FoundIn xs x y = (ys : List t.Item) → Found xs ys → Found (x ∷ xs) (y ∷ ys)

  function_found : (xs : List Item) (f : Function) (v : t.Function) → in_function names items f ≡ fine v → FoundIn xs (function_item f) (t.function_item v)
  function_found xs (function g b) v is =
      of_node (λ v. FoundIn xs (function_item (function g b)) (t.function_item v)) (head_name g).at (λ v. function_rules (head_gives g) (block_returns v)) (λ v. t.function_body g v) (void_block names items (entry g) b) v is
      (λ w each kept ys rest e. found_here g w xs ys ((head_name g).name.0 == n) refl rest e)

  item_found : (xs : List Item) (x : Item) (v : t.Item) → in_item names items x ≡ fine v → FoundIn xs x v
  item_found xs (struct_item m fs) v is = of_fine (FoundIn xs (struct_item m fs)) (t.struct_item m fs) v is (λ ys rest e. rest e)
  item_found xs (interface_item m hs) v is = of_fine (FoundIn xs (interface_item m hs)) (t.interface_item m hs) v is (λ ys rest e. rest e)
  item_found xs (impl_item at i s fs) v is =
      of_plain (FoundIn xs (impl_item at i s fs)) (λ v. t.impl_item at i s v) (in_functions names items fs) v is (λ w each ys rest e. rest e)
  item_found xs (function_item f) v is =
      of_plain (FoundIn xs (function_item f)) (λ v. t.function_item v) (in_function names items f) v is (λ w each. function_found xs f w each)

  pub all_found : (xs : List Item) (ys : List t.Item) → in_items names items xs ≡ fine ys → Found xs ys
  all_found [] ys is = λ e. absurd (cc)
  all_found (x ∷ xs) ys is =
      of_plain (Found (x ∷ xs)) (λ v. v.0 ∷ v.1) (both (in_item names items x) (in_items names items xs)) ys is
      (λ w each.
      let parts = of_both (in_item names items x) (in_items names items xs) w each in
      item_found xs x w.0 parts.0 w.1 (all_found xs w.1 parts.1))
