-- The kinds of the code have the program's destructors.
use Rattle.std.proofs.Common.{◌≡◌, ℕ, zero, suc, Bool, true, false, not, ◌&&◌, ◌||◌, ◌==◌, List, [], ◌∷◌, ◌++◌, Option, Some, None, is_some, if◌then◌else◌, refl, sym, ap, ◌∙◌, subst}
use Rattle.std.specs.Prelude.{slice_get, option_map, flat_map, codes}
use Rattle.std.specs.List.{list_any}
use Rattle.std.specs.Option.{option_map_or}
use Rattle.std.proofs.lemmas.Bool.Decides.{Decides-eqb}
use Rattle.std.proofs.lemmas.Option.{slice_get-map}
use Rattle.vale_syntax.specs.declared.tree.NameAt.{NameAt}
use Rattle.vale_syntax.specs.Tree.{named_type, param, Head, head, function, FieldDecl, Block, Item, struct_item, interface_item, impl_item, function_item}
use Rattle.vale_rules_spec.specs.Declarations.{same_name, head_name, head_params, item_name, is_struct_of, is_called, is_function_with, is_lawful_main, is_drop, drops, is_built_in}
use Rattle.vale_rules_spec.specs.DeclFaults.{item_faults, inside_head, field_faults, head_faults, in_block as in_block_body}
use Rattle.vale_rules_spec.specs.DeclRules.{is_new_item, kind_rules, function_rules, is_new_function, is_first_main, has_room}
use Rattle.vale_rules_spec.specs.Judged.{Judged, fine, faulty, own, one_by_one, broken, ◌⇒◌}
use Rattle.vale_rules_spec.specs.Types.{Ty, void, int, bool, str, kind, array, ref, imm, iso}
use Rattle.vale_rules_spec.specs.Returns.{block_returns}
use Rattle.vale_rules_spec.specs.TypeRules.{head_gives, function_rules as type_rules}
use Rattle.vale_rules_spec.specs.Typed as t
use Rattle.vale_rules_spec.specs.Typing.{entry, void_block, in_function, in_functions, in_item, in_items}
use Rattle.vale_model.specs.Kinds.{head_of}
use Rattle.vale_model.specs.Parts.{Parts, functions_of, has_text, takes_struct, first_function, destructor_of}
use Rattle.vale_model.specs.Destruction as model
use Rattle.vale_code.specs.Kinds as code_kinds
use Rattle.vale_lowering_objects.specs.Code.{lowered_parts, functions_in, texts_of, lowered_function, kind_info, kind_of_name, is_destructor_of, function_with, methods_in}
use Rattle.vale_lowering_objects.specs.Destruction.{IsDestructor, SameDestructor}
use Rattle.vale_object_kinds.proofs.Holds.{Holds, Pair, holds_node, holds_plain, holds_both}
use Rattle.vale_object_kinds.proofs.Items.{AllClean}
use Rattle.vale_object_kinds.proofs.Known.{and_first, and_second, or_left, or_right, or_either}
use Rattle.vale_object_kinds.proofs.KnownParts.{none_in, first_kept, own_kept}

contradicts : (b : Bool) → b ≡ true → b ≡ false → ⊥
contradicts true e f = cc
contradicts false e f = cc

asked : (a b : Bool) → (a ⇒ b) ≡ true → a ≡ true → b ≡ true
asked true b e h = e
asked false b e h = absurd (cc)

not_false : (a : Bool) → not a ≡ true → a ≡ false
not_false true e = absurd (cc)
not_false false e = refl

or_none : (a b : Bool) → (a ≡ true → ⊥) → (b ≡ true → ⊥) → (a || b) ≡ true → ⊥
or_none true b f g e = f refl
or_none false b f g e = g e

turned : (m n : ℕ) → (m == n) ≡ true → (n == m) ≡ true
turned m n e = (Decides-eqb n m).1 (sym ((Decides-eqb m n).0 e))

-- ---- an item's name is its own

-- an item of this number
abbrev pub has_number : ℕ → Item → Bool
has_number q x = option_map_or (λ m. q == m.name.0) (item_name x) false

abbrev pub is_interface : ℕ → Item → Bool
is_interface q (interface_item n hs) = n.name.0 == q
is_interface q _ = false

abbrev pub is_struct : ℕ → Item → Bool
is_struct q (struct_item n fs) = q == n.name.0
is_struct q _ = false

module _ (names : List (List ℕ)) (items : List Item) where
  abbrev pub Clean : List Item → List Item → Type 0
  Clean before xs = AllClean (item_faults names items) before xs

  -- the name of a struct or an interface is new
  new_name : (before : List Item) (n : NameAt) → broken (kind_rules names before n) ≡ None → list_any (λ item. option_map_or (same_name n) (item_name item) false) before ≡ false
  new_name before n kept = second (is_built_in names n) (list_any (λ item. option_map_or (same_name n) (item_name item) false) before) (not_false _ (first_kept 10 (is_new_item names before n) [] kept).0)
    where
      second : (a b : Bool) → (a || b) ≡ false → b ≡ false
      second true b e = absurd (cc)
      second false b e = e

  clash : (q : ℕ) (before : List Item) (n : NameAt) → (q == n.name.0) ≡ true → list_any (has_number q) before ≡ true → list_any (λ item. option_map_or (same_name n) (item_name item) false) before ≡ false → ⊥
  clash q before n g e new = contradicts (list_any (has_number n.name.0) before) (subst (λ m. list_any (has_number m) before ≡ true) ((Decides-eqb q n.name.0).0 g) e) new

  struct_new : (before : List Item) (n : NameAt) (fs : List FieldDecl) → item_faults names items before (struct_item n fs) ≡ [] → list_any (λ item. option_map_or (same_name n) (item_name item) false) before ≡ false
  struct_new before n fs c = new_name before n (own_kept n.at (kind_rules names before n) (none_in (one_by_one (field_faults items) [] fs) (own n.at (kind_rules names before n)) c).1)

  interface_new : (before : List Item) (n : NameAt) (hs : List Head) → item_faults names items before (interface_item n hs) ≡ [] → list_any (λ item. option_map_or (same_name n) (item_name item) false) before ≡ false
  interface_new before n hs c = new_name before n (own_kept n.at (kind_rules names before n) (none_in (one_by_one (head_faults items n) [] hs) (own n.at (kind_rules names before n)) c).1)

  -- where an item of this number stands before, no struct and no interface of it follows
  pub later_struct : (q : ℕ) (before xs : List Item) → Clean before xs → list_any (has_number q) before ≡ true → list_any (is_struct q) xs ≡ true → ⊥
  later_struct q before [] c e f = cc
  later_struct q before (struct_item n fs ∷ xs) c e f =
      or_none (q == n.name.0) (list_any (is_struct q) xs) (λ g. clash q before n g e (struct_new before n fs c.0)) (λ g. later_struct q (struct_item n fs ∷ before) xs c.1 (or_right (q == n.name.0) (list_any (has_number q) before) e) g) f
  later_struct q before (interface_item n hs ∷ xs) c e f = later_struct q (interface_item n hs ∷ before) xs c.1 (or_right (q == n.name.0) (list_any (has_number q) before) e) f
  later_struct q before (impl_item at i s fs ∷ xs) c e f = later_struct q (impl_item at i s fs ∷ before) xs c.1 e f
  later_struct q before (function_item g ∷ xs) c e f = later_struct q (function_item g ∷ before) xs c.1 (or_right (has_number q (function_item g)) (list_any (has_number q) before) e) f

  later_interface : (q : ℕ) (before xs : List Item) → Clean before xs → list_any (has_number q) before ≡ true → list_any (is_interface q) xs ≡ true → ⊥
  later_interface q before [] c e f = cc
  later_interface q before (struct_item n fs ∷ xs) c e f = later_interface q (struct_item n fs ∷ before) xs c.1 (or_right (q == n.name.0) (list_any (has_number q) before) e) f
  later_interface q before (interface_item n hs ∷ xs) c e f =
      or_none (n.name.0 == q) (list_any (is_interface q) xs) (λ g. clash q before n (turned n.name.0 q g) e (interface_new before n hs c.0)) (λ g. later_interface q (interface_item n hs ∷ before) xs c.1 (or_right (q == n.name.0) (list_any (has_number q) before) e) g) f
  later_interface q before (impl_item at i s fs ∷ xs) c e f = later_interface q (impl_item at i s fs ∷ before) xs c.1 e f
  later_interface q before (function_item g ∷ xs) c e f = later_interface q (function_item g ∷ before) xs c.1 (or_right (has_number q (function_item g)) (list_any (has_number q) before) e) f

  -- no number is that of a struct and of an interface
  pub no_both : (q : ℕ) (before xs : List Item) → Clean before xs → list_any (is_struct q) xs ≡ true → list_any (is_interface q) xs ≡ true → ⊥
  no_both q before [] c e f = cc
  no_both q before (struct_item n fs ∷ xs) c e f =
      or_none (q == n.name.0) (list_any (is_struct q) xs) (λ g. later_interface q (struct_item n fs ∷ before) xs c.1 (or_left (q == n.name.0) (list_any (has_number q) before) g) f) (λ g. no_both q (struct_item n fs ∷ before) xs c.1 g f) e
  no_both q before (interface_item n hs ∷ xs) c e f =
      or_none (n.name.0 == q) (list_any (is_interface q) xs) (λ g. later_struct q (interface_item n hs ∷ before) xs c.1 (or_left (q == n.name.0) (list_any (has_number q) before) (turned n.name.0 q g)) e) (λ g. no_both q (interface_item n hs ∷ before) xs c.1 e g) f
  no_both q before (impl_item at i s fs ∷ xs) c e f = no_both q (impl_item at i s fs ∷ before) xs c.1 e f
  no_both q before (function_item g ∷ xs) c e f = no_both q (function_item g ∷ before) xs c.1 e f

  -- ---- functions named `drop`

  -- such a function is the destructor of a struct
  abbrev DropFine : Head → Type 0
  DropFine h = is_drop names h ≡ true → is_some (drops names items h) ≡ true

  abbrev DropItem : Item → Type 0
  DropItem (function_item (function h b)) = DropFine h
  DropItem _ = Unit {0}

  abbrev pub DropItems : List Item → Type 0
  DropItems [] = Unit {0}
  DropItems (x ∷ xs) = DropItem x × DropItems xs

  drop_item : (before : List Item) (x : Item) → item_faults names items before x ≡ [] → DropItem x
  drop_item before (struct_item n fs) c = tt
  drop_item before (interface_item n hs) c = tt
  drop_item before (impl_item at i s fs) c = tt
  drop_item before (function_item (function h b)) c =
      let declared = (in_block_body items b).declared in
      let rules = function_rules names items before h declared in
      let last = none_in (inside_head items h ++ (in_block_body items b).faults) (own (head_name h).at rules) c in
      let kept = own_kept (head_name h).at rules last.1 in
      let room = (17, has_room h declared) ∷ [] in
      let is_one = is_drop names h ⇒ is_some (drops names items h) in
      let has_main = is_first_main names items before h ⇒ list_any (is_function_with (is_lawful_main names)) items in
      let new = first_kept 10 (is_new_function names items before h) ((13, has_main) ∷ (15, is_one) ∷ room) kept in
      let main = first_kept 13 has_main ((15, is_one) ∷ room) new.1 in
      asked (is_drop names h) (is_some (drops names items h)) (first_kept 15 is_one room main.1).0

  pub drop_items : (before xs : List Item) → Clean before xs → DropItems xs
  drop_items before [] c = tt
  drop_items before (x ∷ xs) c = (drop_item before x c.0, drop_items (x ∷ before) xs c.1)

  abbrev pub DropFunctions : List t.Function → Type 0
  DropFunctions [] = Unit {0}
  DropFunctions (f ∷ fs) = DropFine (head_of f) × DropFunctions fs

  drop_both : (fs gs : List t.Function) → DropFunctions fs → DropFunctions gs → DropFunctions (fs ++ gs)
  drop_both [] gs d e = e
  drop_both (f ∷ fs) gs d e = (d.0, drop_both fs gs d.1 e)

  drop_at : (fs : List t.Function) (j : ℕ) (f : t.Function) → DropFunctions fs → slice_get fs j ≡ Some f → DropFine (head_of f)
  drop_at [] j f d e = absurd (cc)
  drop_at (g ∷ gs) zero f d e = let same : g ≡ f = cc in subst (λ z. DropFine (head_of z)) same d.0
  drop_at (g ∷ gs) (suc j) f d e = drop_at gs j f d.1 e

  -- ---- the typed items

  -- the methods of the interfaces of this number
  abbrev pub methods_of_tree : ℕ → Item → List (List Head)
  methods_of_tree q (interface_item n hs) = if n.name.0 == q then hs ∷ [] else []
  methods_of_tree q _ = []

  abbrev pub Matches : List Item → List t.Item → Type 0
  Matches xs zs = DropFunctions (flat_map functions_of zs) × ((q : ℕ) → flat_map (methods_in q) zs ≡ flat_map (methods_of_tree q) xs)

  abbrev MatchesOne : Item → t.Item → Type 0
  MatchesOne x z = DropFunctions (functions_of z) × ((q : ℕ) → methods_in q z ≡ methods_of_tree q x)

  -- the head of a function stays
  abbrev HasHead : Head → t.Function → Type 0
  HasHead h f = head_of f ≡ h

  abbrev Any : {A : Type 0} → A → Type 0
  Any a = Unit {0}

  any_holds : {A : Type 0} (j : Judged A) → Holds (Any {A = A}) j
  any_holds (fine a) = tt
  any_holds (faulty f fs) = tt

  function_head_stays : (h : Head) (b : Block) → Holds (HasHead h) (in_function names items (function h b))
  function_head_stays h b =
      holds_node Any (HasHead h) (head_name h).at (λ v. type_rules (head_gives h) (block_returns v)) (λ v. t.function_body h v) (void_block names items (entry h) b) (any_holds (void_block names items (entry h) b)) (λ v x kept. refl)

  one_matches : (x : Item) → DropItem x → Holds (MatchesOne x) (in_item names items x)
  one_matches (struct_item n fs) d = (tt, λ q. refl)
  one_matches (interface_item n hs) d = (tt, λ q. refl)
  one_matches (impl_item at i s fs) d = holds_plain Any (MatchesOne (impl_item at i s fs)) _ _ (any_holds (in_functions names items fs)) (λ v x. (tt, λ q. refl))
  one_matches (function_item (function h b)) d =
      holds_plain (HasHead h) (MatchesOne (function_item (function h b))) _ _ (function_head_stays h b) (λ f e. ((subst (λ z. DropFine z) (sym e) d, tt), λ q. refl))

  pub all_match : (xs : List Item) → DropItems xs → Holds (Matches xs) (in_items names items xs)
  all_match [] d = (tt, λ q. refl)
  all_match (x ∷ xs) d =
      holds_plain (Pair (MatchesOne x) (Matches xs)) (Matches (x ∷ xs)) _ _ (holds_both (MatchesOne x) (Matches xs) _ _ (one_matches x d.0) (all_match xs d.1))
      (λ v h. (
        drop_both (functions_of v.0) (flat_map functions_of v.1) h.0.0 h.1.0,
        λ q. ap (λ l. l ++ flat_map (methods_in q) v.1) (h.0.1 q) ∙ ap (λ l. methods_of_tree q x ++ l) (h.1.1 q),
      ))

  -- an interface of this number is there
  some_interface : (q : ℕ) (xs : List Item) (h : List Head) (hs : List (List Head)) → flat_map (methods_of_tree q) xs ≡ h ∷ hs → list_any (is_interface q) xs ≡ true
  some_interface q [] h hs e = absurd (cc)
  some_interface q (struct_item n fs ∷ xs) h hs e = some_interface q xs h hs e
  some_interface q (impl_item at i s fs ∷ xs) h hs e = some_interface q xs h hs e
  some_interface q (function_item f ∷ xs) h hs e = some_interface q xs h hs e
  some_interface q (interface_item n ms ∷ xs) h hs e = by (n.name.0 == q) (λ f. some_interface q xs h hs f) e
    where
      by : (b : Bool) → (flat_map (methods_of_tree q) xs ≡ h ∷ hs → list_any (is_interface q) xs ≡ true) → (if b then ms ∷ [] else []) ++ flat_map (methods_of_tree q) xs ≡ h ∷ hs → (b || list_any (is_interface q) xs) ≡ true
      by true rest e = refl
      by false rest e = rest e

  -- ---- the shape of a lawful `drop`

  abbrev DropShape : Head → Type 0
  DropShape (head false n (param self (named_type s) ∷ []) None) = list_any (is_struct_of s) items ≡ true
  DropShape _ = ⊥

  tested : (b : Bool) (s : NameAt) → is_some (if b then Some s else None) ≡ true → b ≡ true
  tested true s e = refl
  tested false s e = absurd (cc)

  drop_shape : (h : Head) → is_some (drops names items h) ≡ true → DropShape h
  drop_shape (head false n (param self (named_type s) ∷ []) None) e =
      let all = tested (is_called names (codes "drop") n && is_called names (codes "self") self && list_any (is_struct_of s) items) s e in
      and_second (is_called names (codes "drop") n && is_called names (codes "self") self) (list_any (is_struct_of s) items) all
  drop_shape _ e = absurd (cc)

  as_struct : (s : NameAt) (xs : List Item) → list_any (is_struct_of s) xs ≡ true → list_any (is_struct s.name.0) xs ≡ true
  as_struct s [] e = e
  as_struct s (struct_item n fs ∷ xs) e = or_either (s.name.0 == n.name.0) (list_any (is_struct_of s) xs) ((s.name.0 == n.name.0) || list_any (is_struct s.name.0) xs) (λ f. or_left _ _ f) (λ f. or_right _ _ (as_struct s xs f)) e
  as_struct s (interface_item n hs ∷ xs) e = as_struct s xs e
  as_struct s (impl_item at i j fs ∷ xs) e = as_struct s xs e
  as_struct s (function_item f ∷ xs) e = as_struct s xs e

  -- ---- destructors by their numbers

  abbrev Paired : (t.Function → Bool) → List t.Function → Option ℕ → Option t.Function → Type 0
  Paired test fs None None = Unit {0}
  Paired test fs (Some j) (Some f) = (slice_get fs j ≡ Some f) × (test f ≡ true)
  Paired test fs None (Some f) = ⊥
  Paired test fs (Some j) None = ⊥

  paired : (test : t.Function → Bool) (fs : List t.Function) → Paired test fs (function_with test fs) (first_function test fs)
  paired test [] = tt
  paired test (g ∷ gs) = by (test g) refl (paired test gs)
    where
      more : (o : Option ℕ) (f : Option t.Function) → Paired test gs o f → Paired test (g ∷ gs) (option_map (λ j. suc j) o) f
      more None None r = r
      more (Some j) (Some f) r = r
      more None (Some f) r = r
      more (Some j) None r = r

      by : (b : Bool) → test g ≡ b → Paired test gs (function_with test gs) (first_function test gs) → Paired test (g ∷ gs) (if b then Some 0 else option_map (λ j. suc j) (function_with test gs)) (if b then Some g else first_function test gs)
      by true e r = (refl, e)
      by false e r = more (function_with test gs) (first_function test gs) r

  module _ (clean : Clean [] items) (zs : List t.Item) (kinds : List Ty) (matches : Matches items zs) where
    abbrev p : Parts
    p = record { names = names; items = zs; kinds = kinds }

    abbrev functions : List t.Function
    functions = functions_in p

    abbrev texts : List (List ℕ)
    texts = texts_of p functions

    abbrev named_so : ℕ → t.Function → Bool
    named_so s f = has_text p (codes "drop") f && takes_struct s (head_params (head_of f))

    abbrev IsFound : ℕ → t.Function → Type 0
    IsFound j f = IsDestructor (lowered_parts p) functions j f

    is_found : (s j : ℕ) (h : Head) (b : t.Block) → DropShape h → slice_get functions j ≡ Some (t.function_body h b) → named_so s (t.function_body h b) ≡ true → IsFound j (t.function_body h b)
    is_found s j (head false n (param self (named_type m) ∷ []) None) b shape e test = record {
      meant = e;
      func = lowered_function p texts functions (t.function_body (head false n (param self (named_type m) ∷ []) None) b);
      here = slice_get-map (lowered_function p texts functions) functions j ∙ ap (option_map (lowered_function p texts functions)) e;
      form = ap (λ x. if x then 3 else 0) (and_first (has_text p (codes "drop") (t.function_body (head false n (param self (named_type m) ∷ []) None) b)) (takes_struct s (param self (named_type m) ∷ [])) test);
      takes = refl;
      gives = refl;
    }
    is_found s j _ b shape e test = absurd shape

    shape_at : (s j : ℕ) (f : t.Function) → slice_get functions j ≡ Some f → named_so s f ≡ true → DropShape (head_of f)
    shape_at s j f e test = drop_shape (head_of f) (drop_at functions j f matches.0 e (and_first (has_text p (codes "drop") f) (takes_struct s (head_params (head_of f))) test))

    found_at : (s j : ℕ) (f : t.Function) → slice_get functions j ≡ Some f → named_so s f ≡ true → IsFound j f
    found_at s j (t.function_body h b) e test = is_found s j h b (shape_at s j (t.function_body h b) e test) e test

    -- the struct of a destructor is one
    its_struct : (s : ℕ) (h : Head) → DropShape h → takes_struct s (head_params h) ≡ true → list_any (is_struct s) items ≡ true
    its_struct s (head false n (param self (named_type m) ∷ []) None) shape takes = subst (λ q. list_any (is_struct q) items ≡ true) ((Decides-eqb m.name.0 s).0 takes) (as_struct m items shape)
    its_struct s _ shape takes = absurd shape

    by_methods : (s : ℕ) (hs : List (List Head)) → flat_map (methods_in s) zs ≡ hs → SameDestructor (lowered_parts p) functions (code_kinds.destructor_in (Some (kind_of_name p texts functions s hs))) (destructor_of p s)
    by_methods s [] e = of_pair (function_with (is_destructor_of p s) functions) (first_function (named_so s) functions) (paired (named_so s) functions)
      where
        of_pair : (o : Option ℕ) (f : Option t.Function) → Paired (named_so s) functions o f → SameDestructor (lowered_parts p) functions o f
        of_pair None None r = tt
        of_pair (Some j) (Some f) r = found_at s j f r.0 r.1
        of_pair None (Some f) r = r
        of_pair (Some j) None r = r
    by_methods s (h ∷ hs) e = of_pair (function_with (named_so s) functions) (first_function (named_so s) functions) (paired (named_so s) functions)
      where
        there : list_any (is_interface s) items ≡ true
        there = some_interface s items h hs (sym (matches.1 s) ∙ e)

        of_pair : (o : Option ℕ) (f : Option t.Function) → Paired (named_so s) functions o f → SameDestructor (lowered_parts p) functions None f
        of_pair None None r = tt
        of_pair (Some j) (Some f) r = no_both s [] items clean (its_struct s (head_of f) (shape_at s j f r.0 r.1) (and_second (has_text p (codes "drop") f) (takes_struct s (head_params (head_of f))) r.1)) there
        of_pair None (Some f) r = r
        of_pair (Some j) None r = tt

    pub by_type : (x : Ty) → SameDestructor (lowered_parts p) functions (code_kinds.destructor_in (Some (kind_info p texts functions x))) (model.destructor_in p (Some x))
    by_type (kind s) = by_methods s (flat_map (methods_in s) zs) refl
    by_type (array x) = tt
    by_type void = tt
    by_type int = tt
    by_type bool = tt
    by_type str = tt
    by_type (ref x) = tt
    by_type (imm x) = tt
    by_type (iso x) = tt
