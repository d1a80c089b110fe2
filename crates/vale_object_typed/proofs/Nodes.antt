-- What is known of single nodes that keep the rules of types, from their parts.
use Rattle.std.proofs.Common.{◌≡◌, ℕ, Bool, true, false, ◌||◌, ◌&&◌, ◌==◌, List, [], ◌∷◌, length, Option, Some, None, is_some, ◌⊎◌, inl, inr, refl, sym, ap, ◌∙◌, subst, ⊎_elim}
use Rattle.std.specs.List.{list_any, list_all}
use Rattle.std.specs.Option.{option_map_or}
use Rattle.std.proofs.lemmas.Bool.{and_parts}
use Rattle.vale_base.specs.declared.spot.Spot.{Spot}
use Rattle.vale_syntax.specs.declared.built_in.BuiltIn.{BuiltIn}
use Rattle.vale_syntax.specs.declared.built_in.BuiltIn.TheVariants as b
use Rattle.vale_syntax.specs.declared.tree.NameAt.{NameAt}
use Rattle.vale_syntax.specs.declared.tree.UnaryOp.{UnaryOp}
use Rattle.vale_syntax.specs.declared.tree.UnaryOp.TheVariants as u
use Rattle.vale_syntax.specs.Tree.{Head, FieldDecl, Item, Steps, no_steps, more_steps}
use Rattle.vale_rules_spec.specs.Declarations.{head_params}
use Rattle.vale_rules_spec.specs.Judged.{◌⇒◌, broken}
use Rattle.vale_rules_spec.specs.TypeRules.{is_int, is_bool, is_array_ref, is_owned_place, borrow_gives, unary_rules, unary_gives, may_push, takes_arguments, arity, all_fit, as_many, Called, nothing, language, struct, program, built_ins, built_in_among, called_else, called, callee, called_rules, called_gives, built_in_gives, field_types, param_types, is_pure_head, head_gives, set_rules, set_gives, struct_fields}
use Rattle.vale_rules_spec.specs.Types.{Ty, void, int, bool, str, kind, array, ref, imm, iso, same, is_owned, object_of, as_shared, View, shared, seen_object, Seen, a_value, value_view, view_here, Local, local_of, fields_of, function_named, fits}
use Rattle.vale_rules_spec.specs.Typed as t
use Rattle.vale_rules_spec.specs.Typed.{step_seen, steps_seen}
use Rattle.vale_rules_spec.specs.Typing.{Env, named, is_used}
use Rattle.vale_rules_spec.specs.Takes.{is_value_under}
use Rattle.vale_model.specs.Parts.{Parts}
use Rattle.vale_code.specs.Parts.{Parts as Code}
use Rattle.vale_lowering_objects.specs.Lowered.{step_view}
use Rattle.vale_object_facts.specs.Stands.{lent, lent_last}
use Rattle.vale_object_facts.specs.Suits.{HasItems, code_types, all_are, measured, built_in_suits, callee_suits, is_opened, lent_from, lent_suits, node_suits, start_suits, steps_suit, place_suits}
use Rattle.vale_object_typed.specs.Covered.{types_are_covered, callee_is_covered, unary_is_covered, starts, expr_is_covered, node_is_covered}
use Rattle.vale_object_typed.specs.Fit.{is_impl_item}
use Rattle.vale_object_typed.specs.Tables.{HasTables}
use Rattle.vale_object_typed.proofs.Shapes.{here, Sees, Leads, Covered, Suited, suits_value, named_suits, local_starts, value_refers, plain_lent, owned_lent}
use Rattle.vale_object_typed.proofs.Steps.{ObjectCovered, StepFits, StepsFit, Kept, place_more}
use Rattle.vale_object_typed.proofs.Types.{same_is, rule_kept, one_rule, asked, impossible, fits_same, all_same}

pub called_struct : (a : Option BuiltIn) (fields : Option (List FieldDecl)) (h : Option Head) (fs : List FieldDecl) → called_else a fields h ≡ struct fs → fields ≡ Some fs
called_struct (Some f) fields h fs e = absurd (cc)
called_struct None (Some gs) h fs e = let same : gs ≡ fs = cc in ap Some same
called_struct None None (Some g) fs e = absurd (cc)
called_struct None None None fs e = absurd (cc)

module _ (names : List (List ℕ)) (items : List Item) (plain : list_any is_impl_item items ≡ false) (p : Parts) (c : Code) (functions : List t.Function) (tables : HasTables names items p c functions) where
  abbrev Cov : Ty → Type 0
  Cov = Covered p c functions

  same_type : (x z : Ty) → Cov x → fits items x z ≡ true → x ≡ z
  same_type x z cov e = fits_same items plain p.kinds c.texts x z cov e

  pub type_covered : (e : t.Expr) → expr_is_covered p.kinds c.texts e → Cov (t.type e)
  type_covered (t.expr s node) cov = cov.0

  array_here : (v : View) (x : Ty) → seen_object v ≡ Some (array x) → list_any (same (array x)) p.kinds ≡ true → HasItems p c v x
  array_here v x e listed = record { object = e; cell = tables.elements x listed }

  -- ---- names

  pub name_meets : (env : Env) (as_value : Bool) (n : NameAt) (o : Option Local) → local_of n.name.0 env.scope ≡ o → is_some o ≡ true → expr_is_covered p.kinds c.texts (named env as_value n o) → Suited p c functions env as_value (named env as_value n o)
  name_meets env as_value n None e there cov = absurd (cc)
  name_meets env as_value n (Some l) e there cov = named_suits p c functions env as_value n l e cov.1

  -- ---- `set`

  no_place : (s : Seen) → s ≡ a_value s.value → is_some s.place ≡ false
  no_place s e = ap (λ q. is_some q.place) e

  place_by : (env : Env) (pl : t.Expr) (x : Ty) → Cov x → Suited p c functions env false pl → option_map_or (fits items x) (t.seen pl).place true ≡ true → is_some (t.seen pl).place ≡ true → place_suits p c functions env x pl × (set_gives (t.seen pl).place ≡ x)
  place_by env (t.expr s (t.name n o moved)) x cov h fit there =
      let shape = h.1 in
      let place : s.place ≡ Some shape.0.ty = ap (λ q. q.place) shape.2 in
      let is : x ≡ shape.0.ty = same_type x shape.0.ty cov (subst (λ q. option_map_or (fits items x) q true ≡ true) place fit) in
      (record { is = shape.0; found = shape.1; typed = sym is; depth = shape.3 }, ap set_gives place ∙ sym is)
  place_by env (t.expr s (t.steps e ss)) x cov h fit there =
      let shape = h.1 in
      let is : x ≡ shape.0 = same_type x shape.0 cov (subst (λ q. option_map_or (fits items x) q true ≡ true) shape.1 fit) in
      (subst (λ z. place_suits p c functions env z (t.expr s (t.steps e ss))) (sym is) shape.2, ap set_gives shape.1 ∙ sym is)
  place_by env (t.expr s node) x cov h fit there = absurd (let f : true ≡ false = sym there ∙ no_place s h.1 in cc)

  pub set_meets : (env : Env) (as_value : Bool) (at : Spot) (pl e : t.Expr) → Suited p c functions env false pl → Suited p c functions env true e → Cov (t.type e) → broken (set_rules items (t.may_be_set pl) (t.seen pl).place (t.type e)) ≡ None
      → Suited p c functions env as_value (t.expr (a_value (set_gives (t.seen pl).place)) (t.set at pl e))
  set_meets env as_value at pl e hp he cov kept =
      let one = rule_kept 20 (option_map_or (fits items (t.type e)) (t.seen pl).place true) ((23, is_some (t.seen pl).place) ∷ (24, t.may_be_set pl) ∷ []) kept in
      let two = rule_kept 23 (is_some (t.seen pl).place) ((24, t.may_be_set pl) ∷ []) one.1 in
      let place = place_by env pl (t.type e) cov hp one.0 two.0 in
      ((place.0, place.1, suits_value p c functions env e he), refl, λ used. refl)

  -- ---- operators of one value

  owner_lent : (x : Ty) → Cov x → is_owned x ≡ true → lent_from x (view_here x) × (borrow_gives (view_here x) ≡ ref x)
  owner_lent (kind n) cov e = ((refl, refl), refl)
  owner_lent (array z) cov e = ((refl, refl), refl)
  owner_lent (iso z) cov e = absurd cov
  owner_lent (imm z) cov e = absurd cov
  owner_lent (ref z) cov e = absurd (cc)
  owner_lent void cov e = absurd (cc)
  owner_lent int cov e = absurd (cc)
  owner_lent bool cov e = absurd (cc)
  owner_lent str cov e = absurd (cc)

  borrow_by : (env : Env) (a : t.Expr) → expr_is_covered p.kinds c.texts a → Suited p c functions env false a → is_owned_place (t.seen a).place ≡ true → is_some (t.seen a).place ≡ true → lent_suits p c functions env (borrow_gives (t.seen a).view) a
  borrow_by env (t.expr s (t.name n o false)) cov h owned there =
      let shape = h.1 in
      let l = shape.0 in
      let covered : Cov l.ty = subst (λ q. Cov q.value) shape.2 cov.0 in
      let owner : is_owned l.ty ≡ true = ap (λ q. is_owned_place q.place) (sym shape.2) ∙ owned in
      let from = owner_lent l.ty covered owner in
      (l.ty, record { is = l; found = shape.1; typed = refl; depth = shape.3 }, subst (λ q. lent_from l.ty q.view) (sym shape.2) from.0, ap (λ q. borrow_gives q.view) shape.2 ∙ from.1)
  borrow_by env (t.expr s (t.name n o true)) cov h owned there = absurd (let f : true ≡ false = h.1.4 refl in cc)
  borrow_by env (t.expr s (t.steps e ss)) cov h owned there =
      let shape = h.1 in
      subst (λ z. node_suits p c functions env z (t.steps e ss)) (owned_lent p c functions s shape.0 shape.1 (ap is_owned_place (sym shape.1) ∙ owned)) h.0
  borrow_by env (t.expr s node) cov h owned there = absurd (let f : true ≡ false = sym there ∙ no_place s h.1 in cc)

  pub unary_meets : (env : Env) (as_value : Bool) (at : Spot) (op : UnaryOp) (a : t.Expr) → Suited p c functions env (is_value_under op) a → expr_is_covered p.kinds c.texts a → unary_is_covered p.kinds c.texts op → broken (unary_rules op (t.seen a)) ≡ None
      → Suited p c functions env as_value (t.expr (a_value (unary_gives op (t.seen a))) (t.unary at op a))
  unary_meets env as_value at u.Minus a h cov op kept = ((same_is (t.type a) int (one_rule 20 (is_int (t.type a)) kept), refl, suits_value p c functions env a h), refl, λ used. refl)
  unary_meets env as_value at u.Not a h cov op kept = ((same_is (t.type a) bool (one_rule 20 (is_bool (t.type a)) kept), refl, suits_value p c functions env a h), refl, λ used. refl)
  unary_meets env as_value at u.Borrow a h cov op kept =
      let place = (t.seen a).place in
      let one = rule_kept 20 (is_some place ⇒ is_owned_place place) ((23, is_some place) ∷ []) kept in
      let there = one_rule 23 (is_some place) one.1 in
      (borrow_by env a cov h (asked (is_some place) (is_owned_place place) one.0 there) there, refl, λ used. refl)
  unary_meets env as_value at u.Merge a h cov op kept = absurd op

  -- ---- calls

  int_is : (x : Ty) → is_int x ≡ true → x ≡ int
  int_is x e = same_is x int e

  either_is : (a b : Bool) → (a || b) ≡ true → (a ≡ true) ⊎ (b ≡ true)
  either_is true b e = inl refl
  either_is false b e = inr e

  -- the array that a reference leads to
  array_of : (x : Ty) → Cov x → is_array_ref x ≡ true → (z : Ty) × (x ≡ ref (array z)) × HasItems p c (shared (array z)) z
  array_of (ref (array x)) cov e = (x, refl, array_here (shared (array x)) x refl cov.1.0)
  array_of (imm z) cov e = absurd cov
  array_of (iso z) cov e = absurd cov
  array_of void cov e = absurd (cc)
  array_of int cov e = absurd (cc)
  array_of bool cov e = absurd (cc)
  array_of str cov e = absurd (cc)
  array_of (kind n) cov e = absurd (cc)
  array_of (array z) cov e = absurd (cc)
  array_of (ref void) cov e = absurd (cc)
  array_of (ref int) cov e = absurd (cc)
  array_of (ref bool) cov e = absurd (cc)
  array_of (ref str) cov e = absurd (cc)
  array_of (ref (kind n)) cov e = absurd (cc)
  array_of (ref (ref z)) cov e = absurd (cc)
  array_of (ref (imm z)) cov e = absurd (cc)
  array_of (ref (iso z)) cov e = absurd (cc)

  either_length : (x : Ty) → Cov x → (same x str || is_array_ref x) ≡ true → measured p c functions x
  either_length x cov e =
      ⊎_elim (λ s. inl (same_is x str s)) (λ r. let a = array_of x cov r in inr (shared (array a.0), a.0, a.1, a.2)) (either_is (same x str) (is_array_ref x) e)

  push_fits : (x z : Ty) → Cov x → Cov z → may_push items x z ≡ true → (x ≡ ref (array z)) × HasItems p c (shared (array z)) z
  push_fits (ref (array x)) z cov cz e =
      let is : z ≡ x = same_type z x cz e in
      subst (λ w. (ref (array w) ≡ ref (array z)) × HasItems p c (shared (array z)) z) is (refl, subst (λ w. HasItems p c (shared (array w)) w) (sym is) (array_here (shared (array x)) x refl cov.1.0))
  push_fits (imm x) z cov cz e = absurd cov
  push_fits (iso x) z cov cz e = absurd cov
  push_fits void z cov cz e = absurd (cc)
  push_fits int z cov cz e = absurd (cc)
  push_fits bool z cov cz e = absurd (cc)
  push_fits str z cov cz e = absurd (cc)
  push_fits (kind n) z cov cz e = absurd (cc)
  push_fits (array x) z cov cz e = absurd (cc)
  push_fits (ref void) z cov cz e = absurd (cc)
  push_fits (ref int) z cov cz e = absurd (cc)
  push_fits (ref bool) z cov cz e = absurd (cc)
  push_fits (ref str) z cov cz e = absurd (cc)
  push_fits (ref (kind n)) z cov cz e = absurd (cc)
  push_fits (ref (ref x)) z cov cz e = absurd (cc)
  push_fits (ref (imm x)) z cov cz e = absurd (cc)
  push_fits (ref (iso x)) z cov cz e = absurd (cc)

  pop_meets : (x : Ty) → Cov x → is_array_ref x ≡ true → built_in_suits p c functions b.Pop (x ∷ []) (built_in_gives b.Pop (x ∷ []))
  pop_meets x cov e = let a = array_of x cov e in subst (λ w. built_in_suits p c functions b.Pop (w ∷ []) (built_in_gives b.Pop (w ∷ []))) (sym a.1) (refl, a.2)

  built_in_meets : (f : BuiltIn) (ts : List Ty) → types_are_covered p.kinds c.texts ts → takes_arguments items f ts ≡ true → built_in_suits p c functions f ts (built_in_gives f ts)
  built_in_meets b.Print (x ∷ []) cov e = (e, refl)
  built_in_meets b.Println (x ∷ []) cov e = (e, refl)
  built_in_meets b.Drop (x ∷ []) cov e = (e, refl)
  built_in_meets b.Len (x ∷ []) cov e = (refl, either_length x cov.0 e)
  built_in_meets b.Push (x ∷ z ∷ []) cov e = let f = push_fits x z cov.0 cov.1.0 e in (refl, f.0, f.1)
  built_in_meets b.Pop (x ∷ []) cov e = pop_meets x cov.0 e
  built_in_meets b.Text (x ∷ []) cov e = (int_is x e, refl)
  built_in_meets b.Slice (x ∷ z ∷ w ∷ []) cov e =
      let two = and_parts (same x str && is_int z) (is_int w) e in
      let one = and_parts (same x str) (is_int z) two.0 in
      (same_is x str one.0, int_is z one.1, int_is w two.1, refl)
  built_in_meets b.Byte (x ∷ z ∷ []) cov e = let one = and_parts (same x str) (is_int z) e in (same_is x str one.0, int_is z one.1, refl)
  built_in_meets b.IsNumber (x ∷ []) cov e = (same_is x str e, refl)
  built_in_meets b.Number (x ∷ []) cov e = (same_is x str e, refl)
  built_in_meets _ _ cov e = impossible e

  called_plain : (n : NameAt) (h : Head) (pure : Bool) (ts : List Ty) → is_pure_head h ≡ pure → called names items n ≡ program h → types_are_covered p.kinds c.texts ts → callee_is_covered p.kinds c.texts (t.function pure) → all_fit items pure ts (param_types (head_params h)) ≡ true
      → callee_suits p c functions n (t.function pure) ts (head_gives h)
  called_plain n h true ts is e cov may fit = absurd may
  called_plain n h false ts is e cov may fit =
      let f = tables.callable n h e is in
      let same : ts ≡ param_types (head_params h) = all_same items plain p.kinds c.texts ts (param_types (head_params h)) cov fit in
      record { func = f.func; here = f.here; plain = f.plain; takes = f.takes ∙ ap (code_types p) (sym same); gives = f.gives }

  pub callee_meets : (n : NameAt) (cl : Called) → called names items n ≡ cl → (ts : List Ty) → types_are_covered p.kinds c.texts ts → callee_is_covered p.kinds c.texts (callee cl) → broken (called_rules items cl ts) ≡ None → callee_suits p c functions n (callee cl) ts (called_gives n cl ts)
  callee_meets n nothing e ts cov some kept = absurd (let f : false ≡ true = one_rule 21 false kept in cc)
  callee_meets n (language f) e ts cov some kept =
      let many = length ts == arity f in
      let takes = takes_arguments items f ts in
      let one = rule_kept 20 (many ⇒ takes) ((22, many) ∷ []) kept in
      built_in_meets f ts cov (asked many takes one.0 (one_rule 22 many one.1))
  callee_meets n (struct fs) e ts cov some kept =
      let takes = field_types fs in
      let many = as_many ts takes in
      let one = rule_kept 20 (many ⇒ all_fit items false ts takes) ((22, many) ∷ []) kept in
      let same : ts ≡ takes = all_same items plain p.kinds c.texts ts takes cov (asked many (all_fit items false ts takes) one.0 (one_rule 22 many one.1)) in
      (refl, tables.made n.name.0 fs (called_struct (built_in_among built_ins names n) (fields_of items n.name.0) (function_named items n.name.0) fs e) ∙ ap (λ zs. Some (code_types p zs)) (sym same))
  callee_meets n (program h) e ts cov some kept =
      let takes = param_types (head_params h) in
      let many = as_many ts takes in
      let one = rule_kept 20 (many ⇒ all_fit items (is_pure_head h) ts takes) ((22, many) ∷ []) kept in
      called_plain n h (is_pure_head h) ts refl e cov some (asked many (all_fit items (is_pure_head h) ts takes) one.0 (one_rule 22 many one.1))

  -- ---- arrays and destructuring

  pub all_alike : (z : Ty) (ts : List Ty) → types_are_covered p.kinds c.texts ts → list_all (λ x. fits items x z) ts ≡ true → all_are z ts
  all_alike z [] cov e = tt
  all_alike z (x ∷ ts) cov e = let q = and_parts (fits items x z) (list_all (λ x. fits items x z) ts) e in (same_type x z cov.0 q.0, all_alike z ts cov.1 q.1)

  opened_fields : (n : ℕ) (o : Option (List FieldDecl)) → fields_of items n ≡ o → is_some o ≡ true → is_opened p c functions (kind n) (option_map_or field_types o [])
  opened_fields n None e there = absurd (cc)
  opened_fields n (Some fs) e there = (n, refl, tables.made n fs e)

  pub opened_meets : (x : Ty) → is_some (struct_fields items x) ≡ true → is_opened p c functions x (option_map_or field_types (struct_fields items x) [])
  opened_meets (kind n) there = opened_fields n (fields_of items n) refl there
  opened_meets void there = absurd (cc)
  opened_meets int there = absurd (cc)
  opened_meets bool there = absurd (cc)
  opened_meets str there = absurd (cc)
  opened_meets (array x) there = absurd (cc)
  opened_meets (ref x) there = absurd (cc)
  opened_meets (imm x) there = absurd (cc)
  opened_meets (iso x) there = absurd (cc)

  -- ---- steps from an expression

  here_covered : (x : Ty) → Cov x → ObjectCovered names items p c functions tables (view_here x)
  here_covered (kind n) cov w e = let q : kind n ≡ w = cc in subst Cov q cov
  here_covered (array z) cov w e = let q : array z ≡ w = cc in subst Cov q cov
  here_covered (ref z) cov w e = let q : z ≡ w = cc in subst Cov q cov.1
  here_covered (imm z) cov w e = absurd cov
  here_covered (iso z) cov w e = absurd cov
  here_covered void cov w e = absurd (cc)
  here_covered int cov w e = absurd (cc)
  here_covered bool cov w e = absurd (cc)
  here_covered str cov w e = absurd (cc)

  value_covered : (x : Ty) → Cov x → ObjectCovered names items p c functions tables (value_view x)
  value_covered (ref z) cov w e = let q : z ≡ w = cc in subst Cov q cov.1
  value_covered (imm z) cov w e = absurd cov
  value_covered (iso z) cov w e = absurd cov
  value_covered (kind n) cov w e = absurd (cc)
  value_covered (array z) cov w e = absurd (cc)
  value_covered void cov w e = absurd (cc)
  value_covered int cov w e = absurd (cc)
  value_covered bool cov w e = absurd (cc)
  value_covered str cov w e = absurd (cc)

  local_type : (env : Env) (as_value : Bool) (s : Seen) (l : Local) → s ≡ here l → Cov s.value → Cov l.ty
  local_type env as_value s l e cov = subst (λ q. Cov q.value) e cov

  base_covered : (env : Env) (a : t.Expr) → Suited p c functions env false a → expr_is_covered p.kinds c.texts a → starts p.kinds c.texts a → ObjectCovered names items p c functions tables (t.seen a).view
  base_covered env (t.expr s (t.name n o moved)) h cov st = subst (λ q. ObjectCovered names items p c functions tables q.view) (sym h.1.2) (here_covered h.1.0.ty (local_type env false s h.1.0 h.1.2 cov.0))
  base_covered env (t.expr s (t.steps e ss)) h cov st = absurd st
  base_covered env (t.expr s node) h cov st = subst (λ q. ObjectCovered names items p c functions tables q.view) (sym h.1) (value_covered s.value cov.0)

  start_by : (env : Env) (a : t.Expr) (v : View) → Suited p c functions env false a → expr_is_covered p.kinds c.texts a → starts p.kinds c.texts a → Sees (t.seen a).view v → Leads v → start_suits p c functions env v a
  start_by env (t.expr s (t.name n o false)) v h cov st sees leads =
      let l = h.1.0 in
      (l.ty, record { is = l; found = h.1.1; typed = refl; depth = h.1.3 }, local_starts p c functions l.ty v (local_type env false s l h.1.2 cov.0) (subst (λ q. Sees q.view v) h.1.2 sees) leads)
  start_by env (t.expr s (t.name n o true)) v h cov st sees leads = absurd (let f : true ≡ false = h.1.4 refl in cc)
  start_by env (t.expr s (t.steps e ss)) v h cov st sees leads = absurd st
  start_by env (t.expr s node) v h cov st sees leads = (value_refers p c functions s.value v cov.0 (subst (λ q. Sees q.view v) h.1 sees) leads, h.0)

  pub keeps_by : (as_value : Bool) (ss : Steps) (z : Ty) → (is_used as_value ss ≡ true → is_owned z ≡ false) → Kept names items p c functions tables as_value ss z
  keeps_by as_value no_steps z k = k
  keeps_by as_value (more_steps s ss) z k = tt

  pub first_by : (env : Env) (as_value : Bool) (ss : Steps) (a : t.Expr) (x : t.Step) (xs : t.Steps) → Suited p c functions env false a → StepFits names items p c functions tables env (is_used as_value ss) (t.seen a).view x → StepsFit names items p c functions tables env as_value ss (step_seen x) xs
      → node_is_covered p.kinds c.texts (t.steps a (t.more_steps x xs)) → Suited p c functions env as_value (t.expr (steps_seen (step_seen x) xs) (t.steps a (t.more_steps x xs)))
  first_by env as_value ss a x xs h fits more cov =
      let one = fits (base_covered env a h cov.1 cov.0) cov.2 in
      let ends = one.1 in
      let rest = more ends.z ends.seen ends.covered (keeps_by as_value ss ends.z ends.kept) cov.3 in
      let start = start_by env a (step_view x) h cov.1 cov.0 ends.sees ends.leads in
      let lent_same : lent (step_seen x) ≡ lent (as_shared ends.z (object_of ends.z)) = ap lent ends.seen in
      let s = steps_seen (step_seen x) xs in
      let place : s.place ≡ Some rest.end = ap (λ q. (steps_seen q xs).place) ends.seen ∙ rest.place in
      let last : lent_last (lent (step_seen x)) xs ≡ lent s = ap (λ w. lent_last w xs) lent_same ∙ rest.last ∙ sym (ap (λ q. lent (steps_seen q xs)) ends.seen) in (
        (start, one.0, subst (λ w. steps_suit p c functions env w xs) (sym lent_same) rest.suits, sym last),
        (rest.end, place, place_more names items p c functions tables env s a ends.z rest.end x xs start one.0 ends.sets lent_same rest.targets),
        λ used. plain_lent p c functions s rest.end place (rest.kept used),
      )
