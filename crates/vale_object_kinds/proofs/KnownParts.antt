-- What the phase of types accepts has known types alone: by induction on the tree.
use Rattle.std.proofs.Common.{◌≡◌, ℕ, Bool, true, false, not, ◌&&◌, ◌||◌, ◌==◌, List, [], ◌∷◌, ◌++◌, Option, Some, None, if◌then◌else◌, refl}
use Rattle.std.specs.Option.{option_and_then, option_map_or}
use Rattle.vale_base.specs.declared.spot.Spot.{Spot}
use Rattle.vale_syntax.specs.declared.built_in.BuiltIn.{BuiltIn}
use Rattle.vale_syntax.specs.declared.built_in.BuiltIn.TheVariants as b
use Rattle.vale_syntax.specs.declared.position.Position.{Position}
use Rattle.vale_syntax.specs.declared.position.Position.TheVariants.{Value, Element}
use Rattle.vale_syntax.specs.declared.tree.NameAt.{NameAt}
use Rattle.vale_syntax.specs.declared.tree.BinaryOp.{BinaryOp}
use Rattle.vale_syntax.specs.declared.tree.BinaryOp.TheVariants as o
use Rattle.vale_syntax.specs.declared.tree.UnaryOp.{UnaryOp}
use Rattle.vale_syntax.specs.declared.tree.UnaryOp.TheVariants as u
use Rattle.vale_syntax.specs.Tree.{TypeExpr, int_type, bool_type, str_type, named_type, array_type, ref_type, imm_ref_type, iso_type, Head, FieldDecl, field_decl, Item, struct_item, interface_item, impl_item, function_item}
use Rattle.std.specs.List.{list_any}
use Rattle.vale_rules_spec.specs.Declarations.{field_type, head_name, reaches_iso, is_struct_of, is_interface_of, is_object}
use Rattle.vale_rules_spec.specs.DeclFaults.{type_faults}
use Rattle.vale_rules_spec.specs.DeclRules.{is_kind, may_hold_frozen, may_hold_isolates, named_rules, ref_rules, imm_ref_rules, iso_rules as iso_type_rules, array_rules as array_type_rules}
use Rattle.vale_rules_spec.specs.Judged.{broken, Rules, own, fault_of, ◌⇒◌}
use Rattle.vale_rules_spec.specs.Types.{Ty, void, int, bool, str, is_owner, type_of, View, blind, direct, shared, frozen, seen_object, Seen, a_value, value_view, view_here, as_frozen, as_shared, part_seen, object_of, Local, local_of, local_seen, fields_of, field_named, methods_of, method_named, function_named, may_be_isolated, is_copy}
use Rattle.vale_rules_spec.specs.Types as y
use Rattle.vale_rules_spec.specs.Typed as t
use Rattle.vale_rules_spec.specs.TypeRules.{link_gives, borrow_gives, merge_gives, unary_gives, called_else, called_gives, built_in_gives, popped, field_types, head_gives, array_in, part_of, method_gives, set_gives, parallel_gives, isolate_in, struct_fields, iso_rules}
use Rattle.vale_rules_spec.specs.Typing.{Env, with_local, with_locals, after, named, isolate_of, type_in}
use Rattle.vale_model.specs.Kinds.{expr_arrays, exprs_arrays, link_arrays, links_arrays, step_arrays, steps_arrays, form_arrays, else_if_arrays, elses_arrays, block_arrays, stmts_arrays, stmt_arrays}
use Rattle.vale_object_kinds.proofs.Known.{and_first, is_declared, known, Known, KnownOwner, owner_known, Arrays, no_arrays, object_known}

-- ---- no faults

pub none_in : {A : Type 0} (xs ys : List A) → xs ++ ys ≡ [] → (xs ≡ []) × (ys ≡ [])
none_in [] ys e = (refl, e)
none_in (x ∷ xs) ys e = absurd (cc)

rules_kept : (at : Spot) (code : Option ℕ) → fault_of at code ≡ [] → code ≡ None
rules_kept at None e = refl
rules_kept at (Some c) e = absurd (cc)

-- a row that is kept, from its first rule on
pub first_kept : (code : ℕ) (x : Bool) (rules : Rules) → broken ((code, x) ∷ rules) ≡ None → (x ≡ true) × (broken rules ≡ None)
first_kept code true rules e = (refl, e)
first_kept code false rules e = absurd (cc)

pub own_kept : (at : Spot) (rules : Rules) → own at rules ≡ [] → broken rules ≡ None
own_kept at rules e = rules_kept at (broken rules) e

-- ---- names that are declared

or_first : (a x z c : Bool) → ((x || z) ≡ true → c ≡ true) → ((a || x) || z) ≡ true → (a || c) ≡ true
or_first true x z c f e = refl
or_first false x z c f e = f e

or_second : (a x z c : Bool) → ((x || z) ≡ true → c ≡ true) → (x || (a || z)) ≡ true → (a || c) ≡ true
or_second true x z c f e = refl
or_second false x z c f e = f e

kind_there : (n : NameAt) (xs : List Item) → is_kind xs n ≡ true → is_declared xs n.name.0 ≡ true
kind_there n [] e = e
kind_there n (struct_item m fs ∷ xs) e = or_first (n.name.0 == m.name.0) (list_any (is_struct_of n) xs) (list_any (is_interface_of n) xs) (is_declared xs n.name.0) (kind_there n xs) e
kind_there n (interface_item m hs ∷ xs) e = or_second (n.name.0 == m.name.0) (list_any (is_struct_of n) xs) (list_any (is_interface_of n) xs) (is_declared xs n.name.0) (kind_there n xs) e
kind_there n (impl_item at i j fs ∷ xs) e = kind_there n xs e
kind_there n (function_item f ∷ xs) e = kind_there n xs e

module _ (items : List Item) where
  -- ---- types that are written

  owner_is : (x : TypeExpr) → is_object x ≡ true → Known items (type_of x) → KnownOwner items (type_of x)
  owner_is (named_type n) e k = k
  owner_is (array_type at x) e k = k
  owner_is (int_type at) e k = absurd (cc)
  owner_is (bool_type at) e k = absurd (cc)
  owner_is (str_type at) e k = absurd (cc)
  owner_is (ref_type at x) e k = absurd (cc)
  owner_is (imm_ref_type at x) e k = absurd (cc)
  owner_is (iso_type at x) e k = absurd (cc)

  pub written_known : (position : Position) (x : TypeExpr) → type_faults items position x ≡ [] → Known items (type_of x)
  written_known position (int_type at) e = refl
  written_known position (bool_type at) e = refl
  written_known position (str_type at) e = refl
  written_known position (named_type n) e = kind_there n items (first_kept 11 (is_kind items n) [] (own_kept n.at (named_rules items n) e)).0
  written_known position (array_type at x) e = written_known Element x (none_in (type_faults items Element x) (own at (array_type_rules position x)) e).0
  written_known position (ref_type at x) e =
      let parts = none_in (type_faults items Value x) (own at (ref_rules x)) e in
      owner_is x (first_kept 16 (is_object x) [] (own_kept at (ref_rules x) parts.1)).0 (written_known Value x parts.0)
  written_known position (imm_ref_type at x) e =
      let parts = none_in (type_faults items Value x) (own at (imm_ref_rules position x)) e in
      owner_is x (and_first (is_object x) (may_hold_frozen position) (first_kept 16 (is_object x && may_hold_frozen position) [] (own_kept at (imm_ref_rules position x) parts.1)).0) (written_known Value x parts.0)
  written_known position (iso_type at x) e =
      let parts = none_in (type_faults items Value x) (own at (iso_type_rules items position x)) e in
      let rest = first_kept 14 (is_object x ⇒ not (reaches_iso items x)) ((16, is_object x && may_hold_isolates position) ∷ []) (own_kept at (iso_type_rules items position x) parts.1) in
      owner_is x (and_first (is_object x) (may_hold_isolates position) (first_kept 16 (is_object x && may_hold_isolates position) [] rest.1).0) (written_known Value x parts.0)

  -- ---- what is known of parts

  abbrev pub KnownTypes : List Ty → Type 0
  KnownTypes [] = Unit {0}
  KnownTypes (x ∷ xs) = Known items x × KnownTypes xs

  abbrev pub KnownPlace : Option Ty → Type 0
  KnownPlace None = Unit {0}
  KnownPlace (Some x) = Known items x

  abbrev pub KnownView : View → Type 0
  KnownView blind = Unit {0}
  KnownView (direct x) = KnownOwner items x
  KnownView (shared x) = KnownOwner items x
  KnownView (frozen x) = KnownOwner items x

  abbrev pub KnownSeen : Seen → Type 0
  KnownSeen s = Known items s.value × KnownView s.view × KnownPlace s.place

  abbrev pub KnownScope : List Local → Type 0
  KnownScope [] = Unit {0}
  KnownScope (l ∷ ls) = Known items l.ty × KnownScope ls

  abbrev pub KnownExpr : t.Expr → Type 0
  KnownExpr e = KnownSeen (t.seen e) × Arrays items (expr_arrays e)

  abbrev pub KnownExprs : t.Exprs → Type 0
  KnownExprs es = KnownTypes (t.types es) × Arrays items (exprs_arrays es)

  abbrev pub KnownLink : t.Link → Type 0
  KnownLink l = KnownSeen (t.link_seen l) × Arrays items (link_arrays l)

  -- after what is seen so
  abbrev pub KnownLinks : Seen → t.Links → Type 0
  KnownLinks s ls = KnownSeen (t.chain_seen s ls) × Arrays items (links_arrays ls)

  abbrev pub KnownStep : t.Step → Type 0
  KnownStep s = KnownSeen (t.step_seen s) × Arrays items (step_arrays s)

  abbrev pub KnownSteps : Seen → t.Steps → Type 0
  KnownSteps base ss = KnownSeen (t.steps_seen base ss) × Arrays items (steps_arrays ss)

  abbrev pub KnownForm : Ty × t.Form → Type 0
  KnownForm v = Known items v.0 × Arrays items (form_arrays v.1)

  abbrev pub KnownElseIf : t.ElseIf → Type 0
  KnownElseIf e = Arrays items (else_if_arrays e)

  abbrev pub KnownElses : t.Elses → Type 0
  KnownElses es = Arrays items (elses_arrays es)

  abbrev pub KnownBlock : t.Block → Type 0
  KnownBlock b = Known items (t.block_type b) × Arrays items (block_arrays b)

  abbrev pub KnownStmts : t.Stmts → Type 0
  KnownStmts ss = Known items (t.stmts_type ss) × Arrays items (stmts_arrays ss)

  -- the types of the names that it declares
  abbrev pub KnownNames : t.Stmt → Type 0
  KnownNames (t.declare n ty e) = Known items ty
  KnownNames (t.destructure at ns tys e) = KnownTypes tys
  KnownNames _ = Unit {0}

  abbrev pub KnownStmt : t.Stmt → Type 0
  KnownStmt s = KnownNames s × Arrays items (stmt_arrays s)

  -- ---- what items declare

  abbrev pub AllFields : List FieldDecl → Type 0
  AllFields [] = Unit {0}
  AllFields (f ∷ fs) = Known items (type_of (field_type f)) × AllFields fs

  abbrev pub AllHeads : List Head → Type 0
  AllHeads [] = Unit {0}
  AllHeads (h ∷ hs) = Known items (head_gives h) × AllHeads hs

  -- of the struct of this number
  abbrev pub KnownFields : ℕ → Option (List FieldDecl) → Type 0
  KnownFields m None = Unit {0}
  KnownFields m (Some fs) = (is_declared items m ≡ true) × AllFields fs

  abbrev pub KnownMethods : Option (List Head) → Type 0
  KnownMethods None = Unit {0}
  KnownMethods (Some hs) = AllHeads hs

  abbrev pub KnownHead : Option Head → Type 0
  KnownHead None = Unit {0}
  KnownHead (Some h) = Known items (head_gives h)

  pub record Facts : Type 0 where
    pub fields : (m : ℕ) → KnownFields m (fields_of items m)
    pub methods : (m : ℕ) → KnownMethods (methods_of items m)
    pub functions : (m : ℕ) → KnownHead (function_named items m)

  -- ---- values, places and views

  value_view_known : (x : Ty) → Known items x → KnownView (value_view x)
  value_view_known (y.ref x) k = k
  value_view_known (y.imm x) k = k
  value_view_known void k = tt
  value_view_known int k = tt
  value_view_known bool k = tt
  value_view_known str k = tt
  value_view_known (y.kind m) k = tt
  value_view_known (y.array x) k = tt
  value_view_known (y.iso x) k = tt

  pub value_known : (x : Ty) → Known items x → KnownSeen (a_value x)
  value_known x k = (k, value_view_known x k, tt)

  here_known : (x : Ty) → Known items x → KnownView (view_here x)
  here_known (y.kind m) k = k
  here_known (y.array x) k = k
  here_known (y.iso x) k = k
  here_known (y.ref x) k = k
  here_known (y.imm x) k = k
  here_known void k = tt
  here_known int k = tt
  here_known bool k = tt
  here_known str k = tt

  frozen_known : (x : Ty) (o : Option Ty) → Known items x → object_of x ≡ o → KnownSeen (as_frozen x o)
  frozen_known x None k e = (k, tt, k)
  frozen_known x (Some z) k e = let owner = object_known items x z k e in (owner, owner, k)

  shared_known : (x : Ty) (o : Option Ty) → Known items x → object_of x ≡ o → KnownSeen (as_shared x o)
  shared_known x None k e = (k, tt, k)
  shared_known x (Some z) k e = (k, object_known items x z k e, k)

  part_known : (v : View) (x : Ty) → Known items x → KnownSeen (part_seen v x)
  part_known (frozen z) x k = frozen_known x (object_of x) k refl
  part_known blind x k = shared_known x (object_of x) k refl
  part_known (direct z) x k = shared_known x (object_of x) k refl
  part_known (shared z) x k = shared_known x (object_of x) k refl

  pub part_of_known : (v : View) (o : Option Ty) → KnownPlace o → KnownSeen (part_of v o)
  part_of_known v None k = value_known void refl
  part_of_known v (Some x) k = part_known v x k

  pub object_seen : (v : View) → KnownView v → KnownPlace (seen_object v)
  object_seen blind k = tt
  object_seen (direct x) k = owner_known items x k
  object_seen (shared x) k = owner_known items x k
  object_seen (frozen x) k = owner_known items x k

  pub array_known : (o : Option Ty) → KnownPlace o → KnownPlace (array_in o)
  array_known None k = tt
  array_known (Some (y.array x)) k = k
  array_known (Some (y.kind m)) k = tt
  array_known (Some (y.ref x)) k = tt
  array_known (Some (y.imm x)) k = tt
  array_known (Some (y.iso x)) k = tt
  array_known (Some void) k = tt
  array_known (Some int) k = tt
  array_known (Some bool) k = tt
  array_known (Some str) k = tt

  -- ---- locals

  local_here : (b : Bool) (l : Local) → Known items l.ty → KnownSeen (if b then record { value = l.ty; view = view_here l.ty; place = Some l.ty } else as_frozen l.ty (object_of l.ty))
  local_here true l k = (k, here_known l.ty k, k)
  local_here false l k = frozen_known l.ty (object_of l.ty) k refl

  pub named_known : (env : Env) (as_value : Bool) (n : NameAt) (ls : List Local) → KnownScope ls → KnownExpr (named env as_value n (local_of n.name.0 ls))
  named_known env as_value n [] k = (value_known void refl, no_arrays items)
  named_known env as_value n (l ∷ ls) k = by (l.name == n.name.0) (named_known env as_value n ls k.1)
    where
      by : (b : Bool) → KnownExpr (named env as_value n (local_of n.name.0 ls)) → KnownExpr (named env as_value n (if b then Some l else local_of n.name.0 ls))
      by true rest = (local_here (l.depth == env.depth) l k.0, no_arrays items)
      by false rest = rest

  with_known : (ns : List NameAt) (tys : List Ty) (env : Env) → KnownTypes tys → KnownScope env.scope → KnownScope (with_locals ns tys env).scope
  with_known [] tys env k ks = ks
  with_known (n ∷ ns) [] env k ks = ks
  with_known (n ∷ ns) (x ∷ xs) env k ks = with_known ns xs (with_local n x env) k.1 (k.0, ks)

  pub after_known : (s : t.Stmt) (env : Env) → KnownNames s → KnownScope env.scope → KnownScope (after s env).scope
  after_known (t.declare n ty e) env k ks = (k, ks)
  after_known (t.destructure at ns tys e) env k ks = with_known ns tys env k ks
  after_known (t.return_nothing at) env k ks = ks
  after_known (t.return_value at e) env k ks = ks
  after_known (t.while at c b) env k ks = ks
  after_known (t.foreach at n a e b) env k ks = ks
  after_known (t.form_stmt f) env k ks = ks
  after_known (t.express e) env k ks = ks

  -- ---- what operators, calls and steps give

  pub link_known : (op : BinaryOp) (x : Ty) → Known items x → Known items (link_gives op x)
  link_known o.Add x k = k
  link_known o.Sub x k = refl
  link_known o.Mul x k = refl
  link_known o.Div x k = refl
  link_known o.Rem x k = refl
  link_known o.Or x k = refl
  link_known o.And x k = refl
  link_known o.Equal x k = refl
  link_known o.NotEqual x k = refl
  link_known o.Less x k = refl
  link_known o.LessEqual x k = refl
  link_known o.Greater x k = refl
  link_known o.GreaterEqual x k = refl

  borrow_known : (v : View) → KnownView v → Known items (borrow_gives v)
  borrow_known blind k = refl
  borrow_known (direct x) k = k
  borrow_known (shared x) k = k
  borrow_known (frozen x) k = k

  merge_known : (x : Ty) → Known items x → Known items (merge_gives x)
  merge_known (y.iso x) k = owner_known items x k
  merge_known void k = refl
  merge_known int k = refl
  merge_known bool k = refl
  merge_known str k = refl
  merge_known (y.kind m) k = refl
  merge_known (y.array x) k = refl
  merge_known (y.ref x) k = refl
  merge_known (y.imm x) k = refl

  pub unary_known : (op : UnaryOp) (s : Seen) → KnownSeen s → Known items (unary_gives op s)
  unary_known u.Minus s k = refl
  unary_known u.Not s k = refl
  unary_known u.Borrow s k = borrow_known s.view k.1
  unary_known u.Merge s k = merge_known s.value k.0

  popped_known : (x : Ty) → Known items x → Known items (popped x)
  popped_known (y.ref (y.array x)) k = k
  popped_known (y.imm (y.array x)) k = k
  popped_known (y.ref void) k = refl
  popped_known (y.ref int) k = refl
  popped_known (y.ref bool) k = refl
  popped_known (y.ref str) k = refl
  popped_known (y.ref (y.kind m)) k = refl
  popped_known (y.ref (y.ref x)) k = refl
  popped_known (y.ref (y.imm x)) k = refl
  popped_known (y.ref (y.iso x)) k = refl
  popped_known (y.imm void) k = refl
  popped_known (y.imm int) k = refl
  popped_known (y.imm bool) k = refl
  popped_known (y.imm str) k = refl
  popped_known (y.imm (y.kind m)) k = refl
  popped_known (y.imm (y.ref x)) k = refl
  popped_known (y.imm (y.imm x)) k = refl
  popped_known (y.imm (y.iso x)) k = refl
  popped_known void k = refl
  popped_known int k = refl
  popped_known bool k = refl
  popped_known str k = refl
  popped_known (y.kind m) k = refl
  popped_known (y.array x) k = refl
  popped_known (y.iso x) k = refl

  built_in_known : (f : BuiltIn) (xs : List Ty) → KnownTypes xs → Known items (built_in_gives f xs)
  built_in_known b.Len xs k = refl
  built_in_known b.Pop [] k = refl
  built_in_known b.Pop (x ∷ []) k = popped_known x k.0
  built_in_known b.Pop (x ∷ z ∷ xs) k = refl
  built_in_known b.Text xs k = refl
  built_in_known b.Slice xs k = refl
  built_in_known b.Byte xs k = refl
  built_in_known b.IsNumber xs k = refl
  built_in_known b.Number xs k = refl
  built_in_known b.Print xs k = refl
  built_in_known b.Println xs k = refl
  built_in_known b.Drop xs k = refl
  built_in_known b.Push xs k = refl

  pub called_known : (n : NameAt) (f : Option BuiltIn) (fields : Option (List FieldDecl)) (h : Option Head) (xs : List Ty) → KnownFields n.name.0 fields → KnownHead h → KnownTypes xs → Known items (called_gives n (called_else f fields h) xs)
  called_known n (Some f) fields h xs kf kh k = built_in_known f xs k
  called_known n None (Some fs) h xs kf kh k = kf.0
  called_known n None None (Some h) xs kf kh k = kh
  called_known n None None None xs kf kh k = refl

  isolated_known : (x : Ty) (may : Bool) → Known items x → may_be_isolated items x ≡ may → Known items (if may then y.array (y.iso x) else void)
  isolated_known x true k e = owner_too (is_owner x) (and_first (is_owner x) _ e)
    where
      owner_too : (b : Bool) → b ≡ true → (b && known items x) ≡ true
      owner_too true e = k
      owner_too false e = absurd (cc)
  isolated_known x false k e = refl

  pub parallel_known : (x : Ty) → Known items x → Known items (parallel_gives items x)
  parallel_known (y.iso x) k = k
  parallel_known int k = refl
  parallel_known bool k = refl
  parallel_known str k = refl
  parallel_known void k = isolated_known void (may_be_isolated items void) k refl
  parallel_known (y.kind m) k = isolated_known (y.kind m) (may_be_isolated items (y.kind m)) k refl
  parallel_known (y.array x) k = isolated_known (y.array x) (may_be_isolated items (y.array x)) k refl
  parallel_known (y.ref x) k = isolated_known (y.ref x) (may_be_isolated items (y.ref x)) k refl
  parallel_known (y.imm x) k = isolated_known (y.imm x) (may_be_isolated items (y.imm x)) k refl

  -- the local of a parallel loop over isolates
  pub isolate_known : (x : Ty) → Known items x → Known items (isolate_of (isolate_in x))
  isolate_known (y.array (y.iso x)) k = k
  isolate_known (y.array void) k = refl
  isolate_known (y.array int) k = refl
  isolate_known (y.array bool) k = refl
  isolate_known (y.array str) k = refl
  isolate_known (y.array (y.kind m)) k = refl
  isolate_known (y.array (y.array x)) k = refl
  isolate_known (y.array (y.ref x)) k = refl
  isolate_known (y.array (y.imm x)) k = refl
  isolate_known void k = refl
  isolate_known int k = refl
  isolate_known bool k = refl
  isolate_known str k = refl
  isolate_known (y.kind m) k = refl
  isolate_known (y.ref x) k = refl
  isolate_known (y.imm x) k = refl
  isolate_known (y.iso x) k = refl

  -- an isolate's block gives an owner
  pub iso_known : (x : Ty) → Known items x → broken (iso_rules items x) ≡ None → Known items (y.iso x)
  iso_known x k kept = owner_too (is_owner x) (and_first (is_owner x) _ (first_kept 20 (may_be_isolated items x) [] kept).0)
    where
      owner_too : (b : Bool) → b ≡ true → (b && known items x) ≡ true
      owner_too true e = k
      owner_too false e = absurd (cc)

  -- ---- fields and methods

  pub place_known : (o : Option Ty) → KnownPlace o → Known items (set_gives o)
  place_known None k = refl
  place_known (Some x) k = k

  field_here : (fs : List FieldDecl) (n : ℕ) → AllFields fs → KnownPlace (type_in (field_named fs n))
  field_here [] n k = tt
  field_here (field_decl m may_be_set x ∷ fs) n k = by (m.name.0 == n) (field_here fs n k.1)
    where
      by : (b : Bool) → KnownPlace (type_in (field_named fs n)) → KnownPlace (type_in (if b then Some (field_decl m may_be_set x) else field_named fs n))
      by true rest = k.0
      by false rest = rest

  method_here : (hs : List Head) (n : ℕ) → AllHeads hs → KnownHead (method_named hs n)
  method_here [] n k = tt
  method_here (h ∷ hs) n k = by ((head_name h).name.0 == n) (method_here hs n k.1)
    where
      by : (b : Bool) → KnownHead (method_named hs n) → KnownHead (if b then Some h else method_named hs n)
      by true rest = k.0
      by false rest = rest

  -- of the struct or interface that is seen
  pub field_known : Facts → (m : Option ℕ) (n : ℕ) → KnownPlace (type_in (option_and_then (λ fs. field_named fs n) (option_and_then (fields_of items) m)))
  field_known facts None n = tt
  field_known facts (Some m) n = by (fields_of items m) (facts.fields m)
    where
      by : (o : Option (List FieldDecl)) → KnownFields m o → KnownPlace (type_in (option_and_then (λ fs. field_named fs n) o))
      by None k = tt
      by (Some fs) k = field_here fs n k.1

  pub method_known : Facts → (m : Option ℕ) (n : ℕ) → KnownHead (option_and_then (λ hs. method_named hs n) (option_and_then (methods_of items) m))
  method_known facts None n = tt
  method_known facts (Some m) n = by (methods_of items m) (facts.methods m)
    where
      by : (o : Option (List Head)) → KnownMethods o → KnownHead (option_and_then (λ hs. method_named hs n) o)
      by None k = tt
      by (Some hs) k = method_here hs n k

  pub given_known : (h : Option Head) → KnownHead h → KnownSeen (method_gives h)
  given_known None k = value_known void refl
  given_known (Some h) k = value_known (head_gives h) k

  all_types : (fs : List FieldDecl) → AllFields fs → KnownTypes (field_types fs)
  all_types [] k = tt
  all_types (f ∷ fs) k = (k.0, all_types fs k.1)

  -- the names of a destructuring
  pub taken_known : Facts → (x : Ty) → KnownTypes (option_map_or field_types (struct_fields items x) [])
  taken_known facts (y.kind m) = by (fields_of items m) (facts.fields m)
    where
      by : (o : Option (List FieldDecl)) → KnownFields m o → KnownTypes (option_map_or field_types o [])
      by None k = tt
      by (Some fs) k = all_types fs k.1
  taken_known facts void = tt
  taken_known facts int = tt
  taken_known facts bool = tt
  taken_known facts str = tt
  taken_known facts (y.array x) = tt
  taken_known facts (y.ref x) = tt
  taken_known facts (y.imm x) = tt
  taken_known facts (y.iso x) = tt
