-- What is typed is marked as the lowering needs: by induction on the tree.
use Rattle.std.proofs.Common.{◌≡◌, ℕ, suc, Bool, true, false, not, ◌&&◌, ◌==◌, nat_le, List, [], ◌∷◌, length, Option, Some, None, is_some, if◌then◌else◌, refl, sym, ap, ◌∙◌, subst, arith}
use Rattle.std.specs.List.{list_all}
use Rattle.std.specs.Option.{option_and_then, option_map_or}
use Rattle.std.proofs.lemmas.Bool.{and_parts, eqb-true}
use Rattle.vale_base.specs.Limits.{width_limit}
use Rattle.vale_base.specs.declared.spot.Spot.{Spot}
use Rattle.vale_syntax.specs.declared.tree.NameAt.{NameAt}
use Rattle.vale_syntax.specs.declared.tree.UnaryOp.{UnaryOp}
use Rattle.vale_syntax.specs.declared.tree.UnaryOp.TheVariants as u
use Rattle.vale_syntax.specs.declared.tree.BinaryOp.{BinaryOp}
use Rattle.vale_syntax.specs.declared.tree.BinaryOp.TheVariants as o
use Rattle.vale_syntax.specs.Tree.{Expr, set, chain, unary, steps, number, quote, truth, name, call, paren, array, iso, form, Exprs, no_exprs, more_exprs, Link, link, Links, no_links, more_links, Step, field, method, index, Steps, no_steps, more_steps, Form, branch, pure, parallel_range, parallel_each, ElseIf, else_if, Elses, no_else, otherwise, more_elses, Block, block, Stmt, declare, destructure, return_nothing, return_value, while, foreach, form_stmt, express, Stmts, no_stmts, last, more_stmts, FieldDecl, Item}
use Rattle.vale_rules_spec.specs.Declarations.{field_type}
use Rattle.vale_rules_spec.specs.Judged.{Judged, fine, faulty, broken, both, node, plain as plain_node, scoped, ◌⇒◌}
use Rattle.vale_rules_spec.specs.Types.{Ty, void, int, bool, str, same, is_void, is_owned, type_of, Seen, a_value, seen_object, is_loose, Local, local_of, is_visible, fits, local_seen, is_outer, is_movable, view_here, as_frozen, object_of}
use Rattle.vale_rules_spec.specs.Types as y
use Rattle.vale_rules_spec.specs.Typed as t
use Rattle.vale_rules_spec.specs.TypeRules.{is_int, name_rules, declare_rules, link_rules, link_gives, unary_rules, unary_gives, borrow_gives, is_owned_place, called, callee, called_rules, called_gives, method_rules, methods_seen, fields_seen, elements_seen, field_rules, index_rules, part_of, stays_in_place, array_rules, set_rules, set_gives, iso_rules, branch_rules, bounds_rules, void_rules, condition_rules, consumed_rules, isolate_in, method_gives, return_nothing_rules, return_value_rules, parallel_gives, struct_fields, field_types, destructure_rules}
use Rattle.vale_rules_spec.specs.Takes.{is_value_under}
use Rattle.vale_rules_spec.specs.Typing.{Env, with_local, with_locals, after, deeper, named, name_in, index_view, is_used, form_spot, isolate_of, type_in, is_settable, expr, exprs, operand, links, step, steps_from, in_form, in_else_if, elses, in_block, void_block, stmts, stmt, new_name, new_names}
use Rattle.vale_object_kinds.proofs.Holds.{Holds, Pair, holds_leaf, holds_node, holds_plain, holds_both, holds_over}
use Rattle.vale_lowering_objects.specs.Scopes.{copy, gives_of}
use Rattle.vale_object_typed.specs.Covered.{expr_is_covered, node_is_covered, exprs_are_covered, links_are_covered, step_is_covered, steps_are_covered, form_is_covered, elses_are_covered, block_is_covered, stmts_are_covered, stmt_is_covered}
use Rattle.vale_object_sure.specs.Lawful.{count, expr_is_lawful, exprs_are_lawful, link_is_lawful, links_are_lawful, step_is_lawful, steps_are_lawful, form_is_lawful, else_if_is_lawful, elses_are_lawful, block_is_lawful, stmts_are_lawful, stmt_is_lawful}
use Rattle.vale_object_sure.proofs.Marks.{are_locals, expr_marks, place_marks, exprs_mark, links_mark, step_marks, steps_mark, form_marks, elses_mark, block_marks, stmts_mark, stmt_marks}
use Rattle.vale_object_sure.proofs.Values.{Solid, AllSolid, IsValue, SomeSolid, SomeValue, IsSolid, rule_kept, one_rule, asked, not_true, written, value_solid, local_solid, solid_part, field_value, element_value, stays, fits_value, elements_values, call_solid}

-- ---- locals

abbrev pub ScopeIsSolid : List Local → Type 0
ScopeIsSolid [] = Unit {0}
ScopeIsSolid (l ∷ ls) = IsValue l.ty × ScopeIsSolid ls

pub found_solid : (n : ℕ) (ls : List Local) (l : Local) → ScopeIsSolid ls → local_of n ls ≡ Some l → IsValue l.ty
found_solid n [] l h e = absurd (cc)
found_solid n (m ∷ ls) l h e = by (m.name == n) e (found_solid n ls l h.1)
  where
    by : (b : Bool) → (if b then Some m else local_of n ls) ≡ Some l → (local_of n ls ≡ Some l → IsValue l.ty) → IsValue l.ty
    by true e rest = let same : m ≡ l = cc in subst (λ k. IsValue k.ty) same h.0
    by false e rest = rest e

pub locals_solid : (ns : List NameAt) (xs : List Ty) (env : Env) → are_locals ns xs → AllSolid xs → ScopeIsSolid env.scope → ScopeIsSolid (with_locals ns xs env).scope
locals_solid [] [] env a s h = h
locals_solid [] (x ∷ xs) env a s h = absurd a
locals_solid (n ∷ ns) [] env a s h = absurd a
locals_solid (n ∷ ns) (x ∷ xs) env a s h = locals_solid ns xs (with_local n x env) a.1 s.1 ((s.0, a.0), h)

pub fields_solid : (fs : List FieldDecl) → AllSolid (field_types fs)
fields_solid [] = tt
fields_solid (f ∷ fs) = ((written (field_type f)).0, fields_solid fs)

fields_named : (ns : List NameAt) (fs : List FieldDecl) → length fs ≡ length ns → are_locals ns (field_types fs)
fields_named [] [] e = tt
fields_named [] (f ∷ fs) e = absurd (omega (arith, e))
fields_named (n ∷ ns) [] e = absurd (omega (arith, e))
fields_named (n ∷ ns) (f ∷ fs) e = ((written (field_type f)).1, fields_named ns fs (omega (arith, e)))

opened : (ns : List NameAt) (o : Option (List FieldDecl)) → is_some o ≡ true → option_map_or (λ fs. length fs == length ns) o true ≡ true → are_locals ns (option_map_or field_types o []) × AllSolid (option_map_or field_types o [])
opened ns None there many = absurd (cc)
opened ns (Some fs) there many = (fields_named ns fs (eqb-true (length fs) (length ns) many), fields_solid fs)

-- ---- places

-- what is neither a name nor has steps is no place
abbrev pub Placed : t.Expr → Type 0
Placed (t.expr s (t.name n is_outer moved)) = Unit {0}
Placed (t.expr s (t.steps e ss)) = Unit {0}
Placed (t.expr s node) = s.place ≡ None

no_place : (o : Option Ty) → o ≡ None → is_some o ≡ true → false ≡ true
no_place None e there = there
no_place (Some x) e there = absurd (cc)

is_place : (p : t.Expr) → expr_marks false p → Placed p → is_some (t.seen p).place ≡ true → place_marks p
is_place (t.expr s (t.name n is_outer moved)) m h there = m
is_place (t.expr s (t.steps e t.no_steps)) m h there = absurd m
is_place (t.expr s (t.steps e (t.more_steps x xs))) m h there = (m.1, m.2, m.3)
is_place (t.expr s node) m h there = absurd (let z : false ≡ true = no_place s.place h there in cc)

-- a value that a place gets
set_value : (items : List Item) (o : Option Ty) (x : Ty) → SomeValue o → option_map_or (fits items x) o true ≡ true → is_some o ≡ true → is_void x ≡ false
set_value items None x h fit there = absurd (cc)
set_value items (Some z) x h fit there = fits_value items x z fit h.1

set_solid : (o : Option Ty) → SomeValue o → Solid (set_gives o)
set_solid None h = tt
set_solid (Some x) h = h.0

-- ---- names

and_true : (b : Bool) → (b && true) ≡ b
and_true true = refl
and_true false = refl

and_false : (b : Bool) → (b && false) ≡ false
and_false true = refl
and_false false = refl

near_is : (b : Bool) → not b ≡ false → b ≡ true
near_is true e = refl
near_is false e = absurd (cc)

name_moves : (used : Bool) (depth : ℕ) (l : Local) → is_outer depth l ≡ false → (used && is_movable depth l) ≡ (used && is_owned (local_seen depth l).value)
name_moves used depth l inside = ap (λ b. used && b) (by (l.depth == depth) (near_is (l.depth == depth) inside))
  where
    by : (b : Bool) → b ≡ true → (is_owned l.ty && b) ≡ is_owned (if b then record { value = l.ty; view = view_here l.ty; place = Some l.ty } else as_frozen l.ty (object_of l.ty)).value
    by true e = and_true (is_owned l.ty)
    by false e = absurd (cc)

module _ (names : List (List ℕ)) (items : List Item) (kinds : List Ty) (texts : List (List ℕ)) where
  -- ---- what is shown of the parts

  abbrev Meets : Env → Bool → t.Expr → Type 0
  Meets env used x = ScopeIsSolid env.scope → expr_is_covered kinds texts x → expr_marks used x × IsSolid (t.seen x) × Placed x

  abbrev ExprsMeet : Env → ℕ → t.Exprs → Type 0
  ExprsMeet env n v = ScopeIsSolid env.scope → exprs_are_covered kinds texts v → exprs_mark v × AllSolid (t.types v) × (length (t.types v) ≡ n)

  -- an operator stands there
  abbrev Operates : t.Links → Type 0
  Operates t.no_links = ⊥
  Operates (t.more_links l ls) = Unit {0}

  abbrev LinksMeet : Env → Seen → t.Links → Type 0
  LinksMeet env s v = ScopeIsSolid env.scope → IsSolid s → links_are_covered kinds texts v → links_mark v × IsSolid (t.chain_seen s v) × (Operates v → (t.chain_seen s v).place ≡ None)

  -- the value of operators is no place
  valued : (s : Seen) (ls : t.Links) → s.place ≡ None → (Operates ls → (t.chain_seen s ls).place ≡ None) → (t.chain_seen s ls).place ≡ None
  valued s t.no_links e f = e
  valued s (t.more_links l ls) e f = f tt

  abbrev LinkMeets : Env → Seen → t.Link → Type 0
  LinkMeets env s l = (ls : t.Links) → LinksMeet env (t.link_seen l) ls → LinksMeet env s (t.more_links l ls)

  abbrev StepMeets : Env → Bool → Seen → t.Step → Type 0
  StepMeets env used base x = ScopeIsSolid env.scope → IsSolid base → step_is_covered kinds texts x → step_marks x × IsSolid (t.step_seen x) × (used ≡ true → gives_of (t.step_seen x).value ≡ copy)

  -- what is known before steps
  abbrev Begins : Bool → Steps → Seen → Type 0
  Begins used no_steps base = used ≡ true → gives_of base.value ≡ copy
  Begins used (more_steps s ss) base = Unit {0}

  begins : (used : Bool) (ss : Steps) (base : Seen) → (is_used used ss ≡ true → gives_of base.value ≡ copy) → Begins used ss base
  begins used no_steps base h = h
  begins used (more_steps s ss) base h = tt

  abbrev StepsMeet : Env → Bool → Steps → Seen → t.Steps → Type 0
  StepsMeet env used ss base v = ScopeIsSolid env.scope → IsSolid base → Begins used ss base → steps_are_covered kinds texts v → steps_mark v × IsSolid (t.steps_seen base v) × (used ≡ true → gives_of (t.steps_seen base v).value ≡ copy)

  abbrev FormMeets : Env → Ty × t.Form → Type 0
  FormMeets env v = ScopeIsSolid env.scope → form_is_covered kinds texts v.1 → form_marks v.1 × Solid v.0

  abbrev ElsesMeet : Env → t.Elses → Type 0
  ElsesMeet env v = ScopeIsSolid env.scope → elses_are_covered kinds texts v → elses_mark v

  abbrev ElseIfMeets : Env → t.ElseIf → Type 0
  ElseIfMeets env e = (es : t.Elses) → ElsesMeet env es → ElsesMeet env (t.more_elses e es)

  abbrev BlockMeets : Env → t.Block → Type 0
  BlockMeets env b = ScopeIsSolid env.scope → block_is_covered kinds texts b → block_marks b × Solid (t.block_type b)

  abbrev StmtsMeet : Env → t.Stmts → Type 0
  StmtsMeet env v = ScopeIsSolid env.scope → stmts_are_covered kinds texts v → stmts_mark v × Solid (t.stmts_type v)

  abbrev StmtMeets : Env → t.Stmt → Type 0
  StmtMeets env s = ScopeIsSolid env.scope → stmt_is_covered kinds texts s → stmt_marks s × ScopeIsSolid (after s env).scope

  any_holds : {A : Type 0} (j : Judged A) → Holds (λ a. Unit {0}) j
  any_holds (fine a) = tt
  any_holds (faulty f fs) = tt

  -- ---- single nodes

  name_meets : (env : Env) (used : Bool) (n : NameAt) (l : Option Local) → local_of n.name.0 env.scope ≡ l → Meets env used (named env used n l)
  name_meets env used n None e h cov = (sym (and_false used), value_solid void tt, tt)
  name_meets env used n (Some l) e h cov = (name_moves used env.depth l cov.1, local_solid env.depth l (found_solid n.name.0 env.scope l h e), tt)

  set_meets : (env : Env) (used : Bool) (at : Spot) (p e : t.Expr) → Meets env false p → Meets env true e → broken (set_rules items (t.may_be_set p) (t.seen p).place (t.type e)) ≡ None → Meets env used (t.expr (a_value (set_gives (t.seen p).place)) (t.set at p e))
  set_meets env used at p e hp he kept h cov =
      let place = (t.seen p).place in
      let one = rule_kept 20 (option_map_or (fits items (t.type e)) place true) ((23, is_some place) ∷ (24, t.may_be_set p) ∷ []) kept in
      let two = rule_kept 23 (is_some place) ((24, t.may_be_set p) ∷ []) one.1 in
      let a = hp h cov.1.0 in
      let b = he h cov.1.1 in
      ((is_place p a.0 a.2 two.0, set_value items place (t.type e) a.1.place one.0 two.0, b.0), value_solid (set_gives place) (set_solid place a.1.place), refl)

  unary_meets : (env : Env) (used : Bool) (at : Spot) (op : UnaryOp) (a : t.Expr) → Meets env (is_value_under op) a → broken (unary_rules op (t.seen a)) ≡ None → Meets env used (t.expr (a_value (unary_gives op (t.seen a))) (t.unary at op a))
  unary_meets env used at u.Minus a m kept h cov = ((m h cov.1.1).0, value_solid int tt, refl)
  unary_meets env used at u.Not a m kept h cov = ((m h cov.1.1).0, value_solid bool tt, refl)
  unary_meets env used at u.Borrow a m kept h cov =
      let place = (t.seen a).place in
      let one = rule_kept 20 (is_some place ⇒ is_owned_place place) ((23, is_some place) ∷ []) kept in
      let there = one_rule 23 (is_some place) one.1 in
      let k = m h cov.1.1 in
      ((k.1.lends (asked (is_some place) (is_owned_place place) one.0 there), k.0), value_solid (borrow_gives (t.seen a).view) (lent_solid (t.seen a).view k.1.object), refl)
    where
      lent_solid : (v : y.View) → SomeSolid (seen_object v) → Solid (borrow_gives v)
      lent_solid y.blind h = tt
      lent_solid (y.direct x) h = h
      lent_solid (y.shared x) h = h
      lent_solid (y.frozen x) h = h
  unary_meets env used at u.Merge a m kept h cov = absurd cov.1.0

  call_meets : (env : Env) (used : Bool) (n : NameAt) (k : ℕ) (v : t.Exprs) → nat_le k width_limit ≡ true → ExprsMeet env k v → broken (called_rules items (called names items n) (t.types v)) ≡ None
      → Meets env used (t.expr (a_value (called_gives n (called names items n) (t.types v))) (t.call n (callee (called names items n)) v))
  call_meets env used n k v wide m kept h cov =
      let args = m h cov.1.1 in
      let c = call_solid items n (called names items n) (t.types v) args.1 kept in
      ((c.arguments, ap (λ q. nat_le q width_limit) args.2 ∙ wide, c.takes, args.0), value_solid (called_gives n (called names items n) (t.types v)) c.gives, refl)

  array_meets : (env : Env) (used : Bool) (at : Spot) (z : Ty) (k : ℕ) (v : t.Exprs) → IsValue z → nat_le k width_limit ≡ true → ExprsMeet env k v → broken (array_rules items z (t.types v)) ≡ None → Meets env used (t.expr (a_value (y.array z)) (t.array at z v))
  array_meets env used at z k v is wide m kept h cov =
      let args = m h cov.1 in
      ((elements_values items z (t.types v) (one_rule 20 (list_all (λ a. fits items a z) (t.types v)) kept) is.1, ap (λ q. nat_le q width_limit) args.2 ∙ wide, args.0), value_solid (y.array z) (is.1, is.0), refl)

  chain_meets : (env : Env) (used : Bool) (a : t.Expr) (v : t.Links) → Meets env true a → LinksMeet env (t.seen a) v → Meets env used (t.expr (t.chain_seen (t.seen a) v) (t.chain a v))
  chain_meets env used a t.no_links m k h cov = absurd cov.1.1
  chain_meets env used a (t.more_links l ls) m k h cov = let one = m h cov.1.0 in let all = k h one.1 cov.1.2 in ((tt, one.0, all.0), all.1, all.2 tt)

  op_solid : (op : BinaryOp) (x : Ty) → Solid x → Solid (link_gives op x)
  op_solid o.Add x h = h
  op_solid o.Sub x h = tt
  op_solid o.Mul x h = tt
  op_solid o.Div x h = tt
  op_solid o.Rem x h = tt
  op_solid o.Or x h = tt
  op_solid o.And x h = tt
  op_solid o.Equal x h = tt
  op_solid o.NotEqual x h = tt
  op_solid o.Less x h = tt
  op_solid o.LessEqual x h = tt
  op_solid o.Greater x h = tt
  op_solid o.GreaterEqual x h = tt

  steps_meet_first : (env : Env) (used : Bool) (s : Step) (ss : Steps) (a : t.Expr) (v : t.Steps) → Meets env false a → StepsMeet env used (more_steps s ss) (t.seen a) v → Meets env used (t.expr (t.steps_seen (t.seen a) v) (t.steps a v))
  steps_meet_first env used s ss a t.no_steps m k h cov = absurd cov.1
  steps_meet_first env used s ss a (t.more_steps x xs) m k h cov =
      let one = m h cov.1.1 in
      let all = k h one.1 tt (cov.1.2, cov.1.3) in
      ((all.2, one.0, all.0.0, all.0.1), all.1, tt)

  -- a part that a step reads
  read_meets : (used : Bool) (base : Seen) (o : Option Ty) → SomeValue o → is_some o ≡ true → stays_in_place used o ≡ true → IsSolid (part_of base.view o) × (used ≡ true → gives_of (part_of base.view o).value ≡ copy)
  read_meets used base o h there kept = (solid_part base.view o h, stays used base.view o h there kept)

  branch_meets : (env : Env) (at : Spot) (q : t.Expr) (b : t.Block) (es : t.Elses) → Meets env true q → BlockMeets env b → ElsesMeet env es → FormMeets env (t.block_type b, t.branch at q b es)
  branch_meets env at q b es mq mb me h cov = let k = mb h cov.1 in (((mq h cov.0).0, k.0, me h cov.2), k.1)

  -- ---- by induction on the tree

  mutual
    pub expr_meets : (e : Expr) (env : Env) (used : Bool) → expr_is_lawful e → Holds (Meets env used) (expr names items env used e)
    expr_meets (set at pl e) env used law =
        holds_node (Pair (Meets env false) (Meets env true)) (Meets env used) at (λ v. set_rules items (t.may_be_set v.0) (t.seen v.0).place (t.type v.1)) (λ v. t.expr (a_value (set_gives (t.seen v.0).place)) (t.set at v.0 v.1))
        (both (expr names items env false pl) (expr names items env true e)) (holds_both (Meets env false) (Meets env true) (expr names items env false pl) (expr names items env true e) (expr_meets pl env false law.0) (expr_meets e env true law.1))
        (λ v m kept. set_meets env used at v.0 v.1 m.0 m.1 kept)
    expr_meets (chain e ls) env used law =
        holds_plain (λ v. Meets env true v.0 × LinksMeet env (t.seen v.0) v.1) (Meets env used) (λ v. t.expr (t.chain_seen (t.seen v.0) v.1) (t.chain v.0 v.1)) (scoped (expr names items env true e) (λ a. links names items env (t.seen a) ls))
        (holds_over (Meets env true) (λ a ls. LinksMeet env (t.seen a) ls) (expr names items env true e) (λ a. links names items env (t.seen a) ls) (expr_meets e env true law.0) (λ a m. links_meet ls env (t.seen a) law.1))
        (λ v m. chain_meets env used v.0 v.1 m.0 m.1)
    expr_meets (unary at op e) env used law =
        holds_node (Meets env (is_value_under op)) (Meets env used) at (λ a. unary_rules op (t.seen a)) (λ a. t.expr (a_value (unary_gives op (t.seen a))) (t.unary at op a)) (expr names items env (is_value_under op) e) (expr_meets e env (is_value_under op) law)
        (λ a m kept. unary_meets env used at op a m kept)
    expr_meets (steps e no_steps) env used law =
        holds_plain (λ v. Meets env false v.0 × (v.1 ≡ t.no_steps)) (Meets env used) (λ v. t.expr (t.steps_seen (t.seen v.0) v.1) (t.steps v.0 v.1)) (scoped (expr names items env false e) (λ a. steps_from names items env used (name_in e) (t.seen a) no_steps))
        (holds_over (Meets env false) (λ a v. v ≡ t.no_steps) (expr names items env false e) (λ a. steps_from names items env used (name_in e) (t.seen a) no_steps) (expr_meets e env false law.0) (λ a m. refl))
        (λ v m h cov. absurd (subst (λ z. node_is_covered kinds texts (t.steps v.0 z)) m.1 cov.1))
    expr_meets (steps e (more_steps s ss)) env used law =
        holds_plain (λ v. Meets env false v.0 × StepsMeet env used (more_steps s ss) (t.seen v.0) v.1) (Meets env used) (λ v. t.expr (t.steps_seen (t.seen v.0) v.1) (t.steps v.0 v.1))
        (scoped (expr names items env false e) (λ a. steps_from names items env used (name_in e) (t.seen a) (more_steps s ss)))
        (holds_over (Meets env false) (λ a v. StepsMeet env used (more_steps s ss) (t.seen a) v) (expr names items env false e) (λ a. steps_from names items env used (name_in e) (t.seen a) (more_steps s ss)) (expr_meets e env false law.0)
        (λ a m. steps_meet (more_steps s ss) env used (name_in e) (t.seen a) law.1))
        (λ v m. steps_meet_first env used s ss v.0 v.1 m.0 m.1)
    expr_meets (number at n) env used law = λ h cov. (law, value_solid int tt, refl)
    expr_meets (quote at text) env used law = λ h cov. (law, value_solid str tt, refl)
    expr_meets (truth at b) env used law = λ h cov. (tt, value_solid bool tt, refl)
    expr_meets (name n) env used law =
        holds_leaf (Meets env used) n.at (name_rules n env.scope) (named env used n (local_of n.name.0 env.scope)) (λ kept. name_meets env used n (local_of n.name.0 env.scope) refl)
    expr_meets (call n es) env used law =
        holds_node (ExprsMeet env (count es)) (Meets env used) n.at (λ v. called_rules items (called names items n) (t.types v)) (λ v. t.expr (a_value (called_gives n (called names items n) (t.types v))) (t.call n (callee (called names items n)) v)) (exprs names items env es) (exprs_meet es env law.1)
        (λ v m kept. call_meets env used n (count es) v law.0 m kept)
    expr_meets (paren at e) env used law =
        holds_plain (Meets env true) (Meets env used) (λ a. t.expr (a_value (t.type a)) (t.paren at a)) (expr names items env true e) (expr_meets e env true law) (λ a m h cov. let k = m h cov.1 in (k.0, value_solid (t.type a) k.1.value, refl))
    expr_meets (array at z es) env used law =
        holds_node (ExprsMeet env (count es)) (Meets env used) at (λ v. array_rules items (type_of z) (t.types v)) (λ v. t.expr (a_value (y.array (type_of z))) (t.array at (type_of z) v)) (exprs names items env es) (exprs_meet es env law.1)
        (λ v m kept. array_meets env used at (type_of z) (count es) v (written z) law.0 m kept)
    expr_meets (iso at b) env used law =
        holds_node (λ v. Unit {0}) (Meets env used) at (λ v. iso_rules items (t.block_type v)) (λ v. t.expr (a_value (y.iso (t.block_type v))) (t.iso at v)) (in_block names items (deeper env) b) (any_holds (in_block names items (deeper env) b)) (λ v m kept h cov. absurd cov.1)
    expr_meets (form f) env used law =
        holds_plain (FormMeets env) (Meets env used) (λ v. t.expr (a_value v.0) (t.form v.1)) (in_form names items env f) (form_meets f env law) (λ v m h cov. let k = m h cov.1 in (k.0, value_solid v.0 k.1, refl))

    exprs_meet : (es : Exprs) (env : Env) → exprs_are_lawful es → Holds (ExprsMeet env (count es)) (exprs names items env es)
    exprs_meet no_exprs env law = λ h cov. (tt, tt, refl)
    exprs_meet (more_exprs e es) env law =
        holds_plain (Pair (Meets env true) (ExprsMeet env (count es))) (ExprsMeet env (count (more_exprs e es))) (λ v. t.more_exprs v.0 v.1) (both (expr names items env true e) (exprs names items env es))
        (holds_both (Meets env true) (ExprsMeet env (count es)) (expr names items env true e) (exprs names items env es) (expr_meets e env true law.0) (exprs_meet es env law.1))
        (λ v m h cov. let one = m.0 h cov.0 in let rest = m.1 h cov.1 in ((one.0, rest.0), (one.1.value, rest.1), ap suc rest.2))

    link_meets : (l : Link) (env : Env) (s : Seen) → link_is_lawful l → Holds (LinkMeets env s) (operand names items env s l)
    link_meets (link at op e) env s law =
        holds_node (Meets env true) (LinkMeets env s) at (λ a. link_rules op s.value (t.type a)) (λ a. t.link (a_value (link_gives op s.value)) at op a) (expr names items env true e) (expr_meets e env true law)
        (λ a m kept ls rest h is cov.
        let x = link_gives op s.value in
        let more = rest h (value_solid x (op_solid op s.value is.value)) cov.1 in
        (((m h cov.0).0, more.0), more.1, λ z. valued (a_value x) ls refl more.2))

    links_meet : (ls : Links) (env : Env) (s : Seen) → links_are_lawful ls → Holds (LinksMeet env s) (links names items env s ls)
    links_meet no_links env s law = λ h is cov. (tt, is, λ e. absurd e)
    links_meet (more_links l ls) env s law =
        holds_plain (λ v. LinkMeets env s v.0 × LinksMeet env (t.link_seen v.0) v.1) (LinksMeet env s) (λ v. t.more_links v.0 v.1) (scoped (operand names items env s l) (λ a. links names items env (t.link_seen a) ls))
        (holds_over (LinkMeets env s) (λ a ls. LinksMeet env (t.link_seen a) ls) (operand names items env s l) (λ a. links names items env (t.link_seen a) ls) (link_meets l env s law.0) (λ a m. links_meet ls env (t.link_seen a) law.1))
        (λ v m. m.0 v.1 m.1)

    step_meets : (s : Step) (env : Env) (used : Bool) (local : Option ℕ) (base : Seen) → step_is_lawful s → Holds (StepMeets env used base) (step names items env used local base s)
    step_meets (field at n) env used local base law =
        let fields = fields_seen items base.view in
        let found = option_and_then (λ fs. y.field_named fs n.0) fields in
        let loose = not (is_loose base) in
        holds_leaf (StepMeets env used base) at (field_rules used base fields (type_in found)) (t.field (part_of base.view (type_in found)) base.view (is_settable found) at n)
        (λ kept h is cov.
        let one = rule_kept 20 (loose ⇒ is_some fields) ((21, is_some fields ⇒ is_some (type_in found)) ∷ (25, loose) ∷ (28, stays_in_place used (type_in found)) ∷ []) kept in
        let two = rule_kept 21 (is_some fields ⇒ is_some (type_in found)) ((25, loose) ∷ (28, stays_in_place used (type_in found)) ∷ []) one.1 in
        let three = rule_kept 25 loose ((28, stays_in_place used (type_in found)) ∷ []) two.1 in
        let there = asked (is_some fields) (is_some (type_in found)) two.0 (asked loose (is_some fields) one.0 three.0) in
        let k = read_meets used base (type_in found) (field_value found) there (one_rule 28 (stays_in_place used (type_in found)) three.1) in
        (tt, k.0, k.1))
    step_meets (method at n es) env used local base law =
        let methods = methods_seen items base.view in
        let found = option_and_then (λ hs. y.method_named hs n.0) methods in
        holds_node (λ v. Unit {0}) (StepMeets env used base) at (λ v. method_rules items base methods found (t.types v)) (λ v. t.method (method_gives found) base.view at n v) (exprs names items env es) (any_holds (exprs names items env es)) (λ v m kept h is cov. absurd cov)
    step_meets (index at e) env used local base law =
        let o = elements_seen base.view in
        let loose = not (is_loose base) in
        holds_node (Meets env true) (StepMeets env used base) at (λ a. index_rules used base o (t.type a)) (λ a. t.index (part_of base.view o) (index_view local base.view e) at a) (expr names items env true e) (expr_meets e env true law)
        (λ a m kept h is cov.
        let one = rule_kept 20 (is_int (t.type a) && (loose ⇒ is_some o)) ((25, loose) ∷ (28, stays_in_place used o) ∷ []) kept in
        let two = rule_kept 25 loose ((28, stays_in_place used o) ∷ []) one.1 in
        let there = asked loose (is_some o) (and_parts (is_int (t.type a)) (loose ⇒ is_some o) one.0).1 two.0 in
        let k = read_meets used base o (element_value (seen_object base.view) is.object) there (one_rule 28 (stays_in_place used o) two.1) in
        ((m h cov.2).0, k.0, k.1))

    steps_meet : (ss : Steps) (env : Env) (used : Bool) (local : Option ℕ) (base : Seen) → steps_are_lawful ss → Holds (StepsMeet env used ss base) (steps_from names items env used local base ss)
    steps_meet no_steps env used local base law = λ h is begin cov. (tt, is, begin)
    steps_meet (more_steps s ss) env used local base law =
        holds_plain (λ v. StepMeets env (is_used used ss) base v.0 × StepsMeet env used ss (t.step_seen v.0) v.1) (StepsMeet env used (more_steps s ss) base) (λ v. t.more_steps v.0 v.1)
        (scoped (step names items env (is_used used ss) local base s) (λ b. steps_from names items env used None (t.step_seen b) ss))
        (holds_over (StepMeets env (is_used used ss) base) (λ b v. StepsMeet env used ss (t.step_seen b) v) (step names items env (is_used used ss) local base s) (λ b. steps_from names items env used None (t.step_seen b) ss)
        (step_meets s env (is_used used ss) local base law.0) (λ b m. steps_meet ss env used None (t.step_seen b) law.1))
        (λ v m h is begin cov.
        let one = m.0 h is cov.0 in
        let rest = m.1 h one.1 (begins used ss (t.step_seen v.0) one.2) cov.1 in
        ((one.0, rest.0), rest.1, rest.2))

    form_meets : (f : Form) (env : Env) → form_is_lawful f → Holds (FormMeets env) (in_form names items env f)
    form_meets (branch at q b es) env law =
        let ends = both (in_block names items env b) (elses names items env es) in
        holds_node (Pair (Meets env true) (Pair (BlockMeets env) (ElsesMeet env))) (FormMeets env) at (λ v. branch_rules (t.type v.0 ∷ t.condition_types v.1.1) (t.block_type v.1.0) (t.block_types v.1.1) (t.has_else v.1.1)) (λ v. (t.block_type v.1.0, t.branch at v.0 v.1.0 v.1.1))
        (both (expr names items env true q) ends)
        (holds_both (Meets env true) (Pair (BlockMeets env) (ElsesMeet env)) (expr names items env true q) ends (expr_meets q env true law.0) (holds_both (BlockMeets env) (ElsesMeet env) (in_block names items env b) (elses names items env es) (block_meets b env law.1) (elses_meet es env law.2)))
        (λ v m kept. branch_meets env at v.0 v.1.0 v.1.1 m.0 m.1.0 m.1.1)
    form_meets (pure at b) env law = holds_plain (λ v. Unit {0}) (FormMeets env) (λ v. (t.block_type v, t.pure at v)) (in_block names items (deeper env) b) (any_holds (in_block names items (deeper env) b)) (λ v m h cov. absurd cov)
    form_meets (parallel_range at n a e b) env law =
        let parts = both (new_name env n) (both (expr names items env true a) (both (expr names items env true e) (in_block names items (with_local n int (deeper env)) b))) in
        holds_node (λ v. Unit {0}) (FormMeets env) at (λ v. bounds_rules (t.type v.1.0) (t.type v.1.1.0)) (λ v. (parallel_gives items (t.block_type v.1.1.1), t.parallel_range at n v.1.0 v.1.1.0 v.1.1.1)) parts (any_holds parts) (λ v m kept h cov. absurd cov)
    form_meets (parallel_each at n e b) env law =
        let parts = scoped (node at (λ v. consumed_rules (t.type v.1)) (λ v. v.1) (both (new_name env n) (expr names items env true e))) (λ a. in_block names items (with_local n (isolate_of (isolate_in (t.type a))) (deeper env)) b) in
        holds_plain (λ v. Unit {0}) (FormMeets env) (λ v. (parallel_gives items (t.block_type v.1), t.parallel_each at n v.0 v.1)) parts (any_holds parts) (λ v m h cov. absurd cov)

    else_if_meets : (e : ElseIf) (env : Env) → else_if_is_lawful e → Holds (ElseIfMeets env) (in_else_if names items env e)
    else_if_meets (else_if at q b) env law =
        holds_plain (Pair (Meets env true) (BlockMeets env)) (ElseIfMeets env) (λ v. t.else_if at v.0 v.1) (both (expr names items env true q) (in_block names items env b))
        (holds_both (Meets env true) (BlockMeets env) (expr names items env true q) (in_block names items env b) (expr_meets q env true law.0) (block_meets b env law.1)) (λ v m es rest h cov. ((m.0 h cov.0).0, (m.1 h cov.1).0, rest h cov.2))

    elses_meet : (es : Elses) (env : Env) → elses_are_lawful es → Holds (ElsesMeet env) (elses names items env es)
    elses_meet no_else env law = λ h cov. tt
    elses_meet (otherwise b) env law = holds_plain (BlockMeets env) (ElsesMeet env) (λ v. t.otherwise v) (in_block names items env b) (block_meets b env law) (λ v m h cov. (m h cov).0)
    elses_meet (more_elses e es) env law =
        holds_plain (Pair (ElseIfMeets env) (ElsesMeet env)) (ElsesMeet env) (λ v. t.more_elses v.0 v.1) (both (in_else_if names items env e) (elses names items env es))
        (holds_both (ElseIfMeets env) (ElsesMeet env) (in_else_if names items env e) (elses names items env es) (else_if_meets e env law.0) (elses_meet es env law.1)) (λ v m. m.0 v.1 m.1)

    block_meets : (b : Block) (env : Env) → block_is_lawful b → Holds (BlockMeets env) (in_block names items env b)
    block_meets (block at end ss) env law = holds_plain (StmtsMeet env) (BlockMeets env) (λ v. t.block at end (t.stmts_type v) v) (stmts names items env ss) (stmts_meet ss env law) (λ v m. m)

    pub void_meets : (b : Block) (env : Env) → block_is_lawful b → Holds (BlockMeets env) (void_block names items env b)
    void_meets (block at end ss) env law =
        let inside = plain_node (λ v. t.block at end (t.stmts_type v) v) (stmts names items env ss) in
        holds_node (BlockMeets env) (BlockMeets env) at (λ v. void_rules (t.block_type v)) (λ v. v) inside
        (holds_plain (StmtsMeet env) (BlockMeets env) (λ v. t.block at end (t.stmts_type v) v) (stmts names items env ss) (stmts_meet ss env law) (λ v m. m)) (λ v m kept. m)

    stmts_meet : (ss : Stmts) (env : Env) → stmts_are_lawful ss → Holds (StmtsMeet env) (stmts names items env ss)
    stmts_meet no_stmts env law = λ h cov. (tt, tt)
    stmts_meet (last e) env law = holds_plain (Meets env true) (StmtsMeet env) (λ v. t.last v) (expr names items env true e) (expr_meets e env true law) (λ v m h cov. let k = m h cov in (k.0, k.1.value))
    stmts_meet (more_stmts s ss) env law =
        holds_plain (λ v. StmtMeets env v.0 × StmtsMeet (after v.0 env) v.1) (StmtsMeet env) (λ v. t.more_stmts v.0 v.1) (scoped (stmt names items env s) (λ a. stmts names items (after a env) ss))
        (holds_over (StmtMeets env) (λ a v. StmtsMeet (after a env) v) (stmt names items env s) (λ a. stmts names items (after a env) ss) (stmt_meets s env law.0) (λ a m. stmts_meet ss (after a env) law.1))
        (λ v m h cov. let one = m.0 h cov.0 in let rest = m.1 one.1 cov.1 in ((one.0, rest.0), rest.1))

    stmt_meets : (s : Stmt) (env : Env) → stmt_is_lawful s → Holds (StmtMeets env) (stmt names items env s)
    stmt_meets (declare n e) env law =
        holds_node (Meets env true) (StmtMeets env) n.at (λ a. declare_rules n env.scope (t.type a)) (λ a. t.declare n (t.type a) a) (expr names items env true e) (expr_meets e env true law)
        (λ a m kept h cov.
        let k = m h cov in
        let value = not_true (is_void (t.type a)) (rule_kept 20 (not (is_void (t.type a))) ((27, not (is_visible n env.scope)) ∷ []) kept).0 in
        ((value, k.0), ((k.1.value, value), h)))
    stmt_meets (destructure at ns e) env law =
        holds_node (Pair (λ v. Unit {0}) (Meets env true)) (StmtMeets env) at (λ v. destructure_rules (struct_fields items (t.type v.1)) ns) (λ v. t.destructure at ns (option_map_or field_types (struct_fields items (t.type v.1)) []) v.1) (both (new_names env ns) (expr names items env true e))
        (holds_both (λ v. Unit {0}) (Meets env true) (new_names env ns) (expr names items env true e) (any_holds (new_names env ns)) (expr_meets e env true law))
        (λ v m kept h cov.
        let fields = struct_fields items (t.type v.1) in
        let one = rule_kept 20 (is_some fields) ((22, option_map_or (λ fs. length fs == length ns) fields true) ∷ []) kept in
        let k = opened ns fields one.0 (one_rule 22 (option_map_or (λ fs. length fs == length ns) fields true) one.1) in
        ((k.0, (m.1 h cov).0), locals_solid ns (option_map_or field_types fields []) env k.0 k.1 h))
    stmt_meets (return_nothing at) env law = holds_leaf (StmtMeets env) at (return_nothing_rules env.gives) (t.return_nothing at) (λ kept h cov. (tt, h))
    stmt_meets (return_value at e) env law =
        holds_node (Meets env true) (StmtMeets env) at (λ a. return_value_rules items env.gives (t.type a)) (λ a. t.return_value at a) (expr names items env true e) (expr_meets e env true law)
        (λ a m kept h cov.
        let p = and_parts (not (is_void env.gives)) (fits items (t.type a) env.gives) (one_rule 20 (not (is_void env.gives) && fits items (t.type a) env.gives) kept) in
        ((fits_value items (t.type a) env.gives p.1 (not_true (is_void env.gives) p.0), (m h cov).0), h))
    stmt_meets (while at q b) env law =
        holds_node (Pair (Meets env true) (BlockMeets env)) (StmtMeets env) at (λ v. condition_rules (t.type v.0)) (λ v. t.while at v.0 v.1) (both (expr names items env true q) (void_block names items env b))
        (holds_both (Meets env true) (BlockMeets env) (expr names items env true q) (void_block names items env b) (expr_meets q env true law.0) (void_meets b env law.1)) (λ v m kept h cov. (((m.0 h cov.0).0, (m.1 h cov.1).0), h))
    stmt_meets (foreach at n a e b) env law =
        let inside = void_block names items (with_local n int env) b in
        let parts = both (expr names items env true a) (both (expr names items env true e) inside) in
        holds_node (Pair (λ v. Unit {0}) (Pair (Meets env true) (Pair (Meets env true) (BlockMeets (with_local n int env))))) (StmtMeets env) at (λ v. bounds_rules (t.type v.1.0) (t.type v.1.1.0)) (λ v. t.foreach at n v.1.0 v.1.1.0 v.1.1.1) (both (new_name env n) parts)
        (holds_both (λ v. Unit {0}) (Pair (Meets env true) (Pair (Meets env true) (BlockMeets (with_local n int env)))) (new_name env n) parts (any_holds (new_name env n))
        (holds_both (Meets env true) (Pair (Meets env true) (BlockMeets (with_local n int env))) (expr names items env true a) (both (expr names items env true e) inside) (expr_meets a env true law.0)
        (holds_both (Meets env true) (BlockMeets (with_local n int env)) (expr names items env true e) inside (expr_meets e env true law.1) (void_meets b (with_local n int env) law.2))))
        (λ v m kept h cov. (((m.1.0 h cov.0).0, (m.1.1.0 h cov.1).0, (m.1.1.1 ((tt, refl), h) cov.2).0), h))
    stmt_meets (form_stmt f) env law =
        holds_node (FormMeets env) (StmtMeets env) (form_spot f) (λ v. void_rules v.0) (λ v. t.form_stmt v.1) (in_form names items env f) (form_meets f env law) (λ v m kept h cov. ((m h cov).0, h))
    stmt_meets (express e) env law = holds_plain (Meets env true) (StmtMeets env) (λ v. t.express v) (expr names items env true e) (expr_meets e env true law) (λ v m h cov. ((m h cov).0, h))
