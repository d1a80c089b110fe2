-- What the phase of types accepts suits: by induction on the tree.
use Rattle.std.proofs.Common.{◌≡◌, ℕ, Bool, true, false, not, ◌&&◌, ◌||◌, ◌==◌, List, [], ◌∷◌, length, Option, Some, None, is_some, refl, sym, ap, subst, ◌∙◌}
use Rattle.std.specs.List.{list_all}
use Rattle.std.specs.Option.{option_map_or}
use Rattle.std.proofs.lemmas.Bool.{and_parts}
use Rattle.vale_base.specs.declared.spot.Spot.{Spot}
use Rattle.vale_syntax.specs.declared.built_in.BuiltIn.{BuiltIn}
use Rattle.vale_syntax.specs.declared.tree.NameAt.{NameAt}
use Rattle.vale_syntax.specs.declared.tree.UnaryOp.{UnaryOp}
use Rattle.vale_syntax.specs.declared.tree.UnaryOp.TheVariants as u
use Rattle.vale_syntax.specs.Tree.{Expr, set, chain, unary, steps, number, quote, truth, name, call, paren, array, iso, form, Exprs, no_exprs, more_exprs, Link, link, Links, no_links, more_links, Form, branch, pure, parallel_range, parallel_each, ElseIf, else_if, Elses, no_else, otherwise, more_elses, Block, block, Stmt, declare, destructure, return_nothing, return_value, while, foreach, form_stmt, express, Stmts, no_stmts, last, more_stmts, Head, FieldDecl, Item}
use Rattle.vale_rules_spec.specs.Declarations.{head_params}
use Rattle.vale_rules_spec.specs.Judged.{◌⇒◌, broken, both, fine}
use Rattle.vale_rules_spec.specs.Types.{Ty, void, int, bool, str, same, is_void, type_of, Seen, a_value, Local, local_of, is_visible, local_seen, is_movable, fields_of, function_named, fits}
use Rattle.vale_rules_spec.specs.Types as y
use Rattle.vale_rules_spec.specs.Typed as t
use Rattle.vale_rules_spec.specs.TypeRules.{is_bool, is_int, name_rules, declare_rules, takes_operands, link_rules, link_gives, unary_rules, unary_gives, takes_arguments, arity, all_fit, as_many, Called, nothing, language, struct, program, built_ins, built_in_among, called_else, called, callee, called_rules, called_gives, param_types, is_pure_head, array_rules, set_rules, set_gives, iso_rules, branch_rules, bounds_rules, void_rules, condition_rules, return_nothing_rules, return_value_rules, parallel_gives, struct_fields, field_types, destructure_rules}
use Rattle.vale_rules_spec.specs.Takes.{is_value_under}
use Rattle.vale_rules_spec.specs.Typing.{Env, with_local, after, deeper, named, form_spot, expr, exprs, operand, links, in_form, in_else_if, elses, in_block, void_block, stmts, stmt, new_name, new_names}
use Rattle.vale_model.specs.Kinds.{head_of}
use Rattle.vale_model.specs.Parts.{first_function, has_name}
use Rattle.vale_served_spec.specs.Served.{type_is_served, unary_is_served, callee_is_served, is_local, expr_is_served, exprs_are_served, links_are_served, form_is_served, elses_are_served, block_is_served, stmts_are_served, stmt_is_served}
use Rattle.vale_lowering.specs.Scopes.{head_result}
use Rattle.vale_lower_facts.specs.WellTyped.{unary_is_well_typed, callee_is_well_typed, set_is_well_typed, expr_is_well_typed, exprs_are_well_typed, links_are_well_typed, form_is_well_typed, elses_are_well_typed, block_is_well_typed, stmts_are_well_typed, stmt_is_well_typed}
use Rattle.vale_sound.proofs.Fine.{rule_kept, one_rule, asked, of_leaf, of_node, of_plain, of_fine, of_both, of_scoped}
use Rattle.vale_sound.proofs.Fits.{impossible, not_true, same_is, void_is, covered_fits, covered_type, args_fit, gives_value, seen_type, seen_place, same_gives, same_takes}
use Rattle.vale_sound.proofs.Literals.{HasOperator, LawfulExpr, LawfulExprs, LawfulLink, LawfulLinks, LawfulForm, LawfulElseIf, LawfulElses, LawfulBlock, LawfulStmts, LawfulStmt}

-- a function of this name and with this head is the first of its name
pub record IsFound (functions : List t.Function) (n : ℕ) (h : Head) : Type 0 where
  pub is : t.Function
  pub found : first_function (has_name n) functions ≡ Some is
  pub has_head : head_of is ≡ h

-- each function that a name stands for in the source is among these
abbrev pub Finds : List Item → List t.Function → Type 0
Finds items functions = (n : ℕ) (h : Head) → function_named items n ≡ Some h → IsFound functions n h

-- ---- names

is_there : (n : NameAt) (env : Env) (o : Option Local) → local_of n.name.0 env.scope ≡ o → broken (name_rules n env.scope) ≡ None → is_some o ≡ true
is_there n env o e kept = subst (λ x. is_some x ≡ true) e (one_rule 21 (is_visible n env.scope) kept)

module _ (functions : List t.Function) where
  name_is_well_typed : (env : Env) (as_value : Bool) (n : NameAt) (o : Option Local) → local_of n.name.0 env.scope ≡ o → is_some o ≡ true → expr_is_served (named env as_value n o) ≡ true → expr_is_well_typed functions env (named env as_value n o)
  name_is_well_typed env as_value n None e there cov = impossible there
  name_is_well_typed env as_value n (Some l) e there cov = record { is = l; found = e; typed = seen_type env.depth l (covered_type (named env as_value n (Some l)) cov) }

  place_is_well_typed : (items : List Item) (env : Env) (as_value : Bool) (n : NameAt) (o : Option Local) → local_of n.name.0 env.scope ≡ o → is_some o ≡ true → (ty : Ty) → type_is_served ty ≡ true
      → option_map_or (fits items ty) (t.seen (named env as_value n o)).place true ≡ true
      → set_is_well_typed functions env (named env as_value n o) ty (set_gives (t.seen (named env as_value n o)).place)
  place_is_well_typed items env as_value n None e there ty cov fit = impossible there
  place_is_well_typed items env as_value n (Some l) e there ty cov fit =
      let place = seen_place env.depth l in
      let is_type = covered_fits items ty l.ty cov (subst (λ p. option_map_or (fits items ty) p true ≡ true) place fit) in
      (record { is = l; found = e; typed = sym is_type }, subst (λ p. set_gives p ≡ ty) (sym place) (sym is_type))

-- ---- operators

-- what no operator follows is a value
abbrev Begins : Seen → Links → Type 0
Begins s no_links = is_void s.value ≡ false
Begins s (more_links l ls) = Unit {0}

begins : (s : Seen) (ls : Links) → HasOperator ls → Begins s ls
begins s no_links h = absurd h
begins s (more_links l ls) h = tt

goes_on : (s : Seen) (ls : Links) → is_void s.value ≡ false → Begins s ls
goes_on s no_links e = e
goes_on s (more_links l ls) e = tt

-- ---- calls

pub called_program : (a : Option BuiltIn) (b : Option (List FieldDecl)) (c : Option Head) (h : Head) → called_else a b c ≡ program h → c ≡ Some h
called_program (Some f) b c h e = absurd (cc)
called_program None (Some fs) c h e = absurd (cc)
called_program None None (Some g) h e = let same : g ≡ h = cc in ap Some same
called_program None None None h e = absurd (cc)

module _ (names : List (List ℕ)) (items : List Item) (functions : List t.Function) (finds : Finds items functions) where
  call_is_well_typed : (n : NameAt) (c : Called) → called names items n ≡ c → (v : t.Exprs) → callee_is_served (callee c) ≡ true → exprs_are_served v ≡ true → broken (called_rules items c (t.types v)) ≡ None → callee_is_well_typed functions n (callee c) (t.types v) (called_gives n c (t.types v))
  call_is_well_typed n nothing e v cov args kept = impossible (one_rule 21 false kept)
  call_is_well_typed n (language f) e v cov args kept =
      let many = length (t.types v) == arity f in
      let takes = takes_arguments items f (t.types v) in
      let first = rule_kept 20 (many ⇒ takes) ((22, many) ∷ []) kept in
      record { taken = same_takes items f (t.types v) cov (asked many takes first.0 (one_rule 22 many first.1)); given = refl }
  call_is_well_typed n (struct fs) e v cov args kept = impossible cov
  call_is_well_typed n (program h) e v cov args kept =
      let takes = param_types (head_params h) in
      let many = as_many (t.types v) takes in
      let plain = not_true (is_pure_head h) cov in
      let first = rule_kept 20 (many ⇒ all_fit items (is_pure_head h) (t.types v) takes) ((22, many) ∷ []) kept in
      let fit = asked many (all_fit items (is_pure_head h) (t.types v) takes) first.0 (one_rule 22 many first.1) in
      let f = finds n.name.0 h (called_program (built_in_among built_ins names n) (fields_of items n.name.0) (function_named items n.name.0) h e) in
      record {
        is = f.is;
        found = f.found;
        taken = args_fit items v takes args (subst (λ p. all_fit items p (t.types v) takes ≡ true) plain fit) ∙ ap (λ g. param_types (head_params g)) (sym f.has_head);
        given = same_gives h ∙ ap (λ g. head_result g) (sym f.has_head);
      }

  -- ---- what is shown of the parts

  abbrev PlaceMeets : Env → t.Expr → Type 0
  PlaceMeets env x = is_local x ≡ true → (ty : Ty) → type_is_served ty ≡ true → option_map_or (fits items ty) (t.seen x).place true ≡ true → set_is_well_typed functions env x ty (set_gives (t.seen x).place)

  abbrev Meets : Env → t.Expr → Type 0
  Meets env x = (expr_is_served x ≡ true → expr_is_well_typed functions env x) × PlaceMeets env x

  abbrev ExprsMeet : Env → t.Exprs → Type 0
  ExprsMeet env v = exprs_are_served v ≡ true → exprs_are_well_typed functions env v

  abbrev LinksMeet : Env → Seen → t.Links → Type 0
  LinksMeet env s v = links_are_served v ≡ true → links_are_well_typed functions env s.value (t.chain_seen s v).value v

  -- the operator gives a value
  abbrev LinkMeets : Env → Seen → t.Link → Type 0
  LinkMeets env s l = (is_void (t.link_seen l).value ≡ false) × ((ls : t.Links) → LinksMeet env (t.link_seen l) ls → LinksMeet env s (t.more_links l ls))

  abbrev FormMeets : Env → Ty × t.Form → Type 0
  FormMeets env v = form_is_served v.1 ≡ true → form_is_well_typed functions env v.0 v.1

  -- all blocks have this type, and without an `else` it is void
  abbrev ElsesMeet : Env → t.Elses → Type 0
  ElsesMeet env v = elses_are_served v ≡ true → (x : Ty) → list_all is_bool (t.condition_types v) ≡ true → list_all (same x) (t.block_types v) ≡ true → (t.has_else v || is_void x) ≡ true → elses_are_well_typed functions env x v

  abbrev ElseIfMeets : Env → t.ElseIf → Type 0
  ElseIfMeets env e = (es : t.Elses) → ElsesMeet env es → ElsesMeet env (t.more_elses e es)

  abbrev BlockMeets : Env → t.Block → Type 0
  BlockMeets env b = block_is_served b ≡ true → block_is_well_typed functions env (t.block_type b) b

  abbrev VoidMeets : Env → t.Block → Type 0
  VoidMeets env b = block_is_served b ≡ true → block_is_well_typed functions env void b

  abbrev StmtsMeet : Env → t.Stmts → Type 0
  StmtsMeet env v = stmts_are_served v ≡ true → stmts_are_well_typed functions env (t.stmts_type v) v

  abbrev StmtMeets : Env → t.Stmt → Type 0
  StmtMeets env s = stmt_is_served s ≡ true → stmt_is_well_typed functions env s

  -- ---- single nodes

  unary_meets : (op : UnaryOp) (s : Seen) → unary_is_served op ≡ true → broken (unary_rules op s) ≡ None → unary_is_well_typed op s.value (unary_gives op s)
  unary_meets u.Minus s cov kept = (same_is s.value int (one_rule 20 (is_int s.value) kept), refl)
  unary_meets u.Not s cov kept = (same_is s.value bool (one_rule 20 (is_bool s.value) kept), refl)
  unary_meets u.Borrow s cov kept = tt
  unary_meets u.Merge s cov kept = tt

  else_if_meets : (env : Env) (at : Spot) (c : t.Expr) (b : t.Block) → (expr_is_served c ≡ true → expr_is_well_typed functions env c) → BlockMeets env b → ElseIfMeets env (t.else_if at c b)
  else_if_meets env at c b meets meets_block es rest cov x bools alike ends =
      let p = and_parts (expr_is_served c && block_is_served b) (elses_are_served es) cov in
      let q = and_parts (expr_is_served c) (block_is_served b) p.0 in
      let bs = and_parts (is_bool (t.type c)) (list_all is_bool (t.condition_types es)) bools in
      let ss = and_parts (same x (t.block_type b)) (list_all (same x) (t.block_types es)) alike in (
        same_is (t.type c) bool bs.0,
        meets q.0,
        subst (λ y. block_is_well_typed functions env y b) (sym (same_is x (t.block_type b) ss.0)) (meets_block q.1),
        rest p.1 x bs.1 ss.1 ends,
      )

  branch_meets : (env : Env) (at : Spot) (c : t.Expr) (b : t.Block) (es : t.Elses) → (expr_is_served c ≡ true → expr_is_well_typed functions env c) → BlockMeets env b → ElsesMeet env es
      → broken (branch_rules (t.type c ∷ t.condition_types es) (t.block_type b) (t.block_types es) (t.has_else es)) ≡ None → FormMeets env (t.block_type b, t.branch at c b es)
  branch_meets env at c b es meets meets_block rest kept cov =
      let x = t.block_type b in
      let p = and_parts (expr_is_served c && block_is_served b) (elses_are_served es) cov in
      let q = and_parts (expr_is_served c) (block_is_served b) p.0 in
      let bools = list_all is_bool (t.type c ∷ t.condition_types es) in
      let alike = list_all (same x) (t.block_types es) in
      let ends = t.has_else es || is_void x in
      let r = and_parts (bools && alike) ends (one_rule 20 (bools && alike && ends) kept) in
      let s = and_parts bools alike r.0 in
      let bs = and_parts (is_bool (t.type c)) (list_all is_bool (t.condition_types es)) s.0 in
      (same_is (t.type c) bool bs.0, meets q.0, meets_block q.1, rest p.1 x bs.1 s.1 r.1)

  -- ---- by induction on the tree

  mutual
    pub expr_meets : (env : Env) (as_value : Bool) (e : Expr) (x : t.Expr) → LawfulExpr e → expr names items env as_value e ≡ fine x → Meets env x
    expr_meets env as_value (set at p e) x law is =
        of_node (Meets env) at (λ v. set_rules items (t.may_be_set v.0) (t.seen v.0).place (t.type v.1)) (λ v. t.expr (a_value (set_gives (t.seen v.0).place)) (t.set at v.0 v.1))
        (both (expr names items env false p) (expr names items env true e)) x is
        (λ v each kept.
        let parts = of_both (expr names items env false p) (expr names items env true e) v each in
        let place = expr_meets env false p v.0 law.0 parts.0 in
        let value = expr_meets env true e v.1 law.1 parts.1 in (
          (λ cov.
              let c = and_parts (is_local v.0) (expr_is_served v.1) (and_parts (type_is_served (set_gives (t.seen v.0).place)) (is_local v.0 && expr_is_served v.1) cov).1 in
              let fit = option_map_or (fits items (t.type v.1)) (t.seen v.0).place true in
              (place.1 c.0 (t.type v.1) (covered_type v.1 c.1) (rule_kept 20 fit ((23, is_some (t.seen v.0).place) ∷ (24, t.may_be_set v.0) ∷ []) kept).0, value.0 c.1)),
          (λ local ty cov fit. impossible local),
        ))
    expr_meets env as_value (chain e ls) x law is =
        of_plain (Meets env) (λ v. t.expr (t.chain_seen (t.seen v.0) v.1) (t.chain v.0 v.1)) _ x is
        (λ v each.
        let parts = of_scoped (expr names items env true e) (λ a. links names items env (t.seen a) ls) v each in
        let first = expr_meets env true e v.0 law.1.0 parts.0 in
        let rest = links_meet env (t.seen v.0) ls v.1 (begins (t.seen v.0) ls law.0) law.1.1 parts.1 in (
          (λ cov.
              let c = and_parts (expr_is_served v.0) (links_are_served v.1) (and_parts (type_is_served (t.chain_seen (t.seen v.0) v.1).value) (expr_is_served v.0 && links_are_served v.1) cov).1 in
              (first.0 c.0, rest c.1)),
          (λ local ty cov fit. impossible local),
        ))
    expr_meets env as_value (unary at op e) x law is =
        of_node (Meets env) at (λ a. unary_rules op (t.seen a)) (λ a. t.expr (a_value (unary_gives op (t.seen a))) (t.unary at op a)) (expr names items env (is_value_under op) e) x is
        (λ a each kept.
        let under = expr_meets env (is_value_under op) e a law each in (
          (λ cov.
              let c = and_parts (unary_is_served op) (expr_is_served a) (and_parts (type_is_served (unary_gives op (t.seen a))) (unary_is_served op && expr_is_served a) cov).1 in
              (unary_meets op (t.seen a) c.0 kept, under.0 c.1)),
          (λ local ty cov fit. impossible local),
        ))
    expr_meets env as_value (steps e ss) x law is =
        of_plain (Meets env) (λ v. t.expr (t.steps_seen (t.seen v.0) v.1) (t.steps v.0 v.1)) _ x is
        (λ v each. (λ cov. tt, λ local ty cov fit. impossible local))
    expr_meets env as_value (number at n) x law is = of_fine (Meets env) (t.expr (a_value int) (t.number at n)) x is (λ cov. (refl, law), λ local ty cov fit. impossible local)
    expr_meets env as_value (quote at text) x law is = of_fine (Meets env) (t.expr (a_value str) (t.quote at text)) x is (λ cov. (refl, law), λ local ty cov fit. impossible local)
    expr_meets env as_value (truth at b) x law is = of_fine (Meets env) (t.expr (a_value bool) (t.truth at b)) x is (λ cov. refl, λ local ty cov fit. impossible local)
    expr_meets env as_value (name n) x law is =
        of_leaf (Meets env) n.at (name_rules n env.scope) (named env as_value n (local_of n.name.0 env.scope)) x is
        (λ kept.
        let there = is_there n env (local_of n.name.0 env.scope) refl kept in (
          (λ cov. name_is_well_typed functions env as_value n (local_of n.name.0 env.scope) refl there cov),
          (λ local ty cov fit. place_is_well_typed functions items env as_value n (local_of n.name.0 env.scope) refl there ty cov fit),
        ))
    expr_meets env as_value (call n es) x law is =
        of_node (Meets env) n.at (λ v. called_rules items (called names items n) (t.types v)) (λ v. t.expr (a_value (called_gives n (called names items n) (t.types v))) (t.call n (callee (called names items n)) v)) (exprs names items env es) x is
        (λ v each kept.
        let args = exprs_meet env es v law each in
        let c = called names items n in (
          (λ cov.
              let d = and_parts (callee_is_served (callee c)) (exprs_are_served v) (and_parts (type_is_served (called_gives n c (t.types v))) (callee_is_served (callee c) && exprs_are_served v) cov).1 in
              (call_is_well_typed n c refl v d.0 d.1 kept, args d.1)),
          (λ local ty cov fit. impossible local),
        ))
    expr_meets env as_value (paren at e) x law is =
        of_plain (Meets env) (λ a. t.expr (a_value (t.type a)) (t.paren at a)) (expr names items env true e) x is
        (λ a each.
        let inside = expr_meets env true e a law each in
        (λ cov. (refl, inside.0 (and_parts (type_is_served (t.type a)) (expr_is_served a) cov).1), λ local ty cov fit. impossible local))
    expr_meets env as_value (array at z es) x law is =
        of_node (Meets env) at (λ v. array_rules items (type_of z) (t.types v)) (λ v. t.expr (a_value (y.array (type_of z))) (t.array at (type_of z) v)) (exprs names items env es) x is
        (λ v each kept. (λ cov. tt, λ local ty cov fit. impossible local))
    expr_meets env as_value (iso at b) x law is =
        of_node (Meets env) at (λ v. iso_rules items (t.block_type v)) (λ v. t.expr (a_value (y.iso (t.block_type v))) (t.iso at v)) (in_block names items (deeper env) b) x is
        (λ v each kept. (λ cov. tt, λ local ty cov fit. impossible local))
    expr_meets env as_value (form f) x law is =
        of_plain (Meets env) (λ v. t.expr (a_value v.0) (t.form v.1)) (in_form names items env f) x is
        (λ v each.
        let inside = form_meets env f v law each in
        (λ cov. inside (and_parts (type_is_served v.0) (form_is_served v.1) cov).1, λ local ty cov fit. impossible local))

    exprs_meet : (env : Env) (es : Exprs) (v : t.Exprs) → LawfulExprs es → exprs names items env es ≡ fine v → ExprsMeet env v
    exprs_meet env no_exprs v law is = of_fine (ExprsMeet env) t.no_exprs v is (λ cov. tt)
    exprs_meet env (more_exprs e es) v law is =
        of_plain (ExprsMeet env) (λ v. t.more_exprs v.0 v.1) (both (expr names items env true e) (exprs names items env es)) v is
        (λ w each.
        let parts = of_both (expr names items env true e) (exprs names items env es) w each in
        let one = expr_meets env true e w.0 law.0 parts.0 in
        let more = exprs_meet env es w.1 law.1 parts.1 in
        λ cov. let c = and_parts (expr_is_served w.0) (exprs_are_served w.1) cov in (one.0 c.0, more c.1))

    link_meets : (env : Env) (s : Seen) (l : Link) (v : t.Link) → LawfulLink l → operand names items env s l ≡ fine v → LinkMeets env s v
    link_meets env s (link at op e) v law is =
        of_node (LinkMeets env s) at (λ a. link_rules op s.value (t.type a)) (λ a. t.link (a_value (link_gives op s.value)) at op a) (expr names items env true e) v is
        (λ a each kept.
        let one = expr_meets env true e a law each in
        let takes = one_rule 20 (takes_operands op s.value (t.type a)) kept in (
          gives_value op s.value (t.type a) takes,
          (λ ls rest cov.
              let c = and_parts (expr_is_served a) (links_are_served ls) cov in
              (takes, refl, one.0 c.0, rest c.1)),
        ))

    links_meet : (env : Env) (s : Seen) (ls : Links) (v : t.Links) → Begins s ls → LawfulLinks ls → links names items env s ls ≡ fine v → LinksMeet env s v
    links_meet env s no_links v some law is = of_fine (LinksMeet env s) t.no_links v is (λ cov. (refl, some))
    links_meet env s (more_links l ls) v some law is =
        of_plain (LinksMeet env s) (λ v. t.more_links v.0 v.1) _ v is
        (λ w each.
        let parts = of_scoped (operand names items env s l) (λ a. links names items env (t.link_seen a) ls) w each in
        let one = link_meets env s l w.0 law.0 parts.0 in
        one.1 w.1 (links_meet env (t.link_seen w.0) ls w.1 (goes_on (t.link_seen w.0) ls one.0) law.1 parts.1))

    form_meets : (env : Env) (f : Form) (v : Ty × t.Form) → LawfulForm f → in_form names items env f ≡ fine v → FormMeets env v
    form_meets env (branch at c b es) v law is =
        of_node (FormMeets env) at (λ v. branch_rules (t.type v.0 ∷ t.condition_types v.1.1) (t.block_type v.1.0) (t.block_types v.1.1) (t.has_else v.1.1)) (λ v. (t.block_type v.1.0, t.branch at v.0 v.1.0 v.1.1))
        (both (expr names items env true c) (both (in_block names items env b) (elses names items env es))) v is
        (λ w each kept.
        let parts = of_both (expr names items env true c) (both (in_block names items env b) (elses names items env es)) w each in
        let more = of_both (in_block names items env b) (elses names items env es) w.1 parts.1 in
        let test = expr_meets env true c w.0 law.0 parts.0 in
        branch_meets env at w.0 w.1.0 w.1.1 test.0 (block_meets env b w.1.0 law.1.0 more.0) (elses_meet env es w.1.1 law.1.1 more.1) kept)
    form_meets env (pure at b) v law is = of_plain (FormMeets env) (λ v. (t.block_type v, t.pure at v)) _ v is (λ w each cov. tt)
    form_meets env (parallel_range at n a e b) v law is =
        of_node (FormMeets env) at (λ v. bounds_rules (t.type v.1.0) (t.type v.1.1.0)) (λ v. (parallel_gives items (t.block_type v.1.1.1), t.parallel_range at n v.1.0 v.1.1.0 v.1.1.1))
        (both (new_name env n) (both (expr names items env true a) (both (expr names items env true e) (in_block names items (with_local n int (deeper env)) b)))) v is
        (λ w each kept cov. tt)
    form_meets env (parallel_each at n e b) v law is =
        of_plain (FormMeets env) (λ v. (parallel_gives items (t.block_type v.1), t.parallel_each at n v.0 v.1)) _ v is (λ w each cov. tt)

    else_meets : (env : Env) (e : ElseIf) (v : t.ElseIf) → LawfulElseIf e → in_else_if names items env e ≡ fine v → ElseIfMeets env v
    else_meets env (else_if at c b) v law is =
        of_plain (ElseIfMeets env) (λ v. t.else_if at v.0 v.1) (both (expr names items env true c) (in_block names items env b)) v is
        (λ w each.
        let parts = of_both (expr names items env true c) (in_block names items env b) w each in
        let test = expr_meets env true c w.0 law.0 parts.0 in
        else_if_meets env at w.0 w.1 test.0 (block_meets env b w.1 law.1 parts.1))

    elses_meet : (env : Env) (es : Elses) (v : t.Elses) → LawfulElses es → elses names items env es ≡ fine v → ElsesMeet env v
    elses_meet env no_else v law is = of_fine (ElsesMeet env) t.no_else v is (λ cov x bools alike ends. void_is x ends)
    elses_meet env (otherwise b) v law is =
        of_plain (ElsesMeet env) (λ v. t.otherwise v) (in_block names items env b) v is
        (λ w each.
        let inside = block_meets env b w law each in
        λ cov x bools alike ends.
        subst (λ y. block_is_well_typed functions env y w) (sym (same_is x (t.block_type w) (and_parts (same x (t.block_type w)) true alike).0)) (inside cov))
    elses_meet env (more_elses e es) v law is =
        of_plain (ElsesMeet env) (λ v. t.more_elses v.0 v.1) (both (in_else_if names items env e) (elses names items env es)) v is
        (λ w each.
        let parts = of_both (in_else_if names items env e) (elses names items env es) w each in
        else_meets env e w.0 law.0 parts.0 w.1 (elses_meet env es w.1 law.1 parts.1))

    pub block_meets : (env : Env) (b : Block) (v : t.Block) → LawfulBlock b → in_block names items env b ≡ fine v → BlockMeets env v
    block_meets env (block at end ss) v law is =
        of_plain (BlockMeets env) (λ v. t.block at end (t.stmts_type v) v) (stmts names items env ss) v is
        (λ w each. let inside = stmts_meet env ss w law each in λ cov. (refl, inside cov))

    pub void_meets : (env : Env) (b : Block) (v : t.Block) → LawfulBlock b → void_block names items env b ≡ fine v → VoidMeets env v
    void_meets env (block at end ss) v law is =
        of_node (VoidMeets env) at (λ v. void_rules (t.block_type v)) (λ v. v) _ v is
        (λ w each kept.
        of_plain (λ b. is_void (t.block_type b) ≡ true → VoidMeets env b) (λ v. t.block at end (t.stmts_type v) v) (stmts names items env ss) w each
        (λ z inner.
        let inside = stmts_meet env ss z law inner in
        λ none cov. let e = void_is (t.stmts_type z) none in (e, subst (λ x. stmts_are_well_typed functions env x z) e (inside cov)))
        (one_rule 20 (is_void (t.block_type w)) kept))

    stmts_meet : (env : Env) (ss : Stmts) (v : t.Stmts) → LawfulStmts ss → stmts names items env ss ≡ fine v → StmtsMeet env v
    stmts_meet env no_stmts v law is = of_fine (StmtsMeet env) t.no_stmts v is (λ cov. refl)
    stmts_meet env (last e) v law is =
        of_plain (StmtsMeet env) (λ v. t.last v) (expr names items env true e) v is
        (λ a each. let one = expr_meets env true e a law each in λ cov. (refl, one.0 cov))
    stmts_meet env (more_stmts s ss) v law is =
        of_plain (StmtsMeet env) (λ v. t.more_stmts v.0 v.1) _ v is
        (λ w each.
        let parts = of_scoped (stmt names items env s) (λ a. stmts names items (after a env) ss) w each in
        let one = stmt_meets env s w.0 law.0 parts.0 in
        let more = stmts_meet (after w.0 env) ss w.1 law.1 parts.1 in
        λ cov. let c = and_parts (stmt_is_served w.0) (stmts_are_served w.1) cov in (one c.0, more c.1))

    stmt_meets : (env : Env) (s : Stmt) (v : t.Stmt) → LawfulStmt s → stmt names items env s ≡ fine v → StmtMeets env v
    stmt_meets env (declare n e) v law is =
        of_node (StmtMeets env) n.at (λ a. declare_rules n env.scope (t.type a)) (λ a. t.declare n (t.type a) a) (expr names items env true e) v is
        (λ a each kept.
        let one = expr_meets env true e a law each in
        λ cov. (refl, not_true (is_void (t.type a)) (rule_kept 20 (not (is_void (t.type a))) ((27, not (is_visible n env.scope)) ∷ []) kept).0, one.0 cov))
    stmt_meets env (destructure at ns e) v law is =
        of_node (StmtMeets env) at
        (λ v. destructure_rules (struct_fields items (t.type v.1)) ns)
        (λ v. t.destructure at ns (option_map_or field_types (struct_fields items (t.type v.1)) []) v.1)
        (both (new_names env ns) (expr names items env true e)) v is
        (λ w each kept cov. tt)
    stmt_meets env (return_nothing at) v law is =
        of_leaf (StmtMeets env) at (return_nothing_rules env.gives) (t.return_nothing at) v is (λ kept cov. void_is env.gives (one_rule 20 (is_void env.gives) kept))
    stmt_meets env (return_value at e) v law is =
        of_node (StmtMeets env) at (λ a. return_value_rules items env.gives (t.type a)) (λ a. t.return_value at a) (expr names items env true e) v is
        (λ a each kept.
        let one = expr_meets env true e a law each in
        let r = and_parts (not (is_void env.gives)) (fits items (t.type a) env.gives) (one_rule 20 (not (is_void env.gives) && fits items (t.type a) env.gives) kept) in
        λ cov. (covered_fits items (t.type a) env.gives (covered_type a cov) r.1, not_true (is_void env.gives) r.0, one.0 cov))
    stmt_meets env (while at c b) v law is =
        of_node (StmtMeets env) at (λ v. condition_rules (t.type v.0)) (λ v. t.while at v.0 v.1) (both (expr names items env true c) (void_block names items env b)) v is
        (λ w each kept.
        let parts = of_both (expr names items env true c) (void_block names items env b) w each in
        let test = expr_meets env true c w.0 law.0 parts.0 in
        let body = void_meets env b w.1 law.1 parts.1 in
        λ cov.
        let d = and_parts (expr_is_served w.0) (block_is_served w.1) cov in
        (same_is (t.type w.0) bool (one_rule 20 (is_bool (t.type w.0)) kept), test.0 d.0, body d.1))
    stmt_meets env (foreach at n a e b) v law is =
        of_node (StmtMeets env) at (λ v. bounds_rules (t.type v.1.0) (t.type v.1.1.0)) (λ v. t.foreach at n v.1.0 v.1.1.0 v.1.1.1)
        (both (new_name env n) (both (expr names items env true a) (both (expr names items env true e) (void_block names items (with_local n int env) b)))) v is
        (λ w each kept.
        let p = of_both (new_name env n) (both (expr names items env true a) (both (expr names items env true e) (void_block names items (with_local n int env) b))) w each in
        let q = of_both (expr names items env true a) (both (expr names items env true e) (void_block names items (with_local n int env) b)) w.1 p.1 in
        let r = of_both (expr names items env true e) (void_block names items (with_local n int env) b) w.1.1 q.1 in
        let low = expr_meets env true a w.1.0 law.0 q.0 in
        let high = expr_meets env true e w.1.1.0 law.1.0 r.0 in
        let body = void_meets (with_local n int env) b w.1.1.1 law.1.1 r.1 in
        let k = and_parts (is_int (t.type w.1.0)) (is_int (t.type w.1.1.0)) (one_rule 20 (is_int (t.type w.1.0) && is_int (t.type w.1.1.0)) kept) in
        λ cov.
        let c = and_parts (expr_is_served w.1.0 && expr_is_served w.1.1.0) (block_is_served w.1.1.1) cov in
        let d = and_parts (expr_is_served w.1.0) (expr_is_served w.1.1.0) c.0 in
        (same_is (t.type w.1.0) int k.0, same_is (t.type w.1.1.0) int k.1, low.0 d.0, high.0 d.1, body c.1))
    stmt_meets env (form_stmt f) v law is =
        of_node (StmtMeets env) (form_spot f) (λ v. void_rules v.0) (λ v. t.form_stmt v.1) (in_form names items env f) v is
        (λ w each kept.
        let inside = form_meets env f w law each in
        λ cov. subst (λ x. form_is_well_typed functions env x w.1) (void_is w.0 (one_rule 20 (is_void w.0) kept)) (inside cov))
    stmt_meets env (express e) v law is =
        of_plain (StmtMeets env) (λ v. t.express v) (expr names items env true e) v is
        (λ a each. let one = expr_meets env true e a law each in λ cov. one.0 cov)
