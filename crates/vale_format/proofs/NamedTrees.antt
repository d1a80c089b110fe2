-- A tree that tokens spell has names with texts of their own.
use Rattle.std.proofs.Common.{◌≡◌, ◌≤◌, ℕ, zero, suc, Bool, true, false, not, List, [], ◌∷◌, length, Option, None, Some, refl, sym, subst}
use Rattle.std.specs.Prelude.{filter}
use Rattle.std.specs.List.{AllByRecursion, IsDistinct}
use Rattle.std.specs.Str.{bytes_eq}
use Rattle.std.proofs.lemmas.List.Quantifiers.{position-Some}
use Rattle.std.proofs.lemmas.Map.Keys.{IsDistinct-head, IsDistinct-tail, IsDistinct-cons}
use Rattle.vale_base.specs.Limits.{level_limit}
use Rattle.vale_base.specs.declared.name.Name.{Name}
use Rattle.vale_syntax.specs.declared.token.Token.{Token}
use Rattle.vale_syntax.specs.declared.tree.NameAt.{NameAt}
use Rattle.vale_syntax.specs.Grammar.{Part, optional, each, with_commas, deeper, ◌▸◌, ◌⊳◌, first_seen, whole, postfix, primary, operand, alone, named, member, sign, IsType, IsExpr, AreArgs, AreMoreArgs, AreLinks, IsStep, AreSteps, IsForm, IsElseIf, AreElses, IsBlock, AreStmts, IsStmt, IsParam, IsHead, IsFunction, IsField, IsItem, spells}
use Rattle.vale_syntax.specs.declared.token.Sign.TheVariants as s
use Rattle.vale_syntax.specs.Tree.{TypeExpr, int_type, bool_type, str_type, named_type, array_type, ref_type, imm_ref_type, iso_type, Expr, set, chain, unary, steps, number, quote, truth, name, call, paren, array, iso, form, Exprs, no_exprs, more_exprs, link, Links, no_links, more_links, Step, field, method, index, Steps, no_steps, more_steps, Form, branch, pure, parallel_range, parallel_each, ElseIf, else_if, Elses, no_else, otherwise, more_elses, Block, block, Stmt, declare, destructure, return_nothing, return_value, while, foreach, form_stmt, express, Stmts, no_stmts, last, more_stmts, Param, param, Head, head, Function, function, FieldDecl, field_decl, Item, struct_item, interface_item, impl_item, function_item, Tree, tree}
use Rattle.vale_format.specs.Named.{HasText, NamedType, NamedExpr, NamedExprs, NamedLinks, NamedStep, NamedSteps, NamedForm, NamedElseIf, NamedElses, NamedBlock, NamedStmts, NamedStmt, NamedParam, NamedResult, NamedHead, NamedFunction, NamedField, NamedItem, IsNamed}

-- ---- what is known where tokens spell a part

record Knows (P : Part) (C : Type 0) : Type 1 where
  by : (ts rest : List Token) → P ts rest → C

both : {P Q : Part} {C D : Type 0} → Knows P C → Knows Q D → Knows (P ▸ Q) (C × D)
both h i = record { by = λ ts rest (mid, x, y). (h.by ts mid x, i.by mid rest y) }

first : {P Q : Part} {C : Type 0} → Knows P C → Knows (P ▸ Q) C
first h = record { by = λ ts rest (mid, x, y). h.by ts mid x }

then : {P Q : Part} {D : Type 0} → Knows Q D → Knows (P ▸ Q) D
then i = record { by = λ ts rest (mid, x, y). i.by mid rest y }

given : (A : Type 0) {P : Part} {C : Type 0} → Knows P C → Knows (A ⊳ P) C
given A h = record { by = λ ts rest x. h.by ts rest x.1 }

flat : {P : Part} {A B C : Type 0} → Knows P (A × (B × C)) → Knows P (A × B × C)
flat h = record { by = λ ts rest x. let y = h.by ts rest x in (y.0, y.1.0, y.1.1) }

flat_four : {P : Part} {A B C D : Type 0} → Knows P (A × (B × (C × D))) → Knows P (A × B × C × D)
flat_four h = record { by = λ ts rest x. let y = h.by ts rest x in (y.0, y.1.0, y.1.1.0, y.1.1.1) }

inner : {P : ℕ → Part} {C : Type 0} → ((d : ℕ) → Knows (P d) C) → (d : ℕ) → Knows (deeper d P) C
inner h zero = record { by = λ ts rest x. absurd x }
inner h (suc d) = h d

nothing_known : (P : Part) → Knows P (Unit {0})
nothing_known P = record { by = λ ts rest x. tt }

eachs : {X : Type 0} {P : X → Part} {C : X → Type 0} → ((x : X) → Knows (P x) (C x)) → (xs : List X) → Knows (each P xs) (AllByRecursion C xs)
eachs h [] = record { by = λ ts rest x. tt }
eachs h (x ∷ xs) = both (h x) (eachs h xs)

later : {X : Type 0} {P : X → Part} {C : X → Type 0} → ((x : X) → Knows (P x) (C x)) → (xs : List X) → Knows (each (λ y. sign s.Comma ▸ P y) xs) (AllByRecursion C xs)
later h [] = record { by = λ ts rest x. tt }
later h (x ∷ xs) = both (then (h x)) (later h xs)

commas : {X : Type 0} {P : X → Part} {C : X → Type 0} → ((x : X) → Knows (P x) (C x)) → (xs : List X) → Knows (with_commas P xs) (AllByRecursion C xs)
commas h [] = record { by = λ ts rest x. tt }
commas h (x ∷ xs) = both (h x) (later h xs)

alones : (e : Expr) {P : Part} {C : Type 0} → Knows P C → Knows (alone e P) C
alones e {P = P} {C = C} h = record { by = go } where
  go : (ts rest : List Token) → alone e P ts rest → C
  go [] rest x = h.by [] rest x
  go (t ∷ ts) rest x = h.by (t ∷ ts) rest x.1

-- ---- the productions

module _ (names : List (List ℕ)) where
  name_known : (n : NameAt) → Knows (named names n) (HasText (length names) n.name)
  name_known n = record { by = λ ts rest (text, is, h). (position-Some (bytes_eq text) names n.name.0 [] is).0 }

  member_known : (n : Name) → Knows (member names n) (HasText (length names) n)
  member_known n = record { by = λ ts rest (at, h). (name_known (record { name = n; at = at })).by ts rest h }

  type_known : (d : ℕ) (x : TypeExpr) → Knows (IsType names d x) (NamedType (length names) x)
  type_known d (int_type at) = nothing_known _
  type_known d (bool_type at) = nothing_known _
  type_known d (str_type at) = nothing_known _
  type_known d (named_type n) = name_known n
  type_known d (array_type at x) = then (inner (λ d. then (type_known d x)) d)
  type_known d (ref_type at x) = then (inner (λ d. type_known d x) d)
  type_known d (imm_ref_type at x) = then (inner (λ d. then (type_known d x)) d)
  type_known d (iso_type at x) = then (inner (λ d. type_known d x) d)

  mutual
    expr_known : (r d : ℕ) (e : Expr) → Knows (IsExpr names r d e) (NamedExpr (length names) e)
    expr_known r d (set at p e) = given (whole ≤ r) (then (inner (λ d. both (expr_known postfix d p) (then (expr_known whole d e))) d))
    expr_known r d (chain e ls) = record { by = λ ts rest (below, lt, has, x). (both (expr_known below d e) (links_known below d ls)).by ts rest x }
    expr_known r d (unary at op e) = given (operand ≤ r) (then (inner (λ d. expr_known operand d e) d))
    expr_known r d (steps e ss) = record { by = λ ts rest (has, x). (both (expr_known primary d e) (steps_known d ss)).by ts rest x }
    expr_known r d (number at n) = nothing_known _
    expr_known r d (quote at text) = nothing_known _
    expr_known r d (truth at b) = nothing_known _
    expr_known r d (name n) = name_known n
    expr_known r d (call n es) = both (name_known n) (then (first (inner (λ d. args_known d es) d)))
    expr_known r d (paren at e) = then (first (inner (λ d. expr_known whole d e) d))
    expr_known r d (array at x es) = then (both (inner (λ d. then (type_known d x)) d) (then (first (inner (λ d. args_known d es) d))))
    expr_known r d (iso at b) = then (block_known d b)
    expr_known r d (form f) = form_known d f

    args_known : (d : ℕ) (es : Exprs) → Knows (AreArgs names d es) (NamedExprs (length names) es)
    args_known d no_exprs = nothing_known _
    args_known d (more_exprs e es) = both (expr_known whole d e) (more_args_known d es)

    more_args_known : (d : ℕ) (es : Exprs) → Knows (AreMoreArgs names d es) (NamedExprs (length names) es)
    more_args_known d no_exprs = nothing_known _
    more_args_known d (more_exprs e es) = then (both (expr_known whole d e) (more_args_known d es))

    links_known : (below d : ℕ) (ls : Links) → Knows (AreLinks names below d ls) (NamedLinks (length names) ls)
    links_known below d no_links = nothing_known _
    links_known below d (more_links (link at op e) ls) = both (given _ (then (expr_known below d e))) (links_known below d ls)

    step_known : (d : ℕ) (x : Step) → Knows (IsStep names d x) (NamedStep (length names) x)
    step_known d (field at n) = then (member_known n)
    step_known d (method at n es) = then (both (member_known n) (then (first (inner (λ d. args_known d es) d))))
    step_known d (index at e) = then (first (inner (λ d. expr_known whole d e) d))

    steps_known : (d : ℕ) (ss : Steps) → Knows (AreSteps names d ss) (NamedSteps (length names) ss)
    steps_known d no_steps = nothing_known _
    steps_known d (more_steps x ss) = both (step_known d x) (steps_known d ss)

    form_known : (d : ℕ) (f : Form) → Knows (IsForm names d f) (NamedForm (length names) f)
    form_known d (branch at c b es) = then (flat (both (inner (λ d. expr_known whole d c) d) (both (block_known d b) (elses_known d es))))
    form_known d (pure at b) = then (block_known d b)
    form_known d (parallel_range at n a e b) = then (record {
      by = λ ts rest (mid, x, y).
          let h = (inner (λ d. then (both (name_known n) (then (both (expr_known whole d a) (then (expr_known whole d e)))))) d).by ts mid x in
          (h.0, h.1.0, h.1.1, (block_known d b).by mid rest y);
    })
    form_known d (parallel_each at n e b) = then (record {
      by = λ ts rest (mid, x, y).
          let h = (inner (λ d. then (both (name_known n) (then (expr_known whole d e)))) d).by ts mid x in
          (h.0, h.1, (block_known d b).by mid rest y);
    })

    else_if_known : (d : ℕ) (x : ElseIf) → Knows (IsElseIf names d x) (NamedElseIf (length names) x)
    else_if_known d (else_if at c b) = then (then (both (inner (λ d. expr_known whole d c) d) (block_known d b)))

    elses_known : (d : ℕ) (es : Elses) → Knows (AreElses names d es) (NamedElses (length names) es)
    elses_known d no_else = nothing_known _
    elses_known d (otherwise b) = then (block_known d b)
    elses_known d (more_elses x es) = both (else_if_known d x) (elses_known d es)

    block_known : (d : ℕ) (b : Block) → Knows (IsBlock names d b) (NamedBlock (length names) b)
    block_known d (block at end ss) = then (first (inner (λ d. stmts_known d ss) d))

    stmts_known : (d : ℕ) (ss : Stmts) → Knows (AreStmts names d ss) (NamedStmts (length names) ss)
    stmts_known d no_stmts = nothing_known _
    stmts_known d (last e) = alones e (expr_known whole d e)
    stmts_known d (more_stmts x xs) = both (stmt_known d x) (stmts_known d xs)

    stmt_known : (d : ℕ) (x : Stmt) → Knows (IsStmt names d x) (NamedStmt (length names) x)
    stmt_known d (declare n e) = both (name_known n) (then (first (expr_known whole d e)))
    stmt_known d (destructure at ns e) = then (both (inner (λ d. commas name_known ns) d) (then (then (first (expr_known whole d e)))))
    stmt_known d (return_nothing at) = nothing_known _
    stmt_known d (return_value at e) = then (first (expr_known whole d e))
    stmt_known d (while at c b) = then (both (expr_known whole d c) (block_known d b))
    stmt_known d (foreach at n a e b) = then (flat_four (both (name_known n) (then (both (expr_known whole d a) (then (both (expr_known whole d e) (block_known d b)))))))
    stmt_known d (form_stmt f) = first (form_known d f)
    stmt_known d (express e) = first (alones e (expr_known whole d e))

  param_known : (d : ℕ) (x : Param) → Knows (IsParam names d x) (NamedParam (length names) x)
  param_known d (param n x) = both (name_known n) (type_known d x)

  result_known : (d : ℕ) (x : Option TypeExpr) → Knows (optional (IsType names d) x) (NamedResult (length names) x)
  result_known d None = nothing_known _
  result_known d (Some x) = type_known d x

  head_known : (d : ℕ) (h : Head) → Knows (IsHead names d h) (NamedHead (length names) h)
  head_known d (head p n ps x) = then (then (flat (both (name_known n) (then (both (inner (λ d. commas (param_known d) ps) d) (then (result_known d x)))))))

  function_known : (d : ℕ) (f : Function) → Knows (IsFunction names d f) (NamedFunction (length names) f)
  function_known d (function h b) = both (head_known d h) (block_known d b)

  field_known : (d : ℕ) (f : FieldDecl) → Knows (IsField names d f) (NamedField (length names) f)
  field_known d (field_decl n may_be_set x) = both (name_known n) (then (first (type_known d x)))

  item_known : (d : ℕ) (x : Item) → Knows (IsItem names d x) (NamedItem (length names) x)
  item_known d (struct_item n fs) = then (both (name_known n) (then (first (inner (λ d. eachs (field_known d) fs) d))))
  item_known d (interface_item n hs) = then (both (name_known n) (then (first (inner (λ d. eachs (λ h. first (head_known d h)) hs) d))))
  item_known d (impl_item at i n fs) = then (flat (both (name_known i) (then (both (name_known n) (then (first (inner (λ d. eachs (function_known d) fs) d)))))))
  item_known d (function_item f) = function_known d f

-- ---- no text is there twice

all_filtered : (C : List ℕ → Type 0) (p : List ℕ → Bool) (x : List ℕ) (xs : List (List ℕ)) (t : Bool) → p x ≡ t → C x → AllByRecursion C (filter p xs) → AllByRecursion C (filter p (x ∷ xs))
all_filtered C p x xs true e h more = rw e (h, more)
all_filtered C p x xs false e h more = rw e more

filter_all : (C : List ℕ → Type 0) (p : List ℕ → Bool) (xs : List (List ℕ)) → AllByRecursion C xs → AllByRecursion C (filter p xs)
filter_all C p [] h = tt
filter_all C p (x ∷ xs) h = all_filtered C p x xs (p x) refl h.0 (filter_all C p xs h.1)

distinct_filtered : (p : List ℕ → Bool) (x : List ℕ) (xs : List (List ℕ)) (t : Bool) → p x ≡ t → AllByRecursion (λ y. bytes_eq x y ≡ false) (filter p xs) → IsDistinct bytes_eq (filter p xs) → IsDistinct bytes_eq (filter p (x ∷ xs))
distinct_filtered p x xs true e h more = rw e (IsDistinct-cons bytes_eq x (filter p xs) h more)
distinct_filtered p x xs false e h more = rw e more

filter_distinct : (p : List ℕ → Bool) (xs : List (List ℕ)) → IsDistinct bytes_eq xs → IsDistinct bytes_eq (filter p xs)
filter_distinct p [] h = h
filter_distinct p (x ∷ xs) h = distinct_filtered p x xs (p x) refl (filter_all (λ y. bytes_eq x y ≡ false) p xs (IsDistinct-head bytes_eq x xs h)) (filter_distinct p xs (IsDistinct-tail bytes_eq x xs h))

others_by : (x y : List ℕ) (ys : List (List ℕ)) (t : Bool) → bytes_eq x y ≡ t → AllByRecursion (λ z. bytes_eq x z ≡ false) (filter (λ z. not (bytes_eq x z)) ys) → AllByRecursion (λ z. bytes_eq x z ≡ false) (filter (λ z. not (bytes_eq x z)) (y ∷ ys))
others_by x y ys true e more = rw e more
others_by x y ys false e more = rw e (e, more)

-- what isn't filtered out as this text is another
others : (x : List ℕ) (ys : List (List ℕ)) → AllByRecursion (λ z. bytes_eq x z ≡ false) (filter (λ z. not (bytes_eq x z)) ys)
others x [] = tt
others x (y ∷ ys) = others_by x y ys (bytes_eq x y) refl (others x ys)

first_seen_distinct : (xs : List (List ℕ)) → IsDistinct bytes_eq (first_seen xs)
unfolding IsDistinct
first_seen_distinct [] = tt
first_seen_distinct (x ∷ xs) =
    (others x (first_seen xs), filter_distinct (λ z. not (bytes_eq x z)) (first_seen xs) (first_seen_distinct xs))

-- a tree that tokens spell has names with texts of their own
pub spelled_named : (t : Tree) (ts : List Token) → spells t ts → IsNamed t
spelled_named (tree names items) ts h = ((eachs (item_known names level_limit) items).by ts [] h.1, subst (λ (z : List (List ℕ)). IsDistinct bytes_eq z) (sym h.0) (first_seen_distinct _))
