-- The literals of a tree are those of the tokens that spell it, and each chain of it has an operator.
use Rattle.std.proofs.Common.{◌≡◌, ◌≤◌, ℕ, zero, suc, Bool, true, false, List, [], ◌∷◌, Option, None, Some, subst}
use Rattle.std.specs.List.{AllByRecursion}
use Rattle.vale_base.specs.Limits.{level_limit}
use Rattle.vale_base.specs.declared.name.Name.{Name}
use Rattle.vale_base.specs.declared.spot.Spot.{Spot}
use Rattle.vale_text.specs.Operations.{is_int}
use Rattle.vale_syntax.specs.declared.token.Token.{Token}
use Rattle.vale_syntax.specs.declared.token.TokenKind.{TokenKind}
use Rattle.vale_syntax.specs.declared.token.TokenKind.TheVariants as k
use Rattle.vale_syntax.specs.declared.token.Sign.{Sign}
use Rattle.vale_syntax.specs.declared.token.Sign.TheVariants as s
use Rattle.vale_syntax.specs.declared.token.Word.{Word}
use Rattle.vale_syntax.specs.declared.tree.NameAt.{NameAt}
use Rattle.vale_syntax.specs.Grammar.{Part, one, word, nothing, when, optional, each, with_commas, deeper, ◌▸◌, ◌⊳◌, whole, postfix, primary, operand, alone, goes_on, HasLinks, named, member, sign, IsType, IsExpr, AreArgs, AreMoreArgs, AreLinks, IsStep, AreSteps, IsForm, IsElseIf, AreElses, IsBlock, AreStmts, IsStmt, IsParam, IsHead, IsFunction, IsField, IsItem, spells}
use Rattle.vale_syntax.specs.Tree.{TypeExpr, int_type, bool_type, str_type, named_type, array_type, ref_type, imm_ref_type, iso_type, Expr, set, chain, unary, steps, number, quote, truth, name, call, paren, array, iso, form, Exprs, no_exprs, more_exprs, Link, link, Links, no_links, more_links, Step, field, method, index, Steps, no_steps, more_steps, Form, branch, pure, parallel_range, parallel_each, ElseIf, else_if, Elses, no_else, otherwise, more_elses, Block, block, Stmt, declare, destructure, return_nothing, return_value, while, foreach, form_stmt, express, Stmts, no_stmts, last, more_stmts, Param, param, Head, head, Function, function, FieldDecl, field_decl, Item, struct_item, interface_item, impl_item, function_item, tree}
use Rattle.vale_lowering.specs.Texts.{is_lawful_text}

-- ---- lawful literals

abbrev pub IsLawful : TokenKind → Type 0
IsLawful (k.Word w) = Unit {0}
IsLawful (k.Name text) = Unit {0}
IsLawful (k.Number n) = is_int n ≡ true
IsLawful (k.Quote text) = is_lawful_text text ≡ true
IsLawful (k.Sign x) = Unit {0}

abbrev pub AreLawful : List Token → Type 0
AreLawful [] = Unit {0}
AreLawful (t ∷ ts) = IsLawful t.kind × AreLawful ts

abbrev pub HasOperator : Links → Type 0
HasOperator no_links = ⊥
HasOperator (more_links l ls) = Unit {0}

-- those of a part of a tree, with an operator in each chain
abbrev mutual
  pub LawfulExpr : Expr → Type 0
  LawfulExpr (set at p e) = LawfulExpr p × LawfulExpr e
  LawfulExpr (chain e ls) = HasOperator ls × (LawfulExpr e × LawfulLinks ls)
  LawfulExpr (unary at op e) = LawfulExpr e
  LawfulExpr (steps e ss) = LawfulExpr e × LawfulSteps ss
  LawfulExpr (number at n) = is_int n ≡ true
  LawfulExpr (quote at text) = is_lawful_text text ≡ true
  LawfulExpr (truth at b) = Unit {0}
  LawfulExpr (name n) = Unit {0}
  LawfulExpr (call n es) = LawfulExprs es
  LawfulExpr (paren at e) = LawfulExpr e
  LawfulExpr (array at x es) = LawfulExprs es
  LawfulExpr (iso at b) = LawfulBlock b
  LawfulExpr (form f) = LawfulForm f

  pub LawfulExprs : Exprs → Type 0
  LawfulExprs no_exprs = Unit {0}
  LawfulExprs (more_exprs e es) = LawfulExpr e × LawfulExprs es

  pub LawfulLink : Link → Type 0
  LawfulLink (link at op e) = LawfulExpr e

  pub LawfulLinks : Links → Type 0
  LawfulLinks no_links = Unit {0}
  LawfulLinks (more_links l ls) = LawfulLink l × LawfulLinks ls

  pub LawfulStep : Step → Type 0
  LawfulStep (field at n) = Unit {0}
  LawfulStep (method at n es) = LawfulExprs es
  LawfulStep (index at e) = LawfulExpr e

  pub LawfulSteps : Steps → Type 0
  LawfulSteps no_steps = Unit {0}
  LawfulSteps (more_steps x xs) = LawfulStep x × LawfulSteps xs

  pub LawfulForm : Form → Type 0
  LawfulForm (branch at c b es) = LawfulExpr c × (LawfulBlock b × LawfulElses es)
  LawfulForm (pure at b) = LawfulBlock b
  LawfulForm (parallel_range at n a e b) = (LawfulExpr a × LawfulExpr e) × LawfulBlock b
  LawfulForm (parallel_each at n e b) = LawfulExpr e × LawfulBlock b

  pub LawfulElseIf : ElseIf → Type 0
  LawfulElseIf (else_if at c b) = LawfulExpr c × LawfulBlock b

  pub LawfulElses : Elses → Type 0
  LawfulElses no_else = Unit {0}
  LawfulElses (otherwise b) = LawfulBlock b
  LawfulElses (more_elses e es) = LawfulElseIf e × LawfulElses es

  pub LawfulBlock : Block → Type 0
  LawfulBlock (block at end ss) = LawfulStmts ss

  pub LawfulStmts : Stmts → Type 0
  LawfulStmts no_stmts = Unit {0}
  LawfulStmts (last e) = LawfulExpr e
  LawfulStmts (more_stmts x xs) = LawfulStmt x × LawfulStmts xs

  pub LawfulStmt : Stmt → Type 0
  LawfulStmt (declare n e) = LawfulExpr e
  LawfulStmt (destructure at ns e) = LawfulExpr e
  LawfulStmt (return_nothing at) = Unit {0}
  LawfulStmt (return_value at e) = LawfulExpr e
  LawfulStmt (while at c b) = LawfulExpr c × LawfulBlock b
  LawfulStmt (foreach at n a e b) = LawfulExpr a × (LawfulExpr e × LawfulBlock b)
  LawfulStmt (form_stmt f) = LawfulForm f
  LawfulStmt (express e) = LawfulExpr e

abbrev pub LawfulFunction : Function → Type 0
LawfulFunction (function h b) = LawfulBlock b

abbrev pub LawfulItem : Item → Type 0
LawfulItem (struct_item n fs) = Unit {0}
LawfulItem (interface_item n hs) = Unit {0}
LawfulItem (impl_item at i n fs) = AllByRecursion LawfulFunction fs
LawfulItem (function_item f) = LawfulFunction f

-- ---- what holds where lawful tokens spell a part; those after it are lawful too

record Keeps (P : Part) (C : Type 0) : Type 1 where
  by : (ts rest : List Token) → P ts rest → AreLawful ts → C × AreLawful rest

both : {P Q : Part} {C D : Type 0} → Keeps P C → Keeps Q D → Keeps (P ▸ Q) (C × D)
both h i = record { by = λ ts rest (mid, x, y) law. let a = h.by ts mid x law in let b = i.by mid rest y a.1 in ((a.0, b.0), b.1) }

first : {P Q : Part} {C D : Type 0} → Keeps P C → Keeps Q D → Keeps (P ▸ Q) C
first h i = record { by = λ ts rest (mid, x, y) law. let a = h.by ts mid x law in let b = i.by mid rest y a.1 in (a.0, b.1) }

then : {P Q : Part} {C D : Type 0} → Keeps P C → Keeps Q D → Keeps (P ▸ Q) D
then h i = record { by = λ ts rest (mid, x, y) law. i.by mid rest y (h.by ts mid x law).1 }

given : (A : Type 0) {P : Part} {C : Type 0} → Keeps P C → Keeps (A ⊳ P) C
given A h = record { by = λ ts rest x law. h.by ts rest x.1 law }

empty : {P : Part} {C : Type 0} → Keeps P C → Keeps P (Unit {0})
empty h = record { by = λ ts rest x law. (tt, (h.by ts rest x law).1) }

inner : {P : ℕ → Part} {C : Type 0} → ((d : ℕ) → Keeps (P d) C) → (d : ℕ) → Keeps (deeper d P) C
inner h zero = record { by = λ ts rest x law. absurd x }
inner h (suc d) = h d

none : Keeps nothing (Unit {0})
none = record { by = λ ts rest e law. (tt, subst AreLawful e law) }

token_keeps : (kind : TokenKind) (at : Spot) → Keeps (one kind at) (IsLawful kind)
token_keeps kind at = record { by = λ ts rest e law. let h : IsLawful kind × AreLawful rest = subst AreLawful e law in h }

sign_keeps : (x : Sign) → Keeps (sign x) (Unit {0})
sign_keeps x = record { by = λ ts rest (at, e) law. (token_keeps (k.Sign x) at).by ts rest e law }

word_keeps : (x : Word) → Keeps (word x) (Unit {0})
word_keeps x = record { by = λ ts rest (at, e) law. (token_keeps (k.Word x) at).by ts rest e law }

maybe : (b : Bool) {P : Part} → Keeps P (Unit {0}) → Keeps (when b P) (Unit {0})
maybe true h = h
maybe false h = none

options : {X : Type 0} {P : X → Part} → ((x : X) → Keeps (P x) (Unit {0})) → (o : Option X) → Keeps (optional P o) (Unit {0})
options h None = none
options h (Some x) = h x

eachs : {X : Type 0} {P : X → Part} {C : X → Type 0} → ((x : X) → Keeps (P x) (C x)) → (xs : List X) → Keeps (each P xs) (AllByRecursion C xs)
eachs h [] = none
eachs h (x ∷ xs) = both (h x) (eachs h xs)

commas : {X : Type 0} {P : X → Part} {C : X → Type 0} → ((x : X) → Keeps (P x) (C x)) → (xs : List X) → Keeps (with_commas P xs) (AllByRecursion C xs)
commas h [] = none
commas h (x ∷ xs) = both (h x) (eachs (λ y. then (sign_keeps s.Comma) (h y)) xs)

alones : (e : Expr) {P : Part} {C : Type 0} → Keeps P C → Keeps (alone e P) C
alones e {P = P} {C = C} h = record { by = go } where
  go : (ts rest : List Token) → alone e P ts rest → AreLawful ts → C × AreLawful rest
  go [] rest x law = h.by [] rest x law
  go (t ∷ ts) rest x law = h.by (t ∷ ts) rest x.1 law

more_follows : Keeps goes_on (Unit {0})
more_follows = record { by = go } where
  go : (ts rest : List Token) → goes_on ts rest → AreLawful ts → Unit {0} × AreLawful rest
  go [] rest x law = absurd x
  go (t ∷ ts) rest x law = (tt, subst AreLawful x.1 law)

has_operator : (r : ℕ) (ls : Links) → HasLinks r ls → HasOperator ls
has_operator r no_links h = h
has_operator r (more_links l ls) h = tt

-- ---- the productions

module _ (names : List (List ℕ)) where
  name_keeps : (n : NameAt) → Keeps (named names n) (Unit {0})
  name_keeps n = record { by = λ ts rest (text, is, e) law. (token_keeps (k.Name text) n.at).by ts rest e law }

  member_keeps : (n : Name) → Keeps (member names n) (Unit {0})
  member_keeps n = record { by = λ ts rest (at, h) law. (name_keeps (record { name = n; at = at })).by ts rest h law }

  type_keeps : (d : ℕ) (x : TypeExpr) → Keeps (IsType names d x) (Unit {0})
  type_keeps d (int_type at) = token_keeps _ at
  type_keeps d (bool_type at) = token_keeps _ at
  type_keeps d (str_type at) = token_keeps _ at
  type_keeps d (named_type n) = name_keeps n
  type_keeps d (array_type at x) = then (token_keeps _ at) (inner (λ d. then (sign_keeps _) (type_keeps d x)) d)
  type_keeps d (ref_type at x) = then (token_keeps _ at) (inner (λ d. type_keeps d x) d)
  type_keeps d (imm_ref_type at x) = then (token_keeps _ at) (inner (λ d. then (word_keeps _) (type_keeps d x)) d)
  type_keeps d (iso_type at x) = then (token_keeps _ at) (inner (λ d. type_keeps d x) d)

  mutual
    expr_keeps : (r d : ℕ) (e : Expr) → Keeps (IsExpr names r d e) (LawfulExpr e)
    expr_keeps r d (set at p e) = given (whole ≤ r) (then (token_keeps _ at) (inner (λ d. both (expr_keeps postfix d p) (then (sign_keeps _) (expr_keeps whole d e))) d))
    expr_keeps r d (chain e ls) = record {
      by = λ ts rest (below, lt, has, x) law.
          let h = (both (expr_keeps below d e) (links_keep below d ls)).by ts rest x law in
          ((has_operator (suc below) ls has, h.0), h.1);
    }
    expr_keeps r d (unary at op e) = given (operand ≤ r) (then (token_keeps _ at) (inner (λ d. expr_keeps operand d e) d))
    expr_keeps r d (steps e ss) = record { by = λ ts rest (has, x). (both (expr_keeps primary d e) (steps_keep d ss)).by ts rest x }
    expr_keeps r d (number at n) = token_keeps _ at
    expr_keeps r d (quote at text) = token_keeps _ at
    expr_keeps r d (truth at b) = empty (token_keeps _ at)
    expr_keeps r d (name n) = name_keeps n
    expr_keeps r d (call n es) = then (name_keeps n) (then (sign_keeps _) (first (inner (λ d. args_keep d es) d) (sign_keeps _)))
    expr_keeps r d (paren at e) = then (token_keeps _ at) (first (inner (λ d. expr_keeps whole d e) d) (sign_keeps _))
    expr_keeps r d (array at x es) = then (token_keeps _ at) (then (inner (λ d. then (sign_keeps _) (type_keeps d x)) d) (then (sign_keeps _) (first (inner (λ d. args_keep d es) d) (sign_keeps _))))
    expr_keeps r d (iso at b) = then (token_keeps _ at) (block_keeps d b)
    expr_keeps r d (form f) = form_keeps d f

    args_keep : (d : ℕ) (es : Exprs) → Keeps (AreArgs names d es) (LawfulExprs es)
    args_keep d no_exprs = none
    args_keep d (more_exprs e es) = both (expr_keeps whole d e) (more_args_keep d es)

    more_args_keep : (d : ℕ) (es : Exprs) → Keeps (AreMoreArgs names d es) (LawfulExprs es)
    more_args_keep d no_exprs = none
    more_args_keep d (more_exprs e es) = then (sign_keeps _) (both (expr_keeps whole d e) (more_args_keep d es))

    links_keep : (below d : ℕ) (ls : Links) → Keeps (AreLinks names below d ls) (LawfulLinks ls)
    links_keep below d no_links = none
    links_keep below d (more_links (link at op e) ls) = both (given _ (then (token_keeps _ at) (expr_keeps below d e))) (links_keep below d ls)

    step_keeps : (d : ℕ) (x : Step) → Keeps (IsStep names d x) (LawfulStep x)
    step_keeps d (field at n) = then (token_keeps _ at) (member_keeps n)
    step_keeps d (method at n es) = then (token_keeps _ at) (then (member_keeps n) (then (sign_keeps _) (first (inner (λ d. args_keep d es) d) (sign_keeps _))))
    step_keeps d (index at e) = then (token_keeps _ at) (first (inner (λ d. expr_keeps whole d e) d) (sign_keeps _))

    steps_keep : (d : ℕ) (ss : Steps) → Keeps (AreSteps names d ss) (LawfulSteps ss)
    steps_keep d no_steps = none
    steps_keep d (more_steps x ss) = both (step_keeps d x) (steps_keep d ss)

    form_keeps : (d : ℕ) (f : Form) → Keeps (IsForm names d f) (LawfulForm f)
    form_keeps d (branch at c b es) = then (token_keeps _ at) (both (inner (λ d. expr_keeps whole d c) d) (both (block_keeps d b) (elses_keep d es)))
    form_keeps d (pure at b) = then (token_keeps _ at) (block_keeps d b)
    form_keeps d (parallel_range at n a e b) = then (token_keeps _ at) (both (inner (λ d. then (word_keeps _) (then (name_keeps n) (then (word_keeps _) (both (expr_keeps whole d a) (then (sign_keeps _) (expr_keeps whole d e)))))) d) (block_keeps d b))
    form_keeps d (parallel_each at n e b) = then (token_keeps _ at) (both (inner (λ d. then (word_keeps _) (then (name_keeps n) (then (word_keeps _) (expr_keeps whole d e)))) d) (block_keeps d b))

    else_if_keeps : (d : ℕ) (x : ElseIf) → Keeps (IsElseIf names d x) (LawfulElseIf x)
    else_if_keeps d (else_if at c b) = then (word_keeps _) (then (token_keeps _ at) (both (inner (λ d. expr_keeps whole d c) d) (block_keeps d b)))

    elses_keep : (d : ℕ) (es : Elses) → Keeps (AreElses names d es) (LawfulElses es)
    elses_keep d no_else = none
    elses_keep d (otherwise b) = then (word_keeps _) (block_keeps d b)
    elses_keep d (more_elses x es) = both (else_if_keeps d x) (elses_keep d es)

    block_keeps : (d : ℕ) (b : Block) → Keeps (IsBlock names d b) (LawfulBlock b)
    block_keeps d (block at end ss) = then (token_keeps _ at) (first (inner (λ d. stmts_keep d ss) d) (token_keeps _ end))

    stmts_keep : (d : ℕ) (ss : Stmts) → Keeps (AreStmts names d ss) (LawfulStmts ss)
    stmts_keep d no_stmts = none
    stmts_keep d (last e) = alones e (expr_keeps whole d e)
    stmts_keep d (more_stmts x xs) = both (stmt_keeps d x) (stmts_keep d xs)

    stmt_keeps : (d : ℕ) (x : Stmt) → Keeps (IsStmt names d x) (LawfulStmt x)
    stmt_keeps d (declare n e) = then (name_keeps n) (then (sign_keeps _) (first (expr_keeps whole d e) (sign_keeps _)))
    stmt_keeps d (destructure at ns e) = then (token_keeps _ at) (then (inner (λ d. commas name_keeps ns) d) (then (sign_keeps _) (then (sign_keeps _) (first (expr_keeps whole d e) (sign_keeps _)))))
    stmt_keeps d (return_nothing at) = then (token_keeps _ at) (sign_keeps _)
    stmt_keeps d (return_value at e) = then (token_keeps _ at) (first (expr_keeps whole d e) (sign_keeps _))
    stmt_keeps d (while at c b) = then (token_keeps _ at) (both (expr_keeps whole d c) (block_keeps d b))
    stmt_keeps d (foreach at n a e b) = then (token_keeps _ at) (then (name_keeps n) (then (word_keeps _) (both (expr_keeps whole d a) (then (sign_keeps _) (both (expr_keeps whole d e) (block_keeps d b))))))
    stmt_keeps d (form_stmt f) = first (form_keeps d f) more_follows
    stmt_keeps d (express e) = first (alones e (expr_keeps whole d e)) (sign_keeps _)

  param_keeps : (d : ℕ) (x : Param) → Keeps (IsParam names d x) (Unit {0})
  param_keeps d (param n x) = then (name_keeps n) (type_keeps d x)

  head_keeps : (d : ℕ) (h : Head) → Keeps (IsHead names d h) (Unit {0})
  head_keeps d (head p n ps x) = then (maybe p (word_keeps _)) (then (word_keeps _) (then (name_keeps n) (then (sign_keeps _) (then (inner (λ d. commas (param_keeps d) ps) d) (then (sign_keeps _) (options (type_keeps d) x))))))

  function_keeps : (d : ℕ) (f : Function) → Keeps (IsFunction names d f) (LawfulFunction f)
  function_keeps d (function h b) = then (head_keeps d h) (block_keeps d b)

  field_keeps : (d : ℕ) (f : FieldDecl) → Keeps (IsField names d f) (Unit {0})
  field_keeps d (field_decl n may_be_set x) = then (name_keeps n) (then (maybe may_be_set (sign_keeps _)) (then (type_keeps d x) (sign_keeps _)))

  item_keeps : (d : ℕ) (x : Item) → Keeps (IsItem names d x) (LawfulItem x)
  item_keeps d (struct_item n fs) = then (word_keeps _) (then (name_keeps n) (then (sign_keeps _) (then (inner (λ d. eachs (field_keeps d) fs) d) (sign_keeps _))))
  item_keeps d (interface_item n hs) = then (word_keeps _) (then (name_keeps n) (then (sign_keeps _) (then (inner (λ d. eachs (λ h. first (head_keeps d h) (sign_keeps _)) hs) d) (sign_keeps _))))
  item_keeps d (impl_item at i n fs) = then (token_keeps _ at) (then (name_keeps i) (then (word_keeps _) (then (name_keeps n) (then (sign_keeps _) (first (inner (λ d. eachs (function_keeps d) fs) d) (sign_keeps _))))))
  item_keeps d (function_item f) = function_keeps d f

-- lawful tokens spell a tree of lawful literals
pub literals_lawful : (names : List (List ℕ)) (items : List Item) (ts : List Token) → spells (tree names items) ts → AreLawful ts → AllByRecursion LawfulItem items
literals_lawful names items ts h law = ((eachs (item_keeps names level_limit) items).by ts [] h.1 law).0
