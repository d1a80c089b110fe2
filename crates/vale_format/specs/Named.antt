-- Trees all of whose names have texts, each a text of its own.
use Rattle.std.specs.Prelude.{ℕ, ◌<◌, length, Option, None, Some}
use Rattle.std.specs.List.{AllByRecursion, IsDistinct}
use Rattle.std.specs.Str.{bytes_eq}
use Rattle.vale_base.specs.declared.name.Name.{Name}
use Rattle.vale_syntax.specs.Tree.{TypeExpr, named_type, array_type, ref_type, imm_ref_type, iso_type, Expr, set, chain, unary, steps, number, quote, truth, name, call, paren, array, iso, form, Exprs, no_exprs, more_exprs, link, Links, no_links, more_links, Step, field, method, index, Steps, no_steps, more_steps, Form, branch, pure, parallel_range, parallel_each, ElseIf, else_if, Elses, no_else, otherwise, more_elses, Block, block, Stmt, declare, destructure, return_nothing, return_value, while, foreach, form_stmt, express, Stmts, no_stmts, last, more_stmts, Param, param, Head, head, Function, function, FieldDecl, field_decl, Item, struct_item, interface_item, impl_item, function_item, Tree, tree}

-- ---- all numbers of names in a part are below a count

module _ (count : ℕ) where
  abbrev pub HasText : Name → Type 0
  HasText n = n.0 < count

  abbrev pub NamedType : TypeExpr → Type 0
  NamedType (named_type n) = HasText n.name
  NamedType (array_type at x) = NamedType x
  NamedType (ref_type at x) = NamedType x
  NamedType (imm_ref_type at x) = NamedType x
  NamedType (iso_type at x) = NamedType x
  NamedType _ = Unit {0}

  abbrev mutual
    pub NamedExpr : Expr → Type 0
    NamedExpr (set at p e) = NamedExpr p × NamedExpr e
    NamedExpr (chain e ls) = NamedExpr e × NamedLinks ls
    NamedExpr (unary at op e) = NamedExpr e
    NamedExpr (steps e ss) = NamedExpr e × NamedSteps ss
    NamedExpr (number at n) = Unit {0}
    NamedExpr (quote at text) = Unit {0}
    NamedExpr (truth at b) = Unit {0}
    NamedExpr (name n) = HasText n.name
    NamedExpr (call n es) = HasText n.name × NamedExprs es
    NamedExpr (paren at e) = NamedExpr e
    NamedExpr (array at x es) = NamedType x × NamedExprs es
    NamedExpr (iso at b) = NamedBlock b
    NamedExpr (form f) = NamedForm f

    pub NamedExprs : Exprs → Type 0
    NamedExprs no_exprs = Unit {0}
    NamedExprs (more_exprs e es) = NamedExpr e × NamedExprs es

    pub NamedLinks : Links → Type 0
    NamedLinks no_links = Unit {0}
    NamedLinks (more_links (link at op e) ls) = NamedExpr e × NamedLinks ls

    pub NamedStep : Step → Type 0
    NamedStep (field at n) = HasText n
    NamedStep (method at n es) = HasText n × NamedExprs es
    NamedStep (index at e) = NamedExpr e

    pub NamedSteps : Steps → Type 0
    NamedSteps no_steps = Unit {0}
    NamedSteps (more_steps p ps) = NamedStep p × NamedSteps ps

    pub NamedForm : Form → Type 0
    NamedForm (branch at c b es) = NamedExpr c × NamedBlock b × NamedElses es
    NamedForm (pure at b) = NamedBlock b
    NamedForm (parallel_range at n a e b) = HasText n.name × NamedExpr a × NamedExpr e × NamedBlock b
    NamedForm (parallel_each at n e b) = HasText n.name × NamedExpr e × NamedBlock b

    pub NamedElseIf : ElseIf → Type 0
    NamedElseIf (else_if at c b) = NamedExpr c × NamedBlock b

    pub NamedElses : Elses → Type 0
    NamedElses no_else = Unit {0}
    NamedElses (otherwise b) = NamedBlock b
    NamedElses (more_elses x es) = NamedElseIf x × NamedElses es

    pub NamedBlock : Block → Type 0
    NamedBlock (block at end ss) = NamedStmts ss

    pub NamedStmts : Stmts → Type 0
    NamedStmts no_stmts = Unit {0}
    NamedStmts (last e) = NamedExpr e
    NamedStmts (more_stmts x xs) = NamedStmt x × NamedStmts xs

    pub NamedStmt : Stmt → Type 0
    NamedStmt (declare n e) = HasText n.name × NamedExpr e
    NamedStmt (destructure at ns e) = AllByRecursion (λ n. HasText n.name) ns × NamedExpr e
    NamedStmt (return_nothing at) = Unit {0}
    NamedStmt (return_value at e) = NamedExpr e
    NamedStmt (while at c b) = NamedExpr c × NamedBlock b
    NamedStmt (foreach at n a e b) = HasText n.name × NamedExpr a × NamedExpr e × NamedBlock b
    NamedStmt (form_stmt f) = NamedForm f
    NamedStmt (express e) = NamedExpr e

  abbrev pub NamedParam : Param → Type 0
  NamedParam (param n x) = HasText n.name × NamedType x

  abbrev pub NamedResult : Option TypeExpr → Type 0
  NamedResult None = Unit {0}
  NamedResult (Some x) = NamedType x

  abbrev pub NamedHead : Head → Type 0
  NamedHead (head p n ps x) = HasText n.name × AllByRecursion NamedParam ps × NamedResult x

  abbrev pub NamedFunction : Function → Type 0
  NamedFunction (function h b) = NamedHead h × NamedBlock b

  abbrev pub NamedField : FieldDecl → Type 0
  NamedField (field_decl n may_be_set x) = HasText n.name × NamedType x

  abbrev pub NamedItem : Item → Type 0
  NamedItem (struct_item n fs) = HasText n.name × AllByRecursion NamedField fs
  NamedItem (interface_item n hs) = HasText n.name × AllByRecursion NamedHead hs
  NamedItem (impl_item at i n fs) = HasText i.name × HasText n.name × AllByRecursion NamedFunction fs
  NamedItem (function_item f) = NamedFunction f

-- each name of the tree is the number of one of its texts, and no text is there twice
abbrev pub IsNamed : Tree → Type 0
IsNamed (tree names items) = AllByRecursion (NamedItem (length names)) items × IsDistinct bytes_eq names
