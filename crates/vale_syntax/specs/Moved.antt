-- Trees with their spots moved, and trees but for spots.
use Rattle.std.specs.Prelude.{◌≡◌, List, map, option_map}
use Rattle.vale_base.specs.declared.spot.Spot.{Spot}
use Rattle.vale_syntax.specs.declared.token.Token.{Token}
use Rattle.vale_syntax.specs.declared.token.TokenKind.{TokenKind}
use Rattle.vale_syntax.specs.declared.tree.NameAt.{NameAt}
use Rattle.vale_syntax.specs.Tree.{TypeExpr, int_type, bool_type, str_type, named_type, array_type, ref_type, imm_ref_type, iso_type, Expr, set, chain, unary, steps, number, quote, truth, name, call, paren, array, iso, form, Exprs, no_exprs, more_exprs, Link, link, Links, no_links, more_links, Step, field, method, index, Steps, no_steps, more_steps, Form, branch, pure, parallel_range, parallel_each, ElseIf, else_if, Elses, no_else, otherwise, more_elses, Block, block, Stmt, declare, destructure, return_nothing, return_value, while, foreach, form_stmt, express, Stmts, no_stmts, last, more_stmts, Param, param, Head, head, Function, function, FieldDecl, field_decl, Item, struct_item, interface_item, impl_item, function_item, Tree, tree}

-- the kinds of tokens
abbrev pub kinds : List Token → List TokenKind
kinds ts = map (λ t. t.kind) ts

-- ---- what stands at other spots, and is else the same

module _ (to : Spot → Spot) where
  abbrev pub moved_token : Token → Token
  moved_token t = record { kind = t.kind; at = to t.at }

  abbrev pub moved_tokens : List Token → List Token
  moved_tokens ts = map moved_token ts

  abbrev pub moved_name : NameAt → NameAt
  moved_name n = record { name = n.name; at = to n.at }

  abbrev pub moved_type : TypeExpr → TypeExpr
  moved_type (int_type at) = int_type (to at)
  moved_type (bool_type at) = bool_type (to at)
  moved_type (str_type at) = str_type (to at)
  moved_type (named_type n) = named_type (moved_name n)
  moved_type (array_type at x) = array_type (to at) (moved_type x)
  moved_type (ref_type at x) = ref_type (to at) (moved_type x)
  moved_type (imm_ref_type at x) = imm_ref_type (to at) (moved_type x)
  moved_type (iso_type at x) = iso_type (to at) (moved_type x)

  abbrev mutual
    pub moved_expr : Expr → Expr
    moved_expr (set at p e) = set (to at) (moved_expr p) (moved_expr e)
    moved_expr (chain e ls) = chain (moved_expr e) (moved_links ls)
    moved_expr (unary at op e) = unary (to at) op (moved_expr e)
    moved_expr (steps e ss) = steps (moved_expr e) (moved_steps ss)
    moved_expr (number at n) = number (to at) n
    moved_expr (quote at text) = quote (to at) text
    moved_expr (truth at b) = truth (to at) b
    moved_expr (name n) = name (moved_name n)
    moved_expr (call n es) = call (moved_name n) (moved_exprs es)
    moved_expr (paren at e) = paren (to at) (moved_expr e)
    moved_expr (array at x es) = array (to at) (moved_type x) (moved_exprs es)
    moved_expr (iso at b) = iso (to at) (moved_block b)
    moved_expr (form f) = form (moved_form f)

    pub moved_exprs : Exprs → Exprs
    moved_exprs no_exprs = no_exprs
    moved_exprs (more_exprs e es) = more_exprs (moved_expr e) (moved_exprs es)

    pub moved_link : Link → Link
    moved_link (link at op e) = link (to at) op (moved_expr e)

    pub moved_links : Links → Links
    moved_links no_links = no_links
    moved_links (more_links l ls) = more_links (moved_link l) (moved_links ls)

    pub moved_step : Step → Step
    moved_step (field at n) = field (to at) n
    moved_step (method at n es) = method (to at) n (moved_exprs es)
    moved_step (index at e) = index (to at) (moved_expr e)

    pub moved_steps : Steps → Steps
    moved_steps no_steps = no_steps
    moved_steps (more_steps p ps) = more_steps (moved_step p) (moved_steps ps)

    pub moved_form : Form → Form
    moved_form (branch at c b es) = branch (to at) (moved_expr c) (moved_block b) (moved_elses es)
    moved_form (pure at b) = pure (to at) (moved_block b)
    moved_form (parallel_range at n a e b) = parallel_range (to at) (moved_name n) (moved_expr a) (moved_expr e) (moved_block b)
    moved_form (parallel_each at n e b) = parallel_each (to at) (moved_name n) (moved_expr e) (moved_block b)

    pub moved_else_if : ElseIf → ElseIf
    moved_else_if (else_if at c b) = else_if (to at) (moved_expr c) (moved_block b)

    pub moved_elses : Elses → Elses
    moved_elses no_else = no_else
    moved_elses (otherwise b) = otherwise (moved_block b)
    moved_elses (more_elses e es) = more_elses (moved_else_if e) (moved_elses es)

    pub moved_block : Block → Block
    moved_block (block at end ss) = block (to at) (to end) (moved_stmts ss)

    pub moved_stmts : Stmts → Stmts
    moved_stmts no_stmts = no_stmts
    moved_stmts (last e) = last (moved_expr e)
    moved_stmts (more_stmts x xs) = more_stmts (moved_stmt x) (moved_stmts xs)

    pub moved_stmt : Stmt → Stmt
    moved_stmt (declare n e) = declare (moved_name n) (moved_expr e)
    moved_stmt (destructure at ns e) = destructure (to at) (map moved_name ns) (moved_expr e)
    moved_stmt (return_nothing at) = return_nothing (to at)
    moved_stmt (return_value at e) = return_value (to at) (moved_expr e)
    moved_stmt (while at c b) = while (to at) (moved_expr c) (moved_block b)
    moved_stmt (foreach at n a e b) = foreach (to at) (moved_name n) (moved_expr a) (moved_expr e) (moved_block b)
    moved_stmt (form_stmt f) = form_stmt (moved_form f)
    moved_stmt (express e) = express (moved_expr e)

  abbrev pub moved_param : Param → Param
  moved_param (param n x) = param (moved_name n) (moved_type x)

  abbrev pub moved_head : Head → Head
  moved_head (head p n ps x) = head p (moved_name n) (map moved_param ps) (option_map moved_type x)

  abbrev pub moved_function : Function → Function
  moved_function (function h b) = function (moved_head h) (moved_block b)

  abbrev pub moved_field : FieldDecl → FieldDecl
  moved_field (field_decl n may_be_set x) = field_decl (moved_name n) may_be_set (moved_type x)

  abbrev pub moved_item : Item → Item
  moved_item (struct_item n fs) = struct_item (moved_name n) (map moved_field fs)
  moved_item (interface_item n hs) = interface_item (moved_name n) (map moved_head hs)
  moved_item (impl_item at i n fs) = impl_item (to at) (moved_name i) (moved_name n) (map moved_function fs)
  moved_item (function_item f) = function_item (moved_function f)

  abbrev pub moved_tree : Tree → Tree
  moved_tree (tree names items) = tree names (map moved_item items)

-- ---- one tree but for spots

abbrev pub nowhere : Spot
nowhere = record { line = 0; col = 0 }

-- the tree with every node at one spot
abbrev pub bare_tree : Tree → Tree
bare_tree t = moved_tree (λ at. nowhere) t

-- the trees are one but for spots: the same nodes, and the same texts of names with the same numbers
abbrev pub IsSameTree : Tree → Tree → Type 0
IsSameTree t u = bare_tree t ≡ bare_tree u
