-- The tree that a value of the code's tree stands for. Its laws, one for each node, are in `proofs/ViewLaws.antt`.
use Rattle.std.specs.Prelude.{List, [], ◌∷◌, map, Option, Some, None, option_map}
use Rattle.vale_base.specs.declared.spot.Spot.{Spot}
use Rattle.vale_syntax.specs.declared.tree.TypeExpr.{TypeExpr, fold-TypeExpr}
use Rattle.vale_syntax.specs.declared.tree.TypeExpr.TheOpen.{TypeExpr-F}
use Rattle.vale_syntax.specs.declared.tree.Expr.{Expr, fold-Expr}
use Rattle.vale_syntax.specs.declared.tree.Expr.TheOpen.{Expr-F, Form-F, Step-F, Stmt-F, Block-F, ElseIf-F, Link-F}
use Rattle.vale_syntax.specs.declared.tree.Form.{Form, fold-Form}
use Rattle.vale_syntax.specs.declared.tree.Step.{Step, fold-Step}
use Rattle.vale_syntax.specs.declared.tree.Stmt.{Stmt, fold-Stmt}
use Rattle.vale_syntax.specs.declared.tree.Block.{Block, fold-Block}
use Rattle.vale_syntax.specs.declared.tree.ElseIf.{ElseIf, fold-ElseIf}
use Rattle.vale_syntax.specs.declared.tree.Link.{Link, fold-Link}
use Rattle.vale_syntax.specs.declared.tree.Param.{Param}
use Rattle.vale_syntax.specs.declared.tree.Head.{Head}
use Rattle.vale_syntax.specs.declared.tree.Function.{Function}
use Rattle.vale_syntax.specs.declared.tree.FieldDecl.{FieldDecl}
use Rattle.vale_syntax.specs.declared.tree.Item.{Item}
use Rattle.vale_syntax.specs.declared.tree.Item.TheVariants as item
use Rattle.vale_syntax.specs.declared.tree.Tree.{Tree}
use Rattle.vale_syntax.specs.Tree as t
use Rattle.vale_syntax.specs.Tree.{int_type, bool_type, str_type, named_type, array_type, ref_type, imm_ref_type, iso_type, set, chain, unary, steps, number, quote, truth, name, call, paren, array, iso, form, no_exprs, more_exprs, link, no_links, more_links, field, method, index, no_steps, more_steps, branch, pure, parallel_range, parallel_each, else_if, no_else, otherwise, more_elses, block, declare, destructure, return_nothing, return_value, while, foreach, form_stmt, express, no_stmts, last, more_stmts, param, head, function, field_decl, struct_item, interface_item, impl_item, function_item, tree}

-- ---- types

abbrev pub type_step : TypeExpr-F t.TypeExpr → t.TypeExpr
type_step (TypeExpr-F.Int at) = int_type at
type_step (TypeExpr-F.Bool at) = bool_type at
type_step (TypeExpr-F.Str at) = str_type at
type_step (TypeExpr-F.Named n) = named_type n
type_step (TypeExpr-F.Array at x) = array_type at x
type_step (TypeExpr-F.Ref at x) = ref_type at x
type_step (TypeExpr-F.ImmRef at x) = imm_ref_type at x
type_step (TypeExpr-F.Iso at x) = iso_type at x

abbrev pub view_type : TypeExpr → t.TypeExpr
view_type = fold-TypeExpr _ type_step

-- ---- lists, and the ends of those that have one

-- the items, one after another, before an end
abbrev pub listed : {X L : Type 0} → (X → L → L) → List X → L → L
listed more [] end = end
listed more (x ∷ xs) end = more x (listed more xs end)

abbrev pub exprs_of : List t.Expr → t.Exprs
exprs_of es = listed more_exprs es no_exprs

abbrev pub links_of : List t.Link → t.Links
links_of ls = listed more_links ls no_links

abbrev pub steps_of : List t.Step → t.Steps
steps_of ss = listed more_steps ss no_steps

abbrev pub else_end : Option t.Block → t.Elses
else_end None = no_else
else_end (Some b) = otherwise b

abbrev pub elses_of : List t.ElseIf → Option t.Block → t.Elses
elses_of es b = listed more_elses es (else_end b)

abbrev pub last_end : Option t.Expr → t.Stmts
last_end None = no_stmts
last_end (Some e) = last e

abbrev pub stmts_of : List t.Stmt → Option t.Expr → t.Stmts
stmts_of ss e = listed more_stmts ss (last_end e)

abbrev pub return_of : Spot → Option t.Expr → t.Stmt
return_of at None = return_nothing at
return_of at (Some e) = return_value at e

-- ---- expressions and blocks: one level, with all inside already seen so

abbrev pub Over : (Type 0 → Type 0 → Type 0 → Type 0 → Type 0 → Type 0 → Type 0 → Type 0) → Type 0
Over F = F t.Expr t.Form t.Step t.Stmt t.Block t.ElseIf t.Link

abbrev pub expr_step : Over Expr-F → t.Expr
expr_step (Expr-F.Set at p e) = set at p e
expr_step (Expr-F.Chain e ls) = chain e (links_of ls)
expr_step (Expr-F.Unary at op e) = unary at op e
expr_step (Expr-F.Steps e ss) = steps e (steps_of ss)
expr_step (Expr-F.Number at n) = number at n
expr_step (Expr-F.Quote at text) = quote at text
expr_step (Expr-F.Truth at b) = truth at b
expr_step (Expr-F.Name n) = name n
expr_step (Expr-F.Call n es) = call n (exprs_of es)
expr_step (Expr-F.Paren at e) = paren at e
expr_step (Expr-F.Array at x es) = array at (view_type x) (exprs_of es)
expr_step (Expr-F.Iso at b) = iso at b
expr_step (Expr-F.«Expr::Form» f) = form f

abbrev pub form_step : Over Form-F → t.Form
form_step (Form-F.If at c b es o) = branch at c b (elses_of es o)
form_step (Form-F.Pure at b) = pure at b
form_step (Form-F.ParallelRange at n e f b) = parallel_range at n e f b
form_step (Form-F.ParallelEach at n e b) = parallel_each at n e b

abbrev pub step_step : Over Step-F → t.Step
step_step (Step-F.Field at n) = field at n
step_step (Step-F.Method at n es) = method at n (exprs_of es)
step_step (Step-F.Index at e) = index at e

abbrev pub stmt_step : Over Stmt-F → t.Stmt
stmt_step (Stmt-F.Declare n e) = declare n e
stmt_step (Stmt-F.Destructure at ns e) = destructure at ns e
stmt_step (Stmt-F.Return at e) = return_of at e
stmt_step (Stmt-F.While at e b) = while at e b
stmt_step (Stmt-F.Foreach at n e f b) = foreach at n e f b
stmt_step (Stmt-F.«Stmt::Form» f) = form_stmt f
stmt_step (Stmt-F.Express e) = express e

abbrev pub block_step : Over Block-F → t.Block
block_step b = block b.at b.end (stmts_of b.stmts b.last)

abbrev pub else_if_step : Over ElseIf-F → t.ElseIf
else_if_step e = else_if e.at e.condition e.block

abbrev pub link_step : Over Link-F → t.Link
link_step l = link l.at l.op l.operand

abbrev pub view_expr : Expr → t.Expr
view_expr = fold-Expr _ _ _ _ _ _ _ expr_step form_step step_step stmt_step block_step else_if_step link_step

abbrev pub view_form : Form → t.Form
view_form = fold-Form _ _ _ _ _ _ _ expr_step form_step step_step stmt_step block_step else_if_step link_step

abbrev pub view_step : Step → t.Step
view_step = fold-Step _ _ _ _ _ _ _ expr_step form_step step_step stmt_step block_step else_if_step link_step

abbrev pub view_stmt : Stmt → t.Stmt
view_stmt = fold-Stmt _ _ _ _ _ _ _ expr_step form_step step_step stmt_step block_step else_if_step link_step

abbrev pub view_block : Block → t.Block
view_block = fold-Block _ _ _ _ _ _ _ expr_step form_step step_step stmt_step block_step else_if_step link_step

abbrev pub view_else_if : ElseIf → t.ElseIf
view_else_if = fold-ElseIf _ _ _ _ _ _ _ expr_step form_step step_step stmt_step block_step else_if_step link_step

abbrev pub view_link : Link → t.Link
view_link = fold-Link _ _ _ _ _ _ _ expr_step form_step step_step stmt_step block_step else_if_step link_step

-- ---- items

abbrev pub view_param : Param → t.Param
view_param p = param p.name (view_type p.ty)

abbrev pub view_head : Head → t.Head
view_head h = head h.is_pure h.name (map view_param h.params) (option_map view_type h.result)

abbrev pub view_function : Function → t.Function
view_function f = function (view_head f.head) (view_block f.body)

abbrev pub view_field : FieldDecl → t.FieldDecl
view_field f = field_decl f.name f.may_be_set (view_type f.ty)

abbrev pub view_item : Item → t.Item
view_item (item.Struct n fs) = struct_item n (map view_field fs)
view_item (item.Interface n hs) = interface_item n (map view_head hs)
view_item (item.Impl at i s fs) = impl_item at i s (map view_function fs)
view_item (item.Function f) = function_item (view_function f)

abbrev pub view_tree : Tree → t.Tree
view_tree p = tree p.names (map view_item p.items)
