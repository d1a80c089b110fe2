-- The typed tree that a value of the code's stands for. Its laws, one for each node, are in `proofs/ViewLaws.antt`.
use Rattle.std.specs.Prelude.{List, [], ◌∷◌, map, Option, Some, None, option_map}
use Rattle.vale_base.specs.declared.spot.Spot.{Spot}
use Rattle.vale_core.specs.declared.ty.Ty.{Ty, fold-Ty}
use Rattle.vale_core.specs.declared.ty.Ty.TheOpen.{Ty-F}
use Rattle.vale_core.specs.declared.seen.View.{View}
use Rattle.vale_core.specs.declared.seen.View.TheVariants as view
use Rattle.vale_core.specs.declared.seen.Seen.{Seen}
use Rattle.vale_core.specs.declared.tree.Callee.{Callee}
use Rattle.vale_core.specs.declared.tree.Callee.TheVariants as callee
use Rattle.vale_core.specs.declared.tree.Expr.{Expr, fold-Expr}
use Rattle.vale_core.specs.declared.tree.Form.TheOpen.{Form-F, Node-F, Step-F, Stmt-F, Block-F, ElseIf-F, Expr-F, Link-F}
use Rattle.vale_core.specs.declared.tree.Node.{Node, fold-Node}
use Rattle.vale_core.specs.declared.tree.Form.{Form, fold-Form}
use Rattle.vale_core.specs.declared.tree.Step.{Step, fold-Step}
use Rattle.vale_core.specs.declared.tree.Stmt.{Stmt, fold-Stmt}
use Rattle.vale_core.specs.declared.tree.Block.{Block, fold-Block}
use Rattle.vale_core.specs.declared.tree.ElseIf.{ElseIf, fold-ElseIf}
use Rattle.vale_core.specs.declared.tree.Link.{Link, fold-Link}
use Rattle.vale_core.specs.declared.tree.Function.{Function}
use Rattle.vale_core.specs.declared.tree.Item.{Item}
use Rattle.vale_core.specs.declared.tree.Item.TheVariants as item
use Rattle.vale_core.specs.declared.tree.Core.{Core}
use Rattle.vale_syntax.specs.View.{listed, view_head, view_field}
use Rattle.vale_rules_spec.specs.Types as y
use Rattle.vale_rules_spec.specs.Typed as t

-- ---- what is known of an expression

abbrev pub ty_step : Ty-F y.Ty → y.Ty
ty_step Ty-F.Void = y.void
ty_step Ty-F.Int = y.int
ty_step Ty-F.Bool = y.bool
ty_step Ty-F.Str = y.str
ty_step (Ty-F.Kind n) = y.kind n.0
ty_step (Ty-F.Array x) = y.array x
ty_step (Ty-F.Ref x) = y.ref x
ty_step (Ty-F.Imm x) = y.imm x
ty_step (Ty-F.Iso x) = y.iso x

abbrev pub view_ty : Ty → y.Ty
view_ty = fold-Ty _ ty_step

abbrev pub view_view : View → y.View
view_view view.Blind = y.blind
view_view (view.Direct x) = y.direct (view_ty x)
view_view (view.Shared x) = y.shared (view_ty x)
view_view (view.Frozen x) = y.frozen (view_ty x)

abbrev pub view_seen : Seen → y.Seen
view_seen s = record { value = view_ty s.value; view = view_view s.view; place = option_map view_ty s.place }

abbrev pub view_callee : Callee → t.Callee
view_callee (callee.BuiltIn f) = t.built_in f
view_callee callee.Constructor = t.constructor
view_callee (callee.Function is_pure) = t.function is_pure

-- ---- lists, and the ends of those that have one

abbrev pub exprs_of : List t.Expr → t.Exprs
exprs_of es = listed t.more_exprs es t.no_exprs

abbrev pub links_of : List t.Link → t.Links
links_of ls = listed t.more_links ls t.no_links

abbrev pub steps_of : List t.Step → t.Steps
steps_of ss = listed t.more_steps ss t.no_steps

abbrev pub else_end : Option t.Block → t.Elses
else_end None = t.no_else
else_end (Some b) = t.otherwise b

abbrev pub elses_of : List t.ElseIf → Option t.Block → t.Elses
elses_of es b = listed t.more_elses es (else_end b)

abbrev pub last_end : Option t.Expr → t.Stmts
last_end None = t.no_stmts
last_end (Some e) = t.last e

abbrev pub stmts_of : List t.Stmt → Option t.Expr → t.Stmts
stmts_of ss e = listed t.more_stmts ss (last_end e)

abbrev pub return_of : Spot → Option t.Expr → t.Stmt
return_of at None = t.return_nothing at
return_of at (Some e) = t.return_value at e

-- ---- expressions and blocks: one level, with all inside already seen so

abbrev pub Over : (Type 0 → Type 0 → Type 0 → Type 0 → Type 0 → Type 0 → Type 0 → Type 0 → Type 0) → Type 0
Over F = F t.Form t.Node t.Step t.Stmt t.Block t.ElseIf t.Expr t.Link

abbrev pub expr_step : Over Expr-F → t.Expr
expr_step e = t.expr (view_seen e.seen) e.node

abbrev pub node_step : Over Node-F → t.Node
node_step (Node-F.Set at p e) = t.set at p e
node_step (Node-F.Chain e ls) = t.chain e (links_of ls)
node_step (Node-F.Unary at op e) = t.unary at op e
node_step (Node-F.Steps e ss) = t.steps e (steps_of ss)
node_step (Node-F.Number at n) = t.number at n
node_step (Node-F.Quote at text) = t.quote at text
node_step (Node-F.Truth at b) = t.truth at b
node_step (Node-F.Name n is_outer moved) = t.name n is_outer moved
node_step (Node-F.Call n f es) = t.call n (view_callee f) (exprs_of es)
node_step (Node-F.Paren at e) = t.paren at e
node_step (Node-F.Array at x es) = t.array at (view_ty x) (exprs_of es)
node_step (Node-F.Iso at b) = t.iso at b
node_step (Node-F.«Node::Form» f) = t.form f

abbrev pub form_step : Over Form-F → t.Form
form_step (Form-F.If at c b es o) = t.branch at c b (elses_of es o)
form_step (Form-F.Pure at b) = t.pure at b
form_step (Form-F.ParallelRange at n e f b) = t.parallel_range at n e f b
form_step (Form-F.ParallelEach at n e b) = t.parallel_each at n e b

abbrev pub step_step : Over Step-F → t.Step
step_step (Step-F.Field s v may_be_set at n) = t.field (view_seen s) (view_view v) may_be_set at n
step_step (Step-F.Method s v at n es) = t.method (view_seen s) (view_view v) at n (exprs_of es)
step_step (Step-F.Index s v at e) = t.index (view_seen s) (view_view v) at e

abbrev pub stmt_step : Over Stmt-F → t.Stmt
stmt_step (Stmt-F.Declare n x e) = t.declare n (view_ty x) e
stmt_step (Stmt-F.Destructure at ns xs e) = t.destructure at ns (map view_ty xs) e
stmt_step (Stmt-F.Return at e) = return_of at e
stmt_step (Stmt-F.While at e b) = t.while at e b
stmt_step (Stmt-F.Foreach at n e f b) = t.foreach at n e f b
stmt_step (Stmt-F.«Stmt::Form» f) = t.form_stmt f
stmt_step (Stmt-F.Express e) = t.express e

abbrev pub block_step : Over Block-F → t.Block
block_step b = t.block b.at b.end (view_ty b.ty) (stmts_of b.stmts b.last)

abbrev pub else_if_step : Over ElseIf-F → t.ElseIf
else_if_step e = t.else_if e.at e.condition e.block

abbrev pub link_step : Over Link-F → t.Link
link_step l = t.link (view_seen l.seen) l.at l.op l.operand

abbrev pub view_expr : Expr → t.Expr
view_expr = fold-Expr _ _ _ _ _ _ _ _ form_step node_step step_step stmt_step block_step else_if_step expr_step link_step

abbrev pub view_node : Node → t.Node
view_node = fold-Node _ _ _ _ _ _ _ _ form_step node_step step_step stmt_step block_step else_if_step expr_step link_step

abbrev pub view_form : Form → t.Form
view_form = fold-Form _ _ _ _ _ _ _ _ form_step node_step step_step stmt_step block_step else_if_step expr_step link_step

abbrev pub view_step : Step → t.Step
view_step = fold-Step _ _ _ _ _ _ _ _ form_step node_step step_step stmt_step block_step else_if_step expr_step link_step

abbrev pub view_stmt : Stmt → t.Stmt
view_stmt = fold-Stmt _ _ _ _ _ _ _ _ form_step node_step step_step stmt_step block_step else_if_step expr_step link_step

abbrev pub view_block : Block → t.Block
view_block = fold-Block _ _ _ _ _ _ _ _ form_step node_step step_step stmt_step block_step else_if_step expr_step link_step

abbrev pub view_else_if : ElseIf → t.ElseIf
view_else_if = fold-ElseIf _ _ _ _ _ _ _ _ form_step node_step step_step stmt_step block_step else_if_step expr_step link_step

abbrev pub view_link : Link → t.Link
view_link = fold-Link _ _ _ _ _ _ _ _ form_step node_step step_step stmt_step block_step else_if_step expr_step link_step

-- ---- items

abbrev pub view_function : Function → t.Function
view_function f = t.function_body (view_head f.head) (view_block f.body)

abbrev pub view_item : Item → t.Item
view_item (item.Struct n fs) = t.struct_item n (map view_field fs)
view_item (item.Interface n hs) = t.interface_item n (map view_head hs)
view_item (item.Impl at i s fs) = t.impl_item at i s (map view_function fs)
view_item (item.Function f) = t.function_item (view_function f)

abbrev pub view_core : Core → t.Typed
view_core p = t.typed p.names (map view_item p.items)
