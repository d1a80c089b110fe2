-- The view of each node, by that of its parts.
use Rattle.std.proofs.Common.{◌≡◌, ℕ, List, Option, None, Some, rules}
use Rattle.std.specs.Prelude.{ℤ, Bool, map, option_map}
use Rattle.vale_base.specs.declared.name.Name.{Name}
use Rattle.vale_base.specs.declared.spot.Spot.{Spot}
use Rattle.vale_syntax.specs.declared.tree.NameAt.{NameAt}
use Rattle.vale_syntax.specs.declared.tree.BinaryOp.{BinaryOp}
use Rattle.vale_syntax.specs.declared.tree.UnaryOp.{UnaryOp}
use Rattle.vale_core.specs.declared.ty.Ty as types
use Rattle.vale_core.specs.declared.ty.Ty.{Ty}
use Rattle.vale_core.specs.declared.ty.Ty.TheVariants as x
use Rattle.vale_core.specs.declared.seen.Seen.{Seen}
use Rattle.vale_core.specs.declared.seen.View.{View}
use Rattle.vale_core.specs.declared.tree.Callee.{Callee}
use Rattle.vale_core.specs.declared.tree.Expr.{Expr, roll-Expr}
use Rattle.vale_core.specs.declared.tree.Node.{Node}
use Rattle.vale_core.specs.declared.tree.Node.TheVariants as d
use Rattle.vale_core.specs.declared.tree.Form.{Form, the_lemmas}
use Rattle.vale_core.specs.declared.tree.Form.TheVariants as f
use Rattle.vale_core.specs.declared.tree.Link.{Link, roll-Link}
use Rattle.vale_core.specs.declared.tree.Step.{Step}
use Rattle.vale_core.specs.declared.tree.Step.TheVariants as p
use Rattle.vale_core.specs.declared.tree.Stmt.{Stmt}
use Rattle.vale_core.specs.declared.tree.Stmt.TheVariants as m
use Rattle.vale_core.specs.declared.tree.Block.{Block, roll-Block}
use Rattle.vale_core.specs.declared.tree.ElseIf.{ElseIf, roll-ElseIf}
use Rattle.vale_rules_spec.specs.Types as y
use Rattle.vale_rules_spec.specs.Typed as t
use Rattle.vale_core.specs.View.{exprs_of, links_of, steps_of, elses_of, stmts_of, return_of, view_ty, view_view, view_seen, view_callee, view_expr, view_node, view_form, view_step, view_stmt, view_block, view_else_if, view_link}

-- ---- types

pub of_void : view_ty x.Void ≡ y.void
of_void = search (rules, types.the_lemmas)

pub of_int : view_ty x.Int ≡ y.int
of_int = search (rules, types.the_lemmas)

pub of_bool : view_ty x.Bool ≡ y.bool
of_bool = search (rules, types.the_lemmas)

pub of_str : view_ty x.Str ≡ y.str
of_str = search (rules, types.the_lemmas)

pub of_kind : (n : Name) → view_ty (x.Kind n) ≡ y.kind n.0
of_kind n = search (rules, types.the_lemmas)

pub of_array : (z : Ty) → view_ty (x.Array z) ≡ y.array (view_ty z)
of_array z = search (rules, types.the_lemmas)

pub of_ref : (z : Ty) → view_ty (x.Ref z) ≡ y.ref (view_ty z)
of_ref z = search (rules, types.the_lemmas)

pub of_imm : (z : Ty) → view_ty (x.Imm z) ≡ y.imm (view_ty z)
of_imm z = search (rules, types.the_lemmas)

pub of_iso : (z : Ty) → view_ty (x.Iso z) ≡ y.iso (view_ty z)
of_iso z = search (rules, types.the_lemmas)

-- ---- expressions

pub of_expr : (s : Seen) (z : Node) → view_expr (roll-Expr (record { seen = s; node = z })) ≡ t.expr (view_seen s) (view_node z)
of_expr s z = search (rules, the_lemmas)

pub of_set : (at : Spot) (p z : Expr) → view_node (d.Set at p z) ≡ t.set at (view_expr p) (view_expr z)
of_set at p z = search (rules, the_lemmas)

pub of_chain : (z : Expr) (ls : List Link) → view_node (d.Chain z ls) ≡ t.chain (view_expr z) (links_of (map view_link ls))
of_chain z ls = search (rules, the_lemmas)

pub of_unary : (at : Spot) (op : UnaryOp) (z : Expr) → view_node (d.Unary at op z) ≡ t.unary at op (view_expr z)
of_unary at op z = search (rules, the_lemmas)

pub of_steps : (z : Expr) (ps : List Step) → view_node (d.Steps z ps) ≡ t.steps (view_expr z) (steps_of (map view_step ps))
of_steps z ps = search (rules, the_lemmas)

pub of_number : (at : Spot) (n : ℤ) → view_node (d.Number at n) ≡ t.number at n
of_number at n = search (rules, the_lemmas)

pub of_quote : (at : Spot) (text : List ℕ) → view_node (d.Quote at text) ≡ t.quote at text
of_quote at text = search (rules, the_lemmas)

pub of_truth : (at : Spot) (b : Bool) → view_node (d.Truth at b) ≡ t.truth at b
of_truth at b = search (rules, the_lemmas)

pub of_name : (n : NameAt) (is_outer moved : Bool) → view_node (d.Name n is_outer moved) ≡ t.name n is_outer moved
of_name n is_outer moved = search (rules, the_lemmas)

pub of_call : (n : NameAt) (f : Callee) (es : List Expr) → view_node (d.Call n f es) ≡ t.call n (view_callee f) (exprs_of (map view_expr es))
of_call n f es = search (rules, the_lemmas)

pub of_paren : (at : Spot) (z : Expr) → view_node (d.Paren at z) ≡ t.paren at (view_expr z)
of_paren at z = search (rules, the_lemmas)

pub of_elements : (at : Spot) (z : Ty) (es : List Expr) → view_node (d.Array at z es) ≡ t.array at (view_ty z) (exprs_of (map view_expr es))
of_elements at z es = search (rules, the_lemmas)

pub of_isolate : (at : Spot) (b : Block) → view_node (d.Iso at b) ≡ t.iso at (view_block b)
of_isolate at b = search (rules, the_lemmas)

pub of_form : (z : Form) → view_node (d.Form z) ≡ t.form (view_form z)
of_form z = search (rules, the_lemmas)

pub of_link : (s : Seen) (at : Spot) (op : BinaryOp) (z : Expr) → view_link (roll-Link (record { seen = s; at = at; op = op; operand = z })) ≡ t.link (view_seen s) at op (view_expr z)
of_link s at op z = search (rules, the_lemmas)

pub of_field : (s : Seen) (v : View) (b : Bool) (at : Spot) (n : Name) → view_step (p.Field s v b at n) ≡ t.field (view_seen s) (view_view v) b at n
of_field s v b at n = search (rules, the_lemmas)

pub of_method : (s : Seen) (v : View) (at : Spot) (n : Name) (es : List Expr) → view_step (p.Method s v at n es) ≡ t.method (view_seen s) (view_view v) at n (exprs_of (map view_expr es))
of_method s v at n es = search (rules, the_lemmas)

pub of_index : (s : Seen) (v : View) (at : Spot) (z : Expr) → view_step (p.Index s v at z) ≡ t.index (view_seen s) (view_view v) at (view_expr z)
of_index s v at z = search (rules, the_lemmas)

-- ---- forms, statements and blocks

pub of_if : (at : Spot) (c : Expr) (b : Block) (es : List ElseIf) (o : Option Block) → view_form (f.If at c b es o) ≡ t.branch at (view_expr c) (view_block b) (elses_of (map view_else_if es) (option_map view_block o))
of_if at c b es o = search (rules, the_lemmas)

pub of_pure : (at : Spot) (b : Block) → view_form (f.Pure at b) ≡ t.pure at (view_block b)
of_pure at b = search (rules, the_lemmas)

pub of_parallel_range : (at : Spot) (n : NameAt) (w z : Expr) (b : Block) → view_form (f.ParallelRange at n w z b) ≡ t.parallel_range at n (view_expr w) (view_expr z) (view_block b)
of_parallel_range at n w z b = search (rules, the_lemmas)

pub of_parallel_each : (at : Spot) (n : NameAt) (z : Expr) (b : Block) → view_form (f.ParallelEach at n z b) ≡ t.parallel_each at n (view_expr z) (view_block b)
of_parallel_each at n z b = search (rules, the_lemmas)

pub of_else_if : (at : Spot) (c : Expr) (b : Block) → view_else_if (roll-ElseIf (record { at = at; condition = c; block = b })) ≡ t.else_if at (view_expr c) (view_block b)
of_else_if at c b = search (rules, the_lemmas)

pub of_declare : (n : NameAt) (w : Ty) (z : Expr) → view_stmt (m.Declare n w z) ≡ t.declare n (view_ty w) (view_expr z)
of_declare n w z = search (rules, the_lemmas)

pub of_destructure : (at : Spot) (ns : List NameAt) (ws : List Ty) (z : Expr) → view_stmt (m.Destructure at ns ws z) ≡ t.destructure at ns (map view_ty ws) (view_expr z)
of_destructure at ns ws z = search (rules, the_lemmas)

pub of_return : (at : Spot) (z : Option Expr) → view_stmt (m.Return at z) ≡ return_of at (option_map view_expr z)
of_return at z = search (rules, the_lemmas)

pub of_return_nothing : (at : Spot) → view_stmt (m.Return at None) ≡ t.return_nothing at
of_return_nothing at = of_return at None

pub of_return_value : (at : Spot) (z : Expr) → view_stmt (m.Return at (Some z)) ≡ t.return_value at (view_expr z)
of_return_value at z = of_return at (Some z)

pub of_while : (at : Spot) (c : Expr) (b : Block) → view_stmt (m.While at c b) ≡ t.while at (view_expr c) (view_block b)
of_while at c b = search (rules, the_lemmas)

pub of_foreach : (at : Spot) (n : NameAt) (w z : Expr) (b : Block) → view_stmt (m.Foreach at n w z b) ≡ t.foreach at n (view_expr w) (view_expr z) (view_block b)
of_foreach at n w z b = search (rules, the_lemmas)

pub of_form_stmt : (z : Form) → view_stmt (m.Form z) ≡ t.form_stmt (view_form z)
of_form_stmt z = search (rules, the_lemmas)

pub of_express : (z : Expr) → view_stmt (m.Express z) ≡ t.express (view_expr z)
of_express z = search (rules, the_lemmas)

pub of_block : (at end : Spot) (w : Ty) (ms : List Stmt) (z : Option Expr) → view_block (roll-Block (record { at = at; end = end; ty = w; stmts = ms; last = z })) ≡ t.block at end (view_ty w) (stmts_of (map view_stmt ms) (option_map view_expr z))
of_block at end w ms z = search (rules, the_lemmas)
