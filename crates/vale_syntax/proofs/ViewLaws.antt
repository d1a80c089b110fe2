-- The view of each node, by that of its parts.
use Rattle.std.proofs.Common.{◌≡◌, ℕ, List, Option, None, Some, rules}
use Rattle.std.specs.Prelude.{ℤ, Bool, map, option_map}
use Rattle.vale_base.specs.declared.name.Name.{Name}
use Rattle.vale_base.specs.declared.spot.Spot.{Spot}
use Rattle.vale_syntax.specs.declared.tree.NameAt.{NameAt}
use Rattle.vale_syntax.specs.declared.tree.BinaryOp.{BinaryOp}
use Rattle.vale_syntax.specs.declared.tree.UnaryOp.{UnaryOp}
use Rattle.vale_syntax.specs.declared.tree.TypeExpr as types
use Rattle.vale_syntax.specs.declared.tree.TypeExpr.{TypeExpr}
use Rattle.vale_syntax.specs.declared.tree.TypeExpr.TheVariants as x
use Rattle.vale_syntax.specs.declared.tree.Expr.{Expr, the_lemmas}
use Rattle.vale_syntax.specs.declared.tree.Expr.TheVariants as e
use Rattle.vale_syntax.specs.declared.tree.Form.{Form}
use Rattle.vale_syntax.specs.declared.tree.Form.TheVariants as f
use Rattle.vale_syntax.specs.declared.tree.Link.{Link, roll-Link}
use Rattle.vale_syntax.specs.declared.tree.Step.{Step}
use Rattle.vale_syntax.specs.declared.tree.Step.TheVariants as p
use Rattle.vale_syntax.specs.declared.tree.Stmt.{Stmt}
use Rattle.vale_syntax.specs.declared.tree.Stmt.TheVariants as m
use Rattle.vale_syntax.specs.declared.tree.Block.{Block, roll-Block}
use Rattle.vale_syntax.specs.declared.tree.ElseIf.{ElseIf, roll-ElseIf}
use Rattle.vale_syntax.specs.Tree.{int_type, bool_type, str_type, named_type, array_type, ref_type, imm_ref_type, iso_type, set, chain, unary, steps, number, quote, truth, name, call, paren, array, iso, form, link, field, method, index, branch, pure, parallel_range, parallel_each, else_if, block, declare, destructure, return_nothing, return_value, while, foreach, form_stmt, express}
use Rattle.vale_syntax.specs.View.{exprs_of, links_of, steps_of, elses_of, stmts_of, return_of, view_type, view_expr, view_form, view_step, view_stmt, view_block, view_else_if, view_link}

-- ---- types

pub of_int : (at : Spot) → view_type (x.Int at) ≡ int_type at
of_int at = search (rules, types.the_lemmas)

pub of_bool : (at : Spot) → view_type (x.Bool at) ≡ bool_type at
of_bool at = search (rules, types.the_lemmas)

pub of_str : (at : Spot) → view_type (x.Str at) ≡ str_type at
of_str at = search (rules, types.the_lemmas)

pub of_named : (n : NameAt) → view_type (x.Named n) ≡ named_type n
of_named n = search (rules, types.the_lemmas)

pub of_array_type : (at : Spot) (y : TypeExpr) → view_type (x.Array at y) ≡ array_type at (view_type y)
of_array_type at y = search (rules, types.the_lemmas)

pub of_ref : (at : Spot) (y : TypeExpr) → view_type (x.Ref at y) ≡ ref_type at (view_type y)
of_ref at y = search (rules, types.the_lemmas)

pub of_imm_ref : (at : Spot) (y : TypeExpr) → view_type (x.ImmRef at y) ≡ imm_ref_type at (view_type y)
of_imm_ref at y = search (rules, types.the_lemmas)

pub of_iso_type : (at : Spot) (y : TypeExpr) → view_type (x.Iso at y) ≡ iso_type at (view_type y)
of_iso_type at y = search (rules, types.the_lemmas)

-- ---- expressions

pub of_set : (at : Spot) (y z : Expr) → view_expr (e.Set at y z) ≡ set at (view_expr y) (view_expr z)
of_set at y z = search (rules, the_lemmas)

pub of_chain : (y : Expr) (ls : List Link) → view_expr (e.Chain y ls) ≡ chain (view_expr y) (links_of (map view_link ls))
of_chain y ls = search (rules, the_lemmas)

pub of_unary : (at : Spot) (op : UnaryOp) (y : Expr) → view_expr (e.Unary at op y) ≡ unary at op (view_expr y)
of_unary at op y = search (rules, the_lemmas)

pub of_steps : (y : Expr) (ps : List Step) → view_expr (e.Steps y ps) ≡ steps (view_expr y) (steps_of (map view_step ps))
of_steps y ps = search (rules, the_lemmas)

pub of_number : (at : Spot) (n : ℤ) → view_expr (e.Number at n) ≡ number at n
of_number at n = search (rules, the_lemmas)

pub of_quote : (at : Spot) (text : List ℕ) → view_expr (e.Quote at text) ≡ quote at text
of_quote at text = search (rules, the_lemmas)

pub of_truth : (at : Spot) (b : Bool) → view_expr (e.Truth at b) ≡ truth at b
of_truth at b = search (rules, the_lemmas)

pub of_name : (n : NameAt) → view_expr (e.Name n) ≡ name n
of_name n = search (rules, the_lemmas)

pub of_call : (n : NameAt) (es : List Expr) → view_expr (e.Call n es) ≡ call n (exprs_of (map view_expr es))
of_call n es = search (rules, the_lemmas)

pub of_paren : (at : Spot) (y : Expr) → view_expr (e.Paren at y) ≡ paren at (view_expr y)
of_paren at y = search (rules, the_lemmas)

pub of_array : (at : Spot) (y : TypeExpr) (es : List Expr) → view_expr (e.Array at y es) ≡ array at (view_type y) (exprs_of (map view_expr es))
of_array at y es = search (rules, the_lemmas)

pub of_iso : (at : Spot) (b : Block) → view_expr (e.Iso at b) ≡ iso at (view_block b)
of_iso at b = search (rules, the_lemmas)

pub of_form : (y : Form) → view_expr (e.Form y) ≡ form (view_form y)
of_form y = search (rules, the_lemmas)

pub of_link : (at : Spot) (op : BinaryOp) (y : Expr) → view_link (roll-Link (record { at = at; op = op; operand = y })) ≡ link at op (view_expr y)
of_link at op y = search (rules, the_lemmas)

pub of_field : (at : Spot) (n : Name) → view_step (p.Field at n) ≡ field at n
of_field at n = search (rules, the_lemmas)

pub of_method : (at : Spot) (n : Name) (es : List Expr) → view_step (p.Method at n es) ≡ method at n (exprs_of (map view_expr es))
of_method at n es = search (rules, the_lemmas)

pub of_index : (at : Spot) (y : Expr) → view_step (p.Index at y) ≡ index at (view_expr y)
of_index at y = search (rules, the_lemmas)

-- ---- forms, statements and blocks

pub of_if : (at : Spot) (c : Expr) (b : Block) (es : List ElseIf) (o : Option Block) → view_form (f.If at c b es o) ≡ branch at (view_expr c) (view_block b) (elses_of (map view_else_if es) (option_map view_block o))
of_if at c b es o = search (rules, the_lemmas)

pub of_pure : (at : Spot) (b : Block) → view_form (f.Pure at b) ≡ pure at (view_block b)
of_pure at b = search (rules, the_lemmas)

pub of_parallel_range : (at : Spot) (n : NameAt) (y z : Expr) (b : Block) → view_form (f.ParallelRange at n y z b) ≡ parallel_range at n (view_expr y) (view_expr z) (view_block b)
of_parallel_range at n y z b = search (rules, the_lemmas)

pub of_parallel_each : (at : Spot) (n : NameAt) (y : Expr) (b : Block) → view_form (f.ParallelEach at n y b) ≡ parallel_each at n (view_expr y) (view_block b)
of_parallel_each at n y b = search (rules, the_lemmas)

pub of_else_if : (at : Spot) (c : Expr) (b : Block) → view_else_if (roll-ElseIf (record { at = at; condition = c; block = b })) ≡ else_if at (view_expr c) (view_block b)
of_else_if at c b = search (rules, the_lemmas)

pub of_declare : (n : NameAt) (y : Expr) → view_stmt (m.Declare n y) ≡ declare n (view_expr y)
of_declare n y = search (rules, the_lemmas)

pub of_destructure : (at : Spot) (ns : List NameAt) (y : Expr) → view_stmt (m.Destructure at ns y) ≡ destructure at ns (view_expr y)
of_destructure at ns y = search (rules, the_lemmas)

pub of_return : (at : Spot) (y : Option Expr) → view_stmt (m.Return at y) ≡ return_of at (option_map view_expr y)
of_return at y = search (rules, the_lemmas)

pub of_return_nothing : (at : Spot) → view_stmt (m.Return at None) ≡ return_nothing at
of_return_nothing at = of_return at None

pub of_return_value : (at : Spot) (y : Expr) → view_stmt (m.Return at (Some y)) ≡ return_value at (view_expr y)
of_return_value at y = of_return at (Some y)

pub of_while : (at : Spot) (c : Expr) (b : Block) → view_stmt (m.While at c b) ≡ while at (view_expr c) (view_block b)
of_while at c b = search (rules, the_lemmas)

pub of_foreach : (at : Spot) (n : NameAt) (y z : Expr) (b : Block) → view_stmt (m.Foreach at n y z b) ≡ foreach at n (view_expr y) (view_expr z) (view_block b)
of_foreach at n y z b = search (rules, the_lemmas)

pub of_form_stmt : (y : Form) → view_stmt (m.Form y) ≡ form_stmt (view_form y)
of_form_stmt y = search (rules, the_lemmas)

pub of_express : (y : Expr) → view_stmt (m.Express y) ≡ express (view_expr y)
of_express y = search (rules, the_lemmas)

pub of_block : (at end : Spot) (ms : List Stmt) (y : Option Expr) → view_block (roll-Block (record { at = at; end = end; stmts = ms; last = y })) ≡ block at end (stmts_of (map view_stmt ms) (option_map view_expr y))
of_block at end ms y = search (rules, the_lemmas)
