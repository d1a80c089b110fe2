-- An `if` and a block, part by part.
use Rattle.std.proofs.Common.{◌≡◌, ℕ, List, refl, ap, ◌∙◌, rules}
use Rattle.std.specs.Prelude.{Result, Ok, Err, Option, None, map, option_map}
use Rattle.vale_base.specs.declared.spot.Spot.{Spot}
use Rattle.vale_syntax.specs.declared.fault.Fault.{Fault}
use Rattle.vale_syntax.specs.declared.tree.Expr.{Expr, the_lemmas}
use Rattle.vale_syntax.specs.declared.tree.Stmt.{Stmt}
use Rattle.vale_syntax.specs.declared.tree.Block.{Block, out-Block}
use Rattle.vale_syntax.specs.declared.tree.ElseIf.{ElseIf}
use Rattle.vale_syntax.specs.declared.tree.Form.TheVariants as f
use Rattle.vale_syntax.specs.Tree as t
use Rattle.vale_syntax.specs.Tree.{Item}
use Rattle.vale_syntax.specs.View.{view_expr, view_form, view_stmt, view_block, view_else_if, elses_of, else_end, stmts_of, last_end}
use Rattle.vale_rules_spec.specs.DeclFaults.{◌▸◌, in_expr, in_form, in_elses, in_block, in_stmts}
use Rattle.vale_rules_spec.proofs.JudgedLaws.{◌>>=◌}
use Rattle.vale_syntax.proofs.ViewLaws.{of_if}
use Rattle.vale_types.specs.Walk.{walked}
use Rattle.vale_types.proofs.WalkLaws.{walked_then, walked_stmts, walked_elses}

bind_ext : (r : Result ℕ Fault) (f g : ℕ → Result ℕ Fault) → ((l : ℕ) → f l ≡ g l) → (r >>= f) ≡ (r >>= g)
bind_ext (Ok l) f g same = same l
bind_ext (Err e) f g same = refl

pub in_if : (items : List Item) (at : Spot) (c : Expr) (b : Block) (es : List ElseIf) (o : Option Block) (left : ℕ) → walked (in_form items (view_form (f.If at c b es o))) left ≡ (walked (in_expr items (view_expr c)) left >>= λ l. walked (in_block items (view_block b)) l >>= λ l. walked (in_elses items (elses_of (map view_else_if es) None)) l >>= λ l. walked (in_elses items (else_end (option_map view_block o))) l)
in_if items at c b es o left =
    rw (of_if at c b es o) (walked_then (in_expr items (view_expr c)) (in_block items (view_block b) ▸ in_elses items (elses_of (map view_else_if es) (option_map view_block o))) left
    ∙ bind_ext (walked (in_expr items (view_expr c)) left) _ _ (λ l. walked_then (in_block items (view_block b)) (in_elses items (elses_of (map view_else_if es) (option_map view_block o))) l
    ∙ bind_ext (walked (in_block items (view_block b)) l) _ _ (λ m. walked_elses items (map view_else_if es) (else_end (option_map view_block o)) m)))

pub of_out_block : (b : Block) → view_block b ≡ t.block (out-Block b).at (out-Block b).end (stmts_of (map view_stmt (out-Block b).stmts) (option_map view_expr (out-Block b).last))
of_out_block b = search (rules, the_lemmas)

-- the last part of an `if`, after those before it
pub if_ends : (items : List Item) (at : Spot) (c : Expr) (b : Block) (es es' : List ElseIf) (o : Option Block) (left l m n : ℕ) (r : Result ℕ Fault)
    → Ok l ≡ walked (in_expr items (view_expr c)) left
    → Ok m ≡ walked (in_block items (view_block b)) l
    → es' ≡ es
    → Ok n ≡ walked (in_elses items (elses_of (map view_else_if es') None)) m
    → r ≡ walked (in_elses items (else_end (option_map view_block o))) n
    → r ≡ walked (in_form items (view_form (f.If at c b es o))) left
if_ends items at c b es es' o left l m n r hc hb same he ho = rw (in_if items at c b es o left, ← hc, ← hb, ← same, ← he) ho

pub whole_block : (items : List Item) (b : Block) (left : ℕ) → walked (in_block items (view_block b)) left ≡ (walked (in_stmts items (stmts_of (map view_stmt (out-Block b).stmts) None)) left >>= λ l. walked (in_stmts items (last_end (option_map view_expr (out-Block b).last))) l)
whole_block items b left =
    ap (λ (x : t.Block). walked (in_block items x) left) (of_out_block b)
    ∙ walked_stmts items (map view_stmt (out-Block b).stmts) (last_end (option_map view_expr (out-Block b).last)) left

pub block_fails : (items : List Item) (b : Block) (left : ℕ) (ms : List Stmt) (e : Fault) → ms ≡ (out-Block b).stmts → Err e ≡ walked (in_stmts items (stmts_of (map view_stmt ms) None)) left → Err e ≡ walked (in_block items (view_block b)) left
block_fails items b left ms e same h = rw (whole_block items b left, ← same, ← h) refl

pub block_ends : (items : List Item) (b : Block) (left l : ℕ) (ms : List Stmt) (r : Result ℕ Fault) → ms ≡ (out-Block b).stmts → Ok l ≡ walked (in_stmts items (stmts_of (map view_stmt ms) None)) left → r ≡ walked (in_stmts items (last_end (option_map view_expr (out-Block b).last))) l → r ≡ walked (in_block items (view_block b)) left
block_ends items b left l ms r same h k = rw (whole_block items b left, ← same, ← h) k
