-- A run comes behind a part just where one may, wherever the part stands.
use Rattle.std.proofs.Common.{◌≡◌, ℕ, suc, ◌+◌, List, [], ◌∷◌, refl, ap, sym, ◌∙◌}
use Rattle.std.specs.Prelude.{Bool, true, false, ◌||◌, ◌&&◌, Option, Some, None}
use Rattle.vale_syntax.specs.declared.tree.BinaryOp.{BinaryOp}
use Rattle.vale_syntax.specs.declared.tree.BinaryOp.TheVariants as op
use Rattle.vale_rules_spec.specs.Types as y
use Rattle.vale_rules_spec.specs.Typed.{Expr, expr, Node, set, chain, unary, steps, number, quote, truth, name, call, paren, array, iso, form, Exprs, no_exprs, more_exprs, link, Links, no_links, more_links, Step, field, method, index, Steps, no_steps, more_steps, Form, branch, pure, parallel_range, parallel_each, else_if, Elses, no_else, otherwise, more_elses, Block, block, Stmt, declare, destructure, return_nothing, return_value, while, foreach, form_stmt, express, Stmts, no_stmts, last, more_stmts, type}
use Rattle.vale_model.specs.Expressions.{numbers_of}
use Rattle.vale_lowering_objects.specs.Scopes.{Gives, gives_of, Entry, Scope, entry, waiting, find, Gone, without, After, comes, never, no_run, then_after, met}
use Rattle.vale_lowering_objects.specs.Changes.{step_changes}
use Rattle.vale_lowering_objects.specs.Lowered.{all_gives, locals_after, loop_after, link_after, moved_out, step_view, stays_of, free_register, expr_after, node_after, start_after, step_after, steps_after, place_after, targets_after, args_after, links_after, form_after, elses_after, block_after, stmts_after, stmt_after}
use Rattle.vale_lower_flow.specs.Flow.{comes_in, gone_in}
use Rattle.vale_lower_looks.specs.Comes.{operand_comes, expr_comes, node_comes, based, place_comes, exprs_come, links_come, step_comes, steps_come, form_comes, elses_come, block_comes, stmts_come, stmt_comes}

no_run_comes : (q : After) → comes_in (no_run q) ≡ false
no_run_comes (comes g) = refl
no_run_comes (never g) = refl

-- one part after another
then_comes : (q : After) (f : Gone → After) (a b : Bool) → comes_in q ≡ a → ((g : Gone) → comes_in (f g) ≡ b) → comes_in (then_after q f) ≡ (a && b)
then_comes (comes g) f a b e each = each g ∙ ap (λ z. z && b) e
then_comes (never g) f a b e each = no_run_comes (f g) ∙ ap (λ z. z && b) e

met_comes : (before : Gone) (q r : After) (a b : Bool) → comes_in q ≡ a → comes_in r ≡ b → comes_in (met before q r) ≡ (a || b)
met_comes before (comes g) r a b e f = ap (λ z. z || b) e
met_comes before (never g) (comes g') a b e f = f ∙ ap (λ z. z || b) e
met_comes before (never g) (never g') a b e f = f ∙ ap (λ z. z || b) e

loop_comes : (g : Gone) (q : After) → comes_in (loop_after g q) ≡ comes_in q
loop_comes g (comes now) = refl
loop_comes g (never now) = refl

link_comes_by : (o : BinaryOp) (after : ℕ → Gone → After) (h : ℕ) (g : Gone) (b : Bool) → comes_in (after (h + 1) g) ≡ b → comes_in (link_after o after h g) ≡ operand_comes o b
link_comes_by op.Or after h g b e = refl
link_comes_by op.And after h g b e = refl
link_comes_by op.Equal after h g b e = e
link_comes_by op.NotEqual after h g b e = e
link_comes_by op.Less after h g b e = e
link_comes_by op.LessEqual after h g b e = e
link_comes_by op.Greater after h g b e = e
link_comes_by op.GreaterEqual after h g b e = e
link_comes_by op.Add after h g b e = e
link_comes_by op.Sub after h g b e = e
link_comes_by op.Mul after h g b e = e
link_comes_by op.Div after h g b e = e
link_comes_by op.Rem after h g b e = e

locals_come : (ns : List ℕ) (qs : List Gives) (h : ℕ) (s : Scope) (g : Gone) (rest : ℕ → Scope → Gone → After) (b : Bool) → ((h : ℕ) (s : Scope) (g : Gone) → comes_in (rest h s g) ≡ b) → comes_in (locals_after ns qs h s g rest) ≡ b
locals_come (n ∷ ns) (q ∷ qs) h s g rest b each = locals_come ns qs (h + 1) (entry n h q ∷ s) (without h g) rest b each
locals_come [] qs h s g rest b each = each h s g
locals_come (n ∷ ns) [] h s g rest b each = each h s g

and_back : (a b c : Bool) → ((a && b) && c) ≡ (a && (b && c))
and_back true b c = refl
and_back false b c = refl

and_true : (a : Bool) → (a && true) ≡ a
and_true true = refl
and_true false = refl

mutual
  pub expr_comes_is : (e : Expr) (h : ℕ) (s : Scope) (g : Gone) → comes_in (expr_after e h s g) ≡ expr_comes e
  expr_comes_is (expr x node) h s g = node_is node h s g

  node_is : (node : Node) (h : ℕ) (s : Scope) (g : Gone) → comes_in (node_after node h s g) ≡ node_comes node
  node_is (name n is_outer true) h s g = refl
  node_is (name n is_outer false) h s g = refl
  node_is (paren at e) h s g = expr_comes_is e h s g
  node_is (chain e ls) h s g = then_comes (expr_after e h s g) (λ g. links_after ls h s g) _ _ (expr_comes_is e h s g) (λ g. links_is ls h s g)
  node_is (unary at op e) h s g = expr_comes_is e h s g
  node_is (call n f es) h s g = args_is es h s g
  node_is (array at x es) h s g = args_is es h s g
  node_is (form f) h s g = form_is f h s g
  node_is (set at p e) h s g = then_comes (expr_after e h s g) (λ g. place_after p (gives_of (type e)) h s g) _ _ (expr_comes_is e h s g) (λ g. place_is p (gives_of (type e)) h s g)
  node_is (steps e (more_steps x xs)) h s g =
      then_comes (start_after e (step_view x) (λ n. step_changes n x) h s g (λ k g. step_after x k s g)) (λ g. steps_after xs h s g) (expr_comes e && step_comes x) (steps_come xs)
      (start_is e (step_view x) (λ n. step_changes n x) h s g (λ k g. step_after x k s g) (step_comes x) (λ k g. step_is x k s g)) (λ g. steps_is xs h s g)
      ∙ and_back (expr_comes e) (step_comes x) (steps_come xs)
  node_is (steps e no_steps) h s g = refl
  node_is (iso at b) h s g = block_is b (h + 1) s g
  node_is (number at n) h s g = refl
  node_is (quote at text) h s g = refl
  node_is (truth at b) h s g = refl

  start_is : (e : Expr) (view : y.View) (changes : ℕ → Bool) (h : ℕ) (s : Scope) (g : Gone) (rest : ℕ → Gone → After) (b : Bool) → ((k : ℕ) (g : Gone) → comes_in (rest k g) ≡ b) → comes_in (start_after e view changes h s g rest) ≡ (expr_comes e && b)
  start_is (expr y (name n is_outer false)) view changes h s g rest b each = each (free_register (stays_of (find n.name.0 s) view (changes n.name.0)) h) g
  start_is (expr y (name n is_outer true)) view changes h s g rest b each = each (h + 1) (moved_out (find n.name.0 s) g)
  start_is (expr y (set at p e)) view changes h s g rest b each = then_comes (node_after (set at p e) h s g) (λ g. rest (h + 1) g) _ _ (node_is (set at p e) h s g) (λ g. each (h + 1) g)
  start_is (expr y (chain e ls)) view changes h s g rest b each = then_comes (node_after (chain e ls) h s g) (λ g. rest (h + 1) g) _ _ (node_is (chain e ls) h s g) (λ g. each (h + 1) g)
  start_is (expr y (unary at op e)) view changes h s g rest b each = then_comes (node_after (unary at op e) h s g) (λ g. rest (h + 1) g) _ _ (node_is (unary at op e) h s g) (λ g. each (h + 1) g)
  start_is (expr y (steps e ss)) view changes h s g rest b each = then_comes (node_after (steps e ss) h s g) (λ g. rest (h + 1) g) _ _ (node_is (steps e ss) h s g) (λ g. each (h + 1) g)
  start_is (expr y (number at n)) view changes h s g rest b each = then_comes (node_after (number at n) h s g) (λ g. rest (h + 1) g) _ _ (node_is (number at n) h s g) (λ g. each (h + 1) g)
  start_is (expr y (quote at text)) view changes h s g rest b each = then_comes (node_after (quote at text) h s g) (λ g. rest (h + 1) g) _ _ (node_is (quote at text) h s g) (λ g. each (h + 1) g)
  start_is (expr y (truth at v)) view changes h s g rest b each = then_comes (node_after (truth at v) h s g) (λ g. rest (h + 1) g) _ _ (node_is (truth at v) h s g) (λ g. each (h + 1) g)
  start_is (expr y (call n f es)) view changes h s g rest b each = then_comes (node_after (call n f es) h s g) (λ g. rest (h + 1) g) _ _ (node_is (call n f es) h s g) (λ g. each (h + 1) g)
  start_is (expr y (paren at e)) view changes h s g rest b each = then_comes (node_after (paren at e) h s g) (λ g. rest (h + 1) g) _ _ (node_is (paren at e) h s g) (λ g. each (h + 1) g)
  start_is (expr y (array at x es)) view changes h s g rest b each = then_comes (node_after (array at x es) h s g) (λ g. rest (h + 1) g) _ _ (node_is (array at x es) h s g) (λ g. each (h + 1) g)
  start_is (expr y (iso at k)) view changes h s g rest b each = then_comes (node_after (iso at k) h s g) (λ g. rest (h + 1) g) _ _ (node_is (iso at k) h s g) (λ g. each (h + 1) g)
  start_is (expr y (form f)) view changes h s g rest b each = then_comes (node_after (form f) h s g) (λ g. rest (h + 1) g) _ _ (node_is (form f) h s g) (λ g. each (h + 1) g)

  step_is : (x : Step) (k : ℕ) (s : Scope) (g : Gone) → comes_in (step_after x k s g) ≡ step_comes x
  step_is (field y view may_be_set at m) k s g = refl
  step_is (index y view at e) k s g = expr_comes_is e k s g
  step_is (method y view at m es) k s g = refl

  steps_is : (xs : Steps) (h : ℕ) (s : Scope) (g : Gone) → comes_in (steps_after xs h s g) ≡ steps_come xs
  steps_is no_steps h s g = refl
  steps_is (more_steps x xs) h s g = then_comes (step_after x (h + 1) s g) (λ g. steps_after xs h s g) _ _ (step_is x (h + 1) s g) (λ g. steps_is xs h s g)

  place_is : (p : Expr) (q : Gives) (h : ℕ) (s : Scope) (g : Gone) → comes_in (place_after p q h s g) ≡ place_comes p
  place_is (expr x (steps e (more_steps y no_steps))) q h s g =
      start_is e (step_view y) (λ n. step_changes n y) (h + 1) (waiting h q ∷ s) (without h g) (λ k g. step_after y k (waiting h q ∷ s) g) (step_comes y) (λ k g. step_is y k (waiting h q ∷ s) g)
      ∙ ap (λ z. expr_comes e && z) (sym (and_true (step_comes y)))
  place_is (expr x (steps e (more_steps y (more_steps z zs)))) q h s g =
      then_comes (start_after e (step_view y) (λ n. step_changes n y) (h + 1) (waiting h q ∷ s) (without h g) (λ k g. step_after y k (waiting h q ∷ s) g)) (λ g. targets_after (more_steps z zs) (h + 1) (waiting h q ∷ s) g) (expr_comes e && step_comes y) (steps_come (more_steps z zs))
      (start_is e (step_view y) (λ n. step_changes n y) (h + 1) (waiting h q ∷ s) (without h g) (λ k g. step_after y k (waiting h q ∷ s) g) (step_comes y) (λ k g. step_is y k (waiting h q ∷ s) g))
      (λ g. targets_is (more_steps z zs) (h + 1) (waiting h q ∷ s) g)
      ∙ and_back (expr_comes e) (step_comes y) (steps_come (more_steps z zs))
  place_is (expr x (steps e no_steps)) q h s g = refl
  place_is (expr x (set at p e)) q h s g = refl
  place_is (expr x (chain e ls)) q h s g = refl
  place_is (expr x (unary at op e)) q h s g = refl
  place_is (expr x (number at n)) q h s g = refl
  place_is (expr x (quote at text)) q h s g = refl
  place_is (expr x (truth at b)) q h s g = refl
  place_is (expr x (name n is_outer moved)) q h s g = refl
  place_is (expr x (call n f es)) q h s g = refl
  place_is (expr x (paren at e)) q h s g = refl
  place_is (expr x (array at y es)) q h s g = refl
  place_is (expr x (iso at b)) q h s g = refl
  place_is (expr x (form f)) q h s g = refl

  targets_is : (xs : Steps) (h : ℕ) (s : Scope) (g : Gone) → comes_in (targets_after xs h s g) ≡ steps_come xs
  targets_is no_steps h s g = refl
  targets_is (more_steps x no_steps) h s g = step_is x (h + 1) s g ∙ sym (and_true (step_comes x))
  targets_is (more_steps x (more_steps z zs)) h s g = then_comes (step_after x (h + 1) s g) (λ g. targets_after (more_steps z zs) h s g) _ _ (step_is x (h + 1) s g) (λ g. targets_is (more_steps z zs) h s g)

  args_is : (es : Exprs) (h : ℕ) (s : Scope) (g : Gone) → comes_in (args_after es h s g) ≡ exprs_come es
  args_is no_exprs h s g = refl
  args_is (more_exprs e es) h s g = then_comes (expr_after e h s g) (λ g. args_after es (h + 1) (waiting h (gives_of (type e)) ∷ s) (without h g)) _ _ (expr_comes_is e h s g) (λ g. args_is es (h + 1) (waiting h (gives_of (type e)) ∷ s) (without h g))

  links_is : (ls : Links) (h : ℕ) (s : Scope) (g : Gone) → comes_in (links_after ls h s g) ≡ links_come ls
  links_is no_links h s g = refl
  links_is (more_links (link x at op e) ls) h s g =
      then_comes (link_after op (λ h g. expr_after e h s g) h g) (λ g. links_after ls h s g) _ _ (link_comes_by op (λ h g. expr_after e h s g) h g (expr_comes e) (expr_comes_is e (h + 1) s g)) (λ g. links_is ls h s g)

  form_is : (f : Form) (h : ℕ) (s : Scope) (g : Gone) → comes_in (form_after f h s g) ≡ form_comes f
  form_is (branch at c b es) h s g =
      then_comes (expr_after c h s g) (λ now. met g (block_after b (h + 1) s now) (elses_after es g h s now)) _ _ (expr_comes_is c h s g)
      (λ now. met_comes g (block_after b (h + 1) s now) (elses_after es g h s now) _ _ (block_is b (h + 1) s now) (elses_is es g h s now))
  form_is (pure at b) h s g = block_is b (h + 1) s g
  form_is (parallel_range at n a e b) h s g = refl
  form_is (parallel_each at n e b) h s g = refl

  elses_is : (es : Elses) (before : Gone) (h : ℕ) (s : Scope) (g : Gone) → comes_in (elses_after es before h s g) ≡ elses_come es
  elses_is no_else before h s g = refl
  elses_is (otherwise b) before h s g = block_is b (h + 1) s g
  elses_is (more_elses (else_if at c b) es) before h s g =
      then_comes (expr_after c h s g) (λ g. met before (block_after b (h + 1) s g) (elses_after es before h s g)) _ _ (expr_comes_is c h s g)
      (λ g. met_comes before (block_after b (h + 1) s g) (elses_after es before h s g) _ _ (block_is b (h + 1) s g) (elses_is es before h s g))

  block_is : (b : Block) (h : ℕ) (s : Scope) (g : Gone) → comes_in (block_after b h s g) ≡ block_comes b
  block_is (block at end x ss) h s g = stmts_is ss h s g

  stmts_is : (ss : Stmts) (h : ℕ) (s : Scope) (g : Gone) → comes_in (stmts_after ss h s g) ≡ stmts_come ss
  stmts_is no_stmts h s g = refl
  stmts_is (last e) h s g = expr_comes_is e h s g
  stmts_is (more_stmts (declare n x e) ss) h s g =
      then_comes (expr_after e h s g) (λ g. stmts_after ss (h + 1) (entry n.name.0 h (gives_of x) ∷ s) (without h g)) _ _ (expr_comes_is e h s g) (λ g. stmts_is ss (h + 1) (entry n.name.0 h (gives_of x) ∷ s) (without h g))
  stmts_is (more_stmts (destructure at ns xs e) ss) h s g =
      then_comes (expr_after e h s g) (λ g. locals_after (numbers_of ns) (all_gives xs) h s g (λ h s g. stmts_after ss h s g)) _ _ (expr_comes_is e h s g)
      (λ g. locals_come (numbers_of ns) (all_gives xs) h s g (λ h s g. stmts_after ss h s g) (stmts_come ss) (λ h s g. stmts_is ss h s g))
  stmts_is (more_stmts (return_nothing at) ss) h s g = then_comes (never g) (λ g. stmts_after ss h s g) _ _ refl (λ g. stmts_is ss h s g)
  stmts_is (more_stmts (return_value at e) ss) h s g = then_comes (no_run (expr_after e h s g)) (λ g. stmts_after ss h s g) _ _ (no_run_comes (expr_after e h s g)) (λ g. stmts_is ss h s g)
  stmts_is (more_stmts (while at c b) ss) h s g = then_comes (stmt_after (while at c b) h s g) (λ g. stmts_after ss h s g) _ _ (loop_comes g (expr_after c h s g) ∙ expr_comes_is c h s g) (λ g. stmts_is ss h s g)
  stmts_is (more_stmts (foreach at n a e b) ss) h s g =
      then_comes (stmt_after (foreach at n a e b) h s g) (λ g. stmts_after ss h s g) _ _
      (then_comes (expr_after a h s g) (λ g. expr_after e (h + 1) s g) _ _ (expr_comes_is a h s g) (λ g. expr_comes_is e (h + 1) s g)) (λ g. stmts_is ss h s g)
  stmts_is (more_stmts (form_stmt f) ss) h s g = then_comes (form_after f h s g) (λ g. stmts_after ss h s g) _ _ (form_is f h s g) (λ g. stmts_is ss h s g)
  stmts_is (more_stmts (express e) ss) h s g = then_comes (expr_after e h s g) (λ g. stmts_after ss h s g) _ _ (expr_comes_is e h s g) (λ g. stmts_is ss h s g)
