-- The layouts of nodes, by what the printer does for each.
use Rattle.std.proofs.Common.{◌≡◌, ℕ, suc, List, [], ◌++◌, Option, Some, None, refl, sym, ap, subst, ◌∙◌, append_assoc, append-nil, arith}
use Rattle.std.specs.Prelude.{map, option_map, Result, OnOk}
use Rattle.vale_syntax.specs.Canon.{rendered}
use Rattle.vale_base.specs.declared.spot.Spot.{Spot}
use Rattle.vale_syntax.specs.declared.token.Sign.TheVariants as s
use Rattle.vale_syntax.specs.declared.token.Word.TheVariants as w
use Rattle.vale_syntax.specs.declared.tree.NameAt.{NameAt}
use Rattle.vale_syntax.specs.declared.tree.UnaryOp.{UnaryOp}
use Rattle.vale_syntax.specs.declared.tree.TypeExpr.{TypeExpr}
use Rattle.vale_syntax.specs.declared.tree.Expr.{Expr}
use Rattle.vale_syntax.specs.declared.tree.Expr.TheVariants as e
use Rattle.vale_syntax.specs.declared.tree.Form.{Form}
use Rattle.vale_syntax.specs.declared.tree.Form.TheVariants as f
use Rattle.vale_syntax.specs.declared.tree.Link.{Link}
use Rattle.vale_syntax.specs.declared.tree.Step.{Step}
use Rattle.vale_syntax.specs.declared.tree.Stmt.{Stmt}
use Rattle.vale_syntax.specs.declared.tree.Stmt.TheVariants as m
use Rattle.vale_syntax.specs.declared.tree.Block.{Block, out-Block}
use Rattle.vale_syntax.specs.declared.tree.ElseIf.{ElseIf, out-ElseIf}
use Rattle.vale_syntax.specs.Grammar.{unary_kind}
use Rattle.vale_syntax.specs.Layout.{Layout, put, mark, key, gap, around, new_line, each, with_commas, named, after_word, after_unary, lay_type, lay_expr, lay_args, lay_link, lay_step, lay_form, lay_else_if, lay_elses, lay_block, lay_stmt, lay_stmts}
use Rattle.vale_syntax.specs.View.{exprs_of, stmts_of, else_end, last_end, view_type, view_expr, view_form, view_step, view_stmt, view_block, view_else_if, view_link}
use Rattle.vale_syntax.proofs.ViewLaws.{of_chain, of_unary, of_steps, of_call, of_paren, of_array, of_iso, of_if, of_pure, of_parallel_range, of_parallel_each, of_foreach, of_express}
use Rattle.vale_printer.proofs.ExprLaws as laws
use Rattle.vale_printer.proofs.StepLaws.{step, finish}

without : (m e n c : Layout) → ((m ++ (e ++ [])) ++ n) ++ c ≡ (m ++ e) ++ (n ++ c)
without m e n c = grind (arith, append_assoc, append-nil)

with_last : (m e l y n c : Layout) → ((m ++ (e ++ (l ++ y))) ++ n) ++ c ≡ (((m ++ e) ++ l) ++ y) ++ (n ++ c)
with_last m e l y n c = grind (arith, append_assoc)

with_else : (p e g k h b : Layout) → p ++ (e ++ (((g ++ k) ++ h) ++ b)) ≡ (((p ++ e) ++ g) ++ (k ++ h)) ++ b
with_else p e g k h b = grind (arith, append_assoc)

module _ (names : List (List ℕ)) (d : ℕ) where
  chain_is : (x y y' : Expr) (ls ls' : List Link) → x ≡ e.Chain y ls → y' ≡ y → ls' ≡ ls
      → lay_expr names d (view_expr x) ≡ lay_expr names d (view_expr y') ++ each (λ l. lay_link names d (view_link l)) ls'
  chain_is x y y' ls ls' h i j = rw (h, i, j, of_chain y ls, laws.links names d ls) refl

  unary_is : (x y y' y'' : Expr) (at : Spot) (op : UnaryOp) → x ≡ e.Unary at op y → y' ≡ y → y'' ≡ y
      → lay_expr names d (view_expr x) ≡ (put (unary_kind op) ++ after_unary op (view_expr y')) ++ lay_expr names d (view_expr y'')
  unary_is x y y' y'' at op h i j = rw (h, i, j, of_unary at op y) refl

  steps_is : (x y y' : Expr) (ss ss' : List Step) → x ≡ e.Steps y ss → y' ≡ y → ss' ≡ ss
      → lay_expr names d (view_expr x) ≡ lay_expr names d (view_expr y') ++ each (λ l. lay_step names d (view_step l)) ss'
  steps_is x y y' ss ss' h i j = rw (h, i, j, of_steps y ss, laws.steps names d ss) refl

  call_is : (x : Expr) (n : NameAt) (es es' : List Expr) → x ≡ e.Call n es → es' ≡ es
      → lay_expr names d (view_expr x) ≡ named names n ++ (mark s.OpenParen ++ lay_args names d (exprs_of (map view_expr es')) ++ mark s.CloseParen)
  call_is x n es es' h i = rw (h, i, of_call n es) refl

  paren_is : (x y y' : Expr) (at : Spot) → x ≡ e.Paren at y → y' ≡ y
      → lay_expr names d (view_expr x) ≡ (mark s.OpenParen ++ lay_expr names d (view_expr y')) ++ mark s.CloseParen
  paren_is x y y' at h i = rw (h, i, of_paren at y) refl

  array_is : (x : Expr) (at : Spot) (y : TypeExpr) (es es' : List Expr) → x ≡ e.Array at y es → es' ≡ es
      → lay_expr names d (view_expr x) ≡ ((mark s.OpenBracket ++ mark s.CloseBracket) ++ lay_type names (view_type y)) ++ (mark s.OpenParen ++ lay_args names d (exprs_of (map view_expr es')) ++ mark s.CloseParen)
  array_is x at y es es' h i =
      let front : Layout = (mark s.OpenBracket ++ mark s.CloseBracket) ++ lay_type names (view_type y) in
      let args : Layout = lay_args names d (exprs_of (map view_expr es)) in
      rw (h, i, of_array at y es)
      (ap (λ (z : Layout). z ++ mark s.CloseParen) (append_assoc front (mark s.OpenParen) args)
      ∙ append_assoc front (mark s.OpenParen ++ args) (mark s.CloseParen))

  iso_is : (x : Expr) (at : Spot) (b : Block) → x ≡ e.Iso at b → lay_expr names d (view_expr x) ≡ (key w.Iso ++ gap) ++ lay_block names d (view_block b)
  iso_is x at b h = rw (h, of_iso at b) refl

  if_is : (x : Form) (at : Spot) (c : Expr) (b : Block) (es es' : List ElseIf) (o : Option Block) → x ≡ f.If at c b es o → es' ≡ es
      → lay_form names d (view_form x) ≡ ((((key w.If ++ after_word (view_expr c)) ++ lay_expr names d (view_expr c)) ++ gap) ++ lay_block names d (view_block b)) ++ (each (λ l. lay_else_if names d (view_else_if l)) es' ++ lay_elses names d (else_end (option_map view_block o)))
  if_is x at c b es es' o h i = rw (h, i, of_if at c b es o, laws.elses names d es o) refl

  pure_is : (x : Form) (at : Spot) (b : Block) → x ≡ f.Pure at b → lay_form names d (view_form x) ≡ (key w.Pure ++ gap) ++ lay_block names d (view_block b)
  pure_is x at b h = rw (h, of_pure at b) refl

  range_is : (x : Form) (at : Spot) (n : NameAt) (y z : Expr) (b : Block) → x ≡ f.ParallelRange at n y z b
      → lay_form names d (view_form x) ≡ ((((((key w.Parallel ++ gap) ++ (key w.Foreach ++ gap ++ named names n ++ around (key w.In))) ++ lay_expr names d (view_expr y)) ++ mark s.DotDot) ++ lay_expr names d (view_expr z)) ++ gap) ++ lay_block names d (view_block b)
  range_is x at n y z b h = rw (h, of_parallel_range at n y z b) refl

  each_is : (x : Form) (at : Spot) (n : NameAt) (y : Expr) (b : Block) → x ≡ f.ParallelEach at n y b
      → lay_form names d (view_form x) ≡ ((((key w.Parallel ++ gap) ++ (key w.Foreach ++ gap ++ named names n ++ around (key w.In))) ++ lay_expr names d (view_expr y)) ++ gap) ++ lay_block names d (view_block b)
  each_is x at n y b h = rw (h, of_parallel_each at n y b) refl

  foreach_is : (x : Stmt) (at : Spot) (n : NameAt) (y z : Expr) (b : Block) → x ≡ m.Foreach at n y z b
      → lay_stmt names d (view_stmt x) ≡ (((((key w.Foreach ++ gap ++ named names n ++ around (key w.In)) ++ lay_expr names d (view_expr y)) ++ mark s.DotDot) ++ lay_expr names d (view_expr z)) ++ gap) ++ lay_block names d (view_block b)
  foreach_is x at n y z b h = rw (h, of_foreach at n y z b) refl

  express_is : (x : Stmt) (y : Expr) → x ≡ m.Express y → lay_stmt names d (view_stmt x) ≡ lay_expr names d (view_expr y) ++ mark s.Semicolon
  express_is x y h = rw (h, of_express y) refl

  in_braces : (b : Block) (o : Option Expr) → (out-Block b).last ≡ o → lay_block names d (view_block b) ≡ ((mark s.OpenBrace ++ lay_stmts names (suc d) (stmts_of (map view_stmt (out-Block b).stmts) (option_map view_expr o))) ++ new_line d) ++ mark s.CloseBrace
  in_braces b o k =
      ap (lay_block names d) (laws.of_block b)
      ∙ ap (λ (z : Option Expr). ((mark s.OpenBrace ++ lay_stmts names (suc d) (stmts_of (map view_stmt (out-Block b).stmts) (option_map view_expr z))) ++ new_line d) ++ mark s.CloseBrace) k

  lined : (b : Block) (o : Option Expr) → (out-Block b).last ≡ o → lay_block names d (view_block b) ≡ ((mark s.OpenBrace ++ (each (λ l. new_line (suc d) ++ lay_stmt names (suc d) (view_stmt l)) (out-Block b).stmts ++ lay_stmts names (suc d) (last_end (option_map view_expr o)))) ++ new_line d) ++ mark s.CloseBrace
  lined b o k = in_braces b o k ∙ ap (λ (z : Layout). ((mark s.OpenBrace ++ z) ++ new_line d) ++ mark s.CloseBrace) (laws.stmts names (suc d) (out-Block b).stmts o)

  block_is : (b : Block) (i : ℕ) (ms : List Stmt) → i ≡ suc d → ms ≡ (out-Block b).stmts → (out-Block b).last ≡ None
      → lay_block names d (view_block b) ≡ (mark s.OpenBrace ++ each (λ l. new_line i ++ lay_stmt names i (view_stmt l)) ms) ++ (new_line d ++ mark s.CloseBrace)
  block_is b i ms h j k =
      subst (λ (z : ℕ). lay_block names d (view_block b) ≡ (mark s.OpenBrace ++ each (λ l. new_line z ++ lay_stmt names z (view_stmt l)) ms) ++ (new_line d ++ mark s.CloseBrace)) (sym h)
      (subst (λ (z : List Stmt). lay_block names d (view_block b) ≡ (mark s.OpenBrace ++ each (λ l. new_line (suc d) ++ lay_stmt names (suc d) (view_stmt l)) z) ++ (new_line d ++ mark s.CloseBrace)) (sym j)
      (lined b None k ∙ without (mark s.OpenBrace) (each (λ l. new_line (suc d) ++ lay_stmt names (suc d) (view_stmt l)) (out-Block b).stmts) (new_line d) (mark s.CloseBrace)))

  block_last_is : (b : Block) (i : ℕ) (ms : List Stmt) (y y' : Expr) → i ≡ suc d → ms ≡ (out-Block b).stmts → (out-Block b).last ≡ Some y → y' ≡ y
      → lay_block names d (view_block b) ≡ (((mark s.OpenBrace ++ each (λ l. new_line i ++ lay_stmt names i (view_stmt l)) ms) ++ new_line i) ++ lay_expr names i (view_expr y')) ++ (new_line d ++ mark s.CloseBrace)
  block_last_is b i ms y y' h j k n =
      subst (λ (z : ℕ). lay_block names d (view_block b) ≡ (((mark s.OpenBrace ++ each (λ l. new_line z ++ lay_stmt names z (view_stmt l)) ms) ++ new_line z) ++ lay_expr names z (view_expr y')) ++ (new_line d ++ mark s.CloseBrace)) (sym h)
      (subst (λ (z : List Stmt). lay_block names d (view_block b) ≡ (((mark s.OpenBrace ++ each (λ l. new_line (suc d) ++ lay_stmt names (suc d) (view_stmt l)) z) ++ new_line (suc d)) ++ lay_expr names (suc d) (view_expr y')) ++ (new_line d ++ mark s.CloseBrace)) (sym j)
      (subst (λ (z : Expr). lay_block names d (view_block b) ≡ (((mark s.OpenBrace ++ each (λ l. new_line (suc d) ++ lay_stmt names (suc d) (view_stmt l)) (out-Block b).stmts) ++ new_line (suc d)) ++ lay_expr names (suc d) (view_expr z)) ++ (new_line d ++ mark s.CloseBrace)) (sym n)
      (lined b (Some y) k ∙ with_last (mark s.OpenBrace) (each (λ l. new_line (suc d) ++ lay_stmt names (suc d) (view_stmt l)) (out-Block b).stmts) (new_line (suc d)) (lay_expr names (suc d) (view_expr y)) (new_line d) (mark s.CloseBrace))))

  else_if_is : (x : ElseIf) → lay_else_if names d (view_else_if x) ≡ ((((gap ++ key w.Else ++ gap ++ key w.If) ++ after_word (view_expr (out-ElseIf x).condition)) ++ lay_expr names d (view_expr (out-ElseIf x).condition)) ++ gap) ++ lay_block names d (view_block (out-ElseIf x).block)
  else_if_is x = ap (lay_else_if names d) (laws.of_else_if x)

  -- ---- what is added for each node
  pub chain_adds : (x y y' : Expr) (ls ls' : List Link) (a : List ℕ) {U E : Type 0} (r : Result U E) (t1 c : List ℕ)
      → x ≡ e.Chain y ls
      → y' ≡ y
      → ls' ≡ ls
      → t1 ≡ a ++ rendered (lay_expr names d (view_expr y'))
      → OnOk r (c ≡ t1 ++ rendered (each (λ l. lay_link names d (view_link l)) ls'))
      → OnOk r (c ≡ a ++ rendered (lay_expr names d (view_expr x)))
  chain_adds x y y' ls ls' a r t1 c h1 h2 h3 g1 g2 =
      finish (lay_expr names d (view_expr y')) (each (λ l. lay_link names d (view_link l)) ls') (lay_expr names d (view_expr x)) r a c (chain_is x y y' ls ls' h1 h2 h3) g1 g2

  pub unary_adds : (x y y' y'' : Expr) (at : Spot) (op : UnaryOp) (a : List ℕ) {U E : Type 0} (r : Result U E) (t1 c : List ℕ)
      → x ≡ e.Unary at op y
      → y' ≡ y
      → y'' ≡ y
      → t1 ≡ a ++ rendered ((put (unary_kind op) ++ after_unary op (view_expr y')))
      → OnOk r (c ≡ t1 ++ rendered (lay_expr names d (view_expr y'')))
      → OnOk r (c ≡ a ++ rendered (lay_expr names d (view_expr x)))
  unary_adds x y y' y'' at op a r t1 c h1 h2 h3 g1 g2 =
      finish ((put (unary_kind op) ++ after_unary op (view_expr y'))) (lay_expr names d (view_expr y'')) (lay_expr names d (view_expr x)) r a c (unary_is x y y' y'' at op h1 h2 h3) g1 g2

  pub steps_adds : (x y y' : Expr) (ss ss' : List Step) (a : List ℕ) {U E : Type 0} (r : Result U E) (t1 c : List ℕ)
      → x ≡ e.Steps y ss
      → y' ≡ y
      → ss' ≡ ss
      → t1 ≡ a ++ rendered (lay_expr names d (view_expr y'))
      → OnOk r (c ≡ t1 ++ rendered (each (λ l. lay_step names d (view_step l)) ss'))
      → OnOk r (c ≡ a ++ rendered (lay_expr names d (view_expr x)))
  steps_adds x y y' ss ss' a r t1 c h1 h2 h3 g1 g2 =
      finish (lay_expr names d (view_expr y')) (each (λ l. lay_step names d (view_step l)) ss') (lay_expr names d (view_expr x)) r a c (steps_is x y y' ss ss' h1 h2 h3) g1 g2

  pub call_adds : (x : Expr) (n : NameAt) (es es' : List Expr) (a : List ℕ) {U E : Type 0} (r : Result U E) (t1 c : List ℕ)
      → x ≡ e.Call n es
      → es' ≡ es
      → t1 ≡ a ++ rendered (named names n)
      → OnOk r (c ≡ t1 ++ rendered ((mark s.OpenParen ++ lay_args names d (exprs_of (map view_expr es')) ++ mark s.CloseParen)))
      → OnOk r (c ≡ a ++ rendered (lay_expr names d (view_expr x)))
  call_adds x n es es' a r t1 c h1 h2 g1 g2 =
      finish (named names n) ((mark s.OpenParen ++ lay_args names d (exprs_of (map view_expr es')) ++ mark s.CloseParen)) (lay_expr names d (view_expr x)) r a c (call_is x n es es' h1 h2) g1 g2

  pub paren_adds : (x y y' : Expr) (at : Spot) (a : List ℕ) {U E : Type 0} (r : Result U E) (t1 t2 c : List ℕ)
      → x ≡ e.Paren at y
      → y' ≡ y
      → t1 ≡ a ++ rendered (mark s.OpenParen)
      → t2 ≡ t1 ++ rendered (lay_expr names d (view_expr y'))
      → OnOk r (c ≡ t2 ++ rendered (mark s.CloseParen))
      → OnOk r (c ≡ a ++ rendered (lay_expr names d (view_expr x)))
  paren_adds x y y' at a r t1 t2 c h1 h2 g1 g2 g3 =
      finish ((mark s.OpenParen) ++ (lay_expr names d (view_expr y'))) (mark s.CloseParen) (lay_expr names d (view_expr x)) r a c (paren_is x y y' at h1 h2) (step (mark s.OpenParen) (lay_expr names d (view_expr y')) a g1 g2) g3

  pub array_adds : (x : Expr) (at : Spot) (y : TypeExpr) (es es' : List Expr) (a : List ℕ) {U E : Type 0} (r : Result U E) (t1 t2 c : List ℕ)
      → x ≡ e.Array at y es
      → es' ≡ es
      → t1 ≡ a ++ rendered (mark s.OpenBracket ++ mark s.CloseBracket)
      → t2 ≡ t1 ++ rendered (lay_type names (view_type y))
      → OnOk r (c ≡ t2 ++ rendered ((mark s.OpenParen ++ lay_args names d (exprs_of (map view_expr es')) ++ mark s.CloseParen)))
      → OnOk r (c ≡ a ++ rendered (lay_expr names d (view_expr x)))
  array_adds x at y es es' a r t1 t2 c h1 h2 g1 g2 g3 =
      finish ((mark s.OpenBracket ++ mark s.CloseBracket) ++ (lay_type names (view_type y))) ((mark s.OpenParen ++ lay_args names d (exprs_of (map view_expr es')) ++ mark s.CloseParen)) (lay_expr names d (view_expr x)) r a c (array_is x at y es es' h1 h2) (step (mark s.OpenBracket ++ mark s.CloseBracket) (lay_type names (view_type y)) a g1 g2) g3

  pub iso_adds : (x : Expr) (at : Spot) (b : Block) (a : List ℕ) {U E : Type 0} (r : Result U E) (t1 c : List ℕ)
      → x ≡ e.Iso at b
      → t1 ≡ a ++ rendered (key w.Iso ++ gap)
      → OnOk r (c ≡ t1 ++ rendered (lay_block names d (view_block b)))
      → OnOk r (c ≡ a ++ rendered (lay_expr names d (view_expr x)))
  iso_adds x at b a r t1 c h1 g1 g2 =
      finish (key w.Iso ++ gap) (lay_block names d (view_block b)) (lay_expr names d (view_expr x)) r a c (iso_is x at b h1) g1 g2

  pub pure_adds : (x : Form) (at : Spot) (b : Block) (a : List ℕ) {U E : Type 0} (r : Result U E) (t1 c : List ℕ)
      → x ≡ f.Pure at b
      → t1 ≡ a ++ rendered (key w.Pure ++ gap)
      → OnOk r (c ≡ t1 ++ rendered (lay_block names d (view_block b)))
      → OnOk r (c ≡ a ++ rendered (lay_form names d (view_form x)))
  pure_adds x at b a r t1 c h1 g1 g2 =
      finish (key w.Pure ++ gap) (lay_block names d (view_block b)) (lay_form names d (view_form x)) r a c (pure_is x at b h1) g1 g2

  pub range_adds : (x : Form) (at : Spot) (n : NameAt) (y z : Expr) (b : Block) (a : List ℕ) {U E : Type 0} (r : Result U E) (t1 t2 t3 t4 t5 t6 c : List ℕ)
      → x ≡ f.ParallelRange at n y z b
      → t1 ≡ a ++ rendered (key w.Parallel ++ gap)
      → t2 ≡ t1 ++ rendered ((key w.Foreach ++ gap ++ named names n ++ around (key w.In)))
      → t3 ≡ t2 ++ rendered (lay_expr names d (view_expr y))
      → t4 ≡ t3 ++ rendered (mark s.DotDot)
      → t5 ≡ t4 ++ rendered (lay_expr names d (view_expr z))
      → t6 ≡ t5 ++ rendered (gap)
      → OnOk r (c ≡ t6 ++ rendered (lay_block names d (view_block b)))
      → OnOk r (c ≡ a ++ rendered (lay_form names d (view_form x)))
  range_adds x at n y z b a r t1 t2 t3 t4 t5 t6 c h1 g1 g2 g3 g4 g5 g6 g7 =
      finish ((((((key w.Parallel ++ gap) ++ ((key w.Foreach ++ gap ++ named names n ++ around (key w.In)))) ++ (lay_expr names d (view_expr y))) ++ (mark s.DotDot)) ++ (lay_expr names d (view_expr z))) ++ (gap)) (lay_block names d (view_block b)) (lay_form names d (view_form x)) r a c (range_is x at n y z b h1) (step (((((key w.Parallel ++ gap) ++ ((key w.Foreach ++ gap ++ named names n ++ around (key w.In)))) ++ (lay_expr names d (view_expr y))) ++ (mark s.DotDot)) ++ (lay_expr names d (view_expr z))) (gap) a (step ((((key w.Parallel ++ gap) ++ ((key w.Foreach ++ gap ++ named names n ++ around (key w.In)))) ++ (lay_expr names d (view_expr y))) ++ (mark s.DotDot)) (lay_expr names d (view_expr z)) a (step (((key w.Parallel ++ gap) ++ ((key w.Foreach ++ gap ++ named names n ++ around (key w.In)))) ++ (lay_expr names d (view_expr y))) (mark s.DotDot) a (step ((key w.Parallel ++ gap) ++ ((key w.Foreach ++ gap ++ named names n ++ around (key w.In)))) (lay_expr names d (view_expr y)) a (step (key w.Parallel ++ gap) ((key w.Foreach ++ gap ++ named names n ++ around (key w.In))) a g1 g2) g3) g4) g5) g6) g7

  pub each_adds : (x : Form) (at : Spot) (n : NameAt) (y : Expr) (b : Block) (a : List ℕ) {U E : Type 0} (r : Result U E) (t1 t2 t3 t4 c : List ℕ)
      → x ≡ f.ParallelEach at n y b
      → t1 ≡ a ++ rendered (key w.Parallel ++ gap)
      → t2 ≡ t1 ++ rendered ((key w.Foreach ++ gap ++ named names n ++ around (key w.In)))
      → t3 ≡ t2 ++ rendered (lay_expr names d (view_expr y))
      → t4 ≡ t3 ++ rendered (gap)
      → OnOk r (c ≡ t4 ++ rendered (lay_block names d (view_block b)))
      → OnOk r (c ≡ a ++ rendered (lay_form names d (view_form x)))
  each_adds x at n y b a r t1 t2 t3 t4 c h1 g1 g2 g3 g4 g5 =
      finish ((((key w.Parallel ++ gap) ++ ((key w.Foreach ++ gap ++ named names n ++ around (key w.In)))) ++ (lay_expr names d (view_expr y))) ++ (gap)) (lay_block names d (view_block b)) (lay_form names d (view_form x)) r a c (each_is x at n y b h1) (step (((key w.Parallel ++ gap) ++ ((key w.Foreach ++ gap ++ named names n ++ around (key w.In)))) ++ (lay_expr names d (view_expr y))) (gap) a (step ((key w.Parallel ++ gap) ++ ((key w.Foreach ++ gap ++ named names n ++ around (key w.In)))) (lay_expr names d (view_expr y)) a (step (key w.Parallel ++ gap) ((key w.Foreach ++ gap ++ named names n ++ around (key w.In))) a g1 g2) g3) g4) g5

  pub foreach_adds : (x : Stmt) (at : Spot) (n : NameAt) (y z : Expr) (b : Block) (a : List ℕ) {U E : Type 0} (r : Result U E) (t1 t2 t3 t4 t5 c : List ℕ)
      → x ≡ m.Foreach at n y z b
      → t1 ≡ a ++ rendered ((key w.Foreach ++ gap ++ named names n ++ around (key w.In)))
      → t2 ≡ t1 ++ rendered (lay_expr names d (view_expr y))
      → t3 ≡ t2 ++ rendered (mark s.DotDot)
      → t4 ≡ t3 ++ rendered (lay_expr names d (view_expr z))
      → t5 ≡ t4 ++ rendered (gap)
      → OnOk r (c ≡ t5 ++ rendered (lay_block names d (view_block b)))
      → OnOk r (c ≡ a ++ rendered (lay_stmt names d (view_stmt x)))
  foreach_adds x at n y z b a r t1 t2 t3 t4 t5 c h1 g1 g2 g3 g4 g5 g6 =
      finish ((((((key w.Foreach ++ gap ++ named names n ++ around (key w.In))) ++ (lay_expr names d (view_expr y))) ++ (mark s.DotDot)) ++ (lay_expr names d (view_expr z))) ++ (gap)) (lay_block names d (view_block b)) (lay_stmt names d (view_stmt x)) r a c (foreach_is x at n y z b h1) (step (((((key w.Foreach ++ gap ++ named names n ++ around (key w.In))) ++ (lay_expr names d (view_expr y))) ++ (mark s.DotDot)) ++ (lay_expr names d (view_expr z))) (gap) a (step ((((key w.Foreach ++ gap ++ named names n ++ around (key w.In))) ++ (lay_expr names d (view_expr y))) ++ (mark s.DotDot)) (lay_expr names d (view_expr z)) a (step (((key w.Foreach ++ gap ++ named names n ++ around (key w.In))) ++ (lay_expr names d (view_expr y))) (mark s.DotDot) a (step ((key w.Foreach ++ gap ++ named names n ++ around (key w.In))) (lay_expr names d (view_expr y)) a g1 g2) g3) g4) g5) g6

  pub express_adds : (x : Stmt) (y : Expr) (a : List ℕ) {U E : Type 0} (r : Result U E) (t1 c : List ℕ)
      → x ≡ m.Express y
      → t1 ≡ a ++ rendered (lay_expr names d (view_expr y))
      → OnOk r (c ≡ t1 ++ rendered (mark s.Semicolon))
      → OnOk r (c ≡ a ++ rendered (lay_stmt names d (view_stmt x)))
  express_adds x y a r t1 c h1 g1 g2 =
      finish (lay_expr names d (view_expr y)) (mark s.Semicolon) (lay_stmt names d (view_stmt x)) r a c (express_is x y h1) g1 g2

  pub block_adds : (b : Block) (i : ℕ) (ms : List Stmt) (a : List ℕ) {U E : Type 0} (r : Result U E) (t1 t2 c : List ℕ)
      → i ≡ suc d
      → ms ≡ (out-Block b).stmts
      → (out-Block b).last ≡ None
      → t1 ≡ a ++ rendered (mark s.OpenBrace)
      → t2 ≡ t1 ++ rendered (each (λ l. new_line i ++ lay_stmt names i (view_stmt l)) ms)
      → OnOk r (c ≡ t2 ++ rendered (new_line d ++ mark s.CloseBrace))
      → OnOk r (c ≡ a ++ rendered (lay_block names d (view_block b)))
  block_adds b i ms a r t1 t2 c h1 h2 h3 g1 g2 g3 =
      finish ((mark s.OpenBrace) ++ (each (λ l. new_line i ++ lay_stmt names i (view_stmt l)) ms)) (new_line d ++ mark s.CloseBrace) (lay_block names d (view_block b)) r a c (block_is b i ms h1 h2 h3) (step (mark s.OpenBrace) (each (λ l. new_line i ++ lay_stmt names i (view_stmt l)) ms) a g1 g2) g3

  pub block_last_adds : (b : Block) (i : ℕ) (ms : List Stmt) (y y' : Expr) (a : List ℕ) {U E : Type 0} (r : Result U E) (t1 t2 t3 t4 c : List ℕ)
      → i ≡ suc d
      → ms ≡ (out-Block b).stmts
      → (out-Block b).last ≡ Some y
      → y' ≡ y
      → t1 ≡ a ++ rendered (mark s.OpenBrace)
      → t2 ≡ t1 ++ rendered (each (λ l. new_line i ++ lay_stmt names i (view_stmt l)) ms)
      → t3 ≡ t2 ++ rendered (new_line i)
      → t4 ≡ t3 ++ rendered (lay_expr names i (view_expr y'))
      → OnOk r (c ≡ t4 ++ rendered (new_line d ++ mark s.CloseBrace))
      → OnOk r (c ≡ a ++ rendered (lay_block names d (view_block b)))
  block_last_adds b i ms y y' a r t1 t2 t3 t4 c h1 h2 h3 h4 g1 g2 g3 g4 g5 =
      finish ((((mark s.OpenBrace) ++ (each (λ l. new_line i ++ lay_stmt names i (view_stmt l)) ms)) ++ (new_line i)) ++ (lay_expr names i (view_expr y'))) (new_line d ++ mark s.CloseBrace) (lay_block names d (view_block b)) r a c (block_last_is b i ms y y' h1 h2 h3 h4) (step (((mark s.OpenBrace) ++ (each (λ l. new_line i ++ lay_stmt names i (view_stmt l)) ms)) ++ (new_line i)) (lay_expr names i (view_expr y')) a (step ((mark s.OpenBrace) ++ (each (λ l. new_line i ++ lay_stmt names i (view_stmt l)) ms)) (new_line i) a (step (mark s.OpenBrace) (each (λ l. new_line i ++ lay_stmt names i (view_stmt l)) ms) a g1 g2) g3) g4) g5

  pub else_if_adds : (x : ElseIf) (a : List ℕ) {U E : Type 0} (r : Result U E) (t1 t2 t3 t4 c : List ℕ)
      → t1 ≡ a ++ rendered (gap ++ key w.Else ++ gap ++ key w.If)
      → t2 ≡ t1 ++ rendered (after_word (view_expr (out-ElseIf x).condition))
      → t3 ≡ t2 ++ rendered (lay_expr names d (view_expr (out-ElseIf x).condition))
      → t4 ≡ t3 ++ rendered (gap)
      → OnOk r (c ≡ t4 ++ rendered (lay_block names d (view_block (out-ElseIf x).block)))
      → OnOk r (c ≡ a ++ rendered (lay_else_if names d (view_else_if x)))
  else_if_adds x a r t1 t2 t3 t4 c g1 g2 g3 g4 g5 =
      finish ((((gap ++ key w.Else ++ gap ++ key w.If) ++ (after_word (view_expr (out-ElseIf x).condition))) ++ (lay_expr names d (view_expr (out-ElseIf x).condition))) ++ (gap)) (lay_block names d (view_block (out-ElseIf x).block)) (lay_else_if names d (view_else_if x)) r a c (else_if_is x) (step (((gap ++ key w.Else ++ gap ++ key w.If) ++ (after_word (view_expr (out-ElseIf x).condition))) ++ (lay_expr names d (view_expr (out-ElseIf x).condition))) (gap) a (step ((gap ++ key w.Else ++ gap ++ key w.If) ++ (after_word (view_expr (out-ElseIf x).condition))) (lay_expr names d (view_expr (out-ElseIf x).condition)) a (step (gap ++ key w.Else ++ gap ++ key w.If) (after_word (view_expr (out-ElseIf x).condition)) a g1 g2) g3) g4) g5

  pub if_adds : (x : Form) (at : Spot) (c : Expr) (b : Block) (es es' : List ElseIf) (o : Option Block) (a t1 t2 t3 t4 t5 t6 : List ℕ)
      → x ≡ f.If at c b es o
      → es' ≡ es
      → o ≡ None
      → t1 ≡ a ++ rendered (key w.If)
      → t2 ≡ t1 ++ rendered (after_word (view_expr c))
      → t3 ≡ t2 ++ rendered (lay_expr names d (view_expr c))
      → t4 ≡ t3 ++ rendered (gap)
      → t5 ≡ t4 ++ rendered (lay_block names d (view_block b))
      → t6 ≡ t5 ++ rendered (each (λ l. lay_else_if names d (view_else_if l)) es')
      → t6 ≡ a ++ rendered (lay_form names d (view_form x))
  if_adds x at c b es es' o a t1 t2 t3 t4 t5 t6 h1 h2 h3 g1 g2 g3 g4 g5 g6 =
      (step (((((key w.If) ++ (after_word (view_expr c))) ++ (lay_expr names d (view_expr c))) ++ (gap)) ++ (lay_block names d (view_block b))) (each (λ l. lay_else_if names d (view_else_if l)) es') a (step ((((key w.If) ++ (after_word (view_expr c))) ++ (lay_expr names d (view_expr c))) ++ (gap)) (lay_block names d (view_block b)) a (step (((key w.If) ++ (after_word (view_expr c))) ++ (lay_expr names d (view_expr c))) (gap) a (step ((key w.If) ++ (after_word (view_expr c))) (lay_expr names d (view_expr c)) a (step (key w.If) (after_word (view_expr c)) a g1 g2) g3) g4) g5) g6)
      ∙ ap (λ (z : Layout). a ++ rendered z) (sym (if_is x at c b es es' o h1 h2 ∙ ap (λ (z : Option Block). (((((key w.If) ++ (after_word (view_expr c))) ++ (lay_expr names d (view_expr c))) ++ (gap)) ++ (lay_block names d (view_block b))) ++ ((each (λ l. lay_else_if names d (view_else_if l)) es') ++ lay_elses names d (else_end (option_map view_block z)))) h3 ∙ ap (λ (z : Layout). (((((key w.If) ++ (after_word (view_expr c))) ++ (lay_expr names d (view_expr c))) ++ (gap)) ++ (lay_block names d (view_block b))) ++ z) (append-nil (each (λ l. lay_else_if names d (view_else_if l)) es'))))

  pub if_else_adds : (x : Form) (at : Spot) (c : Expr) (b b' : Block) (es es' : List ElseIf) (o : Option Block) (a : List ℕ) {U E : Type 0} (r : Result U E) (t1 t2 t3 t4 t5 t6 t7 t8 t9 : List ℕ)
      → x ≡ f.If at c b es o
      → es' ≡ es
      → o ≡ Some b'
      → t1 ≡ a ++ rendered (key w.If)
      → t2 ≡ t1 ++ rendered (after_word (view_expr c))
      → t3 ≡ t2 ++ rendered (lay_expr names d (view_expr c))
      → t4 ≡ t3 ++ rendered (gap)
      → t5 ≡ t4 ++ rendered (lay_block names d (view_block b))
      → t6 ≡ t5 ++ rendered (each (λ l. lay_else_if names d (view_else_if l)) es')
      → t7 ≡ t6 ++ rendered (gap)
      → t8 ≡ t7 ++ rendered (key w.Else ++ gap)
      → OnOk r (t9 ≡ t8 ++ rendered (lay_block names d (view_block b')))
      → OnOk r (t9 ≡ a ++ rendered (lay_form names d (view_form x)))
  if_else_adds x at c b b' es es' o a r t1 t2 t3 t4 t5 t6 t7 t8 t9 h1 h2 h3 g1 g2 g3 g4 g5 g6 g7 g8 g9 =
      finish ((((((((key w.If) ++ (after_word (view_expr c))) ++ (lay_expr names d (view_expr c))) ++ (gap)) ++ (lay_block names d (view_block b))) ++ (each (λ l. lay_else_if names d (view_else_if l)) es')) ++ (gap)) ++ (key w.Else ++ gap)) (lay_block names d (view_block b')) (lay_form names d (view_form x)) r a t9
      (if_is x at c b es es' o h1 h2 ∙ ap (λ (z : Option Block). (((((key w.If) ++ (after_word (view_expr c))) ++ (lay_expr names d (view_expr c))) ++ (gap)) ++ (lay_block names d (view_block b))) ++ ((each (λ l. lay_else_if names d (view_else_if l)) es') ++ lay_elses names d (else_end (option_map view_block z)))) h3 ∙ with_else (((((key w.If) ++ (after_word (view_expr c))) ++ (lay_expr names d (view_expr c))) ++ (gap)) ++ (lay_block names d (view_block b))) (each (λ l. lay_else_if names d (view_else_if l)) es') gap (key w.Else) gap (lay_block names d (view_block b')))
      (step (((((((key w.If) ++ (after_word (view_expr c))) ++ (lay_expr names d (view_expr c))) ++ (gap)) ++ (lay_block names d (view_block b))) ++ (each (λ l. lay_else_if names d (view_else_if l)) es')) ++ (gap)) (key w.Else ++ gap) a (step ((((((key w.If) ++ (after_word (view_expr c))) ++ (lay_expr names d (view_expr c))) ++ (gap)) ++ (lay_block names d (view_block b))) ++ (each (λ l. lay_else_if names d (view_else_if l)) es')) (gap) a (step (((((key w.If) ++ (after_word (view_expr c))) ++ (lay_expr names d (view_expr c))) ++ (gap)) ++ (lay_block names d (view_block b))) (each (λ l. lay_else_if names d (view_else_if l)) es') a (step ((((key w.If) ++ (after_word (view_expr c))) ++ (lay_expr names d (view_expr c))) ++ (gap)) (lay_block names d (view_block b)) a (step (((key w.If) ++ (after_word (view_expr c))) ++ (lay_expr names d (view_expr c))) (gap) a (step ((key w.If) ++ (after_word (view_expr c))) (lay_expr names d (view_expr c)) a (step (key w.If) (after_word (view_expr c)) a g1 g2) g3) g4) g5) g6) g7) g8) g9

  pub parens_adds : (xs : List Expr) (a : List ℕ) {U E : Type 0} (r : Result U E) (t1 t2 c : List ℕ)
      → t1 ≡ a ++ rendered (mark s.OpenParen)
      → t2 ≡ t1 ++ rendered (with_commas (λ x. lay_expr names d (view_expr x)) xs)
      → OnOk r (c ≡ t2 ++ rendered (mark s.CloseParen))
      → OnOk r (c ≡ a ++ rendered (mark s.OpenParen ++ lay_args names d (exprs_of (map view_expr xs)) ++ mark s.CloseParen))
  parens_adds xs a r t1 t2 c g1 g2 g3 =
      let list : Layout = with_commas (λ x. lay_expr names d (view_expr x)) xs in
      finish (mark s.OpenParen ++ list) (mark s.CloseParen) (mark s.OpenParen ++ lay_args names d (exprs_of (map view_expr xs)) ++ mark s.CloseParen) r a c
      (ap (λ (z : Layout). mark s.OpenParen ++ z ++ mark s.CloseParen) (laws.args names d xs))
      (step (mark s.OpenParen) list a g1 g2) g3
