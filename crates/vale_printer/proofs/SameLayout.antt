-- The layout of a tree says nothing of its spots.
use Rattle.std.proofs.Common.{◌≡◌, ℕ, suc, List, [], ◌∷◌, ◌++◌, Option, None, Some, refl, ap}
use Rattle.std.specs.Prelude.{map, option_map}
use Rattle.vale_base.specs.declared.spot.Spot.{Spot}
use Rattle.vale_syntax.specs.declared.token.Sign.TheVariants as s
use Rattle.vale_syntax.specs.declared.token.Word.TheVariants as w
use Rattle.vale_syntax.specs.declared.tree.UnaryOp.{UnaryOp}
use Rattle.vale_syntax.specs.declared.tree.UnaryOp.TheVariants as u
use Rattle.vale_syntax.specs.Layout.{Layout, mark, key, gap, new_line, around, optional, each, with_commas, after_word, after_unary, opens, named, lay_type, lay_expr, lay_args, lay_more_args, lay_links, lay_step, lay_steps, lay_form, lay_else_if, lay_elses, lay_block, lay_stmts, lay_stmt, lay_param, lay_head, lay_function, lay_field, lay_members, lay_item}
use Rattle.vale_syntax.specs.Tree.{TypeExpr, int_type, bool_type, str_type, named_type, array_type, ref_type, imm_ref_type, iso_type, Expr, set, chain, unary, steps, number, quote, truth, name, call, paren, array, iso, form, Exprs, no_exprs, more_exprs, link, Links, no_links, more_links, Step, field, method, index, Steps, no_steps, more_steps, Form, branch, pure, parallel_range, parallel_each, ElseIf, else_if, Elses, no_else, otherwise, more_elses, Block, block, Stmt, declare, destructure, return_nothing, return_value, while, foreach, form_stmt, express, Stmts, no_stmts, last, more_stmts, Param, param, Head, head, Function, function, FieldDecl, field_decl, Item, struct_item, interface_item, impl_item, function_item, Tree, tree}
use Rattle.vale_syntax.specs.Canon.{canon, rendered}
use Rattle.vale_syntax.specs.Moved.{moved_name, moved_type, moved_expr, moved_exprs, moved_links, moved_step, moved_steps, moved_form, moved_else_if, moved_elses, moved_block, moved_stmts, moved_stmt, moved_param, moved_head, moved_function, moved_field, moved_item, moved_tree}

eachs : {X : Type 0} (p : X → Layout) (move : X → X) → ((x : X) → p (move x) ≡ p x) → (xs : List X) → each p (map move xs) ≡ each p xs
eachs p move h [] = refl
eachs p move h (x ∷ xs) = rw (h x, eachs p move h xs) refl

commas : {X : Type 0} (p : X → Layout) (move : X → X) → ((x : X) → p (move x) ≡ p x) → (xs : List X) → with_commas p (map move xs) ≡ with_commas p xs
commas p move h [] = refl
commas p move h (x ∷ xs) = rw (h x, eachs (λ y. mark s.Comma ++ gap ++ p y) move (λ y. ap (λ (z : Layout). mark s.Comma ++ gap ++ z) (h y)) xs) refl

module _ (to : Spot → Spot) where
  opens_same : (e : Expr) → opens (moved_expr to e) ≡ opens e
  opens_same (paren at e) = refl
  opens_same (chain e ls) = opens_same e
  opens_same (steps e ss) = opens_same e
  opens_same _ = refl

  word_same : (e : Expr) → after_word (moved_expr to e) ≡ after_word e
  word_same e = rw (opens_same e) refl

  unary_same : (op : UnaryOp) (e : Expr) → after_unary op (moved_expr to e) ≡ after_unary op e
  unary_same u.Minus e = refl
  unary_same u.Borrow e = refl
  unary_same u.Not e = word_same e
  unary_same u.Merge e = word_same e

  module _ (names : List (List ℕ)) where
    type_same : (x : TypeExpr) → lay_type names (moved_type to x) ≡ lay_type names x
    type_same (int_type at) = refl
    type_same (bool_type at) = refl
    type_same (str_type at) = refl
    type_same (named_type n) = refl
    type_same (array_type at x) = rw (type_same x) refl
    type_same (ref_type at x) = rw (type_same x) refl
    type_same (imm_ref_type at x) = rw (type_same x) refl
    type_same (iso_type at x) = rw (type_same x) refl

    mutual
      expr_same : (d : ℕ) (e : Expr) → lay_expr names d (moved_expr to e) ≡ lay_expr names d e
      expr_same d (set at p e) = rw (word_same p, expr_same d p, expr_same d e) refl
      expr_same d (chain e ls) = rw (expr_same d e, links_same d ls) refl
      expr_same d (unary at op e) = rw (unary_same op e, expr_same d e) refl
      expr_same d (steps e ss) = rw (expr_same d e, steps_same d ss) refl
      expr_same d (number at n) = refl
      expr_same d (quote at text) = refl
      expr_same d (truth at b) = refl
      expr_same d (name n) = refl
      expr_same d (call n es) = rw (args_same d es) refl
      expr_same d (paren at e) = rw (expr_same d e) refl
      expr_same d (array at x es) = rw (type_same x, args_same d es) refl
      expr_same d (iso at b) = rw (block_same d b) refl
      expr_same d (form f) = form_same d f

      args_same : (d : ℕ) (es : Exprs) → lay_args names d (moved_exprs to es) ≡ lay_args names d es
      args_same d no_exprs = refl
      args_same d (more_exprs e es) = rw (expr_same d e, more_args_same d es) refl

      more_args_same : (d : ℕ) (es : Exprs) → lay_more_args names d (moved_exprs to es) ≡ lay_more_args names d es
      more_args_same d no_exprs = refl
      more_args_same d (more_exprs e es) = rw (expr_same d e, more_args_same d es) refl

      links_same : (d : ℕ) (ls : Links) → lay_links names d (moved_links to ls) ≡ lay_links names d ls
      links_same d no_links = refl
      links_same d (more_links (link at op e) ls) = rw (expr_same d e, links_same d ls) refl

      step_same : (d : ℕ) (x : Step) → lay_step names d (moved_step to x) ≡ lay_step names d x
      step_same d (field at n) = refl
      step_same d (method at n es) = rw (args_same d es) refl
      step_same d (index at e) = rw (expr_same d e) refl

      steps_same : (d : ℕ) (ss : Steps) → lay_steps names d (moved_steps to ss) ≡ lay_steps names d ss
      steps_same d no_steps = refl
      steps_same d (more_steps x ss) = rw (step_same d x, steps_same d ss) refl

      form_same : (d : ℕ) (f : Form) → lay_form names d (moved_form to f) ≡ lay_form names d f
      form_same d (branch at c b es) = rw (word_same c, expr_same d c, block_same d b, elses_same d es) refl
      form_same d (pure at b) = rw (block_same d b) refl
      form_same d (parallel_range at n a e b) = rw (expr_same d a, expr_same d e, block_same d b) refl
      form_same d (parallel_each at n e b) = rw (expr_same d e, block_same d b) refl

      else_if_same : (d : ℕ) (x : ElseIf) → lay_else_if names d (moved_else_if to x) ≡ lay_else_if names d x
      else_if_same d (else_if at c b) = rw (word_same c, expr_same d c, block_same d b) refl

      elses_same : (d : ℕ) (es : Elses) → lay_elses names d (moved_elses to es) ≡ lay_elses names d es
      elses_same d no_else = refl
      elses_same d (otherwise b) = rw (block_same d b) refl
      elses_same d (more_elses x es) = rw (else_if_same d x, elses_same d es) refl

      block_same : (d : ℕ) (b : Block) → lay_block names d (moved_block to b) ≡ lay_block names d b
      block_same d (block at end ss) = rw (stmts_same (suc d) ss) refl

      stmts_same : (d : ℕ) (ss : Stmts) → lay_stmts names d (moved_stmts to ss) ≡ lay_stmts names d ss
      stmts_same d no_stmts = refl
      stmts_same d (last e) = rw (expr_same d e) refl
      stmts_same d (more_stmts x xs) = rw (stmt_same d x, stmts_same d xs) refl

      stmt_same : (d : ℕ) (x : Stmt) → lay_stmt names d (moved_stmt to x) ≡ lay_stmt names d x
      stmt_same d (declare n e) = rw (expr_same d e) refl
      stmt_same d (destructure at ns e) = rw (commas (named names) (moved_name to) (λ n. refl) ns, expr_same d e) refl
      stmt_same d (return_nothing at) = refl
      stmt_same d (return_value at e) = rw (word_same e, expr_same d e) refl
      stmt_same d (while at c b) = rw (word_same c, expr_same d c, block_same d b) refl
      stmt_same d (foreach at n a e b) = rw (expr_same d a, expr_same d e, block_same d b) refl
      stmt_same d (form_stmt f) = form_same d f
      stmt_same d (express e) = rw (expr_same d e) refl

    param_same : (x : Param) → lay_param names (moved_param to x) ≡ lay_param names x
    param_same (param n x) = rw (type_same x) refl

    result_same : (x : Option TypeExpr) → optional (λ x. gap ++ lay_type names x) (option_map (moved_type to) x) ≡ optional (λ x. gap ++ lay_type names x) x
    result_same None = refl
    result_same (Some x) = rw (type_same x) refl

    head_same : (h : Head) → lay_head names (moved_head to h) ≡ lay_head names h
    head_same (head p n ps x) = rw (commas (lay_param names) (moved_param to) param_same ps, result_same x) refl

    function_same : (d : ℕ) (f : Function) → lay_function names d (moved_function to f) ≡ lay_function names d f
    function_same d (function h b) = rw (head_same h, block_same d b) refl

    field_same : (f : FieldDecl) → lay_field names (moved_field to f) ≡ lay_field names f
    field_same (field_decl n may_be_set x) = rw (type_same x) refl

    members_same : {X : Type 0} (p : X → Layout) (move : X → X) → ((x : X) → p (move x) ≡ p x) → (xs : List X) → lay_members names p (map move xs) ≡ lay_members names p xs
    members_same p move h xs = rw (eachs (λ x. new_line 1 ++ p x) move (λ x. ap (λ (z : Layout). new_line 1 ++ z) (h x)) xs) refl

    item_same : (x : Item) → lay_item names (moved_item to x) ≡ lay_item names x
    item_same (struct_item n fs) = ap (λ (z : Layout). key w.Struct ++ gap ++ named names n ++ gap ++ z) (members_same (lay_field names) (moved_field to) field_same fs)
    item_same (interface_item n hs) = ap (λ (z : Layout). key w.Interface ++ gap ++ named names n ++ gap ++ z) (members_same (λ h. lay_head names h ++ mark s.Semicolon) (moved_head to) (λ h. ap (λ (z : Layout). z ++ mark s.Semicolon) (head_same h)) hs)
    item_same (impl_item at i n fs) = ap (λ (z : Layout). key w.Impl ++ gap ++ named names i ++ around (key w.For) ++ named names n ++ gap ++ z) (members_same (lay_function names 1) (moved_function to) (function_same 1) fs)
    item_same (function_item f) = function_same 0 f

  -- the canonical text is the same, wherever the tree's nodes stood
  pub canon_moved : (t : Tree) → canon (moved_tree to t) ≡ canon t
  canon_moved (tree names items) = ap rendered (eachs (λ x. lay_item names x ++ new_line 0) (moved_item to) (λ x. ap (λ (z : Layout). z ++ new_line 0) (item_same names x)) items)
