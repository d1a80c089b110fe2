-- The layouts of lists, by those of their elements.
use Rattle.std.proofs.Common.{◌≡◌, ℕ, List, [], ◌∷◌, ◌++◌, Option, refl, sym, ap, ◌∙◌, append_assoc, rules}
use Rattle.std.specs.Prelude.{map, option_map}
use Rattle.vale_syntax.specs.declared.token.Sign.TheVariants as s
use Rattle.vale_syntax.specs.declared.tree.Expr.{Expr, the_lemmas}
use Rattle.vale_syntax.specs.declared.tree.Link.{Link, out-Link}
use Rattle.vale_syntax.specs.declared.tree.Step.{Step}
use Rattle.vale_syntax.specs.declared.tree.Stmt.{Stmt}
use Rattle.vale_syntax.specs.declared.tree.Block.{Block, out-Block}
use Rattle.vale_syntax.specs.declared.tree.ElseIf.{ElseIf, out-ElseIf}
use Rattle.vale_syntax.specs.Layout.{Layout, mark, gap, new_line, each, with_commas, lay_expr, lay_args, lay_more_args, lay_link, lay_links, lay_step, lay_steps, lay_else_if, lay_elses, lay_stmt, lay_stmts}
use Rattle.vale_syntax.specs.Tree as t
use Rattle.vale_syntax.specs.View.{exprs_of, links_of, steps_of, elses_of, stmts_of, else_end, last_end, view_expr, view_step, view_stmt, view_block, view_else_if, view_link}

pub of_link : (x : Link) → view_link x ≡ t.link (out-Link x).at (out-Link x).op (view_expr (out-Link x).operand)
of_link x = search (rules, the_lemmas)

pub of_else_if : (x : ElseIf) → view_else_if x ≡ t.else_if (out-ElseIf x).at (view_expr (out-ElseIf x).condition) (view_block (out-ElseIf x).block)
of_else_if x = search (rules, the_lemmas)

pub of_block : (x : Block) → view_block x ≡ t.block (out-Block x).at (out-Block x).end (stmts_of (map view_stmt (out-Block x).stmts) (option_map view_expr (out-Block x).last))
of_block x = search (rules, the_lemmas)

module _ (names : List (List ℕ)) (d : ℕ) where
  pub links : (xs : List Link) → lay_links names d (links_of (map view_link xs)) ≡ each (λ x. lay_link names d (view_link x)) xs
  links [] = refl
  links (x ∷ xs) = ap (λ (z : Layout). lay_link names d (view_link x) ++ z) (links xs)

  pub steps : (xs : List Step) → lay_steps names d (steps_of (map view_step xs)) ≡ each (λ x. lay_step names d (view_step x)) xs
  steps [] = refl
  steps (x ∷ xs) = ap (λ (z : Layout). lay_step names d (view_step x) ++ z) (steps xs)

  pub elses : (xs : List ElseIf) (o : Option Block) → lay_elses names d (elses_of (map view_else_if xs) (option_map view_block o)) ≡ each (λ x. lay_else_if names d (view_else_if x)) xs ++ lay_elses names d (else_end (option_map view_block o))
  elses [] o = refl
  elses (x ∷ xs) o = ap (λ (z : Layout). lay_else_if names d (view_else_if x) ++ z) (elses xs o) ∙ sym (append_assoc (lay_else_if names d (view_else_if x)) (each (λ y. lay_else_if names d (view_else_if y)) xs) (lay_elses names d (else_end (option_map view_block o))))

  pub stmts : (xs : List Stmt) (o : Option Expr) → lay_stmts names d (stmts_of (map view_stmt xs) (option_map view_expr o)) ≡ each (λ x. new_line d ++ lay_stmt names d (view_stmt x)) xs ++ lay_stmts names d (last_end (option_map view_expr o))
  stmts [] o = refl
  stmts (x ∷ xs) o = let front : Layout = new_line d ++ lay_stmt names d (view_stmt x) in ap (λ (z : Layout). front ++ z) (stmts xs o) ∙ sym (append_assoc front (each (λ y. new_line d ++ lay_stmt names d (view_stmt y)) xs) (lay_stmts names d (last_end (option_map view_expr o))))

  pub more_args : (xs : List Expr) → lay_more_args names d (exprs_of (map view_expr xs)) ≡ each (λ x. mark s.Comma ++ gap ++ lay_expr names d (view_expr x)) xs
  more_args [] = refl
  more_args (x ∷ xs) = let front : Layout = mark s.Comma ++ gap ++ lay_expr names d (view_expr x) in ap (λ (z : Layout). front ++ z) (more_args xs)

pub args : (names : List (List ℕ)) (d : ℕ) (xs : List Expr) → lay_args names d (exprs_of (map view_expr xs)) ≡ with_commas (λ x. lay_expr names d (view_expr x)) xs
args names d [] = refl
args names d (x ∷ xs) = ap (λ (z : Layout). lay_expr names d (view_expr x) ++ z) (more_args names d xs)

pub ruleset lists = (of_link, of_else_if, of_block, links, steps, elses, stmts)
