-- No run comes after a block that always returns.
use Rattle.std.proofs.Common.{◌≡◌, ℕ, ◌+◌, Bool, true, false, ◌||◌, List, [], ◌∷◌, ◌⊎◌, inl, inr, ⊎_elim, refl}
use Rattle.std.proofs.lemmas.Bool.{and_parts}
use Rattle.vale_model.specs.Expressions.{numbers_of}
use Rattle.vale_rules_spec.specs.Returns.{block_returns, stmts_return, expr_returns, form_returns, elses_return}
use Rattle.vale_rules_spec.specs.Typed.{Expr, expr, form, Form, branch, pure, parallel_range, parallel_each, else_if, Elses, no_else, otherwise, more_elses, Block, block, declare, destructure, return_nothing, return_value, while, foreach, form_stmt, express, Stmts, no_stmts, last, more_stmts}
use Rattle.vale_lowering_objects.specs.Lowered.{all_gives, locals_after, expr_after, form_after, elses_after, block_after, stmts_after, stmt_after}
use Rattle.vale_lowering_objects.specs.Scopes.{Gives, gives_of, Scope, entry, Gone, without, After, comes, never, no_run, then_after, met}

abbrev pub IsNever : After → Type 0
IsNever (comes g) = ⊥
IsNever (never g) = Unit {0}

none_runs : (o : After) → IsNever (no_run o)
none_runs (comes g) = tt
none_runs (never g) = tt

never_first : (o : After) (f : Gone → After) → IsNever o → IsNever (then_after o f)
never_first (comes g) f n = absurd n
never_first (never g) f n = none_runs (f g)

never_second : (o : After) (f : Gone → After) → ((g : Gone) → IsNever (f g)) → IsNever (then_after o f)
never_second (comes g) f n = n g
never_second (never g) f n = none_runs (f g)

never_met : (before : Gone) (a b : After) → IsNever a → IsNever b → IsNever (met before a b)
never_met before (comes g) b n m = absurd n
never_met before (never g) (comes g') n m = absurd m
never_met before (never g) (never g') n m = tt

never_locals : (ns : List ℕ) (qs : List Gives) (h : ℕ) (s : Scope) (g : Gone) (rest : ℕ → Scope → Gone → After) → ((h : ℕ) (s : Scope) (g : Gone) → IsNever (rest h s g)) → IsNever (locals_after ns qs h s g rest)
never_locals [] qs h s g rest n = n h s g
never_locals (m ∷ ns) [] h s g rest n = n h s g
never_locals (m ∷ ns) (q ∷ qs) h s g rest n = never_locals ns qs (h + 1) (entry m h q ∷ s) (without h g) rest n

either_is : (a b : Bool) → (a || b) ≡ true → (a ≡ true) ⊎ (b ≡ true)
either_is true b e = inl refl
either_is false b e = inr e

mutual
  pub block_never : (b : Block) (h : ℕ) (s : Scope) (g : Gone) → block_returns b ≡ true → IsNever (block_after b h s g)
  block_never (block at end x ss) h s g e = stmts_never ss h s g e

  stmts_never : (ss : Stmts) (h : ℕ) (s : Scope) (g : Gone) → stmts_return ss ≡ true → IsNever (stmts_after ss h s g)
  stmts_never no_stmts h s g e = absurd (cc)
  stmts_never (last x) h s g e = expr_never x h s g e
  stmts_never (more_stmts (declare n x v) ss) h s g e = never_second (expr_after v h s g) (λ g. stmts_after ss (h + 1) (entry n.name.0 h (gives_of x) ∷ s) (without h g)) (λ g. stmts_never ss (h + 1) (entry n.name.0 h (gives_of x) ∷ s) (without h g) e)
  stmts_never (more_stmts (destructure at ns xs v) ss) h s g e =
      never_second (expr_after v h s g) (λ g. locals_after (numbers_of ns) (all_gives xs) h s g (λ h s g. stmts_after ss h s g)) (λ g. never_locals (numbers_of ns) (all_gives xs) h s g (λ h s g. stmts_after ss h s g) (λ h s g. stmts_never ss h s g e))
  stmts_never (more_stmts (while at c b) ss) h s g e = never_second (stmt_after (while at c b) h s g) (λ g. stmts_after ss h s g) (λ g. stmts_never ss h s g e)
  stmts_never (more_stmts (foreach at n a v b) ss) h s g e = never_second (stmt_after (foreach at n a v b) h s g) (λ g. stmts_after ss h s g) (λ g. stmts_never ss h s g e)
  stmts_never (more_stmts (return_nothing at) ss) h s g e = never_first (stmt_after (return_nothing at) h s g) (λ g. stmts_after ss h s g) tt
  stmts_never (more_stmts (return_value at v) ss) h s g e = never_first (stmt_after (return_value at v) h s g) (λ g. stmts_after ss h s g) (none_runs (expr_after v h s g))
  stmts_never (more_stmts (form_stmt f) ss) h s g e =
      ⊎_elim (λ r. never_first (form_after f h s g) (λ g. stmts_after ss h s g) (form_never f h s g r)) (λ r. never_second (form_after f h s g) (λ g. stmts_after ss h s g) (λ g. stmts_never ss h s g r)) (either_is (form_returns f) (stmts_return ss) e)
  stmts_never (more_stmts (express v) ss) h s g e =
      ⊎_elim (λ r. never_first (expr_after v h s g) (λ g. stmts_after ss h s g) (expr_never v h s g r)) (λ r. never_second (expr_after v h s g) (λ g. stmts_after ss h s g) (λ g. stmts_never ss h s g r)) (either_is (expr_returns v) (stmts_return ss) e)

  expr_never : (e : Expr) (h : ℕ) (s : Scope) (g : Gone) → expr_returns e ≡ true → IsNever (expr_after e h s g)
  expr_never (expr x (form f)) h s g e = form_never f h s g e
  expr_never (expr x node) h s g e = absurd (cc)

  form_never : (f : Form) (h : ℕ) (s : Scope) (g : Gone) → form_returns f ≡ true → IsNever (form_after f h s g)
  form_never (branch at c b es) h s g e =
      let parts = and_parts (block_returns b) (elses_return es) e in
      never_second (expr_after c h s g) (λ now. met g (block_after b (h + 1) s now) (elses_after es g h s now))
      (λ now. never_met g (block_after b (h + 1) s now) (elses_after es g h s now) (block_never b (h + 1) s now parts.0) (elses_never es g h s now parts.1))
  form_never (pure at b) h s g e = absurd (cc)
  form_never (parallel_range at n a v b) h s g e = absurd (cc)
  form_never (parallel_each at n v b) h s g e = absurd (cc)

  elses_never : (es : Elses) (before : Gone) (h : ℕ) (s : Scope) (g : Gone) → elses_return es ≡ true → IsNever (elses_after es before h s g)
  elses_never no_else before h s g e = absurd (cc)
  elses_never (otherwise b) before h s g e = block_never b (h + 1) s g e
  elses_never (more_elses (else_if at c b) es) before h s g e =
      let parts = and_parts (block_returns b) (elses_return es) e in
      never_second (expr_after c h s g) (λ g. met before (block_after b (h + 1) s g) (elses_after es before h s g))
      (λ g. never_met before (block_after b (h + 1) s g) (elses_after es before h s g) (block_never b (h + 1) s g parts.0) (elses_never es before h s g parts.1))
