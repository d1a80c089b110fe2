-- What each part of a body makes of what was emitted before it: its code, and what is gone after it.
use Rattle.std.specs.Prelude.{ℕ, Bool, ◌+◌, List, [], ◌∷◌, ◌++◌}
use Rattle.vale_base.specs.declared.spot.Spot.{Spot}
use Rattle.vale_rules_spec.specs.Types as y
use Rattle.vale_rules_spec.specs.Typed.{Expr, Node, Exprs, Link, link, Links, Step, Steps, Form, Elses, Block, Stmt, Stmts}
use Rattle.vale_code.specs.declared.instr.Instr.{Instr}
use Rattle.vale_lowering_objects.specs.Changes.{step_changes}
use Rattle.vale_lowering_objects.specs.Scopes.{Gives, Scope, Gone, After, Around}
use Rattle.vale_lowering_objects.specs.Lowered.{Origin, expr_code, node_code, borrow_code, start_code, step_code, steps_code, place_code, targets_code, swap_code, args_code, links_code, link_code, form_code, elses_code, block_code, stmts_code, stmt_code, expr_after, node_after, start_after, step_after, steps_after, place_after, targets_after, args_after, links_after, link_after, form_after, elses_after, block_after, stmts_after, stmt_after, step_view}
use Rattle.vale_lower_flow.specs.Flow.{Going, emitted}

module _ (a : Around) where
  unfoldable pub expr_emitted : Expr → ℕ → Scope → Going → Going
  expr_emitted e h s = emitted (λ place g. expr_code a e place h s g) (λ g. expr_after e h s g)

  unfoldable pub node_emitted : y.Ty → Gives → Node → ℕ → Scope → Going → Going
  node_emitted x q node h s = emitted (λ place g. node_code a x q node place h s g) (λ g. node_after node h s g)

  unfoldable pub borrow_emitted : Expr → ℕ → Scope → Going → Going
  borrow_emitted e h s = emitted (λ place g. borrow_code a e place h s g) (λ g. expr_after e h s g)

  unfoldable pub args_emitted : Exprs → ℕ → Scope → Going → Going
  args_emitted es h s = emitted (λ place g. args_code a es place h s g) (λ g. args_after es h s g)

  abbrev pub one_link_code : Link → ℕ → ℕ → Scope → Gone → List Instr
  one_link_code (link x at op e) place h s g = link_code op x.value at (λ place h g. expr_code a e place h s g) (λ h g. expr_after e h s g) place h s g

  abbrev pub one_link_after : Link → ℕ → Scope → Gone → After
  one_link_after (link x at op e) h s g = link_after op (λ h g. expr_after e h s g) h g

  unfoldable pub link_emitted : Link → ℕ → Scope → Going → Going
  link_emitted l h s = emitted (λ place g. one_link_code l place h s g) (λ g. one_link_after l h s g)

  unfoldable pub links_emitted : Links → ℕ → Scope → Going → Going
  links_emitted ls h s = emitted (λ place g. links_code a ls place h s g) (λ g. links_after ls h s g)

  -- ---- steps

  -- what a first step starts from, and any part that starts there
  unfoldable pub started : Expr → y.View → (ℕ → Bool) → ℕ → Scope → (Origin → ℕ → ℕ → Gone → List Instr) → (ℕ → Gone → After) → Going → Going
  started e view changes h s part after = emitted (λ place g. start_code a e view changes place h s g part) (λ g. start_after e view changes h s g after)

  unfoldable pub step_emitted : Origin → Step → ℕ → ℕ → Scope → Going → Going
  step_emitted o x h k s = emitted (λ place g. step_code a o x place h k s g) (λ g. step_after x k s g)

  unfoldable pub swap_emitted : Origin → Step → ℕ → ℕ → Scope → Going → Going
  swap_emitted o x new k s = emitted (λ place g. swap_code a o x place new k s g) (λ g. step_after x k s g)

  -- a first step, and a first step that is set
  unfoldable pub first_emitted : Expr → Step → ℕ → Scope → Going → Going
  first_emitted e x h s = started e (step_view x) (λ n. step_changes n x) h s (λ o place k g. step_code a o x place h k s g) (λ k g. step_after x k s g)

  unfoldable pub first_swapped : Expr → Step → ℕ → ℕ → Scope → Going → Going
  first_swapped e x new h s = started e (step_view x) (λ n. step_changes n x) h s (λ o place k g. swap_code a o x place new k s g) (λ k g. step_after x k s g)

  unfoldable pub steps_emitted : Steps → ℕ → Scope → Going → Going
  steps_emitted xs h s = emitted (λ place g. steps_code a xs place h s g) (λ g. steps_after xs h s g)

  unfoldable pub targets_emitted : Steps → ℕ → ℕ → Scope → Going → Going
  targets_emitted xs new h s = emitted (λ place g. targets_code a xs place new h s g) (λ g. targets_after xs h s g)

  unfoldable pub place_emitted : Expr → Gives → ℕ → Scope → Going → Going
  place_emitted p q h s = emitted (λ place g. place_code a p q place h s g) (λ g. place_after p q h s g)

  -- ---- forms and blocks

  unfoldable pub form_emitted : y.Ty → Gives → Form → ℕ → Scope → Going → Going
  form_emitted x q f h s = emitted (λ place g. form_code a x q f place h s g) (λ g. form_after f h s g)

  -- with what was gone before the `if`
  unfoldable pub elses_emitted : Gives → Elses → Gone → ℕ → Scope → Going → Going
  elses_emitted q es before h s = emitted (λ place g. elses_code a q es before place h s g) (λ g. elses_after es before h s g)

  unfoldable pub block_emitted : Gives → Block → ℕ → ℕ → Scope → Going → Going
  block_emitted q b to h s = emitted (λ place g. block_code a q b place to h s g) (λ g. block_after b h s g)

  unfoldable pub stmts_emitted : Gives → Spot → Stmts → ℕ → ℕ → Scope → Going → Going
  stmts_emitted q end ss to h s = emitted (λ place g. stmts_code a q end ss place to h s g) (λ g. stmts_after ss h s g)

  unfoldable pub stmt_emitted : Stmt → ℕ → Scope → Going → Going
  stmt_emitted x h s = emitted (λ place g. stmt_code a x place h s g) (λ g. stmt_after x h s g)
