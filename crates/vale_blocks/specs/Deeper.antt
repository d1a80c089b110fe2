-- What is asked of function values that read where fewer levels are left.
use Rattle.std.specs.Prelude.{ℕ, ◌<◌, List, Option, Result, map, option_map}
use Rattle.std.specs.Borrow.{Bor}
use Rattle.vale_syntax.specs.declared.token.Token.{Token}
use Rattle.vale_syntax.specs.declared.tree.Expr.{Expr}
use Rattle.vale_syntax.specs.declared.tree.Stmt.{Stmt}
use Rattle.vale_syntax.specs.Tree as t
use Rattle.vale_syntax.specs.View.{view_expr, view_stmt, stmts_of}
use Rattle.vale_reading.specs.declared.stop.Stop.{Stop}
use Rattle.vale_reading.specs.declared.types.Parser.{Parser}
use Rattle.vale_reading.specs.Steps.{Reader}
use Rattle.vale_reading.specs.Reading.{Inner, within, whole_at, unary_at, postfix_at, stmts_at}
use Rattle.vale_reading.specs.Gives.{Gives}
use Rattle.vale_blocks.specs.declared.level.Rank.{Rank}
use Rattle.vale_blocks.specs.declared.level.Rank.TheVariants as rank

-- so much of an expression
abbrev pub ranked_at : Rank → List (List ℕ) → Option Inner → Reader t.Expr
ranked_at rank.Whole names o = whole_at names o
ranked_at rank.Operand names o = unary_at names o
ranked_at rank.Place names o = postfix_at names o

-- It may be called where fewer levels are left, and then reads an expression.
pub record ReadsExprs (depth : ℕ) (pre : Bor Parser → ℕ → Rank → Bor (List Token) → Type 0)
    (post : Bor Parser → ℕ → Rank → Bor (List Token) → Result (Expr × Bor (List Token)) Stop → Type 0) : Type 0 where
  pub callable : (p : Bor Parser) (d : ℕ) (x : Rank) (ts : Bor (List Token)) → d < depth → pre p d x ts
  pub reads : (p : Bor Parser) (d : ℕ) (x : Rank) (ts : Bor (List Token)) (result : Result (Expr × Bor (List Token)) Stop) → d < depth → post p d x ts result
      → Gives (λ x. (view_expr x.0, x.1.now)) result (ranked_at x p.now.names.now (within p.now.names.now d) ts.now)

-- It may be called where fewer levels are left, and then reads the statements of a block.
pub record ReadsStmts (depth : ℕ) (pre : Bor Parser → ℕ → Bor (List Token) → Type 0)
    (post : Bor Parser → ℕ → Bor (List Token) → Result ((List Stmt × Option Expr) × Bor (List Token)) Stop → Type 0) : Type 0 where
  pub callable : (p : Bor Parser) (d : ℕ) (ts : Bor (List Token)) → d < depth → pre p d ts
  pub reads : (p : Bor Parser) (d : ℕ) (ts : Bor (List Token)) (result : Result ((List Stmt × Option Expr) × Bor (List Token)) Stop) → d < depth → post p d ts result
      → Gives (λ x. (stmts_of (map view_stmt x.0.0) (option_map view_expr x.0.1), x.1.now)) result (stmts_at p.now.names.now (within p.now.names.now d) ts.now)
