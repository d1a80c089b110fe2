-- Reading a program by descent, as lists. Each reader looks at one token and then goes on; it looks further only where a
-- statement begins with a name or with `[`, and takes nothing by that.
use Rattle.std.specs.Prelude.{ℕ, zero, suc, Bool, true, false, List, [], ◌∷◌, Option, Some, None, Ok, Err, if◌then◌else◌, eqb, ◌&&◌, ◌||◌}
use Rattle.vale_base.specs.declared.spot.Spot.{Spot}
use Rattle.vale_syntax.specs.declared.token.Token.{Token}
use Rattle.vale_syntax.specs.declared.token.TokenKind.{TokenKind}
use Rattle.vale_syntax.specs.declared.token.TokenKind.TheVariants as k
use Rattle.vale_syntax.specs.declared.token.Sign.{Sign}
use Rattle.vale_syntax.specs.declared.token.Sign.TheVariants as s
use Rattle.vale_syntax.specs.declared.token.Word.TheVariants as w
use Rattle.vale_syntax.specs.declared.tree.NameAt.{NameAt}
use Rattle.vale_syntax.specs.declared.tree.BinaryOp.{BinaryOp}
use Rattle.vale_syntax.specs.declared.tree.BinaryOp.TheVariants as b
use Rattle.vale_syntax.specs.declared.tree.UnaryOp.{UnaryOp}
use Rattle.vale_syntax.specs.declared.tree.UnaryOp.TheVariants as u
use Rattle.vale_syntax.specs.Tree.{TypeExpr, int_type, bool_type, str_type, named_type, array_type, ref_type, imm_ref_type, iso_type, Expr, set, chain, unary, steps, number, quote, truth, name, call, paren, array, iso, form, Exprs, no_exprs, more_exprs, Link, link, Links, no_links, more_links, Step, field, method, index, Steps, no_steps, more_steps, Form, branch, pure, parallel_range, parallel_each, ElseIf, else_if, Elses, more_elses, Block, block, Stmt, declare, destructure, return_nothing, return_value, while, foreach, form_stmt, express, Stmts, more_stmts}
use Rattle.vale_syntax.specs.View.{else_end, last_end}
use Rattle.vale_reading.specs.declared.stop.Turn.{Turn}
use Rattle.vale_reading.specs.declared.stop.Turn.TheVariants.{More, End}
use Rattle.vale_reading.specs.Steps.{unexpected, too_deep, Read, Reader, ◌>>=◌, is_sign, begins, begins_word, sign_at, word_at, name_at, turns_at, enough, faulty}

-- ---- lists with commas

-- after an item
unfoldable pub comma_turn : {X : Type 0} → Reader X → Reader (Turn X (Unit {0}))
comma_turn item ts = if begins s.Comma ts
    then (do
      c ← sign_at s.Comma ts
      x ← item c.1
      Ok (More x.0, x.1))
    else Ok (End tt, ts)

abbrev pub others_at : {X L : Type 0} → Reader X → (X → L → L) → L → Reader L
others_at item more nil ts = turns_at (comma_turn item) more (λ _. nil) faulty (enough ts) ts

-- items up to a sign, which is not taken
abbrev pub commas_at : {X L : Type 0} → Sign → Reader X → (X → L → L) → L → Reader L
commas_at close item more nil ts = if begins close ts
    then Ok (nil, ts)
    else (do
      x ← item ts
      xs ← others_at item more nil x.1
      Ok (more x.0 xs.0, xs.1))

-- ---- operators

abbrev pub binary_op : TokenKind → Option BinaryOp
binary_op (k.Word w.Or) = Some b.Or
binary_op (k.Word w.And) = Some b.And
binary_op (k.Sign s.Equal) = Some b.Equal
binary_op (k.Sign s.NotEqual) = Some b.NotEqual
binary_op (k.Sign s.Less) = Some b.Less
binary_op (k.Sign s.LessEqual) = Some b.LessEqual
binary_op (k.Sign s.Greater) = Some b.Greater
binary_op (k.Sign s.GreaterEqual) = Some b.GreaterEqual
binary_op (k.Sign s.Plus) = Some b.Add
binary_op (k.Sign s.Minus) = Some b.Sub
binary_op (k.Sign s.Star) = Some b.Mul
binary_op (k.Sign s.Slash) = Some b.Div
binary_op (k.Sign s.Percent) = Some b.Rem
binary_op _ = None

-- how many ranks above that of a unary operator
abbrev pub height : BinaryOp → ℕ
height b.Mul = 1
height b.Div = 1
height b.Rem = 1
height b.Add = 2
height b.Sub = 2
height b.Equal = 3
height b.NotEqual = 3
height b.Less = 3
height b.LessEqual = 3
height b.Greater = 3
height b.GreaterEqual = 3
height b.And = 4
height b.Or = 5

abbrev pub of_height : ℕ → Option BinaryOp → Option BinaryOp
of_height n None = None
of_height n (Some op) = if eqb (height op) n then Some op else None

-- the operator of this height that the token is
unfoldable pub link_op : ℕ → TokenKind → Option BinaryOp
link_op n kind = of_height n (binary_op kind)

abbrev pub unary_op : TokenKind → Option UnaryOp
unary_op (k.Sign s.Minus) = Some u.Minus
unary_op (k.Word w.Not) = Some u.Not
unary_op (k.Sign s.Ampersand) = Some u.Borrow
unary_op (k.Word w.Merge) = Some u.Merge
unary_op _ = None

abbrev pub chained : Expr → Links → Expr
chained e no_links = e
chained e (more_links l ls) = chain e (more_links l ls)

abbrev pub stepped : Expr → Steps → Expr
stepped e no_steps = e
stepped e (more_steps p ps) = steps e (more_steps p ps)

-- ---- one level deeper

-- the readers of what stands a level deeper
pub record Inner : Type 0 where
  pub type_expr : Reader TypeExpr
  pub place : Reader Expr
  pub operand : Reader Expr
  pub whole : Reader Expr
  pub args : Reader Exprs
  pub stmts : Reader Stmts

-- reads with those, where a level is left; the tokens begin with the one that opens it
abbrev pub inside : {A : Type 0} → Option Inner → List Token → (Inner → Read A) → Read A
inside None here f = Err (too_deep here)
inside (Some inner) here f = f inner

-- ---- what follows a part

-- `[ x , y ] =` begins a destructuring, and `[ ] T (` an expression
abbrev pub is_name : TokenKind → Bool
is_name (k.Name text) = true
is_name _ = false

abbrev pub after_bracket : List Token → Bool
after_bracket [] = false
after_bracket (t ∷ ts) = is_name t.kind || (is_sign s.CloseBracket t.kind && begins s.Assign ts)

abbrev pub begins_declaration : List Token → Bool
begins_declaration [] = false
begins_declaration (t ∷ ts) = begins s.Assign ts

abbrev pub begins_destructuring : List Token → Bool
begins_destructuring [] = false
begins_destructuring (t ∷ ts) = after_bracket ts

abbrev pub parallel : Spot → NameAt → Expr → Option Expr → Block → Form
parallel at n e None b = parallel_each at n e b
parallel at n e (Some f) b = parallel_range at n e f b

-- the second bound of a loop, where there is one
abbrev pub bound_by : Inner → List Token → Bool → Read (Option Expr)
bound_by i ts true = do
  d ← sign_at s.DotDot ts
  e ← i.whole d.1
  Ok (Some e.0, e.1)
bound_by i ts false = Ok (None, ts)

unfoldable pub bound_at : Inner → Reader (Option Expr)
bound_at i ts = bound_by i ts (begins s.DotDot ts)

-- a form that begins a statement, by what follows it
abbrev pub form_end : Form → Token → List Token → TokenKind → Read (Turn Stmt (Option Expr))
form_end f t ts (k.Sign s.Semicolon) = Ok (More (express (form f)), ts)
form_end f t ts (k.Sign s.CloseBrace) = Ok (End (Some (form f)), t ∷ ts)
form_end f t ts _ = Ok (More (form_stmt f), t ∷ ts)

unfoldable pub after_form : Form → Reader (Turn Stmt (Option Expr))
after_form f [] = Err (unexpected [])
after_form f (t ∷ ts) = form_end f t ts t.kind

-- another expression that begins a statement
abbrev pub plain_end : Expr → Token → List Token → TokenKind → Read (Turn Stmt (Option Expr))
plain_end e t ts (k.Sign s.Semicolon) = Ok (More (express e), ts)
plain_end e t ts (k.Sign s.CloseBrace) = Ok (End (Some e), t ∷ ts)
plain_end e t ts _ = Err (unexpected (t ∷ ts))

unfoldable pub after_plain : Expr → Reader (Turn Stmt (Option Expr))
after_plain e [] = Err (unexpected [])
after_plain e (t ∷ ts) = plain_end e t ts t.kind

-- ---- operators between operands that the reader reads

abbrev pub link_by : Reader Expr → Token → List Token → Option BinaryOp → Read (Turn Link (Unit {0}))
link_by tighter t ts (Some op) = do
  e ← tighter ts
  Ok (More (link t.at op e.0), e.1)
link_by tighter t ts None = Ok (End tt, t ∷ ts)

unfoldable pub link_turn : Reader Expr → ℕ → Reader (Turn Link (Unit {0}))
link_turn tighter n [] = Ok (End tt, [])
link_turn tighter n (t ∷ ts) = link_by tighter t ts (link_op n t.kind)

abbrev pub no_more : Reader Links
no_more ts = Ok (no_links, ts)

-- comparisons don't chain
abbrev pub most_links : ℕ → List Token → ℕ
most_links n ts = if eqb n 3 then 1 else enough ts

unfoldable pub links_at : Reader Expr → ℕ → Reader Links
links_at tighter n ts = turns_at (link_turn tighter n) more_links (λ _. no_links) no_more (most_links n ts) ts

module _ (names : List (List ℕ)) where
  -- ---- types

  abbrev pub ref_by : Inner → Spot → List Token → Bool → Read TypeExpr
  ref_by i at ts true = do
    imm ← word_at w.Imm ts
    x ← i.type_expr imm.1
    Ok (imm_ref_type at x.0, x.1)
  ref_by i at ts false = do
    x ← i.type_expr ts
    Ok (ref_type at x.0, x.1)

  unfoldable pub ref_type_at : Option Inner → Reader TypeExpr
  ref_type_at o ts = do
    p ← sign_at s.Ampersand ts
    inside o ts (λ i. ref_by i p.0 p.1 (begins_word w.Imm p.1))

  unfoldable pub array_type_at : Option Inner → Reader TypeExpr
  array_type_at o ts = do
    opening ← sign_at s.OpenBracket ts
    inside o ts (λ i. do
      close ← sign_at s.CloseBracket opening.1
      x ← i.type_expr close.1
      Ok (array_type opening.0 x.0, x.1))

  unfoldable pub iso_type_at : Option Inner → Reader TypeExpr
  iso_type_at o ts = do
    p ← word_at w.Iso ts
    inside o ts (λ i. do
      x ← i.type_expr p.1
      Ok (iso_type p.0 x.0, x.1))

  abbrev pub type_by : Option Inner → Token → List Token → TokenKind → Read TypeExpr
  type_by o t ts (k.Word w.Int) = Ok (int_type t.at, ts)
  type_by o t ts (k.Word w.Bool) = Ok (bool_type t.at, ts)
  type_by o t ts (k.Word w.Str) = Ok (str_type t.at, ts)
  type_by o t ts (k.Name text) = do
    n ← name_at names (t ∷ ts)
    Ok (named_type n.0, n.1)
  type_by o t ts (k.Sign s.OpenBracket) = array_type_at o (t ∷ ts)
  type_by o t ts (k.Sign s.Ampersand) = ref_type_at o (t ∷ ts)
  type_by o t ts (k.Word w.Iso) = iso_type_at o (t ∷ ts)
  type_by o t ts _ = Err (unexpected (t ∷ ts))

  unfoldable pub type_at : Option Inner → Reader TypeExpr
  type_at o [] = Err (unexpected [])
  type_at o (t ∷ ts) = type_by o t ts t.kind

  -- ---- blocks and forms

  unfoldable pub block_at : Option Inner → Reader Block
  block_at o ts = do
    opening ← sign_at s.OpenBrace ts
    inside o ts (λ i. do
      xs ← i.stmts opening.1
      close ← sign_at s.CloseBrace xs.1
      Ok (block opening.0 close.0 xs.0, close.1))

  -- after `else`
  abbrev pub else_by : Option Inner → List Token → Bool → Read (Turn ElseIf (Option Block))
  else_by o ts true = do
    if_ ← word_at w.If ts
    inside o ts (λ i. do
      c ← i.whole if_.1
      b ← block_at o c.1
      Ok (More (else_if if_.0 c.0 b.0), b.1))
  else_by o ts false = do
    b ← block_at o ts
    Ok (End (Some b.0), b.1)

  abbrev pub else_turn_by : Option Inner → List Token → Bool → Read (Turn ElseIf (Option Block))
  else_turn_by o ts true = do
    e ← word_at w.Else ts
    else_by o e.1 (begins_word w.If e.1)
  else_turn_by o ts false = Ok (End None, ts)

  unfoldable pub else_turn : Option Inner → Reader (Turn ElseIf (Option Block))
  else_turn o ts = else_turn_by o ts (begins_word w.Else ts)

  unfoldable pub elses_at : Option Inner → Reader Elses
  elses_at o ts = turns_at (else_turn o) more_elses else_end faulty (enough ts) ts

  unfoldable pub branch_at : Option Inner → Reader Form
  branch_at o ts = do
    if_ ← word_at w.If ts
    inside o ts (λ i. do
      c ← i.whole if_.1
      b ← block_at o c.1
      es ← elses_at o b.1
      Ok (branch if_.0 c.0 b.0 es.0, es.1))

  unfoldable pub parallel_at : Option Inner → Reader Form
  parallel_at o ts = do
    p ← word_at w.Parallel ts
    inside o ts (λ i. do
      f ← word_at w.Foreach p.1
      n ← name_at names f.1
      in_ ← word_at w.In n.1
      e ← i.whole in_.1
      to ← bound_at i e.1
      b ← block_at o to.1
      Ok (parallel p.0 n.0 e.0 to.0 b.0, b.1))

  abbrev pub pure_at : Option Inner → Reader Form
  pure_at o ts = do
    p ← word_at w.Pure ts
    b ← block_at o p.1
    Ok (pure p.0 b.0, b.1)

  abbrev pub form_by : Option Inner → Token → List Token → TokenKind → Read Form
  form_by o t ts (k.Word w.If) = branch_at o (t ∷ ts)
  form_by o t ts (k.Word w.Pure) = pure_at o (t ∷ ts)
  form_by o t ts (k.Word w.Parallel) = parallel_at o (t ∷ ts)
  form_by o t ts _ = Err (unexpected (t ∷ ts))

  unfoldable pub form_at : Option Inner → Reader Form
  form_at o [] = Err (unexpected [])
  form_at o (t ∷ ts) = form_by o t ts t.kind

  -- ---- operands

  -- arguments with their parentheses
  unfoldable pub arguments_at : Option Inner → Reader Exprs
  arguments_at o ts = do
    opening ← sign_at s.OpenParen ts
    inside o ts (λ i. do
      es ← i.args opening.1
      close ← sign_at s.CloseParen es.1
      Ok (es.0, close.1))

  abbrev pub called_by : Option Inner → NameAt → List Token → Bool → Read Expr
  called_by o n ts true = do
    es ← arguments_at o ts
    Ok (call n es.0, es.1)
  called_by o n ts false = Ok (name n, ts)

  -- a name, and its arguments where it is called
  unfoldable pub called_at : Option Inner → Reader Expr
  called_at o ts = do
    n ← name_at names ts
    called_by o n.0 n.1 (begins s.OpenParen n.1)

  unfoldable pub paren_at : Option Inner → Reader Expr
  paren_at o ts = do
    opening ← sign_at s.OpenParen ts
    inside o ts (λ i. do
      e ← i.whole opening.1
      close ← sign_at s.CloseParen e.1
      Ok (paren opening.0 e.0, close.1))

  unfoldable pub array_at : Option Inner → Reader Expr
  array_at o ts = do
    opening ← sign_at s.OpenBracket ts
    inside o ts (λ i. do
      close ← sign_at s.CloseBracket opening.1
      x ← i.type_expr close.1
      es ← arguments_at o x.1
      Ok (array opening.0 x.0 es.0, es.1))

  abbrev pub iso_at : Option Inner → Reader Expr
  iso_at o ts = do
    p ← word_at w.Iso ts
    b ← block_at o p.1
    Ok (iso p.0 b.0, b.1)

  abbrev pub primary_by : Option Inner → Token → List Token → TokenKind → Read Expr
  primary_by o t ts (k.Number n) = Ok (number t.at n, ts)
  primary_by o t ts (k.Quote text) = Ok (quote t.at text, ts)
  primary_by o t ts (k.Word w.True) = Ok (truth t.at true, ts)
  primary_by o t ts (k.Word w.False) = Ok (truth t.at false, ts)
  primary_by o t ts (k.Name text) = called_at o (t ∷ ts)
  primary_by o t ts (k.Sign s.OpenParen) = paren_at o (t ∷ ts)
  primary_by o t ts (k.Sign s.OpenBracket) = array_at o (t ∷ ts)
  primary_by o t ts (k.Word w.Iso) = iso_at o (t ∷ ts)
  primary_by o t ts _ = do
    f ← form_at o (t ∷ ts)
    Ok (form f.0, f.1)

  unfoldable pub primary_at : Option Inner → Reader Expr
  primary_at o [] = Err (unexpected [])
  primary_at o (t ∷ ts) = primary_by o t ts t.kind

  abbrev pub member_by : Option Inner → Spot → NameAt → List Token → Bool → Read (Turn Step (Unit {0}))
  member_by o at n ts true = do
    es ← arguments_at o ts
    Ok (More (method at n.name es.0), es.1)
  member_by o at n ts false = Ok (More (field at n.name), ts)

  unfoldable pub member_at : Option Inner → Reader (Turn Step (Unit {0}))
  member_at o ts = do
    dot ← sign_at s.Dot ts
    n ← name_at names dot.1
    member_by o dot.0 n.0 n.1 (begins s.OpenParen n.1)

  unfoldable pub index_at : Option Inner → Reader (Turn Step (Unit {0}))
  index_at o ts = do
    opening ← sign_at s.OpenBracket ts
    inside o ts (λ i. do
      e ← i.whole opening.1
      close ← sign_at s.CloseBracket e.1
      Ok (More (index opening.0 e.0), close.1))

  abbrev pub step_by : Option Inner → Token → List Token → TokenKind → Read (Turn Step (Unit {0}))
  step_by o t ts (k.Sign s.Dot) = member_at o (t ∷ ts)
  step_by o t ts (k.Sign s.OpenBracket) = index_at o (t ∷ ts)
  step_by o t ts _ = Ok (End tt, t ∷ ts)

  unfoldable pub step_turn : Option Inner → Reader (Turn Step (Unit {0}))
  step_turn o [] = Ok (End tt, [])
  step_turn o (t ∷ ts) = step_by o t ts t.kind

  unfoldable pub steps_at : Option Inner → Reader Steps
  steps_at o ts = turns_at (step_turn o) more_steps (λ _. no_steps) faulty (enough ts) ts

  unfoldable pub postfix_at : Option Inner → Reader Expr
  postfix_at o ts = do
    e ← primary_at o ts
    ps ← steps_at o e.1
    Ok (stepped e.0 ps.0, ps.1)

  abbrev pub unary_by : Option Inner → Token → List Token → Option UnaryOp → Read Expr
  unary_by o t ts (Some op) = inside o (t ∷ ts) (λ i. do
    e ← i.operand ts
    Ok (unary t.at op e.0, e.1))
  unary_by o t ts None = postfix_at o (t ∷ ts)

  unfoldable pub unary_at : Option Inner → Reader Expr
  unary_at o [] = Err (unexpected [])
  unary_at o (t ∷ ts) = unary_by o t ts (unary_op t.kind)

  -- an expression of at most the rank of a unary operator and so many more
  unfoldable pub level_at : Option Inner → ℕ → Reader Expr
  level_at o zero ts = unary_at o ts
  level_at o (suc n) ts = do
    e ← level_at o n ts
    ls ← links_at (level_at o n) (suc n) e.1
    Ok (chained e.0 ls.0, ls.1)

  unfoldable pub set_at : Option Inner → Reader Expr
  set_at o ts = do
    p ← word_at w.Set ts
    inside o ts (λ i. do
      x ← i.place p.1
      eq ← sign_at s.Assign x.1
      e ← i.whole eq.1
      Ok (set p.0 x.0 e.0, e.1))

  abbrev pub whole_by : Option Inner → List Token → Bool → Read Expr
  whole_by o ts true = set_at o ts
  whole_by o ts false = level_at o 5 ts

  unfoldable pub whole_at : Option Inner → Reader Expr
  whole_at o ts = whole_by o ts (begins_word w.Set ts)

  unfoldable pub args_at : Option Inner → Reader Exprs
  args_at o ts = commas_at s.CloseParen (whole_at o) more_exprs no_exprs ts

  -- ---- statements

  unfoldable pub plain_at : Option Inner → Reader (Turn Stmt (Option Expr))
  plain_at o ts = do
    e ← whole_at o ts
    after_plain e.0 e.1

  unfoldable pub declare_at : Option Inner → Reader (Turn Stmt (Option Expr))
  declare_at o ts = do
    n ← name_at names ts
    eq ← sign_at s.Assign n.1
    e ← whole_at o eq.1
    end ← sign_at s.Semicolon e.1
    Ok (More (declare n.0 e.0), end.1)

  unfoldable pub names_at : Reader (List NameAt)
  names_at ts = commas_at s.CloseBracket (name_at names) (λ x xs. x ∷ xs) [] ts

  unfoldable pub destructure_at : Option Inner → Reader (Turn Stmt (Option Expr))
  destructure_at o ts = do
    opening ← sign_at s.OpenBracket ts
    inside o ts (λ i. do
      ns ← names_at opening.1
      close ← sign_at s.CloseBracket ns.1
      eq ← sign_at s.Assign close.1
      e ← whole_at o eq.1
      end ← sign_at s.Semicolon e.1
      Ok (More (destructure opening.0 ns.0 e.0), end.1))

  abbrev pub return_by : Option Inner → Spot → List Token → Bool → Read (Turn Stmt (Option Expr))
  return_by o at ts true = do
    end ← sign_at s.Semicolon ts
    Ok (More (return_nothing at), end.1)
  return_by o at ts false = do
    e ← whole_at o ts
    end ← sign_at s.Semicolon e.1
    Ok (More (return_value at e.0), end.1)

  unfoldable pub return_at : Option Inner → Reader (Turn Stmt (Option Expr))
  return_at o ts = do
    p ← word_at w.Return ts
    return_by o p.0 p.1 (begins s.Semicolon p.1)

  unfoldable pub while_at : Option Inner → Reader (Turn Stmt (Option Expr))
  while_at o ts = do
    p ← word_at w.While ts
    c ← whole_at o p.1
    b ← block_at o c.1
    Ok (More (while p.0 c.0 b.0), b.1)

  unfoldable pub foreach_at : Option Inner → Reader (Turn Stmt (Option Expr))
  foreach_at o ts = do
    p ← word_at w.Foreach ts
    n ← name_at names p.1
    in_ ← word_at w.In n.1
    e ← whole_at o in_.1
    d ← sign_at s.DotDot e.1
    f ← whole_at o d.1
    b ← block_at o f.1
    Ok (More (foreach p.0 n.0 e.0 f.0 b.0), b.1)

  unfoldable pub form_stmt_at : Option Inner → Reader (Turn Stmt (Option Expr))
  form_stmt_at o ts = do
    f ← form_at o ts
    after_form f.0 f.1

  abbrev pub named_by : Option Inner → List Token → Bool → Read (Turn Stmt (Option Expr))
  named_by o ts true = declare_at o ts
  named_by o ts false = plain_at o ts

  abbrev pub bracket_by : Option Inner → List Token → Bool → Read (Turn Stmt (Option Expr))
  bracket_by o ts true = destructure_at o ts
  bracket_by o ts false = plain_at o ts

  abbrev pub stmt_by : Option Inner → Token → List Token → TokenKind → Read (Turn Stmt (Option Expr))
  stmt_by o t ts (k.Sign s.CloseBrace) = Ok (End None, t ∷ ts)
  stmt_by o t ts (k.Name text) = named_by o (t ∷ ts) (begins s.Assign ts)
  stmt_by o t ts (k.Sign s.OpenBracket) = bracket_by o (t ∷ ts) (after_bracket ts)
  stmt_by o t ts (k.Word w.Return) = return_at o (t ∷ ts)
  stmt_by o t ts (k.Word w.While) = while_at o (t ∷ ts)
  stmt_by o t ts (k.Word w.Foreach) = foreach_at o (t ∷ ts)
  stmt_by o t ts (k.Word w.If) = form_stmt_at o (t ∷ ts)
  stmt_by o t ts (k.Word w.Pure) = form_stmt_at o (t ∷ ts)
  stmt_by o t ts (k.Word w.Parallel) = form_stmt_at o (t ∷ ts)
  stmt_by o t ts _ = plain_at o (t ∷ ts)

  unfoldable pub stmt_turn : Option Inner → Reader (Turn Stmt (Option Expr))
  stmt_turn o [] = Err (unexpected [])
  stmt_turn o (t ∷ ts) = stmt_by o t ts t.kind

  unfoldable pub stmts_at : Option Inner → Reader Stmts
  stmts_at o ts = turns_at (stmt_turn o) more_stmts last_end faulty (enough ts) ts

  -- ---- levels

  abbrev pub inner_of : Option Inner → Inner
  inner_of o = record {
    type_expr = type_at o;
    place = postfix_at o;
    operand = unary_at o;
    whole = whole_at o;
    args = args_at o;
    stmts = stmts_at o;
  }

  -- the readers of what stands a level deeper, where a level is left
  unfoldable pub within : ℕ → Option Inner
  within zero = None
  within (suc d) = Some (inner_of (within d))
