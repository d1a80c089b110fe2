-- What tokens spell is spelled, with its spots moved, by the tokens with theirs moved likewise.
use Rattle.std.proofs.Common.{◌≡◌, ◌≤◌, ℕ, zero, suc, Bool, true, false, List, [], ◌∷◌, Option, None, Some, refl, sym, ap, ◌∙◌}
use Rattle.std.specs.Prelude.{map, option_map}
use Rattle.vale_base.specs.declared.name.Name.{Name}
use Rattle.vale_base.specs.declared.spot.Spot.{Spot}
use Rattle.vale_base.specs.Limits.{level_limit}
use Rattle.vale_syntax.specs.declared.token.Token.{Token}
use Rattle.vale_syntax.specs.declared.token.TokenKind.{TokenKind}
use Rattle.vale_syntax.specs.declared.token.TokenKind.TheVariants as k
use Rattle.vale_syntax.specs.declared.token.Sign.{Sign}
use Rattle.vale_syntax.specs.declared.token.Sign.TheVariants as s
use Rattle.vale_syntax.specs.declared.token.Word.{Word}
use Rattle.vale_syntax.specs.declared.token.Word.TheVariants as w
use Rattle.vale_syntax.specs.declared.tree.NameAt.{NameAt}
use Rattle.vale_syntax.specs.Grammar.{Part, one, sign, word, nothing, when, optional, each, with_commas, deeper, ◌▸◌, ◌⊳◌, texts_in, first_seen, whole, postfix, primary, operand, alone, goes_on, IsOfForm, HasLinks, HasSteps, binary_kind, unary_kind, truth_kind, rank, named, member, IsType, IsExpr, AreArgs, AreMoreArgs, IsLink, AreLinks, IsStep, AreSteps, IsForm, IsElseIf, AreElses, IsBlock, AreStmts, IsStmt, IsParam, IsHead, IsFunction, IsField, IsItem, spells}
use Rattle.vale_syntax.specs.Moved.{moved_tokens, moved_name, moved_type, moved_expr, moved_exprs, moved_link, moved_links, moved_step, moved_steps, moved_form, moved_else_if, moved_elses, moved_block, moved_stmts, moved_stmt, moved_param, moved_head, moved_function, moved_field, moved_item, moved_tree}
use Rattle.vale_syntax.specs.Tree.{TypeExpr, int_type, bool_type, str_type, named_type, array_type, ref_type, imm_ref_type, iso_type, Expr, set, chain, unary, steps, number, quote, truth, name, call, paren, array, iso, form, Exprs, no_exprs, more_exprs, Link, link, Links, no_links, more_links, Step, field, method, index, Steps, no_steps, more_steps, Form, branch, pure, parallel_range, parallel_each, ElseIf, else_if, Elses, no_else, otherwise, more_elses, Block, block, Stmt, declare, destructure, return_nothing, return_value, while, foreach, form_stmt, express, Stmts, no_stmts, last, more_stmts, Param, param, Head, head, Function, function, FieldDecl, field_decl, Item, struct_item, interface_item, impl_item, function_item, Tree, tree}

module _ (to : Spot → Spot) where
  -- where the tokens spell one part, they spell the other with their spots moved
  pub record Moves (P Q : Part) : Type 1 where
    pub by : (ts rest : List Token) → P ts rest → Q (moved_tokens to ts) (moved_tokens to rest)

  -- ---- parts

  seq : {P P2 Q Q2 : Part} → Moves P P2 → Moves Q Q2 → Moves (P ▸ Q) (P2 ▸ Q2)
  seq h i = record { by = λ ts rest (mid, x, y). (moved_tokens to mid, h.by ts mid x, i.by mid rest y) }

  given : (C : Type 0) {P Q : Part} → Moves P Q → Moves (C ⊳ P) (C ⊳ Q)
  given C h = record { by = λ ts rest x. (x.0, h.by ts rest x.1) }

  puts : (kind : TokenKind) (at : Spot) → Moves (one kind at) (one kind (to at))
  puts kind at = record { by = λ ts rest x. ap (moved_tokens to) x }

  marks : (x : Sign) → Moves (sign x) (sign x)
  marks x = record { by = λ ts rest (at, h). (to at, ap (moved_tokens to) h) }

  keys : (x : Word) → Moves (word x) (word x)
  keys x = record { by = λ ts rest (at, h). (to at, ap (moved_tokens to) h) }

  nothings : Moves nothing nothing
  nothings = record { by = λ ts rest x. ap (moved_tokens to) x }

  inner : {P Q : ℕ → Part} → ((d : ℕ) → Moves (P d) (Q d)) → (d : ℕ) → Moves (deeper d P) (deeper d Q)
  inner h zero = record { by = λ ts rest x. absurd x }
  inner h (suc d) = h d

  whens : (b : Bool) {P Q : Part} → Moves P Q → Moves (when b P) (when b Q)
  whens true h = h
  whens false h = nothings

  optionals : {X : Type 0} {P : X → Part} (move : X → X) → ((x : X) → Moves (P x) (P (move x))) → (o : Option X) → Moves (optional P o) (optional P (option_map move o))
  optionals move h None = nothings
  optionals move h (Some x) = h x

  eachs : {X : Type 0} {P : X → Part} (move : X → X) → ((x : X) → Moves (P x) (P (move x))) → (xs : List X) → Moves (each P xs) (each P (map move xs))
  eachs move h [] = nothings
  eachs move h (x ∷ xs) = seq (h x) (eachs move h xs)

  commas : {X : Type 0} {P : X → Part} (move : X → X) → ((x : X) → Moves (P x) (P (move x))) → (xs : List X) → Moves (with_commas P xs) (with_commas P (map move xs))
  commas move h [] = nothings
  commas move h (x ∷ xs) = seq (h x) (eachs move (λ y. seq (marks s.Comma) (h y)) xs)

  -- ---- what a tree is, wherever it stands

  form_moved : (e : Expr) → IsOfForm e → IsOfForm (moved_expr to e)
  form_moved (form f) h = tt
  form_moved _ h = absurd h

  links_moved : (r : ℕ) (ls : Links) → HasLinks r ls → HasLinks r (moved_links to ls)
  links_moved r no_links h = absurd h
  links_moved r (more_links l ls) h = λ e. ap (moved_links to) (h e)

  steps_moved : (ss : Steps) → HasSteps ss → HasSteps (moved_steps to ss)
  steps_moved no_steps h = absurd h
  steps_moved (more_steps p ps) h = tt

  alones : (e : Expr) {P Q : Part} → Moves P Q → Moves (alone e P) (alone (moved_expr to e) Q)
  alones e {P = P} {Q = Q} h = record { by = go } where
    go : (ts rest : List Token) → alone e P ts rest → alone (moved_expr to e) Q (moved_tokens to ts) (moved_tokens to rest)
    go [] rest x = h.by [] rest x
    go (t ∷ ts) rest x = ((λ yes. form_moved e (x.0 yes)), h.by (t ∷ ts) rest x.1)

  ends : Moves goes_on goes_on
  ends = record { by = go } where
    go : (ts rest : List Token) → goes_on ts rest → goes_on (moved_tokens to ts) (moved_tokens to rest)
    go [] rest x = absurd x
    go (t ∷ ts) rest x = (x.0, ap (moved_tokens to) x.1)

  -- ---- the productions

  module _ (names : List (List ℕ)) where
    names_move : (n : NameAt) → Moves (named names n) (named names (moved_name to n))
    names_move n = record { by = λ ts rest (text, is, h). (text, is, ap (moved_tokens to) h) }

    members_move : (n : Name) → Moves (member names n) (member names n)
    members_move n = record { by = λ ts rest (at, h). (to at, (names_move (record { name = n; at = at })).by ts rest h) }

    types_move : (d : ℕ) (x : TypeExpr) → Moves (IsType names d x) (IsType names d (moved_type to x))
    types_move d (int_type at) = puts (k.Word w.Int) at
    types_move d (bool_type at) = puts (k.Word w.Bool) at
    types_move d (str_type at) = puts (k.Word w.Str) at
    types_move d (named_type n) = names_move n
    types_move d (array_type at x) = seq (puts (k.Sign s.OpenBracket) at) (inner (λ d. seq (marks s.CloseBracket) (types_move d x)) d)
    types_move d (ref_type at x) = seq (puts (k.Sign s.Ampersand) at) (inner (λ d. types_move d x) d)
    types_move d (imm_ref_type at x) = seq (puts (k.Sign s.Ampersand) at) (inner (λ d. seq (keys w.Imm) (types_move d x)) d)
    types_move d (iso_type at x) = seq (puts (k.Word w.Iso) at) (inner (λ d. types_move d x) d)

    mutual
      exprs_move : (r d : ℕ) (e : Expr) → Moves (IsExpr names r d e) (IsExpr names r d (moved_expr to e))
      exprs_move r d (set at p e) = given (whole ≤ r) (seq (puts (k.Word w.Set) at) (inner (λ d. seq (exprs_move postfix d p) (seq (marks s.Assign) (exprs_move whole d e))) d))
      exprs_move r d (chain e ls) = record { by = λ ts rest (below, lt, has, x). (below, lt, links_moved (suc below) ls has, (seq (exprs_move below d e) (links_move below d ls)).by ts rest x) }
      exprs_move r d (unary at op e) = given (operand ≤ r) (seq (puts (unary_kind op) at) (inner (λ d. exprs_move operand d e) d))
      exprs_move r d (steps e ss) = record { by = λ ts rest ((le, has), x). ((le, steps_moved ss has), (seq (exprs_move primary d e) (steps_move d ss)).by ts rest x) }
      exprs_move r d (number at n) = puts (k.Number n) at
      exprs_move r d (quote at text) = puts (k.Quote text) at
      exprs_move r d (truth at b) = puts (truth_kind b) at
      exprs_move r d (name n) = names_move n
      exprs_move r d (call n es) = seq (names_move n) (seq (marks s.OpenParen) (seq (inner (λ d. args_move d es) d) (marks s.CloseParen)))
      exprs_move r d (paren at e) = seq (puts (k.Sign s.OpenParen) at) (seq (inner (λ d. exprs_move whole d e) d) (marks s.CloseParen))
      exprs_move r d (array at x es) = seq (puts (k.Sign s.OpenBracket) at) (seq (inner (λ d. seq (marks s.CloseBracket) (types_move d x)) d) (seq (marks s.OpenParen) (seq (inner (λ d. args_move d es) d) (marks s.CloseParen))))
      exprs_move r d (iso at b) = seq (puts (k.Word w.Iso) at) (block_moves d b)
      exprs_move r d (form f) = form_moves d f

      args_move : (d : ℕ) (es : Exprs) → Moves (AreArgs names d es) (AreArgs names d (moved_exprs to es))
      args_move d no_exprs = nothings
      args_move d (more_exprs e es) = seq (exprs_move whole d e) (more_args_move d es)

      more_args_move : (d : ℕ) (es : Exprs) → Moves (AreMoreArgs names d es) (AreMoreArgs names d (moved_exprs to es))
      more_args_move d no_exprs = nothings
      more_args_move d (more_exprs e es) = seq (marks s.Comma) (seq (exprs_move whole d e) (more_args_move d es))

      link_moves : (below d : ℕ) (x : Link) → Moves (IsLink names below d x) (IsLink names below d (moved_link to x))
      link_moves below d (link at op e) = given (rank op ≡ suc below) (seq (puts (binary_kind op) at) (exprs_move below d e))

      links_move : (below d : ℕ) (ls : Links) → Moves (AreLinks names below d ls) (AreLinks names below d (moved_links to ls))
      links_move below d no_links = nothings
      links_move below d (more_links x ls) = seq (link_moves below d x) (links_move below d ls)

      step_moves : (d : ℕ) (x : Step) → Moves (IsStep names d x) (IsStep names d (moved_step to x))
      step_moves d (field at n) = seq (puts (k.Sign s.Dot) at) (members_move n)
      step_moves d (method at n es) = seq (puts (k.Sign s.Dot) at) (seq (members_move n) (seq (marks s.OpenParen) (seq (inner (λ d. args_move d es) d) (marks s.CloseParen))))
      step_moves d (index at e) = seq (puts (k.Sign s.OpenBracket) at) (seq (inner (λ d. exprs_move whole d e) d) (marks s.CloseBracket))

      steps_move : (d : ℕ) (ss : Steps) → Moves (AreSteps names d ss) (AreSteps names d (moved_steps to ss))
      steps_move d no_steps = nothings
      steps_move d (more_steps x ss) = seq (step_moves d x) (steps_move d ss)

      form_moves : (d : ℕ) (f : Form) → Moves (IsForm names d f) (IsForm names d (moved_form to f))
      form_moves d (branch at c b es) = seq (puts (k.Word w.If) at) (seq (inner (λ d. exprs_move whole d c) d) (seq (block_moves d b) (elses_move d es)))
      form_moves d (pure at b) = seq (puts (k.Word w.Pure) at) (block_moves d b)
      form_moves d (parallel_range at n a e b) = seq (puts (k.Word w.Parallel) at) (seq (inner (λ d. seq (keys w.Foreach) (seq (names_move n) (seq (keys w.In) (seq (exprs_move whole d a) (seq (marks s.DotDot) (exprs_move whole d e)))))) d) (block_moves d b))
      form_moves d (parallel_each at n e b) = seq (puts (k.Word w.Parallel) at) (seq (inner (λ d. seq (keys w.Foreach) (seq (names_move n) (seq (keys w.In) (exprs_move whole d e)))) d) (block_moves d b))

      else_if_moves : (d : ℕ) (x : ElseIf) → Moves (IsElseIf names d x) (IsElseIf names d (moved_else_if to x))
      else_if_moves d (else_if at c b) = seq (keys w.Else) (seq (puts (k.Word w.If) at) (seq (inner (λ d. exprs_move whole d c) d) (block_moves d b)))

      elses_move : (d : ℕ) (es : Elses) → Moves (AreElses names d es) (AreElses names d (moved_elses to es))
      elses_move d no_else = nothings
      elses_move d (otherwise b) = seq (keys w.Else) (block_moves d b)
      elses_move d (more_elses x es) = seq (else_if_moves d x) (elses_move d es)

      block_moves : (d : ℕ) (b : Block) → Moves (IsBlock names d b) (IsBlock names d (moved_block to b))
      block_moves d (block at end ss) = seq (puts (k.Sign s.OpenBrace) at) (seq (inner (λ d. stmts_move d ss) d) (puts (k.Sign s.CloseBrace) end))

      stmts_move : (d : ℕ) (ss : Stmts) → Moves (AreStmts names d ss) (AreStmts names d (moved_stmts to ss))
      stmts_move d no_stmts = nothings
      stmts_move d (last e) = alones e (exprs_move whole d e)
      stmts_move d (more_stmts x xs) = seq (stmt_moves d x) (stmts_move d xs)

      stmt_moves : (d : ℕ) (x : Stmt) → Moves (IsStmt names d x) (IsStmt names d (moved_stmt to x))
      stmt_moves d (declare n e) = seq (names_move n) (seq (marks s.Assign) (seq (exprs_move whole d e) (marks s.Semicolon)))
      stmt_moves d (destructure at ns e) = seq (puts (k.Sign s.OpenBracket) at) (seq (inner (λ d. commas (moved_name to) names_move ns) d) (seq (marks s.CloseBracket) (seq (marks s.Assign) (seq (exprs_move whole d e) (marks s.Semicolon)))))
      stmt_moves d (return_nothing at) = seq (puts (k.Word w.Return) at) (marks s.Semicolon)
      stmt_moves d (return_value at e) = seq (puts (k.Word w.Return) at) (seq (exprs_move whole d e) (marks s.Semicolon))
      stmt_moves d (while at c b) = seq (puts (k.Word w.While) at) (seq (exprs_move whole d c) (block_moves d b))
      stmt_moves d (foreach at n a e b) = seq (puts (k.Word w.Foreach) at) (seq (names_move n) (seq (keys w.In) (seq (exprs_move whole d a) (seq (marks s.DotDot) (seq (exprs_move whole d e) (block_moves d b))))))
      stmt_moves d (form_stmt f) = seq (form_moves d f) ends
      stmt_moves d (express e) = seq (alones e (exprs_move whole d e)) (marks s.Semicolon)

    params_move : (d : ℕ) (x : Param) → Moves (IsParam names d x) (IsParam names d (moved_param to x))
    params_move d (param n x) = seq (names_move n) (types_move d x)

    head_moves : (d : ℕ) (h : Head) → Moves (IsHead names d h) (IsHead names d (moved_head to h))
    head_moves d (head p n ps x) = seq (whens p (keys w.Pure)) (seq (keys w.Func) (seq (names_move n) (seq (marks s.OpenParen) (seq (inner (λ d. commas (moved_param to) (params_move d) ps) d) (seq (marks s.CloseParen) (optionals (moved_type to) (types_move d) x))))))

    function_moves : (d : ℕ) (f : Function) → Moves (IsFunction names d f) (IsFunction names d (moved_function to f))
    function_moves d (function h b) = seq (head_moves d h) (block_moves d b)

    field_moves : (d : ℕ) (f : FieldDecl) → Moves (IsField names d f) (IsField names d (moved_field to f))
    field_moves d (field_decl n may_be_set x) = seq (names_move n) (seq (whens may_be_set (marks s.Bang)) (seq (types_move d x) (marks s.Semicolon)))

    item_moves : (d : ℕ) (x : Item) → Moves (IsItem names d x) (IsItem names d (moved_item to x))
    item_moves d (struct_item n fs) = seq (keys w.Struct) (seq (names_move n) (seq (marks s.OpenBrace) (seq (inner (λ d. eachs (moved_field to) (field_moves d) fs) d) (marks s.CloseBrace))))
    item_moves d (interface_item n hs) = seq (keys w.Interface) (seq (names_move n) (seq (marks s.OpenBrace) (seq (inner (λ d. eachs (moved_head to) (λ h. seq (head_moves d h) (marks s.Semicolon)) hs) d) (marks s.CloseBrace))))
    item_moves d (impl_item at i n fs) = seq (puts (k.Word w.Impl) at) (seq (names_move i) (seq (keys w.For) (seq (names_move n) (seq (marks s.OpenBrace) (seq (inner (λ d. eachs (moved_function to) (function_moves d) fs) d) (marks s.CloseBrace))))))
    item_moves d (function_item f) = function_moves d f

  -- ---- a whole program

  texts_by : (kind : TokenKind) (t : Token) (ts : List Token) → t.kind ≡ kind → texts_in (moved_tokens to ts) ≡ texts_in ts → texts_in (moved_tokens to (t ∷ ts)) ≡ texts_in (t ∷ ts)
  texts_by (k.Name text) t ts is more = rw is (ap (λ (z : List (List ℕ)). text ∷ z) more)
  texts_by _ t ts is more = rw is more

  texts_moved : (ts : List Token) → texts_in (moved_tokens to ts) ≡ texts_in ts
  texts_moved [] = refl
  texts_moved (t ∷ ts) = texts_by t.kind t ts refl (texts_moved ts)

  -- the tree with its spots moved is spelled by the tokens with theirs moved
  pub spells_moved : (t : Tree) (ts : List Token) → spells t ts → spells (moved_tree to t) (moved_tokens to ts)
  spells_moved (tree names items) ts h = (h.0 ∙ ap first_seen (sym (texts_moved ts)), (eachs (moved_item to) (item_moves names level_limit) items).by ts [] h.1)
