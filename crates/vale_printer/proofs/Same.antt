-- The layout of a tree has the tokens that spell it.
use Rattle.std.proofs.Common.{◌≡◌, ◌≤◌, ℕ, suc, Bool, true, false, List, [], ◌∷◌, ◌++◌, Some, get_or, refl, sym, ap, subst, ◌∙◌, append_assoc, arith}
use Rattle.vale_base.specs.declared.name.Name.{Name}
use Rattle.vale_base.specs.Limits.{level_limit}
use Rattle.vale_syntax.specs.declared.token.Token.{Token}
use Rattle.vale_syntax.specs.declared.token.TokenKind.TheVariants as k
use Rattle.vale_syntax.specs.declared.token.Sign.TheVariants as s
use Rattle.vale_syntax.specs.declared.token.Word.TheVariants as w
use Rattle.vale_syntax.specs.declared.tree.NameAt.{NameAt}
use Rattle.vale_syntax.specs.declared.tree.UnaryOp.{UnaryOp}
use Rattle.vale_syntax.specs.declared.tree.UnaryOp.TheVariants as u
use Rattle.vale_syntax.specs.Grammar as g
use Rattle.vale_syntax.specs.Grammar.{Part, token, number_of, whole, postfix, primary, operand, alone, goes_on, binary_kind, unary_kind, truth_kind, IsType, IsExpr, AreArgs, AreMoreArgs, IsLink, AreLinks, IsStep, AreSteps, IsForm, IsElseIf, AreElses, IsBlock, AreStmts, IsStmt, IsParam, IsHead, IsFunction, IsField, IsItem, spells, HasSteps, rank, ◌▸◌, deeper, word, sign, one, names_in}
use Rattle.vale_syntax.specs.Layout as l
use Rattle.vale_syntax.specs.Layout.{Layout, mark, key, gap, new_line, around, after_word, after_unary, lay_type, lay_expr, lay_args, lay_more_args, lay_link, lay_links, lay_step, lay_steps, lay_form, lay_else_if, lay_elses, lay_block, lay_stmts, lay_stmt, lay_param, lay_head, lay_function, lay_field, lay_members, lay_item, lay_tree, opens}
use Rattle.vale_syntax.specs.Tree.{TypeExpr, int_type, bool_type, str_type, named_type, array_type, ref_type, imm_ref_type, iso_type, Expr, set, chain, unary, steps, number, quote, truth, name, call, paren, array, iso, form, Exprs, no_exprs, more_exprs, Link, link, Links, no_links, more_links, Step, field, method, index, Steps, no_steps, more_steps, Form, branch, pure, parallel_range, parallel_each, ElseIf, else_if, Elses, no_else, otherwise, more_elses, Block, block, Stmt, declare, destructure, return_nothing, return_value, while, foreach, form_stmt, express, Stmts, no_stmts, last, more_stmts, Param, param, Head, head, Function, function, FieldDecl, field_decl, Item, struct_item, interface_item, impl_item, function_item}
use Rattle.vale_syntax.specs.Moved.{kinds}
use Rattle.vale_printer.proofs.Lays.{laid, Lays, seq, re, Blank, behind, before, no_layout, gaps, lines, puts, marks, keys, nothings, arounds, inner, whens, optionals, eachs, commas, given}

-- ---- spaces

spaces : (e : Expr) (b : Bool) → opens e ≡ b → Blank (after_word e)
spaces e true h = subst Blank (sym (word_true e h)) no_layout where
  word_true : (e : Expr) → opens e ≡ true → after_word e ≡ []
  word_true e h = rw h refl
spaces e false h = subst Blank (sym (word_false e h)) gaps where
  word_false : (e : Expr) → opens e ≡ false → after_word e ≡ gap
  word_false e h = rw h refl

word_space : (e : Expr) → Blank (after_word e)
word_space e = spaces e (opens e) refl

unary_space : (op : UnaryOp) (e : Expr) → Blank (after_unary op e)
unary_space u.Minus e = no_layout
unary_space u.Borrow e = no_layout
unary_space u.Not e = word_space e
unary_space u.Merge e = word_space e

-- ---- parts that look at what follows

alones : (e : Expr) {p : Layout} {P : Part} → Lays p P → Lays p (alone e P)
alones e {p = p} {P = P} h = record { by = go } where
  go : (ts rest : List Token) → alone e P ts rest → laid p (kinds rest) ≡ kinds ts
  go [] rest x = h.by [] rest x
  go (t ∷ ts) rest x = h.by (t ∷ ts) rest x.1

goes_on_same : (ts rest : List Token) → goes_on ts rest → ts ≡ rest
goes_on_same [] rest h = absurd h
goes_on_same (t ∷ ts) rest h = h.1

ends : {p : Layout} {P : Part} → Lays p P → Lays p (P ▸ goes_on)
ends {p = p} h = record { by = λ ts rest (mid, x, y). ap (λ (z : List Token). laid p (kinds z)) (sym (goes_on_same mid rest y)) ∙ h.by ts mid x }

-- a first part, and what stands after it, where its space isn't known
grouped : (a b c e : Layout) {P : Part} → Lays (a ++ ((b ++ c) ++ e)) P → Lays (((a ++ b) ++ c) ++ e) P
grouped a b c e {P = P} h = let q : a ++ ((b ++ c) ++ e) ≡ ((a ++ b) ++ c) ++ e = grind (arith, append_assoc) in subst (λ (z : Layout). Lays z P) q h

module _ (names : List (List ℕ)) (numbered : (text : List ℕ) (n : ℕ) → number_of names text ≡ Some n → get_or names n [] ≡ text) where
  names_lay : (n : NameAt) → Lays (l.named names n) (g.named names n)
  unfolding laid
  names_lay n = record { by = λ ts rest (text, is, h). ap (λ (z : List ℕ). k.Name z ∷ kinds rest) (numbered text n.name.0 is) ∙ sym (ap kinds h) }

  members_lay : (n : Name) → Lays (l.member names n) (g.member names n)
  members_lay n = record { by = λ ts rest (at, h). (names_lay (record { name = n; at = at })).by ts rest h }

  types_lay : (d : ℕ) (x : TypeExpr) → Lays (lay_type names x) (IsType names d x)
  types_lay d (int_type at) = puts (k.Word w.Int) at
  types_lay d (bool_type at) = puts (k.Word w.Bool) at
  types_lay d (str_type at) = puts (k.Word w.Str) at
  types_lay d (named_type n) = names_lay n
  types_lay d (array_type at x) = seq (puts (k.Sign s.OpenBracket) at) (inner (λ d. seq (marks s.CloseBracket) (types_lay d x)) d)
  types_lay d (ref_type at x) = seq (puts (k.Sign s.Ampersand) at) (inner (λ d. types_lay d x) d)
  types_lay d (imm_ref_type at x) = seq (puts (k.Sign s.Ampersand) at) (inner (λ d. seq (behind gaps (keys w.Imm)) (types_lay d x)) d)
  types_lay d (iso_type at x) = seq (behind gaps (puts (k.Word w.Iso) at)) (inner (λ d. types_lay d x) d)

  mutual
    exprs_lay : (r d i : ℕ) (e : Expr) → Lays (lay_expr names i e) (IsExpr names r d e)
    exprs_lay r d i (set at p e) = given (whole ≤ r) (grouped (key w.Set ++ after_word p) (lay_expr names i p) (around (mark s.Assign)) (lay_expr names i e) (seq (behind (word_space p) (puts (k.Word w.Set) at)) (inner (λ d. re (seq (seq (exprs_lay postfix d i p) (arounds (marks s.Assign))) (exprs_lay whole d i e))) d)))
    exprs_lay r d i (chain e ls) = record { by = λ ts rest (below, lt, has, x). (seq (exprs_lay below d i e) (links_lay below d i ls)).by ts rest x }
    exprs_lay r d i (unary at op e) = given (operand ≤ r) (seq (behind (unary_space op e) (puts (unary_kind op) at)) (inner (λ d. exprs_lay operand d i e) d))
    exprs_lay r d i (steps e ss) = given (postfix ≤ r × HasSteps ss) (seq (exprs_lay primary d i e) (steps_lay d i ss))
    exprs_lay r d i (number at n) = puts (k.Number n) at
    exprs_lay r d i (quote at text) = puts (k.Quote text) at
    exprs_lay r d i (truth at b) = puts (truth_kind b) at
    exprs_lay r d i (name n) = names_lay n
    exprs_lay r d i (call n es) = re (re (seq (seq (seq (names_lay n) (marks s.OpenParen)) (inner (λ d. args_lay d i es) d)) (marks s.CloseParen)))
    exprs_lay r d i (paren at e) = re (seq (seq (puts (k.Sign s.OpenParen) at) (inner (λ d. exprs_lay whole d i e) d)) (marks s.CloseParen))
    exprs_lay r d i (array at x es) = re (re (re (seq (seq (seq (seq (puts (k.Sign s.OpenBracket) at) (inner (λ d. seq (marks s.CloseBracket) (types_lay d x)) d)) (marks s.OpenParen)) (inner (λ d. args_lay d i es) d)) (marks s.CloseParen))))
    exprs_lay r d i (iso at b) = seq (behind gaps (puts (k.Word w.Iso) at)) (block_lays d i b)
    exprs_lay r d i (form f) = form_lays d i f

    args_lay : (d i : ℕ) (es : Exprs) → Lays (lay_args names i es) (AreArgs names d es)
    args_lay d i no_exprs = nothings
    args_lay d i (more_exprs e es) = seq (exprs_lay whole d i e) (more_args_lay d i es)

    more_args_lay : (d i : ℕ) (es : Exprs) → Lays (lay_more_args names i es) (AreMoreArgs names d es)
    more_args_lay d i no_exprs = nothings
    more_args_lay d i (more_exprs e es) = re (seq (seq (behind gaps (marks s.Comma)) (exprs_lay whole d i e)) (more_args_lay d i es))

    link_lays : (below d i : ℕ) (x : Link) → Lays (lay_link names i x) (IsLink names below d x)
    link_lays below d i (link at op e) = given (rank op ≡ suc below) (seq (arounds (puts (binary_kind op) at)) (exprs_lay below d i e))

    links_lay : (below d i : ℕ) (ls : Links) → Lays (lay_links names i ls) (AreLinks names below d ls)
    links_lay below d i no_links = nothings
    links_lay below d i (more_links x ls) = seq (link_lays below d i x) (links_lay below d i ls)

    step_lays : (d i : ℕ) (x : Step) → Lays (lay_step names i x) (IsStep names d x)
    step_lays d i (field at n) = seq (puts (k.Sign s.Dot) at) (members_lay n)
    step_lays d i (method at n es) = re (re (re (seq (seq (seq (seq (puts (k.Sign s.Dot) at) (members_lay n)) (marks s.OpenParen)) (inner (λ d. args_lay d i es) d)) (marks s.CloseParen))))
    step_lays d i (index at e) = re (seq (seq (puts (k.Sign s.OpenBracket) at) (inner (λ d. exprs_lay whole d i e) d)) (marks s.CloseBracket))

    steps_lay : (d i : ℕ) (ss : Steps) → Lays (lay_steps names i ss) (AreSteps names d ss)
    steps_lay d i no_steps = nothings
    steps_lay d i (more_steps x ss) = seq (step_lays d i x) (steps_lay d i ss)

    form_lays : (d i : ℕ) (f : Form) → Lays (lay_form names i f) (IsForm names d f)
    form_lays d i (branch at c b es) = re (re (seq (seq (behind gaps (seq (behind (word_space c) (puts (k.Word w.If) at)) (inner (λ d. exprs_lay whole d i c) d))) (block_lays d i b)) (elses_lay d i es)))
    form_lays d i (pure at b) = seq (behind gaps (puts (k.Word w.Pure) at)) (block_lays d i b)
    form_lays d i (parallel_range at n a e b) = re (seq (behind gaps (seq (behind gaps (puts (k.Word w.Parallel) at)) (inner (λ d. re (re (re (re (seq (seq (seq (seq (seq (behind gaps (keys w.Foreach)) (names_lay n)) (arounds (keys w.In))) (exprs_lay whole d i a)) (marks s.DotDot)) (exprs_lay whole d i e)))))) d))) (block_lays d i b))
    form_lays d i (parallel_each at n e b) = re (seq (behind gaps (seq (behind gaps (puts (k.Word w.Parallel) at)) (inner (λ d. re (re (seq (seq (seq (behind gaps (keys w.Foreach)) (names_lay n)) (arounds (keys w.In))) (exprs_lay whole d i e)))) d))) (block_lays d i b))

    else_if_lays : (d i : ℕ) (x : ElseIf) → Lays (lay_else_if names i x) (IsElseIf names d x)
    else_if_lays d i (else_if at c b) = re (re (seq (behind gaps (seq (behind (word_space c) (seq (behind gaps (before gaps (keys w.Else))) (puts (k.Word w.If) at))) (inner (λ d. exprs_lay whole d i c) d))) (block_lays d i b)))

    elses_lay : (d i : ℕ) (es : Elses) → Lays (lay_elses names i es) (AreElses names d es)
    elses_lay d i no_else = nothings
    elses_lay d i (otherwise b) = seq (behind gaps (before gaps (keys w.Else))) (block_lays d i b)
    elses_lay d i (more_elses x es) = seq (else_if_lays d i x) (elses_lay d i es)

    block_lays : (d i : ℕ) (b : Block) → Lays (lay_block names i b) (IsBlock names d b)
    block_lays d i (block at end ss) = re (seq (behind (lines i) (seq (puts (k.Sign s.OpenBrace) at) (inner (λ d. stmts_lay d (suc i) ss) d))) (puts (k.Sign s.CloseBrace) end))

    stmts_lay : (d i : ℕ) (ss : Stmts) → Lays (lay_stmts names i ss) (AreStmts names d ss)
    stmts_lay d i no_stmts = nothings
    stmts_lay d i (last e) = before (lines i) (alones e (exprs_lay whole d i e))
    stmts_lay d i (more_stmts x xs) = seq (before (lines i) (stmt_lays d i x)) (stmts_lay d i xs)

    stmt_lays : (d i : ℕ) (x : Stmt) → Lays (lay_stmt names i x) (IsStmt names d x)
    stmt_lays d i (declare n e) = re (re (seq (seq (seq (names_lay n) (arounds (marks s.Assign))) (exprs_lay whole d i e)) (marks s.Semicolon)))
    stmt_lays d i (destructure at ns e) = re (re (re (re (seq (seq (seq (seq (seq (puts (k.Sign s.OpenBracket) at) (inner (λ d. commas names_lay ns) d)) (marks s.CloseBracket)) (arounds (marks s.Assign))) (exprs_lay whole d i e)) (marks s.Semicolon)))))
    stmt_lays d i (return_nothing at) = seq (puts (k.Word w.Return) at) (marks s.Semicolon)
    stmt_lays d i (return_value at e) = re (seq (seq (behind (word_space e) (puts (k.Word w.Return) at)) (exprs_lay whole d i e)) (marks s.Semicolon))
    stmt_lays d i (while at c b) = re (seq (behind gaps (seq (behind (word_space c) (puts (k.Word w.While) at)) (exprs_lay whole d i c))) (block_lays d i b))
    stmt_lays d i (foreach at n a e b) = re (re (re (re (re (seq (behind gaps (seq (seq (seq (seq (seq (behind gaps (puts (k.Word w.Foreach) at)) (names_lay n)) (arounds (keys w.In))) (exprs_lay whole d i a)) (marks s.DotDot)) (exprs_lay whole d i e))) (block_lays d i b))))))
    stmt_lays d i (form_stmt f) = ends (form_lays d i f)
    stmt_lays d i (express e) = seq (alones e (exprs_lay whole d i e)) (marks s.Semicolon)

  params_lay : (d : ℕ) (x : Param) → Lays (lay_param names x) (IsParam names d x)
  params_lay d (param n x) = seq (behind gaps (names_lay n)) (types_lay d x)

  head_lays : (d : ℕ) (h : Head) → Lays (lay_head names h) (IsHead names d h)
  head_lays d (head p n ps x) = re (re (re (re (re (seq (seq (seq (seq (seq (behind gaps (seq (whens p (behind gaps (keys w.Pure))) (keys w.Func))) (names_lay n)) (marks s.OpenParen)) (inner (λ d. commas (params_lay d) ps) d)) (marks s.CloseParen)) (optionals (λ y. before gaps (types_lay d y)) x))))))

  function_lays : (d i : ℕ) (f : Function) → Lays (lay_function names i f) (IsFunction names d f)
  function_lays d i (function h b) = seq (behind gaps (head_lays d h)) (block_lays d i b)

  field_lays : (d : ℕ) (f : FieldDecl) → Lays (lay_field names f) (IsField names d f)
  field_lays d (field_decl n may_be_set x) = re (re (seq (seq (behind gaps (seq (names_lay n) (whens may_be_set (marks s.Bang)))) (types_lay d x)) (marks s.Semicolon)))

  members_in_braces : {X : Type 0} (p : X → Layout) (P : ℕ → X → Part) → ((d : ℕ) (x : X) → Lays (p x) (P d x)) → (d : ℕ) (xs : List X)
      → Lays (lay_members names p xs) (sign s.OpenBrace ▸ deeper d (λ d. g.each (P d) xs) ▸ sign s.CloseBrace)
  members_in_braces p P h d xs = re (seq (behind (lines 0) (seq (marks s.OpenBrace) (inner (λ d. eachs (λ x. before (lines 1) (h d x)) xs) d))) (marks s.CloseBrace))

  item_lays : (d : ℕ) (x : Item) → Lays (lay_item names x) (IsItem names d x)
  item_lays d (struct_item n fs) = re (seq (behind gaps (seq (behind gaps (keys w.Struct)) (names_lay n))) (members_in_braces (lay_field names) (IsField names) field_lays d fs))
  item_lays d (interface_item n hs) = re (seq (behind gaps (seq (behind gaps (keys w.Interface)) (names_lay n))) (members_in_braces (λ h. lay_head names h ++ mark s.Semicolon) (λ d h. IsHead names d h ▸ sign s.Semicolon) (λ d h. seq (head_lays d h) (marks s.Semicolon)) d hs))
  item_lays d (impl_item at i n fs) = re (re (re (seq (behind gaps (seq (seq (seq (behind gaps (puts (k.Word w.Impl) at)) (names_lay i)) (arounds (keys w.For))) (names_lay n))) (members_in_braces (lay_function names 1) (IsFunction names) (λ d f. function_lays d 1 f) d fs))))
  item_lays d (function_item f) = function_lays d 0 f

  pub items_lay : (items : List Item) → Lays (l.each (λ x. lay_item names x ++ new_line 0) items) (g.each (IsItem names level_limit) items)
  items_lay items = eachs (λ x. behind (lines 0) (item_lays level_limit x)) items
