-- The pieces of a layout stand apart: none runs on into the one after it.
use Rattle.std.proofs.Common.{◌≡◌, ℕ, suc, Bool, true, false, List, [], ◌∷◌, ◌++◌, Option, None, Some, refl, sym, subst, ◌∙◌, append_assoc}
use Rattle.vale_base.specs.declared.name.Name.{Name}
use Rattle.vale_syntax.specs.declared.token.TokenKind.{TokenKind}
use Rattle.vale_syntax.specs.declared.token.TokenKind.TheVariants as k
use Rattle.vale_syntax.specs.declared.token.Sign.{Sign}
use Rattle.vale_syntax.specs.declared.token.Sign.TheVariants as s
use Rattle.vale_syntax.specs.declared.token.Word.{Word}
use Rattle.vale_syntax.specs.declared.token.Word.TheVariants as w
use Rattle.vale_syntax.specs.declared.tree.NameAt.{NameAt}
use Rattle.vale_syntax.specs.declared.tree.UnaryOp.TheVariants as u
use Rattle.vale_syntax.specs.Grammar.{binary_kind}
use Rattle.vale_syntax.specs.Layout.{Layout, put, mark, key, gap, new_line, around, when, optional, each, with_commas, after_word, opens, member, named, lay_type, lay_expr, lay_args, lay_more_args, lay_link, lay_links, lay_step, lay_steps, lay_form, lay_else_if, lay_elses, lay_block, lay_stmts, lay_stmt, lay_param, lay_head, lay_function, lay_field, lay_members, lay_item, lay_tree}
use Rattle.vale_syntax.specs.Tree.{TypeExpr, int_type, bool_type, str_type, named_type, array_type, ref_type, imm_ref_type, iso_type, Expr, set, chain, unary, steps, number, quote, truth, name, call, paren, array, iso, form, Exprs, no_exprs, more_exprs, Link, link, Links, no_links, more_links, Step, field, method, index, Steps, no_steps, more_steps, Form, branch, pure, parallel_range, parallel_each, ElseIf, else_if, Elses, no_else, otherwise, more_elses, Block, block, Stmt, declare, destructure, return_nothing, return_value, while, foreach, form_stmt, express, Stmts, no_stmts, last, more_stmts, Param, param, Head, head, Function, function, FieldDecl, field_decl, Item, struct_item, interface_item, impl_item, function_item, Tree, tree}
use Rattle.vale_printer.proofs.Apart.{is_short, begins_wordy, Apart}

-- ---- how a part stands between others

-- a part that may be followed by anything but a name, a word or a number
record Neat (p : Layout) : Type 0 where
  by : (q : Layout) → begins_wordy q ≡ false → Apart q → Apart (p ++ q)

-- a part that may be followed by anything
record Free (p : Layout) : Type 0 where
  by : (q : Layout) → Apart q → Apart (p ++ q)

-- a part that doesn't begin with a name, a word or a number, where it has pieces
record Softly (p : Layout) : Type 0 where
  by : (q : Layout) → begins_wordy q ≡ false → begins_wordy (p ++ q) ≡ false

-- a part that has pieces, and doesn't begin with a name, a word or a number
record Stops (p : Layout) : Type 0 where
  by : (q : Layout) → begins_wordy (p ++ q) ≡ false

neat : {p : Layout} → Free p → Neat p
neat h = record { by = λ q soft a. h.by q a }

softly : {p : Layout} → Stops p → Softly p
softly h = record { by = λ q soft. h.by q }

free : {p q : Layout} → Free p → Neat q → Neat (p ++ q)
free {p = p} {q = q} h i = record { by = λ r soft a. subst Apart (sym (append_assoc p q r)) (h.by (q ++ r) (i.by r soft a)) }

-- one part, and then one that begins softly
seq : {p q : Layout} → Neat p → Softly q → Neat q → Neat (p ++ q)
seq {p = p} {q = q} h j i = record { by = λ r soft a. subst Apart (sym (append_assoc p q r)) (h.by (q ++ r) (j.by r soft) (i.by r soft a)) }

seq_free : {p q : Layout} → Neat p → Stops q → Free q → Free (p ++ q)
seq_free {p = p} {q = q} h j i = record { by = λ r a. subst Apart (sym (append_assoc p q r)) (h.by (q ++ r) (j.by r) (i.by r a)) }

regroup : (p q r : Layout) → Free (p ++ (q ++ r)) → Free ((p ++ q) ++ r)
regroup p q r h = subst Free (sym (append_assoc p q r)) h

stops_more : {p : Layout} (q : Layout) → Stops p → Stops (p ++ q)
stops_more {p = p} q h = record { by = λ r. subst (λ (z : Layout). begins_wordy z ≡ false) (sym (append_assoc p q r)) (h.by (q ++ r)) }

softly_more : {p q : Layout} → Softly p → Softly q → Softly (p ++ q)
softly_more {p = p} {q = q} h i = record { by = λ r soft. subst (λ (z : Layout). begins_wordy z ≡ false) (sym (append_assoc p q r)) (h.by (q ++ r) (i.by r soft)) }

-- ---- parts

false_true : {C : Type 0} → false ≡ true → C
false_true e = absurd cc

nothings : Neat []
nothings = record { by = λ q soft a. a }

no_part : Softly []
no_part = record { by = λ q soft. soft }

no_pieces : Free []
no_pieces = record { by = λ q a. a }

-- a token that is no sign that begins a longer one
puts : (kind : TokenKind) → is_short kind ≡ false → Neat (put kind)
puts kind h = record { by = λ q soft a. ((λ e. soft), (λ e. false_true (sym h ∙ e)), a) }

keys : (x : Word) → Neat (key x)
keys x = puts (k.Word x) refl

marks : (x : Sign) → is_short (k.Sign x) ≡ false → Free (mark x)
marks x h = record { by = λ q a. ((λ e. false_true e), (λ e. false_true (sym h ∙ e)), a) }

gaps : Free gap
gaps = record { by = λ q a. a }

lines : (d : ℕ) → Free (new_line d)
lines d = record { by = λ q a. a }

-- any token before a space
spaced : (kind : TokenKind) → Free (put kind ++ gap)
spaced kind = record { by = λ q a. ((λ e. refl), (λ e. refl), a) }

arounds : (kind : TokenKind) → Free (around (put kind))
arounds kind = record { by = λ q a. ((λ e. refl), (λ e. refl), a) }

-- a part, and a token or a space after it
mark_behind : {p : Layout} (x : Sign) → is_short (k.Sign x) ≡ false → Neat p → Free (p ++ mark x)
mark_behind x e h = seq_free h (record { by = λ q. refl }) (marks x e)

closed : {p : Layout} (x : Sign) → is_short (k.Sign x) ≡ false → Neat p → Neat (p ++ mark x)
closed x e h = neat (mark_behind x e h)

gap_behind : {p : Layout} → Neat p → Free (p ++ gap)
gap_behind h = seq_free h (record { by = λ q. refl }) gaps

line_behind : {p : Layout} (d : ℕ) → Neat p → Free (p ++ new_line d)
line_behind d h = seq_free h (record { by = λ q. refl }) (lines d)

around_behind : {p : Layout} (kind : TokenKind) → Neat p → Free (p ++ around (put kind))
around_behind kind h = seq_free h (record { by = λ q. refl }) (arounds kind)

each_soft : {X : Type 0} {p : X → Layout} → ((x : X) → Softly (p x)) → (xs : List X) → Softly (each p xs)
each_soft j [] = no_part
each_soft j (x ∷ xs) = softly_more (j x) (each_soft j xs)

eachs : {X : Type 0} {p : X → Layout} → ((x : X) → Neat (p x)) → ((x : X) → Softly (p x)) → (xs : List X) → Neat (each p xs)
eachs h j [] = nothings
eachs h j (x ∷ xs) = seq (h x) (each_soft j xs) (eachs h j xs)

comma_soft : (p : Layout) → Softly (mark s.Comma ++ gap ++ p)
comma_soft p = record { by = λ q soft. refl }

comma_neat : {p : Layout} → Neat p → Neat (mark s.Comma ++ gap ++ p)
comma_neat h = free (spaced (k.Sign s.Comma)) h

commas : {X : Type 0} {p : X → Layout} → ((x : X) → Neat (p x)) → (xs : List X) → Neat (with_commas p xs)
commas h [] = nothings
commas {p = p} h (x ∷ xs) = seq (h x) (each_soft (λ y. comma_soft (p y)) xs) (eachs (λ y. comma_neat (h y)) (λ y. comma_soft (p y)) xs)

-- ---- the space after a word

after_by : (x : Word) (e : Expr) {p : Layout} (b : Bool) → opens e ≡ b → (opens e ≡ true → Stops p) → Neat p → Neat (key x ++ after_word e ++ p)
after_by x e {p} true h j i = subst (λ (z : Layout). Neat (key x ++ z ++ p)) (sym (word_true e h)) (seq (keys x) (softly (j h)) i) where
  word_true : (e : Expr) → opens e ≡ true → after_word e ≡ []
  word_true e h = rw h refl
after_by x e {p} false h j i = subst (λ (z : Layout). Neat (key x ++ z ++ p)) (sym (word_false e h)) (free (spaced (k.Word x)) i) where
  word_false : (e : Expr) → opens e ≡ false → after_word e ≡ gap
  word_false e h = rw h refl

after : (x : Word) (e : Expr) {p : Layout} → (opens e ≡ true → Stops p) → Neat p → Neat (key x ++ after_word e ++ p)
after x e j i = after_by x e (opens e) refl j i

-- ---- the productions

module _ (names : List (List ℕ)) where
  name_neat : (n : NameAt) → Neat (named names n)
  name_neat n = puts (k.Name _) refl

  member_neat : (n : Name) → Neat (member names n)
  member_neat n = puts (k.Name _) refl

  type_neat : (x : TypeExpr) → Neat (lay_type names x)
  type_neat (int_type at) = keys w.Int
  type_neat (bool_type at) = keys w.Bool
  type_neat (str_type at) = keys w.Str
  type_neat (named_type n) = name_neat n
  type_neat (array_type at x) = free (marks s.OpenBracket refl) (free (marks s.CloseBracket refl) (type_neat x))
  type_neat (ref_type at x) = free (marks s.Ampersand refl) (type_neat x)
  type_neat (imm_ref_type at x) = free (marks s.Ampersand refl) (free (spaced (k.Word w.Imm)) (type_neat x))
  type_neat (iso_type at x) = free (spaced (k.Word w.Iso)) (type_neat x)

  -- an expression that opens begins with a `(`
  opened : (d : ℕ) (e : Expr) → opens e ≡ true → Stops (lay_expr names d e)
  opened d (paren at e) h = record { by = λ q. refl }
  opened d (chain e ls) h = stops_more (lay_links names d ls) (opened d e h)
  opened d (steps e ss) h = stops_more (lay_steps names d ss) (opened d e h)
  opened d _ h = false_true h

  more_args_soft : (d : ℕ) (es : Exprs) → Softly (lay_more_args names d es)
  more_args_soft d no_exprs = no_part
  more_args_soft d (more_exprs e es) = record { by = λ q soft. refl }

  links_soft : (d : ℕ) (ls : Links) → Softly (lay_links names d ls)
  links_soft d no_links = no_part
  links_soft d (more_links (link at op e) ls) = record { by = λ q soft. refl }

  steps_soft : (d : ℕ) (ss : Steps) → Softly (lay_steps names d ss)
  steps_soft d no_steps = no_part
  steps_soft d (more_steps (field at n) ss) = record { by = λ q soft. refl }
  steps_soft d (more_steps (method at n es) ss) = record { by = λ q soft. refl }
  steps_soft d (more_steps (index at e) ss) = record { by = λ q soft. refl }

  elses_soft : (d : ℕ) (es : Elses) → Softly (lay_elses names d es)
  elses_soft d no_else = no_part
  elses_soft d (otherwise b) = record { by = λ q soft. refl }
  elses_soft d (more_elses (else_if at c b) es) = record { by = λ q soft. refl }

  stmts_soft : (d : ℕ) (ss : Stmts) → Softly (lay_stmts names d ss)
  stmts_soft d no_stmts = no_part
  stmts_soft d (last e) = record { by = λ q soft. refl }
  stmts_soft d (more_stmts x xs) = record { by = λ q soft. refl }

  -- a `.` before a name
  dotted : (n : Name) → Neat (mark s.Dot ++ member names n)
  dotted n = record { by = λ q soft a. ((λ e. false_true e), (λ e. refl), (member_neat n).by q soft a) }

  -- a part, and arguments in parentheses after it
  called : {p q : Layout} → Neat p → Neat q → Neat (p ++ mark s.OpenParen ++ q ++ mark s.CloseParen)
  called h i = closed s.CloseParen refl (free (mark_behind s.OpenParen refl h) i)

  -- the name of a loop, and `in` after it
  looped : {p : Layout} → Free p → (n : NameAt) → Free (p ++ key w.Foreach ++ gap ++ named names n ++ around (key w.In))
  looped h n = around_behind (k.Word w.In) (free (gap_behind (free h (keys w.Foreach))) (name_neat n))

  elsed : Free (gap ++ key w.Else ++ gap)
  elsed = gap_behind (free gaps (keys w.Else))

  mutual
    expr_neat : (d : ℕ) (e : Expr) → Neat (lay_expr names d e)
    expr_neat d (set at p e) = free (around_behind (k.Sign s.Assign) (after w.Set p (opened d p) (expr_neat d p))) (expr_neat d e)
    expr_neat d (chain e ls) = seq (expr_neat d e) (links_soft d ls) (links_neat d ls)
    expr_neat d (unary at u.Minus e) = free (marks s.Minus refl) (expr_neat d e)
    expr_neat d (unary at u.Borrow e) = free (marks s.Ampersand refl) (expr_neat d e)
    expr_neat d (unary at u.Not e) = after w.Not e (opened d e) (expr_neat d e)
    expr_neat d (unary at u.Merge e) = after w.Merge e (opened d e) (expr_neat d e)
    expr_neat d (steps e ss) = seq (expr_neat d e) (steps_soft d ss) (steps_neat d ss)
    expr_neat d (number at n) = puts (k.Number n) refl
    expr_neat d (quote at text) = puts (k.Quote text) refl
    expr_neat d (truth at true) = keys w.True
    expr_neat d (truth at false) = keys w.False
    expr_neat d (name n) = name_neat n
    expr_neat d (call n es) = called (name_neat n) (args_neat d es)
    expr_neat d (paren at e) = closed s.CloseParen refl (free (marks s.OpenParen refl) (expr_neat d e))
    expr_neat d (array at x es) = called (free (marks s.OpenBracket refl) (free (marks s.CloseBracket refl) (type_neat x))) (args_neat d es)
    expr_neat d (iso at b) = free (spaced (k.Word w.Iso)) (block_neat d b)
    expr_neat d (form f) = form_neat d f

    args_neat : (d : ℕ) (es : Exprs) → Neat (lay_args names d es)
    args_neat d no_exprs = nothings
    args_neat d (more_exprs e es) = seq (expr_neat d e) (more_args_soft d es) (more_args_neat d es)

    more_args_neat : (d : ℕ) (es : Exprs) → Neat (lay_more_args names d es)
    more_args_neat d no_exprs = nothings
    more_args_neat d (more_exprs e es) = seq (comma_neat (expr_neat d e)) (more_args_soft d es) (more_args_neat d es)

    link_neat : (d : ℕ) (x : Link) → Neat (lay_link names d x)
    link_neat d (link at op e) = free (arounds (binary_kind op)) (expr_neat d e)

    links_neat : (d : ℕ) (ls : Links) → Neat (lay_links names d ls)
    links_neat d no_links = nothings
    links_neat d (more_links x ls) = seq (link_neat d x) (links_soft d ls) (links_neat d ls)

    step_neat : (d : ℕ) (x : Step) → Neat (lay_step names d x)
    step_neat d (field at n) = dotted n
    step_neat d (method at n es) = called (dotted n) (args_neat d es)
    step_neat d (index at e) = closed s.CloseBracket refl (free (marks s.OpenBracket refl) (expr_neat d e))

    steps_neat : (d : ℕ) (ss : Steps) → Neat (lay_steps names d ss)
    steps_neat d no_steps = nothings
    steps_neat d (more_steps x ss) = seq (step_neat d x) (steps_soft d ss) (steps_neat d ss)

    form_neat : (d : ℕ) (f : Form) → Neat (lay_form names d f)
    form_neat d (branch at c b es) = seq (free (gap_behind (after w.If c (opened d c) (expr_neat d c))) (block_neat d b)) (elses_soft d es) (elses_neat d es)
    form_neat d (pure at b) = free (spaced (k.Word w.Pure)) (block_neat d b)
    form_neat d (parallel_range at n a e b) = free (gap_behind (free (mark_behind s.DotDot refl (free (looped (spaced (k.Word w.Parallel)) n) (expr_neat d a))) (expr_neat d e))) (block_neat d b)
    form_neat d (parallel_each at n e b) = free (gap_behind (free (looped (spaced (k.Word w.Parallel)) n) (expr_neat d e))) (block_neat d b)

    else_if_neat : (d : ℕ) (x : ElseIf) → Neat (lay_else_if names d x)
    else_if_neat d (else_if at c b) = free elsed (free (gap_behind (after w.If c (opened d c) (expr_neat d c))) (block_neat d b))

    elses_neat : (d : ℕ) (es : Elses) → Neat (lay_elses names d es)
    elses_neat d no_else = nothings
    elses_neat d (otherwise b) = free elsed (block_neat d b)
    elses_neat d (more_elses x es) = seq (else_if_neat d x) (elses_soft d es) (elses_neat d es)

    block_neat : (d : ℕ) (b : Block) → Neat (lay_block names d b)
    block_neat d (block at end ss) = free (line_behind d (free (marks s.OpenBrace refl) (stmts_neat (suc d) ss))) (neat (marks s.CloseBrace refl))

    stmts_neat : (d : ℕ) (ss : Stmts) → Neat (lay_stmts names d ss)
    stmts_neat d no_stmts = nothings
    stmts_neat d (last e) = free (lines d) (expr_neat d e)
    stmts_neat d (more_stmts x xs) = seq (free (lines d) (stmt_neat d x)) (stmts_soft d xs) (stmts_neat d xs)

    stmt_neat : (d : ℕ) (x : Stmt) → Neat (lay_stmt names d x)
    stmt_neat d (declare n e) = closed s.Semicolon refl (free (around_behind (k.Sign s.Assign) (name_neat n)) (expr_neat d e))
    stmt_neat d (destructure at ns e) = closed s.Semicolon refl (free (around_behind (k.Sign s.Assign) (closed s.CloseBracket refl (free (marks s.OpenBracket refl) (commas name_neat ns)))) (expr_neat d e))
    stmt_neat d (return_nothing at) = closed s.Semicolon refl (keys w.Return)
    stmt_neat d (return_value at e) = closed s.Semicolon refl (after w.Return e (opened d e) (expr_neat d e))
    stmt_neat d (while at c b) = free (gap_behind (after w.While c (opened d c) (expr_neat d c))) (block_neat d b)
    stmt_neat d (foreach at n a e b) = free (gap_behind (free (mark_behind s.DotDot refl (free (looped no_pieces n) (expr_neat d a))) (expr_neat d e))) (block_neat d b)
    stmt_neat d (form_stmt f) = form_neat d f
    stmt_neat d (express e) = closed s.Semicolon refl (expr_neat d e)

  param_neat : (x : Param) → Neat (lay_param names x)
  param_neat (param n x) = free (gap_behind (name_neat n)) (type_neat x)

  result_neat : (x : Option TypeExpr) → Neat (optional (λ x. gap ++ lay_type names x) x)
  result_neat None = nothings
  result_neat (Some x) = free gaps (type_neat x)

  pure_free : (p : Bool) → Free (when p (key w.Pure ++ gap))
  pure_free true = spaced (k.Word w.Pure)
  pure_free false = no_pieces

  head_neat : (h : Head) → Neat (lay_head names h)
  head_neat (head p n ps x) = free (mark_behind s.CloseParen refl (free (mark_behind s.OpenParen refl (free (gap_behind (free (pure_free p) (keys w.Func))) (name_neat n))) (commas param_neat ps))) (result_neat x)

  function_neat : (d : ℕ) (f : Function) → Neat (lay_function names d f)
  function_neat d (function h b) = free (gap_behind (head_neat h)) (block_neat d b)

  -- a part, and a `!` after it that is followed by a space
  bang_behind : {p : Layout} (b : Bool) → Neat p → Free (p ++ when b (mark s.Bang) ++ gap)
  bang_behind {p = p} true h = regroup p (mark s.Bang) gap (seq_free h (record { by = λ q. refl }) (spaced (k.Sign s.Bang)))
  bang_behind {p = p} false h = regroup p [] gap (gap_behind h)

  field_neat : (f : FieldDecl) → Neat (lay_field names f)
  field_neat (field_decl n may_be_set x) = closed s.Semicolon refl (free (bang_behind may_be_set (name_neat n)) (type_neat x))

  members_neat : {X : Type 0} {p : X → Layout} → ((x : X) → Neat (p x)) → (xs : List X) → Neat (lay_members names p xs)
  members_neat h xs = free (line_behind 0 (free (marks s.OpenBrace refl) (eachs (λ x. free (lines 1) (h x)) (λ x. record { by = λ q soft. refl }) xs))) (neat (marks s.CloseBrace refl))

  item_neat : (x : Item) → Neat (lay_item names x)
  item_neat (struct_item n fs) = free (gap_behind (free (spaced (k.Word w.Struct)) (name_neat n))) (members_neat field_neat fs)
  item_neat (interface_item n hs) = free (gap_behind (free (spaced (k.Word w.Interface)) (name_neat n))) (members_neat (λ h. closed s.Semicolon refl (head_neat h)) hs)
  item_neat (impl_item at i n fs) = free (gap_behind (free (around_behind (k.Word w.For) (free (spaced (k.Word w.Impl)) (name_neat i))) (name_neat n))) (members_neat (function_neat 1) fs)
  item_neat (function_item f) = function_neat 0 f

  items_apart : (items : List Item) → Apart (each (λ x. lay_item names x ++ new_line 0) items)
  items_apart [] = tt
  items_apart (x ∷ xs) = (line_behind 0 (item_neat x)).by (each (λ x. lay_item names x ++ new_line 0) xs) (items_apart xs)

-- the pieces of each tree's layout stand apart
pub tree_apart : (t : Tree) → Apart (lay_tree t)
tree_apart (tree names items) = items_apart names items
