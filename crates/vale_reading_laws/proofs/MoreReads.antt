-- Readers of types, expressions and statements with more levels left.
use Rattle.std.proofs.Common.{◌≡◌, ◌<◌, ℕ, zero, suc, Bool, true, false, List, [], ◌∷◌, length, Option, Some, None, Err, refl, sym, subst, arith}
use Rattle.vale_base.specs.declared.spot.Spot.{Spot}
use Rattle.vale_syntax.specs.declared.token.Token.{Token}
use Rattle.vale_syntax.specs.declared.token.TokenKind.{TokenKind}
use Rattle.vale_syntax.specs.declared.token.TokenKind.TheVariants as k
use Rattle.vale_syntax.specs.declared.token.Sign.{Sign}
use Rattle.vale_syntax.specs.declared.token.Sign.TheVariants as s
use Rattle.vale_syntax.specs.declared.token.Word.TheVariants as w
use Rattle.vale_syntax.specs.declared.tree.NameAt.{NameAt}
use Rattle.vale_syntax.specs.declared.tree.BinaryOp.{BinaryOp}
use Rattle.vale_syntax.specs.declared.tree.UnaryOp.{UnaryOp}
use Rattle.vale_syntax.specs.Tree.{int_type, bool_type, str_type, named_type, array_type, ref_type, imm_ref_type, iso_type, Expr, set, unary, number, quote, truth, name, call, paren, array, iso, form, no_exprs, more_exprs, link, no_links, more_links, field, method, index, no_steps, more_steps, Form, branch, pure, else_if, more_elses, block, declare, destructure, return_nothing, return_value, while, foreach, form_stmt, express, more_stmts}
use Rattle.vale_syntax.specs.View.{else_end, last_end}
use Rattle.vale_reading.specs.declared.stop.Turn.TheVariants.{More, End}
use Rattle.vale_reading.specs.Steps.{Read, Reader, too_deep, begins, begins_word, name_at, enough, faulty}
use Rattle.vale_reading.specs.Reading.{comma_turn, others_at, commas_at, link_op, unary_op, chained, stepped, Inner, inside, after_bracket, parallel, form_end, after_form, plain_end, after_plain, ref_by, ref_type_at, array_type_at, iso_type_at, type_by, type_at, block_at, else_by, else_turn_by, else_turn, elses_at, branch_at, bound_by, bound_at, parallel_at, pure_at, form_by, form_at, arguments_at, called_by, called_at, paren_at, array_at, iso_at, primary_by, primary_at, member_by, member_at, index_at, step_by, step_turn, steps_at, postfix_at, unary_by, unary_at, link_by, link_turn, no_more, most_links, links_at, level_at, set_at, whole_by, whole_at, args_at, plain_at, declare_at, names_at, destructure_at, return_by, return_at, while_at, foreach_at, form_stmt_at, named_by, bracket_by, stmt_by, stmt_turn, stmts_at, inner_of, within}
use Rattle.vale_reading_laws.proofs.MoreLevels.{Grows, weaker, fewer, shorter, done, refused, if_grows, after_one, step, sign_opens, word_opens, sign_then, word_then, name_then, name_grows, turns_grow}

-- readers a level deeper, and those with more levels
pub record InnerGrows (b : Bool) (i j : Inner) : Type 0 where
  pub type_expr : (ts : List Token) → Grows b ts (i.type_expr ts) (j.type_expr ts)
  pub place : (ts : List Token) → Grows b ts (i.place ts) (j.place ts)
  pub operand : (ts : List Token) → Grows b ts (i.operand ts) (j.operand ts)
  pub whole : (ts : List Token) → Grows b ts (i.whole ts) (j.whole ts)
  pub args : (ts : List Token) → Grows b ts (i.args ts) (j.args ts)
  pub stmts : (ts : List Token) → Grows b ts (i.stmts ts) (j.stmts ts)

abbrev pub Levels : Bool → Option Inner → Option Inner → Type 0
Levels b None None = b ≡ false
Levels b None (Some j) = InnerGrows false j j
Levels b (Some i) None = ⊥
Levels b (Some i) (Some j) = InnerGrows b i j × InnerGrows false j j

-- two levels, the second with more left
pub record Two : Type 0 where
  pub strict : Bool
  pub less : Option Inner
  pub more : Option Inner
  pub law : Levels strict less more

pub itself_law : (b : Bool) (o p : Option Inner) → Levels b o p → Levels false p p
itself_law b None None h = refl
itself_law b None (Some j) h = (h, h)
itself_law b (Some i) None h = absurd h
itself_law b (Some i) (Some j) h = (h.1, h.1)

-- the second beside itself
abbrev pub itself : Two → Two
itself w = record { strict = false; less = w.more; more = w.more; law = itself_law w.strict w.less w.more w.law }

-- fewer and more, or as many
abbrev pub Differs : Bool → ℕ → ℕ → Type 0
Differs true d e = d < e
Differs false d e = d ≡ e

pub none_left : {A : Type 0} (here : List Token) → Grows {A = A} false here (Err (too_deep here)) (Err (too_deep here))
none_left here = record { at_most = omega arith; follows = tt }

pub more_left : {A : Type 0} (b : Bool) (here ts : List Token) (q : Read A) → length ts < length here → Grows false ts q q → Grows b here (Err (too_deep here)) q
more_left false here ts q lt h = record { at_most = weaker (length ts) (length here) q (omega (arith, lt)) h.at_most; follows = tt }
more_left true here ts q lt h = record { at_most = weaker (length ts) (length here) q (omega (arith, lt)) h.at_most; follows = fewer (length ts) (length here) q lt h.at_most }

inside_by : {A : Type 0} (b : Bool) (o p : Option Inner) → Levels b o p → (here ts : List Token) → length ts < length here → (f g : Inner → Read A)
    → ((i j : Inner) → InnerGrows b i j → Grows b ts (f i) (g j)) → ((j : Inner) → InnerGrows false j j → Grows false ts (g j) (g j)) → Grows b here (inside o here f) (inside p here g)
inside_by {A = A} b None None h here ts lt f g k q = subst (λ (b : Bool). Grows {A = A} b here (Err (too_deep here)) (Err (too_deep here))) (sym h) (none_left here)
inside_by b None (Some j) h here ts lt f g k q = more_left b here ts (g j) lt (q j h)
inside_by b (Some i) None h here ts lt f g k q = absurd h
inside_by b (Some i) (Some j) h here ts lt f g k q = shorter b ts here (f i) (g j) (omega (arith, lt)) (k i j h.0)

deeper : {A : Type 0} {f g : Inner → Read A} (w : Two) (here ts : List Token) → length ts < length here
    → ((i j : Inner) → InnerGrows w.strict i j → Grows w.strict ts (f i) (g j)) → ((j : Inner) → InnerGrows false j j → Grows false ts (g j) (g j)) → Grows w.strict here (inside w.less here f) (inside w.more here g)
deeper {f = f} {g = g} w here ts lt k q = inside_by w.strict w.less w.more w.law here ts lt f g k q

-- ---- lists with commas

module _ {X : Type 0} (b : Bool) (item item2 : Reader X) (law : (ts : List Token) → Grows b ts (item ts) (item2 ts)) where
  comma_grows : (ts : List Token) → Grows b ts (comma_turn item ts) (comma_turn item2 ts)
  unfolding comma_turn
  comma_grows ts = if_grows b (begins s.Comma ts) (sign_then s.Comma b ts (λ c lt. step (law c.1) (λ x. done b (More x.0) x.1))) (done b (End tt) ts)

  module _ {L : Type 0} (more : X → L → L) (nil : L) where
    others_grow : (ts : List Token) → Grows b ts (others_at item more nil ts) (others_at item2 more nil ts)
    others_grow ts = turns_grow more (λ _. nil) faulty (λ b ts. refused b ts) (comma_turn item) (comma_turn item2) b comma_grows (enough ts) ts

    pub commas_grow : (close : Sign) (ts : List Token) → Grows b ts (commas_at close item more nil ts) (commas_at close item2 more nil ts)
    commas_grow close ts = if_grows b (begins close ts) (done b nil ts) (step (law ts) (λ x. step (others_grow x.1) (λ xs. done b (more x.0 xs.0) xs.1)))

-- ---- operators between operands

module _ (b : Bool) (tighter tighter2 : Reader Expr) (law : (ts : List Token) → Grows b ts (tighter ts) (tighter2 ts)) (n : ℕ) where
  link_by_grows : (t : Token) (ts : List Token) (op : Option BinaryOp) → Grows b (t ∷ ts) (link_by tighter t ts op) (link_by tighter2 t ts op)
  link_by_grows t ts (Some op) = after_one b t ts (step (law ts) (λ e. done b (More (link t.at op e.0)) e.1))
  link_by_grows t ts None = done b (End tt) (t ∷ ts)

  link_grows : (ts : List Token) → Grows b ts (link_turn tighter n ts) (link_turn tighter2 n ts)
  unfolding link_turn
  link_grows [] = done b (End tt) []
  link_grows (t ∷ ts) = link_by_grows t ts (link_op n t.kind)

  pub links_grow : (ts : List Token) → Grows b ts (links_at tighter n ts) (links_at tighter2 n ts)
  unfolding links_at
  links_grow ts = turns_grow more_links (λ _. no_links) no_more (λ b ts. done b no_links ts) (link_turn tighter n) (link_turn tighter2 n) b link_grows (most_links n ts) ts

-- ---- what follows a part

form_end_grows : (b : Bool) (f : Form) (t : Token) (ts : List Token) (kind : TokenKind) → Grows b (t ∷ ts) (form_end f t ts kind) (form_end f t ts kind)
form_end_grows b f t ts (k.Sign s.Semicolon) = after_one b t ts (done b (More (express (form f))) ts)
form_end_grows b f t ts (k.Sign s.CloseBrace) = done b (End (Some (form f))) (t ∷ ts)
form_end_grows b f t ts _ = done b (More (form_stmt f)) (t ∷ ts)

after_form_grows : (b : Bool) (f : Form) (ts : List Token) → Grows b ts (after_form f ts) (after_form f ts)
unfolding after_form
after_form_grows b f [] = refused b []
after_form_grows b f (t ∷ ts) = form_end_grows b f t ts t.kind

plain_end_grows : (b : Bool) (e : Expr) (t : Token) (ts : List Token) (kind : TokenKind) → Grows b (t ∷ ts) (plain_end e t ts kind) (plain_end e t ts kind)
plain_end_grows b e t ts (k.Sign s.Semicolon) = after_one b t ts (done b (More (express e)) ts)
plain_end_grows b e t ts (k.Sign s.CloseBrace) = done b (End (Some e)) (t ∷ ts)
plain_end_grows b e t ts _ = refused b (t ∷ ts)

after_plain_grows : (b : Bool) (e : Expr) (ts : List Token) → Grows b ts (after_plain e ts) (after_plain e ts)
unfolding after_plain
after_plain_grows b e [] = refused b []
after_plain_grows b e (t ∷ ts) = plain_end_grows b e t ts t.kind

bound_by_grows : (b : Bool) (i j : Inner) → InnerGrows b i j → (ts : List Token) (is : Bool) → Grows b ts (bound_by i ts is) (bound_by j ts is)
bound_by_grows b i j h ts true = sign_then s.DotDot b ts (λ d lt. step (h.whole d.1) (λ e. done b (Some e.0) e.1))
bound_by_grows b i j h ts false = done b None ts

bound_grows : (b : Bool) (i j : Inner) → InnerGrows b i j → (ts : List Token) → Grows b ts (bound_at i ts) (bound_at j ts)
unfolding bound_at
bound_grows b i j h ts = bound_by_grows b i j h ts (begins s.DotDot ts)

module _ (names : List (List ℕ)) where
  ref_by_grows : (b : Bool) (i j : Inner) → InnerGrows b i j → (at : Spot) (ts : List Token) (imm : Bool) → Grows b ts (ref_by names i at ts imm) (ref_by names j at ts imm)
  ref_by_grows b i j h at ts true = word_then w.Imm b ts (λ m lt. step (h.type_expr m.1) (λ x. done b (imm_ref_type at x.0) x.1))
  ref_by_grows b i j h at ts false = step (h.type_expr ts) (λ x. done b (ref_type at x.0) x.1)

  names_grow : (b : Bool) (ts : List Token) → Grows b ts (names_at names ts) (names_at names ts)
  unfolding names_at
  names_grow b ts = commas_grow b (name_at names) (name_at names) (λ ts. name_grows names b ts) (λ x xs. x ∷ xs) [] s.CloseBracket ts

  -- ---- types

  ref_type_grows : (x : Two) (ts : List Token) → Grows x.strict ts (ref_type_at names x.less ts) (ref_type_at names x.more ts)
  unfolding ref_type_at
  ref_type_grows x ts = sign_opens s.Ampersand x.strict ts (λ a lt. deeper x ts a.1 lt (λ i j h. ref_by_grows x.strict _ _ h a.0 a.1 (begins_word w.Imm a.1)) (λ j h. ref_by_grows false _ _ h a.0 a.1 (begins_word w.Imm a.1)))

  array_type_grows : (x : Two) (ts : List Token) → Grows x.strict ts (array_type_at names x.less ts) (array_type_at names x.more ts)
  unfolding array_type_at
  array_type_grows x ts = sign_opens s.OpenBracket x.strict ts (λ a lt. deeper x ts a.1 lt (λ i j h. sign_then s.CloseBracket x.strict a.1 (λ c lt2. step (h.type_expr c.1) (λ e. done x.strict (array_type a.0 e.0) e.1))) (λ j h. sign_then s.CloseBracket false a.1 (λ c lt2. step (h.type_expr c.1) (λ e. done false (array_type a.0 e.0) e.1))))

  iso_type_grows : (x : Two) (ts : List Token) → Grows x.strict ts (iso_type_at names x.less ts) (iso_type_at names x.more ts)
  unfolding iso_type_at
  iso_type_grows x ts = word_opens w.Iso x.strict ts (λ a lt. deeper x ts a.1 lt (λ i j h. step (h.type_expr a.1) (λ e. done x.strict (iso_type a.0 e.0) e.1)) (λ j h. step (h.type_expr a.1) (λ e. done false (iso_type a.0 e.0) e.1)))

  type_by_grows : (x : Two) (t : Token) (ts : List Token) (kind : TokenKind) → Grows x.strict (t ∷ ts) (type_by names x.less t ts kind) (type_by names x.more t ts kind)
  type_by_grows x t ts (k.Word w.Int) = after_one x.strict t ts (done x.strict (int_type t.at) ts)
  type_by_grows x t ts (k.Word w.Bool) = after_one x.strict t ts (done x.strict (bool_type t.at) ts)
  type_by_grows x t ts (k.Word w.Str) = after_one x.strict t ts (done x.strict (str_type t.at) ts)
  type_by_grows x t ts (k.Name text) = name_then names x.strict (t ∷ ts) (λ n lt. done x.strict (named_type n.0) n.1)
  type_by_grows x t ts (k.Sign s.OpenBracket) = array_type_grows x (t ∷ ts)
  type_by_grows x t ts (k.Sign s.Ampersand) = ref_type_grows x (t ∷ ts)
  type_by_grows x t ts (k.Word w.Iso) = iso_type_grows x (t ∷ ts)
  type_by_grows x t ts _ = refused x.strict (t ∷ ts)

  pub type_grows : (x : Two) (ts : List Token) → Grows x.strict ts (type_at names x.less ts) (type_at names x.more ts)
  unfolding type_at
  type_grows x [] = refused x.strict []
  type_grows x (t ∷ ts) = type_by_grows x t ts t.kind

  -- ---- blocks and forms

  pub block_grows : (x : Two) (ts : List Token) → Grows x.strict ts (block_at names x.less ts) (block_at names x.more ts)
  unfolding block_at
  block_grows x ts = sign_opens s.OpenBrace x.strict ts (λ a lt. deeper x ts a.1 lt (λ i j h. step (h.stmts a.1) (λ e. sign_then s.CloseBrace x.strict e.1 (λ c lt2. done x.strict (block a.0 c.0 e.0) c.1))) (λ j h. step (h.stmts a.1) (λ e. sign_then s.CloseBrace false e.1 (λ c lt2. done false (block a.0 c.0 e.0) c.1))))

  else_by_grows : (x : Two) (ts : List Token) (is : Bool) → Grows x.strict ts (else_by names x.less ts is) (else_by names x.more ts is)
  else_by_grows x ts true = word_opens w.If x.strict ts (λ a lt. deeper x ts a.1 lt (λ i j h. step (h.whole a.1) (λ c. step (block_grows x c.1) (λ d. done x.strict (More (else_if a.0 c.0 d.0)) d.1))) (λ j h. step (h.whole a.1) (λ c. step (block_grows (itself x) c.1) (λ d. done false (More (else_if a.0 c.0 d.0)) d.1))))
  else_by_grows x ts false = step (block_grows x ts) (λ d. done x.strict (End (Some d.0)) d.1)

  else_turn_by_grows : (x : Two) (ts : List Token) (is : Bool) → Grows x.strict ts (else_turn_by names x.less ts is) (else_turn_by names x.more ts is)
  else_turn_by_grows x ts true = word_then w.Else x.strict ts (λ e lt. else_by_grows x e.1 (begins_word w.If e.1))
  else_turn_by_grows x ts false = done x.strict (End None) ts

  else_turn_grows : (x : Two) (ts : List Token) → Grows x.strict ts (else_turn names x.less ts) (else_turn names x.more ts)
  unfolding else_turn
  else_turn_grows x ts = else_turn_by_grows x ts (begins_word w.Else ts)

  elses_grow : (x : Two) (ts : List Token) → Grows x.strict ts (elses_at names x.less ts) (elses_at names x.more ts)
  unfolding elses_at
  elses_grow x ts = turns_grow more_elses else_end faulty (λ b ts. refused b ts) (else_turn names x.less) (else_turn names x.more) x.strict (else_turn_grows x) (enough ts) ts

  branch_grows : (x : Two) (ts : List Token) → Grows x.strict ts (branch_at names x.less ts) (branch_at names x.more ts)
  unfolding branch_at
  branch_grows x ts = word_opens w.If x.strict ts (λ a lt. deeper x ts a.1 lt (λ i j h. step (h.whole a.1) (λ c. step (block_grows x c.1) (λ d. step (elses_grow x d.1) (λ e. done x.strict (branch a.0 c.0 d.0 e.0) e.1)))) (λ j h. step (h.whole a.1) (λ c. step (block_grows (itself x) c.1) (λ d. step (elses_grow (itself x) d.1) (λ e. done false (branch a.0 c.0 d.0 e.0) e.1)))))

  parallel_grows : (x : Two) (ts : List Token) → Grows x.strict ts (parallel_at names x.less ts) (parallel_at names x.more ts)
  unfolding parallel_at
  parallel_grows x ts = word_opens w.Parallel x.strict ts (λ a lt. deeper x ts a.1 lt (λ i j h. word_then w.Foreach x.strict a.1 (λ f lt2. name_then names x.strict f.1 (λ n lt3. word_then w.In x.strict n.1 (λ c lt4. step (h.whole c.1) (λ e. step (bound_grows x.strict _ _ h e.1) (λ to. step (block_grows x to.1) (λ d. done x.strict (parallel a.0 n.0 e.0 to.0 d.0) d.1))))))) (λ j h. word_then w.Foreach false a.1 (λ f lt2. name_then names false f.1 (λ n lt3. word_then w.In false n.1 (λ c lt4. step (h.whole c.1) (λ e. step (bound_grows false _ _ h e.1) (λ to. step (block_grows (itself x) to.1) (λ d. done false (parallel a.0 n.0 e.0 to.0 d.0) d.1))))))))

  pure_grows : (x : Two) (ts : List Token) → Grows x.strict ts (pure_at names x.less ts) (pure_at names x.more ts)
  pure_grows x ts = word_then w.Pure x.strict ts (λ a lt. step (block_grows x a.1) (λ d. done x.strict (pure a.0 d.0) d.1))

  form_by_grows : (x : Two) (t : Token) (ts : List Token) (kind : TokenKind) → Grows x.strict (t ∷ ts) (form_by names x.less t ts kind) (form_by names x.more t ts kind)
  form_by_grows x t ts (k.Word w.If) = branch_grows x (t ∷ ts)
  form_by_grows x t ts (k.Word w.Pure) = pure_grows x (t ∷ ts)
  form_by_grows x t ts (k.Word w.Parallel) = parallel_grows x (t ∷ ts)
  form_by_grows x t ts _ = refused x.strict (t ∷ ts)

  form_grows : (x : Two) (ts : List Token) → Grows x.strict ts (form_at names x.less ts) (form_at names x.more ts)
  unfolding form_at
  form_grows x [] = refused x.strict []
  form_grows x (t ∷ ts) = form_by_grows x t ts t.kind

  -- ---- operands

  arguments_grow : (x : Two) (ts : List Token) → Grows x.strict ts (arguments_at names x.less ts) (arguments_at names x.more ts)
  unfolding arguments_at
  arguments_grow x ts = sign_opens s.OpenParen x.strict ts (λ a lt. deeper x ts a.1 lt (λ i j h. step (h.args a.1) (λ e. sign_then s.CloseParen x.strict e.1 (λ c lt2. done x.strict e.0 c.1))) (λ j h. step (h.args a.1) (λ e. sign_then s.CloseParen false e.1 (λ c lt2. done false e.0 c.1))))

  called_by_grows : (x : Two) (n : NameAt) (ts : List Token) (is : Bool) → Grows x.strict ts (called_by names x.less n ts is) (called_by names x.more n ts is)
  called_by_grows x n ts true = step (arguments_grow x ts) (λ e. done x.strict (call n e.0) e.1)
  called_by_grows x n ts false = done x.strict (name n) ts

  called_grows : (x : Two) (ts : List Token) → Grows x.strict ts (called_at names x.less ts) (called_at names x.more ts)
  unfolding called_at
  called_grows x ts = name_then names x.strict ts (λ n lt. called_by_grows x n.0 n.1 (begins s.OpenParen n.1))

  paren_grows : (x : Two) (ts : List Token) → Grows x.strict ts (paren_at names x.less ts) (paren_at names x.more ts)
  unfolding paren_at
  paren_grows x ts = sign_opens s.OpenParen x.strict ts (λ a lt. deeper x ts a.1 lt (λ i j h. step (h.whole a.1) (λ e. sign_then s.CloseParen x.strict e.1 (λ c lt2. done x.strict (paren a.0 e.0) c.1))) (λ j h. step (h.whole a.1) (λ e. sign_then s.CloseParen false e.1 (λ c lt2. done false (paren a.0 e.0) c.1))))

  array_grows : (x : Two) (ts : List Token) → Grows x.strict ts (array_at names x.less ts) (array_at names x.more ts)
  unfolding array_at
  array_grows x ts = sign_opens s.OpenBracket x.strict ts (λ a lt. deeper x ts a.1 lt (λ i j h. sign_then s.CloseBracket x.strict a.1 (λ c lt2. step (h.type_expr c.1) (λ e. step (arguments_grow x e.1) (λ d. done x.strict (array a.0 e.0 d.0) d.1)))) (λ j h. sign_then s.CloseBracket false a.1 (λ c lt2. step (h.type_expr c.1) (λ e. step (arguments_grow (itself x) e.1) (λ d. done false (array a.0 e.0 d.0) d.1)))))

  iso_grows : (x : Two) (ts : List Token) → Grows x.strict ts (iso_at names x.less ts) (iso_at names x.more ts)
  iso_grows x ts = word_then w.Iso x.strict ts (λ a lt. step (block_grows x a.1) (λ d. done x.strict (iso a.0 d.0) d.1))

  primary_by_grows : (x : Two) (t : Token) (ts : List Token) (kind : TokenKind) → Grows x.strict (t ∷ ts) (primary_by names x.less t ts kind) (primary_by names x.more t ts kind)
  primary_by_grows x t ts (k.Number n) = after_one x.strict t ts (done x.strict (number t.at n) ts)
  primary_by_grows x t ts (k.Quote text) = after_one x.strict t ts (done x.strict (quote t.at text) ts)
  primary_by_grows x t ts (k.Word w.True) = after_one x.strict t ts (done x.strict (truth t.at true) ts)
  primary_by_grows x t ts (k.Word w.False) = after_one x.strict t ts (done x.strict (truth t.at false) ts)
  primary_by_grows x t ts (k.Name text) = called_grows x (t ∷ ts)
  primary_by_grows x t ts (k.Sign s.OpenParen) = paren_grows x (t ∷ ts)
  primary_by_grows x t ts (k.Sign s.OpenBracket) = array_grows x (t ∷ ts)
  primary_by_grows x t ts (k.Word w.Iso) = iso_grows x (t ∷ ts)
  primary_by_grows x t ts _ = step (form_grows x (t ∷ ts)) (λ f. done x.strict (form f.0) f.1)

  primary_grows : (x : Two) (ts : List Token) → Grows x.strict ts (primary_at names x.less ts) (primary_at names x.more ts)
  unfolding primary_at
  primary_grows x [] = refused x.strict []
  primary_grows x (t ∷ ts) = primary_by_grows x t ts t.kind

  member_by_grows : (x : Two) (at : Spot) (n : NameAt) (ts : List Token) (is : Bool) → Grows x.strict ts (member_by names x.less at n ts is) (member_by names x.more at n ts is)
  member_by_grows x at n ts true = step (arguments_grow x ts) (λ e. done x.strict (More (method at n.name e.0)) e.1)
  member_by_grows x at n ts false = done x.strict (More (field at n.name)) ts

  member_grows : (x : Two) (ts : List Token) → Grows x.strict ts (member_at names x.less ts) (member_at names x.more ts)
  unfolding member_at
  member_grows x ts = sign_then s.Dot x.strict ts (λ a lt. name_then names x.strict a.1 (λ n lt2. member_by_grows x a.0 n.0 n.1 (begins s.OpenParen n.1)))

  index_grows : (x : Two) (ts : List Token) → Grows x.strict ts (index_at names x.less ts) (index_at names x.more ts)
  unfolding index_at
  index_grows x ts = sign_opens s.OpenBracket x.strict ts (λ a lt. deeper x ts a.1 lt (λ i j h. step (h.whole a.1) (λ e. sign_then s.CloseBracket x.strict e.1 (λ c lt2. done x.strict (More (index a.0 e.0)) c.1))) (λ j h. step (h.whole a.1) (λ e. sign_then s.CloseBracket false e.1 (λ c lt2. done false (More (index a.0 e.0)) c.1))))

  step_by_grows : (x : Two) (t : Token) (ts : List Token) (kind : TokenKind) → Grows x.strict (t ∷ ts) (step_by names x.less t ts kind) (step_by names x.more t ts kind)
  step_by_grows x t ts (k.Sign s.Dot) = member_grows x (t ∷ ts)
  step_by_grows x t ts (k.Sign s.OpenBracket) = index_grows x (t ∷ ts)
  step_by_grows x t ts _ = done x.strict (End tt) (t ∷ ts)

  step_turn_grows : (x : Two) (ts : List Token) → Grows x.strict ts (step_turn names x.less ts) (step_turn names x.more ts)
  unfolding step_turn
  step_turn_grows x [] = done x.strict (End tt) []
  step_turn_grows x (t ∷ ts) = step_by_grows x t ts t.kind

  steps_grow : (x : Two) (ts : List Token) → Grows x.strict ts (steps_at names x.less ts) (steps_at names x.more ts)
  unfolding steps_at
  steps_grow x ts = turns_grow more_steps (λ _. no_steps) faulty (λ b ts. refused b ts) (step_turn names x.less) (step_turn names x.more) x.strict (step_turn_grows x) (enough ts) ts

  postfix_grows : (x : Two) (ts : List Token) → Grows x.strict ts (postfix_at names x.less ts) (postfix_at names x.more ts)
  unfolding postfix_at
  postfix_grows x ts = step (primary_grows x ts) (λ e. step (steps_grow x e.1) (λ d. done x.strict (stepped e.0 d.0) d.1))

  unary_by_grows : (x : Two) (t : Token) (ts : List Token) (op : Option UnaryOp) → Grows x.strict (t ∷ ts) (unary_by names x.less t ts op) (unary_by names x.more t ts op)
  unary_by_grows x t ts (Some op) = deeper x (t ∷ ts) ts (omega arith) (λ i j h. step (h.operand ts) (λ e. done x.strict (unary t.at op e.0) e.1)) (λ j h. step (h.operand ts) (λ e. done false (unary t.at op e.0) e.1))
  unary_by_grows x t ts None = postfix_grows x (t ∷ ts)

  unary_grows : (x : Two) (ts : List Token) → Grows x.strict ts (unary_at names x.less ts) (unary_at names x.more ts)
  unfolding unary_at
  unary_grows x [] = refused x.strict []
  unary_grows x (t ∷ ts) = unary_by_grows x t ts (unary_op t.kind)

  level_grows : (x : Two) (n : ℕ) (ts : List Token) → Grows x.strict ts (level_at names x.less n ts) (level_at names x.more n ts)
  unfolding level_at
  level_grows x zero ts = unary_grows x ts
  level_grows x (suc n) ts = step (level_grows x n ts) (λ e. step (links_grow x.strict (level_at names x.less n) (level_at names x.more n) (level_grows x n) (suc n) e.1) (λ d. done x.strict (chained e.0 d.0) d.1))

  set_grows : (x : Two) (ts : List Token) → Grows x.strict ts (set_at names x.less ts) (set_at names x.more ts)
  unfolding set_at
  set_grows x ts = word_opens w.Set x.strict ts (λ a lt. deeper x ts a.1 lt (λ i j h. step (h.place a.1) (λ e. sign_then s.Assign x.strict e.1 (λ c lt2. step (h.whole c.1) (λ d. done x.strict (set a.0 e.0 d.0) d.1)))) (λ j h. step (h.place a.1) (λ e. sign_then s.Assign false e.1 (λ c lt2. step (h.whole c.1) (λ d. done false (set a.0 e.0 d.0) d.1)))))

  whole_by_grows : (x : Two) (ts : List Token) (is : Bool) → Grows x.strict ts (whole_by names x.less ts is) (whole_by names x.more ts is)
  whole_by_grows x ts true = set_grows x ts
  whole_by_grows x ts false = level_grows x 5 ts

  whole_grows : (x : Two) (ts : List Token) → Grows x.strict ts (whole_at names x.less ts) (whole_at names x.more ts)
  unfolding whole_at
  whole_grows x ts = whole_by_grows x ts (begins_word w.Set ts)

  args_grow : (x : Two) (ts : List Token) → Grows x.strict ts (args_at names x.less ts) (args_at names x.more ts)
  unfolding args_at
  args_grow x ts = commas_grow x.strict (whole_at names x.less) (whole_at names x.more) (whole_grows x) more_exprs no_exprs s.CloseParen ts

  -- ---- statements

  plain_grows : (x : Two) (ts : List Token) → Grows x.strict ts (plain_at names x.less ts) (plain_at names x.more ts)
  unfolding plain_at
  plain_grows x ts = step (whole_grows x ts) (λ e. after_plain_grows x.strict e.0 e.1)

  declare_grows : (x : Two) (ts : List Token) → Grows x.strict ts (declare_at names x.less ts) (declare_at names x.more ts)
  unfolding declare_at
  declare_grows x ts = name_then names x.strict ts (λ n lt. sign_then s.Assign x.strict n.1 (λ a lt2. step (whole_grows x a.1) (λ e. sign_then s.Semicolon x.strict e.1 (λ c lt3. done x.strict (More (declare n.0 e.0)) c.1))))

  destructure_grows : (x : Two) (ts : List Token) → Grows x.strict ts (destructure_at names x.less ts) (destructure_at names x.more ts)
  unfolding destructure_at
  destructure_grows x ts = sign_opens s.OpenBracket x.strict ts (λ a lt. deeper x ts a.1 lt (λ i j h. step (names_grow x.strict a.1) (λ ns. sign_then s.CloseBracket x.strict ns.1 (λ c lt2. sign_then s.Assign x.strict c.1 (λ d lt3. step (whole_grows x d.1) (λ e. sign_then s.Semicolon x.strict e.1 (λ f lt4. done x.strict (More (destructure a.0 ns.0 e.0)) f.1)))))) (λ j h. step (names_grow false a.1) (λ ns. sign_then s.CloseBracket false ns.1 (λ c lt2. sign_then s.Assign false c.1 (λ d lt3. step (whole_grows (itself x) d.1) (λ e. sign_then s.Semicolon false e.1 (λ f lt4. done false (More (destructure a.0 ns.0 e.0)) f.1)))))))

  return_by_grows : (x : Two) (at : Spot) (ts : List Token) (is : Bool) → Grows x.strict ts (return_by names x.less at ts is) (return_by names x.more at ts is)
  return_by_grows x at ts true = sign_then s.Semicolon x.strict ts (λ c lt. done x.strict (More (return_nothing at)) c.1)
  return_by_grows x at ts false = step (whole_grows x ts) (λ e. sign_then s.Semicolon x.strict e.1 (λ c lt. done x.strict (More (return_value at e.0)) c.1))

  return_grows : (x : Two) (ts : List Token) → Grows x.strict ts (return_at names x.less ts) (return_at names x.more ts)
  unfolding return_at
  return_grows x ts = word_then w.Return x.strict ts (λ a lt. return_by_grows x a.0 a.1 (begins s.Semicolon a.1))

  while_grows : (x : Two) (ts : List Token) → Grows x.strict ts (while_at names x.less ts) (while_at names x.more ts)
  unfolding while_at
  while_grows x ts = word_then w.While x.strict ts (λ a lt. step (whole_grows x a.1) (λ c. step (block_grows x c.1) (λ d. done x.strict (More (while a.0 c.0 d.0)) d.1)))

  foreach_grows : (x : Two) (ts : List Token) → Grows x.strict ts (foreach_at names x.less ts) (foreach_at names x.more ts)
  unfolding foreach_at
  foreach_grows x ts = word_then w.Foreach x.strict ts (λ a lt. name_then names x.strict a.1 (λ n lt2. word_then w.In x.strict n.1 (λ c lt3. step (whole_grows x c.1) (λ e. sign_then s.DotDot x.strict e.1 (λ d lt4. step (whole_grows x d.1) (λ f. step (block_grows x f.1) (λ g. done x.strict (More (foreach a.0 n.0 e.0 f.0 g.0)) g.1)))))))

  form_stmt_grows : (x : Two) (ts : List Token) → Grows x.strict ts (form_stmt_at names x.less ts) (form_stmt_at names x.more ts)
  unfolding form_stmt_at
  form_stmt_grows x ts = step (form_grows x ts) (λ f. after_form_grows x.strict f.0 f.1)

  named_by_grows : (x : Two) (ts : List Token) (is : Bool) → Grows x.strict ts (named_by names x.less ts is) (named_by names x.more ts is)
  named_by_grows x ts true = declare_grows x ts
  named_by_grows x ts false = plain_grows x ts

  bracket_by_grows : (x : Two) (ts : List Token) (is : Bool) → Grows x.strict ts (bracket_by names x.less ts is) (bracket_by names x.more ts is)
  bracket_by_grows x ts true = destructure_grows x ts
  bracket_by_grows x ts false = plain_grows x ts

  stmt_by_grows : (x : Two) (t : Token) (ts : List Token) (kind : TokenKind) → Grows x.strict (t ∷ ts) (stmt_by names x.less t ts kind) (stmt_by names x.more t ts kind)
  stmt_by_grows x t ts (k.Sign s.CloseBrace) = done x.strict (End None) (t ∷ ts)
  stmt_by_grows x t ts (k.Name text) = named_by_grows x (t ∷ ts) (begins s.Assign ts)
  stmt_by_grows x t ts (k.Sign s.OpenBracket) = bracket_by_grows x (t ∷ ts) (after_bracket ts)
  stmt_by_grows x t ts (k.Word w.Return) = return_grows x (t ∷ ts)
  stmt_by_grows x t ts (k.Word w.While) = while_grows x (t ∷ ts)
  stmt_by_grows x t ts (k.Word w.Foreach) = foreach_grows x (t ∷ ts)
  stmt_by_grows x t ts (k.Word w.If) = form_stmt_grows x (t ∷ ts)
  stmt_by_grows x t ts (k.Word w.Pure) = form_stmt_grows x (t ∷ ts)
  stmt_by_grows x t ts (k.Word w.Parallel) = form_stmt_grows x (t ∷ ts)
  stmt_by_grows x t ts _ = plain_grows x (t ∷ ts)

  stmt_grows : (x : Two) (ts : List Token) → Grows x.strict ts (stmt_turn names x.less ts) (stmt_turn names x.more ts)
  unfolding stmt_turn
  stmt_grows x [] = refused x.strict []
  stmt_grows x (t ∷ ts) = stmt_by_grows x t ts t.kind

  stmts_grow : (x : Two) (ts : List Token) → Grows x.strict ts (stmts_at names x.less ts) (stmts_at names x.more ts)
  unfolding stmts_at
  stmts_grow x ts = turns_grow more_stmts last_end faulty (λ b ts. refused b ts) (stmt_turn names x.less) (stmt_turn names x.more) x.strict (stmt_grows x) (enough ts) ts

  -- ---- levels

  inner_grows : (x : Two) → InnerGrows x.strict (inner_of names x.less) (inner_of names x.more)
  inner_grows x = record {
    type_expr = type_grows x;
    place = postfix_grows x;
    operand = unary_grows x;
    whole = whole_grows x;
    args = args_grow x;
    stmts = stmts_grow x;
  }

  same_levels : (d : ℕ) → Levels false (within names d) (within names d)
  unfolding within
  same_levels zero = refl
  same_levels (suc d) = let x : Two = record { strict = false; less = within names d; more = within names d; law = same_levels d } in (inner_grows x, inner_grows x)

  more_levels : (d e : ℕ) → d < e → Levels true (within names d) (within names e)
  unfolding within
  more_levels d zero lt = absurd (omega (arith, lt))
  more_levels zero (suc e) lt = inner_grows (record { strict = false; less = within names e; more = within names e; law = same_levels e })
  more_levels (suc d) (suc e) lt =
      let less : d < e = omega (arith, lt) in
      (inner_grows (record { strict = true; less = within names d; more = within names e; law = more_levels d e less }), inner_grows (record { strict = false; less = within names e; more = within names e; law = same_levels e }))

  -- with fewer levels and with more, or with as many
  pub levels_of : (b : Bool) (d e : ℕ) → Differs b d e → Levels b (within names d) (within names e)
  levels_of true d e lt = more_levels d e lt
  levels_of false d e is = subst (λ (e : ℕ). Levels false (within names d) (within names e)) is (same_levels d)
