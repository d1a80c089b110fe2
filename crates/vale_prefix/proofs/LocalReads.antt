-- Types, expressions and forms are read alike up to where two lists of tokens differ.
use Rattle.std.proofs.Common.{◌≡◌, ◌<◌, ◌≤◌, ◌+◌, ℕ, zero, suc, Bool, true, false, cond, eqb, List, [], ◌∷◌, ◌++◌, length, Option, Some, None, Result, Ok, Err, refl, sym, ap, subst, ◌∙◌, arith, ◌⊎◌, inl, inr}
use Rattle.vale_base.specs.declared.spot.Spot.{Spot}
use Rattle.vale_syntax.specs.declared.token.Token.{Token}
use Rattle.vale_syntax.specs.declared.token.TokenKind.{TokenKind}
use Rattle.vale_syntax.specs.declared.token.TokenKind.TheVariants as k
use Rattle.vale_syntax.specs.declared.token.Sign.{Sign}
use Rattle.vale_syntax.specs.declared.token.Sign.TheVariants as s
use Rattle.vale_syntax.specs.declared.token.Word.{Word}
use Rattle.vale_syntax.specs.declared.token.Word.TheVariants as w
use Rattle.vale_syntax.specs.declared.tree.NameAt.{NameAt}
use Rattle.vale_syntax.specs.declared.tree.BinaryOp.{BinaryOp}
use Rattle.vale_syntax.specs.declared.tree.UnaryOp.{UnaryOp}
use Rattle.vale_syntax.specs.Tree.{TypeExpr, Expr, Exprs, more_exprs, no_exprs, Link, link, Links, no_links, more_links, Step, field, method, index, Steps, no_steps, more_steps, Form, ElseIf, else_if, Elses, more_elses, Block, Stmts}
use Rattle.vale_syntax.specs.Grammar.{IsStep, IsElseIf, IsLink}
use Rattle.vale_syntax.specs.View.{else_end}
use Rattle.vale_reading.specs.declared.stop.Turn.{Turn}
use Rattle.vale_reading.specs.declared.stop.Turn.TheVariants.{More, End}
use Rattle.vale_reading.specs.Steps.{from, Fault, unexpected, too_deep, Read, Reader, ◌>>=◌, is_sign, is_word, begins, begins_word, sign_at, word_at, name_at, turns_at, enough, faulty}
use Rattle.vale_reading.specs.Reading.{comma_turn, others_at, commas_at, link_op, unary_op, chained, stepped, Inner, inside, ref_by, ref_type_at, array_type_at, iso_type_at, type_by, type_at, block_at, else_by, else_turn_by, else_turn, elses_at, branch_at, bound_by, bound_at, parallel_at, pure_at, form_by, form_at, arguments_at, called_by, called_at, paren_at, array_at, iso_at, primary_by, primary_at, member_by, member_at, index_at, step_by, step_turn, steps_at, postfix_at, unary_by, unary_at, link_by, link_turn, no_more, most_links, links_at, level_at, set_at, whole_by, whole_at, args_at}
use Rattle.vale_prefix.proofs.Parts.{Parts, ◌▸▸◌, Sign_, Whole, Took, Reads, Turns, Turned}
use Rattle.vale_prefix.proofs.Forms.{Law, AStep, SomeSteps, AnElseIf, SomeElses, else_turns, step_turns, level_reads, whole_reads}
use Rattle.vale_prefix.proofs.Local.{Two, Shared, AtMost, Alike, Local, Any, step, done, refused, none_left, by, begins_same, word_same, kind_same, after_one, weaker, sides, sign_side, word_side, sign_then, word_then, name_then, SameTurn, Strict, turns_by, turns_local, no_tokens, Side}

-- ---- one level deeper

pub record InnerLocal (x : Two) (i j : Inner) : Type 0 where
  pub type_expr : (ts us : List Token) → Local x Any ts us (i.type_expr ts) (j.type_expr us)
  pub place : (ts us : List Token) → Local x Any ts us (i.place ts) (j.place us)
  pub operand : (ts us : List Token) → Local x Any ts us (i.operand ts) (j.operand us)
  pub whole : (ts us : List Token) → Local x Any ts us (i.whole ts) (j.whole us)
  pub args : (ts us : List Token) → Local x Any ts us (i.args ts) (j.args us)
  pub stmts : (ts us : List Token) → Local x Any ts us (i.stmts ts) (j.stmts us)

abbrev pub Both : Two → Option Inner → Option Inner → Type 0
Both x None None = Unit {0}
Both x (Some i) (Some j) = InnerLocal x i j
Both x o p = ⊥

pub left_nil : {A : Type 0} {x : Two} {V : A → A → Type 0} {us : List Token} {r q : Read A} → AtMost 0 r → Local x V [] us r q
left_nil h = record { at_most = h; alike = λ sh. absurd (no_tokens _ _ sh.left) }

pub right_nil : {A : Type 0} {x : Two} {V : A → A → Type 0} {ts : List Token} {r q : Read A} → AtMost (length ts) r → Local x V ts [] r q
right_nil h = record { at_most = h; alike = λ sh. absurd (no_tokens _ _ sh.right) }

module _ {A : Type 0} (x : Two) (V : A → A → Type 0) where
  pub inside_local : (o p : Option Inner) → Both x o p → (t u : Token) (ts us here here2 : List Token) → here ≡ t ∷ ts → here2 ≡ u ∷ us → (F G : Inner → Read A)
      → ((i j : Inner) → InnerLocal x i j → Local x V ts us (F i) (G j)) → Local x V (t ∷ ts) (u ∷ us) (inside o here F) (inside p here2 G)
  inside_local None None law t u ts us here here2 e e2 F G k =
      subst (λ (z : List Token). Local {A = A} x V (t ∷ ts) (u ∷ us) (Err (too_deep z)) (Err (too_deep here2))) (sym e) (subst (λ (z : List Token). Local {A = A} x V (t ∷ ts) (u ∷ us) (Err (too_deep (t ∷ ts))) (Err (too_deep z))) (sym e2) (none_left x V (t ∷ ts) (u ∷ us)))
  inside_local (Some i) (Some j) law t u ts us here here2 e e2 F G k = after_one t u ts us (k i j law)
  inside_local None (Some j) law t u ts us here here2 e e2 F G k = absurd law
  inside_local (Some i) None law t u ts us here here2 e e2 F G k = absurd law

  inside_most : (o p : Option Inner) → Both x o p → (t : Token) (ts here : List Token) → here ≡ t ∷ ts → (F : Inner → Read A) → ((i j : Inner) → InnerLocal x i j → AtMost (length ts) (F i)) → AtMost (length (t ∷ ts)) (inside o here F)
  inside_most None p law t ts here e F k = omega (arith, ap length e)
  inside_most (Some i) (Some j) law t ts here e F k = weaker (length ts) (length (t ∷ ts)) (F i) (omega arith) (k i j law)
  inside_most (Some i) None law t ts here e F k = absurd law

  module _ (o p : Option Inner) (law : Both x o p) (f g : Spot × List Token → Inner → Read A) (ts us : List Token)
      (k : (i j : Inner) → InnerLocal x i j → (v w : Spot × List Token) → Local x V v.1 w.1 (f v i) (g w j)) where
    pub sign_opens_by : (s : Sign) → Local x V ts us (sign_at s ts >>= λ a. inside o ts (f a)) (sign_at s us >>= λ a. inside p us (g a))
    sign_opens_by s = sides x V (λ a. inside o ts (f a)) (λ a. inside p us (g a)) (is_sign s) ts us (λ t v e. inside_most o p law t v.1 ts e (f v) (λ i j h. (k i j h v v).at_most)) (sign_at s ts) (sign_at s us) (sign_side s x.names ts) (sign_side s x.names2 us)
        (λ t u v w e e2. inside_local o p law t u v.1 w.1 ts us e e2 (f v) (g w) (λ i j h. k i j h v w))

    pub word_opens_by : (w : Word) → Local x V ts us (word_at w ts >>= λ a. inside o ts (f a)) (word_at w us >>= λ a. inside p us (g a))
    word_opens_by s = sides x V (λ a. inside o ts (f a)) (λ a. inside p us (g a)) (is_word s) ts us (λ t v e. inside_most o p law t v.1 ts e (f v) (λ i j h. (k i j h v v).at_most)) (word_at s ts) (word_at s us) (word_side s x.names ts) (word_side s x.names2 us)
        (λ t u v w e e2. inside_local o p law t u v.1 w.1 ts us e e2 (f v) (g w) (λ i j h. k i j h v w))

pub sign_opens : {A : Type 0} {x : Two} {V : A → A → Type 0} (o p : Option Inner) → Both x o p → (s : Sign) (f g : Spot × List Token → Inner → Read A) (ts us : List Token)
    → ((i j : Inner) → InnerLocal x i j → (v w : Spot × List Token) → Local x V v.1 w.1 (f v i) (g w j)) → Local x V ts us (sign_at s ts >>= λ a. inside o ts (f a)) (sign_at s us >>= λ a. inside p us (g a))
sign_opens {x = x} {V = V} o p law s f g ts us k = sign_opens_by x V o p law f g ts us k s

pub word_opens : {A : Type 0} {x : Two} {V : A → A → Type 0} (o p : Option Inner) → Both x o p → (w : Word) (f g : Spot × List Token → Inner → Read A) (ts us : List Token)
    → ((i j : Inner) → InnerLocal x i j → (v w : Spot × List Token) → Local x V v.1 w.1 (f v i) (g w j)) → Local x V ts us (word_at w ts >>= λ a. inside o ts (f a)) (word_at w us >>= λ a. inside p us (g a))
word_opens {x = x} {V = V} o p law w f g ts us k = word_opens_by x V o p law f g ts us k w

-- ---- a part that isn't empty takes a token

abbrev pub NonEmpty : Parts → Type 0
NonEmpty P = (names : List (List ℕ)) (d : ℕ) (rest : List Token) → P names d [] rest → ⊥

longer : (a mid : List Token) → length mid ≤ length (a ++ mid)
longer [] mid = omega arith
longer (t ∷ a) mid = let le : length mid ≤ length (a ++ mid) = longer a mid in omega (arith, le)

pub takes_one : (P : Parts) → NonEmpty P → (a ts mid : List Token) → ts ≡ a ++ mid → Whole P a → length mid < length ts
takes_one P empty [] ts mid e v = let le : v.levels ≤ v.levels = omega arith in absurd (empty [] v.levels [] (v.whole [] v.levels tt le []))
takes_one P empty (t ∷ a) ts mid e v = let le : length mid ≤ length (a ++ mid) = longer a mid in omega (arith, le, ap length e)

pub strict_by : {X E : Type 0} (P R : Parts) → NonEmpty P → (turn : Reader (Turn X E)) → ((ts : List Token) → Turns P R ts (turn ts)) → Strict turn
strict_by {X} {E} P R empty turn law ts v mid e = let h : Turned {X = X} {E = E} P R ts (Ok (More v, mid)) = subst (λ (r : Read (Turn X E)). Turned P R ts r) e (law ts).took in takes_one P empty h.0 ts mid h.1 h.2

-- ---- readers

no_token : (t : Token) (ts : List Token) → [] ≡ t ∷ ts → ⊥
no_token t ts e = cc

else_if_taken : NonEmpty AnElseIf
else_if_taken names d rest (else_if at c b, (m, (at0, h0), g)) = no_token _ m h0

step_taken : NonEmpty AStep
step_taken names d rest (field at n, (m, h, g)) = no_token _ m h
step_taken names d rest (method at n es, (m, h, g)) = no_token _ m h
step_taken names d rest (index at e, (m, h, g)) = no_token _ m h

module _ (x : Two) (o p : Option Inner) (law : Both x o p) (read : Law o) (read2 : Law p) where
  strict_else : Strict (else_turn x.names o)
  strict_else = strict_by AnElseIf SomeElses else_if_taken (else_turn x.names o) (else_turns x.names o read)

  strict_else2 : Strict (else_turn x.names2 p)
  strict_else2 = strict_by AnElseIf SomeElses else_if_taken (else_turn x.names2 p) (else_turns x.names2 p read2)

  strict_step : Strict (step_turn x.names o)
  strict_step = strict_by AStep SomeSteps step_taken (step_turn x.names o) (step_turns x.names o read)

  strict_step2 : Strict (step_turn x.names2 p)
  strict_step2 = strict_by AStep SomeSteps step_taken (step_turn x.names2 p) (step_turns x.names2 p read2)

  ref_by_local : (i j : Inner) → InnerLocal x i j → (at at2 : Spot) (ts us : List Token) (is : Bool) → Local x Any ts us (ref_by x.names i at ts is) (ref_by x.names2 j at2 us is)
  ref_by_local i j h at at2 ts us true = word_then w.Imm ts us (λ v z. step (h.type_expr v.1 z.1) (λ a b. done x Any _ _ a.1 b.1 tt))
  ref_by_local i j h at at2 ts us false = step (h.type_expr ts us) (λ a b. done x Any _ _ a.1 b.1 tt)

  ref_local : (ts us : List Token) → Local x Any ts us (ref_type_at x.names o ts) (ref_type_at x.names2 p us)
  unfolding ref_type_at
  ref_local ts us = sign_opens o p law s.Ampersand _ _ ts us (λ i j h v z. by x Any v.1 z.1 (λ is. ref_by x.names i v.0 v.1 is) (λ is. ref_by x.names2 j z.0 z.1 is) (begins_word w.Imm v.1) (begins_word w.Imm z.1) (word_same x w.Imm v.1 z.1) (ref_by_local i j h v.0 z.0 v.1 z.1))

  array_type_local : (ts us : List Token) → Local x Any ts us (array_type_at x.names o ts) (array_type_at x.names2 p us)
  unfolding array_type_at
  array_type_local ts us = sign_opens o p law s.OpenBracket _ _ ts us (λ i j h v z. sign_then s.CloseBracket v.1 z.1 (λ c d. step (h.type_expr c.1 d.1) (λ a b. done x Any _ _ a.1 b.1 tt)))

  iso_type_local : (ts us : List Token) → Local x Any ts us (iso_type_at x.names o ts) (iso_type_at x.names2 p us)
  unfolding iso_type_at
  iso_type_local ts us = word_opens o p law w.Iso _ _ ts us (λ i j h v z. step (h.type_expr v.1 z.1) (λ a b. done x Any _ _ a.1 b.1 tt))

  type_by_local : (t u : Token) (ts us : List Token) (kind : TokenKind) → Local x Any (t ∷ ts) (u ∷ us) (type_by x.names o t ts kind) (type_by x.names2 p u us kind)
  type_by_local t u ts us (k.Word w.Int) = after_one t u ts us (done x Any _ _ ts us tt)
  type_by_local t u ts us (k.Word w.Bool) = after_one t u ts us (done x Any _ _ ts us tt)
  type_by_local t u ts us (k.Word w.Str) = after_one t u ts us (done x Any _ _ ts us tt)
  type_by_local t u ts us (k.Name text) = name_then x (t ∷ ts) (u ∷ us) (λ a b. done x Any _ _ a.1 b.1 tt)
  type_by_local t u ts us (k.Sign s.OpenBracket) = array_type_local (t ∷ ts) (u ∷ us)
  type_by_local t u ts us (k.Sign s.Ampersand) = ref_local (t ∷ ts) (u ∷ us)
  type_by_local t u ts us (k.Word w.Iso) = iso_type_local (t ∷ ts) (u ∷ us)
  type_by_local t u ts us _ = refused x Any (t ∷ ts) (u ∷ us)

  pub type_local : (ts us : List Token) → Local x Any ts us (type_at x.names o ts) (type_at x.names2 p us)
  unfolding type_at
  type_local [] us = left_nil (omega arith)
  type_local (t ∷ ts) [] = right_nil (type_by_local t t ts ts t.kind).at_most
  type_local (t ∷ ts) (u ∷ us) = by x Any (t ∷ ts) (u ∷ us) (λ kind. type_by x.names o t ts kind) (λ kind. type_by x.names2 p u us kind) t.kind u.kind (kind_same x t u ts us) (type_by_local t u ts us)

  -- ---- blocks and forms

  pub block_local : (ts us : List Token) → Local x Any ts us (block_at x.names o ts) (block_at x.names2 p us)
  unfolding block_at
  block_local ts us = sign_opens o p law s.OpenBrace _ _ ts us (λ i j h v z. step (h.stmts v.1 z.1) (λ a b. sign_then s.CloseBrace a.1 b.1 (λ c d. done x Any _ _ c.1 d.1 tt)))

  else_by_local : (ts us : List Token) (is : Bool) → Local x SameTurn ts us (else_by x.names o ts is) (else_by x.names2 p us is)
  else_by_local ts us true = word_opens o p law w.If _ _ ts us (λ i j h v z. step (h.whole v.1 z.1) (λ c d. step (block_local c.1 d.1) (λ a b. done x SameTurn _ _ a.1 b.1 tt)))
  else_by_local ts us false = step (block_local ts us) (λ a b. done x SameTurn _ _ a.1 b.1 tt)

  else_turn_by_local : (ts us : List Token) (is : Bool) → Local x SameTurn ts us (else_turn_by x.names o ts is) (else_turn_by x.names2 p us is)
  else_turn_by_local ts us true = word_then w.Else ts us (λ v z. by x SameTurn v.1 z.1 (λ is. else_by x.names o v.1 is) (λ is. else_by x.names2 p z.1 is) (begins_word w.If v.1) (begins_word w.If z.1) (word_same x w.If v.1 z.1) (else_by_local v.1 z.1))
  else_turn_by_local ts us false = done x SameTurn (End None) (End None) ts us tt

  else_turn_local : (ts us : List Token) → Local x SameTurn ts us (else_turn x.names o ts) (else_turn x.names2 p us)
  unfolding else_turn
  else_turn_local ts us = by x SameTurn ts us (λ is. else_turn_by x.names o ts is) (λ is. else_turn_by x.names2 p us is) (begins_word w.Else ts) (begins_word w.Else us) (word_same x w.Else ts us) (else_turn_by_local ts us)

  elses_local : (ts us : List Token) → Local x Any ts us (elses_at x.names o ts) (elses_at x.names2 p us)
  unfolding elses_at
  elses_local ts us = turns_local x (else_turn x.names o) (else_turn x.names2 p) more_elses else_end faulty else_turn_local (λ ts us. refused x Any ts us) strict_else strict_else2 ts us

  branch_local : (ts us : List Token) → Local x Any ts us (branch_at x.names o ts) (branch_at x.names2 p us)
  unfolding branch_at
  branch_local ts us = word_opens o p law w.If _ _ ts us (λ i j h v z. step (h.whole v.1 z.1) (λ c d. step (block_local c.1 d.1) (λ a b. step (elses_local a.1 b.1) (λ e f. done x Any _ _ e.1 f.1 tt))))

  pure_local : (ts us : List Token) → Local x Any ts us (pure_at x.names o ts) (pure_at x.names2 p us)
  pure_local ts us = word_then w.Pure ts us (λ v z. step (block_local v.1 z.1) (λ a b. done x Any _ _ a.1 b.1 tt))

  bound_by_local : (i j : Inner) → InnerLocal x i j → (ts us : List Token) (is : Bool) → Local x Any ts us (bound_by i ts is) (bound_by j us is)
  bound_by_local i j h ts us true = sign_then s.DotDot ts us (λ v z. step (h.whole v.1 z.1) (λ a b. done x Any _ _ a.1 b.1 tt))
  bound_by_local i j h ts us false = done x Any None None ts us tt

  bound_local : (i j : Inner) → InnerLocal x i j → (ts us : List Token) → Local x Any ts us (bound_at i ts) (bound_at j us)
  unfolding bound_at
  bound_local i j h ts us = by x Any ts us (λ is. bound_by i ts is) (λ is. bound_by j us is) (begins s.DotDot ts) (begins s.DotDot us) (begins_same x s.DotDot ts us) (bound_by_local i j h ts us)

  parallel_local : (ts us : List Token) → Local x Any ts us (parallel_at x.names o ts) (parallel_at x.names2 p us)
  unfolding parallel_at
  parallel_local ts us = word_opens o p law w.Parallel _ _ ts us (λ i j h v z. word_then w.Foreach v.1 z.1 (λ a b. name_then x a.1 b.1 (λ c d. word_then w.In c.1 d.1 (λ a b. step (h.whole a.1 b.1) (λ c d. step (bound_local i j h c.1 d.1) (λ a b. step (block_local a.1 b.1) (λ c d. done x Any _ _ c.1 d.1 tt)))))))

  form_by_local : (t u : Token) (ts us : List Token) (kind : TokenKind) → Local x Any (t ∷ ts) (u ∷ us) (form_by x.names o t ts kind) (form_by x.names2 p u us kind)
  form_by_local t u ts us (k.Word w.If) = branch_local (t ∷ ts) (u ∷ us)
  form_by_local t u ts us (k.Word w.Pure) = pure_local (t ∷ ts) (u ∷ us)
  form_by_local t u ts us (k.Word w.Parallel) = parallel_local (t ∷ ts) (u ∷ us)
  form_by_local t u ts us _ = refused x Any (t ∷ ts) (u ∷ us)

  pub form_local : (ts us : List Token) → Local x Any ts us (form_at x.names o ts) (form_at x.names2 p us)
  unfolding form_at
  form_local [] us = left_nil (omega arith)
  form_local (t ∷ ts) [] = right_nil (form_by_local t t ts ts t.kind).at_most
  form_local (t ∷ ts) (u ∷ us) = by x Any (t ∷ ts) (u ∷ us) (λ kind. form_by x.names o t ts kind) (λ kind. form_by x.names2 p u us kind) t.kind u.kind (kind_same x t u ts us) (form_by_local t u ts us)

  -- ---- operands

  pub arguments_local : (ts us : List Token) → Local x Any ts us (arguments_at x.names o ts) (arguments_at x.names2 p us)
  unfolding arguments_at
  arguments_local ts us = sign_opens o p law s.OpenParen _ _ ts us (λ i j h v z. step (h.args v.1 z.1) (λ a b. sign_then s.CloseParen a.1 b.1 (λ c d. done x Any _ _ c.1 d.1 tt)))

  pub called_by_local : (n m : NameAt) (ts us : List Token) (is : Bool) → Local x Any ts us (called_by x.names o n ts is) (called_by x.names2 p m us is)
  called_by_local n m ts us true = step (arguments_local ts us) (λ a b. done x Any _ _ a.1 b.1 tt)
  called_by_local n m ts us false = done x Any _ _ ts us tt

  called_local : (ts us : List Token) → Local x Any ts us (called_at x.names o ts) (called_at x.names2 p us)
  unfolding called_at
  called_local ts us = name_then x ts us (λ n m. by x Any n.1 m.1 (λ is. called_by x.names o n.0 n.1 is) (λ is. called_by x.names2 p m.0 m.1 is) (begins s.OpenParen n.1) (begins s.OpenParen m.1) (begins_same x s.OpenParen n.1 m.1) (called_by_local n.0 m.0 n.1 m.1))

  paren_local : (ts us : List Token) → Local x Any ts us (paren_at x.names o ts) (paren_at x.names2 p us)
  unfolding paren_at
  paren_local ts us = sign_opens o p law s.OpenParen _ _ ts us (λ i j h v z. step (h.whole v.1 z.1) (λ a b. sign_then s.CloseParen a.1 b.1 (λ c d. done x Any _ _ c.1 d.1 tt)))

  array_local : (ts us : List Token) → Local x Any ts us (array_at x.names o ts) (array_at x.names2 p us)
  unfolding array_at
  array_local ts us = sign_opens o p law s.OpenBracket _ _ ts us (λ i j h v z. sign_then s.CloseBracket v.1 z.1 (λ a b. step (h.type_expr a.1 b.1) (λ c d. step (arguments_local c.1 d.1) (λ a b. done x Any _ _ a.1 b.1 tt))))

  iso_local : (ts us : List Token) → Local x Any ts us (iso_at x.names o ts) (iso_at x.names2 p us)
  iso_local ts us = word_then w.Iso ts us (λ v z. step (block_local v.1 z.1) (λ a b. done x Any _ _ a.1 b.1 tt))

  primary_by_local : (t u : Token) (ts us : List Token) (kind kind2 : TokenKind) → Unit {0} → Local x Any (t ∷ ts) (u ∷ us) (primary_by x.names o t ts kind) (primary_by x.names2 p u us kind)
  primary_by_local t u ts us (k.Number n) kind2 q = after_one t u ts us (done x Any _ _ ts us tt)
  primary_by_local t u ts us (k.Quote text) kind2 q = after_one t u ts us (done x Any _ _ ts us tt)
  primary_by_local t u ts us (k.Word w.True) kind2 q = after_one t u ts us (done x Any _ _ ts us tt)
  primary_by_local t u ts us (k.Word w.False) kind2 q = after_one t u ts us (done x Any _ _ ts us tt)
  primary_by_local t u ts us (k.Name text) kind2 q = called_local (t ∷ ts) (u ∷ us)
  primary_by_local t u ts us (k.Sign s.OpenParen) kind2 q = paren_local (t ∷ ts) (u ∷ us)
  primary_by_local t u ts us (k.Sign s.OpenBracket) kind2 q = array_local (t ∷ ts) (u ∷ us)
  primary_by_local t u ts us (k.Word w.Iso) kind2 q = iso_local (t ∷ ts) (u ∷ us)
  primary_by_local t u ts us _ kind2 q = step (form_local (t ∷ ts) (u ∷ us)) (λ a b. done x Any _ _ a.1 b.1 tt)

  primary_local : (ts us : List Token) → Local x Any ts us (primary_at x.names o ts) (primary_at x.names2 p us)
  unfolding primary_at
  primary_local [] us = left_nil (omega arith)
  primary_local (t ∷ ts) [] = right_nil (primary_by_local t t ts ts t.kind t.kind tt).at_most
  primary_local (t ∷ ts) (u ∷ us) = by x Any (t ∷ ts) (u ∷ us) (λ kind. primary_by x.names o t ts kind) (λ kind. primary_by x.names2 p u us kind) t.kind u.kind (kind_same x t u ts us) (λ kind. primary_by_local t u ts us kind kind tt)

  member_by_local : (at at2 : Spot) (n m : NameAt) (ts us : List Token) (is : Bool) → Local x SameTurn ts us (member_by x.names o at n ts is) (member_by x.names2 p at2 m us is)
  member_by_local at at2 n m ts us true = step (arguments_local ts us) (λ a b. done x SameTurn _ _ a.1 b.1 tt)
  member_by_local at at2 n m ts us false = done x SameTurn _ _ ts us tt

  member_local : (ts us : List Token) → Local x SameTurn ts us (member_at x.names o ts) (member_at x.names2 p us)
  unfolding member_at
  member_local ts us = sign_then s.Dot ts us (λ v z. name_then x v.1 z.1 (λ n m. by x SameTurn n.1 m.1 (λ is. member_by x.names o v.0 n.0 n.1 is) (λ is. member_by x.names2 p z.0 m.0 m.1 is) (begins s.OpenParen n.1) (begins s.OpenParen m.1) (begins_same x s.OpenParen n.1 m.1) (member_by_local v.0 z.0 n.0 m.0 n.1 m.1)))

  index_local : (ts us : List Token) → Local x SameTurn ts us (index_at x.names o ts) (index_at x.names2 p us)
  unfolding index_at
  index_local ts us = sign_opens o p law s.OpenBracket _ _ ts us (λ i j h v z. step (h.whole v.1 z.1) (λ a b. sign_then s.CloseBracket a.1 b.1 (λ c d. done x SameTurn _ _ c.1 d.1 tt)))

  step_by_local : (t u : Token) (ts us : List Token) (kind : TokenKind) → Local x SameTurn (t ∷ ts) (u ∷ us) (step_by x.names o t ts kind) (step_by x.names2 p u us kind)
  step_by_local t u ts us (k.Sign s.Dot) = member_local (t ∷ ts) (u ∷ us)
  step_by_local t u ts us (k.Sign s.OpenBracket) = index_local (t ∷ ts) (u ∷ us)
  step_by_local t u ts us _ = done x SameTurn (End tt) (End tt) (t ∷ ts) (u ∷ us) tt

  step_local : (ts us : List Token) → Local x SameTurn ts us (step_turn x.names o ts) (step_turn x.names2 p us)
  unfolding step_turn
  step_local [] us = left_nil (omega arith)
  step_local (t ∷ ts) [] = right_nil (step_by_local t t ts ts t.kind).at_most
  step_local (t ∷ ts) (u ∷ us) = by x SameTurn (t ∷ ts) (u ∷ us) (λ kind. step_by x.names o t ts kind) (λ kind. step_by x.names2 p u us kind) t.kind u.kind (kind_same x t u ts us) (step_by_local t u ts us)

  pub steps_local : (ts us : List Token) → Local x Any ts us (steps_at x.names o ts) (steps_at x.names2 p us)
  unfolding steps_at
  steps_local ts us = turns_local x (step_turn x.names o) (step_turn x.names2 p) more_steps (λ _. no_steps) faulty step_local (λ ts us. refused x Any ts us) strict_step strict_step2 ts us

  pub postfix_local : (ts us : List Token) → Local x Any ts us (postfix_at x.names o ts) (postfix_at x.names2 p us)
  unfolding postfix_at
  postfix_local ts us = step (primary_local ts us) (λ a b. step (steps_local a.1 b.1) (λ c d. done x Any _ _ c.1 d.1 tt))

  unary_by_local : (t u : Token) (ts us : List Token) (q : Option UnaryOp) → Local x Any (t ∷ ts) (u ∷ us) (unary_by x.names o t ts q) (unary_by x.names2 p u us q)
  unary_by_local t u ts us (Some op) = inside_local x Any o p law t u ts us (t ∷ ts) (u ∷ us) refl refl _ _ (λ i j h. step (h.operand ts us) (λ a b. done x Any _ _ a.1 b.1 tt))
  unary_by_local t u ts us None = postfix_local (t ∷ ts) (u ∷ us)

  pub unary_local : (ts us : List Token) → Local x Any ts us (unary_at x.names o ts) (unary_at x.names2 p us)
  unfolding unary_at
  unary_local [] us = left_nil (omega arith)
  unary_local (t ∷ ts) [] = right_nil (unary_by_local t t ts ts (unary_op t.kind)).at_most
  unary_local (t ∷ ts) (u ∷ us) = by x Any (t ∷ ts) (u ∷ us) (λ q. unary_by x.names o t ts q) (λ q. unary_by x.names2 p u us q) (unary_op t.kind) (unary_op u.kind) (λ sh. ap unary_op (kind_same x t u ts us sh)) (unary_by_local t u ts us)

  set_local : (ts us : List Token) → Local x Any ts us (set_at x.names o ts) (set_at x.names2 p us)
  unfolding set_at
  set_local ts us = word_opens o p law w.Set _ _ ts us (λ i j h v z. step (h.place v.1 z.1) (λ a b. sign_then s.Assign a.1 b.1 (λ c d. step (h.whole c.1 d.1) (λ a b. done x Any _ _ a.1 b.1 tt))))

-- ---- lists

abbrev pub gave : {X E : Type 0} → Turn X E → List Token → Read (Turn X E)
gave v ts = Ok (v, ts)

abbrev ok_read : {A : Type 0} → A → Result A Fault
ok_read y = Ok y

ok_is : {A : Type 0} (y z : A) → ok_read y ≡ ok_read z → y ≡ z
ok_is y z e = cc

turn_apart : {X E : Type 0} (v : E) (w : X) (y z : Turn X E) → y ≡ End v → z ≡ More w → y ≡ z → ⊥
turn_apart v w y z e f g = let h : End v ≡ More w = sym e ∙ (g ∙ f) in cc

pub more_is : {X E : Type 0} (v w : X) (ts mid : List Token) → gave {X = X} {E = E} (More v) ts ≡ gave {X = X} {E = E} (More w) mid → ts ≡ mid
more_is {X} {E} v w ts mid e = ap (λ (y : Turn X E × List Token). y.1) (ok_is {A = Turn X E × List Token} (More v, ts) (More w, mid) e)

pub end_is : {X E : Type 0} (v : E) (w : X) (ts mid : List Token) → gave {X = X} {E = E} (End v) ts ≡ gave {X = X} {E = E} (More w) mid → ⊥
end_is {X} {E} v w ts mid e = turn_apart {X = X} {E = E} v w (End v) (More w) refl refl (ap (λ (y : Turn X E × List Token). y.0) (ok_is {A = Turn X E × List Token} (End v, ts) (More w, mid) e))

pub fault_is : {X E : Type 0} (f : Fault) (w : X) (mid : List Token) → (Err f) ≡ gave {X = X} {E = E} (More w) mid → ⊥
fault_is f w mid e = cc

-- an item that was read after a token
after_item : {A X E : Type 0} (n : ℕ) (r : Read A) (g : A × List Token → X) (v : X) (mid : List Token) → AtMost n r → (r >>= λ y. gave {X = X} {E = E} (More (g y)) y.1) ≡ gave (More v) mid → length mid ≤ n
after_item n (Ok y) g v mid h e = omega (arith, h, ap length (more_is (g y) v y.1 mid e))
after_item n (Err f) g v mid h e = absurd (fault_is f v mid e)

module _ {X : Type 0} (item : Reader X) (most : (ts : List Token) → AtMost (length ts) (item ts)) where
  after_comma : (names : List (List ℕ)) (ts : List Token) (r : Read Spot) (v : X) (mid : List Token) → Side (is_sign s.Comma) names ts r → (r >>= λ c. item c.1 >>= λ y. gave {X = X} {E = Unit {0}} (More y.0) y.1) ≡ gave (More v) mid → length mid < length ts
  after_comma names ts (Ok c) v mid h e = let le : length mid ≤ length c.1 = after_item (length c.1) (item c.1) (λ y. y.0) v mid (most c.1) e in omega (arith, le, ap length h.1)
  after_comma names ts (Err f) v mid h e = absurd (fault_is f v mid e)

  comma_by : (ts : List Token) (b : Bool) (v : X) (mid : List Token) → cond b (sign_at s.Comma ts >>= λ c. item c.1 >>= λ y. gave {X = X} {E = Unit {0}} (More y.0) y.1) (gave (End tt) ts) ≡ gave (More v) mid → length mid < length ts
  comma_by ts true v mid e = after_comma [] ts (sign_at s.Comma ts) v mid (sign_side s.Comma [] ts) e
  comma_by ts false v mid e = absurd (end_is tt v ts mid e)

  pub strict_comma : Strict (comma_turn item)
  unfolding comma_turn
  strict_comma ts v mid e = comma_by ts (begins s.Comma ts) v mid e

link_taken : (tighter : Reader Expr) → ((ts : List Token) → AtMost (length ts) (tighter ts)) → (t : Token) (ts : List Token) (q : Option BinaryOp) (v : Link) (mid : List Token) → link_by tighter t ts q ≡ gave (More v) mid → length mid < length (t ∷ ts)
link_taken tighter most t ts None v mid e = absurd (end_is (tt {0}) v (t ∷ ts) mid e)
link_taken tighter most t ts (Some op) v mid e = let le : length mid ≤ length ts = after_item (length ts) (tighter ts) (λ y. link t.at op y.0) v mid (most ts) e in omega (arith, le)

strict_link : (tighter : Reader Expr) (n : ℕ) → ((ts : List Token) → AtMost (length ts) (tighter ts)) → Strict (link_turn tighter n)
unfolding link_turn
strict_link tighter n most [] v mid e = absurd (end_is (tt {0}) v [] mid e)
strict_link tighter n most (t ∷ ts) v mid e = link_taken tighter most t ts (link_op n t.kind) v mid e

module _ (x : Two) where
  module _ {X : Type 0} (item item2 : Reader X) (law : (ts us : List Token) → Local x Any ts us (item ts) (item2 us)) (most2 : (ts : List Token) → AtMost (length ts) (item2 ts)) where
    comma_by_local : (ts us : List Token) (b : Bool) → Local x SameTurn ts us (cond b (sign_at s.Comma ts >>= λ c. item c.1 >>= λ y. gave {X = X} {E = Unit {0}} (More y.0) y.1) (gave (End tt) ts)) (cond b (sign_at s.Comma us >>= λ c. item2 c.1 >>= λ y. gave {X = X} {E = Unit {0}} (More y.0) y.1) (gave (End tt) us))
    comma_by_local ts us true = sign_then s.Comma ts us (λ c d. step (law c.1 d.1) (λ a b. done x SameTurn _ _ a.1 b.1 tt))
    comma_by_local ts us false = done x SameTurn _ _ ts us tt

    comma_local : (ts us : List Token) → Local x SameTurn ts us (comma_turn item ts) (comma_turn item2 us)
    unfolding comma_turn
    comma_local ts us = by x SameTurn ts us (λ b. cond b (sign_at s.Comma ts >>= λ c. item c.1 >>= λ y. gave {X = X} {E = Unit {0}} (More y.0) y.1) (gave (End tt) ts)) (λ b. cond b (sign_at s.Comma us >>= λ c. item2 c.1 >>= λ y. gave {X = X} {E = Unit {0}} (More y.0) y.1) (gave (End tt) us))
        (begins s.Comma ts) (begins s.Comma us) (begins_same x s.Comma ts us) (comma_by_local ts us)

    module _ {L : Type 0} (more : X → L → L) (nil : L) where
      others_local : (ts us : List Token) → Local x Any ts us (others_at item more nil ts) (others_at item2 more nil us)
      others_local ts us = turns_local x (comma_turn item) (comma_turn item2) more (λ _. nil) faulty comma_local (λ ts us. refused x Any ts us) (strict_comma item (λ ts. (law ts ts).at_most)) (strict_comma item2 most2) ts us

      pub commas_local : (close : Sign) (ts us : List Token) → Local x Any ts us (commas_at close item more nil ts) (commas_at close item2 more nil us)
      commas_local close ts us = by x Any ts us (λ b. cond b (Ok (nil, ts)) (item ts >>= λ v. others_at item more nil v.1 >>= λ vs. Ok (more v.0 vs.0, vs.1))) (λ b. cond b (Ok (nil, us)) (item2 us >>= λ v. others_at item2 more nil v.1 >>= λ vs. Ok (more v.0 vs.0, vs.1)))
          (begins close ts) (begins close us) (begins_same x close ts us) (commas_by ts us) where
            commas_by : (ts us : List Token) (b : Bool) → Local x Any ts us (cond b (Ok (nil, ts)) (item ts >>= λ v. others_at item more nil v.1 >>= λ vs. Ok (more v.0 vs.0, vs.1))) (cond b (Ok (nil, us)) (item2 us >>= λ v. others_at item2 more nil v.1 >>= λ vs. Ok (more v.0 vs.0, vs.1)))
            commas_by ts us true = done x Any _ _ ts us tt
            commas_by ts us false = step (law ts us) (λ v z. step (others_local v.1 z.1) (λ a b. done x Any _ _ a.1 b.1 tt))

  -- ---- operators

  module _ (n : ℕ) (tighter tighter2 : Reader Expr) (law : (ts us : List Token) → Local x Any ts us (tighter ts) (tighter2 us)) where
    link_by_local : (t u : Token) (ts us : List Token) (q : Option BinaryOp) → Local x SameTurn (t ∷ ts) (u ∷ us) (link_by tighter t ts q) (link_by tighter2 u us q)
    link_by_local t u ts us (Some op) = after_one t u ts us (step (law ts us) (λ a b. done x SameTurn _ _ a.1 b.1 tt))
    link_by_local t u ts us None = done x SameTurn _ _ (t ∷ ts) (u ∷ us) tt

    link_local : (ts us : List Token) → Local x SameTurn ts us (link_turn tighter n ts) (link_turn tighter2 n us)
    unfolding link_turn
    link_local [] us = left_nil (omega arith)
    link_local (t ∷ ts) [] = right_nil (link_by_local t t ts ts (link_op n t.kind)).at_most
    link_local (t ∷ ts) (u ∷ us) = by x SameTurn (t ∷ ts) (u ∷ us) (λ q. link_by tighter t ts q) (λ q. link_by tighter2 u us q) (link_op n t.kind) (link_op n u.kind) (λ sh. ap (link_op n) (kind_same x t u ts us sh)) (link_by_local t u ts us)

    module _ (most2 : (ts : List Token) → AtMost (length ts) (tighter2 ts)) where
      links_by_local : (b : Bool) (ts us : List Token) → Local x Any ts us (turns_at (link_turn tighter n) more_links (λ _. no_links) no_more (cond b 1 (enough ts)) ts) (turns_at (link_turn tighter2 n) more_links (λ _. no_links) no_more (cond b 1 (enough us)) us)
      links_by_local true ts us = turns_by x (link_turn tighter n) (link_turn tighter2 n) more_links (λ _. no_links) no_more link_local (λ ts us. done x Any _ _ ts us tt) 1 ts us
      links_by_local false ts us = turns_local x (link_turn tighter n) (link_turn tighter2 n) more_links (λ _. no_links) no_more link_local (λ ts us. done x Any _ _ ts us tt) (strict_link tighter n (λ ts. (law ts ts).at_most)) (strict_link tighter2 n most2) ts us

      pub links_local : (ts us : List Token) → Local x Any ts us (links_at tighter n ts) (links_at tighter2 n us)
      unfolding links_at
      links_local ts us = links_by_local (eqb n 3) ts us

reads_most_by : {A : Type 0} (P : Parts) (ts : List Token) (r : Read A) → Took P ts r → AtMost (length ts) r
reads_most_by P ts (Ok y) h = let le : length y.1 ≤ length (h.0 ++ y.1) = longer h.0 y.1 in omega (arith, le, ap length h.1)
reads_most_by P ts (Err f) h = let le : length (from f) ≤ length (h.0 ++ from f) = longer h.0 (from f) in omega (arith, le, ap length h.1)

pub reads_most : {A : Type 0} {P : Parts} {ts : List Token} {r : Read A} → Reads P ts r → AtMost (length ts) r
reads_most {P = P} {ts = ts} {r = r} h = reads_most_by P ts r h.took

module _ (x : Two) (o p : Option Inner) (law : Both x o p) (read : Law o) (read2 : Law p) where
  pub level_local : (n : ℕ) (ts us : List Token) → Local x Any ts us (level_at x.names o n ts) (level_at x.names2 p n us)
  unfolding level_at
  level_local zero ts us = unary_local x o p law read read2 ts us
  level_local (suc n) ts us = step (level_local n ts us) (λ e f. step (links_local x (suc n) (level_at x.names o n) (level_at x.names2 p n) (level_local n) (λ ts. reads_most (level_reads x.names2 p read2 n ts)) e.1 f.1) (λ a b. done x Any _ _ a.1 b.1 tt))

  whole_by_local : (ts us : List Token) (is : Bool) → Local x Any ts us (whole_by x.names o ts is) (whole_by x.names2 p us is)
  whole_by_local ts us true = set_local x o p law read read2 ts us
  whole_by_local ts us false = level_local 5 ts us

  pub whole_local : (ts us : List Token) → Local x Any ts us (whole_at x.names o ts) (whole_at x.names2 p us)
  unfolding whole_at
  whole_local ts us = by x Any ts us (λ is. whole_by x.names o ts is) (λ is. whole_by x.names2 p us is) (begins_word w.Set ts) (begins_word w.Set us) (word_same x w.Set ts us) (whole_by_local ts us)

  pub args_local : (ts us : List Token) → Local x Any ts us (args_at x.names o ts) (args_at x.names2 p us)
  unfolding args_at
  args_local ts us = commas_local x (whole_at x.names o) (whole_at x.names2 p) whole_local (λ ts. reads_most (whole_reads x.names2 p read2 ts)) more_exprs no_exprs s.CloseParen ts us
