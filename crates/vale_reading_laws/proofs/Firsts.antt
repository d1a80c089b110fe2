-- What a part begins with, and what may follow one.
use Rattle.std.proofs.Common.{◌≡◌, ◌<◌, ◌≤◌, ℕ, suc, Bool, true, false, List, [], ◌∷◌, Option, Some, None, refl, sym, subst, ◌∙◌, arith}
use Rattle.vale_base.specs.declared.spot.Spot.{Spot}
use Rattle.vale_syntax.specs.declared.token.Token.{Token}
use Rattle.vale_syntax.specs.declared.token.TokenKind.{TokenKind}
use Rattle.vale_syntax.specs.declared.token.TokenKind.TheVariants as k
use Rattle.vale_syntax.specs.declared.token.Sign.{Sign}
use Rattle.vale_syntax.specs.declared.token.Sign.TheVariants as s
use Rattle.vale_syntax.specs.declared.token.Word.TheVariants as w
use Rattle.vale_syntax.specs.declared.tree.NameAt.{NameAt}
use Rattle.vale_syntax.specs.declared.tree.BinaryOp.{BinaryOp}
use Rattle.vale_syntax.specs.declared.tree.BinaryOp.TheVariants as b
use Rattle.vale_syntax.specs.declared.tree.UnaryOp.{UnaryOp}
use Rattle.vale_syntax.specs.declared.tree.UnaryOp.TheVariants as u
use Rattle.vale_syntax.specs.Tree.{TypeExpr, int_type, bool_type, str_type, named_type, array_type, ref_type, imm_ref_type, iso_type, Expr, set, chain, unary, steps, number, quote, truth, name, call, paren, array, iso, form, link, Links, no_links, more_links, field, method, index, Steps, no_steps, more_steps, Form, branch, pure, parallel_range, parallel_each, Block, block, Stmt, declare, destructure, return_nothing, return_value, while, foreach, form_stmt, express, Stmts, no_stmts, last, more_stmts}
use Rattle.vale_syntax.specs.Grammar.{token, one, sign, ◌▸◌, primary, operand, whole, rank, binary_kind, unary_kind, truth_kind, HasLinks, HasSteps, named, IsType, IsExpr, AreLinks, AreSteps, IsForm, IsBlock, AreStmts, IsStmt}
use Rattle.vale_reading.specs.Steps.{is_sign, is_word, begins, begins_word}
use Rattle.vale_reading.specs.Reading.{binary_op, unary_op, is_name, after_bracket}
use Rattle.vale_reading_laws.proofs.Shorter.{at_level, of_alone}

-- ---- lists of tokens

pub differs : (b : Bool) → b ≡ false → b ≡ true → ⊥
differs b e f = let g : false ≡ true = sym e ∙ f in cc

pub heads : (t t2 : Token) (ts ts2 : List Token) → t ∷ ts ≡ t2 ∷ ts2 → (t ≡ t2) × (ts ≡ ts2)
heads t t2 ts ts2 e = (cc, cc)

pub nil_not : (t : Token) (ts : List Token) → [] ≡ t ∷ ts → ⊥
nil_not t ts e = cc

-- a fact about the kind of the first token
pub of_first : (f : TokenKind → Bool) (kind : TokenKind) (at : Spot) (t : Token) (ts m : List Token) → t ∷ ts ≡ token kind at ∷ m → f t.kind ≡ true → f kind ≡ true
of_first f kind at t ts m h e = subst (λ (x : Token). f x.kind ≡ true) (heads t (token kind at) ts m h).0 e

-- ---- what may follow an expression

-- a token that goes on with an operand
abbrev pub sticks : TokenKind → Bool
sticks (k.Sign s.Dot) = true
sticks (k.Sign s.OpenBracket) = true
sticks (k.Sign s.OpenParen) = true
sticks (k.Word w.Else) = true
sticks _ = false

abbrev pub Above : ℕ → Option BinaryOp → Type 0
Above r None = Unit {0}
Above r (Some op) = r < rank op

-- the next token doesn't go on with an expression of this rank
abbrev pub Stops : ℕ → List Token → Type 0
Stops r [] = Unit {0}
Stops r (t ∷ ts) = (sticks t.kind ≡ false) × Above r (binary_op t.kind)

-- nor with a name or an `if`
abbrev pub NoParen : List Token → Type 0
NoParen ts = begins s.OpenParen ts ≡ false

abbrev pub NoElse : List Token → Type 0
NoElse ts = begins_word w.Else ts ≡ false

abbrev pub Apart : List Token → Type 0
Apart ts = NoParen ts × NoElse ts

-- the sign comes next
abbrev pub Before : Sign → List Token → Type 0
Before x ts = (rest : List Token) × sign x ts rest

abbrev pub Any : List Token → Type 0
Any ts = Unit {0}

sticks_paren : (kind : TokenKind) → sticks kind ≡ false → is_sign s.OpenParen kind ≡ false
sticks_paren (k.Sign s.OpenParen) e = absurd cc
sticks_paren _ e = refl

sticks_else : (kind : TokenKind) → sticks kind ≡ false → is_word w.Else kind ≡ false
sticks_else (k.Word w.Else) e = absurd cc
sticks_else _ e = refl

pub Apart-stops : (r : ℕ) (ts : List Token) → Stops r ts → Apart ts
Apart-stops r [] h = (refl, refl)
Apart-stops r (t ∷ ts) h = (sticks_paren t.kind h.0, sticks_else t.kind h.0)

Above-less : (r r2 : ℕ) (o : Option BinaryOp) → r ≤ r2 → Above r2 o → Above r o
Above-less r r2 None le h = tt
Above-less r r2 (Some op) le h = omega arith

pub Stops-less : (r r2 : ℕ) (ts : List Token) → r ≤ r2 → Stops r2 ts → Stops r ts
Stops-less r r2 [] le h = tt
Stops-less r r2 (t ∷ ts) le h = (h.0, Above-less r r2 (binary_op t.kind) le h.1)

pub Stops-sign : (r : ℕ) (x : Sign) (ts rest : List Token) → sticks (k.Sign x) ≡ false → binary_op (k.Sign x) ≡ None → sign x ts rest → Stops r ts
Stops-sign r x ts rest e f h = rw h.1 (e, rw f tt)

-- ---- operators

pub binary_again : (op : BinaryOp) → binary_op (binary_kind op) ≡ Some op
binary_again b.Or = refl
binary_again b.And = refl
binary_again b.Equal = refl
binary_again b.NotEqual = refl
binary_again b.Less = refl
binary_again b.LessEqual = refl
binary_again b.Greater = refl
binary_again b.GreaterEqual = refl
binary_again b.Add = refl
binary_again b.Sub = refl
binary_again b.Mul = refl
binary_again b.Div = refl
binary_again b.Rem = refl

pub sticks_binary : (op : BinaryOp) → sticks (binary_kind op) ≡ false
sticks_binary b.Or = refl
sticks_binary b.And = refl
sticks_binary _ = refl

assign_binary : (op : BinaryOp) → is_sign s.Assign (binary_kind op) ≡ false
assign_binary b.Or = refl
assign_binary b.And = refl
assign_binary _ = refl

rank_bounds : (op : BinaryOp) → (operand < rank op) × (rank op < whole)
rank_bounds b.Or = (omega arith, omega arith)
rank_bounds b.And = (omega arith, omega arith)
rank_bounds b.Equal = (omega arith, omega arith)
rank_bounds b.NotEqual = (omega arith, omega arith)
rank_bounds b.Less = (omega arith, omega arith)
rank_bounds b.LessEqual = (omega arith, omega arith)
rank_bounds b.Greater = (omega arith, omega arith)
rank_bounds b.GreaterEqual = (omega arith, omega arith)
rank_bounds b.Add = (omega arith, omega arith)
rank_bounds b.Sub = (omega arith, omega arith)
rank_bounds b.Mul = (omega arith, omega arith)
rank_bounds b.Div = (omega arith, omega arith)
rank_bounds b.Rem = (omega arith, omega arith)

pub unary_again : (op : UnaryOp) → unary_op (unary_kind op) ≡ Some op
unary_again u.Minus = refl
unary_again u.Not = refl
unary_again u.Borrow = refl
unary_again u.Merge = refl

-- ---- what an expression begins with

abbrev pub starts : TokenKind → Bool
starts (k.Number n) = true
starts (k.Quote text) = true
starts (k.Name text) = true
starts (k.Word w.True) = true
starts (k.Word w.False) = true
starts (k.Word w.Iso) = true
starts (k.Word w.If) = true
starts (k.Word w.Pure) = true
starts (k.Word w.Parallel) = true
starts (k.Word w.Not) = true
starts (k.Word w.Merge) = true
starts (k.Word w.Set) = true
starts (k.Sign s.OpenParen) = true
starts (k.Sign s.OpenBracket) = true
starts (k.Sign s.Minus) = true
starts (k.Sign s.Ampersand) = true
starts _ = false

starts_unary : (op : UnaryOp) → (starts (unary_kind op) ≡ true) × (is_word w.Set (unary_kind op) ≡ false) × (is_name (unary_kind op) ≡ false) × (is_sign s.OpenBracket (unary_kind op) ≡ false)
starts_unary u.Minus = (refl, refl, refl, refl)
starts_unary u.Not = (refl, refl, refl, refl)
starts_unary u.Borrow = (refl, refl, refl, refl)
starts_unary u.Merge = (refl, refl, refl, refl)

pub starts_no_close : (kind : TokenKind) → starts kind ≡ true → is_sign s.CloseParen kind ≡ false
starts_no_close (k.Sign s.CloseParen) e = absurd cc
starts_no_close _ e = refl

pub starts_no_semicolon : (kind : TokenKind) → starts kind ≡ true → is_sign s.Semicolon kind ≡ false
starts_no_semicolon (k.Sign s.Semicolon) e = absurd cc
starts_no_semicolon _ e = refl

starts_no_else : (kind : TokenKind) → starts kind ≡ true → is_word w.Else kind ≡ false
starts_no_else (k.Word w.Else) e = absurd cc
starts_no_else _ e = refl

-- what the first token of an expression of this rank is
pub record Begins (r : ℕ) (ts : List Token) : Type 0 where
  pub t : Token
  pub after : List Token
  pub is : ts ≡ t ∷ after
  pub starts : starts t.kind ≡ true
  pub no_set : r < whole → is_word w.Set t.kind ≡ false
  pub no_unary : r < operand → unary_op t.kind ≡ None

begins_kind : (r : ℕ) (kind : TokenKind) (at : Spot) (ts m : List Token) → ts ≡ token kind at ∷ m → starts kind ≡ true → is_word w.Set kind ≡ false → unary_op kind ≡ None → Begins r ts
begins_kind r kind at ts m h e f g = record { t = token kind at; after = m; is = h; starts = e; no_set = λ lt. f; no_unary = λ lt. g }

module _ (names : List (List ℕ)) where
  -- the ranks of the operands of a chain
  pub chain_rank : (below d : ℕ) (ls : Links) (ts rest : List Token) → HasLinks (suc below) ls → AreLinks names below d ls ts rest → (operand ≤ below) × (suc below < whole)
  chain_rank below d no_links ts rest has h = absurd has
  chain_rank below d (more_links (link at op e) ls) ts rest has (m, (is, h), g) =
      let q = rank_bounds op in
      let low : operand ≤ below = omega (arith, q.0, is) in
      let high : suc below < whole = omega (arith, q.1, is) in
      (low, high)

  first_form : (r d : ℕ) (f : Form) (ts rest : List Token) → IsForm names d f ts rest → Begins r ts
  first_form r d (branch at c b es) ts rest (m, h, g) = begins_kind r (k.Word w.If) at ts m h refl refl refl
  first_form r d (pure at b) ts rest (m, h, g) = begins_kind r (k.Word w.Pure) at ts m h refl refl refl
  first_form r d (parallel_range at n a e b) ts rest (m, h, g) = begins_kind r (k.Word w.Parallel) at ts m h refl refl refl
  first_form r d (parallel_each at n e b) ts rest (m, h, g) = begins_kind r (k.Word w.Parallel) at ts m h refl refl refl

  first_truth : (r : ℕ) (b : Bool) (at : Spot) (ts rest : List Token) → one (truth_kind b) at ts rest → Begins r ts
  first_truth r true at ts rest h = begins_kind r (k.Word w.True) at ts rest h refl refl refl
  first_truth r false at ts rest h = begins_kind r (k.Word w.False) at ts rest h refl refl refl

  first_name : (r : ℕ) (n : NameAt) (ts rest : List Token) → named names n ts rest → Begins r ts
  first_name r n ts rest (text, is, h) = begins_kind r (k.Name text) n.at ts rest h refl refl refl

  pub first : (r d : ℕ) (e : Expr) (ts rest : List Token) → IsExpr names r d e ts rest → Begins r ts
  first r d (set at p e) ts rest (le, (m, h, g)) = record { t = token (k.Word w.Set) at; after = m; is = h; starts = refl; no_set = λ lt. absurd (omega (arith, le, lt)); no_unary = λ lt. refl }
  first r d (chain e ls) ts rest (below, lt, has, (m, h, g)) =
      let q = chain_rank below d ls m rest has g in
      let f = first below d e ts m h in
      let high : below < whole = omega (arith, q.1) in
      record { t = f.t; after = f.after; is = f.is; starts = f.starts; no_set = λ _. f.no_set high; no_unary = λ low. absurd (omega (arith, q.0, low, lt)) }
  first r d (unary at op e) ts rest (le, (m, h, g)) = let q = starts_unary op in
      record { t = token (unary_kind op) at; after = m; is = h; starts = q.0; no_set = λ _. q.1; no_unary = λ lt. absurd (omega (arith, le, lt)) }
  first r d (steps e ss) ts rest (le, (m, h, g)) =
      let f = first primary d e ts m h in
      let high : primary < whole = omega arith in
      let low : primary < operand = omega arith in
      record { t = f.t; after = f.after; is = f.is; starts = f.starts; no_set = λ _. f.no_set high; no_unary = λ _. f.no_unary low }
  first r d (number at n) ts rest h = begins_kind r (k.Number n) at ts rest h refl refl refl
  first r d (quote at text) ts rest h = begins_kind r (k.Quote text) at ts rest h refl refl refl
  first r d (truth at b) ts rest h = first_truth r b at ts rest h
  first r d (name n) ts rest h = first_name r n ts rest h
  first r d (call n es) ts rest (m, h, g) = first_name r n ts m h
  first r d (paren at e) ts rest (m, h, g) = begins_kind r (k.Sign s.OpenParen) at ts m h refl refl refl
  first r d (array at x es) ts rest (m, h, g) = begins_kind r (k.Sign s.OpenBracket) at ts m h refl refl refl
  first r d (iso at b) ts rest (m, h, g) = begins_kind r (k.Word w.Iso) at ts m h refl refl refl
  first r d (form f) ts rest h = first_form r d f ts rest h

  -- ---- what a type begins with

  abbrev pub starts_type : TokenKind → Bool
  starts_type (k.Word w.Int) = true
  starts_type (k.Word w.Bool) = true
  starts_type (k.Word w.Str) = true
  starts_type (k.Word w.Iso) = true
  starts_type (k.Name text) = true
  starts_type (k.Sign s.OpenBracket) = true
  starts_type (k.Sign s.Ampersand) = true
  starts_type _ = false

  pub record BeginsType (ts : List Token) : Type 0 where
    pub t : Token
    pub after : List Token
    pub is : ts ≡ t ∷ after
    pub starts : starts_type t.kind ≡ true

  begins_type : (kind : TokenKind) (at : Spot) (ts m : List Token) → ts ≡ token kind at ∷ m → starts_type kind ≡ true → BeginsType ts
  begins_type kind at ts m h e = record { t = token kind at; after = m; is = h; starts = e }

  pub first_type : (d : ℕ) (x : TypeExpr) (ts rest : List Token) → IsType names d x ts rest → BeginsType ts
  first_type d (int_type at) ts rest h = begins_type (k.Word w.Int) at ts rest h refl
  first_type d (bool_type at) ts rest h = begins_type (k.Word w.Bool) at ts rest h refl
  first_type d (str_type at) ts rest h = begins_type (k.Word w.Str) at ts rest h refl
  first_type d (named_type n) ts rest (text, is, h) = begins_type (k.Name text) n.at ts rest h refl
  first_type d (array_type at x) ts rest (m, h, g) = begins_type (k.Sign s.OpenBracket) at ts m h refl
  first_type d (ref_type at x) ts rest (m, h, g) = begins_type (k.Sign s.Ampersand) at ts m h refl
  first_type d (imm_ref_type at x) ts rest (m, h, g) = begins_type (k.Sign s.Ampersand) at ts m h refl
  first_type d (iso_type at x) ts rest (m, h, g) = begins_type (k.Word w.Iso) at ts m h refl

  starts_type_imm : (kind : TokenKind) → starts_type kind ≡ true → is_word w.Imm kind ≡ false
  starts_type_imm (k.Word w.Imm) e = absurd cc
  starts_type_imm _ e = refl

  starts_type_assign : (kind : TokenKind) → starts_type kind ≡ true → is_sign s.Assign kind ≡ false
  starts_type_assign (k.Sign s.Assign) e = absurd cc
  starts_type_assign _ e = refl

  pub type_no_imm : (d : ℕ) (x : TypeExpr) (ts rest : List Token) → IsType names d x ts rest → begins_word w.Imm ts ≡ false
  type_no_imm d x ts rest h = let f = first_type d x ts rest h in rw f.is (starts_type_imm f.t.kind f.starts)

  type_no_assign : (d : ℕ) (x : TypeExpr) (ts rest : List Token) → IsType names d x ts rest → begins s.Assign ts ≡ false
  type_no_assign d x ts rest h = let f = first_type d x ts rest h in rw f.is (starts_type_assign f.t.kind f.starts)

  -- ---- an expression that begins with a name goes on with no `=`

  begins_no : (x : Sign) (kind : TokenKind) (at : Spot) (ts m : List Token) → ts ≡ token kind at ∷ m → is_sign x kind ≡ false → begins x ts ≡ true → ⊥
  begins_no x kind at ts m h e f = differs (is_sign x kind) e (subst (λ (z : List Token). begins x z ≡ true) h f)

  links_no_assign : (below d : ℕ) (ls : Links) (ts rest : List Token) → HasLinks (suc below) ls → AreLinks names below d ls ts rest → begins s.Assign ts ≡ true → ⊥
  links_no_assign below d no_links ts rest has h e = absurd has
  links_no_assign below d (more_links (link at op x) ls) ts rest has (m, (is, (m2, h, g)), g2) e = begins_no s.Assign (binary_kind op) at ts m2 h (assign_binary op) e

  steps_no_assign : (d : ℕ) (ps : Steps) (ts rest : List Token) → HasSteps ps → AreSteps names d ps ts rest → begins s.Assign ts ≡ true → ⊥
  steps_no_assign d no_steps ts rest has h e = absurd has
  steps_no_assign d (more_steps (field at n) ps) ts rest has (m, (m2, h, g), g2) e = begins_no s.Assign (k.Sign s.Dot) at ts m2 h refl e
  steps_no_assign d (more_steps (method at n es) ps) ts rest has (m, (m2, h, g), g2) e = begins_no s.Assign (k.Sign s.Dot) at ts m2 h refl e
  steps_no_assign d (more_steps (index at x) ps) ts rest has (m, (m2, h, g), g2) e = begins_no s.Assign (k.Sign s.OpenBracket) at ts m2 h refl e

  form_no : (f : TokenKind → Bool) → f (k.Word w.If) ≡ false → f (k.Word w.Pure) ≡ false → f (k.Word w.Parallel) ≡ false → (d : ℕ) (x : Form) (t : Token) (ts rest : List Token) → f t.kind ≡ true → IsForm names d x (t ∷ ts) rest → ⊥
  form_no f a b c d (branch at x y es) t ts rest is (m, h, g) = differs (f (k.Word w.If)) a (of_first f (k.Word w.If) at t ts m h is)
  form_no f a b c d (pure at x) t ts rest is (m, h, g) = differs (f (k.Word w.Pure)) b (of_first f (k.Word w.Pure) at t ts m h is)
  form_no f a b c d (parallel_range at n x e y) t ts rest is (m, h, g) = differs (f (k.Word w.Parallel)) c (of_first f (k.Word w.Parallel) at t ts m h is)
  form_no f a b c d (parallel_each at n x y) t ts rest is (m, h, g) = differs (f (k.Word w.Parallel)) c (of_first f (k.Word w.Parallel) at t ts m h is)

  truth_no : (f : TokenKind → Bool) → f (k.Word w.True) ≡ false → f (k.Word w.False) ≡ false → (b : Bool) (at : Spot) (t : Token) (ts rest : List Token) → f t.kind ≡ true → one (truth_kind b) at (t ∷ ts) rest → ⊥
  truth_no f a c true at t ts rest is h = differs (f (k.Word w.True)) a (of_first f (k.Word w.True) at t ts rest h is)
  truth_no f a c false at t ts rest is h = differs (f (k.Word w.False)) c (of_first f (k.Word w.False) at t ts rest h is)

  other_first : {C : Type 0} (f : TokenKind → Bool) (kind : TokenKind) (at : Spot) (t : Token) (ts m : List Token) → f kind ≡ false → f t.kind ≡ true → t ∷ ts ≡ token kind at ∷ m → C
  other_first f kind at t ts m e is h = absurd (differs (f kind) e (of_first f kind at t ts m h is))

  pub name_alone : (r d : ℕ) (e : Expr) (t : Token) (ts rest : List Token) → is_name t.kind ≡ true → begins s.Assign ts ≡ true → IsExpr names r d e (t ∷ ts) rest → ts ≡ rest
  name_alone r d (set at p e) t ts rest is eq (le, (m, h, g)) = other_first is_name (k.Word w.Set) at t ts m refl is h
  name_alone r d (chain e ls) t ts rest is eq (below, lt, has, (m, h, g)) =
      let same : ts ≡ m = name_alone below d e t ts m is eq h in
      absurd (links_no_assign below d ls m rest has g (subst (λ (z : List Token). begins s.Assign z ≡ true) same eq))
  name_alone r d (unary at op e) t ts rest is eq (le, (m, h, g)) = other_first is_name (unary_kind op) at t ts m (starts_unary op).2 is h
  name_alone r d (steps e ps) t ts rest is eq (le, (m, h, g)) =
      let same : ts ≡ m = name_alone primary d e t ts m is eq h in
      absurd (steps_no_assign d ps m rest le.1 g (subst (λ (z : List Token). begins s.Assign z ≡ true) same eq))
  name_alone r d (number at n) t ts rest is eq h = other_first is_name (k.Number n) at t ts rest refl is h
  name_alone r d (quote at n) t ts rest is eq h = other_first is_name (k.Quote n) at t ts rest refl is h
  name_alone r d (truth at b) t ts rest is eq h = absurd (truth_no is_name refl refl b at t ts rest is h)
  name_alone r d (name n) t ts rest is eq (text, num, h) = (heads t (token (k.Name text) n.at) ts rest h).1
  name_alone r d (call n es) t ts rest is eq (m, (text, num, h), (m2, (at2, h2), g)) =
      let same : ts ≡ m = (heads t (token (k.Name text) n.at) ts m h).1 in
      absurd (begins_no s.Assign (k.Sign s.OpenParen) at2 m m2 h2 refl (subst (λ (z : List Token). begins s.Assign z ≡ true) same eq))
  name_alone r d (paren at e) t ts rest is eq (m, h, g) = other_first is_name (k.Sign s.OpenParen) at t ts m refl is h
  name_alone r d (array at x es) t ts rest is eq (m, h, g) = other_first is_name (k.Sign s.OpenBracket) at t ts m refl is h
  name_alone r d (iso at b) t ts rest is eq (m, h, g) = other_first is_name (k.Word w.Iso) at t ts m refl is h
  name_alone r d (form f) t ts rest is eq h = absurd (form_no is_name refl refl refl d f t ts rest is h)

  -- ---- an expression that begins with `[` is no destructuring

  bracket_type : (d : ℕ) (x : TypeExpr) (at : Spot) (ts m m2 : List Token) → ts ≡ token (k.Sign s.CloseBracket) at ∷ m → IsType names d x m m2 → after_bracket ts ≡ false
  bracket_type d x at ts m m2 h g = rw (h, type_no_assign d x m m2 g) refl

  pub bracket_plain : (r d : ℕ) (e : Expr) (t : Token) (ts rest : List Token) → is_sign s.OpenBracket t.kind ≡ true → IsExpr names r d e (t ∷ ts) rest → after_bracket ts ≡ false
  bracket_plain r d (set at p e) t ts rest is (le, (m, h, g)) = other_first (λ z. is_sign s.OpenBracket z) (k.Word w.Set) at t ts m refl is h
  bracket_plain r d (chain e ls) t ts rest is (below, lt, has, (m, h, g)) = bracket_plain below d e t ts m is h
  bracket_plain r d (unary at op e) t ts rest is (le, (m, h, g)) = other_first (λ z. is_sign s.OpenBracket z) (unary_kind op) at t ts m (starts_unary op).3 is h
  bracket_plain r d (steps e ps) t ts rest is (le, (m, h, g)) = bracket_plain primary d e t ts m is h
  bracket_plain r d (number at n) t ts rest is h = other_first (λ z. is_sign s.OpenBracket z) (k.Number n) at t ts rest refl is h
  bracket_plain r d (quote at n) t ts rest is h = other_first (λ z. is_sign s.OpenBracket z) (k.Quote n) at t ts rest refl is h
  bracket_plain r d (truth at b) t ts rest is h = absurd (truth_no (λ z. is_sign s.OpenBracket z) refl refl b at t ts rest is h)
  bracket_plain r d (name n) t ts rest is (text, num, h) = other_first (λ z. is_sign s.OpenBracket z) (k.Name text) n.at t ts rest refl is h
  bracket_plain r d (call n es) t ts rest is (m, (text, num, h), g) = other_first (λ z. is_sign s.OpenBracket z) (k.Name text) n.at t ts m refl is h
  bracket_plain r d (paren at e) t ts rest is (m, h, g) = other_first (λ z. is_sign s.OpenBracket z) (k.Sign s.OpenParen) at t ts m refl is h
  bracket_plain r d (array at x es) t ts rest is (m, h, (m2, g, g2)) =
      let same : m ≡ ts = sym (heads t (token (k.Sign s.OpenBracket) at) ts m h).1 in
      subst (λ (z : List Token). after_bracket z ≡ false) same (at_level d (λ d. sign s.CloseBracket ▸ IsType names d x) m m2 g (λ l (m3, (at3, h3), h4). bracket_type l x at3 m m3 m2 h3 h4))
  bracket_plain r d (iso at b) t ts rest is (m, h, g) = other_first (λ z. is_sign s.OpenBracket z) (k.Word w.Iso) at t ts m refl is h
  bracket_plain r d (form f) t ts rest is h = absurd (form_no (λ z. is_sign s.OpenBracket z) refl refl refl d f t ts rest is h)

  -- ---- what a block begins with, and what may follow a form

  pub block_stops : (r d : ℕ) (b : Block) (ts rest : List Token) → IsBlock names d b ts rest → Stops r ts
  block_stops r d (block at end xs) ts rest (m, h, g) = rw h (refl, tt)

  pub block_no_if : (d : ℕ) (b : Block) (ts rest : List Token) → IsBlock names d b ts rest → begins_word w.If ts ≡ false
  block_no_if d (block at end xs) ts rest (m, h, g) = rw h refl

  pub block_no_dots : (d : ℕ) (b : Block) (ts rest : List Token) → IsBlock names d b ts rest → begins s.DotDot ts ≡ false
  block_no_dots d (block at end xs) ts rest (m, h, g) = rw h refl

  expr_no_else : (r d : ℕ) (e : Expr) (ts rest : List Token) → IsExpr names r d e ts rest → NoElse ts
  expr_no_else r d e ts rest h = let f = first r d e ts rest h in rw f.is (starts_no_else f.t.kind f.starts)

  form_no_else : (d : ℕ) (f : Form) (ts rest : List Token) → IsForm names d f ts rest → NoElse ts
  form_no_else d f ts rest h = let q = first_form 0 d f ts rest h in rw q.is (starts_no_else q.t.kind q.starts)

  stmt_no_else : (d : ℕ) (x : Stmt) (ts rest : List Token) → IsStmt names d x ts rest → NoElse ts
  stmt_no_else d (declare n e) ts rest (m, (text, is, h), g) = rw h refl
  stmt_no_else d (destructure at ns e) ts rest (m, h, g) = rw h refl
  stmt_no_else d (return_nothing at) ts rest (m, h, g) = rw h refl
  stmt_no_else d (return_value at e) ts rest (m, h, g) = rw h refl
  stmt_no_else d (while at c b) ts rest (m, h, g) = rw h refl
  stmt_no_else d (foreach at n a e b) ts rest (m, h, g) = rw h refl
  stmt_no_else d (form_stmt f) ts rest (m, h, g) = form_no_else d f ts m h
  stmt_no_else d (express e) ts rest (m, h, g) = expr_no_else whole d e ts m (of_alone e (IsExpr names whole d e) ts m h)

  pub stmts_no_else : (d : ℕ) (xs : Stmts) (ts rest : List Token) → AreStmts names d xs ts rest → NoElse rest → NoElse ts
  stmts_no_else d no_stmts ts rest h q = subst NoElse (sym h) q
  stmts_no_else d (last e) ts rest h q = expr_no_else whole d e ts rest (of_alone e (IsExpr names whole d e) ts rest h)
  stmts_no_else d (more_stmts x xs) ts rest (m, h, g) q = stmt_no_else d x ts m h
