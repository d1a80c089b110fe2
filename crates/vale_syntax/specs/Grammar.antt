-- The grammar: which tokens spell a tree. It starts at the tree, and has one equation for each production of
-- docs/LANGUAGE.md, "Grammar".
--
-- What is said of nesting there is here the number of levels that are left. What opens a level stands before a
-- `deeper`, which has what lies inside with one level fewer and is nothing where none is left.
use Rattle.std.specs.Prelude.{◌≡◌, ◌<◌, ◌≤◌, ℕ, zero, suc, Bool, true, false, not, List, [], ◌∷◌, filter, position, Option, Some, None}
use Rattle.std.specs.Str.{bytes_eq}
use Rattle.vale_base.specs.declared.name.Name.{Name}
use Rattle.vale_base.specs.declared.spot.Spot.{Spot}
use Rattle.vale_base.specs.Limits.{level_limit}
use Rattle.vale_syntax.specs.declared.token.Token.{Token}
use Rattle.vale_syntax.specs.declared.token.TokenKind.{TokenKind}
use Rattle.vale_syntax.specs.declared.token.TokenKind.TheVariants as k
use Rattle.vale_syntax.specs.declared.token.Sign.{Sign}
use Rattle.vale_syntax.specs.declared.token.Sign.TheVariants as s
use Rattle.vale_syntax.specs.declared.token.Word.{Word}
use Rattle.vale_syntax.specs.declared.token.Word.TheVariants as w
use Rattle.vale_syntax.specs.declared.tree.NameAt.{NameAt}
use Rattle.vale_syntax.specs.declared.tree.BinaryOp.{BinaryOp}
use Rattle.vale_syntax.specs.declared.tree.BinaryOp.TheVariants as b
use Rattle.vale_syntax.specs.declared.tree.UnaryOp.{UnaryOp}
use Rattle.vale_syntax.specs.declared.tree.UnaryOp.TheVariants as u
use Rattle.vale_syntax.specs.Tree.{TypeExpr, int_type, bool_type, str_type, named_type, array_type, ref_type, imm_ref_type, iso_type, Expr, set, chain, unary, steps, number, quote, truth, name, call, paren, array, iso, form, Exprs, no_exprs, more_exprs, Link, link, Links, no_links, more_links, Step, field, method, index, Steps, no_steps, more_steps, Form, branch, pure, parallel_range, parallel_each, ElseIf, else_if, Elses, no_else, otherwise, more_elses, Block, block, Stmt, declare, destructure, return_nothing, return_value, while, foreach, form_stmt, express, Stmts, no_stmts, last, more_stmts, Param, param, Head, head, Function, function, FieldDecl, field_decl, Item, struct_item, interface_item, impl_item, function_item, Tree, tree}

-- ---- parts of a program: the tokens from here on, and those after the part

abbrev pub Part : Type 1
Part = List Token → List Token → Type 0

abbrev pub token : TokenKind → Spot → Token
token kind at = record { kind = kind; at = at }

-- one token, at a spot that the tree keeps
abbrev pub one : TokenKind → Spot → Part
one kind at ts rest = ts ≡ token kind at ∷ rest

-- a sign or a word, wherever it stands
abbrev pub sign : Sign → Part
sign x ts rest = (at : Spot) × one (k.Sign x) at ts rest

abbrev pub word : Word → Part
word x ts rest = (at : Spot) × one (k.Word x) at ts rest

abbrev pub nothing : Part
nothing ts rest = ts ≡ rest

abbrev pub never : Part
never ts rest = ⊥

-- one part, and then another
infixr 12 ◌▸◌
abbrev pub ◌▸◌ : Part → Part → Part
p ▸ q = λ ts rest. (mid : List Token) × p ts mid × q mid rest

-- a part on a condition
infixr 11 ◌⊳◌
abbrev pub ◌⊳◌ : Type 0 → Part → Part
c ⊳ p = λ ts rest. c × p ts rest

-- a part that stands where the tree says so
abbrev pub when : Bool → Part → Part
when true p = p
when false p = nothing

abbrev pub optional : {X : Type 0} → (X → Part) → Option X → Part
optional p None = nothing
optional p (Some x) = p x

-- one part for each of a list
abbrev pub each : {X : Type 0} → (X → Part) → List X → Part
each p [] = nothing
each p (x ∷ xs) = p x ▸ each p xs

-- the same with a comma between two of them
abbrev pub with_commas : {X : Type 0} → (X → Part) → List X → Part
with_commas p [] = nothing
with_commas p (x ∷ xs) = p x ▸ each (λ y. sign s.Comma ▸ p y) xs

-- what stands one level deeper, where a level is left
abbrev pub deeper : ℕ → (ℕ → Part) → Part
deeper zero p = never
deeper (suc d) p = p d

-- ---- names

abbrev pub texts_in : List Token → List (List ℕ)
texts_in [] = []
texts_in (t ∷ ts) = text_before t.kind (texts_in ts) where
  text_before : TokenKind → List (List ℕ) → List (List ℕ)
  text_before (k.Name text) texts = text ∷ texts
  text_before _ texts = texts

-- each text once, in the order of first sight
abbrev pub first_seen : List (List ℕ) → List (List ℕ)
first_seen [] = []
first_seen (text ∷ texts) = text ∷ filter (λ other. not (bytes_eq text other)) (first_seen texts)

abbrev pub names_in : List Token → List (List ℕ)
names_in ts = first_seen (texts_in ts)

-- the number of a name
abbrev pub number_of : List (List ℕ) → List ℕ → Option ℕ
number_of names text = position (bytes_eq text) names

-- ---- ranks: the looser an expression is bound, the greater its rank

-- prim
abbrev pub primary : ℕ
primary = 0

-- post
abbrev pub postfix : ℕ
postfix = 1

-- unary
abbrev pub operand : ℕ
operand = 2

-- cmp
abbrev pub comparison : ℕ
comparison = 5

-- expr
abbrev pub whole : ℕ
whole = 8

-- the rank of a chain with the operator: term, sum, cmp, and, or
abbrev pub rank : BinaryOp → ℕ
rank b.Mul = 3
rank b.Div = 3
rank b.Rem = 3
rank b.Add = 4
rank b.Sub = 4
rank b.Equal = 5
rank b.NotEqual = 5
rank b.Less = 5
rank b.LessEqual = 5
rank b.Greater = 5
rank b.GreaterEqual = 5
rank b.And = 6
rank b.Or = 7

abbrev pub binary_kind : BinaryOp → TokenKind
binary_kind b.Mul = k.Sign s.Star
binary_kind b.Div = k.Sign s.Slash
binary_kind b.Rem = k.Sign s.Percent
binary_kind b.Add = k.Sign s.Plus
binary_kind b.Sub = k.Sign s.Minus
binary_kind b.Equal = k.Sign s.Equal
binary_kind b.NotEqual = k.Sign s.NotEqual
binary_kind b.Less = k.Sign s.Less
binary_kind b.LessEqual = k.Sign s.LessEqual
binary_kind b.Greater = k.Sign s.Greater
binary_kind b.GreaterEqual = k.Sign s.GreaterEqual
binary_kind b.And = k.Word w.And
binary_kind b.Or = k.Word w.Or

abbrev pub unary_kind : UnaryOp → TokenKind
unary_kind u.Minus = k.Sign s.Minus
unary_kind u.Not = k.Word w.Not
unary_kind u.Borrow = k.Sign s.Ampersand
unary_kind u.Merge = k.Word w.Merge

abbrev pub truth_kind : Bool → TokenKind
truth_kind true = k.Word w.True
truth_kind false = k.Word w.False

-- a chain has an operator, and one of comparisons no second
abbrev pub HasLinks : ℕ → Links → Type 0
HasLinks r no_links = ⊥
HasLinks r (more_links l ls) = r ≡ comparison → ls ≡ no_links

abbrev pub HasSteps : Steps → Type 0
HasSteps no_steps = ⊥
HasSteps (more_steps p ps) = Unit {0}

-- ---- the statements that are forms

abbrev pub begins_form : TokenKind → Bool
begins_form (k.Word w.If) = true
begins_form (k.Word w.Pure) = true
begins_form (k.Word w.Parallel) = true
begins_form _ = false

abbrev pub IsOfForm : Expr → Type 0
IsOfForm (form f) = Unit {0}
IsOfForm _ = ⊥

-- a part that is a form alone where it begins with one
abbrev pub alone : Expr → Part → Part
alone e p [] rest = p [] rest
alone e p (t ∷ ts) rest = (begins_form t.kind ≡ true → IsOfForm e) × p (t ∷ ts) rest

abbrev pub ends_stmt : TokenKind → Bool
ends_stmt (k.Sign s.Semicolon) = true
ends_stmt (k.Sign s.CloseBrace) = true
ends_stmt _ = false

-- the place before a token that is neither `;` nor `}`
abbrev pub goes_on : Part
goes_on [] rest = ⊥
goes_on (t ∷ ts) rest = (ends_stmt t.kind ≡ false) × (t ∷ ts ≡ rest)

-- ---- the productions, each with the levels that are left

module _ (names : List (List ℕ)) where
  abbrev pub named : NameAt → Part
  named n ts rest = (text : List ℕ) × (number_of names text ≡ Some n.name.0) × one (k.Name text) n.at ts rest

  -- a name whose spot the tree doesn't keep
  abbrev pub member : Name → Part
  member n ts rest = (at : Spot) × named (record { name = n; at = at }) ts rest

  abbrev pub IsType : ℕ → TypeExpr → Part
  IsType d (int_type at) = one (k.Word w.Int) at
  IsType d (bool_type at) = one (k.Word w.Bool) at
  IsType d (str_type at) = one (k.Word w.Str) at
  IsType d (named_type n) = named n
  IsType d (array_type at x) = one (k.Sign s.OpenBracket) at ▸ deeper d (λ d. sign s.CloseBracket ▸ IsType d x)
  IsType d (ref_type at x) = one (k.Sign s.Ampersand) at ▸ deeper d (λ d. IsType d x)
  IsType d (imm_ref_type at x) = one (k.Sign s.Ampersand) at ▸ deeper d (λ d. word w.Imm ▸ IsType d x)
  IsType d (iso_type at x) = one (k.Word w.Iso) at ▸ deeper d (λ d. IsType d x)

  abbrev mutual
    -- an expression of at most this rank
    pub IsExpr : ℕ → ℕ → Expr → Part
    IsExpr r d (set at p e) = (whole ≤ r) ⊳ (one (k.Word w.Set) at ▸ deeper d (λ d. IsExpr postfix d p ▸ sign s.Assign ▸ IsExpr whole d e))
    IsExpr r d (chain e ls) = λ ts rest. (below : ℕ) × (below < r) × HasLinks (suc below) ls × (IsExpr below d e ▸ AreLinks below d ls) ts rest
    IsExpr r d (unary at op e) = (operand ≤ r) ⊳ (one (unary_kind op) at ▸ deeper d (λ d. IsExpr operand d e))
    IsExpr r d (steps e ss) = (postfix ≤ r × HasSteps ss) ⊳ (IsExpr primary d e ▸ AreSteps d ss)
    IsExpr r d (number at n) = one (k.Number n) at
    IsExpr r d (quote at text) = one (k.Quote text) at
    IsExpr r d (truth at b) = one (truth_kind b) at
    IsExpr r d (name n) = named n
    IsExpr r d (call n es) = named n ▸ sign s.OpenParen ▸ deeper d (λ d. AreArgs d es) ▸ sign s.CloseParen
    IsExpr r d (paren at e) = one (k.Sign s.OpenParen) at ▸ deeper d (λ d. IsExpr whole d e) ▸ sign s.CloseParen
    IsExpr r d (array at x es) = one (k.Sign s.OpenBracket) at ▸ deeper d (λ d. sign s.CloseBracket ▸ IsType d x) ▸ sign s.OpenParen ▸ deeper d (λ d. AreArgs d es) ▸ sign s.CloseParen
    IsExpr r d (iso at b) = one (k.Word w.Iso) at ▸ IsBlock d b
    IsExpr r d (form f) = IsForm d f

    pub AreArgs : ℕ → Exprs → Part
    AreArgs d no_exprs = nothing
    AreArgs d (more_exprs e es) = IsExpr whole d e ▸ AreMoreArgs d es

    pub AreMoreArgs : ℕ → Exprs → Part
    AreMoreArgs d no_exprs = nothing
    AreMoreArgs d (more_exprs e es) = sign s.Comma ▸ IsExpr whole d e ▸ AreMoreArgs d es

    -- operators whose operands are of at most this rank
    pub IsLink : ℕ → ℕ → Link → Part
    IsLink below d (link at op e) = (rank op ≡ suc below) ⊳ (one (binary_kind op) at ▸ IsExpr below d e)

    pub AreLinks : ℕ → ℕ → Links → Part
    AreLinks below d no_links = nothing
    AreLinks below d (more_links l ls) = IsLink below d l ▸ AreLinks below d ls

    pub IsStep : ℕ → Step → Part
    IsStep d (field at n) = one (k.Sign s.Dot) at ▸ member n
    IsStep d (method at n es) = one (k.Sign s.Dot) at ▸ member n ▸ sign s.OpenParen ▸ deeper d (λ d. AreArgs d es) ▸ sign s.CloseParen
    IsStep d (index at e) = one (k.Sign s.OpenBracket) at ▸ deeper d (λ d. IsExpr whole d e) ▸ sign s.CloseBracket

    pub AreSteps : ℕ → Steps → Part
    AreSteps d no_steps = nothing
    AreSteps d (more_steps p ps) = IsStep d p ▸ AreSteps d ps

    pub IsForm : ℕ → Form → Part
    IsForm d (branch at c b es) = one (k.Word w.If) at ▸ deeper d (λ d. IsExpr whole d c) ▸ IsBlock d b ▸ AreElses d es
    IsForm d (pure at b) = one (k.Word w.Pure) at ▸ IsBlock d b
    IsForm d (parallel_range at n a e b) = one (k.Word w.Parallel) at ▸ deeper d (λ d. word w.Foreach ▸ named n ▸ word w.In ▸ IsExpr whole d a ▸ sign s.DotDot ▸ IsExpr whole d e) ▸ IsBlock d b
    IsForm d (parallel_each at n e b) = one (k.Word w.Parallel) at ▸ deeper d (λ d. word w.Foreach ▸ named n ▸ word w.In ▸ IsExpr whole d e) ▸ IsBlock d b

    pub IsElseIf : ℕ → ElseIf → Part
    IsElseIf d (else_if at c b) = word w.Else ▸ one (k.Word w.If) at ▸ deeper d (λ d. IsExpr whole d c) ▸ IsBlock d b

    pub AreElses : ℕ → Elses → Part
    AreElses d no_else = nothing
    AreElses d (otherwise b) = word w.Else ▸ IsBlock d b
    AreElses d (more_elses e es) = IsElseIf d e ▸ AreElses d es

    pub IsBlock : ℕ → Block → Part
    IsBlock d (block at end ss) = one (k.Sign s.OpenBrace) at ▸ deeper d (λ d. AreStmts d ss) ▸ one (k.Sign s.CloseBrace) end

    pub AreStmts : ℕ → Stmts → Part
    AreStmts d no_stmts = nothing
    AreStmts d (last e) = alone e (IsExpr whole d e)
    AreStmts d (more_stmts x xs) = IsStmt d x ▸ AreStmts d xs

    pub IsStmt : ℕ → Stmt → Part
    IsStmt d (declare n e) = named n ▸ sign s.Assign ▸ IsExpr whole d e ▸ sign s.Semicolon
    IsStmt d (destructure at ns e) = one (k.Sign s.OpenBracket) at ▸ deeper d (λ d. with_commas named ns) ▸ sign s.CloseBracket ▸ sign s.Assign ▸ IsExpr whole d e ▸ sign s.Semicolon
    IsStmt d (return_nothing at) = one (k.Word w.Return) at ▸ sign s.Semicolon
    IsStmt d (return_value at e) = one (k.Word w.Return) at ▸ IsExpr whole d e ▸ sign s.Semicolon
    IsStmt d (while at c b) = one (k.Word w.While) at ▸ IsExpr whole d c ▸ IsBlock d b
    IsStmt d (foreach at n a e b) = one (k.Word w.Foreach) at ▸ named n ▸ word w.In ▸ IsExpr whole d a ▸ sign s.DotDot ▸ IsExpr whole d e ▸ IsBlock d b
    IsStmt d (form_stmt f) = IsForm d f ▸ goes_on
    IsStmt d (express e) = alone e (IsExpr whole d e) ▸ sign s.Semicolon

  abbrev pub IsParam : ℕ → Param → Part
  IsParam d (param n x) = named n ▸ IsType d x

  abbrev pub IsHead : ℕ → Head → Part
  IsHead d (head p n ps x) = when p (word w.Pure) ▸ word w.Func ▸ named n ▸ sign s.OpenParen ▸ deeper d (λ d. with_commas (IsParam d) ps) ▸ sign s.CloseParen ▸ optional (IsType d) x

  abbrev pub IsFunction : ℕ → Function → Part
  IsFunction d (function h b) = IsHead d h ▸ IsBlock d b

  abbrev pub IsField : ℕ → FieldDecl → Part
  IsField d (field_decl n may_be_set x) = named n ▸ when may_be_set (sign s.Bang) ▸ IsType d x ▸ sign s.Semicolon

  abbrev pub IsItem : ℕ → Item → Part
  IsItem d (struct_item n fs) = word w.Struct ▸ named n ▸ sign s.OpenBrace ▸ deeper d (λ d. each (IsField d) fs) ▸ sign s.CloseBrace
  IsItem d (interface_item n hs) = word w.Interface ▸ named n ▸ sign s.OpenBrace ▸ deeper d (λ d. each (λ h. IsHead d h ▸ sign s.Semicolon) hs) ▸ sign s.CloseBrace
  IsItem d (impl_item at i n fs) = one (k.Word w.Impl) at ▸ named i ▸ word w.For ▸ named n ▸ sign s.OpenBrace ▸ deeper d (λ d. each (IsFunction d) fs) ▸ sign s.CloseBrace
  IsItem d (function_item f) = IsFunction d f

-- The tokens spell the tree: its names are theirs, numbered in the order of first sight, and its items are all that they
-- have.
abbrev pub spells : Tree → List Token → Type 0
spells (tree names items) tokens = (names ≡ names_in tokens) × each (IsItem names level_limit) items tokens []
