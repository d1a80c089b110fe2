-- The canonical text of a tree as pieces: tokens, single spaces, and new lines with their depth. There is one equation for
-- each production of docs/LANGUAGE.md, "Grammar", with the spaces and lines of docs/LANGUAGE.md, "Canonical text".
use Rattle.std.specs.Prelude.{ℕ, suc, Bool, true, false, List, [], ◌∷◌, ◌++◌, flat_map, get_or, Option, Some, None}
use Rattle.vale_base.specs.declared.name.Name.{Name}
use Rattle.vale_syntax.specs.declared.token.TokenKind.{TokenKind}
use Rattle.vale_syntax.specs.declared.token.TokenKind.TheVariants as k
use Rattle.vale_syntax.specs.declared.token.Sign.{Sign}
use Rattle.vale_syntax.specs.declared.token.Sign.TheVariants as s
use Rattle.vale_syntax.specs.declared.token.Word.{Word}
use Rattle.vale_syntax.specs.declared.token.Word.TheVariants as w
use Rattle.vale_syntax.specs.declared.tree.NameAt.{NameAt}
use Rattle.vale_syntax.specs.declared.tree.UnaryOp.{UnaryOp}
use Rattle.vale_syntax.specs.declared.tree.UnaryOp.TheVariants as u
use Rattle.vale_syntax.specs.Grammar.{binary_kind, unary_kind, truth_kind}
use Rattle.vale_syntax.specs.Tree.{TypeExpr, int_type, bool_type, str_type, named_type, array_type, ref_type, imm_ref_type, iso_type, Expr, set, chain, unary, steps, number, quote, truth, name, call, paren, array, iso, form, Exprs, no_exprs, more_exprs, Link, link, Links, no_links, more_links, Step, field, method, index, Steps, no_steps, more_steps, Form, branch, pure, parallel_range, parallel_each, ElseIf, else_if, Elses, no_else, otherwise, more_elses, Block, block, Stmt, declare, destructure, return_nothing, return_value, while, foreach, form_stmt, express, Stmts, no_stmts, last, more_stmts, Param, param, Head, head, Function, function, FieldDecl, field_decl, Item, struct_item, interface_item, impl_item, function_item, Tree, tree}

-- a token, one space, or a line feed and the depth of the line after it
pub data Piece : Type 0 where
  lexeme : TokenKind → Piece
  space : Piece
  line : ℕ → Piece

-- ---- parts

abbrev pub Layout : Type 0
Layout = List Piece

abbrev pub put : TokenKind → Layout
put kind = lexeme kind ∷ []

abbrev pub mark : Sign → Layout
mark x = put (k.Sign x)

abbrev pub key : Word → Layout
key x = put (k.Word x)

-- one space
abbrev pub gap : Layout
gap = space ∷ []

-- a new line of this depth
abbrev pub new_line : ℕ → Layout
new_line d = line d ∷ []

-- a part with one space before it and one after it
abbrev pub around : Layout → Layout
around p = gap ++ p ++ gap

-- a part that stands where the tree says so
abbrev pub when : Bool → Layout → Layout
when true p = p
when false p = []

abbrev pub optional : {X : Type 0} → (X → Layout) → Option X → Layout
optional p None = []
optional p (Some x) = p x

-- one part for each of a list
abbrev pub each : {X : Type 0} → (X → Layout) → List X → Layout
each p xs = flat_map p xs

-- the same with a comma and one space between two of them
abbrev pub with_commas : {X : Type 0} → (X → Layout) → List X → Layout
with_commas p [] = []
with_commas p (x ∷ xs) = p x ++ each (λ y. mark s.Comma ++ gap ++ p y) xs

-- ---- the space after a word

-- whether the expression's first token is a `(`
abbrev pub opens : Expr → Bool
opens (paren at e) = true
opens (chain e ls) = opens e
opens (steps e ss) = opens e
opens _ = false

-- what stands between a word and the expression after it: one space, but nothing before a `(`
abbrev pub after_word : Expr → Layout
after_word e = space_unless (opens e) where
  space_unless : Bool → Layout
  space_unless true = []
  space_unless false = gap

-- what stands between an operator and its only operand
abbrev pub after_unary : UnaryOp → Expr → Layout
after_unary u.Minus e = []
after_unary u.Borrow e = []
after_unary u.Not e = after_word e
after_unary u.Merge e = after_word e

-- ---- the productions, with the texts of the names; a depth is that of the line that a part stands in

module _ (names : List (List ℕ)) where
  abbrev pub member : Name → Layout
  member n = put (k.Name (get_or names n.0 []))

  abbrev pub named : NameAt → Layout
  named n = member n.name

  abbrev pub lay_type : TypeExpr → Layout
  lay_type (int_type at) = key w.Int
  lay_type (bool_type at) = key w.Bool
  lay_type (str_type at) = key w.Str
  lay_type (named_type n) = named n
  lay_type (array_type at x) = mark s.OpenBracket ++ mark s.CloseBracket ++ lay_type x
  lay_type (ref_type at x) = mark s.Ampersand ++ lay_type x
  lay_type (imm_ref_type at x) = mark s.Ampersand ++ key w.Imm ++ gap ++ lay_type x
  lay_type (iso_type at x) = key w.Iso ++ gap ++ lay_type x

  abbrev mutual
    pub lay_expr : ℕ → Expr → Layout
    lay_expr d (set at p e) = key w.Set ++ after_word p ++ lay_expr d p ++ around (mark s.Assign) ++ lay_expr d e
    lay_expr d (chain e ls) = lay_expr d e ++ lay_links d ls
    lay_expr d (unary at op e) = put (unary_kind op) ++ after_unary op e ++ lay_expr d e
    lay_expr d (steps e ss) = lay_expr d e ++ lay_steps d ss
    lay_expr d (number at n) = put (k.Number n)
    lay_expr d (quote at text) = put (k.Quote text)
    lay_expr d (truth at b) = put (truth_kind b)
    lay_expr d (name n) = named n
    lay_expr d (call n es) = named n ++ mark s.OpenParen ++ lay_args d es ++ mark s.CloseParen
    lay_expr d (paren at e) = mark s.OpenParen ++ lay_expr d e ++ mark s.CloseParen
    lay_expr d (array at x es) = mark s.OpenBracket ++ mark s.CloseBracket ++ lay_type x ++ mark s.OpenParen ++ lay_args d es ++ mark s.CloseParen
    lay_expr d (iso at b) = key w.Iso ++ gap ++ lay_block d b
    lay_expr d (form f) = lay_form d f

    pub lay_args : ℕ → Exprs → Layout
    lay_args d no_exprs = []
    lay_args d (more_exprs e es) = lay_expr d e ++ lay_more_args d es

    pub lay_more_args : ℕ → Exprs → Layout
    lay_more_args d no_exprs = []
    lay_more_args d (more_exprs e es) = mark s.Comma ++ gap ++ lay_expr d e ++ lay_more_args d es

    pub lay_link : ℕ → Link → Layout
    lay_link d (link at op e) = around (put (binary_kind op)) ++ lay_expr d e

    pub lay_links : ℕ → Links → Layout
    lay_links d no_links = []
    lay_links d (more_links l ls) = lay_link d l ++ lay_links d ls

    pub lay_step : ℕ → Step → Layout
    lay_step d (field at n) = mark s.Dot ++ member n
    lay_step d (method at n es) = mark s.Dot ++ member n ++ mark s.OpenParen ++ lay_args d es ++ mark s.CloseParen
    lay_step d (index at e) = mark s.OpenBracket ++ lay_expr d e ++ mark s.CloseBracket

    pub lay_steps : ℕ → Steps → Layout
    lay_steps d no_steps = []
    lay_steps d (more_steps p ps) = lay_step d p ++ lay_steps d ps

    pub lay_form : ℕ → Form → Layout
    lay_form d (branch at c b es) = key w.If ++ after_word c ++ lay_expr d c ++ gap ++ lay_block d b ++ lay_elses d es
    lay_form d (pure at b) = key w.Pure ++ gap ++ lay_block d b
    lay_form d (parallel_range at n a e b) = key w.Parallel ++ gap ++ key w.Foreach ++ gap ++ named n ++ around (key w.In) ++ lay_expr d a ++ mark s.DotDot ++ lay_expr d e ++ gap ++ lay_block d b
    lay_form d (parallel_each at n e b) = key w.Parallel ++ gap ++ key w.Foreach ++ gap ++ named n ++ around (key w.In) ++ lay_expr d e ++ gap ++ lay_block d b

    pub lay_else_if : ℕ → ElseIf → Layout
    lay_else_if d (else_if at c b) = gap ++ key w.Else ++ gap ++ key w.If ++ after_word c ++ lay_expr d c ++ gap ++ lay_block d b

    pub lay_elses : ℕ → Elses → Layout
    lay_elses d no_else = []
    lay_elses d (otherwise b) = gap ++ key w.Else ++ gap ++ lay_block d b
    lay_elses d (more_elses e es) = lay_else_if d e ++ lay_elses d es

    -- the statements stand one deeper than the line that the block begins in, and its `}` as deep as that line
    pub lay_block : ℕ → Block → Layout
    lay_block d (block at end ss) = mark s.OpenBrace ++ lay_stmts (suc d) ss ++ new_line d ++ mark s.CloseBrace

    pub lay_stmts : ℕ → Stmts → Layout
    lay_stmts d no_stmts = []
    lay_stmts d (last e) = new_line d ++ lay_expr d e
    lay_stmts d (more_stmts x xs) = new_line d ++ lay_stmt d x ++ lay_stmts d xs

    pub lay_stmt : ℕ → Stmt → Layout
    lay_stmt d (declare n e) = named n ++ around (mark s.Assign) ++ lay_expr d e ++ mark s.Semicolon
    lay_stmt d (destructure at ns e) = mark s.OpenBracket ++ with_commas named ns ++ mark s.CloseBracket ++ around (mark s.Assign) ++ lay_expr d e ++ mark s.Semicolon
    lay_stmt d (return_nothing at) = key w.Return ++ mark s.Semicolon
    lay_stmt d (return_value at e) = key w.Return ++ after_word e ++ lay_expr d e ++ mark s.Semicolon
    lay_stmt d (while at c b) = key w.While ++ after_word c ++ lay_expr d c ++ gap ++ lay_block d b
    lay_stmt d (foreach at n a e b) = key w.Foreach ++ gap ++ named n ++ around (key w.In) ++ lay_expr d a ++ mark s.DotDot ++ lay_expr d e ++ gap ++ lay_block d b
    lay_stmt d (form_stmt f) = lay_form d f
    lay_stmt d (express e) = lay_expr d e ++ mark s.Semicolon

  abbrev pub lay_param : Param → Layout
  lay_param (param n x) = named n ++ gap ++ lay_type x

  abbrev pub lay_head : Head → Layout
  lay_head (head p n ps x) = when p (key w.Pure ++ gap) ++ key w.Func ++ gap ++ named n ++ mark s.OpenParen ++ with_commas lay_param ps ++ mark s.CloseParen ++ optional (λ x. gap ++ lay_type x) x

  abbrev pub lay_function : ℕ → Function → Layout
  lay_function d (function h b) = lay_head h ++ gap ++ lay_block d b

  abbrev pub lay_field : FieldDecl → Layout
  lay_field (field_decl n may_be_set x) = named n ++ when may_be_set (mark s.Bang) ++ gap ++ lay_type x ++ mark s.Semicolon

  -- an item's `{`, a line for each member, and its `}`
  abbrev pub lay_members : {X : Type 0} → (X → Layout) → List X → Layout
  lay_members p xs = mark s.OpenBrace ++ each (λ x. new_line 1 ++ p x) xs ++ new_line 0 ++ mark s.CloseBrace

  abbrev pub lay_item : Item → Layout
  lay_item (struct_item n fs) = key w.Struct ++ gap ++ named n ++ gap ++ lay_members lay_field fs
  lay_item (interface_item n hs) = key w.Interface ++ gap ++ named n ++ gap ++ lay_members (λ h. lay_head h ++ mark s.Semicolon) hs
  lay_item (impl_item at i n fs) = key w.Impl ++ gap ++ named i ++ around (key w.For) ++ named n ++ gap ++ lay_members (lay_function 1) fs
  lay_item (function_item f) = lay_function 0 f

-- Each item begins a line, and the line that it ends in ends.
abbrev pub lay_tree : Tree → Layout
lay_tree (tree names items) = each (λ x. lay_item names x ++ new_line 0) items
