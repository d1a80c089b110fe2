-- What is read is in the grammar.
use Rattle.std.proofs.Common.{◌∙◌, ◌≡◌, ◌<◌, ◌≤◌, ℕ, zero, suc, Bool, true, false, cond, eqb, List, [], ◌∷◌, Option, Some, None, Ok, Err, refl, sym, ap, subst, arith}
use Rattle.std.proofs.lemmas.Bool.{eqb-true}
use Rattle.vale_base.specs.declared.spot.Spot.{Spot}
use Rattle.vale_syntax.specs.declared.token.Token.{Token}
use Rattle.vale_syntax.specs.declared.token.TokenKind.{TokenKind}
use Rattle.vale_syntax.specs.declared.token.TokenKind.TheVariants as k
use Rattle.vale_syntax.specs.declared.token.Sign.TheVariants as s
use Rattle.vale_syntax.specs.declared.token.Word.TheVariants as w
use Rattle.vale_syntax.specs.declared.tree.NameAt.{NameAt}
use Rattle.vale_syntax.specs.declared.tree.BinaryOp.{BinaryOp}
use Rattle.vale_syntax.specs.declared.tree.BinaryOp.TheVariants as b
use Rattle.vale_syntax.specs.declared.tree.UnaryOp.{UnaryOp}
use Rattle.vale_syntax.specs.declared.tree.UnaryOp.TheVariants as u
use Rattle.vale_syntax.specs.Tree.{TypeExpr, int_type, bool_type, str_type, named_type, array_type, ref_type, imm_ref_type, iso_type, Expr, set, chain, unary, steps, number, quote, truth, name, call, paren, array, iso, form, Exprs, no_exprs, more_exprs, Link, link, Links, no_links, more_links, Step, field, method, index, Steps, no_steps, more_steps, Form, branch, pure, ElseIf, else_if, more_elses, Block, block, Stmt, declare, destructure, return_nothing, return_value, while, foreach, form_stmt, express, more_stmts}
use Rattle.vale_syntax.specs.Grammar.{Part, one, sign, word, nothing, ◌▸◌, each, with_commas, deeper, primary, postfix, operand, whole, rank, binary_kind, unary_kind, begins_form, alone, ends_stmt, named, IsType, IsExpr, AreArgs, AreMoreArgs, IsLink, AreLinks, IsStep, AreSteps, IsForm, IsElseIf, AreElses, IsBlock, AreStmts, IsStmt}
use Rattle.vale_syntax.specs.View.{else_end, last_end}
use Rattle.vale_reading.specs.declared.stop.Turn.{Turn}
use Rattle.vale_reading.specs.declared.stop.Turn.TheVariants.{More, End}
use Rattle.vale_reading.specs.Steps.{Read, Reader, begins, begins_word, name_at, turn_then, turns_at, enough, faulty}
use Rattle.vale_reading.specs.Reading.{binary_op, height, of_height, link_op, unary_op, chained, stepped, Inner, inside, after_bracket, parallel, form_end, after_form, plain_end, after_plain, ref_by, ref_type_at, array_type_at, iso_type_at, type_by, type_at, block_at, else_by, else_turn_by, else_turn, elses_at, branch_at, bound_by, bound_at, parallel_at, pure_at, form_by, form_at, arguments_at, called_by, called_at, paren_at, array_at, iso_at, primary_by, primary_at, member_by, member_at, index_at, step_by, step_turn, steps_at, postfix_at, unary_by, unary_at, link_by, link_turn, no_more, most_links, links_at, level_at, set_at, whole_by, whole_at, args_at, plain_at, declare_at, names_at, destructure_at, return_by, return_at, while_at, foreach_at, form_stmt_at, named_by, bracket_by, stmt_by, stmt_turn, stmts_at, within}
use Rattle.vale_reading_laws.proofs.Operators.{unary_of, link_op_is}
use Rattle.vale_reading_laws.proofs.StepLaws.{given, returned, at_kind, sign_takes, word_takes, name_takes, front, Takes, by_turn, turns_takes, faulty_takes, commas_take}

-- comparisons: at most one link
abbrev AtMostOne : Links → Type 0
AtMostOne no_links = Unit {0}
AtMostOne (more_links l ls) = ls ≡ no_links

one_then : (tighter : Reader Expr) (r : ℕ) (q : Read (Turn Link (Unit {0}))) (y : Links × List Token) → turn_then (link_turn tighter r) more_links (λ _. no_links) no_more no_more q ≡ Ok y → AtMostOne y.0
one_then tighter r (Ok (More x, mid)) y e = returned (λ (y : Links × List Token). AtMostOne y.0) (more_links x no_links, mid) e refl
one_then tighter r (Ok (End x, mid)) y e = returned (λ (y : Links × List Token). AtMostOne y.0) (no_links, mid) e tt
one_then tighter r (Err f) y e = absurd cc

one_link : (tighter : Reader Expr) (r : ℕ) (ts : List Token) (y : Links × List Token) → turns_at (link_turn tighter r) more_links (λ _. no_links) no_more 1 ts ≡ Ok y → AtMostOne y.0
unfolding turns_at
one_link tighter r ts y e = one_then tighter r (link_turn tighter r ts) y e

module _ (names : List (List ℕ)) where
  pub record InnerTakes (d : ℕ) (i : Inner) : Type 0 where
    pub type_expr : Takes i.type_expr (IsType names d)
    pub place : Takes i.place (IsExpr names postfix d)
    pub operand : Takes i.operand (IsExpr names operand d)
    pub whole : Takes i.whole (IsExpr names whole d)
    pub args : Takes i.args (AreArgs names d)
    pub stmts : Takes i.stmts (AreStmts names d)

  abbrev pub Sound : ℕ → Option Inner → Type 0
  Sound d None = Unit {0}
  Sound zero (Some i) = ⊥
  Sound (suc d) (Some i) = InnerTakes d i

  opened : {A C : Type 0} {f : Inner → Read A} {y : A × List Token} (here : List Token) (d : ℕ) (o : Option Inner) → Sound d o → inside o here f ≡ Ok y → ((level : ℕ) (i : Inner) → d ≡ suc level → InnerTakes level i → f i ≡ Ok y → C) → C
  opened here d None law e k = absurd cc
  opened here zero (Some i) law e k = absurd law
  opened here (suc d) (Some i) law e k = k d i refl law e

  in_deeper : (d level : ℕ) (p : ℕ → Part) (ts rest : List Token) → d ≡ suc level → p level ts rest → deeper d p ts rest
  in_deeper d level p ts rest e h = subst (λ (n : ℕ). deeper n p ts rest) (sym e) h

  module _ (d : ℕ) (o : Option Inner) (law : Sound d o) where
    -- ---- types

    ref_by_takes : (l : ℕ) (i : Inner) → d ≡ suc l → InnerTakes l i → (at : Spot) (start ts : List Token) → one (k.Sign s.Ampersand) at start ts → (b : Bool) (y : TypeExpr × List Token) → ref_by names i at ts b ≡ Ok y → IsType names d y.0 start y.1
    ref_by_takes l i dl law at start ts h true y e = given e (λ m em e. given e (λ x ex e. returned (front (IsType names d) start) (imm_ref_type at x.0, x.1) e
        (ts, h, in_deeper d l (λ d. word w.Imm ▸ IsType names d x.0) ts x.1 dl (m.1, (m.0, word_takes w.Imm ts m em), law.type_expr m.1 x ex))))
    ref_by_takes l i dl law at start ts h false y e = given e (λ x ex e. returned (front (IsType names d) start) (ref_type at x.0, x.1) e
        (ts, h, in_deeper d l (λ d. IsType names d x.0) ts x.1 dl (law.type_expr ts x ex)))

    ref_takes : Takes (ref_type_at names o) (IsType names d)
    unfolding ref_type_at
    ref_takes ts y e = given e (λ a ea e. opened _ d o law e (λ l i dl law e. ref_by_takes l i dl law a.0 ts a.1 (sign_takes s.Ampersand ts a ea) (begins_word w.Imm a.1) y e))

    array_type_takes : Takes (array_type_at names o) (IsType names d)
    unfolding array_type_at
    array_type_takes ts y e = given e (λ a ea e. opened _ d o law e (λ l i dl law e. given e (λ c ec e. given e (λ x ex e. returned (front (IsType names d) ts) (array_type a.0 x.0, x.1) e
        (a.1, sign_takes s.OpenBracket ts a ea, in_deeper d l (λ d. sign s.CloseBracket ▸ IsType names d x.0) a.1 x.1 dl (c.1, (c.0, sign_takes s.CloseBracket a.1 c ec), law.type_expr c.1 x ex))))))

    iso_type_takes : Takes (iso_type_at names o) (IsType names d)
    unfolding iso_type_at
    iso_type_takes ts y e = given e (λ a ea e. opened _ d o law e (λ l i dl law e. given e (λ x ex e. returned (front (IsType names d) ts) (iso_type a.0 x.0, x.1) e
        (a.1, word_takes w.Iso ts a ea, in_deeper d l (λ d. IsType names d x.0) a.1 x.1 dl (law.type_expr a.1 x ex)))))

    type_by_takes : (t : Token) (ts : List Token) (kind : TokenKind) (y : TypeExpr × List Token) → t.kind ≡ kind → type_by names o t ts kind ≡ Ok y → IsType names d y.0 (t ∷ ts) y.1
    type_by_takes t ts (k.Word w.Int) y is e = returned (front (IsType names d) (t ∷ ts)) (int_type t.at, ts) e (at_kind t ts _ is)
    type_by_takes t ts (k.Word w.Bool) y is e = returned (front (IsType names d) (t ∷ ts)) (bool_type t.at, ts) e (at_kind t ts _ is)
    type_by_takes t ts (k.Word w.Str) y is e = returned (front (IsType names d) (t ∷ ts)) (str_type t.at, ts) e (at_kind t ts _ is)
    type_by_takes t ts (k.Name text) y is e = given e (λ n en e. returned (front (IsType names d) (t ∷ ts)) (named_type n.0, n.1) e (name_takes names (t ∷ ts) n en))
    type_by_takes t ts (k.Sign s.OpenBracket) y is e = array_type_takes (t ∷ ts) y e
    type_by_takes t ts (k.Sign s.Ampersand) y is e = ref_takes (t ∷ ts) y e
    type_by_takes t ts (k.Word w.Iso) y is e = iso_type_takes (t ∷ ts) y e
    type_by_takes t ts _ y is e = absurd cc

    pub type_takes : Takes (type_at names o) (IsType names d)
    unfolding type_at
    type_takes [] y e = absurd cc
    type_takes (t ∷ ts) y e = type_by_takes t ts t.kind y refl e

    -- ---- blocks and forms

    pub block_takes : Takes (block_at names o) (IsBlock names d)
    unfolding block_at
    block_takes ts y e = given e (λ a ea e. opened _ d o law e (λ l i dl law e. given e (λ xs exs e. given e (λ c ec e. returned (front (IsBlock names d) ts) (block a.0 c.0 xs.0, c.1) e
        (a.1, sign_takes s.OpenBrace ts a ea, (xs.1, in_deeper d l (λ d. AreStmts names d xs.0) a.1 xs.1 dl (law.stmts a.1 xs exs), sign_takes s.CloseBrace xs.1 c ec))))))

    abbrev IsElse : Turn ElseIf (Option Block) → Part
    IsElse = by_turn (IsElseIf names d) (λ b. AreElses names d (else_end b))

    else_takes : (at : Spot) (start ts : List Token) → one (k.Word w.Else) at start ts → (b : Bool) (y : Turn ElseIf (Option Block) × List Token) → else_by names o ts b ≡ Ok y → IsElse y.0 start y.1
    else_takes at start ts h true y e = given e (λ a ea e. opened _ d o law e (λ l i dl law e. given e (λ c ec e. given e (λ b eb e. returned (front IsElse start) (More (else_if a.0 c.0 b.0), b.1) e
        (ts, (at, h), (a.1, word_takes w.If ts a ea, (c.1, in_deeper d l (λ d. IsExpr names whole d c.0) a.1 c.1 dl (law.whole a.1 c ec), block_takes c.1 b eb)))))))
    else_takes at start ts h false y e = given e (λ b eb e. returned (front IsElse start) (End (Some b.0), b.1) e (ts, (at, h), block_takes ts b eb))

    else_turn_by_takes : (ts : List Token) (b : Bool) (y : Turn ElseIf (Option Block) × List Token) → else_turn_by names o ts b ≡ Ok y → IsElse y.0 ts y.1
    else_turn_by_takes ts true y e = given e (λ a ea e. else_takes a.0 ts a.1 (word_takes w.Else ts a ea) (begins_word w.If a.1) y e)
    else_turn_by_takes ts false y e = returned (front IsElse ts) (End None, ts) e refl

    else_turn_takes : Takes (else_turn names o) IsElse
    unfolding else_turn
    else_turn_takes ts y e = else_turn_by_takes ts (begins_word w.Else ts) y e

    elses_take : Takes (elses_at names o) (AreElses names d)
    unfolding elses_at
    elses_take ts y e = turns_takes (else_turn names o) more_elses else_end faulty (IsElseIf names d) (λ b. AreElses names d (else_end b)) (AreElses names d)
        else_turn_takes (λ x l ts mid rest h g. (mid, h, g)) (λ b ts rest h. h) (faulty_takes (AreElses names d)) (enough ts) ts y e

    branch_takes : Takes (branch_at names o) (IsForm names d)
    unfolding branch_at
    branch_takes ts y e = given e (λ a ea e. opened _ d o law e (λ l i dl law e. given e (λ c ec e. given e (λ b eb e. given e (λ es ees e. returned (front (IsForm names d) ts) (branch a.0 c.0 b.0 es.0, es.1) e
        (a.1, word_takes w.If ts a ea, (c.1, in_deeper d l (λ d. IsExpr names whole d c.0) a.1 c.1 dl (law.whole a.1 c ec), (b.1, block_takes c.1 b eb, elses_take b.1 es ees))))))))

    pure_takes : Takes (pure_at names o) (IsForm names d)
    pure_takes ts y e = given e (λ a ea e. given e (λ b eb e. returned (front (IsForm names d) ts) (pure a.0 b.0, b.1) e (a.1, word_takes w.Pure ts a ea, block_takes a.1 b eb)))

    -- the second bound
    abbrev IsTo : ℕ → Option Expr → Part
    IsTo l None = nothing
    IsTo l (Some e) = sign s.DotDot ▸ IsExpr names whole l e

    bound_by_takes : (l : ℕ) (i : Inner) → InnerTakes l i → (ts : List Token) (b : Bool) (y : Option Expr × List Token) → bound_by i ts b ≡ Ok y → IsTo l y.0 ts y.1
    bound_by_takes l i law ts true y e = given e (λ a ea e. given e (λ x ex e. returned (front (IsTo l) ts) (Some x.0, x.1) e (a.1, (a.0, sign_takes s.DotDot ts a ea), law.whole a.1 x ex)))
    bound_by_takes l i law ts false y e = returned (front (IsTo l) ts) (None, ts) e refl

    bound_takes : (l : ℕ) (i : Inner) → InnerTakes l i → Takes (bound_at i) (IsTo l)
    unfolding bound_at
    bound_takes l i law ts y e = bound_by_takes l i law ts (begins s.DotDot ts) y e

    bounds_take : (l : ℕ) → d ≡ suc l → (at : Spot) (n : NameAt) (e : Expr) (to : Option Expr) (b : Block) (ts m1 m2 m3 m4 m5 m6 rest : List Token) → one (k.Word w.Parallel) at ts m1 → word w.Foreach m1 m2 → named names n m2 m3 → word w.In m3 m4 → IsExpr names whole l e m4 m5 → IsTo l to m5 m6 → IsBlock names d b m6 rest → IsForm names d (parallel at n e to b) ts rest
    bounds_take l dl at n e None b ts m1 m2 m3 m4 m5 m6 rest h1 h2 h3 h4 h5 h6 h7 =
        (m1, h1, (m6, in_deeper d l (λ d. word w.Foreach ▸ named names n ▸ word w.In ▸ IsExpr names whole d e) m1 m6 dl (m2, h2, (m3, h3, (m4, h4, subst (λ (r : List Token). IsExpr names whole l e m4 r) h6 h5))), h7))
    bounds_take l dl at n e (Some f) b ts m1 m2 m3 m4 m5 m6 rest h1 h2 h3 h4 h5 (m, h6, h8) h7 =
        (m1, h1, (m6, in_deeper d l (λ d. word w.Foreach ▸ named names n ▸ word w.In ▸ IsExpr names whole d e ▸ sign s.DotDot ▸ IsExpr names whole d f) m1 m6 dl (m2, h2, (m3, h3, (m4, h4, (m5, h5, (m, h6, h8))))), h7))

    parallel_takes : Takes (parallel_at names o) (IsForm names d)
    unfolding parallel_at
    parallel_takes ts y e = given e (λ a ea e. opened _ d o law e (λ l i dl law e. given e (λ f ef e. given e (λ n en e. given e (λ a2 ea2 e. given e (λ x ex e. given e (λ to eto e. given e (λ b eb e. returned (front (IsForm names d) ts) (parallel a.0 n.0 x.0 to.0 b.0, b.1) e
        (bounds_take l dl a.0 n.0 x.0 to.0 b.0 ts a.1 f.1 n.1 a2.1 x.1 to.1 b.1 (word_takes w.Parallel ts a ea) (f.0, word_takes w.Foreach a.1 f ef) (name_takes names f.1 n en) (a2.0, word_takes w.In n.1 a2 ea2)
        (law.whole a2.1 x ex) (bound_takes l i law x.1 to eto) (block_takes to.1 b eb))))))))))

    form_by_takes : (t : Token) (ts : List Token) (kind : TokenKind) (y : Form × List Token) → form_by names o t ts kind ≡ Ok y → IsForm names d y.0 (t ∷ ts) y.1
    form_by_takes t ts (k.Word w.If) y e = branch_takes (t ∷ ts) y e
    form_by_takes t ts (k.Word w.Pure) y e = pure_takes (t ∷ ts) y e
    form_by_takes t ts (k.Word w.Parallel) y e = parallel_takes (t ∷ ts) y e
    form_by_takes t ts _ y e = absurd cc

    form_takes : Takes (form_at names o) (IsForm names d)
    unfolding form_at
    form_takes [] y e = absurd cc
    form_takes (t ∷ ts) y e = form_by_takes t ts t.kind y e

    -- ---- operands

    abbrev IsArguments : Exprs → Part
    IsArguments es = sign s.OpenParen ▸ deeper d (λ d. AreArgs names d es) ▸ sign s.CloseParen

    arguments_take : Takes (arguments_at names o) IsArguments
    unfolding arguments_at
    arguments_take ts y e = given e (λ a ea e. opened _ d o law e (λ l i dl law e. given e (λ es ees e. given e (λ c ec e. returned (front IsArguments ts) (es.0, c.1) e
        (a.1, (a.0, sign_takes s.OpenParen ts a ea), (es.1, in_deeper d l (λ d. AreArgs names d es.0) a.1 es.1 dl (law.args a.1 es ees), (c.0, sign_takes s.CloseParen es.1 c ec)))))))

    abbrev IsPrimary : Expr → Part
    IsPrimary = IsExpr names primary d

    called_by_takes : (n : NameAt) (start ts : List Token) → named names n start ts → (b : Bool) (y : Expr × List Token) → called_by names o n ts b ≡ Ok y → IsPrimary y.0 start y.1
    called_by_takes n start ts h true y e = given e (λ es ees e. returned (front IsPrimary start) (call n es.0, es.1) e (ts, h, arguments_take ts es ees))
    called_by_takes n start ts h false y e = returned (front IsPrimary start) (name n, ts) e h

    called_takes : Takes (called_at names o) IsPrimary
    unfolding called_at
    called_takes ts y e = given e (λ n en e. called_by_takes n.0 ts n.1 (name_takes names ts n en) (begins s.OpenParen n.1) y e)

    paren_takes : Takes (paren_at names o) IsPrimary
    unfolding paren_at
    paren_takes ts y e = given e (λ a ea e. opened _ d o law e (λ l i dl law e. given e (λ x ex e. given e (λ c ec e. returned (front IsPrimary ts) (paren a.0 x.0, c.1) e
        (a.1, sign_takes s.OpenParen ts a ea, (x.1, in_deeper d l (λ d. IsExpr names whole d x.0) a.1 x.1 dl (law.whole a.1 x ex), (c.0, sign_takes s.CloseParen x.1 c ec)))))))

    array_takes : Takes (array_at names o) IsPrimary
    unfolding array_at
    array_takes ts y e = given e (λ a ea e. opened _ d o law e (λ l i dl law e. given e (λ c ec e. given e (λ x ex e. given e (λ es ees e. returned (front IsPrimary ts) (array a.0 x.0 es.0, es.1) e
        (a.1, sign_takes s.OpenBracket ts a ea, (x.1, in_deeper d l (λ d. sign s.CloseBracket ▸ IsType names d x.0) a.1 x.1 dl (c.1, (c.0, sign_takes s.CloseBracket a.1 c ec), law.type_expr c.1 x ex), arguments_take x.1 es ees)))))))

    iso_takes : Takes (iso_at names o) IsPrimary
    iso_takes ts y e = given e (λ a ea e. given e (λ b eb e. returned (front IsPrimary ts) (iso a.0 b.0, b.1) e (a.1, word_takes w.Iso ts a ea, block_takes a.1 b eb)))

    primary_by_takes : (t : Token) (ts : List Token) (kind : TokenKind) (y : Expr × List Token) → t.kind ≡ kind → primary_by names o t ts kind ≡ Ok y → IsPrimary y.0 (t ∷ ts) y.1
    primary_by_takes t ts (k.Number n) y is e = returned (front IsPrimary (t ∷ ts)) (number t.at n, ts) e (at_kind t ts _ is)
    primary_by_takes t ts (k.Quote text) y is e = returned (front IsPrimary (t ∷ ts)) (quote t.at text, ts) e (at_kind t ts _ is)
    primary_by_takes t ts (k.Word w.True) y is e = returned (front IsPrimary (t ∷ ts)) (truth t.at true, ts) e (at_kind t ts _ is)
    primary_by_takes t ts (k.Word w.False) y is e = returned (front IsPrimary (t ∷ ts)) (truth t.at false, ts) e (at_kind t ts _ is)
    primary_by_takes t ts (k.Name text) y is e = called_takes (t ∷ ts) y e
    primary_by_takes t ts (k.Sign s.OpenParen) y is e = paren_takes (t ∷ ts) y e
    primary_by_takes t ts (k.Sign s.OpenBracket) y is e = array_takes (t ∷ ts) y e
    primary_by_takes t ts (k.Word w.Iso) y is e = iso_takes (t ∷ ts) y e
    primary_by_takes t ts _ y is e = given e (λ f ef e. returned (front IsPrimary (t ∷ ts)) (form f.0, f.1) e (form_takes (t ∷ ts) f ef))

    primary_takes : Takes (primary_at names o) IsPrimary
    unfolding primary_at
    primary_takes [] y e = absurd cc
    primary_takes (t ∷ ts) y e = primary_by_takes t ts t.kind y refl e

    -- ---- steps

    abbrev IsStepTurn : Turn Step (Unit {0}) → Part
    IsStepTurn = by_turn (IsStep names d) (λ _. nothing)

    member_by_takes : (at : Spot) (n : NameAt) (start m ts : List Token) → one (k.Sign s.Dot) at start m → named names n m ts → (b : Bool) (y : Turn Step (Unit {0}) × List Token) → member_by names o at n ts b ≡ Ok y → IsStepTurn y.0 start y.1
    member_by_takes at n start m ts h g true y e = given e (λ es ees e. returned (front IsStepTurn start) (More (method at n.name es.0), es.1) e (m, h, (ts, (n.at, g), arguments_take ts es ees)))
    member_by_takes at n start m ts h g false y e = returned (front IsStepTurn start) (More (field at n.name), ts) e (m, h, (n.at, g))

    member_takes : Takes (member_at names o) IsStepTurn
    unfolding member_at
    member_takes ts y e = given e (λ a ea e. given e (λ n en e. member_by_takes a.0 n.0 ts a.1 n.1 (sign_takes s.Dot ts a ea) (name_takes names a.1 n en) (begins s.OpenParen n.1) y e))

    index_takes : Takes (index_at names o) IsStepTurn
    unfolding index_at
    index_takes ts y e = given e (λ a ea e. opened _ d o law e (λ l i dl law e. given e (λ x ex e. given e (λ c ec e. returned (front IsStepTurn ts) (More (index a.0 x.0), c.1) e
        (a.1, sign_takes s.OpenBracket ts a ea, (x.1, in_deeper d l (λ d. IsExpr names whole d x.0) a.1 x.1 dl (law.whole a.1 x ex), (c.0, sign_takes s.CloseBracket x.1 c ec)))))))

    step_by_takes : (t : Token) (ts : List Token) (kind : TokenKind) (y : Turn Step (Unit {0}) × List Token) → step_by names o t ts kind ≡ Ok y → IsStepTurn y.0 (t ∷ ts) y.1
    step_by_takes t ts (k.Sign s.Dot) y e = member_takes (t ∷ ts) y e
    step_by_takes t ts (k.Sign s.OpenBracket) y e = index_takes (t ∷ ts) y e
    step_by_takes t ts _ y e = returned (front IsStepTurn (t ∷ ts)) (End tt, t ∷ ts) e refl

    step_takes : Takes (step_turn names o) IsStepTurn
    unfolding step_turn
    step_takes [] y e = returned (front IsStepTurn []) (End tt, []) e refl
    step_takes (t ∷ ts) y e = step_by_takes t ts t.kind y e

    steps_take : Takes (steps_at names o) (AreSteps names d)
    unfolding steps_at
    steps_take ts y e = turns_takes (step_turn names o) more_steps (λ _. no_steps) faulty (IsStep names d) (λ _. nothing) (AreSteps names d)
        step_takes (λ x l ts mid rest h g. (mid, h, g)) (λ _ ts rest h. h) (faulty_takes (AreSteps names d)) (enough ts) ts y e

    -- ---- operators

    looser : (r r2 : ℕ) (e : Expr) (ts rest : List Token) → r ≤ r2 → IsExpr names r d e ts rest → IsExpr names r2 d e ts rest
    looser r r2 (set at p e) ts rest le h = let more : whole ≤ r2 = omega (arith, h.0, le) in (more, h.1)
    looser r r2 (chain e ls) ts rest le h = let lt : h.0 < r2 = omega (arith, h.1) in (h.0, lt, h.2, h.3)
    looser r r2 (unary at op e) ts rest le h = let more : operand ≤ r2 = omega (arith, h.0, le) in (more, h.1)
    looser r r2 (steps e ss) ts rest le h = let more : postfix ≤ r2 = omega (arith, h.0.0, le) in ((more, h.0.1), h.1)
    looser r r2 (number at n) ts rest le h = h
    looser r r2 (quote at n) ts rest le h = h
    looser r r2 (truth at n) ts rest le h = h
    looser r r2 (name n) ts rest le h = h
    looser r r2 (call n es) ts rest le h = h
    looser r r2 (paren at e) ts rest le h = h
    looser r r2 (array at x es) ts rest le h = h
    looser r r2 (iso at b) ts rest le h = h
    looser r r2 (form f) ts rest le h = h

    stepped_takes : (x : Expr) (ps : Steps) (ts mid rest : List Token) → IsPrimary x ts mid → AreSteps names d ps mid rest → IsExpr names postfix d (stepped x ps) ts rest
    stepped_takes x no_steps ts mid rest h g = let le : primary ≤ postfix = omega arith in looser primary postfix x ts rest le (subst (λ (r : List Token). IsPrimary x ts r) g h)
    stepped_takes x (more_steps p ps) ts mid rest h g = let le : postfix ≤ postfix = omega arith in ((le, tt), (mid, h, g))

    postfix_takes : Takes (postfix_at names o) (IsExpr names postfix d)
    unfolding postfix_at
    postfix_takes ts y e = given e (λ x ex e. given e (λ ps eps e. returned (front (IsExpr names postfix d) ts) (stepped x.0 ps.0, ps.1) e
        (stepped_takes x.0 ps.0 ts x.1 ps.1 (primary_takes ts x ex) (steps_take x.1 ps eps))))

    unary_by_takes : (t : Token) (ts : List Token) (q : Option UnaryOp) (y : Expr × List Token) → unary_op t.kind ≡ q → unary_by names o t ts q ≡ Ok y → IsExpr names operand d y.0 (t ∷ ts) y.1
    unary_by_takes t ts (Some op) y is e = opened _ d o law e (λ l i dl law e. given e (λ x ex e. returned (front (IsExpr names operand d) (t ∷ ts)) (unary t.at op x.0, x.1) e
        (let le : operand ≤ operand = omega arith in (le, (ts, at_kind t ts _ (unary_of t.kind op is), in_deeper d l (λ d. IsExpr names operand d x.0) ts x.1 dl (law.operand ts x ex))))))
    unary_by_takes t ts None y is e = let le : postfix ≤ operand = omega arith in looser postfix operand y.0 (t ∷ ts) y.1 le (postfix_takes (t ∷ ts) y e)

    unary_takes : Takes (unary_at names o) (IsExpr names operand d)
    unfolding unary_at
    unary_takes [] y e = absurd cc
    unary_takes (t ∷ ts) y e = unary_by_takes t ts (unary_op t.kind) y refl e

    module _ (n : ℕ) (p : Reader Expr) (takes : Takes p (IsExpr names (suc (suc n)) d)) where
      abbrev IsLinkTurn : Turn Link (Unit {0}) → Part
      IsLinkTurn = by_turn (IsLink names (suc (suc n)) d) (λ _. nothing)

      link_by_takes : (t : Token) (ts : List Token) (q : Option BinaryOp) (y : Turn Link (Unit {0}) × List Token) → link_op (suc n) t.kind ≡ q → link_by p t ts q ≡ Ok y → IsLinkTurn y.0 (t ∷ ts) y.1
      link_by_takes t ts None y is e = returned (front IsLinkTurn (t ∷ ts)) (End tt, t ∷ ts) e refl
      link_by_takes t ts (Some op) y is e = given e (λ x ex e. returned (front IsLinkTurn (t ∷ ts)) (More (link t.at op x.0), x.1) e
          (let h = link_op_is (suc n) t.kind op is in (h.1, (ts, at_kind t ts _ h.0, takes ts x ex))))

      link_takes : Takes (link_turn p (suc n)) IsLinkTurn
      unfolding link_turn
      link_takes [] y e = returned (front IsLinkTurn []) (End tt, []) e refl
      link_takes (t ∷ ts) y e = link_by_takes t ts (link_op (suc n) t.kind) y refl e

      no_more_takes : Takes no_more (AreLinks names (suc (suc n)) d)
      no_more_takes ts y e = returned (front (AreLinks names (suc (suc n)) d) ts) (no_links, ts) e refl

      links_take : (most : ℕ) → Takes (turns_at (link_turn p (suc n)) more_links (λ _. no_links) no_more most) (AreLinks names (suc (suc n)) d)
      links_take most ts y e = turns_takes (link_turn p (suc n)) more_links (λ _. no_links) no_more (IsLink names (suc (suc n)) d) (λ _. nothing) (AreLinks names (suc (suc n)) d)
          link_takes (λ x l ts mid rest h g. (mid, h, g)) (λ _ ts rest h. h) no_more_takes most ts y e

      chained_takes : (x : Expr) (ls : Links) (ts mid rest : List Token) → IsExpr names (suc (suc n)) d x ts mid → AreLinks names (suc (suc n)) d ls mid rest → (suc n ≡ 3 → AtMostOne ls) → IsExpr names (suc (suc (suc n))) d (chained x ls) ts rest
      chained_takes x no_links ts mid rest h g one = let le : suc (suc n) ≤ suc (suc (suc n)) = omega arith in subst (λ (z : List Token). IsExpr names (suc (suc (suc n))) d x ts z) g (looser (suc (suc n)) (suc (suc (suc n))) x ts mid le h)
      chained_takes x (more_links l ls) ts mid rest h g one = let lt : suc (suc n) < suc (suc (suc n)) = omega arith in (suc (suc n), lt, (λ e. one (let three : suc n ≡ 3 = omega (arith, e) in three)), (mid, h, g))

      chain_takes : (x : Expr) (ts mid : List Token) → IsExpr names (suc (suc n)) d x ts mid → (ls : Links × List Token) → links_at p (suc n) mid ≡ Ok ls → IsExpr names (suc (suc (suc n))) d (chained x ls.0) ts ls.1
      unfolding links_at
      chain_takes x ts mid h ls e = chained_takes x ls.0 ts mid ls.1 h (links_take (most_links (suc n) mid) mid ls e)
          (λ three. one_link p (suc n) mid ls (subst (λ (z : ℕ). turns_at (link_turn p (suc n)) more_links (λ _. no_links) no_more (most_links z mid) mid ≡ Ok ls) three e))

    level_takes : (n : ℕ) → Takes (level_at names o n) (IsExpr names (suc (suc n)) d)
    unfolding level_at
    level_takes zero ts y e = unary_takes ts y e
    level_takes (suc n) ts y e = given e (λ x ex e. given e (λ ls els e. returned (front (IsExpr names (suc (suc (suc n))) d) ts) (chained x.0 ls.0, ls.1) e
        (chain_takes n (level_at names o n) (level_takes n) x.0 ts x.1 (level_takes n ts x ex) ls els)))

    set_takes : Takes (set_at names o) (IsExpr names whole d)
    unfolding set_at
    set_takes ts y e = given e (λ a ea e. opened _ d o law e (λ l i dl law e. given e (λ p ep e. given e (λ c ec e. given e (λ x ex e. returned (front (IsExpr names whole d) ts) (set a.0 p.0 x.0, x.1) e
        (let le : whole ≤ whole = omega arith in (
          le,
          (
            a.1,
            word_takes w.Set ts a ea,
            in_deeper d l (λ d. IsExpr names postfix d p.0 ▸ sign s.Assign ▸ IsExpr names whole d x.0) a.1 x.1 dl
                (p.1, law.place a.1 p ep, (c.1, (c.0, sign_takes s.Assign p.1 c ec), law.whole c.1 x ex)),
          ),
        )))))))

    whole_by_takes : (ts : List Token) (b : Bool) (y : Expr × List Token) → whole_by names o ts b ≡ Ok y → IsExpr names whole d y.0 ts y.1
    whole_by_takes ts true y e = set_takes ts y e
    whole_by_takes ts false y e = let le : suc (suc 5) ≤ whole = omega arith in looser (suc (suc 5)) whole y.0 ts y.1 le (level_takes 5 ts y e)

    whole_takes : Takes (whole_at names o) (IsExpr names whole d)
    unfolding whole_at
    whole_takes ts y e = whole_by_takes ts (begins_word w.Set ts) y e

    args_take : Takes (args_at names o) (AreArgs names d)
    unfolding args_at
    args_take ts y e = commas_take (whole_at names o) (IsExpr names whole d) whole_takes more_exprs no_exprs (AreArgs names d) (AreMoreArgs names d)
        (λ x l ts mid rest h g. (mid, h, g)) (λ x l ts mid rest h g. (h.0, h.1, (mid, h.2, g))) (λ ts. refl) (λ ts. refl) s.CloseParen ts y e

    -- ---- statements

    abbrev IsStmtTurn : Turn Stmt (Option Expr) → Part
    IsStmtTurn = by_turn (IsStmt names d) (λ e. AreStmts names d (last_end e))

    abbrev IsAlone : Expr → Part
    IsAlone e = alone e (IsExpr names whole d e)

    alone_form : (f : Form) (ts rest : List Token) → IsForm names d f ts rest → IsAlone (form f) ts rest
    alone_form f [] rest h = h
    alone_form f (t ∷ ts) rest h = ((λ e. tt), h)

    alone_plain : (x : Expr) (t : Token) (ts rest : List Token) → begins_form t.kind ≡ false → IsExpr names whole d x (t ∷ ts) rest → IsAlone x (t ∷ ts) rest
    alone_plain x t ts rest other h = ((λ yes. absurd (cc (yes, other))), h)

    form_end_takes : (f : Form) (start : List Token) (t : Token) (ts : List Token) (kind : TokenKind) (y : Turn Stmt (Option Expr) × List Token) → IsForm names d f start (t ∷ ts) → t.kind ≡ kind → form_end f t ts kind ≡ Ok y → IsStmtTurn y.0 start y.1
    form_end_takes f start t ts (k.Sign s.Semicolon) y h is e = returned (front IsStmtTurn start) (More (express (form f)), ts) e (t ∷ ts, alone_form f start (t ∷ ts) h, (t.at, at_kind t ts _ is))
    form_end_takes f start t ts (k.Sign s.CloseBrace) y h is e = returned (front IsStmtTurn start) (End (Some (form f)), t ∷ ts) e (alone_form f start (t ∷ ts) h)
    form_end_takes f start t ts _ y h is e = returned (front IsStmtTurn start) (More (form_stmt f), t ∷ ts) e (t ∷ ts, h, (ap ends_stmt is, refl))

    after_form_takes : (f : Form) (start ts : List Token) (y : Turn Stmt (Option Expr) × List Token) → IsForm names d f start ts → after_form f ts ≡ Ok y → IsStmtTurn y.0 start y.1
    unfolding after_form
    after_form_takes f start [] y h e = absurd cc
    after_form_takes f start (t ∷ ts) y h e = form_end_takes f start t ts t.kind y h refl e

    plain_end_takes : (x : Expr) (start : List Token) (t : Token) (ts : List Token) (kind : TokenKind) (y : Turn Stmt (Option Expr) × List Token) → IsAlone x start (t ∷ ts) → t.kind ≡ kind → plain_end x t ts kind ≡ Ok y → IsStmtTurn y.0 start y.1
    plain_end_takes x start t ts (k.Sign s.Semicolon) y h is e = returned (front IsStmtTurn start) (More (express x), ts) e (t ∷ ts, h, (t.at, at_kind t ts _ is))
    plain_end_takes x start t ts (k.Sign s.CloseBrace) y h is e = returned (front IsStmtTurn start) (End (Some x), t ∷ ts) e h
    plain_end_takes x start t ts _ y h is e = absurd cc

    after_plain_takes : (x : Expr) (start ts : List Token) (y : Turn Stmt (Option Expr) × List Token) → IsAlone x start ts → after_plain x ts ≡ Ok y → IsStmtTurn y.0 start y.1
    unfolding after_plain
    after_plain_takes x start [] y h e = absurd cc
    after_plain_takes x start (t ∷ ts) y h e = plain_end_takes x start t ts t.kind y h refl e

    plain_takes : (t : Token) (ts : List Token) (y : Turn Stmt (Option Expr) × List Token) → begins_form t.kind ≡ false → plain_at names o (t ∷ ts) ≡ Ok y → IsStmtTurn y.0 (t ∷ ts) y.1
    unfolding plain_at
    plain_takes t ts y other e = given e (λ x ex e. after_plain_takes x.0 (t ∷ ts) x.1 y (alone_plain x.0 t ts x.1 other (whole_takes (t ∷ ts) x ex)) e)

    declare_takes : Takes (declare_at names o) IsStmtTurn
    unfolding declare_at
    declare_takes ts y e = given e (λ n en e. given e (λ a ea e. given e (λ x ex e. given e (λ c ec e. returned (front IsStmtTurn ts) (More (declare n.0 x.0), c.1) e
        (n.1, name_takes names ts n en, (a.1, (a.0, sign_takes s.Assign n.1 a ea), (x.1, whole_takes a.1 x ex, (c.0, sign_takes s.Semicolon x.1 c ec))))))))

    names_take : Takes (names_at names) (with_commas (named names))
    unfolding names_at
    names_take ts y e = commas_take (name_at names) (named names) (name_takes names) (λ x xs. x ∷ xs) [] (with_commas (named names)) (each (λ n. sign s.Comma ▸ named names n))
        (λ x l ts mid rest h g. (mid, h, g)) (λ x l ts mid rest h g. (mid, h, g)) (λ ts. refl) (λ ts. refl) s.CloseBracket ts y e

    destructure_takes : Takes (destructure_at names o) IsStmtTurn
    unfolding destructure_at
    destructure_takes ts y e = given e (λ a ea e. opened _ d o law e (λ l i dl law e. given e (λ ns ens e. given e (λ c ec e. given e (λ a2 ea2 e. given e (λ x ex e. given e (λ c2 ec2 e. returned (front IsStmtTurn ts) (More (destructure a.0 ns.0 x.0), c2.1) e
        (a.1, sign_takes s.OpenBracket ts a ea, (ns.1, in_deeper d l (λ d. with_commas (named names) ns.0) a.1 ns.1 dl (names_take a.1 ns ens), (c.1, (c.0, sign_takes s.CloseBracket ns.1 c ec), (a2.1, (a2.0, sign_takes s.Assign c.1 a2 ea2), (x.1, whole_takes a2.1 x ex, (c2.0, sign_takes s.Semicolon x.1 c2 ec2)))))))))))))

    return_by_takes : (at : Spot) (start ts : List Token) → one (k.Word w.Return) at start ts → (b : Bool) (y : Turn Stmt (Option Expr) × List Token) → return_by names o at ts b ≡ Ok y → IsStmtTurn y.0 start y.1
    return_by_takes at start ts h true y e = given e (λ c ec e. returned (front IsStmtTurn start) (More (return_nothing at), c.1) e (ts, h, (c.0, sign_takes s.Semicolon ts c ec)))
    return_by_takes at start ts h false y e = given e (λ x ex e. given e (λ c ec e. returned (front IsStmtTurn start) (More (return_value at x.0), c.1) e (ts, h, (x.1, whole_takes ts x ex, (c.0, sign_takes s.Semicolon x.1 c ec)))))

    return_takes : Takes (return_at names o) IsStmtTurn
    unfolding return_at
    return_takes ts y e = given e (λ a ea e. return_by_takes a.0 ts a.1 (word_takes w.Return ts a ea) (begins s.Semicolon a.1) y e)

    while_takes : Takes (while_at names o) IsStmtTurn
    unfolding while_at
    while_takes ts y e = given e (λ a ea e. given e (λ c ec e. given e (λ b eb e. returned (front IsStmtTurn ts) (More (while a.0 c.0 b.0), b.1) e
        (a.1, word_takes w.While ts a ea, (c.1, whole_takes a.1 c ec, block_takes c.1 b eb)))))

    foreach_takes : Takes (foreach_at names o) IsStmtTurn
    unfolding foreach_at
    foreach_takes ts y e = given e (λ a ea e. given e (λ n en e. given e (λ a2 ea2 e. given e (λ x ex e. given e (λ c ec e. given e (λ z ez e. given e (λ b eb e. returned (front IsStmtTurn ts) (More (foreach a.0 n.0 x.0 z.0 b.0), b.1) e
        (a.1, word_takes w.Foreach ts a ea, (n.1, name_takes names a.1 n en, (a2.1, (a2.0, word_takes w.In n.1 a2 ea2), (x.1, whole_takes a2.1 x ex, (c.1, (c.0, sign_takes s.DotDot x.1 c ec), (z.1, whole_takes c.1 z ez, block_takes z.1 b eb)))))))))))))

    form_stmt_takes : Takes (form_stmt_at names o) IsStmtTurn
    unfolding form_stmt_at
    form_stmt_takes ts y e = given e (λ f ef e. after_form_takes f.0 ts f.1 y (form_takes ts f ef) e)

    named_by_takes : (t : Token) (ts : List Token) (b : Bool) (y : Turn Stmt (Option Expr) × List Token) → begins_form t.kind ≡ false → named_by names o (t ∷ ts) b ≡ Ok y → IsStmtTurn y.0 (t ∷ ts) y.1
    named_by_takes t ts true y other e = declare_takes (t ∷ ts) y e
    named_by_takes t ts false y other e = plain_takes t ts y other e

    bracket_by_takes : (t : Token) (ts : List Token) (b : Bool) (y : Turn Stmt (Option Expr) × List Token) → begins_form t.kind ≡ false → bracket_by names o (t ∷ ts) b ≡ Ok y → IsStmtTurn y.0 (t ∷ ts) y.1
    bracket_by_takes t ts true y other e = destructure_takes (t ∷ ts) y e
    bracket_by_takes t ts false y other e = plain_takes t ts y other e

    stmt_by_takes : (t : Token) (ts : List Token) (kind : TokenKind) (y : Turn Stmt (Option Expr) × List Token) → t.kind ≡ kind → stmt_by names o t ts kind ≡ Ok y → IsStmtTurn y.0 (t ∷ ts) y.1
    stmt_by_takes t ts (k.Sign s.CloseBrace) y is e = returned (front IsStmtTurn (t ∷ ts)) (End None, t ∷ ts) e refl
    stmt_by_takes t ts (k.Name text) y is e = named_by_takes t ts (begins s.Assign ts) y (ap begins_form is) e
    stmt_by_takes t ts (k.Sign s.OpenBracket) y is e = bracket_by_takes t ts (after_bracket ts) y (ap begins_form is) e
    stmt_by_takes t ts (k.Word w.Return) y is e = return_takes (t ∷ ts) y e
    stmt_by_takes t ts (k.Word w.While) y is e = while_takes (t ∷ ts) y e
    stmt_by_takes t ts (k.Word w.Foreach) y is e = foreach_takes (t ∷ ts) y e
    stmt_by_takes t ts (k.Word w.If) y is e = form_stmt_takes (t ∷ ts) y e
    stmt_by_takes t ts (k.Word w.Pure) y is e = form_stmt_takes (t ∷ ts) y e
    stmt_by_takes t ts (k.Word w.Parallel) y is e = form_stmt_takes (t ∷ ts) y e
    stmt_by_takes t ts _ y is e = plain_takes t ts y (ap begins_form is) e

    stmt_takes : Takes (stmt_turn names o) IsStmtTurn
    unfolding stmt_turn
    stmt_takes [] y e = absurd cc
    stmt_takes (t ∷ ts) y e = stmt_by_takes t ts t.kind y refl e

    stmts_take : Takes (stmts_at names o) (AreStmts names d)
    unfolding stmts_at
    stmts_take ts y e = turns_takes (stmt_turn names o) more_stmts last_end faulty (IsStmt names d) (λ e. AreStmts names d (last_end e)) (AreStmts names d)
        stmt_takes (λ x l ts mid rest h g. (mid, h, g)) (λ e ts rest h. h) (faulty_takes (AreStmts names d)) (enough ts) ts y e

  pub within_sound : (d : ℕ) → Sound d (within names d)
  unfolding within
  within_sound zero = tt
  within_sound (suc d) = record {
    type_expr = type_takes d (within names d) (within_sound d);
    place = postfix_takes d (within names d) (within_sound d);
    operand = unary_takes d (within names d) (within_sound d);
    whole = whole_takes d (within names d) (within_sound d);
    args = args_take d (within names d) (within_sound d);
    stmts = stmts_take d (within names d) (within_sound d);
  }
