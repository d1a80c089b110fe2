-- What is in the grammar is read.
use Rattle.std.proofs.Common.{◌≡◌, ◌<◌, ◌≤◌, ℕ, zero, suc, Bool, true, false, eqb, List, [], ◌∷◌, length, Option, Some, None, Ok, refl, sym, subst, arith, inl, inr}
use Rattle.std.proofs.lemmas.Bool.{eq-eqb, ne_eqb, cases_lt}
use Rattle.std.proofs.lemmas.Bool.Decides.{eqb_tells}
use Rattle.vale_base.specs.declared.spot.Spot.{Spot}
use Rattle.vale_syntax.specs.declared.token.Token.{Token}
use Rattle.vale_syntax.specs.declared.token.TokenKind.{TokenKind}
use Rattle.vale_syntax.specs.declared.token.TokenKind.TheVariants as k
use Rattle.vale_syntax.specs.declared.token.Sign.TheVariants as s
use Rattle.vale_syntax.specs.declared.token.Word.TheVariants as w
use Rattle.vale_syntax.specs.declared.tree.NameAt.{NameAt}
use Rattle.vale_syntax.specs.declared.tree.BinaryOp.{BinaryOp}
use Rattle.vale_syntax.specs.declared.tree.UnaryOp.{UnaryOp}
use Rattle.vale_syntax.specs.Tree.{TypeExpr, int_type, bool_type, str_type, named_type, array_type, ref_type, imm_ref_type, iso_type, Expr, set, chain, unary, steps, number, quote, truth, name, call, paren, array, iso, form, Exprs, no_exprs, more_exprs, Link, link, Links, no_links, more_links, Step, field, method, index, Steps, no_steps, more_steps, Form, branch, pure, parallel_range, parallel_each, ElseIf, else_if, Elses, more_elses, Block, block}
use Rattle.vale_syntax.specs.Grammar.{Part, token, one, sign, word, ◌▸◌, deeper, primary, postfix, operand, comparison, whole, rank, binary_kind, unary_kind, truth_kind, HasLinks, HasSteps, named, IsType, IsExpr, AreArgs, AreMoreArgs, IsLink, AreLinks, IsStep, AreSteps, IsForm, IsElseIf, AreElses, IsBlock, AreStmts}
use Rattle.vale_syntax.specs.View.{else_end}
use Rattle.vale_reading.specs.declared.stop.Turn.TheVariants.{More, End}
use Rattle.vale_reading.specs.Steps.{Read, Reader, begins, begins_word, turns_at, enough, faulty}
use Rattle.vale_reading.specs.Reading.{binary_op, height, of_height, link_op, chained, stepped, Inner, inside, ref_type_at, array_type_at, iso_type_at, type_at, block_at, else_turn, elses_at, branch_at, bound_at, parallel_at, pure_at, form_at, arguments_at, called_at, paren_at, array_at, iso_at, primary_at, member_at, index_at, step_by, step_turn, steps_at, postfix_at, unary_at, link_turn, no_more, links_at, level_at, set_at, whole_at, args_at}
use Rattle.vale_reading_laws.proofs.StepLaws.{sign_again, word_again, name_again}
use Rattle.vale_reading_laws.proofs.Shorter.{shorter, shorter_link, shorter_step, shorter_else_if}
use Rattle.vale_reading_laws.proofs.Firsts.{sticks, Above, Stops, NoParen, NoElse, Apart, Before, Any, Apart-stops, Stops-less, Stops-sign, binary_again, sticks_binary, unary_again, starts_no_close, chain_rank, first, type_no_imm, block_stops, block_no_if, block_no_dots}
use Rattle.vale_reading_laws.proofs.Operators.{rank_is}
use Rattle.vale_reading_laws.proofs.AgainSteps.{Again, begins_again, begins_word_again, exprs_listed, links_listed, steps_listed, elses_listed, turns_again, commas_again}

-- ---- operators

eqb_same : (n : ℕ) → eqb n n ≡ true
eqb_same n = eq-eqb n n refl

link_op_of : (n : ℕ) (op : BinaryOp) → rank op ≡ suc (suc n) → link_op n (binary_kind op) ≡ Some op
unfolding link_op
link_op_of n op e =
    let is : height op ≡ n = omega (arith, e, rank_is op) in
    rw (binary_again op, is, eqb_same n) refl

of_height_above : (n : ℕ) (o : Option BinaryOp) → Above (suc (suc n)) o → of_height n o ≡ None
of_height_above n None h = refl
of_height_above n (Some op) h = rw (ne_eqb (height op) n (λ e. omega (arith, h, e, rank_is op))) refl

link_op_none : (n : ℕ) (kind : TokenKind) → Above (suc (suc n)) (binary_op kind) → link_op n kind ≡ None
unfolding link_op
link_op_none n kind h = of_height_above n (binary_op kind) h

-- what has no rank of its own
abbrev Primary : Expr → Type 0
Primary (set at p e) = ⊥
Primary (chain e ls) = ⊥
Primary (unary at op e) = ⊥
Primary (steps e ps) = ⊥
Primary _ = Unit {0}

module _ (names : List (List ℕ)) where
  pub record InnerAgain (d : ℕ) (i : Inner) : Type 0 where
    pub type_expr : Again i.type_expr (IsType names d) Any
    pub place : Again i.place (IsExpr names postfix d) (Stops postfix)
    pub operand : Again i.operand (IsExpr names operand d) (Stops operand)
    pub whole : Again i.whole (IsExpr names whole d) (Stops whole)
    pub args : Again i.args (AreArgs names d) (Before s.CloseParen)
    pub stmts : Again i.stmts (AreStmts names d) (Before s.CloseBrace)

  abbrev pub Full : ℕ → Option Inner → Type 0
  Full zero None = Unit {0}
  Full zero (Some i) = ⊥
  Full (suc d) None = ⊥
  Full (suc d) (Some i) = InnerAgain d i

  pub opening : {A : Type 0} {y : Read A} (here : List Token) (f : Inner → Read A) (d : ℕ) (o : Option Inner) → Full d o → (p : ℕ → Part) (ts rest : List Token) → deeper d p ts rest → ((l : ℕ) (i : Inner) → InnerAgain l i → p l ts rest → f i ≡ y) → inside o here f ≡ y
  opening here f zero o full p ts rest h g = absurd h
  opening here f (suc d) None full p ts rest h g = absurd full
  opening here f (suc d) (Some i) full p ts rest h g = g d i full h

  module _ (d : ℕ) (o : Option Inner) (full : Full d o) where
    -- ---- types

    array_type_again : (at : Spot) (x : TypeExpr) (ts rest : List Token) → IsType names d (array_type at x) ts rest → array_type_at names o ts ≡ Ok (array_type at x, rest)
    unfolding array_type_at
    array_type_again at x ts rest (m, h, g) = rw (sign_again s.OpenBracket at ts m h) (opening _ _ d o full (λ d. sign s.CloseBracket ▸ IsType names d x) m rest g
        (λ l i law (m2, (at2, h2), h3). rw (sign_again s.CloseBracket at2 m m2 h2, law.type_expr x m2 rest h3 tt) refl))

    ref_type_again : (at : Spot) (x : TypeExpr) (ts rest : List Token) → IsType names d (ref_type at x) ts rest → ref_type_at names o ts ≡ Ok (ref_type at x, rest)
    unfolding ref_type_at
    ref_type_again at x ts rest (m, h, g) = rw (sign_again s.Ampersand at ts m h) (opening _ _ d o full (λ d. IsType names d x) m rest g
        (λ l i law h2. rw (type_no_imm names l x m rest h2, law.type_expr x m rest h2 tt) refl))

    imm_ref_type_again : (at : Spot) (x : TypeExpr) (ts rest : List Token) → IsType names d (imm_ref_type at x) ts rest → ref_type_at names o ts ≡ Ok (imm_ref_type at x, rest)
    unfolding ref_type_at
    imm_ref_type_again at x ts rest (m, h, g) = rw (sign_again s.Ampersand at ts m h) (opening _ _ d o full (λ d. word w.Imm ▸ IsType names d x) m rest g
        (λ l i law (m2, (at2, h2), h3). rw (begins_word_again w.Imm at2 m m2 h2, word_again w.Imm at2 m m2 h2, law.type_expr x m2 rest h3 tt) refl))

    iso_type_again : (at : Spot) (x : TypeExpr) (ts rest : List Token) → IsType names d (iso_type at x) ts rest → iso_type_at names o ts ≡ Ok (iso_type at x, rest)
    unfolding iso_type_at
    iso_type_again at x ts rest (m, h, g) = rw (word_again w.Iso at ts m h) (opening _ _ d o full (λ d. IsType names d x) m rest g
        (λ l i law h2. rw (law.type_expr x m rest h2 tt) refl))

    pub type_again : Again (type_at names o) (IsType names d) Any
    unfolding type_at
    type_again (int_type at) ts rest h q = rw h refl
    type_again (bool_type at) ts rest h q = rw h refl
    type_again (str_type at) ts rest h q = rw h refl
    type_again (named_type n) ts rest (text, is, h) q = rw (h, name_again names n (token (k.Name text) n.at ∷ rest) rest (text, is, refl)) refl
    type_again (array_type at x) ts rest (m, h, g) q = rw h (array_type_again at x (token (k.Sign s.OpenBracket) at ∷ m) rest (m, refl, g))
    type_again (ref_type at x) ts rest (m, h, g) q = rw h (ref_type_again at x (token (k.Sign s.Ampersand) at ∷ m) rest (m, refl, g))
    type_again (imm_ref_type at x) ts rest (m, h, g) q = rw h (imm_ref_type_again at x (token (k.Sign s.Ampersand) at ∷ m) rest (m, refl, g))
    type_again (iso_type at x) ts rest (m, h, g) q = rw h (iso_type_again at x (token (k.Word w.Iso) at ∷ m) rest (m, refl, g))

    -- ---- blocks and forms

    pub block_again : Again (block_at names o) (IsBlock names d) Any
    unfolding block_at
    block_again (block at end xs) ts rest (m, h, (m2, g, h2)) q = rw (sign_again s.OpenBrace at ts m h) (opening _ _ d o full (λ d. AreStmts names d xs) m m2 g
        (λ l i law p. rw (law.stmts xs m m2 p (rest, (end, h2)), sign_again s.CloseBrace end m2 rest h2) refl))

    else_adds : (x : ElseIf) (es : Elses) (ts mid rest : List Token) → IsElseIf names d x ts mid → AreElses names d es mid rest → NoElse rest → else_turn names o ts ≡ Ok (More x, mid)
    unfolding else_turn
    else_adds (else_if at c b) es ts mid rest (m, (at0, h0), (m2, h, (m3, g, h2))) h3 q =
        rw (begins_word_again w.Else at0 ts m h0, word_again w.Else at0 ts m h0, begins_word_again w.If at m m2 h, word_again w.If at m m2 h) (opening _ _ d o full (λ d. IsExpr names whole d c) m2 m3 g
        (λ l i law p. rw (law.whole c m2 m3 p (block_stops names whole d b m3 mid h2), block_again b m3 mid h2 tt) refl))

    else_ends : (b : Option Block) (ts rest : List Token) → AreElses names d (else_end b) ts rest → NoElse rest → else_turn names o ts ≡ Ok (End b, rest)
    unfolding else_turn
    else_ends None ts rest h q = rw (h, q) refl
    else_ends (Some b) ts rest (m, (at, h), g) q = rw (begins_word_again w.Else at ts m h, word_again w.Else at ts m h, block_no_if names d b m rest g, block_again b m rest g tt) refl

    elses_again : Again (elses_at names o) (AreElses names d) NoElse
    unfolding elses_at
    elses_again es ts rest h q =
        let l = elses_listed es in
        let less : length ts < enough ts = omega arith in
        rw (l.2) (turns_again (else_turn names o) more_elses else_end faulty (IsElseIf names d) (AreElses names d) NoElse
        (λ x l ts rest h. h) (λ x ts mid h. shorter_else_if names d x ts mid h) else_adds else_ends (enough ts) l.0 l.1 ts rest less (subst (λ (z : Elses). AreElses names d z ts rest) l.2 h) q)

    branch_again : (at : Spot) (c : Expr) (b : Block) (es : Elses) (ts rest : List Token) → IsForm names d (branch at c b es) ts rest → NoElse rest → branch_at names o ts ≡ Ok (branch at c b es, rest)
    unfolding branch_at
    branch_again at c b es ts rest (m, h, (m2, g, (m3, h2, h3))) q = rw (word_again w.If at ts m h) (opening _ _ d o full (λ d. IsExpr names whole d c) m m2 g
        (λ l i law p. rw (law.whole c m m2 p (block_stops names whole d b m2 m3 h2), block_again b m2 m3 h2 tt, elses_again es m3 rest h3 q) refl))

    pure_again : (at : Spot) (b : Block) (ts rest : List Token) → IsForm names d (pure at b) ts rest → pure_at names o ts ≡ Ok (pure at b, rest)
    pure_again at b ts rest (m, h, g) = rw (word_again w.Pure at ts m h, block_again b m rest g tt) refl

    range_again : (at : Spot) (n : NameAt) (a e : Expr) (b : Block) (ts rest : List Token) → IsForm names d (parallel_range at n a e b) ts rest → parallel_at names o ts ≡ Ok (parallel_range at n a e b, rest)
    unfolding parallel_at bound_at
    range_again at n a e b ts rest (m, h, (m2, g, h2)) =
        rw (word_again w.Parallel at ts m h) (opening _ _ d o full (λ d. word w.Foreach ▸ named names n ▸ word w.In ▸ IsExpr names whole d a ▸ sign s.DotDot ▸ IsExpr names whole d e) m m2 g
        (λ l i law (i0, (at0, j0), (i1, j1, (i2, (at2, j2), (i3, j3, (i4, (at4, j4), j5))))).
        rw (word_again w.Foreach at0 m i0 j0, name_again names n i0 i1 j1, word_again w.In at2 i1 i2 j2, law.whole a i2 i3 j3 (Stops-sign whole s.DotDot i3 i4 refl refl (at4, j4)), begins_again s.DotDot at4 i3 i4 j4, sign_again s.DotDot at4 i3 i4 j4, law.whole e i4 m2 j5 (block_stops names whole d b m2 rest h2), block_again b m2 rest h2 tt) refl))

    each_again : (at : Spot) (n : NameAt) (e : Expr) (b : Block) (ts rest : List Token) → IsForm names d (parallel_each at n e b) ts rest → parallel_at names o ts ≡ Ok (parallel_each at n e b, rest)
    unfolding parallel_at bound_at
    each_again at n e b ts rest (m, h, (m2, g, h2)) =
        rw (word_again w.Parallel at ts m h) (opening _ _ d o full (λ d. word w.Foreach ▸ named names n ▸ word w.In ▸ IsExpr names whole d e) m m2 g
        (λ l i law (i0, (at0, j0), (i1, j1, (i2, (at2, j2), j3))).
        rw (word_again w.Foreach at0 m i0 j0, name_again names n i0 i1 j1, word_again w.In at2 i1 i2 j2, law.whole e i2 m2 j3 (block_stops names whole d b m2 rest h2), block_no_dots names d b m2 rest h2, block_again b m2 rest h2 tt) refl))

    pub form_again : Again (form_at names o) (IsForm names d) NoElse
    unfolding form_at
    form_again (branch at c b es) ts rest (m, h, g) q = rw h (branch_again at c b es (token (k.Word w.If) at ∷ m) rest (m, refl, g) q)
    form_again (pure at b) ts rest (m, h, g) q = rw h (pure_again at b (token (k.Word w.Pure) at ∷ m) rest (m, refl, g))
    form_again (parallel_range at n a e b) ts rest (m, h, g) q = rw h (range_again at n a e b (token (k.Word w.Parallel) at ∷ m) rest (m, refl, g))
    form_again (parallel_each at n e b) ts rest (m, h, g) q = rw h (each_again at n e b (token (k.Word w.Parallel) at ∷ m) rest (m, refl, g))

    -- ---- operands

    arguments_again : (es : Exprs) (ts rest : List Token) → (sign s.OpenParen ▸ deeper d (λ d. AreArgs names d es) ▸ sign s.CloseParen) ts rest → arguments_at names o ts ≡ Ok (es, rest)
    unfolding arguments_at
    arguments_again es ts rest (m, (at, h), (m2, g, (at2, h2))) = rw (sign_again s.OpenParen at ts m h) (opening _ _ d o full (λ d. AreArgs names d es) m m2 g
        (λ l i law p. rw (law.args es m m2 p (rest, (at2, h2)), sign_again s.CloseParen at2 m2 rest h2) refl))

    name_plain : (n : NameAt) (ts rest : List Token) → named names n ts rest → NoParen rest → called_at names o ts ≡ Ok (name n, rest)
    unfolding called_at
    name_plain n ts rest h q = rw (name_again names n ts rest h, q) refl

    name_called : (n : NameAt) (es : Exprs) (ts m rest : List Token) → named names n ts m → (sign s.OpenParen ▸ deeper d (λ d. AreArgs names d es) ▸ sign s.CloseParen) m rest → called_at names o ts ≡ Ok (call n es, rest)
    unfolding called_at
    name_called n es ts m rest h (m2, (at2, h2), g) = rw (name_again names n ts m h, begins_again s.OpenParen at2 m m2 h2, arguments_again es m rest (m2, (at2, h2), g)) refl

    paren_again : (at : Spot) (e : Expr) (ts rest : List Token) → IsExpr names primary d (paren at e) ts rest → paren_at names o ts ≡ Ok (paren at e, rest)
    unfolding paren_at
    paren_again at e ts rest (m, h, (m2, g, (at2, h2))) = rw (sign_again s.OpenParen at ts m h) (opening _ _ d o full (λ d. IsExpr names whole d e) m m2 g
        (λ l i law p. rw (law.whole e m m2 p (Stops-sign whole s.CloseParen m2 rest refl refl (at2, h2)), sign_again s.CloseParen at2 m2 rest h2) refl))

    array_again : (at : Spot) (x : TypeExpr) (es : Exprs) (ts rest : List Token) → IsExpr names primary d (array at x es) ts rest → array_at names o ts ≡ Ok (array at x es, rest)
    unfolding array_at
    array_again at x es ts rest (m, h, (m2, g, h2)) = rw (sign_again s.OpenBracket at ts m h) (opening _ _ d o full (λ d. sign s.CloseBracket ▸ IsType names d x) m m2 g
        (λ l i law (m3, (at3, h3), h4). rw (sign_again s.CloseBracket at3 m m3 h3, law.type_expr x m3 m2 h4 tt, arguments_again es m2 rest h2) refl))

    iso_again : (at : Spot) (b : Block) (ts rest : List Token) → IsExpr names primary d (iso at b) ts rest → iso_at names o ts ≡ Ok (iso at b, rest)
    iso_again at b ts rest (m, h, g) = rw (word_again w.Iso at ts m h, block_again b m rest g tt) refl

    truth_again : (b : Bool) (at : Spot) (ts rest : List Token) → one (truth_kind b) at ts rest → primary_at names o ts ≡ Ok (truth at b, rest)
    unfolding primary_at
    truth_again true at ts rest h = rw h refl
    truth_again false at ts rest h = rw h refl

    primary_form : (f : Form) (ts rest : List Token) → IsForm names d f ts rest → NoElse rest → primary_at names o ts ≡ Ok (form f, rest)
    unfolding primary_at
    primary_form (branch at c b es) ts rest (m, h, g) q = rw (h, form_again (branch at c b es) (token (k.Word w.If) at ∷ m) rest (m, refl, g) q) refl
    primary_form (pure at b) ts rest (m, h, g) q = rw (h, form_again (pure at b) (token (k.Word w.Pure) at ∷ m) rest (m, refl, g) q) refl
    primary_form (parallel_range at n a e b) ts rest (m, h, g) q = rw (h, form_again (parallel_range at n a e b) (token (k.Word w.Parallel) at ∷ m) rest (m, refl, g) q) refl
    primary_form (parallel_each at n e b) ts rest (m, h, g) q = rw (h, form_again (parallel_each at n e b) (token (k.Word w.Parallel) at ∷ m) rest (m, refl, g) q) refl

    primary_again : (r : ℕ) (e : Expr) (ts rest : List Token) → Primary e → IsExpr names r d e ts rest → Apart rest → primary_at names o ts ≡ Ok (e, rest)
    unfolding primary_at
    primary_again r (number at n) ts rest p h q = rw h refl
    primary_again r (quote at text) ts rest p h q = rw h refl
    primary_again r (truth at b) ts rest p h q = truth_again b at ts rest h
    primary_again r (name n) ts rest p (text, is, h) q = rw h (name_plain n (token (k.Name text) n.at ∷ rest) rest (text, is, refl) q.0)
    primary_again r (call n es) ts rest p (m, (text, is, h), g) q = rw h (name_called n es (token (k.Name text) n.at ∷ m) m rest (text, is, refl) g)
    primary_again r (paren at e) ts rest p (m, h, g) q = rw h (paren_again at e (token (k.Sign s.OpenParen) at ∷ m) rest (m, refl, g))
    primary_again r (array at x es) ts rest p (m, h, g) q = rw h (array_again at x es (token (k.Sign s.OpenBracket) at ∷ m) rest (m, refl, g))
    primary_again r (iso at b) ts rest p (m, h, g) q = rw h (iso_again at b (token (k.Word w.Iso) at ∷ m) rest (m, refl, g))
    primary_again r (form f) ts rest p h q = primary_form f ts rest h q.1
    primary_again r (set at p2 e) ts rest p h q = absurd p
    primary_again r (chain e ls) ts rest p h q = absurd p
    primary_again r (unary at op e) ts rest p h q = absurd p
    primary_again r (steps e ps) ts rest p h q = absurd p

    -- ---- steps

    steps_front : (r : ℕ) (ps : Steps) (ts rest : List Token) → AreSteps names d ps ts rest → Stops r rest → Apart ts
    steps_front r no_steps ts rest h q = subst Apart (sym h) (Apart-stops r rest q)
    steps_front r (more_steps (field at n) ps) ts rest (m, (m2, h, g), g2) q = rw h (refl, refl)
    steps_front r (more_steps (method at n es) ps) ts rest (m, (m2, h, g), g2) q = rw h (refl, refl)
    steps_front r (more_steps (index at e) ps) ts rest (m, (m2, h, g), g2) q = rw h (refl, refl)

    member_plain : (at at2 : Spot) (n : NameAt) (ts m mid : List Token) → one (k.Sign s.Dot) at ts m → named names n m mid → NoParen mid → member_at names o ts ≡ Ok (More (field at n.name), mid)
    unfolding member_at
    member_plain at at2 n ts m mid h g q = rw (sign_again s.Dot at ts m h, name_again names n m mid g, q) refl

    member_called : (at : Spot) (n : NameAt) (es : Exprs) (ts m m2 mid : List Token) → one (k.Sign s.Dot) at ts m → named names n m m2 → (sign s.OpenParen ▸ deeper d (λ d. AreArgs names d es) ▸ sign s.CloseParen) m2 mid → member_at names o ts ≡ Ok (More (method at n.name es), mid)
    unfolding member_at
    member_called at n es ts m m2 mid h g (m3, (at3, h3), h4) = rw (sign_again s.Dot at ts m h, name_again names n m m2 g, begins_again s.OpenParen at3 m2 m3 h3, arguments_again es m2 mid (m3, (at3, h3), h4)) refl

    index_again : (at : Spot) (e : Expr) (ts mid : List Token) → IsStep names d (index at e) ts mid → index_at names o ts ≡ Ok (More (index at e), mid)
    unfolding index_at
    index_again at e ts mid (m, h, (m2, g, (at2, h2))) = rw (sign_again s.OpenBracket at ts m h) (opening _ _ d o full (λ d. IsExpr names whole d e) m m2 g
        (λ l i law p. rw (law.whole e m m2 p (Stops-sign whole s.CloseBracket m2 mid refl refl (at2, h2)), sign_again s.CloseBracket at2 m2 mid h2) refl))

    step_adds : (p : Step) (ps : Steps) (ts mid rest : List Token) → IsStep names d p ts mid → AreSteps names d ps mid rest → Stops postfix rest → step_turn names o ts ≡ Ok (More p, mid)
    unfolding step_turn
    step_adds (field at n) ps ts mid rest (m, h, (at2, g)) g2 q = rw h (member_plain at at2 (record { name = n; at = at2 }) (token (k.Sign s.Dot) at ∷ m) m mid refl g (steps_front postfix ps mid rest g2 q).0)
    step_adds (method at n es) ps ts mid rest (m, h, (m2, (at2, g), h2)) g2 q = rw h (member_called at (record { name = n; at = at2 }) es (token (k.Sign s.Dot) at ∷ m) m m2 mid refl g h2)
    step_adds (index at e) ps ts mid rest (m, h, g) g2 q = rw h (index_again at e (token (k.Sign s.OpenBracket) at ∷ m) mid (m, refl, g))

    step_stops : (t : Token) (ts : List Token) (kind : TokenKind) → sticks kind ≡ false → step_by names o t ts kind ≡ Ok (End tt, t ∷ ts)
    step_stops t ts (k.Sign s.Dot) e = absurd cc
    step_stops t ts (k.Sign s.OpenBracket) e = absurd cc
    step_stops t ts _ e = refl

    step_ends_at : (ts : List Token) → Stops postfix ts → step_turn names o ts ≡ Ok (End tt, ts)
    unfolding step_turn
    step_ends_at [] q = refl
    step_ends_at (t ∷ ts) q = step_stops t ts t.kind q.0

    step_ends : (e : Unit {0}) (ts rest : List Token) → ts ≡ rest → Stops postfix rest → step_turn names o ts ≡ Ok (End e, rest)
    step_ends e ts rest h q = rw h (step_ends_at rest q)

    steps_again : Again (steps_at names o) (AreSteps names d) (Stops postfix)
    unfolding steps_at
    steps_again ps ts rest h q =
        let l = steps_listed ps in
        let less : length ts < enough ts = omega arith in
        rw (l.1) (turns_again (step_turn names o) more_steps (λ _. no_steps) faulty (IsStep names d) (AreSteps names d) (Stops postfix)
        (λ x l ts rest h. h) (λ x ts mid h. shorter_step names d x ts mid h) step_adds step_ends (enough ts) l.0 tt ts rest less (subst (λ (z : Steps). AreSteps names d z ts rest) l.1 h) q)

    bare_again : (r : ℕ) (e : Expr) (ts rest : List Token) → Primary e → IsExpr names r d e ts rest → Stops postfix rest → postfix_at names o ts ≡ Ok (e, rest)
    unfolding postfix_at
    bare_again r e ts rest p h q = rw (primary_again r e ts rest p h (Apart-stops postfix rest q), steps_again no_steps rest rest refl q) refl

    is_primary : (e : Expr) (ts rest : List Token) → IsExpr names primary d e ts rest → Primary e
    is_primary (set at p e) ts rest (le, h) = absurd (omega (arith, le))
    is_primary (chain e ls) ts rest (below, lt, has, h) = absurd (omega (arith, lt))
    is_primary (unary at op e) ts rest (le, h) = absurd (omega (arith, le))
    is_primary (steps e ps) ts rest (le, h) = absurd (omega (arith, le.0))
    is_primary (number at n) ts rest h = tt
    is_primary (quote at n) ts rest h = tt
    is_primary (truth at n) ts rest h = tt
    is_primary (name n) ts rest h = tt
    is_primary (call n es) ts rest h = tt
    is_primary (paren at e) ts rest h = tt
    is_primary (array at x es) ts rest h = tt
    is_primary (iso at b) ts rest h = tt
    is_primary (form f) ts rest h = tt

    stepped_is : (e : Expr) (ps : Steps) → HasSteps ps → stepped e ps ≡ steps e ps
    stepped_is e no_steps h = absurd h
    stepped_is e (more_steps p ps) h = refl

    stepped_again : (e : Expr) (ps : Steps) (ts m rest : List Token) → HasSteps ps → IsExpr names primary d e ts m → AreSteps names d ps m rest → Stops postfix rest → postfix_at names o ts ≡ Ok (steps e ps, rest)
    unfolding postfix_at
    stepped_again e ps ts m rest has h g q = rw (primary_again primary e ts m (is_primary e ts m h) h (steps_front postfix ps m rest g q), steps_again ps m rest g q, stepped_is e ps has) refl

    -- an expression of a low rank with steps or without
    postfix_by : (r : ℕ) (e : Expr) (ts rest : List Token) → r < operand → IsExpr names r d e ts rest → Stops postfix rest → postfix_at names o ts ≡ Ok (e, rest)
    postfix_by r (set at p e) ts rest lt (le, h) q = absurd (omega (arith, lt, le))
    postfix_by r (chain e ls) ts rest lt (below, lt2, has, (m, h, g)) q = absurd (let c = chain_rank names below d ls m rest has g in omega (arith, lt, lt2, c.0))
    postfix_by r (unary at op e) ts rest lt (le, h) q = absurd (omega (arith, lt, le))
    postfix_by r (steps e ps) ts rest lt (le, (m, h, g)) q = stepped_again e ps ts m rest le.1 h g q
    postfix_by r (number at n) ts rest lt h q = bare_again r (number at n) ts rest tt h q
    postfix_by r (quote at n) ts rest lt h q = bare_again r (quote at n) ts rest tt h q
    postfix_by r (truth at n) ts rest lt h q = bare_again r (truth at n) ts rest tt h q
    postfix_by r (name n) ts rest lt h q = bare_again r (name n) ts rest tt h q
    postfix_by r (call n es) ts rest lt h q = bare_again r (call n es) ts rest tt h q
    postfix_by r (paren at e) ts rest lt h q = bare_again r (paren at e) ts rest tt h q
    postfix_by r (array at x es) ts rest lt h q = bare_again r (array at x es) ts rest tt h q
    postfix_by r (iso at b) ts rest lt h q = bare_again r (iso at b) ts rest tt h q
    postfix_by r (form f) ts rest lt h q = bare_again r (form f) ts rest tt h q

    pub postfix_again : Again (postfix_at names o) (IsExpr names postfix d) (Stops postfix)
    postfix_again e ts rest h q = let lt : postfix < operand = omega arith in postfix_by postfix e ts rest lt h q

    -- ---- operators

    unary_other : (e : Expr) (ts rest : List Token) → IsExpr names postfix d e ts rest → Stops postfix rest → unary_at names o ts ≡ Ok (e, rest)
    unfolding unary_at
    unary_other e ts rest h q =
        let f = first names postfix d e ts rest h in
        let lt : postfix < operand = omega arith in
        rw (f.is, f.no_unary lt) (subst (λ (z : List Token). postfix_at names o z ≡ Ok (e, rest)) f.is (postfix_again e ts rest h q))

    unary_prefix : (at : Spot) (op : UnaryOp) (e : Expr) (ts m rest : List Token) → ts ≡ token (unary_kind op) at ∷ m → deeper d (λ d. IsExpr names operand d e) m rest → Stops operand rest → unary_at names o ts ≡ Ok (unary at op e, rest)
    unfolding unary_at
    unary_prefix at op e ts m rest h g q = rw (h, unary_again op) (opening _ _ d o full (λ d. IsExpr names operand d e) m rest g (λ l i law p. rw (law.operand e m rest p q) refl))

    pub unary_all : Again (unary_at names o) (IsExpr names operand d) (Stops operand)
    unary_all (set at p e) ts rest (le, h) q = absurd (omega (arith, le))
    unary_all (chain e ls) ts rest (below, lt, has, (m, h, g)) q = absurd (let c = chain_rank names below d ls m rest has g in omega (arith, lt, c.0))
    unary_all (unary at op e) ts rest (le, (m, h, g)) q = unary_prefix at op e ts m rest h g q
    unary_all (steps e ps) ts rest (le, h) q = let less : postfix ≤ postfix = omega arith in let fits : postfix ≤ operand = omega arith in unary_other (steps e ps) ts rest ((less, le.1), h) (Stops-less postfix operand rest fits q)
    unary_all (number at n) ts rest h q = let fits : postfix ≤ operand = omega arith in unary_other (number at n) ts rest h (Stops-less postfix operand rest fits q)
    unary_all (quote at n) ts rest h q = let fits : postfix ≤ operand = omega arith in unary_other (quote at n) ts rest h (Stops-less postfix operand rest fits q)
    unary_all (truth at n) ts rest h q = let fits : postfix ≤ operand = omega arith in unary_other (truth at n) ts rest h (Stops-less postfix operand rest fits q)
    unary_all (name n) ts rest h q = let fits : postfix ≤ operand = omega arith in unary_other (name n) ts rest h (Stops-less postfix operand rest fits q)
    unary_all (call n es) ts rest h q = let fits : postfix ≤ operand = omega arith in unary_other (call n es) ts rest h (Stops-less postfix operand rest fits q)
    unary_all (paren at e) ts rest h q = let fits : postfix ≤ operand = omega arith in unary_other (paren at e) ts rest h (Stops-less postfix operand rest fits q)
    unary_all (array at x es) ts rest h q = let fits : postfix ≤ operand = omega arith in unary_other (array at x es) ts rest h (Stops-less postfix operand rest fits q)
    unary_all (iso at b) ts rest h q = let fits : postfix ≤ operand = omega arith in unary_other (iso at b) ts rest h (Stops-less postfix operand rest fits q)
    unary_all (form f) ts rest h q = let fits : postfix ≤ operand = omega arith in unary_other (form f) ts rest h (Stops-less postfix operand rest fits q)

    module _ (n : ℕ) (p : Reader Expr) (law : Again p (IsExpr names (suc (suc n)) d) (Stops (suc (suc n)))) where
      links_front : (ls : Links) (ts rest : List Token) → AreLinks names (suc (suc n)) d ls ts rest → Stops (suc (suc (suc n))) rest → Stops (suc (suc n)) ts
      links_front no_links ts rest h q = let le : suc (suc n) ≤ suc (suc (suc n)) = omega arith in subst (Stops (suc (suc n))) (sym h) (Stops-less (suc (suc n)) (suc (suc (suc n))) rest le q)
      links_front (more_links (link at op e) ls) ts rest (m, (is, (m2, h, g)), g2) q = rw h (sticks_binary op, rw (binary_again op) (omega (arith, is)))

      link_adds : (l : Link) (ls : Links) (ts mid rest : List Token) → IsLink names (suc (suc n)) d l ts mid → AreLinks names (suc (suc n)) d ls mid rest → Stops (suc (suc (suc n))) rest → link_turn p (suc n) ts ≡ Ok (More l, mid)
      unfolding link_turn
      link_adds (link at op e) ls ts mid rest (is, (m, h, g)) g2 q = rw (h, link_op_of (suc n) op is, law e m mid g (links_front ls mid rest g2 q)) refl

      link_ends_at : (ts : List Token) → Stops (suc (suc (suc n))) ts → link_turn p (suc n) ts ≡ Ok (End tt, ts)
      unfolding link_turn
      link_ends_at [] q = refl
      link_ends_at (t ∷ ts) q = rw (link_op_none (suc n) t.kind q.1) refl

      link_ends : (e : Unit {0}) (ts rest : List Token) → ts ≡ rest → Stops (suc (suc (suc n))) rest → link_turn p (suc n) ts ≡ Ok (End e, rest)
      link_ends e ts rest h q = rw h (link_ends_at rest q)

      many_again : (ls : Links) (ts rest : List Token) → AreLinks names (suc (suc n)) d ls ts rest → Stops (suc (suc (suc n))) rest → turns_at (link_turn p (suc n)) more_links (λ _. no_links) no_more (enough ts) ts ≡ Ok (ls, rest)
      many_again ls ts rest h q =
          let l = links_listed ls in
          let less : length ts < enough ts = omega arith in
          rw (l.1) (turns_again (link_turn p (suc n)) more_links (λ _. no_links) no_more (IsLink names (suc (suc n)) d) (AreLinks names (suc (suc n)) d) (Stops (suc (suc (suc n))))
          (λ x l ts rest h. h) (λ x ts mid h. shorter_link names (suc (suc n)) d x ts mid h) link_adds link_ends (enough ts) l.0 tt ts rest less (subst (λ (z : Links). AreLinks names (suc (suc n)) d z ts rest) l.1 h) q)

      -- at most one link
      abbrev AtMostOne : Links → Type 0
      AtMostOne no_links = Unit {0}
      AtMostOne (more_links l ls) = ls ≡ no_links

      one_again : (ls : Links) (ts rest : List Token) → AtMostOne ls → AreLinks names (suc (suc n)) d ls ts rest → Stops (suc (suc (suc n))) rest → turns_at (link_turn p (suc n)) more_links (λ _. no_links) no_more 1 ts ≡ Ok (ls, rest)
      unfolding turns_at
      one_again no_links ts rest one h q = rw (link_ends tt ts rest h q) refl
      one_again (more_links l ls) ts rest one (m, h, g) q =
          let same : m ≡ rest = subst (λ (z : Links). AreLinks names (suc (suc n)) d z m rest) one g in
          rw (link_adds l ls ts m rest h g q, one, same) refl

      links_again : (ls : Links) (ts rest : List Token) → (suc n ≡ 3 → AtMostOne ls) → AreLinks names (suc (suc n)) d ls ts rest → Stops (suc (suc (suc n))) rest → links_at p (suc n) ts ≡ Ok (ls, rest)
      unfolding links_at
      links_again ls ts rest one h q = elim (eqb_tells (suc n) 3) [
        | inl e ↦ rw e.0 (one_again ls ts rest (one e.1) h q)
        | inr e ↦ rw e.0 (many_again ls ts rest h q)
      ]

      has_one : (ls : Links) → HasLinks (suc (suc (suc n))) ls → suc n ≡ 3 → AtMostOne ls
      has_one no_links has e = absurd has
      has_one (more_links l ls) has e = has (let five : suc (suc (suc n)) ≡ comparison = omega (arith, e) in five)

      chained_is : (e : Expr) (ls : Links) → HasLinks (suc (suc (suc n))) ls → chained e ls ≡ chain e ls
      chained_is e no_links has = absurd has
      chained_is e (more_links l ls) has = refl

    module _ (n : ℕ) (law : Again (level_at names o n) (IsExpr names (suc (suc n)) d) (Stops (suc (suc n)))) where
      level_plain : (e : Expr) (ts rest : List Token) → IsExpr names (suc (suc n)) d e ts rest → Stops (suc (suc (suc n))) rest → level_at names o (suc n) ts ≡ Ok (e, rest)
      unfolding level_at
      level_plain e ts rest h q =
          let le : suc (suc n) ≤ suc (suc (suc n)) = omega arith in
          rw (law e ts rest h (Stops-less (suc (suc n)) (suc (suc (suc n))) rest le q), links_again n (level_at names o n) law no_links rest rest (λ _. tt) refl q) refl

      level_chain : (e : Expr) (ls : Links) (ts m rest : List Token) → HasLinks (suc (suc (suc n))) ls → IsExpr names (suc (suc n)) d e ts m → AreLinks names (suc (suc n)) d ls m rest → Stops (suc (suc (suc n))) rest → level_at names o (suc n) ts ≡ Ok (chain e ls, rest)
      unfolding level_at
      level_chain e ls ts m rest has h g q =
          rw (law e ts m h (links_front n (level_at names o n) law ls m rest g q), links_again n (level_at names o n) law ls m rest (has_one n (level_at names o n) law ls has) g q, chained_is n (level_at names o n) law e ls has) refl

      -- below the rank of a whole expression, a tighter one or a chain of this rank
      level_more : suc (suc (suc n)) < whole → Again (level_at names o (suc n)) (IsExpr names (suc (suc (suc n))) d) (Stops (suc (suc (suc n))))
      level_more lt (set at p e) ts rest (le, h) q = absurd (omega (arith, le, lt))
      level_more lt (chain e ls) ts rest (below, lt2, has, (m, h, g)) q = elim (cases_lt below (suc (suc n))) [
        | inl less ↦ level_plain (chain e ls) ts rest (below, less, has, (m, h, g)) q
        | inr le ↦ (let is : below ≡ suc (suc n) = omega (arith, lt2, le) in
            level_chain e ls ts m rest (subst (λ (z : ℕ). HasLinks (suc z) ls) is has) (subst (λ (z : ℕ). IsExpr names z d e ts m) is h) (subst (λ (z : ℕ). AreLinks names z d ls m rest) is g) q)
      ]
      level_more lt (unary at op e) ts rest (le, h) q = let fits : operand ≤ suc (suc n) = omega arith in level_plain (unary at op e) ts rest (fits, h) q
      level_more lt (steps e ps) ts rest (le, h) q = let fits : postfix ≤ suc (suc n) = omega arith in level_plain (steps e ps) ts rest ((fits, le.1), h) q
      level_more lt (number at x) ts rest h q = level_plain (number at x) ts rest h q
      level_more lt (quote at x) ts rest h q = level_plain (quote at x) ts rest h q
      level_more lt (truth at x) ts rest h q = level_plain (truth at x) ts rest h q
      level_more lt (name x) ts rest h q = level_plain (name x) ts rest h q
      level_more lt (call x es) ts rest h q = level_plain (call x es) ts rest h q
      level_more lt (paren at e) ts rest h q = level_plain (paren at e) ts rest h q
      level_more lt (array at x es) ts rest h q = level_plain (array at x es) ts rest h q
      level_more lt (iso at b) ts rest h q = level_plain (iso at b) ts rest h q
      level_more lt (form f) ts rest h q = level_plain (form f) ts rest h q

    level_again : (n : ℕ) → suc (suc n) < whole → Again (level_at names o n) (IsExpr names (suc (suc n)) d) (Stops (suc (suc n)))
    unfolding level_at
    level_again zero lt e ts rest h q = unary_all e ts rest h q
    level_again (suc n) lt e ts rest h q = let less : suc (suc n) < whole = omega (arith, lt) in level_more n (level_again n less) lt e ts rest h q

    set_again : (at : Spot) (p e : Expr) (ts m rest : List Token) → one (k.Word w.Set) at ts m → deeper d (λ d. IsExpr names postfix d p ▸ sign s.Assign ▸ IsExpr names whole d e) m rest → Stops whole rest → whole_at names o ts ≡ Ok (set at p e, rest)
    unfolding whole_at set_at
    set_again at p e ts m rest h g q = rw (begins_word_again w.Set at ts m h, word_again w.Set at ts m h) (opening _ _ d o full (λ d. IsExpr names postfix d p ▸ sign s.Assign ▸ IsExpr names whole d e) m rest g
        (λ l i law (m2, h2, (m3, (at3, h3), h4)). rw (law.place p m m2 h2 (Stops-sign postfix s.Assign m2 m3 refl refl (at3, h3)), sign_again s.Assign at3 m2 m3 h3, law.whole e m3 rest h4 q) refl))

    -- an expression that is no `set`
    whole_other : (e : Expr) (ts rest : List Token) → IsExpr names (suc (suc 5)) d e ts rest → Stops whole rest → whole_at names o ts ≡ Ok (e, rest)
    unfolding whole_at
    whole_other e ts rest h q =
        let f = first names (suc (suc 5)) d e ts rest h in
        let lt : suc (suc 5) < whole = omega arith in
        let le : suc (suc 5) ≤ whole = omega arith in
        let plain : begins_word w.Set ts ≡ false = subst (λ (z : List Token). begins_word w.Set z ≡ false) (sym f.is) (f.no_set lt) in
        rw plain (level_again 5 lt e ts rest h (Stops-less (suc (suc 5)) whole rest le q))

    pub whole_again : Again (whole_at names o) (IsExpr names whole d) (Stops whole)
    whole_again (set at p e) ts rest (le, (m, h, g)) q = set_again at p e ts m rest h g q
    whole_again (chain e ls) ts rest (below, lt, has, (m, h, g)) q =
        let c = chain_rank names below d ls m rest has g in
        let less : below < suc (suc 5) = omega (arith, c.1) in
        whole_other (chain e ls) ts rest (below, less, has, (m, h, g)) q
    whole_again (unary at op e) ts rest (le, h) q = let fits : operand ≤ suc (suc 5) = omega arith in whole_other (unary at op e) ts rest (fits, h) q
    whole_again (steps e ps) ts rest (le, h) q = let fits : postfix ≤ suc (suc 5) = omega arith in whole_other (steps e ps) ts rest ((fits, le.1), h) q
    whole_again (number at x) ts rest h q = whole_other (number at x) ts rest h q
    whole_again (quote at x) ts rest h q = whole_other (quote at x) ts rest h q
    whole_again (truth at x) ts rest h q = whole_other (truth at x) ts rest h q
    whole_again (name x) ts rest h q = whole_other (name x) ts rest h q
    whole_again (call x es) ts rest h q = whole_other (call x es) ts rest h q
    whole_again (paren at e) ts rest h q = whole_other (paren at e) ts rest h q
    whole_again (array at x es) ts rest h q = whole_other (array at x es) ts rest h q
    whole_again (iso at b) ts rest h q = whole_other (iso at b) ts rest h q
    whole_again (form f) ts rest h q = whole_other (form f) ts rest h q

    expr_no_close : (e : Expr) (ts rest : List Token) → IsExpr names whole d e ts rest → begins s.CloseParen ts ≡ false
    expr_no_close e ts rest h = let f = first names whole d e ts rest h in subst (λ (z : List Token). begins s.CloseParen z ≡ false) (sym f.is) (starts_no_close f.t.kind f.starts)

    pub args_again : Again (args_at names o) (AreArgs names d) (Before s.CloseParen)
    unfolding args_at
    args_again es ts rest h q =
        let l = exprs_listed es in
        rw (l.1) (commas_again (whole_at names o) (IsExpr names whole d) (Stops whole) s.CloseParen more_exprs no_exprs (AreArgs names d) (AreMoreArgs names d)
        whole_again (λ x ts mid h. shorter names whole d x ts mid h) expr_no_close (λ ts rest h. Stops-sign whole s.Comma ts rest refl refl h) (λ ts rest h. Stops-sign whole s.CloseParen ts rest refl refl h) refl
        (λ ts rest h. h) (λ x l ts rest h. h) (λ ts rest h. h) (λ x l ts rest (m, h, (m2, h2, g)). (m2, (m, h, h2), g)) l.0 ts rest (subst (λ (z : Exprs). AreArgs names d z ts rest) l.1 h) q)
