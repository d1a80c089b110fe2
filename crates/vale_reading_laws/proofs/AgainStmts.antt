-- Statements that are in the grammar are read, and so is what stands at each level.
use Rattle.std.proofs.Common.{◌≡◌, ◌<◌, ℕ, zero, suc, Bool, true, false, List, [], ◌∷◌, length, Option, Some, None, Ok, refl, sym, ap, subst, ◌∙◌, arith}
use Rattle.vale_base.specs.declared.spot.Spot.{Spot}
use Rattle.vale_syntax.specs.declared.token.Token.{Token}
use Rattle.vale_syntax.specs.declared.token.TokenKind.{TokenKind}
use Rattle.vale_syntax.specs.declared.token.TokenKind.TheVariants as k
use Rattle.vale_syntax.specs.declared.token.Sign.TheVariants as s
use Rattle.vale_syntax.specs.declared.token.Word.TheVariants as w
use Rattle.vale_syntax.specs.declared.tree.NameAt.{NameAt}
use Rattle.vale_syntax.specs.Tree.{Expr, form, Form, branch, pure, parallel_range, parallel_each, Block, Stmt, declare, destructure, return_nothing, return_value, while, foreach, form_stmt, express, Stmts, more_stmts}
use Rattle.vale_syntax.specs.Grammar.{token, one, sign, ◌▸◌, each, with_commas, deeper, whole, begins_form, IsOfForm, alone, ends_stmt, goes_on, named, IsExpr, IsForm, AreStmts, IsStmt}
use Rattle.vale_syntax.specs.View.{last_end}
use Rattle.vale_reading.specs.declared.stop.Turn.{Turn}
use Rattle.vale_reading.specs.declared.stop.Turn.TheVariants.{More, End}
use Rattle.vale_reading.specs.Steps.{Read, is_sign, begins, name_at, enough, faulty}
use Rattle.vale_reading.specs.Reading.{Inner, is_name, after_bracket, form_end, after_form, after_plain, plain_at, declare_at, names_at, destructure_at, return_at, while_at, foreach_at, form_stmt_at, named_by, stmt_by, stmt_turn, stmts_at, within}
use Rattle.vale_reading_laws.proofs.StepLaws.{sign_again, word_again, name_again}
use Rattle.vale_reading_laws.proofs.Shorter.{goes_on_same, shorter_name, shorter_stmt}
use Rattle.vale_reading_laws.proofs.Firsts.{differs, heads, nil_not, Stops, NoElse, Before, Apart-stops, Stops-sign, starts, starts_no_semicolon, first, name_alone, bracket_plain, block_stops, stmts_no_else}
use Rattle.vale_reading_laws.proofs.AgainSteps.{Again, begins_again, stmts_listed, list_listed, turns_again, commas_again}
use Rattle.vale_reading_laws.proofs.Again.{Full, opening, type_again, block_again, form_again, postfix_again, unary_all, whole_again, args_again}

-- what an expression statement or a last expression ends with
abbrev Closes : List Token → Type 0
Closes [] = ⊥
Closes (t ∷ ts) = ends_stmt t.kind ≡ true

ends_no_assign : (kind : TokenKind) → ends_stmt kind ≡ true → is_sign s.Assign kind ≡ false
ends_no_assign (k.Sign s.Semicolon) e = refl
ends_no_assign (k.Sign s.CloseBrace) e = refl
ends_no_assign _ e = absurd cc

closes_no_assign : (ts : List Token) → Closes ts → begins s.Assign ts ≡ false
closes_no_assign [] h = absurd h
closes_no_assign (t ∷ ts) h = ends_no_assign t.kind h

module _ (names : List (List ℕ)) where
  name_no_close : (n : NameAt) (ts rest : List Token) → named names n ts rest → begins s.CloseBracket ts ≡ false
  name_no_close n ts rest (text, is, h) = rw h refl

  abbrev AnyTokens : List Token → Type 0
  AnyTokens ts = Unit {0}

  pub names_again : Again (names_at names) (with_commas (named names)) (Before s.CloseBracket)
  unfolding names_at
  names_again ns ts rest h q =
      let same = list_listed ns in
      let all = commas_again (name_at names) (named names) AnyTokens s.CloseBracket (λ x xs. x ∷ xs) [] (with_commas (named names)) (each (λ n. sign s.Comma ▸ named names n))
      (λ n ts rest h q. name_again names n ts rest h) (shorter_name names) name_no_close (λ ts rest h. tt) (λ ts rest h. tt) refl
      (λ ts rest h. h) (λ x l ts rest h. h) (λ ts rest h. h) (λ x l ts rest h. h) ns ts rest (subst (λ (z : List NameAt). with_commas (named names) z ts rest) (sym same) h) q in
      all ∙ ap (λ (z : List NameAt). Ok (z, rest)) same

  after_again : (ns : List NameAt) (at3 at4 : Spot) (m m2 m3 m4 : List Token) → with_commas (named names) ns m m2 → one (k.Sign s.CloseBracket) at3 m2 m3 → one (k.Sign s.Assign) at4 m3 m4 → after_bracket m ≡ true
  after_again [] at3 at4 m m2 m3 m4 h h3 h4 = rw (h, h3, h4) refl
  after_again (n ∷ ns) at3 at4 m m2 m3 m4 (m5, (text, is, h), g) h3 h4 = rw h refl

  -- the same of names a level deeper
  names_after : (d : ℕ) (at3 at4 : Spot) (ns : List NameAt) (m m2 m3 m4 : List Token) → deeper d (λ d. with_commas (named names) ns) m m2 → one (k.Sign s.CloseBracket) at3 m2 m3 → one (k.Sign s.Assign) at4 m3 m4 → after_bracket m ≡ true
  names_after zero at3 at4 ns m m2 m3 m4 h h3 h4 = absurd h
  names_after (suc d) at3 at4 ns m m2 m3 m4 h h3 h4 = after_again ns at3 at4 m m2 m3 m4 h h3 h4

  module _ (d : ℕ) (o : Option Inner) (full : Full names d o) where
    -- ---- an expression that begins a statement

    module _ (e : Expr) (rest : List Token) (y : Read (Turn Stmt (Option Expr))) (q : Stops whole rest) (closes : Closes rest)
        (plain : after_plain e rest ≡ y) (forms : (f : Form) → form f ≡ e → after_form f rest ≡ y) where
      plain_again : (ts : List Token) → IsExpr names whole d e ts rest → plain_at names o ts ≡ y
      unfolding plain_at
      plain_again ts h = rw (whole_again names d o full e ts rest h q) plain

      form_stmt_again : (f : Form) (ts : List Token) → form f ≡ e → IsForm names d f ts rest → form_stmt_at names o ts ≡ y
      unfolding form_stmt_at
      form_stmt_again f ts is h = rw (form_again names d o full f ts rest h (Apart-stops whole rest q).1) (forms f is)

      of_form : (x : Expr) (ts : List Token) → IsOfForm x → x ≡ e → IsExpr names whole d x ts rest → form_stmt_at names o ts ≡ y
      of_form (form f) ts is same h = form_stmt_again f ts same h
      of_form _ ts is same h = absurd is

      named_again : (t : Token) (ts : List Token) (b : Bool) → is_name t.kind ≡ true → begins s.Assign ts ≡ b → IsExpr names whole d e (t ∷ ts) rest → named_by names o (t ∷ ts) b ≡ y
      named_again t ts true is eq h =
          let same : ts ≡ rest = name_alone names whole d e t ts rest is eq h in
          absurd (differs (begins s.Assign rest) (closes_no_assign rest closes) (subst (λ (z : List Token). begins s.Assign z ≡ true) same eq))
      named_again t ts false is eq h = plain_again (t ∷ ts) h

      expr_by : (t : Token) (ts : List Token) (kind : TokenKind) → t.kind ≡ kind → starts kind ≡ true → alone e (IsExpr names whole d e) (t ∷ ts) rest → stmt_by names o t ts kind ≡ y
      expr_by t ts (k.Sign s.CloseBrace) is st h = absurd cc
      expr_by t ts (k.Name text) is st h = named_again t ts (begins s.Assign ts) (ap is_name is) refl h.1
      expr_by t ts (k.Sign s.OpenBracket) is st h = rw (bracket_plain names whole d e t ts rest (ap (λ (z : TokenKind). is_sign s.OpenBracket z) is) h.1) (plain_again (t ∷ ts) h.1)
      expr_by t ts (k.Word w.Return) is st h = absurd cc
      expr_by t ts (k.Word w.While) is st h = absurd cc
      expr_by t ts (k.Word w.Foreach) is st h = absurd cc
      expr_by t ts (k.Word w.If) is st h = of_form e (t ∷ ts) (h.0 (ap begins_form is)) refl h.1
      expr_by t ts (k.Word w.Pure) is st h = of_form e (t ∷ ts) (h.0 (ap begins_form is)) refl h.1
      expr_by t ts (k.Word w.Parallel) is st h = of_form e (t ∷ ts) (h.0 (ap begins_form is)) refl h.1
      expr_by t ts _ is st h = plain_again (t ∷ ts) h.1

      expr_again : (ts : List Token) → alone e (IsExpr names whole d e) ts rest → stmt_turn names o ts ≡ y
      unfolding stmt_turn
      expr_again [] h = let f = first names whole d e [] rest h in absurd (nil_not f.t f.after f.is)
      expr_again (t ∷ ts) h =
          let f = first names whole d e (t ∷ ts) rest h.1 in
          let hs = heads t f.t ts f.after f.is in
          expr_by t ts t.kind refl (ap (λ (z : Token). starts z.kind) hs.0 ∙ f.starts) h

    -- ---- statements

    declare_again : (n : NameAt) (e : Expr) (ts mid : List Token) → IsStmt names d (declare n e) ts mid → declare_at names o ts ≡ Ok (More (declare n e), mid)
    unfolding declare_at
    declare_again n e ts mid (m, h, (m2, (at2, h2), (m3, h3, (at4, h4)))) =
        rw (name_again names n ts m h, sign_again s.Assign at2 m m2 h2, whole_again names d o full e m2 m3 h3 (Stops-sign whole s.Semicolon m3 mid refl refl (at4, h4)), sign_again s.Semicolon at4 m3 mid h4) refl

    destructure_again : (at : Spot) (ns : List NameAt) (e : Expr) (ts mid : List Token) → IsStmt names d (destructure at ns e) ts mid → destructure_at names o ts ≡ Ok (More (destructure at ns e), mid)
    unfolding destructure_at
    destructure_again at ns e ts mid (m, h, (m2, g, (m3, (at3, h3), (m4, (at4, h4), (m5, h5, (at6, h6)))))) =
        rw (sign_again s.OpenBracket at ts m h) (opening names _ _ d o full (λ d. with_commas (named names) ns) m m2 g
        (λ l i law p. rw (names_again ns m m2 p (m3, (at3, h3)), sign_again s.CloseBracket at3 m2 m3 h3, sign_again s.Assign at4 m3 m4 h4, whole_again names d o full e m4 m5 h5 (Stops-sign whole s.Semicolon m5 mid refl refl (at6, h6)), sign_again s.Semicolon at6 m5 mid h6) refl))

    return_nothing_again : (at : Spot) (ts mid : List Token) → IsStmt names d (return_nothing at) ts mid → return_at names o ts ≡ Ok (More (return_nothing at), mid)
    unfolding return_at
    return_nothing_again at ts mid (m, h, (at2, h2)) = rw (word_again w.Return at ts m h, begins_again s.Semicolon at2 m mid h2, sign_again s.Semicolon at2 m mid h2) refl

    expr_no_semicolon : (e : Expr) (ts rest : List Token) → IsExpr names whole d e ts rest → begins s.Semicolon ts ≡ false
    expr_no_semicolon e ts rest h = let f = first names whole d e ts rest h in subst (λ (z : List Token). begins s.Semicolon z ≡ false) (sym f.is) (starts_no_semicolon f.t.kind f.starts)

    return_value_again : (at : Spot) (e : Expr) (ts mid : List Token) → IsStmt names d (return_value at e) ts mid → return_at names o ts ≡ Ok (More (return_value at e), mid)
    unfolding return_at
    return_value_again at e ts mid (m, h, (m2, h2, (at3, h3))) =
        rw (word_again w.Return at ts m h, expr_no_semicolon e m m2 h2, whole_again names d o full e m m2 h2 (Stops-sign whole s.Semicolon m2 mid refl refl (at3, h3)), sign_again s.Semicolon at3 m2 mid h3) refl

    while_again : (at : Spot) (c : Expr) (b : Block) (ts mid : List Token) → IsStmt names d (while at c b) ts mid → while_at names o ts ≡ Ok (More (while at c b), mid)
    unfolding while_at
    while_again at c b ts mid (m, h, (m2, h2, h3)) = rw (word_again w.While at ts m h, whole_again names d o full c m m2 h2 (block_stops names whole d b m2 mid h3), block_again names d o full b m2 mid h3 tt) refl

    foreach_again : (at : Spot) (n : NameAt) (a e : Expr) (b : Block) (ts mid : List Token) → IsStmt names d (foreach at n a e b) ts mid → foreach_at names o ts ≡ Ok (More (foreach at n a e b), mid)
    unfolding foreach_at
    foreach_again at n a e b ts mid (m, h, (m2, h2, (m3, (at3, h3), (m4, h4, (m5, (at5, h5), (m6, h6, h7)))))) =
        rw (word_again w.Foreach at ts m h, name_again names n m m2 h2, word_again w.In at3 m2 m3 h3, whole_again names d o full a m3 m4 h4 (Stops-sign whole s.DotDot m4 m5 refl refl (at5, h5)), sign_again s.DotDot at5 m4 m5 h5, whole_again names d o full e m5 m6 h6 (block_stops names whole d b m6 mid h7), block_again names d o full b m6 mid h7 tt) refl

    form_goes_on : (f : Form) (t : Token) (ts : List Token) (kind : TokenKind) → ends_stmt kind ≡ false → form_end f t ts kind ≡ Ok (More (form_stmt f), t ∷ ts)
    form_goes_on f t ts (k.Sign s.Semicolon) e = absurd cc
    form_goes_on f t ts (k.Sign s.CloseBrace) e = absurd cc
    form_goes_on f t ts _ e = refl

    after_goes_on : (f : Form) (m mid : List Token) → goes_on m mid → after_form f m ≡ Ok (More (form_stmt f), m)
    unfolding after_form
    after_goes_on f [] mid h = absurd h
    after_goes_on f (t ∷ ts) mid h = form_goes_on f t ts t.kind h.0

    form_adds : (f : Form) (ts m mid : List Token) → IsForm names d f ts m → goes_on m mid → NoElse mid → form_stmt_at names o ts ≡ Ok (More (form_stmt f), mid)
    unfolding form_stmt_at
    form_adds f ts m mid h g q =
        let same : m ≡ mid = goes_on_same m mid g in
        rw (form_again names d o full f ts m h (subst NoElse (sym same) q)) (after_goes_on f m mid g ∙ ap (λ (z : List Token). Ok (More (form_stmt f), z)) same)

    form_turn : (f : Form) (ts m mid : List Token) → IsForm names d f ts m → goes_on m mid → NoElse mid → stmt_turn names o ts ≡ Ok (More (form_stmt f), mid)
    unfolding stmt_turn
    form_turn (branch at c b es) ts m mid (m2, h, h2) g q = rw h (form_adds (branch at c b es) (token (k.Word w.If) at ∷ m2) m mid (m2, refl, h2) g q)
    form_turn (pure at b) ts m mid (m2, h, h2) g q = rw h (form_adds (pure at b) (token (k.Word w.Pure) at ∷ m2) m mid (m2, refl, h2) g q)
    form_turn (parallel_range at n a e b) ts m mid (m2, h, h2) g q = rw h (form_adds (parallel_range at n a e b) (token (k.Word w.Parallel) at ∷ m2) m mid (m2, refl, h2) g q)
    form_turn (parallel_each at n e b) ts m mid (m2, h, h2) g q = rw h (form_adds (parallel_each at n e b) (token (k.Word w.Parallel) at ∷ m2) m mid (m2, refl, h2) g q)

    express_plain : (e : Expr) (m mid : List Token) (at : Spot) → one (k.Sign s.Semicolon) at m mid → after_plain e m ≡ Ok (More (express e), mid)
    unfolding after_plain
    express_plain e m mid at h = rw h refl

    express_form : (e : Expr) (m mid : List Token) (at : Spot) → one (k.Sign s.Semicolon) at m mid → (f : Form) → form f ≡ e → after_form f m ≡ Ok (More (express e), mid)
    unfolding after_form
    express_form e m mid at h f is = rw (h, ← is) refl

    express_again : (e : Expr) (ts m mid : List Token) (at : Spot) → alone e (IsExpr names whole d e) ts m → one (k.Sign s.Semicolon) at m mid → stmt_turn names o ts ≡ Ok (More (express e), mid)
    express_again e ts m mid at h g =
        expr_again e m (Ok (More (express e), mid)) (Stops-sign whole s.Semicolon m mid refl refl (at, g)) (subst Closes (sym g) refl) (express_plain e m mid at g) (express_form e m mid at g) ts h

    stmt_adds : (x : Stmt) (xs : Stmts) (ts mid rest : List Token) → IsStmt names d x ts mid → AreStmts names d xs mid rest → Before s.CloseBrace rest → stmt_turn names o ts ≡ Ok (More x, mid)
    unfolding stmt_turn
    stmt_adds (declare n e) xs ts mid rest (m, (text, is, h), (m2, (at2, h2), h3)) g q = rw (h, begins_again s.Assign at2 m m2 h2) (declare_again n e (token (k.Name text) n.at ∷ m) mid (m, (text, is, refl), (m2, (at2, h2), h3)))
    stmt_adds (destructure at ns e) xs ts mid rest (m, h, (m2, g2, (m3, (at3, h3), (m4, (at4, h4), h5)))) g q =
        rw (h, names_after d at3 at4 ns m m2 m3 m4 g2 h3 h4) (destructure_again at ns e (token (k.Sign s.OpenBracket) at ∷ m) mid (m, refl, (m2, g2, (m3, (at3, h3), (m4, (at4, h4), h5)))))
    stmt_adds (return_nothing at) xs ts mid rest (m, h, h2) g q = rw h (return_nothing_again at (token (k.Word w.Return) at ∷ m) mid (m, refl, h2))
    stmt_adds (return_value at e) xs ts mid rest (m, h, h2) g q = rw h (return_value_again at e (token (k.Word w.Return) at ∷ m) mid (m, refl, h2))
    stmt_adds (while at c b) xs ts mid rest (m, h, h2) g q = rw h (while_again at c b (token (k.Word w.While) at ∷ m) mid (m, refl, h2))
    stmt_adds (foreach at n a e b) xs ts mid rest (m, h, h2) g q = rw h (foreach_again at n a e b (token (k.Word w.Foreach) at ∷ m) mid (m, refl, h2))
    stmt_adds (form_stmt f) xs ts mid rest (m, h, h2) g q = form_turn f ts m mid h h2 (stmts_no_else names d xs mid rest g (rw q.1.1 refl))
    stmt_adds (express e) xs ts mid rest (m, h, (at2, h2)) g q = express_again e ts m mid at2 h h2

    last_plain : (e : Expr) (rest : List Token) → Before s.CloseBrace rest → after_plain e rest ≡ Ok (End (Some e), rest)
    unfolding after_plain
    last_plain e rest q = rw q.1.1 refl

    last_form : (e : Expr) (rest : List Token) → Before s.CloseBrace rest → (f : Form) → form f ≡ e → after_form f rest ≡ Ok (End (Some e), rest)
    unfolding after_form
    last_form e rest q f is = rw (q.1.1, ← is) refl

    stmt_ends : (e : Option Expr) (ts rest : List Token) → AreStmts names d (last_end e) ts rest → Before s.CloseBrace rest → stmt_turn names o ts ≡ Ok (End e, rest)
    unfolding stmt_turn
    stmt_ends None ts rest h q = rw (h, q.1.1) refl
    stmt_ends (Some e) ts rest h q =
        expr_again e rest (Ok (End (Some e), rest)) (Stops-sign whole s.CloseBrace rest q.0 refl refl q.1) (subst Closes (sym q.1.1) refl) (last_plain e rest q) (last_form e rest q) ts h

    pub stmts_again : Again (stmts_at names o) (AreStmts names d) (Before s.CloseBrace)
    unfolding stmts_at
    stmts_again xs ts rest h q =
        let l = stmts_listed xs in
        let less : length ts < enough ts = omega arith in
        rw (l.2) (turns_again (stmt_turn names o) more_stmts last_end faulty (IsStmt names d) (AreStmts names d) (Before s.CloseBrace)
        (λ x l ts rest h. h) (λ x ts mid h. shorter_stmt names d x ts mid h) stmt_adds stmt_ends (enough ts) l.0 l.1 ts rest less (subst (λ (z : Stmts). AreStmts names d z ts rest) l.2 h) q)

  pub within_full : (d : ℕ) → Full names d (within names d)
  unfolding within
  within_full zero = tt
  within_full (suc d) = record {
    type_expr = type_again names d (within names d) (within_full d);
    place = postfix_again names d (within names d) (within_full d);
    operand = unary_all names d (within names d) (within_full d);
    whole = whole_again names d (within names d) (within_full d);
    args = args_again names d (within names d) (within_full d);
    stmts = stmts_again d (within names d) (within_full d);
  }
