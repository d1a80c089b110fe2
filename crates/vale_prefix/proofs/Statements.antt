-- Where reading stops, what stands before begins a part: statements, and readers with any count of levels.
use Rattle.std.proofs.Common.{◌≡◌, ◌<◌, ◌≤◌, ◌+◌, ℕ, zero, suc, Bool, true, false, cond, List, [], ◌∷◌, ◌++◌, append_assoc, Option, Some, None, Ok, Err, refl, sym, ap, subst, ◌∙◌, arith, ◌⊎◌, inl, inr}
use Rattle.vale_base.specs.declared.spot.Spot.{Spot}
use Rattle.vale_syntax.specs.declared.token.Token.{Token}
use Rattle.vale_syntax.specs.declared.token.TokenKind.{TokenKind}
use Rattle.vale_syntax.specs.declared.token.TokenKind.TheVariants as k
use Rattle.vale_syntax.specs.declared.token.Sign.TheVariants as s
use Rattle.vale_syntax.specs.declared.token.Word.TheVariants as w
use Rattle.vale_syntax.specs.declared.tree.NameAt.{NameAt}
use Rattle.vale_syntax.specs.Tree.{Expr, set, chain, unary, steps, number, quote, truth, name, call, paren, array, iso, form, Form, branch, pure, parallel_range, parallel_each, Block, Stmt, declare, destructure, return_nothing, return_value, while, foreach, form_stmt, express, Stmts, no_stmts, last, more_stmts}
use Rattle.vale_syntax.specs.Grammar.{Part, token, one, sign, word, ◌▸◌, each, with_commas, primary, whole, begins_form, alone, ends_stmt, goes_on, named, IsExpr, IsForm, IsStmt, AreStmts}
use Rattle.vale_syntax.specs.View.{last_end}
use Rattle.vale_reading.specs.declared.stop.Turn.{Turn}
use Rattle.vale_reading.specs.declared.stop.Turn.TheVariants.{More, End}
use Rattle.vale_reading.specs.Steps.{from, Fault, unexpected, too_deep, Read, Reader, ◌>>=◌, begins, begins_word, sign_at, word_at, name_at, with_front, turn_then, turns_at, enough, faulty}
use Rattle.vale_reading.specs.Reading.{Inner, inside, after_bracket, form_end, after_form, plain_end, after_plain, form_at, whole_at, plain_at, declare_at, names_at, destructure_at, return_by, return_at, while_at, foreach_at, form_stmt_at, named_by, bracket_by, stmt_by, stmt_turn, stmts_at, inner_of, within}
use Rattle.vale_prefix.proofs.Parts.{Knows, knows_left, knows_right, Parts, ◌▸▸◌, Deep, Sign_, Word_, Nothing, Within, Whole, Viable, Some_, whole_within, whole_then, viable_within, viable_then, viable_first, some_then, Took, Reads, into, deep, refused, spot, one_whole, some_sign, some_word, sign_reads, word_reads, AName, some_name, name_reads, Only, Added, into_only, ostep, adds}
use Rattle.vale_prefix.proofs.Forms.{AType, AnExpr, Args, ABlock, AForm, SomeStmts, some_type, some_expr, some_args, some_block, some_form, some_stmts, some_deep, some_within, empty_whole, nothing_some, InnerReads, Law, sign_opens_only, commas_read, type_reads, block_reads, form_reads, postfix_reads, unary_reads, whole_reads, args_read}

-- ---- parts

abbrev pub AStmt : Parts
AStmt = λ names d ts rest. (x : Stmt) × IsStmt names d x ts rest

-- an expression that begins a statement
abbrev Alone : Parts
Alone = λ names d ts rest. (e : Expr) × alone e (IsExpr names whole d e) ts rest

abbrev SomeNames : Parts
SomeNames = λ names d ts rest. (ns : List NameAt) × with_commas (named names) ns ts rest

abbrev MoreNames : Parts
MoreNames = λ names d ts rest. (ns : List NameAt) × each (λ n. sign s.Comma ▸ named names n) ns ts rest

abbrev Returned : Parts
Returned = λ names d ts rest. Sign_ s.Semicolon names d ts rest ⊎ (AnExpr whole ▸▸ Sign_ s.Semicolon) names d ts rest

first_name : Within (AName ▸▸ MoreNames) SomeNames
first_name names d ts rest (m, (n, h), (ns, g)) = (n ∷ ns, (m, h, g))

next_name : Within ((Sign_ s.Comma ▸▸ AName) ▸▸ MoreNames) MoreNames
next_name names d ts rest (m, (m2, h, (n, h2)), (ns, g)) = (n ∷ ns, (m, (m2, h, h2), g))

declare_of : Within (AName ▸▸ Sign_ s.Assign ▸▸ AnExpr whole ▸▸ Sign_ s.Semicolon) AStmt
declare_of names d ts rest (m, (n, h), (m2, h2, (m3, (e, h3), h4))) = (declare n e, (m, h, (m2, h2, (m3, h3, h4))))

destructure_of : Within (Sign_ s.OpenBracket ▸▸ Deep SomeNames ▸▸ Sign_ s.CloseBracket ▸▸ Sign_ s.Assign ▸▸ AnExpr whole ▸▸ Sign_ s.Semicolon) AStmt
destructure_of names zero ts rest (m, h, (m2, g, h2)) = absurd g
destructure_of names (suc d) ts rest (m, (at, h), (m2, (ns, g), (m3, h3, (m4, h4, (m5, (e, h5), h6))))) = (destructure at ns e, (m, h, (m2, g, (m3, h3, (m4, h4, (m5, h5, h6))))))

return_of : Within (Word_ w.Return ▸▸ Returned) AStmt
return_of names d ts rest (m, (at, h), inl g) = (return_nothing at, (m, h, g))
return_of names d ts rest (m, (at, h), inr (m2, (e, g), h2)) = (return_value at e, (m, h, (m2, g, h2)))

while_of : Within (Word_ w.While ▸▸ AnExpr whole ▸▸ ABlock) AStmt
while_of names d ts rest (m, (at, h), (m2, (c, h2), (b, h3))) = (while at c b, (m, h, (m2, h2, h3)))

foreach_of : Within (Word_ w.Foreach ▸▸ AName ▸▸ Word_ w.In ▸▸ AnExpr whole ▸▸ Sign_ s.DotDot ▸▸ AnExpr whole ▸▸ ABlock) AStmt
foreach_of names d ts rest (m, (at, h), (m1, (n, h1), (m2, h2, (m3, (e, h3), (m4, h4, (m5, (f, h5), (b, h6))))))) = (foreach at n e f b, (m, h, (m1, h1, (m2, h2, (m3, h3, (m4, h4, (m5, h5, h6)))))))

express_of : Within (Alone ▸▸ Sign_ s.Semicolon) AStmt
express_of names d ts rest (m, (e, h), g) = (express e, (m, h, g))

last_of : Within Alone SomeStmts
last_of names d ts rest (e, h) = (last e, h)

alone_form : Within AForm Alone
alone_form names d [] rest (f, h) = (form f, h)
alone_form names d (t ∷ ts) rest (f, h) = (form f, ((λ e. tt), h))

more_of : Within (AStmt ▸▸ SomeStmts) SomeStmts
more_of names d ts rest (m, (x, h), (xs, g)) = (more_stmts x xs, (m, h, g))

-- ---- no expression is empty

no_token : (t : Token) (ts : List Token) → [] ≡ t ∷ ts → ⊥
no_token t ts e = cc

module _ (names : List (List ℕ)) where
  pub no_form_at : (d : ℕ) (f : Form) (rest : List Token) → IsForm names d f [] rest → ⊥
  no_form_at d (branch at c b es) rest (m, h, g) = no_token _ m h
  no_form_at d (pure at b) rest (m, h, g) = no_token _ m h
  no_form_at d (parallel_range at n a e b) rest (m, h, g) = no_token _ m h
  no_form_at d (parallel_each at n e b) rest (m, h, g) = no_token _ m h

-- ---- what goes on with another statement

abbrev pub GoesOn : List Token → Type 0
GoesOn [] = ⊥
GoesOn (t ∷ ts) = ends_stmt t.kind ≡ false

-- what was taken of statements; what follows a form goes on also before other tokens
abbrev TookStmts : {A : Type 0} → List Token → Read A → Type 0
TookStmts ts (Ok x) = (a : List Token) × (ts ≡ a ++ x.1) × Whole SomeStmts a × (GoesOn ts → (more : List Token) → GoesOn (a ++ more))
TookStmts ts (Err f) = (a : List Token) × (ts ≡ a ++ from f) × (end : List Token) × Whole SomeStmts (a ++ end) × (GoesOn ts → (more : List Token) → GoesOn ((a ++ end) ++ more))

-- what one turn took
abbrev pub TookTurn : List Token → Read (Turn Stmt (Option Expr)) → Type 0
TookTurn ts (Ok (More x, mid)) = (a : List Token) × (ts ≡ a ++ mid) × (Whole AStmt a ⊎ (Whole AForm a × GoesOn mid))
TookTurn ts (Ok (End e, mid)) = (a : List Token) × (ts ≡ a ++ mid) × Whole SomeStmts a × (GoesOn mid → ⊥)
TookTurn ts (Err f) = (a : List Token) × (ts ≡ a ++ from f) × Viable SomeStmts a

pub record StmtTurn (ts : List Token) (r : Read (Turn Stmt (Option Expr))) : Type 0 where
  pub took : TookTurn ts r

only_by : (ts : List Token) (r : Read (Turn Stmt (Option Expr))) → Added AStmt ts r → TookTurn ts r
only_by ts (Ok (More x, mid)) h = (h.0, h.1, inl h.2)
only_by ts (Ok (End e, mid)) h = absurd h
only_by ts (Err f) h = (h.0, h.1, viable_within more_of h.0 (viable_first AStmt SomeStmts h.0 h.2 some_stmts))

only_stmt : {ts : List Token} {r : Read (Turn Stmt (Option Expr))} → Only AStmt ts r → StmtTurn ts r
only_stmt {ts = ts} {r = r} h = record { took = only_by ts r h.took }

-- the least statements that go on
least : List Token
least = token (k.Word w.True) spot ∷ []

least_whole : Whole SomeStmts least
unfolding least
least_whole = record { levels = 0; whole = λ names d knows le more. (last (truth spot true), ((λ e. absurd cc), refl)) }

goes_join : (ts a mid more : List Token) → ts ≡ a ++ mid → (GoesOn mid → GoesOn more) → GoesOn ts → GoesOn (a ++ more)
goes_join ts [] mid more e f g = f (subst GoesOn e g)
goes_join ts (t ∷ a) mid more e f g = subst GoesOn e g

-- a form, and statements before which it goes on
form_then : (a b : List Token) → Whole AForm a → Whole SomeStmts b → ((more : List Token) → GoesOn (b ++ more)) → Whole SomeStmts (a ++ b)
form_then a b w v g = record {
  levels = w.levels + v.levels;
  whole = λ names d knows le more.
      let less : w.levels ≤ d = omega (arith, le) in
      let less2 : v.levels ≤ d = omega (arith, le) in
      let f = w.whole names d (knows_left names a b knows) less (b ++ more) in
      let xs = v.whole names d (knows_right names a b knows) less2 more in (
        more_stmts (form_stmt f.0) xs.0,
        subst (λ (z : List Token). (IsStmt names d (form_stmt f.0) ▸ AreStmts names d xs.0) z more) (sym (append_assoc a b more))
            (b ++ more, (b ++ more, f.1, on (b ++ more) (g more)), xs.1),
      );
} where
  on : (ts : List Token) → GoesOn ts → goes_on ts ts
  on [] g = absurd g
  on (t ∷ ts) g = (g, refl)

-- ---- turns, one after another

joined : (ts a mid b rest : List Token) → ts ≡ a ++ mid → mid ≡ b ++ rest → ts ≡ (a ++ b) ++ rest
joined ts a mid b rest e f = e ∙ (ap (λ (z : List Token). a ++ z) f ∙ sym (append_assoc a b rest))

differs : (b : Bool) → b ≡ false → b ≡ true → ⊥
differs b e f = let g : false ≡ true = sym e ∙ f in cc

heads : (x t : Token) (a rest ts : List Token) → t ∷ ts ≡ x ∷ (a ++ rest) → x ≡ t
heads x t a rest ts e = cc

append_nil : (a : List Token) → a ≡ a ++ []
append_nil [] = refl
append_nil (t ∷ a) = ap (λ (z : List Token). t ∷ z) (append_nil a)

whole_viable : (P : Parts) (a : List Token) → Whole P a → Viable P a
whole_viable P a w = ([], subst (Whole P) (append_nil a) w)

on_from : (ts a mid b end more : List Token) → ts ≡ a ++ mid → (GoesOn mid → GoesOn ((b ++ end) ++ more)) → GoesOn ts → GoesOn (((a ++ b) ++ end) ++ more)
on_from ts a mid b end more e f g = subst (λ (z : List Token). GoesOn (z ++ more)) (sym (append_assoc a b end)) (subst GoesOn (sym (append_assoc a (b ++ end) more)) (goes_join ts a mid ((b ++ end) ++ more) e f g))

front_by : (ts a mid : List Token) (x : Stmt) → ts ≡ a ++ mid → (Whole AStmt a ⊎ (Whole AForm a × GoesOn mid)) → (q : Read Stmts) → TookStmts mid q → TookStmts ts (with_front (more_stmts x) q)
front_by ts a mid x e (inl w) (Ok y) h = (
  a ++ h.0,
  joined ts a mid h.0 y.1 e h.1,
  whole_within more_of (a ++ h.0) (whole_then AStmt SomeStmts a h.0 w h.2),
  (λ g more. subst GoesOn (sym (append_assoc a h.0 more)) (goes_join ts a mid (h.0 ++ more) e (λ g. h.3 g more) g)),
)
front_by ts a mid x e (inr w) (Ok y) h = (
  a ++ h.0,
  joined ts a mid h.0 y.1 e h.1,
  form_then a h.0 w.0 h.2 (h.3 w.1),
  (λ g more. subst GoesOn (sym (append_assoc a h.0 more)) (goes_join ts a mid (h.0 ++ more) e (λ g. h.3 g more) g)),
)
front_by ts a mid x e (inl w) (Err f) h = (
  a ++ h.0,
  joined ts a mid h.0 (from f) e h.1,
  h.2,
  subst (Whole SomeStmts) (sym (append_assoc a h.0 h.2)) (whole_within more_of (a ++ (h.0 ++ h.2)) (whole_then AStmt SomeStmts a (h.0 ++ h.2) w h.3)),
  (λ g more. on_from ts a mid h.0 h.2 more e (λ g. h.4 g more) g),
)
front_by ts a mid x e (inr w) (Err f) h = (
  a ++ h.0,
  joined ts a mid h.0 (from f) e h.1,
  h.2,
  subst (Whole SomeStmts) (sym (append_assoc a h.0 h.2)) (form_then a (h.0 ++ h.2) w.0 h.3 (h.4 w.1)),
  (λ g more. on_from ts a mid h.0 h.2 more e (λ g. h.4 g more) g),
)

ended_by : (ts a mid : List Token) → ts ≡ a ++ mid → (GoesOn mid → ⊥) → GoesOn ts → (more : List Token) → GoesOn (a ++ more)
ended_by ts a mid e closed g more = goes_join ts a mid more e (λ g. absurd (closed g)) g

fault_by : (ts a left : List Token) → ts ≡ a ++ left → Viable SomeStmts a → (end : List Token) × Whole SomeStmts (a ++ end) × (GoesOn ts → (more : List Token) → GoesOn ((a ++ end) ++ more))
unfolding least
fault_by ts [] left e v = (least, least_whole, (λ g more. refl))
fault_by ts (t ∷ a) left e v = (v.0, v.1, (λ g more. subst GoesOn e g))

turn_by : (ts : List Token) (others : Reader Stmts) → ((ts : List Token) → TookStmts ts (others ts)) → (q : Read (Turn Stmt (Option Expr))) → TookTurn ts q → TookStmts ts (turn_then (λ ts. q) more_stmts last_end faulty others q)
turn_by ts others k (Ok (More x, mid)) h = front_by ts h.0 mid x h.1 h.2 (others mid) (k mid)
turn_by ts others k (Ok (End e, mid)) h = (h.0, h.1, h.2, ended_by ts h.0 mid h.1 h.3)
turn_by ts others k (Err f) h = let v = fault_by ts h.0 (from f) h.1 h.2 in (h.0, h.1, v.0, v.1, v.2)

module _ (turn : Reader (Turn Stmt (Option Expr))) (law : (ts : List Token) → StmtTurn ts (turn ts)) where
  stmts_by : (n : ℕ) (ts : List Token) → TookStmts ts (turns_at turn more_stmts last_end faulty n ts)
  unfolding turns_at least
  stmts_by zero ts = ([], refl, least, least_whole, (λ g more. refl))
  stmts_by (suc n) ts = turn_by ts (turns_at turn more_stmts last_end faulty n) (stmts_by n) (turn ts) (law ts).took

as_took : (ts : List Token) (r : Read Stmts) → TookStmts ts r → Took SomeStmts ts r
as_took ts (Ok x) h = (h.0, h.1, h.2)
as_took ts (Err f) h = (h.0, h.1, (h.2, h.3))

-- ---- what follows an expression or a form

form_end_by : (f : Form) (start a : List Token) (t : Token) (ts : List Token) (kind : TokenKind) → start ≡ a ++ t ∷ ts → Whole AForm a → t.kind ≡ kind → TookTurn start (form_end f t ts kind)
form_end_by f start a t ts (k.Sign s.Semicolon) e w is = (a ++ t ∷ [], joined start a (t ∷ ts) (t ∷ []) ts e refl, inl (whole_within express_of (a ++ t ∷ []) (whole_then Alone (Sign_ s.Semicolon) a (t ∷ []) (whole_within alone_form a w) (one_whole t _ is))))
form_end_by f start a t ts (k.Sign s.CloseBrace) e w is = (a, e, whole_within last_of a (whole_within alone_form a w), (λ g. differs (ends_stmt t.kind) g (ap ends_stmt is)))
form_end_by f start a t ts _ e w is = (a, e, inr (w, ap ends_stmt is))

plain_end_by : (x : Expr) (start a : List Token) (t : Token) (ts : List Token) (kind : TokenKind) → start ≡ a ++ t ∷ ts → Whole Alone a → t.kind ≡ kind → TookTurn start (plain_end x t ts kind)
plain_end_by x start a t ts (k.Sign s.Semicolon) e w is = (a ++ t ∷ [], joined start a (t ∷ ts) (t ∷ []) ts e refl, inl (whole_within express_of (a ++ t ∷ []) (whole_then Alone (Sign_ s.Semicolon) a (t ∷ []) w (one_whole t _ is))))
plain_end_by x start a t ts (k.Sign s.CloseBrace) e w is = (a, e, whole_within last_of a w, (λ g. differs (ends_stmt t.kind) g (ap ends_stmt is)))
plain_end_by x start a t ts _ e w is = (a, e, whole_viable SomeStmts a (whole_within last_of a w))

after_form_by : (f : Form) (start a ts : List Token) → start ≡ a ++ ts → Whole AForm a → TookTurn start (after_form f ts)
unfolding after_form
after_form_by f start a [] e w = (a, e, whole_viable SomeStmts a (whole_within last_of a (whole_within alone_form a w)))
after_form_by f start a (t ∷ ts) e w = form_end_by f start a t ts t.kind e w refl

after_plain_by : (x : Expr) (start a ts : List Token) → start ≡ a ++ ts → Whole Alone a → TookTurn start (after_plain x ts)
unfolding after_plain
after_plain_by x start a [] e w = (a, e, whole_viable SomeStmts a (whole_within last_of a w))
after_plain_by x start a (t ∷ ts) e w = plain_end_by x start a t ts t.kind e w refl

form_stmt_by : (ts : List Token) (r : Read Form) → Took AForm ts r → TookTurn ts (r >>= λ f. after_form f.0 f.1)
form_stmt_by ts (Ok x) h = after_form_by x.0 ts h.0 x.1 h.1 h.2
form_stmt_by ts (Err f) h = (h.0, h.1, viable_within (λ names d ts rest h. last_of names d ts rest (alone_form names d ts rest h)) h.0 h.2)

-- an expression that begins with no form
alone_of : (x : Token) (a : List Token) → begins_form x.kind ≡ false → Whole (AnExpr whole) (x ∷ a) → Whole Alone (x ∷ a)
alone_of x a other w = record { levels = w.levels; whole = λ names d knows le more. let h = w.whole names d knows le more in (h.0, ((λ yes. absurd (differs (begins_form x.kind) other yes)), h.1)) }

not_form : (x t : Token) (a rest ts : List Token) → t ∷ ts ≡ x ∷ (a ++ rest) → begins_form t.kind ≡ false → begins_form x.kind ≡ false
not_form x t a rest ts e other = subst (λ (z : Token). begins_form z.kind ≡ false) (sym (heads x t a rest ts e)) other

module _ (names : List (List ℕ)) where
  pub no_expr : (r d : ℕ) (e : Expr) (rest : List Token) → IsExpr names r d e [] rest → ⊥
  no_expr r d (set at p e) rest (le, (m, h, g)) = no_token _ m h
  no_expr r d (chain e ls) rest (below, lt, has, (m, h, g)) = no_expr below d e m h
  no_expr r d (unary at op e) rest (le, (m, h, g)) = no_token _ m h
  no_expr r d (steps e ss) rest (le, (m, h, g)) = no_expr primary d e m h
  no_expr r d (number at n) rest h = no_token _ rest h
  no_expr r d (quote at n) rest h = no_token _ rest h
  no_expr r d (truth at n) rest h = no_token _ rest h
  no_expr r d (name n) rest (text, is, h) = no_token _ rest h
  no_expr r d (call n es) rest (m, (text, is, h), g) = no_token _ m h
  no_expr r d (paren at e) rest (m, h, g) = no_token _ m h
  no_expr r d (array at x es) rest (m, h, g) = no_token _ m h
  no_expr r d (iso at b) rest (m, h, g) = no_token _ m h
  no_expr r d (form f) rest h = no_form_at names d f rest h

not_empty : Whole (AnExpr whole) [] → ⊥
not_empty w = let le : w.levels ≤ w.levels = omega arith in let h = w.whole [] w.levels tt le [] in no_expr [] whole w.levels h.0 [] h.1

plain_ok : (x : Expr) (t : Token) (ts a mid : List Token) → begins_form t.kind ≡ false → t ∷ ts ≡ a ++ mid → Whole (AnExpr whole) a → TookTurn (t ∷ ts) (after_plain x mid)
plain_ok x t ts [] mid other e w = absurd (not_empty w)
plain_ok x t ts (y ∷ a) mid other e w = after_plain_by x (t ∷ ts) (y ∷ a) mid e (alone_of y a (not_form y t a mid ts e other) w)

plain_err : (t : Token) (ts a left : List Token) → begins_form t.kind ≡ false → t ∷ ts ≡ a ++ left → Viable (AnExpr whole) a → Viable SomeStmts a
plain_err t ts [] left other e v = some_stmts
plain_err t ts (y ∷ a) left other e v = (v.0, whole_within last_of (y ∷ (a ++ v.0)) (alone_of y (a ++ v.0) (not_form y t a left ts e other) v.1))

plain_by : (t : Token) (ts : List Token) (r : Read Expr) → begins_form t.kind ≡ false → Took (AnExpr whole) (t ∷ ts) r → TookTurn (t ∷ ts) (r >>= λ e. after_plain e.0 e.1)
plain_by t ts (Ok x) other h = plain_ok x.0 t ts h.0 x.1 other h.1 h.2
plain_by t ts (Err f) other h = (h.0, h.1, plain_err t ts h.0 (from f) other h.1 h.2)

-- ---- what completes the rest of a statement

some_end : (P : Parts) → Some_ P → Some_ (P ▸▸ Sign_ s.Semicolon)
some_end P p = some_then P (Sign_ s.Semicolon) p (some_sign s.Semicolon)

some_value : Some_ (AnExpr whole ▸▸ Sign_ s.Semicolon)
some_value = some_end (AnExpr whole) (some_expr whole)

some_assigned : Some_ (Sign_ s.Assign ▸▸ AnExpr whole ▸▸ Sign_ s.Semicolon)
some_assigned = some_then (Sign_ s.Assign) (AnExpr whole ▸▸ Sign_ s.Semicolon) (some_sign s.Assign) some_value

some_names : Some_ SomeNames
some_names = nothing_some SomeNames (λ names d ts. ([], refl))

some_closed : Some_ (Sign_ s.CloseBracket ▸▸ Sign_ s.Assign ▸▸ AnExpr whole ▸▸ Sign_ s.Semicolon)
some_closed = some_then (Sign_ s.CloseBracket) (Sign_ s.Assign ▸▸ AnExpr whole ▸▸ Sign_ s.Semicolon) (some_sign s.CloseBracket) some_assigned

some_destructured : Some_ (Deep SomeNames ▸▸ Sign_ s.CloseBracket ▸▸ Sign_ s.Assign ▸▸ AnExpr whole ▸▸ Sign_ s.Semicolon)
some_destructured = some_then (Deep SomeNames) (Sign_ s.CloseBracket ▸▸ Sign_ s.Assign ▸▸ AnExpr whole ▸▸ Sign_ s.Semicolon) (some_deep SomeNames some_names) some_closed

some_cond : Some_ (AnExpr whole ▸▸ ABlock)
some_cond = some_then (AnExpr whole) ABlock (some_expr whole) some_block

some_to : Some_ (Sign_ s.DotDot ▸▸ AnExpr whole ▸▸ ABlock)
some_to = some_then (Sign_ s.DotDot) (AnExpr whole ▸▸ ABlock) (some_sign s.DotDot) some_cond

some_range : Some_ (AnExpr whole ▸▸ Sign_ s.DotDot ▸▸ AnExpr whole ▸▸ ABlock)
some_range = some_then (AnExpr whole) (Sign_ s.DotDot ▸▸ AnExpr whole ▸▸ ABlock) (some_expr whole) some_to

some_in : Some_ (Word_ w.In ▸▸ AnExpr whole ▸▸ Sign_ s.DotDot ▸▸ AnExpr whole ▸▸ ABlock)
some_in = some_then (Word_ w.In) (AnExpr whole ▸▸ Sign_ s.DotDot ▸▸ AnExpr whole ▸▸ ABlock) (some_word w.In) some_range

some_loop : Some_ (AName ▸▸ Word_ w.In ▸▸ AnExpr whole ▸▸ Sign_ s.DotDot ▸▸ AnExpr whole ▸▸ ABlock)
some_loop = some_then AName (Word_ w.In ▸▸ AnExpr whole ▸▸ Sign_ s.DotDot ▸▸ AnExpr whole ▸▸ ABlock) some_name some_in

some_returned : Some_ Returned
some_returned = some_within (λ names d ts rest h. inl h) (some_sign s.Semicolon)

-- ---- readers

module _ (names : List (List ℕ)) (o : Option Inner) (law : Law o) where
  plain_turns : (t : Token) (ts : List Token) → begins_form t.kind ≡ false → StmtTurn (t ∷ ts) (plain_at names o (t ∷ ts))
  unfolding plain_at
  plain_turns t ts other = record { took = plain_by t ts (whole_at names o (t ∷ ts)) other (whole_reads names o law (t ∷ ts)).took }

  form_turns : (ts : List Token) → StmtTurn ts (form_stmt_at names o ts)
  unfolding form_stmt_at
  form_turns ts = record { took = form_stmt_by ts (form_at names o ts) (form_reads names o law ts).took }

  declare_turns : (ts : List Token) → StmtTurn ts (declare_at names o ts)
  unfolding declare_at
  declare_turns ts = only_stmt (into_only declare_of (ostep (name_reads names ts) some_assigned (λ n. ostep (sign_reads s.Assign n.1) some_value (λ a. ostep (whole_reads names o law a.1) (some_sign s.Semicolon) (λ e. adds _ (sign_reads s.Semicolon e.1) (λ c. refl))))))

  names_read : (ts : List Token) → Reads SomeNames ts (names_at names ts)
  unfolding names_at
  names_read ts = commas_read (name_at names) AName SomeNames MoreNames (name_reads names) some_name (λ x xs. x ∷ xs) [] first_name next_name (λ names d ts. ([], refl)) (λ names d ts. ([], refl)) s.CloseBracket ts

  destructure_turns : (ts : List Token) → StmtTurn ts (destructure_at names o ts)
  unfolding destructure_at
  destructure_turns ts = only_stmt (into_only destructure_of (sign_opens_only o law s.OpenBracket _ ts some_destructured (λ i law2 a. ostep (deep (names_read a.1)) some_closed (λ ns. ostep (sign_reads s.CloseBracket ns.1) some_assigned
      (λ c. ostep (sign_reads s.Assign c.1) some_value (λ eq. ostep (whole_reads names o law eq.1) (some_sign s.Semicolon) (λ e. adds _ (sign_reads s.Semicolon e.1) (λ c. refl))))))))

  return_by_turns : (at : Spot) (ts : List Token) (is : Bool) → Only Returned ts (return_by names o at ts is)
  return_by_turns at ts true = into_only (λ names d ts rest h. inl h) (adds _ (sign_reads s.Semicolon ts) (λ c. refl))
  return_by_turns at ts false = into_only (λ names d ts rest h. inr h) (ostep (whole_reads names o law ts) (some_sign s.Semicolon) (λ e. adds _ (sign_reads s.Semicolon e.1) (λ c. refl)))

  return_turns : (ts : List Token) → StmtTurn ts (return_at names o ts)
  unfolding return_at
  return_turns ts = only_stmt (into_only return_of (ostep (word_reads w.Return ts) some_returned (λ a. return_by_turns a.0 a.1 (begins s.Semicolon a.1))))

  while_turns : (ts : List Token) → StmtTurn ts (while_at names o ts)
  unfolding while_at
  while_turns ts = only_stmt (into_only while_of (ostep (word_reads w.While ts) some_cond (λ a. ostep (whole_reads names o law a.1) some_block (λ c. adds _ (block_reads names o law c.1) (λ b. refl)))))

  foreach_turns : (ts : List Token) → StmtTurn ts (foreach_at names o ts)
  unfolding foreach_at
  foreach_turns ts = only_stmt (into_only foreach_of (ostep (word_reads w.Foreach ts) some_loop (λ a. ostep (name_reads names a.1) some_in (λ n. ostep (word_reads w.In n.1) some_range
      (λ c. ostep (whole_reads names o law c.1) some_to (λ e. ostep (sign_reads s.DotDot e.1) some_cond (λ d. ostep (whole_reads names o law d.1) some_block (λ f. adds _ (block_reads names o law f.1) (λ b. refl)))))))))

  named_by_turns : (t : Token) (ts : List Token) (is : Bool) → begins_form t.kind ≡ false → StmtTurn (t ∷ ts) (named_by names o (t ∷ ts) is)
  named_by_turns t ts true other = declare_turns (t ∷ ts)
  named_by_turns t ts false other = plain_turns t ts other

  bracket_by_turns : (t : Token) (ts : List Token) (is : Bool) → begins_form t.kind ≡ false → StmtTurn (t ∷ ts) (bracket_by names o (t ∷ ts) is)
  bracket_by_turns t ts true other = destructure_turns (t ∷ ts)
  bracket_by_turns t ts false other = plain_turns t ts other

  stmt_by_turns : (t : Token) (ts : List Token) (kind : TokenKind) → t.kind ≡ kind → StmtTurn (t ∷ ts) (stmt_by names o t ts kind)
  stmt_by_turns t ts (k.Sign s.CloseBrace) is = record { took = ([], refl, empty_whole SomeStmts (λ names d ts. (no_stmts, refl)), (λ g. differs (ends_stmt t.kind) g (ap ends_stmt is))) }
  stmt_by_turns t ts (k.Name text) is = named_by_turns t ts (begins s.Assign ts) (ap begins_form is)
  stmt_by_turns t ts (k.Sign s.OpenBracket) is = bracket_by_turns t ts (after_bracket ts) (ap begins_form is)
  stmt_by_turns t ts (k.Word w.Return) is = return_turns (t ∷ ts)
  stmt_by_turns t ts (k.Word w.While) is = while_turns (t ∷ ts)
  stmt_by_turns t ts (k.Word w.Foreach) is = foreach_turns (t ∷ ts)
  stmt_by_turns t ts (k.Word w.If) is = form_turns (t ∷ ts)
  stmt_by_turns t ts (k.Word w.Pure) is = form_turns (t ∷ ts)
  stmt_by_turns t ts (k.Word w.Parallel) is = form_turns (t ∷ ts)
  stmt_by_turns t ts _ is = plain_turns t ts (ap begins_form is)

  pub stmt_turns : (ts : List Token) → StmtTurn ts (stmt_turn names o ts)
  unfolding stmt_turn
  stmt_turns [] = record { took = ([], refl, some_stmts) }
  stmt_turns (t ∷ ts) = stmt_by_turns t ts t.kind refl

  pub stmts_read : (ts : List Token) → Reads SomeStmts ts (stmts_at names o ts)
  unfolding stmts_at
  stmts_read ts = record { took = as_took ts _ (stmts_by (stmt_turn names o) stmt_turns (enough ts) ts) }

-- ---- any count of levels

pub within_reads : (names : List (List ℕ)) (d : ℕ) → Law (within names d)
unfolding within
within_reads names zero = tt
within_reads names (suc d) = let o = within names d in let law = within_reads names d in record {
  type_expr = type_reads names o law;
  place = postfix_reads names o law;
  operand = unary_reads names o law;
  whole = whole_reads names o law;
  args = args_read names o law;
  stmts = stmts_read names o law;
}
