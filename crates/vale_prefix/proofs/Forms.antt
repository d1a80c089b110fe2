-- Where reading stops, what stands before begins a part: types, expressions, forms.
use Rattle.std.proofs.Common.{◌≡◌, ◌<◌, ◌≤◌, ◌+◌, ℕ, zero, suc, Bool, true, false, cond, eqb, List, [], ◌∷◌, ◌++◌, append_assoc, length, Option, Some, None, Ok, Err, refl, sym, ap, subst, ◌∙◌, arith, ◌⊎◌, inl, inr}
use Rattle.std.proofs.lemmas.Bool.{eq-eqb}
use Rattle.vale_base.specs.declared.spot.Spot.{Spot}
use Rattle.vale_base.specs.declared.name.Name.{Name}
use Rattle.vale_syntax.specs.declared.token.Token.{Token}
use Rattle.vale_syntax.specs.declared.token.TokenKind.{TokenKind}
use Rattle.vale_syntax.specs.declared.token.TokenKind.TheVariants as k
use Rattle.vale_syntax.specs.declared.token.Sign.{Sign}
use Rattle.vale_syntax.specs.declared.token.Sign.TheVariants as s
use Rattle.vale_syntax.specs.declared.token.Word.{Word}
use Rattle.vale_syntax.specs.declared.token.Word.TheVariants as w
use Rattle.vale_syntax.specs.declared.tree.NameAt.{NameAt}
use Rattle.vale_syntax.specs.declared.tree.BinaryOp.{BinaryOp}
use Rattle.vale_syntax.specs.declared.tree.BinaryOp.TheVariants as b
use Rattle.vale_syntax.specs.declared.tree.UnaryOp.{UnaryOp}
use Rattle.vale_syntax.specs.declared.tree.UnaryOp.TheVariants as u
use Rattle.vale_syntax.specs.Tree.{TypeExpr, int_type, bool_type, str_type, named_type, array_type, ref_type, imm_ref_type, iso_type, Expr, set, chain, unary, steps, number, quote, truth, name, call, paren, array, iso, form, Exprs, no_exprs, more_exprs, Link, link, Links, no_links, more_links, Step, field, method, index, Steps, no_steps, more_steps, Form, branch, pure, parallel_range, parallel_each, ElseIf, else_if, Elses, no_else, otherwise, more_elses, Block, block, Stmts, no_stmts}
use Rattle.vale_syntax.specs.Grammar.{Part, token, one, sign, word, nothing, ◌▸◌, deeper, primary, postfix, operand, whole, rank, binary_kind, unary_kind, named, IsType, IsExpr, AreArgs, AreMoreArgs, IsLink, AreLinks, IsStep, AreSteps, IsForm, IsElseIf, AreElses, IsBlock, AreStmts}
use Rattle.vale_syntax.specs.View.{else_end}
use Rattle.vale_reading.specs.declared.stop.Turn.{Turn}
use Rattle.vale_reading.specs.declared.stop.Turn.TheVariants.{More, End}
use Rattle.vale_reading.specs.Steps.{from, Fault, unexpected, too_deep, Read, Reader, ◌>>=◌, begins, begins_word, sign_at, word_at, name_at, turns_at, enough, faulty}
use Rattle.vale_reading.specs.Reading.{comma_turn, others_at, commas_at, binary_op, height, of_height, link_op, unary_op, chained, stepped, Inner, inside, ref_by, ref_type_at, array_type_at, iso_type_at, type_by, type_at, block_at, else_by, else_turn_by, else_turn, elses_at, branch_at, bound_by, bound_at, parallel, parallel_at, pure_at, form_by, form_at, arguments_at, called_by, called_at, paren_at, array_at, iso_at, primary_by, primary_at, member_by, member_at, index_at, step_by, step_turn, steps_at, postfix_at, unary_by, unary_at, link_by, link_turn, no_more, most_links, links_at, level_at, set_at, whole_by, whole_at, args_at}
use Rattle.vale_prefix.proofs.Parts.{Knows, Parts, ◌▸▸◌, Deep, Sign_, Word_, Nothing, Within, Whole, Viable, Some_, whole_within, whole_then, some_then, viable_first, whole_deep, Took, Reads, into, deep, step, last, done, if_reads, refused, spot, same_kind, one_whole, some_sign, some_word, sign_reads, word_reads, AName, some_name, name_reads, Turns, turns_read, tstep, adding, ending, into_turn, if_turns, ended, Only, only_turns, into_only, ostep, adds, after_one, only_after_one, once_read}
use Rattle.vale_reading_laws.proofs.Operators.{unary_of, link_op_is}

-- ---- parts with some tree

abbrev pub AType : Parts
AType = λ names d ts rest. (x : TypeExpr) × IsType names d x ts rest

abbrev pub AnExpr : ℕ → Parts
AnExpr r = λ names d ts rest. (x : Expr) × IsExpr names r d x ts rest

abbrev pub Args : Parts
Args = λ names d ts rest. (x : Exprs) × AreArgs names d x ts rest

abbrev pub MoreArgs : Parts
MoreArgs = λ names d ts rest. (x : Exprs) × AreMoreArgs names d x ts rest

abbrev pub ABlock : Parts
ABlock = λ names d ts rest. (x : Block) × IsBlock names d x ts rest

abbrev pub AForm : Parts
AForm = λ names d ts rest. (x : Form) × IsForm names d x ts rest

abbrev pub AnElseIf : Parts
AnElseIf = λ names d ts rest. (x : ElseIf) × IsElseIf names d x ts rest

abbrev pub SomeElses : Parts
SomeElses = λ names d ts rest. (x : Elses) × AreElses names d x ts rest

abbrev pub AStep : Parts
AStep = λ names d ts rest. (x : Step) × IsStep names d x ts rest

abbrev pub SomeSteps : Parts
SomeSteps = λ names d ts rest. (x : Steps) × AreSteps names d x ts rest

abbrev pub SomeStmts : Parts
SomeStmts = λ names d ts rest. (x : Stmts) × AreStmts names d x ts rest

-- ---- the least of each

one_token : (t : Token) (kind : TokenKind) (P : Parts) → t.kind ≡ kind → ((names : List (List ℕ)) (d : ℕ) (more : List Token) → P names d (token kind t.at ∷ more) more) → Whole P (t ∷ [])
one_token t kind P e f = record { levels = 0; whole = λ names d knows le more. subst (λ (z : List Token). P names d z more) (sym (same_kind t kind more e)) (f names d more) }

pub one_reads : {A : Type 0} {P : Parts} (t : Token) (kind : TokenKind) (x : A) (ts : List Token) → t.kind ≡ kind → ((names : List (List ℕ)) (d : ℕ) (more : List Token) → P names d (token kind t.at ∷ more) more) → Reads P (t ∷ ts) (Ok (x, ts))
one_reads {P = P} t kind x ts e f = record { took = (t ∷ [], refl, one_token t kind P e f) }

pub some_type : Some_ AType
some_type = (token (k.Word w.Int) spot ∷ [], one_token (token (k.Word w.Int) spot) (k.Word w.Int) AType refl (λ names d more. (int_type spot, refl)))

pub some_expr : (r : ℕ) → Some_ (AnExpr r)
some_expr r = (token (k.Word w.True) spot ∷ [], one_token (token (k.Word w.True) spot) (k.Word w.True) (AnExpr r) refl (λ names d more. (truth spot true, refl)))

pub empty_whole : (P : Parts) → ((names : List (List ℕ)) (d : ℕ) (ts : List Token) → P names d ts ts) → Whole P []
empty_whole P f = record { levels = 0; whole = λ names d knows le more. f names d more }

pub nothing_some : (P : Parts) → ((names : List (List ℕ)) (d : ℕ) (ts : List Token) → P names d ts ts) → Some_ P
nothing_some P f = ([], record { levels = 0; whole = λ names d knows le more. f names d more })

pub some_args : Some_ Args
some_args = nothing_some Args (λ names d ts. (no_exprs, refl))

pub some_more_args : Some_ MoreArgs
some_more_args = nothing_some MoreArgs (λ names d ts. (no_exprs, refl))

pub some_elses : Some_ SomeElses
some_elses = nothing_some SomeElses (λ names d ts. (no_else, refl))

pub some_steps : Some_ SomeSteps
some_steps = nothing_some SomeSteps (λ names d ts. (no_steps, refl))

pub some_stmts : Some_ SomeStmts
some_stmts = nothing_some SomeStmts (λ names d ts. (no_stmts, refl))

pub some_deep : (P : Parts) → Some_ P → Some_ (Deep P)
some_deep P p = (p.0, whole_deep P p.0 p.1)

pub some_within : {P Q : Parts} → Within P Q → Some_ P → Some_ Q
some_within f p = (p.0, whole_within f p.0 p.1)

block_of : Within (Sign_ s.OpenBrace ▸▸ Deep SomeStmts ▸▸ Sign_ s.CloseBrace) ABlock
block_of names zero ts rest (m, (at, h), (m2, g, h2)) = absurd g
block_of names (suc d) ts rest (m, (at, h), (m2, g, (end, h2))) = (block at end g.0, (m, h, (m2, g.1, h2)))

some_block_tail : Some_ (Deep SomeStmts ▸▸ Sign_ s.CloseBrace)
some_block_tail = some_then (Deep SomeStmts) (Sign_ s.CloseBrace) (some_deep SomeStmts some_stmts) (some_sign s.CloseBrace)

pub some_block : Some_ ABlock
some_block = some_within block_of (some_then (Sign_ s.OpenBrace) (Deep SomeStmts ▸▸ Sign_ s.CloseBrace) (some_sign s.OpenBrace) some_block_tail)

-- ---- one level deeper

pub record InnerReads (i : Inner) : Type 0 where
  pub type_expr : (ts : List Token) → Reads AType ts (i.type_expr ts)
  pub place : (ts : List Token) → Reads (AnExpr postfix) ts (i.place ts)
  pub operand : (ts : List Token) → Reads (AnExpr operand) ts (i.operand ts)
  pub whole : (ts : List Token) → Reads (AnExpr whole) ts (i.whole ts)
  pub args : (ts : List Token) → Reads Args ts (i.args ts)
  pub stmts : (ts : List Token) → Reads SomeStmts ts (i.stmts ts)

abbrev pub Law : Option Inner → Type 0
Law None = Unit {0}
Law (Some i) = InnerReads i

-- what opens a level, and what lies inside and after it
open_by : {A B : Type 0} (P Q : Parts) (o : Option Inner) → Law o → (f : A × List Token → Inner → Read B) (ts : List Token) (r : Read A) → Reads P ts r → Some_ P → Some_ Q → ((i : Inner) → InnerReads i → (x : A × List Token) → Reads Q x.1 (f x i)) → Reads (P ▸▸ Q) ts (r >>= λ x. inside o ts (f x))
open_by P Q None law f ts (Ok x) h p q k = record { took = ([], refl, some_then P Q p q) }
open_by P Q None law f ts (Err e) h p q k = record { took = (h.took.0, h.took.1, viable_first P Q h.took.0 h.took.2 q) }
open_by P Q (Some i) law f ts r h p q k = step h q (λ x. k i law x)

pub opens : {A B : Type 0} {P Q : Parts} (o : Option Inner) → Law o → (f : A × List Token → Inner → Read B) {ts : List Token} {r : Read A} → Reads P ts r → Some_ P → Some_ Q → ((i : Inner) → InnerReads i → (x : A × List Token) → Reads Q x.1 (f x i)) → Reads (P ▸▸ Q) ts (r >>= λ x. inside o ts (f x))
opens {P = P} {Q = Q} o law f {ts = ts} {r = r} h p q k = open_by P Q o law f ts r h p q k

-- with a sign or a word before it
pub sign_opens : {B : Type 0} {Q : Parts} (o : Option Inner) → Law o → (x : Sign) (f : Spot × List Token → Inner → Read B) (ts : List Token) → Some_ Q → ((i : Inner) → InnerReads i → (a : Spot × List Token) → Reads Q a.1 (f a i)) → Reads (Sign_ x ▸▸ Q) ts (sign_at x ts >>= λ a. inside o ts (f a))
sign_opens o law x f ts q k = opens o law f (sign_reads x ts) (some_sign x) q k

pub word_opens : {B : Type 0} {Q : Parts} (o : Option Inner) → Law o → (x : Word) (f : Spot × List Token → Inner → Read B) (ts : List Token) → Some_ Q → ((i : Inner) → InnerReads i → (a : Spot × List Token) → Reads Q a.1 (f a i)) → Reads (Word_ x ▸▸ Q) ts (word_at x ts >>= λ a. inside o ts (f a))
word_opens o law x f ts q k = opens o law f (word_reads x ts) (some_word x) q k

open_only_by : {A X E : Type 0} (P Q : Parts) (o : Option Inner) → Law o → (f : A × List Token → Inner → Read (Turn X E)) (ts : List Token) (r : Read A) → Reads P ts r → Some_ P → Some_ Q → ((i : Inner) → InnerReads i → (x : A × List Token) → Only Q x.1 (f x i)) → Only (P ▸▸ Q) ts (r >>= λ x. inside o ts (f x))
open_only_by P Q None law f ts (Ok x) h p q k = record { took = ([], refl, some_then P Q p q) }
open_only_by P Q None law f ts (Err e) h p q k = record { took = (h.took.0, h.took.1, viable_first P Q h.took.0 h.took.2 q) }
open_only_by P Q (Some i) law f ts r h p q k = ostep h q (λ x. k i law x)

pub sign_opens_only : {X E : Type 0} {Q : Parts} (o : Option Inner) → Law o → (x : Sign) (f : Spot × List Token → Inner → Read (Turn X E)) (ts : List Token) → Some_ Q → ((i : Inner) → InnerReads i → (a : Spot × List Token) → Only Q a.1 (f a i)) → Only (Sign_ x ▸▸ Q) ts (sign_at x ts >>= λ a. inside o ts (f a))
sign_opens_only {Q = Q} o law x f ts q k = open_only_by (Sign_ x) Q o law f ts (sign_at x ts) (sign_reads x ts) (some_sign x) q k

pub word_opens_only : {X E : Type 0} {Q : Parts} (o : Option Inner) → Law o → (x : Word) (f : Spot × List Token → Inner → Read (Turn X E)) (ts : List Token) → Some_ Q → ((i : Inner) → InnerReads i → (a : Spot × List Token) → Only Q a.1 (f a i)) → Only (Word_ x ▸▸ Q) ts (word_at x ts >>= λ a. inside o ts (f a))
word_opens_only {Q = Q} o law x f ts q k = open_only_by (Word_ x) Q o law f ts (word_at x ts) (word_reads x ts) (some_word x) q k

-- ---- lists with commas

module _ {X L : Type 0} (item : Reader X) (P R Others : Parts) (law : (ts : List Token) → Reads P ts (item ts)) (some : Some_ P) (more : X → L → L) (nil : L)
    (first : Within (P ▸▸ Others) R) (next : Within ((Sign_ s.Comma ▸▸ P) ▸▸ Others) Others)
    (none : (names : List (List ℕ)) (d : ℕ) (ts : List Token) → R names d ts ts) (none2 : (names : List (List ℕ)) (d : ℕ) (ts : List Token) → Others names d ts ts) where
  pub comma_turns : (ts : List Token) → Turns (Sign_ s.Comma ▸▸ P) Others ts (comma_turn item ts)
  unfolding comma_turn
  comma_turns ts = if_turns (begins s.Comma ts) (only_turns (ostep (sign_reads s.Comma ts) some (λ c. adds _ (law c.1) (λ x. refl)))) (ended (Sign_ s.Comma ▸▸ P) Others tt ts (empty_whole Others none2))

  pub commas_read : (close : Sign) (ts : List Token) → Reads R ts (commas_at close item more nil ts)
  commas_read close ts = if_reads (begins close ts) (record { took = ([], refl, empty_whole R none) })
      (into first (step (law ts) (nothing_some Others none2) (λ x. last _ (turns_read (Sign_ s.Comma ▸▸ P) Others next (nothing_some Others none2) (comma_turn item) more (λ _. nil) faulty comma_turns (λ ts. refused ts (nothing_some Others none2)) (enough x.1) x.1) (λ xs. refl))))

-- ---- parts of parts

array_type_of : Within (Sign_ s.OpenBracket ▸▸ Deep (Sign_ s.CloseBracket ▸▸ AType)) AType
array_type_of names zero ts rest (m, (at, h), g) = absurd g
array_type_of names (suc d) ts rest (m, (at, h), (m2, h2, (x, g))) = (array_type at x, (m, h, (m2, h2, g)))

ref_type_of : Within (Sign_ s.Ampersand ▸▸ Deep AType) AType
ref_type_of names zero ts rest (m, (at, h), g) = absurd g
ref_type_of names (suc d) ts rest (m, (at, h), (x, g)) = (ref_type at x, (m, h, g))

imm_type_of : Within (Sign_ s.Ampersand ▸▸ Deep (Word_ w.Imm ▸▸ AType)) AType
imm_type_of names zero ts rest (m, (at, h), g) = absurd g
imm_type_of names (suc d) ts rest (m, (at, h), (m2, h2, (x, g))) = (imm_ref_type at x, (m, h, (m2, h2, g)))

iso_type_of : Within (Word_ w.Iso ▸▸ Deep AType) AType
iso_type_of names zero ts rest (m, (at, h), g) = absurd g
iso_type_of names (suc d) ts rest (m, (at, h), (x, g)) = (iso_type at x, (m, h, g))

-- a reference to either
abbrev Referred : Parts
Referred = λ names d ts rest. AType names d ts rest ⊎ (Word_ w.Imm ▸▸ AType) names d ts rest

either_type_of : Within (Sign_ s.Ampersand ▸▸ Deep Referred) AType
either_type_of names zero ts rest (m, h, g) = absurd g
either_type_of names (suc d) ts rest (m, h, inl g) = ref_type_of names (suc d) ts rest (m, h, g)
either_type_of names (suc d) ts rest (m, h, inr g) = imm_type_of names (suc d) ts rest (m, h, g)

named_type_of : Within AName AType
named_type_of names d ts rest (n, h) = (named_type n, h)

differs : (b : Bool) → b ≡ false → b ≡ true → ⊥
differs b e f = let g : false ≡ true = sym e ∙ f in cc

looser : (names : List (List ℕ)) (d r r2 : ℕ) (e : Expr) (ts rest : List Token) → r ≤ r2 → IsExpr names r d e ts rest → IsExpr names r2 d e ts rest
looser names d r r2 (set at p e) ts rest le h = let more : whole ≤ r2 = omega (arith, h.0, le) in (more, h.1)
looser names d r r2 (chain e ls) ts rest le h = let lt : h.0 < r2 = omega (arith, h.1) in (h.0, lt, h.2, h.3)
looser names d r r2 (unary at op e) ts rest le h = let more : operand ≤ r2 = omega (arith, h.0, le) in (more, h.1)
looser names d r r2 (steps e ss) ts rest le h = let more : postfix ≤ r2 = omega (arith, h.0.0, le) in ((more, h.0.1), h.1)
looser names d r r2 (number at n) ts rest le h = h
looser names d r r2 (quote at n) ts rest le h = h
looser names d r r2 (truth at n) ts rest le h = h
looser names d r r2 (name n) ts rest le h = h
looser names d r r2 (call n es) ts rest le h = h
looser names d r r2 (paren at e) ts rest le h = h
looser names d r r2 (array at x es) ts rest le h = h
looser names d r r2 (iso at b) ts rest le h = h
looser names d r r2 (form f) ts rest le h = h

pub ranked : (r r2 : ℕ) → r ≤ r2 → Within (AnExpr r) (AnExpr r2)
ranked r r2 le names d ts rest (x, h) = (x, looser names d r r2 x ts rest le h)

else_if_of : Within (Word_ w.Else ▸▸ Word_ w.If ▸▸ Deep (AnExpr whole) ▸▸ ABlock) AnElseIf
else_if_of names zero ts rest (m, h0, (m2, (at, h), (m3, g, h2))) = absurd g
else_if_of names (suc d) ts rest (m, h0, (m2, (at, h), (m3, (c, g), (b, h2)))) = (else_if at c b, (m, h0, (m2, h, (m3, g, h2))))

else_of : Within (Word_ w.Else ▸▸ ABlock) SomeElses
else_of names d ts rest (m, h, (b, g)) = (otherwise b, (m, h, g))

more_else_of : Within (AnElseIf ▸▸ SomeElses) SomeElses
more_else_of names d ts rest (m, (x, h), (xs, g)) = (more_elses x xs, (m, h, g))

branch_of : Within (Word_ w.If ▸▸ Deep (AnExpr whole) ▸▸ ABlock ▸▸ SomeElses) AForm
branch_of names zero ts rest (m, (at, h), (m2, g, h2)) = absurd g
branch_of names (suc d) ts rest (m, (at, h), (m2, (c, g), (m3, (b, h2), (es, h3)))) = (branch at c b es, (m, h, (m2, g, (m3, h2, h3))))

pure_of : Within (Word_ w.Pure ▸▸ ABlock) AForm
pure_of names d ts rest (m, (at, h), (b, g)) = (pure at b, (m, h, g))

-- the second bound of a loop, or none
abbrev To : Parts
To = λ names d ts rest. Nothing names d ts rest ⊎ (Sign_ s.DotDot ▸▸ AnExpr whole) names d ts rest

parallel_of : Within (Word_ w.Parallel ▸▸ Deep (Word_ w.Foreach) ▸▸ Deep AName ▸▸ Deep (Word_ w.In) ▸▸ Deep (AnExpr whole) ▸▸ Deep To ▸▸ ABlock) AForm
parallel_of names zero ts rest (m, h, (m1, h1, h2)) = absurd h1
parallel_of names (suc d) ts rest (m, (at, h), (m1, h1, (m2, (n, h2), (m3, h3, (m4, (e, h4), (m5, inl h5, (b, h6))))))) =
    (parallel_each at n e b, (m, h, (m5, (m1, h1, (m2, h2, (m3, h3, subst (λ (z : List Token). IsExpr names whole d e m3 z) h5 h4))), h6)))
parallel_of names (suc d) ts rest (m, (at, h), (m1, h1, (m2, (n, h2), (m3, h3, (m4, (e, h4), (m5, inr (m6, h5, (f, h7)), (b, h6))))))) =
    (parallel_range at n e f b, (m, h, (m5, (m1, h1, (m2, h2, (m3, h3, (m4, h4, (m6, h5, h7))))), h6)))

abbrev pub ArgsIn : Parts
ArgsIn = λ names d ts rest. (es : Exprs) × (sign s.OpenParen ▸ deeper d (λ d. AreArgs names d es) ▸ sign s.CloseParen) ts rest

args_in_of : Within (Sign_ s.OpenParen ▸▸ Deep Args ▸▸ Sign_ s.CloseParen) ArgsIn
args_in_of names zero ts rest (m, h, (m2, g, h2)) = absurd g
args_in_of names (suc d) ts rest (m, h, (m2, (es, g), h2)) = (es, (m, h, (m2, g, h2)))

some_args_tail : Some_ (Deep Args ▸▸ Sign_ s.CloseParen)
some_args_tail = some_then (Deep Args) (Sign_ s.CloseParen) (some_deep Args some_args) (some_sign s.CloseParen)

some_args_in : Some_ ArgsIn
some_args_in = some_within args_in_of (some_then (Sign_ s.OpenParen) (Deep Args ▸▸ Sign_ s.CloseParen) (some_sign s.OpenParen) some_args_tail)

-- arguments, or none
abbrev MaybeArgs : Parts
MaybeArgs = λ names d ts rest. Nothing names d ts rest ⊎ ArgsIn names d ts rest

some_maybe : Some_ MaybeArgs
some_maybe = nothing_some MaybeArgs (λ names d ts. inl refl)

called_of : Within (AName ▸▸ MaybeArgs) (AnExpr primary)
called_of names d ts rest (m, (n, h), inl e) = (name n, subst (λ (z : List Token). named names n ts z) e h)
called_of names d ts rest (m, (n, h), inr (es, g)) = (call n es, (m, h, g))

paren_of : Within (Sign_ s.OpenParen ▸▸ Deep (AnExpr whole) ▸▸ Sign_ s.CloseParen) (AnExpr primary)
paren_of names zero ts rest (m, h, (m2, g, h2)) = absurd g
paren_of names (suc d) ts rest (m, (at, h), (m2, (x, g), h2)) = (paren at x, (m, h, (m2, g, h2)))

array_of : Within (Sign_ s.OpenBracket ▸▸ Deep (Sign_ s.CloseBracket) ▸▸ Deep AType ▸▸ ArgsIn) (AnExpr primary)
array_of names zero ts rest (m, h, (m2, g, h2)) = absurd g
array_of names (suc d) ts rest (m, (at, h), (m2, h2, (m3, (x, h3), (es, g)))) = (array at x es, (m, h, (m3, (m2, h2, h3), g)))

iso_of : Within (Word_ w.Iso ▸▸ ABlock) (AnExpr primary)
iso_of names d ts rest (m, (at, h), (b, g)) = (iso at b, (m, h, g))

form_of : Within AForm (AnExpr primary)
form_of names d ts rest (f, h) = (form f, h)

member_of : Within (Sign_ s.Dot ▸▸ AName ▸▸ MaybeArgs) AStep
member_of names d ts rest (m, (at, h), (m2, (n, h2), inl e)) = (field at n.name, (m, h, (n.at, subst (λ (z : List Token). named names n m z) e h2)))
member_of names d ts rest (m, (at, h), (m2, (n, h2), inr (es, g))) = (method at n.name es, (m, h, (m2, (n.at, h2), g)))

index_of : Within (Sign_ s.OpenBracket ▸▸ Deep (AnExpr whole) ▸▸ Sign_ s.CloseBracket) AStep
index_of names zero ts rest (m, h, (m2, g, h2)) = absurd g
index_of names (suc d) ts rest (m, (at, h), (m2, (x, g), h2)) = (index at x, (m, h, (m2, g, h2)))

more_steps_of : Within (AStep ▸▸ SomeSteps) SomeSteps
more_steps_of names d ts rest (m, (x, h), (xs, g)) = (more_steps x xs, (m, h, g))

stepped_of : Within (AnExpr primary ▸▸ SomeSteps) (AnExpr postfix)
stepped_of names d ts rest (m, (x, h), (no_steps, g)) = let le : primary ≤ postfix = omega arith in (x, looser names d primary postfix x ts rest le (subst (λ (z : List Token). IsExpr names primary d x ts z) g h))
stepped_of names d ts rest (m, (x, h), (more_steps p ps, g)) = let le : postfix ≤ postfix = omega arith in (steps x (more_steps p ps), ((le, tt), (m, h, g)))

abbrev Unary : UnaryOp → Parts
Unary op = λ names d ts rest. (at : Spot) × one (unary_kind op) at ts rest

unary_of_parts : (op : UnaryOp) → Within (Unary op ▸▸ Deep (AnExpr operand)) (AnExpr operand)
unary_of_parts op names zero ts rest (m, h, g) = absurd g
unary_of_parts op names (suc d) ts rest (m, (at, h), (x, g)) = let le : operand ≤ operand = omega arith in (unary at op x, (le, (m, h, g)))

abbrev pub ALink : ℕ → Parts
ALink n = λ names d ts rest. (l : Link) × IsLink names (suc (suc n)) d l ts rest

abbrev pub SomeLinks : ℕ → Parts
SomeLinks n = λ names d ts rest. (ls : Links) × AreLinks names (suc (suc n)) d ls ts rest

abbrev AtMostOne : Links → Type 0
AtMostOne no_links = Unit {0}
AtMostOne (more_links l ls) = ls ≡ no_links

-- the links that a chain may have
abbrev pub RankLinks : ℕ → Parts
RankLinks n = λ names d ts rest. (ls : Links) × (suc n ≡ 3 → AtMostOne ls) × AreLinks names (suc (suc n)) d ls ts rest

abbrev Binary : BinaryOp → Parts
Binary op = λ names d ts rest. (at : Spot) × one (binary_kind op) at ts rest

link_of : (n : ℕ) (op : BinaryOp) → rank op ≡ suc (suc (suc n)) → Within (Binary op ▸▸ AnExpr (suc (suc n))) (ALink n)
link_of n op is names d ts rest (m, (at, h), (x, g)) = (link at op x, (is, (m, h, g)))

more_links_of : (n : ℕ) → Within (ALink n ▸▸ SomeLinks n) (SomeLinks n)
more_links_of n names d ts rest (m, (x, h), (xs, g)) = (more_links x xs, (m, h, g))

one_link_of : (n : ℕ) → Within (ALink n) (RankLinks n)
one_link_of n names d ts rest (x, h) = (more_links x no_links, (λ e. refl), (rest, h, refl))

some_links : (n : ℕ) → Some_ (SomeLinks n)
some_links n = nothing_some (SomeLinks n) (λ names d ts. (no_links, refl))

some_rank_links : (n : ℕ) → Some_ (RankLinks n)
some_rank_links n = nothing_some (RankLinks n) (λ names d ts. (no_links, (λ e. tt), refl))

chain_of : (n : ℕ) → Within (AnExpr (suc (suc n)) ▸▸ RankLinks n) (AnExpr (suc (suc (suc n))))
chain_of n names d ts rest (m, (x, h), (no_links, only, g)) = let le : suc (suc n) ≤ suc (suc (suc n)) = omega arith in (x, looser names d (suc (suc n)) (suc (suc (suc n))) x ts rest le (subst (λ (z : List Token). IsExpr names (suc (suc n)) d x ts z) g h))
chain_of n names d ts rest (m, (x, h), (more_links l ls, only, g)) = let lt : suc (suc n) < suc (suc (suc n)) = omega arith in (chain x (more_links l ls), (suc (suc n), lt, (λ e. only (let three : suc n ≡ 3 = omega (arith, e) in three)), (m, h, g)))

set_of : Within (Word_ w.Set ▸▸ Deep (AnExpr postfix) ▸▸ Deep (Sign_ s.Assign) ▸▸ Deep (AnExpr whole)) (AnExpr whole)
set_of names zero ts rest (m, h, (m2, g, h2)) = absurd g
set_of names (suc d) ts rest (m, (at, h), (m2, (p, g), (m3, h2, (x, h3)))) = let le : whole ≤ whole = omega arith in (set at p x, (le, (m, h, (m2, g, (m3, h2, h3)))))

first_arg : Within (AnExpr whole ▸▸ MoreArgs) Args
first_arg names d ts rest (m, (x, h), (xs, g)) = (more_exprs x xs, (m, h, g))

next_arg : Within ((Sign_ s.Comma ▸▸ AnExpr whole) ▸▸ MoreArgs) MoreArgs
next_arg names d ts rest (m, (m2, h, (x, h2)), (xs, g)) = (more_exprs x xs, (m2, h, (m, h2, g)))

-- ---- what completes the rest of a part

some_cond : Some_ (Deep (AnExpr whole) ▸▸ ABlock)
some_cond = some_then (Deep (AnExpr whole)) ABlock (some_deep (AnExpr whole) (some_expr whole)) some_block

some_block_elses : Some_ (ABlock ▸▸ SomeElses)
some_block_elses = some_then ABlock SomeElses some_block some_elses

some_to : Some_ To
some_to = nothing_some To (λ names d ts. inl refl)

some_after_expr : Some_ (Deep To ▸▸ ABlock)
some_after_expr = some_then (Deep To) ABlock (some_deep To some_to) some_block

some_expr_on : Some_ (Deep (AnExpr whole) ▸▸ Deep To ▸▸ ABlock)
some_expr_on = some_then (Deep (AnExpr whole)) (Deep To ▸▸ ABlock) (some_deep (AnExpr whole) (some_expr whole)) some_after_expr

some_in_on : Some_ (Deep (Word_ w.In) ▸▸ Deep (AnExpr whole) ▸▸ Deep To ▸▸ ABlock)
some_in_on = some_then (Deep (Word_ w.In)) (Deep (AnExpr whole) ▸▸ Deep To ▸▸ ABlock) (some_deep (Word_ w.In) (some_word w.In)) some_expr_on

some_name_on : Some_ (Deep AName ▸▸ Deep (Word_ w.In) ▸▸ Deep (AnExpr whole) ▸▸ Deep To ▸▸ ABlock)
some_name_on = some_then (Deep AName) (Deep (Word_ w.In) ▸▸ Deep (AnExpr whole) ▸▸ Deep To ▸▸ ABlock) (some_deep AName some_name) some_in_on

some_foreach_on : Some_ (Deep (Word_ w.Foreach) ▸▸ Deep AName ▸▸ Deep (Word_ w.In) ▸▸ Deep (AnExpr whole) ▸▸ Deep To ▸▸ ABlock)
some_foreach_on = some_then (Deep (Word_ w.Foreach)) (Deep AName ▸▸ Deep (Word_ w.In) ▸▸ Deep (AnExpr whole) ▸▸ Deep To ▸▸ ABlock) (some_deep (Word_ w.Foreach) (some_word w.Foreach)) some_name_on

pub some_form : Some_ AForm
some_form = some_within pure_of (some_then (Word_ w.Pure) ABlock (some_word w.Pure) some_block)

some_close : (P : Parts) (x : Sign) → Some_ P → Some_ (Deep P ▸▸ Sign_ x)
some_close P x p = some_then (Deep P) (Sign_ x) (some_deep P p) (some_sign x)

some_type_args : Some_ (Deep AType ▸▸ ArgsIn)
some_type_args = some_then (Deep AType) ArgsIn (some_deep AType some_type) some_args_in

some_array_on : Some_ (Deep (Sign_ s.CloseBracket) ▸▸ Deep AType ▸▸ ArgsIn)
some_array_on = some_then (Deep (Sign_ s.CloseBracket)) (Deep AType ▸▸ ArgsIn) (some_deep (Sign_ s.CloseBracket) (some_sign s.CloseBracket)) some_type_args

some_assign_on : Some_ (Deep (Sign_ s.Assign) ▸▸ Deep (AnExpr whole))
some_assign_on = some_then (Deep (Sign_ s.Assign)) (Deep (AnExpr whole)) (some_deep (Sign_ s.Assign) (some_sign s.Assign)) (some_deep (AnExpr whole) (some_expr whole))

some_set_on : Some_ (Deep (AnExpr postfix) ▸▸ Deep (Sign_ s.Assign) ▸▸ Deep (AnExpr whole))
some_set_on = some_then (Deep (AnExpr postfix)) (Deep (Sign_ s.Assign) ▸▸ Deep (AnExpr whole)) (some_deep (AnExpr postfix) (some_expr postfix)) some_assign_on

-- ---- readers

module _ (names : List (List ℕ)) (o : Option Inner) (law : Law o) where
  ref_by_reads : (i : Inner) → InnerReads i → (at : Spot) (ts : List Token) (is : Bool) → Reads Referred ts (ref_by names i at ts is)
  ref_by_reads i law at ts true = into (λ names d ts rest h. inr h) (step (word_reads w.Imm ts) some_type (λ a. last _ (law.type_expr a.1) (λ x. refl)))
  ref_by_reads i law at ts false = into (λ names d ts rest h. inl h) (last _ (law.type_expr ts) (λ x. refl))

  ref_reads : (ts : List Token) → Reads AType ts (ref_type_at names o ts)
  unfolding ref_type_at
  ref_reads ts = into either_type_of (sign_opens o law s.Ampersand _ ts (some_deep Referred (some_within (λ names d ts rest h. inl h) some_type)) (λ i law a. deep (ref_by_reads i law a.0 a.1 (begins_word w.Imm a.1))))

  array_type_reads : (ts : List Token) → Reads AType ts (array_type_at names o ts)
  unfolding array_type_at
  array_type_reads ts = into array_type_of (sign_opens o law s.OpenBracket _ ts (some_deep (Sign_ s.CloseBracket ▸▸ AType) (some_then (Sign_ s.CloseBracket) AType (some_sign s.CloseBracket) some_type)) (λ i law a. deep (step (sign_reads s.CloseBracket a.1) some_type (λ c. last _ (law.type_expr c.1) (λ x. refl)))))

  iso_type_reads : (ts : List Token) → Reads AType ts (iso_type_at names o ts)
  unfolding iso_type_at
  iso_type_reads ts = into iso_type_of (word_opens o law w.Iso _ ts (some_deep AType some_type) (λ i law a. deep (last _ (law.type_expr a.1) (λ x. refl))))

  type_by_reads : (t : Token) (ts : List Token) (kind : TokenKind) → t.kind ≡ kind → Reads AType (t ∷ ts) (type_by names o t ts kind)
  type_by_reads t ts (k.Word w.Int) e = one_reads t _ _ ts e (λ names d more. (int_type t.at, refl))
  type_by_reads t ts (k.Word w.Bool) e = one_reads t _ _ ts e (λ names d more. (bool_type t.at, refl))
  type_by_reads t ts (k.Word w.Str) e = one_reads t _ _ ts e (λ names d more. (str_type t.at, refl))
  type_by_reads t ts (k.Name text) e = into named_type_of (last _ (name_reads names (t ∷ ts)) (λ x. refl))
  type_by_reads t ts (k.Sign s.OpenBracket) e = array_type_reads (t ∷ ts)
  type_by_reads t ts (k.Sign s.Ampersand) e = ref_reads (t ∷ ts)
  type_by_reads t ts (k.Word w.Iso) e = iso_type_reads (t ∷ ts)
  type_by_reads t ts _ e = refused (t ∷ ts) some_type

  pub type_reads : (ts : List Token) → Reads AType ts (type_at names o ts)
  unfolding type_at
  type_reads [] = refused [] some_type
  type_reads (t ∷ ts) = type_by_reads t ts t.kind refl

  -- ---- blocks and forms

  pub block_reads : (ts : List Token) → Reads ABlock ts (block_at names o ts)
  unfolding block_at
  block_reads ts = into block_of (sign_opens o law s.OpenBrace _ ts some_block_tail (λ i law a. step (deep (law.stmts a.1)) (some_sign s.CloseBrace) (λ xs. last _ (sign_reads s.CloseBrace xs.1) (λ c. refl))))

  -- after `else`
  else_by_turns : (ts : List Token) (is : Bool) → Turns (Word_ w.If ▸▸ Deep (AnExpr whole) ▸▸ ABlock) ABlock ts (else_by names o ts is)
  else_by_turns ts true = only_turns (word_opens_only o law w.If _ ts some_cond (λ i law a. ostep (deep (law.whole a.1)) some_block (λ c. adds _ (block_reads c.1) (λ b. refl))))
  else_by_turns ts false = ending _ (block_reads ts) (λ b. refl)

  some_else_if : Some_ (Word_ w.If ▸▸ Deep (AnExpr whole) ▸▸ ABlock)
  some_else_if = some_then (Word_ w.If) (Deep (AnExpr whole) ▸▸ ABlock) (some_word w.If) some_cond

  else_turn_by_turns : (ts : List Token) (is : Bool) → Turns AnElseIf SomeElses ts (else_turn_by names o ts is)
  else_turn_by_turns ts true = into_turn else_if_of else_of (tstep (word_reads w.Else ts) some_else_if (λ e. else_by_turns e.1 (begins_word w.If e.1)))
  else_turn_by_turns ts false = ended AnElseIf SomeElses None ts (empty_whole SomeElses (λ names d ts. (no_else, refl)))

  pub else_turns : (ts : List Token) → Turns AnElseIf SomeElses ts (else_turn names o ts)
  unfolding else_turn
  else_turns ts = else_turn_by_turns ts (begins_word w.Else ts)

  elses_read : (ts : List Token) → Reads SomeElses ts (elses_at names o ts)
  unfolding elses_at
  elses_read ts = turns_read AnElseIf SomeElses more_else_of some_elses (else_turn names o) more_elses else_end faulty else_turns (λ ts. refused ts some_elses) (enough ts) ts

  branch_reads : (ts : List Token) → Reads AForm ts (branch_at names o ts)
  unfolding branch_at
  branch_reads ts = into branch_of (word_opens o law w.If _ ts (some_then (Deep (AnExpr whole)) (ABlock ▸▸ SomeElses) (some_deep (AnExpr whole) (some_expr whole)) some_block_elses)
      (λ i law a. step (deep (law.whole a.1)) some_block_elses (λ c. step (block_reads c.1) some_elses (λ b. last _ (elses_read b.1) (λ es. refl)))))

  pure_reads : (ts : List Token) → Reads AForm ts (pure_at names o ts)
  pure_reads ts = into pure_of (step (word_reads w.Pure ts) some_block (λ a. last _ (block_reads a.1) (λ b. refl)))

  bound_by_reads : (i : Inner) → InnerReads i → (ts : List Token) (is : Bool) → Reads To ts (bound_by i ts is)
  bound_by_reads i law ts true = into (λ names d ts rest h. inr h) (step (sign_reads s.DotDot ts) (some_expr whole) (λ a. last _ (law.whole a.1) (λ x. refl)))
  bound_by_reads i law ts false = into (λ names d ts rest h. inl h) (done None ts)

  bound_reads : (i : Inner) → InnerReads i → (ts : List Token) → Reads To ts (bound_at i ts)
  unfolding bound_at
  bound_reads i law ts = bound_by_reads i law ts (begins s.DotDot ts)

  parallel_reads : (ts : List Token) → Reads AForm ts (parallel_at names o ts)
  unfolding parallel_at
  parallel_reads ts = into parallel_of (word_opens o law w.Parallel _ ts some_foreach_on (λ i law a. step (deep (word_reads w.Foreach a.1)) some_name_on (λ f. step (deep (name_reads names f.1)) some_in_on
      (λ n. step (deep (word_reads w.In n.1)) some_expr_on (λ c. step (deep (law.whole c.1)) some_after_expr (λ e. step (deep (bound_reads i law e.1)) some_block (λ to. last _ (block_reads to.1) (λ b. refl))))))))

  form_by_reads : (t : Token) (ts : List Token) (kind : TokenKind) → Reads AForm (t ∷ ts) (form_by names o t ts kind)
  form_by_reads t ts (k.Word w.If) = branch_reads (t ∷ ts)
  form_by_reads t ts (k.Word w.Pure) = pure_reads (t ∷ ts)
  form_by_reads t ts (k.Word w.Parallel) = parallel_reads (t ∷ ts)
  form_by_reads t ts _ = refused (t ∷ ts) some_form

  pub form_reads : (ts : List Token) → Reads AForm ts (form_at names o ts)
  unfolding form_at
  form_reads [] = refused [] some_form
  form_reads (t ∷ ts) = form_by_reads t ts t.kind

  -- ---- operands

  arguments_read : (ts : List Token) → Reads ArgsIn ts (arguments_at names o ts)
  unfolding arguments_at
  arguments_read ts = into args_in_of (sign_opens o law s.OpenParen _ ts some_args_tail (λ i law a. step (deep (law.args a.1)) (some_sign s.CloseParen) (λ es. last _ (sign_reads s.CloseParen es.1) (λ c. refl))))

  called_by_reads : (n : NameAt) (ts : List Token) (is : Bool) → Reads MaybeArgs ts (called_by names o n ts is)
  called_by_reads n ts true = into (λ names d ts rest h. inr h) (last _ (arguments_read ts) (λ es. refl))
  called_by_reads n ts false = into (λ names d ts rest h. inl h) (done (name n) ts)

  called_reads : (ts : List Token) → Reads (AnExpr primary) ts (called_at names o ts)
  unfolding called_at
  called_reads ts = into called_of (step (name_reads names ts) some_maybe (λ n. called_by_reads n.0 n.1 (begins s.OpenParen n.1)))

  paren_reads : (ts : List Token) → Reads (AnExpr primary) ts (paren_at names o ts)
  unfolding paren_at
  paren_reads ts = into paren_of (sign_opens o law s.OpenParen _ ts (some_close (AnExpr whole) s.CloseParen (some_expr whole)) (λ i law a. step (deep (law.whole a.1)) (some_sign s.CloseParen) (λ e. last _ (sign_reads s.CloseParen e.1) (λ c. refl))))

  array_reads : (ts : List Token) → Reads (AnExpr primary) ts (array_at names o ts)
  unfolding array_at
  array_reads ts = into array_of (sign_opens o law s.OpenBracket _ ts some_array_on (λ i law a. step (deep (sign_reads s.CloseBracket a.1)) some_type_args (λ c. step (deep (law.type_expr c.1)) some_args_in (λ x. last _ (arguments_read x.1) (λ es. refl)))))

  iso_reads : (ts : List Token) → Reads (AnExpr primary) ts (iso_at names o ts)
  iso_reads ts = into iso_of (step (word_reads w.Iso ts) some_block (λ a. last _ (block_reads a.1) (λ b. refl)))

  primary_by_reads : (t : Token) (ts : List Token) (kind : TokenKind) → t.kind ≡ kind → Reads (AnExpr primary) (t ∷ ts) (primary_by names o t ts kind)
  primary_by_reads t ts (k.Number n) e = one_reads t _ _ ts e (λ names d more. (number t.at n, refl))
  primary_by_reads t ts (k.Quote text) e = one_reads t _ _ ts e (λ names d more. (quote t.at text, refl))
  primary_by_reads t ts (k.Word w.True) e = one_reads t _ _ ts e (λ names d more. (truth t.at true, refl))
  primary_by_reads t ts (k.Word w.False) e = one_reads t _ _ ts e (λ names d more. (truth t.at false, refl))
  primary_by_reads t ts (k.Name text) e = called_reads (t ∷ ts)
  primary_by_reads t ts (k.Sign s.OpenParen) e = paren_reads (t ∷ ts)
  primary_by_reads t ts (k.Sign s.OpenBracket) e = array_reads (t ∷ ts)
  primary_by_reads t ts (k.Word w.Iso) e = iso_reads (t ∷ ts)
  primary_by_reads t ts _ e = into form_of (last _ (form_reads (t ∷ ts)) (λ f. refl))

  primary_reads : (ts : List Token) → Reads (AnExpr primary) ts (primary_at names o ts)
  unfolding primary_at
  primary_reads [] = refused [] (some_expr primary)
  primary_reads (t ∷ ts) = primary_by_reads t ts t.kind refl

  member_by_turns : (at : Spot) (n : NameAt) (ts : List Token) (is : Bool) → Only MaybeArgs ts (member_by names o at n ts is)
  member_by_turns at n ts true = into_only (λ names d ts rest h. inr h) (adds _ (arguments_read ts) (λ es. refl))
  member_by_turns at n ts false = record { took = ([], refl, empty_whole MaybeArgs (λ names d ts. inl refl)) }

  some_member_on : Some_ (AName ▸▸ MaybeArgs)
  some_member_on = some_then AName MaybeArgs some_name some_maybe

  member_turns : (ts : List Token) → Only AStep ts (member_at names o ts)
  unfolding member_at
  member_turns ts = into_only member_of (ostep (sign_reads s.Dot ts) some_member_on (λ a. ostep (name_reads names a.1) some_maybe (λ n. member_by_turns a.0 n.0 n.1 (begins s.OpenParen n.1))))

  index_turns : (ts : List Token) → Only AStep ts (index_at names o ts)
  unfolding index_at
  index_turns ts = into_only index_of (sign_opens_only o law s.OpenBracket _ ts (some_close (AnExpr whole) s.CloseBracket (some_expr whole)) (λ i law a. ostep (deep (law.whole a.1)) (some_sign s.CloseBracket) (λ e. adds _ (sign_reads s.CloseBracket e.1) (λ c. refl))))

  steps_ended : (ts : List Token) → Turns {X = Step} {E = Unit {0}} AStep SomeSteps ts (Ok (End (tt {0}), ts))
  steps_ended ts = ended AStep SomeSteps (tt {0}) ts (empty_whole SomeSteps (λ names d ts. (no_steps, refl)))

  step_by_turns : (t : Token) (ts : List Token) (kind : TokenKind) → Turns AStep SomeSteps (t ∷ ts) (step_by names o t ts kind)
  step_by_turns t ts (k.Sign s.Dot) = only_turns (member_turns (t ∷ ts))
  step_by_turns t ts (k.Sign s.OpenBracket) = only_turns (index_turns (t ∷ ts))
  step_by_turns t ts _ = steps_ended (t ∷ ts)

  pub step_turns : (ts : List Token) → Turns AStep SomeSteps ts (step_turn names o ts)
  unfolding step_turn
  step_turns [] = steps_ended []
  step_turns (t ∷ ts) = step_by_turns t ts t.kind

  steps_read : (ts : List Token) → Reads SomeSteps ts (steps_at names o ts)
  unfolding steps_at
  steps_read ts = turns_read AStep SomeSteps more_steps_of some_steps (step_turn names o) more_steps (λ _. no_steps) faulty step_turns (λ ts. refused ts some_steps) (enough ts) ts

  pub postfix_reads : (ts : List Token) → Reads (AnExpr postfix) ts (postfix_at names o ts)
  unfolding postfix_at
  postfix_reads ts = into stepped_of (step (primary_reads ts) some_steps (λ e. last _ (steps_read e.1) (λ ps. refl)))

  -- ---- operators

  some_operand : Some_ (Deep (AnExpr operand))
  some_operand = some_deep (AnExpr operand) (some_expr operand)

  unary_open : (op : UnaryOp) (t : Token) (ts : List Token) → t.kind ≡ unary_kind op → Reads (AnExpr operand) (t ∷ ts) (unary_by names o t ts (Some op))
  unary_open op t ts e = into (unary_of_parts op) (opens o law (λ (x : Spot × List Token) i. i.operand x.1 >>= λ y. Ok (unary t.at op y.0, y.1)) {ts = t ∷ ts} {r = Ok (t.at, ts)}
      (record { took = (t ∷ [], refl, one_whole t (unary_kind op) e) }) (token (unary_kind op) spot ∷ [], one_whole (token (unary_kind op) spot) (unary_kind op) refl) some_operand (λ i law x. deep (last _ (law.operand x.1) (λ y. refl))))

  unary_by_reads : (t : Token) (ts : List Token) (q : Option UnaryOp) → unary_op t.kind ≡ q → Reads (AnExpr operand) (t ∷ ts) (unary_by names o t ts q)
  unary_by_reads t ts (Some op) e = unary_open op t ts (unary_of t.kind op e)
  unary_by_reads t ts None e = let le : postfix ≤ operand = omega arith in into (ranked postfix operand le) (postfix_reads (t ∷ ts))

  pub unary_reads : (ts : List Token) → Reads (AnExpr operand) ts (unary_at names o ts)
  unfolding unary_at
  unary_reads [] = refused [] (some_expr operand)
  unary_reads (t ∷ ts) = unary_by_reads t ts (unary_op t.kind) refl

  module _ (n : ℕ) (p : Reader Expr) (tighter : (ts : List Token) → Reads (AnExpr (suc (suc n))) ts (p ts)) where
    no_link : (R : Parts) → ((names : List (List ℕ)) (d : ℕ) (ts : List Token) → R names d ts ts) → (ts : List Token) → Turns {X = Link} {E = Unit {0}} (ALink n) R ts (Ok (End (tt {0}), ts))
    no_link R none ts = ended (ALink n) R (tt {0}) ts (empty_whole R none)

    link_by_turns : (R : Parts) → ((names : List (List ℕ)) (d : ℕ) (ts : List Token) → R names d ts ts) → (t : Token) (ts : List Token) (q : Option BinaryOp) → link_op (suc n) t.kind ≡ q → Turns (ALink n) R (t ∷ ts) (link_by p t ts q)
    link_by_turns R none t ts None e = no_link R none (t ∷ ts)
    link_by_turns R none t ts (Some op) e = let h = link_op_is (suc n) t.kind op e in
        only_turns (into_only (link_of n op h.1) (only_after_one t ts (one_whole t (binary_kind op) h.0) (adds _ (tighter ts) (λ x. refl))))

    pub link_turns : (R : Parts) → ((names : List (List ℕ)) (d : ℕ) (ts : List Token) → R names d ts ts) → (ts : List Token) → Turns (ALink n) R ts (link_turn p (suc n) ts)
    unfolding link_turn
    link_turns R none [] = no_link R none []
    link_turns R none (t ∷ ts) = link_by_turns R none t ts (link_op (suc n) t.kind) refl

    -- comparisons, and all others
    links_by : (most : ℕ) (b : Bool) → eqb (suc n) 3 ≡ b → (ts : List Token) → Reads (RankLinks n) ts (turns_at (link_turn p (suc n)) more_links (λ _. no_links) no_more (cond b 1 most) ts)
    links_by most true e ts = once_read (ALink n) (RankLinks n) (one_link_of n) (link_turn p (suc n)) more_links (λ _. no_links) no_more no_links (λ ts. refl) ts (link_turns (RankLinks n) (λ names d ts. (no_links, (λ e. tt), refl)) ts)
    links_by most false e ts = into (all_links e) (turns_read (ALink n) (SomeLinks n) (more_links_of n) (some_links n) (link_turn p (suc n)) more_links (λ _. no_links) no_more
        (link_turns (SomeLinks n) (λ names d ts. (no_links, refl))) (λ ts. into (λ names d ts rest h. (no_links, h)) (done no_links ts)) most ts) where
          all_links : eqb (suc n) 3 ≡ false → Within (SomeLinks n) (RankLinks n)
          all_links e names d ts rest (ls, h) = (ls, (λ three. absurd (differs (eqb (suc n) 3) e (eq-eqb (suc n) 3 three))), h)

    pub links_read : (ts : List Token) → Reads (RankLinks n) ts (links_at p (suc n) ts)
    unfolding links_at
    links_read ts = links_by (enough ts) (eqb (suc n) 3) refl ts

  pub level_reads : (n : ℕ) (ts : List Token) → Reads (AnExpr (suc (suc n))) ts (level_at names o n ts)
  unfolding level_at
  level_reads zero ts = unary_reads ts
  level_reads (suc n) ts = into (chain_of n) (step (level_reads n ts) (some_rank_links n) (λ e. last _ (links_read n (level_at names o n) (level_reads n) e.1) (λ ls. refl)))

  set_reads : (ts : List Token) → Reads (AnExpr whole) ts (set_at names o ts)
  unfolding set_at
  set_reads ts = into set_of (word_opens o law w.Set _ ts some_set_on (λ i law a. step (deep (law.place a.1)) some_assign_on (λ x. step (deep (sign_reads s.Assign x.1)) (some_deep (AnExpr whole) (some_expr whole)) (λ c. last _ (deep (law.whole c.1)) (λ e. refl)))))

  whole_by_reads : (ts : List Token) (is : Bool) → Reads (AnExpr whole) ts (whole_by names o ts is)
  whole_by_reads ts true = set_reads ts
  whole_by_reads ts false = let le : suc (suc 5) ≤ whole = omega arith in into (ranked (suc (suc 5)) whole le) (level_reads 5 ts)

  pub whole_reads : (ts : List Token) → Reads (AnExpr whole) ts (whole_at names o ts)
  unfolding whole_at
  whole_reads ts = whole_by_reads ts (begins_word w.Set ts)

  pub args_read : (ts : List Token) → Reads Args ts (args_at names o ts)
  unfolding args_at
  args_read ts = commas_read (whole_at names o) (AnExpr whole) Args MoreArgs whole_reads (some_expr whole) more_exprs no_exprs first_arg next_arg (λ names d ts. (no_exprs, refl)) (λ names d ts. (no_exprs, refl)) s.CloseParen ts
