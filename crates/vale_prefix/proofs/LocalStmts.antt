-- Statements are read alike up to where two lists of tokens differ.
use Rattle.std.proofs.Common.{◌≡◌, ◌<◌, ◌≤◌, ◌+◌, ℕ, zero, suc, Bool, true, false, cond, List, [], ◌∷◌, ◌++◌, length, Option, Some, None, Result, Ok, Err, refl, sym, ap, subst, ◌∙◌, arith, ◌⊎◌, inl, inr}
use Rattle.vale_base.specs.declared.spot.Spot.{Spot}
use Rattle.vale_syntax.specs.declared.token.Token.{Token}
use Rattle.vale_syntax.specs.declared.token.TokenKind.{TokenKind}
use Rattle.vale_syntax.specs.declared.token.TokenKind.TheVariants as k
use Rattle.vale_syntax.specs.declared.token.Sign.{Sign}
use Rattle.vale_syntax.specs.declared.token.Sign.TheVariants as s
use Rattle.vale_syntax.specs.declared.token.Word.TheVariants as w
use Rattle.vale_syntax.specs.declared.tree.NameAt.{NameAt}
use Rattle.vale_syntax.specs.Tree.{Expr, array, Form, Stmt, declare, destructure, return_nothing, return_value, while, foreach, form_stmt, express, Stmts, no_steps, more_stmts}
use Rattle.vale_syntax.specs.declared.tree.UnaryOp.{UnaryOp}
use Rattle.vale_syntax.specs.Grammar.{whole, IsStmt}
use Rattle.vale_syntax.specs.View.{last_end}
use Rattle.vale_reading.specs.declared.stop.Turn.{Turn}
use Rattle.vale_reading.specs.declared.stop.Turn.TheVariants.{More, End}
use Rattle.vale_reading.specs.Steps.{from, Fault, unexpected, too_deep, Read, Reader, ◌>>=◌, is_sign, is_word, begins, begins_word, sign_at, word_at, name_at, numbered, name_of, turns_at, enough, faulty}
use Rattle.vale_reading.specs.Reading.{Inner, inside, after_bracket, is_name, form_end, after_form, plain_end, after_plain, form_at, whole_at, plain_at, declare_at, names_at, destructure_at, return_by, return_at, while_at, foreach_at, form_stmt_at, named_by, bracket_by, stmt_by, stmt_turn, stmts_at, called_at, arguments_at, array_at, stepped, unary_op, primary_by, primary_at, steps_at, postfix_at, unary_by, unary_at, links_at, level_at, whole_by, inner_of, within}
use Rattle.vale_prefix.proofs.Parts.{KnowsKind, Parts, Whole, Took, Reads, name_reads, sign_reads, last}
use Rattle.vale_prefix.proofs.Forms.{Law, AForm, whole_reads, postfix_reads, level_reads, links_read}
use Rattle.vale_prefix.proofs.Statements.{AStmt, StmtTurn, TookTurn, stmt_turns, no_form_at, no_expr, within_reads, GoesOn}
use Rattle.vale_prefix.proofs.Local.{Two, Shared, AtMost, Alike, Local, Any, Past, Next, next, step, done, refused, none_left, by, begins_same, word_same, kind_same, after_one, weaker, past_alike, sign_side, name_side, sign_then, word_then, name_then, SameTurn, Strict, turns_by, turns_local, no_tokens, Side, one_local, by_one, Tight, most_then, tight_then, first_taken}
use Rattle.vale_prefix.proofs.LocalReads.{NonEmpty, takes_one, InnerLocal, Both, left_nil, right_nil, sign_opens, word_opens, strict_comma, commas_local, reads_most, type_local, block_local, form_local, postfix_local, unary_local, level_local, whole_local, args_local, called_by_local, arguments_local, steps_local, links_local}

module _ (x : Two) where
  form_end_local : (f g : Form) (t u : Token) (ts us : List Token) (kind : TokenKind) → Local x SameTurn (t ∷ ts) (u ∷ us) (form_end f t ts kind) (form_end g u us kind)
  form_end_local f g t u ts us (k.Sign s.Semicolon) = after_one t u ts us (done x SameTurn _ _ ts us tt)
  form_end_local f g t u ts us (k.Sign s.CloseBrace) = done x SameTurn _ _ (t ∷ ts) (u ∷ us) tt
  form_end_local f g t u ts us _ = done x SameTurn _ _ (t ∷ ts) (u ∷ us) tt

  after_form_local : (f g : Form) (ts us : List Token) → Local x SameTurn ts us (after_form f ts) (after_form g us)
  unfolding after_form
  after_form_local f g [] us = left_nil (omega arith)
  after_form_local f g (t ∷ ts) [] = right_nil (form_end_local f g t t ts ts t.kind).at_most
  after_form_local f g (t ∷ ts) (u ∷ us) = by x SameTurn (t ∷ ts) (u ∷ us) (λ kind. form_end f t ts kind) (λ kind. form_end g u us kind) t.kind u.kind (kind_same x t u ts us) (form_end_local f g t u ts us)

  plain_end_local : (f g : Expr) (t u : Token) (ts us : List Token) (kind : TokenKind) → Local x SameTurn (t ∷ ts) (u ∷ us) (plain_end f t ts kind) (plain_end g u us kind)
  plain_end_local f g t u ts us (k.Sign s.Semicolon) = after_one t u ts us (done x SameTurn _ _ ts us tt)
  plain_end_local f g t u ts us (k.Sign s.CloseBrace) = done x SameTurn _ _ (t ∷ ts) (u ∷ us) tt
  plain_end_local f g t u ts us _ = refused x SameTurn (t ∷ ts) (u ∷ us)

  after_plain_local : (f g : Expr) (ts us : List Token) → Local x SameTurn ts us (after_plain f ts) (after_plain g us)
  unfolding after_plain
  after_plain_local f g [] us = left_nil (omega arith)
  after_plain_local f g (t ∷ ts) [] = right_nil (plain_end_local f g t t ts ts t.kind).at_most
  after_plain_local f g (t ∷ ts) (u ∷ us) = by x SameTurn (t ∷ ts) (u ∷ us) (λ kind. plain_end f t ts kind) (λ kind. plain_end g u us kind) t.kind u.kind (kind_same x t u ts us) (plain_end_local f g t u ts us)

  names_local : (ts us : List Token) → Local x Any ts us (names_at x.names ts) (names_at x.names2 us)
  unfolding names_at
  names_local ts us = commas_local x (name_at x.names) (name_at x.names2) (λ ts us. one_local x is_name ts us (name_at x.names ts) (name_at x.names2 us) (name_side x.names ts) (name_side x.names2 us)) (λ ts. reads_most (name_reads x.names2 ts)) (λ y ys. y ∷ ys) [] s.CloseBracket ts us

module _ (x : Two) (o p : Option Inner) (law : Both x o p) (read : Law o) (read2 : Law p) where
  plain_local : (ts us : List Token) → Local x SameTurn ts us (plain_at x.names o ts) (plain_at x.names2 p us)
  unfolding plain_at
  plain_local ts us = step (whole_local x o p law read read2 ts us) (λ a b. after_plain_local x a.0 b.0 a.1 b.1)

  form_stmt_local : (ts us : List Token) → Local x SameTurn ts us (form_stmt_at x.names o ts) (form_stmt_at x.names2 p us)
  unfolding form_stmt_at
  form_stmt_local ts us = step (form_local x o p law read read2 ts us) (λ a b. after_form_local x a.0 b.0 a.1 b.1)

  -- after the name
  declared_local : (n m : NameAt) (ts us : List Token) → Local x (SameTurn {X = Stmt} {E = Option Expr}) ts us (sign_at s.Assign ts >>= λ eq. whole_at x.names o eq.1 >>= λ e. sign_at s.Semicolon e.1 >>= λ c. Ok (More (declare n e.0), c.1)) (sign_at s.Assign us >>= λ eq. whole_at x.names2 p eq.1 >>= λ e. sign_at s.Semicolon e.1 >>= λ c. Ok (More (declare m e.0), c.1))
  declared_local n m ts us = sign_then s.Assign ts us (λ a b. step (whole_local x o p law read read2 a.1 b.1) (λ c d. sign_then s.Semicolon c.1 d.1 (λ a b. done x SameTurn _ _ a.1 b.1 tt)))

  declare_local : (ts us : List Token) → Local x SameTurn ts us (declare_at x.names o ts) (declare_at x.names2 p us)
  unfolding declare_at
  declare_local ts us = name_then x ts us (λ n m. declared_local n.0 m.0 n.1 m.1)

  destructure_local : (ts us : List Token) → Local x SameTurn ts us (destructure_at x.names o ts) (destructure_at x.names2 p us)
  unfolding destructure_at
  destructure_local ts us = sign_opens o p law s.OpenBracket _ _ ts us (λ i j h v z. step (names_local x v.1 z.1) (λ a b. sign_then s.CloseBracket a.1 b.1 (λ c d. sign_then s.Assign c.1 d.1 (λ a b. step (whole_local x o p law read read2 a.1 b.1) (λ c d. sign_then s.Semicolon c.1 d.1 (λ a b. done x SameTurn _ _ a.1 b.1 tt))))))

  return_by_local : (at at2 : Spot) (ts us : List Token) (is : Bool) → Local x SameTurn ts us (return_by x.names o at ts is) (return_by x.names2 p at2 us is)
  return_by_local at at2 ts us true = sign_then s.Semicolon ts us (λ a b. done x SameTurn _ _ a.1 b.1 tt)
  return_by_local at at2 ts us false = step (whole_local x o p law read read2 ts us) (λ c d. sign_then s.Semicolon c.1 d.1 (λ a b. done x SameTurn _ _ a.1 b.1 tt))

  return_local : (ts us : List Token) → Local x SameTurn ts us (return_at x.names o ts) (return_at x.names2 p us)
  unfolding return_at
  return_local ts us = word_then w.Return ts us (λ a b. by x SameTurn a.1 b.1 (λ is. return_by x.names o a.0 a.1 is) (λ is. return_by x.names2 p b.0 b.1 is) (begins s.Semicolon a.1) (begins s.Semicolon b.1) (begins_same x s.Semicolon a.1 b.1) (return_by_local a.0 b.0 a.1 b.1))

  while_local : (ts us : List Token) → Local x SameTurn ts us (while_at x.names o ts) (while_at x.names2 p us)
  unfolding while_at
  while_local ts us = word_then w.While ts us (λ a b. step (whole_local x o p law read read2 a.1 b.1) (λ c d. step (block_local x o p law read read2 c.1 d.1) (λ a b. done x SameTurn _ _ a.1 b.1 tt)))

  foreach_local : (ts us : List Token) → Local x SameTurn ts us (foreach_at x.names o ts) (foreach_at x.names2 p us)
  unfolding foreach_at
  foreach_local ts us = word_then w.Foreach ts us (λ a b. name_then x a.1 b.1 (λ c d. word_then w.In c.1 d.1 (λ a b. step (whole_local x o p law read read2 a.1 b.1) (λ c d. sign_then s.DotDot c.1 d.1 (λ a b. step (whole_local x o p law read read2 a.1 b.1) (λ c d. step (block_local x o p law read read2 c.1 d.1) (λ a b. done x SameTurn _ _ a.1 b.1 tt)))))))

  -- ---- what a statement that begins with a name or with `[` takes for sure

  module _ (n : Option ℕ) (t : Token) (ts : List Token) where
    tight_postfix : Tight n (t ∷ ts) (primary_at x.names o (t ∷ ts)) → Tight n (t ∷ ts) (postfix_at x.names o (t ∷ ts))
    unfolding postfix_at
    tight_postfix h = tight_then n (t ∷ ts) (primary_at x.names o (t ∷ ts)) _ h (λ v. (step (steps_local x o p law read read2 v.1 v.1) (λ a b. done x Any _ (stepped v.0 b.0) a.1 b.1 tt)).at_most)

    tight_unary : unary_op t.kind ≡ None → Tight n (t ∷ ts) (primary_at x.names o (t ∷ ts)) → Tight n (t ∷ ts) (unary_at x.names o (t ∷ ts))
    unfolding unary_at
    tight_unary e h = subst (λ (q : Option UnaryOp). Tight n (t ∷ ts) (unary_by x.names o t ts q)) (sym e) (tight_postfix h)

    tight_level : unary_op t.kind ≡ None → Tight n (t ∷ ts) (primary_at x.names o (t ∷ ts)) → (m : ℕ) → Tight n (t ∷ ts) (level_at x.names o m (t ∷ ts))
    unfolding level_at
    tight_level e h zero = tight_unary e h
    tight_level e h (suc m) = tight_then n (t ∷ ts) (level_at x.names o m (t ∷ ts)) _ (tight_level e h m) (λ v. reads_most (last _ (links_read x.names o read m (level_at x.names o m) (level_reads x.names o read m) v.1) (λ ls. refl)))

    tight_whole : is_word w.Set t.kind ≡ false → unary_op t.kind ≡ None → Tight n (t ∷ ts) (primary_at x.names o (t ∷ ts)) → Tight n (t ∷ ts) (whole_at x.names o (t ∷ ts))
    unfolding whole_at
    tight_whole f e h = subst (λ (b : Bool). Tight n (t ∷ ts) (whole_by x.names o (t ∷ ts) b)) (sym f) (tight_level e h 5)

    tight_plain : is_word w.Set t.kind ≡ false → unary_op t.kind ≡ None → Tight n (t ∷ ts) (primary_at x.names o (t ∷ ts)) → Tight n (t ∷ ts) (plain_at x.names o (t ∷ ts))
    unfolding plain_at
    tight_plain f e h = tight_then n (t ∷ ts) (whole_at x.names o (t ∷ ts)) _ (tight_whole f e h) (λ v. (after_plain_local x v.0 v.0 v.1 v.1).at_most)

  tail_most : {A : Type 0} (ts mid : List Token) (r : Read A) → mid ≡ ts → AtMost (length mid) r → AtMost (length ts) r
  tail_most ts mid r e h = subst (λ (z : List Token). AtMost (length z) r) e h

  name_primary : (t : Token) (ts : List Token) (str : List ℕ) → t.kind ≡ k.Name str → KnowsKind x.names t.kind → Tight (Some (length ts)) (t ∷ ts) (primary_at x.names o (t ∷ ts))
  unfolding primary_at called_at
  name_primary t ts str is known = subst (λ (kind : TokenKind). Tight (Some (length ts)) (t ∷ ts) (primary_by x.names o t ts kind)) (sym is)
      (first_taken (Some (length ts)) (t ∷ ts) is_name x.names t ts (name_at x.names (t ∷ ts)) _ (name_side x.names (t ∷ ts)) (ap is_name is) known (λ v e. tail_most ts v.1 _ e (called_by_local x o p law read read2 v.0 v.0 v.1 v.1 (begins s.OpenParen v.1)).at_most))

  named_tight : (t : Token) (ts : List Token) (str : List ℕ) → t.kind ≡ k.Name str → KnowsKind x.names t.kind → (b : Bool) → Tight (Some (length ts)) (t ∷ ts) (named_by x.names o (t ∷ ts) b)
  unfolding declare_at
  named_tight t ts str is known true = first_taken (Some (length ts)) (t ∷ ts) is_name x.names t ts (name_at x.names (t ∷ ts)) _ (name_side x.names (t ∷ ts)) (ap is_name is) known (λ v e. tail_most ts v.1 _ e (declared_local v.0 v.0 v.1 v.1).at_most)
  named_tight t ts str is known false = tight_plain (Some (length ts)) t ts (ap (is_word w.Set) is) (ap unary_op is) (name_primary t ts str is known)

  named_by_local : (t u : Token) (ts us : List Token) (b : Bool) → Local x SameTurn (t ∷ ts) (u ∷ us) (named_by x.names o (t ∷ ts) b) (named_by x.names2 p (u ∷ us) b)
  named_by_local t u ts us true = declare_local (t ∷ ts) (u ∷ us)
  named_by_local t u ts us false = plain_local (t ∷ ts) (u ∷ us)

  known_first : (t u : Token) (ts us : List Token) → Shared x (t ∷ ts) (u ∷ us) → KnowsKind x.names t.kind
  known_first t u ts us sh = subst (λ (z : List Token). first_knows z) (sym sh.left) sh.known.0 where
    first_knows : List Token → Type 0
    first_knows [] = Unit {0}
    first_knows (t ∷ ts) = KnowsKind x.names t.kind

  named_local : (t u : Token) (ts us : List Token) (str : List ℕ) → t.kind ≡ k.Name str → Local x SameTurn (t ∷ ts) (u ∷ us) (named_by x.names o (t ∷ ts) (begins s.Assign ts)) (named_by x.names2 p (u ∷ us) (begins s.Assign us))
  named_local t u ts us str is = record {
    at_most = (named_by_local t u ts us (begins s.Assign ts)).at_most;
    alike = λ sh. named_alike t u ts us sh (named_tight t ts str is (known_first t u ts us sh) (begins s.Assign ts)) (next x t u ts us sh);
  } where
    named_alike : (t u : Token) (ts us : List Token) → Shared x (t ∷ ts) (u ∷ us) → AtMost (length ts) (named_by x.names o (t ∷ ts) (begins s.Assign ts)) → Next x ts us
        → Alike x SameTurn (named_by x.names o (t ∷ ts) (begins s.Assign ts)) (named_by x.names2 p (u ∷ us) (begins s.Assign us))
    named_alike t u ts us sh most (inl past) = past_alike x SameTurn (length ts) _ _ past most
    named_alike t u ts us sh most (inr sh2) = subst (λ (b : Bool). Alike x SameTurn (named_by x.names o (t ∷ ts) (begins s.Assign ts)) (named_by x.names2 p (u ∷ us) b)) (begins_same x s.Assign ts us sh2) ((named_by_local t u ts us (begins s.Assign ts)).alike sh)

  bracket_by_local : (t u : Token) (ts us : List Token) (b : Bool) → Local x SameTurn (t ∷ ts) (u ∷ us) (bracket_by x.names o (t ∷ ts) b) (bracket_by x.names2 p (u ∷ us) b)
  bracket_by_local t u ts us true = destructure_local (t ∷ ts) (u ∷ us)
  bracket_by_local t u ts us false = plain_local (t ∷ ts) (u ∷ us)

  sign_most : (s : Sign) (ts : List Token) → AtMost (length ts) (sign_at s ts)
  sign_most s ts = reads_most (sign_reads s ts)

  whole_most : (ts : List Token) → AtMost (length ts) (whole_at x.names o ts)
  whole_most ts = reads_most (whole_reads x.names o read ts)

  names_most : (ts : List Token) → AtMost (length ts) (names_at x.names ts)
  names_most ts = (names_local x ts ts).at_most

  -- after the `[` of an array, and of a destructuring
  module _ (i j : Inner) (h : InnerLocal x i j) (at : Spot) where
    abbrev element : List Token → Read Expr
    element ts = i.type_expr ts >>= λ y. arguments_at x.names o y.1 >>= λ es. Ok (array at y.0 es.0, es.1)

    element_most : (ts : List Token) → AtMost (length ts) (element ts)
    element_most ts = most_then (length ts) (i.type_expr ts) _ (h.type_expr ts ts).at_most (λ y. most_then (length y.1) (arguments_at x.names o y.1) _ (arguments_local x o p law read read2 y.1 y.1).at_most (λ es. let le : length es.1 ≤ length es.1 = omega arith in le))

    abbrev array_body : List Token → Read Expr
    array_body ts = sign_at s.CloseBracket ts >>= λ c. element c.1

    array_most : (ts : List Token) → AtMost (length ts) (array_body ts)
    array_most ts = most_then (length ts) (sign_at s.CloseBracket ts) _ (sign_most s.CloseBracket ts) (λ c. element_most c.1)

    array_most2 : (c : Token) (ts : List Token) → is_sign s.CloseBracket c.kind ≡ true → KnowsKind x.names c.kind → AtMost (length ts) (array_body (c ∷ ts))
    array_most2 c ts e known = first_taken (Some (length ts)) [] (is_sign s.CloseBracket) x.names c ts (sign_at s.CloseBracket (c ∷ ts)) _ (sign_side s.CloseBracket x.names (c ∷ ts)) e known (λ v e. tail_most ts v.1 _ e (element_most v.1))

    abbrev value_body : List NameAt → List Token → Read (Turn Stmt (Option Expr))
    value_body ns ts = sign_at s.Assign ts >>= λ eq. whole_at x.names o eq.1 >>= λ e. sign_at s.Semicolon e.1 >>= λ c. Ok (More (destructure at ns e.0), c.1)

    value_most : (ns : List NameAt) (ts : List Token) → AtMost (length ts) (value_body ns ts)
    value_most ns ts = most_then (length ts) (sign_at s.Assign ts) _ (sign_most s.Assign ts) (λ eq. most_then (length eq.1) (whole_at x.names o eq.1) _ (whole_most eq.1) (λ e. most_then (length e.1) (sign_at s.Semicolon e.1) _ (sign_most s.Semicolon e.1) (λ c. let le : length c.1 ≤ length c.1 = omega arith in le)))

    abbrev names_body : List Token → Read (Turn Stmt (Option Expr))
    names_body ts = names_at x.names ts >>= λ ns. sign_at s.CloseBracket ns.1 >>= λ c. value_body ns.0 c.1

    names_body_most : (ts : List Token) → AtMost (length ts) (names_body ts)
    names_body_most ts = most_then (length ts) (names_at x.names ts) _ (names_most ts) (λ ns. most_then (length ns.1) (sign_at s.CloseBracket ns.1) _ (sign_most s.CloseBracket ns.1) (λ c. value_most ns.0 c.1))

    no_names : (c : Token) (ts : List Token) → is_sign s.CloseBracket c.kind ≡ true → names_at x.names (c ∷ ts) ≡ Ok ([], c ∷ ts)
    unfolding names_at
    no_names c ts e = rw e refl

    names_body_most2 : (c : Token) (ts : List Token) → is_sign s.CloseBracket c.kind ≡ true → KnowsKind x.names c.kind → AtMost (length ts) (names_body (c ∷ ts))
    names_body_most2 c ts e known = rw (no_names c ts e)
        (first_taken (Some (length ts)) [] (is_sign s.CloseBracket) x.names c ts (sign_at s.CloseBracket (c ∷ ts)) (λ d. value_body [] d.1) (sign_side s.CloseBracket x.names (c ∷ ts)) e known (λ v e. tail_most ts v.1 (value_body [] v.1) e (value_most [] v.1)))

  -- what a statement that begins with `[` takes for sure
  module _ (i j : Inner) (h : InnerLocal x i j) (is_some : o ≡ Some i) (t : Token) (ts : List Token) (is : t.kind ≡ k.Sign s.OpenBracket) (known : KnowsKind x.names t.kind) where
    in_some : {A : Type 0} (n : ℕ) (here : List Token) (F : Inner → Read A) → AtMost n (F i) → AtMost n (inside o here F)
    in_some {A = A} n here F m = subst (λ (o : Option Inner). AtMost n (inside o here F)) (sym is_some) m

    array_tight : AtMost (length ts) (array_at x.names o (t ∷ ts))
    unfolding array_at
    array_tight = first_taken (Some (length ts)) [] (is_sign s.OpenBracket) x.names t ts (sign_at s.OpenBracket (t ∷ ts)) _ (sign_side s.OpenBracket x.names (t ∷ ts)) (ap (is_sign s.OpenBracket) is) known
        (λ v e. in_some (length ts) (t ∷ ts) _ (tail_most ts v.1 (array_body i j h v.0 v.1) e (array_most i j h v.0 v.1)))

    destructure_tight : AtMost (length ts) (destructure_at x.names o (t ∷ ts))
    unfolding destructure_at
    destructure_tight = first_taken (Some (length ts)) [] (is_sign s.OpenBracket) x.names t ts (sign_at s.OpenBracket (t ∷ ts)) _ (sign_side s.OpenBracket x.names (t ∷ ts)) (ap (is_sign s.OpenBracket) is) known
        (λ v e. in_some (length ts) (t ∷ ts) _ (tail_most ts v.1 (names_body i j h v.0 v.1) e (names_body_most i j h v.0 v.1)))

    from_array : (n : Option ℕ) → Tight n (t ∷ ts) (array_at x.names o (t ∷ ts)) → Tight n (t ∷ ts) (plain_at x.names o (t ∷ ts))
    unfolding primary_at
    from_array n q = tight_plain n t ts (ap (is_word w.Set) is) (ap unary_op is) (subst (λ (kind : TokenKind). Tight n (t ∷ ts) (primary_by x.names o t ts kind)) (sym is) q)

    bracket_tight : (b : Bool) → AtMost (length ts) (bracket_by x.names o (t ∷ ts) b)
    bracket_tight true = destructure_tight
    bracket_tight false = from_array (Some (length ts)) array_tight

  module _ (i j : Inner) (h : InnerLocal x i j) (is_some : o ≡ Some i) (t c : Token) (ts : List Token) (is : t.kind ≡ k.Sign s.OpenBracket) (known : KnowsKind x.names t.kind) (close : is_sign s.CloseBracket c.kind ≡ true) (known2 : KnowsKind x.names c.kind) where
    array_tight2 : AtMost (length ts) (array_at x.names o (t ∷ (c ∷ ts)))
    unfolding array_at
    array_tight2 = first_taken (Some (length ts)) [] (is_sign s.OpenBracket) x.names t (c ∷ ts) (sign_at s.OpenBracket (t ∷ (c ∷ ts))) _ (sign_side s.OpenBracket x.names (t ∷ (c ∷ ts))) (ap (is_sign s.OpenBracket) is) known
        (λ v e. in_some i j h is_some t ts is known (length ts) (t ∷ (c ∷ ts)) _ (subst (λ (z : List Token). AtMost (length ts) (array_body i j h v.0 z)) (sym e) (array_most2 i j h v.0 c ts close known2)))

    destructure_tight2 : AtMost (length ts) (destructure_at x.names o (t ∷ (c ∷ ts)))
    unfolding destructure_at
    destructure_tight2 = first_taken (Some (length ts)) [] (is_sign s.OpenBracket) x.names t (c ∷ ts) (sign_at s.OpenBracket (t ∷ (c ∷ ts))) _ (sign_side s.OpenBracket x.names (t ∷ (c ∷ ts))) (ap (is_sign s.OpenBracket) is) known
        (λ v e. in_some i j h is_some t ts is known (length ts) (t ∷ (c ∷ ts)) _ (subst (λ (z : List Token). AtMost (length ts) (names_body i j h v.0 z)) (sym e) (names_body_most2 i j h v.0 c ts close known2)))

    bracket_tight2 : (b : Bool) → AtMost (length ts) (bracket_by x.names o (t ∷ (c ∷ ts)) b)
    bracket_tight2 true = destructure_tight2
    bracket_tight2 false = from_array i j h is_some t (c ∷ ts) is known (Some (length ts)) array_tight2

  -- the third token is looked at after `[` and `]` alone
  after_same : (t u : Token) (ts us : List Token) (b : Bool) → is_sign s.CloseBracket t.kind ≡ b → t.kind ≡ u.kind → (b ≡ true → begins s.Assign ts ≡ begins s.Assign us) → after_bracket (t ∷ ts) ≡ after_bracket (u ∷ us)
  after_same t u ts us true e same f = rw (← same, e, f refl) refl
  after_same t u ts us false e same f = rw (← same, e) refl

  bracket_some : (i j : Inner) → InnerLocal x i j → o ≡ Some i → (t u : Token) (ts us : List Token) → t.kind ≡ k.Sign s.OpenBracket → Local x SameTurn (t ∷ ts) (u ∷ us) (bracket_by x.names o (t ∷ ts) (after_bracket ts)) (bracket_by x.names2 p (u ∷ us) (after_bracket us))
  bracket_some i j h is_some t u ts us is = record { at_most = (bracket_by_local t u ts us (after_bracket ts)).at_most; alike = λ sh. first_alike ts us sh (next x t u ts us sh) } where
    same_alike : (ts us : List Token) → Shared x (t ∷ ts) (u ∷ us) → after_bracket ts ≡ after_bracket us → Alike x SameTurn (bracket_by x.names o (t ∷ ts) (after_bracket ts)) (bracket_by x.names2 p (u ∷ us) (after_bracket us))
    same_alike ts us sh e = subst (λ (b : Bool). Alike x SameTurn (bracket_by x.names o (t ∷ ts) (after_bracket ts)) (bracket_by x.names2 p (u ∷ us) b)) e ((bracket_by_local t u ts us (after_bracket ts)).alike sh)

    third_alike : (c d : Token) (ts us : List Token) (sh : Shared x (t ∷ (c ∷ ts)) (u ∷ (d ∷ us))) → Shared x (c ∷ ts) (d ∷ us) → is_sign s.CloseBracket c.kind ≡ true → Next x ts us → Alike x SameTurn (bracket_by x.names o (t ∷ (c ∷ ts)) (after_bracket (c ∷ ts))) (bracket_by x.names2 p (u ∷ (d ∷ us)) (after_bracket (d ∷ us)))
    third_alike c d ts us sh sh2 close (inl past) = past_alike x SameTurn (length ts) _ _ past (bracket_tight2 i j h is_some t c ts is (known_first t u (c ∷ ts) (d ∷ us) sh) close (known_first c d ts us sh2) (after_bracket (c ∷ ts)))
    third_alike c d ts us sh sh2 close (inr sh3) = same_alike (c ∷ ts) (d ∷ us) sh (after_same c d ts us true close (kind_same x c d ts us sh2) (λ e. begins_same x s.Assign ts us sh3))

    second_by : (c d : Token) (ts us : List Token) (b : Bool) → is_sign s.CloseBracket c.kind ≡ b → (sh : Shared x (t ∷ (c ∷ ts)) (u ∷ (d ∷ us))) → Shared x (c ∷ ts) (d ∷ us) → Alike x SameTurn (bracket_by x.names o (t ∷ (c ∷ ts)) (after_bracket (c ∷ ts))) (bracket_by x.names2 p (u ∷ (d ∷ us)) (after_bracket (d ∷ us)))
    second_by c d ts us true e sh sh2 = third_alike c d ts us sh sh2 e (next x c d ts us sh2)
    second_by c d ts us false e sh sh2 = same_alike (c ∷ ts) (d ∷ us) sh (after_same c d ts us false e (kind_same x c d ts us sh2) (λ f. absurd cc))

    second_alike : (ts us : List Token) → Shared x (t ∷ ts) (u ∷ us) → Shared x ts us → Alike x SameTurn (bracket_by x.names o (t ∷ ts) (after_bracket ts)) (bracket_by x.names2 p (u ∷ us) (after_bracket us))
    second_alike [] us sh sh2 = absurd (no_tokens _ _ sh2.left)
    second_alike (c ∷ ts) [] sh sh2 = absurd (no_tokens _ _ sh2.right)
    second_alike (c ∷ ts) (d ∷ us) sh sh2 = second_by c d ts us (is_sign s.CloseBracket c.kind) refl sh sh2

    first_alike : (ts us : List Token) → Shared x (t ∷ ts) (u ∷ us) → Next x ts us → Alike x SameTurn (bracket_by x.names o (t ∷ ts) (after_bracket ts)) (bracket_by x.names2 p (u ∷ us) (after_bracket us))
    first_alike ts us sh (inl past) = past_alike x SameTurn (length ts) _ _ past (bracket_tight i j h is_some t ts is (known_first t u ts us sh) (after_bracket ts))
    first_alike ts us sh (inr sh2) = second_alike ts us sh sh2

-- where no level is left, `[` opens one too many
abbrev alone : List (List ℕ) → Two
alone names = record { names = names; names2 = names; after = []; more = [] }

module _ (names : List (List ℕ)) (t : Token) (ts : List Token) (is : t.kind ≡ k.Sign s.OpenBracket) where
  known_sign : KnowsKind names t.kind
  known_sign = subst (KnowsKind names) (sym is) tt

  array_none : array_at names None (t ∷ ts) ≡ Err (too_deep (t ∷ ts))
  unfolding array_at
  array_none = first_taken None (t ∷ ts) (is_sign s.OpenBracket) names t ts (sign_at s.OpenBracket (t ∷ ts)) _ (sign_side s.OpenBracket names (t ∷ ts)) (ap (is_sign s.OpenBracket) is) known_sign (λ v e. refl)

  bracket_none : (b : Bool) → bracket_by names None (t ∷ ts) b ≡ Err (too_deep (t ∷ ts))
  unfolding destructure_at primary_at
  bracket_none true = first_taken None (t ∷ ts) (is_sign s.OpenBracket) names t ts (sign_at s.OpenBracket (t ∷ ts)) _ (sign_side s.OpenBracket names (t ∷ ts)) (ap (is_sign s.OpenBracket) is) known_sign (λ v e. refl)
  bracket_none false = tight_plain (alone names) None None tt tt tt None t ts (ap (is_word w.Set) is) (ap unary_op is) (subst (λ (kind : TokenKind). Tight None (t ∷ ts) (primary_by names None t ts kind)) (sym is) array_none)

module _ (x : Two) where
  bracket_local : (o p : Option Inner) → Both x o p → Law o → Law p → (t u : Token) (ts us : List Token) → t.kind ≡ k.Sign s.OpenBracket → u.kind ≡ k.Sign s.OpenBracket → Local x SameTurn (t ∷ ts) (u ∷ us) (bracket_by x.names o (t ∷ ts) (after_bracket ts)) (bracket_by x.names2 p (u ∷ us) (after_bracket us))
  bracket_local None None law read read2 t u ts us is is2 = subst (λ (r : Read (Turn Stmt (Option Expr))). Local x SameTurn (t ∷ ts) (u ∷ us) r (bracket_by x.names2 None (u ∷ us) (after_bracket us))) (sym (bracket_none x.names t ts is (after_bracket ts)))
      (subst (λ (q : Read (Turn Stmt (Option Expr))). Local x SameTurn (t ∷ ts) (u ∷ us) (Err (too_deep (t ∷ ts))) q) (sym (bracket_none x.names2 u us is2 (after_bracket us))) (none_left x SameTurn (t ∷ ts) (u ∷ us)))
  bracket_local (Some i) (Some j) law read read2 t u ts us is is2 = bracket_some x (Some i) (Some j) law read read2 i j law refl t u ts us is
  bracket_local None (Some j) law read read2 t u ts us is is2 = absurd law
  bracket_local (Some i) None law read read2 t u ts us is is2 = absurd law

module _ (x : Two) (o p : Option Inner) (law : Both x o p) (read : Law o) (read2 : Law p) where
  stmt_by_local : (t u : Token) (ts us : List Token) (kind : TokenKind) → t.kind ≡ kind → u.kind ≡ kind → Local x SameTurn (t ∷ ts) (u ∷ us) (stmt_by x.names o t ts kind) (stmt_by x.names2 p u us kind)
  stmt_by_local t u ts us (k.Sign s.CloseBrace) is is2 = done x SameTurn _ _ (t ∷ ts) (u ∷ us) tt
  stmt_by_local t u ts us (k.Name text) is is2 = named_local x o p law read read2 t u ts us text is
  stmt_by_local t u ts us (k.Sign s.OpenBracket) is is2 = bracket_local x o p law read read2 t u ts us is is2
  stmt_by_local t u ts us (k.Word w.Return) is is2 = return_local x o p law read read2 (t ∷ ts) (u ∷ us)
  stmt_by_local t u ts us (k.Word w.While) is is2 = while_local x o p law read read2 (t ∷ ts) (u ∷ us)
  stmt_by_local t u ts us (k.Word w.Foreach) is is2 = foreach_local x o p law read read2 (t ∷ ts) (u ∷ us)
  stmt_by_local t u ts us (k.Word w.If) is is2 = form_stmt_local x o p law read read2 (t ∷ ts) (u ∷ us)
  stmt_by_local t u ts us (k.Word w.Pure) is is2 = form_stmt_local x o p law read read2 (t ∷ ts) (u ∷ us)
  stmt_by_local t u ts us (k.Word w.Parallel) is is2 = form_stmt_local x o p law read read2 (t ∷ ts) (u ∷ us)
  stmt_by_local t u ts us _ is is2 = plain_local x o p law read read2 (t ∷ ts) (u ∷ us)

  stmt_alike : (t u : Token) (ts us : List Token) → t.kind ≡ u.kind → Shared x (t ∷ ts) (u ∷ us) → Alike x SameTurn (stmt_by x.names o t ts t.kind) (stmt_by x.names2 p u us u.kind)
  stmt_alike t u ts us e sh = subst (λ (kind : TokenKind). Alike x SameTurn (stmt_by x.names o t ts t.kind) (stmt_by x.names2 p u us kind)) e ((stmt_by_local t u ts us t.kind refl (sym e)).alike sh)

  stmt_local : (ts us : List Token) → Local x SameTurn ts us (stmt_turn x.names o ts) (stmt_turn x.names2 p us)
  unfolding stmt_turn
  stmt_local [] us = left_nil (omega arith)
  stmt_local (t ∷ ts) [] = right_nil (stmt_by_local t t ts ts t.kind refl refl).at_most
  stmt_local (t ∷ ts) (u ∷ us) = record { at_most = (stmt_by_local t t ts ts t.kind refl refl).at_most; alike = λ sh. stmt_alike t u ts us (kind_same x t u ts us sh) sh }

nil_token : (t : Token) (ts : List Token) → [] ≡ t ∷ ts → ⊥
nil_token t ts e = cc

stmt_taken : NonEmpty AStmt
stmt_taken names d rest (declare n e, (m, (text, is, h), g)) = nil_token _ m h
stmt_taken names d rest (destructure at ns e, (m, h, g)) = nil_token _ m h
stmt_taken names d rest (return_nothing at, (m, h, g)) = nil_token _ m h
stmt_taken names d rest (return_value at e, (m, h, g)) = nil_token _ m h
stmt_taken names d rest (while at c b, (m, h, g)) = nil_token _ m h
stmt_taken names d rest (foreach at n a e b, (m, h, g)) = nil_token _ m h
stmt_taken names d rest (form_stmt f, (m, h, g)) = no_form_at names d f m h
stmt_taken names d rest (express e, (m, h, g)) = no_expr names whole d e m h

form_taken : NonEmpty AForm
form_taken names d rest (f, h) = no_form_at names d f rest h

stmt_strict_by : (ts : List Token) (v : Stmt) (mid : List Token) → TookTurn ts (Ok (More v, mid)) → length mid < length ts
stmt_strict_by ts v mid (a, e, inl w) = takes_one AStmt stmt_taken a ts mid e w
stmt_strict_by ts v mid (a, e, inr w) = takes_one AForm form_taken a ts mid e w.0

strict_stmt : (names : List (List ℕ)) (o : Option Inner) → Law o → Strict (stmt_turn names o)
strict_stmt names o read ts v mid e = stmt_strict_by ts v mid (subst (λ (r : Read (Turn Stmt (Option Expr))). TookTurn ts r) e (stmt_turns names o read ts).took)

stmts_local : (x : Two) (o p : Option Inner) → Both x o p → Law o → Law p → (ts us : List Token) → Local x Any ts us (stmts_at x.names o ts) (stmts_at x.names2 p us)
unfolding stmts_at
stmts_local x o p law read read2 ts us = turns_local x (stmt_turn x.names o) (stmt_turn x.names2 p) more_stmts last_end faulty (stmt_local x o p law read read2) (λ ts us. refused x Any ts us) (strict_stmt x.names o read) (strict_stmt x.names2 p read2) ts us

pub within_local : (x : Two) (d : ℕ) → Both x (within x.names d) (within x.names2 d)
unfolding within
within_local x zero = tt
within_local x (suc d) =
    let o = within x.names d in
    let p = within x.names2 d in
    let law = within_local x d in
    let read = within_reads x.names d in
    let read2 = within_reads x.names2 d in
    record {
      type_expr = type_local x o p law read read2;
      place = postfix_local x o p law read read2;
      operand = unary_local x o p law read read2;
      whole = whole_local x o p law read read2;
      args = args_local x o p law read read2;
      stmts = stmts_local x o p law read read2;
    }
