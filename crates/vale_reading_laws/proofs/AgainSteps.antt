-- Lists that are in the grammar are read, where their items are.
use Rattle.std.proofs.Common.{◌+◌, ◌≡◌, ◌<◌, ℕ, zero, suc, true, false, List, [], ◌∷◌, length, Option, Some, None, Ok, refl, sym, ap, subst, arith}
use Rattle.vale_base.specs.declared.spot.Spot.{Spot}
use Rattle.vale_syntax.specs.declared.token.Token.{Token}
use Rattle.vale_syntax.specs.declared.token.TokenKind.TheVariants as k
use Rattle.vale_syntax.specs.declared.token.Sign.{Sign}
use Rattle.vale_syntax.specs.declared.token.Sign.TheVariants as s
use Rattle.vale_syntax.specs.declared.token.Word.{Word}
use Rattle.vale_syntax.specs.Tree.{Expr, Exprs, no_exprs, more_exprs, Link, Links, no_links, more_links, Step, Steps, no_steps, more_steps, ElseIf, Elses, no_else, otherwise, more_elses, Block, Stmt, Stmts, no_stmts, last, more_stmts}
use Rattle.vale_syntax.specs.Grammar.{Part, one, sign, ◌▸◌}
use Rattle.vale_syntax.specs.View.{listed, else_end, last_end}
use Rattle.vale_reading.specs.declared.stop.Turn.{Turn}
use Rattle.vale_reading.specs.declared.stop.Turn.TheVariants.{More, End}
use Rattle.vale_reading.specs.Steps.{Reader, is_sign, begins, begins_word, turns_at, enough, faulty}
use Rattle.vale_reading.specs.Reading.{comma_turn, commas_at}
use Rattle.vale_reading_laws.proofs.StepLaws.{sign_itself, word_itself, sign_again}
use Rattle.vale_reading_laws.proofs.Firsts.{Before}

-- what is a part P, before what Q allows, is read by p
abbrev pub Again : {A : Type 0} → Reader A → (A → Part) → (List Token → Type 0) → Type 0
Again {A} p P Q = (x : A) (ts rest : List Token) → P x ts rest → Q rest → p ts ≡ Ok (x, rest)

pub begins_again : (x : Sign) (at : Spot) (ts rest : List Token) → one (k.Sign x) at ts rest → begins x ts ≡ true
begins_again x at ts rest h = rw (h, sign_itself x) refl

pub begins_word_again : (x : Word) (at : Spot) (ts rest : List Token) → one (k.Word x) at ts rest → begins_word x ts ≡ true
begins_word_again x at ts rest h = rw (h, word_itself x) refl

pub begins_other : (x y : Sign) (ts rest : List Token) → is_sign x (k.Sign y) ≡ false → sign y ts rest → begins x ts ≡ false
begins_other x y ts rest e (at, h) = rw (h, e) refl

-- ---- each list is its items before its end

pub exprs_listed : (es : Exprs) → (xs : List Expr) × (es ≡ listed more_exprs xs no_exprs)
exprs_listed no_exprs = ([], refl)
exprs_listed (more_exprs e es) = let q = exprs_listed es in (e ∷ q.0, ap (more_exprs e) q.1)

pub links_listed : (ls : Links) → (xs : List Link) × (ls ≡ listed more_links xs no_links)
links_listed no_links = ([], refl)
links_listed (more_links l ls) = let q = links_listed ls in (l ∷ q.0, ap (more_links l) q.1)

pub steps_listed : (ps : Steps) → (xs : List Step) × (ps ≡ listed more_steps xs no_steps)
steps_listed no_steps = ([], refl)
steps_listed (more_steps p ps) = let q = steps_listed ps in (p ∷ q.0, ap (more_steps p) q.1)

pub elses_listed : (es : Elses) → (xs : List ElseIf) × (e : Option Block) × (es ≡ listed more_elses xs (else_end e))
elses_listed no_else = ([], None, refl)
elses_listed (otherwise b) = ([], Some b, refl)
elses_listed (more_elses x es) = let q = elses_listed es in (x ∷ q.0, q.1, ap (more_elses x) q.2)

pub stmts_listed : (ss : Stmts) → (xs : List Stmt) × (e : Option Expr) × (ss ≡ listed more_stmts xs (last_end e))
stmts_listed no_stmts = ([], None, refl)
stmts_listed (last e) = ([], Some e, refl)
stmts_listed (more_stmts x ss) = let q = stmts_listed ss in (x ∷ q.0, q.1, ap (more_stmts x) q.2)

pub list_listed : {X : Type 0} (xs : List X) → listed (λ x xs. x ∷ xs) xs [] ≡ xs
list_listed [] = refl
list_listed (x ∷ xs) = ap (λ (ys : List _). x ∷ ys) (list_listed xs)

-- ---- by turns

module _ {X E L : Type 0} (turn : Reader (Turn X E)) (more : X → L → L) (end : E → L) (out : Reader L) (P : X → Part) (R : L → Part) (S : List Token → Type 0)
    (opens : (x : X) (l : L) (ts rest : List Token) → R (more x l) ts rest → (mid : List Token) × P x ts mid × R l mid rest)
    (shrinks : (x : X) (ts mid : List Token) → P x ts mid → length mid < length ts)
    (adds : (x : X) (l : L) (ts mid rest : List Token) → P x ts mid → R l mid rest → S rest → turn ts ≡ Ok (More x, mid))
    (ends : (e : E) (ts rest : List Token) → R (end e) ts rest → S rest → turn ts ≡ Ok (End e, rest)) where
  pub turns_again : (n : ℕ) (xs : List X) (e : E) (ts rest : List Token) → length ts < n → R (listed more xs (end e)) ts rest → S rest → turns_at turn more end out n ts ≡ Ok (listed more xs (end e), rest)
  unfolding turns_at
  turns_again zero xs e ts rest lt h q = absurd (omega (arith, lt))
  turns_again (suc n) [] e ts rest lt h q = rw (ends e ts rest h q) refl
  turns_again (suc n) (x ∷ xs) e ts rest lt h q =
      let o = opens x (listed more xs (end e)) ts rest h in
      let less : length o.0 < n = omega (arith, lt, shrinks x ts o.0 o.1) in
      rw (adds x (listed more xs (end e)) ts o.0 rest o.1 o.2 q, turns_again n xs e o.0 rest less o.2 q) refl

-- ---- with commas

module _ {X L : Type 0} (item : Reader X) (P : X → Part) (S : List Token → Type 0) (close : Sign) (more : X → L → L) (nil : L) (R Others : L → Part)
    (item_again : Again item P S)
    (shrinks : (x : X) (ts mid : List Token) → P x ts mid → length mid < length ts)
    (no_close : (x : X) (ts mid : List Token) → P x ts mid → begins close ts ≡ false)
    (comma_follows : (ts rest : List Token) → sign s.Comma ts rest → S ts)
    (close_follows : (ts rest : List Token) → sign close ts rest → S ts)
    (other : is_sign s.Comma (k.Sign close) ≡ false)
    (none : (ts rest : List Token) → R nil ts rest → ts ≡ rest)
    (opens : (x : X) (l : L) (ts rest : List Token) → R (more x l) ts rest → (mid : List Token) × P x ts mid × Others l mid rest)
    (none2 : (ts rest : List Token) → Others nil ts rest → ts ≡ rest)
    (opens2 : (x : X) (l : L) (ts rest : List Token) → Others (more x l) ts rest → (mid : List Token) × (sign s.Comma ▸ P x) ts mid × Others l mid rest) where
  follows : (xs : List X) (ts rest : List Token) → Others (listed more xs nil) ts rest → Before close rest → S ts
  follows [] ts rest h b = subst S (sym (none2 ts rest h)) (close_follows rest b.0 b.1)
  follows (x ∷ xs) ts rest h b = let o = opens2 x (listed more xs nil) ts rest h in comma_follows ts o.1.0 o.1.1

  comma_again : (x : X) (ts mid : List Token) → (sign s.Comma ▸ P x) ts mid → S mid → comma_turn item ts ≡ Ok (More x, mid)
  unfolding comma_turn
  comma_again x ts mid (m, (at, h), g) q = rw (begins_again s.Comma at ts m h, sign_again s.Comma at ts m h, item_again x m mid g q) refl

  comma_ends : (ts rest : List Token) → ts ≡ rest → Before close rest → comma_turn item ts ≡ Ok (End tt, rest)
  unfolding comma_turn
  comma_ends ts rest e b = rw (e, begins_other s.Comma close rest b.0 other b.1) refl

  others_again_by : (n : ℕ) (xs : List X) (ts rest : List Token) → length ts < n → Others (listed more xs nil) ts rest → Before close rest → turns_at (comma_turn item) more (λ _. nil) faulty n ts ≡ Ok (listed more xs nil, rest)
  unfolding turns_at
  others_again_by zero xs ts rest lt h b = absurd (omega (arith, lt))
  others_again_by (suc n) [] ts rest lt h b = rw (comma_ends ts rest (none2 ts rest h) b) refl
  others_again_by (suc n) (x ∷ xs) ts rest lt h b =
      let o = opens2 x (listed more xs nil) ts rest h in
      let takes : length o.0 < length o.1.0 = shrinks x o.1.0 o.0 o.1.2 in
      let less : length o.0 < n = omega (arith, lt, takes, ap length o.1.1.1) in
      rw (comma_again x ts o.0 o.1 (follows xs o.0 rest o.2 b), others_again_by n xs o.0 rest less o.2 b) refl

  pub commas_again : (xs : List X) (ts rest : List Token) → R (listed more xs nil) ts rest → Before close rest → commas_at close item more nil ts ≡ Ok (listed more xs nil, rest)
  commas_again [] ts rest h b = rw (none ts rest h, begins_again close b.1.0 rest b.0 b.1.1) refl
  commas_again (x ∷ xs) ts rest h b =
      let o = opens x (listed more xs nil) ts rest h in
      let enough : length o.0 < enough o.0 = omega arith in
      rw (no_close x ts o.0 o.1, item_again x ts o.0 o.1 (follows xs o.0 rest o.2 b), others_again_by (length o.0 + 1) xs o.0 rest enough o.2 b) refl
