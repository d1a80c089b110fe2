-- Tokens that can be completed to a part.
use Rattle.std.proofs.Common.{◌≡◌, ◌<◌, ◌≤◌, ◌+◌, ℕ, zero, suc, Bool, true, false, cond, List, [], ◌∷◌, ◌++◌, append_assoc, length, Option, Some, None, Ok, Err, refl, sym, ap, subst, ◌∙◌, arith, ◌⊎◌, inl, inr}
use denote.Enum.Bare.{same_true, true_same}
use Rattle.vale_base.specs.declared.spot.Spot.{Spot}
use Rattle.vale_syntax.specs.declared.token.Token.{Token}
use Rattle.vale_syntax.specs.declared.token.TokenKind.{TokenKind}
use Rattle.vale_syntax.specs.declared.token.TokenKind.TheVariants as k
use Rattle.vale_syntax.specs.declared.token.Sign.{Sign}
use Rattle.vale_syntax.specs.contracts.token.Sign as signs
use Rattle.vale_syntax.specs.declared.token.Word.{Word}
use Rattle.vale_syntax.specs.contracts.token.Word as words
use Rattle.vale_syntax.specs.declared.tree.NameAt.{NameAt}
use Rattle.vale_syntax.specs.Grammar.{Part, token, one, sign, word, nothing, ◌▸◌, deeper, number_of, named}
use Rattle.vale_reading.specs.declared.stop.Turn.{Turn}
use Rattle.vale_reading.specs.declared.stop.Turn.TheVariants.{More, End}
use Rattle.vale_reading.specs.Steps.{from, Fault, unexpected, too_deep, Read, Reader, ◌>>=◌, is_sign, is_word, sign_at, word_at, numbered, name_of, name_at, with_front, turn_then, turns_at}

abbrev pub KnowsKind : List (List ℕ) → TokenKind → Type 0
KnowsKind names (k.Name text) = (n : ℕ) × number_of names text ≡ Some n
KnowsKind names _ = Unit {0}

-- each name of the tokens has a number
abbrev pub Knows : List (List ℕ) → List Token → Type 0
Knows names [] = Unit {0}
Knows names (t ∷ ts) = KnowsKind names t.kind × Knows names ts

pub knows_left : (names : List (List ℕ)) (a b : List Token) → Knows names (a ++ b) → Knows names a
knows_left names [] b h = tt
knows_left names (t ∷ a) b h = (h.0, knows_left names a b h.1)

pub knows_right : (names : List (List ℕ)) (a b : List Token) → Knows names (a ++ b) → Knows names b
knows_right names [] b h = h
knows_right names (t ∷ a) b h = knows_right names a b h.1

-- parts, for the names' numbers and the levels that are left
abbrev pub Parts : Type 1
Parts = List (List ℕ) → ℕ → Part

infixr 12 ◌▸▸◌
abbrev pub ◌▸▸◌ : Parts → Parts → Parts
p ▸▸ q = λ names d. p names d ▸ q names d

abbrev pub Deep : Parts → Parts
Deep p = λ names d. deeper d (λ d. p names d)

abbrev pub Sign_ : Sign → Parts
Sign_ x = λ names d. sign x

abbrev pub Word_ : Word → Parts
Word_ x = λ names d. word x

abbrev pub Nothing : Parts
Nothing = λ names d. nothing

abbrev pub Within : Parts → Parts → Type 0
Within P Q = (names : List (List ℕ)) (d : ℕ) (ts rest : List Token) → P names d ts rest → Q names d ts rest

-- these tokens are a part, whatever follows
pub record Whole (P : Parts) (a : List Token) : Type 0 where
  pub levels : ℕ
  pub whole : (names : List (List ℕ)) (d : ℕ) → Knows names a → levels ≤ d → (more : List Token) → P names d (a ++ more) more

-- these tokens begin a part
abbrev pub Viable : Parts → List Token → Type 0
Viable P a = (end : List Token) × Whole P (a ++ end)

abbrev pub Some_ : Parts → Type 0
Some_ P = (end : List Token) × Whole P end

pub whole_within : {P Q : Parts} → Within P Q → (a : List Token) → Whole P a → Whole Q a
whole_within f a w = record { levels = w.levels; whole = λ names d knows le more. f names d (a ++ more) more (w.whole names d knows le more) }

pub whole_then : (P Q : Parts) (a b : List Token) → Whole P a → Whole Q b → Whole (P ▸▸ Q) (a ++ b)
whole_then P Q a b w v = record {
  levels = w.levels + v.levels;
  whole = λ names d knows le more.
      let less : w.levels ≤ d = omega (arith, le) in
      let less2 : v.levels ≤ d = omega (arith, le) in
      subst (λ (z : List Token). (P names d ▸ Q names d) z more) (sym (append_assoc a b more))
      (b ++ more, w.whole names d (knows_left names a b knows) less (b ++ more), v.whole names d (knows_right names a b knows) less2 more);
}

pub viable_then : (P Q : Parts) (a b : List Token) → Whole P a → Viable Q b → Viable (P ▸▸ Q) (a ++ b)
viable_then P Q a b w v = (v.0, subst (Whole (P ▸▸ Q)) (sym (append_assoc a b v.0)) (whole_then P Q a (b ++ v.0) w v.1))

pub viable_first : (P Q : Parts) (a : List Token) → Viable P a → Some_ Q → Viable (P ▸▸ Q) a
viable_first P Q a v q = (v.0 ++ q.0, subst (Whole (P ▸▸ Q)) (append_assoc a v.0 q.0) (whole_then P Q (a ++ v.0) q.0 v.1 q.1))

pub some_then : (P Q : Parts) → Some_ P → Some_ Q → Some_ (P ▸▸ Q)
some_then P Q p q = (p.0 ++ q.0, whole_then P Q p.0 q.0 p.1 q.1)

pub viable_within : {P Q : Parts} → Within P Q → (a : List Token) → Viable P a → Viable Q a
viable_within f a v = (v.0, whole_within f (a ++ v.0) v.1)

lowered : (P : Parts) (a : List Token) (w : Whole P a) (names : List (List ℕ)) (d : ℕ) → Knows names a → suc w.levels ≤ d → (more : List Token) → Deep P names d (a ++ more) more
lowered P a w names zero knows le more = absurd (omega (arith, le))
lowered P a w names (suc d) knows le more = let less : w.levels ≤ d = omega (arith, le) in w.whole names d knows less more

pub whole_deep : (P : Parts) (a : List Token) → Whole P a → Whole (Deep P) a
whole_deep P a w = record { levels = suc w.levels; whole = lowered P a w }

pub viable_deep : (P : Parts) (a : List Token) → Viable P a → Viable (Deep P) a
viable_deep P a v = (v.0, whole_deep P (a ++ v.0) v.1)

-- ---- what a reader gives

-- what was taken is a part, or what stands before the fault begins one
abbrev pub Took : {A : Type 0} → Parts → List Token → Read A → Type 0
Took P ts (Ok x) = (a : List Token) × (ts ≡ a ++ x.1) × Whole P a
Took P ts (Err f) = (a : List Token) × (ts ≡ a ++ from f) × Viable P a

pub record Reads {A : Type 0} (P : Parts) (ts : List Token) (r : Read A) : Type 0 where
  pub took : Took P ts r

-- nothing is taken
abbrev pub Stays : {A : Type 0} → List Token → Read A → Type 0
Stays ts (Ok x) = ts ≡ x.1
Stays ts (Err f) = ⊥

pub as_part : {A : Type 0} {P Q : Parts} → Within P Q → (ts : List Token) (r : Read A) → Took P ts r → Took Q ts r
as_part f ts (Ok x) h = (h.0, h.1, whole_within f h.0 h.2)
as_part f ts (Err e) h = (h.0, h.1, viable_within f h.0 h.2)

pub into : {A : Type 0} {P Q : Parts} {ts : List Token} {r : Read A} → Within P Q → Reads P ts r → Reads Q ts r
into {ts = ts} {r = r} f h = record { took = as_part f ts r h.took }

reads_deep : {A : Type 0} (P : Parts) (ts : List Token) (r : Read A) → Took P ts r → Took (Deep P) ts r
reads_deep P ts (Ok x) h = (h.0, h.1, whole_deep P h.0 h.2)
reads_deep P ts (Err e) h = (h.0, h.1, viable_deep P h.0 h.2)

pub deep : {A : Type 0} {P : Parts} {ts : List Token} {r : Read A} → Reads P ts r → Reads (Deep P) ts r
deep {P = P} {ts = ts} {r = r} h = record { took = reads_deep P ts r h.took }

joined : (ts a mid b rest : List Token) → ts ≡ a ++ mid → mid ≡ b ++ rest → ts ≡ (a ++ b) ++ rest
joined ts a mid b rest e f = e ∙ (ap (λ (z : List Token). a ++ z) f ∙ sym (append_assoc a b rest))

module _ {A B : Type 0} (P Q : Parts) (f : A × List Token → Read B) where
  then_ok : (ts a mid : List Token) → ts ≡ a ++ mid → Whole P a → (q : Read B) → Took Q mid q → Took (P ▸▸ Q) ts q
  then_ok ts a mid e w (Ok y) h = (a ++ h.0, joined ts a mid h.0 y.1 e h.1, whole_then P Q a h.0 w h.2)
  then_ok ts a mid e w (Err d) h = (a ++ h.0, joined ts a mid h.0 (from d) e h.1, viable_then P Q a h.0 w h.2)

  then_reads : (ts : List Token) (r : Read A) → Took P ts r → Some_ Q → ((x : A × List Token) → Reads Q x.1 (f x)) → Took (P ▸▸ Q) ts (r >>= f)
  then_reads ts (Ok x) h q k = then_ok ts h.0 x.1 h.1 h.2 (f x) (k x).took
  then_reads ts (Err d) h q k = (h.0, h.1, viable_first P Q h.0 h.2 q)

  last_ok : (ts a mid : List Token) → ts ≡ a ++ mid → Whole P a → (q : Read B) → Stays mid q → Took P ts q
  last_ok ts a mid e w (Ok y) h = (a, e ∙ ap (λ (z : List Token). a ++ z) h, w)
  last_ok ts a mid e w (Err d) h = absurd h

  last_reads : (ts : List Token) (r : Read A) → Took P ts r → ((x : A × List Token) → Stays x.1 (f x)) → Took P ts (r >>= f)
  last_reads ts (Ok x) h k = last_ok ts h.0 x.1 h.1 h.2 (f x) (k x)
  last_reads ts (Err d) h k = h

-- one part, and then others, which can be completed from nothing
pub step : {A B : Type 0} {f : A × List Token → Read B} {P Q : Parts} {ts : List Token} {r : Read A} → Reads P ts r → Some_ Q → ((x : A × List Token) → Reads Q x.1 (f x)) → Reads (P ▸▸ Q) ts (r >>= f)
step {f = f} {P = P} {Q = Q} {ts = ts} {r = r} h q k = record { took = then_reads P Q f ts r h.took q k }

-- the last part
pub last : {A B : Type 0} (f : A × List Token → Read B) {P : Parts} {ts : List Token} {r : Read A} → Reads P ts r → ((x : A × List Token) → Stays x.1 (f x)) → Reads P ts (r >>= f)
last f {P = P} {ts = ts} {r = r} h k = record { took = last_reads P P f ts r h.took k }

pub nothing_whole : Whole Nothing []
nothing_whole = record { levels = 0; whole = λ names d knows le more. refl }

pub done : {A : Type 0} (x : A) (ts : List Token) → Reads Nothing ts (Ok (x, ts))
done x ts = record { took = ([], refl, nothing_whole) }

pub if_reads : {A : Type 0} {P : Parts} {ts : List Token} {p q : Read A} (b : Bool) → Reads P ts p → Reads P ts q → Reads P ts (cond b p q)
if_reads true h k = h
if_reads false h k = k

-- at a fault before which nothing stands
pub refused : {A : Type 0} {P : Parts} (ts : List Token) → Some_ P → Reads {A = A} P ts (Err (unexpected ts))
refused ts p = record { took = ([], refl, p) }

-- ---- one token

pub spot : Spot
spot = record { line = 0; col = 0 }

pub same_kind : (t : Token) (kind : TokenKind) (more : List Token) → t.kind ≡ kind → t ∷ more ≡ token kind t.at ∷ more
same_kind t kind more e = ap (λ (k : TokenKind). token k t.at ∷ more) e

pub one_whole : (t : Token) (kind : TokenKind) → t.kind ≡ kind → Whole (λ names d ts rest. (at : Spot) × one kind at ts rest) (t ∷ [])
one_whole t kind e = record { levels = 0; whole = λ names d knows le more. (t.at, same_kind t kind more e) }

pub some_sign : (x : Sign) → Some_ (Sign_ x)
some_sign x = (token (k.Sign x) spot ∷ [], one_whole (token (k.Sign x) spot) (k.Sign x) refl)

pub some_word : (x : Word) → Some_ (Word_ x)
some_word x = (token (k.Word x) spot ∷ [], one_whole (token (k.Word x) spot) (k.Word x) refl)

sign_is : (x : Sign) (kind : TokenKind) → is_sign x kind ≡ true → kind ≡ k.Sign x
sign_is x (k.Sign y) e = ap k.Sign (same_true signs.the_type tt y x e)
sign_is x (k.Word w) e = absurd cc
sign_is x (k.Name t) e = absurd cc
sign_is x (k.Number n) e = absurd cc
sign_is x (k.Quote t) e = absurd cc

word_is : (x : Word) (kind : TokenKind) → is_word x kind ≡ true → kind ≡ k.Word x
word_is x (k.Word y) e = ap k.Word (same_true words.the_type tt y x e)
word_is x (k.Sign w) e = absurd cc
word_is x (k.Name t) e = absurd cc
word_is x (k.Number n) e = absurd cc
word_is x (k.Quote t) e = absurd cc

sign_if : (x : Sign) (t : Token) (ts : List Token) (b : Bool) → is_sign x t.kind ≡ b → Reads {A = Spot} (Sign_ x) (t ∷ ts) (cond b (Ok (t.at, ts)) (Err (unexpected (t ∷ ts))))
sign_if x t ts true e = record { took = (t ∷ [], refl, one_whole t (k.Sign x) (sign_is x t.kind e)) }
sign_if x t ts false e = refused (t ∷ ts) (some_sign x)

pub sign_reads : (x : Sign) (ts : List Token) → Reads (Sign_ x) ts (sign_at x ts)
unfolding sign_at
sign_reads x [] = refused [] (some_sign x)
sign_reads x (t ∷ ts) = sign_if x t ts (is_sign x t.kind) refl

word_if : (x : Word) (t : Token) (ts : List Token) (b : Bool) → is_word x t.kind ≡ b → Reads {A = Spot} (Word_ x) (t ∷ ts) (cond b (Ok (t.at, ts)) (Err (unexpected (t ∷ ts))))
word_if x t ts true e = record { took = (t ∷ [], refl, one_whole t (k.Word x) (word_is x t.kind e)) }
word_if x t ts false e = refused (t ∷ ts) (some_word x)

pub word_reads : (x : Word) (ts : List Token) → Reads (Word_ x) ts (word_at x ts)
unfolding word_at
word_reads x [] = refused [] (some_word x)
word_reads x (t ∷ ts) = word_if x t ts (is_word x t.kind) refl

-- ---- names

abbrev pub AName : Parts
AName = λ names d ts rest. (n : NameAt) × named names n ts rest

abbrev text : List ℕ
text = 120 ∷ []

known_whole : (t : Token) (text : List ℕ) → t.kind ≡ k.Name text → Whole AName (t ∷ [])
known_whole t text e = record { levels = 0; whole = λ names d knows le more. let known : KnowsKind names (k.Name text) = subst (KnowsKind names) e knows.0 in (record { name = record { 0 = known.0 }; at = t.at }, (text, known.1, same_kind t (k.Name text) more e)) }

pub some_name : Some_ AName
some_name = (token (k.Name text) spot ∷ [], known_whole (token (k.Name text) spot) text refl)

module _ (names : List (List ℕ)) where
  numbered_reads : (t : Token) (ts : List Token) (text : List ℕ) (o : Option ℕ) → t.kind ≡ k.Name text → Reads AName (t ∷ ts) (numbered names t ts o)
  numbered_reads t ts str (Some n) e = record { took = (t ∷ [], refl, known_whole t str e) }
  numbered_reads t ts str None e = refused (t ∷ ts) some_name

  name_of_reads : (t : Token) (ts : List Token) (kind : TokenKind) → t.kind ≡ kind → Reads AName (t ∷ ts) (name_of names t ts kind)
  name_of_reads t ts (k.Name text) e = numbered_reads t ts text (number_of names text) e
  name_of_reads t ts _ e = refused (t ∷ ts) some_name

  pub name_reads : (ts : List Token) → Reads AName ts (name_at names ts)
  unfolding name_at
  name_reads [] = refused [] some_name
  name_reads (t ∷ ts) = name_of_reads t ts t.kind refl

-- ---- by turns

-- what was taken is an item P or the rest R of the list, or what stands before the fault begins one of both
abbrev pub Turned : {X E : Type 0} → Parts → Parts → List Token → Read (Turn X E) → Type 0
Turned P R ts (Ok (More x, mid)) = (a : List Token) × (ts ≡ a ++ mid) × Whole P a
Turned P R ts (Ok (End e, mid)) = (a : List Token) × (ts ≡ a ++ mid) × Whole R a
Turned P R ts (Err f) = (a : List Token) × (ts ≡ a ++ from f) × (Viable P a ⊎ Viable R a)

pub record Turns {X E : Type 0} (P R : Parts) (ts : List Token) (r : Read (Turn X E)) : Type 0 where
  pub took : Turned P R ts r

module _ {X E L : Type 0} (P R : Parts) (adds : Within (P ▸▸ R) R) (some : Some_ R) (turn : Reader (Turn X E)) (more : X → L → L) (end : E → L) (out : Reader L)
    (law : (ts : List Token) → Turns P R ts (turn ts)) (outs : (ts : List Token) → Reads R ts (out ts)) where
  front_reads : (ts a mid : List Token) (x : X) → ts ≡ a ++ mid → Whole P a → (q : Read L) → Took R mid q → Took R ts (with_front (more x) q)
  front_reads ts a mid x e w (Ok y) h = (a ++ h.0, joined ts a mid h.0 y.1 e h.1, whole_within adds (a ++ h.0) (whole_then P R a h.0 w h.2))
  front_reads ts a mid x e w (Err d) h = (a ++ h.0, joined ts a mid h.0 (from d) e h.1, viable_within adds (a ++ h.0) (viable_then P R a h.0 w h.2))

  either : (a : List Token) → Viable P a ⊎ Viable R a → Viable R a
  either a (inl v) = viable_within adds a (viable_first P R a v some)
  either a (inr v) = v

  turn_reads : (ts : List Token) (others : Reader L) → ((ts : List Token) → Reads R ts (others ts)) → (q : Read (Turn X E)) → Turned P R ts q → Took R ts (turn_then turn more end out others q)
  turn_reads ts others k (Ok (More x, mid)) h = front_reads ts h.0 mid x h.1 h.2 (others mid) (k mid).took
  turn_reads ts others k (Ok (End e, mid)) h = h
  turn_reads ts others k (Err f) h = (h.0, h.1, either h.0 h.2)

  pub turns_read : (n : ℕ) (ts : List Token) → Reads R ts (turns_at turn more end out n ts)
  unfolding turns_at
  turns_read zero ts = outs ts
  turns_read (suc n) ts = record { took = turn_reads ts (turns_at turn more end out n) (turns_read n) (turn ts) (law ts).took }

-- the value is an item, and nothing is taken for it
abbrev pub Adds : {X E : Type 0} → List Token → Read (Turn X E) → Type 0
Adds ts (Ok (More x, mid)) = ts ≡ mid
Adds ts _ = ⊥

abbrev pub Ends : {X E : Type 0} → List Token → Read (Turn X E) → Type 0
Ends ts (Ok (End e, mid)) = ts ≡ mid
Ends ts _ = ⊥

module _ {A X E : Type 0} (O P R : Parts) (f : A × List Token → Read (Turn X E)) where
  turn_ok : (ts a mid : List Token) → ts ≡ a ++ mid → Whole O a → (q : Read (Turn X E)) → Turned P R mid q → Turned (O ▸▸ P) (O ▸▸ R) ts q
  turn_ok ts a mid e w (Ok (More x, rest)) h = (a ++ h.0, joined ts a mid h.0 rest e h.1, whole_then O P a h.0 w h.2)
  turn_ok ts a mid e w (Ok (End x, rest)) h = (a ++ h.0, joined ts a mid h.0 rest e h.1, whole_then O R a h.0 w h.2)
  turn_ok ts a mid e w (Err d) h = (a ++ h.0, joined ts a mid h.0 (from d) e h.1, both h.0 h.2) where
    both : (b : List Token) → Viable P b ⊎ Viable R b → Viable (O ▸▸ P) (a ++ b) ⊎ Viable (O ▸▸ R) (a ++ b)
    both b (inl v) = inl (viable_then O P a b w v)
    both b (inr v) = inr (viable_then O R a b w v)

  turn_step : (ts : List Token) (r : Read A) → Took O ts r → Some_ P → ((x : A × List Token) → Turns P R x.1 (f x)) → Turned (O ▸▸ P) (O ▸▸ R) ts (r >>= f)
  turn_step ts (Ok x) h p k = turn_ok ts h.0 x.1 h.1 h.2 (f x) (k x).took
  turn_step ts (Err d) h p k = (h.0, h.1, inl (viable_first O P h.0 h.2 p))

  add_ok : (ts a mid : List Token) → ts ≡ a ++ mid → Whole P a → (q : Read (Turn X E)) → Adds mid q → Turned P R ts q
  add_ok ts a mid e w (Ok (More x, rest)) h = (a, e ∙ ap (λ (z : List Token). a ++ z) h, w)
  add_ok ts a mid e w (Ok (End x, rest)) h = absurd h
  add_ok ts a mid e w (Err d) h = absurd h

  add_reads : (ts : List Token) (r : Read A) → Took P ts r → ((x : A × List Token) → Adds x.1 (f x)) → Turned P R ts (r >>= f)
  add_reads ts (Ok x) h k = add_ok ts h.0 x.1 h.1 h.2 (f x) (k x)
  add_reads ts (Err d) h k = (h.0, h.1, inl h.2)

  end_ok : (ts a mid : List Token) → ts ≡ a ++ mid → Whole R a → (q : Read (Turn X E)) → Ends mid q → Turned P R ts q
  end_ok ts a mid e w (Ok (End x, rest)) h = (a, e ∙ ap (λ (z : List Token). a ++ z) h, w)
  end_ok ts a mid e w (Ok (More x, rest)) h = absurd h
  end_ok ts a mid e w (Err d) h = absurd h

  end_reads : (ts : List Token) (r : Read A) → Took R ts r → ((x : A × List Token) → Ends x.1 (f x)) → Turned P R ts (r >>= f)
  end_reads ts (Ok x) h k = end_ok ts h.0 x.1 h.1 h.2 (f x) (k x)
  end_reads ts (Err d) h k = (h.0, h.1, inr h.2)

pub tstep : {A X E : Type 0} {O P R : Parts} {f : A × List Token → Read (Turn X E)} {ts : List Token} {r : Read A} → Reads O ts r → Some_ P → ((x : A × List Token) → Turns P R x.1 (f x)) → Turns (O ▸▸ P) (O ▸▸ R) ts (r >>= f)
tstep {O = O} {P = P} {R = R} {f = f} {ts = ts} {r = r} h p k = record { took = turn_step O P R f ts r h.took p k }

pub adding : {A X E : Type 0} {P R : Parts} (f : A × List Token → Read (Turn X E)) {ts : List Token} {r : Read A} → Reads P ts r → ((x : A × List Token) → Adds x.1 (f x)) → Turns P R ts (r >>= f)
adding {P = P} {R = R} f {ts = ts} {r = r} h k = record { took = add_reads P P R f ts r h.took k }

pub ending : {A X E : Type 0} {P R : Parts} (f : A × List Token → Read (Turn X E)) {ts : List Token} {r : Read A} → Reads R ts r → ((x : A × List Token) → Ends x.1 (f x)) → Turns P R ts (r >>= f)
ending {P = P} {R = R} f {ts = ts} {r = r} h k = record { took = end_reads P P R f ts r h.took k }

as_turn : {X E : Type 0} (O R P Q : Parts) → Within O P → Within R Q → (ts : List Token) (r : Read (Turn X E)) → Turned O R ts r → Turned P Q ts r
as_turn O R P Q f g ts (Ok (More x, mid)) h = (h.0, h.1, whole_within f h.0 h.2)
as_turn O R P Q f g ts (Ok (End e, mid)) h = (h.0, h.1, whole_within g h.0 h.2)
as_turn O R P Q f g ts (Err e) h = (h.0, h.1, both h.0 h.2) where
  both : (a : List Token) → Viable O a ⊎ Viable R a → Viable P a ⊎ Viable Q a
  both a (inl v) = inl (viable_within f a v)
  both a (inr v) = inr (viable_within g a v)

pub into_turn : {X E : Type 0} {O R P Q : Parts} {ts : List Token} {r : Read (Turn X E)} → Within O P → Within R Q → Turns O R ts r → Turns P Q ts r
into_turn {O = O} {R = R} {P = P} {Q = Q} {ts = ts} {r = r} f g h = record { took = as_turn O R P Q f g ts r h.took }

pub if_turns : {X E : Type 0} {P R : Parts} {ts : List Token} {p q : Read (Turn X E)} (b : Bool) → Turns P R ts p → Turns P R ts q → Turns P R ts (cond b p q)
if_turns true h k = h
if_turns false h k = k

pub ended : {X E : Type 0} (P R : Parts) (e : E) (ts : List Token) → Whole R [] → Turns {X = X} P R ts (Ok (End e, ts))
ended P R e ts w = record { took = ([], refl, w) }

-- ---- turns that give an item

abbrev pub Added : {X E : Type 0} → Parts → List Token → Read (Turn X E) → Type 0
Added P ts (Ok (More x, mid)) = (a : List Token) × (ts ≡ a ++ mid) × Whole P a
Added P ts (Ok (End e, mid)) = ⊥
Added P ts (Err f) = (a : List Token) × (ts ≡ a ++ from f) × Viable P a

pub record Only {X E : Type 0} (P : Parts) (ts : List Token) (r : Read (Turn X E)) : Type 0 where
  pub took : Added P ts r

only_turned : {X E : Type 0} (P R : Parts) (ts : List Token) (r : Read (Turn X E)) → Added P ts r → Turned P R ts r
only_turned P R ts (Ok (More x, mid)) h = h
only_turned P R ts (Ok (End e, mid)) h = absurd h
only_turned P R ts (Err f) h = (h.0, h.1, inl h.2)

pub only_turns : {X E : Type 0} {P R : Parts} {ts : List Token} {r : Read (Turn X E)} → Only P ts r → Turns P R ts r
only_turns {P = P} {R = R} {ts = ts} {r = r} h = record { took = only_turned P R ts r h.took }

as_only : {X E : Type 0} (P Q : Parts) → Within P Q → (ts : List Token) (r : Read (Turn X E)) → Added P ts r → Added Q ts r
as_only P Q f ts (Ok (More x, mid)) h = (h.0, h.1, whole_within f h.0 h.2)
as_only P Q f ts (Ok (End e, mid)) h = absurd h
as_only P Q f ts (Err e) h = (h.0, h.1, viable_within f h.0 h.2)

pub into_only : {X E : Type 0} {P Q : Parts} {ts : List Token} {r : Read (Turn X E)} → Within P Q → Only P ts r → Only Q ts r
into_only {P = P} {Q = Q} {ts = ts} {r = r} f h = record { took = as_only P Q f ts r h.took }

module _ {A X E : Type 0} (O P : Parts) (f : A × List Token → Read (Turn X E)) where
  only_ok : (ts a mid : List Token) → ts ≡ a ++ mid → Whole O a → (q : Read (Turn X E)) → Added P mid q → Added (O ▸▸ P) ts q
  only_ok ts a mid e w (Ok (More x, rest)) h = (a ++ h.0, joined ts a mid h.0 rest e h.1, whole_then O P a h.0 w h.2)
  only_ok ts a mid e w (Ok (End x, rest)) h = absurd h
  only_ok ts a mid e w (Err d) h = (a ++ h.0, joined ts a mid h.0 (from d) e h.1, viable_then O P a h.0 w h.2)

  only_step : (ts : List Token) (r : Read A) → Took O ts r → Some_ P → ((x : A × List Token) → Only P x.1 (f x)) → Added (O ▸▸ P) ts (r >>= f)
  only_step ts (Ok x) h p k = only_ok ts h.0 x.1 h.1 h.2 (f x) (k x).took
  only_step ts (Err d) h p k = (h.0, h.1, viable_first O P h.0 h.2 p)

  only_last : (ts a mid : List Token) → ts ≡ a ++ mid → Whole O a → (q : Read (Turn X E)) → Adds mid q → Added O ts q
  only_last ts a mid e w (Ok (More x, rest)) h = (a, e ∙ ap (λ (z : List Token). a ++ z) h, w)
  only_last ts a mid e w (Ok (End x, rest)) h = absurd h
  only_last ts a mid e w (Err d) h = absurd h

  only_end : (ts : List Token) (r : Read A) → Took O ts r → ((x : A × List Token) → Adds x.1 (f x)) → Added O ts (r >>= f)
  only_end ts (Ok x) h k = only_last ts h.0 x.1 h.1 h.2 (f x) (k x)
  only_end ts (Err d) h k = h

pub ostep : {A X E : Type 0} {O P : Parts} {f : A × List Token → Read (Turn X E)} {ts : List Token} {r : Read A} → Reads O ts r → Some_ P → ((x : A × List Token) → Only P x.1 (f x)) → Only (O ▸▸ P) ts (r >>= f)
ostep {O = O} {P = P} {f = f} {ts = ts} {r = r} h p k = record { took = only_step O P f ts r h.took p k }

pub adds : {A X E : Type 0} {P : Parts} (f : A × List Token → Read (Turn X E)) {ts : List Token} {r : Read A} → Reads P ts r → ((x : A × List Token) → Adds x.1 (f x)) → Only P ts (r >>= f)
adds {P = P} f {ts = ts} {r = r} h k = record { took = only_end P P f ts r h.took k }

-- after a token
pub after_one : {A : Type 0} {O Q : Parts} (t : Token) (ts : List Token) {q : Read A} → Whole O (t ∷ []) → Reads Q ts q → Reads (O ▸▸ Q) (t ∷ ts) q
after_one {A = A} {O = O} {Q = Q} t ts {q = q} w h = record { took = then_ok O Q (λ (x : A × List Token). Ok x) (t ∷ ts) (t ∷ []) ts refl w q h.took }

pub only_after_one : {X E : Type 0} {O Q : Parts} (t : Token) (ts : List Token) {q : Read (Turn X E)} → Whole O (t ∷ []) → Only Q ts q → Only (O ▸▸ Q) (t ∷ ts) q
only_after_one {X = X} {E = E} {O = O} {Q = Q} t ts {q = q} w h = record { took = only_ok O Q (λ (x : Turn X E × List Token). Ok x) (t ∷ ts) (t ∷ []) ts refl w q h.took }

-- one turn at most
module _ {X E L : Type 0} (P R : Parts) (only : Within P R) (turn : Reader (Turn X E)) (more : X → L → L) (end : E → L) (out : Reader L) (none : L) (outs : (ts : List Token) → out ts ≡ Ok (none, ts)) where
  front_once : (ts a mid : List Token) (x : X) → ts ≡ a ++ mid → Whole P a → (q : Read L) → q ≡ Ok (none, mid) → Took R ts (with_front (more x) q)
  front_once ts a mid x e w q h = subst (λ (q : Read L). Took R ts (with_front (more x) q)) (sym h) (a, e, whole_within only a w)

  once_by : (ts : List Token) (q : Read (Turn X E)) → Turned P R ts q → Took R ts (turn_then turn more end out out q)
  once_by ts (Ok (More x, mid)) h = front_once ts h.0 mid x h.1 h.2 (out mid) (outs mid)
  once_by ts (Ok (End e, mid)) h = h
  once_by ts (Err f) h = (h.0, h.1, either_once h.0 h.2) where
    either_once : (a : List Token) → Viable P a ⊎ Viable R a → Viable R a
    either_once a (inl v) = viable_within only a v
    either_once a (inr v) = v

  pub once_read : (ts : List Token) → Turns P R ts (turn ts) → Reads R ts (turns_at turn more end out 1 ts)
  unfolding turns_at
  once_read ts h = record { took = once_by ts (turn ts) h.took }
