-- Items are read alike up to where two lists of tokens differ.
use Rattle.std.proofs.Common.{◌≡◌, ◌<◌, ◌≤◌, ◌+◌, ℕ, zero, suc, Bool, true, false, cond, List, [], ◌∷◌, ◌++◌, length, Option, Some, None, Result, Ok, Err, refl, sym, ap, subst, ◌∙◌, arith, ◌⊎◌, inl, inr}
use Rattle.std.specs.Prelude.{◌||◌}
use Rattle.vale_base.specs.declared.spot.Spot.{Spot}
use Rattle.vale_syntax.specs.declared.token.Token.{Token}
use Rattle.vale_syntax.specs.declared.token.TokenKind.{TokenKind}
use Rattle.vale_syntax.specs.declared.token.TokenKind.TheVariants as k
use Rattle.vale_syntax.specs.declared.token.Sign.{Sign}
use Rattle.vale_syntax.specs.declared.token.Sign.TheVariants as s
use Rattle.vale_syntax.specs.declared.token.Word.TheVariants as w
use Rattle.vale_syntax.specs.Tree.{Item}
use Rattle.vale_reading.specs.declared.stop.Turn.{Turn}
use Rattle.vale_reading.specs.declared.stop.Turn.TheVariants.{More, End}
use Rattle.vale_reading.specs.Steps.{from, Fault, unexpected, too_deep, Read, Reader, ◌>>=◌, is_sign, begins, begins_word, sign_at, word_at, name_at, turns_at, enough, faulty}
use Rattle.vale_reading.specs.Reading.{type_at, block_at, within}
use Rattle.vale_reading.specs.ItemReading.{one_fewer, lower_by, lower, ended, until_by, until, all_until, braced, flag_word, purity_at, flag_sign, bang_at, param_at, params_at, result_by, result_at, head_at, signature_at, function_at, field_at, struct_at, interface_at, impl_at, function_item_at, item_by, item_at, items_at}
use Rattle.vale_prefix.proofs.Parts.{Parts, ◌▸▸◌, Sign_, Took, Reads}
use Rattle.vale_prefix.proofs.Statements.{within_reads}
use Rattle.vale_prefix.proofs.Items.{AParam, AHead, AFunction, AField, AnItem, param_reads, signature_reads, function_reads, field_reads, item_reads}
use Rattle.vale_prefix.proofs.Local.{Two, Shared, AtMost, Alike, Local, Any, step, done, refused, none_left, by, begins_same, word_same, kind_same, after_one, weaker, sides, sign_side, sign_then, word_then, name_then, SameTurn, Strict, turns_by, turns_local}
use Rattle.vale_prefix.proofs.LocalReads.{NonEmpty, takes_one, gave, more_is, end_is, fault_is, left_nil, right_nil, commas_local, reads_most, type_local, block_local}
use Rattle.vale_prefix.proofs.LocalStmts.{within_local}
use Rattle.vale_syntax.specs.Tree.{param, head, function, field_decl, struct_item, interface_item, impl_item, function_item}

module _ {B C : Type 0} (x : Two) (U : B → B → Type 0) (V : C → C → Type 0) (f f2 : Spot × List Token → ℕ → Read B) (g g2 : Spot × List Token → B × List Token → Read C) (ts us : List Token)
    (inner : (e : ℕ) (v z : Spot × List Token) → Local x U v.1 z.1 (f v e) (f2 z e)) (after : (v z : Spot × List Token) (a b : B × List Token) → Local x V a.1 b.1 (g v a) (g2 z b)) where
  at_by : (o : Option ℕ) (t u : Token) (v z : Spot × List Token) → ts ≡ t ∷ v.1 → us ≡ u ∷ z.1 → Local x V (t ∷ v.1) (u ∷ z.1) (lower_by o ts (f v) >>= g v) (lower_by o us (f2 z) >>= g2 z)
  at_by None t u v z e e2 = subst (λ (y : List Token). Local {A = C} x V (t ∷ v.1) (u ∷ z.1) (Err (too_deep y)) (Err (too_deep us))) (sym e) (subst (λ (y : List Token). Local {A = C} x V (t ∷ v.1) (u ∷ z.1) (Err (too_deep (t ∷ v.1))) (Err (too_deep y))) (sym e2) (none_left x V (t ∷ v.1) (u ∷ z.1)))
  at_by (Some d) t u v z e e2 = after_one t u v.1 z.1 (step (inner d v z) (λ a b. after v z a b))

  most_by : (o : Option ℕ) (t : Token) (v : Spot × List Token) → ts ≡ t ∷ v.1 → AtMost (length (t ∷ v.1)) (lower_by o ts (f v) >>= g v)
  most_by None t v e = omega (arith, ap length e)
  most_by (Some d) t v e = (after_one {x = x} {V = V} {r = f v d >>= g v} {q = f2 v d >>= g2 v} t t v.1 v.1 (step (inner d v v) (λ a b. after v v a b))).at_most

  lowered : (d : ℕ) (s : Sign) → Local x V ts us (sign_at s ts >>= λ v. lower d ts (f v) >>= g v) (sign_at s us >>= λ z. lower d us (f2 z) >>= g2 z)
  lowered d s = sides x V (λ v. lower d ts (f v) >>= g v) (λ z. lower d us (f2 z) >>= g2 z) (is_sign s) ts us (λ t v e. most_by (one_fewer d) t v e) (sign_at s ts) (sign_at s us) (sign_side s x.names ts) (sign_side s x.names2 us) (λ t u v z e e2. at_by (one_fewer d) t u v z e e2)

module _ {B : Type 0} (x : Two) (V : B → B → Type 0) (f f2 : Spot × List Token → ℕ → Read B) (ts us : List Token) (inner : (e : ℕ) (v z : Spot × List Token) → Local x V v.1 z.1 (f v e) (f2 z e)) where
  open_by : (o : Option ℕ) (t u : Token) (v z : Spot × List Token) → ts ≡ t ∷ v.1 → us ≡ u ∷ z.1 → Local x V (t ∷ v.1) (u ∷ z.1) (lower_by o ts (f v)) (lower_by o us (f2 z))
  open_by None t u v z e e2 = subst (λ (y : List Token). Local {A = B} x V (t ∷ v.1) (u ∷ z.1) (Err (too_deep y)) (Err (too_deep us))) (sym e) (subst (λ (y : List Token). Local {A = B} x V (t ∷ v.1) (u ∷ z.1) (Err (too_deep (t ∷ v.1))) (Err (too_deep y))) (sym e2) (none_left x V (t ∷ v.1) (u ∷ z.1)))
  open_by (Some d) t u v z e e2 = after_one t u v.1 z.1 (inner d v z)

  open_most : (o : Option ℕ) (t : Token) (v : Spot × List Token) → ts ≡ t ∷ v.1 → AtMost (length (t ∷ v.1)) (lower_by o ts (f v))
  open_most None t v e = omega (arith, ap length e)
  open_most (Some d) t v e = (after_one {x = x} {V = V} {r = f v d} {q = f2 v d} t t v.1 v.1 (inner d v v)).at_most

  opened : (d : ℕ) (s : Sign) → Local x V ts us (sign_at s ts >>= λ v. lower d ts (f v)) (sign_at s us >>= λ z. lower d us (f2 z))
  opened d s = sides x V (λ v. lower d ts (f v)) (λ z. lower d us (f2 z)) (is_sign s) ts us (λ t v e. open_most (one_fewer d) t v e) (sign_at s ts) (sign_at s us) (sign_side s x.names ts) (sign_side s x.names2 us) (λ t u v z e e2. open_by (one_fewer d) t u v z e e2)

-- ---- lists up to where they stop

module _ {X : Type 0} (stop : List Token → Bool) (item : Reader X) (P : Parts) (empty : NonEmpty P) (reads : (ts : List Token) → Reads P ts (item ts)) where
  taken_by : (ts : List Token) (r : Read X) (v : X) (mid : List Token) → Took P ts r → (r >>= λ y. gave {X = X} {E = Unit {0}} (More y.0) y.1) ≡ gave (More v) mid → length mid < length ts
  taken_by ts (Ok y) v mid h e = let lt : length y.1 < length ts = takes_one P empty h.0 ts y.1 h.1 h.2 in omega (arith, lt, ap length (more_is {E = Unit {0}} y.0 v y.1 mid e))
  taken_by ts (Err f) v mid h e = absurd (fault_is {X = X} {E = Unit {0}} f v mid e)

  strict_by_stop : (ts : List Token) (b : Bool) (v : X) (mid : List Token) → until_by item ts b ≡ gave (More v) mid → length mid < length ts
  strict_by_stop ts true v mid e = absurd (end_is (tt {0}) v ts mid e)
  strict_by_stop ts false v mid e = taken_by ts (item ts) v mid (reads ts).took e

  strict_until : Strict (until stop item)
  unfolding until
  strict_until ts v mid e = strict_by_stop ts (stop ts) v mid e

module _ {X : Type 0} (x : Two) (stop : List Token → Bool) (same : (ts us : List Token) → Shared x ts us → stop ts ≡ stop us) (P : Parts) (empty : NonEmpty P) (item item2 : Reader X)
    (reads : (ts : List Token) → Reads P ts (item ts)) (reads2 : (ts : List Token) → Reads P ts (item2 ts)) (law : (ts us : List Token) → Local x Any ts us (item ts) (item2 us)) where
  until_by_local : (ts us : List Token) (b : Bool) → Local x SameTurn ts us (until_by item ts b) (until_by item2 us b)
  until_by_local ts us true = done x SameTurn _ _ ts us tt
  until_by_local ts us false = step (law ts us) (λ a b. done x SameTurn _ _ a.1 b.1 tt)

  until_local : (ts us : List Token) → Local x SameTurn ts us (until stop item ts) (until stop item2 us)
  unfolding until
  until_local ts us = by x SameTurn ts us (λ b. until_by item ts b) (λ b. until_by item2 us b) (stop ts) (stop us) (same ts us) (until_by_local ts us)

  all_until_local : (ts us : List Token) → Local x Any ts us (all_until stop item ts) (all_until stop item2 us)
  unfolding all_until
  all_until_local ts us = turns_local x (until stop item) (until stop item2) (λ y ys. y ∷ ys) (λ _. []) faulty until_local (λ ts us. refused x Any ts us) (strict_until stop item P empty reads) (strict_until stop item2 P empty reads2) ts us

braced_local : {X : Type 0} (x : Two) (P : Parts) → NonEmpty P → (item item2 : ℕ → Reader X) → ((d : ℕ) (ts : List Token) → Reads P ts (item d ts)) → ((d : ℕ) (ts : List Token) → Reads P ts (item2 d ts)) → ((d : ℕ) (ts us : List Token) → Local x Any ts us (item d ts) (item2 d us)) → (d : ℕ) (ts us : List Token) → Local x Any ts us (braced d item ts) (braced d item2 us)
braced_local x P empty item item2 reads reads2 law d ts us = opened x Any _ _ ts us (λ e v z. step (all_until_local x (begins s.CloseBrace) (begins_same x s.CloseBrace) P empty (item e) (item2 e) (reads e) (reads2 e) (law e) v.1 z.1) (λ a b. sign_then s.CloseBrace a.1 b.1 (λ c d. done x Any _ _ c.1 d.1 tt))) d s.OpenBrace

-- ---- readers

no_token : (t : Token) (ts : List Token) → [] ≡ t ∷ ts → ⊥
no_token t ts e = cc

head_taken : NonEmpty AHead
head_taken names d rest (head true n ps y, (m, (at, h), g)) = no_token _ m h
head_taken names d rest (head false n ps y, (m, h, (m2, (at, h2), g))) = no_token _ m2 (h ∙ h2)

signature_taken : NonEmpty (AHead ▸▸ Sign_ s.Semicolon)
signature_taken names d rest (m, h, g) = head_taken names d m h

function_taken : NonEmpty AFunction
function_taken names d rest (function h b, (m, g, q)) = head_taken names d m (h, g)

field_taken : NonEmpty AField
field_taken names d rest (field_decl n b y, (m, (text, is, h), g)) = no_token _ m h

item_taken : NonEmpty AnItem
item_taken names d rest (struct_item n fs, (m, (at, h), g)) = no_token _ m h
item_taken names d rest (interface_item n fs, (m, (at, h), g)) = no_token _ m h
item_taken names d rest (impl_item at i n fs, (m, h, g)) = no_token _ m h
item_taken names d rest (function_item f, h) = function_taken names d rest (f, h)

module _ (x : Two) where
  flag_word_local : (ts us : List Token) (b : Bool) → Local x Any ts us (flag_word ts b) (flag_word us b)
  flag_word_local ts us true = word_then w.Pure ts us (λ a b. done x Any _ _ a.1 b.1 tt)
  flag_word_local ts us false = done x Any _ _ ts us tt

  purity_local : (ts us : List Token) → Local x Any ts us (purity_at ts) (purity_at us)
  unfolding purity_at
  purity_local ts us = by x Any ts us (flag_word ts) (flag_word us) (begins_word w.Pure ts) (begins_word w.Pure us) (word_same x w.Pure ts us) (flag_word_local ts us)

  flag_sign_local : (ts us : List Token) (b : Bool) → Local x Any ts us (flag_sign ts b) (flag_sign us b)
  flag_sign_local ts us true = sign_then s.Bang ts us (λ a b. done x Any _ _ a.1 b.1 tt)
  flag_sign_local ts us false = done x Any _ _ ts us tt

  bang_local : (ts us : List Token) → Local x Any ts us (bang_at ts) (bang_at us)
  unfolding bang_at
  bang_local ts us = by x Any ts us (flag_sign ts) (flag_sign us) (begins s.Bang ts) (begins s.Bang us) (begins_same x s.Bang ts us) (flag_sign_local ts us)

  a_type : (d : ℕ) (ts us : List Token) → Local x Any ts us (type_at x.names (within x.names d) ts) (type_at x.names2 (within x.names2 d) us)
  a_type d ts us = type_local x (within x.names d) (within x.names2 d) (within_local x d) (within_reads x.names d) (within_reads x.names2 d) ts us

  a_block : (d : ℕ) (ts us : List Token) → Local x Any ts us (block_at x.names (within x.names d) ts) (block_at x.names2 (within x.names2 d) us)
  a_block d ts us = block_local x (within x.names d) (within x.names2 d) (within_local x d) (within_reads x.names d) (within_reads x.names2 d) ts us

  param_local : (d : ℕ) (ts us : List Token) → Local x Any ts us (param_at x.names d ts) (param_at x.names2 d us)
  unfolding param_at
  param_local d ts us = name_then x ts us (λ n m. step (a_type d n.1 m.1) (λ a b. done x Any _ _ a.1 b.1 tt))

  params_local : (d : ℕ) (ts us : List Token) → Local x Any ts us (params_at x.names d ts) (params_at x.names2 d us)
  unfolding params_at
  params_local d ts us = commas_local x (param_at x.names d) (param_at x.names2 d) (param_local d) (λ ts. reads_most (param_reads x.names2 d ts)) (λ y ys. y ∷ ys) [] s.CloseParen ts us

  result_by_local : (d : ℕ) (ts us : List Token) (b : Bool) → Local x Any ts us (result_by x.names d ts b) (result_by x.names2 d us b)
  result_by_local d ts us true = done x Any _ _ ts us tt
  result_by_local d ts us false = step (a_type d ts us) (λ a b. done x Any _ _ a.1 b.1 tt)

  either_same : (ts us : List Token) → Shared x ts us → (begins s.OpenBrace ts || begins s.Semicolon ts) ≡ (begins s.OpenBrace us || begins s.Semicolon us)
  either_same ts us sh = rw (begins_same x s.OpenBrace ts us sh, begins_same x s.Semicolon ts us sh) refl

  result_local : (d : ℕ) (ts us : List Token) → Local x Any ts us (result_at x.names d ts) (result_at x.names2 d us)
  unfolding result_at
  result_local d ts us = by x Any ts us (result_by x.names d ts) (result_by x.names2 d us) (begins s.OpenBrace ts || begins s.Semicolon ts) (begins s.OpenBrace us || begins s.Semicolon us) (either_same ts us) (result_by_local d ts us)

  head_local : (d : ℕ) (ts us : List Token) → Local x Any ts us (head_at x.names d ts) (head_at x.names2 d us)
  unfolding head_at
  head_local d ts us = step (purity_local ts us) (λ p q. word_then w.Func p.1 q.1 (λ f g. name_then x f.1 g.1 (λ n m. lowered x Any Any _ _ _ _ n.1 m.1 (λ e v z. params_local e v.1 z.1) (λ v z a b. sign_then s.CloseParen a.1 b.1 (λ c e. step (result_local d c.1 e.1) (λ a b. done x Any _ _ a.1 b.1 tt))) d s.OpenParen)))

  signature_local : (d : ℕ) (ts us : List Token) → Local x Any ts us (signature_at x.names d ts) (signature_at x.names2 d us)
  unfolding signature_at
  signature_local d ts us = step (head_local d ts us) (λ h g. sign_then s.Semicolon h.1 g.1 (λ a b. done x Any _ _ a.1 b.1 tt))

  function_local : (d : ℕ) (ts us : List Token) → Local x Any ts us (function_at x.names d ts) (function_at x.names2 d us)
  unfolding function_at
  function_local d ts us = step (head_local d ts us) (λ h g. step (a_block d h.1 g.1) (λ a b. done x Any _ _ a.1 b.1 tt))

  field_local : (d : ℕ) (ts us : List Token) → Local x Any ts us (field_at x.names d ts) (field_at x.names2 d us)
  unfolding field_at
  field_local d ts us = name_then x ts us (λ n m. step (bang_local n.1 m.1) (λ a b. step (a_type d a.1 b.1) (λ e f. sign_then s.Semicolon e.1 f.1 (λ a b. done x Any _ _ a.1 b.1 tt))))

  struct_local : (d : ℕ) (ts us : List Token) → Local x Any ts us (struct_at x.names d ts) (struct_at x.names2 d us)
  unfolding struct_at
  struct_local d ts us = word_then w.Struct ts us (λ a b. name_then x a.1 b.1 (λ n m. step (braced_local x AField field_taken (field_at x.names) (field_at x.names2) (field_reads x.names) (field_reads x.names2) field_local d n.1 m.1) (λ a b. done x Any _ _ a.1 b.1 tt)))

  interface_local : (d : ℕ) (ts us : List Token) → Local x Any ts us (interface_at x.names d ts) (interface_at x.names2 d us)
  unfolding interface_at
  interface_local d ts us = word_then w.Interface ts us (λ a b. name_then x a.1 b.1 (λ n m. step (braced_local x (AHead ▸▸ Sign_ s.Semicolon) signature_taken (signature_at x.names) (signature_at x.names2) (signature_reads x.names) (signature_reads x.names2) signature_local d n.1 m.1) (λ a b. done x Any _ _ a.1 b.1 tt)))

  impl_local : (d : ℕ) (ts us : List Token) → Local x Any ts us (impl_at x.names d ts) (impl_at x.names2 d us)
  unfolding impl_at
  impl_local d ts us = word_then w.Impl ts us (λ a b. name_then x a.1 b.1 (λ i j. word_then w.For i.1 j.1 (λ a b. name_then x a.1 b.1 (λ n m. step (braced_local x AFunction function_taken (function_at x.names) (function_at x.names2) (function_reads x.names) (function_reads x.names2) function_local d n.1 m.1) (λ a b. done x Any _ _ a.1 b.1 tt)))))

  item_by_local : (d : ℕ) (t u : Token) (ts us : List Token) (kind : TokenKind) → Local x Any (t ∷ ts) (u ∷ us) (item_by x.names d t ts kind) (item_by x.names2 d u us kind)
  item_by_local d t u ts us (k.Word w.Struct) = struct_local d (t ∷ ts) (u ∷ us)
  item_by_local d t u ts us (k.Word w.Interface) = interface_local d (t ∷ ts) (u ∷ us)
  item_by_local d t u ts us (k.Word w.Impl) = impl_local d (t ∷ ts) (u ∷ us)
  item_by_local d t u ts us _ = step (function_local d (t ∷ ts) (u ∷ us)) (λ a b. done x Any _ _ a.1 b.1 tt)

  item_local : (d : ℕ) (ts us : List Token) → Local x Any ts us (item_at x.names d ts) (item_at x.names2 d us)
  unfolding item_at
  item_local d [] us = left_nil (omega arith)
  item_local d (t ∷ ts) [] = right_nil (item_by_local d t t ts ts t.kind).at_most
  item_local d (t ∷ ts) (u ∷ us) = by x Any (t ∷ ts) (u ∷ us) (item_by x.names d t ts) (item_by x.names2 d u us) t.kind u.kind (kind_same x t u ts us) (item_by_local d t u ts us)

  ended_same : (ts us : List Token) → Shared x ts us → ended ts ≡ ended us
  ended_same ts us sh = rw (sh.left, sh.right) refl

  pub items_local : (d : ℕ) (ts us : List Token) → Local x Any ts us (items_at x.names d ts) (items_at x.names2 d us)
  unfolding items_at
  items_local d ts us = all_until_local x ended ended_same AnItem item_taken (item_at x.names d) (item_at x.names2 d) (item_reads x.names d) (item_reads x.names2 d) (item_local d) ts us
