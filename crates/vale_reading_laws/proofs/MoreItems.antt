-- Readers of items with more levels left.
use Rattle.std.proofs.Common.{◌≡◌, ◌<◌, ℕ, zero, suc, Bool, true, false, List, [], ◌∷◌, length, Some, None, Result, Ok, Err, refl, subst, arith}
use Rattle.std.specs.Prelude.{◌||◌}
use Rattle.vale_base.specs.Limits.{level_limit}
use Rattle.vale_syntax.specs.declared.token.Token.{Token}
use Rattle.vale_syntax.specs.declared.token.TokenKind.{TokenKind}
use Rattle.vale_syntax.specs.declared.token.TokenKind.TheVariants as k
use Rattle.vale_syntax.specs.declared.token.Sign.TheVariants as s
use Rattle.vale_syntax.specs.declared.token.Word.TheVariants as w
use Rattle.vale_syntax.specs.Tree.{param, head, function, field_decl, Item, struct_item, interface_item, impl_item, function_item, Tree}
use Rattle.vale_syntax.specs.Grammar.{names_in}
use Rattle.vale_reading.specs.declared.stop.Turn.TheVariants.{More, End}
use Rattle.vale_reading.specs.Steps.{Fault, too_deep, Read, Reader, begins, begins_word, enough, faulty}
use Rattle.vale_reading.specs.Reading.{within}
use Rattle.vale_reading.specs.ItemReading.{lower, ended, until_by, until, all_until, braced, flag_word, purity_at, flag_sign, bang_at, param_at, params_at, result_by, result_at, head_at, signature_at, function_at, field_at, struct_at, interface_at, impl_at, function_item_at, item_by, item_at, items_at, read_items, tree_of, read_at, all_of}
use Rattle.vale_reading_laws.proofs.MoreLevels.{Follows, Grows, shorter, done, refused, step, sign_opens, sign_then, word_then, name_then, turns_grow}
use Rattle.vale_reading_laws.proofs.MoreReads.{Two, Differs, none_left, more_left, levels_of, commas_grow, type_grows, block_grows}

-- two counts of levels that are left, the second with more
pub record Counts : Type 0 where
  pub strict : Bool
  pub less : ℕ
  pub more : ℕ
  pub law : Differs strict less more

abbrev pub levels : (b : Bool) (d e : ℕ) → Differs b d e → Counts
levels b d e l = record { strict = b; less = d; more = e; law = l }

lower_by : {A : Type 0} (b : Bool) (d e : ℕ) → Differs b d e → (here ts : List Token) → length ts < length here → (f g : ℕ → Read A)
    → ((d e : ℕ) → Differs b d e → Grows b ts (f d) (g e)) → ((e : ℕ) → Grows false ts (g e) (g e)) → Grows b here (lower d here f) (lower e here g)
lower_by true d zero l here ts lt f g k q = absurd (omega (arith, l))
lower_by true zero (suc e) l here ts lt f g k q = more_left true here ts (g e) lt (q e)
lower_by true (suc d) (suc e) l here ts lt f g k q = let less : d < e = omega (arith, l) in shorter true ts here (f d) (g e) (omega (arith, lt)) (k d e less)
lower_by false zero zero l here ts lt f g k q = none_left here
lower_by false zero (suc e) l here ts lt f g k q = absurd (omega (arith, l))
lower_by false (suc d) zero l here ts lt f g k q = absurd (omega (arith, l))
lower_by false (suc d) (suc e) l here ts lt f g k q = let same : d ≡ e = omega (arith, l) in shorter false ts here (f d) (g e) (omega (arith, lt)) (k d e same)

lowered : {A : Type 0} {f g : ℕ → Read A} (v : Counts) (here ts : List Token) → length ts < length here
    → ((d e : ℕ) → Differs v.strict d e → Grows v.strict ts (f d) (g e)) → ((e : ℕ) → Grows false ts (g e) (g e)) → Grows v.strict here (lower v.less here f) (lower v.more here g)
lowered {f = f} {g = g} v here ts lt k q = lower_by v.strict v.less v.more v.law here ts lt f g k q

-- ---- items of a list up to where it stops

module _ {X : Type 0} (stop : List Token → Bool) (item item2 : Reader X) (b : Bool) (law : (ts : List Token) → Grows b ts (item ts) (item2 ts)) where
  until_by_grows : (ts : List Token) (is : Bool) → Grows b ts (until_by item ts is) (until_by item2 ts is)
  until_by_grows ts true = done b (End tt) ts
  until_by_grows ts false = step (law ts) (λ x. done b (More x.0) x.1)

  until_grows : (ts : List Token) → Grows b ts (until stop item ts) (until stop item2 ts)
  unfolding until
  until_grows ts = until_by_grows ts (stop ts)

  all_until_grow : (ts : List Token) → Grows b ts (all_until stop item ts) (all_until stop item2 ts)
  unfolding all_until
  all_until_grow ts = turns_grow (λ x xs. x ∷ xs) (λ _. []) faulty (λ b ts. refused b ts) (until stop item) (until stop item2) b until_grows (enough ts) ts

braced_grow : {X : Type 0} (item : ℕ → Reader X) → ((v : Counts) (ts : List Token) → Grows v.strict ts (item v.less ts) (item v.more ts)) → (v : Counts) (ts : List Token) → Grows v.strict ts (braced v.less item ts) (braced v.more item ts)
braced_grow item law v ts = sign_opens s.OpenBrace v.strict ts (λ a lt. lowered v ts a.1 lt (λ d e l. step (all_until_grow (begins s.CloseBrace) (item d) (item e) v.strict (law (levels v.strict d e l)) a.1) (λ xs. sign_then s.CloseBrace v.strict xs.1 (λ c lt2. done v.strict xs.0 c.1))) (λ e. step (all_until_grow (begins s.CloseBrace) (item e) (item e) false (law (levels false e e refl)) a.1) (λ xs. sign_then s.CloseBrace false xs.1 (λ c lt2. done false xs.0 c.1))))

-- ---- what stands there or not

purity_by_grows : (b : Bool) (ts : List Token) (is : Bool) → Grows b ts (flag_word ts is) (flag_word ts is)
purity_by_grows b ts true = word_then w.Pure b ts (λ p lt. done b true p.1)
purity_by_grows b ts false = done b false ts

purity_grows : (b : Bool) (ts : List Token) → Grows b ts (purity_at ts) (purity_at ts)
unfolding purity_at
purity_grows b ts = purity_by_grows b ts (begins_word w.Pure ts)

bang_by_grows : (b : Bool) (ts : List Token) (is : Bool) → Grows b ts (flag_sign ts is) (flag_sign ts is)
bang_by_grows b ts true = sign_then s.Bang b ts (λ p lt. done b true p.1)
bang_by_grows b ts false = done b false ts

bang_grows : (b : Bool) (ts : List Token) → Grows b ts (bang_at ts) (bang_at ts)
unfolding bang_at
bang_grows b ts = bang_by_grows b ts (begins s.Bang ts)

module _ (names : List (List ℕ)) where
  abbrev two : Counts → Two
  two v = record { strict = v.strict; less = within names v.less; more = within names v.more; law = levels_of names v.strict v.less v.more v.law }

  param_grows : (v : Counts) (ts : List Token) → Grows v.strict ts (param_at names v.less ts) (param_at names v.more ts)
  unfolding param_at
  param_grows v ts = name_then names v.strict ts (λ n lt. step (type_grows names (two v) n.1) (λ e. done v.strict (param n.0 e.0) e.1))

  params_grow : (v : Counts) (ts : List Token) → Grows v.strict ts (params_at names v.less ts) (params_at names v.more ts)
  unfolding params_at
  params_grow v ts = commas_grow v.strict (param_at names v.less) (param_at names v.more) (param_grows v) (λ x xs. x ∷ xs) [] s.CloseParen ts

  result_by_grows : (v : Counts) (ts : List Token) (is : Bool) → Grows v.strict ts (result_by names v.less ts is) (result_by names v.more ts is)
  result_by_grows v ts true = done v.strict None ts
  result_by_grows v ts false = step (type_grows names (two v) ts) (λ e. done v.strict (Some e.0) e.1)

  result_grows : (v : Counts) (ts : List Token) → Grows v.strict ts (result_at names v.less ts) (result_at names v.more ts)
  unfolding result_at
  result_grows v ts = result_by_grows v ts (begins s.OpenBrace ts || begins s.Semicolon ts)

  head_grows : (v : Counts) (ts : List Token) → Grows v.strict ts (head_at names v.less ts) (head_at names v.more ts)
  unfolding head_at
  head_grows v ts = step (purity_grows v.strict ts) (λ p. word_then w.Func v.strict p.1 (λ f lt. name_then names v.strict f.1 (λ n lt2. sign_opens s.OpenParen v.strict n.1 (λ a lt3. step (lowered v n.1 a.1 lt3 (λ d e l. params_grow (levels v.strict d e l) a.1) (λ e. params_grow (levels false e e refl) a.1)) (λ ps. sign_then s.CloseParen v.strict ps.1 (λ c lt4. step (result_grows v c.1) (λ e. done v.strict (head p.0 n.0 ps.0 e.0) e.1)))))))

  signature_grows : (v : Counts) (ts : List Token) → Grows v.strict ts (signature_at names v.less ts) (signature_at names v.more ts)
  unfolding signature_at
  signature_grows v ts = step (head_grows v ts) (λ h. sign_then s.Semicolon v.strict h.1 (λ c lt. done v.strict h.0 c.1))

  function_grows : (v : Counts) (ts : List Token) → Grows v.strict ts (function_at names v.less ts) (function_at names v.more ts)
  unfolding function_at
  function_grows v ts = step (head_grows v ts) (λ h. step (block_grows names (two v) h.1) (λ d. done v.strict (function h.0 d.0) d.1))

  field_grows : (v : Counts) (ts : List Token) → Grows v.strict ts (field_at names v.less ts) (field_at names v.more ts)
  unfolding field_at
  field_grows v ts = name_then names v.strict ts (λ n lt. step (bang_grows v.strict n.1) (λ b. step (type_grows names (two v) b.1) (λ e. sign_then s.Semicolon v.strict e.1 (λ c lt2. done v.strict (field_decl n.0 b.0 e.0) c.1))))

  struct_grows : (v : Counts) (ts : List Token) → Grows v.strict ts (struct_at names v.less ts) (struct_at names v.more ts)
  unfolding struct_at
  struct_grows v ts = word_then w.Struct v.strict ts (λ a lt. name_then names v.strict a.1 (λ n lt2. step (braced_grow (field_at names) field_grows v n.1) (λ fs. done v.strict (struct_item n.0 fs.0) fs.1)))

  interface_grows : (v : Counts) (ts : List Token) → Grows v.strict ts (interface_at names v.less ts) (interface_at names v.more ts)
  unfolding interface_at
  interface_grows v ts = word_then w.Interface v.strict ts (λ a lt. name_then names v.strict a.1 (λ n lt2. step (braced_grow (signature_at names) signature_grows v n.1) (λ hs. done v.strict (interface_item n.0 hs.0) hs.1)))

  impl_grows : (v : Counts) (ts : List Token) → Grows v.strict ts (impl_at names v.less ts) (impl_at names v.more ts)
  unfolding impl_at
  impl_grows v ts = word_then w.Impl v.strict ts (λ a lt. name_then names v.strict a.1 (λ i lt2. word_then w.For v.strict i.1 (λ f lt3. name_then names v.strict f.1 (λ n lt4. step (braced_grow (function_at names) function_grows v n.1) (λ fs. done v.strict (impl_item a.0 i.0 n.0 fs.0) fs.1)))))

  function_item_grows : (v : Counts) (ts : List Token) → Grows v.strict ts (function_item_at names v.less ts) (function_item_at names v.more ts)
  function_item_grows v ts = step (function_grows v ts) (λ f. done v.strict (function_item f.0) f.1)

  item_by_grows : (v : Counts) (t : Token) (ts : List Token) (kind : TokenKind) → Grows v.strict (t ∷ ts) (item_by names v.less t ts kind) (item_by names v.more t ts kind)
  item_by_grows v t ts (k.Word w.Struct) = struct_grows v (t ∷ ts)
  item_by_grows v t ts (k.Word w.Interface) = interface_grows v (t ∷ ts)
  item_by_grows v t ts (k.Word w.Impl) = impl_grows v (t ∷ ts)
  item_by_grows v t ts _ = function_item_grows v (t ∷ ts)

  item_grows : (v : Counts) (ts : List Token) → Grows v.strict ts (item_at names v.less ts) (item_at names v.more ts)
  unfolding item_at
  item_grows v [] = refused v.strict []
  item_grows v (t ∷ ts) = item_by_grows v t ts t.kind

  pub items_grow : (v : Counts) (ts : List Token) → Grows v.strict ts (items_at names v.less ts) (items_at names v.more ts)
  unfolding items_at
  items_grow v ts = all_until_grow ended (item_at names v.less) (item_at names v.more) v.strict (item_grows v) ts
