-- What is read of items is in the grammar.
use Rattle.std.proofs.Common.{◌≡◌, ℕ, zero, suc, Bool, true, false, List, [], ◌∷◌, Option, Some, None, Ok, Err, refl, sym, subst}
use Rattle.vale_base.specs.Limits.{level_limit}
use Rattle.vale_syntax.specs.declared.token.Token.{Token}
use Rattle.vale_syntax.specs.declared.token.TokenKind.{TokenKind}
use Rattle.vale_syntax.specs.declared.token.TokenKind.TheVariants as k
use Rattle.vale_syntax.specs.declared.token.Sign.TheVariants as s
use Rattle.vale_syntax.specs.declared.token.Word.TheVariants as w
use Rattle.vale_syntax.specs.Tree.{TypeExpr, param, head, function, field_decl, Item, struct_item, interface_item, impl_item, function_item, Tree, tree}
use Rattle.vale_syntax.specs.Grammar.{Part, sign, word, ◌▸◌, when, optional, each, with_commas, deeper, names_in, IsType, IsParam, IsHead, IsFunction, IsField, IsItem, spells}
use Rattle.vale_reading.specs.declared.stop.Turn.{Turn}
use Rattle.vale_reading.specs.declared.stop.Turn.TheVariants.{More, End}
use Rattle.vale_reading.specs.Steps.{Read, Reader, begins, begins_word, enough, faulty}
use Rattle.vale_reading.specs.Reading.{within}
use Rattle.vale_reading.specs.ItemReading.{lower, ended, until_by, until, all_until, braced, flag_word, purity_at, flag_sign, bang_at, param_at, params_at, result_by, result_at, head_at, signature_at, function_at, field_at, struct_at, interface_at, impl_at, function_item_at, item_by, item_at, items_at, read_items, tree_of, all_of}
use Rattle.vale_reading_laws.proofs.StepLaws.{given, returned, sign_takes, word_takes, name_takes, front, Takes, by_turn, turns_takes, faulty_takes, commas_take}
use Rattle.vale_reading_laws.proofs.Takes.{type_takes, block_takes, within_sound}

lowered : {A C : Type 0} {f : ℕ → Read A} {y : A × List Token} (here : List Token) (d : ℕ) → lower d here f ≡ Ok y → ((l : ℕ) → d ≡ suc l → f l ≡ Ok y → C) → C
lowered here zero e k = absurd cc
lowered here (suc d) e k = k d refl e

in_deeper : (d level : ℕ) (p : ℕ → Part) (ts rest : List Token) → d ≡ suc level → p level ts rest → deeper d p ts rest
in_deeper d level p ts rest e h = subst (λ (n : ℕ). deeper n p ts rest) (sym e) h

-- ---- items of a list up to where it stops

module _ {X : Type 0} (stop : List Token → Bool) (item : Reader X) (P : X → Part) (takes : Takes item P) where
  -- the list's end
  abbrev Stopped : Unit {0} → Part
  Stopped e ts rest = (ts ≡ rest) × (stop rest ≡ true)

  abbrev pub AllUntil : List X → Part
  AllUntil xs ts rest = each P xs ts rest × (stop rest ≡ true)

  until_by_takes : (ts : List Token) (b : Bool) (y : Turn X (Unit {0}) × List Token) → stop ts ≡ b → until_by item ts b ≡ Ok y → by_turn P Stopped y.0 ts y.1
  until_by_takes ts true y is e = returned (front (by_turn P Stopped) ts) (End tt, ts) e (refl, is)
  until_by_takes ts false y is e = given e (λ x ex e. returned (front (by_turn P Stopped) ts) (More x.0, x.1) e (takes ts x ex))

  until_takes : Takes (until stop item) (by_turn P Stopped)
  unfolding until
  until_takes ts y e = until_by_takes ts (stop ts) y refl e

  pub all_until_takes : Takes (all_until stop item) AllUntil
  unfolding all_until
  all_until_takes ts y e = turns_takes (until stop item) (λ x xs. x ∷ xs) (λ _. []) faulty P Stopped AllUntil
      until_takes (λ x l ts mid rest h g. ((mid, h, g.0), g.1)) (λ _ ts rest h. h) (faulty_takes AllUntil) (enough ts) ts y e

braced_takes : {X : Type 0} (item : ℕ → Reader X) (P : ℕ → X → Part) → ((d : ℕ) → Takes (item d) (P d)) → (d : ℕ) → Takes (braced d item) (λ xs. sign s.OpenBrace ▸ deeper d (λ d. each (P d) xs) ▸ sign s.CloseBrace)
braced_takes item P takes d ts y e = given e (λ a ea e. lowered ts d e (λ l dl e. given e (λ xs exs e. given e (λ c ec e. returned (front (λ (xs : List _). sign s.OpenBrace ▸ deeper d (λ d. each (P d) xs) ▸ sign s.CloseBrace) ts) (xs.0, c.1) e
    (a.1, (a.0, sign_takes s.OpenBrace ts a ea), (xs.1, in_deeper d l (λ d. each (P d) xs.0) a.1 xs.1 dl (all_until_takes (begins s.CloseBrace) (item l) (P l) (takes l) a.1 xs exs).0, (c.0, sign_takes s.CloseBrace xs.1 c ec)))))))

-- ---- flags

purity_by_takes : (ts : List Token) (b : Bool) (y : Bool × List Token) → flag_word ts b ≡ Ok y → when y.0 (word w.Pure) ts y.1
purity_by_takes ts true y e = given e (λ p ep e. returned (front (λ b. when b (word w.Pure)) ts) (true, p.1) e (p.0, word_takes w.Pure ts p ep))
purity_by_takes ts false y e = returned (front (λ b. when b (word w.Pure)) ts) (false, ts) e refl

purity_takes : Takes purity_at (λ b. when b (word w.Pure))
unfolding purity_at
purity_takes ts y e = purity_by_takes ts (begins_word w.Pure ts) y e

bang_by_takes : (ts : List Token) (b : Bool) (y : Bool × List Token) → flag_sign ts b ≡ Ok y → when y.0 (sign s.Bang) ts y.1
bang_by_takes ts true y e = given e (λ p ep e. returned (front (λ b. when b (sign s.Bang)) ts) (true, p.1) e (p.0, sign_takes s.Bang ts p ep))
bang_by_takes ts false y e = returned (front (λ b. when b (sign s.Bang)) ts) (false, ts) e refl

bang_takes : Takes bang_at (λ b. when b (sign s.Bang))
unfolding bang_at
bang_takes ts y e = bang_by_takes ts (begins s.Bang ts) y e

module _ (names : List (List ℕ)) where
  param_takes : (d : ℕ) → Takes (param_at names d) (IsParam names d)
  unfolding param_at
  param_takes d ts y e = given e (λ n en e. given e (λ x ex e. returned (front (IsParam names d) ts) (param n.0 x.0, x.1) e
      (n.1, name_takes names ts n en, type_takes names d (within names d) (within_sound names d) n.1 x ex)))

  params_take : (d : ℕ) → Takes (params_at names d) (with_commas (IsParam names d))
  unfolding params_at
  params_take d ts y e = commas_take (param_at names d) (IsParam names d) (param_takes d) (λ x xs. x ∷ xs) [] (with_commas (IsParam names d)) (each (λ p. sign s.Comma ▸ IsParam names d p))
      (λ x l ts mid rest h g. (mid, h, g)) (λ x l ts mid rest h g. (mid, h, g)) (λ ts. refl) (λ ts. refl) s.CloseParen ts y e

  result_by_takes : (d : ℕ) (ts : List Token) (b : Bool) (y : Option TypeExpr × List Token) → result_by names d ts b ≡ Ok y → optional (IsType names d) y.0 ts y.1
  result_by_takes d ts true y e = returned (front (optional (IsType names d)) ts) (None, ts) e refl
  result_by_takes d ts false y e = given e (λ x ex e. returned (front (optional (IsType names d)) ts) (Some x.0, x.1) e (type_takes names d (within names d) (within_sound names d) ts x ex))

  result_takes : (d : ℕ) → Takes (result_at names d) (optional (IsType names d))
  unfolding result_at
  result_takes d ts y e = result_by_takes d ts _ y e

  head_takes : (d : ℕ) → Takes (head_at names d) (IsHead names d)
  unfolding head_at
  head_takes d ts y e = given e (λ p ep e. given e (λ f ef e. given e (λ n en e. given e (λ a ea e. given e (λ ps eps e. given e (λ c ec e. given e (λ x ex e. returned (front (IsHead names d) ts) (head p.0 n.0 ps.0 x.0, x.1) e (
    p.1,
    purity_takes ts p ep,
    (
      f.1,
      (f.0, word_takes w.Func p.1 f ef),
      (
        n.1,
        name_takes names f.1 n en,
        (
          a.1,
          (a.0, sign_takes s.OpenParen n.1 a ea),
          (ps.1, lowered n.1 d eps (λ l dl e. in_deeper d l (λ d. with_commas (IsParam names d) ps.0) a.1 ps.1 dl (params_take l a.1 ps e)), (c.1, (c.0, sign_takes s.CloseParen ps.1 c ec), result_takes d c.1 x ex)),
        ),
      ),
    ),
  ))))))))

  signature_takes : (d : ℕ) → Takes (signature_at names d) (λ h. IsHead names d h ▸ sign s.Semicolon)
  unfolding signature_at
  signature_takes d ts y e = given e (λ h eh e. given e (λ c ec e. returned (front (λ h. IsHead names d h ▸ sign s.Semicolon) ts) (h.0, c.1) e (h.1, head_takes d ts h eh, (c.0, sign_takes s.Semicolon h.1 c ec))))

  function_takes : (d : ℕ) → Takes (function_at names d) (IsFunction names d)
  unfolding function_at
  function_takes d ts y e = given e (λ h eh e. given e (λ b eb e. returned (front (IsFunction names d) ts) (function h.0 b.0, b.1) e (h.1, head_takes d ts h eh, block_takes names d (within names d) (within_sound names d) h.1 b eb)))

  field_takes : (d : ℕ) → Takes (field_at names d) (IsField names d)
  unfolding field_at
  field_takes d ts y e = given e (λ n en e. given e (λ b eb e. given e (λ x ex e. given e (λ c ec e. returned (front (IsField names d) ts) (field_decl n.0 b.0 x.0, c.1) e
      (n.1, name_takes names ts n en, (b.1, bang_takes n.1 b eb, (x.1, type_takes names d (within names d) (within_sound names d) b.1 x ex, (c.0, sign_takes s.Semicolon x.1 c ec))))))))

  struct_takes : (d : ℕ) → Takes (struct_at names d) (IsItem names d)
  unfolding struct_at
  struct_takes d ts y e = given e (λ a ea e. given e (λ n en e. given e (λ fs efs e. returned (front (IsItem names d) ts) (struct_item n.0 fs.0, fs.1) e
      (a.1, (a.0, word_takes w.Struct ts a ea), (n.1, name_takes names a.1 n en, braced_takes (field_at names) (IsField names) field_takes d n.1 fs efs)))))

  interface_takes : (d : ℕ) → Takes (interface_at names d) (IsItem names d)
  unfolding interface_at
  interface_takes d ts y e = given e (λ a ea e. given e (λ n en e. given e (λ hs ehs e. returned (front (IsItem names d) ts) (interface_item n.0 hs.0, hs.1) e
      (a.1, (a.0, word_takes w.Interface ts a ea), (n.1, name_takes names a.1 n en, braced_takes (signature_at names) (λ d h. IsHead names d h ▸ sign s.Semicolon) signature_takes d n.1 hs ehs)))))

  impl_takes : (d : ℕ) → Takes (impl_at names d) (IsItem names d)
  unfolding impl_at
  impl_takes d ts y e = given e (λ a ea e. given e (λ i ei e. given e (λ f ef e. given e (λ n en e. given e (λ fs efs e. returned (front (IsItem names d) ts) (impl_item a.0 i.0 n.0 fs.0, fs.1) e
      (a.1, word_takes w.Impl ts a ea, (i.1, name_takes names a.1 i ei, (f.1, (f.0, word_takes w.For i.1 f ef), (n.1, name_takes names f.1 n en, braced_takes (function_at names) (IsFunction names) function_takes d n.1 fs efs)))))))))

  function_item_takes : (d : ℕ) → Takes (function_item_at names d) (IsItem names d)
  function_item_takes d ts y e = given e (λ f ef e. returned (front (IsItem names d) ts) (function_item f.0, f.1) e (function_takes d ts f ef))

  item_by_takes : (d : ℕ) (t : Token) (ts : List Token) (kind : TokenKind) (y : Item × List Token) → item_by names d t ts kind ≡ Ok y → IsItem names d y.0 (t ∷ ts) y.1
  item_by_takes d t ts (k.Word w.Struct) y e = struct_takes d (t ∷ ts) y e
  item_by_takes d t ts (k.Word w.Interface) y e = interface_takes d (t ∷ ts) y e
  item_by_takes d t ts (k.Word w.Impl) y e = impl_takes d (t ∷ ts) y e
  item_by_takes d t ts _ y e = function_item_takes d (t ∷ ts) y e

  item_takes : (d : ℕ) → Takes (item_at names d) (IsItem names d)
  unfolding item_at
  item_takes d [] y e = absurd cc
  item_takes d (t ∷ ts) y e = item_by_takes d t ts t.kind y e

  items_take : (d : ℕ) → Takes (items_at names d) (AllUntil ended (item_at names d) (IsItem names d) (item_takes d))
  unfolding items_at
  items_take d ts y e = all_until_takes ended (item_at names d) (IsItem names d) (item_takes d) ts y e

ended_is : (ts : List Token) → ended ts ≡ true → ts ≡ []
ended_is [] e = refl
ended_is (t ∷ ts) e = absurd cc

tree_takes : (ts : List Token) (r : Read (List Item)) (x : Tree) → items_at (names_in ts) level_limit ts ≡ r → tree_of (names_in ts) (read_items r) ≡ Ok x → spells x ts
tree_takes ts (Ok (is, rest)) x h e =
    let g = items_take (names_in ts) level_limit ts (is, rest) h in
    returned (λ (z : Tree). spells z ts) (tree (names_in ts) is) e (refl, subst (λ (r : List Token). each (IsItem (names_in ts) level_limit) is ts r) (ended_is rest g.1) g.0)
tree_takes ts (Err f) x h e = absurd cc

pub all_takes : (ts : List Token) (x : Tree) → all_of ts ≡ Ok x → spells x ts
unfolding all_of
all_takes ts x e = tree_takes ts (items_at (names_in ts) level_limit ts) x refl e
