-- Items that are in the grammar are read, and so is a whole program.
use Rattle.std.proofs.Common.{◌≡◌, ◌<◌, ◌≤◌, ℕ, zero, suc, Bool, true, false, List, [], ◌∷◌, length, Option, Some, None, Ok, Err, refl, sym, ap, subst, ◌∙◌, arith}
use Rattle.std.specs.Prelude.{◌||◌}
use Rattle.vale_base.specs.declared.spot.Spot.{Spot}
use Rattle.vale_base.specs.Limits.{level_limit}
use Rattle.vale_syntax.specs.declared.token.Token.{Token}
use Rattle.vale_syntax.specs.declared.token.TokenKind.{TokenKind}
use Rattle.vale_syntax.specs.declared.token.TokenKind.TheVariants as k
use Rattle.vale_syntax.specs.declared.token.Sign.TheVariants as s
use Rattle.vale_syntax.specs.declared.token.Word.TheVariants as w
use Rattle.vale_syntax.specs.declared.tree.NameAt.{NameAt}
use Rattle.vale_syntax.specs.Tree.{TypeExpr, Param, param, Head, head, Block, block, Function, function, FieldDecl, field_decl, Item, struct_item, interface_item, impl_item, function_item, Tree, tree}
use Rattle.vale_syntax.specs.Grammar.{Part, token, sign, word, ◌▸◌, when, optional, each, with_commas, deeper, names_in, IsType, IsBlock, IsParam, IsHead, IsFunction, IsField, IsItem, spells}
use Rattle.vale_reading.specs.declared.stop.Turn.TheVariants.{More, End}
use Rattle.vale_reading.specs.Steps.{Fault, Read, Reader, is_sign, begins, begins_word, enough, faulty}
use Rattle.vale_reading.specs.Reading.{type_at, block_at, within}
use Rattle.vale_reading.specs.ItemReading.{lower, ended, until, all_until, braced, purity_at, bang_at, param_at, params_at, result_at, head_at, signature_at, function_at, field_at, struct_at, interface_at, impl_at, function_item_at, item_at, items_at, read_items, tree_of, all_of}
use Rattle.vale_reading_laws.proofs.StepLaws.{ok_is, sign_again, word_again, name_again}
use Rattle.vale_reading_laws.proofs.Shorter.{at_level, shorter_name, shorter_type, shorter_block, shorter_each}
use Rattle.vale_reading_laws.proofs.Firsts.{Before, starts_type, first_type}
use Rattle.vale_reading_laws.proofs.AgainSteps.{begins_again, begins_word_again, list_listed, turns_again, commas_again}
use Rattle.vale_reading_laws.proofs.Again.{type_again, block_again}
use Rattle.vale_reading_laws.proofs.AgainStmts.{within_full}

lowering : {A : Type 0} {y : Read A} (here : List Token) (f : ℕ → Read A) (d : ℕ) (p : ℕ → Part) (ts rest : List Token) → deeper d p ts rest → ((l : ℕ) → p l ts rest → f l ≡ y) → lower d here f ≡ y
lowering here f zero p ts rest h k = absurd h
lowering here f (suc d) p ts rest h k = k d h

-- ---- items of a list up to where it stops

module _ {X : Type 0} (stop : List Token → Bool) (item : Reader X) (P : X → Part)
    (again : (x : X) (ts mid : List Token) → P x ts mid → item ts ≡ Ok (x, mid))
    (no_stop : (x : X) (ts mid : List Token) → P x ts mid → stop ts ≡ false)
    (shrinks : (x : X) (ts mid : List Token) → P x ts mid → length mid < length ts) where
  abbrev Stopped : List Token → Type 0
  Stopped rest = stop rest ≡ true

  until_adds : (x : X) (l : List X) (ts mid rest : List Token) → P x ts mid → each P l mid rest → Stopped rest → until stop item ts ≡ Ok (More x, mid)
  unfolding until
  until_adds x l ts mid rest h g q = rw (no_stop x ts mid h, again x ts mid h) refl

  until_ends : (e : Unit {0}) (ts rest : List Token) → ts ≡ rest → Stopped rest → until stop item ts ≡ Ok (End e, rest)
  unfolding until
  until_ends e ts rest h q = rw (h, q) refl

  pub all_until_again : (xs : List X) (ts rest : List Token) → each P xs ts rest → Stopped rest → all_until stop item ts ≡ Ok (xs, rest)
  unfolding all_until
  all_until_again xs ts rest h q =
      let same = list_listed xs in
      let less : length ts < enough ts = omega arith in
      turns_again (until stop item) (λ x xs. x ∷ xs) (λ _. []) faulty P (each P) Stopped (λ x l ts rest h. h) shrinks until_adds until_ends (enough ts) xs tt ts rest less
      (subst (λ (z : List X). each P z ts rest) (sym same) h) q ∙ ap (λ (z : List X). Ok (z, rest)) same

braced_again : {X : Type 0} (item : ℕ → Reader X) (P : ℕ → X → Part) → ((d : ℕ) (x : X) (ts mid : List Token) → P d x ts mid → item d ts ≡ Ok (x, mid)) → ((d : ℕ) (x : X) (ts mid : List Token) → P d x ts mid → begins s.CloseBrace ts ≡ false)
    → ((d : ℕ) (x : X) (ts mid : List Token) → P d x ts mid → length mid < length ts) → (d : ℕ) (xs : List X) (ts rest : List Token) → (sign s.OpenBrace ▸ deeper d (λ d. each (P d) xs) ▸ sign s.CloseBrace) ts rest → braced d item ts ≡ Ok (xs, rest)
braced_again item P again no_stop shrinks d xs ts rest (m, (at, h), (m2, g, (at2, h2))) = rw (sign_again s.OpenBrace at ts m h) (lowering _ _ d (λ d. each (P d) xs) m m2 g
    (λ l p. rw (all_until_again (begins s.CloseBrace) (item l) (P l) (again l) (no_stop l) (shrinks l) xs m m2 p (begins_again s.CloseBrace at2 m2 rest h2), sign_again s.CloseBrace at2 m2 rest h2) refl))

-- ---- flags

purity_again : (b : Bool) (ts m : List Token) → when b (word w.Pure) ts m → begins_word w.Pure m ≡ false → purity_at ts ≡ Ok (b, m)
unfolding purity_at
purity_again true ts m (at, h) q = rw (begins_word_again w.Pure at ts m h, word_again w.Pure at ts m h) refl
purity_again false ts m h q = rw (h, q) refl

bang_again : (b : Bool) (ts m : List Token) → when b (sign s.Bang) ts m → begins s.Bang m ≡ false → bang_at ts ≡ Ok (b, m)
unfolding bang_at
bang_again true ts m (at, h) q = rw (begins_again s.Bang at ts m h, sign_again s.Bang at ts m h) refl
bang_again false ts m h q = rw (h, q) refl

shorter_pure : (b : Bool) (ts m : List Token) → when b (word w.Pure) ts m → length m ≤ length ts
shorter_pure true ts m (at, h) = omega (arith, ap length h)
shorter_pure false ts m h = omega (arith, ap length h)

shorter_bang : (b : Bool) (ts m : List Token) → when b (sign s.Bang) ts m → length m ≤ length ts
shorter_bang true ts m (at, h) = omega (arith, ap length h)
shorter_bang false ts m h = omega (arith, ap length h)

-- what ends a head
abbrev HeadEnds : List Token → Type 0
HeadEnds ts = (begins s.OpenBrace ts || begins s.Semicolon ts) ≡ true

module _ (names : List (List ℕ)) where
  starts_no_end : (kind : TokenKind) → starts_type names kind ≡ true → (is_sign s.OpenBrace kind || is_sign s.Semicolon kind) ≡ false
  starts_no_end (k.Sign s.OpenBrace) e = absurd cc
  starts_no_end (k.Sign s.Semicolon) e = absurd cc
  starts_no_end _ e = refl

  starts_no_bang : (kind : TokenKind) → starts_type names kind ≡ true → is_sign s.Bang kind ≡ false
  starts_no_bang (k.Sign s.Bang) e = absurd cc
  starts_no_bang _ e = refl

  type_no_end : (d : ℕ) (x : TypeExpr) (ts rest : List Token) → IsType names d x ts rest → (begins s.OpenBrace ts || begins s.Semicolon ts) ≡ false
  type_no_end d x ts rest h = let f = first_type names d x ts rest h in subst (λ (z : List Token). (begins s.OpenBrace z || begins s.Semicolon z) ≡ false) (sym f.is) (starts_no_end f.t.kind f.starts)

  type_no_bang : (d : ℕ) (x : TypeExpr) (ts rest : List Token) → IsType names d x ts rest → begins s.Bang ts ≡ false
  type_no_bang d x ts rest h = let f = first_type names d x ts rest h in subst (λ (z : List Token). begins s.Bang z ≡ false) (sym f.is) (starts_no_bang f.t.kind f.starts)

  type_read : (d : ℕ) (x : TypeExpr) (ts rest : List Token) → IsType names d x ts rest → type_at names (within names d) ts ≡ Ok (x, rest)
  type_read d x ts rest h = type_again names d (within names d) (within_full names d) x ts rest h tt

  block_read : (d : ℕ) (b : Block) (ts rest : List Token) → IsBlock names d b ts rest → block_at names (within names d) ts ≡ Ok (b, rest)
  block_read d b ts rest h = block_again names d (within names d) (within_full names d) b ts rest h tt

  -- ---- parameters and heads

  param_again : (d : ℕ) (x : Param) (ts rest : List Token) → IsParam names d x ts rest → param_at names d ts ≡ Ok (x, rest)
  unfolding param_at
  param_again d (param n x) ts rest (m, h, g) = rw (name_again names n ts m h, type_read d x m rest g) refl

  shorter_param : (d : ℕ) (x : Param) (ts rest : List Token) → IsParam names d x ts rest → length rest < length ts
  shorter_param d (param n x) ts rest (m, h, g) = omega (arith, shorter_name names n ts m h, shorter_type names d x m rest g)

  param_no_close : (d : ℕ) (x : Param) (ts rest : List Token) → IsParam names d x ts rest → begins s.CloseParen ts ≡ false
  param_no_close d (param n x) ts rest (m, (text, is, h), g) = rw h refl

  abbrev Every : List Token → Type 0
  Every ts = Unit {0}

  params_again : (d : ℕ) (ps : List Param) (ts rest : List Token) → with_commas (IsParam names d) ps ts rest → Before s.CloseParen rest → params_at names d ts ≡ Ok (ps, rest)
  unfolding params_at
  params_again d ps ts rest h q =
      let same = list_listed ps in
      let all = commas_again (param_at names d) (IsParam names d) Every s.CloseParen (λ x xs. x ∷ xs) [] (with_commas (IsParam names d)) (each (λ p. sign s.Comma ▸ IsParam names d p))
      (λ x ts rest h q. param_again d x ts rest h) (shorter_param d) (param_no_close d) (λ ts rest h. tt) (λ ts rest h. tt) refl
      (λ ts rest h. h) (λ x l ts rest h. h) (λ ts rest h. h) (λ x l ts rest h. h) ps ts rest (subst (λ (z : List Param). with_commas (IsParam names d) z ts rest) (sym same) h) q in
      all ∙ ap (λ (z : List Param). Ok (z, rest)) same

  shorter_params : (d : ℕ) (ps : List Param) (ts rest : List Token) → with_commas (IsParam names d) ps ts rest → length rest ≤ length ts
  shorter_params d [] ts rest h = omega (arith, ap length h)
  shorter_params d (p ∷ ps) ts rest (m, h, g) = omega (
    arith,
    shorter_param d p ts m h,
    shorter_each (λ p. sign s.Comma ▸ IsParam names d p) (λ p ts rest h. let less : length rest < length h.0 = shorter_param d p h.0 rest h.2 in omega (arith, ap length h.1.1, less)) ps m rest g,
  )

  result_again : (d : ℕ) (x : Option TypeExpr) (ts rest : List Token) → optional (IsType names d) x ts rest → HeadEnds rest → result_at names d ts ≡ Ok (x, rest)
  unfolding result_at
  result_again d None ts rest h q = rw (h, q) refl
  result_again d (Some x) ts rest h q = rw (type_no_end d x ts rest h, type_read d x ts rest h) refl

  shorter_result : (d : ℕ) (x : Option TypeExpr) (ts rest : List Token) → optional (IsType names d) x ts rest → length rest ≤ length ts
  shorter_result d None ts rest h = omega (arith, ap length h)
  shorter_result d (Some x) ts rest h = omega (arith, shorter_type names d x ts rest h)

  head_again : (d : ℕ) (x : Head) (ts rest : List Token) → IsHead names d x ts rest → HeadEnds rest → head_at names d ts ≡ Ok (x, rest)
  unfolding head_at
  head_again d (head p n ps x) ts rest (m0, hp, (m1, (at1, h1), (m2, h2, (m3, (at3, h3), (m4, g, (m5, (at5, h5), h6)))))) q =
      let func : begins_word w.Pure m0 ≡ false = rw h1 refl in
      let read = lowering m2 (λ d. params_at names d m3) d (λ d. with_commas (IsParam names d) ps) m3 m4 g (λ l g. params_again l ps m3 m4 g (m5, (at5, h5))) in
      rw (purity_again p ts m0 hp func, word_again w.Func at1 m0 m1 h1, name_again names n m1 m2 h2, sign_again s.OpenParen at3 m2 m3 h3, read, sign_again s.CloseParen at5 m4 m5 h5, result_again d x m5 rest h6 q) refl

  shorter_head : (d : ℕ) (x : Head) (ts rest : List Token) → IsHead names d x ts rest → length rest < length ts
  shorter_head d (head p n ps x) ts rest (m0, hp, (m1, (at1, h1), (m2, h2, (m3, (at3, h3), (m4, g, (m5, (at5, h5), h6)))))) =
      at_level d (λ d. with_commas (IsParam names d) ps) m3 m4 g (λ l g. omega (arith, shorter_pure p ts m0 hp, ap length h1, shorter_name names n m1 m2 h2, ap length h3, shorter_params l ps m3 m4 g, ap length h5, shorter_result d x m5 rest h6))

  -- a head begins with `pure` or `func`
  head_first : (d : ℕ) (x : Head) (ts rest : List Token) → IsHead names d x ts rest → (f : TokenKind → Bool) → f (k.Word w.Pure) ≡ false → f (k.Word w.Func) ≡ false → (t : Token) × (after : List Token) × (ts ≡ t ∷ after) × (f t.kind ≡ false)
  head_first d (head true n ps x) ts rest (m0, (at, h), g) f a b = (token (k.Word w.Pure) at, m0, h, a)
  head_first d (head false n ps x) ts rest (m0, h, (m1, (at1, h1), g)) f a b = (token (k.Word w.Func) at1, m1, h ∙ h1, b)

  head_no_close : (d : ℕ) (x : Head) (ts rest : List Token) → IsHead names d x ts rest → begins s.CloseBrace ts ≡ false
  head_no_close d x ts rest h = let q = head_first d x ts rest h (λ z. is_sign s.CloseBrace z) refl refl in rw (q.2) (q.3)

  -- ---- members

  signature_again : (d : ℕ) (x : Head) (ts rest : List Token) → (IsHead names d x ▸ sign s.Semicolon) ts rest → signature_at names d ts ≡ Ok (x, rest)
  unfolding signature_at
  signature_again d x ts rest (m, h, (at, g)) = let ends : HeadEnds m = rw g refl in rw (head_again d x ts m h ends, sign_again s.Semicolon at m rest g) refl

  shorter_signature : (d : ℕ) (x : Head) (ts rest : List Token) → (IsHead names d x ▸ sign s.Semicolon) ts rest → length rest < length ts
  shorter_signature d x ts rest (m, h, (at, g)) = omega (arith, shorter_head d x ts m h, ap length g)

  block_ends : (d : ℕ) (b : Block) (ts rest : List Token) → IsBlock names d b ts rest → HeadEnds ts
  block_ends d (block at end xs) ts rest (m, h, g) = rw h refl

  function_again : (d : ℕ) (x : Function) (ts rest : List Token) → IsFunction names d x ts rest → function_at names d ts ≡ Ok (x, rest)
  unfolding function_at
  function_again d (function x b) ts rest (m, h, g) = rw (head_again d x ts m h (block_ends d b m rest g), block_read d b m rest g) refl

  shorter_function : (d : ℕ) (x : Function) (ts rest : List Token) → IsFunction names d x ts rest → length rest < length ts
  shorter_function d (function x b) ts rest (m, h, g) = omega (arith, shorter_head d x ts m h, shorter_block names d b m rest g)

  function_no_close : (d : ℕ) (x : Function) (ts rest : List Token) → IsFunction names d x ts rest → begins s.CloseBrace ts ≡ false
  function_no_close d (function x b) ts rest (m, h, g) = head_no_close d x ts m h

  field_again : (d : ℕ) (x : FieldDecl) (ts rest : List Token) → IsField names d x ts rest → field_at names d ts ≡ Ok (x, rest)
  unfolding field_at
  field_again d (field_decl n b x) ts rest (m, h, (m2, h2, (m3, h3, (at4, h4)))) =
      rw (name_again names n ts m h, bang_again b m m2 h2 (type_no_bang d x m2 m3 h3), type_read d x m2 m3 h3, sign_again s.Semicolon at4 m3 rest h4) refl

  shorter_field : (d : ℕ) (x : FieldDecl) (ts rest : List Token) → IsField names d x ts rest → length rest < length ts
  shorter_field d (field_decl n b x) ts rest (m, h, (m2, h2, (m3, h3, (at4, h4)))) = omega (arith, shorter_name names n ts m h, shorter_bang b m m2 h2, shorter_type names d x m2 m3 h3, ap length h4)

  field_no_close : (d : ℕ) (x : FieldDecl) (ts rest : List Token) → IsField names d x ts rest → begins s.CloseBrace ts ≡ false
  field_no_close d (field_decl n b x) ts rest (m, (text, is, h), g) = rw h refl

  -- ---- items

  struct_again : (d : ℕ) (n : NameAt) (fs : List FieldDecl) (ts rest : List Token) → IsItem names d (struct_item n fs) ts rest → struct_at names d ts ≡ Ok (struct_item n fs, rest)
  unfolding struct_at
  struct_again d n fs ts rest (m, (at, h), (m2, h2, g)) = rw (word_again w.Struct at ts m h, name_again names n m m2 h2, braced_again (field_at names) (IsField names) field_again field_no_close shorter_field d fs m2 rest g) refl

  interface_again : (d : ℕ) (n : NameAt) (hs : List Head) (ts rest : List Token) → IsItem names d (interface_item n hs) ts rest → interface_at names d ts ≡ Ok (interface_item n hs, rest)
  unfolding interface_at
  interface_again d n hs ts rest (m, (at, h), (m2, h2, g)) =
      rw (word_again w.Interface at ts m h, name_again names n m m2 h2, braced_again (signature_at names) (λ d h. IsHead names d h ▸ sign s.Semicolon) signature_again (λ d x ts mid h. head_no_close d x ts h.0 h.1) shorter_signature d hs m2 rest g) refl

  impl_again : (d : ℕ) (at : Spot) (i n : NameAt) (fs : List Function) (ts rest : List Token) → IsItem names d (impl_item at i n fs) ts rest → impl_at names d ts ≡ Ok (impl_item at i n fs, rest)
  unfolding impl_at
  impl_again d at i n fs ts rest (m, h, (m2, h2, (m3, (at3, h3), (m4, h4, g)))) =
      rw (word_again w.Impl at ts m h, name_again names i m m2 h2, word_again w.For at3 m2 m3 h3, name_again names n m3 m4 h4, braced_again (function_at names) (IsFunction names) function_again function_no_close shorter_function d fs m4 rest g) refl

  function_item_again : (d : ℕ) (f : Function) (ts rest : List Token) → IsFunction names d f ts rest → function_item_at names d ts ≡ Ok (function_item f, rest)
  function_item_again d f ts rest h = rw (function_again d f ts rest h) refl

  item_again : (d : ℕ) (x : Item) (ts rest : List Token) → IsItem names d x ts rest → item_at names d ts ≡ Ok (x, rest)
  unfolding item_at
  item_again d (struct_item n fs) ts rest (m, (at, h), g) = rw h (struct_again d n fs (token (k.Word w.Struct) at ∷ m) rest (m, (at, refl), g))
  item_again d (interface_item n hs) ts rest (m, (at, h), g) = rw h (interface_again d n hs (token (k.Word w.Interface) at ∷ m) rest (m, (at, refl), g))
  item_again d (impl_item at i n fs) ts rest (m, h, g) = rw h (impl_again d at i n fs (token (k.Word w.Impl) at ∷ m) rest (m, refl, g))
  item_again d (function_item (function (head true n ps x) b)) ts rest (m, (m0, (at, h), g), h2) = rw h (function_item_again d (function (head true n ps x) b) (token (k.Word w.Pure) at ∷ m0) rest (m, (m0, (at, refl), g), h2))
  item_again d (function_item (function (head false n ps x) b)) ts rest (m, (m0, h, (m1, (at1, h1), g)), h2) =
      rw (h, h1) (function_item_again d (function (head false n ps x) b) (token (k.Word w.Func) at1 ∷ m1) rest (m, (token (k.Word w.Func) at1 ∷ m1, refl, (m1, (at1, refl), g)), h2))

  in_braces : {X : Type 0} (P : ℕ → X → Part) → ((d : ℕ) (x : X) (ts mid : List Token) → P d x ts mid → length mid < length ts) → (d : ℕ) (xs : List X) (ts rest : List Token) → (sign s.OpenBrace ▸ deeper d (λ d. each (P d) xs) ▸ sign s.CloseBrace) ts rest → length rest < length ts
  in_braces P law d xs ts rest (m, (at, h), (m2, g, (at2, h2))) = at_level d (λ d. each (P d) xs) m m2 g
      (λ l g. omega (arith, ap length h, shorter_each (P l) (λ x ts rest h. let less : length rest < length ts = law l x ts rest h in omega (arith, less)) xs m m2 g, ap length h2))

  shorter_item : (d : ℕ) (x : Item) (ts rest : List Token) → IsItem names d x ts rest → length rest < length ts
  shorter_item d (struct_item n fs) ts rest (m, (at, h), (m2, h2, g)) = omega (arith, ap length h, shorter_name names n m m2 h2, in_braces (IsField names) shorter_field d fs m2 rest g)
  shorter_item d (interface_item n hs) ts rest (m, (at, h), (m2, h2, g)) = omega (arith, ap length h, shorter_name names n m m2 h2, in_braces (λ d h. IsHead names d h ▸ sign s.Semicolon) shorter_signature d hs m2 rest g)
  shorter_item d (impl_item at i n fs) ts rest (m, h, (m2, h2, (m3, (at3, h3), (m4, h4, g)))) = omega (arith, ap length h, shorter_name names i m m2 h2, ap length h3, shorter_name names n m3 m4 h4, in_braces (IsFunction names) shorter_function d fs m4 rest g)
  shorter_item d (function_item f) ts rest h = shorter_function d f ts rest h

  not_ended : (ts rest : List Token) → length rest < length ts → ended ts ≡ false
  not_ended [] rest lt = absurd (omega (arith, lt))
  not_ended (t ∷ ts) rest lt = refl

  pub items_again : (d : ℕ) (xs : List Item) (ts : List Token) → each (IsItem names d) xs ts [] → items_at names d ts ≡ Ok (xs, [])
  unfolding items_at
  items_again d xs ts h = all_until_again ended (item_at names d) (IsItem names d) (item_again d) (λ x ts mid h. not_ended ts mid (shorter_item d x ts mid h)) (shorter_item d) xs ts [] h refl

pub all_again : (ts : List Token) (x : Tree) → spells x ts → all_of ts ≡ Ok x
unfolding all_of
all_again ts (tree names items) (same, h) =
    let read : items_at (names_in ts) level_limit ts ≡ Ok (items, []) = items_again (names_in ts) level_limit items ts (subst (λ (z : List (List ℕ)). each (IsItem z level_limit) items ts []) same h) in
    ap (λ (z : Read (List Item)). tree_of (names_in ts) (read_items z)) read ∙ ap (λ (z : List (List ℕ)). Ok (tree z items)) (sym same)

-- A list of tokens has at most one tree, and it is refused where it has none.
pub one_tree : (ts : List Token) (x y : Tree) → spells x ts → spells y ts → x ≡ y
one_tree ts x y h g = ok_is x y (sym (all_again ts x h) ∙ all_again ts y g)

pub none_left : (ts : List Token) (f : Fault) (x : Tree) → all_of ts ≡ Err f → spells x ts → ⊥
none_left ts f x e h = let both : Err f ≡ Ok x = sym e ∙ all_again ts x h in cc
