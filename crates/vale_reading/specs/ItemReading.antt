-- Reading items, and a whole program.
use Rattle.std.specs.Prelude.{ℕ, zero, suc, Bool, true, false, List, [], ◌∷◌, Option, Some, None, Result, Ok, Err, ◌||◌}
use Rattle.vale_base.specs.Limits.{level_limit}
use Rattle.vale_syntax.specs.declared.token.Token.{Token}
use Rattle.vale_syntax.specs.declared.token.TokenKind.{TokenKind}
use Rattle.vale_syntax.specs.declared.token.TokenKind.TheVariants as k
use Rattle.vale_syntax.specs.declared.token.Sign.TheVariants as s
use Rattle.vale_syntax.specs.declared.token.Word.TheVariants as w
use Rattle.vale_syntax.specs.Tree.{TypeExpr, Param, param, Head, head, Function, function, FieldDecl, field_decl, Item, struct_item, interface_item, impl_item, function_item, Tree, tree}
use Rattle.vale_syntax.specs.Grammar.{names_in}
use Rattle.vale_reading.specs.declared.stop.Turn.{Turn}
use Rattle.vale_reading.specs.declared.stop.Turn.TheVariants.{More, End}
use Rattle.vale_reading.specs.Steps.{Fault, unexpected, too_deep, Read, Reader, ◌>>=◌, begins, begins_word, sign_at, word_at, name_at, turns_at, enough, faulty}
use Rattle.vale_reading.specs.Reading.{commas_at, type_at, block_at, within}

-- one level fewer, where one is left
abbrev pub one_fewer : ℕ → Option ℕ
one_fewer zero = None
one_fewer (suc d) = Some d

abbrev pub lower_by : {A : Type 0} → Option ℕ → List Token → (ℕ → Read A) → Read A
lower_by None here f = Err (too_deep here)
lower_by (Some d) here f = f d

-- reads with one level fewer; the tokens begin with the one that opens it
abbrev pub lower : {A : Type 0} → ℕ → List Token → (ℕ → Read A) → Read A
lower d here f = lower_by (one_fewer d) here f

-- ---- items of a list up to where it stops

abbrev pub ended : List Token → Bool
ended [] = true
ended (t ∷ ts) = false

abbrev pub until_by : {X : Type 0} → Reader X → List Token → Bool → Read (Turn X (Unit {0}))
until_by item ts true = Ok (End tt, ts)
until_by item ts false = do
  x ← item ts
  Ok (More x.0, x.1)

unfoldable pub until : {X : Type 0} → (List Token → Bool) → Reader X → Reader (Turn X (Unit {0}))
until stop item ts = until_by item ts (stop ts)

unfoldable pub all_until : {X : Type 0} → (List Token → Bool) → Reader X → Reader (List X)
all_until stop item ts = turns_at (until stop item) (λ x xs. x ∷ xs) (λ _. []) faulty (enough ts) ts

-- between braces, a level deeper
abbrev pub braced : {X : Type 0} → ℕ → (ℕ → Reader X) → Reader (List X)
braced d item ts = do
  opening ← sign_at s.OpenBrace ts
  lower d ts (λ d. do
    xs ← all_until (begins s.CloseBrace) (item d) opening.1
    close ← sign_at s.CloseBrace xs.1
    Ok (xs.0, close.1))

-- ---- what stands there or not

abbrev pub flag_word : List Token → Bool → Read Bool
flag_word ts true = do
  p ← word_at w.Pure ts
  Ok (true, p.1)
flag_word ts false = Ok (false, ts)

unfoldable pub purity_at : Reader Bool
purity_at ts = flag_word ts (begins_word w.Pure ts)

abbrev pub flag_sign : List Token → Bool → Read Bool
flag_sign ts true = do
  p ← sign_at s.Bang ts
  Ok (true, p.1)
flag_sign ts false = Ok (false, ts)

unfoldable pub bang_at : Reader Bool
bang_at ts = flag_sign ts (begins s.Bang ts)

module _ (names : List (List ℕ)) where
  unfoldable pub param_at : ℕ → Reader Param
  param_at d ts = do
    n ← name_at names ts
    x ← type_at names (within names d) n.1
    Ok (param n.0 x.0, x.1)

  unfoldable pub params_at : ℕ → Reader (List Param)
  params_at d ts = commas_at s.CloseParen (param_at d) (λ x xs. x ∷ xs) [] ts

  abbrev pub result_by : ℕ → List Token → Bool → Read (Option TypeExpr)
  result_by d ts true = Ok (None, ts)
  result_by d ts false = do
    x ← type_at names (within names d) ts
    Ok (Some x.0, x.1)

  -- up to the `{` or `;` after it
  unfoldable pub result_at : ℕ → Reader (Option TypeExpr)
  result_at d ts = result_by d ts (begins s.OpenBrace ts || begins s.Semicolon ts)

  unfoldable pub head_at : ℕ → Reader Head
  head_at d ts = do
    p ← purity_at ts
    f ← word_at w.Func p.1
    n ← name_at names f.1
    opening ← sign_at s.OpenParen n.1
    ps ← lower d n.1 (λ d. params_at d opening.1)
    close ← sign_at s.CloseParen ps.1
    x ← result_at d close.1
    Ok (head p.0 n.0 ps.0 x.0, x.1)

  unfoldable pub signature_at : ℕ → Reader Head
  signature_at d ts = do
    h ← head_at d ts
    end ← sign_at s.Semicolon h.1
    Ok (h.0, end.1)

  unfoldable pub function_at : ℕ → Reader Function
  function_at d ts = do
    h ← head_at d ts
    b ← block_at names (within names d) h.1
    Ok (function h.0 b.0, b.1)

  unfoldable pub field_at : ℕ → Reader FieldDecl
  field_at d ts = do
    n ← name_at names ts
    b ← bang_at n.1
    x ← type_at names (within names d) b.1
    end ← sign_at s.Semicolon x.1
    Ok (field_decl n.0 b.0 x.0, end.1)

  unfoldable pub struct_at : ℕ → Reader Item
  struct_at d ts = do
    p ← word_at w.Struct ts
    n ← name_at names p.1
    fs ← braced d field_at n.1
    Ok (struct_item n.0 fs.0, fs.1)

  unfoldable pub interface_at : ℕ → Reader Item
  interface_at d ts = do
    p ← word_at w.Interface ts
    n ← name_at names p.1
    hs ← braced d signature_at n.1
    Ok (interface_item n.0 hs.0, hs.1)

  unfoldable pub impl_at : ℕ → Reader Item
  impl_at d ts = do
    p ← word_at w.Impl ts
    i ← name_at names p.1
    f ← word_at w.For i.1
    n ← name_at names f.1
    fs ← braced d function_at n.1
    Ok (impl_item p.0 i.0 n.0 fs.0, fs.1)

  abbrev pub function_item_at : ℕ → Reader Item
  function_item_at d ts = do
    f ← function_at d ts
    Ok (function_item f.0, f.1)

  abbrev pub item_by : ℕ → Token → List Token → TokenKind → Read Item
  item_by d t ts (k.Word w.Struct) = struct_at d (t ∷ ts)
  item_by d t ts (k.Word w.Interface) = interface_at d (t ∷ ts)
  item_by d t ts (k.Word w.Impl) = impl_at d (t ∷ ts)
  item_by d t ts _ = function_item_at d (t ∷ ts)

  unfoldable pub item_at : ℕ → Reader Item
  item_at d [] = Err (unexpected [])
  item_at d (t ∷ ts) = item_by d t ts t.kind

  unfoldable pub items_at : ℕ → Reader (List Item)
  items_at d ts = all_until ended (item_at d) ts

abbrev pub read_items : Read (List Item) → Result (List Item) Fault
read_items (Ok x) = Ok x.0
read_items (Err f) = Err f

-- the items of a whole program
abbrev pub items_of : List (List ℕ) → List Token → Result (List Item) Fault
items_of names ts = read_items (items_at names level_limit ts)

abbrev pub tree_of : List (List ℕ) → Result (List Item) Fault → Result Tree Fault
tree_of names (Ok items) = Ok (tree names items)
tree_of names (Err f) = Err f

-- a whole program, by the reader with so many levels
abbrev pub read_at : ℕ → List Token → Result Tree Fault
read_at levels ts = tree_of (names_in ts) (read_items (items_at (names_in ts) levels ts))

-- a whole program
unfoldable pub all_of : List Token → Result Tree Fault
all_of ts = tree_of (names_in ts) (items_of (names_in ts) ts)
