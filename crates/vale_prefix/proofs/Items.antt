-- Where reading stops, what stands before begins a part: items.
use Rattle.std.proofs.Common.{◌≡◌, ◌<◌, ◌≤◌, ◌+◌, ℕ, zero, suc, Bool, true, false, cond, List, [], ◌∷◌, ◌++◌, append_assoc, Option, Some, None, Ok, Err, refl, sym, ap, subst, ◌∙◌, arith, ◌⊎◌, inl, inr}
use Rattle.std.specs.Prelude.{◌||◌}
use Rattle.vale_base.specs.Limits.{level_limit}
use Rattle.vale_syntax.specs.declared.token.Token.{Token}
use Rattle.vale_syntax.specs.declared.token.TokenKind.{TokenKind}
use Rattle.vale_syntax.specs.declared.token.TokenKind.TheVariants as k
use Rattle.vale_syntax.specs.declared.token.Sign.TheVariants as s
use Rattle.vale_syntax.specs.declared.token.Word.TheVariants as w
use Rattle.vale_syntax.specs.Tree.{TypeExpr, Param, param, Head, head, Function, function, FieldDecl, field_decl, Item, struct_item, interface_item, impl_item, function_item, Tree, tree}
use Rattle.vale_syntax.specs.Grammar.{Part, sign, word, nothing, ◌▸◌, each, with_commas, IsType, IsParam, IsHead, IsFunction, IsField, IsItem}
use Rattle.vale_reading.specs.declared.stop.Turn.{Turn}
use Rattle.vale_reading.specs.declared.stop.Turn.TheVariants.{More, End}
use Rattle.vale_reading.specs.Steps.{from, Fault, unexpected, too_deep, Read, Reader, ◌>>=◌, begins, begins_word, sign_at, word_at, name_at, turns_at, enough, faulty}
use Rattle.vale_reading.specs.Reading.{within}
use Rattle.vale_reading.specs.ItemReading.{one_fewer, lower_by, lower, ended, until_by, until, all_until, braced, flag_word, purity_at, flag_sign, bang_at, param_at, params_at, result_by, result_at, head_at, signature_at, function_at, field_at, struct_at, interface_at, impl_at, function_item_at, item_by, item_at, items_at}
use Rattle.vale_prefix.proofs.Parts.{Knows, Parts, ◌▸▸◌, Deep, Sign_, Word_, Nothing, Within, Whole, Viable, Some_, whole_within, viable_first, some_then, Took, Reads, into, deep, step, last, done, refused, some_sign, some_word, sign_reads, word_reads, AName, some_name, name_reads, Turns, turns_read, Only, only_turns, adds}
use Rattle.vale_prefix.proofs.Parts as p
use Rattle.vale_prefix.proofs.Forms.{AType, ABlock, some_type, some_block, some_deep, some_within, empty_whole, nothing_some, Law, commas_read, type_reads, block_reads}
use Rattle.vale_prefix.proofs.Statements.{within_reads}

-- ---- one level deeper

module _ {A B C : Type 0} (P Q R : Parts) (f : A × List Token → ℕ → Read B) (g : A × List Token → B × List Token → Read C) (ts : List Token) (sp : Some_ P) (sq : Some_ Q) (sr : Some_ R)
    (inner : (e : ℕ) (x : A × List Token) → Reads Q x.1 (f x e)) (after : (x : A × List Token) (y : B × List Token) → Reads R y.1 (g x y)) where
  lowered_by : (o : Option ℕ) (r : Read A) → Reads P ts r → Reads (P ▸▸ Q ▸▸ R) ts (r >>= λ x. lower_by o ts (f x) >>= g x)
  lowered_by None (Ok x) h = record { took = ([], refl, some_then P (Q ▸▸ R) sp (some_then Q R sq sr)) }
  lowered_by None (Err e) h = record { took = (h.took.0, h.took.1, viable_first P (Q ▸▸ R) h.took.0 h.took.2 (some_then Q R sq sr)) }
  lowered_by (Some e) r h = step h (some_then Q R sq sr) (λ x. step (inner e x) sr (λ y. after x y))

  lowered : (d : ℕ) (r : Read A) → Reads P ts r → Reads (P ▸▸ Q ▸▸ R) ts (r >>= λ x. lower d ts (f x) >>= g x)
  lowered d r h = lowered_by (one_fewer d) r h

module _ {A B : Type 0} (P Q : Parts) (f : A × List Token → ℕ → Read B) (ts : List Token) (sp : Some_ P) (sq : Some_ Q) (inner : (e : ℕ) (x : A × List Token) → Reads Q x.1 (f x e)) where
  opened_by : (o : Option ℕ) (r : Read A) → Reads P ts r → Reads (P ▸▸ Q) ts (r >>= λ x. lower_by o ts (f x))
  opened_by None (Ok x) h = record { took = ([], refl, some_then P Q sp sq) }
  opened_by None (Err e) h = record { took = (h.took.0, h.took.1, viable_first P Q h.took.0 h.took.2 sq) }
  opened_by (Some e) r h = step h sq (λ x. inner e x)

  opened : (d : ℕ) (r : Read A) → Reads P ts r → Reads (P ▸▸ Q) ts (r >>= λ x. lower d ts (f x))
  opened d r h = opened_by (one_fewer d) r h

-- ---- lists up to where they stop

module _ {X : Type 0} (stop : List Token → Bool) (item : Reader X) (P R : Parts) (law : (ts : List Token) → Reads P ts (item ts)) (next : Within (P ▸▸ R) R) (none : (names : List (List ℕ)) (d : ℕ) (ts : List Token) → R names d ts ts) where
  until_by_turns : (ts : List Token) (is : Bool) → Turns P R ts (until_by item ts is)
  until_by_turns ts true = p.ended P R (tt {0}) ts (empty_whole R none)
  until_by_turns ts false = only_turns (adds _ (law ts) (λ x. refl))

  until_turns : (ts : List Token) → Turns P R ts (until stop item ts)
  unfolding until
  until_turns ts = until_by_turns ts (stop ts)

  all_until_reads : (ts : List Token) → Reads R ts (all_until stop item ts)
  unfolding all_until
  all_until_reads ts = turns_read P R next (nothing_some R none) (until stop item) (λ x xs. x ∷ xs) (λ _. []) faulty until_turns (λ ts. refused ts (nothing_some R none)) (enough ts) ts

abbrev Braced : Parts → Parts
Braced R = Sign_ s.OpenBrace ▸▸ Deep R ▸▸ Sign_ s.CloseBrace

some_braced_tail : (R : Parts) → Some_ R → Some_ (Deep R ▸▸ Sign_ s.CloseBrace)
some_braced_tail R r = some_then (Deep R) (Sign_ s.CloseBrace) (some_deep R r) (some_sign s.CloseBrace)

some_braced : (R : Parts) → Some_ R → Some_ (Braced R)
some_braced R r = some_then (Sign_ s.OpenBrace) (Deep R ▸▸ Sign_ s.CloseBrace) (some_sign s.OpenBrace) (some_braced_tail R r)

braced_reads : {X : Type 0} (item : ℕ → Reader X) (P R : Parts) → ((d : ℕ) (ts : List Token) → Reads P ts (item d ts)) → Within (P ▸▸ R) R → ((names : List (List ℕ)) (d : ℕ) (ts : List Token) → R names d ts ts) → (d : ℕ) (ts : List Token) → Reads (Braced R) ts (braced d item ts)
braced_reads item P R law next none d ts = opened (Sign_ s.OpenBrace) (Deep R ▸▸ Sign_ s.CloseBrace) _ ts (some_sign s.OpenBrace) (some_braced_tail R (nothing_some R none))
    (λ e a. step (deep (all_until_reads (begins s.CloseBrace) (item e) P R (law e) next none a.1)) (some_sign s.CloseBrace) (λ xs. last _ (sign_reads s.CloseBrace xs.1) (λ c. refl))) d (sign_at s.OpenBrace ts) (sign_reads s.OpenBrace ts)

-- ---- parts

abbrev Purity : Parts
Purity = λ names d ts rest. Nothing names d ts rest ⊎ Word_ w.Pure names d ts rest

abbrev Bang : Parts
Bang = λ names d ts rest. Nothing names d ts rest ⊎ Sign_ s.Bang names d ts rest

abbrev AResult : Parts
AResult = λ names d ts rest. Nothing names d ts rest ⊎ AType names d ts rest

abbrev pub AParam : Parts
AParam = λ names d ts rest. (x : Param) × IsParam names d x ts rest

abbrev Params : Parts
Params = λ names d ts rest. (xs : List Param) × with_commas (IsParam names d) xs ts rest

abbrev MoreParams : Parts
MoreParams = λ names d ts rest. (xs : List Param) × each (λ x. sign s.Comma ▸ IsParam names d x) xs ts rest

abbrev pub AHead : Parts
AHead = λ names d ts rest. (x : Head) × IsHead names d x ts rest

abbrev pub AFunction : Parts
AFunction = λ names d ts rest. (x : Function) × IsFunction names d x ts rest

abbrev pub AField : Parts
AField = λ names d ts rest. (x : FieldDecl) × IsField names d x ts rest

abbrev Fields : Parts
Fields = λ names d ts rest. (xs : List FieldDecl) × each (IsField names d) xs ts rest

abbrev Signatures : Parts
Signatures = λ names d ts rest. (xs : List Head) × each (λ h. IsHead names d h ▸ sign s.Semicolon) xs ts rest

abbrev Functions : Parts
Functions = λ names d ts rest. (xs : List Function) × each (IsFunction names d) xs ts rest

abbrev pub AnItem : Parts
AnItem = λ names d ts rest. (x : Item) × IsItem names d x ts rest

abbrev pub SomeItems : Parts
SomeItems = λ names d ts rest. (xs : List Item) × each (IsItem names d) xs ts rest

param_of : Within (AName ▸▸ AType) AParam
param_of names d ts rest (m, (n, h), (x, g)) = (param n x, (m, h, g))

first_param : Within (AParam ▸▸ MoreParams) Params
first_param names d ts rest (m, (x, h), (xs, g)) = (x ∷ xs, (m, h, g))

next_param : Within ((Sign_ s.Comma ▸▸ AParam) ▸▸ MoreParams) MoreParams
next_param names d ts rest (m, (m2, h, (x, h2)), (xs, g)) = (x ∷ xs, (m, (m2, h, h2), g))

head_of : Within (Purity ▸▸ Word_ w.Func ▸▸ AName ▸▸ Sign_ s.OpenParen ▸▸ Deep Params ▸▸ Sign_ s.CloseParen ▸▸ AResult) AHead
head_of names zero ts rest (m, h, (m2, h2, (m3, h3, (m4, h4, (m5, g, h5))))) = absurd g
head_of names (suc d) ts rest (m, inl h, (m2, h2, (m3, (n, h3), (m4, h4, (m5, (ps, h5), (m6, h6, inl h7)))))) = (head false n ps None, (m, h, (m2, h2, (m3, h3, (m4, h4, (m5, h5, (m6, h6, h7)))))))
head_of names (suc d) ts rest (m, inl h, (m2, h2, (m3, (n, h3), (m4, h4, (m5, (ps, h5), (m6, h6, inr (x, h7))))))) = (head false n ps (Some x), (m, h, (m2, h2, (m3, h3, (m4, h4, (m5, h5, (m6, h6, h7)))))))
head_of names (suc d) ts rest (m, inr h, (m2, h2, (m3, (n, h3), (m4, h4, (m5, (ps, h5), (m6, h6, inl h7)))))) = (head true n ps None, (m, h, (m2, h2, (m3, h3, (m4, h4, (m5, h5, (m6, h6, h7)))))))
head_of names (suc d) ts rest (m, inr h, (m2, h2, (m3, (n, h3), (m4, h4, (m5, (ps, h5), (m6, h6, inr (x, h7))))))) = (head true n ps (Some x), (m, h, (m2, h2, (m3, h3, (m4, h4, (m5, h5, (m6, h6, h7)))))))

function_of : Within (AHead ▸▸ ABlock) AFunction
function_of names d ts rest (m, (x, h), (b, g)) = (function x b, (m, h, g))

field_of : Within (AName ▸▸ Bang ▸▸ AType ▸▸ Sign_ s.Semicolon) AField
field_of names d ts rest (m, (n, h), (m2, inl h2, (m3, (x, h3), h4))) = (field_decl n false x, (m, h, (m2, h2, (m3, h3, h4))))
field_of names d ts rest (m, (n, h), (m2, inr h2, (m3, (x, h3), h4))) = (field_decl n true x, (m, h, (m2, h2, (m3, h3, h4))))

more_fields : Within (AField ▸▸ Fields) Fields
more_fields names d ts rest (m, (x, h), (xs, g)) = (x ∷ xs, (m, h, g))

more_signatures : Within ((AHead ▸▸ Sign_ s.Semicolon) ▸▸ Signatures) Signatures
more_signatures names d ts rest (m, (m2, (x, h), h2), (xs, g)) = (x ∷ xs, (m, (m2, h, h2), g))

more_functions : Within (AFunction ▸▸ Functions) Functions
more_functions names d ts rest (m, (x, h), (xs, g)) = (x ∷ xs, (m, h, g))

more_items : Within (AnItem ▸▸ SomeItems) SomeItems
more_items names d ts rest (m, (x, h), (xs, g)) = (x ∷ xs, (m, h, g))

struct_of : Within (Word_ w.Struct ▸▸ AName ▸▸ Braced Fields) AnItem
struct_of names zero ts rest (m, h, (m2, h2, (m3, h3, (m4, g, h4)))) = absurd g
struct_of names (suc d) ts rest (m, h, (m2, (n, h2), (m3, h3, (m4, (xs, g), h4)))) = (struct_item n xs, (m, h, (m2, h2, (m3, h3, (m4, g, h4)))))

interface_of : Within (Word_ w.Interface ▸▸ AName ▸▸ Braced Signatures) AnItem
interface_of names zero ts rest (m, h, (m2, h2, (m3, h3, (m4, g, h4)))) = absurd g
interface_of names (suc d) ts rest (m, h, (m2, (n, h2), (m3, h3, (m4, (xs, g), h4)))) = (interface_item n xs, (m, h, (m2, h2, (m3, h3, (m4, g, h4)))))

impl_of : Within (Word_ w.Impl ▸▸ AName ▸▸ Word_ w.For ▸▸ AName ▸▸ Braced Functions) AnItem
impl_of names zero ts rest (m, h, (m2, h2, (m3, h3, (m4, h4, (m5, h5, (m6, g, h6)))))) = absurd g
impl_of names (suc d) ts rest (m, (at, h), (m2, (i, h2), (m3, h3, (m4, (n, h4), (m5, h5, (m6, (xs, g), h6)))))) = (impl_item at i n xs, (m, h, (m2, h2, (m3, h3, (m4, h4, (m5, h5, (m6, g, h6)))))))

function_item_of : Within AFunction AnItem
function_item_of names d ts rest (f, h) = (function_item f, h)

-- ---- what completes the rest of a part

no_field : (names : List (List ℕ)) (d : ℕ) (ts : List Token) → Fields names d ts ts
no_field names d ts = ([], refl)

no_signature : (names : List (List ℕ)) (d : ℕ) (ts : List Token) → Signatures names d ts ts
no_signature names d ts = ([], refl)

no_function : (names : List (List ℕ)) (d : ℕ) (ts : List Token) → Functions names d ts ts
no_function names d ts = ([], refl)

no_item : (names : List (List ℕ)) (d : ℕ) (ts : List Token) → SomeItems names d ts ts
no_item names d ts = ([], refl)

some_param : Some_ AParam
some_param = some_within param_of (some_then AName AType some_name some_type)

some_params : Some_ Params
some_params = nothing_some Params (λ names d ts. ([], refl))

some_result : Some_ AResult
some_result = nothing_some AResult (λ names d ts. inl refl)

some_closed : Some_ (Sign_ s.CloseParen ▸▸ AResult)
some_closed = some_then (Sign_ s.CloseParen) AResult (some_sign s.CloseParen) some_result

some_parens : Some_ (Sign_ s.OpenParen ▸▸ Deep Params ▸▸ Sign_ s.CloseParen ▸▸ AResult)
some_parens = some_then (Sign_ s.OpenParen) (Deep Params ▸▸ Sign_ s.CloseParen ▸▸ AResult) (some_sign s.OpenParen) (some_then (Deep Params) (Sign_ s.CloseParen ▸▸ AResult) (some_deep Params some_params) some_closed)

some_called : Some_ (AName ▸▸ Sign_ s.OpenParen ▸▸ Deep Params ▸▸ Sign_ s.CloseParen ▸▸ AResult)
some_called = some_then AName (Sign_ s.OpenParen ▸▸ Deep Params ▸▸ Sign_ s.CloseParen ▸▸ AResult) some_name some_parens

some_func : Some_ (Word_ w.Func ▸▸ AName ▸▸ Sign_ s.OpenParen ▸▸ Deep Params ▸▸ Sign_ s.CloseParen ▸▸ AResult)
some_func = some_then (Word_ w.Func) (AName ▸▸ Sign_ s.OpenParen ▸▸ Deep Params ▸▸ Sign_ s.CloseParen ▸▸ AResult) (some_word w.Func) some_called

some_purity : Some_ Purity
some_purity = nothing_some Purity (λ names d ts. inl refl)

some_typed : Some_ (AType ▸▸ Sign_ s.Semicolon)
some_typed = some_then AType (Sign_ s.Semicolon) some_type (some_sign s.Semicolon)

some_bang : Some_ (Bang ▸▸ AType ▸▸ Sign_ s.Semicolon)
some_bang = some_then Bang (AType ▸▸ Sign_ s.Semicolon) (nothing_some Bang (λ names d ts. inl refl)) some_typed

some_named : (R : Parts) → Some_ R → Some_ (AName ▸▸ Braced R)
some_named R r = some_then AName (Braced R) some_name (some_braced R r)

some_for : Some_ (Word_ w.For ▸▸ AName ▸▸ Braced Functions)
some_for = some_then (Word_ w.For) (AName ▸▸ Braced Functions) (some_word w.For) (some_named Functions (nothing_some Functions no_function))

some_impl : Some_ (AName ▸▸ Word_ w.For ▸▸ AName ▸▸ Braced Functions)
some_impl = some_then AName (Word_ w.For ▸▸ AName ▸▸ Braced Functions) some_name some_for

some_item : Some_ AnItem
some_item = some_within struct_of (some_then (Word_ w.Struct) (AName ▸▸ Braced Fields) (some_word w.Struct) (some_named Fields (nothing_some Fields no_field)))

-- ---- readers

flag_word_reads : (ts : List Token) (is : Bool) → Reads Purity ts (flag_word ts is)
flag_word_reads ts true = into (λ names d ts rest h. inr h) (last _ (word_reads w.Pure ts) (λ a. refl))
flag_word_reads ts false = into (λ names d ts rest h. inl h) (done false ts)

purity_reads : (ts : List Token) → Reads Purity ts (purity_at ts)
unfolding purity_at
purity_reads ts = flag_word_reads ts (begins_word w.Pure ts)

flag_sign_reads : (ts : List Token) (is : Bool) → Reads Bang ts (flag_sign ts is)
flag_sign_reads ts true = into (λ names d ts rest h. inr h) (last _ (sign_reads s.Bang ts) (λ a. refl))
flag_sign_reads ts false = into (λ names d ts rest h. inl h) (done false ts)

bang_reads : (ts : List Token) → Reads Bang ts (bang_at ts)
unfolding bang_at
bang_reads ts = flag_sign_reads ts (begins s.Bang ts)

module _ (names : List (List ℕ)) where
  abbrev law_of : (d : ℕ) → Law (within names d)
  law_of d = within_reads names d

  pub param_reads : (d : ℕ) (ts : List Token) → Reads AParam ts (param_at names d ts)
  unfolding param_at
  param_reads d ts = into param_of (step (name_reads names ts) some_type (λ n. last _ (type_reads names (within names d) (law_of d) n.1) (λ x. refl)))

  params_read : (d : ℕ) (ts : List Token) → Reads Params ts (params_at names d ts)
  unfolding params_at
  params_read d ts = commas_read (param_at names d) AParam Params MoreParams (param_reads d) some_param (λ x xs. x ∷ xs) [] first_param next_param (λ names d ts. ([], refl)) (λ names d ts. ([], refl)) s.CloseParen ts

  result_by_reads : (d : ℕ) (ts : List Token) (is : Bool) → Reads AResult ts (result_by names d ts is)
  result_by_reads d ts true = into (λ names d ts rest h. inl h) (done None ts)
  result_by_reads d ts false = into (λ names d ts rest h. inr h) (last _ (type_reads names (within names d) (law_of d) ts) (λ x. refl))

  result_reads : (d : ℕ) (ts : List Token) → Reads AResult ts (result_at names d ts)
  unfolding result_at
  result_reads d ts = result_by_reads d ts (begins s.OpenBrace ts || begins s.Semicolon ts)

  head_reads : (d : ℕ) (ts : List Token) → Reads AHead ts (head_at names d ts)
  unfolding head_at
  head_reads d ts = into head_of (step (purity_reads ts) some_func (λ p. step (word_reads w.Func p.1) some_called (λ f. step (name_reads names f.1) some_parens
      (λ n. lowered (Sign_ s.OpenParen) (Deep Params) (Sign_ s.CloseParen ▸▸ AResult) _ _ n.1 (some_sign s.OpenParen) (some_deep Params some_params) some_closed (λ e a. deep (params_read e a.1))
      (λ a ps. step (sign_reads s.CloseParen ps.1) some_result (λ c. last _ (result_reads d c.1) (λ x. refl))) d (sign_at s.OpenParen n.1) (sign_reads s.OpenParen n.1)))))

  pub signature_reads : (d : ℕ) (ts : List Token) → Reads (AHead ▸▸ Sign_ s.Semicolon) ts (signature_at names d ts)
  unfolding signature_at
  signature_reads d ts = step (head_reads d ts) (some_sign s.Semicolon) (λ h. last _ (sign_reads s.Semicolon h.1) (λ e. refl))

  pub function_reads : (d : ℕ) (ts : List Token) → Reads AFunction ts (function_at names d ts)
  unfolding function_at
  function_reads d ts = into function_of (step (head_reads d ts) some_block (λ h. last _ (block_reads names (within names d) (law_of d) h.1) (λ b. refl)))

  pub field_reads : (d : ℕ) (ts : List Token) → Reads AField ts (field_at names d ts)
  unfolding field_at
  field_reads d ts = into field_of (step (name_reads names ts) some_bang (λ n. step (bang_reads n.1) some_typed (λ b. step (type_reads names (within names d) (law_of d) b.1) (some_sign s.Semicolon) (λ x. last _ (sign_reads s.Semicolon x.1) (λ e. refl)))))

  struct_reads : (d : ℕ) (ts : List Token) → Reads AnItem ts (struct_at names d ts)
  unfolding struct_at
  struct_reads d ts = into struct_of (step (word_reads w.Struct ts) (some_named Fields (nothing_some Fields no_field)) (λ a. step (name_reads names a.1) (some_braced Fields (nothing_some Fields no_field)) (λ n. last _ (braced_reads (field_at names) AField Fields field_reads more_fields no_field d n.1) (λ xs. refl))))

  interface_reads : (d : ℕ) (ts : List Token) → Reads AnItem ts (interface_at names d ts)
  unfolding interface_at
  interface_reads d ts = into interface_of (step (word_reads w.Interface ts) (some_named Signatures (nothing_some Signatures no_signature)) (λ a. step (name_reads names a.1) (some_braced Signatures (nothing_some Signatures no_signature)) (λ n. last _ (braced_reads (signature_at names) (AHead ▸▸ Sign_ s.Semicolon) Signatures signature_reads more_signatures no_signature d n.1) (λ xs. refl))))

  impl_reads : (d : ℕ) (ts : List Token) → Reads AnItem ts (impl_at names d ts)
  unfolding impl_at
  impl_reads d ts = into impl_of (step (word_reads w.Impl ts) some_impl (λ a. step (name_reads names a.1) some_for (λ i. step (word_reads w.For i.1) (some_named Functions (nothing_some Functions no_function)) (λ f. step (name_reads names f.1) (some_braced Functions (nothing_some Functions no_function)) (λ n. last _ (braced_reads (function_at names) AFunction Functions function_reads more_functions no_function d n.1) (λ xs. refl))))))

  function_item_reads : (d : ℕ) (ts : List Token) → Reads AnItem ts (function_item_at names d ts)
  function_item_reads d ts = into function_item_of (last _ (function_reads d ts) (λ f. refl))

  item_by_reads : (d : ℕ) (t : Token) (ts : List Token) (kind : TokenKind) → Reads AnItem (t ∷ ts) (item_by names d t ts kind)
  item_by_reads d t ts (k.Word w.Struct) = struct_reads d (t ∷ ts)
  item_by_reads d t ts (k.Word w.Interface) = interface_reads d (t ∷ ts)
  item_by_reads d t ts (k.Word w.Impl) = impl_reads d (t ∷ ts)
  item_by_reads d t ts _ = function_item_reads d (t ∷ ts)

  pub item_reads : (d : ℕ) (ts : List Token) → Reads AnItem ts (item_at names d ts)
  unfolding item_at
  item_reads d [] = refused [] some_item
  item_reads d (t ∷ ts) = item_by_reads d t ts t.kind

  pub items_read : (d : ℕ) (ts : List Token) → Reads SomeItems ts (items_at names d ts)
  unfolding items_at
  items_read d ts = all_until_reads ended (item_at names d) AnItem SomeItems (item_reads d) more_items no_item ts
