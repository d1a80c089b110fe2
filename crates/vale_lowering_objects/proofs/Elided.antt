-- No instruction of lowered code is of an elided form: by induction on the tree.
use Rattle.std.proofs.Common.{◌≡◌, ℕ, zero, suc, ◌+◌, nat_le, pos, Bool, true, false, not, ◌&&◌, ◌||◌, List, [], ◌∷◌, ◌++◌, length, Option, Some, None, if◌then◌else◌, refl, ap, ◌∙◌, subst, sym}
use Rattle.std.specs.Prelude.{slice_get, codes}
use Rattle.std.specs.List.{list_any}
use Rattle.vale_base.specs.Limits.{width_limit}
use Rattle.vale_base.specs.declared.spot.Spot.{Spot}
use Rattle.vale_syntax.specs.declared.built_in.BuiltIn.{BuiltIn}
use Rattle.vale_syntax.specs.declared.built_in.BuiltIn.TheVariants as b
use Rattle.vale_syntax.specs.declared.tree.NameAt.{NameAt}
use Rattle.vale_syntax.specs.declared.tree.BinaryOp.{BinaryOp}
use Rattle.vale_syntax.specs.declared.tree.BinaryOp.TheVariants as op
use Rattle.vale_syntax.specs.declared.tree.UnaryOp.TheVariants as unary_op
use Rattle.vale_text.specs.Operations.{is_int}
use Rattle.vale_rules_spec.specs.Types as y
use Rattle.vale_rules_spec.specs.Typed.{Callee, built_in, constructor, function, Expr, expr, Node, set, chain, unary, steps, number, quote, truth, name, call, paren, array, iso, form, Function, Exprs, no_exprs, more_exprs, link, Links, no_links, more_links, Step, field, method, index, Steps, no_steps, more_steps, Form, branch, pure, else_if, Elses, no_else, otherwise, more_elses, Block, block, Stmt, declare, destructure, return_nothing, return_value, while, foreach, form_stmt, express, Stmts, no_stmts, last, more_stmts, type}
use Rattle.vale_syntax.specs.Tree.{Param}
use Rattle.vale_rules_spec.specs.Declarations.{head_params, param_type}
use Rattle.vale_rules_spec.specs.Types.{type_of}
use Rattle.vale_model.specs.Kinds.{head_of}
use Rattle.vale_model.specs.Parts.{Parts, kind_of, field_place, has_text, has_name, first_function, is_pure}
use Rattle.vale_model.specs.Expressions.{expr_spot, numbers_of}
use Rattle.vale_code.specs.declared.instr.Instr.{Instr}
use Rattle.vale_code.specs.declared.instr.Instr.TheVariants as i
use Rattle.vale_lowering.specs.Instructions as plain
use Rattle.vale_lowering.specs.Instructions.{stuck, only_if, loop_code, and_code, operator, unary_code, registers_from}
use Rattle.vale_syntax.specs.declared.tree.UnaryOp.{UnaryOp}
use Rattle.vale_lowering.specs.Scopes.{number_of_function, number_of_text, result_type}
use Rattle.vale_lowering.specs.Texts.{is_lawful_text}
use Rattle.vale_lowering_objects.specs.Changes.{step_changes}
use Rattle.vale_lowering_objects.specs.Scopes.{Gives, void, copy, owner, gives_of, is_value, is_owner, agree, all_agree, Entry, Scope, entry, waiting, find, Gone, is_gone, parameters, without, same_truth, After, comes, never, no_run, then_after, met, may_meet, closes, Around}
use Rattle.vale_rules_spec.specs.Typed.{parallel_range, parallel_each}
use Rattle.vale_lowering_objects.specs.Lowered.{all_gives, locals_after, moved_out, loop_after, link_after, step_view, stays_of, free_register, expr_after, node_after, start_after, step_after, steps_after, place_after, targets_after, args_after, links_after, form_after, elses_after, block_after, stmts_after, stmt_after, dead_code, then_code, if_comes, jump_over, sides, turns_code, count_code, hand, move_out, freeze_code, thaw_code, origin_of, lend, lend_local, is_there, from_local, load_field, load_element, swap_field, swap_element, exchange_by, exchange, store_by, store, drop_value, drop_entry, locals_code, drop_scope, gives_list, first_type, param_gives_of, param_gives, result_gives, is_destructor, may_be_called, truth_number, is_copied, are_copied, len_code, copies_code, built_in_code, make_code, callee_code, link_code, expr_code, node_code, borrow_code, start_code, step_code, steps_code, place_code, targets_code, swap_code, args_code, links_code, form_code, elses_code, block_code, stmts_code, stmt_code, Origin, at_hand, reference}
use Rattle.vale_lowering_objects.specs.Checks.{is_elided, NoneElided}
use Rattle.vale_lowering_objects.specs.Code.{functions_in, texts_of, lowered_function, lowered_parts}
use Rattle.vale_lowering_objects.specs.Program.{body_code, names_in}
use Rattle.vale_model.specs.Kinds.{body_of}
use Rattle.vale_model.specs.Parts.{parts_of}
use Rattle.vale_code.specs.declared.func.Func.{Func}
use Rattle.vale_rules_spec.specs.Typed.{Typed}
use Rattle.std.specs.Prelude.{option_map}
use Rattle.std.proofs.lemmas.Option.{slice_get-map}

abbrev Clean : List Instr → Type 0
Clean cs = list_any is_elided cs ≡ false

next : (e x y : Bool) → (x ≡ false → y ≡ false) → (e || x) ≡ false → (e || y) ≡ false
next true x y f c = c
next false x y f c = f c

both : (a b : List Instr) → Clean a → Clean b → Clean (a ++ b)
both [] b ca cb = cb
both (x ∷ a) b ca cb = next (is_elided x) (list_any is_elided a) (list_any is_elided (a ++ b)) (λ c. both a b c cb) ca

-- ---- shapes of code

only : (x : Bool) (h : ℕ) (cs : List Instr) → Clean cs → Clean (only_if x h cs)
only true h cs c = c
only false h cs c = refl

abbrev CleanAt : (ℕ → List Instr) → Type 0
CleanAt a = (p : ℕ) → Clean (a p)

abbrev CleanAfter : (ℕ → Gone → List Instr) → Type 0
CleanAfter rest = (p : ℕ) (g : Gone) → Clean (rest p g)

abbrev CleanFrom : (Origin → ℕ → ℕ → Gone → List Instr) → Type 0
CleanFrom rest = (o : Origin) (p k : ℕ) (g : Gone) → Clean (rest o p k g)

dead : (p r : ℕ) (cs : List Instr) → Clean cs → Clean (dead_code p r cs)
dead p r [] c = refl
dead p r (x ∷ xs) c = both (x ∷ xs) (i.Jump (p + 2 + length (x ∷ xs)) ∷ []) c refl

thens : (p r : ℕ) (a : List Instr) (o : After) (rest : ℕ → Gone → List Instr) → Clean a → CleanAfter rest → Clean (then_code p r a o rest)
thens p r a (comes g) rest ca cr = both a (rest (p + length a) g) ca (cr (p + length a) g)
thens p r a (never g) rest ca cr = both a (dead_code (p + length a) r (rest (p + length a + 2) g)) ca (dead (p + length a) r (rest (p + length a + 2) g) (cr (p + length a + 2) g))

ends : (p : ℕ) (a : List Instr) (o : After) (rest : ℕ → Gone → List Instr) → Clean a → CleanAfter rest → Clean (if_comes p a o rest)
ends p a (comes g) rest ca cr = both a (rest (p + length a) g) ca (cr (p + length a) g)
ends p a (never g) rest ca cr = ca

jump_clean : (o : After) (to : ℕ) → Clean (jump_over o to)
jump_clean (comes g) to = refl
jump_clean (never g) to = refl

sides_clean : (p h : ℕ) (first : After) (a b : ℕ → List Instr) → CleanAt a → CleanAt b → Clean (sides p h first a b)
sides_clean p h first a b ca cb =
    both (a (p + 1)) _ (ca (p + 1)) (both (jump_over first _) _ (jump_clean first _) (cb (p + 1 + length (a (p + 1)) + length (jump_over first 0))))

loops : (p h : ℕ) (test body : ℕ → List Instr) → CleanAt test → CleanAt body → Clean (loop_code p h test body)
loops p h test body ct cb = both (body (p + 2)) _ (cb (p + 2)) (both (test (p + 2 + length (body (p + 2)))) _ (ct (p + 2 + length (body (p + 2)))) refl)

turns_clean : (p h : ℕ) (o : After) (test body : ℕ → List Instr) → CleanAt test → CleanAt body → Clean (turns_code p h o test body)
turns_clean p h (comes g) test body ct cb = loops p h test body ct cb
turns_clean p h (never g) test body ct cb = thens p (h + 1) (test p) (never g) (λ place g. body place) (ct p) (λ place g. cb place)

counts_clean : (p h : ℕ) (at : Spot) (o : After) (body : ℕ → List Instr) → CleanAt body → Clean (count_code p h at o body)
counts_clean p h at o body cb =
    loops (p + 1) (h + 2) (λ place. i.Cmp (h + 2) 2 h (h + 1) ∷ [])
    (λ place. i.Copy (h + 2) h ∷ if_comes (place + 1) (body (place + 1)) o (λ place g. i.Int (h + 2) (pos 1) ∷ i.Add h h (h + 2) at ∷ []))
    (λ place. refl) (λ place. ends (place + 1) (body (place + 1)) o (λ place g. i.Int (h + 2) (pos 1) ∷ i.Add h h (h + 2) at ∷ []) (cb (place + 1)) (λ place g. refl))

freezes_clean : (at : Spot) (p : ℕ) (part : ℕ → List Instr) (o : After) (rest : List Instr) → CleanAt part → Clean rest → Clean (freeze_code at p part o rest)
freezes_clean at p part o rest cp cr = ends (p + 1) (part (p + 1)) o (λ place g. rest) (cp (p + 1)) (λ place g. cr)

thaws_clean : (b : Bool) (q : Gives) (h : ℕ) → Clean (thaw_code b q h)
thaws_clean true q h = only (agree q owner) h (i.ThawMerge h h ∷ []) refl
thaws_clean false q h = refl

-- ---- single instructions

hand_clean : (q : Gives) (to h : ℕ) → Clean (hand q to h)
hand_clean void to h = refl
hand_clean copy to h = refl
hand_clean owner to h = refl

move_clean : (o : Option Entry) (g : Gone) (h : ℕ) → Clean (move_out o g h)
move_clean None g h = refl
move_clean (Some x) g h = by x.owned (is_gone x.register g)
  where
    by : (a b : Bool) → Clean (if a then (if b then stuck h else i.Move h x.register ∷ []) else stuck h)
    by true true = refl
    by true false = refl
    by false b = refl

lend_clean : (o : Option Entry) (g : Gone) (view : y.View) (h : ℕ) → Clean (lend_local o g view h)
lend_clean None g view h = refl
lend_clean (Some x) g view h = by x.owned (is_gone x.register g) (y.is_frozen view)
  where
    by : (a b c : Bool) → Clean (if a then (if b then stuck h else (if c then i.Frozen h x.register else i.Borrow h x.register) ∷ []) else i.Copy h x.register ∷ [])
    by true true c = refl
    by true false true = refl
    by true false false = refl
    by false b c = refl

local_clean : (o : Option Entry) (stays : Bool) (view : y.View) (p h : ℕ) (g : Gone) (rest : Origin → ℕ → ℕ → Gone → List Instr) → CleanFrom rest → Clean (from_local o stays view p h g rest)
local_clean None stays view p h g rest c = refl
local_clean (Some x) true view p h g rest c = only (is_there x g) h (rest (origin_of x) p h g) (c (origin_of x) p h g)
local_clean (Some x) false view p h g rest c = thens p (h + 1) (lend_local (Some x) g view h) (comes g) (λ place g. rest (reference h) place (h + 1) g) (lend_clean (Some x) g view h) (λ place g. c (reference h) place (h + 1) g)

field_clean : (o : Origin) (f : Option ℕ) (at : Spot) (h : ℕ) → Clean (load_field o f at h)
field_clean (at_hand r) None at h = refl
field_clean (reference r) None at h = refl
field_clean (at_hand r) (Some f) at h = refl
field_clean (reference r) (Some f) at h = refl

element_clean : (o : Origin) (k : ℕ) (at : Spot) (h : ℕ) → Clean (load_element o k at h)
element_clean (at_hand r) k at h = refl
element_clean (reference r) k at h = refl

swap_clean : (o : Origin) (f : Option ℕ) (at : Spot) (h : ℕ) → Clean (swap_field o f at h)
swap_clean (at_hand r) None at h = refl
swap_clean (reference r) None at h = refl
swap_clean (at_hand r) (Some f) at h = refl
swap_clean (reference r) (Some f) at h = refl

swap_element_clean : (o : Origin) (k : ℕ) (at : Spot) (h : ℕ) → Clean (swap_element o k at h)
swap_element_clean (at_hand r) k at h = refl
swap_element_clean (reference r) k at h = refl

exchange_by_clean : (q : Gives) (r h : ℕ) → Clean (exchange_by q r h)
exchange_by_clean void r h = refl
exchange_by_clean copy r h = refl
exchange_by_clean owner r h = refl

store_by_clean : (q : Gives) (r h : ℕ) (at : Spot) → Clean (store_by q r h at)
store_by_clean void r h at = refl
store_by_clean copy r h at = refl
store_by_clean owner r h at = refl

-- code of a local that is there
set_clean : (a b : Bool) (h : ℕ) (cs : List Instr) → Clean cs → Clean (if a then (if b then stuck h else cs) else stuck h)
set_clean true true h cs c = refl
set_clean true false h cs c = c
set_clean false b h cs c = refl

exchange_clean : (o : Option Entry) (g : Gone) (q : Gives) (h : ℕ) → Clean (exchange o g q h)
exchange_clean None g q h = refl
exchange_clean (Some x) g q h = set_clean (same_truth x.owned (is_owner q)) (x.owned && is_gone x.register g) h (exchange_by q x.register h) (exchange_by_clean q x.register h)

store_clean : (o : Option Entry) (g : Gone) (q : Gives) (h : ℕ) (at : Spot) → Clean (store o g q h at)
store_clean None g q h at = refl
store_clean (Some x) g q h at = set_clean (same_truth x.owned (is_owner q)) (x.owned && is_gone x.register g) h (store_by q x.register h at) (store_by_clean q x.register h at)

drop_clean : (q : Gives) (h : ℕ) (at : Spot) → Clean (drop_value q h at)
drop_clean void h at = refl
drop_clean copy h at = refl
drop_clean owner h at = refl

entry_clean : (x : Entry) (g : Gone) (at : Spot) → Clean (drop_entry x g at)
entry_clean x g at = by x.owned (is_gone x.register g)
  where
    by : (a b : Bool) → Clean (if a then (if b then [] else i.Destroy x.register at ∷ []) else [])
    by true true = refl
    by true false = refl
    by false b = refl

scope_clean : (s : Scope) (g : Gone) (at : Spot) → Clean (drop_scope s g at)
scope_clean [] g at = refl
scope_clean (x ∷ s) g at = both (drop_entry x g at) (drop_scope s g at) (entry_clean x g at) (scope_clean s g at)

locals_clean : (ns : List ℕ) (qs : List Gives) (end : Spot) (p h : ℕ) (s : Scope) (g : Gone) (after : ℕ → Scope → Gone → After) (rest : ℕ → ℕ → Scope → Gone → List Instr) → ((p h : ℕ) (s : Scope) (g : Gone) → Clean (rest p h s g)) → Clean (locals_code ns qs end p h s g after rest)
locals_clean [] [] end p h s g after rest c = c p h s g
locals_clean [] (q ∷ qs) end p h s g after rest c = refl
locals_clean (n ∷ ns) [] end p h s g after rest c = refl
locals_clean (n ∷ ns) (q ∷ qs) end p h s g after rest c =
    only (is_value q) h _
    (ends p (locals_code ns qs end p (h + 1) (entry n h q ∷ s) (without h g) after rest) (locals_after ns qs (h + 1) (entry n h q ∷ s) (without h g) after) (λ place g. drop_entry (entry n h q) g end)
    (locals_clean ns qs end p (h + 1) (entry n h q ∷ s) (without h g) after rest c) (λ place g. entry_clean (entry n h q) g end))

-- ---- operators and calls

operator_clean : (o : BinaryOp) (x : y.Ty) (at : Spot) (h : ℕ) → Clean (operator o x at h ∷ [])
operator_clean op.Add y.str at h = refl
operator_clean op.Add _ at h = refl
operator_clean op.Equal x at h = refl
operator_clean op.NotEqual x at h = refl
operator_clean op.Less x at h = refl
operator_clean op.LessEqual x at h = refl
operator_clean op.Greater x at h = refl
operator_clean op.GreaterEqual x at h = refl
operator_clean op.Sub x at h = refl
operator_clean op.Mul x at h = refl
operator_clean op.Div x at h = refl
operator_clean op.Rem x at h = refl
operator_clean op.Or x at h = refl
operator_clean op.And x at h = refl

unary_clean : (o : UnaryOp) (at : Spot) (h : ℕ) → Clean (unary_code o at h)
unary_clean unary_op.Minus at h = refl
unary_clean unary_op.Not at h = refl
unary_clean unary_op.Borrow at h = refl
unary_clean unary_op.Merge at h = refl

length_clean : (x : y.Ty) (at : Spot) (h : ℕ) → Clean (len_code x at h)
length_clean y.str at h = refl
length_clean _ at h = refl

plain_clean : (f : BuiltIn) (count : ℕ) (gives : Bool) (at : Spot) (h : ℕ) → Clean (plain.built_in_code f count gives at h)
plain_clean b.Print (suc zero) false at h = refl
plain_clean b.Println (suc zero) false at h = refl
plain_clean b.Len (suc zero) true at h = refl
plain_clean b.Text (suc zero) true at h = refl
plain_clean b.Slice (suc (suc (suc zero))) true at h = refl
plain_clean b.Byte (suc (suc zero)) true at h = refl
plain_clean b.IsNumber (suc zero) true at h = refl
plain_clean b.Number (suc zero) true at h = refl
plain_clean _ _ _ at h = refl

copies_clean : (f : BuiltIn) (qs : List Gives) (q : Gives) (at : Spot) (h : ℕ) → Clean (copies_code f qs q at h)
copies_clean f qs q at h = only (are_copied qs && not (is_owner q)) h (plain.built_in_code f (length qs) (is_copied q) at h) (plain_clean f (length qs) (is_copied q) at h)

built_in_clean : (f : BuiltIn) (x : y.Ty) (qs : List Gives) (q : Gives) (at : Spot) (h : ℕ) → Clean (built_in_code f x qs q at h)
built_in_clean b.Drop x (owner ∷ []) void at h = refl
built_in_clean b.Drop x _ _ at h = refl
built_in_clean b.Len x (r ∷ []) q at h = only (agree q copy) h (len_code x at h) (length_clean x at h)
built_in_clean b.Len x [] q at h = refl
built_in_clean b.Len x (r ∷ t ∷ qs) q at h = refl
built_in_clean b.Push x (r ∷ t ∷ []) q at h = only (agree q void) h (i.Push h (h + 1) at ∷ []) refl
built_in_clean b.Push x [] q at h = refl
built_in_clean b.Push x (r ∷ []) q at h = refl
built_in_clean b.Push x (r ∷ t ∷ z ∷ qs) q at h = refl
built_in_clean b.Pop x (r ∷ []) q at h = only (is_value q) h (i.Pop h h at ∷ []) refl
built_in_clean b.Pop x [] q at h = refl
built_in_clean b.Pop x (r ∷ t ∷ qs) q at h = refl
built_in_clean b.Print x qs q at h = copies_clean b.Print qs q at h
built_in_clean b.Println x qs q at h = copies_clean b.Println qs q at h
built_in_clean b.Text x qs q at h = copies_clean b.Text qs q at h
built_in_clean b.Slice x qs q at h = copies_clean b.Slice qs q at h
built_in_clean b.Byte x qs q at h = copies_clean b.Byte qs q at h
built_in_clean b.IsNumber x qs q at h = copies_clean b.IsNumber qs q at h
built_in_clean b.Number x qs q at h = copies_clean b.Number qs q at h

make_clean : (p : Parts) (q : Gives) (x : y.Ty) (values : List Gives) (h : ℕ) → Clean (make_code p q x values h)
make_clean p q x values h = only (agree q owner && nat_le (length values) width_limit) h (i.Make h (kind_of p x) (registers_from h (length values)) ∷ []) refl

module _ (around : Around) where
  callee_clean : (q : Gives) (n : NameAt) (f : Callee) (x : y.Ty) (values : List Gives) (h : ℕ) → Clean (callee_code around q n f x values h)
  callee_clean q n (built_in f) x values h = built_in_clean f x values q n.at h
  callee_clean q n constructor x values h = make_clean around.parts q (y.kind n.name.0) values h
  callee_clean q n (function is_pure) x values h =
      only (may_be_called around.parts q values (first_function (has_name n.name.0) around.functions)) h (i.Call h (number_of_function (has_name n.name.0) around.functions) (registers_from h (length values)) n.at ∷ []) refl

  strict_clean : (o : BinaryOp) (x : y.Ty) (at : Spot) (operand : ℕ → ℕ → Gone → List Instr) (after : ℕ → Gone → After) (p h : ℕ) (g : Gone) → ((p h : ℕ) (g : Gone) → Clean (operand p h g)) → Clean (then_code p (h + 2) (operand p (h + 1) g) (after (h + 1) g) (λ place g. operator o x at h ∷ []))
  strict_clean o x at operand after p h g c = thens p (h + 2) (operand p (h + 1) g) (after (h + 1) g) (λ place g. operator o x at h ∷ []) (c p (h + 1) g) (λ place g. operator_clean o x at h)

  link_clean : (o : BinaryOp) (x : y.Ty) (at : Spot) (operand : ℕ → ℕ → Gone → List Instr) (after : ℕ → Gone → After) (p h : ℕ) (s : Scope) (g : Gone) → ((p h : ℕ) (g : Gone) → Clean (operand p h g)) → Clean (link_code o x at operand after p h s g)
  link_clean op.Or x at operand after p h s g c = only (closes s g (after h g)) h (sides p h (comes g) (λ place. []) (λ place. operand place h g)) (sides_clean p h (comes g) (λ place. []) (λ place. operand place h g) (λ place. refl) (λ place. c place h g))
  link_clean op.And x at operand after p h s g c = only (closes s g (after h g)) h (and_code p h (λ place. operand place h g)) (c (p + 1) h g)
  link_clean op.Equal x at operand after p h s g c = strict_clean op.Equal x at operand after p h g c
  link_clean op.NotEqual x at operand after p h s g c = strict_clean op.NotEqual x at operand after p h g c
  link_clean op.Less x at operand after p h s g c = strict_clean op.Less x at operand after p h g c
  link_clean op.LessEqual x at operand after p h s g c = strict_clean op.LessEqual x at operand after p h g c
  link_clean op.Greater x at operand after p h s g c = strict_clean op.Greater x at operand after p h g c
  link_clean op.GreaterEqual x at operand after p h s g c = strict_clean op.GreaterEqual x at operand after p h g c
  link_clean op.Add x at operand after p h s g c = strict_clean op.Add x at operand after p h g c
  link_clean op.Sub x at operand after p h s g c = strict_clean op.Sub x at operand after p h g c
  link_clean op.Mul x at operand after p h s g c = strict_clean op.Mul x at operand after p h g c
  link_clean op.Div x at operand after p h s g c = strict_clean op.Div x at operand after p h g c
  link_clean op.Rem x at operand after p h s g c = strict_clean op.Rem x at operand after p h g c

  -- a first step that starts from a value
  started_clean : (x : y.Ty) (node : Node) (p h : ℕ) (s : Scope) (g : Gone) (rest : Origin → ℕ → ℕ → Gone → List Instr) → Clean (node_code around x copy node p h s g) → CleanFrom rest → Clean (only_if (agree copy (gives_of x)) h (then_code p (h + 1) (node_code around x copy node p h s g) (node_after node h s g) (λ place g. rest (reference h) place (h + 1) g)))
  started_clean x node p h s g rest cn c =
      only (agree copy (gives_of x)) h _ (thens p (h + 1) (node_code around x copy node p h s g) (node_after node h s g) (λ place g. rest (reference h) place (h + 1) g) cn (λ place g. c (reference h) place (h + 1) g))

  -- an expression whose value isn't used
  unused_clean : (e : Expr) (p h : ℕ) (s : Scope) (g : Gone) → Clean (expr_code around e p h s g) → Clean (if_comes p (expr_code around e p h s g) (expr_after e h s g) (λ place g. drop_value (gives_of (type e)) h (expr_spot e)))
  unused_clean e p h s g ce = ends p (expr_code around e p h s g) (expr_after e h s g) (λ place g. drop_value (gives_of (type e)) h (expr_spot e)) ce (λ place g. drop_clean (gives_of (type e)) h (expr_spot e))

  mutual
    expr_clean : (e : Expr) (p h : ℕ) (s : Scope) (g : Gone) → Clean (expr_code around e p h s g)
    expr_clean (expr x node) p h s g = node_clean x.value (gives_of x.value) node p h s g

    node_clean : (x : y.Ty) (q : Gives) (node : Node) (p h : ℕ) (s : Scope) (g : Gone) → Clean (node_code around x q node p h s g)
    node_clean x q (number at n) p h s g = only (agree q copy && is_int n) h (i.Int h n ∷ []) refl
    node_clean x q (quote at text) p h s g = only (agree q copy && is_lawful_text text) h (i.Text h (number_of_text text around.texts) ∷ []) refl
    node_clean x q (chain e ls) p h s g =
        only (is_value (gives_of (type e)) && agree q copy) h _ (thens p (h + 1) (expr_code around e p h s g) (expr_after e h s g) (λ place g. links_code around ls place h s g) (expr_clean e p h s g) (λ place g. links_clean ls place h s g))
    node_clean x q (unary at unary_op.Borrow e) p h s g = only (agree q copy) h (borrow_code around e p h s g) (borrow_clean e p h s g)
    node_clean x q (unary at unary_op.Merge e) p h s g =
        only (agree owner (gives_of (type e)) && agree q owner) h _ (thens p (h + 1) (expr_code around e p h s g) (expr_after e h s g) (λ place g. i.Merge h h ∷ []) (expr_clean e p h s g) (λ place g. refl))
    node_clean x q (unary at unary_op.Minus e) p h s g =
        only (is_value (gives_of (type e)) && agree q copy) h _ (thens p (h + 1) (expr_code around e p h s g) (expr_after e h s g) (λ place g. unary_code unary_op.Minus at h) (expr_clean e p h s g) (λ place g. refl))
    node_clean x q (unary at unary_op.Not e) p h s g =
        only (is_value (gives_of (type e)) && agree q copy) h _ (thens p (h + 1) (expr_code around e p h s g) (expr_after e h s g) (λ place g. unary_code unary_op.Not at h) (expr_clean e p h s g) (λ place g. refl))
    node_clean x q (truth at b) p h s g = only (agree q copy) h (i.Truth h (truth_number b) ∷ []) refl
    node_clean x q (name n is_outer true) p h s g = only (agree q owner) h (move_out (find n.name.0 s) g h) (move_clean (find n.name.0 s) g h)
    node_clean x q (name n is_outer false) p h s g = only (agree q copy) h (lend_local (find n.name.0 s) g (y.frozen x) h) (lend_clean (find n.name.0 s) g (y.frozen x) h)
    node_clean x q (paren at e) p h s g = only (agree q (gives_of (type e))) h (expr_code around e p h s g) (expr_clean e p h s g)
    node_clean x q (call n f es) p h s g =
        thens p (h + length (gives_list es)) (args_code around es p h s g) (args_after es h s g) (λ place g. callee_code around q n f (first_type es) (gives_list es) h) (args_clean es p h s g) (λ place g. callee_clean q n f (first_type es) (gives_list es) h)
    node_clean x q (array at t es) p h s g =
        thens p (h + length (gives_list es)) (args_code around es p h s g) (args_after es h s g) (λ place g. make_code around.parts q x (gives_list es) h) (args_clean es p h s g) (λ place g. make_clean around.parts q x (gives_list es) h)
    node_clean x q (form f) p h s g = form_clean x q f p h s g
    node_clean x q (set at e1 e) p h s g =
        only (is_value (gives_of (type e)) && agree q (gives_of (type e))) h _ (thens p (h + 1) (expr_code around e p h s g) (expr_after e h s g) (λ place g. place_code around e1 (gives_of (type e)) place h s g) (expr_clean e p h s g) (λ place g. place_clean e1 (gives_of (type e)) place h s g))
    node_clean x q (steps e (more_steps z zs)) p h s g =
        only (agree q copy) h _
        (thens p (h + 1) (start_code around e (step_view z) (λ n. step_changes n z) p h s g (λ o place k g. step_code around o z place h k s g)) (start_after e (step_view z) (λ n. step_changes n z) h s g (λ k g. step_after z k s g)) (λ place g. steps_code around zs place h s g)
        (start_clean e (step_view z) (λ n. step_changes n z) p h s g (λ o place k g. step_code around o z place h k s g) (λ o place k g. step_clean o z place h k s g)) (λ place g. steps_clean zs place h s g))
    node_clean x q (steps e no_steps) p h s g = refl
    node_clean x q (iso at b) p h s g =
        only (agree q owner) h _ (freezes_clean at p (λ place. block_code around owner b place h (h + 1) s g) (block_after b (h + 1) s g) (i.ThawKeep h h ∷ []) (λ place. block_clean owner b place h (h + 1) s g) refl)

    -- of what stands under `&`
    borrow_clean : (e : Expr) (p h : ℕ) (s : Scope) (g : Gone) → Clean (borrow_code around e p h s g)
    borrow_clean (expr x (name n is_outer false)) p h s g = lend_clean (find n.name.0 s) g x.view h
    borrow_clean (expr x (name n is_outer true)) p h s g = node_clean x.value copy (name n is_outer true) p h s g
    borrow_clean (expr x (number at n)) p h s g = node_clean x.value copy (number at n) p h s g
    borrow_clean (expr x (quote at text)) p h s g = node_clean x.value copy (quote at text) p h s g
    borrow_clean (expr x (truth at b)) p h s g = node_clean x.value copy (truth at b) p h s g
    borrow_clean (expr x (chain e ls)) p h s g = node_clean x.value copy (chain e ls) p h s g
    borrow_clean (expr x (unary at op e)) p h s g = node_clean x.value copy (unary at op e) p h s g
    borrow_clean (expr x (set at e1 e)) p h s g = node_clean x.value copy (set at e1 e) p h s g
    borrow_clean (expr x (steps e ss)) p h s g = node_clean x.value copy (steps e ss) p h s g
    borrow_clean (expr x (call n f es)) p h s g = node_clean x.value copy (call n f es) p h s g
    borrow_clean (expr x (paren at e)) p h s g = node_clean x.value copy (paren at e) p h s g
    borrow_clean (expr x (array at t es)) p h s g = node_clean x.value copy (array at t es) p h s g
    borrow_clean (expr x (iso at b)) p h s g = node_clean x.value copy (iso at b) p h s g
    borrow_clean (expr x (form f)) p h s g = node_clean x.value copy (form f) p h s g

    start_clean : (e : Expr) (view : y.View) (changes : ℕ → Bool) (p h : ℕ) (s : Scope) (g : Gone) (rest : Origin → ℕ → ℕ → Gone → List Instr) → CleanFrom rest → Clean (start_code around e view changes p h s g rest)
    start_clean (expr z (name n is_outer false)) view changes p h s g rest c = local_clean (find n.name.0 s) (stays_of (find n.name.0 s) view (changes n.name.0)) view p h g rest c
    start_clean (expr z (name n is_outer true)) view changes p h s g rest c = started_clean z.value (name n is_outer true) p h s g rest (node_clean z.value copy (name n is_outer true) p h s g) c
    start_clean (expr z (number at n)) view changes p h s g rest c = started_clean z.value (number at n) p h s g rest (node_clean z.value copy (number at n) p h s g) c
    start_clean (expr z (quote at text)) view changes p h s g rest c = started_clean z.value (quote at text) p h s g rest (node_clean z.value copy (quote at text) p h s g) c
    start_clean (expr z (truth at b)) view changes p h s g rest c = started_clean z.value (truth at b) p h s g rest (node_clean z.value copy (truth at b) p h s g) c
    start_clean (expr z (chain e ls)) view changes p h s g rest c = started_clean z.value (chain e ls) p h s g rest (node_clean z.value copy (chain e ls) p h s g) c
    start_clean (expr z (unary at op e)) view changes p h s g rest c = started_clean z.value (unary at op e) p h s g rest (node_clean z.value copy (unary at op e) p h s g) c
    start_clean (expr z (set at e1 e)) view changes p h s g rest c = started_clean z.value (set at e1 e) p h s g rest (node_clean z.value copy (set at e1 e) p h s g) c
    start_clean (expr z (steps e ss)) view changes p h s g rest c = started_clean z.value (steps e ss) p h s g rest (node_clean z.value copy (steps e ss) p h s g) c
    start_clean (expr z (call n f es)) view changes p h s g rest c = started_clean z.value (call n f es) p h s g rest (node_clean z.value copy (call n f es) p h s g) c
    start_clean (expr z (paren at e)) view changes p h s g rest c = started_clean z.value (paren at e) p h s g rest (node_clean z.value copy (paren at e) p h s g) c
    start_clean (expr z (array at t es)) view changes p h s g rest c = started_clean z.value (array at t es) p h s g rest (node_clean z.value copy (array at t es) p h s g) c
    start_clean (expr z (iso at b)) view changes p h s g rest c = started_clean z.value (iso at b) p h s g rest (node_clean z.value copy (iso at b) p h s g) c
    start_clean (expr z (form f)) view changes p h s g rest c = started_clean z.value (form f) p h s g rest (node_clean z.value copy (form f) p h s g) c

    step_clean : (o : Origin) (z : Step) (p h k : ℕ) (s : Scope) (g : Gone) → Clean (step_code around o z p h k s g)
    step_clean o (field x view may_be_set at m) p h k s g = field_clean o (field_place around.parts view m.0) at h
    step_clean o (index x view at e) p h k s g =
        only (agree copy (gives_of (type e))) h _ (thens p (k + 1) (expr_code around e p k s g) (expr_after e k s g) (λ place g. load_element o k at h) (expr_clean e p k s g) (λ place g. element_clean o k at h))
    step_clean o (method x view at m es) p h k s g = refl

    steps_clean : (zs : Steps) (p h : ℕ) (s : Scope) (g : Gone) → Clean (steps_code around zs p h s g)
    steps_clean no_steps p h s g = refl
    steps_clean (more_steps x xs) p h s g =
        thens p (h + 1) (step_code around (reference h) x p h (h + 1) s g) (step_after x (h + 1) s g) (λ place g. steps_code around xs place h s g) (step_clean (reference h) x p h (h + 1) s g) (λ place g. steps_clean xs place h s g)

    place_clean : (e : Expr) (q : Gives) (p h : ℕ) (s : Scope) (g : Gone) → Clean (place_code around e q p h s g)
    place_clean (expr x (name n is_outer moved)) q p h s g = exchange_clean (find n.name.0 s) g q h
    place_clean (expr x (steps e (more_steps z no_steps))) q p h s g =
        start_clean e (step_view z) (λ n. step_changes n z) p (h + 1) (waiting h q ∷ s) (without h g) (λ o place k g. swap_code around o z place h k (waiting h q ∷ s) g) (λ o place k g. last_clean o z place h k (waiting h q ∷ s) g)
    place_clean (expr x (steps e (more_steps z (more_steps u us)))) q p h s g =
        thens p (h + 2)
        (start_code around e (step_view z) (λ n. step_changes n z) p (h + 1) (waiting h q ∷ s) (without h g) (λ o place k g. step_code around o z place (h + 1) k (waiting h q ∷ s) g))
        (start_after e (step_view z) (λ n. step_changes n z) (h + 1) (waiting h q ∷ s) (without h g) (λ k g. step_after z k (waiting h q ∷ s) g))
        (λ place g. targets_code around (more_steps u us) place h (h + 1) (waiting h q ∷ s) g)
        (start_clean e (step_view z) (λ n. step_changes n z) p (h + 1) (waiting h q ∷ s) (without h g) (λ o place k g. step_code around o z place (h + 1) k (waiting h q ∷ s) g) (λ o place k g. step_clean o z place (h + 1) k (waiting h q ∷ s) g))
        (λ place g. targets_clean (more_steps u us) place h (h + 1) (waiting h q ∷ s) g)
    place_clean (expr x (steps e no_steps)) q p h s g = refl
    place_clean (expr x (number at n)) q p h s g = refl
    place_clean (expr x (quote at text)) q p h s g = refl
    place_clean (expr x (truth at b)) q p h s g = refl
    place_clean (expr x (chain e ls)) q p h s g = refl
    place_clean (expr x (unary at op e)) q p h s g = refl
    place_clean (expr x (set at e1 e)) q p h s g = refl
    place_clean (expr x (call n f es)) q p h s g = refl
    place_clean (expr x (paren at e)) q p h s g = refl
    place_clean (expr x (array at t es)) q p h s g = refl
    place_clean (expr x (iso at b)) q p h s g = refl
    place_clean (expr x (form f)) q p h s g = refl

    targets_clean : (zs : Steps) (p new h : ℕ) (s : Scope) (g : Gone) → Clean (targets_code around zs p new h s g)
    targets_clean no_steps p new h s g = refl
    targets_clean (more_steps x no_steps) p new h s g = last_clean (reference h) x p new (h + 1) s g
    targets_clean (more_steps x (more_steps z zs)) p new h s g =
        thens p (h + 1) (step_code around (reference h) x p h (h + 1) s g) (step_after x (h + 1) s g) (λ place g. targets_code around (more_steps z zs) place new h s g) (step_clean (reference h) x p h (h + 1) s g) (λ place g. targets_clean (more_steps z zs) place new h s g)

    last_clean : (o : Origin) (z : Step) (p new k : ℕ) (s : Scope) (g : Gone) → Clean (swap_code around o z p new k s g)
    last_clean o (field x view may_be_set at m) p new k s g = swap_clean o (field_place around.parts view m.0) at new
    last_clean o (index x view at e) p new k s g =
        only (agree copy (gives_of (type e))) new _ (thens p (k + 1) (expr_code around e p k s g) (expr_after e k s g) (λ place g. swap_element o k at new) (expr_clean e p k s g) (λ place g. swap_element_clean o k at new))
    last_clean o (method x view at m es) p new k s g = refl

    args_clean : (es : Exprs) (p h : ℕ) (s : Scope) (g : Gone) → Clean (args_code around es p h s g)
    args_clean no_exprs p h s g = refl
    args_clean (more_exprs e es) p h s g =
        only (is_value (gives_of (type e))) h _ (thens p (h + 1) (expr_code around e p h s g) (expr_after e h s g) (λ place g. args_code around es place (h + 1) (waiting h (gives_of (type e)) ∷ s) (without h g)) (expr_clean e p h s g) (λ place g. args_clean es place (h + 1) (waiting h (gives_of (type e)) ∷ s) (without h g)))

    links_clean : (ls : Links) (p h : ℕ) (s : Scope) (g : Gone) → Clean (links_code around ls p h s g)
    links_clean no_links p h s g = refl
    links_clean (more_links (link x at o e) ls) p h s g =
        only (agree copy (gives_of (type e))) h _
        (thens p (h + 1) (link_code o x.value at (λ place h g. expr_code around e place h s g) (λ h g. expr_after e h s g) p h s g) (link_after o (λ h g. expr_after e h s g) h g) (λ place g. links_code around ls place h s g)
        (link_clean o x.value at (λ place h g. expr_code around e place h s g) (λ h g. expr_after e h s g) p h s g (λ place h g. expr_clean e place h s g)) (λ place g. links_clean ls place h s g))

    form_clean : (x : y.Ty) (q : Gives) (f : Form) (p h : ℕ) (s : Scope) (g : Gone) → Clean (form_code around x q f p h s g)
    form_clean x q (branch at c b es) p h s g =
        only (is_value (gives_of (type c))) h _
        (thens p (h + 1) (expr_code around c p h s g) (expr_after c h s g) _ (expr_clean c p h s g)
        (λ place now. only (may_meet s (block_after b (h + 1) s now) (elses_after es g h s now)) h _
        (sides_clean place h (block_after b (h + 1) s now) (λ place. block_code around q b place h (h + 1) s now) (λ place. elses_code around q es g place h s now) (λ place. block_clean q b place h (h + 1) s now) (λ place. elses_clean q es g place h s now))))
    form_clean x q (pure at b) p h s g = freezes_clean at p (λ place. block_code around q b place h (h + 1) s g) (block_after b (h + 1) s g) (thaw_code (y.is_owner x) q h) (λ place. block_clean q b place h (h + 1) s g) (thaws_clean (y.is_owner x) q h)
    form_clean x q (parallel_range at n a e b) p h s g = refl
    form_clean x q (parallel_each at n e b) p h s g = refl

    elses_clean : (q : Gives) (es : Elses) (before : Gone) (p h : ℕ) (s : Scope) (g : Gone) → Clean (elses_code around q es before p h s g)
    elses_clean q no_else before p h s g = only (agree q void) h [] refl
    elses_clean q (otherwise b) before p h s g = block_clean q b p h (h + 1) s g
    elses_clean q (more_elses (else_if at c b) es) before p h s g =
        only (is_value (gives_of (type c))) h _
        (thens p (h + 1) (expr_code around c p h s g) (expr_after c h s g) _ (expr_clean c p h s g)
        (λ place g. only (may_meet s (block_after b (h + 1) s g) (elses_after es before h s g)) h _
        (sides_clean place h (block_after b (h + 1) s g) (λ place. block_code around q b place h (h + 1) s g) (λ place. elses_code around q es before place h s g) (λ place. block_clean q b place h (h + 1) s g) (λ place. elses_clean q es before place h s g))))

    pub block_clean : (q : Gives) (b : Block) (p to h : ℕ) (s : Scope) (g : Gone) → Clean (block_code around q b p to h s g)
    block_clean q (block at end x ss) p to h s g = stmts_clean q end ss p to h s g

    stmts_clean : (q : Gives) (end : Spot) (ss : Stmts) (p to h : ℕ) (s : Scope) (g : Gone) → Clean (stmts_code around q end ss p to h s g)
    stmts_clean q end no_stmts p to h s g = only (agree q void) h [] refl
    stmts_clean q end (last e) p to h s g =
        only (agree q (gives_of (type e))) h _ (ends p (expr_code around e p h s g) (expr_after e h s g) (λ place g. hand q to h) (expr_clean e p h s g) (λ place g. hand_clean q to h))
    stmts_clean q end (more_stmts (declare n x e) ss) p to h s g =
        only (is_value (gives_of (type e)) && is_value (gives_of x)) h _
        (thens p (h + 1) (expr_code around e p h s g) (expr_after e h s g) _ (expr_clean e p h s g)
        (λ place g. ends place (stmts_code around q end ss place to (h + 1) (entry n.name.0 h (gives_of x) ∷ s) (without h g)) (stmts_after ss (h + 1) (entry n.name.0 h (gives_of x) ∷ s) (without h g)) (λ place g. drop_entry (entry n.name.0 h (gives_of x)) g end)
        (stmts_clean q end ss place to (h + 1) (entry n.name.0 h (gives_of x) ∷ s) (without h g)) (λ place g. entry_clean (entry n.name.0 h (gives_of x)) g end)))
    stmts_clean q end (more_stmts (destructure at ns xs e) ss) p to h s g =
        only (is_value (gives_of (type e))) h _
        (thens p (h + 1) (expr_code around e p h s g) (expr_after e h s g) _ (expr_clean e p h s g)
        (λ place g. locals_clean (numbers_of ns) (all_gives xs) end (place + 1) h s g (λ h s g. stmts_after ss h s g) (λ place h s g. stmts_code around q end ss place to h s g) (λ place h s g. stmts_clean q end ss place to h s g)))
    stmts_clean q end (more_stmts (return_nothing at) ss) p to h s g = thens p h (stmt_code around (return_nothing at) p h s g) (stmt_after (return_nothing at) h s g) (λ place g. stmts_code around q end ss place to h s g) (stmt_clean (return_nothing at) p h s g) (λ place g. stmts_clean q end ss place to h s g)
    stmts_clean q end (more_stmts (return_value at e) ss) p to h s g = thens p h (stmt_code around (return_value at e) p h s g) (stmt_after (return_value at e) h s g) (λ place g. stmts_code around q end ss place to h s g) (stmt_clean (return_value at e) p h s g) (λ place g. stmts_clean q end ss place to h s g)
    stmts_clean q end (more_stmts (while at c b) ss) p to h s g = thens p h (stmt_code around (while at c b) p h s g) (stmt_after (while at c b) h s g) (λ place g. stmts_code around q end ss place to h s g) (stmt_clean (while at c b) p h s g) (λ place g. stmts_clean q end ss place to h s g)
    stmts_clean q end (more_stmts (foreach at n a e b) ss) p to h s g = thens p h (stmt_code around (foreach at n a e b) p h s g) (stmt_after (foreach at n a e b) h s g) (λ place g. stmts_code around q end ss place to h s g) (stmt_clean (foreach at n a e b) p h s g) (λ place g. stmts_clean q end ss place to h s g)
    stmts_clean q end (more_stmts (form_stmt f) ss) p to h s g = thens p h (stmt_code around (form_stmt f) p h s g) (stmt_after (form_stmt f) h s g) (λ place g. stmts_code around q end ss place to h s g) (stmt_clean (form_stmt f) p h s g) (λ place g. stmts_clean q end ss place to h s g)
    stmts_clean q end (more_stmts (express e) ss) p to h s g = thens p h (stmt_code around (express e) p h s g) (stmt_after (express e) h s g) (λ place g. stmts_code around q end ss place to h s g) (stmt_clean (express e) p h s g) (λ place g. stmts_clean q end ss place to h s g)

    stmt_clean : (x : Stmt) (p h : ℕ) (s : Scope) (g : Gone) → Clean (stmt_code around x p h s g)
    stmt_clean (declare n x e) p h s g = refl
    stmt_clean (destructure at ns xs e) p h s g = refl
    stmt_clean (return_nothing at) p h s g = only (agree around.gives void) h _ (both (drop_scope s g at) (i.RetVoid ∷ []) (scope_clean s g at) refl)
    stmt_clean (return_value at e) p h s g =
        only (is_value (gives_of (type e)) && agree around.gives (gives_of (type e))) h _ (ends p (expr_code around e p h s g) (expr_after e h s g) (λ place g. drop_scope s g at ++ (i.Ret h ∷ [])) (expr_clean e p h s g) (λ place g. both (drop_scope s g at) (i.Ret h ∷ []) (scope_clean s g at) refl))
    stmt_clean (form_stmt f) p h s g = form_clean y.void void f p h s g
    stmt_clean (while at c b) p h s g =
        only (is_value (gives_of (type c)) && (closes s g (expr_after c h s g) && closes s g (block_after b (h + 1) s g))) h _
        (turns_clean p h (expr_after c h s g) (λ place. expr_code around c place h s g) (λ place. block_code around void b place h (h + 1) s g) (λ place. expr_clean c place h s g) (λ place. block_clean void b place h (h + 1) s g))
    stmt_clean (foreach at n a e b) p h s g =
        only (is_value (gives_of (type a)) && is_value (gives_of (type e))) h _
        (thens p (h + 1) (expr_code around a p h s g) (expr_after a h s g) _ (expr_clean a p h s g)
        (λ place g. thens place (h + 2) (expr_code around e place (h + 1) s g) (expr_after e (h + 1) s g) _ (expr_clean e place (h + 1) s g)
        (λ place g.
        let r = h + 2 in
        let inner = entry n.name.0 r copy ∷ s in
        let after = block_after b (r + 1) inner (without r g) in
        only (closes s g after) h _ (counts_clean place h at after (λ place. block_code around void b place h (r + 1) inner (without r g)) (λ place. block_clean void b place h (r + 1) inner (without r g))))))
    stmt_clean (express (expr x (set at (expr z (name n is_outer moved)) e))) p h s g =
        only (is_value (gives_of (type e)) && agree (gives_of x.value) (gives_of (type e))) h _ (ends p (expr_code around e p h s g) (expr_after e h s g) (λ place g. store (find n.name.0 s) g (gives_of (type e)) h at) (expr_clean e p h s g) (λ place g. store_clean (find n.name.0 s) g (gives_of (type e)) h at))
    stmt_clean (express (expr x (number at n))) p h s g = unused_clean (expr x (number at n)) p h s g (expr_clean (expr x (number at n)) p h s g)
    stmt_clean (express (expr x (quote at text))) p h s g = unused_clean (expr x (quote at text)) p h s g (expr_clean (expr x (quote at text)) p h s g)
    stmt_clean (express (expr x (truth at b))) p h s g = unused_clean (expr x (truth at b)) p h s g (expr_clean (expr x (truth at b)) p h s g)
    stmt_clean (express (expr x (chain e ls))) p h s g = unused_clean (expr x (chain e ls)) p h s g (expr_clean (expr x (chain e ls)) p h s g)
    stmt_clean (express (expr x (unary at op e))) p h s g = unused_clean (expr x (unary at op e)) p h s g (expr_clean (expr x (unary at op e)) p h s g)
    stmt_clean (express (expr x (steps e ss))) p h s g = unused_clean (expr x (steps e ss)) p h s g (expr_clean (expr x (steps e ss)) p h s g)
    stmt_clean (express (expr x (call n f es))) p h s g = unused_clean (expr x (call n f es)) p h s g (expr_clean (expr x (call n f es)) p h s g)
    stmt_clean (express (expr x (paren at e))) p h s g = unused_clean (expr x (paren at e)) p h s g (expr_clean (expr x (paren at e)) p h s g)
    stmt_clean (express (expr x (array at t es))) p h s g = unused_clean (expr x (array at t es)) p h s g (expr_clean (expr x (array at t es)) p h s g)
    stmt_clean (express (expr x (iso at b))) p h s g = unused_clean (expr x (iso at b)) p h s g (expr_clean (expr x (iso at b)) p h s g)
    stmt_clean (express (expr x (form f))) p h s g = unused_clean (expr x (form f)) p h s g (expr_clean (expr x (form f)) p h s g)
    stmt_clean (express (expr x (name n is_outer moved))) p h s g = unused_clean (expr x (name n is_outer moved)) p h s g (expr_clean (expr x (name n is_outer moved)) p h s g)
    stmt_clean (express (expr x (set at0 (expr z (number at n)) e0))) p h s g = unused_clean (expr x (set at0 (expr z (number at n)) e0)) p h s g (expr_clean (expr x (set at0 (expr z (number at n)) e0)) p h s g)
    stmt_clean (express (expr x (set at0 (expr z (quote at text)) e0))) p h s g = unused_clean (expr x (set at0 (expr z (quote at text)) e0)) p h s g (expr_clean (expr x (set at0 (expr z (quote at text)) e0)) p h s g)
    stmt_clean (express (expr x (set at0 (expr z (truth at b)) e0))) p h s g = unused_clean (expr x (set at0 (expr z (truth at b)) e0)) p h s g (expr_clean (expr x (set at0 (expr z (truth at b)) e0)) p h s g)
    stmt_clean (express (expr x (set at0 (expr z (chain e ls)) e0))) p h s g = unused_clean (expr x (set at0 (expr z (chain e ls)) e0)) p h s g (expr_clean (expr x (set at0 (expr z (chain e ls)) e0)) p h s g)
    stmt_clean (express (expr x (set at0 (expr z (unary at op e)) e0))) p h s g = unused_clean (expr x (set at0 (expr z (unary at op e)) e0)) p h s g (expr_clean (expr x (set at0 (expr z (unary at op e)) e0)) p h s g)
    stmt_clean (express (expr x (set at0 (expr z (set at e1 e)) e0))) p h s g = unused_clean (expr x (set at0 (expr z (set at e1 e)) e0)) p h s g (expr_clean (expr x (set at0 (expr z (set at e1 e)) e0)) p h s g)
    stmt_clean (express (expr x (set at0 (expr z (steps e ss)) e0))) p h s g = unused_clean (expr x (set at0 (expr z (steps e ss)) e0)) p h s g (expr_clean (expr x (set at0 (expr z (steps e ss)) e0)) p h s g)
    stmt_clean (express (expr x (set at0 (expr z (call n f es)) e0))) p h s g = unused_clean (expr x (set at0 (expr z (call n f es)) e0)) p h s g (expr_clean (expr x (set at0 (expr z (call n f es)) e0)) p h s g)
    stmt_clean (express (expr x (set at0 (expr z (paren at e)) e0))) p h s g = unused_clean (expr x (set at0 (expr z (paren at e)) e0)) p h s g (expr_clean (expr x (set at0 (expr z (paren at e)) e0)) p h s g)
    stmt_clean (express (expr x (set at0 (expr z (array at t es)) e0))) p h s g = unused_clean (expr x (set at0 (expr z (array at t es)) e0)) p h s g (expr_clean (expr x (set at0 (expr z (array at t es)) e0)) p h s g)
    stmt_clean (express (expr x (set at0 (expr z (iso at b)) e0))) p h s g = unused_clean (expr x (set at0 (expr z (iso at b)) e0)) p h s g (expr_clean (expr x (set at0 (expr z (iso at b)) e0)) p h s g)
    stmt_clean (express (expr x (set at0 (expr z (form f)) e0))) p h s g = unused_clean (expr x (set at0 (expr z (form f)) e0)) p h s g (expr_clean (expr x (set at0 (expr z (form f)) e0)) p h s g)

  body_clean : (ns : List ℕ) (qs : List Gives) (b : Block) → Clean (body_code around ns qs b)
  body_clean ns qs (block at end x ss) =
      let s = parameters 0 ns qs [] in
      ends 0 (block_code around void (block at end x ss) 0 (length ns) (length ns + 1) s []) (block_after (block at end x ss) (length ns + 1) s []) (λ place g. only_if (agree around.gives void) (length ns) (drop_scope s g end ++ (i.RetVoid ∷ [])))
      (block_clean void (block at end x ss) 0 (length ns) (length ns + 1) s []) (λ place g. only (agree around.gives void) (length ns) (drop_scope s g end ++ (i.RetVoid ∷ [])) (both (drop_scope s g end) (i.RetVoid ∷ []) (scope_clean s g end) refl))

pub none_elided : NoneElided
none_elided program j func e = by (slice_get functions j) (slice_get-map low functions j) e
  where
    functions : List Function
    functions = functions_in (parts_of program)

    low : Function → Func
    low = lowered_function (parts_of program) (texts_of (parts_of program) functions) functions

    of_function : (f : Function) → Clean (low f).body
    of_function f = body_clean (record { parts = parts_of program; texts = texts_of (parts_of program) functions; functions = functions; gives = result_gives f }) (names_in f) (param_gives f) (body_of f)

    by : (o : Option Function) → slice_get (lowered_parts (parts_of program)).funcs j ≡ option_map low o → slice_get (lowered_parts (parts_of program)).funcs j ≡ Some func → Clean func.body
    by None is e = let f : None ≡ Some func = sym is ∙ e in absurd (cc)
    by (Some f) is e = let g : Some (low f) ≡ Some func = sym is ∙ e in let same : low f ≡ func = cc in subst (λ z. Clean z.body) same (of_function f)
