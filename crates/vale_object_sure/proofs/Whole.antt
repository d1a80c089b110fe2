-- The bodies of a program that keeps the rules are sure.
use Rattle.std.proofs.Common.{◌≡◌, ℕ, zero, suc, ◌+◌, ◌≤◌, Bool, true, false, not, List, [], ◌∷◌, ◌++◌, length, Some, refl, sym, ap, ◌∙◌, subst, arith}
use Rattle.std.specs.Prelude.{slice_get, flat_map}
use Rattle.vale_syntax.specs.declared.fault.Fault.{Fault}
use Rattle.vale_syntax.specs.Tree.{Head, head, Param, param, Function, function, Item, struct_item, interface_item, impl_item, function_item}
use Rattle.vale_rules_spec.specs.Declarations.{head_name, head_params}
use Rattle.vale_rules_spec.specs.Judged.{Judged, fine, faulty, both, unless, own, ◌⇒◌, plain as plain_node}
use Rattle.vale_rules_spec.specs.Owned.{function_flow, function_faults, drop_rules, items_faults, method_faults, owned}
use Rattle.vale_rules_spec.specs.Returns.{block_returns}
use Rattle.vale_rules_spec.specs.TypeRules.{head_gives, function_rules}
use Rattle.vale_rules_spec.specs.Types.{Ty, void, is_void, type_of}
use Rattle.vale_rules_spec.specs.Typed as t
use Rattle.vale_rules_spec.specs.Typed.{Typed, Block, block}
use Rattle.vale_rules_spec.specs.Typing.{Env, with_local, with_params, entry, void_block, in_function, in_functions, in_item, in_items}
use Rattle.vale_rules_spec.specs.Whole.{Locals, declared, params_declared}
use Rattle.vale_model.specs.Kinds.{head_of, body_of}
use Rattle.vale_model.specs.Parts.{Parts, parts_of, functions_of, param_names}
use Rattle.vale_code.specs.Parts.{Parts as Code}
use Rattle.vale_code.specs.declared.instr.Instr.{Instr}
use Rattle.vale_code.specs.declared.instr.Instr.TheVariants as i
use Rattle.vale_lowering.specs.Instructions.{only_if}
use Rattle.vale_lowering.specs.Scopes.{head_result}
use Rattle.vale_lowering_objects.specs.Code.{functions_in, lowered}
use Rattle.vale_lowering_objects.specs.Lowered.{if_comes, block_after, block_code, drop_scope, param_gives_of, result_gives}
use Rattle.vale_lowering_objects.specs.Program.{lowered_body}
use Rattle.vale_lowering_objects.specs.Scopes.{Gives, gives_of, agree, Scope, Gone, After, comes, never, parameters}
use Rattle.vale_lowering_objects.specs.Scopes as g
use Rattle.vale_object_facts.specs.Suits.{Sure, block_suits}
use Rattle.vale_object_kinds.proofs.Holds.{Holds, Pair, holds_node, holds_plain, holds_both}
use Rattle.vale_object_typed.specs.Covered.{block_is_covered, function_is_covered}
use Rattle.vale_object_typed.specs.Fit.{TypedProgramsFit, LoweredHasTables, FunctionsBreakNoRule}
use Rattle.vale_object_sure.specs.Lawful.{function_is_lawful, item_is_lawful, items_are_lawful}
use Rattle.vale_object_sure.specs.Sure.{SureBodies, OwnedFunctionsBreakNoRule}
use Rattle.vale_object_sure.proofs.Callees.{AllCallable, agree_same}
use Rattle.vale_object_sure.proofs.Calls.{all_callable}
use Rattle.vale_object_sure.proofs.Entries.{Stands, stands_on, stands_push}
use Rattle.vale_object_sure.proofs.Flow.{none_in}
use Rattle.vale_object_sure.proofs.Marked.{ScopeIsSolid, void_meets}
use Rattle.vale_object_sure.proofs.Marks.{block_marks}
use Rattle.vale_object_sure.proofs.Never.{IsNever, block_never}
use Rattle.vale_object_sure.proofs.Shapes.{sure_both, sure_if, drops_sure}
use Rattle.vale_object_sure.proofs.Tree.{stmts_sure}
use Rattle.vale_object_sure.proofs.Values.{Solid, one_rule, asked, written}

-- ---- parameters

params_solid : (ps : List Param) (env : Env) → ScopeIsSolid env.scope → ScopeIsSolid (with_params ps env).scope
params_solid [] env h = h
params_solid (param n x ∷ ps) env h = params_solid ps (with_local n (type_of x) env) (written x, h)

params_stand : (ps : List Param) (q : Gives) (env : Env) (h k : ℕ) (s : Scope) (ls : Locals) → h + length (param_names ps) ≤ k → Stands q env h s [] ls → Stands q (with_params ps env) k (parameters h (param_names ps) (param_gives_of ps) s) [] (params_declared ps ls)
params_stand [] q env h k s ls le st = stands_on q env h s [] ls st k [] ls (omega (arith, le)) st.kept
params_stand (param n x ∷ ps) q env h k s ls le st =
    params_stand ps q (with_local n (type_of x) env) (h + 1) k (g.entry n.name.0 h (gives_of (type_of x)) ∷ s) (declared n ls) (omega (arith, le)) (stands_push q env h s [] ls st n (type_of x) (written x).1)

-- ---- the end of a body

void_by : (void returns : Bool) → returns ≡ false → (void ≡ false → returns ≡ true) → void ≡ true
void_by true returns e f = refl
void_by false returns e f = absurd (let z : false ≡ true = sym e ∙ f refl in cc)

not_both : (o : After) (returns : Bool) → (returns ≡ true → IsNever o) → (IsNever o → ⊥) → returns ≡ false
not_both o true r n = absurd (n (r refl))
not_both o false r n = refl

ends_sure : (a : List Instr) (o : After) (rest : ℕ → Gone → List Instr) → Sure a → ((IsNever o → ⊥) → (q : ℕ) (g : Gone) → Sure (rest q g)) → Sure (if_comes 0 a o rest)
ends_sure a (comes g') rest s f = sure_both a (rest (0 + length a) g') s (f (λ n. n) (0 + length a) g')
ends_sure a (never g') rest s f = s

void_gives : (x : Ty) → is_void x ≡ true → gives_of x ≡ g.void
void_gives void e = refl
void_gives _ e = absurd (cc)

head_too : (h : Head) → head_result h ≡ head_gives h
head_too (head is_pure n ps x) = refl

-- ---- a function

module _ (p : Parts) (c : Code) (functions : List t.Function) (calls : AllCallable p c functions) where
  body_sure : (h : Head) (b : Block) → block_marks b → (is_void (head_gives h) ≡ false → block_returns b ≡ true) → block_suits p c functions (entry h) void b → (function_flow h b).faults ≡ [] → Sure (lowered_body p c.texts functions (t.function_body h b))
  body_sure h (block at end x ss) m returns u f =
      let b = block at end x ss in
      let out = result_gives (t.function_body h b) in
      let names = param_names (head_params h) in
      let s = parameters 0 names (param_gives_of (head_params h)) [] in
      let ls = params_declared (head_params h) [] in
      let gives : out ≡ gives_of (head_gives h) = ap gives_of (head_too h) in
      let start : Stands out (record { gives = head_gives h; depth = 0; scope = [] }) 0 [] [] [] = record { named = tt; falls = tt; kept = tt; gives = gives } in
      let st = params_stand (head_params h) out (record { gives = head_gives h; depth = 0; scope = [] }) 0 (length names + 1) [] [] (omega arith) start in
      let o = block_after b (length names + 1) s [] in
      ends_sure (block_code (record { parts = p; texts = c.texts; functions = functions; gives = out }) g.void b 0 (length names) (length names + 1) s []) o (λ place g'. only_if (agree out g.void) (length names) (drop_scope s g' end ++ (i.RetVoid ∷ [])))
      (stmts_sure p c functions out calls ss end (entry h) void g.void (length names) (length names + 1) s [] ls 0 st refl m u.1 f)
      (λ runs q g'.
      let stays = not_both o (block_returns b) (λ e. block_never b (length names + 1) s [] e) runs in
      sure_if (agree out g.void) (length names) (drop_scope s g' end ++ (i.RetVoid ∷ [])) (agree_same out g.void (gives ∙ void_gives (head_gives h) (void_by (is_void (head_gives h)) (block_returns b) stays returns)))
      (sure_both (drop_scope s g' end) (i.RetVoid ∷ []) (drops_sure s g' end) refl))

-- ---- typed functions

module _ (names : List (List ℕ)) (items : List Item) (kinds : List Ty) (texts : List (List ℕ)) where
  abbrev pub FunctionMarks : t.Function → Type 0
  FunctionMarks f = function_is_covered kinds texts f → block_marks (body_of f) × (is_void (head_gives (head_of f)) ≡ false → block_returns (body_of f) ≡ true)

  function_marks : (f : Function) → function_is_lawful f → Holds FunctionMarks (in_function names items f)
  function_marks (function h b) law =
      holds_node (λ v. ScopeIsSolid (entry h).scope → block_is_covered kinds texts v → block_marks v × Solid (t.block_type v)) FunctionMarks (head_name h).at (λ v. function_rules (head_gives h) (block_returns v)) (λ v. t.function_body h v) (void_block names items (entry h) b)
      (void_meets names items kinds texts b (entry h) law)
      (λ v m kept cov. ((m (params_solid (head_params h) (record { gives = head_gives h; depth = 0; scope = [] }) tt) cov).0, λ e. asked (not (is_void (head_gives h))) (block_returns v) (one_rule 26 (not (is_void (head_gives h)) ⇒ block_returns v) kept) (ap not e)))

  abbrev pub AllMarks : List t.Function → Type 0
  AllMarks [] = Unit {0}
  AllMarks (f ∷ fs) = FunctionMarks f × AllMarks fs

  pub marks_at : (fs : List t.Function) (j : ℕ) (f : t.Function) → AllMarks fs → slice_get fs j ≡ Some f → FunctionMarks f
  marks_at [] j f a e = absurd (cc)
  marks_at (g ∷ fs) zero f a e = let same : g ≡ f = cc in subst FunctionMarks same a.0
  marks_at (g ∷ fs) (suc j) f a e = marks_at fs j f a.1 e

  abbrev ItemMarks : t.Item → Type 0
  ItemMarks x = (ys : List t.Item) → AllMarks (flat_map functions_of ys) → AllMarks (flat_map functions_of (x ∷ ys))

  abbrev pub ItemsMark : List t.Item → Type 0
  ItemsMark ys = AllMarks (flat_map functions_of ys)

  any_holds : {A : Type 0} (j : Judged A) → Holds (λ a. Unit {0}) j
  any_holds (fine a) = tt
  any_holds (faulty f fs) = tt

  item_marks : (x : Item) → item_is_lawful x → Holds ItemMarks (in_item names items x)
  item_marks (struct_item n fs) law = λ ys r. r
  item_marks (interface_item n hs) law = λ ys r. r
  item_marks (impl_item at i s fs) law = holds_plain (λ v. Unit {0}) ItemMarks (λ v. t.impl_item at i s v) (in_functions names items fs) (any_holds (in_functions names items fs)) (λ v h ys r. r)
  item_marks (function_item f) law = holds_plain FunctionMarks ItemMarks (λ v. t.function_item v) (in_function names items f) (function_marks f law) (λ v h ys r. (h, r))

  pub items_mark : (xs : List Item) → items_are_lawful xs → Holds ItemsMark (in_items names items xs)
  items_mark [] law = tt
  items_mark (x ∷ xs) law =
      holds_plain (Pair ItemMarks ItemsMark) ItemsMark (λ v. v.0 ∷ v.1) (both (in_item names items x) (in_items names items xs)) (holds_both ItemMarks ItemsMark (in_item names items x) (in_items names items xs) (item_marks x law.0) (items_mark xs law.1))
      (λ v h. h.0 v.1 h.1)

-- ---- owned functions

abbrev FunctionOwns : t.Function → Type 0
FunctionOwns f = (function_flow (head_of f) (body_of f)).faults ≡ []

abbrev AllOwn : List t.Function → Type 0
AllOwn [] = Unit {0}
AllOwn (f ∷ fs) = FunctionOwns f × AllOwn fs

owns_at : (fs : List t.Function) (j : ℕ) (f : t.Function) → AllOwn fs → slice_get fs j ≡ Some f → FunctionOwns f
owns_at [] j f a e = absurd (cc)
owns_at (g ∷ fs) zero f a e = let same : g ≡ f = cc in subst FunctionOwns same a.0
owns_at (g ∷ fs) (suc j) f a e = owns_at fs j f a.1 e

all_own : (names : List (List ℕ)) (xs : List t.Item) → items_faults names xs ≡ [] → AllOwn (flat_map functions_of xs)
all_own names [] e = tt
all_own names (t.struct_item n fs ∷ xs) e = all_own names xs e
all_own names (t.interface_item n hs ∷ xs) e = all_own names xs e
all_own names (t.impl_item at i s fs ∷ xs) e = all_own names xs (none_in (method_faults fs) (items_faults names xs) e).1
all_own names (t.function_item (t.function_body h b) ∷ xs) e =
    let parts = none_in (function_faults names (t.function_body h b)) (items_faults names xs) e in
    let one = none_in (function_flow h b).faults (own (head_name h).at (drop_rules names h b)) parts.0 in
    (one.0, all_own names xs parts.1)

without_faults : {A : Type 0} (gs : List Fault) (a b : A) → unless gs a ≡ fine b → gs ≡ []
without_faults [] a b e = refl
without_faults (f ∷ gs) a b e = absurd (cc)

-- ---- the whole

-- what is typed has the tree's names, and its items typed
typed_items : (names : List (List ℕ)) (program : Typed) (j : Judged (List t.Item)) → plain_node (λ v. t.typed names v) j ≡ fine program → (zs : List t.Item) × (j ≡ fine zs) × (t.typed names zs ≡ program)
typed_items names program (fine zs) e = let same : t.typed names zs ≡ program = cc in (zs, refl, same)
typed_items names program (faulty g gs) e = absurd (cc)

function_sure : (p : Parts) (c : Code) (functions : List t.Function) (f : t.Function) → AllCallable p c functions → block_marks (body_of f) × (is_void (head_gives (head_of f)) ≡ false → block_returns (body_of f) ≡ true) → block_suits p c functions (entry (head_of f)) void (body_of f) → FunctionOwns f
    → Sure (lowered_body p c.texts functions f)
function_sure p c functions (t.function_body h b) calls m u f = body_sure p c functions calls h b m.0 m.1 u f

pub sure_bodies : TypedProgramsFit → LoweredHasTables → SureBodies
sure_bodies fit tables names items decls program k j f here cov =
    let p = parts_of program in
    let zs = typed_items names program (in_items names items items) k.types in
    let marks : AllMarks names items p.kinds (lowered program).texts (functions_in p) =
    subst (λ q. AllMarks names items p.kinds (lowered program).texts (functions_in (parts_of q))) zs.2
    (subst (λ q. Holds (ItemsMark names items p.kinds (lowered program).texts) q) zs.1 (items_mark names items p.kinds (lowered program).texts items k.literals)) in
    let owners : AllOwn (functions_in p) =
    subst (λ q. AllOwn (functions_in (parts_of q))) zs.2 (all_own names zs.0 (without_faults (items_faults names zs.0) (t.typed names zs.0) (t.typed names zs.0) (subst (λ q. owned q ≡ fine q) (sym zs.2) k.owners))) in
    function_sure p (lowered program) (functions_in p) f (all_callable p) (marks_at names items p.kinds (lowered program).texts (functions_in p) j f marks here cov)
    (fit names items program (lowered program) (functions_in p) k.types k.plain (tables names items decls program k.declares k.types) j f here cov) (owns_at (functions_in p) j f owners here)

pub owned_break_no_rule : SureBodies → FunctionsBreakNoRule → OwnedFunctionsBreakNoRule
owned_break_no_rule sure rules names items decls program k j base f here cov = rules names items decls program k.declares k.types k.plain j base f here cov (sure names items decls program k j f here cov)
