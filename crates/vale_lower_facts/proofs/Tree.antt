-- The walk goes through the code of each part of a program whose types fit.
use Rattle.std.proofs.Common.{◌≡◌, ℕ, ◌+◌, ◌<◌, pos, List, [], ◌∷◌, ◌++◌, length, Option, Some, None, Bool, true, false, ◌&&◌, ◌||◌, refl, sym, ap, ◌∙◌, subst, arith}
use Rattle.std.specs.Prelude.{slice_get, nat_le}
use Rattle.std.specs.List.{list_all}
use Rattle.std.proofs.lemmas.Bool.{and_parts, and_from}
use Rattle.std.proofs.lemmas.Option.{slice_get_within}
use Rattle.vale_base.specs.Limits.{text_limit}
use Rattle.vale_base.specs.declared.spot.Spot.{Spot}
use Rattle.vale_text.specs.Operations.{is_int}
use Rattle.vale_syntax.specs.declared.tree.NameAt.{NameAt}
use Rattle.vale_syntax.specs.declared.tree.UnaryOp.{UnaryOp}
use Rattle.vale_syntax.specs.declared.tree.UnaryOp.TheVariants as unary_op
use Rattle.vale_rules_spec.specs.Types.{Ty}
use Rattle.vale_rules_spec.specs.Types as y
use Rattle.vale_rules_spec.specs.Typed.{built_in, constructor, function, Expr, expr, Node, set, chain, unary, steps, number, quote, truth, name, call, paren, array, iso, form, Exprs, no_exprs, more_exprs, link, Links, no_links, more_links, Form, branch, pure, parallel_range, parallel_each, else_if, Elses, no_else, otherwise, more_elses, Block, block, Stmt, declare, destructure, return_nothing, return_value, while, foreach, form_stmt, express, Stmts, no_stmts, last, more_stmts, Function, type, types, block_type}
use Rattle.vale_rules_spec.specs.Typing.{Env, with_local}
use Rattle.vale_code.specs.declared.instr.Instr.{Instr}
use Rattle.vale_code.specs.declared.instr.Instr.TheVariants as i
use Rattle.vale_code.specs.declared.ty.Ty.TheVariants as t
use Rattle.vale_cert.specs.Rules.{is_short}
use Rattle.vale_served_spec.specs.Served.{type_is_served, unary_is_served, callee_is_served, is_local, expr_is_served, node_is_served, exprs_are_served, links_are_served, form_is_served, elses_are_served, block_is_served, stmts_are_served, stmt_is_served}
use Rattle.vale_lowering.specs.Instructions.{only_if, load, store, exchange, link_code, count_code}
use Rattle.vale_lowering.specs.Lowered.{truth_number, set_code, store_code, expr_code, value_code, node_code, args_code, links_code, form_code, elses_code, block_code, stmts_code, stmt_code, unused_code}
use Rattle.vale_lowering.specs.Scopes.{Around, place_of, code_type, agree, number_of_text}
use Rattle.vale_syntax.specs.Bytes.{is_byte}
use Rattle.vale_lowering.specs.Texts.{is_lawful_text, expr_quotes, node_quotes, exprs_quotes, links_quotes, form_quotes, elses_quotes, block_quotes, stmts_quotes, stmt_quotes}
use Rattle.vale_lowering.proofs.Lookups.{found_text}
use Rattle.vale_lower_facts.specs.Slots.{local, waits, holds, Stand, scope_at, with_slot, given, behind, type_at}
use Rattle.vale_rules_spec.specs.Returns.{block_returns, stmts_return, stmt_returns, expr_returns, node_returns, form_returns, elses_return}
use Rattle.vale_lower_facts.specs.Marks.{Marks, mark, marked, only_marks, with_args, counted, count_marks, link_due, links_due, form_due, expr_due, node_due, value_due, unused_due, args_due, stmt_due, stmts_due, block_due, expr_marks, value_marks, node_marks, args_marks, links_marks, form_marks, elses_marks, block_marks, stmts_marks, stmt_marks, unused_marks}
use Rattle.vale_lower_facts.specs.WellTyped.{unary_is_well_typed, IsLocal, set_is_well_typed, expr_is_well_typed, node_is_well_typed, exprs_are_well_typed, links_are_well_typed, form_is_well_typed, elses_are_well_typed, block_is_well_typed, stmts_are_well_typed, stmt_is_well_typed}
use Rattle.vale_lower_facts.proofs.Stands.{Site, Below, below_behind, type_here, Says, says_same, says_then, says_slot, says_again, says_with, says_behind, says_returns, says_both, says_given, says_ungiven, Within, within_same, within_behind, within_slot, says_within}
use Rattle.vale_lower_facts.proofs.Runs.{Runs, nothing, runs_less, both}
use Rattle.vale_lower_facts.proofs.Ways.{if_runs, loop_runs, ret_runs, void_runs}
use Rattle.vale_lower_facts.proofs.Rows.{int_runs, truth_runs, text_runs, copy_runs, store_runs, add_runs, sub_runs, cmp_runs}
use Rattle.vale_lower_facts.proofs.Names.{copies_too, covered_copy, Among, among_front, among_back, Context, Placed, Stands, stands_up, stands_behind, stands_holds, stands_waits, stands_local}
use Rattle.vale_lower_facts.proofs.Operators.{operands_copy, gives_copy, chosen, chosen_too, runs_due, as_given, two, below_two, says_two, first_of, second_of, link_runs, unary_runs}
use Rattle.vale_lower_facts.proofs.Callees.{agree_with_itself, built_in_runs, call_runs, args_copy, built_in_copies}

unary_copy : (o : UnaryOp) (ty x : Ty) → unary_is_served o ≡ true → unary_is_well_typed o ty x → (y.is_copy ty ≡ true) × (y.is_copy x ≡ true)
unary_copy unary_op.Minus ty x cov su = (ap y.is_copy su.0, ap y.is_copy su.1)
unary_copy unary_op.Not ty x cov su = (ap y.is_copy su.0, ap y.is_copy su.1)
unary_copy unary_op.Borrow ty x cov su = absurd (cc)
unary_copy unary_op.Merge ty x cov su = absurd (cc)

-- ---- a set of a local

record LocalAt (p : Expr) : Type 0 where
  seen : y.Seen
  at : NameAt
  is_outer : Bool
  moved : Bool
  is : p ≡ expr seen (name at is_outer moved)

local_at : (p : Expr) → is_local p ≡ true → LocalAt p
local_at (expr x (name n is_outer moved)) e = record { seen = x; at = n; is_outer = is_outer; moved = moved; is = refl }
local_at (expr x (set at p q)) e = absurd (cc)
local_at (expr x (chain q ls)) e = absurd (cc)
local_at (expr x (unary at op q)) e = absurd (cc)
local_at (expr x (steps q ss)) e = absurd (cc)
local_at (expr x (number at n)) e = absurd (cc)
local_at (expr x (quote at text)) e = absurd (cc)
local_at (expr x (truth at b)) e = absurd (cc)
local_at (expr x (call n f es)) e = absurd (cc)
local_at (expr x (paren at q)) e = absurd (cc)
local_at (expr x (array at z es)) e = absurd (cc)
local_at (expr x (iso at b)) e = absurd (cc)
local_at (expr x (form f)) e = absurd (cc)

module _ (k : Site) (c : Context k) where
  abbrev pub a : Around
  a = c.around

  abbrev pub fs : List Function
  fs = c.around.functions

  -- what the register of a local holds
  typed_as : {n : NameAt} {x : Ty} {env : Env} {h : ℕ} {s : Stand} (l : IsLocal env n x) → Stands k env h s → Placed k n.name.0 l.is s
  typed_as {n} l st = st.named n.name.0 l.is l.found

  exchange_runs : {p h : ℕ} {due : Bool} {s : Stand} (r : ℕ) (ty : Ty) → y.is_copy ty ≡ true → Below k h s → type_at k.last s r ≡ Some (code_type ty)
      → Runs k p (i.Copy (h + 1) r ∷ i.Copy r h ∷ i.Copy h (h + 1) ∷ []) (mark due (with_slot (holds h ty) s) ∷ None ∷ None ∷ []) due (with_slot (holds h ty) s) false (with_slot (holds h ty) s)
  exchange_runs {p} {h} {due} {s} r ty copy b has =
      both k {a = i.Copy (h + 1) r ∷ []} {b = i.Copy r h ∷ i.Copy h (h + 1) ∷ []} {ma = mark due (with_slot (holds h ty) s) ∷ []} {mb = None ∷ None ∷ []}
      (copy_runs k (holds (h + 1) ty) r (copies_too ty copy) has_r (says_same k (with_slot (holds h ty) s)))
      (both k {a = i.Copy r h ∷ []} {b = i.Copy h (h + 1) ∷ []} {ma = mark false (two k h ty ty s) ∷ []} {mb = mark false (two k h ty ty s) ∷ []}
      (store_runs k r h (code_type ty) (copies_too ty copy) (first_of k h s ty ty) (says_same k (two k h ty ty s)) has_two)
      (copy_runs k (holds h ty) (h + 1) (copies_too ty copy) (second_of k h s ty ty) (says_two k ty ty b)))
    where
      has_r : type_at k.last (with_slot (holds h ty) s) r ≡ Some (code_type ty)
      has_r = (says_slot k (holds h ty) b).each r (code_type ty) has

      has_two : type_at k.last (two k h ty ty s) r ≡ Some (code_type ty)
      has_two = (says_two k ty ty b).each r (code_type ty) has

  set_code_runs : {p h : ℕ} {due : Bool} {s : Stand} {env : Env} (q : Expr) (ty x : Ty) → is_local q ≡ true → set_is_well_typed fs env q ty x → y.is_copy ty ≡ true → Stands k env h s
      → Runs k p (set_code q h (scope_at s)) (marked due (with_slot (holds h ty) s) (set_code q h (scope_at s))) due (with_slot (holds h ty) s) false (with_slot (holds h ty) s)
  set_code_runs {p} {h} {due} {s} {env} q ty x is su copy st = by (local_at q is) su
    where
      goal : Expr → Type 0
      goal q = Runs k p (set_code q h (scope_at s)) (marked due (with_slot (holds h ty) s) (set_code q h (scope_at s))) due (with_slot (holds h ty) s) false (with_slot (holds h ty) s)

      found : (n : NameAt) → IsLocal env n ty → (o : Option ℕ) → place_of n.name.0 (scope_at s) ≡ o → Runs k p (exchange o h) (marked due (with_slot (holds h ty) s) (exchange o h)) due (with_slot (holds h ty) s) false (with_slot (holds h ty) s)
      found n l None e = let z = (typed_as l st).found in absurd (cc)
      found n l (Some r) e =
          let pl = typed_as l st in
          let same : pl.register ≡ r = (let z = pl.found in cc) in
          exchange_runs r ty copy st.below (subst (λ r. type_at k.last s r ≡ Some (code_type ty)) same (pl.typed ∙ ap (λ z. Some (code_type z)) l.typed))

      by : LocalAt q → set_is_well_typed fs env q ty x → Runs k p (set_code q h (scope_at s)) (marked due (with_slot (holds h ty) s) (set_code q h (scope_at s))) due (with_slot (holds h ty) s) false (with_slot (holds h ty) s)
      by l su = subst (λ q. Runs k p (set_code q h (scope_at s)) (marked due (with_slot (holds h ty) s) (set_code q h (scope_at s))) due (with_slot (holds h ty) s) false (with_slot (holds h ty) s)) (sym l.is) (found l.at (subst (λ q. set_is_well_typed fs env q ty x) l.is su).0 (place_of l.at.name.0 (scope_at s)) refl)

  store_code_runs : {p h : ℕ} {due : Bool} {s : Stand} {env : Env} (q : Expr) (ty x : Ty) → is_local q ≡ true → set_is_well_typed fs env q ty x → y.is_copy ty ≡ true → Stands k env h s
      → Runs k p (store_code q h (scope_at s)) (marked due (with_slot (holds h ty) s) (store_code q h (scope_at s))) due (with_slot (holds h ty) s) false s
  store_code_runs {p} {h} {due} {s} {env} q ty x is su copy st = by (local_at q is) su
    where
      found : (n : NameAt) → IsLocal env n ty → (o : Option ℕ) → place_of n.name.0 (scope_at s) ≡ o → Runs k p (store o h) (marked due (with_slot (holds h ty) s) (store o h)) due (with_slot (holds h ty) s) false s
      found n l None e = let z = (typed_as l st).found in absurd (cc)
      found n l (Some r) e =
          let pl = typed_as l st in
          let same : pl.register ≡ r = (let z = pl.found in cc) in
          store_runs k r h (code_type ty) (copies_too ty copy) (type_here k (holds h ty) s h refl) (says_slot k (holds h ty) st.below) (subst (λ r. type_at k.last s r ≡ Some (code_type ty)) same (pl.typed ∙ ap (λ z. Some (code_type z)) l.typed))

      by : LocalAt q → set_is_well_typed fs env q ty x → Runs k p (store_code q h (scope_at s)) (marked due (with_slot (holds h ty) s) (store_code q h (scope_at s))) due (with_slot (holds h ty) s) false s
      by l su = subst (λ q. Runs k p (store_code q h (scope_at s)) (marked due (with_slot (holds h ty) s) (store_code q h (scope_at s))) due (with_slot (holds h ty) s) false s) (sym l.is) (found l.at (subst (λ q. set_is_well_typed fs env q ty x) l.is su).0 (place_of l.at.name.0 (scope_at s)) refl)

  -- a local is read
  load_runs : {p h : ℕ} {due : Bool} {s : Stand} {env : Env} (n : NameAt) (x : Ty) → IsLocal env n x → Stands k env h s
      → Runs k p (only_if (y.is_copy x) h (load (place_of n.name.0 (scope_at s)) h)) (mark due s ∷ []) due s false (given (y.is_copy x) h x s)
  load_runs {p} {h} {due} {s} {env} n x l st = as_given k (y.is_copy x) h x copy (chosen k (y.is_copy x) h copy (found (place_of n.name.0 (scope_at s)) refl))
    where
      copy : y.is_copy x ≡ true
      copy = ap y.is_copy (sym l.typed) ∙ (typed_as l st).copy

      found : (o : Option ℕ) → place_of n.name.0 (scope_at s) ≡ o → Runs k p (load o h) (mark due s ∷ []) due s false (with_slot (holds h x) s)
      found None e = let z = (typed_as l st).found in absurd (cc)
      found (Some r) e =
          let pl = typed_as l st in
          let same : pl.register ≡ r = (let z = pl.found in cc) in
          copy_runs k (holds h x) r (copies_too x copy) (subst (λ r. type_at k.last s r ≡ Some (code_type x)) same (pl.typed ∙ ap (λ z. Some (code_type z)) l.typed)) (says_same k s)

  -- a text of the code
  quote_runs : {p h : ℕ} {due : Bool} {s : Stand} (text : List ℕ) → is_lawful_text text ≡ true → Among (text ∷ []) a.texts → Runs k p (i.Text h (number_of_text text a.texts) ∷ []) (mark due s ∷ []) due s false (with_slot (holds h y.str) s)
  quote_runs {p} {h} {due} {s} text lawful among =
      text_runs k h (number_of_text text a.texts) (slice_get_within k.code.texts (number_of_text text a.texts) text there)
      (ap is_short there ∙ (and_parts (nat_le (length text) text_limit) (list_all is_byte text) lawful).0)
    where
      there : slice_get k.code.texts (number_of_text text a.texts) ≡ Some text
      there =
          let found = among.each 0 text refl in
          ap (λ ts. slice_get ts (number_of_text text a.texts)) (sym c.texts) ∙ found_text text a.texts found.0 found.1

  below_truth : (b : Bool) → truth_number b < 2
  below_truth true = omega arith
  below_truth false = omega arith

  given_behind : (b : Bool) (h : ℕ) (x : Ty) (s : Stand) (r : Bool) → Says k (given b h x (behind r s)) (given b h x s)
  given_behind b h x s r = says_given k b h x (says_behind k s r)

  -- ---- the shapes of the goals

  abbrev pub NodeRuns : Ty → Node → ℕ → ℕ → Stand → Bool → Type 0
  NodeRuns x node p h s due =
      Runs k p (node_code a (y.is_copy x) node p h (scope_at s)) (node_marks a (y.is_copy x) node h s due) due s (node_due (y.is_copy x) node) (given (y.is_copy x) h x (behind (node_returns node) s))

  abbrev pub ValueRuns : Expr → ℕ → ℕ → Stand → Bool → Type 0
  ValueRuns e p h s due = Runs k p (value_code a e p h (scope_at s)) (value_marks a e h s due) due s (value_due e) (with_slot (holds h (type e)) (behind (expr_returns e) s))

  abbrev pub BlockRuns : Bool → Ty → Block → ℕ → ℕ → ℕ → Stand → Bool → Type 0
  BlockRuns gives x b p to h s due = Runs k p (block_code a gives b p to h (scope_at s)) (block_marks a gives b h s due) due s (block_due a.gives gives b due) (given gives to x (behind (block_returns b) s))

  abbrev elses_due : Bool → Elses → Bool → Bool
  elses_due gives no_else due = due
  elses_due gives (otherwise b) due = block_due a.gives gives b due
  elses_due gives (more_elses e es) due = true

  as_value : (x : y.Seen) (node : Node) (p h : ℕ) (s : Stand) (due : Bool) → y.is_copy x.value ≡ true → NodeRuns x.value node p h s due → ValueRuns (expr x node) p h s due
  as_value x node p h s due copy r =
      runs_due k (ap (λ b. b && node_due (y.is_copy x.value) node) (sym copy))
      (chosen_too k (y.is_copy x.value) h copy
      (runs_less k r (subst (λ b. Says k (given b h x.value (behind (node_returns node) s)) (with_slot (holds h x.value) (behind (node_returns node) s))) (sym copy) (says_same k (with_slot (holds h x.value) (behind (node_returns node) s))))))

  -- a value whose function may have returned, where that doesn't matter
  plain_value : (e : Expr) {p h : ℕ} {s : Stand} {due : Bool} → ValueRuns e p h s due → Runs k p (value_code a e p h (scope_at s)) (value_marks a e h s due) due s (value_due e) (with_slot (holds h (type e)) s)
  plain_value e {p} {h} {s} r = runs_less k r (says_with k (holds h (type e)) (holds h (type e)) refl refl (says_behind k s (expr_returns e)))

  -- one condition with its two sides
  sides : (e : Expr) {cs ds : List Instr} {ms ns : Marks} {p h : ℕ} {s : Stand} {due d1 d2 : Bool} (z x : Ty) → z ≡ x → (r1 r2 : Bool) → type e ≡ y.bool → Below k h s → ValueRuns e p h s due
      → Runs k (p + length (value_code a e p h (scope_at s)) + 1) cs ms false s d1 (given (y.is_copy x) h x (behind r1 s))
      → Runs k (p + length (value_code a e p h (scope_at s)) + 1 + length cs + 1) ds ns true s d2 (given (y.is_copy x) h x (behind r2 s))
      → Runs k p (value_code a e p h (scope_at s) ++ (i.Unless h (p + length (value_code a e p h (scope_at s)) + 1 + length cs + 1) ∷ (cs ++ (i.Jump (p + length (value_code a e p h (scope_at s)) + 1 + length cs + 1 + length ds) ∷ ds))))
      (value_marks a e h s due ++ (mark (value_due e) (with_slot (holds h (type e)) s) ∷ (ms ++ (mark d1 (given (y.is_copy x) h z (behind r1 s)) ∷ ns)))) due s true (given (y.is_copy x) h x (behind (r1 && r2) s))
  sides e {cs} {ds} {ms} {ns} {p} {h} {s} {due} {d1} {d2} z x same r1 r2 is b test one other =
      subst (λ z. Runs k p (value_code a e p h (scope_at s) ++ (i.Unless h (p + length (value_code a e p h (scope_at s)) + 1 + length cs + 1) ∷ (cs ++ (i.Jump (p + length (value_code a e p h (scope_at s)) + 1 + length cs + 1 + length ds) ∷ ds))))
      (value_marks a e h s due ++ (mark (value_due e) (with_slot (holds h (type e)) s) ∷ (ms ++ (mark d1 (given (y.is_copy x) h z (behind r1 s)) ∷ ns)))) due s true (given (y.is_copy x) h x (behind (r1 && r2) s))) (sym same)
      (if_runs k h (plain_value e test) (type_here k (holds h (type e)) s h refl ∙ ap (λ z. Some (code_type z)) is) one other
      (says_slot k (holds h (type e)) b) (says_slot k (holds h (type e)) b)
      (says_then k (says_ungiven k (y.is_copy x) h x (below_behind k r1 b)) (says_behind k s r1))
      (says_given k (y.is_copy x) h x (says_returns k s r1 (r1 && r2) (λ q. (and_parts r1 r2 q).0)))
      (says_given k (y.is_copy x) h x (says_returns k s r2 (r1 && r2) (λ q. (and_parts r1 r2 q).1))))

  -- ---- parts of the mutual induction

  expr_type_served : (e : Expr) → expr_is_served e ≡ true → type_is_served (type e) ≡ true
  expr_type_served (expr x node) cov = (and_parts (type_is_served x.value) (node_is_served node) cov).0

  types_served : (es : Exprs) → exprs_are_served es ≡ true → list_all type_is_served (types es) ≡ true
  types_served no_exprs cov = refl
  types_served (more_exprs e es) cov =
      let w = and_parts (expr_is_served e) (exprs_are_served es) cov in
      and_from _ _ (expr_type_served e w.0) (types_served es w.1)

  first_copy : (env : Env) (ty x : Ty) (ls : Links) → links_are_well_typed fs env ty x ls → type_is_served ty ≡ true → y.is_copy ty ≡ true
  first_copy env ty x no_links su cov = covered_copy ty cov su.1
  first_copy env ty x (more_links (link sn at op e) ls) su cov = (operands_copy op ty (type e) su.0).first_copy

  last_copy : (env : Env) (ty x : Ty) (ls : Links) → links_are_well_typed fs env ty x ls → y.is_copy ty ≡ true → y.is_copy x ≡ true
  last_copy env ty x no_links su copy = ap y.is_copy su.0 ∙ copy
  last_copy env ty x (more_links (link sn at op e) ls) su copy = last_copy env sn.value x ls su.3 (ap y.is_copy su.1 ∙ gives_copy op ty copy)

  block_same : (env : Env) (x : Ty) (b : Block) → block_is_well_typed fs env x b → block_type b ≡ x
  block_same env x (block at end z ss) su = su.0

  set_copy : {env : Env} {h : ℕ} {s : Stand} (q : Expr) (ty x : Ty) → is_local q ≡ true → set_is_well_typed fs env q ty x → Stands k env h s → (y.is_copy ty ≡ true) × (x ≡ ty)
  set_copy {env} {h} {s} q ty x is su st = by (local_at q is)
    where
      by : LocalAt q → (y.is_copy ty ≡ true) × (x ≡ ty)
      by l = let w = subst (λ q. set_is_well_typed fs env q ty x) l.is su in (ap y.is_copy (sym w.0.typed) ∙ (typed_as w.0 st).copy, w.1)

  -- a block's last expression
  last_runs : (g : Bool) (x : Ty) (e : Expr) (p to h : ℕ) (s o : Stand) (due : Bool) → y.is_copy x ≡ g → type e ≡ x → Within k s o → Below k h s
      → (y.is_copy (type e) ≡ true → ValueRuns e p h s due)
      → Runs k p (expr_code a e p h (scope_at s)) (expr_marks a e h s due) due s (expr_due e) (given (y.is_copy (type e)) h (type e) (behind (expr_returns e) s))
      → Runs k p (stmts_code a g (last e) p to h (scope_at s)) (stmts_marks a g (last e) h s due) due s (stmts_due a.gives g (last e) due) (given g to x (behind (expr_returns e) o))
  last_runs true x e p to h s o due is same w b value whole =
      both k (value (ap y.is_copy same ∙ is))
      (copy_runs k (holds to x) h (copies_too x is) (type_here k (holds h (type e)) (behind (expr_returns e) s) h refl ∙ ap (λ z. Some (code_type z)) same)
      (says_then k (says_slot k (holds h (type e)) (below_behind k (expr_returns e) b)) (says_within k (within_behind k (expr_returns e) w))))
  last_runs false x e p to h s o due is same w b value whole =
      let none : y.is_copy (type e) ≡ false = ap y.is_copy same ∙ is in
      let yes : agree false (y.is_copy (type e)) ≡ true = ap (agree false) none in
      runs_due k (ap (λ b. b && expr_due e) (sym yes))
      (chosen_too k (agree false (y.is_copy (type e))) h yes
      (runs_less k whole
      (says_then k (says_ungiven k (y.is_copy (type e)) h (type e) (below_behind k (expr_returns e) b)) (says_within k (within_behind k (expr_returns e) w)))))

  -- a statement and those after it
  step_then : {ca cb : List Instr} {ma mb : Marks} {p : ℕ} {s : Stand} (o : Stand) {due d1 d2 : Bool} (g : Bool) (to : ℕ) (x : Ty) (r1 r2 : Bool) → Runs k p ca ma due s d1 (behind r1 s)
      → Runs k (p + length ca) cb mb d1 (behind r1 s) d2 (given g to x (behind r2 (behind r1 o))) → Runs k p (ca ++ cb) (ma ++ mb) due s d2 (given g to x (behind (r1 || r2) o))
  step_then o g to x r1 r2 one more = runs_less k (both k one more) (says_given k g to x (says_both k o r1 r2))

  -- a statement that declares nothing
  abbrev simple : Stmt → Bool
  simple (declare n x e) = false
  simple (destructure at ns xs e) = false
  simple _ = true

  -- a value that isn't used
  unuse : {cs : List Instr} {ms : Marks} {p h : ℕ} {s : Stand} {due d : Bool} (r : Bool) (x : Ty) → Below k h s → Runs k p cs ms due s d (given (y.is_copy x) h x (behind r s)) → Runs k p cs ms due s d (behind r s)
  unuse {h = h} r x b run = runs_less k run (says_ungiven k (y.is_copy x) h x (below_behind k r b))

  returns_value : {p h : ℕ} {s : Stand} {due : Bool} (e : Expr) → type e ≡ k.result → y.is_void k.result ≡ false → Below k h s → ValueRuns e p h s due
      → Runs k p (only_if a.gives h (value_code a e p h (scope_at s) ++ (i.Ret h ∷ []))) (only_marks a.gives due s (value_marks a e h s due ++ (mark (value_due e) (with_slot (holds h (type e)) s) ∷ []))) due s a.gives (behind true s)
  returns_value {p} {h} {s} {due} e same some b value =
      let copy = covered_copy k.result c.covered some in
      let gives = c.gives ∙ copy in
      runs_due k (sym gives)
      (chosen_too k a.gives h gives
      (runs_less k
      (both k (plain_value e value) (ret_runs k (type_here k (holds h (type e)) s h refl ∙ ap (λ z. Some (code_type z)) same ∙ ap Some (sym c.result_is))))
      (says_slot k (holds h (type e)) (below_behind k true b))))

  returns_nothing : {p : ℕ} (h : ℕ) {s : Stand} {due : Bool} → k.result ≡ y.void → Runs k p (only_if (agree a.gives false) h (i.RetVoid ∷ [])) (mark due s ∷ []) due s (agree a.gives false) (behind true s)
  returns_nothing {p} h {s} {due} is =
      let gives : agree a.gives false ≡ true = ap (λ g. agree g false) (c.gives ∙ ap y.is_copy is) in
      runs_due k (sym gives) (chosen k (agree a.gives false) h gives (void_runs k (c.result_is ∙ ap code_type is)))

  -- a loop over numbers, from the runs of its body
  module _ (n : NameAt) (at : Spot) (x z : Ty) (is_x : x ≡ y.int) (is_z : z ≡ y.int) (h : ℕ) (s : Stand) (b : Below k h s) where
    abbrev r : ℕ
    r = h + 1 + 1

    abbrev u : Stand
    u = counted x z h s

    has_h : type_at k.last u h ≡ Some t.Int
    has_h = first_of k h s x z ∙ ap (λ q. Some (code_type q)) is_x

    has_end : type_at k.last u (h + 1) ≡ Some t.Int
    has_end = second_of k h s x z ∙ ap (λ q. Some (code_type q)) is_z

    below_u : Below k r u
    below_u = below_two k x z b

    -- the counter rises
    rises : {p : ℕ} {due : Bool} (ret : Bool) → Runs k p (i.Int r (pos 1) ∷ i.Add h h r at ∷ []) (mark due (behind ret u) ∷ None ∷ []) due (behind ret u) false (behind ret u)
    rises {p} {due} ret =
        runs_less k
        (both k {a = i.Int r (pos 1) ∷ []} {b = i.Add h h r at ∷ []} {ma = mark due v ∷ []} {mb = mark false (with_slot (holds r y.int) v) ∷ []}
        (int_runs k r (pos 1))
        (add_runs k h h r at ((says_slot k (holds r y.int) below_v).each h t.Int has_v) (type_here k (holds r y.int) v r refl) (says_slot k (holds r y.int) below_v)))
        (says_again k (holds h y.int) v has_v)
      where
        v : Stand
        v = behind ret u

        below_v : Below k r (behind ret u)
        below_v = below_behind k ret below_u

        has_v : type_at k.last (behind ret u) h ≡ Some t.Int
        has_v = (says_behind k u ret).each h t.Int has_h

    count_runs : (body : ℕ → List Instr) {bm : Marks} {p : ℕ} {due d : Bool} (ret : Bool) → Runs k (p + 1 + 2 + 1) (body (p + 1 + 2 + 1)) bm false (with_slot (local n.name.0 r y.int) u) d (behind ret (with_slot (local n.name.0 r y.int) u))
        → Runs k p (count_code p h at body) (count_marks due u bm d (behind ret u) (with_slot (holds r y.bool) u)) due u true s
    count_runs body {bm} {p} {due} {d} ret run =
        runs_less k
        (both k {a = i.Sub r h h at ∷ []} {ma = mark due u ∷ []}
        (runs_less k (sub_runs k r h h at has_h has_h (says_same k u)) (says_slot k (holds r y.int) below_u))
        (loop_runs k r false turn test (type_here k (holds r y.bool) u r refl) (says_behind k u ret) (says_slot k (holds r y.bool) below_u)))
        (says_two k x z b)
      where
        turn : Runs k (p + 1 + 2) (i.Copy r h ∷ (body (p + 1 + 2 + 1) ++ (i.Int r (pos 1) ∷ i.Add h h r at ∷ []))) (None ∷ (bm ++ (mark d (behind ret u) ∷ None ∷ []))) false u false (behind ret u)
        turn =
            both k {a = i.Copy r h ∷ []} {ma = mark false u ∷ []}
            (copy_runs k (local n.name.0 r y.int) h refl has_h (says_same k u))
            (both k (runs_less k run (says_slot k (local n.name.0 r y.int) (below_behind k ret below_u))) (rises ret))

        test : {q : ℕ} → Runs k q (i.Cmp r 2 h (h + 1) ∷ []) (Some u ∷ []) true u false (with_slot (holds r y.bool) u)
        test = cmp_runs k r 2 h (h + 1) t.Int (omega arith) refl refl has_h has_end (says_same k u)

  -- ---- each part

  among_three : (a1 b1 c1 : List (List ℕ)) → Among (a1 ++ b1 ++ c1) a.texts → Among a1 a.texts × Among b1 a.texts × Among c1 a.texts
  among_three a1 b1 c1 q = let f = among_front (a1 ++ b1) c1 q in (among_front a1 b1 f, among_back a1 b1 f, among_back (a1 ++ b1) c1 q)

  mutual
    pub expr_runs : (env : Env) (e : Expr) (p h : ℕ) (s : Stand) (due : Bool) → expr_is_well_typed fs env e → expr_is_served e ≡ true → Among (expr_quotes e) a.texts → Stands k env h s
        → Runs k p (expr_code a e p h (scope_at s)) (expr_marks a e h s due) due s (expr_due e) (given (y.is_copy (type e)) h (type e) (behind (expr_returns e) s))
    expr_runs env (expr x node) p h s due su cov q st =
        let w = and_parts (type_is_served x.value) (node_is_served node) cov in node_runs env x.value node p h s due su w.0 w.1 q st

    pub value_runs : (env : Env) (e : Expr) (p h : ℕ) (s : Stand) (due : Bool) → y.is_copy (type e) ≡ true → expr_is_well_typed fs env e → expr_is_served e ≡ true → Among (expr_quotes e) a.texts → Stands k env h s → ValueRuns e p h s due
    value_runs env (expr x node) p h s due copy su cov q st =
        let w = and_parts (type_is_served x.value) (node_is_served node) cov in as_value x node p h s due copy (node_runs env x.value node p h s due su w.0 w.1 q st)

    node_runs : (env : Env) (x : Ty) (node : Node) (p h : ℕ) (s : Stand) (due : Bool) → node_is_well_typed fs env x node → type_is_served x ≡ true → node_is_served node ≡ true → Among (node_quotes node) a.texts → Stands k env h s → NodeRuns x node p h s due
    node_runs env x (number at n) p h s due su cx cov q st = subst (λ x. NodeRuns x (number at n) p h s due) (sym su.0) (chosen k (is_int n) h su.1 (int_runs k h n))
    node_runs env x (quote at text) p h s due su cx cov q st = subst (λ x. NodeRuns x (quote at text) p h s due) (sym su.0) (chosen k (is_lawful_text text) h su.1 (quote_runs text su.1 q))
    node_runs env x (truth at b) p h s due su cx cov q st = subst (λ x. NodeRuns x (truth at b) p h s due) (sym su) (truth_runs k h (truth_number b) (below_truth b))
    node_runs env x (name n is_outer true) p h s due su cx cov q st = absurd (cc)
    node_runs env x (name n is_outer false) p h s due su cx cov q st = load_runs n x su st
    node_runs env x (paren at e) p h s due su cx cov q st =
        let same = agree_with_itself (y.is_copy (type e)) in
        subst (λ x. NodeRuns x (paren at e) p h s due) (sym su.0)
        (runs_due k (ap (λ b. b && expr_due e) (sym same))
        (chosen_too k (agree (y.is_copy (type e)) (y.is_copy (type e))) h same
        (runs_less k (expr_runs env e p h s due su.1 cov q st) (given_behind (y.is_copy (type e)) h (type e) s (expr_returns e)))))
    node_runs env x (chain e ls) p h s due su cx cov q st =
        let w = and_parts (expr_is_served e) (links_are_served ls) cov in
        let copy = first_copy env (type e) x ls su.1 (expr_type_served e w.0) in
        let gives = last_copy env (type e) x ls su.1 copy in
        as_given k (y.is_copy x) h x gives
        (runs_due k (ap (λ b. b && links_due ls (value_due e)) (sym gives))
        (chosen_too k (y.is_copy x) h gives
        (both k (plain_value e (value_runs env e p h s due copy su.0 w.0 (among_front (expr_quotes e) (links_quotes ls) q) st))
        (links_runs env (type e) x ls (p + length (value_code a e p h (scope_at s))) h s (value_due e) su.1 w.1 copy (among_back (expr_quotes e) (links_quotes ls) q) st))))
    node_runs env x (unary at op e) p h s due su cx cov q st =
        let w = and_parts (unary_is_served op) (expr_is_served e) cov in
        let copy = unary_copy op (type e) x w.0 su.0 in
        as_given k (y.is_copy x) h x copy.1
        (chosen_too k (y.is_copy x) h copy.1
        (both k (plain_value e (value_runs env e p h s due copy.0 su.1 w.1 q st)) (unary_runs k op (type e) x at w.0 su.0 st.below)))
    node_runs env x (set at l e) p h s due su cx cov q st =
        let w = and_parts (is_local l) (expr_is_served e) cov in
        let copy = set_copy l (type e) x w.0 su.0 st in
        subst (λ x. NodeRuns x (set at l e) p h s due) (sym copy.1)
        (as_given k (y.is_copy (type e)) h (type e) copy.0
        (chosen_too k (y.is_copy (type e)) h copy.0
        (both k (plain_value e (value_runs env e p h s due copy.0 su.1 w.1 q st)) (set_code_runs l (type e) x w.0 su.0 copy.0 st))))
    node_runs env x (call n (built_in f) es) p h s due su cx cov q st =
        let w = and_parts (callee_is_served (built_in f)) (exprs_are_served es) cov in
        let tys = types_served es w.1 in
        both k (args_runs env es p h s due su.1 w.1 (built_in_copies f (types es) w.0 tys su.0.taken) q st)
        (built_in_runs k n.at (p + length (args_code a es p h (scope_at s))) h s (args_due es due) st.below f es x w.0 tys su.0)
    node_runs env x (call n constructor es) p h s due su cx cov q st = absurd (cc)
    node_runs env x (call n (function is_pure) es) p h s due su cx cov q st =
        let w = and_parts (callee_is_served (function is_pure)) (exprs_are_served es) cov in
        both k (args_runs env es p h s due su.1 w.1 (args_copy k c n es x su.0) q st)
        (call_runs k c n es x (p + length (args_code a es p h (scope_at s))) h s (args_due es due) su.0 st.below)
    node_runs env x (form f) p h s due su cx cov q st = form_runs env x f p h s due su cov q st
    node_runs env x (steps e ss) p h s due su cx cov q st = absurd (cc)
    node_runs env x (array at z es) p h s due su cx cov q st = absurd (cc)
    node_runs env x (iso at b) p h s due su cx cov q st = absurd (cc)

    args_runs : (env : Env) (es : Exprs) (p h : ℕ) (s : Stand) (due : Bool) → exprs_are_well_typed fs env es → exprs_are_served es ≡ true → list_all y.is_copy (types es) ≡ true → Among (exprs_quotes es) a.texts → Stands k env h s
        → Runs k p (args_code a es p h (scope_at s)) (args_marks a es h s due) due s (args_due es due) (with_args es h s)
    args_runs env no_exprs p h s due su cov copy q st = nothing k p due s
    args_runs env (more_exprs e es) p h s due su cov copy q st =
        let w = and_parts (expr_is_served e) (exprs_are_served es) cov in
        let o = and_parts (y.is_copy (type e)) (list_all y.is_copy (types es)) copy in
        both k
        (runs_less k (value_runs env e p h s due o.0 su.0 w.0 (among_front (expr_quotes e) (exprs_quotes es) q) st)
        (says_with k (holds h (type e)) (waits h (type e)) refl refl (says_behind k s (expr_returns e))))
        (args_runs env es (p + length (value_code a e p h (scope_at s))) (h + 1) (with_slot (waits h (type e)) s) (value_due e) su.1 w.1 o.1 (among_back (expr_quotes e) (exprs_quotes es) q) (stands_waits k (type e) st))

    links_runs : (env : Env) (ty x : Ty) (ls : Links) (p h : ℕ) (s : Stand) (due : Bool) → links_are_well_typed fs env ty x ls → links_are_served ls ≡ true → y.is_copy ty ≡ true → Among (links_quotes ls) a.texts → Stands k env h s
        → Runs k p (links_code a ls p h (scope_at s)) (links_marks a ty ls h s due) due (with_slot (holds h ty) s) (links_due ls due) (with_slot (holds h x) s)
    links_runs env ty x no_links p h s due su cov copy q st =
        subst (λ x. Runs k p [] [] due (with_slot (holds h ty) s) due (with_slot (holds h x) s)) (sym su.0) (nothing k p due (with_slot (holds h ty) s))
    links_runs env ty x (more_links (link sn at op e) ls) p h s due su cov copy q st =
        let w = and_parts (expr_is_served e) (links_are_served ls) cov in
        let second = (operands_copy op ty (type e) su.0).second_copy in
        let qe = among_front (expr_quotes e) (links_quotes ls) q in
        both k
        (link_runs k a env e (λ p h s due st. value_runs env e p h s due second su.2 w.0 qe st) p h s due st op ty sn.value at su.0 su.1)
        (links_runs env sn.value x ls (p + length (link_code op sn.value at (λ place h. value_code a e place h (scope_at s)) p h)) h s (link_due op) su.3 w.1 (ap y.is_copy su.1 ∙ gives_copy op ty copy) (among_back (expr_quotes e) (links_quotes ls) q) st)

    form_runs : (env : Env) (x : Ty) (f : Form) (p h : ℕ) (s : Stand) (due : Bool) → form_is_well_typed fs env x f → form_is_served f ≡ true → Among (form_quotes f) a.texts → Stands k env h s
        → Runs k p (form_code a (y.is_copy x) f p h (scope_at s)) (form_marks a (y.is_copy x) f h s due) due s (form_due f) (given (y.is_copy x) h x (behind (form_returns f) s))
    form_runs env x (branch at e b es) p h s due su cov q st =
        let w = and_parts (expr_is_served e && block_is_served b) (elses_are_served es) cov in
        let v = and_parts (expr_is_served e) (block_is_served b) w.0 in
        let qs = among_three (expr_quotes e) (block_quotes b) (elses_quotes es) q in
        let p1 = p + length (value_code a e p h (scope_at s)) + 1 in
        let p2 = p1 + length (block_code a (y.is_copy x) b p1 h (h + 1) (scope_at s)) + 1 in
        sides e (block_type b) x (block_same env x b su.2) (block_returns b) (elses_return es) su.0 st.below
        (value_runs env e p h s due (ap y.is_copy su.0) su.1 v.0 qs.0 st)
        (block_runs env x b p1 h (h + 1) s false su.2 v.1 qs.1 (stands_up k (omega arith) st))
        (elses_runs env x es p2 h s true su.3 w.1 qs.2 st)
    form_runs env x (pure at b) p h s due su cov q st = absurd (cc)
    form_runs env x (parallel_range at n e f b) p h s due su cov q st = absurd (cc)
    form_runs env x (parallel_each at n e b) p h s due su cov q st = absurd (cc)

    elses_runs : (env : Env) (x : Ty) (es : Elses) (p h : ℕ) (s : Stand) (due : Bool) → elses_are_well_typed fs env x es → elses_are_served es ≡ true → Among (elses_quotes es) a.texts → Stands k env h s
        → Runs k p (elses_code a (y.is_copy x) es p h (scope_at s)) (elses_marks a (y.is_copy x) es h s due) due s (elses_due (y.is_copy x) es due) (given (y.is_copy x) h x (behind (elses_return es) s))
    elses_runs env x no_else p h s due su cov q st =
        subst (λ x. Runs k p (elses_code a (y.is_copy x) no_else p h (scope_at s)) (elses_marks a (y.is_copy x) no_else h s due) due s due (given (y.is_copy x) h x s)) (sym su) (nothing k p due s)
    elses_runs env x (otherwise b) p h s due su cov q st = block_runs env x b p h (h + 1) s due su cov q (stands_up k (omega arith) st)
    elses_runs env x (more_elses (else_if at e b) es) p h s due su cov q st =
        let w = and_parts (expr_is_served e && block_is_served b) (elses_are_served es) cov in
        let v = and_parts (expr_is_served e) (block_is_served b) w.0 in
        let qs = among_three (expr_quotes e) (block_quotes b) (elses_quotes es) q in
        let p1 = p + length (value_code a e p h (scope_at s)) + 1 in
        let p2 = p1 + length (block_code a (y.is_copy x) b p1 h (h + 1) (scope_at s)) + 1 in
        sides e (block_type b) x (block_same env x b su.2) (block_returns b) (elses_return es) su.0 st.below
        (value_runs env e p h s due (ap y.is_copy su.0) su.1 v.0 qs.0 st)
        (block_runs env x b p1 h (h + 1) s false su.2 v.1 qs.1 (stands_up k (omega arith) st))
        (elses_runs env x es p2 h s true su.3 w.1 qs.2 st)

    pub block_runs : (env : Env) (x : Ty) (b : Block) (p to h : ℕ) (s : Stand) (due : Bool) → block_is_well_typed fs env x b → block_is_served b ≡ true → Among (block_quotes b) a.texts → Stands k env h s → BlockRuns (y.is_copy x) x b p to h s due
    block_runs env x (block at end z ss) p to h s due su cov q st = stmts_runs env x ss p to h s s due su.1 cov q (within_same k st.below) st

    stmts_runs : (env : Env) (x : Ty) (ss : Stmts) (p to h : ℕ) (s o : Stand) (due : Bool) → stmts_are_well_typed fs env x ss → stmts_are_served ss ≡ true → Among (stmts_quotes ss) a.texts → Within k s o → Stands k env h s
        → Runs k p (stmts_code a (y.is_copy x) ss p to h (scope_at s)) (stmts_marks a (y.is_copy x) ss h s due) due s (stmts_due a.gives (y.is_copy x) ss due) (given (y.is_copy x) to x (behind (stmts_return ss) o))
    stmts_runs env x no_stmts p to h s o due su cov q w st =
        subst (λ x. Runs k p (stmts_code a (y.is_copy x) no_stmts p to h (scope_at s)) (stmts_marks a (y.is_copy x) no_stmts h s due) due s (stmts_due a.gives (y.is_copy x) no_stmts due) (given (y.is_copy x) to x o)) (sym su)
        (runs_less k (nothing k p due s) (says_within k w))
    stmts_runs env x (last e) p to h s o due su cov q w st =
        last_runs (y.is_copy x) x e p to h s o due refl su.0 w st.below (λ copy. value_runs env e p h s due copy su.1 cov q st) (expr_runs env e p h s due su.1 cov q st)
    stmts_runs env x (more_stmts (declare n z e) ss) p to h s o due su cov q w st =
        let v = and_parts (expr_is_served e) (stmts_are_served ss) cov in
        let copy : y.is_copy (type e) ≡ true = covered_copy (type e) (expr_type_served e v.0) (ap y.is_void (sym su.0.0) ∙ su.0.1) in
        both k
        (runs_less k (value_runs env e p h s due copy su.0.2 v.0 (among_front (expr_quotes e) (stmts_quotes ss) q) st)
        (says_with k (holds h (type e)) (local n.name.0 h z) refl (sym su.0.0) (says_behind k s (expr_returns e))))
        (stmts_runs (with_local n z env) x ss (p + length (value_code a e p h (scope_at s))) to (h + 1) (with_slot (local n.name.0 h z) s) o (value_due e) su.1 v.1 (among_back (expr_quotes e) (stmts_quotes ss) q)
        (within_slot k (local n.name.0 h z) st.below w) (stands_local k n z (ap y.is_copy su.0.0 ∙ copy) st))
    stmts_runs env x (more_stmts (destructure at ns zs e) ss) p to h s o due su cov q w st = absurd (cc)
    stmts_runs env x (more_stmts (return_nothing at) ss) p to h s o due su cov q w st =
        let v = and_parts (stmt_is_served (return_nothing at)) (stmts_are_served ss) cov in
        step_then o (y.is_copy x) to x true (stmts_return ss) (stmt_runs env (return_nothing at) p h s due refl su.0 v.0 (among_front (stmt_quotes (return_nothing at)) (stmts_quotes ss) q) st)
        (stmts_runs env x ss (p + length (stmt_code a (return_nothing at) p h (scope_at s))) to h (behind true s) (behind true o) (stmt_due a.gives (return_nothing at)) su.1 v.1 (among_back (stmt_quotes (return_nothing at)) (stmts_quotes ss) q) (within_behind k true w) (stands_behind k true st))
    stmts_runs env x (more_stmts (return_value at e) ss) p to h s o due su cov q w st =
        let v = and_parts (stmt_is_served (return_value at e)) (stmts_are_served ss) cov in
        step_then o (y.is_copy x) to x true (stmts_return ss) (stmt_runs env (return_value at e) p h s due refl su.0 v.0 (among_front (stmt_quotes (return_value at e)) (stmts_quotes ss) q) st)
        (stmts_runs env x ss (p + length (stmt_code a (return_value at e) p h (scope_at s))) to h (behind true s) (behind true o) (stmt_due a.gives (return_value at e)) su.1 v.1 (among_back (stmt_quotes (return_value at e)) (stmts_quotes ss) q) (within_behind k true w) (stands_behind k true st))
    stmts_runs env x (more_stmts (while at e b) ss) p to h s o due su cov q w st =
        let v = and_parts (stmt_is_served (while at e b)) (stmts_are_served ss) cov in
        step_then o (y.is_copy x) to x false (stmts_return ss) (stmt_runs env (while at e b) p h s due refl su.0 v.0 (among_front (stmt_quotes (while at e b)) (stmts_quotes ss) q) st)
        (stmts_runs env x ss (p + length (stmt_code a (while at e b) p h (scope_at s))) to h (behind false s) (behind false o) true su.1 v.1 (among_back (stmt_quotes (while at e b)) (stmts_quotes ss) q) (within_behind k false w) (stands_behind k false st))
    stmts_runs env x (more_stmts (foreach at n e f b) ss) p to h s o due su cov q w st =
        let v = and_parts (stmt_is_served (foreach at n e f b)) (stmts_are_served ss) cov in
        step_then o (y.is_copy x) to x false (stmts_return ss) (stmt_runs env (foreach at n e f b) p h s due refl su.0 v.0 (among_front (stmt_quotes (foreach at n e f b)) (stmts_quotes ss) q) st)
        (stmts_runs env x ss (p + length (stmt_code a (foreach at n e f b) p h (scope_at s))) to h (behind false s) (behind false o) true su.1 v.1 (among_back (stmt_quotes (foreach at n e f b)) (stmts_quotes ss) q) (within_behind k false w) (stands_behind k false st))
    stmts_runs env x (more_stmts (form_stmt f) ss) p to h s o due su cov q w st =
        let v = and_parts (stmt_is_served (form_stmt f)) (stmts_are_served ss) cov in
        step_then o (y.is_copy x) to x (form_returns f) (stmts_return ss) (stmt_runs env (form_stmt f) p h s due refl su.0 v.0 (among_front (stmt_quotes (form_stmt f)) (stmts_quotes ss) q) st)
        (stmts_runs env x ss (p + length (stmt_code a (form_stmt f) p h (scope_at s))) to h (behind (form_returns f) s) (behind (form_returns f) o) (form_due f) su.1 v.1 (among_back (stmt_quotes (form_stmt f)) (stmts_quotes ss) q) (within_behind k (form_returns f) w) (stands_behind k (form_returns f) st))
    stmts_runs env x (more_stmts (express e) ss) p to h s o due su cov q w st =
        let v = and_parts (stmt_is_served (express e)) (stmts_are_served ss) cov in
        step_then o (y.is_copy x) to x (expr_returns e) (stmts_return ss) (stmt_runs env (express e) p h s due refl su.0 v.0 (among_front (stmt_quotes (express e)) (stmts_quotes ss) q) st)
        (stmts_runs env x ss (p + length (stmt_code a (express e) p h (scope_at s))) to h (behind (expr_returns e) s) (behind (expr_returns e) o) (unused_due e) su.1 v.1 (among_back (stmt_quotes (express e)) (stmts_quotes ss) q) (within_behind k (expr_returns e) w) (stands_behind k (expr_returns e) st))

    stmt_runs : (env : Env) (x : Stmt) (p h : ℕ) (s : Stand) (due : Bool) → simple x ≡ true → stmt_is_well_typed fs env x → stmt_is_served x ≡ true → Among (stmt_quotes x) a.texts → Stands k env h s
        → Runs k p (stmt_code a x p h (scope_at s)) (stmt_marks a x h s due) due s (stmt_due a.gives x) (behind (stmt_returns x) s)
    stmt_runs env (declare n x e) p h s due si su cov q st = absurd (cc)
    stmt_runs env (destructure at ns xs e) p h s due si su cov q st = absurd (cc)
    stmt_runs env (return_nothing at) p h s due si su cov q st = returns_nothing h (sym st.gives ∙ su)
    stmt_runs env (return_value at e) p h s due si su cov q st =
        let same = su.0 ∙ st.gives in
        let some = ap y.is_void (sym st.gives) ∙ su.1 in
        returns_value e same some st.below (value_runs env e p h s due (ap y.is_copy same ∙ covered_copy k.result c.covered some) su.2 cov q st)
    stmt_runs env (while at e b) p h s due si su cov q st =
        let w = and_parts (expr_is_served e) (block_is_served b) cov in
        let body = block_code a false b (p + 2) h (h + 1) (scope_at s) in
        loop_runs k h due
        (block_runs env y.void b (p + 2) h (h + 1) s false su.2 w.1 (among_back (expr_quotes e) (block_quotes b) q) (stands_up k (omega arith) st))
        (plain_value e (value_runs env e (p + 2 + length body) h s true (ap y.is_copy su.0) su.1 w.0 (among_front (expr_quotes e) (block_quotes b) q) st))
        (type_here k (holds h (type e)) s h refl ∙ ap (λ z. Some (code_type z)) su.0) (says_behind k s (block_returns b)) (says_slot k (holds h (type e)) st.below)
    stmt_runs env (foreach at n e f b) p h s due si su cov q st =
        let w = and_parts (expr_is_served e && expr_is_served f) (block_is_served b) cov in
        let v = and_parts (expr_is_served e) (expr_is_served f) w.0 in
        let qs = among_three (expr_quotes e) (expr_quotes f) (block_quotes b) q in
        let p1 = p + length (value_code a e p h (scope_at s)) in
        let p2 = p1 + length (value_code a f p1 (h + 1) (scope_at s)) in
        both k (plain_value e (value_runs env e p h s due (ap y.is_copy su.0) su.2 v.0 qs.0 st))
        (both k (plain_value f (value_runs env f p1 (h + 1) (with_slot (holds h (type e)) s) (value_due e) (ap y.is_copy su.1) su.3 v.1 qs.1 (stands_holds k (type e) st)))
        (count_runs n at (type e) (type f) su.0 su.1 h s st.below (λ place. block_code a false b place h (h + 1 + 1 + 1) (scope_at (with_slot (local n.name.0 (h + 1 + 1) y.int) s))) (block_returns b)
        (block_runs (with_local n y.int env) y.void b (p2 + 1 + 2 + 1) h (h + 1 + 1 + 1) (with_slot (local n.name.0 (h + 1 + 1) y.int) (counted (type e) (type f) h s)) false su.4 w.1 qs.2
        (stands_local k n y.int refl (stands_holds k (type f) (stands_holds k (type e) st))))))
    stmt_runs env (form_stmt f) p h s due si su cov q st = form_runs env y.void f p h s due su cov q st
    stmt_runs env (express e) p h s due si su cov q st = unused_runs env e p h s due su cov q st

    unused_runs : (env : Env) (e : Expr) (p h : ℕ) (s : Stand) (due : Bool) → expr_is_well_typed fs env e → expr_is_served e ≡ true → Among (expr_quotes e) a.texts → Stands k env h s
        → Runs k p (unused_code a e p h (scope_at s)) (unused_marks a e h s due) due s (unused_due e) (behind (expr_returns e) s)
    unused_runs env (expr x (set at l e)) p h s due su cov q st =
        let o = and_parts (type_is_served x.value) (is_local l && expr_is_served e) cov in
        let w = and_parts (is_local l) (expr_is_served e) o.1 in
        let copy = set_copy l (type e) x.value w.0 su.0 st in
        both k (plain_value e (value_runs env e p h s due copy.0 su.1 w.1 q st)) (store_code_runs l (type e) x.value w.0 su.0 copy.0 st)
    unused_runs env (expr x (number at n)) p h s due su cov q st = let w = and_parts (type_is_served x.value) true cov in unuse (node_returns (number at n)) x.value st.below (node_runs env x.value (number at n) p h s due su w.0 refl q st)
    unused_runs env (expr x (quote at text)) p h s due su cov q st = let w = and_parts (type_is_served x.value) true cov in unuse (node_returns (quote at text)) x.value st.below (node_runs env x.value (quote at text) p h s due su w.0 refl q st)
    unused_runs env (expr x (truth at b)) p h s due su cov q st = let w = and_parts (type_is_served x.value) true cov in unuse (node_returns (truth at b)) x.value st.below (node_runs env x.value (truth at b) p h s due su w.0 refl q st)
    unused_runs env (expr x (name n is_outer moved)) p h s due su cov q st = let w = and_parts (type_is_served x.value) (node_is_served (name n is_outer moved)) cov in unuse (node_returns (name n is_outer moved)) x.value st.below (node_runs env x.value (name n is_outer moved) p h s due su w.0 w.1 q st)
    unused_runs env (expr x (paren at e)) p h s due su cov q st = let w = and_parts (type_is_served x.value) (node_is_served (paren at e)) cov in unuse (node_returns (paren at e)) x.value st.below (node_runs env x.value (paren at e) p h s due su w.0 w.1 q st)
    unused_runs env (expr x (chain e ls)) p h s due su cov q st = let w = and_parts (type_is_served x.value) (node_is_served (chain e ls)) cov in unuse (node_returns (chain e ls)) x.value st.below (node_runs env x.value (chain e ls) p h s due su w.0 w.1 q st)
    unused_runs env (expr x (unary at op e)) p h s due su cov q st = let w = and_parts (type_is_served x.value) (node_is_served (unary at op e)) cov in unuse (node_returns (unary at op e)) x.value st.below (node_runs env x.value (unary at op e) p h s due su w.0 w.1 q st)
    unused_runs env (expr x (call n f es)) p h s due su cov q st = let w = and_parts (type_is_served x.value) (node_is_served (call n f es)) cov in unuse (node_returns (call n f es)) x.value st.below (node_runs env x.value (call n f es) p h s due su w.0 w.1 q st)
    unused_runs env (expr x (form f)) p h s due su cov q st = let w = and_parts (type_is_served x.value) (node_is_served (form f)) cov in unuse (node_returns (form f)) x.value st.below (node_runs env x.value (form f) p h s due su w.0 w.1 q st)
    unused_runs env (expr x (steps e ss)) p h s due su cov q st = let w = and_parts (type_is_served x.value) false cov in absurd (let z = w.1 in cc)
    unused_runs env (expr x (array at z es)) p h s due su cov q st = let w = and_parts (type_is_served x.value) false cov in absurd (let z = w.1 in cc)
    unused_runs env (expr x (iso at b)) p h s due su cov q st = let w = and_parts (type_is_served x.value) false cov in absurd (let z = w.1 in cc)
