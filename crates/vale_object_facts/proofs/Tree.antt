-- The walk goes through the code of each part of a program whose types fit, where no instruction of it is one that no step follows.
use Rattle.std.proofs.Common.{◌≡◌, ℕ, ◌+◌, ◌<◌, ◌≤◌, List, [], ◌∷◌, ◌++◌, length, Some, Bool, true, false, ◌&&◌, if◌then◌else◌, refl, sym, ap, ◌∙◌, subst, arith}
use Rattle.std.specs.Prelude.{slice_get, nat_lt}
use Rattle.std.proofs.lemmas.Bool.{and_parts, ne_eqb}
use Rattle.std.proofs.lemmas.Option.{slice_get_within}
use Rattle.vale_base.specs.declared.spot.Spot.{Spot}
use Rattle.vale_syntax.specs.declared.tree.NameAt.{NameAt}
use Rattle.vale_syntax.specs.declared.tree.UnaryOp.TheVariants as unary_op
use Rattle.vale_text.specs.Operations.{is_int}
use Rattle.vale_base.specs.Limits.{text_limit}
use Rattle.std.specs.Prelude.{nat_le}
use Rattle.std.specs.List.{list_all}
use Rattle.vale_syntax.specs.Bytes.{is_byte}
use Rattle.vale_rules_spec.specs.Types.{Ty, View, Seen}
use Rattle.vale_rules_spec.specs.Types as y
use Rattle.vale_rules_spec.specs.Typed.{Form, branch, pure, parallel_range, parallel_each, else_if, Elses, no_else, otherwise, more_elses, Block, block, Stmt, declare, destructure, return_nothing, return_value, while, foreach, form_stmt, express, Stmts, no_stmts, last, more_stmts, Expr, expr, Node, set, chain, unary, steps, number, quote, truth, name, call, paren, array, iso, form, Function, Exprs, no_exprs, more_exprs, link, Links, no_links, more_links, Step, field, method, index, Steps, no_steps, more_steps, type, types, chain_seen, step_seen}
use Rattle.vale_rules_spec.specs.Typing.{Env, with_local as env_with_local, with_locals}
use Rattle.vale_model.specs.Expressions.{expr_spot, numbers_of}
use Rattle.vale_model.specs.Parts.{Parts}
use Rattle.vale_code.specs.Parts.{Parts as Code}
use Rattle.vale_code.specs.declared.instr.Instr.{Instr}
use Rattle.vale_code.specs.declared.instr.Instr.TheVariants as i
use Rattle.vale_cert.specs.Rules.{is_short}
use Rattle.vale_cert.specs.declared.facts.RegFact.TheVariants.{Empty}
use Rattle.vale_lowering.specs.Instructions.{only_if, unary_code, registers_from}
use Rattle.vale_lowering.specs.Scopes.{number_of_text}
use Rattle.vale_lowering.specs.Texts.{is_lawful_text}
use Rattle.vale_lowering_objects.specs.Lowered.{all_gives, locals_after, locals_code, count_code, then_code, if_comes, args_code, args_after, callee_code, make_code, gives_list, first_type, sides, hand, drop_value, store, drop_entry, drop_scope, form_code, elses_code, block_code, stmts_code, stmt_code, form_after, elses_after, block_after, stmts_after, stmt_after, moved_out, truth_number, expr_code, node_code, links_code, link_code, link_after, step_view, Origin, reference, load_element, swap_element, start_code, step_code, steps_code, place_code, targets_code, swap_code, expr_after, node_after, start_after, step_after, steps_after, place_after, targets_after, links_after}
use Rattle.vale_lowering_objects.specs.Changes.{step_changes}
use Rattle.vale_lowering_objects.specs.Scopes.{Gives, void, copy, owner, gives_of, is_value, agree, entry, waiting, find, Gone, is_gone, without, After, comes, never, then_after, met, may_meet, closes, Around}
use Rattle.vale_lowering_objects.specs.Program.{code_type}
use Rattle.vale_object_facts.specs.Slots.{local, waits, Stand, scope_at, with_gone, holding, given, with_local, with_waiting, slot_fact, fact_in}
use Rattle.vale_object_facts.specs.Stands.{Stands as Marks, with_args, args_stands, then_stands, comes_stands, sides_stands, hand_stands, drop_stands, store_stands, drop_local, leave_stands, form_stands, elses_stands, block_stands, stmts_stands, stmt_stands, unary_stands, expr_stands, node_stands, links_stands, link_stands, gone_of, lent, lent_last, start_stands, step_stands, steps_stands, place_stands, targets_stands, swap_stands, locals_stands, count_stands}
use Rattle.vale_object_facts.specs.Suits.{IsLocal, refers, start_suits, step_suits, steps_suit, place_suits, targets_suit, set_suits, exprs_suit, expr_suits, node_suits, links_suit, form_suits, elses_suit, block_suits, stmts_suit, stmt_suits}
use Rattle.vale_object_facts.proofs.Arguments.{args_gone, args_fall, args_wait}
use Rattle.vale_object_facts.proofs.Callees.{callee_runs, array_runs}
use Rattle.vale_object_facts.proofs.Counting.{counted, count_runs}
use Rattle.vale_object_facts.proofs.Covering.{Site, at as says_at, held as says_held, Says, says_same, says_holding, says_role, nothing_above, not_gone, holding_here, holding_there}
use Rattle.vale_object_facts.proofs.Leaving.{leaves_with, leaves}
use Rattle.vale_object_facts.proofs.Locals.{Named, named, Stands, none_at, free_at, stands_up, stands_gone, stands_holding, stands_waiting, stands_local, move_runs, load_runs}
use Rattle.vale_object_facts.proofs.Opening.{locals_alike, opens_run, locals_run}
use Rattle.vale_object_facts.proofs.Operators.{operands_plain, not_runs, minus_runs}
use Rattle.vale_object_facts.proofs.Parts.{value_some, copy_some, copy_value, copy_of, owner_of, owned_some, agree_is, chosen, as_given, as_value, says_still, next_free, link_runs, sides_go, turns_go}
use Rattle.vale_object_facts.proofs.Rows.{int_runs, truth_runs, text_runs}
use Rattle.vale_object_facts.proofs.Runs.{falls, ending, Runs, runs_less, runs_from, ends_less, both, nothing}
use Rattle.vale_object_facts.proofs.Sets.{exchange_runs, store_runs}
use Rattle.vale_object_facts.proofs.Cells.{Leads}
use Rattle.vale_object_facts.proofs.Starts.{From, stays, lies, Continues, Keeps, local_starts, lends_place}
use Rattle.vale_object_facts.proofs.Steps.{refers_is, refers_plain, unnamed_wait, field_steps, element_steps, field_sets, element_sets}
use Rattle.vale_object_facts.proofs.Waits.{expr_keeps, node_keeps, start_keeps, step_keeps}
use Rattle.vale_object_facts.proofs.Ways.{Clean, then_runs, then_runs_known, comes_runs, comes_stops, ending_none}
use Rattle.vale_object_facts.proofs.Scopes.{Fresh, fresh_slot, hand_runs, unused_runs, scope_ends}

-- what a function's body is lowered with
pub record Context (k : Site) : Type 0 where
  pub functions : List Function
  pub gives : Gives
  pub sort : gives ≡ gives_of k.result
  pub typed : k.func.result ≡ code_type k.parts k.result

abbrev pub around_of : (k : Site) → Context k → Around
around_of k c = record { parts = k.parts; texts = k.code.texts; functions = c.functions; gives = c.gives }

pub void_of : (x : Ty) → gives_of x ≡ void → x ≡ y.void
void_of y.void e = refl
void_of y.int e = absurd (cc)
void_of y.bool e = absurd (cc)
void_of y.str e = absurd (cc)
void_of (y.kind n) e = absurd (cc)
void_of (y.array x) e = absurd (cc)
void_of (y.ref x) e = absurd (cc)
void_of (y.imm x) e = absurd (cc)
void_of (y.iso x) e = absurd (cc)

-- the type of an operator's value
chain_type : (p : Parts) (code : Code) (functions : List Function) (env : Env) (t x : Ty) (ls : Links) (s : Seen) → s.value ≡ t → links_suit p code functions env t x ls → (chain_seen s ls).value ≡ x
chain_type p code functions env t x no_links s e suits = e ∙ sym suits
chain_type p code functions env t x (more_links (link z at op e) ls) s same suits = chain_type p code functions env z.value x ls z refl suits.3

module _ (k : Site) (c : Context k) where
  abbrev pub a : Around
  a = around_of k c

  abbrev pub fs : List Function
  fs = c.functions

  -- ---- the shapes of the goals

  abbrev pub NodeRuns : Ty → Gives → Node → ℕ → ℕ → Stand → Type 0
  NodeRuns x q node p h s = Runs k p (node_code a x q node p h (scope_at s) s.gone) (node_stands x node h s) s (ending (node_after node h (scope_at s) s.gone) (λ g. given h x (with_gone g s)))

  abbrev pub ExprRuns : Expr → ℕ → ℕ → Stand → Type 0
  ExprRuns e p h s = Runs k p (expr_code a e p h (scope_at s) s.gone) (expr_stands e h s) s (ending (expr_after e h (scope_at s) s.gone) (λ g. given h (type e) (with_gone g s)))

  abbrev pub ValueRuns : Expr → ℕ → ℕ → Stand → Type 0
  ValueRuns e p h s = Runs k p (expr_code a e p h (scope_at s) s.gone) (expr_stands e h s) s (ending (expr_after e h (scope_at s) s.gone) (λ g. holding h (type e) (with_gone g s)))

  abbrev pub LinksRun : Ty → Ty → Links → ℕ → ℕ → Stand → Type 0
  LinksRun t x ls p h s = Runs k p (links_code a ls p h (scope_at s) s.gone) (links_stands t ls h s) (holding h t s) (ending (links_after ls h (scope_at s) s.gone) (λ g. holding h x (with_gone g s)))

  -- ---- leaves

  -- a value of a type at hand, where nothing is gone after it
  leaf : {p : ℕ} {cs : List Instr} {ms : Marks} {s : Stand} (h : ℕ) (x z : Ty) → y.is_void z ≡ false → x ≡ z → Runs k p cs ms s (falls (holding h z s)) → Runs k p cs ms s (falls (given h x (with_gone s.gone s)))
  leaf {p} {cs} {ms} {s} h x z some e r =
      subst (λ t. Runs k p cs ms s (falls (given h t (with_gone s.gone s)))) (sym e)
      (as_given k (comes s.gone) h z (λ g. with_gone g s) some (runs_less k r (says_holding k h z (says_still k s))))

  below_truth : (v : Bool) → nat_lt (truth_number v) 2 ≡ true
  below_truth true = refl
  below_truth false = refl

  quote_runs : {p h : ℕ} {s : Stand} {env : Env} (text : List ℕ) → Stands k env h s → is_lawful_text text ≡ true → slice_get k.code.texts (number_of_text text k.code.texts) ≡ Some text → Runs k p (i.Text h (number_of_text text k.code.texts) ∷ []) (s ∷ []) s (falls (holding h y.str s))
  quote_runs {h = h} text st lawful there =
      text_runs k h (number_of_text text k.code.texts) (slice_get_within k.code.texts (number_of_text text k.code.texts) text there)
      (ap is_short there ∙ (and_parts (nat_le (length text) text_limit) (list_all is_byte text) lawful).0) (free_at k h st (omega arith))

  -- the local of a name
  local_named : {env : Env} {h : ℕ} {s : Stand} {n : NameAt} {x : Ty} → Stands k env h s → IsLocal env n x → Named n.name.0 x s.slots
  local_named {s = s} {n} {x} st l = subst (λ t. Named n.name.0 t s.slots) l.typed (named n.name.0 s.slots l.is (ap (y.local_of n.name.0) (sym st.scope) ∙ l.found))

  -- of a set
  abbrev set_marks : Expr → Expr → ℕ → Stand → Marks
  set_marks pl e h s =
      then_stands (h + 1) (expr_stands e h s) (expr_after e h (scope_at s) s.gone) (λ g. holding h (type e) (with_gone g s))
      (λ g. place_stands pl (type e) h (with_gone g s)) (λ g. place_after pl (gives_of (type e)) h (scope_at s) g) (λ g. holding h (type e) (with_gone g s))

  then_comes : (o : After) (u : Gone → Stand) → ending (then_after o (λ g. comes g)) u ≡ ending o u
  then_comes (comes g) u = refl
  then_comes (never g) u = refl

  -- what is done with a value, which moves nothing
  one_value : (e : Expr) (x : Ty) (p h : ℕ) (s : Stand) (code : Gone → List Instr) (ms : Gone → Marks) {env : Env} → y.is_void x ≡ false → Stands k env h s
      → Clean (then_code p (h + 1) (expr_code a e p h (scope_at s) s.gone) (expr_after e h (scope_at s) s.gone) (λ place g. code g))
      → (Clean (expr_code a e p h (scope_at s) s.gone) → ValueRuns e p h s)
      → ((g : Gone) (q : ℕ) → Runs k q (code g) (ms g) (holding h (type e) (with_gone g s)) (falls (holding h x (with_gone g s))))
      → Runs k p (then_code p (h + 1) (expr_code a e p h (scope_at s) s.gone) (expr_after e h (scope_at s) s.gone) (λ place g. code g))
      (then_stands (h + 1) (expr_stands e h s) (expr_after e h (scope_at s) s.gone) (λ g. holding h (type e) (with_gone g s)) ms (λ g. comes g) (λ g. holding h x (with_gone g s))) s
      (ending (expr_after e h (scope_at s) s.gone) (λ g. given h x (with_gone g s)))
  one_value e x p h s code ms some st clean value rest =
      as_given k (expr_after e h (scope_at s) s.gone) h x (λ g. with_gone g s) some
      (subst (λ d. Runs k p (then_code p (h + 1) (expr_code a e p h (scope_at s) s.gone) (expr_after e h (scope_at s) s.gone) (λ place g. code g)) (then_stands (h + 1) (expr_stands e h s) (expr_after e h (scope_at s) s.gone) (λ g. holding h (type e) (with_gone g s)) ms (λ g. comes g) (λ g. holding h x (with_gone g s))) s d) (then_comes (expr_after e h (scope_at s) s.gone) (λ g. holding h x (with_gone g s)))
      (then_runs k (expr_after e h (scope_at s) s.gone) p (h + 1) (expr_code a e p h (scope_at s) s.gone) (expr_stands e h s) (λ place g. code g) (λ g. holding h (type e) (with_gone g s)) ms (λ g. comes g) (λ g. holding h x (with_gone g s)) s clean value (λ g q c. rest g q)
      (λ g. next_free k (type e) st g)))

  local_free : {env : Env} {h : ℕ} {s : Stand} (n : ℕ) (x : Ty) → Stands k env h s → (g : Gone) → says_at k (with_local n h x (with_gone g s)) (h + 1) ≡ Empty
  local_free {h = h} {s} n x st g =
      ap (λ b. if b then slot_fact k.parts (record { role = local n; register = h; ty = x; depth = s.depth }) (without h g) else fact_in k.parts s.slots (without h g) (h + 1)) (ne_eqb h (h + 1) (omega arith))
      ∙ nothing_above k h s.slots (without h g) (h + 1) st.falls (omega arith)

  wait_free : {env : Env} {h : ℕ} {s : Stand} (x : Ty) → Stands k env h s → (g : Gone) → says_at k (with_waiting h x (with_gone g s)) (h + 1) ≡ Empty
  wait_free {h = h} {s} x st g =
      ap (λ b. if b then slot_fact k.parts (record { role = waits; register = h; ty = x; depth = s.depth }) (without h g) else fact_in k.parts s.slots (without h g) (h + 1)) (ne_eqb h (h + 1) (omega arith))
      ∙ nothing_above k h s.slots (without h g) (h + 1) st.falls (omega arith)

  many : (es : Exprs) (h : ℕ) → h + length (types es) ≤ h + length (gives_list es)
  many no_exprs h = omega arith
  many (more_exprs e es) h = let m = many es h in omega (arith, m)

  -- an index, and what is done with it, which moves nothing
  after_value : (e : Expr) (p j : ℕ) (t : Stand) (code : List Instr) (end : Gone → Stand) {env : Env} → Stands k env j t
      → Clean (then_code p (j + 1) (expr_code a e p j (scope_at t) t.gone) (expr_after e j (scope_at t) t.gone) (λ place g. code))
      → (Clean (expr_code a e p j (scope_at t) t.gone) → ValueRuns e p j t)
      → ((g : Gone) (q : ℕ) → gone_of (expr_after e j (scope_at t) t.gone) ≡ g → Runs k q code (holding j (type e) (with_gone g t) ∷ []) (holding j (type e) (with_gone g t)) (falls (end g)))
      → Runs k p (then_code p (j + 1) (expr_code a e p j (scope_at t) t.gone) (expr_after e j (scope_at t) t.gone) (λ place g. code))
      (then_stands (j + 1) (expr_stands e j t) (expr_after e j (scope_at t) t.gone) (λ g. holding j (type e) (with_gone g t)) (λ g. holding j (type e) (with_gone g t) ∷ []) (λ g. comes g) end) t
      (ending (expr_after e j (scope_at t) t.gone) end)
  after_value e p j t code end st clean value rest =
      subst (λ d. Runs k p (then_code p (j + 1) (expr_code a e p j (scope_at t) t.gone) (expr_after e j (scope_at t) t.gone) (λ place g. code)) (then_stands (j + 1) (expr_stands e j t) (expr_after e j (scope_at t) t.gone) (λ g. holding j (type e) (with_gone g t)) (λ g. holding j (type e) (with_gone g t) ∷ []) (λ g. comes g) end) t d) (then_comes (expr_after e j (scope_at t) t.gone) end)
      (then_runs_known k (expr_after e j (scope_at t) t.gone) p (j + 1) (expr_code a e p j (scope_at t) t.gone) (expr_stands e j t) (λ place g. code) (λ g. holding j (type e) (with_gone g t)) (λ g. holding j (type e) (with_gone g t) ∷ []) (λ g. comes g) end t clean value
      (λ g q is c. rest g q is)
      (λ g. next_free k (type e) st g))

  -- a step that starts from what a node gives
  value_starts : (env : Env) (x : Ty) (node : Node) (view : View) (p h : ℕ) (s : Stand) (rest : Origin → ℕ → ℕ → Gone → List Instr) (marks : ℕ → Stand → Marks) (after : ℕ → Gone → After) (end : Gone → Stand) → Stands k env h s → refers x view
      → (copy ≡ gives_of x → Clean (node_code a x copy node p h (scope_at s) s.gone) → NodeRuns x copy node p h s) → Continues k env h s view rest marks after end
      → Clean (only_if (agree copy (gives_of x)) h (then_code p (h + 1) (node_code a x copy node p h (scope_at s) s.gone) (node_after node h (scope_at s) s.gone) (λ place g. rest (reference h) place (h + 1) g)))
      → Runs k p (only_if (agree copy (gives_of x)) h (then_code p (h + 1) (node_code a x copy node p h (scope_at s) s.gone) (node_after node h (scope_at s) s.gone) (λ place g. rest (reference h) place (h + 1) g)))
      (then_stands (h + 1) (node_stands x node h s) (node_after node h (scope_at s) s.gone) (λ g. holding h x (with_gone g s)) (λ g. marks (h + 1) (holding h x (with_gone g s))) (λ g. after (h + 1) g) end) s
      (ending (then_after (node_after node h (scope_at s) s.gone) (λ g. after (h + 1) g)) end)
  value_starts env x node view p h s rest marks after end st refers value go clean =
      chosen k (agree copy (gives_of x)) h clean
      (λ t cl.
      let plain = copy_some x t in
      then_runs_known k (node_after node h (scope_at s) s.gone) p (h + 1) (node_code a x copy node p h (scope_at s) s.gone) (node_stands x node h s) (λ place g. rest (reference h) place (h + 1) g) (λ g. holding h x (with_gone g s)) (λ g. marks (h + 1) (holding h x (with_gone g s)))
      (λ g. after (h + 1) g) end s cl
      (λ cl. as_value k (node_after node h (scope_at s) s.gone) h x (λ g. with_gone g s) plain.0 (value (agree_is copy (gives_of x) t) cl))
      (λ g q is cl.
      go (reference h) q (h + 1) g (holding h x (with_gone g s)) (lies x plain.1) (λ r lt u. ap (is_gone r) (sym is) ∙ node_keeps r false 0 node h (scope_at s) s.gone lt u refl)
      (λ c e. holding_here k h x (with_gone c s) ∙ ap (λ z. says_held k z s.depth) (refers_is x view refers)) cl)
      (λ g. next_free k x st g))

  -- where a step starts, as it is known there
  leads_now : {h j : ℕ} {t : Stand} (g : Gone) (over : Stand) (o : Origin) (v : View) → From h (with_gone g over) j t → Leads k (with_gone g t) o v → Leads k t o v
  leads_now g over o v stays l = l
  leads_now g over o v (lies u e) l = l

  reference_at : (h : ℕ) (u : Ty) (s : Stand) (v : View) → refers u v → Leads k (holding h u s) (reference h) v
  reference_at h u s v r = holding_here k h u s ∙ ap (λ z. says_held k z s.depth) (refers_is u v r)

  -- an index moves nothing that waits
  still_waits : (env : Env) (e : Expr) (z : Ty) (new j : ℕ) (g c : Gone) (over : Stand) → Stands k env new over → is_gone new g ≡ false → new < j → gone_of (expr_after e j (waiting new (gives_of z) ∷ scope_at over) g) ≡ c → is_gone new c ≡ false
  still_waits env e z new j g c over st there lt is =
      ap (is_gone new) (sym is) ∙ expr_keeps new false 0 e j (waiting new (gives_of z) ∷ scope_at over) g lt (unnamed_wait k new over.slots (gives_of z) st.falls) refl ∙ there

  still_started : (env : Env) (e : Expr) (x : Step) (z : Ty) (h : ℕ) (g : Gone) (s : Stand) → Stands k env h s
      → gone_of (start_after e (step_view x) (λ n. step_changes n x) (h + 1) (waiting h (gives_of z) ∷ scope_at s) (without h s.gone) (λ j g. step_after x j (waiting h (gives_of z) ∷ scope_at s) g)) ≡ g → is_gone h g ≡ false
  still_started env e x z h g s st is =
      let w = waiting h (gives_of z) ∷ scope_at s in
      let u = unnamed_wait k h s.slots (gives_of z) st.falls in
      ap (is_gone h) (sym is)
      ∙ start_keeps h false 0 e (step_view x) (λ n. step_changes n x) (h + 1) w (without h s.gone) (λ j g. step_after x j w g) (omega arith) u refl (λ j c le e. step_keeps h false 0 x j w c (omega (arith, le)) u refl ∙ e)
      ∙ not_gone h s.gone

  two_free : {env : Env} {h : ℕ} {s : Stand} (x z : Ty) → Stands k env h s → (g : Gone) → says_at k (holding (h + 1) x (with_gone g (with_waiting h z s))) (h + 2) ≡ Empty
  two_free {h = h} {s} x z st g = holding_there k (h + 1) x (with_gone g (with_waiting h z s)) (h + 2) (omega arith) ∙ none_at k (h + 2) (stands_gone k g (stands_waiting k z st)) (omega arith)

  -- ---- a loop over numbers

  -- its turns, once its ends stand in h and after it
  abbrev number_code : NameAt → Block → Spot → ℕ → ℕ → Stand → Gone → List Instr
  number_code n bl at place h s g =
      only_if (closes (scope_at s) g (block_after bl (h + 2 + 1) (entry n.name.0 (h + 2) copy ∷ scope_at s) (without (h + 2) g))) h
      (count_code place h at (block_after bl (h + 2 + 1) (entry n.name.0 (h + 2) copy ∷ scope_at s) (without (h + 2) g)) (λ place. block_code a void bl place h (h + 2 + 1) (entry n.name.0 (h + 2) copy ∷ scope_at s) (without (h + 2) g)))

  abbrev number_marks : NameAt → Block → ℕ → Stand → Ty → Ty → Marks
  number_marks n bl h s t u =
      count_stands h (holding (h + 1) u (holding h t s)) (block_stands bl h (h + 2 + 1) (with_local n.name.0 (h + 2) y.int (holding (h + 1) u (holding h t s)))) (block_after bl (h + 2 + 1) (entry n.name.0 (h + 2) copy ∷ scope_at s) (without (h + 2) s.gone))

  numbers_run : (env : Env) (n : NameAt) (bl : Block) (at : Spot) (p h : ℕ) (s : Stand) → Stands k env h s → (t u : Ty) → t ≡ y.int → u ≡ y.int → Clean (number_code n bl at p h s s.gone)
      → ((q : ℕ) → Clean (block_code a void bl q h (h + 2 + 1) (entry n.name.0 (h + 2) copy ∷ scope_at s) (without (h + 2) s.gone))
      → Runs k q (block_code a void bl q h (h + 2 + 1) (entry n.name.0 (h + 2) copy ∷ scope_at s) (without (h + 2) s.gone)) (block_stands bl h (h + 2 + 1) (with_local n.name.0 (h + 2) y.int (counted h s))) (with_local n.name.0 (h + 2) y.int (counted h s))
      (ending (block_after bl (h + 2 + 1) (entry n.name.0 (h + 2) copy ∷ scope_at s) (without (h + 2) s.gone)) (λ g. with_gone g (with_local n.name.0 (h + 2) y.int (counted h s)))))
      → Runs k p (number_code n bl at p h s s.gone) (number_marks n bl h s t u) (holding (h + 1) u (holding h t s)) (falls (with_gone s.gone s))
  numbers_run env n bl at p h s st t u et eu clean body =
      let after = block_after bl (h + 2 + 1) (entry n.name.0 (h + 2) copy ∷ scope_at s) (without (h + 2) s.gone) in
      subst (λ t. Runs k p (number_code n bl at p h s s.gone) (number_marks n bl h s t u) (holding (h + 1) u (holding h t s)) (falls (with_gone s.gone s))) (sym et)
      (subst (λ u. Runs k p (number_code n bl at p h s s.gone) (number_marks n bl h s y.int u) (holding (h + 1) u (holding h y.int s)) (falls (with_gone s.gone s))) (sym eu)
      (chosen k (closes (scope_at s) s.gone after) h clean
      (λ closed cl.
      count_runs k env h s st n.name.0 at p (λ place. block_code a void bl place h (h + 2 + 1) (entry n.name.0 (h + 2) copy ∷ scope_at s) (without (h + 2) s.gone)) (block_stands bl h (h + 2 + 1) (with_local n.name.0 (h + 2) y.int (counted h s))) after closed cl body)))

  third_free : {env : Env} {h : ℕ} {s : Stand} (t u : Ty) → Stands k env h s → (g : Gone) → says_at k (holding (h + 1) u (holding h t (with_gone g s))) (h + 2) ≡ Empty
  third_free {h = h} {s} t u st g = holding_there k (h + 1) u (holding h t (with_gone g s)) (h + 2) (omega arith) ∙ holding_there k h t (with_gone g s) (h + 2) (omega arith) ∙ none_at k (h + 2) (stands_gone k g st) (omega arith)

  -- a value that isn't used
  unused_stmt : (e : Expr) (p h : ℕ) (s : Stand) {env : Env} → Stands k env h s → Clean (if_comes p (expr_code a e p h (scope_at s) s.gone) (expr_after e h (scope_at s) s.gone) (λ place g. drop_value (gives_of (type e)) h (expr_spot e)))
      → (Clean (expr_code a e p h (scope_at s) s.gone) → ExprRuns e p h s)
      → Runs k p (if_comes p (expr_code a e p h (scope_at s) s.gone) (expr_after e h (scope_at s) s.gone) (λ place g. drop_value (gives_of (type e)) h (expr_spot e)))
      (comes_stands (expr_stands e h s) (expr_after e h (scope_at s) s.gone) (λ g. drop_stands (type e) (holding h (type e) (with_gone g s)))) s (ending (expr_after e h (scope_at s) s.gone) (λ g. with_gone g s))
  unused_stmt e p h s {env} st clean value =
      comes_runs k (expr_after e h (scope_at s) s.gone) p (expr_code a e p h (scope_at s) s.gone) (expr_stands e h s) (λ place g. drop_value (gives_of (type e)) h (expr_spot e)) (λ g. given h (type e) (with_gone g s)) (λ g. drop_stands (type e) (holding h (type e) (with_gone g s))) (λ g. with_gone g s) s clean value
      (λ g r c. unused_runs k env h (with_gone g s) (stands_gone k g st) (type e) (expr_spot e))

  -- a statement and those after it
  abbrev AfterStmt : Stmt → Stmts → Ty → Gives → Spot → ℕ → ℕ → ℕ → Stand → Type 0
  AfterStmt z ss x q end p to h s =
      Runs k p (then_code p h (stmt_code a z p h (scope_at s) s.gone) (stmt_after z h (scope_at s) s.gone) (λ place g. stmts_code a q end ss place to h (scope_at s) g))
      (then_stands h (stmt_stands z h s) (stmt_after z h (scope_at s) s.gone) (λ g. with_gone g s) (λ g. stmts_stands x ss to h (with_gone g s)) (λ g. stmts_after ss h (scope_at s) g) (λ g. given to x (with_gone g s))) s
      (ending (then_after (stmt_after z h (scope_at s) s.gone) (λ g. stmts_after ss h (scope_at s) g)) (λ g. given to x (with_gone g s)))

  after_stmt : (env : Env) (z : Stmt) (ss : Stmts) (x : Ty) (q : Gives) (end : Spot) (p to h : ℕ) (s : Stand) → Stands k env h s
      → Clean (then_code p h (stmt_code a z p h (scope_at s) s.gone) (stmt_after z h (scope_at s) s.gone) (λ place g. stmts_code a q end ss place to h (scope_at s) g))
      → (Clean (stmt_code a z p h (scope_at s) s.gone) → Runs k p (stmt_code a z p h (scope_at s) s.gone) (stmt_stands z h s) s (ending (stmt_after z h (scope_at s) s.gone) (λ g. with_gone g s)))
      → ((g : Gone) (r : ℕ) → Clean (stmts_code a q end ss r to h (scope_at s) g) → Runs k r (stmts_code a q end ss r to h (scope_at s) g) (stmts_stands x ss to h (with_gone g s)) (with_gone g s) (ending (stmts_after ss h (scope_at s) g) (λ g. given to x (with_gone g s))))
      → AfterStmt z ss x q end p to h s
  after_stmt env z ss x q end p to h s st clean first rest =
      then_runs k (stmt_after z h (scope_at s) s.gone) p h (stmt_code a z p h (scope_at s) s.gone) (stmt_stands z h s) (λ place g. stmts_code a q end ss place to h (scope_at s) g) (λ g. with_gone g s) (λ g. stmts_stands x ss to h (with_gone g s)) (λ g. stmts_after ss h (scope_at s) g) (λ g. given to x (with_gone g s)) s
      clean first rest (λ g. none_at k h (stands_gone k g st) (omega arith))

  -- ---- by induction on the tree

  mutual
    pub expr_runs : (env : Env) (e : Expr) (p h : ℕ) (s : Stand) → Stands k env h s → expr_suits k.parts k.code fs env e → Clean (expr_code a e p h (scope_at s) s.gone) → ExprRuns e p h s
    expr_runs env (expr x node) p h s st suits clean = node_runs env node x.value (gives_of x.value) p h s refl st suits clean

    pub value_runs : (env : Env) (e : Expr) (p h : ℕ) (s : Stand) → is_value (gives_of (type e)) ≡ true → Stands k env h s → expr_suits k.parts k.code fs env e → Clean (expr_code a e p h (scope_at s) s.gone) → ValueRuns e p h s
    value_runs env (expr x node) p h s some st suits clean =
        as_value k (node_after node h (scope_at s) s.gone) h x.value (λ g. with_gone g s) (value_some x.value some) (node_runs env node x.value (gives_of x.value) p h s refl st suits clean)

    pub node_runs : (env : Env) (node : Node) (x : Ty) (q : Gives) (p h : ℕ) (s : Stand) → q ≡ gives_of x → Stands k env h s → node_suits k.parts k.code fs env x node → Clean (node_code a x q node p h (scope_at s) s.gone) → NodeRuns x q node p h s
    node_runs env (number at n) x q p h s e st suits clean = chosen k (agree q copy && is_int n) h clean (λ t c. leaf h x y.int refl suits (int_runs k h n (free_at k h st (omega arith))))
    node_runs env (quote at text) x q p h s e st suits clean =
        chosen k (agree q copy && is_lawful_text text) h clean (λ t c. leaf h x y.str refl suits.0 (quote_runs text st (and_parts (agree q copy) (is_lawful_text text) t).1 suits.1))
    node_runs env (truth at v) x q p h s e st suits clean = chosen k (agree q copy) h clean (λ t c. leaf h x y.bool refl suits (truth_runs k h (truth_number v) (below_truth v) (free_at k h st (omega arith))))
    node_runs env (name n is_outer true) x q p h s e st suits clean =
        chosen k (agree q owner) h clean
        (λ t c.
        let o = owner_of x (sym e ∙ agree_is q owner t) in
        as_given k (comes (moved_out (find n.name.0 (scope_at s)) s.gone)) h x (λ g. with_gone g s) (owned_some x o) (move_runs k st (local_named st suits) c o))
    node_runs env (name n is_outer false) x q p h s e st suits clean =
        chosen k (agree q copy) h clean
        (λ t c.
        let z = copy_of x (sym e ∙ agree_is q copy t) in
        leaf h x x z.0 refl (load_runs k st (local_named st suits) (y.frozen x) z.1))
    node_runs env (paren at e1) x q p h s e st suits clean =
        chosen k (agree q (gives_of (type e1))) h clean
        (λ t c. subst (λ z. Runs k p (expr_code a e1 p h (scope_at s) s.gone) (expr_stands e1 h s) s (ending (expr_after e1 h (scope_at s) s.gone) (λ g. given h z (with_gone g s)))) (sym suits.0) (expr_runs env e1 p h s st suits.1 c))
    node_runs env (chain e1 ls) x q p h s e st suits clean =
        chosen k (is_value (gives_of (type e1)) && agree q copy) h clean
        (λ t c.
        let some = and_parts (is_value (gives_of (type e1))) (agree q copy) t in
        as_given k (then_after (expr_after e1 h (scope_at s) s.gone) (λ g. links_after ls h (scope_at s) g)) h x (λ g. with_gone g s) (copy_of x (sym e ∙ agree_is q copy some.1)).0
        (then_runs k (expr_after e1 h (scope_at s) s.gone) p (h + 1) (expr_code a e1 p h (scope_at s) s.gone) (expr_stands e1 h s) (λ place g. links_code a ls place h (scope_at s) g)
        (λ g. holding h (type e1) (with_gone g s)) (λ g. links_stands (type e1) ls h (with_gone g s)) (λ g. links_after ls h (scope_at s) g) (λ g. holding h x (with_gone g s)) s c
        (λ c. value_runs env e1 p h s some.0 st suits.0 c)
        (λ g q c. links_run env (type e1) x ls q h (with_gone g s) (stands_gone k g st) suits.1 c)
        (λ g. next_free k (type e1) st g)))
    node_runs env (unary at unary_op.Minus e1) x q p h s e st suits clean =
        chosen k (is_value (gives_of (type e1)) && agree q copy) h clean
        (λ t c.
        let some = and_parts (is_value (gives_of (type e1))) (agree q copy) t in
        one_value e1 x p h s (λ g. unary_code unary_op.Minus at h) (λ g. unary_stands unary_op.Minus (type e1) h (with_gone g s)) (ap y.is_void suits.1) st c (λ c. value_runs env e1 p h s some.0 st suits.2 c)
        (λ g q.
        subst (λ t. Runs k q (unary_code unary_op.Minus at h) (unary_stands unary_op.Minus t h (with_gone g s)) (holding h t (with_gone g s)) (falls (holding h x (with_gone g s)))) (sym suits.0)
        (subst (λ t. Runs k q (unary_code unary_op.Minus at h) (unary_stands unary_op.Minus y.int h (with_gone g s)) (holding h y.int (with_gone g s)) (falls (holding h t (with_gone g s)))) (sym suits.1)
        (minus_runs k env h (with_gone g s) (stands_gone k g st) at))))
    node_runs env (unary at unary_op.Not e1) x q p h s e st suits clean =
        chosen k (is_value (gives_of (type e1)) && agree q copy) h clean
        (λ t c.
        let some = and_parts (is_value (gives_of (type e1))) (agree q copy) t in
        one_value e1 x p h s (λ g. unary_code unary_op.Not at h) (λ g. unary_stands unary_op.Not (type e1) h (with_gone g s)) (ap y.is_void suits.1) st c (λ c. value_runs env e1 p h s some.0 st suits.2 c)
        (λ g q.
        subst (λ t. Runs k q (unary_code unary_op.Not at h) (unary_stands unary_op.Not t h (with_gone g s)) (holding h t (with_gone g s)) (falls (holding h x (with_gone g s)))) (sym suits.0)
        (subst (λ t. Runs k q (unary_code unary_op.Not at h) (unary_stands unary_op.Not y.bool h (with_gone g s)) (holding h y.bool (with_gone g s)) (falls (holding h t (with_gone g s)))) (sym suits.1)
        (not_runs k env h (with_gone g s) (stands_gone k g st)))))
    node_runs env (unary at unary_op.Borrow (expr z (name n is_outer false))) x q p h s e st suits clean =
        chosen k (agree q copy) h clean
        (λ t cl. leaf h x (y.ref suits.0) refl suits.3 (lends_place k st (local_named st suits.1) z.view suits.2 cl))
    node_runs env (unary at unary_op.Borrow (expr z (name n is_outer true))) x q p h s e st suits clean = absurd suits
    node_runs env (unary at unary_op.Borrow (expr z (set at2 u v))) x q p h s e st suits clean = absurd suits
    node_runs env (unary at unary_op.Borrow (expr z (chain u ls))) x q p h s e st suits clean = absurd suits
    node_runs env (unary at unary_op.Borrow (expr z (unary at2 o u))) x q p h s e st suits clean = absurd suits
    node_runs env (unary at unary_op.Borrow (expr z (steps u no_steps))) x q p h s e st suits clean = absurd suits
    node_runs env (unary at unary_op.Borrow (expr z (steps u (more_steps y ys)))) x q p h s e st suits clean =
        chosen k (agree q copy) h clean (λ t cl. node_runs env (steps u (more_steps y ys)) x copy p h s (sym (agree_is q copy t) ∙ e) st suits cl)
    node_runs env (unary at unary_op.Borrow (expr z (number at2 n))) x q p h s e st suits clean = absurd suits
    node_runs env (unary at unary_op.Borrow (expr z (quote at2 text))) x q p h s e st suits clean = absurd suits
    node_runs env (unary at unary_op.Borrow (expr z (truth at2 v))) x q p h s e st suits clean = absurd suits
    node_runs env (unary at unary_op.Borrow (expr z (call n f es))) x q p h s e st suits clean = absurd suits
    node_runs env (unary at unary_op.Borrow (expr z (paren at2 u))) x q p h s e st suits clean = absurd suits
    node_runs env (unary at unary_op.Borrow (expr z (array at2 w es))) x q p h s e st suits clean = absurd suits
    node_runs env (unary at unary_op.Borrow (expr z (iso at2 bl))) x q p h s e st suits clean = absurd suits
    node_runs env (unary at unary_op.Borrow (expr z (form f))) x q p h s e st suits clean = absurd suits
    node_runs env (unary at unary_op.Merge e1) x q p h s e st suits clean = absurd suits
    node_runs env (set at pl e1) x q p h s e st suits clean =
        chosen k (is_value (gives_of (type e1)) && agree q (gives_of (type e1))) h clean
        (λ t cl.
        let some = and_parts (is_value (gives_of (type e1))) (agree q (gives_of (type e1))) t in
        as_given k (node_after (set at pl e1) h (scope_at s) s.gone) h x (λ g. with_gone g s) (ap y.is_void suits.1 ∙ value_some (type e1) some.0)
        (subst (λ z. Runs k p (then_code p (h + 1) (expr_code a e1 p h (scope_at s) s.gone) (expr_after e1 h (scope_at s) s.gone) (λ place g. place_code a pl (gives_of (type e1)) place h (scope_at s) g)) (set_marks pl e1 h s) s (ending (node_after (set at pl e1) h (scope_at s) s.gone) (λ g. holding h z (with_gone g s)))) (sym suits.1)
        (then_runs k (expr_after e1 h (scope_at s) s.gone) p (h + 1) (expr_code a e1 p h (scope_at s) s.gone) (expr_stands e1 h s) (λ place g. place_code a pl (gives_of (type e1)) place h (scope_at s) g)
        (λ g. holding h (type e1) (with_gone g s)) (λ g. place_stands pl (type e1) h (with_gone g s)) (λ g. place_after pl (gives_of (type e1)) h (scope_at s) g) (λ g. holding h (type e1) (with_gone g s)) s cl
        (λ cl. value_runs env e1 p h s some.0 st suits.2 cl)
        (λ g q cl. place_runs env pl (type e1) q h (with_gone g s) (stands_gone k g st) suits.0 cl)
        (λ g. next_free k (type e1) st g))))
    node_runs env (call n f es) x q p h s e st suits clean =
        subst (λ d. Runs k p (node_code a x q (call n f es) p h (scope_at s) s.gone) (node_stands x (call n f es) h s) s d) (then_comes (args_after es h (scope_at s) s.gone) (λ g. given h x (with_gone g s)))
        (then_runs_known k (args_after es h (scope_at s) s.gone) p (h + length (gives_list es)) (args_code a es p h (scope_at s) s.gone) (args_stands es h s) (λ place g. callee_code a q n f (first_type es) (gives_list es) h)
        (λ g. with_gone g (with_args es h s)) (λ g. with_gone g (with_args es h s) ∷ []) (λ g. comes g) (λ g. given h x (with_gone g s)) s clean
        (λ cl. args_run env es p h s st suits.1 cl)
        (λ g r is cl. callee_runs k env h s st g es (args_wait k es h s g st.falls is) fs c.gives n f x q e suits.0 cl)
        (λ g. nothing_above k (h + length (types es)) (with_args es h s).slots g (h + length (gives_list es)) (args_fall k es h s st.falls) (many es h)))
    node_runs env (form f) x q p h s e st suits clean = form_runs env f x q p h s e st suits clean
    node_runs env (steps e1 no_steps) x q p h s e st suits clean = absurd suits
    node_runs env (steps e1 (more_steps y ys)) x q p h s e st suits clean =
        chosen k (agree q copy) h clean
        (λ t cl.
        as_given k (node_after (steps e1 (more_steps y ys)) h (scope_at s) s.gone) h x (λ g. with_gone g s) (copy_of x (sym e ∙ agree_is q copy t)).0
        (subst (λ z. Runs k p (then_code p (h + 1) (start_code a e1 (step_view y) (λ n. step_changes n y) p h (scope_at s) s.gone (λ o place j g. step_code a o y place h j (scope_at s) g)) (start_after e1 (step_view y) (λ n. step_changes n y) h (scope_at s) s.gone (λ j g. step_after y j (scope_at s) g)) (λ place g. steps_code a ys place h (scope_at s) g)) (node_stands x (steps e1 (more_steps y ys)) h s) s (ending (node_after (steps e1 (more_steps y ys)) h (scope_at s) s.gone) (λ g. holding h z (with_gone g s)))) (sym suits.3)
        (then_runs k (start_after e1 (step_view y) (λ n. step_changes n y) h (scope_at s) s.gone (λ j g. step_after y j (scope_at s) g)) p (h + 1)
        (start_code a e1 (step_view y) (λ n. step_changes n y) p h (scope_at s) s.gone (λ o place j g. step_code a o y place h j (scope_at s) g))
        (start_stands e1 (step_view y) (λ n. step_changes n y) h s (λ j t. step_stands y h j s t) (λ j g. step_after y j (scope_at s) g) (λ g. holding h (lent (step_seen y)) (with_gone g s)))
        (λ place g. steps_code a ys place h (scope_at s) g) (λ g. holding h (lent (step_seen y)) (with_gone g s)) (λ g. steps_stands (lent (step_seen y)) ys h (with_gone g s)) (λ g. steps_after ys h (scope_at s) g) (λ g. holding h (lent_last (lent (step_seen y)) ys) (with_gone g s)) s cl
        (λ cl.
        start_runs env e1 (step_view y) (λ n. step_changes n y) p h s (λ o place j g. step_code a o y place h j (scope_at s) g) (λ j t. step_stands y h j s t) (λ j g. step_after y j (scope_at s) g) (λ g. holding h (lent (step_seen y)) (with_gone g s)) st suits.0
        (λ r n j lt u still le. step_keeps r true n y j (scope_at s) s.gone (omega (arith, lt, le)) u still)
        (λ o q j g t from kept leads cl. step_runs env y o q h j g s t (stands_gone k g st) from leads suits.1 cl) cl)
        (λ g q cl. steps_run env ys (lent (step_seen y)) q h (with_gone g s) (stands_gone k g st) suits.2 cl)
        (λ g. next_free k (lent (step_seen y)) st g))))
    node_runs env (array at z es) x q p h s e st suits clean =
        as_given k (args_after es h (scope_at s) s.gone) h x (λ g. with_gone g s) (ap y.is_void suits.0)
        (subst (λ d. Runs k p (node_code a x q (array at z es) p h (scope_at s) s.gone) (node_stands x (array at z es) h s) s d) (then_comes (args_after es h (scope_at s) s.gone) (λ g. holding h x (with_gone g s)))
        (then_runs_known k (args_after es h (scope_at s) s.gone) p (h + length (gives_list es)) (args_code a es p h (scope_at s) s.gone) (args_stands es h s) (λ place g. make_code k.parts q x (gives_list es) h)
        (λ g. with_gone g (with_args es h s)) (λ g. with_gone g (with_args es h s) ∷ []) (λ g. comes g) (λ g. holding h x (with_gone g s)) s clean
        (λ cl. args_run env es p h s st suits.3 cl)
        (λ g r is cl. array_runs k env h s st g es (args_wait k es h s g st.falls is) q z x suits.0 suits.1 suits.2 cl)
        (λ g. nothing_above k (h + length (types es)) (with_args es h s).slots g (h + length (gives_list es)) (args_fall k es h s st.falls) (many es h))))
    node_runs env (iso at bl) x q p h s e st suits clean = absurd suits

    -- ---- steps

    -- what a first step starts from, and what is done from there
    start_runs : (env : Env) (e : Expr) (view : View) (changes : ℕ → Bool) (p h : ℕ) (s : Stand) (rest : Origin → ℕ → ℕ → Gone → List Instr) (marks : ℕ → Stand → Marks) (after : ℕ → Gone → After) (end : Gone → Stand) → Stands k env h s → start_suits k.parts k.code fs env view e
        → Keeps k env h s view rest marks after end changes → Continues k env h s view rest marks after end → Clean (start_code a e view changes p h (scope_at s) s.gone rest)
        → Runs k p (start_code a e view changes p h (scope_at s) s.gone rest) (start_stands e view changes h s marks after end) s (ending (start_after e view changes h (scope_at s) s.gone after) end)
    start_runs env (expr z (name n is_outer false)) view changes p h s rest marks after end st suits keeps go clean =
        local_starts k env h s view rest marks after end st n.name.0 suits.0 changes (local_named st suits.1) suits.2 keeps go clean
    start_runs env (expr z node) view changes p h s rest marks after end st suits keeps go clean =
        value_starts env z.value node view p h s rest marks after end st suits.0 (λ e cl. node_runs env node z.value copy p h s e st suits.1 cl) go clean

    -- from where it starts, with the first free register
    step_runs : (env : Env) (x : Step) (o : Origin) (p h j : ℕ) (g : Gone) (over t : Stand) → Stands k env h (with_gone g over) → From h (with_gone g over) j t → ((c : Gone) → gone_of (step_after x j (scope_at over) g) ≡ c → Leads k (with_gone c t) o (step_view x)) → step_suits k.parts k.code fs env x
        → Clean (step_code a o x p h j (scope_at over) g)
        → Runs k p (step_code a o x p h j (scope_at over) g) (step_stands x h j over t) t (ending (step_after x j (scope_at over) g) (λ c. holding h (lent (step_seen x)) (with_gone c over)))
    step_runs env (field x view may_be_set at m) o p h j g over t st from leads suits clean = field_steps k h (with_gone g over) st view suits.0 x at o suits.2 m.0 from suits.1 (leads_now g over o view from (leads g refl))
    step_runs env (index x view at e1) o p h j g over t st stays leads suits clean =
        chosen k (agree copy (gives_of (type e1))) h clean
        (λ some cl.
        after_value e1 p h (with_gone g over) (load_element o h at h) (λ c. holding h (lent x) (with_gone c over)) st cl (λ cl. value_runs env e1 p h (with_gone g over) (copy_value (type e1) some) st suits.4 cl)
        (λ c q is. element_steps k h (with_gone c over) (stands_gone k c st) view suits.0 x at o suits.2 (type e1) suits.3 stays suits.1 (leads c is)))
    step_runs env (index x view at e1) o p h j g over t st (lies u plain) leads suits clean =
        chosen k (agree copy (gives_of (type e1))) h clean
        (λ some cl.
        let above = stands_holding k u plain st in
        after_value e1 p (h + 1) (holding h u (with_gone g over)) (load_element o (h + 1) at h) (λ c. holding h (lent x) (with_gone c over)) above cl (λ cl. value_runs env e1 p (h + 1) (holding h u (with_gone g over)) (copy_value (type e1) some) above suits.4 cl)
        (λ c q is. element_steps k h (with_gone c over) (stands_gone k c st) view suits.0 x at o suits.2 (type e1) suits.3 (lies u plain) suits.1 (leads c is)))
    step_runs env (method x view at m es) o p h j g over t st from leads suits clean = absurd suits

    -- from a reference in h
    steps_run : (env : Env) (xs : Steps) (u : Ty) (p h : ℕ) (s : Stand) → Stands k env h s → steps_suit k.parts k.code fs env u xs → Clean (steps_code a xs p h (scope_at s) s.gone)
        → Runs k p (steps_code a xs p h (scope_at s) s.gone) (steps_stands u xs h s) (holding h u s) (ending (steps_after xs h (scope_at s) s.gone) (λ g. holding h (lent_last u xs) (with_gone g s)))
    steps_run env no_steps u p h s st suits clean = runs_less k (nothing k p (holding h u s)) (says_holding k h u (says_still k s))
    steps_run env (more_steps x xs) u p h s st suits clean =
        then_runs k (step_after x (h + 1) (scope_at s) s.gone) p (h + 1) (step_code a (reference h) x p h (h + 1) (scope_at s) s.gone) (step_stands x h (h + 1) s (holding h u s)) (λ place g. steps_code a xs place h (scope_at s) g)
        (λ g. holding h (lent (step_seen x)) (with_gone g s)) (λ g. steps_stands (lent (step_seen x)) xs h (with_gone g s)) (λ g. steps_after xs h (scope_at s) g) (λ g. holding h (lent_last (lent (step_seen x)) xs) (with_gone g s)) (holding h u s) clean
        (λ cl. step_runs env x (reference h) p h (h + 1) s.gone s (holding h u s) st (lies u (refers_plain u (step_view x) suits.0)) (λ c e. reference_at h u (with_gone c s) (step_view x) suits.0) suits.1 cl)
        (λ g q cl. steps_run env xs (lent (step_seen x)) q h (with_gone g s) (stands_gone k g st) suits.2 cl)
        (λ g. next_free k (lent (step_seen x)) st g)

    -- the last step of a place that is set, whose new value waits in `new`
    set_runs : (env : Env) (x : Step) (o : Origin) (z : Ty) (p new j : ℕ) (g : Gone) (over t : Stand) → Stands k env new over → is_gone new g ≡ false → From (new + 1) (with_gone g (with_waiting new z over)) j t
        → ((c : Gone) → gone_of (step_after x j (waiting new (gives_of z) ∷ scope_at over) g) ≡ c → Leads k (with_gone c t) o (step_view x)) → set_suits k.parts k.code fs env z x
        → Clean (swap_code a o x p new j (waiting new (gives_of z) ∷ scope_at over) g)
        → Runs k p (swap_code a o x p new j (waiting new (gives_of z) ∷ scope_at over) g) (swap_stands x z new j over t) t (ending (step_after x j (waiting new (gives_of z) ∷ scope_at over) g) (λ c. holding new z (with_gone c over)))
    set_runs env (field x view may_be_set at m) o z p new j g over t st there from leads suits clean =
        field_sets k new z (with_gone g over) (stands_gone k g st) there view at o suits.0 m.0 from suits.1 (leads_now g (with_waiting new z over) o view from (leads g refl))
    set_runs env (index x view at e1) o z p new j g over t st there stays leads suits clean =
        chosen k (agree copy (gives_of (type e1))) new clean
        (λ some cl.
        let above = stands_gone k g (stands_waiting k z st) in
        after_value e1 p (new + 1) (with_gone g (with_waiting new z over)) (swap_element o (new + 1) at new) (λ c. holding new z (with_gone c over)) above cl
        (λ cl. value_runs env e1 p (new + 1) (with_gone g (with_waiting new z over)) (copy_value (type e1) some) above suits.3 cl)
        (λ c q is. element_sets k new z (with_gone c over) (stands_gone k c st) (still_waits env e1 z new (new + 1) g c over st there (omega arith) is) view at o suits.0 (type e1) suits.2 stays suits.1 (leads c is)))
    set_runs env (index x view at e1) o z p new j g over t st there (lies u plain) leads suits clean =
        chosen k (agree copy (gives_of (type e1))) new clean
        (λ some cl.
        let above = stands_holding k u plain (stands_gone k g (stands_waiting k z st)) in
        after_value e1 p (new + 1 + 1) (holding (new + 1) u (with_gone g (with_waiting new z over))) (swap_element o (new + 1 + 1) at new) (λ c. holding new z (with_gone c over)) above cl
        (λ cl. value_runs env e1 p (new + 1 + 1) (holding (new + 1) u (with_gone g (with_waiting new z over))) (copy_value (type e1) some) above suits.3 cl)
        (λ c q is. element_sets k new z (with_gone c over) (stands_gone k c st) (still_waits env e1 z new (new + 1 + 1) g c over st there (omega arith) is) view at o suits.0 (type e1) suits.2 (lies u plain) suits.1 (leads c is)))
    set_runs env (method x view at m es) o z p new j g over t st there from leads suits clean = absurd suits

    -- the steps of a place that is set, from a reference in the register after the new value
    targets_run : (env : Env) (xs : Steps) (u z : Ty) (p new : ℕ) (g : Gone) (over : Stand) → Stands k env new over → is_gone new g ≡ false → targets_suit k.parts k.code fs env z u xs
        → Clean (targets_code a xs p new (new + 1) (waiting new (gives_of z) ∷ scope_at over) g)
        → Runs k p (targets_code a xs p new (new + 1) (waiting new (gives_of z) ∷ scope_at over) g) (targets_stands u xs z new (new + 1) over (with_gone g (with_waiting new z over))) (holding (new + 1) u (with_gone g (with_waiting new z over)))
        (ending (targets_after xs (new + 1) (waiting new (gives_of z) ∷ scope_at over) g) (λ c. holding new z (with_gone c over)))
    targets_run env no_steps u z p new g over st there suits clean = absurd suits
    targets_run env (more_steps x no_steps) u z p new g over st there suits clean =
        set_runs env x (reference (new + 1)) z p new (new + 1 + 1) g over (holding (new + 1) u (with_gone g (with_waiting new z over))) st there (lies u (refers_plain u (step_view x) suits.0)) (λ c e. reference_at (new + 1) u (with_gone c (with_waiting new z over)) (step_view x) suits.0) suits.1 clean
    targets_run env (more_steps x (more_steps y ys)) u z p new g over st there suits clean =
        let w = waiting new (gives_of z) ∷ scope_at over in
        let inner = with_waiting new z over in
        then_runs_known k (step_after x (new + 1 + 1) w g) p (new + 1 + 1) (step_code a (reference (new + 1)) x p (new + 1) (new + 1 + 1) w g) (step_stands x (new + 1) (new + 1 + 1) (with_gone g inner) (holding (new + 1) u (with_gone g inner)))
        (λ place g. targets_code a (more_steps y ys) place new (new + 1) w g) (λ c. holding (new + 1) (lent (step_seen x)) (with_gone c inner)) (λ c. targets_stands (lent (step_seen x)) (more_steps y ys) z new (new + 1) over (with_gone c inner)) (λ g. targets_after (more_steps y ys) (new + 1) w g)
        (λ c. holding new z (with_gone c over)) (holding (new + 1) u (with_gone g inner)) clean
        (λ cl.
        step_runs env x (reference (new + 1)) p (new + 1) (new + 1 + 1) g (with_gone g inner) (holding (new + 1) u (with_gone g inner)) (stands_gone k g (stands_waiting k z st)) (lies u (refers_plain u (step_view x) suits.0)) (λ c e. reference_at (new + 1) u (with_gone c inner) (step_view x) suits.0)
        suits.1 cl)
        (λ c q is cl.
        targets_run env (more_steps y ys) (lent (step_seen x)) z q new c over st (ap (is_gone new) (sym is) ∙ step_keeps new false 0 x (new + 1 + 1) w g (omega arith) (unnamed_wait k new over.slots (gives_of z) st.falls) refl ∙ there) suits.2 cl)
        (λ c. next_free k (lent (step_seen x)) (stands_waiting k z st) c)

    -- the place of a set gets what stands in h, and h what it held
    place_runs : (env : Env) (pl : Expr) (z : Ty) (p h : ℕ) (s : Stand) → Stands k env h s → place_suits k.parts k.code fs env z pl → Clean (place_code a pl (gives_of z) p h (scope_at s) s.gone)
        → Runs k p (place_code a pl (gives_of z) p h (scope_at s) s.gone) (place_stands pl z h s) (holding h z s) (ending (place_after pl (gives_of z) h (scope_at s) s.gone) (λ g. holding h z (with_gone g s)))
    place_runs env (expr x (name n is_outer moved)) z p h s st suits clean = exchange_runs k env h s st n.name.0 z (local_named st suits) (gives_of z) clean
    place_runs env (expr x (steps e1 no_steps)) z p h s st suits clean = absurd suits
    place_runs env (expr x (steps e1 (more_steps y no_steps))) z p h s st suits clean =
        let w = waiting h (gives_of z) ∷ scope_at s in
        runs_from k (says_role k waits h z st.falls)
        (start_runs env e1 (step_view y) (λ n. step_changes n y) p (h + 1) (with_waiting h z s) (λ o place j g. swap_code a o y place h j w g) (λ j u. swap_stands y z h j s u) (λ j g. step_after y j w g) (λ g. holding h z (with_gone g s)) (stands_waiting k z st) suits.0
        (λ r n j lt u still le. step_keeps r true n y j w (without h s.gone) (omega (arith, lt, le)) u still)
        (λ o q j g t from kept leads cl. set_runs env y o z q h j g s t st (kept h (omega arith) (unnamed_wait k h s.slots (gives_of z) st.falls) ∙ not_gone h s.gone) from leads suits.1 cl) clean)
    place_runs env (expr x (steps e1 (more_steps y (more_steps v vs)))) z p h s st suits clean =
        let w = waiting h (gives_of z) ∷ scope_at s in
        let inner = with_waiting h z s in
        runs_from k (says_role k waits h z st.falls)
        (then_runs_known k (start_after e1 (step_view y) (λ n. step_changes n y) (h + 1) w (without h s.gone) (λ j g. step_after y j w g)) p (h + 2)
        (start_code a e1 (step_view y) (λ n. step_changes n y) p (h + 1) w (without h s.gone) (λ o place j g. step_code a o y place (h + 1) j w g))
        (start_stands e1 (step_view y) (λ n. step_changes n y) (h + 1) inner (λ j u. step_stands y (h + 1) j inner u) (λ j g. step_after y j w g) (λ g. holding (h + 1) (lent (step_seen y)) (with_gone g inner)))
        (λ place g. targets_code a (more_steps v vs) place h (h + 1) w g) (λ g. holding (h + 1) (lent (step_seen y)) (with_gone g inner)) (λ g. targets_stands (lent (step_seen y)) (more_steps v vs) z h (h + 1) s (with_gone g inner)) (λ g. targets_after (more_steps v vs) (h + 1) w g) (λ g. holding h z (with_gone g s)) inner clean
        (λ cl.
        start_runs env e1 (step_view y) (λ n. step_changes n y) p (h + 1) inner (λ o place j g. step_code a o y place (h + 1) j w g) (λ j u. step_stands y (h + 1) j inner u) (λ j g. step_after y j w g) (λ g. holding (h + 1) (lent (step_seen y)) (with_gone g inner)) (stands_waiting k z st) suits.0
        (λ r n j lt u still le. step_keeps r true n y j w (without h s.gone) (omega (arith, lt, le)) u still)
        (λ o q j g t from kept leads cl. step_runs env y o q (h + 1) j g inner t (stands_gone k g (stands_waiting k z st)) from leads suits.1 cl) cl)
        (λ g q is cl. targets_run env (more_steps v vs) (lent (step_seen y)) z q h g s st (still_started env e1 y z h g s st is) suits.2 cl)
        (λ g. two_free (lent (step_seen y)) z st g))
    place_runs env (expr x (set at2 u v)) z p h s st suits clean = absurd suits
    place_runs env (expr x (chain u ls)) z p h s st suits clean = absurd suits
    place_runs env (expr x (unary at2 o u)) z p h s st suits clean = absurd suits
    place_runs env (expr x (number at2 n)) z p h s st suits clean = absurd suits
    place_runs env (expr x (quote at2 text)) z p h s st suits clean = absurd suits
    place_runs env (expr x (truth at2 v)) z p h s st suits clean = absurd suits
    place_runs env (expr x (call n f es)) z p h s st suits clean = absurd suits
    place_runs env (expr x (paren at2 u)) z p h s st suits clean = absurd suits
    place_runs env (expr x (array at2 w es)) z p h s st suits clean = absurd suits
    place_runs env (expr x (iso at2 bl)) z p h s st suits clean = absurd suits
    place_runs env (expr x (form f)) z p h s st suits clean = absurd suits

    pub args_run : (env : Env) (es : Exprs) (p h : ℕ) (s : Stand) → Stands k env h s → exprs_suit k.parts k.code fs env es → Clean (args_code a es p h (scope_at s) s.gone)
        → Runs k p (args_code a es p h (scope_at s) s.gone) (args_stands es h s) s (ending (args_after es h (scope_at s) s.gone) (λ g. with_gone g (with_args es h s)))
    args_run env no_exprs p h s st suits clean = runs_less k (nothing k p s) (says_still k s)
    args_run env (more_exprs e1 es) p h s st suits clean =
        chosen k (is_value (gives_of (type e1))) h clean
        (λ some cl.
        then_runs k (expr_after e1 h (scope_at s) s.gone) p (h + 1) (expr_code a e1 p h (scope_at s) s.gone) (expr_stands e1 h s) (λ place g. args_code a es place (h + 1) (waiting h (gives_of (type e1)) ∷ scope_at s) (without h g))
        (λ g. with_waiting h (type e1) (with_gone g s)) (λ g. args_stands es (h + 1) (with_waiting h (type e1) (with_gone g s))) (λ g. args_after es (h + 1) (waiting h (gives_of (type e1)) ∷ scope_at s) (without h g)) (λ g. with_gone g (with_args (more_exprs e1 es) h s)) s cl
        (λ cl. ends_less k (expr_after e1 h (scope_at s) s.gone) (λ g. says_role k waits h (type e1) st.falls) (value_runs env e1 p h s some st suits.0 cl))
        (λ g r cl.
        ends_less k (args_after es (h + 1) (waiting h (gives_of (type e1)) ∷ scope_at s) (without h g))
        (λ c. subst (λ u. Says k u (with_gone c (with_args (more_exprs e1 es) h s))) (args_gone es (h + 1) (with_waiting h (type e1) s) (with_waiting h (type e1) (with_gone g s)) c refl refl) (says_same k (with_gone c (with_args (more_exprs e1 es) h s))))
        (args_run env es r (h + 1) (with_waiting h (type e1) (with_gone g s)) (stands_waiting k (type e1) (stands_gone k g st)) suits.1 cl))
        (λ g. wait_free (type e1) st g))

    pub links_run : (env : Env) (t x : Ty) (ls : Links) (p h : ℕ) (s : Stand) → Stands k env h s → links_suit k.parts k.code fs env t x ls → Clean (links_code a ls p h (scope_at s) s.gone) → LinksRun t x ls p h s
    links_run env t x no_links p h s st suits clean = runs_less k (nothing k p (holding h t s)) (subst (λ z. Says k (holding h t s) (holding h z (with_gone s.gone s))) (sym suits) (says_holding k h t (says_still k s)))
    links_run env t x (more_links (link z at op e) ls) p h s st suits clean =
        chosen k (agree copy (gives_of (type e))) h clean
        (λ some c.
        let same = chain_type k.parts k.code fs env z.value x ls z refl suits.3 in
        subst (λ w. Runs k p (then_code p (h + 1) (link_code op z.value at (λ place h g. expr_code a e place h (scope_at s) g) (λ h g. expr_after e h (scope_at s) g) p h (scope_at s) s.gone) (link_after op (λ h g. expr_after e h (scope_at s) g) h s.gone) (λ place g. links_code a ls place h (scope_at s) g)) (links_stands t (more_links (link z at op e) ls) h s) (holding h t s) (ending (links_after (more_links (link z at op e) ls) h (scope_at s) s.gone) (λ g. holding h w (with_gone g s)))) same
        (then_runs k (link_after op (λ h g. expr_after e h (scope_at s) g) h s.gone) p (h + 1) (link_code op z.value at (λ place h g. expr_code a e place h (scope_at s) g) (λ h g. expr_after e h (scope_at s) g) p h (scope_at s) s.gone) (link_stands op t (type e) z.value (λ h s. expr_stands e h s) (λ h g. expr_after e h (scope_at s) g) h s)
        (λ place g. links_code a ls place h (scope_at s) g) (λ g. holding h z.value (with_gone g s)) (λ g. links_stands z.value ls h (with_gone g s)) (λ g. links_after ls h (scope_at s) g) (λ g. holding h (chain_seen z ls).value (with_gone g s)) (holding h t s) c
        (λ c. link_runs k env h s st t (type e) z.value at (λ place h g. expr_code a e place h (scope_at s) g) (λ h s. expr_stands e h s) (λ h g. expr_after e h (scope_at s) g) op suits.0 suits.1
        (λ p c. value_runs env e p (h + 1) (holding h t s) (copy_value (type e) some) (stands_holding k t (operands_plain k.parts op t (type e) suits.0).first st) suits.2 c)
        (λ p c. value_runs env e p h s (copy_value (type e) some) st suits.2 c) c)
        (λ g q c. subst (λ w. Runs k q (links_code a ls q h (scope_at s) g) (links_stands z.value ls h (with_gone g s)) (holding h z.value (with_gone g s)) (ending (links_after ls h (scope_at s) g) (λ g. holding h w (with_gone g s)))) (sym same) (links_run env z.value x ls q h (with_gone g s) (stands_gone k g st) suits.3 c))
        (λ g. next_free k z.value st g)))

    pub form_runs : (env : Env) (f : Form) (x : Ty) (q : Gives) (p h : ℕ) (s : Stand) → q ≡ gives_of x → Stands k env h s → form_suits k.parts k.code fs env x f → Clean (form_code a x q f p h (scope_at s) s.gone)
        → Runs k p (form_code a x q f p h (scope_at s) s.gone) (form_stands x f h s) s (ending (form_after f h (scope_at s) s.gone) (λ g. given h x (with_gone g s)))
    form_runs env (branch at e1 bl es) x q p h s e st suits clean =
        chosen k (is_value (gives_of (type e1))) h clean
        (λ some c.
        then_runs k (expr_after e1 h (scope_at s) s.gone) p (h + 1) (expr_code a e1 p h (scope_at s) s.gone) (expr_stands e1 h s)
        (λ place now. only_if (may_meet (scope_at s) (block_after bl (h + 1) (scope_at s) now) (elses_after es s.gone h (scope_at s) now)) h (sides place h (block_after bl (h + 1) (scope_at s) now) (λ place. block_code a q bl place h (h + 1) (scope_at s) now) (λ place. elses_code a q es s.gone place h (scope_at s) now)))
        (λ g. holding h (type e1) (with_gone g s))
        (λ g. sides_stands (holding h (type e1) (with_gone g s)) (block_stands bl h (h + 1) (with_gone g s)) (block_after bl (h + 1) (scope_at s) g) (λ g. given h x (with_gone g s)) (elses_stands x es s.gone h (with_gone g s)))
        (λ g. met s.gone (block_after bl (h + 1) (scope_at s) g) (elses_after es s.gone h (scope_at s) g)) (λ g. given h x (with_gone g s)) s c
        (λ c. value_runs env e1 p h s some st suits.1 c)
        (λ g r c.
        chosen k (may_meet (scope_at s) (block_after bl (h + 1) (scope_at s) g) (elses_after es s.gone h (scope_at s) g)) h c
        (λ meets c.
        sides_go k env h (with_gone g s) (stands_gone k g st) x (type e1) r (block_after bl (h + 1) (scope_at s) g) (elses_after es s.gone h (scope_at s) g) s.gone (λ place. block_code a q bl place h (h + 1) (scope_at s) g) (λ place. elses_code a q es s.gone place h (scope_at s) g)
        (block_stands bl h (h + 1) (with_gone g s)) (elses_stands x es s.gone h (with_gone g s)) suits.0 meets c
        (λ place c. block_runs env bl x q place h (h + 1) (with_gone g s) e (omega arith) (λ v g. nothing_above k h s.slots g h st.falls (omega arith)) (stands_up k (h + 1) (omega arith) (stands_gone k g st)) suits.2 c)
        (λ place c. elses_run env es x q s.gone place h (with_gone g s) e (stands_gone k g st) suits.3 c)))
        (λ g. next_free k (type e1) st g))
    form_runs env (pure at bl) x q p h s e st suits clean = absurd suits
    form_runs env (parallel_range at n e1 e2 bl) x q p h s e st suits clean = absurd suits
    form_runs env (parallel_each at n e1 bl) x q p h s e st suits clean = absurd suits

    pub elses_run : (env : Env) (es : Elses) (x : Ty) (q : Gives) (before : Gone) (p h : ℕ) (s : Stand) → q ≡ gives_of x → Stands k env h s → elses_suit k.parts k.code fs env x es → Clean (elses_code a q es before p h (scope_at s) s.gone)
        → Runs k p (elses_code a q es before p h (scope_at s) s.gone) (elses_stands x es before h s) s (ending (elses_after es before h (scope_at s) s.gone) (λ g. given h x (with_gone g s)))
    elses_run env no_else x q before p h s e st suits clean =
        chosen k (agree q void) h clean (λ t c. subst (λ z. Runs k p [] [] s (falls (given h z (with_gone s.gone s)))) (sym suits) (runs_less k (nothing k p s) (says_still k s)))
    elses_run env (otherwise bl) x q before p h s e st suits clean =
        block_runs env bl x q p h (h + 1) s e (omega arith) (λ v g. nothing_above k h s.slots g h st.falls (omega arith)) (stands_up k (h + 1) (omega arith) st) suits clean
    elses_run env (more_elses (else_if at e1 bl) es) x q before p h s e st suits clean =
        chosen k (is_value (gives_of (type e1))) h clean
        (λ some c.
        then_runs k (expr_after e1 h (scope_at s) s.gone) p (h + 1) (expr_code a e1 p h (scope_at s) s.gone) (expr_stands e1 h s)
        (λ place g. only_if (may_meet (scope_at s) (block_after bl (h + 1) (scope_at s) g) (elses_after es before h (scope_at s) g)) h (sides place h (block_after bl (h + 1) (scope_at s) g) (λ place. block_code a q bl place h (h + 1) (scope_at s) g) (λ place. elses_code a q es before place h (scope_at s) g)))
        (λ g. holding h (type e1) (with_gone g s))
        (λ g. sides_stands (holding h (type e1) (with_gone g s)) (block_stands bl h (h + 1) (with_gone g s)) (block_after bl (h + 1) (scope_at s) g) (λ g. given h x (with_gone g s)) (elses_stands x es before h (with_gone g s)))
        (λ g. met before (block_after bl (h + 1) (scope_at s) g) (elses_after es before h (scope_at s) g)) (λ g. given h x (with_gone g s)) s c
        (λ c. value_runs env e1 p h s some st suits.1 c)
        (λ g r c.
        chosen k (may_meet (scope_at s) (block_after bl (h + 1) (scope_at s) g) (elses_after es before h (scope_at s) g)) h c
        (λ meets c.
        sides_go k env h (with_gone g s) (stands_gone k g st) x (type e1) r (block_after bl (h + 1) (scope_at s) g) (elses_after es before h (scope_at s) g) before (λ place. block_code a q bl place h (h + 1) (scope_at s) g) (λ place. elses_code a q es before place h (scope_at s) g)
        (block_stands bl h (h + 1) (with_gone g s)) (elses_stands x es before h (with_gone g s)) suits.0 meets c
        (λ place c. block_runs env bl x q place h (h + 1) (with_gone g s) e (omega arith) (λ v g. nothing_above k h s.slots g h st.falls (omega arith)) (stands_up k (h + 1) (omega arith) (stands_gone k g st)) suits.2 c)
        (λ place c. elses_run env es x q before place h (with_gone g s) e (stands_gone k g st) suits.3 c)))
        (λ g. next_free k (type e1) st g))

    pub block_runs : (env : Env) (bl : Block) (x : Ty) (q : Gives) (p to h : ℕ) (s : Stand) → q ≡ gives_of x → to < h → (y.is_void x ≡ false → Fresh k to s) → Stands k env h s → block_suits k.parts k.code fs env x bl → Clean (block_code a q bl p to h (scope_at s) s.gone)
        → Runs k p (block_code a q bl p to h (scope_at s) s.gone) (block_stands bl to h s) s (ending (block_after bl h (scope_at s) s.gone) (λ g. given to x (with_gone g s)))
    block_runs env (block at end z ss) x q p to h s e lt fresh st suits clean =
        subst (λ w. Runs k p (stmts_code a q end ss p to h (scope_at s) s.gone) (stmts_stands w ss to h s) s (ending (stmts_after ss h (scope_at s) s.gone) (λ g. given to x (with_gone g s)))) (sym suits.0)
        (stmts_run env ss x q end p to h s e lt fresh st suits.1 clean)

    pub stmts_run : (env : Env) (ss : Stmts) (x : Ty) (q : Gives) (end : Spot) (p to h : ℕ) (s : Stand) → q ≡ gives_of x → to < h → (y.is_void x ≡ false → Fresh k to s) → Stands k env h s → stmts_suit k.parts k.code fs env x ss → Clean (stmts_code a q end ss p to h (scope_at s) s.gone)
        → Runs k p (stmts_code a q end ss p to h (scope_at s) s.gone) (stmts_stands x ss to h s) s (ending (stmts_after ss h (scope_at s) s.gone) (λ g. given to x (with_gone g s)))
    stmts_run env no_stmts x q end p to h s e lt fresh st suits clean =
        chosen k (agree q void) h clean (λ t c. subst (λ z. Runs k p [] [] s (falls (given to z (with_gone s.gone s)))) (sym suits) (runs_less k (nothing k p s) (says_still k s)))
    stmts_run env (last e1) x q end p to h s e lt fresh st suits clean =
        chosen k (agree q (gives_of (type e1))) h clean
        (λ t c.
        comes_runs k (expr_after e1 h (scope_at s) s.gone) p (expr_code a e1 p h (scope_at s) s.gone) (expr_stands e1 h s) (λ place g. hand q to h) (λ g. given h (type e1) (with_gone g s)) (λ g. hand_stands (type e1) (holding h (type e1) (with_gone g s))) (λ g. given to x (with_gone g s)) s c
        (λ c. expr_runs env e1 p h s st suits.1 c)
        (λ g r c.
        subst (λ z. Runs k r (hand z to h) (hand_stands (type e1) (holding h (type e1) (with_gone g s))) (given h (type e1) (with_gone g s)) (falls (given to x (with_gone g s)))) (sym e)
        (subst (λ z. Runs k r (hand (gives_of x) to h) (hand_stands z (holding h z (with_gone g s))) (given h z (with_gone g s)) (falls (given to x (with_gone g s)))) (sym suits.0)
        (hand_runs k env h (with_gone g s) (stands_gone k g st) to lt x fresh))))
    stmts_run env (more_stmts (declare n z e1) ss) x q end p to h s e lt fresh st suits clean =
        chosen k (is_value (gives_of (type e1)) && is_value (gives_of z)) h clean
        (λ t c.
        let some = and_parts (is_value (gives_of (type e1))) (is_value (gives_of z)) t in
        then_runs k (expr_after e1 h (scope_at s) s.gone) p (h + 1) (expr_code a e1 p h (scope_at s) s.gone) (expr_stands e1 h s)
        (λ place g. if_comes place (stmts_code a q end ss place to (h + 1) (entry n.name.0 h (gives_of z) ∷ scope_at s) (without h g)) (stmts_after ss (h + 1) (entry n.name.0 h (gives_of z) ∷ scope_at s) (without h g)) (λ place g. drop_entry (entry n.name.0 h (gives_of z)) g end))
        (λ g. with_local n.name.0 h z (with_gone g s))
        (λ g. comes_stands (stmts_stands x ss to (h + 1) (with_local n.name.0 h z (with_gone g s))) (stmts_after ss (h + 1) (entry n.name.0 h (gives_of z) ∷ scope_at s) (without h g)) (λ g. drop_local z h (given to x (with_gone g (with_local n.name.0 h z s)))))
        (λ g. stmts_after ss (h + 1) (entry n.name.0 h (gives_of z) ∷ scope_at s) (without h g)) (λ g. given to x (with_gone g s)) s c
        (λ c. ends_less k (expr_after e1 h (scope_at s) s.gone) (λ g. subst (λ w. Says k (holding h (type e1) (with_gone g s)) (with_local n.name.0 h w (with_gone g s))) (sym suits.0.0) (says_role k (local n.name.0) h (type e1) st.falls)) (value_runs env e1 p h s some.0 st suits.0.1 c))
        (λ g r c.
        comes_runs k (stmts_after ss (h + 1) (entry n.name.0 h (gives_of z) ∷ scope_at s) (without h g)) r (stmts_code a q end ss r to (h + 1) (entry n.name.0 h (gives_of z) ∷ scope_at s) (without h g)) (stmts_stands x ss to (h + 1) (with_local n.name.0 h z (with_gone g s)))
        (λ place g. drop_entry (entry n.name.0 h (gives_of z)) g end) (λ g. given to x (with_gone g (with_local n.name.0 h z s))) (λ g. drop_local z h (given to x (with_gone g (with_local n.name.0 h z s)))) (λ g. given to x (with_gone g s)) (with_local n.name.0 h z (with_gone g s)) c
        (λ c. stmts_run (env_with_local n z env) ss x q end r to (h + 1) (with_local n.name.0 h z (with_gone g s)) e (omega (arith, lt)) (λ v. fresh_slot k to (with_gone g s) n.name.0 h z (omega (arith, lt)) (fresh v)) (stands_local k n z g st) suits.1 c)
        (λ g r c. scope_ends k env h s st n.name.0 z g to lt x end))
        (λ g. local_free n.name.0 z st g))
    stmts_run env (more_stmts (destructure at ns zs e1) ss) x q end p to h s e lt fresh st suits clean =
        chosen k (is_value (gives_of (type e1))) h clean
        (λ some cl.
        then_runs k (expr_after e1 h (scope_at s) s.gone) p (h + 1) (expr_code a e1 p h (scope_at s) s.gone) (expr_stands e1 h s)
        (λ place g. i.Open (registers_from h (length (numbers_of ns))) h ∷ locals_code (numbers_of ns) (all_gives zs) end (place + 1) h (scope_at s) g (λ h s g. stmts_after ss h s g) (λ place h s g. stmts_code a q end ss place to h s g))
        (λ g. holding h (type e1) (with_gone g s))
        (λ g. holding h (type e1) (with_gone g s) ∷ locals_stands (numbers_of ns) zs h (with_gone g s) (λ h s. stmts_stands x ss to h s) (λ h s g. stmts_after ss h s g) (λ s. given to x s))
        (λ g. locals_after (numbers_of ns) (all_gives zs) h (scope_at s) g (λ h s g. stmts_after ss h s g)) (λ g. given to x (with_gone g s)) s cl
        (λ cl. value_runs env e1 p h s some st suits.0.1 cl)
        (λ g r cl.
        both k {a = i.Open (registers_from h (length (numbers_of ns))) h ∷ []} {b = locals_code (numbers_of ns) (all_gives zs) end (r + 1) h (scope_at s) g (λ h s g. stmts_after ss h s g) (λ place h s g. stmts_code a q end ss place to h s g)} {ma = holding h (type e1) (with_gone g s) ∷ []}
        {mb = locals_stands (numbers_of ns) zs h (with_gone g s) (λ h s. stmts_stands x ss to h s) (λ h s g. stmts_after ss h s g) (λ s. given to x s)}
        (opens_run k env h (with_gone g s) (stands_gone k g st) (numbers_of ns) zs (type e1) fs (locals_alike (numbers_of ns) zs end (r + 1) h (scope_at s) g (λ h s g. stmts_after ss h s g) (λ place h s g. stmts_code a q end ss place to h s g) cl) suits.0.0)
        (locals_run k to x end (λ place h s g. stmts_code a q end ss place to h s g) (λ h s. stmts_stands x ss to h s) (λ h s g. stmts_after ss h s g) ns zs env (r + 1) h (with_gone g s) (stands_gone k g st) lt fresh
        (λ r j u st lt fresh cl. stmts_run (with_locals ns zs env) ss x q end r to j u e lt fresh st suits.1 cl) cl))
        (λ g. next_free k (type e1) st g))
    stmts_run env (more_stmts (return_nothing at) ss) x q end p to h s e lt fresh st suits clean = after_stmt env (return_nothing at) ss x q end p to h s st clean (λ c. stmt_runs env (return_nothing at) p h s st suits.0 c) (λ g r c. stmts_run env ss x q end r to h (with_gone g s) e lt fresh (stands_gone k g st) suits.1 c)
    stmts_run env (more_stmts (return_value at e1) ss) x q end p to h s e lt fresh st suits clean = after_stmt env (return_value at e1) ss x q end p to h s st clean (λ c. stmt_runs env (return_value at e1) p h s st suits.0 c) (λ g r c. stmts_run env ss x q end r to h (with_gone g s) e lt fresh (stands_gone k g st) suits.1 c)
    stmts_run env (more_stmts (while at e1 bl) ss) x q end p to h s e lt fresh st suits clean = after_stmt env (while at e1 bl) ss x q end p to h s st clean (λ c. stmt_runs env (while at e1 bl) p h s st suits.0 c) (λ g r c. stmts_run env ss x q end r to h (with_gone g s) e lt fresh (stands_gone k g st) suits.1 c)
    stmts_run env (more_stmts (foreach at n e1 e2 bl) ss) x q end p to h s e lt fresh st suits clean = after_stmt env (foreach at n e1 e2 bl) ss x q end p to h s st clean (λ c. stmt_runs env (foreach at n e1 e2 bl) p h s st suits.0 c) (λ g r c. stmts_run env ss x q end r to h (with_gone g s) e lt fresh (stands_gone k g st) suits.1 c)
    stmts_run env (more_stmts (form_stmt f) ss) x q end p to h s e lt fresh st suits clean = after_stmt env (form_stmt f) ss x q end p to h s st clean (λ c. stmt_runs env (form_stmt f) p h s st suits.0 c) (λ g r c. stmts_run env ss x q end r to h (with_gone g s) e lt fresh (stands_gone k g st) suits.1 c)
    stmts_run env (more_stmts (express e1) ss) x q end p to h s e lt fresh st suits clean = after_stmt env (express e1) ss x q end p to h s st clean (λ c. stmt_runs env (express e1) p h s st suits.0 c) (λ g r c. stmts_run env ss x q end r to h (with_gone g s) e lt fresh (stands_gone k g st) suits.1 c)

    pub stmt_runs : (env : Env) (z : Stmt) (p h : ℕ) (s : Stand) → Stands k env h s → stmt_suits k.parts k.code fs env z → Clean (stmt_code a z p h (scope_at s) s.gone)
        → Runs k p (stmt_code a z p h (scope_at s) s.gone) (stmt_stands z h s) s (ending (stmt_after z h (scope_at s) s.gone) (λ g. with_gone g s))
    stmt_runs env (declare n z e1) p h s st suits clean = absurd (cc)
    stmt_runs env (destructure at ns zs e1) p h s st suits clean = absurd (cc)
    stmt_runs env (return_nothing at) p h s st suits clean =
        chosen k (agree a.gives void) h clean (λ t cl. leaves k h s at p st.falls st.sits st.depth (c.typed ∙ ap (code_type k.parts) (void_of k.result (sym c.sort ∙ agree_is a.gives void t))))
    stmt_runs env (return_value at e1) p h s st suits clean =
        chosen k (is_value (gives_of (type e1)) && agree a.gives (gives_of (type e1))) h clean
        (λ t cl.
        let some = and_parts (is_value (gives_of (type e1))) (agree a.gives (gives_of (type e1))) t in
        subst (λ e. Runs k p (if_comes p (expr_code a e1 p h (scope_at s) s.gone) (expr_after e1 h (scope_at s) s.gone) (λ place g. drop_scope (scope_at s) g at ++ (i.Ret h ∷ []))) (stmt_stands (return_value at e1) h s) s e) (sym (ending_none k (expr_after e1 h (scope_at s) s.gone) (λ g. with_gone g s)))
        (comes_stops k (expr_after e1 h (scope_at s) s.gone) p (expr_code a e1 p h (scope_at s) s.gone) (expr_stands e1 h s) (λ place g. drop_scope (scope_at s) g at ++ (i.Ret h ∷ [])) (λ g. given h (type e1) (with_gone g s)) (λ g. leave_stands h (type e1) (with_gone g s)) s cl
        (λ cl. expr_runs env e1 p h s st suits.1 cl)
        (λ g r cl. leaves_with k h (type e1) (with_gone g s) at r st.falls st.sits st.depth (value_some (type e1) some.0) (c.typed ∙ ap (code_type k.parts) (sym (suits.0 ∙ st.gives))))))
    stmt_runs env (while at e1 bl) p h s st suits clean =
        chosen k (is_value (gives_of (type e1)) && (closes (scope_at s) s.gone (expr_after e1 h (scope_at s) s.gone) && closes (scope_at s) s.gone (block_after bl (h + 1) (scope_at s) s.gone))) h clean
        (λ t c.
        let some = and_parts (is_value (gives_of (type e1))) (closes (scope_at s) s.gone (expr_after e1 h (scope_at s) s.gone) && closes (scope_at s) s.gone (block_after bl (h + 1) (scope_at s) s.gone)) t in
        let back = and_parts (closes (scope_at s) s.gone (expr_after e1 h (scope_at s) s.gone)) (closes (scope_at s) s.gone (block_after bl (h + 1) (scope_at s) s.gone)) some.1 in
        turns_go k env h s st (type e1) (expr_after e1 h (scope_at s) s.gone) (block_after bl (h + 1) (scope_at s) s.gone) p (λ place. expr_code a e1 place h (scope_at s) s.gone) (λ place. block_code a void bl place h (h + 1) (scope_at s) s.gone) (expr_stands e1 h s) (block_stands bl h (h + 1) s) suits.0 back.0 back.1 c
        (λ place c. value_runs env e1 place h s some.0 st suits.1 c)
        (λ place c. block_runs env bl y.void void place h (h + 1) s refl (omega arith) (λ v g. nothing_above k h s.slots g h st.falls (omega arith)) (stands_up k (h + 1) (omega arith) st) suits.2 c))
    stmt_runs env (foreach at n e1 e2 bl) p h s st suits clean =
        chosen k (is_value (gives_of (type e1)) && is_value (gives_of (type e2))) h clean
        (λ t cl.
        let some = and_parts (is_value (gives_of (type e1))) (is_value (gives_of (type e2))) t in
        then_runs k (expr_after e1 h (scope_at s) s.gone) p (h + 1) (expr_code a e1 p h (scope_at s) s.gone) (expr_stands e1 h s)
        (λ place g. then_code place (h + 2) (expr_code a e2 place (h + 1) (scope_at s) g) (expr_after e2 (h + 1) (scope_at s) g) (λ place g. number_code n bl at place h s g)) (λ g. holding h (type e1) (with_gone g s))
        (λ g. then_stands (h + 2) (expr_stands e2 (h + 1) (holding h (type e1) (with_gone g s))) (expr_after e2 (h + 1) (scope_at s) g) (λ g. holding (h + 1) (type e2) (holding h (type e1) (with_gone g s))) (λ g. number_marks n bl h (with_gone g s) (type e1) (type e2)) (λ g. comes g) (λ g. with_gone g s))
        (λ g. expr_after e2 (h + 1) (scope_at s) g) (λ g. with_gone g s) s cl
        (λ cl. value_runs env e1 p h s some.0 st suits.2 cl)
        (λ g r cl.
        let above = stands_holding k (type e1) (ap y.is_owned suits.0) (stands_gone k g st) in
        subst (λ d. Runs k r (then_code r (h + 2) (expr_code a e2 r (h + 1) (scope_at s) g) (expr_after e2 (h + 1) (scope_at s) g) (λ place g. number_code n bl at place h s g)) (then_stands (h + 2) (expr_stands e2 (h + 1) (holding h (type e1) (with_gone g s))) (expr_after e2 (h + 1) (scope_at s) g) (λ g. holding (h + 1) (type e2) (holding h (type e1) (with_gone g s))) (λ g. number_marks n bl h (with_gone g s) (type e1) (type e2)) (λ g. comes g) (λ g. with_gone g s)) (holding h (type e1) (with_gone g s)) d) (then_comes (expr_after e2 (h + 1) (scope_at s) g) (λ g. with_gone g s))
        (then_runs k (expr_after e2 (h + 1) (scope_at s) g) r (h + 2) (expr_code a e2 r (h + 1) (scope_at s) g) (expr_stands e2 (h + 1) (holding h (type e1) (with_gone g s))) (λ place g. number_code n bl at place h s g) (λ g. holding (h + 1) (type e2) (holding h (type e1) (with_gone g s)))
        (λ g. number_marks n bl h (with_gone g s) (type e1) (type e2)) (λ g. comes g) (λ g. with_gone g s) (holding h (type e1) (with_gone g s)) cl
        (λ cl. value_runs env e2 r (h + 1) (holding h (type e1) (with_gone g s)) some.1 above suits.3 cl)
        (λ c q cl.
        numbers_run env n bl at q h (with_gone c s) (stands_gone k c st) (type e1) (type e2) suits.0 suits.1 cl
        (λ q cl. block_runs (env_with_local n y.int env) bl y.void void q h (h + 2 + 1) (with_local n.name.0 (h + 2) y.int (counted h (with_gone c s))) refl (omega arith) (λ v. absurd (cc)) (stands_local k n y.int c (stands_up k (h + 2) (omega arith) (stands_holding k y.int refl (stands_holding k y.int refl (stands_gone k c st))))) suits.4 cl))
        (λ c. third_free (type e1) (type e2) st c)))
        (λ g. next_free k (type e1) st g))
    stmt_runs env (form_stmt f) p h s st suits clean = form_runs env f y.void void p h s refl st suits clean
    stmt_runs env (express (expr x (set at (expr z (name n is_outer moved)) e1))) p h s st suits clean =
        chosen k (is_value (gives_of (type e1)) && agree (gives_of x.value) (gives_of (type e1))) h clean
        (λ t cl.
        let some = and_parts (is_value (gives_of (type e1))) (agree (gives_of x.value) (gives_of (type e1))) t in
        subst (λ e. Runs k p (if_comes p (expr_code a e1 p h (scope_at s) s.gone) (expr_after e1 h (scope_at s) s.gone) (λ place g. store (find n.name.0 (scope_at s)) g (gives_of (type e1)) h at)) (comes_stands (expr_stands e1 h s) (expr_after e1 h (scope_at s) s.gone) (λ g. store_stands (find n.name.0 (scope_at s)) (type e1) h (with_gone g s))) s e) (sym (then_comes (expr_after e1 h (scope_at s) s.gone) (λ g. with_gone g s)))
        (comes_runs k (expr_after e1 h (scope_at s) s.gone) p (expr_code a e1 p h (scope_at s) s.gone) (expr_stands e1 h s) (λ place g. store (find n.name.0 (scope_at s)) g (gives_of (type e1)) h at) (λ g. holding h (type e1) (with_gone g s)) (λ g. store_stands (find n.name.0 (scope_at s)) (type e1) h (with_gone g s)) (λ g. with_gone g s) s cl
        (λ cl. value_runs env e1 p h s some.0 st suits.2 cl)
        (λ g r cl. store_runs k env h (with_gone g s) (stands_gone k g st) n.name.0 (type e1) (local_named (stands_gone k g st) suits.0) at (gives_of (type e1)) cl)))
    stmt_runs env (express (expr x (set at (expr z (set at2 u v)) e1))) p h s st suits clean = absurd suits.0
    stmt_runs env (express (expr x (set at (expr z (chain u ls)) e1))) p h s st suits clean = absurd suits.0
    stmt_runs env (express (expr x (set at (expr z (unary at2 o u)) e1))) p h s st suits clean = absurd suits.0
    stmt_runs env (express (expr x (set at (expr z (steps u ss)) e1))) p h s st suits clean = unused_stmt (expr x (set at (expr z (steps u ss)) e1)) p h s st clean (λ cl. expr_runs env (expr x (set at (expr z (steps u ss)) e1)) p h s st suits cl)
    stmt_runs env (express (expr x (set at (expr z (number at2 n)) e1))) p h s st suits clean = absurd suits.0
    stmt_runs env (express (expr x (set at (expr z (quote at2 text)) e1))) p h s st suits clean = absurd suits.0
    stmt_runs env (express (expr x (set at (expr z (truth at2 v)) e1))) p h s st suits clean = absurd suits.0
    stmt_runs env (express (expr x (set at (expr z (call n f es)) e1))) p h s st suits clean = absurd suits.0
    stmt_runs env (express (expr x (set at (expr z (paren at2 u)) e1))) p h s st suits clean = absurd suits.0
    stmt_runs env (express (expr x (set at (expr z (array at2 w es)) e1))) p h s st suits clean = absurd suits.0
    stmt_runs env (express (expr x (set at (expr z (iso at2 bl)) e1))) p h s st suits clean = absurd suits.0
    stmt_runs env (express (expr x (set at (expr z (form f)) e1))) p h s st suits clean = absurd suits.0
    stmt_runs env (express (expr x (number at n))) p h s st suits clean = unused_stmt (expr x (number at n)) p h s st clean (λ cl. expr_runs env (expr x (number at n)) p h s st suits cl)
    stmt_runs env (express (expr x (quote at text))) p h s st suits clean = unused_stmt (expr x (quote at text)) p h s st clean (λ cl. expr_runs env (expr x (quote at text)) p h s st suits cl)
    stmt_runs env (express (expr x (truth at v))) p h s st suits clean = unused_stmt (expr x (truth at v)) p h s st clean (λ cl. expr_runs env (expr x (truth at v)) p h s st suits cl)
    stmt_runs env (express (expr x (name n is_outer moved))) p h s st suits clean = unused_stmt (expr x (name n is_outer moved)) p h s st clean (λ cl. expr_runs env (expr x (name n is_outer moved)) p h s st suits cl)
    stmt_runs env (express (expr x (paren at e1))) p h s st suits clean = unused_stmt (expr x (paren at e1)) p h s st clean (λ cl. expr_runs env (expr x (paren at e1)) p h s st suits cl)
    stmt_runs env (express (expr x (chain e1 ls))) p h s st suits clean = unused_stmt (expr x (chain e1 ls)) p h s st clean (λ cl. expr_runs env (expr x (chain e1 ls)) p h s st suits cl)
    stmt_runs env (express (expr x (unary at o e1))) p h s st suits clean = unused_stmt (expr x (unary at o e1)) p h s st clean (λ cl. expr_runs env (expr x (unary at o e1)) p h s st suits cl)
    stmt_runs env (express (expr x (call n f es))) p h s st suits clean = unused_stmt (expr x (call n f es)) p h s st clean (λ cl. expr_runs env (expr x (call n f es)) p h s st suits cl)
    stmt_runs env (express (expr x (form f))) p h s st suits clean = unused_stmt (expr x (form f)) p h s st clean (λ cl. expr_runs env (expr x (form f)) p h s st suits cl)
    stmt_runs env (express (expr x (steps e1 ss))) p h s st suits clean = unused_stmt (expr x (steps e1 ss)) p h s st clean (λ cl. expr_runs env (expr x (steps e1 ss)) p h s st suits cl)
    stmt_runs env (express (expr x (array at z es))) p h s st suits clean = unused_stmt (expr x (array at z es)) p h s st clean (λ cl. expr_runs env (expr x (array at z es)) p h s st suits cl)
    stmt_runs env (express (expr x (iso at bl))) p h s st suits clean = unused_stmt (expr x (iso at bl)) p h s st clean (λ cl. expr_runs env (expr x (iso at bl)) p h s st suits cl)
