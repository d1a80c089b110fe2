-- The body of a function whose types fit breaks no rule.
use Rattle.std.proofs.Common.{◌≡◌, ℕ, suc, ◌+◌, ◌≤◌, List, [], ◌∷◌, ◌++◌, length, None, refl, sym, ap, ◌∙◌, subst, arith}
use Rattle.std.proofs.lemmas.List.{length-map}
use Rattle.vale_syntax.specs.Tree.{Param, param, head}
use Rattle.vale_rules_spec.specs.Declarations.{head_params, param_type}
use Rattle.vale_rules_spec.specs.TypeRules.{head_gives}
use Rattle.vale_rules_spec.specs.Types.{Ty, type_of}
use Rattle.vale_rules_spec.specs.Types as y
use Rattle.vale_rules_spec.specs.Typed.{Function, function_body, Block, block}
use Rattle.vale_rules_spec.specs.Typing.{Env, with_params, with_local as env_with_local, entry as env_entry}
use Rattle.vale_model.specs.Kinds.{head_of, body_of}
use Rattle.vale_model.specs.Parts.{Parts, param_names}
use Rattle.vale_code.specs.Parts.{Parts as Code}
use Rattle.vale_code.specs.declared.func.Func.{Func}
use Rattle.vale_code.specs.declared.instr.Instr.{Instr}
use Rattle.vale_code.specs.declared.instr.Instr.TheVariants as i
use Rattle.vale_cert.specs.Walk.{function_fault}
use Rattle.vale_lowering.specs.Instructions.{only_if}
use Rattle.vale_lowering.specs.Scopes.{result_type}
use Rattle.vale_lowering_objects.specs.Code.{lowered_function}
use Rattle.vale_lowering_objects.specs.Lowered.{if_comes, block_after, block_code, drop_scope, param_gives_of, param_gives, result_gives}
use Rattle.vale_lowering_objects.specs.Program.{code_type, names_in, body_code, lowered_body}
use Rattle.vale_lowering_objects.specs.Scopes.{void, agree, Scope, parameters}
use Rattle.vale_object_facts.specs.Facts.{param_slots, entry_stand, body_stands, facts_for, function_facts}
use Rattle.vale_object_facts.specs.Slots.{local, Slot, Slots, scope_of, scope_at, Stand, with_gone}
use Rattle.vale_object_facts.specs.Stands.{comes_stands, leave_stands, block_stands}
use Rattle.vale_object_facts.specs.Suits.{block_suits}
use Rattle.vale_object_facts.proofs.Covering.{Site, Falls, falls_up, nothing_above}
use Rattle.vale_object_facts.proofs.Entries.{covers_entry}
use Rattle.vale_object_facts.proofs.Functions.{site, covered_is_faultless}
use Rattle.vale_object_facts.proofs.Leaving.{Sits, leaves}
use Rattle.vale_object_facts.proofs.Locals.{locals_of, Stands}
use Rattle.vale_object_facts.proofs.Parts.{agree_is, chosen}
use Rattle.vale_object_facts.proofs.Runs.{Runs, stops}
use Rattle.vale_object_facts.proofs.Tree.{Context, around_of, void_of, block_runs}
use Rattle.vale_object_facts.proofs.Ways.{Clean, comes_stops}

-- ---- parameters

abbrev slot_for : ℕ → ℕ → Ty → Slot
slot_for n r x = record { role = local n; register = r; ty = x; depth = 0 }

params_scope : (ps : List Param) (r : ℕ) (xs : Slots) → parameters r (param_names ps) (param_gives_of ps) (scope_of xs) ≡ scope_of (param_slots r ps xs)
params_scope [] r xs = refl
params_scope (param n x ∷ ps) r xs = params_scope ps (r + 1) (slot_for n.name.0 r (type_of x) ∷ xs)

params_locals : (ps : List Param) (r : ℕ) (xs : Slots) (env : Env) → env.depth ≡ 0 → env.scope ≡ locals_of xs → (with_params ps env).scope ≡ locals_of (param_slots r ps xs)
params_locals [] r xs env d e = e
params_locals (param n x ∷ ps) r xs env d e =
    params_locals ps (r + 1) (slot_for n.name.0 r (type_of x) ∷ xs) (env_with_local n (type_of x) env) d
    (ap (λ ls. record { name = n.name.0; ty = type_of x; depth = env.depth } ∷ ls) e ∙ ap (λ z. record { name = n.name.0; ty = type_of x; depth = z } ∷ locals_of xs) d)

params_depth : (ps : List Param) (env : Env) → (with_params ps env).depth ≡ env.depth
params_depth [] env = refl
params_depth (param n x ∷ ps) env = params_depth ps (env_with_local n (type_of x) env)

params_gives : (ps : List Param) (env : Env) → (with_params ps env).gives ≡ env.gives
params_gives [] env = refl
params_gives (param n x ∷ ps) env = params_gives ps (env_with_local n (type_of x) env)

params_fall : (k : Site) (ps : List Param) (r : ℕ) (xs : Slots) → Falls k r xs → Falls k (r + length (param_names ps)) (param_slots r ps xs)
params_fall k [] r xs f = falls_up k r (r + 0) xs (omega arith) f
params_fall k (param n x ∷ ps) r xs f =
    falls_up k (r + 1 + length (param_names ps)) (r + suc (length (param_names ps))) (param_slots (r + 1) ps (slot_for n.name.0 r (type_of x) ∷ xs)) (omega arith)
    (params_fall k ps (r + 1) (slot_for n.name.0 r (type_of x) ∷ xs) (omega arith, f))

params_sit : (ps : List Param) (r : ℕ) (xs : Slots) → Sits 0 xs → Sits 0 (param_slots r ps xs)
params_sit [] r xs s = s
params_sit (param n x ∷ ps) r xs s = params_sit ps (r + 1) (slot_for n.name.0 r (type_of x) ∷ xs) (refl, refl, s)

-- ---- a body

module _ (k : Site) (c : Context k) (f : Function) (gives : head_gives (head_of f) ≡ k.result) where
  abbrev count : ℕ
  count = length (names_in f)

  abbrev start : Stand
  start = entry_stand f

  below : Falls k count start.slots
  below = falls_up k (0 + count) count start.slots (omega arith) (params_fall k (head_params (head_of f)) 0 [] tt)

  starts : Stands k (env_entry (head_of f)) (count + 1) start
  starts = record {
    scope = params_locals (head_params (head_of f)) 0 [] (record { gives = head_gives (head_of f); depth = 0; scope = [] }) refl refl;
    falls = falls_up k count (count + 1) start.slots (omega arith) below;
    sits = params_sit (head_params (head_of f)) 0 [] tt;
    depth = refl;
    level = params_depth (head_params (head_of f)) (record { gives = head_gives (head_of f); depth = 0; scope = [] });
    gives = params_gives (head_params (head_of f)) (record { gives = head_gives (head_of f); depth = 0; scope = [] }) ∙ gives;
  }

  -- the same, with the scope that the stand says
  abbrev code_in : Block → Scope → List Instr
  code_in (block at end x ss) s =
      if_comes 0 (block_code (around_of k c) void (block at end x ss) 0 count (count + 1) s []) (block_after (block at end x ss) (count + 1) s []) (λ place g. only_if (agree c.gives void) count (drop_scope s g end ++ (i.RetVoid ∷ [])))

  body_in : (b : Block) → block_suits k.parts k.code c.functions (env_entry (head_of f)) y.void b → Clean (code_in b (scope_at start))
      → Runs k 0 (code_in b (scope_at start)) (comes_stands (block_stands b count (count + 1) start) (block_after b (count + 1) (scope_at start) []) (λ g. leave_stands count y.void (with_gone g start))) start stops
  body_in (block at end x ss) suits clean =
      comes_stops k (block_after (block at end x ss) (count + 1) (scope_at start) []) 0 (block_code (around_of k c) void (block at end x ss) 0 count (count + 1) (scope_at start) []) (block_stands (block at end x ss) count (count + 1) start)
      (λ place g. only_if (agree c.gives void) count (drop_scope (scope_at start) g end ++ (i.RetVoid ∷ []))) (λ g. with_gone g start) (λ g. leave_stands count y.void (with_gone g start)) start clean
      (λ cl. block_runs k c (env_entry (head_of f)) (block at end x ss) y.void void 0 count (count + 1) start refl (omega arith) (λ v g. nothing_above k count start.slots g count below (omega arith)) starts suits cl)
      (λ g q cl. chosen k (agree c.gives void) count cl (λ t cl. leaves k count (with_gone g start) end q below (params_sit (head_params (head_of f)) 0 [] tt) refl (c.typed ∙ ap (code_type k.parts) (void_of k.result (sym c.sort ∙ agree_is c.gives void t)))))

  in_scope : (b : Block) → body_code (around_of k c) (names_in f) (param_gives f) b ≡ code_in b (parameters 0 (names_in f) (param_gives f) [])
  in_scope (block at end x ss) = refl

  body_same : body_code (around_of k c) (names_in f) (param_gives f) (body_of f) ≡ code_in (body_of f) (scope_at start)
  body_same = in_scope (body_of f) ∙ ap (code_in (body_of f)) (params_scope (head_params (head_of f)) 0 [])

  pub body_runs : block_suits k.parts k.code c.functions (env_entry (head_of f)) y.void (body_of f) → Clean (body_code (around_of k c) (names_in f) (param_gives f) (body_of f)) → Runs k 0 (body_code (around_of k c) (names_in f) (param_gives f) (body_of f)) (body_stands f) start stops
  body_runs suits clean =
      subst (λ cs. Runs k 0 cs (body_stands f) start stops) (sym body_same) (body_in (body_of f) suits (subst (λ cs. Clean cs) body_same clean))

-- ---- a function

gives_same : (f : Function) → head_gives (head_of f) ≡ result_type f
gives_same (function_body (head is_pure n ps x) b) = refl

count_names : (ps : List Param) → length (param_names ps) ≡ length ps
count_names [] = refl
count_names (param n x ∷ ps) = ap suc (count_names ps)

module _ (p : Parts) (code : Code) (fs : List Function) (f : Function) (base : ℕ) where
  abbrev func : Func
  func = lowered_function p code.texts fs f

  abbrev place : Site
  place = site p code func base (result_type f) (facts_for p f func) (body_stands f) (entry_stand f)

  abbrev around : Context place
  around = record { functions = fs; gives = result_gives f; sort = refl; typed = refl }

  few : length func.params ≤ func.registers
  few = let n = count_names (head_params (head_of f)) in omega (arith, n, length-map (head_params (head_of f)) (λ q. code_type p (type_of (param_type q))))

  pub function_is_faultless : block_suits p code fs (env_entry (head_of f)) y.void (body_of f) → Clean (lowered_body p code.texts fs f) → function_fault code base func (function_facts p code.texts fs f) ≡ None
  function_is_faultless suits clean =
      covered_is_faultless p code func base (result_type f) (facts_for p f func) (body_stands f) (entry_stand f) refl (omega arith)
      (body_runs place around f (gives_same f) suits clean)
      (covers_entry place f (facts_for p f func) refl refl few)
