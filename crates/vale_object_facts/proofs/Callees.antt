-- How the walk goes through what is called, once its values wait.
use Rattle.std.proofs.Common.{◌≡◌, ℕ, List, [], ◌∷◌, length, replicate, Some, true, false, ◌&&◌, refl, sym, ap, ◌∙◌, subst}
use Rattle.std.specs.Prelude.{nat_le}
use Rattle.std.proofs.lemmas.Bool.{and_parts}
use Rattle.vale_base.specs.Limits.{width_limit}
use Rattle.vale_syntax.specs.declared.tree.NameAt.{NameAt}
use Rattle.vale_rules_spec.specs.Types.{Ty, direct}
use Rattle.vale_rules_spec.specs.Types as y
use Rattle.vale_rules_spec.specs.Typed.{Callee, built_in, constructor, function, Function, Exprs, types}
use Rattle.vale_rules_spec.specs.Typing.{Env}
use Rattle.vale_model.specs.Parts.{Parts, kind_of, first_function, has_name}
use Rattle.vale_code.specs.Kinds as code
use Rattle.vale_code.specs.declared.instr.Instr.TheVariants as i
use Rattle.vale_code.specs.declared.ty.Ty.TheVariants as t
use Rattle.vale_cert.specs.Objects.{cells_of, has_room}
use Rattle.vale_lowering.specs.Instructions.{registers_from}
use Rattle.vale_lowering.specs.Scopes.{number_of_function}
use Rattle.vale_lowering_objects.specs.Lowered.{gives_list, first_type, callee_code, make_code, may_be_called}
use Rattle.vale_lowering_objects.specs.Program.{code_type}
use Rattle.vale_lowering_objects.specs.Scopes.{Gives, owner, gives_of, agree, Gone}
use Rattle.vale_object_facts.specs.Slots.{Stand, with_gone, holding, given}
use Rattle.vale_object_facts.specs.Stands.{with_args}
use Rattle.vale_object_facts.specs.Suits.{all_are, code_types, HasItems, callee_suits}
use Rattle.vale_object_facts.proofs.Arguments.{Wait}
use Rattle.vale_object_facts.proofs.BuiltIns.{built_in_runs}
use Rattle.vale_object_facts.proofs.Covering.{Site, at}
use Rattle.vale_object_facts.proofs.Locals.{Stands}
use Rattle.vale_object_facts.proofs.Made.{count_gives, struct_cells, array_cells, make_runs, call_runs}
use Rattle.vale_object_facts.proofs.Parts.{chosen}
use Rattle.vale_object_facts.proofs.Runs.{Runs, falls}
use Rattle.vale_object_facts.proofs.Ways.{Clean}

-- as many of one type
all_alike : (p : Parts) (z : Ty) (ts : List Ty) → all_are z ts → replicate (length ts) (code_type p z) ≡ code_types p ts
all_alike p z [] a = refl
all_alike p z (t ∷ ts) a = ap (λ w. code_type p w ∷ replicate (length ts) (code_type p z)) (sym a.0) ∙ ap (λ l. code_type p t ∷ l) (all_alike p z ts a.1)

module _ (k : Site) (env : Env) (h : ℕ) (s : Stand) (st : Stands k env h s) (g : Gone) (es : Exprs) (wait : Wait k (types es) h s.depth (at k (with_gone g (with_args es h s)))) where
  abbrev all : Stand
  all = with_gone g (with_args es h s)

  abbrev after : Stand
  after = with_gone g s

  -- an object of this type, whose cells fit
  makes : {p : ℕ} (q : Gives) (x : Ty) → code_type k.parts x ≡ t.Own (kind_of k.parts x) → y.is_void x ≡ false
      → (nat_le (length (types es)) width_limit ≡ true → (cells_of (code.kind_of k.code (kind_of k.parts x)) (length (types es)) ≡ Some (code_types k.parts (types es))) × (has_room (code.kind_of k.code (kind_of k.parts x)) (length (types es)) ≡ true))
      → Clean (make_code k.parts q x (gives_list es) h) → Runs k p (make_code k.parts q x (gives_list es) h) (all ∷ []) all (falls (given h x after))
  makes {p} q x own some cells clean =
      chosen k (agree q owner && nat_le (length (gives_list es)) width_limit) h clean
      (λ e c.
      let fit = cells (ap (λ n. nat_le n width_limit) (sym (count_gives es)) ∙ (and_parts (agree q owner) (nat_le (length (gives_list es)) width_limit) e).1) in
      subst (λ n. Runs k p (i.Make h (kind_of k.parts x) (registers_from h n) ∷ []) (all ∷ []) all (falls (given h x after))) (sym (count_gives es)) (make_runs k env h s st g es wait x (kind_of k.parts x) own some fit.0 fit.1))

  pub callee_runs : {p : ℕ} (fs : List Function) (gives : Gives) (n : NameAt) (f : Callee) (x : Ty) (q : Gives) → q ≡ gives_of x → callee_suits k.parts k.code fs n f (types es) x
      → Clean (callee_code (record { parts = k.parts; texts = k.code.texts; functions = fs; gives = gives }) q n f (first_type es) (gives_list es) h)
      → Runs k p (callee_code (record { parts = k.parts; texts = k.code.texts; functions = fs; gives = gives }) q n f (first_type es) (gives_list es) h) (all ∷ []) all (falls (given h x after))
  callee_runs {p} fs gives n (built_in f) x q is suits clean = built_in_runs k env h s st g f es x q p n.at fs is suits wait clean
  callee_runs {p} fs gives n constructor x q is suits clean =
      subst (λ z. Runs k p (make_code k.parts q (y.kind n.name.0) (gives_list es) h) (all ∷ []) all (falls (given h z after))) (sym suits.0)
      (makes q (y.kind n.name.0) refl refl (λ few. struct_cells (code.kind_of k.code (kind_of k.parts (y.kind n.name.0))) (code_types k.parts (types es)) (length (types es)) suits.1) clean)
  callee_runs {p} fs gives n (function false) x q is suits clean =
      chosen k (may_be_called k.parts q (gives_list es) (first_function (has_name n.name.0) fs)) h clean
      (λ e c.
      subst (λ m. Runs k p (i.Call h (number_of_function (has_name n.name.0) fs) (registers_from h m) n.at ∷ []) (all ∷ []) all (falls (given h x after))) (sym (count_gives es))
      (call_runs k env h s st g es wait (number_of_function (has_name n.name.0) fs) suits.func x n.at suits.here suits.plain suits.takes suits.gives))
  callee_runs fs gives n (function true) x q is suits clean = absurd suits

  pub array_runs : {p : ℕ} (q : Gives) (z x : Ty) → x ≡ y.array z → all_are z (types es) → HasItems k.parts k.code (direct (y.array z)) z → Clean (make_code k.parts q x (gives_list es) h)
      → Runs k p (make_code k.parts q x (gives_list es) h) (all ∷ []) all (falls (holding h x after))
  array_runs {p} q z x same alike items clean =
      subst (λ w. Clean (make_code k.parts q w (gives_list es) h) → Runs k p (make_code k.parts q w (gives_list es) h) (all ∷ []) all (falls (holding h w after))) (sym same)
      (λ c.
      makes q (y.array z) refl refl
      (λ few.
      let fit = array_cells (code.kind_of k.code (kind_of k.parts (y.array z))) (code_type k.parts z) (length (types es)) items.cell few in
      (fit.0 ∙ ap Some (all_alike k.parts z (types es) alike), fit.1)) c) clean
