-- A run of certified code, from its start.
use Rattle.std.proofs.Common.{◌≡◌, ◌≢◌, ℕ, zero, suc, ◌+◌, ◌<◌, ◌≤◌, ℤ, List, [], ◌∷◌, length, replicate, Option, Some, None, true, ◌==◌, refl, sym, ap, ◌∙◌, subst, arith}
use Rattle.std.specs.Prelude.{slice_get}
use Rattle.std.proofs.lemmas.Bool.{and_parts}
use Rattle.vale_state_spec.specs.Outcome.{Wrong}
use Rattle.vale_state_spec.specs.State.{State, Given, no_input, numbers, lines, ints, texts, given, begin, born, function_frame}
use Rattle.vale_state_spec.specs.World.{Value, Int, Text, Own, Freeze, Object, World, born as world_with, next_name}
use Rattle.vale_base.specs.declared.name.Kind.{Kind}
use Rattle.vale_code.specs.Enter.{Form, Plain, form_of, with_func, with_form, enter}
use Rattle.vale_code.specs.Frames.{Next, On, Over}
use Rattle.vale_code.specs.Kinds.{kind_of, text_at}
use Rattle.vale_code.specs.Parts.{Parts}
use Rattle.vale_code.specs.Run.{Ending, exec, then_go, last_state, start, with_input, if_plain, first_spot, ending_of, run_code}
use Rattle.vale_code.specs.declared.func.Func.{Func}
use Rattle.vale_code.specs.declared.kind.KindInfo.{KindInfo}
use Rattle.vale_code.specs.declared.kind.KindInfo.TheVariants as k
use Rattle.vale_code.specs.declared.ty.Ty.{Ty}
use Rattle.vale_code.specs.declared.ty.Ty.TheVariants as t
use Rattle.vale_code.proofs.Ends.{run_ends}
use Rattle.vale_cert.specs.Certificate.{Certified}
use Rattle.vale_cert.specs.Input.{is_input_of, params_take, function_takes, takes_input}
use Rattle.vale_cert.specs.Objects.{cells_of}
use Rattle.vale_cert.specs.declared.facts.FuncFacts.{FuncFacts}
use Rattle.vale_cert.proofs.Cells.{Each, leading, to_each, born_fits}
use Rattle.vale_cert.proofs.Fit.{ArgsFit, WorldFits, has_plain}
use Rattle.vale_cert.proofs.Heap.{in_values, in_world, alive, later_born, state_born, world_born, alive_born}
use Rattle.vale_cert.proofs.Safe.{never_wrong}
use Rattle.vale_cert.proofs.Standing.{NextFits, Quiet, names_it, entered, with_tick}
use Rattle.vale_cert.proofs.Walks.{main_is_there, main_lawful}

found_at : (fs : List Func) (n : ℕ) → n < length fs → (f : Func) × (slice_get fs n ≡ Some f)
found_at [] n lt = absurd (omega arith)
found_at (f ∷ fs) zero lt = (f, refl)
found_at (f ∷ fs) (suc n) lt = found_at fs n (omega arith)

no_array_of_nothing : (o : Option KindInfo) → is_input_of no_input o ≡ true → ⊥
no_array_of_nothing o e = let x : ⊥ = cc in x

module _ (code : Parts) (facts : List FuncFacts) (cert : Certified code facts) (input : Given) (takes : takes_input code input ≡ true) (ticks : ℕ) where
  main : (f : Func) × (slice_get code.funcs code.main ≡ Some f)
  main = found_at code.funcs code.main (main_is_there code facts cert)

  plain : main.0.form ≡ 0
  plain = let e : (main.0.form == 0) ≡ true = (and_parts _ _ (and_parts _ _ (main_lawful code facts cert main.0 main.1)).0).0 in grind arith

  takes_it : params_take code main.0.params input ≡ true
  takes_it = subst (λ o. function_takes code input o ≡ true) main.1 takes

  abbrev begins_main : List Value → State → Next
  begins_main args s = enter code.main Plain main.0 (function_frame (text_at code main.0.name) first_spot) None args [] s

  begins : (args : List Value) (s : State) → ArgsFit code s.world main.0.params args → WorldFits code s.world → ((n : ℕ) → in_values n args + 0 + in_world n s.world ≤ alive n s.world) → NextFits code facts (begins_main args s)
  begins args s has heap owned =
      entered code facts cert code.main Plain main.0 (function_frame (text_at code main.0.name) first_spot) None args [] s main.1 tt (subst (λ n. Quiet (form_of n)) (sym plain) tt) has tt heap owned

  nothing_there : WorldFits code []
  nothing_there n o e = let x : ⊥ = cc in absurd x

  abbrev with_array : Kind → List Value → State → Next
  with_array kind values u = begins_main (Own (next_name u.world) ∷ []) (born kind values u)

  -- the input array is made first
  array_made : (kind : Kind) (item : Ty) (values : List Value) (u : State) → u.world ≡ [] → main.0.params ≡ t.Own kind ∷ [] → kind_of code kind ≡ Some (k.Array item) → Each code [] item values → ((n : ℕ) → in_values n values ≡ 0)
      → NextFits code facts (with_array kind values u)
  array_made kind item values u e params is each none =
      subst (λ m. NextFits code facts (begins_main (Own m ∷ []) (born kind values u))) (sym (ap (λ w. next_name w) e))
      (begins (Own 0 ∷ []) (born kind values u) (subst (λ w. ArgsFit code w main.0.params (Own 0 ∷ [])) (sym same_world) (subst (λ ps. ArgsFit code W ps (Own 0 ∷ [])) (sym params) has)) (subst (λ w. WorldFits code w) (sym same_world) heap)
      (subst (λ w. (n : ℕ) → in_values n (Own 0 ∷ []) + 0 + in_world n w ≤ alive n w) (sym same_world) owned))
    where
      o : Object
      o = record { region = Freeze u.regions; kind = kind; values = values }

      W : World
      W = world_with [] o

      same_world : (born kind values u).world ≡ W
      same_world = state_born kind values u ∙ ap (λ w. world_with w o) e

      has : ArgsFit code W (t.Own kind ∷ []) (Own 0 ∷ [])
      has = (leading code W (t.Own kind) (Own 0) kind 0 refl refl refl (names_it code facts W 0 o refl), tt)

      heap : WorldFits code W
      heap = born_fits code [] o (later_born [] o) nothing_there (record { tys = replicate (length values) item; cells = ap (λ i. cells_of i (length values)) is; values = to_each code [] item values each })

      owned : (n : ℕ) → in_values n (Own 0 ∷ []) + 0 + in_world n W ≤ alive n W
      owned n = let x = world_born n [] o in let y = alive_born n [] o in let z = none n in omega (arith, x, y, z)

  ints_each : (zs : List ℤ) → Each code [] t.Int (ints zs)
  ints_each [] = tt
  ints_each (z ∷ zs) = (has_plain code [] t.Int (Int z) refl refl, ints_each zs)

  texts_each : (ls : List (List ℕ)) → Each code [] t.Text (texts ls)
  texts_each [] = tt
  texts_each (l ∷ ls) = (has_plain code [] t.Text (Text l) refl refl, texts_each ls)

  ints_own : (zs : List ℤ) (n : ℕ) → in_values n (ints zs) ≡ 0
  ints_own [] n = refl
  ints_own (z ∷ zs) n = let x = ints_own zs n in omega (arith, x)

  texts_own : (ls : List (List ℕ)) (n : ℕ) → in_values n (texts ls) ≡ 0
  texts_own [] n = refl
  texts_own (l ∷ ls) n = let x = texts_own ls n in omega (arith, x)

  array_of_ints : (zs : List ℤ) (o : Option KindInfo) → is_input_of (numbers zs) o ≡ true → o ≡ Some (k.Array t.Int)
  array_of_ints zs (Some (k.Array t.Int)) e = refl
  array_of_ints zs _ e = let x : ⊥ = cc in absurd x

  array_of_texts : (ls : List (List ℕ)) (o : Option KindInfo) → is_input_of (lines ls) o ≡ true → o ≡ Some (k.Array t.Text)
  array_of_texts ls (Some (k.Array t.Text)) e = refl
  array_of_texts ls _ e = let x : ⊥ = cc in absurd x

  with_params : (ps : List Ty) (g : Given) → main.0.params ≡ ps → params_take code ps g ≡ true → NextFits code facts (with_input ps (given g) (begin ticks) begins_main)
  with_params [] no_input e h = begins [] (begin ticks) (subst (λ ps. ArgsFit code [] ps []) (sym e) tt) nothing_there (λ n. omega arith)
  with_params (t.Own kind ∷ []) no_input e h = absurd (no_array_of_nothing (kind_of code kind) h)
  with_params (t.Own kind ∷ []) (numbers zs) e h =
      with_tick code facts (begin ticks) (with_array kind (ints zs)) (λ u same_world. array_made kind t.Int (ints zs) u same_world e (array_of_ints zs (kind_of code kind) h) (ints_each zs) (ints_own zs))
  with_params (t.Own kind ∷ []) (lines ls) e h =
      with_tick code facts (begin ticks) (with_array kind (texts ls)) (λ u same_world. array_made kind t.Text (texts ls) u same_world e (array_of_texts ls (kind_of code kind) h) (texts_each ls) (texts_own ls))
  with_params _ _ e h = let x : ⊥ = cc in absurd x

  pub start_fits : NextFits code facts (start code input ticks)
  start_fits =
      let go : Form → Func → Next = λ form f. if_plain form (begin ticks) (with_input f.params (given input) (begin ticks) (λ args s. enter code.main form f (function_frame (text_at code f.name) first_spot) None args [] s)) in
      subst (λ o. NextFits code facts (with_func o (begin ticks) go)) (sym main.1)
      (subst (λ n. NextFits code facts (with_form (form_of n) main.0 (begin ticks) go)) (sym plain)
      (with_params main.0.params input refl takes_it))

  ends_well : (x : Next) (n : ℕ) (e : Ending) → NextFits code facts x → then_go x (exec code n) ≡ Some e → e.end ≢ Wrong
  ends_well (On c) n e fits h = never_wrong code facts cert (last_state code) n c e fits h
  ends_well (Over end v s) n e fits h = λ w. fits (let x : end ≡ Wrong = cc in x)

  -- certified code never goes wrong
  pub safe : (run_code code input ticks).end ≢ Wrong
  safe = let r = run_ends code input ticks in ends_well (start code input ticks) r.0 (ending_of code input ticks) start_fits r.1
