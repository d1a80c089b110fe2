-- How the walk goes through built-in functions, once their values wait.
use Rattle.std.proofs.Common.{◌≡◌, ℕ, ◌+◌, List, [], ◌∷◌, Some, true, false, not, ◌&&◌, if◌then◌else◌, refl, sym, ap, ◌∙◌, subst, arith, ⊎_elim}
use Rattle.std.specs.Prelude.{nat_lt}
use Rattle.std.proofs.lemmas.Bool.{ne_eqb}
use Rattle.vale_base.specs.declared.spot.Spot.{Spot}
use Rattle.vale_syntax.specs.declared.built_in.BuiltIn.{BuiltIn}
use Rattle.vale_syntax.specs.declared.built_in.BuiltIn.TheVariants as b
use Rattle.vale_rules_spec.specs.Types.{Ty, View, blind, direct, shared, frozen}
use Rattle.vale_rules_spec.specs.Types as y
use Rattle.vale_rules_spec.specs.Typed.{Function, Expr, Exprs, no_exprs, more_exprs, type, types}
use Rattle.vale_rules_spec.specs.Typing.{Env}
use Rattle.vale_model.specs.Parts.{Parts, kind_of}
use Rattle.vale_code.specs.declared.instr.Instr.TheVariants as i
use Rattle.vale_code.specs.declared.ty.Ty.TheVariants as t
use Rattle.vale_cert.specs.Types.{is_copy}
use Rattle.vale_cert.specs.Known.{is_free, agrees}
use Rattle.vale_lowering_objects.specs.Lowered.{gives_list, first_type, built_in_code, are_copied, len_code}
use Rattle.vale_lowering_objects.specs.Program.{code_type}
use Rattle.vale_lowering_objects.specs.Scopes.{Gives, void, copy, owner, gives_of, is_owner, is_value, agree, Gone, comes}
use Rattle.vale_object_facts.specs.Slots.{waits, Stand, with_gone, holding, given, slot_fact}
use Rattle.vale_object_facts.specs.Stands.{with_args}
use Rattle.vale_object_facts.specs.Suits.{HasItems, refers, built_in_suits}
use Rattle.vale_object_facts.proofs.Agreeing.{agrees_same}
use Rattle.vale_object_facts.proofs.Arguments.{Plain, plain_says, args_depth, Wait}
use Rattle.vale_object_facts.proofs.Covering.{Site, at, held}
use Rattle.vale_object_facts.proofs.Locals.{Stands, none_at, stands_gone}
use Rattle.vale_object_facts.proofs.Owners.{free_type, drops_run}
use Rattle.vale_object_facts.proofs.Parts.{chosen, as_given, value_some}
use Rattle.vale_object_facts.proofs.Places.{length_read, pop_runs, push_runs}
use Rattle.vale_object_facts.proofs.Rows.{Beside, from_one, from_two, from_three, print_runs}
use Rattle.vale_object_facts.proofs.Runs.{Runs, falls}
use Rattle.vale_object_facts.proofs.Steps.{refers_plain}
use Rattle.vale_object_facts.proofs.Ways.{Clean}

copied_type : (p : Parts) (x : Ty) → y.is_copy x ≡ true → is_copy (code_type p x) ≡ true
copied_type p y.int e = refl
copied_type p y.bool e = refl
copied_type p y.str e = refl
copied_type p y.void e = absurd (cc)
copied_type p (y.kind n) e = absurd (cc)
copied_type p (y.array z) e = absurd (cc)
copied_type p (y.ref z) e = absurd (cc)
copied_type p (y.imm z) e = absurd (cc)
copied_type p (y.iso z) e = absurd (cc)

copied_plain : (x : Ty) → y.is_copy x ≡ true → y.is_owned x ≡ false
copied_plain y.int e = refl
copied_plain y.bool e = refl
copied_plain y.str e = refl
copied_plain y.void e = absurd (cc)
copied_plain (y.kind n) e = absurd (cc)
copied_plain (y.array z) e = absurd (cc)
copied_plain (y.ref z) e = absurd (cc)
copied_plain (y.imm z) e = absurd (cc)
copied_plain (y.iso z) e = absurd (cc)

owned_sort : (x : Ty) → y.is_owned x ≡ true → gives_of x ≡ owner
owned_sort (y.kind n) e = refl
owned_sort (y.array z) e = refl
owned_sort (y.iso z) e = refl
owned_sort y.void e = absurd (cc)
owned_sort y.int e = absurd (cc)
owned_sort y.bool e = absurd (cc)
owned_sort y.str e = absurd (cc)
owned_sort (y.ref z) e = absurd (cc)
owned_sort (y.imm z) e = absurd (cc)

module _ (k : Site) (env : Env) (h : ℕ) (s : Stand) (st : Stands k env h s) (g : Gone) where
  abbrev before : Stand
  before = with_gone g s

  -- values wait
  abbrev waiting_all : Exprs → Stand
  waiting_all es = with_gone g (with_args es h s)

  abbrev Waiting : Exprs → Type 0
  Waiting es = Wait k (types es) h s.depth (at k (waiting_all es))

  here_free : (t : Ty) (es : Exprs) → y.is_owned t ≡ false → at k (waiting_all es) h ≡ held k t s.depth → is_free (at k (waiting_all es) h) ≡ true
  here_free t es plain here = ap is_free here ∙ free_type k.parts t s.depth plain

  beside : (es : Exprs) → Plain k (types es) → Beside k h (waiting_all es) before
  beside es plain q ne = (plain_says k es h s g plain st.falls).each q

  -- what a built-in function gives
  abbrev BuiltInRuns : BuiltIn → Exprs → Ty → Gives → ℕ → Spot → Type 0
  BuiltInRuns f es x q p spot = Runs k p (built_in_code f (first_type es) (gives_list es) q spot h) (waiting_all es ∷ []) (waiting_all es) (falls (given h x before))

  abbrev CleanIn : BuiltIn → Exprs → Gives → Spot → Type 0
  CleanIn f es q spot = Clean (built_in_code f (first_type es) (gives_list es) q spot h)

  -- a value of this type
  as_type : {x : Ty} {q : Gives} {p : ℕ} (f : BuiltIn) (es : Exprs) (spot : Spot) (z : Ty) → x ≡ z → q ≡ gives_of x → (CleanIn f es (gives_of z) spot → BuiltInRuns f es z (gives_of z) p spot) → CleanIn f es q spot → BuiltInRuns f es x q p spot
  as_type {x} {q} {p} f es spot z same is run clean =
      let sort : q ≡ gives_of z = is ∙ ap gives_of same in
      subst (λ r. BuiltInRuns f es x r p spot) (sym sort) (subst (λ w. BuiltInRuns f es w (gives_of z) p spot) (sym same) (run (subst (λ r. CleanIn f es r spot) sort clean)))

  -- ---- texts and numbers

  text_here : (t u : Ty) (es : Exprs) (j d : ℕ) → t ≡ u → at k (waiting_all es) j ≡ held k t d → at k (waiting_all es) j ≡ held k u d
  text_here t u es j d same here = here ∙ ap (λ z. held k z d) same

  module _ {p : ℕ} (spot : Spot) where
    prints : (choice : ℕ) (e : Exprs) (t : Ty) → nat_lt choice 2 ≡ true → y.is_copy t ≡ true → Plain k (types e) → at k (waiting_all e) h ≡ held k t s.depth → Runs k p (i.Print h choice ∷ []) (waiting_all e ∷ []) (waiting_all e) (falls before)
    prints choice e t few copied plain here = print_runs k h choice (code_type k.parts t) s.depth few (copied_type k.parts t copied) here (plain_says k e h s g plain st.falls)

  -- ---- arrays

  module _ {p : ℕ} (spot : Spot) where
    -- of a text, or of an array that a reference leads to
    measures : (es : Exprs) (t : Ty) (v : View) (x : Ty) → refers t v → HasItems k.parts k.code v x → Plain k (types es) → at k (waiting_all es) h ≡ held k t s.depth → Runs k p (len_code t spot h) (waiting_all es ∷ []) (waiting_all es) (falls (holding h y.int before))
    measures es t blind x r f plain here = absurd r
    measures es t (direct w) x r f plain here = absurd r
    measures es t (shared w) x r f plain here =
        let object : Some w ≡ Some (y.array x) = f.object in
        let same : w ≡ y.array x = cc in
        subst (λ z. Runs k p (len_code z spot h) (waiting_all es ∷ []) (waiting_all es) (falls (holding h y.int before))) (sym r)
        (length_read k h h false (kind_of k.parts (y.array x)) (code_type k.parts x) spot
        (here ∙ ap (λ z. held k z s.depth) (r ∙ ap y.ref same) ∙ ap (λ d. held k (y.ref (y.array x)) d) (sym (args_depth es h s))) f.cell (here_free t es (ap y.is_owned r) here) (args_depth es h s) (beside es plain))
    measures es t (frozen w) x r f plain here =
        let object : Some w ≡ Some (y.array x) = f.object in
        let same : w ≡ y.array x = cc in
        subst (λ z. Runs k p (len_code z spot h) (waiting_all es ∷ []) (waiting_all es) (falls (holding h y.int before))) (sym r)
        (length_read k h h true (kind_of k.parts (y.array x)) (code_type k.parts x) spot
        (here ∙ ap (λ z. held k z s.depth) (r ∙ ap y.imm same) ∙ ap (λ d. held k (y.imm (y.array x)) d) (sym (args_depth es h s))) f.cell (here_free t es (ap y.is_owned r) here) (args_depth es h s) (beside es plain))

    text_length : (es : Exprs) (x : Ty) → x ≡ y.str → Plain k (types es) → at k (waiting_all es) h ≡ held k x s.depth → Runs k p (len_code x spot h) (waiting_all es ∷ []) (waiting_all es) (falls (holding h y.int before))
    text_length es x same plain here =
        subst (λ z. Runs k p (len_code z spot h) (waiting_all es ∷ []) (waiting_all es) (falls (holding h y.int before))) (sym same)
        (from_one k (i.TextLen h h) h y.int h t.Text s.depth refl refl refl (λ r. (omega (arith, r), omega (arith, r))) (λ known. refl) (text_here x y.str es h s.depth same here) (here_free x es (ap y.is_owned same) here) (args_depth es h s) (beside es plain))

    -- the last element comes out
    pops : (es : Exprs) (t x : Ty) → t ≡ y.ref (y.array x) → HasItems k.parts k.code (shared (y.array x)) x → Plain k (types es) → at k (waiting_all es) h ≡ held k t s.depth → Runs k p (i.Pop h h spot ∷ []) (waiting_all es ∷ []) (waiting_all es) (falls (holding h x before))
    pops es t x same f plain here =
        pop_runs k h h (kind_of k.parts (y.array x)) x spot (text_here t (y.ref (y.array x)) es h s.depth same here ∙ ap (λ d. held k (y.ref (y.array x)) d) (sym (args_depth es h s))) f.cell (here_free t es (ap y.is_owned same) here) (args_depth es h s) (beside es plain)

    -- a value goes in
    pushes : (e1 e2 : Expr) → type e1 ≡ y.ref (y.array (type e2)) → HasItems k.parts k.code (shared (y.array (type e2))) (type e2) → Waiting (more_exprs e1 (more_exprs e2 no_exprs)) → Runs k p (i.Push h (h + 1) spot ∷ []) (waiting_all (more_exprs e1 (more_exprs e2 no_exprs)) ∷ []) (waiting_all (more_exprs e1 (more_exprs e2 no_exprs))) (falls before)
    pushes e1 e2 same f wait =
        push_runs k h (h + 1) (kind_of k.parts (y.array (type e2))) (type e2) spot (wait.0 ∙ ap (λ z. held k z s.depth) same) f.cell wait.1.0 refl
        (λ q ne.
        subst (λ f. agrees (at k before q) f ≡ true) (sym (ap (λ b. if b then slot_fact k.parts (record { role = waits; register = h + 1; ty = type e2; depth = s.depth }) g else at k (waiting_all (more_exprs e1 no_exprs)) q) (ne_eqb (h + 1) q ne)))
        ((plain_says k (more_exprs e1 no_exprs) h s g (ap y.is_owned same, tt) st.falls).each q))
        (none_at k (h + 1) (stands_gone k g st) (omega arith))

  -- ---- each

  pub built_in_runs : (f : BuiltIn) (es : Exprs) (x : Ty) (q : Gives) (p : ℕ) (spot : Spot) (fs : List Function) → q ≡ gives_of x → built_in_suits k.parts k.code fs f (types es) x → Waiting es → CleanIn f es q spot → BuiltInRuns f es x q p spot
  built_in_runs b.Print (more_exprs e no_exprs) x q p spot fs is suits wait clean =
      as_type b.Print (more_exprs e no_exprs) spot y.void suits.1 is
      (λ c. chosen k (are_copied (gives_of (type e) ∷ []) && not (is_owner void)) h c (λ yes c. prints spot 0 (more_exprs e no_exprs) (type e) refl suits.0 (copied_plain (type e) suits.0, tt) wait.0)) clean
  built_in_runs b.Println (more_exprs e no_exprs) x q p spot fs is suits wait clean =
      as_type b.Println (more_exprs e no_exprs) spot y.void suits.1 is
      (λ c. chosen k (are_copied (gives_of (type e) ∷ []) && not (is_owner void)) h c (λ yes c. prints spot 1 (more_exprs e no_exprs) (type e) refl suits.0 (copied_plain (type e) suits.0, tt) wait.0)) clean
  built_in_runs b.Drop (more_exprs e no_exprs) x q p spot fs is suits wait clean =
      as_type b.Drop (more_exprs e no_exprs) spot y.void suits.1 is
      (λ c.
      subst (λ z. Runs k p (built_in_code b.Drop (type e) (z ∷ []) void spot h) (waiting_all (more_exprs e no_exprs) ∷ []) (waiting_all (more_exprs e no_exprs)) (falls before)) (sym (owned_sort (type e) suits.0))
      (drops_run k h (type e) spot wait.0 suits.0 refl (none_at k h (stands_gone k g st) (omega arith))
      (λ j ne. subst (λ f. agrees (at k before j) f ≡ true) (sym (ap (λ b. if b then slot_fact k.parts (record { role = waits; register = h; ty = type e; depth = s.depth }) g else at k before j) (ne_eqb h j ne))) (agrees_same (at k before j))))) clean
  built_in_runs b.Len (more_exprs e no_exprs) x q p spot fs is suits wait clean =
      as_type b.Len (more_exprs e no_exprs) spot y.int suits.0 is
      (λ c.
      chosen k (agree copy copy) h c
      (λ yes c.
      ⊎_elim (λ same. text_length spot (more_exprs e no_exprs) (type e) same (ap y.is_owned same, tt) wait.0)
      (λ m. measures spot (more_exprs e no_exprs) (type e) m.0 m.1 m.2 m.3 (refers_plain (type e) m.0 m.2, tt) wait.0) suits.1)) clean
  built_in_runs b.Push (more_exprs e1 (more_exprs e2 no_exprs)) x q p spot fs is suits wait clean =
      as_type b.Push (more_exprs e1 (more_exprs e2 no_exprs)) spot y.void suits.0 is (λ c. chosen k (agree void void) h c (λ yes c. pushes spot e1 e2 suits.1 suits.2 wait)) clean
  built_in_runs b.Pop (more_exprs e no_exprs) x q p spot fs is suits wait clean =
      chosen k (is_value q) h clean
      (λ yes c. as_given k (comes g) h x (λ c. before) (value_some x (ap is_value (sym is) ∙ yes)) (pops spot (more_exprs e no_exprs) (type e) x suits.0 suits.1 (ap y.is_owned suits.0, tt) wait.0))
  built_in_runs b.Text (more_exprs e no_exprs) x q p spot fs is suits wait clean =
      let es = more_exprs e no_exprs in
      as_type b.Text (more_exprs e no_exprs) spot y.str suits.1 is
      (λ c.
      chosen k (are_copied (gives_of (type e) ∷ []) && not (is_owner copy)) h c
      (λ yes c.
      from_one k (i.TextOf h h) h y.str h t.Int s.depth refl refl refl (λ r. (omega (arith, r), omega (arith, r))) (λ known. refl) (wait.0 ∙ ap (λ z. held k z s.depth) suits.0) (here_free (type e) es (ap y.is_owned suits.0) wait.0) refl (beside es (ap y.is_owned suits.0, tt)))) clean
  built_in_runs b.IsNumber (more_exprs e no_exprs) x q p spot fs is suits wait clean =
      let es = more_exprs e no_exprs in
      as_type b.IsNumber (more_exprs e no_exprs) spot y.bool suits.1 is
      (λ c.
      chosen k (are_copied (gives_of (type e) ∷ []) && not (is_owner copy)) h c
      (λ yes c.
      from_one k (i.IsNum h h) h y.bool h t.Text s.depth refl refl refl (λ r. (omega (arith, r), omega (arith, r))) (λ known. refl) (wait.0 ∙ ap (λ z. held k z s.depth) suits.0) (here_free (type e) es (ap y.is_owned suits.0) wait.0) refl (beside es (ap y.is_owned suits.0, tt)))) clean
  built_in_runs b.Number (more_exprs e no_exprs) x q p spot fs is suits wait clean =
      let es = more_exprs e no_exprs in
      as_type b.Number (more_exprs e no_exprs) spot y.int suits.1 is
      (λ c.
      chosen k (are_copied (gives_of (type e) ∷ []) && not (is_owner copy)) h c
      (λ yes c.
      from_one k (i.Num h h spot) h y.int h t.Text s.depth refl refl refl (λ r. (omega (arith, r), omega (arith, r))) (λ known. refl) (wait.0 ∙ ap (λ z. held k z s.depth) suits.0) (here_free (type e) es (ap y.is_owned suits.0) wait.0) refl (beside es (ap y.is_owned suits.0, tt)))) clean
  built_in_runs b.Byte (more_exprs e1 (more_exprs e2 no_exprs)) x q p spot fs is suits wait clean =
      let es = more_exprs e1 (more_exprs e2 no_exprs) in
      as_type b.Byte (more_exprs e1 (more_exprs e2 no_exprs)) spot y.int suits.2 is
      (λ c.
      chosen k (are_copied (gives_of (type e1) ∷ gives_of (type e2) ∷ []) && not (is_owner copy)) h c
      (λ yes c.
      from_two k (i.Byte h h (h + 1) spot) h y.int h (h + 1) t.Text t.Int s.depth s.depth refl refl refl (λ r. (omega (arith, r), omega (arith, r), omega (arith, r))) (λ known. refl) (wait.0 ∙ ap (λ z. held k z s.depth) suits.0) (wait.1.0 ∙ ap (λ z. held k z s.depth) suits.1)
      (here_free (type e1) es (ap y.is_owned suits.0) wait.0) refl (beside es (ap y.is_owned suits.0, (ap y.is_owned suits.1, tt))))) clean
  built_in_runs b.Slice (more_exprs e1 (more_exprs e2 (more_exprs e3 no_exprs))) x q p spot fs is suits wait clean =
      let es = more_exprs e1 (more_exprs e2 (more_exprs e3 no_exprs)) in
      as_type b.Slice (more_exprs e1 (more_exprs e2 (more_exprs e3 no_exprs))) spot y.str suits.3 is
      (λ c.
      chosen k (are_copied (gives_of (type e1) ∷ gives_of (type e2) ∷ gives_of (type e3) ∷ []) && not (is_owner copy)) h c
      (λ yes c.
      from_three k (i.Slice h h (h + 1) (h + 1 + 1) spot) h y.str h (h + 1) (h + 1 + 1) t.Text t.Int t.Int s.depth s.depth s.depth refl refl refl (λ r. (omega (arith, r), omega (arith, r), omega (arith, r), omega (arith, r))) (λ known. refl)
      (wait.0 ∙ ap (λ z. held k z s.depth) suits.0) (wait.1.0 ∙ ap (λ z. held k z s.depth) suits.1) (wait.1.1.0 ∙ ap (λ z. held k z s.depth) suits.2)
      (here_free (type e1) es (ap y.is_owned suits.0) wait.0) refl (beside es (ap y.is_owned suits.0, (ap y.is_owned suits.1, (ap y.is_owned suits.2, tt)))))) clean
  built_in_runs f es x q p spot fs is suits wait clean = absurd suits
