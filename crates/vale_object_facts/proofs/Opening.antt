-- How the walk goes through the destructuring of an owner, and through the scope of its names.
use Rattle.std.proofs.Common.{◌≡◌, ℕ, suc, ◌+◌, ◌<◌, ◌≤◌, List, [], ◌∷◌, length, map, Some, Bool, true, false, ◌&&◌, ◌==◌, if◌then◌else◌, refl, sym, ap, ◌∙◌, subst, arith, ⊎_elim}
use Rattle.std.specs.Prelude.{slice_set}
use Rattle.std.proofs.lemmas.Bool.{cases_eq}
use Rattle.vale_base.specs.declared.name.Kind.{Kind}
use Rattle.vale_base.specs.declared.spot.Spot.{Spot}
use Rattle.vale_syntax.specs.declared.tree.NameAt.{NameAt}
use Rattle.vale_rules_spec.specs.Types.{Ty}
use Rattle.vale_rules_spec.specs.Types as y
use Rattle.vale_rules_spec.specs.Typed.{Function}
use Rattle.vale_rules_spec.specs.Typing.{Env, with_local as env_with_local, with_locals}
use Rattle.vale_model.specs.Expressions.{numbers_of}
use Rattle.vale_model.specs.Parts.{kind_of}
use Rattle.vale_code.specs.Operands.{room_for}
use Rattle.vale_code.specs.declared.instr.Instr.{Instr}
use Rattle.vale_code.specs.declared.instr.Instr.TheVariants as i
use Rattle.vale_code.specs.declared.ty.Ty.{Ty as CodeTy}
use Rattle.vale_code.specs.declared.ty.Ty.TheVariants as t
use Rattle.vale_cert.specs.Known.{Known, fact_of, is_free, agrees}
use Rattle.vale_cert.specs.Objects.{owner_kind}
use Rattle.vale_cert.specs.Rules.{Effect, is_usable, gets, leads, fields_by, opens_of, puts_all}
use Rattle.vale_cert.specs.declared.facts.RegFact.{RegFact}
use Rattle.vale_cert.specs.declared.facts.RegFact.TheVariants.{Empty, Held}
use Rattle.vale_cert.specs.declared.rules.Kept.{Kept}
use Rattle.vale_lowering.specs.Instructions.{registers_from}
use Rattle.vale_lowering_objects.specs.Lowered.{all_gives, locals_after, locals_code, if_comes, drop_entry}
use Rattle.vale_lowering_objects.specs.Program.{code_type}
use Rattle.vale_lowering_objects.specs.Scopes.{gives_of, is_value, entry, Scope, Gone, without, After, comes, never}
use Rattle.vale_object_facts.specs.Slots.{Stand, scope_at, with_gone, holding, given, with_local, fact_in}
use Rattle.vale_object_facts.specs.Stands.{Stands as Marks, drop_local, locals_stands}
use Rattle.vale_object_facts.specs.Suits.{code_types, is_opened}
use Rattle.vale_object_facts.proofs.Agreeing.{agrees_same, Facts, put, put_here, put_there, Hold, hold_put, hold_at}
use Rattle.vale_object_facts.proofs.Covering.{Site, at, held, Covers, Falls, alike_facts, alike_without, not_gone, holding_here, holding_there}
use Rattle.vale_object_facts.proofs.Locals.{Stands, none_at, stands_local}
use Rattle.vale_object_facts.proofs.Made.{room_for_all}
use Rattle.vale_object_facts.proofs.Parts.{chosen}
use Rattle.vale_object_facts.proofs.Rows.{Fine, overwrites_fine, usable, room, does_by}
use Rattle.vale_object_facts.proofs.Runs.{row_at, Does, ending, Runs, single, falls}
use Rattle.vale_object_facts.proofs.Scopes.{Fresh, fresh_slot, scope_ends}
use Rattle.vale_object_facts.proofs.Ways.{Clean, clean_both, clean_only, in_order, comes_runs}

-- locals of these names and types in the registers from h on
abbrev pub all_locals : List ℕ → List Ty → ℕ → Stand → Stand
all_locals (n ∷ ns) (x ∷ xs) h s = all_locals ns xs (h + 1) (with_local n h x s)
all_locals _ _ h s = s

all_depth : (ns : List ℕ) (xs : List Ty) (h : ℕ) (s : Stand) → (all_locals ns xs h s).depth ≡ s.depth
all_depth [] [] h s = refl
all_depth [] (x ∷ xs) h s = refl
all_depth (n ∷ ns) [] h s = refl
all_depth (n ∷ ns) (x ∷ xs) h s = all_depth ns xs (h + 1) (with_local n h x s)

clean_comes : (p : ℕ) (a : List Instr) (o : After) (rest : ℕ → Gone → List Instr) → Clean (if_comes p a o rest) → Clean a
clean_comes p a (comes g) rest c = (clean_both a (rest (p + length a) g) c).0
clean_comes p a (never g) rest c = c

-- there is a name for each value
pub locals_alike : (ns : List ℕ) (xs : List Ty) (end : Spot) (p h : ℕ) (s : Scope) (g : Gone) (after : ℕ → Scope → Gone → After) (rest : ℕ → ℕ → Scope → Gone → List Instr) → Clean (locals_code ns (all_gives xs) end p h s g after rest) → length ns ≡ length xs
locals_alike [] [] end p h s g after rest c = refl
locals_alike [] (x ∷ xs) end p h s g after rest c = absurd (cc)
locals_alike (n ∷ ns) [] end p h s g after rest c = absurd (cc)
locals_alike (n ∷ ns) (x ∷ xs) end p h s g after rest c =
    let q = gives_of x in
    let inner = locals_code ns (all_gives xs) end p (h + 1) (entry n h q ∷ s) (without h g) after rest in
    let o = locals_after ns (all_gives xs) (h + 1) (entry n h q ∷ s) (without h g) after in
    let some = clean_only (is_value q) h (if_comes p inner o (λ place g. drop_entry (entry n h q) g end)) c in
    ap suc (locals_alike ns xs end p (h + 1) (entry n h q ∷ s) (without h g) after rest (clean_comes p inner o (λ place g. drop_entry (entry n h q) g end) some.1))

module _ (k : Site) where
  -- ---- values come into the registers from one on

  abbrev pub filled : List Ty → ℕ → ℕ → Facts → Facts
  filled [] h d F = F
  filled (x ∷ xs) h d F = filled xs (h + 1) d (put h (held k x d) F)

  record Filled (F : Facts) (xs : List Ty) (h d : ℕ) (e : Effect) : Type 0 where
    fine : Fine e.kept
    hold : Hold (room k) e.after (filled xs h d F)

  puts_each : (depth d : ℕ) (xs : List Ty) (h : ℕ) (F : Facts) (e : Effect) → depth ≡ d → Fine e.kept → Hold (room k) e.after F → h + length xs ≤ room k → ((q : ℕ) → h ≤ q → F q ≡ Empty) → Filled F xs h d (puts_all depth (map (code_type k.parts) xs) (registers_from h (length xs)) e)
  puts_each depth d [] h F e same f hold le none = record { fine = f; hold = hold }
  puts_each depth d (x ∷ xs) h F e same f hold le none =
      let rest =
      puts_each depth d xs (h + 1) (put h (held k x d) F) (gets depth e.after h (code_type k.parts x) e.kept) same (overwrites_fine (room k) h f hold (omega (arith, le)) (ap is_free (none h (omega arith))))
      (hold_put (room k) h (Held (code_type k.parts x) depth false) (held k x d) (subst (λ z. agrees (held k x d) (Held (code_type k.parts x) z false) ≡ true) (sym same) (agrees_same (held k x d))) hold)
      (omega (arith, le)) (λ q lt. put_there h (held k x d) F q (omega (arith, lt)) ∙ none q (omega (arith, lt))) in
      record { fine = rest.fine; hold = rest.hold }

  -- they are what the locals hold
  local_is : (n h : ℕ) (x : Ty) (s : Stand) (q : ℕ) → Falls k h s.slots → at k (with_local n h x s) q ≡ put h (held k x s.depth) (at k s) q
  local_is n h x s q f =
      ap (λ b. if h == q then (if b then Empty else held k x s.depth) else fact_in k.parts s.slots (without h s.gone) q) (ap (λ b. true && y.is_owned x && b) (not_gone h s.gone) ∙ none (true && y.is_owned x))
      ∙ ap (λ z. if h == q then held k x s.depth else z) (alike_facts k s.slots (without h s.gone) s.gone q (alike_without k h s.slots s.gone f))
    where
      none : (b : Bool) → (b && false) ≡ false
      none true = refl
      none false = refl

  put_says : (h : ℕ) (x : RegFact) (F G : Facts) (q : ℕ) → agrees (F q) (G q) ≡ true → agrees (put h x F q) (put h x G q) ≡ true
  put_says h x F G q a =
      ⊎_elim
      (λ e. subst (λ z. agrees z (put h x G q) ≡ true) (sym (put_here h x F q e)) (subst (λ z. agrees x z ≡ true) (sym (put_here h x G q e)) (agrees_same x)))
      (λ ne. subst (λ z. agrees z (put h x G q) ≡ true) (sym (put_there h x F q ne)) (subst (λ z. agrees (F q) z ≡ true) (sym (put_there h x G q ne)) a))
      (cases_eq h q)

  filled_says : (ns : List ℕ) (xs : List Ty) (h : ℕ) (s : Stand) (F : Facts) → length ns ≡ length xs → Falls k h s.slots → ((q : ℕ) → agrees (at k s q) (F q) ≡ true) → (q : ℕ) → agrees (at k (all_locals ns xs h s) q) (filled xs h s.depth F q) ≡ true
  filled_says [] [] h s F same f a q = a q
  filled_says [] (x ∷ xs) h s F same f a q = absurd (omega (arith, same))
  filled_says (n ∷ ns) [] h s F same f a q = absurd (omega (arith, same))
  filled_says (n ∷ ns) (x ∷ xs) h s F same f a q =
      filled_says ns xs (h + 1) (with_local n h x s) (put h (held k x s.depth) F) (omega (arith, same)) (omega arith, f)
      (λ q. subst (λ z. agrees z (put h (held k x s.depth) F q) ≡ true) (sym (local_is n h x s q f)) (put_says h (held k x s.depth) (at k s) F q (a q))) q

  -- ---- an owner is taken apart

  module _ (env : Env) (h : ℕ) (s : Stand) (st : Stands k env h s) (ns : List ℕ) (xs : List Ty) (z : Ty) (fs : List Function) (same : length ns ≡ length xs) (opened : is_opened k.parts k.code fs z xs) where
    abbrev taking : Instr
    taking = i.Open (registers_from h (length ns)) h

    abbrev kd : Kind
    kd = kind_of k.parts (y.kind opened.0)

    abbrev whole : Stand
    whole = holding h z s

    abbrev fields : List CodeTy
    fields = code_types k.parts xs

    here : at k whole h ≡ Held (t.Own kd) s.depth false
    here = holding_here k h z s ∙ ap (λ w. held k w s.depth) opened.1

    -- with nothing in the register of the owner
    abbrev empty : Facts
    empty = put h Empty (at k whole)

    empty_none : (q : ℕ) → h ≤ q → empty q ≡ Empty
    empty_none q le = ⊎_elim (λ e. put_here h Empty (at k whole) q e) (λ ne. put_there h Empty (at k whole) q ne ∙ holding_there k h z s q ne ∙ none_at k q st le) (cases_eq h q)

    empty_says : (q : ℕ) → agrees (at k s q) (empty q) ≡ true
    empty_says q =
        ⊎_elim
        (λ e. subst (λ f. agrees (at k s q) f ≡ true) (sym (put_here h Empty (at k whole) q e)) (subst (λ f. agrees f Empty ≡ true) (sym (ap (at k s) (sym e) ∙ none_at k h st (omega arith))) refl))
        (λ ne. subst (λ f. agrees (at k s q) f ≡ true) (sym (put_there h Empty (at k whole) q ne ∙ holding_there k h z s q ne)) (agrees_same (at k s q)))
        (cases_eq h q)

    abbrev led : ℕ → Bool → Kept
    led depth live = leads (is_usable depth (Held (t.Own kd) s.depth live)) (Held (t.Own kd) s.depth live) (Some fields)

    abbrev put_in : Known → Bool → Effect
    put_in known live = puts_all known.depth fields (registers_from h (length xs)) (record { kept = led known.depth live; after = slice_set known.regs h Empty })

    row_is : (known : Known) (live : Bool) → fact_of known.regs h ≡ Held (t.Own kd) s.depth live → row_at k taking known ≡ put_in known live
    row_is known live e =
        ap (λ f. opens_of known.depth (fields_by k.code (owner_kind f)) (registers_from h (length ns)) (record { kept = leads (is_usable known.depth f) f (fields_by k.code (owner_kind f)); after = slice_set known.regs h Empty })) e
        ∙ ap (λ o. opens_of known.depth o (registers_from h (length ns)) (record { kept = leads (is_usable known.depth (Held (t.Own kd) s.depth live)) (Held (t.Own kd) s.depth live) o; after = slice_set known.regs h Empty })) opened.2
        ∙ ap (λ n. puts_all known.depth fields (registers_from h n) (record { kept = led known.depth live; after = slice_set known.regs h Empty })) same

    by : room_for taking ≤ room k → (known : Known) → Covers k known whole → (live : Bool) × (fact_of known.regs h ≡ Held (t.Own kd) s.depth live) → Does k taking known (all_locals ns xs h s)
    by r known c e =
        let row = row_is known e.0 e.1 in
        let enough = room_for_all h (room k) (length ns) (omega (arith, r)) (omega (arith, r)) in
        let done = puts_each known.depth s.depth xs h empty (record { kept = led known.depth e.0; after = slice_set known.regs h Empty }) c.depth (record { types = refl; present = refl; depths = usable (t.Own kd) known.depth s.depth e.0 c.depth }) (hold_put (room k) h Empty Empty refl c.regs) (omega (arith, enough, same)) empty_none in
        does_by k taking (put_in known e.0).after (filled xs h s.depth empty)
        (record { types = ap (λ x. x.kept.types) row ∙ done.fine.types; present = ap (λ x. x.kept.present) row ∙ done.fine.present; depths = ap (λ x. x.kept.depths) row ∙ done.fine.depths })
        (ap (λ x. x.after) row) done.hold (c.depth ∙ sym (all_depth ns xs h s)) (filled_says ns xs h s empty same st.falls empty_says)

    does : room_for taking ≤ room k → (known : Known) → Covers k known whole → Does k taking known (all_locals ns xs h s)
    does r known c = by r known c (hold_at (room k) h (t.Own kd) s.depth c.regs (omega (arith, r)) here)

    pub opens_run : {p : ℕ} → Runs k p (taking ∷ []) (whole ∷ []) whole (falls (all_locals ns xs h s))
    opens_run = single k taking refl refl (in_order k taking refl) does

  -- ---- and its names end with their scope

  module _ (to : ℕ) (x : Ty) (end : Spot) (rest : ℕ → ℕ → Scope → Gone → List Instr) (marks : ℕ → Stand → Marks) (after : ℕ → Scope → Gone → After) where
    abbrev pub Continues : Env → Type 0
    Continues env =
        (q j : ℕ) (u : Stand) → Stands k env j u → to < j → (y.is_void x ≡ false → Fresh k to u) → Clean (rest q j (scope_at u) u.gone) → Runs k q (rest q j (scope_at u) u.gone) (marks j u) u (ending (after j (scope_at u) u.gone) (λ g. given to x (with_gone g u)))

    pub locals_run : (ns : List NameAt) (xs : List Ty) (env : Env) (p h : ℕ) (s : Stand) → Stands k env h s → to < h → (y.is_void x ≡ false → Fresh k to s) → Continues (with_locals ns xs env) → Clean (locals_code (numbers_of ns) (all_gives xs) end p h (scope_at s) s.gone after rest)
        → Runs k p (locals_code (numbers_of ns) (all_gives xs) end p h (scope_at s) s.gone after rest) (locals_stands (numbers_of ns) xs h s marks after (λ s. given to x s)) (all_locals (numbers_of ns) xs h s) (ending (locals_after (numbers_of ns) (all_gives xs) h (scope_at s) s.gone after) (λ g. given to x (with_gone g s)))
    locals_run [] [] env p h s st lt fresh go clean = go p h s st lt fresh clean
    locals_run [] (z ∷ zs) env p h s st lt fresh go clean = absurd (cc)
    locals_run (n ∷ ns) [] env p h s st lt fresh go clean = absurd (cc)
    locals_run (n ∷ ns) (z ∷ zs) env p h s st lt fresh go clean =
        let q = gives_of z in
        let inner = with_local n.name.0 h z s in
        let w = entry n.name.0 h q ∷ scope_at s in
        chosen k (is_value q) h clean
        (λ some cl.
        comes_runs k (locals_after (numbers_of ns) (all_gives zs) (h + 1) w (without h s.gone) after) p (locals_code (numbers_of ns) (all_gives zs) end p (h + 1) w (without h s.gone) after rest) (locals_stands (numbers_of ns) zs (h + 1) inner marks after (λ s. given to x s))
        (λ place g. drop_entry (entry n.name.0 h q) g end) (λ g. given to x (with_gone g inner)) (λ g. drop_local z h (given to x (with_gone g inner))) (λ g. given to x (with_gone g s)) (all_locals (numbers_of ns) zs (h + 1) inner) cl
        (λ cl. locals_run ns zs (env_with_local n z env) p (h + 1) inner (stands_local k n z s.gone st) (omega (arith, lt)) (λ v. fresh_slot k to s n.name.0 h z (omega (arith, lt)) (fresh v)) go cl)
        (λ g r c. scope_ends k env h s st n.name.0 z g to lt x end))
