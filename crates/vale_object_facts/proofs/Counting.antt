-- How the walk goes through the turns of a loop over numbers.
use Rattle.std.proofs.Common.{◌≡◌, ℕ, ◌+◌, pos, List, [], ◌∷◌, ◌++◌, length, Bool, true, false, if◌then◌else◌, refl, sym, ap, ◌∙◌, subst, arith, ⊎_elim}
use Rattle.std.proofs.lemmas.Bool.{cases_eq, eq-eqb, ne_eqb}
use Rattle.vale_base.specs.declared.spot.Spot.{Spot}
use Rattle.vale_rules_spec.specs.Types.{Ty}
use Rattle.vale_rules_spec.specs.Types as y
use Rattle.vale_rules_spec.specs.Typing.{Env}
use Rattle.vale_code.specs.declared.instr.Instr.{Instr}
use Rattle.vale_code.specs.declared.instr.Instr.TheVariants as i
use Rattle.vale_code.specs.declared.ty.Ty.TheVariants as t
use Rattle.vale_cert.specs.Known.{is_free, agrees}
use Rattle.vale_cert.specs.declared.facts.RegFact.TheVariants.{Empty}
use Rattle.vale_lowering_objects.specs.Lowered.{if_comes, count_code}
use Rattle.vale_lowering_objects.specs.Scopes.{Gone, After, comes, closes}
use Rattle.vale_object_facts.specs.Slots.{local, Slot, Slots, scope_at, Stand, with_gone, holding, with_local, is_lost, slot_fact, fact_in}
use Rattle.vale_object_facts.specs.Stands.{Stands as Marks, comes_stands, loop_stands, count_stands}
use Rattle.vale_object_facts.proofs.Agreeing.{agrees_same}
use Rattle.vale_object_facts.proofs.Covering.{Site, at, held, Says, says_then, says_gone, says_less, says_role, Falls, falls_up, holding_here, holding_there}
use Rattle.vale_object_facts.proofs.Locals.{Stands, none_at, stands_gone, stands_holding}
use Rattle.vale_object_facts.proofs.Owners.{free_type}
use Rattle.vale_object_facts.proofs.Rows.{beside_same, beside_above, int_runs, from_two, cmp_runs, copy_runs}
use Rattle.vale_object_facts.proofs.Runs.{ending, falls, Runs, runs_less, ends_less, both}
use Rattle.vale_object_facts.proofs.Sets.{says_again}
use Rattle.vale_object_facts.proofs.Turns.{loop_runs}
use Rattle.vale_object_facts.proofs.Ways.{Clean, clean_both, comes_runs}

-- the two ends of a loop over numbers, in h and after it
abbrev pub counted : ℕ → Stand → Stand
counted h s = holding (h + 1) y.int (holding h y.int s)

module _ (k : Site) where
  -- a slot that holds no owner is forgotten
  slot_forgets : (z : Slot) (xs : Slots) (g : Gone) (d : ℕ) → y.is_owned z.ty ≡ false → fact_in k.parts xs g z.register ≡ Empty → Says k (record { depth = d; slots = z ∷ xs; gone = g }) (record { depth = d; slots = xs; gone = g })
  slot_forgets z xs g d plain none = record { depth = refl; each = each }
    where
      free_slot : (b : Bool) → is_free (if b then Empty else held k z.ty z.depth) ≡ true
      free_slot true = refl
      free_slot false = free_type k.parts z.ty z.depth plain

      each : (q : ℕ) → agrees (fact_in k.parts xs g q) (fact_in k.parts (z ∷ xs) g q) ≡ true
      each q =
          ⊎_elim
          (λ e.
          subst (λ f. agrees (fact_in k.parts xs g q) f ≡ true) (sym (ap (λ b. if b then slot_fact k.parts z g else fact_in k.parts xs g q) (eq-eqb z.register q e)))
          (subst (λ f. agrees f (slot_fact k.parts z g) ≡ true) (sym (ap (fact_in k.parts xs g) (sym e) ∙ none)) (free_slot (is_lost z g))))
          (λ ne. subst (λ f. agrees (fact_in k.parts xs g q) f ≡ true) (sym (ap (λ b. if b then slot_fact k.parts z g else fact_in k.parts xs g q) (ne_eqb z.register q ne))) (agrees_same (fact_in k.parts xs g q)))
          (cases_eq z.register q)

  module _ (env : Env) (h : ℕ) (s : Stand) (st : Stands k env h s) (n : ℕ) (spot : Spot) where
    abbrev c : Stand
    c = counted h s

    abbrev inner : Stand
    inner = with_local n (h + 2) y.int c

    none_third : (g : Gone) → at k (with_gone g c) (h + 2) ≡ Empty
    none_third g = holding_there k (h + 1) y.int (holding h y.int (with_gone g s)) (h + 2) (omega arith) ∙ holding_there k h y.int (with_gone g s) (h + 2) (omega arith) ∙ none_at k (h + 2) (stands_gone k g st) (omega arith)

    first_here : (g : Gone) → at k (with_gone g c) h ≡ held k y.int s.depth
    first_here g = holding_there k (h + 1) y.int (holding h y.int (with_gone g s)) h (omega arith) ∙ holding_here k h y.int (with_gone g s)

    second_here : (g : Gone) → at k (with_gone g c) (h + 1) ≡ held k y.int s.depth
    second_here g = holding_here k (h + 1) y.int (holding h y.int (with_gone g s))

    tested_says : Says k (holding (h + 2) y.bool c) c
    tested_says = says_less k (h + 2) y.bool (none_third s.gone) refl

    -- the counter against itself
    begins : {p : ℕ} → Runs k p (i.Sub (h + 2) h h spot ∷ []) (c ∷ []) c (falls c)
    begins =
        runs_less k
        (from_two k (i.Sub (h + 2) h h spot) (h + 2) y.int h h t.Int t.Int s.depth s.depth refl refl refl (λ r. (omega (arith, r), omega (arith, r), omega (arith, r))) (λ known. refl) (first_here s.gone) (first_here s.gone) (ap is_free (none_third s.gone)) refl (beside_same k (h + 2) c))
        (says_less k (h + 2) y.int (none_third s.gone) refl)

    tests_number : {p : ℕ} → Runs k p (i.Cmp (h + 2) 2 h (h + 1) ∷ []) (c ∷ []) c (falls (holding (h + 2) y.bool c))
    tests_number = cmp_runs k (h + 2) 2 h (h + 1) t.Int s.depth s.depth refl refl (first_here s.gone) (second_here s.gone) (ap is_free (none_third s.gone)) refl (beside_same k (h + 2) c)

    c_falls : Falls k (h + 2) c.slots
    c_falls = falls_up k (h + 1 + 1) (h + 2) c.slots (omega arith) (stands_holding k y.int refl (stands_holding k y.int refl st)).falls

    -- each turn has a copy of the counter
    copies_number : {p : ℕ} → Runs k p (i.Copy (h + 2) h ∷ []) (c ∷ []) c (falls inner)
    copies_number = runs_less k (copy_runs k (h + 2) h y.int (first_here s.gone) refl (ap is_free (none_third s.gone)) refl (beside_same k (h + 2) c)) (says_role k (local n) (h + 2) y.int c_falls)

    -- and then it goes on
    goes_on : {p : ℕ} (g : Gone) → Runs k p (i.Int (h + 2) (pos 1) ∷ i.Add h h (h + 2) spot ∷ []) (with_gone g c ∷ holding (h + 2) y.int (with_gone g c) ∷ []) (with_gone g c) (falls (with_gone g c))
    goes_on g =
        let u = with_gone g c in
        both k {a = i.Int (h + 2) (pos 1) ∷ []} {b = i.Add h h (h + 2) spot ∷ []} {ma = with_gone g c ∷ []} {mb = holding (h + 2) y.int (with_gone g c) ∷ []} (int_runs k (h + 2) (pos 1) (ap is_free (none_third g)))
        (runs_less k
        (from_two k (i.Add h h (h + 2) spot) h y.int h (h + 2) t.Int t.Int s.depth s.depth refl refl refl (λ r. (omega (arith, r), omega (arith, r), omega (arith, r))) (λ known. refl)
        (holding_there k (h + 2) y.int u h (omega arith) ∙ first_here g) (holding_here k (h + 2) y.int u) (ap is_free (holding_there k (h + 2) y.int u h (omega arith) ∙ first_here g)) refl
        (beside_above k h (h + 2) y.int u u refl (none_third g) (beside_same k h u)))
        (says_again k h y.int u (first_here g)))

    inner_says : (g : Gone) → Says k (with_gone g inner) (with_gone g c)
    inner_says g = slot_forgets (record { role = local n; register = h + 2; ty = y.int; depth = s.depth }) c.slots g s.depth refl (none_third g)

    ends_says : (g : Gone) → Says k (with_gone g c) (with_gone g s)
    ends_says g =
        says_then k (says_less k (h + 1) y.int (holding_there k h y.int (with_gone g s) (h + 1) (omega arith) ∙ none_at k (h + 1) (stands_gone k g st) (omega arith)) refl)
        (says_less k h y.int (none_at k h (stands_gone k g st) (omega arith)) refl)

    abbrev turn : ℕ → (ℕ → List Instr) → After → List Instr
    turn p body after = i.Copy (h + 2) h ∷ if_comes (p + 1) (body (p + 1)) after (λ place g. i.Int (h + 2) (pos 1) ∷ i.Add h h (h + 2) spot ∷ [])

    abbrev turn_marks : Marks → After → Marks
    turn_marks bm after = c ∷ comes_stands bm after (λ g. with_gone g c ∷ holding (h + 2) y.int (with_gone g c) ∷ [])

    turn_runs : (p : ℕ) (body : ℕ → List Instr) (bm : Marks) (after : After) → Clean (turn p body after) → ((q : ℕ) → Clean (body q) → Runs k q (body q) bm inner (ending after (λ g. with_gone g inner))) → Runs k p (turn p body after) (turn_marks bm after) c (ending after (λ g. with_gone g c))
    turn_runs p body bm after clean run =
        both k {a = i.Copy (h + 2) h ∷ []} {b = if_comes (p + 1) (body (p + 1)) after (λ place g. i.Int (h + 2) (pos 1) ∷ i.Add h h (h + 2) spot ∷ [])} {ma = c ∷ []} {mb = comes_stands bm after (λ g. with_gone g c ∷ holding (h + 2) y.int (with_gone g c) ∷ [])} copies_number
        (comes_runs k after (p + 1) (body (p + 1)) bm (λ place g. i.Int (h + 2) (pos 1) ∷ i.Add h h (h + 2) spot ∷ []) (λ g. with_gone g c) (λ g. with_gone g c ∷ holding (h + 2) y.int (with_gone g c) ∷ []) (λ g. with_gone g c) inner clean
        (λ cl. ends_less k after (λ g. inner_says g) (run (p + 1) cl))
        (λ g q cl. goes_on g))

    back_says : (after : After) → closes (scope_at s) s.gone after ≡ true → (g : Gone) → after ≡ comes g → Says k (with_gone g c) c
    back_says after closed g e = says_then k (says_gone k c g s.gone (subst (λ o. closes (scope_at s) s.gone o ≡ true) e closed)) (record { depth = refl; each = λ r. agrees_same (at k c r) })

    pub count_runs : (p : ℕ) (body : ℕ → List Instr) (bm : Marks) (after : After) → closes (scope_at s) s.gone after ≡ true → Clean (count_code p h spot after body) → ((q : ℕ) → Clean (body q) → Runs k q (body q) bm inner (ending after (λ g. with_gone g inner)))
        → Runs k p (count_code p h spot after body) (count_stands h c bm after) c (falls (with_gone s.gone s))
    count_runs p body bm after closed clean run =
        let one = turn (p + 1 + 2) body after in
        let start = p + 1 + 2 + length one in
        let parts = clean_both one ((i.Cmp (h + 2) 2 h (h + 1) ∷ []) ++ (i.Unless (h + 2) (start + 1 + 2) ∷ i.Jump (p + 1 + 1) ∷ [])) clean in
        runs_less k
        (both k {a = i.Sub (h + 2) h h spot ∷ []} {ma = c ∷ []} {mb = loop_stands c (turn_marks bm after) (c ∷ []) (holding (h + 2) y.bool c)} begins
        (loop_runs k after (p + 1) (h + 2) s.depth one (i.Cmp (h + 2) 2 h (h + 1) ∷ []) (turn_marks bm after) (c ∷ []) c (holding (h + 2) y.bool c) (λ g. with_gone g c) (turn_runs (p + 1 + 2) body bm after parts.0 run) tests_number (holding_here k (h + 2) y.bool c)
        (back_says after closed) tested_says))
        (ends_says s.gone)
