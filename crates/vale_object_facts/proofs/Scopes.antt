-- How the walk goes through what a block hands out, and through the end of a local's scope.
use Rattle.std.proofs.Common.{◌≡◌, ◌≢◌, ℕ, ◌<◌, [], ◌∷◌, Bool, true, false, not, ◌&&◌, ◌==◌, if◌then◌else◌, refl, sym, ap, ◌∙◌, subst, arith, ⊎_elim}
use Rattle.std.proofs.lemmas.Bool.{cases_eq, eq-eqb, ne_eqb}
use Rattle.vale_base.specs.declared.spot.Spot.{Spot}
use Rattle.vale_rules_spec.specs.Types.{Ty}
use Rattle.vale_rules_spec.specs.Types as y
use Rattle.vale_rules_spec.specs.Typing.{Env}
use Rattle.vale_code.specs.declared.instr.Instr.TheVariants as i
use Rattle.vale_cert.specs.Known.{is_free, agrees}
use Rattle.vale_cert.specs.declared.facts.RegFact.TheVariants.{Empty, Held}
use Rattle.vale_lowering_objects.specs.Lowered.{hand, drop_entry, drop_value}
use Rattle.vale_lowering_objects.specs.Program.{code_type}
use Rattle.vale_lowering_objects.specs.Scopes.{void, copy, owner, gives_of, entry, Gone, is_gone}
use Rattle.vale_object_facts.specs.Slots.{local, Slot, Stand, with_gone, holding, given, with_local, is_lost, slot_fact, fact_in}
use Rattle.vale_object_facts.specs.Stands.{hand_stands, drop_local, drop_stands}
use Rattle.vale_object_facts.proofs.Agreeing.{agrees_same}
use Rattle.vale_object_facts.proofs.Covering.{Site, at, held, Says, nothing_above, says_less, holding_here, holding_there}
use Rattle.vale_object_facts.proofs.Leaving.{owner_is}
use Rattle.vale_object_facts.proofs.Locals.{Stands, none_at}
use Rattle.vale_object_facts.proofs.Owners.{owned_too, free_type, moves_out, drops_run}
use Rattle.vale_object_facts.proofs.Rows.{Beside, copy_runs}
use Rattle.vale_object_facts.proofs.Runs.{Runs, runs_less, nothing, falls}

module _ (k : Site) where
  -- no slot is in the register, whatever is gone
  abbrev pub Fresh : ℕ → Stand → Type 0
  Fresh to s = (g : Gone) → fact_in k.parts s.slots g to ≡ Empty

  pub fresh_slot : (to : ℕ) (s : Stand) (n h : ℕ) (x : Ty) → to ≢ h → Fresh to s → Fresh to (with_local n h x s)
  fresh_slot to s n h x ne f g =
      ap (λ b. if b then slot_fact k.parts (record { role = local n; register = h; ty = x; depth = s.depth }) g else fact_in k.parts s.slots g to) (ne_eqb h to (λ e. ne (sym e))) ∙ f g

  pub given_there : (h : ℕ) (x : Ty) (u : Stand) (q : ℕ) → h ≢ q → at k (given h x u) q ≡ at k u q
  given_there h x u q ne = by (y.is_void x)
    where
      by : (b : Bool) → at k (if b then u else holding h x u) q ≡ at k u q
      by true = refl
      by false = holding_there k h x u q ne

  pub given_depth : (h : ℕ) (x : Ty) (u : Stand) → (given h x u).depth ≡ u.depth
  given_depth h x u = by (y.is_void x)
    where
      by : (b : Bool) → (if b then u else holding h x u).depth ≡ u.depth
      by true = refl
      by false = refl

  -- over stands that say the same of a register
  pub given_same : (h : ℕ) (x : Ty) (u v : Stand) (q : ℕ) → u.depth ≡ v.depth → at k u q ≡ at k v q → at k (given h x u) q ≡ at k (given h x v) q
  given_same h x u v q d e = by (y.is_void x)
    where
      by : (b : Bool) → at k (if b then u else holding h x u) q ≡ at k (if b then v else holding h x v) q
      by true = e
      by false = ap (λ f. if h == q then held k x u.depth else f) e ∙ ap (λ z. if h == q then held k x z else at k v q) d

  -- ---- a block's value

  module _ (env : Env) (h : ℕ) (s : Stand) (st : Stands k env h s) (to : ℕ) (lt : to < h) (x : Ty) (fresh : y.is_void x ≡ false → Fresh to s) where
    free_to : y.is_void x ≡ false → at k (holding h x s) to ≡ Empty
    free_to w = holding_there k h x s to (omega (arith, lt)) ∙ fresh w s.gone

    by_sort : {p : ℕ} (v o : Bool) → y.is_void x ≡ v → y.is_owned x ≡ o → Runs k p (hand (if v then void else (if o then owner else copy)) to h) (if v then [] else holding h x s ∷ []) (if v then s else holding h x s) (falls (if v then s else holding to x s))
    by_sort {p} true o w e = nothing k p s
    by_sort false true w e =
        moves_out k to h x (holding_here k h x s) e (ap is_free (free_to w)) (omega (arith, lt)) refl (none_at k h st (omega arith))
        (λ q nt nh. subst (λ f. agrees (at k s q) f ≡ true) (sym (holding_there k h x s q nh)) (agrees_same (at k s q)))
    by_sort false false w e = copy_runs k to h x (holding_here k h x s) (ap not (owned_too k.parts x ∙ e)) (ap is_free (free_to w)) refl beside
      where
        beside : Beside k to (holding h x s) s
        beside q nt =
            ⊎_elim
            (λ same. subst (λ f. agrees f (at k (holding h x s) q) ≡ true) (sym (ap (at k s) (sym same) ∙ none_at k h st (omega arith))) (subst (λ f. is_free f ≡ true) (sym (ap (at k (holding h x s)) (sym same) ∙ holding_here k h x s)) (free_type k.parts x s.depth e)))
            (λ ne. subst (λ f. agrees (at k s q) f ≡ true) (sym (holding_there k h x s q ne)) (agrees_same (at k s q)))
            (cases_eq h q)

    pub hand_runs : {p : ℕ} → Runs k p (hand (gives_of x) to h) (hand_stands x (holding h x s)) (given h x s) (falls (given to x s))
    hand_runs = by_sort (y.is_void x) (y.is_owned x) refl refl

  -- ---- a value that isn't used

  module _ (env : Env) (h : ℕ) (s : Stand) (st : Stands k env h s) (x : Ty) (spot : Spot) where
    unused_by : {p : ℕ} (v o : Bool) → y.is_owned x ≡ o → (v ≡ true → o ≡ false) → Runs k p (drop_value (if v then void else (if o then owner else copy)) h spot) (if o then holding h x s ∷ [] else []) (if v then s else holding h x s) (falls s)
    unused_by {p} true true e f = absurd (let z = f refl in cc)
    unused_by {p} true false e f = nothing k p s
    unused_by false true e f =
        drops_run k h x spot (holding_here k h x s) e refl (none_at k h st (omega arith)) (λ q nh. subst (λ f. agrees (at k s q) f ≡ true) (sym (holding_there k h x s q nh)) (agrees_same (at k s q)))
    unused_by {p} false false e f = runs_less k (nothing k p (holding h x s)) (says_less k h x (none_at k h st (omega arith)) (free_type k.parts x s.depth e))

    void_copied : (z : Ty) → y.is_void z ≡ true → y.is_owned z ≡ false
    void_copied y.void e = refl
    void_copied y.int e = refl
    void_copied y.bool e = refl
    void_copied y.str e = refl
    void_copied (y.kind n) e = absurd (cc)
    void_copied (y.array z) e = absurd (cc)
    void_copied (y.ref z) e = refl
    void_copied (y.imm z) e = refl
    void_copied (y.iso z) e = absurd (cc)

    pub unused_runs : {p : ℕ} → Runs k p (drop_value (gives_of x) h spot) (drop_stands x (holding h x s)) (given h x s) (falls s)
    unused_runs = unused_by (y.is_void x) (y.is_owned x) refl (void_copied x)

  -- ---- the end of a local's scope

  module _ (env : Env) (h : ℕ) (s : Stand) (st : Stands k env h s) (n : ℕ) (x : Ty) (g : Gone) (to : ℕ) (lt : to < h) (z : Ty) (spot : Spot) where
    abbrev here : Stand
    here = with_gone g (with_local n h x s)

    abbrev inside : Stand
    inside = given to z here

    abbrev outside : Stand
    outside = given to z (with_gone g s)

    abbrev slot : Slot
    slot = record { role = local n; register = h; ty = x; depth = s.depth }

    outside_none : at k outside h ≡ Empty
    outside_none = given_there to z (with_gone g s) h (omega (arith, lt)) ∙ nothing_above k h s.slots g h st.falls (omega arith)

    inside_here : at k inside h ≡ slot_fact k.parts slot g
    inside_here = given_there to z here h (omega (arith, lt)) ∙ ap (λ b. if b then slot_fact k.parts slot g else fact_in k.parts s.slots g h) (eq-eqb h h refl)

    others : (q : ℕ) → h ≢ q → at k outside q ≡ at k inside q
    others q ne = given_same to z (with_gone g s) here q refl (sym (ap (λ b. if b then slot_fact k.parts slot g else fact_in k.parts s.slots g q) (ne_eqb h q ne)))

    same_depth : inside.depth ≡ outside.depth
    same_depth = given_depth to z here ∙ sym (given_depth to z (with_gone g s))

    forgets : is_free (slot_fact k.parts slot g) ≡ true → Says k inside outside
    forgets free = record {
      depth = same_depth;
      each = λ q.
          ⊎_elim
          (λ e. subst (λ r. agrees (at k outside r) (at k inside r) ≡ true) e (subst (λ f. agrees f (at k inside h) ≡ true) (sym outside_none) (subst (λ f. is_free f ≡ true) (sym inside_here) free)))
          (λ ne. subst (λ f. agrees (at k outside q) f ≡ true) (others q ne) (agrees_same (at k outside q)))
          (cases_eq h q);
    }

    ends_by : {p : ℕ} (owned gone : Bool) → y.is_owned x ≡ owned → is_gone h g ≡ gone
        → Runs k p (if owned then (if gone then [] else i.Destroy h spot ∷ []) else []) (if owned then (if gone then [] else inside ∷ []) else []) inside (falls outside)
    ends_by {p} false gone o e = runs_less k (nothing k p inside) (forgets (free_slot (is_lost slot g)))
      where
        free_slot : (b : Bool) → is_free (if b then Empty else Held (code_type k.parts x) s.depth false) ≡ true
        free_slot true = refl
        free_slot false = free_type k.parts x s.depth o
    ends_by {p} true true o e = runs_less k (nothing k p inside) (forgets (ap (λ b. is_free (if b then Empty else Held (code_type k.parts x) s.depth false)) (ap (λ b. true && b && is_gone h g) o ∙ ap (λ b. true && true && b) e)))
    ends_by true false o e =
        drops_run k h x spot
        (inside_here ∙ ap (λ b. if b then Empty else Held (code_type k.parts x) s.depth false) (ap (λ b. true && b && is_gone h g) o ∙ ap (λ b. true && true && b) e) ∙ ap (λ d. held k x d) (sym (given_depth to z here)))
        o same_depth outside_none (λ q ne. subst (λ f. agrees (at k outside q) f ≡ true) (others q ne) (agrees_same (at k outside q)))

    pub scope_ends : {p : ℕ} → Runs k p (drop_entry (entry n h (gives_of x)) g spot) (drop_local x h inside) inside (falls outside)
    scope_ends {p} =
        subst (λ o. Runs k p (if o then (if is_gone h g then [] else i.Destroy h spot ∷ []) else []) (drop_local x h inside) inside (falls outside)) (sym (owner_is x))
        (marks (ends_by (y.is_owned x) (is_gone h g) refl refl))
      where
        -- what is gone there is gone behind it
        gone_inside : (b : Bool) → is_gone h (if b then here else holding to z here).gone ≡ is_gone h g
        gone_inside true = refl
        gone_inside false = refl

        marks : Runs k p (if y.is_owned x then (if is_gone h g then [] else i.Destroy h spot ∷ []) else []) (if y.is_owned x then (if is_gone h g then [] else inside ∷ []) else []) inside (falls outside)
            → Runs k p (if y.is_owned x then (if is_gone h g then [] else i.Destroy h spot ∷ []) else []) (drop_local x h inside) inside (falls outside)
        marks r = subst (λ b. Runs k p (if y.is_owned x then (if is_gone h g then [] else i.Destroy h spot ∷ []) else []) (if y.is_owned x then (if b then [] else inside ∷ []) else []) inside (falls outside)) (sym (gone_inside (y.is_void z))) r
