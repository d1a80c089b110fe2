-- How the walk goes through the set of a local.
use Rattle.std.proofs.Common.{◌≡◌, ◌≢◌, ℕ, ◌+◌, ◌<◌, List, [], ◌∷◌, Bool, true, false, not, ◌&&◌, ◌==◌, if◌then◌else◌, refl, sym, ap, ◌∙◌, subst, arith, ⊎_elim}
use Rattle.std.proofs.lemmas.Bool.{cases_eq}
use Rattle.vale_base.specs.declared.spot.Spot.{Spot}
use Rattle.vale_rules_spec.specs.Types.{Ty}
use Rattle.vale_rules_spec.specs.Types as y
use Rattle.vale_rules_spec.specs.Typing.{Env}
use Rattle.vale_code.specs.declared.instr.Instr.{Instr}
use Rattle.vale_code.specs.declared.instr.Instr.TheVariants as i
use Rattle.vale_cert.specs.Types.{is_owned}
use Rattle.vale_cert.specs.Known.{is_free, agrees}
use Rattle.vale_cert.specs.declared.facts.RegFact.TheVariants.{Empty}
use Rattle.vale_lowering.specs.Instructions.{stuck}
use Rattle.vale_lowering_objects.specs.Lowered.{exchange_by, exchange, store_by, store}
use Rattle.vale_lowering_objects.specs.Program.{code_type}
use Rattle.vale_lowering_objects.specs.Scopes.{Gives, void, copy, owner, gives_of, is_owner, find, is_gone, same_truth}
use Rattle.vale_object_facts.specs.Slots.{is_listed, Stand, scope_at, with_gone, holding, is_lost}
use Rattle.vale_object_facts.specs.Stands as stands
use Rattle.vale_object_facts.proofs.Agreeing.{agrees_same, put, put_here, put_there}
use Rattle.vale_object_facts.proofs.Covering.{Site, at, held, Says, holding_here, holding_there}
use Rattle.vale_object_facts.proofs.Leaving.{owner_is}
use Rattle.vale_object_facts.proofs.Locals.{Named, Stands, none_at, below, holds, lost, others_stay}
use Rattle.vale_object_facts.proofs.Owners.{owned_too, free_type, says_put, moves_run, moves_out, drops_run}
use Rattle.vale_object_facts.proofs.Rows.{beside_same, beside_one, beside_above, copy_runs}
use Rattle.vale_object_facts.proofs.Runs.{Runs, runs_less, both, falls}
use Rattle.vale_object_facts.proofs.Ways.{Clean}

none_and : (b : Bool) → (b && false) ≡ false
none_and true = refl
none_and false = refl

module _ (k : Site) where
  -- a register that gets a value of the type that it holds
  pub says_again : (r : ℕ) (x : Ty) (s : Stand) → at k s r ≡ held k x s.depth → Says k (holding r x s) s
  says_again r x s e = record { depth = refl; each = each }
    where
      each : (q : ℕ) → agrees (at k s q) (at k (holding r x s) q) ≡ true
      each q =
          ⊎_elim
          (λ same. subst (λ f. agrees (at k s q) f ≡ true) (ap (at k s) (sym same) ∙ e ∙ sym (holding_here k r x s) ∙ ap (at k (holding r x s)) same) (agrees_same (at k s q)))
          (λ ne. subst (λ f. agrees (at k s q) f ≡ true) (sym (holding_there k r x s q ne)) (agrees_same (at k s q)))
          (cases_eq r q)

module _ (k : Site) (env : Env) (h : ℕ) (s : Stand) (st : Stands k env h s) (n : ℕ) (x : Ty) (nm : Named n x s.slots) where
  abbrev r : ℕ
  r = nm.slot.register

  abbrev value : Stand
  value = holding h x s

  abbrev taken : Stand
  taken = with_gone (r ∷ s.gone) s

  r_below : r < h
  r_below = below k st nm

  r_is : is_lost nm.slot s.gone ≡ false → at k value r ≡ held k x s.depth
  r_is e = holding_there k h x s r (let lt = r_below in omega (arith, lt)) ∙ holds k st nm e

  none_h : at k s h ≡ Empty
  none_h = none_at k h st (omega arith)

  none_next : at k s (h + 1) ≡ Empty
  none_next = none_at k (h + 1) st (omega arith)

  value_next : at k value (h + 1) ≡ Empty
  value_next = holding_there k h x s (h + 1) (omega arith) ∙ none_next

  taken_r : y.is_owned x ≡ true → at k (holding h x taken) r ≡ Empty
  taken_r o = holding_there k h x taken r (let lt = r_below in omega (arith, lt)) ∙ lost k st nm s.gone o

  -- with the local's owner gone, the others say the same
  taken_others : (q : ℕ) → r ≢ q → at k (holding h x taken) q ≡ at k value q
  taken_others q ne = ap (λ f. if h == q then held k x s.depth else f) (others_stay k s.slots r q s.gone ne)

  -- ---- a copied value

  module _ (o : y.is_owned x ≡ false) where
    not_owned : not (is_owned (code_type k.parts x)) ≡ true
    not_owned = ap not (owned_too k.parts x ∙ o)

    there : is_lost nm.slot s.gone ≡ false
    there = ap (λ b. is_listed nm.slot.role && b && is_gone r s.gone) (ap y.is_owned nm.typed ∙ o) ∙ ap (λ b. b && is_gone r s.gone) (none_and (is_listed nm.slot.role))

    abbrev both_held : Stand
    both_held = holding (h + 1) x value

    at_h : at k both_held h ≡ held k x s.depth
    at_h = holding_there k (h + 1) x value h (omega arith) ∙ holding_here k h x s

    at_next : at k both_held (h + 1) ≡ held k x s.depth
    at_next = holding_here k (h + 1) x value

    at_r : at k both_held r ≡ held k x s.depth
    at_r = holding_there k (h + 1) x value r (let lt = r_below in omega (arith, lt)) ∙ r_is there

    copies : {p : ℕ} → Runs k p (i.Copy (h + 1) r ∷ i.Copy r h ∷ i.Copy h (h + 1) ∷ []) (value ∷ both_held ∷ both_held ∷ []) value (falls value)
    copies =
        both k {a = i.Copy (h + 1) r ∷ []} {b = i.Copy r h ∷ i.Copy h (h + 1) ∷ []} {ma = value ∷ []} {mb = both_held ∷ both_held ∷ []}
        (copy_runs k (h + 1) r x (r_is there) not_owned (ap is_free value_next) refl (beside_same k (h + 1) value))
        (both k {a = i.Copy r h ∷ []} {b = i.Copy h (h + 1) ∷ []} {ma = both_held ∷ []} {mb = both_held ∷ []}
        (runs_less k (copy_runs k r h x at_h not_owned (ap is_free at_r ∙ free_type k.parts x s.depth o) refl (beside_same k r both_held)) (says_again k r x both_held at_r))
        (copy_runs k h (h + 1) x at_next not_owned (ap is_free at_h ∙ free_type k.parts x s.depth o) refl (beside_above k h (h + 1) x value s (free_type k.parts x s.depth o) none_next (beside_one k h x s))))

    stores_copy : {p : ℕ} → Runs k p (i.Copy r h ∷ []) (value ∷ []) value (falls s)
    stores_copy =
        runs_less k
        (copy_runs k r h x (holding_here k h x s) not_owned (ap is_free (r_is there) ∙ free_type k.parts x s.depth o) refl (beside_above k r h x s s (free_type k.parts x s.depth o) none_h (beside_same k r s)))
        (says_again k r x s (holds k st nm there))

  -- ---- an owner

  module _ (o : y.is_owned x ≡ true) (stays : is_gone r s.gone ≡ false) where
    whole : is_lost nm.slot s.gone ≡ false
    whole = ap (λ b. is_listed nm.slot.role && y.is_owned nm.slot.ty && b) stays ∙ none_and (is_listed nm.slot.role && y.is_owned nm.slot.ty)

    abbrev old : Stand
    old = holding (h + 1) x (holding h x taken)

    abbrev new : Stand
    new = holding (h + 1) x s

    old_h : at k old h ≡ held k x s.depth
    old_h = holding_there k (h + 1) x (holding h x taken) h (omega arith) ∙ holding_here k h x taken

    old_r : at k old r ≡ Empty
    old_r = holding_there k (h + 1) x (holding h x taken) r (let lt = r_below in omega (arith, lt)) ∙ taken_r o

    -- what is said when h is moved to the local
    back : (d u : Stand) → at k u r ≡ held k x u.depth → at k u h ≡ Empty → ((q : ℕ) → r ≢ q → h ≢ q → at k u q ≡ at k d q) → (q : ℕ) → agrees (at k u q) (put r (held k x u.depth) (put h Empty (at k d)) q) ≡ true
    back d u here gone others =
        says_put k (put h Empty (at k d)) u r (held k x u.depth) (subst (λ f. agrees f (held k x u.depth) ≡ true) (sym here) (agrees_same (held k x u.depth)))
        (λ q nr.
        ⊎_elim
        (λ e. subst (λ f. agrees (at k u q) f ≡ true) (sym (put_here h Empty (at k d) q e)) (subst (λ z. agrees z Empty ≡ true) (sym (ap (at k u) (sym e) ∙ gone)) refl))
        (λ nh. subst (λ f. agrees (at k u q) f ≡ true) (sym (put_there h Empty (at k d) q nh)) (subst (λ f. agrees (at k u q) f ≡ true) (others q nr nh) (agrees_same (at k u q))))
        (cases_eq h q))

    new_others : (q : ℕ) → r ≢ q → h ≢ q → at k new q ≡ at k old q
    new_others q nr nh = ap (λ f. if h + 1 == q then held k x s.depth else f) (sym (holding_there k h x taken q nh ∙ others_stay k s.slots r q s.gone nr))

    moves : {p : ℕ} → Runs k p (i.Move (h + 1) r ∷ i.Move r h ∷ i.Move h (h + 1) ∷ []) (value ∷ old ∷ new ∷ []) value (falls value)
    moves =
        both k {a = i.Move (h + 1) r ∷ []} {b = i.Move r h ∷ i.Move h (h + 1) ∷ []} {ma = value ∷ []} {mb = old ∷ new ∷ []}
        (moves_out k (h + 1) r x (r_is whole) o (ap is_free value_next) (let lt = r_below in omega (arith, lt)) refl (taken_r o)
        (λ q n1 nr. subst (λ f. agrees f (at k value q) ≡ true) (sym (taken_others q nr)) (agrees_same (at k value q))))
        (both k {a = i.Move r h ∷ []} {b = i.Move h (h + 1) ∷ []} {ma = old ∷ []} {mb = new ∷ []}
        (moves_run k r h x old_h o (ap is_free old_r) (let lt = r_below in omega (arith, lt)) refl
        (back old new (holding_there k (h + 1) x s r (let lt = r_below in omega (arith, lt)) ∙ holds k st nm whole) (holding_there k (h + 1) x s h (omega arith) ∙ none_h) new_others))
        (moves_out k h (h + 1) x (holding_here k (h + 1) x s) o (ap is_free (holding_there k (h + 1) x s h (omega arith) ∙ none_h)) (omega arith) refl none_next
        (λ q nh n1. subst (λ f. agrees (at k s q) f ≡ true) (sym (holding_there k (h + 1) x s q n1)) (agrees_same (at k s q)))))

    stores_owner : {p : ℕ} (spot : Spot) → Runs k p (i.Destroy r spot ∷ i.Move r h ∷ []) (value ∷ holding h x taken ∷ []) value (falls s)
    stores_owner spot =
        both k {a = i.Destroy r spot ∷ []} {b = i.Move r h ∷ []} {ma = value ∷ []} {mb = holding h x taken ∷ []}
        (drops_run k r x spot (r_is whole) o refl (taken_r o) (λ q nr. subst (λ f. agrees f (at k value q) ≡ true) (sym (taken_others q nr)) (agrees_same (at k value q))))
        (moves_run k r h x (holding_here k h x taken) o (ap is_free (taken_r o)) (let lt = r_below in omega (arith, lt)) refl
        (back (holding h x taken) s (holds k st nm whole) none_h (λ q nr nh. sym (holding_there k h x taken q nh ∙ others_stay k s.slots r q s.gone nr))))

  -- ---- by what is known of the local

  -- a set is only of a local that is there, and of its sort
  abbrev allowed : Bool → Bool → Bool → List Instr → List Instr
  allowed owned gone wanted code = if same_truth owned wanted then (if owned && gone then stuck h else code) else stuck h

  owned_is : is_owner (gives_of nm.slot.ty) ≡ y.is_owned x
  owned_is = owner_is nm.slot.ty ∙ ap y.is_owned nm.typed

  exchange_by_sort : {p : ℕ} (q : Gives) (owned gone : Bool) → is_owner (gives_of nm.slot.ty) ≡ owned → is_gone r s.gone ≡ gone → Clean (allowed owned gone (is_owner q) (exchange_by q r h))
      → Runs k p (allowed owned gone (is_owner q) (exchange_by q r h))
      (if owned then holding h x s ∷ holding (h + 1) x (holding h x (with_gone (r ∷ s.gone) s)) ∷ holding (h + 1) x s ∷ [] else holding h x s ∷ holding (h + 1) x (holding h x s) ∷ holding (h + 1) x (holding h x s) ∷ []) value (falls value)
  exchange_by_sort void true gone e g c = absurd (cc)
  exchange_by_sort void false gone e g c = absurd (cc)
  exchange_by_sort copy true gone e g c = absurd (cc)
  exchange_by_sort copy false gone e g c = copies (sym owned_is ∙ e)
  exchange_by_sort owner true true e g c = absurd (cc)
  exchange_by_sort owner true false e g c = moves (sym owned_is ∙ e) g
  exchange_by_sort owner false gone e g c = absurd (cc)

  pub exchange_runs : {p : ℕ} (q : Gives) → Clean (exchange (find n (scope_at s)) s.gone q h) → Runs k p (exchange (find n (scope_at s)) s.gone q h) (stands.exchange_stands (find n (scope_at s)) x h s) value (falls value)
  exchange_runs {p} q clean =
      subst (λ f. Clean (exchange f s.gone q h) → Runs k p (exchange f s.gone q h) (stands.exchange_stands f x h s) value (falls value)) (sym nm.found)
      (λ c. exchange_by_sort q (is_owner (gives_of nm.slot.ty)) (is_gone r s.gone) refl refl c) clean

  store_by_sort : {p : ℕ} (spot : Spot) (q : Gives) (owned gone : Bool) → is_owner (gives_of nm.slot.ty) ≡ owned → is_gone r s.gone ≡ gone → Clean (allowed owned gone (is_owner q) (store_by q r h spot))
      → Runs k p (allowed owned gone (is_owner q) (store_by q r h spot)) (if owned then holding h x s ∷ holding h x (with_gone (r ∷ s.gone) s) ∷ [] else holding h x s ∷ []) value (falls s)
  store_by_sort spot void true gone e g c = absurd (cc)
  store_by_sort spot void false gone e g c = absurd (cc)
  store_by_sort spot copy true gone e g c = absurd (cc)
  store_by_sort spot copy false gone e g c = stores_copy (sym owned_is ∙ e)
  store_by_sort spot owner true true e g c = absurd (cc)
  store_by_sort spot owner true false e g c = stores_owner (sym owned_is ∙ e) g spot
  store_by_sort spot owner false gone e g c = absurd (cc)

  pub store_runs : {p : ℕ} (spot : Spot) (q : Gives) → Clean (store (find n (scope_at s)) s.gone q h spot) → Runs k p (store (find n (scope_at s)) s.gone q h spot) (stands.store_stands (find n (scope_at s)) x h s) value (falls s)
  store_runs {p} spot q clean =
      subst (λ f. Clean (store f s.gone q h spot) → Runs k p (store f s.gone q h spot) (stands.store_stands f x h s) value (falls s)) (sym nm.found)
      (λ c. store_by_sort spot q (is_owner (gives_of nm.slot.ty)) (is_gone r s.gone) refl refl c) clean
