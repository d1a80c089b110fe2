-- What a step does from where it starts, once its index stands in a register.
use Rattle.std.proofs.Common.{◌≡◌, ◌≢◌, ℕ, ◌+◌, ◌<◌, [], ◌∷◌, Bool, true, false, ◌&&◌, if◌then◌else◌, refl, sym, ap, ◌∙◌, subst, arith}
use Rattle.std.proofs.lemmas.Bool.{eq-eqb, ne_eqb}
use Rattle.vale_base.specs.declared.spot.Spot.{Spot}
use Rattle.vale_rules_spec.specs.TypeRules.{borrow_gives}
use Rattle.vale_rules_spec.specs.Types.{Ty, View, blind, direct, shared, frozen, is_frozen, part_seen, Seen}
use Rattle.vale_rules_spec.specs.Types as y
use Rattle.vale_rules_spec.specs.Typing.{Env}
use Rattle.vale_model.specs.Parts.{field_place}
use Rattle.vale_cert.specs.Known.{is_free, agrees}
use Rattle.vale_cert.specs.declared.facts.RegFact.TheVariants.{Empty}
use Rattle.vale_lowering_objects.specs.Lowered.{Origin, at_hand, reference, load_field, load_element, swap_field, swap_element}
use Rattle.vale_lowering_objects.specs.Scopes.{Gives, waiting, is_gone}
use Rattle.vale_object_facts.specs.Slots.{waits, Slots, scope_of, Stand, with_gone, holding, with_waiting, slot_fact, fact_in}
use Rattle.vale_object_facts.specs.Stands.{lent}
use Rattle.vale_object_facts.specs.Suits.{HasField, HasItems, refers, is_read}
use Rattle.vale_object_facts.proofs.Agreeing.{agrees_same}
use Rattle.vale_object_facts.proofs.Arguments.{find_below}
use Rattle.vale_object_facts.proofs.Cells.{Leads, field_read, element_read, field_swapped, element_swapped}
use Rattle.vale_object_facts.proofs.Covering.{Site, at, held, Falls, holding_here, holding_there}
use Rattle.vale_object_facts.proofs.Locals.{Stands, none_at, free_at, stands_holding}
use Rattle.vale_object_facts.proofs.Owners.{free_type}
use Rattle.vale_object_facts.proofs.Rows.{Beside, beside_same, beside_one, beside_above}
use Rattle.vale_object_facts.proofs.Runs.{Runs, falls}
use Rattle.vale_object_facts.proofs.Starts.{From, stays, lies}
use Rattle.vale_object_facts.proofs.Waits.{Unnamed}

pub refers_is : (u : Ty) (v : View) → refers u v → u ≡ borrow_gives v
refers_is u blind r = absurd r
refers_is u (direct x) r = absurd r
refers_is u (shared x) r = r
refers_is u (frozen x) r = r

pub refers_plain : (u : Ty) (v : View) → refers u v → y.is_owned u ≡ false
refers_plain u blind r = absurd r
refers_plain u (direct x) r = absurd r
refers_plain u (shared x) r = ap y.is_owned r
refers_plain u (frozen x) r = ap y.is_owned r

-- no name stands for the register of what waits
pub unnamed_wait : (k : Site) (h : ℕ) (xs : Slots) (q : Gives) → Falls k h xs → Unnamed h false 0 (waiting h q ∷ scope_of xs)
unnamed_wait k h xs q f = record { each = λ n x e same. let lt = find_below k h xs n x f e in absurd (omega (arith, lt, same)) }

module _ (k : Site) where
  pub from_stands : {env : Env} {h j : ℕ} {s t : Stand} → Stands k env h s → From h s j t → Stands k env j t
  from_stands st stays = st
  from_stands st (lies u e) = stands_holding k u e st

  -- a value comes into a free register
  apart : (s : Stand) (j r : ℕ) (x : Ty) (d : ℕ) → at k s j ≡ Empty → at k s r ≡ held k x d → j ≢ r
  apart s j r x d none here e = let f : Empty ≡ held k x d = sym none ∙ ap (at k s) e ∙ here in absurd (cc)

  pub leads_holding : (s : Stand) (j : ℕ) (z : Ty) (o : Origin) (v : View) → at k s j ≡ Empty → Leads k s o v → Leads k (holding j z s) o v
  leads_holding s j z (at_hand r) v none l = (l.0, l.1, l.2, holding_there k j z s r (apart s j r l.0 s.depth none l.3) ∙ l.3)
  leads_holding s j z (reference r) v none l = holding_there k j z s r (apart s j r (borrow_gives v) s.depth none l) ∙ l

  -- ---- a field or an element is read

  module _ {env : Env} (h : ℕ) (over : Stand) (st : Stands k env h over) (v : View) (t : Ty) (x : Seen) (spot : Spot) (o : Origin) (read : is_read v t x) where
    free_by : {j : ℕ} {s : Stand} → From h over j s → is_free (at k s h) ≡ true
    free_by stays = free_at k h st (omega arith)
    free_by (lies u e) = ap is_free (holding_here k h u over) ∙ free_type k.parts u over.depth e

    beside_by : {j : ℕ} {s : Stand} → From h over j s → Beside k h s over
    beside_by stays = beside_same k h over
    beside_by (lies u e) = beside_one k h u over

    depth_by : {j : ℕ} {s : Stand} → From h over j s → s.depth ≡ over.depth
    depth_by stays = refl
    depth_by (lies u e) = refl

    pub field_steps : {q j : ℕ} {s : Stand} (m : ℕ) → From h over j s → HasField k.parts k.code v m t → Leads k s o v → Runs k q (load_field o (field_place k.parts v m) spot h) (s ∷ []) s (falls (holding h (lent x) over))
    field_steps {q} {s = s} m from f l =
        subst (λ z. Runs k q (load_field o (field_place k.parts v m) spot h) (s ∷ []) s (falls (holding h (lent z) over))) (sym read.0)
        (field_read k s over v t spot h read.1 (free_by from) (depth_by from) (beside_by from) o m f l)

    -- with its index in the first free register
    indexed_free : {j : ℕ} {s : Stand} → From h over j s → is_free (at k (holding j y.int s) h) ≡ true
    indexed_free stays = ap is_free (holding_here k h y.int over)
    indexed_free (lies u e) = ap is_free (holding_there k (h + 1) y.int (holding h u over) h (omega arith) ∙ holding_here k h u over) ∙ free_type k.parts u over.depth e

    indexed_beside : {j : ℕ} {s : Stand} → From h over j s → Beside k h (holding j y.int s) over
    indexed_beside stays = beside_one k h y.int over
    indexed_beside (lies u e) = beside_above k h (h + 1) y.int (holding h u over) over refl (none_at k (h + 1) st (omega arith)) (beside_one k h u over)

    pub element_steps : {q j : ℕ} {s : Stand} (z : Ty) → z ≡ y.int → From h over j s → HasItems k.parts k.code v t → Leads k s o v → Runs k q (load_element o j spot h) (holding j z s ∷ []) (holding j z s) (falls (holding h (lent x) over))
    element_steps {q} {j} {s} z is from f l =
        subst (λ z. Runs k q (load_element o j spot h) (holding j z s ∷ []) (holding j z s) (falls (holding h (lent x) over))) (sym is)
        (subst (λ z. Runs k q (load_element o j spot h) (holding j y.int s ∷ []) (holding j y.int s) (falls (holding h (lent z) over))) (sym read.0)
        (element_read k (holding j y.int s) over v t spot h read.1 (indexed_free from) (depth_by from) (indexed_beside from) o j f (holding_here k j y.int s) (leads_holding s j y.int o v (none_at k j (from_stands st from) (omega arith)) l)))

  -- ---- a field or an element gets what waits in a register, which gets the old value

  module _ {env : Env} (new : ℕ) (z : Ty) (over : Stand) (st : Stands k env new over) (there : is_gone new over.gone ≡ false) (v : View) (spot : Spot) (o : Origin) (unfrozen : is_frozen v ≡ false) where
    -- with what waits
    abbrev pub wait : Stand
    wait = with_gone over.gone (with_waiting new z over)

    wait_here : at k wait new ≡ held k z over.depth
    wait_here =
        ap (λ b. if b then slot_fact k.parts (record { role = waits; register = new; ty = z; depth = over.depth }) over.gone else fact_in k.parts over.slots over.gone new) (eq-eqb new new refl)
        ∙ ap (λ b. if b then Empty else held k z over.depth) (ap (λ b. true && y.is_owned z && b) there ∙ none (true && y.is_owned z))
      where
        none : (b : Bool) → (b && false) ≡ false
        none true = refl
        none false = refl

    wait_there : (r : ℕ) → new ≢ r → at k wait r ≡ at k over r
    wait_there r ne = ap (λ b. if b then slot_fact k.parts (record { role = waits; register = new; ty = z; depth = over.depth }) over.gone else fact_in k.parts over.slots over.gone r) (ne_eqb new r ne)

    wait_beside : Beside k new wait over
    wait_beside r ne = subst (λ f. agrees (at k over r) f ≡ true) (sym (wait_there r ne)) (agrees_same (at k over r))

    wait_none : (r : ℕ) → new < r → at k wait r ≡ Empty
    wait_none r lt = wait_there r (omega (arith, lt)) ∙ none_at k r st (omega (arith, lt))

    value_by : {j : ℕ} {s : Stand} → From (new + 1) wait j s → at k s new ≡ held k z s.depth
    value_by stays = wait_here
    value_by (lies u e) = holding_there k (new + 1) u wait new (omega arith) ∙ wait_here

    new_beside : {j : ℕ} {s : Stand} → From (new + 1) wait j s → Beside k new s over
    new_beside stays = wait_beside
    new_beside (lies u e) = beside_above k new (new + 1) u wait over (free_type k.parts u over.depth e) (none_at k (new + 1) st (omega arith)) wait_beside

    new_depth : {j : ℕ} {s : Stand} → From (new + 1) wait j s → s.depth ≡ over.depth
    new_depth stays = refl
    new_depth (lies u e) = refl

    above : {j : ℕ} {s : Stand} → From (new + 1) wait j s → new < j
    above stays = omega arith
    above (lies u e) = omega arith

    none_next : {j : ℕ} {s : Stand} → From (new + 1) wait j s → at k s j ≡ Empty
    none_next stays = wait_none (new + 1) (omega arith)
    none_next (lies u e) = holding_there k (new + 1) u wait (new + 1 + 1) (omega arith) ∙ wait_none (new + 1 + 1) (omega arith)

    pub field_sets : {q j : ℕ} {s : Stand} (m : ℕ) → From (new + 1) wait j s → HasField k.parts k.code v m z → Leads k s o v → Runs k q (swap_field o (field_place k.parts v m) spot new) (s ∷ []) s (falls (holding new z over))
    field_sets {s = s} m from f l = field_swapped k s over v z spot new unfrozen (value_by from) (new_depth from) (new_beside from) o m f l

    pub element_sets : {q j : ℕ} {s : Stand} (w : Ty) → w ≡ y.int → From (new + 1) wait j s → HasItems k.parts k.code v z → Leads k s o v → Runs k q (swap_element o j spot new) (holding j w s ∷ []) (holding j w s) (falls (holding new z over))
    element_sets {q} {j} {s} w is from f l =
        let lt = above from in
        subst (λ w. Runs k q (swap_element o j spot new) (holding j w s ∷ []) (holding j w s) (falls (holding new z over))) (sym is)
        (element_swapped k (holding j y.int s) over v z spot new unfrozen (holding_there k j y.int s new (omega (arith, lt)) ∙ value_by from) (new_depth from)
        (beside_above k new j y.int s over refl (none_at k j st (omega (arith, lt))) (new_beside from)) o j f (holding_here k j y.int s) (leads_holding s j y.int o v (none_next from) l))
