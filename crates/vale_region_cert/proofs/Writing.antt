-- Fields and elements are swapped, pushed and popped, and objects made and taken apart: what is held after it is as the certificate knows.
use Rattle.std.proofs.Common.{◌≡◌, ℕ, ◌+◌, List, Option, Some, None, true, false, ◌&&◌, ◌⊎◌, refl, sym, ap, ◌∙◌, subst}
use Rattle.std.specs.Prelude.{slice_set}
use Rattle.std.proofs.lemmas.Bool.{and_parts}
use Rattle.vale_state_spec.specs.State.{State, swap, swap_element, push, pop}
use Rattle.vale_state_spec.specs.World.{Value, Own}
use Rattle.vale_base.specs.declared.name.Kind.{Kind}
use Rattle.vale_base.specs.declared.spot.Spot.{Spot}
use Rattle.vale_code.specs.Frames.{Running, Config, Next}
use Rattle.vale_code.specs.Instructions.{with_value, with_owner, answered, certain, of_living}
use Rattle.vale_code.specs.Parts.{Parts}
use Rattle.vale_code.specs.Registers.{read, kept}
use Rattle.vale_code.specs.declared.ty.Ty.{Ty}
use Rattle.vale_code.specs.declared.ty.Ty.TheVariants as t
use Rattle.vale_cert.specs.Certificate.{Certified}
use Rattle.vale_cert.specs.Known.{fact_of, is_there, has}
use Rattle.vale_cert.specs.Objects.{field_of, item_of, cell_by, owner_kind, reference_kind}
use Rattle.vale_cert.specs.Rules.{is_usable, leads_as_owner, leads_as_reference, reads, swaps, pushes, pops, after_passing}
use Rattle.vale_cert.specs.Types.{is_frozen}
use Rattle.vale_cert.specs.Walk.{goes_on}
use Rattle.vale_cert.specs.declared.facts.FuncFacts.{FuncFacts}
use Rattle.vale_cert.specs.declared.facts.RegFact.{RegFact}
use Rattle.vale_cert.specs.declared.facts.RegFact.TheVariants.{Held}
use Rattle.vale_cert.specs.declared.rules.Kept.{Kept}
use Rattle.vale_cert.proofs.Arguments.{took}
use Rattle.vale_cert.proofs.Cells.{follows_reference}
use Rattle.vale_cert.proofs.Fit.{value_has, Holds, reg_value}
use Rattle.vale_cert.proofs.Going.{Place, row, fits_here}
use Rattle.vale_cert.proofs.Reading.{owner_found, read_found}
use Rattle.vale_cert.proofs.Writing.{swap_types, swap_present, swap_found, fill_parts, back_parts}
use Rattle.vale_region_laws.specs.Holding.{Marks, mark, put_mark, taken}
use Rattle.vale_region_laws.specs.Passing.{IsPlain}
use Rattle.vale_region_laws.specs.Regions.{How, IsNoIso}
use Rattle.vale_region_laws.specs.Regions as how
use Rattle.vale_region_laws.proofs.Acts.{push_next, pop_next, swap_next, swap_own_next, swap_element_next, swap_element_own_next}
use Rattle.vale_region_laws.proofs.Passing.{taken_under}
use Rattle.vale_region_cert.specs.Joined.{RegionsFit, RegionsNext}
use Rattle.vale_region_cert.specs.Told.{Told}
use Rattle.vale_region_cert.proofs.Around.{marks, hs, base, told_here, deep_here, goes}
use Rattle.vale_region_cert.proofs.Giving.{used_as}
use Rattle.vale_region_cert.proofs.Lawful.{item_lawful, field_of_lawful}
use Rattle.vale_region_cert.proofs.Reading.{owner_marked, reference_mark, reference_fact, no_iso_at}
use Rattle.vale_region_cert.proofs.Simple.{gets_held}
use Rattle.vale_region_cert.proofs.Told.{told_taken}

-- what the rules of a swap say of depths
swap_depths : (depth : ℕ) (regs : List RegFact) (c : Option Ty) (u : Ty) (to v : ℕ) (L : Kept) → c ≡ Some u → (swaps depth regs c to v L).kept.depths ≡ true → (L.depths ≡ true) × (is_usable depth (fact_of regs v) ≡ true)
swap_depths depth regs c u to v L is q = and_parts L.depths (is_usable depth (fact_of regs v)) (subst (λ c. (swaps depth regs c to v L).kept.depths ≡ true) is q)

push_depths : (depth : ℕ) (regs : List RegFact) (c : Option Ty) (u : Ty) (v : ℕ) (L : Kept) → c ≡ Some u → (pushes depth regs c v L).kept.depths ≡ true → (L.depths ≡ true) × (is_usable depth (fact_of regs v) ≡ true)
push_depths depth regs c u v L is q = and_parts L.depths (is_usable depth (fact_of regs v)) (subst (λ c. (pushes depth regs c v L).kept.depths ≡ true) is q)

pop_depths : (depth : ℕ) (regs : List RegFact) (c : Option Ty) (u : Ty) (to : ℕ) (L : Kept) → c ≡ Some u → (pops depth regs c to L).kept.depths ≡ true → L.depths ≡ true
pop_depths depth regs c u to L is q = subst (λ c. (pops depth regs c to L).kept.depths ≡ true) is q

swap_there : (depth : ℕ) (regs : List RegFact) (c : Option Ty) (u : Ty) (to v : ℕ) (L : Kept) → c ≡ Some u → (swaps depth regs c to v L).kept.present ≡ true → is_there (fact_of regs v) ≡ true
swap_there depth regs c u to v L is g =
    let p : (swaps depth regs (Some u) to v L).kept.present ≡ true = subst (λ c. (swaps depth regs c to v L).kept.present ≡ true) is g in
    (and_parts L.present (is_there (fact_of regs v)) (and_parts (L.present && is_there (fact_of regs v)) (Rattle.vale_cert.specs.Known.is_free (fact_of (after_passing regs v u) to)) p).0).1

push_there : (depth : ℕ) (regs : List RegFact) (c : Option Ty) (u : Ty) (v : ℕ) (L : Kept) → c ≡ Some u → (pushes depth regs c v L).kept.present ≡ true → is_there (fact_of regs v) ≡ true
push_there depth regs c u v L is g = (and_parts L.present (is_there (fact_of regs v)) (subst (λ c. (pushes depth regs c v L).kept.present ≡ true) is g)).1

module _ (code : Parts) (facts : List FuncFacts) (cert : Certified code facts) (last : Config → State) (P : Place code facts) (x : RegionsFit code facts (record { top = Running P.f; below = P.below; state = P.s })) where
  open P use {ty, f, below, s, F, under_it, heap, owned, instr, instrs, here, S}

  abbrev ms : Marks
  ms = marks code facts P x

  abbrev b : ℕ
  b = base code facts P x

  told : Told b S.known.regs ms
  told = told_here code facts P x

  -- what is stored lies at this depth, or leads nowhere
  stored : (u : Ty) (v : ℕ) (value : Value) → has u (fact_of S.known.regs v) ≡ true → is_there (fact_of S.known.regs v) ≡ true → is_usable S.known.depth (fact_of S.known.regs v) ≡ true → is_frozen u ≡ false → value_has u value ≡ true
      → (mark ms v ≡ Some (how.Held s.regions)) ⊎ IsPlain value
  stored u v value e there q fz h = used_as code s.world b S.known.depth s.regions (deep_here code facts P x) u (fact_of S.known.regs v) (mark ms v) value e there q fz h (told.each v)

  no_iso_here : (a : ℕ) (kind : Kind) (v : Value) → reference_kind (fact_of S.known.regs a) ≡ Some kind → read f.registers a ≡ Some v → IsNoIso v
  no_iso_here a kind v e reads = let o = reference_fact (fact_of S.known.regs a) kind e in no_iso_at code facts cert last P x (fact_of S.known.regs a) kind o.0 o.1 v o.2 (subst (Holds code s.world (fact_of S.known.regs a)) reads ((fits_here code facts P).each a))

  comes_back : goes_on instr ≡ true → (to v : ℕ) (u : Ty) (value : Value) (next : Next) → (row code facts P).after ≡ slice_set (after_passing S.known.regs v u) to (Held u S.known.depth false) → is_frozen u ≡ false → value_has u value ≡ true
      → Rattle.vale_region_laws.proofs.Acts.NextFits_ (Rattle.vale_region_cert.proofs.Around.around code facts P x (f.place + 1)) (put_mark (taken v value ms) to (Some (how.Held s.regions))) (hs code facts P x) next → RegionsNext code facts next
  comes_back on to v u value next after fz h n =
      gets_held code facts last P x on (after_passing S.known.regs v u) (taken v value ms) (told_taken b S.known.regs ms v u value h told) (taken_under s.regions s.regions v value ms x.fits.stack.0) to u false next after fz n

  pub swaps_own : goes_on instr ≡ true → (to a field v : ℕ)
      → (swaps S.known.depth S.known.regs (cell_by (field_of code field) (owner_kind (fact_of S.known.regs a))) to v (leads_as_owner (field_of code field) S.known.depth (fact_of S.known.regs a))).kept.types ≡ true
      → (swaps S.known.depth S.known.regs (cell_by (field_of code field) (owner_kind (fact_of S.known.regs a))) to v (leads_as_owner (field_of code field) S.known.depth (fact_of S.known.regs a))).kept.present ≡ true
      → (swaps S.known.depth S.known.regs (cell_by (field_of code field) (owner_kind (fact_of S.known.regs a))) to v (leads_as_owner (field_of code field) S.known.depth (fact_of S.known.regs a))).kept.depths ≡ true
      → (row code facts P).after ≡ (swaps S.known.depth S.known.regs (cell_by (field_of code field) (owner_kind (fact_of S.known.regs a))) to v (leads_as_owner (field_of code field) S.known.depth (fact_of S.known.regs a))).after
      → RegionsNext code facts (with_owner (read f.registers a) s (λ n. with_value (read f.registers v) s (λ new. certain f (Some to) (kept v new f.registers) below s (swap field (Own n) new s))))
  swaps_own on to a field v e g q after =
      let fact = fact_of S.known.regs a in
      let L = leads_as_owner (field_of code field) S.known.depth fact in
      let c = cell_by (field_of code field) (owner_kind fact) in
      let w = owner_found code facts P (cell_by (field_of code field)) a (is_usable S.known.depth fact) refl (swap_types code facts P c to v L e) (swap_present code facts P c to v L g) in
      let N = swap_found code facts P c w.cell to v L w.cell_is e g after in
      let fz = (field_of_lawful code facts cert field w.kind w.cell w.cell_of).2 in
      let d = swap_depths S.known.depth S.known.regs c w.cell to v L w.cell_is q in
      let parts = and_parts L.types (has w.cell (fact_of S.known.regs v)) (subst (λ c. (swaps S.known.depth S.known.regs c to v L).kept.types ≡ true) w.cell_is e) in
      comes_back on to v w.cell N.took_it.value _ N.after_is fz N.took_it.has.shape
      (swap_own_next code last f below s x.fits.home (hs code facts P x) ms x.fits.fits to a field v w.name N.took_it.value (owner_marked code facts cert last P x a w.kind w.via d.0)
      (stored w.cell v N.took_it.value parts.1 (swap_there S.known.depth S.known.regs c w.cell to v L w.cell_is g) d.1 fz N.took_it.has.shape) w.is N.took_it.is)

  pub swaps_found : goes_on instr ≡ true → (to a field v : ℕ) (at : Spot)
      → (swaps S.known.depth S.known.regs (cell_by (field_of code field) (reference_kind (fact_of S.known.regs a))) to v (leads_as_reference (field_of code field) S.known.depth (fact_of S.known.regs a))).kept.types ≡ true
      → (swaps S.known.depth S.known.regs (cell_by (field_of code field) (reference_kind (fact_of S.known.regs a))) to v (leads_as_reference (field_of code field) S.known.depth (fact_of S.known.regs a))).kept.present ≡ true
      → (swaps S.known.depth S.known.regs (cell_by (field_of code field) (reference_kind (fact_of S.known.regs a))) to v (leads_as_reference (field_of code field) S.known.depth (fact_of S.known.regs a))).kept.depths ≡ true
      → (row code facts P).after ≡ (swaps S.known.depth S.known.regs (cell_by (field_of code field) (reference_kind (fact_of S.known.regs a))) to v (leads_as_reference (field_of code field) S.known.depth (fact_of S.known.regs a))).after
      → RegionsNext code facts (with_value (read f.registers a) s (λ u. with_value (read f.registers v) s (λ new. answered f (Some to) (kept v new f.registers) at below s (swap field u new s))))
  swaps_found on to a field v at e g q after =
      let fact = fact_of S.known.regs a in
      let L = leads_as_reference (field_of code field) S.known.depth fact in
      let c = cell_by (field_of code field) (reference_kind fact) in
      let w = read_found code facts P reference_kind (cell_by (field_of code field)) a (is_usable S.known.depth fact) follows_reference refl (swap_types code facts P c to v L e) (swap_present code facts P c to v L g) in
      let N = swap_found code facts P c w.cell to v L w.cell_is e g after in
      let fz = (field_of_lawful code facts cert field w.kind w.cell w.cell_of).2 in
      let d = swap_depths S.known.depth S.known.regs c w.cell to v L w.cell_is q in
      let parts = and_parts L.types (has w.cell (fact_of S.known.regs v)) (subst (λ c. (swaps S.known.depth S.known.regs c to v L).kept.types ≡ true) w.cell_is e) in
      comes_back on to v w.cell N.took_it.value _ N.after_is fz N.took_it.has.shape
      (swap_next code last f below s x.fits.home (hs code facts P x) ms x.fits.fits to a field v at w.value N.took_it.value (reference_mark code facts cert last P x a w.kind w.via_kind d.0) (no_iso_here a w.kind w.value w.via_kind w.reads)
      (stored w.cell v N.took_it.value parts.1 (swap_there S.known.depth S.known.regs c w.cell to v L w.cell_is g) d.1 fz N.took_it.has.shape) w.reads N.took_it.is)

  pub swaps_element_own : goes_on instr ≡ true → (to a i v : ℕ) (at : Spot)
      → (swaps S.known.depth S.known.regs (cell_by (item_of code) (owner_kind (fact_of S.known.regs a))) to v (reads S.known.regs i t.Int (leads_as_owner (item_of code) S.known.depth (fact_of S.known.regs a)))).kept.types ≡ true
      → (swaps S.known.depth S.known.regs (cell_by (item_of code) (owner_kind (fact_of S.known.regs a))) to v (reads S.known.regs i t.Int (leads_as_owner (item_of code) S.known.depth (fact_of S.known.regs a)))).kept.present ≡ true
      → (swaps S.known.depth S.known.regs (cell_by (item_of code) (owner_kind (fact_of S.known.regs a))) to v (reads S.known.regs i t.Int (leads_as_owner (item_of code) S.known.depth (fact_of S.known.regs a)))).kept.depths ≡ true
      → (row code facts P).after ≡ (swaps S.known.depth S.known.regs (cell_by (item_of code) (owner_kind (fact_of S.known.regs a))) to v (reads S.known.regs i t.Int (leads_as_owner (item_of code) S.known.depth (fact_of S.known.regs a)))).after
      → RegionsNext code facts (with_owner (read f.registers a) s (λ n. with_value (read f.registers i) s (λ u. with_value (read f.registers v) s (λ new. answered f (Some to) (kept v new f.registers) at below s (of_living (swap_element (Own n) u new s))))))
  swaps_element_own on to a i v at e g q after =
      let fact = fact_of S.known.regs a in
      let L = leads_as_owner (item_of code) S.known.depth fact in
      let K = reads S.known.regs i t.Int L in
      let c = cell_by (item_of code) (owner_kind fact) in
      let types = and_parts L.types (has t.Int (fact_of S.known.regs i)) (swap_types code facts P c to v K e) in
      let there = and_parts L.present (is_there (fact_of S.known.regs i)) (swap_present code facts P c to v K g) in
      let w = owner_found code facts P (cell_by (item_of code)) a (is_usable S.known.depth fact) refl types.0 there.0 in
      let u = reg_value code s.world S.known.regs f.registers i t.Int (fits_here code facts P) types.1 there.1 in
      let N = swap_found code facts P c w.cell to v K w.cell_is e g after in
      let fz = item_lawful code facts cert w.kind w.cell w.cell_of in
      let d = swap_depths S.known.depth S.known.regs c w.cell to v K w.cell_is q in
      let parts = and_parts K.types (has w.cell (fact_of S.known.regs v)) (subst (λ c. (swaps S.known.depth S.known.regs c to v K).kept.types ≡ true) w.cell_is e) in
      comes_back on to v w.cell N.took_it.value _ N.after_is fz N.took_it.has.shape
      (swap_element_own_next code last f below s x.fits.home (hs code facts P x) ms x.fits.fits to a i v w.name at u.0 N.took_it.value (owner_marked code facts cert last P x a w.kind w.via d.0)
      (stored w.cell v N.took_it.value parts.1 (swap_there S.known.depth S.known.regs c w.cell to v K w.cell_is g) d.1 fz N.took_it.has.shape) w.is u.1 N.took_it.is)

  pub swaps_element_found : goes_on instr ≡ true → (to a i v : ℕ) (at : Spot)
      → (swaps S.known.depth S.known.regs (cell_by (item_of code) (reference_kind (fact_of S.known.regs a))) to v (reads S.known.regs i t.Int (leads_as_reference (item_of code) S.known.depth (fact_of S.known.regs a)))).kept.types ≡ true
      → (swaps S.known.depth S.known.regs (cell_by (item_of code) (reference_kind (fact_of S.known.regs a))) to v (reads S.known.regs i t.Int (leads_as_reference (item_of code) S.known.depth (fact_of S.known.regs a)))).kept.present ≡ true
      → (swaps S.known.depth S.known.regs (cell_by (item_of code) (reference_kind (fact_of S.known.regs a))) to v (reads S.known.regs i t.Int (leads_as_reference (item_of code) S.known.depth (fact_of S.known.regs a)))).kept.depths ≡ true
      → (row code facts P).after ≡ (swaps S.known.depth S.known.regs (cell_by (item_of code) (reference_kind (fact_of S.known.regs a))) to v (reads S.known.regs i t.Int (leads_as_reference (item_of code) S.known.depth (fact_of S.known.regs a)))).after
      → RegionsNext code facts (with_value (read f.registers a) s (λ w. with_value (read f.registers i) s (λ u. with_value (read f.registers v) s (λ new. answered f (Some to) (kept v new f.registers) at below s (swap_element w u new s)))))
  swaps_element_found on to a i v at e g q after =
      let fact = fact_of S.known.regs a in
      let L = leads_as_reference (item_of code) S.known.depth fact in
      let K = reads S.known.regs i t.Int L in
      let c = cell_by (item_of code) (reference_kind fact) in
      let types = and_parts L.types (has t.Int (fact_of S.known.regs i)) (swap_types code facts P c to v K e) in
      let there = and_parts L.present (is_there (fact_of S.known.regs i)) (swap_present code facts P c to v K g) in
      let w = read_found code facts P reference_kind (cell_by (item_of code)) a (is_usable S.known.depth fact) follows_reference refl types.0 there.0 in
      let u = reg_value code s.world S.known.regs f.registers i t.Int (fits_here code facts P) types.1 there.1 in
      let N = swap_found code facts P c w.cell to v K w.cell_is e g after in
      let fz = item_lawful code facts cert w.kind w.cell w.cell_of in
      let d = swap_depths S.known.depth S.known.regs c w.cell to v K w.cell_is q in
      let parts = and_parts K.types (has w.cell (fact_of S.known.regs v)) (subst (λ c. (swaps S.known.depth S.known.regs c to v K).kept.types ≡ true) w.cell_is e) in
      comes_back on to v w.cell N.took_it.value _ N.after_is fz N.took_it.has.shape
      (swap_element_next code last f below s x.fits.home (hs code facts P x) ms x.fits.fits to a i v at w.value u.0 N.took_it.value (reference_mark code facts cert last P x a w.kind w.via_kind d.0) (no_iso_here a w.kind w.value w.via_kind w.reads)
      (stored w.cell v N.took_it.value parts.1 (swap_there S.known.depth S.known.regs c w.cell to v K w.cell_is g) d.1 fz N.took_it.has.shape) w.reads u.1 N.took_it.is)

  pub pushes_it : goes_on instr ≡ true → (a v : ℕ) (at : Spot)
      → (pushes S.known.depth S.known.regs (cell_by (item_of code) (reference_kind (fact_of S.known.regs a))) v (leads_as_reference (item_of code) S.known.depth (fact_of S.known.regs a))).kept.types ≡ true
      → (pushes S.known.depth S.known.regs (cell_by (item_of code) (reference_kind (fact_of S.known.regs a))) v (leads_as_reference (item_of code) S.known.depth (fact_of S.known.regs a))).kept.present ≡ true
      → (pushes S.known.depth S.known.regs (cell_by (item_of code) (reference_kind (fact_of S.known.regs a))) v (leads_as_reference (item_of code) S.known.depth (fact_of S.known.regs a))).kept.depths ≡ true
      → (row code facts P).after ≡ (pushes S.known.depth S.known.regs (cell_by (item_of code) (reference_kind (fact_of S.known.regs a))) v (leads_as_reference (item_of code) S.known.depth (fact_of S.known.regs a))).after
      → RegionsNext code facts (with_value (read f.registers a) s (λ u. with_value (read f.registers v) s (λ new. answered f None (kept v new f.registers) at below s (push u new s))))
  pushes_it on a v at e g q after =
      let fact = fact_of S.known.regs a in
      let L = leads_as_reference (item_of code) S.known.depth fact in
      let c = cell_by (item_of code) (reference_kind fact) in
      let ok = fill_parts code facts P c v L e g in
      let w = read_found code facts P reference_kind (cell_by (item_of code)) a (is_usable S.known.depth fact) follows_reference refl ok.0 ok.1 in
      let fz = item_lawful code facts cert w.kind w.cell w.cell_of in
      let d = push_depths S.known.depth S.known.regs c w.cell v L w.cell_is q in
      let typed = (and_parts L.types (has w.cell (fact_of S.known.regs v)) (subst (λ c. (pushes S.known.depth S.known.regs c v L).kept.types ≡ true) w.cell_is e)).1 in
      let there = push_there S.known.depth S.known.regs c w.cell v L w.cell_is g in
      let n = took code s.world w.cell S.known.regs v f.registers (fits_here code facts P) typed there in
      goes code facts P x on (taken v n.value ms) _ (taken_under s.regions s.regions v n.value ms x.fits.stack.0)
      (subst (λ K. Told b K (taken v n.value ms)) (sym (after ∙ ap (λ c. (pushes S.known.depth S.known.regs c v L).after) w.cell_is)) (told_taken b S.known.regs ms v w.cell n.value n.has.shape told))
      (push_next code last f below s x.fits.home (hs code facts P x) ms x.fits.fits a v at w.value n.value (reference_mark code facts cert last P x a w.kind w.via_kind d.0) (no_iso_here a w.kind w.value w.via_kind w.reads)
      (stored w.cell v n.value typed there d.1 fz n.has.shape) w.reads n.is)

  pub pops_it : goes_on instr ≡ true → (to a : ℕ) (at : Spot)
      → (pops S.known.depth S.known.regs (cell_by (item_of code) (reference_kind (fact_of S.known.regs a))) to (leads_as_reference (item_of code) S.known.depth (fact_of S.known.regs a))).kept.types ≡ true
      → (pops S.known.depth S.known.regs (cell_by (item_of code) (reference_kind (fact_of S.known.regs a))) to (leads_as_reference (item_of code) S.known.depth (fact_of S.known.regs a))).kept.present ≡ true
      → (pops S.known.depth S.known.regs (cell_by (item_of code) (reference_kind (fact_of S.known.regs a))) to (leads_as_reference (item_of code) S.known.depth (fact_of S.known.regs a))).kept.depths ≡ true
      → (row code facts P).after ≡ (pops S.known.depth S.known.regs (cell_by (item_of code) (reference_kind (fact_of S.known.regs a))) to (leads_as_reference (item_of code) S.known.depth (fact_of S.known.regs a))).after
      → RegionsNext code facts (with_value (read f.registers a) s (λ v. answered f (Some to) f.registers at below s (pop v s)))
  pops_it on to a at e g q after =
      let fact = fact_of S.known.regs a in
      let L = leads_as_reference (item_of code) S.known.depth fact in
      let c = cell_by (item_of code) (reference_kind fact) in
      let ok = back_parts code facts P c to L e g in
      let w = read_found code facts P reference_kind (cell_by (item_of code)) a (is_usable S.known.depth fact) follows_reference refl ok.0 ok.1 in
      let fz = item_lawful code facts cert w.kind w.cell w.cell_of in
      let d = pop_depths S.known.depth S.known.regs c w.cell to L w.cell_is q in
      gets_held code facts last P x on S.known.regs ms told x.fits.stack.0 to w.cell false _ (after ∙ ap (λ c. (pops S.known.depth S.known.regs c to L).after) w.cell_is) fz
      (pop_next code last f below s x.fits.home (hs code facts P x) ms x.fits.fits to a at w.value (reference_mark code facts cert last P x a w.kind w.via_kind d) (no_iso_here a w.kind w.value w.via_kind w.reads) w.reads)
